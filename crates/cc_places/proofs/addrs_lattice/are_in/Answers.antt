-- The set has every address so far; at the end these are all.
use Rattle.std.proofs.Common.{◌≡◌, false, true, refl, sym, ◌∙◌, subst, ⊎_elim, arith}
use Rattle.std.specs.List.{Contains}
use Rattle.cc_places.specs.Sets.{HasAddress}
use Rattle.cc_places.specs.laws.ListLaws.{none_in, taken_cases, all_taken, item_in}
use Rattle.cc_places.proofs.addrs_lattice.are_in.Goals as goal

not_both : {A : Type 0} → true ≡ false → A
not_both e = cc

pub loop-member-init : goal.loop-member-init
loop-member-init c = λ m k. absurd (none_in m k)

pub loop-member-preserved : goal.loop-member-preserved
loop-member-preserved c = λ m k. ⊎_elim (c.loop-member.invariant m)
    (λ e. subst (λ a. HasAddress c.args.set.now a) e (c.has.ensures.0 c.if-not-has.false))
    (taken_cases c.args.members.now c.loop-member.member-index c.member-item.result m (omega (arith, c.loop-member-test.true)) c.member-item.is k)

pub returns-then-not-has : goal.returns-then-not-has
returns-then-not-has c = (
  (λ e. not_both (sym e)),
  (λ h. not_both (sym (c.has.ensures.1 (h c.member-item.result (item_in c.args.members.now c.loop-member.member-index c.member-item.result (omega (arith, c.loop-member-test.true)) c.member-item.is))) ∙ c.if-not-has.true)),
)

pub returns : goal.returns
returns c = (
  (λ e m k. c.loop-member.invariant m (subst (λ l. Contains l m) (sym (all_taken c.args.members.now c.loop-member.member-index (omega (arith, c.loop-member-test.false)))) k)),
  (λ h. refl),
)
