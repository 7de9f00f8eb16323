-- No member so far is the one; at the end these are all.
use Rattle.std.proofs.Common.{◌≡◌, false, true, refl, sym, ◌∙◌, subst, ⊎_elim, arith}
use Rattle.std.specs.List.{Contains}
use Rattle.cc_places.specs.Kept.{member_for}
use Rattle.cc_places.specs.laws.ListLaws.{none_in, same_in, taken_cases, all_taken, item_in}
use Rattle.cc_places.proofs.members.contains.Goals as goal

not_both : {A : Type 0} → true ≡ false → A
not_both e = cc

pub loop-member-init : goal.loop-member-init
loop-member-init c = λ k. none_in _ k

pub loop-member-preserved : goal.loop-member-preserved
loop-member-preserved c = λ k. ⊎_elim c.loop-member.invariant
    (λ e. not_both (sym (c.is_member_for.ensures.1 e) ∙ c.if-is_member_for.false))
    (taken_cases c.args.members.now c.loop-member.member-index c.member-item.result (member_for c.args.is_exact c.args.a.now) (omega (arith, c.loop-member-test.true)) c.member-item.is k)

pub returns-then-is_member_for : goal.returns-then-is_member_for
returns-then-is_member_for c = (
  (λ e. same_in c.args.members.now c.member-item.result (member_for c.args.is_exact c.args.a.now) (c.is_member_for.ensures.0 c.if-is_member_for.true)
      (item_in c.args.members.now c.loop-member.member-index c.member-item.result (omega (arith, c.loop-member-test.true)) c.member-item.is)),
  (λ h. refl),
)

pub returns : goal.returns
returns c = (
  (λ e. not_both (sym e)),
  (λ k. absurd (c.loop-member.invariant (subst (λ l. Contains l (member_for c.args.is_exact c.args.a.now)) (sym (all_taken c.args.members.now c.loop-member.member-index (omega (arith, c.loop-member-test.false)))) k))),
)
