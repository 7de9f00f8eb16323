-- The first set that is emptied.
use Rattle.std.proofs.Common.{◌≡◌, ◌<◌, ℕ, Some, true, false, length, slice_get, arith, below_more, refl, ap, sym, ◌∙◌}
use Rattle.std.proofs.lemmas.Option.{same_Some, slice_get-get_or, slice_get_within}
use Rattle.cc_rules_flows.specs.CcPlaces.declared.abs.Abs.{Abs}
use Rattle.cc_rules_sides.specs.Refined.{IsEmptied}
use Rattle.cc_rules_sides.proofs.Emptied.{not_emptied}
use Rattle.cc_rules_flows.specs.CcStateOperators.Domains.{domain}
use Rattle.cc_rules_sides.proofs.locals.is_one_emptied.Goals as goal

pub loop-number-init : goal.loop-number-init
loop-number-init g c = λ k l. absurd (omega (arith, l))

pub is_emptied-requires : goal.is_emptied-requires
is_emptied-requires g c =
    let sets = c.args.sets.now in
    let left = c.args.left.now in
    let i = c.loop-number.number in
    let there = c.loop-number-test.true in
    let each = c.requires.each in
    let within : i < length left = omega (arith, there, each) in
    c.requires.kinds i c.get-set.result.now c.get-rest.result.now (slice_get-get_or sets i c.index-sets-number.result there ∙ ap Some (sym (c.get-set.ensures ∙ c.index-sets-number.is))) (slice_get-get_or left i c.index-left-number.result within ∙ ap Some (sym (c.get-rest.ensures ∙ c.index-left-number.is)))

pub returns-then-is_emptied : goal.returns-then-is_emptied
returns-then-is_emptied g c =
    let sets = c.args.sets.now in
    let left = c.args.left.now in
    let i = c.loop-number.number in
    let there = c.loop-number-test.true in
    let each = c.requires.each in
    let within : i < length left = omega (arith, there, each) in
    let y = c.get-set.result.now in
    let z = c.get-rest.result.now in
    let first = slice_get-get_or sets i c.index-sets-number.result there ∙ ap Some (sym (c.get-set.ensures ∙ c.index-sets-number.is)) in
    let second = slice_get-get_or left i c.index-left-number.result within ∙ ap Some (sym (c.get-rest.ensures ∙ c.index-left-number.is)) in
    ((λ h. (i, y, z, first, second, c.is_emptied.ensures.0 c.if-is_emptied.true)), (λ h. refl))

pub loop-number-preserved : goal.loop-number-preserved
loop-number-preserved g c =
    let d = (domain g.I.Concrete.Has g.I.Lattice.IsBelow g.I.IntDomain.OpGives g.I.IntDomain.OpOneGives g.I.IntDomain.ToGives g.I.IntDomain.KeepGives g.I.IntDomain.members_of) in
    let sets = c.args.sets.now in
    let left = c.args.left.now in
    let i = c.loop-number.number in
    let there = c.loop-number-test.true in
    let each = c.requires.each in
    let within : i < length left = omega (arith, there, each) in
    let y = c.get-set.result.now in
    let z = c.get-rest.result.now in
    let first = slice_get-get_or sets i c.index-sets-number.result there ∙ ap Some (sym (c.get-set.ensures ∙ c.index-sets-number.is)) in
    let second = slice_get-get_or left i c.index-left-number.result within ∙ ap Some (sym (c.get-rest.ensures ∙ c.index-left-number.is)) in
    below_more (λ k. (y z : Abs g.row.I.Denot) → slice_get sets k ≡ Some y → slice_get left k ≡ Some z → IsEmptied d y z → ⊥) i c.loop-number.invariant
    (λ u v a b e. not_emptied d y z u v c.is_emptied.result c.is_emptied.ensures c.if-is_emptied.false (same_Some y u (sym first ∙ a)) (same_Some z v (sym second ∙ b)) e)

pub returns : goal.returns
returns g c = (
  (λ h. let e : false ≡ true = h in absurd (cc)),
  (λ h.
      let l = slice_get_within c.args.sets.now h.0 h.1 h.3 in
      let end = c.loop-number-test.false in
      absurd (c.loop-number.invariant h.0 (omega (arith, l, end)) h.1 h.2 h.3 h.4 h.5)),
)
