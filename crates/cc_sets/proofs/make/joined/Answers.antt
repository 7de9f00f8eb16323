-- A set that the other is below is the hull of both.
use Rattle.std.proofs.Common.{◌≡◌, ◌⊎◌, sym, subst, inl, inr, ⊎_elim}
use Rattle.cc_sets.specs.declared.vals.Vals.{Vals}
use Rattle.cc_sets.specs.Rungs.{ValsHas, ValsBelow, IsHull}
use Rattle.cc_sets.proofs.make.joined.Goals as goal

left_hull : (a b r : Vals) → r ≡ a → ValsBelow b a → IsHull (λ v. ValsHas a v ⊎ ValsHas b v) r
left_hull a b r e h = subst (λ (x : Vals). IsHull (λ v. ValsHas a v ⊎ ValsHas b v) x) (sym e)
    (record { covers = λ v. ⊎_elim (λ k. k) (λ k. h v k); least = λ x c v k. c v (inl k) })

right_hull : (a b r : Vals) → r ≡ b → ValsBelow a b → IsHull (λ v. ValsHas a v ⊎ ValsHas b v) r
right_hull a b r e h = subst (λ (x : Vals). IsHull (λ v. ValsHas a v ⊎ ValsHas b v) x) (sym e)
    (record { covers = λ v. ⊎_elim (λ k. h v k) (λ k. k); least = λ x c v k. c v (inr k) })

pub returns-then-below : goal.returns-then-below
returns-then-below c = left_hull c.args.a.now c.args.b.now c.copy.result c.copy.ensures (c.below.ensures.0 c.if-below.true)

pub returns-then-below-2 : goal.returns-then-below-2
returns-then-below-2 c = right_hull c.args.a.now c.args.b.now c.copy-then-below-2.result c.copy-then-below-2.ensures (c.below-else-below.ensures.0 c.if-below-2.true)
