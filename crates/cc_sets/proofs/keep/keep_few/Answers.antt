-- The hull of the members that pass.
use Rattle.std.proofs.Common.{◌≡◌, ℤ, List, refl, subst}
use Rattle.std.specs.List.{Contains}
use Rattle.cc_num.specs.declared.op.BinOp.{BinOp}
use Rattle.cc_sets.specs.declared.gathered.Gathered.{Gathered}
use Rattle.cc_sets.specs.declared.vals.Vals.{Vals}
use Rattle.cc_sets.specs.Results.{PassesSome}
use Rattle.cc_sets.specs.Gatherings.{Adds}
use Rattle.cc_sets.proofs.Adding.{adds_same, hull_of_added}
use Rattle.cc_sets.proofs.keep.keep_few.Goals as goal

passing : (g h : Gathered) (test : BinOp) (other : Vals) (xs ys : List ℤ) → ys ≡ xs → Adds g h (λ z. (v : ℤ) × Contains ys v × ((v ≡ z) × PassesSome test v other)) → Adds g h (λ v. Contains xs v × PassesSome test v other)
passing g h test other xs ys e p = adds_same g h (λ z. (v : ℤ) × Contains xs v × ((v ≡ z) × PassesSome test v other)) (λ v. Contains xs v × PassesSome test v other)
    (subst (λ (zs : List ℤ). Adds g h (λ z. (v : ℤ) × Contains zs v × ((v ≡ z) × PassesSome test v other))) e p)
    (λ z k. let m = k.2 in (subst (Contains xs) m.0 k.1, subst (λ (v : ℤ). PassesSome test v other) m.0 m.1))
    (λ z k. (z, k.0, (refl, k.1)))

pub returns : goal.returns
returns c = hull_of_added c.nothing-gathered.result c.add_passing.new.self (λ v. Contains c.args.a.now.items.items v × PassesSome c.args.test v c.args.other.now) c.hull.result c.nothing-gathered.ensures
    (passing c.nothing-gathered.result c.add_passing.new.self c.args.test c.args.other.now c.args.a.now.items.items c.members.result.now c.members.ensures c.add_passing.ensures) c.hull.ensures.covers c.hull.ensures.least
