-- A set that has all of the other one is their join.
use Rattle.std.proofs.Common.{◌≡◌, refl, sym, subst}
use Rattle.std.proofs.lemmas.Result.{IfOk-weaker}
use Rattle.cc_lattice.specs.Orders.{IsLeastUpperBound}
use Rattle.cc_state_facts.proofs.OneKind.{join_left, join_right}
use Rattle.cc_state_facts.proofs.shared_sets.shared_join.Goals as goal

pub is_shared_below-requires : goal.is_shared_below-requires
is_shared_below-requires g c = g.met.L.Lattice.alike_back c.args.set.now c.args.other.now c.requires

pub returns-then-is_shared_below : goal.returns-then-is_shared_below
returns-then-is_shared_below g c =
    let m = g.L.Lattice in
    let x = c.args.set.now in
    let y = c.args.other.now in
    IfOk-weaker c.share.result (λ s. s ≡ x) (λ s. IsLeastUpperBound m.AreAlike m.IsBelow x y s)
    (λ s e. subst (IsLeastUpperBound m.AreAlike m.IsBelow x y) (sym e) (join_left m.AreAlike m.IsBelow g.met.L.Lattice.alike_itself g.met.L.Lattice.alike_back g.met.L.Lattice.below_itself x y c.requires (c.if-is_shared_below.ensures.0 refl)))
    c.share.ensures

pub returns-then-is_shared_below-2 : goal.returns-then-is_shared_below-2
returns-then-is_shared_below-2 g c =
    let m = g.L.Lattice in
    let x = c.args.set.now in
    let y = c.args.other.now in
    IfOk-weaker c.share-then-is_shared_below-2.result (λ s. s ≡ y) (λ s. IsLeastUpperBound m.AreAlike m.IsBelow x y s)
    (λ s e. subst (IsLeastUpperBound m.AreAlike m.IsBelow x y) (sym e) (join_right m.AreAlike m.IsBelow g.met.L.Lattice.alike_itself g.met.L.Lattice.alike_back g.met.L.Lattice.below_itself x y c.requires (c.if-is_shared_below-2.ensures.0 refl)))
    c.share-then-is_shared_below-2.ensures
