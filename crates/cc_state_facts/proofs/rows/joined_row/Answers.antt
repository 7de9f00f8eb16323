-- A row that has all of the other one is their join.
use Rattle.std.proofs.Common.{◌≡◌, refl, sym, subst}
use Rattle.std.proofs.lemmas.Result.{IfOk-weaker}
use Rattle.cc_places.specs.laws.AbstractLaws.{abs_itself}
use Rattle.cc_state_facts.specs.Orders.{IsRowJoin}
use Rattle.cc_state_facts.specs.laws.OrderLaws.{row_back}
use Rattle.cc_state_facts.proofs.OneKind.{row_left, row_right}
use Rattle.cc_state_facts.proofs.rows.joined_row.Goals as goal

pub is_row_below-requires : goal.is_row_below-requires
is_row_below-requires g c = row_back c.args.row.now c.args.other.now c.requires

pub returns-then-is_row_below : goal.returns-then-is_row_below
returns-then-is_row_below g c =
    let m = g.I.Lattice in
    let x = c.args.row.now in
    let y = c.args.other.now in
    IfOk-weaker c.share.result (λ s. s ≡ x) (λ s. IsRowJoin m.IsBelow x y s)
    (λ s e. subst (λ z. IsRowJoin m.IsBelow x y z) (sym e) (row_left m.IsBelow (abs_itself m.AreAlike m.IsBelow g.met.I.Lattice.below_itself g.met.I.IntDomain.all_alike) x y c.requires (c.if-is_row_below.ensures.0 refl)))
    c.share.ensures

pub returns-then-is_row_below-2 : goal.returns-then-is_row_below-2
returns-then-is_row_below-2 g c =
    let m = g.I.Lattice in
    let x = c.args.row.now in
    let y = c.args.other.now in
    IfOk-weaker c.share-then-is_row_below-2.result (λ s. s ≡ y) (λ s. IsRowJoin m.IsBelow x y s)
    (λ s e. subst (λ z. IsRowJoin m.IsBelow x y z) (sym e) (row_right m.IsBelow (abs_itself m.AreAlike m.IsBelow g.met.I.Lattice.below_itself g.met.I.IntDomain.all_alike) x y c.requires (c.if-is_row_below-2.ensures.0 refl)))
    c.share-then-is_row_below-2.ensures
