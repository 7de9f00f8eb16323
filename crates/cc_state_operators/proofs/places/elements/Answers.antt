-- The addresses of the elements, or all addresses in their places.
use Rattle.std.proofs.lemmas.Result.{IfOk-weaker}
use Rattle.cc_eval.specs.CcTyped.View.{place_view}
use Rattle.cc_state_operators.specs.Addresses.{IsElement}
use Rattle.cc_state_operators.proofs.Sets.{stepped_exactly, stepped_in_places}
use Rattle.cc_state_operators.proofs.places.elements.Goals as goal

pub returns-then-s : goal.returns-then-s
returns-then-s g c =
    stepped_exactly (IsElement c.args.p.now (place_view c.args.t) (g.I.Concrete.Has c.args.subscripts.now)) c.args.s.now c.in_ok-all.all c.all.result.now c.if-s.true c.all.ensures c.in_ok-all.ensures

pub returns-else-s : goal.returns-else-s
returns-else-s g c =
    IfOk-weaker c.in_places.result _ _
    (λ r h. stepped_in_places (IsElement c.args.p.now (place_view c.args.t) (g.I.Concrete.Has c.args.subscripts.now)) c.args.s.now c.in_ok-all.all r c.all.result.now c.if-s.false c.all.ensures c.in_ok-all.ensures h)
    c.in_places.ensures
