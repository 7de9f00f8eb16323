-- The addresses of the members, or all addresses in their places.
use Rattle.std.proofs.Common.{◌≡◌, Some}
use Rattle.std.proofs.lemmas.Result.{IfOk-weaker}
use Rattle.cc_eval.specs.CcTyped.View.{place_view}
use Rattle.cc_program.specs.declared.value.Address.{Address}
use Rattle.cc_state_operators.specs.Addresses.{member_address}
use Rattle.cc_state_operators.proofs.Sets.{stepped_exactly, stepped_in_places}
use Rattle.cc_state_operators.proofs.places.members.Goals as goal

pub returns-then-s : goal.returns-then-s
returns-then-s c =
    stepped_exactly (λ (a b : Address). member_address c.args.p.now (place_view c.args.t) c.args.m a ≡ Some b) c.args.s.now c.in_ok-all.all c.all.result.now c.if-s.true c.all.ensures c.in_ok-all.ensures

pub returns-else-s : goal.returns-else-s
returns-else-s c =
    IfOk-weaker c.in_places.result _ _
    (λ r h. stepped_in_places (λ (a b : Address). member_address c.args.p.now (place_view c.args.t) c.args.m a ≡ Some b) c.args.s.now c.in_ok-all.all r c.all.result.now c.if-s.false c.all.ensures c.in_ok-all.ensures h)
    c.in_places.ensures
