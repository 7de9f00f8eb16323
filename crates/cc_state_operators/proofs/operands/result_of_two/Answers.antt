-- A domain keeps to the type of an operator.
use Rattle.cc_state_operators.specs.Domains.{domain}
use Rattle.cc_state_operators.proofs.ByKind.{two_operands, two_typed}
use Rattle.cc_state_operators.proofs.operands.result_of_two.Goals as goal

pub returns-in-Operator-clause-typed : goal.returns-in-Operator-clause-typed
returns-in-Operator-clause-typed g c =
    let d = domain g.I.Concrete.Has g.I.Lattice.IsBelow g.I.IntDomain.OpGives g.I.IntDomain.OpOneGives g.I.IntDomain.ToGives g.I.IntDomain.KeepGives g.I.IntDomain.members_of in
    two_typed d c.args.target.now c.args.kind c.in-Operator.op c.in-Operator.t c.op.result c.in-Operator.is
    (g.met.I.IntDomain.op_typed c.in-Operator.op c.integers.result.now c.integers-in-Operator.result.now c.op.result c.in-Operator.t c.args.target.now
    (two_operands d c.args.target.now c.args.kind c.args.x.now c.args.w.now c.requires c.in-Operator.op c.in-Operator.t c.integers.result.now c.integers-in-Operator.result.now c.in-Operator.is c.integers.ensures c.integers-in-Operator.ensures)
    c.op.ensures)
