-- A domain keeps to the types of operators and conversions.
use Rattle.cc_state_operators.specs.Domains.{domain}
use Rattle.cc_state_operators.proofs.ByKind.{one_fits, one_typed, conversion_typed}
use Rattle.cc_state_operators.proofs.operands.result_of_one.Goals as goal

pub returns-in-Operator-clause-typed : goal.returns-in-Operator-clause-typed
returns-in-Operator-clause-typed g c =
    let d = domain g.I.Concrete.Has g.I.Lattice.IsBelow g.I.IntDomain.OpGives g.I.IntDomain.OpOneGives g.I.IntDomain.ToGives g.I.IntDomain.KeepGives g.I.IntDomain.members_of in
    one_typed d c.args.target.now c.args.kind c.in-Operator.op c.in-Operator.t c.op_one.result c.in-Operator.is
    (g.met.I.IntDomain.op_one_typed _ _ _ _ _ (one_fits d c.args.target.now c.args.kind c.args.x.now c.in-Ints.numbers c.in-Ints.is c.in-Operator.op c.in-Operator.t c.in-Operator.is c.requires) c.op_one.ensures)

pub returns-in-Conversion-clause-typed : goal.returns-in-Conversion-clause-typed
returns-in-Conversion-clause-typed g c =
    let d = domain g.I.Concrete.Has g.I.Lattice.IsBelow g.I.IntDomain.OpGives g.I.IntDomain.OpOneGives g.I.IntDomain.ToGives g.I.IntDomain.KeepGives g.I.IntDomain.members_of in
    conversion_typed d c.args.target.now c.args.kind c.in-Conversion.t c.to.result c.in-Conversion.is (g.met.I.IntDomain.to_typed _ _ _ _ c.to.ensures)
