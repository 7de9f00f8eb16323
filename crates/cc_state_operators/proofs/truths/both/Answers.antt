-- 0 and 1 by what the operands may be.
use Rattle.std.proofs.lemmas.Result.{IfOk-weaker}
use Rattle.cc_state_operators.specs.Domains.{domain}
use Rattle.cc_state_operators.proofs.Hulls.{both_truths}
use Rattle.cc_state_operators.proofs.truths.both.Goals as goal

pub returns-clause-hull : goal.returns-clause-hull
returns-clause-hull g c =
    let d = domain g.I.Concrete.Has g.I.Lattice.IsBelow g.I.IntDomain.OpGives g.I.IntDomain.OpOneGives g.I.IntDomain.ToGives g.I.IntDomain.KeepGives g.I.IntDomain.members_of in
    IfOk-weaker c.truths.result _ _
    (λ z h. both_truths d c.args.x.now c.args.w.now c.may_settle.result c.may_both_be.result z c.may_settle.ensures.0 c.may_settle.ensures.1 c.may_both_be.ensures.0 c.may_both_be.ensures.1 h)
    c.truths.ensures.hull
