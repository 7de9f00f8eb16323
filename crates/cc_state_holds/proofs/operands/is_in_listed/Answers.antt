-- By the key at the position.
use Rattle.cc_state_holds.proofs.Positions.{none_listed, one_listed}
use Rattle.cc_state_holds.proofs.operands.is_in_listed.Goals as goal
use Rattle.cc_state_reads.specs.CcStateOperators.Domains.{domain}

pub returns-in-None : goal.returns-in-None
returns-in-None g c = λ n e. none_listed (domain g.I.Concrete.Has g.I.Lattice.IsBelow g.I.IntDomain.OpGives g.I.IntDomain.OpOneGives g.I.IntDomain.ToGives g.I.IntDomain.KeepGives g.I.IntDomain.members_of) c.args.b.now.program.now c.args.b.now.facts.now n c.args.value.now c.args.keys.now (c.in-None.ensures n e)

pub returns-in-Some : goal.returns-in-Some
returns-in-Some g c = λ n e.
    one_listed (domain g.I.Concrete.Has g.I.Lattice.IsBelow g.I.IntDomain.OpGives g.I.IntDomain.OpOneGives g.I.IntDomain.ToGives g.I.IntDomain.KeepGives g.I.IntDomain.members_of) c.args.b.now.program.now c.args.b.now.facts.now n c.args.value.now c.args.keys.now c.in-Some.key.now c.is_scalar_in.result (c.in-Some.ensures n e) c.is_scalar_in.ensures
