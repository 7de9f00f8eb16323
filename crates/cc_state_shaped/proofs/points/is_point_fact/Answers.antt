use Rattle.std.proofs.Common.{length, ap}
use Rattle.cc_state_reads.specs.CcStateOperators.Domains.{domain}
use Rattle.cc_state_shaped.proofs.Known.{as_point}
use Rattle.cc_state_shaped.proofs.points.is_point_fact.Goals as goal

pub returns : goal.returns
returns g c =
    let d = domain g.I.Concrete.Has g.I.Lattice.IsBelow g.I.IntDomain.OpGives g.I.IntDomain.OpOneGives g.I.IntDomain.ToGives g.I.IntDomain.KeepGives g.I.IntDomain.members_of in
    as_point d c.args.layout.now.program.now c.args.f.now c.args.fact.now (length c.args.registers.now) (length c.args.layout.now.tracked) c.has_parts.result (ap length c.requires.registers) (ap length c.requires.layout.tracked) c.has_parts.ensures
