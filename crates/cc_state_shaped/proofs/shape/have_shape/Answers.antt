use Rattle.cc_state_reads.specs.CcStateOperators.Domains.{domain}
use Rattle.cc_state_shaped.proofs.Known.{as_shape}
use Rattle.cc_state_shaped.proofs.shape.have_shape.Goals as goal

pub returns : goal.returns
returns g c =
    let d = domain g.I.Concrete.Has g.I.Lattice.IsBelow g.I.IntDomain.OpGives g.I.IntDomain.OpOneGives g.I.IntDomain.ToGives g.I.IntDomain.KeepGives g.I.IntDomain.members_of in
    as_shape d c.args.layout.now.program.now c.args.facts.now c.args.layout.now.keys c.have_parts.result c.requires.keys c.have_parts.ensures
