use Rattle.cc_state_reads.specs.CcStateOperators.Domains.{domain}
use Rattle.cc_state_shaped.specs.Parts.{HavePoints}
use Rattle.cc_state_shaped.proofs.Tests.{both, not_first}
use Rattle.cc_state_shaped.proofs.shape.have_values.Goals as goal

pub returns-then-have_sets : goal.returns-then-have_sets
returns-then-have_sets g c = both c.have_sets.result c.have_points.result c.have_sets.ensures c.if-have_sets.true c.have_points.ensures

pub returns-else-have_sets : goal.returns-else-have_sets
returns-else-have_sets g c =
    let d = domain g.I.Concrete.Has g.I.Lattice.IsBelow g.I.IntDomain.OpGives g.I.IntDomain.OpOneGives g.I.IntDomain.ToGives g.I.IntDomain.KeepGives g.I.IntDomain.members_of in
    let p = c.args.layout.now.program.now in
    not_first {B = HavePoints d p c.args.facts.now} c.have_sets.result c.have_sets.ensures c.if-have_sets.false
