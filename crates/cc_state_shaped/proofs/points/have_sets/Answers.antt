use Rattle.cc_state_reads.specs.CcStateOperators.Domains.{domain}
use Rattle.cc_state_shaped.specs.Parts.{HaveCells}
use Rattle.cc_state_shaped.proofs.Tests.{both, not_first}
use Rattle.cc_state_shaped.proofs.points.have_sets.Goals as goal

pub returns-then-have_locals : goal.returns-then-have_locals
returns-then-have_locals g c = both c.have_locals.result c.have_cells.result c.have_locals.ensures c.if-have_locals.true c.have_cells.ensures

pub returns-else-have_locals : goal.returns-else-have_locals
returns-else-have_locals g c =
    let d = domain g.I.Concrete.Has g.I.Lattice.IsBelow g.I.IntDomain.OpGives g.I.IntDomain.OpOneGives g.I.IntDomain.ToGives g.I.IntDomain.KeepGives g.I.IntDomain.members_of in
    let p = c.args.layout.now.program.now in
    not_first {B = HaveCells d p c.args.fact.now} c.have_locals.result c.have_locals.ensures c.if-have_locals.false
