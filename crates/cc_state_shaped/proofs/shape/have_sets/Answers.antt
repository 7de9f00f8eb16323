use Rattle.cc_state_reads.specs.CcStateOperators.Domains.{domain}
use Rattle.cc_state_shaped.specs.Parts.{HaveResultSets}
use Rattle.cc_state_shaped.proofs.Tests.{both, not_first}
use Rattle.cc_state_shaped.proofs.shape.have_sets.Goals as goal

pub returns-then-have_key_sets : goal.returns-then-have_key_sets
returns-then-have_key_sets g c = both c.have_key_sets.result c.have_result_sets.result c.have_key_sets.ensures c.if-have_key_sets.true c.have_result_sets.ensures

pub returns-else-have_key_sets : goal.returns-else-have_key_sets
returns-else-have_key_sets g c =
    let d = domain g.I.Concrete.Has g.I.Lattice.IsBelow g.I.IntDomain.OpGives g.I.IntDomain.OpOneGives g.I.IntDomain.ToGives g.I.IntDomain.KeepGives g.I.IntDomain.members_of in
    let p = c.args.layout.now.program.now in
    not_first {B = HaveResultSets d p c.args.facts.now} c.have_key_sets.result c.have_key_sets.ensures c.if-have_key_sets.false
