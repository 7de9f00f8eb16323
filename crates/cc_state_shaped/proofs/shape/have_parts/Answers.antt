use Rattle.cc_state_reads.specs.CcStateOperators.Domains.{domain}
use Rattle.cc_state_shaped.specs.Parts.{HaveKeySets, HaveResultSets, HavePoints}
use Rattle.cc_state_shaped.proofs.Tests.{both, not_first}
use Rattle.cc_state_shaped.proofs.shape.have_parts.Goals as goal

pub returns-then-have_keys : goal.returns-then-have_keys
returns-then-have_keys g c = both c.have_keys.result c.have_values.result c.have_keys.ensures c.if-have_keys.true c.have_values.ensures

pub returns-else-have_keys : goal.returns-else-have_keys
returns-else-have_keys g c =
    let d = domain g.I.Concrete.Has g.I.Lattice.IsBelow g.I.IntDomain.OpGives g.I.IntDomain.OpOneGives g.I.IntDomain.ToGives g.I.IntDomain.KeepGives g.I.IntDomain.members_of in
    let p = c.args.layout.now.program.now in
    not_first {B = (HaveKeySets d p c.args.facts.now × HaveResultSets d p c.args.facts.now) × HavePoints d p c.args.facts.now} c.have_keys.result c.have_keys.ensures c.if-have_keys.false
