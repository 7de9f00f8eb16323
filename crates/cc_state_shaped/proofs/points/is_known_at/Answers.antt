use Rattle.std.proofs.Common.{◌↔◌, IsTrue, Option, sym, subst}
use Rattle.cc_state_reads.specs.CcStateFacts.declared.facts.PointFact.{PointFact}
use Rattle.cc_state_reads.specs.CcStateOperators.Domains.{domain}
use Rattle.cc_state_shaped.specs.Parts.{IsKnownAt}
use Rattle.cc_state_shaped.proofs.points.is_known_at.Goals as goal

pub returns-in-Some : goal.returns-in-Some
returns-in-Some g c =
    let d = domain g.I.Concrete.Has g.I.Lattice.IsBelow g.I.IntDomain.OpGives g.I.IntDomain.OpOneGives g.I.IntDomain.ToGives g.I.IntDomain.KeepGives g.I.IntDomain.members_of in
    subst (λ (o : Option (PointFact g.row.I.Denot)). IsTrue c.is_fact_at.result ↔ IsKnownAt d c.args.layout.now.program.now c.args.number o) (sym c.in-Some.is) c.is_fact_at.ensures
