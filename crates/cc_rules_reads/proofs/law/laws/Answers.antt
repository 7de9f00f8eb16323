-- The law, of the domain.
use Rattle.cc_rules_reads.proofs.Asked.{asked_same}
use Rattle.cc_rules_reads.proofs.law.laws.Goals as goal
use Rattle.cc_rules.specs.CcStateOperators.Domains.{domain}

pub returns : goal.returns
returns g c =
    let d = domain g.I.Concrete.Has g.I.Lattice.IsBelow g.I.IntDomain.OpGives g.I.IntDomain.OpOneGives g.I.IntDomain.ToGives g.I.IntDomain.KeepGives g.I.IntDomain.members_of in
    record { asked = λ p facts others c ns alike h. asked_same d p facts others c ns alike h }
