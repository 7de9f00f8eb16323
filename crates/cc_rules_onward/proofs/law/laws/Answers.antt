use Rattle.cc_rules_onward.proofs.FitLemmas.{fit_tests}
use Rattle.cc_state_points.specs.CcStateOperators.Domains.{domain}
use Rattle.cc_rules_onward.proofs.law.laws.Goals as goal

pub returns : goal.returns
returns g c =
    let d = domain g.I.Concrete.Has g.I.Lattice.IsBelow g.I.IntDomain.OpGives g.I.IntDomain.OpOneGives g.I.IntDomain.ToGives g.I.IntDomain.KeepGives g.I.IntDomain.members_of in
    record { tests = λ here normal shape few known point. fit_tests d here normal shape few known point }
