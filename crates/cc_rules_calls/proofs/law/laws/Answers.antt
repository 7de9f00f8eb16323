use Rattle.cc_rules_calls.proofs.Premises.{calls_here, gets_here}
use Rattle.cc_rules_calls.proofs.law.laws.Goals as goal
use Rattle.cc_state_points.specs.CcStateOperators.Domains.{domain}

pub returns : goal.returns
returns g c =
    let d = domain g.I.Concrete.Has g.I.Lattice.IsBelow g.I.IntDomain.OpGives g.I.IntDomain.OpOneGives g.I.IntDomain.ToGives g.I.IntDomain.KeepGives g.I.IntDomain.members_of in
    record {
      calls = λ here normal shape h is. calls_here d here normal shape is h;
      results = λ here normal shape is functions are h f at. gets_here d here normal shape is functions are h f at;
    }
