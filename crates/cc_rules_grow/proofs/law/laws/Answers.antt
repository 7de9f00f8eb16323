-- The law, by the laws of the domain.
use Rattle.cc_rules.specs.CcStateOperators.Domains.{domain}
use Rattle.cc_rules_grow.proofs.Asked.{asked_had}
use Rattle.cc_rules_grow.proofs.Kept.{kept_given, abs_itself, abs_through}
use Rattle.cc_rules_grow.proofs.law.laws.Goals as goal
use Rattle.cc_rules.proofs.CcRulesNeeds.Through.{facts_itself}
use Rattle.cc_rules.proofs.CcStateValues.Same.{order_of}
use Rattle.cc_state_points.proofs.CcStateValuesGrow.Images.{order_given}

pub returns : goal.returns
returns g c =
    let l = g.met.I.Lattice in
    let i = g.met.I.IntDomain in
    let d = domain g.I.Concrete.Has g.I.Lattice.IsBelow g.I.IntDomain.OpGives g.I.IntDomain.OpOneGives g.I.IntDomain.ToGives g.I.IntDomain.KeepGives g.I.IntDomain.members_of in
    let ordered = order_of d g.I.Lattice.AreAlike i.all_alike l.below_itself l.below_both_ways i.op_grows i.op_one_grows i.to_grows i.members_below in
    let order = order_given d g.I.Lattice.AreAlike i.all_alike l.below_through i.below_has in
    let kept =
    kept_given d g.I.Lattice.AreAlike g.I.IntDomain.bounds_of i.all_alike l.below_itself l.below_through i.below_has i.members_below i.keep_has i.keep_below i.keep_grows i.comparison_told i.to_kept i.least_alone i.below_explicit i.members_all i.bounds_none i.bounds_ends in
    let had = asked_had d ordered order kept in
    record {
      asked = λ p normal facts others shape other_shape less c worked ns ms asked more h has. had p normal facts others shape other_shape less c worked ns asked ms more h has;
      determined = λ p normal facts shape c worked ns ms asked again h has. had p normal facts facts shape shape (facts_itself d.below (abs_itself d kept) (abs_through d kept) facts) c worked ns asked ms again h has;
      grows = λ p normal facts others shape other_shape less c worked ns asked asks. had p normal facts others shape other_shape less c worked ns asked asks.0 asks.1 others asks.2;
      solutions = λ p normal facts others shape other_shape less solution c listed worked ns asked. (let asks = solution c listed in had p normal facts others shape other_shape less c worked ns asked asks.0 asks.1 others asks.2);
    }
