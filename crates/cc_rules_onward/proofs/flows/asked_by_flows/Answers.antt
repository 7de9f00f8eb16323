use Rattle.cc_state_points.specs.CcRulesFlows.View.{act_view}
use Rattle.cc_rules_onward.proofs.Untested.{none_worked, tests_none}
use Rattle.cc_rules_onward.proofs.flows.asked_by_flows.Goals as goal
use Rattle.cc_state_points.specs.CcStateOperators.Domains.{domain}

pub asked_by_if-requires : goal.asked_by_if-requires
asked_by_if-requires g c = let fits = rw c.in-Tests.is at c.requires.tests in record { here = c.requires.here; may = fits.0; fits = fits.1 }

pub asked_by_switch-requires : goal.asked_by_switch-requires
asked_by_switch-requires g c = let fits = rw c.in-Chooses.is at c.requires.tests in record { here = c.requires.here; may = fits.0; fits = fits.1 }

pub asked_by_flow-requires : goal.asked_by_flow-requires
asked_by_flow-requires g c = record { here = c.requires.here; may = c.requires.may; tests_none = tests_none c.args.act c.args.here.now.number c.args.here.now.point.now.next c.in_default.not-Tests c.in_default.not-Chooses }

pub returns-in-Tests : goal.returns-in-Tests
returns-in-Tests g c = rw c.in-Tests.is c.asked_by_if.ensures

pub returns-in-Chooses : goal.returns-in-Chooses
returns-in-Chooses g c = rw c.in-Chooses.is c.asked_by_switch.ensures

pub returns-in_default : goal.returns-in_default
returns-in_default g c =
    record {
      asked = c.asked_by_flow.ensures.asked;
      worked = none_worked (domain g.I.Concrete.Has g.I.Lattice.IsBelow g.I.IntDomain.OpGives g.I.IntDomain.OpOneGives g.I.IntDomain.ToGives g.I.IntDomain.KeepGives g.I.IntDomain.members_of) c.args.here.now (act_view c.args.act) c.asked_by_flow.result
          (tests_none c.args.act c.args.here.now.number c.args.here.now.point.now.next c.in_default.not-Tests c.in_default.not-Chooses);
      onward = c.asked_by_flow.ensures.onward;
    }
