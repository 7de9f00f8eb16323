use Rattle.std.proofs.Common.{All, ℕ, take}
use Rattle.std.specs.List.{Contains}
use Rattle.cc_rules_choices.specs.Choices.{choices_of}
use Rattle.cc_rules_choices.specs.declared.choices.Choice.{Choice}
use Rattle.cc_rules_choices.specs.Sided.{AreWorkedHere, DoFlow, IsLike}
use Rattle.cc_rules_tests.specs.Tested.{test_of}
use Rattle.cc_rules_tests.specs.Trials.{IsTrialOf}
use Rattle.cc_rules_flows.specs.CcStateFacts.declared.facts.PointFact.{PointFact}
use Rattle.cc_rules_flows.specs.CcStateOperators.Domains.{domain}
use Rattle.cc_rules_choices.proofs.sides.tested_sides.Given as goal

abbrev pub invariant-loop-choice : goal.invariant-loop-choice
invariant-loop-choice g l =
    let d = (domain g.I.Concrete.Has g.I.Lattice.IsBelow g.I.IntDomain.OpGives g.I.IntDomain.OpOneGives g.I.IntDomain.ToGives g.I.IntDomain.KeepGives g.I.IntDomain.members_of) in
    record {
      trial : IsTrialOf d l.here.context l.e l.trial;
      flows : DoFlow d l.here l.e (choices_of (take l.choice-index l.choices)) l.told.items;
      like : All (λ (flow : ℕ × PointFact g.row.I.Denot). IsLike d l.here flow.1) l.told.items;
      worked : (choice : Choice) → Contains (take l.choice-index l.choices) choice → AreWorkedHere d l.here l.e (test_of choice.test);
    }
