-- What is asked of facts, as the code gives it: exactly that, laid out so that facts can be raised by it; and the values of the tests that it goes by
-- were worked.
use Rattle.std.specs.Prelude.{◌≡◌, ℕ, List}
use Rattle.cc_program.specs.declared.program.Program.{Program}
use Rattle.cc_rules_asked.specs.CcRules.Constraints.{Rule, Flow, Constraint}
use Rattle.cc_rules_asked.specs.CcRules.Rules.{AskedIn, IsAsked}
use Rattle.cc_rules_asked.specs.declared.asked.Asked.{Asked}
use Rattle.cc_rules_asked.specs.Asked.{all_needs}
use Rattle.cc_rules_asked.specs.Asks.{AsksHere}
use Rattle.cc_rules_choices.specs.Choices.{AreTestsWorkedHere}
use Rattle.cc_rules_asked.specs.CcRulesFlows.Acts.{Act}
use Rattle.cc_rules_asked.specs.CcRulesFlows.declared.after.Here.{Here}
use Rattle.cc_rules_grow.specs.Grown.{AreTestsWorked, IsWorked}
use Rattle.cc_rules_layout.specs.Raisable.{AreRaisable}
use Rattle.cc_rules_asked.specs.CcStateFacts.declared.facts.Facts.{Facts}
use Rattle.cc_rules_asked.specs.CcStateFacts.Facts.{fact_at}
use Rattle.cc_rules_asked.specs.CcStateOperators.Domains.{Domain}

-- by a rule at a point that is reached, whose statement does this
pub record IsAskedHere {I : Type 0} (d : Domain I) (here : Here I) (rule : Rule) (act : Act) (list : List (Asked I)) : Type 0 where
  pub asks : AsksHere d here rule act list
  pub worked : rule ≡ Flow → AreTestsWorkedHere d here act
  pub raisable : AreRaisable d here.context.program.now here.facts.now list

module _ {I : Type 0} (d : Domain I) (p : Program) (facts : Facts I) where
  -- by a rule at a point
  pub record IsAskedAt (rule : Rule) (n : ℕ) (list : List (Asked I)) : Type 0 where
    pub asks : AskedIn d p facts rule n (fact_at facts n) (all_needs p list)
    pub worked : rule ≡ Flow → AreTestsWorked d p facts n
    pub raisable : AreRaisable d p facts list

  -- by a constraint
  pub record IsAskedBy (c : Constraint) (list : List (Asked I)) : Type 0 where
    pub asks : IsAsked d p facts c (all_needs p list)
    pub worked : IsWorked d p facts c
    pub raisable : AreRaisable d p facts list
