-- The constraints of a program by their numbers.
use Rattle.std.specs.Prelude.{◌≡◌, ◌≤◌, ℕ, List, [], Option, Some, None, slice_get}
use Rattle.cc_rules_asked.specs.CcFlow.Points.{count_of}
use Rattle.cc_program.specs.declared.program.Program.{Program}
use Rattle.cc_rules_asked.specs.CcRules.Constraints.{Constraint, constraints}
use Rattle.cc_rules_asked.specs.CcRules.Rules.{Asks}
use Rattle.cc_rules_again.specs.Again.{again_of}
use Rattle.cc_rules_made.specs.declared.rules.Rules.{Rules}
use Rattle.cc_rules_made.specs.Rules.{AreOf}
use Rattle.cc_rules_readers.specs.declared.index.Index.{Index}
use Rattle.cc_rules_readers.specs.Index.{IsIndexOf}
use Rattle.cc_rules_grow.specs.CcState.Shape.{HaveShape}
use Rattle.cc_rules_asked.specs.CcStateFacts.declared.facts.Facts.{Facts}
use Rattle.cc_rules_asked.specs.CcStateKeys.Counts.{fact_count}
use Rattle.cc_state_limits.specs.Held.{AreHeld}
use Rattle.cc_rules_asked.specs.CcStateOperators.Domains.{Domain}
use Rattle.cc_state_values_fit.specs.Fit.{HasWholes}
use Rattle.cc_rules_asked.specs.CcSyntax.Normal.{IsNormal}

-- what is made once of a program in normal form within the limits, over a domain with the set of all values of each type
pub record IsReady {I : Type 0} (d : Domain I) (rules : Rules) (index : Index) : Type 0 where
  pub normal : IsNormal rules.program.now
  pub few_points : count_of rules.program.now ≤ 65536
  pub few_facts : fact_count rules.program.now ≤ 4194304
  pub made : AreOf rules.program.now rules
  pub indexed : IsIndexOf rules.program.now index
  pub wholes : HasWholes d rules.program.now.target

module _ {I : Type 0} (d : Domain I) (p : Program) where
  -- facts of the program's shape, such as a memory holds
  abbrev pub Fits : Facts I → Type 0
  Fits facts = HaveShape d p facts × AreHeld facts

  -- what the constraint with a number asks of some facts is had by others
  abbrev pub AsksAt : ℕ → Facts I → Facts I → Type 0
  AsksAt number facts others = (c : Constraint) × (slice_get (constraints p) number ≡ Some c) × Asks d p c facts others

-- the constraints that are asked again
abbrev pub again_at : {I : Type 0} → Program → Facts I → Option Constraint → List ℕ
again_at p facts None = []
again_at p facts (Some c) = again_of p facts c
