-- The tests of a statement, as the code has them, and what is asked of the statement.
use Rattle.std.specs.Prelude.{◌≡◌, ◌<◌, ◌+◌, ◌^◌, ℕ, ℤ, List, map, Some}
use Rattle.std.specs.List.{Contains}
use Rattle.cc_flow.specs.Points.{total_of}
use Rattle.cc_flow.specs.View.{total_of_cases}
use Rattle.cc_rules_flows.specs.CcLattice.Domains.{IsIntValue}
use Rattle.cc_program.specs.declared.expr.Expr.{Expr}
use Rattle.cc_program.specs.declared.stmt.Case.{Case}
use Rattle.cc_program.specs.declared.stmt.Stmt.{Stmt}
use Rattle.cc_rules_choices.specs.declared.choices.Choice.{Choice}
use Rattle.cc_rules_flows.specs.Acts.{Act}
use Rattle.cc_rules_flows.specs.declared.after.Here.{Here}
use Rattle.cc_rules_flows.specs.Flows.{tests_of}
use Rattle.cc_rules_flows.specs.Nexts.{all_constants}
use Rattle.cc_rules_flows.specs.Tests.{Test}
use Rattle.cc_rules_flows.specs.Worked.{AreWorked}
use Rattle.cc_rules_tests.specs.Tested.{test_of}
use Rattle.cc_rules_flows.specs.CcStateOperators.Domains.{Domain}

abbrev pub choice_of : Choice → Test × ℕ
choice_of c = (test_of c.test, c.point)

abbrev pub choices_of : List Choice → List (Test × ℕ)
choices_of choices = map choice_of choices

module _ {I : Type 0} (d : Domain I) (here : Here I) where
  -- the points of an `if` have numbers of 32 bits, and so have those of a `switch`, whose labels are values of integer types
  abbrev pub FitsIf : List Stmt → List Stmt → Type 0
  FitsIf these those = here.number + (1 + (total_of these + total_of those)) < 2 ^ 32

  pub record FitsSwitch (cases : List Case) : Type 0 where
    pub few : here.number + (1 + total_of_cases cases) < 2 ^ 32
    pub labels : (n : ℤ) → Contains (all_constants cases) n → IsIntValue n

  -- the values that each test of the statement works
  abbrev pub AreTestsWorkedHere : Act → Type 0
  AreTestsWorkedHere act = (e : Expr) (tests : List (Test × ℕ)) → tests_of here.number here.point.now.next act ≡ Some (e, tests) → (t : Test × ℕ) → Contains tests t →
      AreWorked d here.context.program.now here.context.id here.context.func.now here.facts.now here.point.now here.number here.fact.now e t.0
