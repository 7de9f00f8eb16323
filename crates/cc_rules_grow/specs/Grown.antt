-- What is worked where a constraint is asked on what flows from a point: the values of the tests of its statement.
use Rattle.std.specs.Prelude.{◌≡◌, ℕ, List, Some}
use Rattle.std.specs.List.{Contains}
use Rattle.cc_rules.specs.CcFlow.declared.types.Point.{Point}
use Rattle.cc_program.specs.declared.expr.Expr.{Expr}
use Rattle.cc_program.specs.declared.func.Func.{Func}
use Rattle.cc_program.specs.declared.program.Program.{Program}
use Rattle.cc_rules.specs.Constraints.{Flow, Constraint}
use Rattle.cc_rules.specs.Rules.{act_at}
use Rattle.cc_rules.specs.CcRulesFlows.Flows.{tests_of}
use Rattle.cc_rules.specs.CcRulesFlows.Nexts.{IsPoint, statement_of}
use Rattle.cc_rules.specs.CcRulesFlows.Tests.{Test}
use Rattle.cc_rules.specs.CcRulesFlows.Worked.{AreWorked}
use Rattle.cc_rules.specs.CcStateFacts.declared.facts.Facts.{Facts}
use Rattle.cc_rules.specs.CcStateFacts.declared.facts.PointFact.{PointFact}
use Rattle.cc_rules.specs.CcStateFacts.Facts.{fact_at}
use Rattle.cc_rules.specs.CcStateOperators.Domains.{Domain}

-- the values that each test of the statement at a point works
abbrev pub AreTestsWorked : {I : Type 0} → Domain I → Program → Facts I → ℕ → Type 0
AreTestsWorked {I = I} d p facts n =
    (id : ℕ) (f : Func) (point : Point) (fact : PointFact I) → IsPoint p n id f point → fact_at facts n ≡ Some fact → (e : Expr) (tests : List (Test × ℕ)) → tests_of n point.next (act_at (statement_of f point) f) ≡ Some (e, tests) →
    (t : Test × ℕ) → Contains tests t → AreWorked d p id f facts point n fact e t.0

abbrev pub IsWorked : {I : Type 0} → Domain I → Program → Facts I → Constraint → Type 0
IsWorked d p facts c = c.rule ≡ Flow → AreTestsWorked d p facts c.point
