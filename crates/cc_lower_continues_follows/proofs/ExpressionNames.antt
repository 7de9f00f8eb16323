-- Statements whose expressions name locals below a number only.
use Rattle.std.proofs.Common.{◌≡◌, ℕ, Bool, true, false, ◌&&◌, List, [], ◌∷◌, map, Option, Some, None, refl}
use Rattle.cc_states.specs.CcControl.declared.phase.Phase.{Phase}
use Rattle.cc_states.specs.CcControl.declared.phase.Phase.TheVariants.{First, Test, Again}
use Rattle.cc_program.specs.declared.expr.Expr.{Expr}
use Rattle.cc_program.specs.declared.stmt.Case.{Case, out-Case, fold-Case, fold_out-Case}
use Rattle.cc_program.specs.declared.stmt.Stmt.{Stmt, out-Stmt, map-Stmt, fold-Stmt, fold_out-Stmt}
use Rattle.cc_program.specs.declared.stmt.Stmt.TheOpen as is
use Rattle.cc_states.specs.CcSteps.Step.{worked, passed}
use Rattle.cc_meaning_simulations.specs.NamedLocals.{names_below}

pub both_left : (a b : Bool) → (a && b) ≡ true → a ≡ true
both_left true b h = refl
both_left false b h = absurd (cc)

pub both_right : (a b : Bool) → (a && b) ≡ true → b ≡ true
both_right true b h = h
both_right false b h = absurd (cc)

abbrev pub all_true : List Bool → Bool
all_true [] = true
all_true (b ∷ bs) = b && all_true bs

module _ (n : ℕ) where
  abbrev pub optional_below : Option Expr → Bool
  optional_below None = true
  optional_below (Some e) = names_below n e

  -- the expressions of one statement
  abbrev pub expressions_below : is.Stmt-F Stmt Case → Bool
  expressions_below (is.Do e) = names_below n e
  expressions_below (is.If e a b) = names_below n e
  expressions_below (is.While e a) = names_below n e
  expressions_below (is.DoWhile a e) = names_below n e
  expressions_below (is.For first test again a) = optional_below first && (optional_below test && optional_below again)
  expressions_below (is.Switch e cases) = names_below n e
  expressions_below is.Break = true
  expressions_below is.Continue = true
  expressions_below (is.Return e) = optional_below e
  expressions_below is.Empty = true
  expressions_below (is.Block a) = true

  abbrev pub is_below_in : is.Stmt-F Bool Bool → Bool
  is_below_in (is.Do e) = names_below n e
  is_below_in (is.If e a b) = names_below n e && (all_true a && all_true b)
  is_below_in (is.While e a) = names_below n e && all_true a
  is_below_in (is.DoWhile a e) = names_below n e && all_true a
  is_below_in (is.For first test again a) = optional_below first && (optional_below test && (optional_below again && all_true a))
  is_below_in (is.Switch e cases) = names_below n e && all_true cases
  is_below_in is.Break = true
  is_below_in is.Continue = true
  is_below_in (is.Return e) = optional_below e
  is_below_in is.Empty = true
  is_below_in (is.Block a) = all_true a

  abbrev pub is_case_below_in : is.Case-F Bool Bool → Bool
  is_case_below_in c = all_true c.body

  unfoldable pub is_below : Stmt → Bool
  is_below s = fold-Stmt Bool Bool is_below_in is_case_below_in s

  unfoldable pub is_case_below : Case → Bool
  is_case_below c = fold-Case Bool Bool is_below_in is_case_below_in c

  abbrev pub are_below : List Stmt → Bool
  are_below list = all_true (map is_below list)

  abbrev pub are_cases_below : List Case → Bool
  are_cases_below list = all_true (map is_case_below list)

  pub is_below-out : (s : Stmt) → is_below s ≡ is_below_in (map-Stmt Stmt Case Bool Bool is_below is_case_below (out-Stmt s))
  unfolding is_below is_case_below
  is_below-out s = fold_out-Stmt Bool Bool is_below_in is_case_below_in s

  pub is_case_below-out : (c : Case) → is_case_below c ≡ are_below (out-Case c).body
  unfolding is_below is_case_below
  is_case_below-out c = fold_out-Case Bool Bool is_below_in is_case_below_in c

  pub three_below : (first test again : Option Expr) (b : Bool) → (optional_below first && (optional_below test && (optional_below again && b))) ≡ true → (optional_below first && (optional_below test && optional_below again)) ≡ true
  three_below first test again b h = of (optional_below first) (optional_below test) (optional_below again) h
    where
      of : (x y z : Bool) → (x && (y && (z && b))) ≡ true → (x && (y && z)) ≡ true
      of true true true h = refl
      of true true false h = h
      of true false z h = h
      of false y z h = h

  -- what is worked, and what is passed
  pub worked_below : (x : is.Stmt-F Stmt Case) (phase : Phase) → expressions_below x ≡ true → optional_below (worked x phase) ≡ true
  worked_below (is.Do e) phase h = h
  worked_below (is.If e a b) phase h = h
  worked_below (is.While e a) phase h = h
  worked_below (is.DoWhile a e) phase h = h
  worked_below (is.For first test again a) First h = both_left (optional_below first) _ h
  worked_below (is.For first test again a) Test h = both_left (optional_below test) _ (both_right (optional_below first) _ h)
  worked_below (is.For first test again a) Again h = both_right (optional_below test) (optional_below again) (both_right (optional_below first) _ h)
  worked_below (is.Switch e cases) phase h = h
  worked_below is.Break phase h = refl
  worked_below is.Continue phase h = refl
  worked_below (is.Return e) phase h = h
  worked_below is.Empty phase h = refl
  worked_below (is.Block a) phase h = refl

  abbrev pub passes_below : Option (Option Expr) → Bool
  passes_below None = true
  passes_below (Some e) = optional_below e

  pub passed_below : (x : is.Stmt-F Stmt Case) (phase : Phase) → expressions_below x ≡ true → passes_below (passed x phase) ≡ true
  passed_below (is.Do e) phase h = refl
  passed_below (is.If e a b) phase h = refl
  passed_below (is.While e a) phase h = refl
  passed_below (is.DoWhile a e) phase h = refl
  passed_below (is.For first test again a) First h = both_left (optional_below first) _ h
  passed_below (is.For first test again a) Test h = refl
  passed_below (is.For first test again a) Again h = both_right (optional_below test) (optional_below again) (both_right (optional_below first) _ h)
  passed_below (is.Switch e cases) phase h = refl
  passed_below is.Break phase h = refl
  passed_below is.Continue phase h = refl
  passed_below (is.Return e) phase h = refl
  passed_below is.Empty phase h = refl
  passed_below (is.Block a) phase h = refl
