-- Where the lowered program stands while its source stands at a statement: what is left of a block is followed by what stands behind the block,
-- since there are no blocks, and around it are its own loops and the `if`s that are their tests.
use Rattle.std.proofs.Common.{◌≡◌, ℕ, Bool, true, false, not, ◌&&◌, List, [], ◌∷◌, ◌++◌, map, Option, Some, None, slice_get, refl, ap, ◌∙◌, append_assoc}
use Rattle.std.specs.List.{list_all}
use Rattle.cc_program.specs.declared.expr.Expr.{Expr}
use Rattle.cc_program.specs.declared.func.Func.{Func}
use Rattle.cc_program.specs.declared.program.Program.{Program}
use Rattle.cc_program.specs.declared.stmt.Case.{Case, out-Case, fold_out-Case}
use Rattle.cc_program.specs.declared.stmt.Stmt.{Stmt, out-Stmt, roll-Stmt, map-Stmt, fold_out-Stmt}
use Rattle.cc_program.specs.declared.stmt.Stmt.TheOpen as is
use Rattle.cc_steps.specs.CcControl.declared.phase.Phase.{Phase}
use Rattle.cc_steps.specs.CcControl.declared.phase.Phase.TheVariants.{First, Test, Again}
use Rattle.cc_steps.specs.CcControl.Control.{is_loop, coming}
use Rattle.cc_steps.specs.CcEval.declared.mark.Mark.{Mark}
use Rattle.cc_steps.specs.Step.{is_known}
use Rattle.cc_meaning_simulations.specs.Continuations.{Remainder, continue_on, remainder, resume}
use Rattle.cc_meaning_simulations.specs.Transitions.{ControlState, progress_there}
use Rattle.cc_lower_statements.specs.Statements.{break_statement, endless_loop, expression_statement, guarded, is_nonzero_constant, lower_cases, lower_list, needed_test, optional_statement}
use Rattle.cc_lower_statements.proofs.Layers.{lower-out, lower_layer}
use Rattle.cc_lower_follows.specs.Fit.{Fitness, all_are_fit, are_fit, is_case_fit, is_fit, is_fit_in}

-- what stands before a `continue` inside a statement
abbrev pub step_in : is.Stmt-F Stmt Case → List Stmt → List Stmt
step_in (is.Do e) k = k
step_in (is.If e a b) k = k
step_in (is.While e a) k = []
step_in (is.DoWhile a e) k = []
step_in (is.For first test again a) k = optional_statement again
step_in (is.Switch e cases) k = k
step_in is.Break k = k
step_in is.Continue k = k
step_in (is.Return e) k = k
step_in is.Empty k = k
step_in (is.Block a) k = k

abbrev pub step_first : List Stmt → List Stmt → List Stmt
step_first [] k = k
step_first (s ∷ rest) k = step_in (out-Stmt s) k

abbrev pub step_of : List Remainder → List Stmt
step_of [] = []
step_of (at ∷ around) = step_first at.rest (step_of around)

-- what stands behind the list inside a statement, where r stands behind the statement
abbrev pub after_in : is.Stmt-F Stmt Case → List Stmt → List Stmt
after_in (is.Do e) r = r
after_in (is.If e a b) r = []
after_in (is.While e a) r = []
after_in (is.DoWhile a e) r = guarded (needed_test (Some e)) []
after_in (is.For first test again a) r = optional_statement again
after_in (is.Switch e cases) r = []
after_in is.Break r = r
after_in is.Continue r = r
after_in (is.Return e) r = r
after_in is.Empty r = r
after_in (is.Block a) r = r

abbrev pub after_first : List Stmt → List Stmt → List Stmt → List Stmt
after_first [] k t = t
after_first (s ∷ rest) k t = after_in (out-Stmt s) (lower_list rest k ++ t)

abbrev pub after_of : List Remainder → List Stmt
after_of [] = []
after_of (at ∷ around) = after_first at.rest (step_of around) (after_of around)

-- the body of a loop behind its test
abbrev pub guarded_body : is.Stmt-F Stmt Case → List Stmt
guarded_body (is.Do e) = []
guarded_body (is.If e a b) = []
guarded_body (is.While e a) = lower_list a []
guarded_body (is.DoWhile a e) = []
guarded_body (is.For first test again a) = lower_list a (optional_statement again) ++ optional_statement again
guarded_body (is.Switch e cases) = []
guarded_body is.Break = []
guarded_body is.Continue = []
guarded_body (is.Return e) = []
guarded_body is.Empty = []
guarded_body (is.Block a) = []

abbrev pub test_of : is.Stmt-F Stmt Case → Option Expr
test_of (is.Do e) = None
test_of (is.If e a b) = None
test_of (is.While e a) = Some e
test_of (is.DoWhile a e) = Some e
test_of (is.For first test again a) = test
test_of (is.Switch e cases) = None
test_of is.Break = None
test_of is.Continue = None
test_of (is.Return e) = None
test_of is.Empty = None
test_of (is.Block a) = None

-- the body of the endless loop, with its test
abbrev pub loop_body : is.Stmt-F Stmt Case → List Stmt
loop_body (is.Do e) = []
loop_body (is.If e a b) = []
loop_body (is.While e a) = guarded (needed_test (Some e)) (lower_list a [])
loop_body (is.DoWhile a e) = lower_list a [] ++ guarded (needed_test (Some e)) []
loop_body (is.For first test again a) = guarded (needed_test test) (lower_list a (optional_statement again) ++ optional_statement again)
loop_body (is.Switch e cases) = []
loop_body is.Break = []
loop_body is.Continue = []
loop_body (is.Return e) = []
loop_body is.Empty = []
loop_body (is.Block a) = []

abbrev pub loop_remainder : List Stmt → List Stmt → Remainder
loop_remainder inside r = remainder (endless_loop inside ∷ r) Test

abbrev pub test_statement : Expr → List Stmt → Stmt
test_statement e inside = roll-Stmt (is.If e inside (break_statement ∷ []))

-- inside the test, where there is one
abbrev pub inside_test : Option Expr → List Stmt → List Remainder → List Remainder
inside_test None inside out = out
inside_test (Some e) inside out = remainder (test_statement e inside ∷ []) First ∷ out

-- the lists around the list inside a statement, in the lowered program
abbrev pub lowered_around_in : is.Stmt-F Stmt Case → List Stmt → List Stmt → List Remainder → List Remainder
lowered_around_in (is.Do e) k r out = out
lowered_around_in (is.If e a b) k r out = remainder (roll-Stmt (is.If e (lower_list a k) (lower_list b k)) ∷ r) First ∷ out
lowered_around_in (is.While e a) k r out = inside_test (needed_test (Some e)) (lower_list a []) (loop_remainder (guarded (needed_test (Some e)) (lower_list a [])) r ∷ out)
lowered_around_in (is.DoWhile a e) k r out = loop_remainder (lower_list a [] ++ guarded (needed_test (Some e)) []) r ∷ out
lowered_around_in (is.For first test again a) k r out =
    inside_test (needed_test test) (lower_list a (optional_statement again) ++ optional_statement again) (loop_remainder (guarded (needed_test test) (lower_list a (optional_statement again) ++ optional_statement again)) r ∷ out)
lowered_around_in (is.Switch e cases) k r out = remainder (roll-Stmt (is.Switch e (lower_cases cases k)) ∷ r) First ∷ out
lowered_around_in is.Break k r out = out
lowered_around_in is.Continue k r out = out
lowered_around_in (is.Return e) k r out = out
lowered_around_in is.Empty k r out = out
lowered_around_in (is.Block a) k r out = out

abbrev pub lowered_around_first : List Stmt → List Stmt → List Stmt → List Remainder → List Remainder
lowered_around_first [] k t out = out
lowered_around_first (s ∷ rest) k t out = lowered_around_in (out-Stmt s) k (lower_list rest k ++ t) out

abbrev pub lowered_around : List Remainder → List Remainder
lowered_around [] = []
lowered_around (at ∷ around) = lowered_around_first at.rest (step_of around) (after_of around) (lowered_around around)

-- the list of the lowered program
abbrev pub lowered_list : List Stmt → List Remainder → List Stmt
lowered_list l around = lower_list l (step_of around) ++ after_of around

-- whether the innermost loop is a `do` whose test may fail
abbrev pub tested_do_in : is.Stmt-F Stmt Case → Bool → Bool
tested_do_in (is.Do e) b = b
tested_do_in (is.If e these those) b = b
tested_do_in (is.While e a) b = false
tested_do_in (is.DoWhile a e) b = not (is_nonzero_constant e)
tested_do_in (is.For first test again a) b = false
tested_do_in (is.Switch e cases) b = b
tested_do_in is.Break b = b
tested_do_in is.Continue b = b
tested_do_in (is.Return e) b = b
tested_do_in is.Empty b = b
tested_do_in (is.Block a) b = b

abbrev pub tested_do_first : List Stmt → Bool → Bool
tested_do_first [] b = b
tested_do_first (s ∷ rest) b = tested_do_in (out-Stmt s) b

abbrev pub in_tested_do : List Remainder → Bool
in_tested_do [] = false
in_tested_do (at ∷ around) = tested_do_first at.rest (in_tested_do around)

-- the phase of each list around is what comes behind the list inside it, and no `continue` belongs to a `do` whose test may fail
abbrev pub AreWellFormed : List Remainder → Type 0
AreWellFormed [] = Unit {0}
AreWellFormed (at ∷ around) = (at.phase ≡ coming at.rest) × (are_fit (in_tested_do around) at.rest ≡ true) × AreWellFormed around

-- ---- the same, by what the statement is

module _ (s : Stmt) (rest : List Stmt) (phase : Phase) (around : List Remainder) (x : is.Stmt-F Stmt Case) (e : out-Stmt s ≡ x) where
  pub step-is : step_of (remainder (s ∷ rest) phase ∷ around) ≡ step_in x (step_of around)
  step-is = ap (λ (y : is.Stmt-F Stmt Case). step_in y (step_of around)) e

  pub after-is : after_of (remainder (s ∷ rest) phase ∷ around) ≡ after_in x (lowered_list rest around)
  after-is = ap (λ (y : is.Stmt-F Stmt Case). after_in y (lowered_list rest around)) e

  pub lowered_around-is : lowered_around (remainder (s ∷ rest) phase ∷ around) ≡ lowered_around_in x (step_of around) (lowered_list rest around) (lowered_around around)
  lowered_around-is = ap (λ (y : is.Stmt-F Stmt Case). lowered_around_in y (step_of around) (lowered_list rest around) (lowered_around around)) e

  pub in_tested_do-is : in_tested_do (remainder (s ∷ rest) phase ∷ around) ≡ tested_do_in x (in_tested_do around)
  in_tested_do-is = ap (λ (y : is.Stmt-F Stmt Case). tested_do_in y (in_tested_do around)) e

pub lowered_list-is : (s : Stmt) (rest : List Stmt) (around : List Remainder) (x : is.Stmt-F Stmt Case) → out-Stmt s ≡ x → lowered_list (s ∷ rest) around ≡ lower_layer x (step_of around) ++ lowered_list rest around
lowered_list-is s rest around x e =
    ap (λ (l : List Stmt). (l ++ lower_list rest (step_of around)) ++ after_of around) (lower-out s (step_of around) ∙ ap (λ (y : is.Stmt-F Stmt Case). lower_layer y (step_of around)) e)
    ∙ append_assoc (lower_layer x (step_of around)) (lower_list rest (step_of around)) (after_of around)

-- ---- which statements are fit, opened at one level

abbrev pub are_cases_fit : Bool → List Case → Bool
are_cases_fit inside cases = list_all (λ c. is_case_fit c inside) cases

abbrev pub is_layer_fit : is.Stmt-F Stmt Case → Bool → Bool
is_layer_fit (is.Do e) inside = true
is_layer_fit (is.If e a b) inside = are_fit inside a && are_fit inside b
is_layer_fit (is.While e a) inside = are_fit false a
is_layer_fit (is.DoWhile a e) inside = are_fit (not (is_nonzero_constant e)) a
is_layer_fit (is.For first test again a) inside = are_fit false a
is_layer_fit (is.Switch e cases) inside = are_cases_fit inside cases
is_layer_fit is.Break inside = true
is_layer_fit is.Continue inside = not inside
is_layer_fit (is.Return e) inside = true
is_layer_fit is.Empty inside = true
is_layer_fit (is.Block a) inside = are_fit inside a

each-fit : (l : List Stmt) (b : Bool) → all_are_fit (map is_fit l) b ≡ are_fit b l
each-fit [] b = refl
each-fit (s ∷ l) b = ap (λ c. is_fit s b && c) (each-fit l b)

cases-fit : (l : List Case) (b : Bool) → all_are_fit (map is_case_fit l) b ≡ are_cases_fit b l
cases-fit [] b = refl
cases-fit (s ∷ l) b = ap (λ c. is_case_fit s b && c) (cases-fit l b)

is_fit_open : (x : is.Stmt-F Stmt Case) (b : Bool) → is_fit_in (map-Stmt Stmt Case Fitness Fitness is_fit is_case_fit x) b ≡ is_layer_fit x b
is_fit_open (is.Do e) b = refl
is_fit_open (is.If e these those) b = ap (λ c. c && all_are_fit (map is_fit those) b) (each-fit these b) ∙ ap (λ c. are_fit b these && c) (each-fit those b)
is_fit_open (is.While e a) b = each-fit a false
is_fit_open (is.DoWhile a e) b = each-fit a (not (is_nonzero_constant e))
is_fit_open (is.For first test again a) b = each-fit a false
is_fit_open (is.Switch e cases) b = cases-fit cases b
is_fit_open is.Break b = refl
is_fit_open is.Continue b = refl
is_fit_open (is.Return e) b = refl
is_fit_open is.Empty b = refl
is_fit_open (is.Block a) b = each-fit a b

pub is_fit-out : (s : Stmt) (b : Bool) → is_fit s b ≡ is_layer_fit (out-Stmt s) b
unfolding is_fit is_case_fit
is_fit-out s b = ap (λ (f : Fitness). f b) (fold_out-Stmt Fitness Fitness is_fit_in (λ c. all_are_fit c.body) s) ∙ is_fit_open (out-Stmt s) b

pub is_case_fit-out : (c : Case) (b : Bool) → is_case_fit c b ≡ are_fit b (out-Case c).body
unfolding is_fit is_case_fit
is_case_fit-out c b = ap (λ (f : Fitness). f b) (fold_out-Case Fitness Fitness is_fit_in (λ c. all_are_fit c.body) c) ∙ each-fit (out-Case c).body b

-- ---- related positions

abbrev pub control_of : ℕ → ℕ → Remainder → List Remainder → List Mark → ControlState
control_of number func here around marks = record { number = number; func = func; here = here; around = around; marks = marks }

-- a statement that the lowered program has as well, with its parts lowered
abbrev pub is_kept : is.Stmt-F Stmt Case → Bool
is_kept (is.Do e) = true
is_kept (is.If e a b) = true
is_kept (is.While e a) = false
is_kept (is.DoWhile a e) = false
is_kept (is.For first test again a) = false
is_kept (is.Switch e cases) = true
is_kept is.Break = true
is_kept is.Continue = true
is_kept (is.Return e) = true
is_kept is.Empty = false
is_kept (is.Block a) = false

abbrev pub is_continue : is.Stmt-F Stmt Case → Bool
is_continue (is.Do e) = false
is_continue (is.If e a b) = false
is_continue (is.While e a) = false
is_continue (is.DoWhile a e) = false
is_continue (is.For first test again a) = false
is_continue (is.Switch e cases) = false
is_continue is.Break = false
is_continue is.Continue = true
is_continue (is.Return e) = false
is_continue is.Empty = false
is_continue (is.Block a) = false

module _ (P : Program) where
  -- a statement of a list in a function of the program, inside other lists
  pub record IsAt (func : ℕ) (s : Stmt) (rest : List Stmt) (around : List Remainder) (x : is.Stmt-F Stmt Case) : Type 0 where
    pub body : Func
    pub function : slice_get P.funcs func ≡ Some body
    pub first : out-Stmt s ≡ x
    pub is_fit : are_fit (in_tested_do around) (s ∷ rest) ≡ true
    pub well_formed : AreWellFormed around

  -- behind the step of a `for` its loop begins anew: at once, or by a `continue`
  pub data ReturnsToLoop : Remainder → List Remainder → List Stmt → List Remainder → Type 0 where
    AtEnd : (loop : Remainder) (out around : List Remainder) → resume [] around ≡ (loop, out) → ReturnsToLoop loop out [] around
    ByContinue : (loop : Remainder) (out around : List Remainder) (more : List Stmt) → continue_on around ≡ (loop, out) → ReturnsToLoop loop out (roll-Stmt is.Continue ∷ more) around

  pub data Match (q p : ControlState) : Type 0 where
    -- at the same statement
    AtStatement : (n f : ℕ) (s : Stmt) (rest : List Stmt) (around : List Remainder) (x : is.Stmt-F Stmt Case) (ms : List Mark) → IsAt f s rest around x →
        is_kept x ≡ true → (is_continue x ≡ true → step_of around ≡ []) →
        p ≡ control_of n f (remainder (s ∷ rest) First) around ms → q ≡ control_of n f (remainder (lower_layer x (step_of around) ++ lowered_list rest around) First) (lowered_around around) ms → Match q p
    -- at the function's end
    AtFunctionEnd : (n f : ℕ) (ms : List Mark) → p ≡ control_of n f (remainder [] First) [] ms → q ≡ control_of n f (remainder [] First) [] ms → Match q p
    -- at the test of a loop
    AtTest : (n f : ℕ) (s : Stmt) (rest : List Stmt) (around : List Remainder) (x : is.Stmt-F Stmt Case) (ms : List Mark) (e : Expr) → IsAt f s rest around x →
        is_loop x ≡ true → needed_test (test_of x) ≡ Some e →
        p ≡ control_of n f (remainder (s ∷ rest) Test) around ms → q ≡ control_of n f (remainder (test_statement e (guarded_body x) ∷ []) First) (loop_remainder (loop_body x) (lowered_list rest around) ∷ lowered_around around) ms → Match q p
    -- at a loop whose test is left out
    AtLoop : (n f : ℕ) (s : Stmt) (rest : List Stmt) (around : List Remainder) (x : is.Stmt-F Stmt Case) → IsAt f s rest around x →
        is_loop x ≡ true → needed_test (test_of x) ≡ None →
        p ≡ control_of n f (remainder (s ∷ rest) Test) around [] → q ≡ control_of n f (loop_remainder (loop_body x) (lowered_list rest around)) (lowered_around around) [] → Match q p
    -- at the first expression of a `for`
    AtFirst : (n f : ℕ) (s : Stmt) (rest : List Stmt) (around : List Remainder) (e : Expr) (test again : Option Expr) (a : List Stmt) (ms : List Mark) → IsAt f s rest around (is.For (Some e) test again a) →
        is_known (progress_there P (control_of n f (remainder [] First) [] ms) (Some e)) ≡ false →
        p ≡ control_of n f (remainder (s ∷ rest) First) around ms →
        q ≡ control_of n f (remainder (expression_statement e ∷ endless_loop (loop_body (is.For (Some e) test again a)) ∷ lowered_list rest around) First) (lowered_around around) ms → Match q p
    -- at the step of a `for`
    AtStep : (n f : ℕ) (s : Stmt) (rest : List Stmt) (around : List Remainder) (first test : Option Expr) (e : Expr) (a : List Stmt) (more : List Stmt) (out : List Remainder) (ms : List Mark) →
        IsAt f s rest around (is.For first test (Some e) a) →
        is_known (progress_there P (control_of n f (remainder [] First) [] ms) (Some e)) ≡ false →
        ReturnsToLoop (loop_remainder (loop_body (is.For first test (Some e) a)) (lowered_list rest around)) (lowered_around around) more out →
        p ≡ control_of n f (remainder (s ∷ rest) Again) around ms → q ≡ control_of n f (remainder (expression_statement e ∷ more) First) out ms → Match q p
