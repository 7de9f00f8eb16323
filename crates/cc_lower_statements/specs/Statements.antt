-- Statements whose loops are all `while (1)`, without blocks and without empty statements (C99 6.8.2, 6.8.3, 6.8.5). Expressions stay as they
-- are. The test of a loop becomes an `if` whose `else` leaves the loop; the step of a `for` stands at the end of its body, and before each
-- `continue` of it.
use Rattle.std.specs.Prelude.{pos, Bool, true, false, not, List, [], ◌∷◌, ◌++◌, map, Option, Some, None}
use Rattle.std.specs.Ordering.{int_eq}
use Rattle.cc_program.specs.CcNum.declared.int_type.IntType.TheVariants as int
use Rattle.cc_program.specs.declared.expr.Expr.{Expr, out-Expr, roll-Expr}
use Rattle.cc_program.specs.declared.expr.Expr.TheOpen as one
use Rattle.cc_program.specs.declared.expr.Place.{Place}
use Rattle.cc_program.specs.declared.func.Func.{Func}
use Rattle.cc_program.specs.declared.program.Program.{Program}
use Rattle.cc_program.specs.declared.stmt.Case.{Case, roll-Case, fold-Case}
use Rattle.cc_program.specs.declared.stmt.Stmt.{Stmt, roll-Stmt, fold-Stmt}
use Rattle.cc_program.specs.declared.stmt.Stmt.TheOpen as is

abbrev pub expression_statement : Expr → Stmt
expression_statement e = roll-Stmt (is.Do e)

abbrev pub break_statement : Stmt
break_statement = roll-Stmt is.Break

-- `1` of type int
abbrev pub constant_one : Expr
constant_one = roll-Expr (one.Const (pos 1) int.Int)

-- a constant other than 0
abbrev pub is_nonzero_constant_in : one.Expr-F Expr Place → Bool
is_nonzero_constant_in (one.Const n t) = not (int_eq n (pos 0))
is_nonzero_constant_in (one.Null t) = false
is_nonzero_constant_in (one.FuncAddr f) = false
is_nonzero_constant_in (one.Load a) = false
is_nonzero_constant_in (one.AddrOf a) = false
is_nonzero_constant_in (one.Un o t a) = false
is_nonzero_constant_in (one.Bin o t a b) = false
is_nonzero_constant_in (one.Conv t a) = false
is_nonzero_constant_in (one.Qualify t a) = false
is_nonzero_constant_in (one.Move a b back) = false
is_nonzero_constant_in (one.Gap a b) = false
is_nonzero_constant_in (one.Compare o a b) = false
is_nonzero_constant_in (one.Both a b) = false
is_nonzero_constant_in (one.Either a b) = false
is_nonzero_constant_in (one.Choose c a b) = false
is_nonzero_constant_in (one.Assign a e) = false
is_nonzero_constant_in (one.Change a o t e) = false
is_nonzero_constant_in (one.After a down) = false
is_nonzero_constant_in (one.Call f args) = false
is_nonzero_constant_in (one.Intr i a) = false
is_nonzero_constant_in (one.Seq a b) = false

unfoldable pub is_nonzero_constant : Expr → Bool
is_nonzero_constant e = is_nonzero_constant_in (out-Expr e)

-- the test that a loop keeps: one that is there, and is no constant other than 0
abbrev pub needed_test_if : Bool → Expr → Option Expr
needed_test_if true e = None
needed_test_if false e = Some e

abbrev pub needed_test : Option Expr → Option Expr
needed_test None = None
needed_test (Some e) = needed_test_if (is_nonzero_constant e) e

-- an expression that may be missing, as a statement
abbrev pub optional_statement : Option Expr → List Stmt
optional_statement None = []
optional_statement (Some e) = expression_statement e ∷ []

-- statements behind the test of a loop, which is left where that fails
abbrev pub guarded : Option Expr → List Stmt → List Stmt
guarded None body = body
guarded (Some e) body = roll-Stmt (is.If e body (break_statement ∷ [])) ∷ []

-- a loop that is left by `break` alone
abbrev pub endless_loop : List Stmt → Stmt
endless_loop body = roll-Stmt (is.While constant_one body)

-- what a statement becomes, by what stands before each `continue` of the loop around it
abbrev pub Lowering : Type 0
Lowering = List Stmt → List Stmt

abbrev pub CaseLowering : Type 0
CaseLowering = List Stmt → Case

abbrev pub lower_each : List Lowering → Lowering
lower_each [] step = []
lower_each (f ∷ fs) step = f step ++ lower_each fs step

abbrev pub lower_each_case : List CaseLowering → List Stmt → List Case
lower_each_case [] step = []
lower_each_case (f ∷ fs) step = f step ∷ lower_each_case fs step

abbrev pub lower_in : is.Stmt-F Lowering CaseLowering → Lowering
lower_in (is.Do e) step = expression_statement e ∷ []
lower_in (is.If e these those) step = roll-Stmt (is.If e (lower_each these step) (lower_each those step)) ∷ []
lower_in (is.While e body) step = endless_loop (guarded (needed_test (Some e)) (lower_each body [])) ∷ []
lower_in (is.DoWhile body e) step = endless_loop (lower_each body [] ++ guarded (needed_test (Some e)) []) ∷ []
lower_in (is.For first test again body) step =
    optional_statement first ++ endless_loop (guarded (needed_test test) (lower_each body (optional_statement again) ++ optional_statement again)) ∷ []
lower_in (is.Switch e cases) step = roll-Stmt (is.Switch e (lower_each_case cases step)) ∷ []
lower_in is.Break step = break_statement ∷ []
lower_in is.Continue step = step ++ roll-Stmt is.Continue ∷ []
lower_in (is.Return e) step = roll-Stmt (is.Return e) ∷ []
lower_in is.Empty step = []
lower_in (is.Block body) step = lower_each body step

abbrev pub lower_case_in : is.Case-F Lowering CaseLowering → CaseLowering
lower_case_in c step = roll-Case (record { labels = c.labels; body = lower_each c.body step })

unfoldable pub lower : Stmt → Lowering
lower s = fold-Stmt Lowering CaseLowering lower_in lower_case_in s

unfoldable pub lower_case : Case → CaseLowering
lower_case c = fold-Case Lowering CaseLowering lower_in lower_case_in c

abbrev pub lower_list : List Stmt → Lowering
lower_list [] step = []
lower_list (s ∷ list) step = lower s step ++ lower_list list step

abbrev pub lower_cases : List Case → List Stmt → List Case
lower_cases [] step = []
lower_cases (c ∷ cases) step = lower_case c step ∷ lower_cases cases step

-- outside of loops there is no `continue`
abbrev pub lower_body : Func → List Stmt
lower_body f = lower_list f.body []

abbrev pub lower_func : Func → Func
lower_func f = record { name = f.name; sig = f.sig; entry = f.entry; params = f.params; locals = f.locals; body = lower_body f }

-- the program with other bodies; all else is the same
abbrev pub lower_program : Program → Program
lower_program p =
    record { target = p.target; roles = p.roles; structures = p.structures; devices = p.devices; objects = p.objects; funcs = map lower_func p.funcs; main = p.main }
