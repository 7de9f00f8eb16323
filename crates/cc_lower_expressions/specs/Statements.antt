-- Statements whose full expressions are in normal form. Their temporaries are numbered through the whole body, in the order of the lists.
use Rattle.std.specs.Prelude.{ℤ, Bool, List, [], ◌∷◌, map, Option, Some, None, if◌then◌else◌}
use Rattle.cc_program.specs.declared.expr.Expr.{Expr, roll-Expr, map-Expr, fold-Expr}
use Rattle.cc_program.specs.declared.expr.Expr.TheOpen as one
use Rattle.cc_program.specs.declared.expr.Place.{Place, roll-Place, map-Place}
use Rattle.cc_program.specs.declared.func.Func.{Func}
use Rattle.cc_program.specs.declared.program.Program.{Program}
use Rattle.cc_program.specs.declared.stmt.Case.{Case, roll-Case, fold-Case}
use Rattle.cc_program.specs.declared.stmt.Stmt.{Stmt, While, DoWhile, For, Switch, Break, Continue, Return, Empty, Block, fold-Stmt}
use Rattle.cc_program.specs.declared.stmt.Stmt.TheOpen as is
use Rattle.cc_eval.specs.CcSyntax.Effects.{Registers, also, no_one}
use Rattle.cc_lower_expressions.specs.Expressions.{Piece, piece, Make, done, ◌>>=◌, emit, fork, with_both, Lowering, lowering}
use Rattle.cc_lower_expressions.specs.Temporaries.{declared_type, is_same_type}

-- one after the other
abbrev pub in_turn : List (Make (Unit {0})) → Make (Unit {0})
in_turn [] = done tt
in_turn (m ∷ ms) = m >>= (λ u. in_turn ms)

abbrev pub all_made : {A : Type 0} → List (Make A) → Make (List A)
all_made [] = done []
all_made (m ∷ ms) = with_both (λ x xs. x ∷ xs) m (all_made ms)

-- a statement round what is made
abbrev pub around : (List Stmt → Stmt) → Piece (Unit {0}) → Piece (Unit {0})
around f x = piece x.temps (f x.stmts ∷ []) tt

abbrev pub inside : (List Stmt → Stmt) → Make (Unit {0}) → Make (Unit {0})
inside f m k = around f (m k)

abbrev pub case_of : List (Option ℤ) → Piece (Unit {0}) → Piece Case
case_of labels x = piece x.temps [] (roll-Case (record { labels = labels; body = x.stmts }))

-- what is done where a condition holds; later operands of the full expression assign these registers
abbrev pub Guard : Type 0
Guard = Registers → Make (Unit {0}) → Make (Unit {0})

abbrev pub if_operand : Lowering → Guard
if_operand c later these = c.operand later >>= (λ v. fork v these (done tt))

-- an `&&` that is pure is an operand, and one that is not pure is two conditions, of which the second one assigns these registers
abbrev pub if_both : Lowering → Registers → Guard → Guard → Guard
if_both c assigned a b later these = if c.effects.pure later then if_operand c later these else a (also assigned later) (b later these)

pub record Condition : Type 0 where
  pub itself : Expr
  pub guard : Guard

module _ (p : Program) (f : Func) where
  abbrev pub lowered : Expr → Lowering
  lowered e = lowering p f declared_type is_same_type e

  -- ---- conditions of an `if` without `else`

  abbrev pub itself_of : one.Expr-F Condition Place → Expr
  itself_of x = roll-Expr (map-Expr Condition Place Expr Place (λ c. c.itself) (λ a. a) x)

  abbrev pub guard_by : Lowering → one.Expr-F Condition Place → Guard
  guard_by c (one.Both a b) = if_both c (lowered b.itself).effects.assigned a.guard b.guard
  guard_by c (one.Const n t) = if_operand c
  guard_by c (one.Null t) = if_operand c
  guard_by c (one.FuncAddr g) = if_operand c
  guard_by c (one.Load a) = if_operand c
  guard_by c (one.AddrOf a) = if_operand c
  guard_by c (one.Un o t a) = if_operand c
  guard_by c (one.Bin o t a b) = if_operand c
  guard_by c (one.Conv t a) = if_operand c
  guard_by c (one.Qualify t a) = if_operand c
  guard_by c (one.Move a b back) = if_operand c
  guard_by c (one.Gap a b) = if_operand c
  guard_by c (one.Compare o a b) = if_operand c
  guard_by c (one.Either a b) = if_operand c
  guard_by c (one.Choose d a b) = if_operand c
  guard_by c (one.Assign a e) = if_operand c
  guard_by c (one.Change a o t e) = if_operand c
  guard_by c (one.After a down) = if_operand c
  guard_by c (one.Call g args) = if_operand c
  guard_by c (one.Intr i a) = if_operand c
  guard_by c (one.Seq a b) = if_operand c

  abbrev pub condition_step : one.Expr-F Condition Place → Condition
  condition_step x = record { itself = itself_of x; guard = guard_by (lowered (itself_of x)) x }

  abbrev pub place_itself : one.Place-F Condition Place → Place
  place_itself a = roll-Place (map-Place Condition Place Expr Place (λ c. c.itself) (λ b. b) a)

  unfoldable pub condition : Expr → Condition
  condition e = fold-Expr Condition Place condition_step place_itself e

  -- ---- statements; each full expression is lowered with no later operands

  abbrev pub choice : Expr → List (Make (Unit {0})) → List (Make (Unit {0})) → Make (Unit {0})
  choice e these [] = (condition e).guard no_one (in_turn these)
  choice e these (m ∷ ms) = (lowered e).operand no_one >>= (λ v. fork v (in_turn these) (in_turn (m ∷ ms)))

  abbrev pub returned : Option Expr → Make (Unit {0})
  returned None = emit (Return None)
  returned (Some e) = (lowered e).operand no_one >>= (λ v. emit (Return (Some v)))

  -- of the loops there is `while (1)` alone, whose test stays; other loops, blocks and empty statements stay, with their bodies lowered
  abbrev pub lower_in : is.Stmt-F (Make (Unit {0})) (Make Case) → Make (Unit {0})
  lower_in (is.Do e) = (lowered e).effect no_one
  lower_in (is.If e these those) = choice e these those
  lower_in (is.While e body) = inside (While e) (in_turn body)
  lower_in (is.DoWhile body e) = inside (λ s. DoWhile s e) (in_turn body)
  lower_in (is.For first test again body) = inside (For first test again) (in_turn body)
  lower_in (is.Switch e cases) = (lowered e).operand no_one >>= (λ v. all_made cases >>= (λ cs. emit (Switch v cs)))
  lower_in is.Break = emit Break
  lower_in is.Continue = emit Continue
  lower_in (is.Return e) = returned e
  lower_in is.Empty = emit Empty
  lower_in (is.Block body) = inside Block (in_turn body)

  abbrev pub lower_case_in : is.Case-F (Make (Unit {0})) (Make Case) → Make Case
  lower_case_in c k = case_of c.labels (in_turn c.body k)

  unfoldable pub lower : Stmt → Make (Unit {0})
  lower s = fold-Stmt (Make (Unit {0})) (Make Case) lower_in lower_case_in s

  unfoldable pub lower_case : Case → Make Case
  lower_case c = fold-Case (Make (Unit {0})) (Make Case) lower_in lower_case_in c

  abbrev pub lower_list : List Stmt → Make (Unit {0})
  lower_list list = in_turn (map lower list)

  abbrev pub lower_cases : List Case → Make (List Case)
  lower_cases cases = all_made (map lower_case cases)
