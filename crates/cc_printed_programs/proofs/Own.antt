-- With their own numbers expressions and statements are as they were.
use Rattle.std.proofs.Common.{◌≡◌, ◌∙◌, List, [], ◌∷◌, map, Option, Some, None, option_map, refl, ap, sym}
use Rattle.cc_program.proofs.Each.{Each}
use Rattle.cc_program.proofs.ExprInduction.{Parts, PlaceParts, by_expr}
use Rattle.cc_program.proofs.StmtInduction.{StmtParts, CaseParts, by_stmt}
use Rattle.cc_program.specs.declared.expr.Expr.{Expr, Null, Qualify, Call, Intr, roll-Expr, map-Expr}
use Rattle.cc_program.specs.declared.expr.Expr.TheOpen as one
use Rattle.cc_program.specs.declared.expr.Expr.TheVariants as rolls
use Rattle.cc_program.specs.declared.expr.Place.{Place, roll-Place, map-Place}
use Rattle.cc_program.specs.declared.expr.Place.TheVariants as places
use Rattle.cc_program.specs.declared.stmt.Case.{Case, roll-Case, out-roll-Case}
use Rattle.cc_program.specs.declared.stmt.Stmt.{Stmt, roll-Stmt, out-roll-Stmt, map-Stmt}
use Rattle.cc_program.specs.declared.stmt.Stmt.TheOpen as is
use Rattle.cc_program.specs.declared.stmt.Stmt.TheVariants as stmts
use Rattle.cc_program.specs.declared.types.CType.{CType}
use Rattle.cc_program.specs.declared.value.Address.TheVariants as address
use Rattle.cc_program.specs.declared.value.Leaf.{Leaf}
use Rattle.cc_program.specs.declared.value.Leaf.TheVariants as leaf
use Rattle.cc_program.specs.declared.value.Root.TheVariants as root
use Rattle.cc_shown_declarations.specs.Numbers.{leaf_numbered}
use Rattle.cc_shown_effects.proofs.Levels.{case-numbered}
use Rattle.cc_shown_effects.specs.Numbers.{stmt_numbered, case_numbered, stmt_step}
use Rattle.cc_shown_effects.proofs.Lines.{stmt-at}
use Rattle.cc_shown_expressions.proofs.Identity.{stays}
use Rattle.cc_shown_expressions.specs.OperationNumbers.{Numbers, expr_numbered, place_numbered}
use Rattle.cc_shown_expressions.specs.OperationNumbers.{expr_step as number_step, place_step as number_place_step}
use Rattle.cc_printed_programs.specs.Numbers.{own_numbers}
use Rattle.cc_printed_programs.proofs.Expressions.{numbered-roll, place-roll}

abbrev own : Numbers
own = own_numbers

abbrev IsOwn : Expr → Type 0
IsOwn e = expr_numbered own e ≡ e

abbrev IsOwnPlace : Place → Type 0
IsOwnPlace a = place_numbered own a ≡ a

args-own : (es : List Expr) → Each IsOwn es → map (expr_numbered own) es ≡ es
args-own [] h = refl
args-own (e ∷ es) h = ap (λ (x : Expr). x ∷ map (expr_numbered own) es) h.0 ∙ ap (λ (xs : List Expr). e ∷ xs) (args-own es h.1)

step-own : (x : one.Expr-F Expr Place) → Parts IsOwn IsOwnPlace x → number_step own (map-Expr Expr Place Expr Place (expr_numbered own) (place_numbered own) x) ≡ roll-Expr x
step-own (one.Const k t) h = sym (rolls.rolls-Const k t)
step-own (one.Null t) h = ap (λ (u : CType). Null u) (stays t) ∙ sym (rolls.rolls-Null t)
step-own (one.FuncAddr i) h = sym (rolls.rolls-FuncAddr i)
step-own (one.Load a) h = rw h (sym (rolls.rolls-Load a))
step-own (one.AddrOf a) h = rw h (sym (rolls.rolls-AddrOf a))
step-own (one.Un o t a) h = rw h (sym (rolls.rolls-Un o t a))
step-own (one.Bin o t a b) h = rw (h.0, h.1) (sym (rolls.rolls-Bin o t a b))
step-own (one.Conv t a) h = rw h (sym (rolls.rolls-Conv t a))
step-own (one.Qualify t a) h = ap (λ (u : CType). Qualify u (expr_numbered own a)) (stays t) ∙ (ap (λ (b : Expr). Qualify t b) h ∙ sym (rolls.rolls-Qualify t a))
step-own (one.Move a b back) h = rw (h.0, h.1) (sym (rolls.rolls-Move a b back))
step-own (one.Gap a b) h = rw (h.0, h.1) (sym (rolls.rolls-Gap a b))
step-own (one.Compare o a b) h = rw (h.0, h.1) (sym (rolls.rolls-Compare o a b))
step-own (one.Both a b) h = rw (h.0, h.1) (sym (rolls.rolls-Both a b))
step-own (one.Either a b) h = rw (h.0, h.1) (sym (rolls.rolls-Either a b))
step-own (one.Choose c a b) h = rw (h.0, h.1, h.2) (sym (rolls.rolls-Choose c a b))
step-own (one.Assign a e) h = rw (h.0, h.1) (sym (rolls.rolls-Assign a e))
step-own (one.Change a o t e) h = rw (h.0, h.1) (sym (rolls.rolls-Change a o t e))
step-own (one.After a down) h = rw h (sym (rolls.rolls-After a down))
step-own (one.Call g args) h = ap (λ (b : Expr). Call b (map (expr_numbered own) args)) h.0 ∙ (ap (λ (bs : List Expr). Call g bs) (args-own args h.1) ∙ sym (rolls.rolls-Call g args))
step-own (one.Intr i None) h = sym (rolls.rolls-Intr i None)
step-own (one.Intr i (Some a)) h = ap (λ (b : Expr). Intr i (Some b)) h ∙ sym (rolls.rolls-Intr i (Some a))
step-own (one.Seq a b) h = rw (h.0, h.1) (sym (rolls.rolls-Seq a b))

place-own-step : (x : one.Place-F Expr Place) → PlaceParts IsOwn IsOwnPlace x → number_place_step own (map-Place Expr Place Expr Place (expr_numbered own) (place_numbered own) x) ≡ roll-Place x
place-own-step (one.Local r) h = sym (places.rolls-Local r)
place-own-step (one.Static i) h = sym (places.rolls-Static i)
place-own-step (one.Device i) h = sym (places.rolls-Device i)
place-own-step (one.Element a i) h = rw (h.0, h.1) (sym (places.rolls-Element a i))
place-own-step (one.Member a k) h = rw h (sym (places.rolls-Member a k))
place-own-step (one.Deref e) h = rw h (sym (places.rolls-Deref e))

made : (x : one.Expr-F Expr Place) → Parts IsOwn IsOwnPlace x → IsOwn (roll-Expr x)
made x h = numbered-roll own x ∙ step-own x h

made_place : (x : one.Place-F Expr Place) → PlaceParts IsOwn IsOwnPlace x → IsOwnPlace (roll-Place x)
made_place x h = place-roll own x ∙ place-own-step x h

pub expr-own : (e : Expr) → expr_numbered own_numbers e ≡ e
expr-own = by_expr IsOwn IsOwnPlace made made_place

-- ---- statements

abbrev IsOwnStmt : Stmt → Type 0
IsOwnStmt s = stmt_numbered own s ≡ s

abbrev IsOwnCase : Case → Type 0
IsOwnCase c = case_numbered own c ≡ c

all-own : (ss : List Stmt) → Each IsOwnStmt ss → map (stmt_numbered own) ss ≡ ss
all-own [] h = refl
all-own (s ∷ ss) h = ap (λ (x : Stmt). x ∷ map (stmt_numbered own) ss) h.0 ∙ ap (λ (xs : List Stmt). s ∷ xs) (all-own ss h.1)

cases-own : (cs : List Case) → Each IsOwnCase cs → map (case_numbered own) cs ≡ cs
cases-own [] h = refl
cases-own (c ∷ cs) h = ap (λ (x : Case). x ∷ map (case_numbered own) cs) h.0 ∙ ap (λ (xs : List Case). c ∷ xs) (cases-own cs h.1)

maybe-own : (e : Option Expr) → option_map (expr_numbered own) e ≡ e
maybe-own None = refl
maybe-own (Some e) = ap (λ (x : Expr). Some x) (expr-own e)

stmt-own-step : (x : is.Stmt-F Stmt Case) → StmtParts IsOwnStmt IsOwnCase x → stmt_step own (map-Stmt Stmt Case Stmt Case (stmt_numbered own) (case_numbered own) x) ≡ roll-Stmt x
stmt-own-step (is.Do e) h = rw (expr-own e) (sym (stmts.rolls-Do e))
stmt-own-step (is.If e a b) h = rw (expr-own e, all-own a h.0, all-own b h.1) (sym (stmts.rolls-If e a b))
stmt-own-step (is.While e a) h = rw (expr-own e, all-own a h) (sym (stmts.rolls-While e a))
stmt-own-step (is.DoWhile a e) h = rw (expr-own e, all-own a h) (sym (stmts.rolls-DoWhile a e))
stmt-own-step (is.For first test again a) h = rw (maybe-own first, maybe-own test, maybe-own again, all-own a h) (sym (stmts.rolls-For first test again a))
stmt-own-step (is.Switch e cases) h = rw (expr-own e, cases-own cases h) (sym (stmts.rolls-Switch e cases))
stmt-own-step is.Break h = sym stmts.rolls-Break
stmt-own-step is.Continue h = sym stmts.rolls-Continue
stmt-own-step (is.Return e) h = rw (maybe-own e) (sym (stmts.rolls-Return e))
stmt-own-step is.Empty h = sym stmts.rolls-Empty
stmt-own-step (is.Block a) h = rw (all-own a h) (sym (stmts.rolls-Block a))

made_stmt : (x : is.Stmt-F Stmt Case) → StmtParts IsOwnStmt IsOwnCase x → IsOwnStmt (roll-Stmt x)
made_stmt x h = stmt-at own (roll-Stmt x) x (out-roll-Stmt x) ∙ stmt-own-step x h

made_case : (x : is.Case-F Stmt Case) → CaseParts IsOwnStmt IsOwnCase x → IsOwnCase (roll-Case x)
made_case x h =
    case-numbered own (roll-Case x)
    ∙ (ap (λ (y : is.Case-F Stmt Case). roll-Case (record { labels = y.labels; body = map (stmt_numbered own) y.body })) (out-roll-Case x)
    ∙ ap (λ (ss : List Stmt). roll-Case (record { labels = x.labels; body = ss })) (all-own x.body h))

pub stmt-own : (s : Stmt) → stmt_numbered own_numbers s ≡ s
stmt-own = by_stmt IsOwnStmt IsOwnCase made_stmt made_case

-- ---- first values

pub leaf-own : (l : Leaf) → leaf_numbered own_numbers l ≡ l
leaf-own (leaf.Int k) = refl
leaf-own (leaf.Place address.Null) = refl
leaf-own (leaf.Place (address.Func f)) = refl
leaf-own (leaf.Place (address.At (root.Static i) path index count)) = refl
leaf-own (leaf.Place (address.At (root.Auto activation f local) path index count)) = refl
