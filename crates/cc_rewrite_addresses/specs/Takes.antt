-- Whether expressions and statements take the address of a place in a static object that fails a test (C99 6.5.3.2).
use Rattle.std.specs.Prelude.{◌≡◌, ℕ, Bool, false, not, ◌||◌, All, true, List, map, Option, Some, None}
use Rattle.std.specs.List.{list_any}
use Rattle.cc_program.specs.declared.expr.Expr.{Expr, fold-Expr}
use Rattle.cc_program.specs.declared.expr.Expr.TheOpen as one
use Rattle.cc_program.specs.declared.expr.Place.{Place, fold-Place}
use Rattle.cc_program.specs.declared.func.Func.{Func}
use Rattle.cc_program.specs.declared.object.Object.{Object}
use Rattle.cc_program.specs.declared.program.Program.{Program}
use Rattle.cc_program.specs.declared.stmt.Case.{Case, fold-Case}
use Rattle.cc_program.specs.declared.stmt.Stmt.{Stmt, fold-Stmt}
use Rattle.cc_program.specs.declared.stmt.Stmt.TheOpen as is
use Rattle.cc_rewrite_renamed.specs.Names.{names_in_leaf}

-- of a place: whether the object that it lies in is one that fails, and whether such an address is taken inside it. What a pointer points to lies
-- in no object of its own.
pub record InPlace : Type 0 where
  pub own : Bool
  pub taken : Bool

abbrev pub any_of : List Bool → Bool
any_of bs = list_any (λ b. b) bs

abbrev pub in_operand : Option Bool → Bool
in_operand None = false
in_operand (Some b) = b

abbrev pub expr_step : one.Expr-F Bool InPlace → Bool
expr_step (one.Const n t) = false
expr_step (one.Null t) = false
expr_step (one.FuncAddr f) = false
expr_step (one.Load a) = a.taken
expr_step (one.AddrOf a) = a.own || a.taken
expr_step (one.Un o t a) = a
expr_step (one.Bin o t a b) = a || b
expr_step (one.Conv t a) = a
expr_step (one.Qualify t a) = a
expr_step (one.Move a b back) = a || b
expr_step (one.Gap a b) = a || b
expr_step (one.Compare o a b) = a || b
expr_step (one.Both a b) = a || b
expr_step (one.Either a b) = a || b
expr_step (one.Choose c a b) = c || (a || b)
expr_step (one.Assign a e) = a.taken || e
expr_step (one.Change a o t e) = a.taken || e
expr_step (one.After a down) = a.taken
expr_step (one.Call f args) = f || any_of args
expr_step (one.Intr i a) = in_operand a
expr_step (one.Seq a b) = a || b

module _ (test : ℕ → Bool) where
  abbrev pub place_step : one.Place-F Bool InPlace → InPlace
  place_step (one.Local r) = record { own = false; taken = false }
  place_step (one.Static i) = record { own = not (test i); taken = false }
  place_step (one.Device d) = record { own = false; taken = false }
  place_step (one.Element a i) = record { own = a.own; taken = a.taken || i }
  place_step (one.Member a m) = record { own = a.own; taken = a.taken }
  place_step (one.Deref e) = record { own = false; taken = e }

  unfoldable pub takes_other : Expr → Bool
  takes_other e = fold-Expr Bool InPlace expr_step place_step e

  unfoldable pub in_place : Place → InPlace
  in_place a = fold-Place Bool InPlace expr_step place_step a

  -- ---- statements

  abbrev pub optional_takes : Option Expr → Bool
  optional_takes None = false
  optional_takes (Some e) = takes_other e

  abbrev pub stmt_step : is.Stmt-F Bool Bool → Bool
  stmt_step (is.Do e) = takes_other e
  stmt_step (is.If e a b) = takes_other e || (any_of a || any_of b)
  stmt_step (is.While e a) = takes_other e || any_of a
  stmt_step (is.DoWhile a e) = any_of a || takes_other e
  stmt_step (is.For first test again a) = optional_takes first || (optional_takes test || (optional_takes again || any_of a))
  stmt_step (is.Switch e cases) = takes_other e || any_of cases
  stmt_step is.Break = false
  stmt_step is.Continue = false
  stmt_step (is.Return e) = optional_takes e
  stmt_step is.Empty = false
  stmt_step (is.Block a) = any_of a

  unfoldable pub stmt_takes : Stmt → Bool
  stmt_takes s = fold-Stmt Bool Bool stmt_step (λ c. any_of c.body) s

  unfoldable pub case_takes : Case → Bool
  case_takes c = fold-Case Bool Bool stmt_step (λ c. any_of c.body) c

  -- ---- a program that takes no such address, neither in its functions nor in first values

  abbrev pub TakesNone : Func → Type 0
  TakesNone f = any_of (map stmt_takes f.body) ≡ false

  abbrev pub NamesNone : Object → Type 0
  NamesNone o = All (λ l. names_in_leaf test l ≡ true) o.init

  pub record AreAddressesIn (p : Program) : Type 0 where
    pub text : All TakesNone p.funcs
    pub first : All NamesNone p.objects
