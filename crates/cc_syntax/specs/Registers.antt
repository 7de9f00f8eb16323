-- Registers: scalar locals that are not volatile and whose address is not taken.
use Rattle.std.specs.Prelude.{ℕ, Bool, false, not, ◌&&◌, ◌||◌, nat_eq, map, Option, Some, None, is_some, slice_get}
use Rattle.std.specs.List.{list_any}
use Rattle.cc_program.specs.declared.expr.Expr.{Expr, fold-Expr}
use Rattle.cc_program.specs.declared.expr.Expr.TheOpen as one
use Rattle.cc_program.specs.declared.expr.Place.{Place, fold-Place}
use Rattle.cc_program.specs.declared.func.Func.{Func}
use Rattle.cc_program.specs.declared.stmt.Stmt.{Stmt, fold-Stmt}
use Rattle.cc_program.specs.declared.stmt.Stmt.TheOpen as is
use Rattle.cc_syntax.specs.Types.{Named}
use Rattle.cc_syntax.specs.Values.{scalar_value}

abbrev pub by_operand : Option Bool → Bool
by_operand None = false
by_operand (Some taken) = taken

-- of a place: whether it is the local, and whether the local's address is taken in it
pub record PlaceUse : Type 0 where
  pub is_local : Bool
  pub address_taken : Bool

module _ (local : ℕ) where
  abbrev pub address_step : one.Expr-F Bool PlaceUse → Bool
  address_step (one.Const n t) = false
  address_step (one.Null t) = false
  address_step (one.FuncAddr f) = false
  address_step (one.Load a) = a.address_taken
  address_step (one.AddrOf a) = a.is_local || a.address_taken
  address_step (one.Un o t a) = a
  address_step (one.Bin o t a b) = a || b
  address_step (one.Conv t a) = a
  address_step (one.Qualify t a) = a
  address_step (one.Move a b back) = a || b
  address_step (one.Gap a b) = a || b
  address_step (one.Compare o a b) = a || b
  address_step (one.Both a b) = a || b
  address_step (one.Either a b) = a || b
  address_step (one.Choose c a b) = c || (a || b)
  address_step (one.Assign a e) = a.address_taken || e
  address_step (one.Change a o t e) = a.address_taken || e
  address_step (one.After a down) = a.address_taken
  address_step (one.Call f args) = f || list_any (λ b. b) args
  address_step (one.Intr i a) = by_operand a
  address_step (one.Seq a b) = a || b

  abbrev pub use_step : one.Place-F Bool PlaceUse → PlaceUse
  use_step (one.Local r) = record { is_local = nat_eq r local; address_taken = false }
  use_step (one.Static i) = record { is_local = false; address_taken = false }
  use_step (one.Device d) = record { is_local = false; address_taken = false }
  use_step (one.Element a i) = record { is_local = false; address_taken = a.address_taken || i }
  use_step (one.Member a m) = record { is_local = false; address_taken = a.address_taken }
  use_step (one.Deref e) = record { is_local = false; address_taken = e }

  -- whether the local's address is taken in an expression
  unfoldable pub is_address_taken : Expr → Bool
  is_address_taken e = fold-Expr Bool PlaceUse address_step use_step e

  unfoldable pub place_use : Place → PlaceUse
  place_use a = fold-Place Bool PlaceUse address_step use_step a

  abbrev pub is_taken_in_optional : Option Expr → Bool
  is_taken_in_optional None = false
  is_taken_in_optional (Some e) = is_address_taken e

  abbrev pub stmt_step : is.Stmt-F Bool Bool → Bool
  stmt_step (is.Do e) = is_address_taken e
  stmt_step (is.If e a b) = is_address_taken e || (list_any (λ b. b) a || list_any (λ b. b) b)
  stmt_step (is.While e a) = is_address_taken e || list_any (λ b. b) a
  stmt_step (is.DoWhile a e) = list_any (λ b. b) a || is_address_taken e
  stmt_step (is.For first test step a) = is_taken_in_optional first || (is_taken_in_optional test || (is_taken_in_optional step || list_any (λ b. b) a))
  stmt_step (is.Switch e cases) = is_address_taken e || list_any (λ b. b) cases
  stmt_step is.Break = false
  stmt_step is.Continue = false
  stmt_step (is.Return e) = is_taken_in_optional e
  stmt_step is.Empty = false
  stmt_step (is.Block a) = list_any (λ b. b) a

  abbrev pub is_taken_in : Stmt → Bool
  is_taken_in s = fold-Stmt Bool Bool stmt_step (λ c. list_any (λ b. b) c.body) s

-- whether the address of a local of the function is taken in its body, reached or not
abbrev pub is_addressed : Func → ℕ → Bool
is_addressed f local = list_any (λ b. b) (map (is_taken_in local) f.body)

abbrev pub may_be_register : Option Named → Bool
may_be_register None = false
may_be_register (Some l) = is_some (scalar_value l.1) && not l.1.volatile

unfoldable pub is_register : Func → ℕ → Bool
is_register f r = may_be_register (slice_get f.locals r) && not (is_addressed f r)
