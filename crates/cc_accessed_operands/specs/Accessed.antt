-- Which devices the text of a program reads or writes, whatever its form.
use Rattle.std.specs.Prelude.{◌≡◌, ℕ, Bool, true, false, ◌||◌, nat_eq, List, map, Option, Some, None, slice_get}
use Rattle.std.specs.List.{list_any}
use Rattle.cc_program.specs.declared.expr.Expr.{Expr, fold-Expr}
use Rattle.cc_program.specs.declared.expr.Expr.TheOpen as one
use Rattle.cc_program.specs.declared.expr.Place.{Place, fold-Place}
use Rattle.cc_program.specs.declared.object.Device.{Device}
use Rattle.cc_program.specs.declared.program.Program.{Program}
use Rattle.cc_program.specs.declared.stmt.Stmt.{Stmt, fold-Stmt}
use Rattle.cc_program.specs.declared.stmt.Stmt.TheOpen as is
use Rattle.cc_operands.specs.CcSyntax.Normal.{has_name}

-- of a place: whether it is the device, and whether the device is accessed by an expression in it
pub record PlaceAccess : Type 0 where
  pub is_device : Bool
  pub inside : Bool

abbrev pub of_place : PlaceAccess → Bool
of_place a = a.is_device || a.inside

abbrev pub of_optional : Option Bool → Bool
of_optional None = false
of_optional (Some a) = a

module _ (device : ℕ) where
  abbrev pub access_step : one.Expr-F Bool PlaceAccess → Bool
  access_step (one.Const n t) = false
  access_step (one.Null t) = false
  access_step (one.FuncAddr f) = false
  access_step (one.Load a) = of_place a
  access_step (one.AddrOf a) = a.inside
  access_step (one.Un o t a) = a
  access_step (one.Bin o t a b) = a || b
  access_step (one.Conv t a) = a
  access_step (one.Qualify t a) = a
  access_step (one.Move a b back) = a || b
  access_step (one.Gap a b) = a || b
  access_step (one.Compare o a b) = a || b
  access_step (one.Both a b) = a || b
  access_step (one.Either a b) = a || b
  access_step (one.Choose c a b) = c || (a || b)
  access_step (one.Assign a e) = of_place a || e
  access_step (one.Change a o t e) = of_place a || e
  access_step (one.After a down) = of_place a
  access_step (one.Call f args) = f || list_any (λ b. b) args
  access_step (one.Intr i a) = of_optional a
  access_step (one.Seq a b) = a || b

  abbrev pub place_access_step : one.Place-F Bool PlaceAccess → PlaceAccess
  place_access_step (one.Local r) = record { is_device = false; inside = false }
  place_access_step (one.Static i) = record { is_device = false; inside = false }
  place_access_step (one.Device d) = record { is_device = nat_eq device d; inside = false }
  place_access_step (one.Element a i) = record { is_device = false; inside = a.inside || i }
  place_access_step (one.Member a m) = record { is_device = false; inside = a.inside }
  place_access_step (one.Deref e) = record { is_device = false; inside = e }

  -- whether an expression reads or writes the device
  unfoldable pub accesses : Expr → Bool
  accesses e = fold-Expr Bool PlaceAccess access_step place_access_step e

  unfoldable pub place_access : Place → PlaceAccess
  place_access a = fold-Place Bool PlaceAccess access_step place_access_step a

  abbrev pub optional_accesses : Option Expr → Bool
  optional_accesses None = false
  optional_accesses (Some e) = accesses e

  abbrev pub stmt_access_step : is.Stmt-F Bool Bool → Bool
  stmt_access_step (is.Do e) = accesses e
  stmt_access_step (is.If e a b) = accesses e || (list_any (λ b. b) a || list_any (λ b. b) b)
  stmt_access_step (is.While e a) = accesses e || list_any (λ b. b) a
  stmt_access_step (is.DoWhile a e) = accesses e || list_any (λ b. b) a
  stmt_access_step (is.For first test again a) = optional_accesses first || (optional_accesses test || (optional_accesses again || list_any (λ b. b) a))
  stmt_access_step (is.Switch e cases) = accesses e || list_any (λ b. b) cases
  stmt_access_step is.Break = false
  stmt_access_step is.Continue = false
  stmt_access_step (is.Return e) = optional_accesses e
  stmt_access_step is.Empty = false
  stmt_access_step (is.Block a) = list_any (λ b. b) a

  unfoldable pub stmt_accesses : Stmt → Bool
  stmt_accesses s = fold-Stmt Bool Bool stmt_access_step (λ c. list_any (λ b. b) c.body) s

  abbrev pub list_accesses : List Stmt → Bool
  list_accesses list = list_any (λ b. b) (map stmt_accesses list)

-- whether a function of the program reads or writes the device
abbrev pub is_accessed : Program → ℕ → Bool
is_accessed p device = list_any (λ f. list_accesses device f.body) p.funcs

-- so is each device without a name
abbrev pub AreDevicesAccessed : Program → Type 0
AreDevicesAccessed p = (i : ℕ) (d : Device) → slice_get p.devices i ≡ Some d → has_name d ≡ false → is_accessed p i ≡ true
