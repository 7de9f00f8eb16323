-- Whether the locals that an expression names are among the first ones of its function.
use Rattle.std.specs.Prelude.{◌&&◌, ℕ, Bool, true, List, Option, Some, None}
use Rattle.std.specs.Prelude.{nat_lt}
use Rattle.std.specs.List.{list_all}
use Rattle.cc_program.specs.declared.expr.Expr.{Expr, fold-Expr}
use Rattle.cc_program.specs.declared.expr.Expr.TheOpen as one
use Rattle.cc_program.specs.declared.expr.Place.{Place, fold-Place}

abbrev pub all_in : List Bool → Bool
all_in bs = list_all (λ b. b) bs

abbrev pub optional_in : Option Bool → Bool
optional_in None = true
optional_in (Some b) = b

module _ (n : ℕ) where
  abbrev pub names_step : one.Expr-F Bool Bool → Bool
  names_step (one.Const k t) = true
  names_step (one.Null t) = true
  names_step (one.FuncAddr f) = true
  names_step (one.Load a) = a
  names_step (one.AddrOf a) = a
  names_step (one.Un o t a) = a
  names_step (one.Bin o t a b) = a && b
  names_step (one.Conv t a) = a
  names_step (one.Qualify t a) = a
  names_step (one.Move a b back) = a && b
  names_step (one.Gap a b) = a && b
  names_step (one.Compare o a b) = a && b
  names_step (one.Both a b) = a && b
  names_step (one.Either a b) = a && b
  names_step (one.Choose c a b) = c && (a && b)
  names_step (one.Assign a e) = a && e
  names_step (one.Change a o t e) = a && e
  names_step (one.After a down) = a
  names_step (one.Call f args) = f && all_in args
  names_step (one.Intr i a) = optional_in a
  names_step (one.Seq a b) = a && b

  abbrev pub place_names_step : one.Place-F Bool Bool → Bool
  place_names_step (one.Local r) = nat_lt r n
  place_names_step (one.Static i) = true
  place_names_step (one.Device d) = true
  place_names_step (one.Element a i) = a && i
  place_names_step (one.Member a m) = a
  place_names_step (one.Deref e) = e

  -- each local that is named has an id below n
  unfoldable pub names_below : Expr → Bool
  names_below e = fold-Expr Bool Bool names_step place_names_step e

  unfoldable pub place_names_below : Place → Bool
  place_names_below a = fold-Place Bool Bool names_step place_names_step a
