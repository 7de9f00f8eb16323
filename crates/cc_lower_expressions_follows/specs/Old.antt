-- Expressions that name no local but those of p.
use Rattle.std.specs.Prelude.{ℕ, nat_lt, Bool, true, ◌&&◌, Option, Some, None}
use Rattle.cc_program.specs.declared.expr.Expr.{Expr, fold-Expr}
use Rattle.cc_program.specs.declared.expr.Expr.TheOpen as one
use Rattle.cc_program.specs.declared.expr.Place.{Place, fold-Place}
use Rattle.cc_lower_expressions_follows.specs.Region.{all_true}

abbrev pub old_operand : Option Bool → Bool
old_operand None = true
old_operand (Some a) = a

abbrev pub old_step : one.Expr-F Bool Bool → Bool
old_step (one.Const n t) = true
old_step (one.Null t) = true
old_step (one.FuncAddr f) = true
old_step (one.Load a) = a
old_step (one.AddrOf a) = a
old_step (one.Un o t a) = a
old_step (one.Bin o t a b) = a && b
old_step (one.Conv t a) = a
old_step (one.Qualify t a) = a
old_step (one.Move a b back) = a && b
old_step (one.Gap a b) = a && b
old_step (one.Compare o a b) = a && b
old_step (one.Both a b) = a && b
old_step (one.Either a b) = a && b
old_step (one.Choose c a b) = c && (a && b)
old_step (one.Assign a e) = a && e
old_step (one.Change a o t e) = a && e
old_step (one.After a down) = a
old_step (one.Call f args) = f && all_true args
old_step (one.Intr i a) = old_operand a
old_step (one.Seq a b) = a && b

module _ (base : ℕ) where
  abbrev pub place_old_step : one.Place-F Bool Bool → Bool
  place_old_step (one.Local r) = nat_lt r base
  place_old_step (one.Static i) = true
  place_old_step (one.Device d) = true
  place_old_step (one.Element a i) = a && i
  place_old_step (one.Member a m) = a
  place_old_step (one.Deref e) = e

  unfoldable pub is_old : Expr → Bool
  is_old e = fold-Expr Bool Bool old_step place_old_step e

  unfoldable pub is_old_place : Place → Bool
  is_old_place a = fold-Place Bool Bool old_step place_old_step a
