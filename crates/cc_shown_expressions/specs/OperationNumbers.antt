-- Expressions and places with other numbers: those that a translation unit gives to structures, objects, devices and
-- functions, for those that each kind has in a program.
use Rattle.std.specs.Prelude.{ℕ}
use Rattle.cc_program.specs.declared.expr.Expr.{Expr, Const, Null, FuncAddr, Load, AddrOf, Un, Bin, Conv, Qualify, Move, Gap, Compare, Both, Either, Choose, Assign, Change, After, Call, Intr, Seq, fold-Expr}
use Rattle.cc_program.specs.declared.expr.Expr.TheOpen as one
use Rattle.cc_program.specs.declared.expr.Place.{Place, Local, Static, Device, Element, Member, Deref, fold-Place}
use Rattle.cc_shown_expressions.specs.Numbers.{type_numbered}

pub record Numbers : Type 0 where
  pub structure : ℕ → ℕ
  pub object : ℕ → ℕ
  pub device : ℕ → ℕ
  pub func : ℕ → ℕ

module _ (n : Numbers) where
  abbrev pub expr_step : one.Expr-F Expr Place → Expr
  expr_step (one.Const k t) = Const k t
  expr_step (one.Null t) = Null (type_numbered n.structure t)
  expr_step (one.FuncAddr f) = FuncAddr (n.func f)
  expr_step (one.Load a) = Load a
  expr_step (one.AddrOf a) = AddrOf a
  expr_step (one.Un o t a) = Un o t a
  expr_step (one.Bin o t a b) = Bin o t a b
  expr_step (one.Conv t a) = Conv t a
  expr_step (one.Qualify t a) = Qualify (type_numbered n.structure t) a
  expr_step (one.Move a b back) = Move a b back
  expr_step (one.Gap a b) = Gap a b
  expr_step (one.Compare o a b) = Compare o a b
  expr_step (one.Both a b) = Both a b
  expr_step (one.Either a b) = Either a b
  expr_step (one.Choose c a b) = Choose c a b
  expr_step (one.Assign a e) = Assign a e
  expr_step (one.Change a o t e) = Change a o t e
  expr_step (one.After a down) = After a down
  expr_step (one.Call f args) = Call f args
  expr_step (one.Intr i a) = Intr i a
  expr_step (one.Seq a b) = Seq a b

  abbrev pub place_step : one.Place-F Expr Place → Place
  place_step (one.Local r) = Local r
  place_step (one.Static i) = Static (n.object i)
  place_step (one.Device d) = Device (n.device d)
  place_step (one.Element a i) = Element a i
  place_step (one.Member a m) = Member a m
  place_step (one.Deref e) = Deref e

  unfoldable pub expr_numbered : Expr → Expr
  expr_numbered e = fold-Expr Expr Place expr_step place_step e

  unfoldable pub place_numbered : Place → Place
  place_numbered a = fold-Place Expr Place expr_step place_step a
