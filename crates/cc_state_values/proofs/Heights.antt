-- How high expressions and places are: a measure of the recursion over them.
use Rattle.std.proofs.Common.{◌≡◌, ℕ, ◌+◌, max, ap, sym, ◌∙◌}
use Rattle.cc_program.specs.CcNum.declared.int_type.IntType.{IntType}
use Rattle.cc_program.specs.CcNum.declared.op.BinOp.{BinOp}
use Rattle.cc_program.specs.CcNum.declared.op.UnOp.{UnOp}
use Rattle.std.specs.Prelude.{Bool}
use Rattle.cc_program.specs.declared.expr.Expr.{Expr, out-Expr, roll-Expr, roll-out-Expr, map-Expr, fold-Expr, fold-roll-Expr}
use Rattle.cc_program.specs.declared.expr.Expr.TheOpen as one
use Rattle.cc_program.specs.declared.expr.Place.{Place, out-Place, roll-Place, roll-out-Place, map-Place, fold-Place, fold-roll-Place}
use Rattle.cc_program.specs.declared.types.CType.{CType}

-- of those that pure expressions have
abbrev height_step : one.Expr-F ℕ ℕ → ℕ
height_step (one.Const n t) = 0
height_step (one.Null t) = 0
height_step (one.FuncAddr f) = 0
height_step (one.Load a) = a + 1
height_step (one.AddrOf a) = a + 1
height_step (one.Un o t a) = a + 1
height_step (one.Bin o t a b) = max a b + 1
height_step (one.Conv t a) = a + 1
height_step (one.Qualify t a) = a + 1
height_step (one.Move a b back) = max a b + 1
height_step (one.Gap a b) = max a b + 1
height_step (one.Compare o a b) = max a b + 1
height_step (one.Both a b) = max a b + 1
height_step (one.Either a b) = max a b + 1
height_step (one.Choose d a b) = max d (max a b) + 1
height_step (one.Assign a e) = 0
height_step (one.Change a o t e) = 0
height_step (one.After a down) = 0
height_step (one.Call f args) = 0
height_step (one.Intr i a) = 0
height_step (one.Seq a b) = 0

abbrev place_height_step : one.Place-F ℕ ℕ → ℕ
place_height_step (one.Local r) = 0
place_height_step (one.Static i) = 0
place_height_step (one.Device n) = 0
place_height_step (one.Element a i) = max a i + 1
place_height_step (one.Member a m) = a + 1
place_height_step (one.Deref e) = e + 1

unfoldable pub height : Expr → ℕ
height e = fold-Expr ℕ ℕ height_step place_height_step e

unfoldable pub place_height : Place → ℕ
place_height a = fold-Place ℕ ℕ height_step place_height_step a

height_at : (e : Expr) (x : one.Expr-F Expr Place) → out-Expr e ≡ x → height e ≡ height_step (map-Expr Expr Place ℕ ℕ height place_height x)
unfolding height place_height
height_at e x h = ap height (sym (roll-out-Expr e) ∙ ap roll-Expr h) ∙ fold-roll-Expr ℕ ℕ height_step place_height_step x

place_height_at : (a : Place) (x : one.Place-F Expr Place) → out-Place a ≡ x → place_height a ≡ place_height_step (map-Place Expr Place ℕ ℕ height place_height x)
unfolding height place_height
place_height_at a x h = ap place_height (sym (roll-out-Place a) ∙ ap roll-Place h) ∙ fold-roll-Place ℕ ℕ height_step place_height_step x

module _ (e : Expr) where
  pub height-AddrOf : (a : Place) → out-Expr e ≡ one.AddrOf a → height e ≡ place_height a + 1
  height-AddrOf a h = height_at e (one.AddrOf a) h

  pub height-Un : (o : UnOp) (t : IntType) (a : Expr) → out-Expr e ≡ one.Un o t a → height e ≡ height a + 1
  height-Un o t a h = height_at e (one.Un o t a) h

  pub height-Bin : (o : BinOp) (t : IntType) (a b : Expr) → out-Expr e ≡ one.Bin o t a b → height e ≡ max (height a) (height b) + 1
  height-Bin o t a b h = height_at e (one.Bin o t a b) h

  pub height-Conv : (t : IntType) (a : Expr) → out-Expr e ≡ one.Conv t a → height e ≡ height a + 1
  height-Conv t a h = height_at e (one.Conv t a) h

  pub height-Qualify : (t : CType) (a : Expr) → out-Expr e ≡ one.Qualify t a → height e ≡ height a + 1
  height-Qualify t a h = height_at e (one.Qualify t a) h

  pub height-Move : (a b : Expr) (back : Bool) → out-Expr e ≡ one.Move a b back → height e ≡ max (height a) (height b) + 1
  height-Move a b back h = height_at e (one.Move a b back) h

  pub height-Gap : (a b : Expr) → out-Expr e ≡ one.Gap a b → height e ≡ max (height a) (height b) + 1
  height-Gap a b h = height_at e (one.Gap a b) h

  pub height-Compare : (o : BinOp) (a b : Expr) → out-Expr e ≡ one.Compare o a b → height e ≡ max (height a) (height b) + 1
  height-Compare o a b h = height_at e (one.Compare o a b) h

  pub height-Both : (a b : Expr) → out-Expr e ≡ one.Both a b → height e ≡ max (height a) (height b) + 1
  height-Both a b h = height_at e (one.Both a b) h

  pub height-Either : (a b : Expr) → out-Expr e ≡ one.Either a b → height e ≡ max (height a) (height b) + 1
  height-Either a b h = height_at e (one.Either a b) h

  pub height-Choose : (d a b : Expr) → out-Expr e ≡ one.Choose d a b → height e ≡ max (height d) (max (height a) (height b)) + 1
  height-Choose d a b h = height_at e (one.Choose d a b) h

module _ (a : Place) where
  pub height-Element : (b : Place) (i : Expr) → out-Place a ≡ one.Element b i → place_height a ≡ max (place_height b) (height i) + 1
  height-Element b i h = place_height_at a (one.Element b i) h

  pub height-Member : (b : Place) (m : ℕ) → out-Place a ≡ one.Member b m → place_height a ≡ place_height b + 1
  height-Member b m h = place_height_at a (one.Member b m) h

  pub height-Deref : (e : Expr) → out-Place a ≡ one.Deref e → place_height a ≡ height e + 1
  height-Deref e h = place_height_at a (one.Deref e) h
