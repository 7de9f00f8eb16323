-- The expression itself is kept in what is made of it.
use Rattle.std.proofs.Common.{◌≡◌, List, [], ◌∷◌, map, Option, Some, None, refl, ap, ◌∙◌}
use Rattle.cc_program.specs.declared.expr.Expr.{Expr, roll-Expr, map-Expr, fold-roll-Expr}
use Rattle.cc_program.specs.declared.expr.Expr.TheOpen as one
use Rattle.cc_program.specs.declared.expr.Place.{Place, roll-Place, map-Place, fold-roll-Place}
use Rattle.cc_program.specs.declared.func.Func.{Func}
use Rattle.cc_program.specs.declared.program.Program.{Program}
use Rattle.cc_program.specs.declared.types.CType.{CType}
use Rattle.cc_program.proofs.Each.{Each}
use Rattle.cc_program.proofs.ExprInduction.{Parts, PlaceParts, by_expr}
use Rattle.std.specs.Prelude.{Bool}
use Rattle.cc_eval.specs.CcSyntax.Values.{ValueType}
use Rattle.cc_lower_expressions.specs.Expressions.{Lowering, PlaceLowering, lower_step, place_lower_step, lowering, place_lowering}

module _ (p : Program) (f : Func) (declares : Option ValueType → CType) (is_same : Option ValueType → Option ValueType → Bool) where
  abbrev low : Expr → Lowering
  low e = lowering p f declares is_same e

  abbrev place_low : Place → PlaceLowering
  place_low a = place_lowering p f declares is_same a

  abbrev P : Expr → Type 0
  P e = (low e).itself ≡ e

  abbrev Q : Place → Type 0
  Q a = (place_low a).itself ≡ a

  abbrev back : one.Expr-F Expr Place → one.Expr-F Expr Place
  back x = map-Expr Lowering PlaceLowering Expr Place (λ l. l.itself) (λ l. l.itself) (map-Expr Expr Place Lowering PlaceLowering low place_low x)

  abbrev place_back : one.Place-F Expr Place → one.Place-F Expr Place
  place_back x = map-Place Lowering PlaceLowering Expr Place (λ l. l.itself) (λ l. l.itself) (map-Place Expr Place Lowering PlaceLowering low place_low x)

  each_back : (es : List Expr) → Each P es → map (λ (l : Lowering). l.itself) (map low es) ≡ es
  each_back [] h = refl
  each_back (e ∷ es) h = ap (λ (x : Expr). x ∷ map (λ (l : Lowering). l.itself) (map low es)) h.0 ∙ ap (λ (xs : List Expr). e ∷ xs) (each_back es h.1)

  same_level : (x : one.Expr-F Expr Place) → Parts P Q x → back x ≡ x
  same_level (one.Const n t) h = refl
  same_level (one.Null t) h = refl
  same_level (one.FuncAddr g) h = refl
  same_level (one.Load a) h = ap one.Load h
  same_level (one.AddrOf a) h = ap one.AddrOf h
  same_level (one.Un o t a) h = ap (one.Un o t) h
  same_level (one.Bin o t a b) h = ap (λ (x : Expr). one.Bin o t x (low b).itself) h.0 ∙ ap (one.Bin o t a) h.1
  same_level (one.Conv t a) h = ap (one.Conv t) h
  same_level (one.Qualify t a) h = ap (one.Qualify t) h
  same_level (one.Move a b back) h = ap (λ (x : Expr). one.Move x (low b).itself back) h.0 ∙ ap (λ (x : Expr). one.Move a x back) h.1
  same_level (one.Gap a b) h = ap (λ (x : Expr). one.Gap x (low b).itself) h.0 ∙ ap (one.Gap a) h.1
  same_level (one.Compare o a b) h = ap (λ (x : Expr). one.Compare o x (low b).itself) h.0 ∙ ap (one.Compare o a) h.1
  same_level (one.Both a b) h = ap (λ (x : Expr). one.Both x (low b).itself) h.0 ∙ ap (one.Both a) h.1
  same_level (one.Either a b) h = ap (λ (x : Expr). one.Either x (low b).itself) h.0 ∙ ap (one.Either a) h.1
  same_level (one.Choose c a b) h = ap (λ (x : Expr). one.Choose x (low a).itself (low b).itself) h.0 ∙ ap (λ (x : Expr). one.Choose c x (low b).itself) h.1 ∙ ap (one.Choose c a) h.2
  same_level (one.Assign a e) h = ap (λ (x : Place). one.Assign x (low e).itself) h.0 ∙ ap (one.Assign a) h.1
  same_level (one.Change a o t e) h = ap (λ (x : Place). one.Change x o t (low e).itself) h.0 ∙ ap (one.Change a o t) h.1
  same_level (one.After a down) h = ap (λ (x : Place). one.After x down) h
  same_level (one.Call g args) h = ap (λ (x : Expr). one.Call x (map (λ (l : Lowering). l.itself) (map low args))) h.0 ∙ ap (one.Call g) (each_back args h.1)
  same_level (one.Intr i None) h = refl
  same_level (one.Intr i (Some a)) h = ap (λ (x : Expr). one.Intr i (Some x)) h
  same_level (one.Seq a b) h = ap (λ (x : Expr). one.Seq x (low b).itself) h.0 ∙ ap (one.Seq a) h.1

  same_place : (x : one.Place-F Expr Place) → PlaceParts P Q x → place_back x ≡ x
  same_place (one.Local r) h = refl
  same_place (one.Static i) h = refl
  same_place (one.Device d) h = refl
  same_place (one.Element a i) h = ap (λ (x : Place). one.Element x (low i).itself) h.0 ∙ ap (one.Element a) h.1
  same_place (one.Member a m) h = ap (λ (x : Place). one.Member x m) h
  same_place (one.Deref e) h = ap one.Deref h

  made : (x : one.Expr-F Expr Place) → Parts P Q x → P (roll-Expr x)
  unfolding lowering place_lowering
  made x h = ap (λ (l : Lowering). l.itself) (fold-roll-Expr Lowering PlaceLowering (lower_step p f declares is_same) (place_lower_step p f declares is_same) x) ∙ ap roll-Expr (same_level x h)

  place_made : (x : one.Place-F Expr Place) → PlaceParts P Q x → Q (roll-Place x)
  unfolding lowering place_lowering
  place_made x h = ap (λ (l : PlaceLowering). l.itself) (fold-roll-Place Lowering PlaceLowering (lower_step p f declares is_same) (place_lower_step p f declares is_same) x) ∙ ap roll-Place (same_place x h)

  pub itself : (e : Expr) → (lowering p f declares is_same e).itself ≡ e
  itself e = by_expr P Q made place_made e
