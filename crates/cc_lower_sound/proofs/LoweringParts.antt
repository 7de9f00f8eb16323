-- What lowering keeps of an expression: its type, its effects and itself; and lowering opened at one level.
use Rattle.std.proofs.Common.{◌≡◌, List, [], ◌∷◌, map, Option, Some, None, refl, ap, sym, ◌∙◌}
use Rattle.cc_lower_expressions.specs.Expressions.{Lowering, PlaceLowering, lower_step, place_lower_step, operand_at, whole_at, effect_at, operands_at, lowering, place_lowering}
use Rattle.cc_lower_expressions.specs.Temporaries.{declared_type, is_same_type}
use Rattle.cc_program.specs.declared.expr.Expr.{Expr, roll-Expr, map-Expr, fold-Expr, fold-roll-Expr}
use Rattle.cc_program.specs.declared.expr.Expr.TheOpen as one
use Rattle.cc_program.specs.declared.expr.Place.{Place, roll-Place, map-Place, fold-roll-Place}
use Rattle.cc_program.specs.declared.func.Func.{Func}
use Rattle.cc_program.specs.declared.program.Program.{Program}
use Rattle.cc_program.proofs.Each.{Each}
use Rattle.cc_program.proofs.ExprInduction.{Parts, PlaceParts, by_expr, by_place}
use Rattle.cc_program.proofs.FoldFusion.{fused, place_fused}
use Rattle.cc_eval.specs.CcSyntax.Effects.{Effects, PlaceEffects, effect_step, place_effect_step, effects_of, place_effects_of}
use Rattle.cc_eval.specs.CcSyntax.Expressions as typing
use Rattle.cc_eval.specs.CcSyntax.Expressions.{type_of, place_type}
use Rattle.cc_eval.specs.CcSyntax.Values.{ValueType, PlaceType}
use Rattle.cc_eval.specs.CcSyntax.Views.{of_program}

module _ (p : Program) (f : Func) where
  abbrev pub low : Expr → Lowering
  low e = lowering p f declared_type is_same_type e

  abbrev pub place_low : Place → PlaceLowering
  place_low a = place_lowering p f declared_type is_same_type a

  abbrev step : one.Expr-F Lowering PlaceLowering → Lowering
  step x = lower_step p f declared_type is_same_type x

  abbrev place_step : one.Place-F Lowering PlaceLowering → PlaceLowering
  place_step x = place_lower_step p f declared_type is_same_type x

  pub ctype-is : (e : Expr) → (low e).ctype ≡ type_of (of_program p) f.locals e
  unfolding lowering type_of place_type
  ctype-is e = fused step place_step (typing.expr_step (of_program p) f.locals) (typing.place_step (of_program p) f.locals) (λ l. l.ctype) (λ l. l.ctype) (λ x. refl) (λ x. refl) e

  pub place-ctype-is : (a : Place) → (place_low a).ctype ≡ place_type (of_program p) f.locals a
  unfolding place_lowering type_of place_type
  place-ctype-is a = place_fused step place_step (typing.expr_step (of_program p) f.locals) (typing.place_step (of_program p) f.locals) (λ l. l.ctype) (λ l. l.ctype) (λ x. refl) (λ x. refl) a

  pub effects-is : (e : Expr) → (low e).effects ≡ effects_of f e
  unfolding lowering effects_of place_effects_of
  effects-is e = fused step place_step effect_step (place_effect_step f) (λ l. l.effects) (λ l. l.effects) (λ x. refl) (λ x. refl) e

  pub place-effects-is : (a : Place) → (place_low a).effects ≡ place_effects_of f a
  unfolding place_lowering effects_of place_effects_of
  place-effects-is a = place_fused step place_step effect_step (place_effect_step f) (λ l. l.effects) (λ l. l.effects) (λ x. refl) (λ x. refl) a

  -- ---- itself

  abbrev P : Expr → Type 0
  P e = (low e).itself ≡ e

  abbrev Q : Place → Type 0
  Q a = (place_low a).itself ≡ a

  abbrev pub lowered_parts : one.Expr-F Expr Place → one.Expr-F Lowering PlaceLowering
  lowered_parts x = map-Expr Expr Place Lowering PlaceLowering low place_low x

  abbrev pub lowered_place_parts : one.Place-F Expr Place → one.Place-F Lowering PlaceLowering
  lowered_place_parts x = map-Place Expr Place Lowering PlaceLowering low place_low x

  abbrev back : one.Expr-F Expr Place → one.Expr-F Expr Place
  back x = map-Expr Lowering PlaceLowering Expr Place (λ l. l.itself) (λ l. l.itself) (lowered_parts x)

  abbrev place_back : one.Place-F Expr Place → one.Place-F Expr Place
  place_back x = map-Place Lowering PlaceLowering Expr Place (λ l. l.itself) (λ l. l.itself) (lowered_place_parts x)

  each_back : (es : List Expr) → Each P es → map (λ (l : Lowering). l.itself) (map low es) ≡ es
  each_back [] h = refl
  each_back (e ∷ es) h = ap (λ (x : Expr). x ∷ map (λ (l : Lowering). l.itself) (map low es)) h.0 ∙ ap (λ (xs : List Expr). e ∷ xs) (each_back es h.1)

  same_level : (x : one.Expr-F Expr Place) → Parts P Q x → back x ≡ x
  same_level (one.Const n t) h = refl
  same_level (one.Null t) h = refl
  same_level (one.FuncAddr g) h = refl
  same_level (one.Load a) h = ap one.Load h
  same_level (one.AddrOf a) h = ap one.AddrOf h
  same_level (one.Un o t a) h = ap (one.Un o t) h
  same_level (one.Bin o t a b) h = ap (λ (x : Expr). one.Bin o t x (low b).itself) h.0 ∙ ap (one.Bin o t a) h.1
  same_level (one.Conv t a) h = ap (one.Conv t) h
  same_level (one.Qualify t a) h = ap (one.Qualify t) h
  same_level (one.Move a b back) h = ap (λ (x : Expr). one.Move x (low b).itself back) h.0 ∙ ap (λ (x : Expr). one.Move a x back) h.1
  same_level (one.Gap a b) h = ap (λ (x : Expr). one.Gap x (low b).itself) h.0 ∙ ap (one.Gap a) h.1
  same_level (one.Compare o a b) h = ap (λ (x : Expr). one.Compare o x (low b).itself) h.0 ∙ ap (one.Compare o a) h.1
  same_level (one.Both a b) h = ap (λ (x : Expr). one.Both x (low b).itself) h.0 ∙ ap (one.Both a) h.1
  same_level (one.Either a b) h = ap (λ (x : Expr). one.Either x (low b).itself) h.0 ∙ ap (one.Either a) h.1
  same_level (one.Choose c a b) h = ap (λ (x : Expr). one.Choose x (low a).itself (low b).itself) h.0 ∙ ap (λ (x : Expr). one.Choose c x (low b).itself) h.1 ∙ ap (one.Choose c a) h.2
  same_level (one.Assign a e) h = ap (λ (x : Place). one.Assign x (low e).itself) h.0 ∙ ap (one.Assign a) h.1
  same_level (one.Change a o t e) h = ap (λ (x : Place). one.Change x o t (low e).itself) h.0 ∙ ap (one.Change a o t) h.1
  same_level (one.After a down) h = ap (λ (x : Place). one.After x down) h
  same_level (one.Call g args) h = ap (λ (x : Expr). one.Call x (map (λ (l : Lowering). l.itself) (map low args))) h.0 ∙ ap (one.Call g) (each_back args h.1)
  same_level (one.Intr i None) h = refl
  same_level (one.Intr i (Some a)) h = ap (λ (x : Expr). one.Intr i (Some x)) h
  same_level (one.Seq a b) h = ap (λ (x : Expr). one.Seq x (low b).itself) h.0 ∙ ap (one.Seq a) h.1

  same_place : (x : one.Place-F Expr Place) → PlaceParts P Q x → place_back x ≡ x
  same_place (one.Local r) h = refl
  same_place (one.Static i) h = refl
  same_place (one.Device d) h = refl
  same_place (one.Element a i) h = ap (λ (x : Place). one.Element x (low i).itself) h.0 ∙ ap (one.Element a) h.1
  same_place (one.Member a m) h = ap (λ (x : Place). one.Member x m) h
  same_place (one.Deref e) h = ap one.Deref h

  low-rolls : (x : one.Expr-F Expr Place) → low (roll-Expr x) ≡ step (lowered_parts x)
  unfolding lowering place_lowering
  low-rolls x = fold-roll-Expr Lowering PlaceLowering step place_step x

  place-low-rolls : (x : one.Place-F Expr Place) → place_low (roll-Place x) ≡ place_step (lowered_place_parts x)
  unfolding lowering place_lowering
  place-low-rolls x = fold-roll-Place Lowering PlaceLowering step place_step x

  made : (x : one.Expr-F Expr Place) → Parts P Q x → P (roll-Expr x)
  made x h = ap (λ (l : Lowering). l.itself) (low-rolls x) ∙ ap roll-Expr (same_level x h)

  place_made : (x : one.Place-F Expr Place) → PlaceParts P Q x → Q (roll-Place x)
  place_made x h = ap (λ (l : PlaceLowering). l.itself) (place-low-rolls x) ∙ ap roll-Place (same_place x h)

  pub itself : (e : Expr) → (low e).itself ≡ e
  itself e = by_expr P Q made place_made e

  pub rolled : (e : Expr) → fold-Expr Expr Place roll-Expr roll-Place e ≡ e
  unfolding lowering
  rolled e = sym (fused step place_step roll-Expr roll-Place (λ l. l.itself) (λ l. l.itself) (λ x. refl) (λ x. refl) e) ∙ itself e

  pub place_itself : (a : Place) → (place_low a).itself ≡ a
  place_itself a = by_place P Q made place_made a

  -- ---- one level, by what is kept

  abbrev pub lowered_as : Effects → Option ValueType → Expr → one.Expr-F Lowering PlaceLowering → Lowering
  lowered_as effects t itself y = record {
    itself = itself;
    ctype = t;
    effects = effects;
    operand = operand_at p f declared_type is_same_type effects t itself y;
    whole = whole_at p f declared_type is_same_type t (operand_at p f declared_type is_same_type effects t itself y) y;
    effect = effect_at p f declared_type is_same_type effects t (operand_at p f declared_type is_same_type effects t itself y) y;
  }

  same_lowering : (effects : Effects) (t : Option ValueType) (e : Expr) (y : one.Expr-F Lowering PlaceLowering) → (step y).effects ≡ effects → (step y).ctype ≡ t → (step y).itself ≡ e → step y ≡ lowered_as effects t e y
  same_lowering effects t e y h k l =
      ap (λ (z : Effects). lowered_as z (step y).ctype (step y).itself y) h
      ∙ ap (λ (z : Option ValueType). lowered_as effects z (step y).itself y) k
      ∙ ap (λ (z : Expr). lowered_as effects t z y) l

  pub low-at : (x : one.Expr-F Expr Place) (t : Option ValueType) → type_of (of_program p) f.locals (roll-Expr x) ≡ t → low (roll-Expr x) ≡ lowered_as (effects_of f (roll-Expr x)) t (roll-Expr x) (lowered_parts x)
  low-at x t h =
      low-rolls x
      ∙ same_lowering (effects_of f (roll-Expr x)) t (roll-Expr x) (lowered_parts x)
      (ap (λ (l : Lowering). l.effects) (sym (low-rolls x)) ∙ effects-is (roll-Expr x))
      (ap (λ (l : Lowering). l.ctype) (sym (low-rolls x)) ∙ ctype-is (roll-Expr x) ∙ h)
      (ap (λ (l : Lowering). l.itself) (sym (low-rolls x)) ∙ itself (roll-Expr x))

  abbrev pub place_lowered_as : PlaceEffects → Option PlaceType → Place → one.Place-F Lowering PlaceLowering → PlaceLowering
  place_lowered_as effects t itself y = record { itself = itself; ctype = t; effects = effects; operands = operands_at p f declared_type is_same_type itself y }

  same_place_lowering : (effects : PlaceEffects) (t : Option PlaceType) (a : Place) (y : one.Place-F Lowering PlaceLowering) →
      (place_step y).effects ≡ effects → (place_step y).ctype ≡ t → (place_step y).itself ≡ a → place_step y ≡ place_lowered_as effects t a y
  same_place_lowering effects t a y h k l =
      ap (λ (z : PlaceEffects). place_lowered_as z (place_step y).ctype (place_step y).itself y) h
      ∙ ap (λ (z : Option PlaceType). place_lowered_as effects z (place_step y).itself y) k
      ∙ ap (λ (z : Place). place_lowered_as effects t z y) l

  pub place-low-at : (x : one.Place-F Expr Place) (t : Option PlaceType) → place_type (of_program p) f.locals (roll-Place x) ≡ t →
      place_low (roll-Place x) ≡ place_lowered_as (place_effects_of f (roll-Place x)) t (roll-Place x) (lowered_place_parts x)
  place-low-at x t h =
      place-low-rolls x
      ∙ same_place_lowering (place_effects_of f (roll-Place x)) t (roll-Place x) (lowered_place_parts x)
      (ap (λ (l : PlaceLowering). l.effects) (sym (place-low-rolls x)) ∙ place-effects-is (roll-Place x))
      (ap (λ (l : PlaceLowering). l.ctype) (sym (place-low-rolls x)) ∙ place-ctype-is (roll-Place x) ∙ h)
      (ap (λ (l : PlaceLowering). l.itself) (sym (place-low-rolls x)) ∙ place_itself (roll-Place x))
