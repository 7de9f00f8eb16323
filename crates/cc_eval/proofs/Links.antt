-- The type of what an expression or a place means, and what is known of it before it runs, are those of the expression or place.
use Rattle.std.proofs.Common.{◌≡◌, refl, ap}
use Rattle.cc_program.specs.declared.expr.Expr.{Expr, roll-Expr, map-Expr, fold-roll-Expr}
use Rattle.cc_program.specs.declared.expr.Expr.TheOpen as one
use Rattle.cc_program.specs.declared.expr.Place.{Place, roll-Place, map-Place, fold-roll-Place}
use Rattle.cc_program.proofs.FoldFusion.{fused, place_fused}
use Rattle.cc_syntax.specs.Effects.{Registers, Effects, PlaceEffects, effect_step, place_effect_step, effects_of, place_effects_of}
use Rattle.cc_syntax.specs.Expressions as typing
use Rattle.cc_syntax.specs.Programs.{expr_step, place_step, type_of, place_type}
use Rattle.cc_eval.specs.Context.{Context}
use Rattle.cc_eval.specs.Eval.{Meaning, Designation, expr_meaning, place_meaning, meaning, designation}

-- opened at the top
pub level : (c : Context) (x : one.Expr-F Expr Place) → meaning c (roll-Expr x) ≡ expr_meaning c (map-Expr Expr Place Meaning Designation (meaning c) (designation c) x)
unfolding meaning designation
level c x = fold-roll-Expr Meaning Designation (expr_meaning c) (place_meaning c) x

pub place_level : (c : Context) (x : one.Place-F Expr Place) → designation c (roll-Place x) ≡ place_meaning c (map-Place Expr Place Meaning Designation (meaning c) (designation c) x)
unfolding meaning designation
place_level c x = fold-roll-Place Meaning Designation (expr_meaning c) (place_meaning c) x

module _ (c : Context) where
  pub type_linked : (e : Expr) → (meaning c e).ctype ≡ type_of c.program c.func.locals e
  unfolding meaning typing.type_of
  type_linked = fused (expr_meaning c) (place_meaning c) (expr_step c.program c.func.locals) (place_step c.program c.func.locals)
      (λ m. m.ctype) (λ m. m.ctype) (λ x. refl) (λ x. refl)

  pub place_type_linked : (a : Place) → (designation c a).ctype ≡ place_type c.program c.func.locals a
  unfolding designation typing.place_type
  place_type_linked = place_fused (expr_meaning c) (place_meaning c) (expr_step c.program c.func.locals) (place_step c.program c.func.locals)
      (λ m. m.ctype) (λ m. m.ctype) (λ x. refl) (λ x. refl)

  pub effects_linked : (e : Expr) → (meaning c e).effects ≡ effects_of c.func e
  unfolding meaning effects_of
  effects_linked = fused (expr_meaning c) (place_meaning c) effect_step (place_effect_step c.func)
      (λ m. m.effects) (λ m. m.effects) (λ x. refl) (λ x. refl)

  pub place_effects_linked : (a : Place) → (designation c a).effects ≡ place_effects_of c.func a
  unfolding designation place_effects_of
  place_effects_linked = place_fused (expr_meaning c) (place_meaning c) effect_step (place_effect_step c.func)
      (λ m. m.effects) (λ m. m.effects) (λ x. refl) (λ x. refl)

  pub register_linked : (a : Place) → (designation c a).effects.register ≡ (place_effects_of c.func a).register
  register_linked a = ap (λ (x : PlaceEffects). x.register) (place_effects_linked a)

  pub pure_linked : (e : Expr) (later : Registers) → (meaning c e).effects.pure later ≡ (effects_of c.func e).pure later
  pure_linked e later = ap (λ (x : Effects). x.pure later) (effects_linked e)

pub ruleset of_types = (place_type_linked)

pub ruleset of_registers = (register_linked)
