-- The types that stand beside the texts of expressions and places are those of the expressions and places.
use Rattle.std.proofs.Common.{◌≡◌, refl, Option}
use Rattle.cc_program.specs.declared.expr.Expr.{Expr, roll-Expr, map-Expr, fold-roll-Expr}
use Rattle.cc_program.specs.declared.expr.Expr.TheOpen as one
use Rattle.cc_program.specs.declared.expr.Place.{Place, roll-Place, map-Place, fold-roll-Place}
use Rattle.cc_program.proofs.FoldFusion.{fused, place_fused}
use Rattle.cc_typed.specs.CcSyntax.Expressions as typing
use Rattle.cc_typed.specs.CcSyntax.Programs.{expr_step, place_step, type_of, place_type}
use Rattle.cc_typed.specs.CcSyntax.Values.{ValueType, PlaceType}
use Rattle.cc_program.specs.declared.func.Func.{Func}
use Rattle.cc_program.specs.declared.program.Program.{Program}
use Rattle.cc_bodies.specs.Exprs.{Written, WrittenPlace, expr_written, place_written, written, place}

-- opened at the top
pub level : (p : Program) (f : Func) (x : one.Expr-F Expr Place) → written p f (roll-Expr x) ≡ expr_written p f (map-Expr Expr Place Written WrittenPlace (written p f) (place p f) x)
unfolding written place
level p f x = fold-roll-Expr Written WrittenPlace (expr_written p f) (place_written p f) x

pub place_level : (p : Program) (f : Func) (x : one.Place-F Expr Place) → place p f (roll-Place x) ≡ place_written p f (map-Place Expr Place Written WrittenPlace (written p f) (place p f) x)
unfolding written place
place_level p f x = fold-roll-Place Written WrittenPlace (expr_written p f) (place_written p f) x

module _ (p : Program) (f : Func) where
  pub type_linked : (e : Expr) → (written p f e).ctype ≡ type_of p f.locals e
  unfolding written typing.type_of
  type_linked = fused (expr_written p f) (place_written p f) (expr_step p f.locals) (place_step p f.locals)
      (λ a. a.ctype) (λ a. a.ctype) (λ x. refl) (λ x. refl)

  pub place_type_linked : (a : Place) → (place p f a).ctype ≡ place_type p f.locals a
  unfolding place typing.place_type
  place_type_linked = place_fused (expr_written p f) (place_written p f) (expr_step p f.locals) (place_step p f.locals)
      (λ a. a.ctype) (λ a. a.ctype) (λ x. refl) (λ x. refl)

pub ruleset of_types = (place_type_linked)
