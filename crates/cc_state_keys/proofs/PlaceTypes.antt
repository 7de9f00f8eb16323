-- The type that is worked beside the keys of a place is the place's.
use Rattle.std.proofs.Common.{◌≡◌, ℕ, refl, Option}
use Rattle.cc_program.specs.declared.expr.Expr.{map-Expr}
use Rattle.cc_program.specs.declared.expr.Expr.TheOpen as one
use Rattle.cc_program.specs.declared.expr.Place.{Place, map-Place}
use Rattle.cc_program.specs.declared.func.Func.{Func}
use Rattle.cc_program.specs.declared.program.Program.{Program}
use Rattle.cc_program.proofs.FoldFusion.{place_fused}
use Rattle.cc_state_keys.specs.Addressed.{InExpr, InPlace, expr_in, place_in, in_place}
use Rattle.cc_eval.specs.CcSyntax.Expressions.{place_type}
use Rattle.cc_eval.specs.CcSyntax.Programs.{expr_step, place_step}
use Rattle.cc_eval.specs.CcSyntax.Values.{ValueType, PlaceType}
use Rattle.cc_eval.specs.CcSyntax.Views.{of_program}

module _ (p : Program) (id : ℕ) (f : Func) where
  expr-part : (x : one.Expr-F InExpr InPlace) → (expr_in p id f x).ctype ≡ expr_step p f.locals (map-Expr InExpr InPlace (Option ValueType) (Option PlaceType) (λ a. a.ctype) (λ a. a.ctype) x)
  expr-part x = refl

  place-part : (x : one.Place-F InExpr InPlace) → (place_in p id f x).ctype ≡ place_step p f.locals (map-Place InExpr InPlace (Option ValueType) (Option PlaceType) (λ a. a.ctype) (λ a. a.ctype) x)
  place-part x = refl

  pub place_typed : (a : Place) → (in_place p id f a).ctype ≡ place_type (of_program p) f.locals a
  unfolding in_place place_type
  place_typed a =
      place_fused (expr_in p id f) (place_in p id f) (expr_step p f.locals) (place_step p f.locals) (λ (e : InExpr). e.ctype) (λ (q : InPlace). q.ctype) expr-part place-part a
