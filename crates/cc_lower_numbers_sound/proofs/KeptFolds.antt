-- What a fold gives of an expression by other numbers, where it gives the same of each local and device.
use Rattle.std.proofs.Common.{◌≡◌, ◌∙◌, ℕ}
use Rattle.cc_program.specs.declared.expr.Expr.{Expr, roll-Expr, fold-Expr, fold-roll-Expr}
use Rattle.cc_program.specs.declared.expr.Expr.TheOpen as one
use Rattle.cc_program.specs.declared.expr.Place.{Place, fold-Place, map-Place, fold-roll-Place}
use Rattle.cc_program.proofs.FoldFusion.{fused, place_fused}
use Rattle.cc_lower_numbers.specs.Renamed.{place_with, place_step as renamed_step, expr_renamed, place_renamed}

module _ {A B : Type 0} (step : one.Expr-F A B → A) (there here : one.Place-F A B → B) (local device : ℕ → ℕ) where
  abbrev new : Expr → A
  new e = fold-Expr A B step there e

  abbrev new_place : Place → B
  new_place a = fold-Place A B step there a

  abbrev pub IsPlaceKept : Type 0
  IsPlaceKept = (x : one.Place-F Expr Place) → there (map-Place Expr Place A B new new_place (place_with local device x)) ≡ here (map-Place Expr Place A B new new_place x)

  module _ (same : IsPlaceKept) where
    pub fold_kept : (e : Expr) → fold-Expr A B step there (expr_renamed local device e) ≡ fold-Expr A B step here e
    unfolding expr_renamed place_renamed
    fold_kept e = fused roll-Expr (renamed_step local device) step here new new_place (λ x. fold-roll-Expr A B step there x) (λ x. fold-roll-Place A B step there (place_with local device x) ∙ same x) e

    pub place_fold_kept : (a : Place) → fold-Place A B step there (place_renamed local device a) ≡ fold-Place A B step here a
    unfolding expr_renamed place_renamed
    place_fold_kept a = place_fused roll-Expr (renamed_step local device) step here new new_place (λ x. fold-roll-Expr A B step there x) (λ x. fold-roll-Place A B step there (place_with local device x) ∙ same x) a
