-- What places lead to in p and in q.
use Rattle.std.proofs.Common.{◌≡◌, ℕ, ℤ, Option, Some, None, refl, ap}
use Rattle.std.specs.Prelude.{option_map, option_and_then}
use Rattle.cc_program.specs.declared.value.Address.{Address}
use Rattle.cc_states.specs.CcSyntax.Values.{PlaceType, read_from}
use Rattle.cc_states.specs.CcSyntax.Expressions.{of_one}
use Rattle.cc_states.specs.CcEval.declared.spots.Spot.{Spot}
use Rattle.cc_states.specs.CcEval.declared.spots.Spot.TheVariants as spot
use Rattle.cc_states.specs.CcEval.Context.{named_by, designated, cell_of, reached, element, member}
use Rattle.cc_lower_expressions_follows.specs.Trees.{Setting}
use Rattle.cc_lower_expressions_follows.specs.Relation.{Alike}

pub same_one : (t : Option PlaceType) → of_one t read_from ≡ option_and_then read_from t
same_one None = refl
same_one (Some t) = refl

module _ (w : Setting) (alike : Alike w) where
  same_named : (t : PlaceType) (a : Address) → named_by w.q t a ≡ named_by w.p t a
  same_named t a = ap (λ f. f a) (alike.naming t)

  pub same_designated : (t : PlaceType) (s : Spot) → designated w.q t s ≡ designated w.p t s
  same_designated t (spot.Device d) = refl
  same_designated t (spot.Object object path) = refl
  same_designated t (spot.Address a) = same_named t a

  pub same_element : (n : ℤ) (t : PlaceType) (s : Spot) → element w.q n t s ≡ element w.p n t s
  same_element n t s = rw (same_designated t s) refl

  pub same_member : (m : ℕ) (t : PlaceType) (s : Spot) → member w.q m t s ≡ member w.p m t s
  same_member m t s = rw (same_designated t s) refl

  pub same_reached : (t : Option PlaceType) (s : Option Spot) → reached w.q t s ≡ reached w.p t s
  same_reached None s = refl
  same_reached (Some t) None = refl
  same_reached (Some t) (Some (spot.Device d)) = refl
  same_reached (Some t) (Some (spot.Object object path)) = refl
  same_reached (Some t) (Some (spot.Address a)) = ap (option_map cell_of) (same_named t a)
