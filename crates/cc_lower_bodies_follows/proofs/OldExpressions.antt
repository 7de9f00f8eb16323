-- What has a type in a function names no locals but those of the function.
use Rattle.std.proofs.Common.{◌≡◌, ℕ, Bool, true, ◌&&◌, List, [], ◌∷◌, length, map, Option, Some, None, option_map, slice_get, refl, ◌∙◌, subst}
use Rattle.std.proofs.lemmas.Bool.{lt-ltb}
use Rattle.std.specs.Prelude.{nat_lt}
use Rattle.cc_program.specs.declared.expr.Expr.{Expr, roll-Expr, map-Expr, fold-roll-Expr}
use Rattle.cc_program.specs.declared.expr.Expr.TheOpen as one
use Rattle.cc_program.specs.declared.expr.Place.{Place, roll-Place, map-Place, fold-roll-Place}
use Rattle.cc_program.proofs.Each.{Each}
use Rattle.cc_program.proofs.ExprInduction.{Parts, PlaceParts, by_expr}
use Rattle.cc_states.specs.CcEval.Context.{Context}
use Rattle.cc_states.specs.CcEval.Eval.{Meaning, Designation}
use Rattle.cc_states.proofs.CcEval.Links.{level, place_level}
use Rattle.cc_states.specs.CcSyntax.Types.{Named}
use Rattle.cc_states.specs.CcSyntax.Values.{object_place}
use Rattle.cc_lower_sound.proofs.Bools.{two}
use Rattle.cc_lower_sound.proofs.TypedAddresses.{below}
use Rattle.cc_lower_expressions_follows.specs.Old.{old_step, place_old_step, is_old, is_old_place}
use Rattle.cc_lower_expressions_follows.specs.Region.{all_true}
use Rattle.cc_lower_expressions_follows.proofs.Opened.{at_place_level}
use Rattle.cc_lower_expressions_follows.proofs.Typing.{IsTyped, TypedExpr, TypedPlace, typed_parts, typed_place_parts}

module _ (c : Context) where
  abbrev base : ℕ
  base = length c.func.locals

  abbrev old : Expr → Bool
  old e = is_old base e

  abbrev place_old : Place → Bool
  place_old a = is_old_place base a

  abbrev IfTyped : Expr → Type 0
  IfTyped e = TypedExpr c e → old e ≡ true

  abbrev PlaceIfTyped : Place → Type 0
  PlaceIfTyped a = TypedPlace c a → place_old a ≡ true

  abbrev old_at : one.Expr-F Expr Place → Bool
  old_at x = old_step (map-Expr Expr Place Bool Bool (is_old base) (is_old_place base) x)

  abbrev place_old_at : one.Place-F Expr Place → Bool
  place_old_at x = place_old_step base (map-Place Expr Place Bool Bool (is_old base) (is_old_place base) x)

  old-rolled : (x : one.Expr-F Expr Place) → old (roll-Expr x) ≡ old_at x
  unfolding is_old is_old_place
  old-rolled x = fold-roll-Expr Bool Bool old_step (place_old_step base) x

  place-old-rolled : (x : one.Place-F Expr Place) → place_old (roll-Place x) ≡ place_old_at x
  unfolding is_old is_old_place
  place-old-rolled x = fold-roll-Place Bool Bool old_step (place_old_step base) x

  all_old : (es : List Expr) → Each IfTyped es → Each (TypedExpr c) es → all_true (map (is_old base) es) ≡ true
  all_old [] h k = refl
  all_old (e ∷ es) h k = two (old e) (all_true (map (is_old base) es)) (h.0 k.0) (all_old es h.1 k.1)

  by_parts : (x : one.Expr-F Expr Place) → Parts IfTyped PlaceIfTyped x → Parts (TypedExpr c) (TypedPlace c) x → old_at x ≡ true
  by_parts (one.Const n t) h k = refl
  by_parts (one.Null t) h k = refl
  by_parts (one.FuncAddr g) h k = refl
  by_parts (one.Load a) h k = h k
  by_parts (one.AddrOf a) h k = h k
  by_parts (one.Un o t a) h k = h k
  by_parts (one.Bin o t a b) h k = two (old a) (old b) (h.0 k.0) (h.1 k.1)
  by_parts (one.Conv t a) h k = h k
  by_parts (one.Qualify t a) h k = h k
  by_parts (one.Move a b back) h k = two (old a) (old b) (h.0 k.0) (h.1 k.1)
  by_parts (one.Gap a b) h k = two (old a) (old b) (h.0 k.0) (h.1 k.1)
  by_parts (one.Compare o a b) h k = two (old a) (old b) (h.0 k.0) (h.1 k.1)
  by_parts (one.Both a b) h k = two (old a) (old b) (h.0 k.0) (h.1 k.1)
  by_parts (one.Either a b) h k = two (old a) (old b) (h.0 k.0) (h.1 k.1)
  by_parts (one.Choose d a b) h k = two (old d) (old a && old b) (h.0 k.0) (two (old a) (old b) (h.1 k.1) (h.2 k.2))
  by_parts (one.Assign a e) h k = two (place_old a) (old e) (h.0 k.0) (h.1 k.1)
  by_parts (one.Change a o t e) h k = two (place_old a) (old e) (h.0 k.0) (h.1 k.1)
  by_parts (one.After a down) h k = h k
  by_parts (one.Call g args) h k = two (old g) (all_true (map (is_old base) args)) (h.0 k.0) (all_old args h.1 k.1)
  by_parts (one.Intr i None) h k = refl
  by_parts (one.Intr i (Some a)) h k = h k
  by_parts (one.Seq a b) h k = two (old a) (old b) (h.0 k.0) (h.1 k.1)

  local_there : (r : ℕ) (o : Option Named) → slice_get c.func.locals r ≡ o → IsTyped (option_map (λ (l : Named). object_place l.1) o) → nat_lt r base ≡ true
  local_there r None e h = let k = h.1 in absurd (cc)
  local_there r (Some l) e h = lt-ltb r base (below c.func.locals r l e)

  by_place_parts : (x : one.Place-F Expr Place) → IsTyped (at_place_level c x).ctype → PlaceParts IfTyped PlaceIfTyped x → PlaceParts (TypedExpr c) (TypedPlace c) x → place_old_at x ≡ true
  by_place_parts (one.Local r) t h k = local_there r (slice_get c.func.locals r) refl t
  by_place_parts (one.Static i) t h k = refl
  by_place_parts (one.Device d) t h k = refl
  by_place_parts (one.Element a i) t h k = two (place_old a) (old i) (h.0 k.0) (h.1 k.1)
  by_place_parts (one.Member a m) t h k = h k
  by_place_parts (one.Deref e) t h k = h k

  made : (x : one.Expr-F Expr Place) → Parts IfTyped PlaceIfTyped x → IfTyped (roll-Expr x)
  made x h ty = old-rolled x ∙ by_parts x h (typed_parts c x (subst (λ (m : Meaning). IsTyped m.ctype) (level c x) ty))

  place_made : (x : one.Place-F Expr Place) → PlaceParts IfTyped PlaceIfTyped x → PlaceIfTyped (roll-Place x)
  place_made x h ty =
      let typed = subst (λ (d : Designation). IsTyped d.ctype) (place_level c x) ty in
      place-old-rolled x ∙ by_place_parts x typed h (typed_place_parts c x typed)

  pub typed_old : (e : Expr) → TypedExpr c e → is_old base e ≡ true
  typed_old e ty = by_expr IfTyped PlaceIfTyped made place_made e ty
