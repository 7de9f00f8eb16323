-- A place that names a key of the program by its form may name it wherever its point is reached.
use Rattle.std.proofs.Common.{◌≡◌, ℕ, Bool, true, false, ◌||◌, List, [], ◌∷◌, get_or, Option, Some, refl, ap, sym, subst, ◌∙◌}
use Rattle.std.specs.Prelude.{is_some}
use Rattle.std.specs.List.{Contains, filter}
use Rattle.std.proofs.lemmas.List.Quantifiers.{position-Some}
use Rattle.std.proofs.lemmas.Option.{none-some, slice_get-get_or}
use Rattle.cc_state_points.specs.CcPlaces.declared.abs.Abs.{Abs}
use Rattle.cc_program.specs.declared.expr.Expr.{Expr}
use Rattle.cc_program.specs.declared.expr.Expr.TheOpen as one
use Rattle.cc_program.specs.declared.expr.Place.{Place, out-Place, roll-Place, out-roll-Place, map-Place, fold_out-Place}
use Rattle.cc_program.specs.declared.func.Func.{Func}
use Rattle.cc_program.specs.declared.program.Program.{Program}
use Rattle.cc_program.proofs.ExprInduction.{PlaceParts, by_place}
use Rattle.cc_slots.proofs.Listed.{kept}
use Rattle.cc_slots_accesses.proofs.Listed.{contains_at, same_key}
use Rattle.cc_slots_accesses.proofs.NamedLemmas.{own_classes}
use Rattle.cc_slots_accesses.specs.Accesses.{MayName, NamesByForm}
use Rattle.cc_slots_points.proofs.Tests.{own_key}
use Rattle.cc_state_points.proofs.CcState.Sets.{known}
use Rattle.cc_state_points.specs.CcStateFacts.declared.facts.Facts.{Facts}
use Rattle.cc_state_points.specs.CcStateFacts.declared.facts.Key.{Key}
use Rattle.cc_state_points.specs.CcStateFacts.declared.facts.Key.TheVariants as key
use Rattle.cc_state_points.specs.CcStateFacts.Facts.{fact_at}
use Rattle.cc_state_points.specs.CcStateKeys.Addressed.{InExpr, InPlace, expr_in, place_in, in_expr, in_place, own_step}
use Rattle.cc_state_points.specs.CcStateKeys.Keys.{is_key, key_number, keys_of}
use Rattle.cc_state_points.specs.CcStateOperators.Domains.{Domain}
use Rattle.cc_state_points.specs.CcStateReads.Named.{AreClasses, OfLocal, OfStatic, OfElement, OfMember, is_among, member_class}
use Rattle.cc_state_points.specs.CcStateReads.Reads.{AreNamed, registers_at}
use Rattle.cc_state_points.specs.CcSyntax.Programs.{place_type}

module _ (p : Program) (id : ℕ) (f : Func) where
  abbrev Own : Place → Option Key
  Own a = (in_place p id f a).own

  pub own_at : (a : Place) (x : one.Place-F Expr Place) → out-Place a ≡ x → Own a ≡ own_step p id f (map-Place Expr Place InExpr InPlace (in_expr p id f) (in_place p id f) x)
  unfolding in_expr in_place
  own_at a x h = ap (λ (w : InPlace). w.own) (fold_out-Place InExpr InPlace (expr_in p id f) (place_in p id f) a) ∙ ap (λ y. own_step p id f (map-Place Expr Place InExpr InPlace (in_expr p id f) (in_place p id f) y)) h

  pub own_element : (a b : Place) (i : Expr) → out-Place a ≡ one.Element b i → Own a ≡ Own b
  own_element a b i h = own_at a (one.Element b i) h

  module _ {I : Type 0} (d : Domain I) (register : ℕ → Option (Abs I)) where
    abbrev HasClasses : Place → Type 0
    HasClasses a = (k : Key) → Own a ≡ Some k → (ys : List Key) × AreClasses d p id f register a ys

    abbrev Any : Expr → Type 0
    Any e = Unit {0}

    classes_of : (a : Place) (x : one.Place-F Expr Place) → out-Place a ≡ x → PlaceParts Any HasClasses x → HasClasses a
    classes_of a (one.Local r) h parts = λ k own. (key.Local id r ∷ [], OfLocal r h refl)
    classes_of a (one.Static i) h parts = λ k own. (key.Object i ∷ [], OfStatic i h refl)
    classes_of a (one.Device n) h parts = λ k own. absurd (none-some k (sym (own_at a (one.Device n) h) ∙ own))
    classes_of a (one.Element b i) h parts = λ k own. let w = parts.0 k (sym (own_at a (one.Element b i) h) ∙ own) in (w.0, OfElement b i h w.1)
    classes_of a (one.Member b m) h parts = λ k own. (member_class (place_type p f.locals b) m, OfMember b m h refl)
    classes_of a (one.Deref e) h parts = λ k own. absurd (none-some k (sym (own_at a (one.Deref e) h) ∙ own))

    has_classes : (a : Place) → HasClasses a
    has_classes a = by_place Any HasClasses (λ x parts. tt) (λ x parts. classes_of (roll-Place x) x (out-roll-Place x) parts) a

    or_false : (b : Bool) → b ≡ true → (b || false) ≡ true
    or_false true h = refl
    or_false false h = h

    pub own_among : (a : Place) (k : Key) (n : ℕ) → key_number p k ≡ Some n → Own a ≡ Some k → (keys : List Key) × AreNamed d p id f register a keys × Contains keys k
    own_among a k n numbered own =
        let w = has_classes a k own in
        let is : w.0 ≡ k ∷ [] = own_classes d p id f register a w.0 k own w.1 in
        let at = position-Some (is_key k) (keys_of p) n k numbered in
        let there : Contains (keys_of p) k = contains_at (keys_of p) n k (slice_get-get_or (keys_of p) n k at.0 ∙ ap Some (sym (same_key k (get_or (keys_of p) n k) at.1))) in
        let among : is_among w.0 k ≡ true = subst (λ (l : List Key). is_among l k ≡ true) (sym is) (or_false (is_key k k) (own_key k)) in
        (filter (is_among w.0) (keys_of p), (w.0, w.1, refl), kept (is_among w.0) (keys_of p) k there among)

pub formed : {I : Type 0} (d : Domain I) (p : Program) (facts : Facts I) (k : Key) (number : ℕ) → key_number p k ≡ Some number → (n id : ℕ) (f : Func) (a : Place) → is_some (fact_at facts n) ≡ true → NamesByForm p id f a k → MayName p d facts n id f a k
formed d p facts k number numbered n id f a reached own =
    let fact = known (fact_at facts n) reached in
    let w = own_among p id f d (registers_at facts f n) a k number numbered own in
    record { fact = fact.0; keys = w.0; reached = fact.1; named = w.1; one = w.2 }
