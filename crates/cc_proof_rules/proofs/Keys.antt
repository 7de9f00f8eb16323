-- Keys of cells: activations' numbers and the indexes of elements tell nothing of them.
use Rattle.std.proofs.Common.{arith, ◌≡◌, ℕ, Bool, true, false, List, [], ◌∷◌, ◌++◌, map, Contains, Option, Some, None, refl, ap, sym, ◌∙◌, subst, ltb-true, lt-ltb}
use Rattle.std.specs.Prelude.{is_some, nat_lt, option_and_then, if◌then◌else◌}
use Rattle.std.specs.List.{flat_map}
use Rattle.std.proofs.lemmas.Option.{same_Some}
use Rattle.cc_state_values_sound.specs.CcEval.Context.{object_type, has_elements, path_to, named_by, designated}
use Rattle.cc_state_values_sound.specs.CcEval.declared.spots.Spot.{Spot}
use Rattle.cc_state_values_sound.specs.CcEval.declared.spots.Spot.TheVariants as spot
use Rattle.cc_state_values_sound.specs.CcPlaces.declared.addrs.Addrs.{Addrs}
use Rattle.cc_state_values_sound.specs.CcPlaces.Kept.{kept_root, starred_part, member_for}
use Rattle.cc_state_values_sound.specs.CcPlaces.Sets.{HasAddress}
use Rattle.cc_program.specs.declared.program.Program.{Program}
use Rattle.cc_program.specs.declared.types.Structure.{Structure}
use Rattle.cc_program.specs.declared.value.Address.{Address}
use Rattle.cc_program.specs.declared.value.Address.TheVariants as address
use Rattle.cc_program.specs.declared.value.Part.{Part}
use Rattle.cc_program.specs.declared.value.Part.TheVariants as part
use Rattle.cc_program.specs.declared.value.Root.{Root}
use Rattle.cc_program.specs.declared.value.Root.TheVariants as root
use Rattle.cc_proof_rules.proofs.Lists.{in_first, in_flat}
use Rattle.cc_proof_rules.specs.Operands.{HasAddressClass, HasClass}
use Rattle.cc_rules.specs.CcStateFacts.declared.facts.Key.{Key}
use Rattle.cc_rules.specs.CcStateFacts.declared.facts.Key.TheVariants as key
use Rattle.cc_rules.specs.CcStateKeys.Keys.{root_key, structure_of, key_of_member, key_of_step, key_along, cell_key}
use Rattle.cc_rules.specs.CcStateReads.Named.{target_class}
use Rattle.cc_state_values_sound.specs.CcSyntax.Expressions.{of_one}
use Rattle.cc_state_values_sound.specs.CcSyntax.Initial.{bound_of, is_below, step_into, place_at}
use Rattle.cc_state_values_sound.specs.CcSyntax.Values.{PlaceType, element_of}

-- ---- along paths

module _ (structures : List Structure) where
  pub key_end : (x : Option PlaceType) (before : Key) → key_along structures [] x before ≡ before
  key_end None before = refl
  key_end (Some a) before = refl

  pub key_of_element : (path : List Part) (i : ℕ) (x : Option PlaceType) (before : Key) → key_along structures (path ++ part.Index i ∷ []) x before ≡ key_along structures path x before
  key_of_element [] i None before = refl
  key_of_element [] i (Some a) before = key_end (step_into structures (part.Index i) a) before
  key_of_element (step ∷ path) i None before = refl
  key_of_element (step ∷ path) i (Some a) before = key_of_element path i (step_into structures step a) (key_of_step step a before)

  pub key_of_part : (path : List Part) (m s : ℕ) (x : Option PlaceType) (u : PlaceType) (before : Key) → option_and_then (place_at structures path) x ≡ Some u → structure_of u ≡ Some s → key_along structures (path ++ part.Member m ∷ []) x before ≡ key.Member s m
  key_of_part path m s None u before e h = absurd (cc)
  key_of_part [] m s (Some a) u before e h =
      key_end (step_into structures (part.Member m) a) (key_of_member (structure_of a) m before)
      ∙ ap (λ z. key_of_member z m before) (ap structure_of (same_Some a u e) ∙ h)
  key_of_part (step ∷ path) m s (Some a) u before e h = key_of_part path m s (step_into structures step a) u (key_of_step step a before) (as_then (step_into structures step a) e) h
    where
      as_then : (y : Option PlaceType) → of_one y (place_at structures path) ≡ Some u → option_and_then (place_at structures path) y ≡ Some u
      as_then None k = absurd (cc)
      as_then (Some b) k = k

  first_below : (i : ℕ) (bound : Option ℕ) → is_below i bound ≡ true → is_below 0 bound ≡ true
  first_below i None h = absurd (cc)
  first_below i (Some n) h = let k = ltb-true i n h in lt-ltb 0 n (omega (arith, k))

  step_starred : (step : Part) (a b : PlaceType) → step_into structures step a ≡ Some b → step_into structures (starred_part step) a ≡ Some b
  step_starred (part.Member m) a b h = h
  step_starred (part.Index i) a b h = by (is_below i (bound_of a)) refl h
    where
      by : (t : Bool) → is_below i (bound_of a) ≡ t → (if t then element_of a else None) ≡ Some b → step_into structures (part.Index 0) a ≡ Some b
      by true e k = ap (λ (z : Bool). if z then element_of a else None) (first_below i (bound_of a) e) ∙ k
      by false e k = absurd (cc)

  step_key : (step : Part) (a : PlaceType) (before : Key) → key_of_step (starred_part step) a before ≡ key_of_step step a before
  step_key (part.Member m) a before = refl
  step_key (part.Index i) a before = refl

  pub key_starred : (path : List Part) (x : Option PlaceType) (before : Key) → is_some (option_and_then (place_at structures path) x) ≡ true → key_along structures (map starred_part path) x before ≡ key_along structures path x before
  key_starred path None before h = absurd (cc)
  key_starred [] (Some a) before h = refl
  key_starred (step ∷ path) (Some a) before h = by (λ (b : PlaceType) k. key_starred path (Some b) (key_of_step step a before) k) (step_into structures step a) refl h
    where
      by : ((b : PlaceType) → is_some (option_and_then (place_at structures path) (Some b)) ≡ true →
          key_along structures (map starred_part path) (Some b) (key_of_step step a before) ≡ key_along structures path (Some b) (key_of_step step a before)) →
          (y : Option PlaceType) → step_into structures step a ≡ y → is_some (of_one y (place_at structures path)) ≡ true →
          key_along structures (map starred_part path) (step_into structures (starred_part step) a) (key_of_step (starred_part step) a before) ≡ key_along structures path (step_into structures step a) (key_of_step step a before)
      by again None e k = absurd (cc)
      by again (Some b) e k =
          ap (λ (z : Option PlaceType). key_along structures (map starred_part path) z (key_of_step (starred_part step) a before)) (step_starred step a b e)
          ∙ ap (key_along structures (map starred_part path) (Some b)) (step_key step a before)
          ∙ again b k
          ∙ ap (λ (z : Option PlaceType). key_along structures path z (key_of_step step a before)) (sym e)

-- ---- of objects

module _ (p : Program) where
  pub key_kept : (object : Root) (path : List Part) → cell_key p (kept_root object) path ≡ cell_key p object path
  key_kept (root.Static i) path = refl
  key_kept (root.Auto number g r) path = refl

  abbrev pub IsReal : Root → List Part → Type 0
  IsReal object path = is_some (option_and_then (place_at p.structures path) (object_type p object)) ≡ true

  pub key_for : (exact : Bool) (object : Root) (path : List Part) (index count : ℕ) → IsReal object path → Contains (target_class p (member_for exact (address.At object path index count))) (cell_key p object path)
  key_for true object path index count h = subst (λ (z : Key). Contains (cell_key p (kept_root object) path ∷ []) z) (key_kept object path) (in_first (cell_key p (kept_root object) path) [])
  key_for false object path index count h =
      let starred_key : Key = cell_key p (kept_root object) (map starred_part path) in
      subst (λ (z : Key). Contains (starred_key ∷ []) z) (key_kept object (map starred_part path) ∙ key_starred p.structures path (object_type p object) (root_key object) h) (in_first starred_key [])

  -- the classes of the members of a set have those of its addresses
  pub target_classes : (s : Addrs) (a : Address) → HasAddress s a → ((object : Root) (path : List Part) (index count : ℕ) → a ≡ address.At object path index count → IsReal object path) → HasAddressClass p (flat_map (target_class p) s.members) a
  target_classes s address.Null h real = tt
  target_classes s (address.Func g) h real = tt
  target_classes s (address.At object path index count) h real =
      in_flat (target_class p) s.members (member_for s.is_exact (address.At object path index count)) (cell_key p object path) h (key_for s.is_exact object path index count (real object path index count refl))

  -- the object that a place designates has its class
  path_key : (b : Bool) (object : Root) (path : List Part) (index : ℕ) → cell_key p object (path_to b path index) ≡ cell_key p object path
  path_key true object path index = key_of_element p.structures path index (object_type p object) (root_key object)
  path_key false object path index = refl

  named_class : (classes : List Key) (t : PlaceType) (object : Root) (path : List Part) (index count : ℕ) (b : Bool) (o : Root × List Part) → Contains classes (cell_key p object path) →
      (if b then Some (object, path_to (has_elements p t object path) path index) else None) ≡ Some o → Contains classes (cell_key p o.0 o.1)
  named_class classes t object path index count true o h e =
      subst (λ (z : Root × List Part). Contains classes (cell_key p z.0 z.1)) (same_Some (object, path_to (has_elements p t object path) path index) o e)
      (subst (Contains classes) (sym (path_key (has_elements p t object path) object path index)) h)
  named_class classes t object path index count false o h e = absurd (cc)

  address_class : (classes : List Key) (t : PlaceType) (a : Address) (o : Root × List Part) → HasAddressClass p classes a → named_by p t a ≡ Some o → Contains classes (cell_key p o.0 o.1)
  address_class classes t address.Null o h e = absurd (cc)
  address_class classes t (address.Func g) o h e = absurd (cc)
  address_class classes t (address.At object path index count) o h e = named_class classes t object path index count (nat_lt index count) o h e

  pub designated_class : (classes : List Key) (t : PlaceType) (s : Spot) (o : Root × List Part) → HasClass p classes (Some s) → designated p t s ≡ Some o → Contains classes (cell_key p o.0 o.1)
  designated_class classes t (spot.Device n) o h e = absurd (cc)
  designated_class classes t (spot.Object object path) o h e = subst (λ (z : Root × List Part). Contains classes (cell_key p z.0 z.1)) (same_Some (object, path) o e) h
  designated_class classes t (spot.Address a) o h e = address_class classes t a o h e
