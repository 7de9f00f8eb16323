-- Addresses that fit the type of a pointer, by what they name: an element of an array, or an object that is none. Their paths lead to something,
-- and the addresses of what is in their objects fit the types of that.
use Rattle.std.proofs.Common.{◌≡◌, ◌⊎◌, inl, inr, ⊎_elim, ℕ, zero, suc, ℤ, pos, ◌+ℤ◌, Bool, true, false, not, ◌&&◌, ◌||◌, List, [], ◌∷◌, ◌++◌, map, Option, Some, None, refl, ap, sym, ◌∙◌, subst, arith}
use Rattle.std.proofs.lemmas.Bool.{ltb-true, le-leb}
use Rattle.std.specs.Prelude.{is_some, nat_le, nat_lt, nat_eq, option_map, option_and_then, slice_get, if◌then◌else◌}
use Rattle.cc_state_values_sound.specs.CcEval.declared.spots.Spot.{Spot}
use Rattle.cc_state_values_sound.specs.CcEval.declared.spots.Spot.TheVariants as spot
use Rattle.cc_state_values_sound.specs.CcEval.Context.{object_type, has_elements, path_to, named_by, designated, element_in as spot_in}
use Rattle.cc_state_values_sound.specs.CcPlaces.Kept.{kept, starred_part, starred}
use Rattle.cc_program.specs.declared.program.Program.{Program}
use Rattle.cc_program.specs.declared.types.CType.{CType}
use Rattle.cc_program.specs.declared.types.Shape.{Shape, out-Shape}
use Rattle.cc_program.specs.declared.types.Shape.TheOpen as shape
use Rattle.cc_program.specs.declared.types.Sig.{Sig}
use Rattle.cc_program.specs.declared.value.Address.{Address}
use Rattle.cc_program.specs.declared.value.Address.TheVariants as address
use Rattle.cc_program.specs.declared.value.Part.{Part}
use Rattle.cc_program.specs.declared.value.Part.TheVariants as part
use Rattle.cc_program.specs.declared.value.Root.{Root}
use Rattle.cc_program.specs.declared.value.Root.TheVariants as root
use Rattle.cc_program.specs.declared.value.Value.TheVariants.{Int}
use Rattle.cc_state_values_sound.specs.CcStateOperators.Addresses.{object_address, member_address, element_in, element_address}
use Rattle.cc_state_values_sound.proofs.CcStateValues.Rules.{one_there}
use Rattle.cc_state_values_grow.specs.Growth.{MayPoint}
use Rattle.cc_state_values_sound.proofs.InStates.{no_elements}
use Rattle.cc_state_values_sound.proofs.Starring.{path_starred}
use Rattle.cc_state_values_sound.specs.Steps.{IsReal}
use Rattle.cc_state_values_sound.proofs.CcStates.MemoryLemmas.{part_in_memory}
use Rattle.cc_state_values_sound.proofs.CcStates.Options.{mapped, one_as_then, either_true, left_true, right_true}
use Rattle.cc_state_values_sound.proofs.CcStates.PlaceLemmas.{CanPoint, real}
use Rattle.cc_state_values_sound.proofs.CcStates.SpotLemmas.{may_lead_member, may_lead_element}
use Rattle.cc_state_values_sound.specs.CcStates.Typed.{place_in, IsOpened, IsAddress, IsSpot, MayLead}
use Rattle.cc_state_values_sound.proofs.CcSyntax.AlikeLemmas.{assigned_on_some}
use Rattle.cc_state_values_sound.proofs.CcSyntax.Prefixes.{both_true}
use Rattle.cc_state_values_sound.proofs.CcSyntax.SameLemmas.{and_true}
use Rattle.cc_state_values_sound.specs.CcSyntax.Expressions.{of_one}
use Rattle.cc_state_values_sound.specs.CcSyntax.Initial.{bound_shape, bound_of, place_at, leads_to_element, names, names_element, names_whole}
use Rattle.cc_state_values_sound.specs.CcSyntax.Lists.{is_count}
use Rattle.cc_state_values_sound.specs.CcValues.Values.{index_in, offset, moved_address}
use Rattle.cc_state_values_sound.specs.CcSyntax.Values.{ValueType, NoValue, Integer, ToObject, ToFunction, PlaceType, DevicePlace, ObjectPlace, FunctionPlace, scalar_shape, read_from, address_of, element_of, member_of, is_assignable, is_assignable_some}

-- ---- tests

not_true : (b : Bool) → not b ≡ true → b ≡ false
not_true true h = absurd (cc)
not_true false h = refl

true_not : (b : Bool) → b ≡ false → not b ≡ true
true_not true h = absurd (cc)
true_not false h = refl

le_of_lt : (i n : ℕ) → nat_lt i n ≡ true → nat_le i n ≡ true
le_of_lt i n h = let k = ltb-true i n h in le-leb i n (omega arith)

only_if : {A : Type 0} (b : Bool) (x : Option A) (y : A) → (if b then x else None) ≡ Some y → b ≡ true
only_if true x y h = refl
only_if false x y h = absurd (cc)

then_there : {A B : Type 0} (f : A → Option B) (a : Option A) (w : B) → option_and_then f a ≡ Some w → (x : A) × (a ≡ Some x) × (f x ≡ Some w)
then_there f None w h = absurd (cc)
then_there f (Some x) w h = (x, refl, h)

leads_starred : (path : List Part) → leads_to_element (map starred_part path) ≡ leads_to_element path
leads_starred [] = refl
leads_starred (part.Index i ∷ []) = refl
leads_starred (part.Member m ∷ []) = refl
leads_starred (part.Index i ∷ next ∷ path) = leads_starred (next ∷ path)
leads_starred (part.Member m ∷ next ∷ path) = leads_starred (next ∷ path)

-- an array is no scalar

bounded_shape : (n : ℕ) (x : shape.Shape-F Shape CType Sig) → is_count n (bound_shape x) ≡ true → is_some (scalar_shape x) ≡ true → ⊥
bounded_shape n (shape.Array of m) h k = absurd (cc)
bounded_shape n shape.Void h k = absurd (cc)
bounded_shape n (shape.Int t) h k = absurd (cc)
bounded_shape n (shape.Pointer to) h k = absurd (cc)
bounded_shape n (shape.Struct s) h k = absurd (cc)
bounded_shape n (shape.Func sig) h k = absurd (cc)

bounded_place : (n : ℕ) (a : PlaceType) → is_count n (bound_of a) ≡ true → is_some (read_from a) ≡ true → ⊥
bounded_place n (DevicePlace constant t) h k = absurd (cc)
bounded_place n (ObjectPlace constant volatile t) h k = bounded_shape n (out-Shape t.shape) h k
bounded_place n (FunctionPlace sig) h k = absurd (cc)

-- what holds of an address holds of what sets keep of it
pub record IsKept (P : Address → Type 0) : Type 0 where
  pub keeps : (a : Address) → P a → P (kept a)
  pub stars : (a : Address) → P a → P (starred a)

-- some activations, among which is one of a function with a number

opened_at : (n f : ℕ) → (openings : List ℕ) × (slice_get openings n ≡ Some f)
opened_at zero f = (f ∷ [], refl)
opened_at (suc n) f = let r = opened_at n f in (f ∷ r.0, r.1)

opened : (o : Root) → (openings : List ℕ) × IsOpened openings o
opened (root.Static i) = ([], tt)
opened (root.Auto n f l) = opened_at n f

module _ (p : Program) where
  -- to a place there a pointer of the type may lead, or to the elements there
  pub record Fitting (to : ValueType) (o : Root) (path : List Part) (count : ℕ) : Type 0 where
    pub place : PlaceType
    pub there : place_in p o path ≡ Some place
    pub fits : ((is_count count (bound_of place) ≡ true) × (is_assignable_some (Some to) (of_one (element_of place) address_of) ≡ true))
        ⊎ ((leads_to_element path ≡ false) × (is_assignable_some (Some to) (address_of place) ≡ true))

  abbrev pub Leads : ValueType → Address → Type 0
  Leads to address.Null = Unit {0}
  Leads to (address.Func f) = Unit {0}
  Leads to (address.At o path index count) = Fitting to o path count

  -- of a pointer of a type, and of a place of a type
  abbrev pub Points : ValueType → Address → Type 0
  Points NoValue a = Unit {0}
  Points (Integer t) a = Unit {0}
  Points (ToObject c v t) a = Leads (ToObject c v t) a
  Points (ToFunction sig) a = Leads (ToFunction sig) a

  abbrev pub Fits : PlaceType → Address → Type 0
  Fits (DevicePlace constant t) a = ⊥
  Fits (ObjectPlace c v t) a = Leads (ToObject c v t) a
  Fits (FunctionPlace sig) a = Leads (ToFunction sig) a

  real_leads : (to : ValueType) (a : Address) → Leads to a → IsReal p a
  real_leads to address.Null h = tt
  real_leads to (address.Func f) h = tt
  real_leads to (address.At o path i n) h = ap is_some (sym (one_as_then (object_type p o) (place_at p.structures path)) ∙ h.there)

  pub real_fits : (u : PlaceType) (a : Address) → Fits u a → IsReal p a
  real_fits (DevicePlace constant t) a h = absurd h
  real_fits (ObjectPlace c v t) a h = real_leads (ToObject c v t) a h
  real_fits (FunctionPlace sig) a h = real_leads (ToFunction sig) a h

  -- what fits is told by a test
  abbrev fits_test : ValueType → List Part → ℕ → Option PlaceType → Bool
  fits_test to path n None = false
  fits_test to path n (Some a) =
      (is_count n (bound_of a) && is_assignable_some (Some to) (of_one (element_of a) address_of)) || (not (leads_to_element path) && is_assignable_some (Some to) (address_of a))

  fitting_test : (to : ValueType) (o : Root) (path : List Part) (n : ℕ) → Fitting to o path n → fits_test to path n (place_in p o path) ≡ true
  fitting_test to o path n h = subst (λ (x : Option PlaceType). fits_test to path n x ≡ true) (sym h.there) (⊎_elim
      (λ (e : (is_count n (bound_of h.place) ≡ true) × (is_assignable_some (Some to) (of_one (element_of h.place) address_of) ≡ true)).
      left_true (is_count n (bound_of h.place) && is_assignable_some (Some to) (of_one (element_of h.place) address_of)) (not (leads_to_element path) && is_assignable_some (Some to) (address_of h.place))
      (and_true (is_count n (bound_of h.place)) (is_assignable_some (Some to) (of_one (element_of h.place) address_of)) e.0 e.1))
      (λ (e : (leads_to_element path ≡ false) × (is_assignable_some (Some to) (address_of h.place) ≡ true)).
      right_true (is_count n (bound_of h.place) && is_assignable_some (Some to) (of_one (element_of h.place) address_of)) (not (leads_to_element path) && is_assignable_some (Some to) (address_of h.place))
      (and_true (not (leads_to_element path)) (is_assignable_some (Some to) (address_of h.place)) (true_not (leads_to_element path) e.0) e.1))
      h.fits)

  tested_fitting : (to : ValueType) (o : Root) (path : List Part) (n : ℕ) (x : Option PlaceType) → place_in p o path ≡ x → fits_test to path n x ≡ true → Fitting to o path n
  tested_fitting to o path n None e h = absurd (cc)
  tested_fitting to o path n (Some a) e h = record {
    place = a;
    there = e;
    fits = ⊎_elim
        (λ (k : is_count n (bound_of a) && is_assignable_some (Some to) (of_one (element_of a) address_of) ≡ true). inl (both_true (is_count n (bound_of a)) (is_assignable_some (Some to) (of_one (element_of a) address_of)) k))
        (λ (k : not (leads_to_element path) && is_assignable_some (Some to) (address_of a) ≡ true).
        let w = both_true (not (leads_to_element path)) (is_assignable_some (Some to) (address_of a)) k in inr (not_true (leads_to_element path) w.0, w.1))
        (either_true (is_count n (bound_of a) && is_assignable_some (Some to) (of_one (element_of a) address_of)) (not (leads_to_element path) && is_assignable_some (Some to) (address_of a)) h);
  }

  -- so what cannot but fit fits
  never_false : (b : Bool) → ((b ≡ true → ⊥) → ⊥) → b ≡ true
  never_false true h = refl
  never_false false h = absurd (h (λ e. cc))

  leads_surely : (to : ValueType) (a : Address) → ((Leads to a → ⊥) → ⊥) → Leads to a
  leads_surely to address.Null h = tt
  leads_surely to (address.Func f) h = tt
  leads_surely to (address.At o path i n) h =
      tested_fitting to o path n (place_in p o path) refl (never_false (fits_test to path n (place_in p o path)) (λ never. h (λ k. never (fitting_test to o path n k))))

  pub points_surely : (to : ValueType) (a : Address) → ((Points to a → ⊥) → ⊥) → Points to a
  points_surely NoValue a h = tt
  points_surely (Integer t) a h = tt
  points_surely (ToObject c v t) a h = leads_surely (ToObject c v t) a h
  points_surely (ToFunction sig) a h = leads_surely (ToFunction sig) a h

  -- ---- what names an element or a whole fits

  names_fitting : (to : ValueType) (o : Root) (path : List Part) (i n : ℕ) (x : Option PlaceType) → place_in p o path ≡ x → names to path i n x ≡ true → Fitting to o path n
  names_fitting to o path i n None e h = absurd (cc)
  names_fitting to o path i n (Some a) e h = record {
    place = a;
    there = e;
    fits = ⊎_elim
        (λ (k : names_element to i n a ≡ true).
        let w = both_true (is_count n (bound_of a)) (nat_le i n && is_assignable_some (Some to) (of_one (element_of a) address_of)) k in
        inl (w.0, (both_true (nat_le i n) (is_assignable_some (Some to) (of_one (element_of a) address_of)) w.1).1))
        (λ (k : names_whole to path i n a ≡ true).
        let w = both_true (not (leads_to_element path)) (nat_eq n 1 && (nat_le i 1 && is_assignable_some (Some to) (address_of a))) k in
        let v = both_true (nat_eq n 1) (nat_le i 1 && is_assignable_some (Some to) (address_of a)) w.1 in
        inr (not_true (leads_to_element path) w.0, (both_true (nat_le i 1) (is_assignable_some (Some to) (address_of a)) v.1).1))
        (either_true (names_element to i n a) (names_whole to path i n a) h);
  }

  named_leads : (to : ValueType) (a : Address) → MayPoint p to a → Leads to a
  named_leads to address.Null h = tt
  named_leads to (address.Func f) h = tt
  named_leads to (address.At o path i n) h = names_fitting to o path i n (place_in p o path) refl h

  pub may_points : (to : ValueType) (a : Address) → MayPoint p to a → Points to a
  may_points NoValue a h = tt
  may_points (Integer t) a h = tt
  may_points (ToObject c v t) a h = named_leads (ToObject c v t) a h
  may_points (ToFunction sig) a h = named_leads (ToFunction sig) a h

  address_leads : (openings : List ℕ) (to : ValueType) (a : Address) → IsAddress p openings to a → Leads to a
  address_leads openings to address.Null h = tt
  address_leads openings to (address.Func f) h = tt
  address_leads openings to (address.At o path i n) h = names_fitting to o path i n (place_in p o path) refl h.1

  pub whole_leads : (to : ValueType) (o : Root) (path : List Part) (i n : ℕ) (a : PlaceType) → place_in p o path ≡ Some a → leads_to_element path ≡ false → is_assignable_some (Some to) (address_of a) ≡ true → Leads to (address.At o path i n)
  whole_leads to o path i n a e h k = record { place = a; there = e; fits = inr (h, k) }

  -- ---- what a set keeps of an address that fits

  kept_leads : (to : ValueType) (a : Address) → Leads to a → Leads to (kept a)
  kept_leads to address.Null h = tt
  kept_leads to (address.Func f) h = tt
  kept_leads to (address.At (root.Static o) path i n) h = h
  kept_leads to (address.At (root.Auto k f l) path i n) h = record { place = h.place; there = h.there; fits = h.fits }

  starred_there : (o : Root) (path : List Part) (a : PlaceType) → place_in p o path ≡ Some a → place_in p o (map starred_part path) ≡ Some a
  starred_there o path a h =
      let w = one_there (object_type p o) (place_at p.structures path) a h in
      ap (λ (z : Option PlaceType). of_one z (place_at p.structures (map starred_part path))) w.1 ∙ path_starred p.structures path w.0 a w.2

  fits_starred : (to : ValueType) (path : List Part) (n : ℕ) (a : PlaceType) →
      ((is_count n (bound_of a) ≡ true) × (is_assignable_some (Some to) (of_one (element_of a) address_of) ≡ true)) ⊎ ((leads_to_element path ≡ false) × (is_assignable_some (Some to) (address_of a) ≡ true)) →
      ((is_count n (bound_of a) ≡ true) × (is_assignable_some (Some to) (of_one (element_of a) address_of) ≡ true)) ⊎ ((leads_to_element (map starred_part path) ≡ false) × (is_assignable_some (Some to) (address_of a) ≡ true))
  fits_starred to path n a (inl h) = inl h
  fits_starred to path n a (inr h) = inr (leads_starred path ∙ h.0, h.1)

  starred_leads : (to : ValueType) (a : Address) → Leads to a → Leads to (starred a)
  starred_leads to address.Null h = tt
  starred_leads to (address.Func f) h = tt
  starred_leads to (address.At (root.Static o) path i n) h = record { place = h.place; there = starred_there (root.Static o) path h.place h.there; fits = fits_starred to path n h.place h.fits }
  starred_leads to (address.At (root.Auto k f l) path i n) h = record { place = h.place; there = starred_there (root.Auto 0 f l) path h.place h.there; fits = fits_starred to path n h.place h.fits }

  pub points_kept : (to : ValueType) → IsKept (Points to)
  points_kept NoValue = record { keeps = λ a h. tt; stars = λ a h. tt }
  points_kept (Integer t) = record { keeps = λ a h. tt; stars = λ a h. tt }
  points_kept (ToObject c v t) = record { keeps = kept_leads (ToObject c v t); stars = starred_leads (ToObject c v t) }
  points_kept (ToFunction sig) = record { keeps = kept_leads (ToFunction sig); stars = starred_leads (ToFunction sig) }

  pub fits_kept : (u : PlaceType) → IsKept (Fits u)
  fits_kept (DevicePlace constant t) = record { keeps = λ a h. h; stars = λ a h. h }
  fits_kept (ObjectPlace c v t) = record { keeps = kept_leads (ToObject c v t); stars = starred_leads (ToObject c v t) }
  fits_kept (FunctionPlace sig) = record { keeps = kept_leads (ToFunction sig); stars = starred_leads (ToFunction sig) }

  -- ---- null, functions, and what is moved

  pub null_points : (t : ValueType) → Points t address.Null
  null_points NoValue = tt
  null_points (Integer i) = tt
  null_points (ToObject c v to) = tt
  null_points (ToFunction sig) = tt

  pub function_points : (t : ValueType) (g : ℕ) → Points t (address.Func g)
  function_points NoValue g = tt
  function_points (Integer i) g = tt
  function_points (ToObject c v to) g = tt
  function_points (ToFunction sig) g = tt

  moved_leads : (to : ValueType) (n : ℤ) (a b : Address) → Leads to a → moved_address false n a ≡ Some b → Leads to b
  moved_leads to n address.Null b h e = absurd (cc)
  moved_leads to n (address.Func f) b h e = absurd (cc)
  moved_leads to n (address.At o path i count) b h e =
      let w = mapped (λ (k : ℕ). address.At o path k count) (index_in (pos i +ℤ offset false n) count) b e in
      subst (Leads to) w.2 h

  pub moved_points : (t : ValueType) (n : ℤ) (a b : Address) → Points t a → moved_address false n a ≡ Some b → Points t b
  moved_points NoValue n a b h e = tt
  moved_points (Integer i) n a b h e = tt
  moved_points (ToObject c v to) n a b h e = moved_leads (ToObject c v to) n a b h e
  moved_points (ToFunction sig) n a b h e = moved_leads (ToFunction sig) n a b h e

  -- ---- pointers of other types

  wider_leads : (to from : ValueType) (a : Address) → is_assignable to from ≡ true → Leads from a → Leads to a
  wider_leads to from address.Null h k = tt
  wider_leads to from (address.Func f) h k = tt
  wider_leads to from (address.At o path i n) h k = record {
    place = k.place;
    there = k.there;
    fits = ⊎_elim
        (λ (e : (is_count n (bound_of k.place) ≡ true) × (is_assignable_some (Some from) (of_one (element_of k.place) address_of) ≡ true)). inl (e.0, assigned_on_some to from (of_one (element_of k.place) address_of) h e.1))
        (λ (e : (leads_to_element path ≡ false) × (is_assignable_some (Some from) (address_of k.place) ≡ true)). inr (e.0, assigned_on_some to from (address_of k.place) h e.1))
        k.fits;
  }

  pub wider_points : (to from : ValueType) (a : Address) → is_assignable to from ≡ true → Points from a → Points to a
  wider_points NoValue from a h k = tt
  wider_points (Integer s) from a h k = tt
  wider_points (ToObject c v t) NoValue a h k = absurd (cc)
  wider_points (ToObject c v t) (Integer s) a h k = absurd (cc)
  wider_points (ToObject c v t) (ToObject c' v' u) a h k = wider_leads (ToObject c v t) (ToObject c' v' u) a h k
  wider_points (ToObject c v t) (ToFunction sig) a h k = absurd (cc)
  wider_points (ToFunction s) NoValue a h k = absurd (cc)
  wider_points (ToFunction s) (Integer t) a h k = absurd (cc)
  wider_points (ToFunction s) (ToObject c v t) a h k = absurd (cc)
  wider_points (ToFunction s) (ToFunction t) a h k = wider_leads (ToFunction s) (ToFunction t) a h k

  -- ---- what an address names

  pub record IsNamed (u : PlaceType) (a : Address) : Type 0 where
    pub leads_to : Spot
    pub openings : List ℕ
    pub is_spot : IsSpot p openings u leads_to
    pub is_named : designated p u leads_to ≡ named_by p u a

  element_names : (c v : Bool) (t : CType) (o : Root) (path : List Part) (i n : ℕ) (a : PlaceType) → nat_lt i n ≡ true → place_in p o path ≡ Some a → is_count n (bound_of a) ≡ true →
      is_assignable_some (Some (ToObject c v t)) (of_one (element_of a) address_of) ≡ true → IsNamed (ObjectPlace c v t) (address.At o path i n)
  element_names c v t o path i n a less there e k = record {
    leads_to = spot.Address (address.At o path i n);
    openings = (opened o).0;
    is_spot = (
      (opened o).1,
      subst (λ (x : Option PlaceType). names (ToObject c v t) path i n x ≡ true) (sym there)
          (left_true (names_element (ToObject c v t) i n a) (names_whole (ToObject c v t) path i n a)
          (and_true (is_count n (bound_of a)) (nat_le i n && is_assignable_some (Some (ToObject c v t)) (of_one (element_of a) address_of)) e
          (and_true (nat_le i n) (is_assignable_some (Some (ToObject c v t)) (of_one (element_of a) address_of)) (le_of_lt i n less) k))),
      part_in_memory p o path a there (λ whole scalar. bounded_place n a e scalar),
    );
    is_named = refl;
  }

  whole_names : (c v : Bool) (t : CType) (o : Root) (path : List Part) (i n : ℕ) (a : PlaceType) → nat_lt i n ≡ true → place_in p o path ≡ Some a → leads_to_element path ≡ false →
      is_assignable_some (Some (ToObject c v t)) (address_of a) ≡ true → IsNamed (ObjectPlace c v t) (address.At o path i n)
  whole_names c v t o path i n a less there e k = record {
    leads_to = spot.Object o path;
    openings = (opened o).0;
    is_spot = ((opened o).1, e, subst (λ (x : Option PlaceType). CanPoint c v t x) (sym there) k);
    is_named = sym (ap (λ (b : Bool). if b then Some (o, path_to (has_elements p (ObjectPlace c v t) o path) path i) else None) less
        ∙ ap (λ (b : Bool). Some (o, path_to b path i)) (no_elements p (opened o).0 c v t o path a there k));
  }

  named_at : (c v : Bool) (t : CType) (o : Root) (path : List Part) (i n : ℕ) (q : Root × List Part) → Fitting (ToObject c v t) o path n → named_by p (ObjectPlace c v t) (address.At o path i n) ≡ Some q → IsNamed (ObjectPlace c v t) (address.At o path i n)
  named_at c v t o path i n q h e =
      let less = only_if (nat_lt i n) (Some (o, path_to (has_elements p (ObjectPlace c v t) o path) path i)) q e in ⊎_elim
      (λ (k : (is_count n (bound_of h.place) ≡ true) × (is_assignable_some (Some (ToObject c v t)) (of_one (element_of h.place) address_of) ≡ true)). element_names c v t o path i n h.place less h.there k.0 k.1)
      (λ (k : (leads_to_element path ≡ false) × (is_assignable_some (Some (ToObject c v t)) (address_of h.place) ≡ true)). whole_names c v t o path i n h.place less h.there k.0 k.1)
      h.fits

  named_spot : (c v : Bool) (t : CType) (a : Address) (q : Root × List Part) → Leads (ToObject c v t) a → named_by p (ObjectPlace c v t) a ≡ Some q → IsNamed (ObjectPlace c v t) a
  named_spot c v t address.Null q h e = absurd (cc)
  named_spot c v t (address.Func f) q h e = absurd (cc)
  named_spot c v t (address.At o path i n) q h e = named_at c v t o path i n q h e

  -- ---- members

  object_fits : (openings : List ℕ) (w : PlaceType) (o : Root) (path : List Part) → IsSpot p openings w (spot.Object o path) → Fits w (object_address o path)
  object_fits openings (DevicePlace constant t) o path h = absurd h
  object_fits openings (FunctionPlace sig) o path h = absurd h
  object_fits openings (ObjectPlace c v t) o path h =
      let r = real c v t (place_in p o path) h.2 in
      whole_leads (ToObject c v t) o path 0 1 (ObjectPlace r.const r.volat r.to) r.is h.1 (subst (λ (x : Option PlaceType). CanPoint c v t x) r.is h.2)

  pub member_fits : (u w : PlaceType) (m : ℕ) (a b : Address) → Fits u a → member_of p.structures m u ≡ Some w → member_address p u m a ≡ Some b → Fits w b
  member_fits (DevicePlace constant t) w m a b h k e = absurd h
  member_fits (FunctionPlace sig) w m a b h k e = absurd (cc)
  member_fits (ObjectPlace c v t) w m a b h k e =
      let q = mapped (λ (o : Root × List Part). object_address o.0 (o.1 ++ part.Member m ∷ [])) (named_by p (ObjectPlace c v t) a) b e in
      let s = named_spot c v t a q.0 h q.1 in
      let l = subst (λ (x : Option (Root × List Part)). MayLead p s.openings w (option_map (λ (o : Root × List Part). spot.Object o.0 (o.1 ++ part.Member m ∷ [])) x)) (s.is_named ∙ q.1)
      (may_lead_member p s.openings (ObjectPlace c v t) w m (Some s.leads_to) s.is_spot k) in
      subst (Fits w) q.2 (object_fits s.openings w q.0.0 (q.0.1 ++ part.Member m ∷ []) l)

  -- ---- elements

  address_fits : (openings : List ℕ) (w : PlaceType) (b : Address) → IsSpot p openings w (spot.Address b) → Fits w b
  address_fits openings (DevicePlace constant t) b h = absurd h
  address_fits openings (ObjectPlace c v t) b h = address_leads openings (ToObject c v t) b h
  address_fits openings (FunctionPlace sig) b h = address_leads openings (ToFunction sig) b h

  element_bound : (openings : List ℕ) (w : PlaceType) (bound : Option ℕ) (i : ℤ) (q : Root × List Part) (b : Address) → MayLead p openings w (spot_in bound i q) → element_in bound i q ≡ Some b → Fits w b
  element_bound openings w None i q b h e = absurd (cc)
  element_bound openings w (Some count) i q b h e = address_fits openings w b (subst (λ (x : Option Address). MayLead p openings w (option_map spot.Address x)) e h)

  pub element_fits : (u w : PlaceType) (i : ℤ) (a b : Address) → Fits u a → element_of u ≡ Some w → element_address p u i a ≡ Some b → Fits w b
  element_fits (DevicePlace constant t) w i a b h k e = absurd h
  element_fits (FunctionPlace sig) w i a b h k e = absurd (cc)
  element_fits (ObjectPlace c v t) w i a b h k e =
      let q = then_there (element_in (bound_of (ObjectPlace c v t)) i) (named_by p (ObjectPlace c v t) a) b e in
      let s = named_spot c v t a q.0 h q.1 in
      element_bound s.openings w (bound_of (ObjectPlace c v t)) i q.0 b
      (subst (λ (x : Option (Root × List Part)). MayLead p s.openings w (option_and_then (spot_in (bound_of (ObjectPlace c v t)) i) x)) (s.is_named ∙ q.1)
      (may_lead_element p s.openings (ObjectPlace c v t) w (Some s.leads_to) (Some (Int i)) s.is_spot k)) q.2
