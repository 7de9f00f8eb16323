-- Addresses that a pointer of a type may have, by what they name and by the key of its cell; what sets keep of them, and where they are moved to.
use Rattle.std.proofs.Common.{arith, ◌≡◌, ⊎_elim, ℕ, ℤ, pos, ◌+ℤ◌, Bool, true, false, true≢false, not, ◌&&◌, nat_le, nat_eq, List, [], ◌∷◌, map, Option, Some, None, refl, ap, sym, ◌∙◌, subst, slice_get}
use Rattle.std.specs.List.{Contains, list_any}
use Rattle.std.proofs.lemmas.Bool.{le-leb, eqb-true}
use Rattle.cc_state_reads.specs.CcEval.Context.{object_type}
use Rattle.cc_state_reads.specs.CcPlaces.Kept.{kept, starred_part, starred}
use Rattle.cc_state_reads.specs.CcPlaces.laws.ListLaws.{any_at, any_from}
use Rattle.cc_program.specs.declared.program.Program.{Program}
use Rattle.cc_program.specs.declared.types.Structure.{Structure}
use Rattle.cc_program.specs.declared.value.Address.{Address}
use Rattle.cc_program.specs.declared.value.Address.TheVariants as address
use Rattle.cc_program.specs.declared.value.Part.{Part}
use Rattle.cc_program.specs.declared.value.Part.TheVariants as part
use Rattle.cc_program.specs.declared.value.Root.{Root}
use Rattle.cc_program.specs.declared.value.Root.TheVariants as root
use Rattle.cc_state.proofs.Lists.{same_key, is_itself}
use Rattle.cc_state.specs.Shape.{IsSlot, MayPoint}
use Rattle.cc_state_reads.specs.CcStateFacts.declared.facts.Key.{Key}
use Rattle.cc_state_reads.specs.CcStateKeys.Addressed.{IsAddressed, taken_keys}
use Rattle.cc_state_reads.specs.CcStateKeys.Keys.{is_key, key_of_step, key_along, cell_key, root_key}
use Rattle.cc_state_reads.proofs.CcStateValues.Rules.{one_there}
use Rattle.cc_state_values_grow.proofs.Fitting.{IsKept}
use Rattle.cc_state_values_sound.proofs.Starring.{path_starred}
use Rattle.cc_flow_sound.proofs.CcStates.Options.{mapped, either_true, left_true, right_true}
use Rattle.cc_flow_sound.proofs.CcStates.TypedLemmas.{within}
use Rattle.cc_flow_sound.specs.CcStates.Typed.{place_in}
use Rattle.cc_state_reads.proofs.CcSyntax.AlikeLemmas.{assigned_on_some}
use Rattle.cc_state_reads.proofs.CcSyntax.Prefixes.{both_true}
use Rattle.cc_state_reads.proofs.CcSyntax.SameLemmas.{and_true}
use Rattle.cc_state_reads.specs.CcSyntax.Expressions.{of_one}
use Rattle.cc_state_reads.specs.CcSyntax.Initial.{step_into, bound_of, place_at, leads_to_element, names, names_element, names_whole}
use Rattle.cc_state_reads.specs.CcSyntax.Lists.{is_count}
use Rattle.cc_state_reads.specs.CcSyntax.Operators.{function_type}
use Rattle.cc_state_reads.specs.CcSyntax.Values.{ValueType, ToObject, ToFunction, PlaceType, DevicePlace, ObjectPlace, FunctionPlace, address_of, element_of, is_assignable, is_assignable_some}
use Rattle.cc_state_reads.specs.CcValues.Values.{index_in, offset, moved_address}

-- ---- what names an element, or a whole

pub element_of_names : (to : ValueType) (index count : ℕ) (a : PlaceType) → names_element to index count a ≡ true → (is_count count (bound_of a) ≡ true) × (nat_le index count ≡ true) × (is_assignable_some (Some to) (of_one (element_of a) address_of) ≡ true)
element_of_names to index count a h =
    let w = both_true (is_count count (bound_of a)) (nat_le index count && is_assignable_some (Some to) (of_one (element_of a) address_of)) h in
    let v = both_true (nat_le index count) (is_assignable_some (Some to) (of_one (element_of a) address_of)) w.1 in
    (w.0, v.0, v.1)

pub whole_of_names : (to : ValueType) (path : List Part) (index count : ℕ) (a : PlaceType) → names_whole to path index count a ≡ true →
    (not (leads_to_element path) ≡ true) × (nat_eq count 1 ≡ true) × (nat_le index 1 ≡ true) × (is_assignable_some (Some to) (address_of a) ≡ true)
whole_of_names to path index count a h =
    let w = both_true (not (leads_to_element path)) (nat_eq count 1 && (nat_le index 1 && is_assignable_some (Some to) (address_of a))) h in
    let v = both_true (nat_eq count 1) (nat_le index 1 && is_assignable_some (Some to) (address_of a)) w.1 in
    let u = both_true (nat_le index 1) (is_assignable_some (Some to) (address_of a)) v.1 in
    (w.0, v.0, u.0, u.1)

pub as_element : (to : ValueType) (path : List Part) (index count : ℕ) (a : PlaceType) → is_count count (bound_of a) ≡ true → nat_le index count ≡ true → is_assignable_some (Some to) (of_one (element_of a) address_of) ≡ true →
    names to path index count (Some a) ≡ true
as_element to path index count a h l k =
    left_true (names_element to index count a) (names_whole to path index count a)
    (and_true (is_count count (bound_of a)) (nat_le index count && is_assignable_some (Some to) (of_one (element_of a) address_of)) h
    (and_true (nat_le index count) (is_assignable_some (Some to) (of_one (element_of a) address_of)) l k))

pub as_whole : (to : ValueType) (path : List Part) (index count : ℕ) (a : PlaceType) → not (leads_to_element path) ≡ true → nat_eq count 1 ≡ true → nat_le index 1 ≡ true → is_assignable_some (Some to) (address_of a) ≡ true →
    names to path index count (Some a) ≡ true
as_whole to path index count a h m l k =
    right_true (names_element to index count a) (names_whole to path index count a)
    (and_true (not (leads_to_element path)) (nat_eq count 1 && (nat_le index 1 && is_assignable_some (Some to) (address_of a))) h
    (and_true (nat_eq count 1) (nat_le index 1 && is_assignable_some (Some to) (address_of a)) m (and_true (nat_le index 1) (is_assignable_some (Some to) (address_of a)) l k)))

pub by_names : {C : Type 0} (to : ValueType) (path : List Part) (index count : ℕ) (a : PlaceType) → (names_element to index count a ≡ true → C) → (names_whole to path index count a ≡ true → C) → names to path index count (Some a) ≡ true → C
by_names to path index count a f g h = ⊎_elim f g (either_true (names_element to index count a) (names_whole to path index count a) h)

pub named_there : (to : ValueType) (path : List Part) (index count : ℕ) (x : Option PlaceType) → names to path index count x ≡ true → (a : PlaceType) × (x ≡ Some a)
named_there to path index count None h = absurd (true≢false (sym h))
named_there to path index count (Some a) h = (a, refl)

-- of a place that is there
in_some : (to : ValueType) (path other : List Part) (index index' count : ℕ) (x : Option PlaceType) → ((a : PlaceType) → names to path index count (Some a) ≡ true → names to other index' count (Some a) ≡ true) → names to path index count x ≡ true →
    names to other index' count x ≡ true
in_some to path other index index' count None f h = absurd (true≢false (sym h))
in_some to path other index index' count (Some a) f h = f a h

-- ---- what sets keep of an address

leads_starred : (path : List Part) → leads_to_element (map starred_part path) ≡ leads_to_element path
leads_starred [] = refl
leads_starred (part.Index i ∷ []) = refl
leads_starred (part.Member m ∷ []) = refl
leads_starred (part.Index i ∷ next ∷ path) = leads_starred (next ∷ path)
leads_starred (part.Member m ∷ next ∷ path) = leads_starred (next ∷ path)

least_index : (n : ℕ) → nat_le 0 n ≡ true
least_index n = le-leb 0 n (omega arith)

named_starred : (to : ValueType) (path : List Part) (index count : ℕ) (a : PlaceType) → names to path index count (Some a) ≡ true → names to (map starred_part path) 0 count (Some a) ≡ true
named_starred to path index count a h =
    by_names to path index count a
    (λ e. (let w = element_of_names to index count a e in as_element to (map starred_part path) 0 count a w.0 (least_index count) w.2))
    (λ e. (let w = whole_of_names to path index count a e in as_whole to (map starred_part path) 0 count a (ap not (leads_starred path) ∙ w.0) w.1 refl w.3)) h

-- the key along a path is that along the path with every index 0
step_key : (step : Part) (a : PlaceType) (k : Key) → key_of_step (starred_part step) a k ≡ key_of_step step a k
step_key (part.Index i) a k = refl
step_key (part.Member m) a k = refl

key_starred : (structures : List Structure) (path : List Part) (a b : PlaceType) (k : Key) → place_at structures path a ≡ Some b → key_along structures (map starred_part path) (Some a) k ≡ key_along structures path (Some a) k
key_starred structures [] a b k h = refl
key_starred structures (step ∷ path) a b k h =
    let w = one_there (step_into structures step a) (place_at structures path) b h in
    let same : step_into structures (starred_part step) a ≡ Some w.0 = one_step step w.0 w.1 in
    ap (λ (x : Option PlaceType). key_along structures (map starred_part path) x (key_of_step (starred_part step) a k)) same
    ∙ (ap (λ (q : Key). key_along structures (map starred_part path) (Some w.0) q) (step_key step a k)
    ∙ (key_starred structures path w.0 b (key_of_step step a k) w.2 ∙ ap (λ (x : Option PlaceType). key_along structures path x (key_of_step step a k)) (sym w.1)))
  where
    one_step : (step : Part) (c : PlaceType) → step_into structures step a ≡ Some c → step_into structures (starred_part step) a ≡ Some c
    one_step step c e =
        let s : place_at structures (step ∷ []) a ≡ Some c = ap (λ (x : Option PlaceType). of_one x (place_at structures [])) e in
        let t = one_there (step_into structures (starred_part step) a) (place_at structures []) c (path_starred structures (step ∷ []) a c s) in
        t.1 ∙ t.2

never_false : (b : Bool) → ((b ≡ true → ⊥) → ⊥) → b ≡ true
never_false true h = refl
never_false false h = absurd (h (λ e. cc))

module _ (p : Program) where
  -- an address names what a pointer of a type may point to
  abbrev pub Names : ValueType → Address → Type 0
  Names to address.Null = Unit {0}
  Names to (address.Func g) = is_assignable_some (Some to) (function_type (slice_get p.funcs g)) ≡ true
  Names to (address.At o path index count) = names to path index count (place_in p o path) ≡ true

  -- a key is this one or, where none is told, is addressed where it is that of a slot
  abbrev pub IsKeyBy : Option Key → Key → Type 0
  IsKeyBy None k = IsSlot p k → IsAddressed p k
  IsKeyBy (Some own) k = k ≡ own

  abbrev pub HasKey : Option Key → Address → Type 0
  HasKey own address.Null = Unit {0}
  HasKey own (address.Func g) = Unit {0}
  HasKey own (address.At o path index count) = IsKeyBy own (cell_key p o path)

  abbrev pub Stands : ValueType → Option Key → Address → Type 0
  Stands to own a = Names to a × HasKey own a

  -- of a place of a type
  abbrev pub PlaceStands : PlaceType → Option Key → Address → Type 0
  PlaceStands (DevicePlace constant t) own a = ⊥
  PlaceStands (ObjectPlace c v t) own a = Stands (ToObject c v t) own a
  PlaceStands (FunctionPlace sig) own a = Stands (ToFunction sig) own a

  pub stands_to : (to : ValueType) (a : Address) → Stands to None a → MayPoint p to a
  stands_to to address.Null h = tt
  stands_to to (address.Func g) h = h.0
  stands_to to (address.At o path index count) h = h

  pub stands_from : (to : ValueType) (a : Address) → MayPoint p to a → Stands to None a
  stands_from to address.Null h = (tt, tt)
  stands_from to (address.Func g) h = (h, tt)
  stands_from to (address.At o path index count) h = h

  -- ---- kept

  place_starred : (o : Root) (path : List Part) (a : PlaceType) → place_in p o path ≡ Some a → place_in p o (map starred_part path) ≡ Some a
  place_starred o path a h =
      let w = one_there (object_type p o) (place_at p.structures path) a h in
      ap (λ (z : Option PlaceType). of_one z (place_at p.structures (map starred_part path))) w.1 ∙ path_starred p.structures path w.0 a w.2

  cell_starred : (o : Root) (path : List Part) (a : PlaceType) → place_in p o path ≡ Some a → cell_key p o (map starred_part path) ≡ cell_key p o path
  cell_starred o path a h =
      let w = one_there (object_type p o) (place_at p.structures path) a h in
      ap (λ (z : Option PlaceType). key_along p.structures (map starred_part path) z (root_key o)) w.1
      ∙ (key_starred p.structures path w.0 a (root_key o) w.2 ∙ ap (λ (z : Option PlaceType). key_along p.structures path z (root_key o)) (sym w.1))

  abbrev IsAt : ValueType → Option Key → Root → List Part → ℕ → ℕ → Type 0
  IsAt to own o path index count = (names to path index count (place_in p o path) ≡ true) × IsKeyBy own (cell_key p o path)

  at_starred : (to : ValueType) (own : Option Key) (o : Root) (path : List Part) (index count : ℕ) → IsAt to own o path index count → IsAt to own o (map starred_part path) 0 count
  at_starred to own o path index count h =
      let (a, there) = named_there to path index count (place_in p o path) h.0 in
      let named = named_starred to path index count a (subst (λ (x : Option PlaceType). names to path index count x ≡ true) there h.0) in (
        subst (λ (x : Option PlaceType). names to (map starred_part path) 0 count x ≡ true) (sym (place_starred o path a there)) named,
        subst (IsKeyBy own) (sym (cell_starred o path a there)) h.1,
      )

  stars : (to : ValueType) (own : Option Key) (a : Address) → Stands to own a → Stands to own (starred a)
  stars to own address.Null h = h
  stars to own (address.Func g) h = h
  stars to own (address.At (root.Static i) path index count) h = at_starred to own (root.Static i) path index count h
  stars to own (address.At (root.Auto n f l) path index count) h = at_starred to own (root.Auto 0 f l) path index count h

  keeps : (to : ValueType) (own : Option Key) (a : Address) → Stands to own a → Stands to own (kept a)
  keeps to own address.Null h = h
  keeps to own (address.Func g) h = h
  keeps to own (address.At (root.Static i) path index count) h = h
  keeps to own (address.At (root.Auto n f l) path index count) h = h

  stands_kept : (to : ValueType) (own : Option Key) → IsKept (Stands to own)
  stands_kept to own = record { keeps = keeps to own; stars = stars to own }

  pub place_kept : (u : PlaceType) (own : Option Key) → IsKept (PlaceStands u own)
  place_kept (DevicePlace constant t) own = record { keeps = λ a h. h; stars = λ a h. h }
  place_kept (ObjectPlace c v t) own = stands_kept (ToObject c v t) own
  place_kept (FunctionPlace sig) own = stands_kept (ToFunction sig) own

  pub point_kept : (to : ValueType) → IsKept (MayPoint p to)
  point_kept to = record {
    keeps = λ a h. stands_to to (kept a) (keeps to None a (stands_from to a h));
    stars = λ a h. stands_to to (starred a) (stars to None a (stands_from to a h));
  }

  -- ---- what cannot but be one

  among_surely : (keys : List Key) (k : Key) → ((Contains keys k → ⊥) → ⊥) → Contains keys k
  among_surely keys k h = by (list_any (is_key k) keys) refl
    where
      by : (b : Bool) → list_any (is_key k) keys ≡ b → Contains keys k
      by true e = let (q, there, is) = any_at (is_key k) keys e in subst (Contains keys) (sym (same_key k q is)) there
      by false e = absurd (h (λ c. true≢false (sym (any_from (is_key k) keys k c (is_itself k)) ∙ e)))

  pub point_surely : (to : ValueType) (a : Address) → ((MayPoint p to a → ⊥) → ⊥) → MayPoint p to a
  point_surely to address.Null h = tt
  point_surely to (address.Func g) h = never_false (is_assignable_some (Some to) (function_type (slice_get p.funcs g))) h
  point_surely to (address.At o path index count) h = (
    never_false (names to path index count (place_in p o path)) (λ never. h (λ k. never k.0)),
    λ slot. among_surely (taken_keys p) (cell_key p o path) (λ never. h (λ k. never (k.1 slot))),
  )

  -- ---- pointers of other types

  names_wider : (to from : ValueType) (path : List Part) (index count : ℕ) → is_assignable to from ≡ true → (x : Option PlaceType) → names from path index count x ≡ true → names to path index count x ≡ true
  names_wider to from path index count h None k = absurd (true≢false (sym k))
  names_wider to from path index count h (Some a) k =
      by_names from path index count a
      (λ e. (let w = element_of_names from index count a e in as_element to path index count a w.0 w.1 (assigned_on_some to from (of_one (element_of a) address_of) h w.2)))
      (λ e. (let w = whole_of_names from path index count a e in as_whole to path index count a w.0 w.1 w.2 (assigned_on_some to from (address_of a) h w.3))) k

  pub point_wider : (to from : ValueType) (a : Address) → is_assignable to from ≡ true → MayPoint p from a → MayPoint p to a
  point_wider to from address.Null h k = tt
  point_wider to from (address.Func g) h k = assigned_on_some to from (function_type (slice_get p.funcs g)) h k
  point_wider to from (address.At o path index count) h k = (names_wider to from path index count h (place_in p o path) k.0, k.1)

  -- ---- what is moved

  named_moved : (to : ValueType) (path : List Part) (index k count : ℕ) (a : PlaceType) → nat_le k count ≡ true → names to path index count (Some a) ≡ true → names to path k count (Some a) ≡ true
  named_moved to path index k count a l h =
      by_names to path index count a
      (λ e. (let w = element_of_names to index count a e in as_element to path k count a w.0 l w.2))
      (λ e. (let w = whole_of_names to path index count a e in as_whole to path k count a w.0 w.1 (subst (λ (n : ℕ). nat_le k n ≡ true) (eqb-true count 1 w.1) l) w.3)) h

  pub point_moved : (to : ValueType) (n : ℤ) (a b : Address) → MayPoint p to a → moved_address false n a ≡ Some b → MayPoint p to b
  point_moved to n address.Null b h e = absurd (cc)
  point_moved to n (address.Func g) b h e = absurd (cc)
  point_moved to n (address.At o path index count) b h e =
      let w = mapped (λ (k : ℕ). address.At o path k count) (index_in (pos index +ℤ offset false n) count) b e in
      subst (MayPoint p to) w.2 (in_some to path path index w.0 count (place_in p o path) (λ a k. named_moved to path index w.0 count a (within (pos index +ℤ offset false n) count w.0 w.1) k) h.0, h.1)
