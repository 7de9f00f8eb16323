-- The addresses of members and elements of a place: they name what a pointer to that may point to, and their cells have the key of the place,
-- or that of the member.
use Rattle.std.proofs.Common.{◌≡◌, ℕ, zero, suc, ℤ, Bool, true, false, not, nat_lt, List, [], ◌∷◌, ◌++◌, Option, Some, None, refl, ap, sym, ◌∙◌, subst, slice_get}
use Rattle.std.specs.Prelude.{is_some, option_map, option_and_then, if◌then◌else◌}
use Rattle.std.proofs.lemmas.Option.{same_Some}
use Rattle.cc_state_reads.specs.CcEval.Context.{object_type, has_elements, path_to, named_by, element_in as spot_in}
use Rattle.cc_state_reads.specs.CcEval.declared.spots.Spot.TheVariants as spot
use Rattle.cc_program.specs.declared.program.Program.{Program}
use Rattle.cc_program.specs.declared.types.CType.{CType}
use Rattle.cc_program.specs.declared.types.Shape.{Shape, out-Shape}
use Rattle.cc_program.specs.declared.types.Shape.TheOpen as shape
use Rattle.cc_program.specs.declared.types.Sig.{Sig}
use Rattle.cc_program.specs.declared.types.Structure.{Structure}
use Rattle.cc_program.specs.declared.value.Address.{Address}
use Rattle.cc_program.specs.declared.value.Address.TheVariants as address
use Rattle.cc_program.specs.declared.value.Part.{Part}
use Rattle.cc_program.specs.declared.value.Part.TheVariants as part
use Rattle.cc_program.specs.declared.value.Root.{Root}
use Rattle.cc_program.specs.declared.value.Root.TheVariants as root
use Rattle.cc_program.specs.declared.value.Value.TheVariants.{Int}
use Rattle.cc_state.specs.Shape.{MayPoint}
use Rattle.cc_state_reads.specs.CcStateFacts.declared.facts.Key.{Key}
use Rattle.cc_state_reads.specs.CcStateFacts.declared.facts.Key.TheVariants as key
use Rattle.cc_state_reads.specs.CcStateKeys.Addressed.{IsAddressed}
use Rattle.cc_state_reads.specs.CcStateKeys.Keys.{structure_shape, structure_of, key_of_member, key_of_step, key_along, cell_key, root_key}
use Rattle.cc_state_reads.specs.CcStateOperators.Addresses.{object_address, member_address, element_in, element_address}
use Rattle.cc_state_values_fit.proofs.Names.{element_of_names, whole_of_names, as_whole, by_names, named_there, Names, IsKeyBy, HasKey, Stands, PlaceStands, stands_to, stands_from}
use Rattle.cc_state_values_grow.proofs.Fitting.{IsNamed}
use Rattle.cc_state_values_sound.proofs.InStates.{no_elements}
use Rattle.cc_flow_sound.proofs.CcStates.MemoryLemmas.{part_in_memory}
use Rattle.cc_flow_sound.proofs.CcStates.Options.{mapped, one_as_then}
use Rattle.cc_flow_sound.proofs.CcStates.PlaceLemmas.{CanPoint, real}
use Rattle.cc_flow_sound.proofs.CcStates.SpotLemmas.{designates, may_lead_member, may_lead_element}
use Rattle.cc_flow_sound.specs.CcStates.Typed.{place_in, IsOpened, IsSpot, MayLead}
use Rattle.cc_state_reads.proofs.CcSyntax.AlikeLemmas.{alike-struct}
use Rattle.cc_state_reads.specs.CcSyntax.Initial.{bound_shape, bound_of, step_into, place_at, leads_to_element, names, names_element, names_whole}
use Rattle.cc_state_reads.specs.CcSyntax.Lists.{is_count}
use Rattle.cc_state_reads.specs.CcSyntax.Values.{ValueType, NoValue, Integer, ToObject, ToFunction, PlaceType, DevicePlace, ObjectPlace, FunctionPlace, scalar_shape, read_from, address_of, pointed_to, element_of, member_shape, member_of, is_void}
use Rattle.cc_state_reads.specs.CcValues.Values.{index_in}

only_if : {A : Type 0} (b : Bool) (x : Option A) (y : A) → (if b then x else None) ≡ Some y → (b ≡ true) × (x ≡ Some y)
only_if true x y h = (refl, h)
only_if false x y h = absurd (cc)

then_there : {A B : Type 0} (f : A → Option B) (a : Option A) (w : B) → option_and_then f a ≡ Some w → (x : A) × (a ≡ Some x) × (f x ≡ Some w)
then_there f None w h = absurd (cc)
then_there f (Some x) w h = (x, refl, h)

not_true : (b : Bool) → not b ≡ true → b ≡ false
not_true true h = absurd (cc)
not_true false h = refl

true_not : (b : Bool) → b ≡ false → not b ≡ true
true_not true h = absurd (cc)
true_not false h = refl

-- an array is no scalar

bounded_shape : (n : ℕ) (x : shape.Shape-F Shape CType Sig) → is_count n (bound_shape x) ≡ true → is_some (scalar_shape x) ≡ true → ⊥
bounded_shape n (shape.Array of m) h k = absurd (cc)
bounded_shape n shape.Void h k = absurd (cc)
bounded_shape n (shape.Int t) h k = absurd (cc)
bounded_shape n (shape.Pointer to) h k = absurd (cc)
bounded_shape n (shape.Struct s) h k = absurd (cc)
bounded_shape n (shape.Func sig) h k = absurd (cc)

bounded_place : (n : ℕ) (a : PlaceType) → is_count n (bound_of a) ≡ true → is_some (read_from a) ≡ true → ⊥
bounded_place n (DevicePlace constant t) h k = absurd (cc)
bounded_place n (ObjectPlace constant volatile t) h k = bounded_shape n (out-Shape t.shape) h k
bounded_place n (FunctionPlace sig) h k = absurd (cc)

-- some activations, among which is one of a function with a number

opened_at : (n f : ℕ) → (openings : List ℕ) × (slice_get openings n ≡ Some f)
opened_at zero f = (f ∷ [], refl)
opened_at (suc n) f = let r = opened_at n f in (f ∷ r.0, r.1)

opened : (o : Root) → (openings : List ℕ) × IsOpened openings o
opened (root.Static i) = ([], tt)
opened (root.Auto n f l) = opened_at n f

-- ---- keys along longer paths

module _ (structures : List Structure) where
  key_end : (x : Option PlaceType) (before : Key) → key_along structures [] x before ≡ before
  key_end None before = refl
  key_end (Some a) before = refl

  key_of_element : (path : List Part) (i : ℕ) (x : Option PlaceType) (before : Key) → key_along structures (path ++ part.Index i ∷ []) x before ≡ key_along structures path x before
  key_of_element [] i None before = refl
  key_of_element [] i (Some a) before = key_end (step_into structures (part.Index i) a) before
  key_of_element (step ∷ path) i None before = refl
  key_of_element (step ∷ path) i (Some a) before = key_of_element path i (step_into structures step a) (key_of_step step a before)

  key_of_part : (path : List Part) (m s : ℕ) (x : Option PlaceType) (u : PlaceType) (before : Key) → option_and_then (place_at structures path) x ≡ Some u → structure_of u ≡ Some s → key_along structures (path ++ part.Member m ∷ []) x before ≡ key.Member s m
  key_of_part path m s None u before e h = absurd (cc)
  key_of_part [] m s (Some a) u before e h =
      key_end (step_into structures (part.Member m) a) (key_of_member (structure_of a) m before)
      ∙ ap (λ z. key_of_member z m before) (ap structure_of (same_Some a u e) ∙ h)
  key_of_part (step ∷ path) m s (Some a) u before e h =
      key_of_part path m s (step_into structures step a) u (key_of_step step a before) (sym (one_as_then (step_into structures step a) (place_at structures path)) ∙ e) h

struct_there : (structures : List Structure) (c v : Bool) (m : ℕ) (x : shape.Shape-F Shape CType Sig) (w : PlaceType) → member_shape structures c v m x ≡ Some w → (s : ℕ) × (x ≡ shape.Struct s)
struct_there structures c v m (shape.Struct s) w h = (s, refl)
struct_there structures c v m shape.Void w h = absurd (cc)
struct_there structures c v m (shape.Int t) w h = absurd (cc)
struct_there structures c v m (shape.Pointer to) w h = absurd (cc)
struct_there structures c v m (shape.Array of n) w h = absurd (cc)
struct_there structures c v m (shape.Func sig) w h = absurd (cc)

module _ (p : Program) where
  -- ---- a named object

  pub own_key : (o : Root) → cell_key p o [] ≡ root_key o
  own_key o = key_end p.structures (object_type p o) (root_key o)

  path_key : (b : Bool) (o : Root) (path : List Part) (index : ℕ) → cell_key p o (path_to b path index) ≡ cell_key p o path
  path_key true o path index = key_of_element p.structures path index (object_type p o) (root_key o)
  path_key false o path index = refl

  named_within : (own : Option Key) (t : PlaceType) (o : Root) (path : List Part) (index : ℕ) (b : Bool) (q : Root × List Part) → IsKeyBy p own (cell_key p o path) →
      (if b then Some (o, path_to (has_elements p t o path) path index) else None) ≡ Some q → IsKeyBy p own (cell_key p q.0 q.1)
  named_within own t o path index b q h e =
      let w = only_if b (Some (o, path_to (has_elements p t o path) path index)) q e in
      subst (λ (z : Root × List Part). IsKeyBy p own (cell_key p z.0 z.1)) (same_Some (o, path_to (has_elements p t o path) path index) q w.1)
      (subst (IsKeyBy p own) (sym (path_key (has_elements p t o path) o path index)) h)

  named_key : (own : Option Key) (t : PlaceType) (a : Address) (q : Root × List Part) → HasKey p own a → named_by p t a ≡ Some q → IsKeyBy p own (cell_key p q.0 q.1)
  named_key own t address.Null q h e = absurd (cc)
  named_key own t (address.Func g) q h e = absurd (cc)
  named_key own t (address.At o path index count) q h e = named_within own t o path index (nat_lt index count) q h e

  -- ---- what an address names

  element_names : (c v : Bool) (t : CType) (o : Root) (path : List Part) (i n : ℕ) (a : PlaceType) → place_in p o path ≡ Some a → names (ToObject c v t) path i n (place_in p o path) ≡ true → names_element (ToObject c v t) i n a ≡ true →
      IsNamed p (ObjectPlace c v t) (address.At o path i n)
  element_names c v t o path i n a there h e = record {
    leads_to = spot.Address (address.At o path i n);
    openings = (opened o).0;
    is_spot = ((opened o).1, h, part_in_memory p o path a there (λ whole scalar. bounded_place n a (element_of_names (ToObject c v t) i n a e).0 scalar));
    is_named = refl;
  }

  whole_names : (c v : Bool) (t : CType) (o : Root) (path : List Part) (i n : ℕ) (a : PlaceType) → nat_lt i n ≡ true → place_in p o path ≡ Some a → names_whole (ToObject c v t) path i n a ≡ true → IsNamed p (ObjectPlace c v t) (address.At o path i n)
  whole_names c v t o path i n a less there e =
      let w = whole_of_names (ToObject c v t) path i n a e in
      record {
        leads_to = spot.Object o path;
        openings = (opened o).0;
        is_spot = ((opened o).1, not_true (leads_to_element path) w.0, subst (λ (x : Option PlaceType). CanPoint c v t x) (sym there) w.3);
        is_named = sym (ap (λ (b : Bool). if b then Some (o, path_to (has_elements p (ObjectPlace c v t) o path) path i) else None) less
            ∙ ap (λ (b : Bool). Some (o, path_to b path i)) (no_elements p (opened o).0 c v t o path a there w.3));
      }

  named_at : (c v : Bool) (t : CType) (o : Root) (path : List Part) (i n : ℕ) (q : Root × List Part) → names (ToObject c v t) path i n (place_in p o path) ≡ true → named_by p (ObjectPlace c v t) (address.At o path i n) ≡ Some q →
      IsNamed p (ObjectPlace c v t) (address.At o path i n)
  named_at c v t o path i n q h e =
      let less = (only_if (nat_lt i n) (Some (o, path_to (has_elements p (ObjectPlace c v t) o path) path i)) q e).0 in
      let (a, there) = named_there (ToObject c v t) path i n (place_in p o path) h in
      by_names (ToObject c v t) path i n a
      (λ k. element_names c v t o path i n a there h k)
      (λ k. whole_names c v t o path i n a less there k)
      (subst (λ (x : Option PlaceType). names (ToObject c v t) path i n x ≡ true) there h)

  named_spot : (c v : Bool) (t : CType) (a : Address) (q : Root × List Part) → Names p (ToObject c v t) a → named_by p (ObjectPlace c v t) a ≡ Some q → IsNamed p (ObjectPlace c v t) a
  named_spot c v t address.Null q h e = absurd (cc)
  named_spot c v t (address.Func g) q h e = absurd (cc)
  named_spot c v t (address.At o path i n) q h e = named_at c v t o path i n q h e

  -- ---- members

  object_names : (openings : List ℕ) (w : PlaceType) (own : Option Key) (o : Root) (path : List Part) → IsSpot p openings w (spot.Object o path) → IsKeyBy p own (cell_key p o path) → PlaceStands p w own (object_address o path)
  object_names openings (DevicePlace constant t) own o path h k = absurd h
  object_names openings (FunctionPlace sig) own o path h k = absurd h
  object_names openings (ObjectPlace c v t) own o path h k =
      let r = real c v t (place_in p o path) h.2 in (
        subst (λ (x : Option PlaceType). names (ToObject c v t) path 0 1 x ≡ true) (sym r.is)
            (as_whole (ToObject c v t) path 0 1 (ObjectPlace r.const r.volat r.to) (true_not (leads_to_element path) h.1) refl refl (subst (λ (x : Option PlaceType). CanPoint c v t x) r.is h.2)),
        k,
      )

  member_key : (m s : ℕ) (c v : Bool) (t : CType) (q : Root × List Part) → out-Shape t.shape ≡ shape.Struct s → CanPoint c v t (place_in p q.0 q.1) → cell_key p q.0 (q.1 ++ part.Member m ∷ []) ≡ key.Member s m
  member_key m s c v t q e can =
      let r = real c v t (place_in p q.0 q.1) can in
      key_of_part p.structures q.1 m s (object_type p q.0) (ObjectPlace r.const r.volat r.to) (root_key q.0)
      (sym (one_as_then (object_type p q.0) (place_at p.structures q.1)) ∙ r.is) (ap structure_shape (alike-struct t r.to r.one s e))

  pub member_stands : (u w : PlaceType) (m : ℕ) (a b : Address) (own : Option Key) → PlaceStands p u own a → member_of p.structures m u ≡ Some w → member_address p u m a ≡ Some b →
      PlaceStands p w (option_map (λ s. key.Member s m) (structure_of u)) b
  member_stands (DevicePlace constant t) w m a b own h k e = absurd h
  member_stands (FunctionPlace sig) w m a b own h k e = absurd (cc)
  member_stands (ObjectPlace c v t) w m a b own h k e =
      let q = mapped (λ (o : Root × List Part). object_address o.0 (o.1 ++ part.Member m ∷ [])) (named_by p (ObjectPlace c v t) a) b e in
      let s = named_spot c v t a q.0 h.0 q.1 in
      let l = subst (λ (x : Option (Root × List Part)). MayLead p s.openings w (option_map (λ (o : Root × List Part). spot.Object o.0 (o.1 ++ part.Member m ∷ [])) x)) (s.is_named ∙ q.1)
      (may_lead_member p s.openings (ObjectPlace c v t) w m (Some s.leads_to) s.is_spot k) in
      let can = (designates p s.openings c v t s.leads_to q.0 s.is_spot (s.is_named ∙ q.1)).1 in
      let struct = struct_there p.structures c v m (out-Shape t.shape) w k in
      let own_is : option_map (λ (n : ℕ). key.Member n m) (structure_of (ObjectPlace c v t)) ≡ Some (key.Member struct.0 m) = ap (λ (x : shape.Shape-F Shape CType Sig). option_map (λ (n : ℕ). key.Member n m) (structure_shape x)) struct.1 in
      subst (λ (z : Option Key). PlaceStands p w z b) (sym own_is)
      (subst (PlaceStands p w (Some (key.Member struct.0 m))) q.2
      (object_names s.openings w (Some (key.Member struct.0 m)) q.0.0 (q.0.1 ++ part.Member m ∷ []) l (member_key m struct.0 c v t q.0 struct.1 can)))

  -- ---- elements

  element_spot : (openings : List ℕ) (w : PlaceType) (own : Option Key) (o : Root) (path : List Part) (k count : ℕ) → IsSpot p openings w (spot.Address (address.At o path k count)) → IsKeyBy p own (cell_key p o path) →
      PlaceStands p w own (address.At o path k count)
  element_spot openings (DevicePlace constant t) own o path k count h l = absurd h
  element_spot openings (ObjectPlace c v t) own o path k count h l = (h.1, l)
  element_spot openings (FunctionPlace sig) own o path k count h l = (h.1, l)

  element_bound : (openings : List ℕ) (w : PlaceType) (own : Option Key) (bound : Option ℕ) (i : ℤ) (q : Root × List Part) (b : Address) → MayLead p openings w (spot_in bound i q) → IsKeyBy p own (cell_key p q.0 q.1) → element_in bound i q ≡ Some b →
      PlaceStands p w own b
  element_bound openings w own None i q b h l e = absurd (cc)
  element_bound openings w own (Some count) i q b h l e =
      let k = mapped (λ (k : ℕ). address.At q.0 q.1 k count) (index_in i count) b e in
      subst (PlaceStands p w own) k.2
      (element_spot openings w own q.0 q.1 k.0 count
      (subst (λ (x : Option ℕ). MayLead p openings w (option_map spot.Address (option_map (λ (k : ℕ). address.At q.0 q.1 k count) x))) k.1 h) l)

  pub element_stands : (u w : PlaceType) (i : ℤ) (a b : Address) (own : Option Key) → PlaceStands p u own a → element_of u ≡ Some w → element_address p u i a ≡ Some b → PlaceStands p w own b
  element_stands (DevicePlace constant t) w i a b own h k e = absurd h
  element_stands (FunctionPlace sig) w i a b own h k e = absurd (cc)
  element_stands (ObjectPlace c v t) w i a b own h k e =
      let q = then_there (element_in (bound_of (ObjectPlace c v t)) i) (named_by p (ObjectPlace c v t) a) b e in
      let s = named_spot c v t a q.0 h.0 q.1 in
      element_bound s.openings w own (bound_of (ObjectPlace c v t)) i q.0 b
      (subst (λ (x : Option (Root × List Part)). MayLead p s.openings w (option_and_then (spot_in (bound_of (ObjectPlace c v t)) i) x)) (s.is_named ∙ q.1)
      (may_lead_element p s.openings (ObjectPlace c v t) w (Some s.leads_to) (Some (Int i)) s.is_spot k))
      (named_key own (ObjectPlace c v t) a q.0 h.1 q.1) q.2

  -- ---- pointers

  -- of a place the key of which, where one is told, is addressed
  key_addressed : (own : Option Key) (a : Address) → ((k : Key) → own ≡ Some k → IsAddressed p k) → HasKey p own a → HasKey p None a
  key_addressed own address.Null h k = tt
  key_addressed own (address.Func g) h k = tt
  key_addressed None (address.At o path index count) h k = k
  key_addressed (Some own) (address.At o path index count) h k = λ slot. subst (IsAddressed p) (sym k) (h own refl)

  address_stands : (to : ValueType) (own : Option Key) (a : Address) → ((k : Key) → own ≡ Some k → IsAddressed p k) → Stands p to own a → MayPoint p to a
  address_stands to own a h k = stands_to p to a (k.0, key_addressed own a h k.1)

  pub address_points : (u : PlaceType) (t : ValueType) (own : Option Key) (a : Address) → address_of u ≡ Some t → ((k : Key) → own ≡ Some k → IsAddressed p k) → PlaceStands p u own a → MayPoint p t a
  address_points (DevicePlace constant i) t own a e h k = absurd k
  address_points (ObjectPlace c v s) t own a e h k = subst (λ (x : ValueType). MayPoint p x a) (same_Some (ToObject c v s) t e) (address_stands (ToObject c v s) own a h k)
  address_points (FunctionPlace sig) t own a e h k = subst (λ (x : ValueType). MayPoint p x a) (same_Some (ToFunction sig) t e) (address_stands (ToFunction sig) own a h k)

  if_object : (b : Bool) (c v : Bool) (t : CType) (u : PlaceType) → (if b then None else Some (ObjectPlace c v t)) ≡ Some u → ObjectPlace c v t ≡ u
  if_object true c v t u e = absurd (cc)
  if_object false c v t u e = same_Some (ObjectPlace c v t) u e

  pub target_stands : (t : ValueType) (u : PlaceType) (a : Address) → pointed_to t ≡ Some u → MayPoint p t a → PlaceStands p u None a
  target_stands NoValue u a e h = absurd (cc)
  target_stands (Integer i) u a e h = absurd (cc)
  target_stands (ToObject c v t) u a e h = subst (λ (x : PlaceType). PlaceStands p x None a) (if_object (is_void t) c v t u e) (stands_from p (ToObject c v t) a h)
  target_stands (ToFunction sig) u a e h = subst (λ (x : PlaceType). PlaceStands p x None a) (same_Some (FunctionPlace sig) u e) (stands_from p (ToFunction sig) a h)
