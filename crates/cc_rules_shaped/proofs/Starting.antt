-- What keys are asked to have, and what the entry of main gets, fits: first values are of the types of their scalars, and the text takes the addresses
-- that stand in them.
use Rattle.std.proofs.Common.{arith, ◌≡◌, inl, inr, ℕ, suc, ℤ, ◌+◌, ◌<◌, true, true≢false, List, [], ◌∷◌, map, length, Contains, Option, Some, None, slice_get, refl, ap, sym, ◌∙◌, subst}
use Rattle.std.specs.Prelude.{option_map, option_and_then}
use Rattle.std.specs.List.{flat_map}
use Rattle.std.proofs.lemmas.List.Elements.{Contains-append_left, Contains-append_right}
use Rattle.std.proofs.lemmas.Option.{same_Some, none-some, slice_get_within, slice_get-map}
use Rattle.cc_rules_grow.specs.CcCells.Cells.{scalar_in}
use Rattle.cc_rules_grow.specs.CcCells.Scalars.{position}
use Rattle.cc_rules_grow.specs.CcEval.Context.{object_type}
use Rattle.cc_rules_grow.specs.CcFlowSound.Moves.{entry}
use Rattle.cc_program.proofs.CcNum.ResultLaws.{value_from_test}
use Rattle.cc_program.specs.CcNum.Integers.{is_value_of}
use Rattle.cc_rules_grow.specs.CcPlaces.Abstract.{AreOfOneKind, IsBelowAbs, HasValue}
use Rattle.cc_rules_grow.specs.CcPlaces.declared.abs.Abs.{Abs}
use Rattle.cc_rules_grow.specs.CcPlaces.declared.abs.Abs.TheVariants as abs
use Rattle.cc_rules_grow.specs.CcPlaces.declared.addrs.Addrs.{Addrs}
use Rattle.cc_rules_grow.specs.CcPlaces.laws.ListLaws.{at_head, none_in, behind_head, cons_cases}
use Rattle.cc_rules_grow.specs.CcPlaces.Sets.{HasAddress}
use Rattle.cc_program.specs.declared.func.Func.{Func}
use Rattle.cc_program.specs.declared.object.Object.{Object}
use Rattle.cc_program.specs.declared.program.Program.{Program}
use Rattle.cc_program.specs.declared.types.CType.{CType}
use Rattle.cc_program.specs.declared.types.Shape.{out-Shape}
use Rattle.cc_program.specs.declared.value.Address.{Address}
use Rattle.cc_program.specs.declared.value.Address.TheVariants as address
use Rattle.cc_program.specs.declared.value.Leaf.TheVariants as leaf
use Rattle.cc_program.specs.declared.value.Part.{Part}
use Rattle.cc_program.specs.declared.value.Root.{Root}
use Rattle.cc_program.specs.declared.value.Root.TheVariants as root
use Rattle.cc_program.specs.declared.value.Value.{Value}
use Rattle.cc_program.specs.declared.value.Value.TheVariants.{Int, Place}
use Rattle.cc_rules_grow.specs.CcRules.Rules.{IsFirstValue, IsFirstSet, AreFirstSets, IsOnly, IsStart, IsStarted, AtStart, Elsewhere}
use Rattle.cc_rules_grow.proofs.Elements.{map_contained, some_within}
use Rattle.cc_rules_grow.proofs.Firsts.{some_is, tracked_scalar, first_there}
use Rattle.cc_rules_grow.specs.CcRulesNeeds.declared.needs.Part.TheVariants.{Mark, LevelSet, Values}
use Rattle.cc_rules_grow.specs.CcRulesNeeds.declared.needs.Slot.TheVariants.{Whole, ByMain, Levels}
use Rattle.cc_rules_grow.specs.CcRulesNeeds.Flowing.{Flowing}
use Rattle.cc_rules_grow.specs.CcRulesNeeds.Needs.{Needs, Has}
use Rattle.cc_rules_shaped.proofs.Fit.{register_typed, Known, FlowFits, flow_fits, some_in}
use Rattle.cc_rules_shaped.proofs.Rules.{entry_there}
use Rattle.cc_rules_shaped.proofs.Zeros.{object_leaf}
use Rattle.cc_rules_shaped.specs.Shaped.{AreSomeIn, AreFitBehind, AreFit}
use Rattle.cc_rules_grow.proofs.CcState.CellTypes.{one_type, IsHeld, IsHeldIn, IsTyped, read_held, key_held}
use Rattle.cc_rules_grow.proofs.CcState.Lists.{contains_at, only_one}
use Rattle.cc_rules_grow.proofs.CcState.Sets.{scalar_at}
use Rattle.cc_rules_grow.specs.CcState.Shape.{IsCellType, OfScalar, OfElements, ctype_of, MayPoint, IsSetIn, IsTrackedType, IsKeyType, HaveShape}
use Rattle.cc_rules_grow.specs.CcStateFacts.declared.facts.Facts.{Facts}
use Rattle.cc_rules_grow.specs.CcStateFacts.declared.facts.Key.{Key}
use Rattle.cc_rules_grow.specs.CcStateFacts.Levels.{only_level}
use Rattle.cc_rules_grow.specs.CcStateKeys.Addressed.{taken_in_func, taken_in_leaf, taken_in_object, IsAddressed}
use Rattle.cc_rules_grow.specs.CcStateKeys.Keys.{keys_of, cell_key}
use Rattle.cc_rules_grow.specs.CcStateKeys.Lists.{all_from}
use Rattle.cc_rules_grow.specs.CcStateKeys.Tracked.{tracked}
use Rattle.cc_rules_grow.specs.CcStateOperators.Domains.{Domain}
use Rattle.cc_rules_grow.proofs.CcStateValues.Rules.{one_there, IsPointer}
use Rattle.cc_state_values_fit.proofs.Names.{point_kept}
use Rattle.cc_state_values_fit.proofs.Sets.{IsTyping, addrs_in, no_ints, one_kind, set_surely, whole_set, below_in, has_all}
use Rattle.cc_state_values_fit.proofs.Unions.{listed_all, AreThose, those_never}
use Rattle.cc_state_values_fit.specs.Fit.{HasWholes}
use Rattle.cc_rules_grow.proofs.CcStates.Options.{mapped}
use Rattle.cc_rules_grow.proofs.CcStates.StartLemmas.{start_state}
use Rattle.cc_rules_grow.specs.CcStates.Typed.{IsAddress, HasType}
use Rattle.cc_rules_grow.specs.CcSteps.State.{first_values}
use Rattle.cc_rules_grow.specs.CcSteps.Turn.{start}
use Rattle.cc_rules_grow.proofs.CcSyntax.NameRules.{sound-typed}
use Rattle.cc_rules_grow.specs.CcSyntax.Expressions.{of_one}
use Rattle.cc_rules_grow.specs.CcSyntax.Initial.{place_at}
use Rattle.cc_rules_grow.specs.CcSyntax.Normal.{IsNormal}
use Rattle.cc_rules_grow.specs.CcSyntax.Values.{ValueType, NoValue, Integer, ToObject, ToFunction, PlaceType, DevicePlace, ObjectPlace, FunctionPlace, object_place, read_from, is_scalar, scalar_value}

then_there : {A B : Type 0} (g : A → Option B) (a : Option A) (w : B) → option_and_then g a ≡ Some w → (x : A) × (a ≡ Some x) × (g x ≡ Some w)
then_there g None w h = absurd (none-some w h)
then_there g (Some x) w h = (x, refl, h)

into_flat : {A B : Type 0} (g : A → List B) (xs : List A) (x : A) (b : B) → Contains xs x → Contains (g x) b → Contains (flat_map g xs) b
into_flat g [] x b c h = absurd (none_in x c)
into_flat g (y ∷ xs) x b c h = elim (cons_cases y xs x c) [
  | inl e ↦ Contains-append_left (g y) (flat_map g xs) b (subst (λ z. Contains (g z) b) (sym e) h)
  | inr r ↦ Contains-append_right (g y) (flat_map g xs) b (into_flat g xs x b r h)
]

-- the addresses among some values
places : List Value → List Address
places [] = []
places (Int n ∷ vs) = places vs
places (Place a ∷ vs) = a ∷ places vs

place_in : (vs : List Value) (a : Address) → Contains vs (Place a) → Contains (places vs) a
unfolding places
place_in [] a c = absurd (none_in (Place a) c)
place_in (Int n ∷ vs) a c = elim (cons_cases (Int n) vs (Place a) c) [ inl e ↦ absurd (cc) | inr r ↦ place_in vs a r ]
place_in (Place b ∷ vs) a c = elim (cons_cases (Place b) vs (Place a) c) [
  | inl e ↦ let same : b ≡ a = cc in subst (λ (z : Address). Contains (b ∷ places vs) z) same (at_head b (places vs))
  | inr r ↦ behind_head b (places vs) a (place_in vs a r)
]

-- cells hold scalars
cell_scalar : (c : CType) (t : ValueType) → IsCellType c t → is_scalar t ≡ true
cell_scalar c t (OfScalar e) = scalar_at (out-Shape c.shape) t e
cell_scalar c t (OfElements of n is h) = cell_scalar of t h

module _ (p : Program) where
  -- a value that may stand in a set of a type
  abbrev MayHold : ValueType → Value → Type 0
  MayHold NoValue v = ⊥
  MayHold (Integer i) (Int n) = is_value_of i p.target n ≡ true
  MayHold (Integer i) (Place a) = ⊥
  MayHold (ToObject c v t) (Int n) = ⊥
  MayHold (ToObject c v t) (Place a) = MayPoint p (ToObject c v t) a
  MayHold (ToFunction sig) (Int n) = ⊥
  MayHold (ToFunction sig) (Place a) = MayPoint p (ToFunction sig) a

  -- ---- first values

  leaf_addressed : (i : ℕ) (o : Object) (r : Root) (path : List Part) (index count : ℕ) → slice_get p.objects i ≡ Some o → Contains o.init (leaf.Place (address.At r path index count)) → IsAddressed p (cell_key p r path)
  leaf_addressed i o r path index count there c =
      Contains-append_right (all_from (taken_in_func p) 0 p.funcs) (flat_map (taken_in_object p) p.objects) (cell_key p r path)
      (into_flat (taken_in_object p) p.objects o (cell_key p r path) (contains_at p.objects i o there)
      (into_flat (taken_in_leaf p) o.init (leaf.Place (address.At r path index count)) (cell_key p r path) c (at_head (cell_key p r path) [])))

  address_holds : (openings : List ℕ) (i : ℕ) (o : Object) (k : ℕ) (to : ValueType) (a : Address) → slice_get p.objects i ≡ Some o → slice_get (first_values p o) k ≡ Some (Place a) → IsAddress p openings to a → MayPoint p to a
  address_holds openings i o k to address.Null there at h = tt
  address_holds openings i o k to (address.Func g) there at h = h
  address_holds openings i o k to (address.At r path index count) there at h = (h.1, λ slot. leaf_addressed i o r path index count there (object_leaf p o k r path index count at))

  value_holds : (openings : List ℕ) (i : ℕ) (o : Object) (k : ℕ) (t : ValueType) (v : Value) → is_scalar t ≡ true → slice_get p.objects i ≡ Some o → slice_get (first_values p o) k ≡ Some v → HasType p openings t v → MayHold t v
  value_holds openings i o k NoValue v scalar there at h = absurd (true≢false (sym scalar))
  value_holds openings i o k (Integer t) (Int n) scalar there at h = h
  value_holds openings i o k (Integer t) (Place a) scalar there at h = absurd h
  value_holds openings i o k (ToObject c v t) (Int n) scalar there at h = absurd h
  value_holds openings i o k (ToObject c v t) (Place a) scalar there at h = address_holds openings i o k (ToObject c v t) a there at h
  value_holds openings i o k (ToFunction sig) (Int n) scalar there at h = absurd h
  value_holds openings i o k (ToFunction sig) (Place a) scalar there at h = address_holds openings i o k (ToFunction sig) a there at h

  scalar_there : (i k : ℕ) (o : Object) (v : Value) → slice_get p.objects i ≡ Some o → scalar_in (map (first_values p) p.objects) i k ≡ Some v → slice_get (first_values p o) k ≡ Some v
  scalar_there i k o v there e =
      let row : slice_get (map (first_values p) p.objects) i ≡ Some (first_values p o) = slice_get-map (first_values p) p.objects i ∙ ap (option_map (first_values p)) there in
      subst (λ (x : Option (List Value)). option_and_then (λ scalars. slice_get scalars k) x ≡ Some v) row e

  -- at a path to a scalar of a type
  first_holds : IsNormal p → (i : ℕ) (o : Object) (path : List Part) (t : ValueType) (k : ℕ) (v : Value) → slice_get p.objects i ≡ Some o → of_one (place_at p.structures path (object_place o.ctype)) read_from ≡ Some t → is_scalar t ≡ true →
      position p.structures path (Some (object_place o.ctype)) ≡ k → slice_get (first_values p o) k ≡ Some v → MayHold t v
  first_holds normal i o path t k v there leads scalar at e =
      let state = start_state p (sound-typed p normal.sound) [] in
      let (values, stands, are) = state.1.statics.1 i o there in
      let (w, its, has) = are.typed path t leads in
      let row : slice_get (map (first_values p) p.objects) i ≡ Some (first_values p o) = slice_get-map (first_values p) p.objects i ∙ ap (option_map (first_values p)) there in
      let one : values ≡ first_values p o = same_Some values (first_values p o) (sym stands ∙ row) in
      let here : slice_get (first_values p o) k ≡ Some w = ap (λ (l : List Value). slice_get l k) (sym one) ∙ (ap (slice_get values) (sym at) ∙ its) in
      subst (MayHold t) (same_Some w v (sym here ∙ e)) (value_holds state.0 i o k t w scalar there here has)

module _ {I : Type 0} (d : Domain I) (typing : IsTyping d) (p : Program) (wholes : HasWholes d p.target) (normal : IsNormal p) (facts : Facts I) (shape : HaveShape d p facts) where
  -- ---- sets of one value

  address_set : (to : ValueType) → IsPointer to → (a : Address) → MayPoint p to a → (x : Abs I) → HasValue d.has x (Place a) → ((u : Abs I) → HasValue d.has u (Place a) → IsBelowAbs d.below x u) → IsSetIn p d to x
  address_set to is a h (abs.Ints x) has least = absurd has
  address_set to is a h (abs.Addrs s) has least =
      addrs_in d p to s is
      (listed_all (MayPoint p to) (point_kept p to) (a ∷ []) (λ b c. subst (MayPoint p to) (only_one a b c) h) s (λ b c. subst (HasAddress s) (only_one a b c) has) (λ u k. least (abs.Addrs u) (k a (at_head a []))))

  value_set : (t : ValueType) (v : Value) → MayHold p t v → (x : Abs I) → HasValue d.has x v → ((u : Abs I) → HasValue d.has u v → IsBelowAbs d.below x u) → IsSetIn p d t x
  value_set NoValue v h x has least = absurd h
  value_set (Integer i) (Int n) h x has least = below_in d p typing wholes i x (least (abs.Ints (wholes i).0) (has_all d p typing wholes i n (value_from_test i p.target n h)))
  value_set (Integer i) (Place a) h x has least = absurd h
  value_set (ToObject c v t) (Int n) h x has least = absurd h
  value_set (ToObject c v t) (Place a) h x has least = address_set (ToObject c v t) tt a h x has least
  value_set (ToFunction sig) (Int n) h x has least = absurd h
  value_set (ToFunction sig) (Place a) h x has least = address_set (ToFunction sig) tt a h x has least

  only_set : (t : ValueType) (v : Value) (y : Option (Abs I)) → MayHold p t v → IsOnly d p facts v y → AreSomeIn d p t y
  only_set t v y h (x, is, has, least) = some_in d p t x y is (value_set t v h x has least)

  -- ---- main

  cell_fits : (flow : Flowing I) → IsStart d p facts flow → (j : ℕ) → j < length (tracked p) → (t : ValueType) × IsTrackedType d p j t × AreSomeIn d p t (flow.cell j)
  cell_fits flow h j l =
      let w = shape_of j l in
      let (i, o, at, there, scalar) = w.1 in
      let (v, first) = first_there p normal j i at in
      (w.0, w.1, only_set w.0 v (flow.cell j) (first_holds p normal i o [] w.0 0 v there scalar (scalar_at (out-Shape o.ctype.shape) w.0 scalar) refl (scalar_there p i 0 o v there first)) (h.cells j i v at first))
    where
      shape_of : (j : ℕ) → j < length (tracked p) → (t : ValueType) × IsTrackedType d p j t
      shape_of j l =
          let (i, at) = some_within (tracked p) j l in
          let (o, there, some) = tracked_scalar p j i at in
          let (t, scalar) = some_is (scalar_value o.ctype) some in
          (t, (i, o, at, there, scalar))

  start_flow : (f : Func) → slice_get p.funcs p.main ≡ Some f → (flow : Flowing I) → IsStart d p facts flow → FlowFits d p (entry p p.main) f flow
  start_flow f function flow h = record {
    point = entry_there d p p.main f function;
    flag = inl h.off;
    locals = λ r l. (let (t, is) = register_typed d p f r l in (t, is, subst (AreSomeIn d p t) (sym (h.locals r)) tt));
    cells = cell_fits flow h;
  }

  pub started_fit : (n : ℕ) (ns : Needs I) → IsStarted d p facts n ns → AreFit d p ns
  started_fit n ns (AtStart f flow function here start is) =
      let l = slice_get_within p.funcs p.main f function in
      let all : Known d p = λ q. (Unit {0} × Has d.below q (ByMain p.main, Mark true)) × Has d.below q (Levels p.main, LevelSet (only_level 0)) in
      subst (AreFit d p) (sym is) (
        l,
        λ q i. tt,
        (
          l,
          λ q i none. absurd (true≢false (sym (i.1 refl) ∙ none)),
          flow_fits d p n f flow (subst (λ (m : ℕ). FlowFits d p m f flow) (sym here) (start_flow f function flow start)) all,
        ),
      )
  started_fit n ns (Elsewhere other is) = subst (AreFit d p) (sym is) tt

  -- ---- keys

  -- a first value of a key is of the type of its cells
  first_of_key : (k : Key) (t : ValueType) (v : Value) → IsTyped p k t → IsFirstValue d p facts k v → MayHold p t v
  first_of_key k t v (c, is, cell) (i, k_position, path, (u, leads, at), same, first) =
      let w = one_there (of_one (object_type p (root.Static i)) (place_at p.structures path)) read_from u leads in
      let o = one_there (object_type p (root.Static i)) (place_at p.structures path) w.0 w.1 in
      let object = mapped (λ (x : Object). object_place x.ctype) (slice_get p.objects i) o.0 o.1 in
      let (own, own_is, own_cell) = own_typed i path w.0 u w.1 w.2 in
      let one : own ≡ c = same_Some own c (sym own_is ∙ (ap (ctype_of p) same ∙ is)) in
      let typed : u ≡ t = one_type c u t (subst (λ (x : CType). IsCellType x u) one own_cell) cell in
      let here : of_one (place_at p.structures path (object_place object.0.ctype)) read_from ≡ Some u = ap (λ (x : PlaceType). of_one (place_at p.structures path x) read_from) object.2 ∙ (ap (λ (x : Option PlaceType). of_one x read_from) o.2 ∙ w.2) in
      let place : position p.structures path (Some (object_place object.0.ctype)) ≡ k_position = ap (λ (x : PlaceType). position p.structures path (Some x)) object.2 ∙ (ap (position p.structures path) (sym o.1) ∙ at) in
      subst (λ (x : ValueType). MayHold p x v) typed (first_holds p normal i object.0 path u k_position v object.1 here (subst (λ (x : ValueType). is_scalar x ≡ true) (sym typed) (cell_scalar c t cell)) place (scalar_there p i k_position object.0 v object.1 first))
    where
      own_typed : (i : ℕ) (path : List Part) (place : PlaceType) (u : ValueType) → of_one (object_type p (root.Static i)) (place_at p.structures path) ≡ Some place → read_from place ≡ Some u → IsTyped p (cell_key p (root.Static i) path) u
      own_typed i path place u e reads = read_held p (cell_key p (root.Static i) path) place u (held_in place (key_held p (root.Static i) path place e)) reads
        where
          held_in : (a : PlaceType) → IsHeld p (cell_key p (root.Static i) path) a → IsHeldIn p (cell_key p (root.Static i) path) a
          held_in (DevicePlace constant t) h = h
          held_in (ObjectPlace constant volatile t) h = h
          held_in (FunctionPlace sig) h = tt

  abbrev all_firsts : List Value
  all_firsts = flat_map (first_values p) p.objects

  abbrev IsFirst : Key → Address → Type 0
  IsFirst k a = IsFirstValue d p facts k (Place a)

  -- each first value is among them
  first_among : (k : Key) (v : Value) → IsFirstValue d p facts k v → Contains all_firsts v
  first_among k v (i, k_position, path, leads, same, first) =
      let (row, at, there) = then_there (λ (scalars : List Value). slice_get scalars k_position) (slice_get (map (first_values p) p.objects) i) v first in
      let (o, in_objects, is) = map_contained (first_values p) p.objects row (contains_at (map (first_values p) p.objects) i row at) in
      into_flat (first_values p) p.objects o v in_objects (subst (λ (l : List Value). Contains l v) (sym is) (contains_at row k_position v there))

  pointer_set : (t : ValueType) → IsPointer t → (k : Key) → ((v : Value) → IsFirstValue d p facts k v → MayHold p t v) → ((n : ℤ) → MayHold p t (Int n) → ⊥) → ((a : Address) → MayHold p t (Place a) → MayPoint p t a) → (set y : Abs I) → IsSetIn p d t set →
      AreOfOneKind set y → ((v : Value) → IsFirstValue d p facts k v → HasValue d.has y v) → ((u : Abs I) → AreOfOneKind set u → ((v : Value) → IsFirstValue d p facts k v → HasValue d.has u v) → IsBelowAbs d.below y u) → IsSetIn p d t y
  pointer_set t is k f no_int to_point (abs.Ints x) y h alike has least = absurd (no_ints d p t x is h)
  pointer_set t is k f no_int to_point (abs.Addrs r) (abs.Ints x) h alike has least = absurd alike
  pointer_set t is k f no_int to_point (abs.Addrs r) (abs.Addrs s) h alike has least =
      set_surely d p t (abs.Addrs s) (λ never. those_never (IsFirst k) (places all_firsts) (λ those. never (addrs_in d p t s is (listed_all (MayPoint p t) (point_kept p t) those.those
      (λ a c. to_point a (f (Place a) (those.only a c).1)) s (λ a c. has (Place a) (those.only a c).1)
      (λ u has_each. least (abs.Addrs u) tt (λ v first. among those u has_each v first))))))
    where
      among : (those : AreThose (IsFirst k) (places all_firsts)) (u : Addrs) → ((a : Address) → Contains those.those a → HasAddress u a) → (v : Value) → IsFirstValue d p facts k v → HasValue d.has (abs.Addrs u) v
      among those u each (Int n) first = absurd (no_int n (f (Int n) first))
      among those u each (Place a) first = each a (those.each a (place_in all_firsts a (first_among k (Place a) first)) first)

  first_set : (t : ValueType) → is_scalar t ≡ true → (k : Key) → ((v : Value) → IsFirstValue d p facts k v → MayHold p t v) → (set y : Abs I) → IsSetIn p d t set → AreOfOneKind set y → ((v : Value) → IsFirstValue d p facts k v → HasValue d.has y v) →
      ((u : Abs I) → AreOfOneKind set u → ((v : Value) → IsFirstValue d p facts k v → HasValue d.has u v) → IsBelowAbs d.below y u) → IsSetIn p d t y
  first_set NoValue scalar k f set y h alike has least = absurd (true≢false (sym scalar))
  first_set (Integer i) scalar k f set y h alike has least =
      below_in d p typing wholes i y (least (abs.Ints (wholes i).0) (one_kind d p (Integer i) set (abs.Ints (wholes i).0) h (whole_set d p typing wholes i)) whole)
    where
      whole : (v : Value) → IsFirstValue d p facts k v → HasValue d.has (abs.Ints (wholes i).0) v
      whole (Int n) first = has_all d p typing wholes i n (value_from_test i p.target n (f (Int n) first))
      whole (Place a) first = absurd (f (Place a) first)
  first_set (ToObject c v t) scalar k f set y h alike has least = pointer_set (ToObject c v t) tt k f (λ n z. z) (λ a z. z) set y h alike has least
  first_set (ToFunction sig) scalar k f set y h alike has least = pointer_set (ToFunction sig) tt k f (λ n z. z) (λ a z. z) set y h alike has least

  key_fits : (n : ℕ) (k : Key) (y : Abs I) → slice_get (keys_of p) n ≡ Some k → IsFirstSet d p facts n k y → (t : ValueType) × IsKeyType d p n t × IsSetIn p d t y
  key_fits n k y at h =
      let w = shape.whole.there n (slice_get_within (keys_of p) n k at) in
      let (own, c, own_at, is, cell) = w.2.0 in
      let same : own ≡ k = same_Some own k (sym own_at ∙ at) in
      let one : w.1 ≡ h.set = same_Some w.1 h.set (sym w.2.1 ∙ h.there) in
      (w.0, w.2.0, first_set w.0 (cell_scalar c w.0 cell) k (λ v first. first_of_key k w.0 v (c, ap (ctype_of p) (sym same) ∙ is, cell) first) h.set y (subst (IsSetIn p d w.0) one w.2.2) h.alike h.has h.least)

  firsts_fit : (n : ℕ) (keys : List Key) (ns : Needs I) → ((i : ℕ) (k : Key) → slice_get keys i ≡ Some k → slice_get (keys_of p) (n + i) ≡ Some k) → AreFirstSets d p facts n keys ns → (q : Known d p) → AreFitBehind d p q ns
  firsts_fit n [] ns at is q = subst (AreFitBehind d p q) (sym is) tt
  firsts_fit n (k ∷ keys) ns at (y, rest, first, more, is) q =
      let here : n + 0 ≡ n = omega arith in
      subst (AreFitBehind d p q) (sym is) (
        key_fits n k y (subst (λ (m : ℕ). slice_get (keys_of p) m ≡ Some k) here (at 0 k refl)) first,
        λ r i. tt,
        firsts_fit (suc n) keys rest (λ i j e. (let place : n + suc i ≡ suc n + i = omega arith in subst (λ (m : ℕ). slice_get (keys_of p) m ≡ Some j) place (at (suc i) j e))) more (λ r. q r × Has d.below r (Whole n, Values (Some y))),
      )

  pub first_sets_fit : (ns : Needs I) → AreFirstSets d p facts 0 (keys_of p) ns → AreFit d p ns
  first_sets_fit ns h = firsts_fit 0 (keys_of p) ns (λ i k e. (let place : i ≡ 0 + i = omega arith in subst (λ (m : ℕ). slice_get (keys_of p) m ≡ Some k) place e)) h (λ q. Unit {0})
