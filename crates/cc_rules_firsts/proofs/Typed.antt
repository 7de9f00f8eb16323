-- First values are of the kinds of the sets of their keys, and are listed with their keys.
use Rattle.std.proofs.Common.{◌≡◌, ◌<◌, ℕ, List, [], map, Option, Some, None, slice_get, refl, ap, sym, subst, ◌∙◌}
use Rattle.std.specs.Prelude.{option_map, option_and_then}
use Rattle.std.proofs.lemmas.Option.{same_Some, slice_get-map, slice_get_within}
use Rattle.cc_rules_asked.specs.CcCells.Cells.{scalar_in}
use Rattle.cc_rules_asked.specs.CcCells.Scalars.{position}
use Rattle.cc_rules_asked.specs.CcEval.Context.{object_type}
use Rattle.cc_rules_asked.proofs.CcLattice.IntValues.{value_is_int}
use Rattle.cc_program.proofs.CcNum.ResultLaws.{value_from_test}
use Rattle.cc_rules_asked.specs.CcPlaces.declared.abs.Abs.{Abs}
use Rattle.cc_rules_asked.specs.CcPlaces.declared.abs.Abs.TheVariants as abs
use Rattle.cc_program.specs.declared.object.Object.{Object}
use Rattle.cc_program.specs.declared.program.Program.{Program}
use Rattle.cc_program.specs.declared.types.CType.{CType}
use Rattle.cc_program.specs.declared.types.Shape.{Shape, out-Shape}
use Rattle.cc_program.specs.declared.types.Shape.TheOpen as shape
use Rattle.cc_program.specs.declared.types.Sig.{Sig}
use Rattle.cc_program.specs.declared.value.Part.{Part}
use Rattle.cc_program.specs.declared.value.Root.TheVariants as root
use Rattle.cc_program.specs.declared.value.Value.{Value}
use Rattle.cc_program.specs.declared.value.Value.TheVariants as value
use Rattle.cc_rules_asked.specs.CcRules.Rules.{IsFirstValue}
use Rattle.cc_rules_firsts.specs.Firsts.{FitsIn, IsFirstIn}
use Rattle.cc_rules_grow.proofs.Elements.{some_within}
use Rattle.cc_rules_grow.proofs.CcState.CellTypes.{one_type, IsHeld, IsTyped, read_held, key_held}
use Rattle.cc_rules_grow.specs.CcState.Shape.{IsCellType, ctype_of, IsSetIn, HaveShape}
use Rattle.cc_rules_asked.specs.CcStateFacts.declared.facts.Facts.{Facts}
use Rattle.cc_rules_asked.specs.CcStateFacts.declared.facts.Key.{Key}
use Rattle.cc_rules_asked.specs.CcStateKeys.Keys.{keys_of, cell_key}
use Rattle.cc_rules_asked.specs.CcStateKeys.Paths.{LeadsTo}
use Rattle.cc_rules_asked.specs.CcStateOperators.Domains.{Domain}
use Rattle.cc_state_scalars.specs.Listed.{AreStaticKeys}
use Rattle.cc_rules_asked.proofs.CcStates.StartLemmas.{start_state}
use Rattle.cc_rules_asked.specs.CcStates.Typed.{HasType}
use Rattle.cc_rules_asked.specs.CcSteps.State.{first_values}
use Rattle.cc_rules_asked.specs.CcSyntax.Expressions.{of_one}
use Rattle.cc_rules_asked.specs.CcSyntax.Initial.{place_at}
use Rattle.cc_rules_asked.specs.CcSyntax.Sound.{IsTypedProgram}
use Rattle.cc_rules_asked.specs.CcSyntax.Values.{ValueType, NoValue, Integer, ToObject, ToFunction, PlaceType, DevicePlace, ObjectPlace, FunctionPlace, object_place, pointer_shape, scalar_shape, read_from}

-- ---- what is read is a scalar

no_void_pointer : (t : CType) (x : shape.Shape-F Shape CType Sig) → pointer_shape t x ≡ NoValue → ⊥
no_void_pointer t shape.Void e = absurd (cc)
no_void_pointer t (shape.Int i) e = absurd (cc)
no_void_pointer t (shape.Pointer to) e = absurd (cc)
no_void_pointer t (shape.Array of n) e = absurd (cc)
no_void_pointer t (shape.Struct s) e = absurd (cc)
no_void_pointer t (shape.Func sig) e = absurd (cc)

no_void_scalar : (x : shape.Shape-F Shape CType Sig) → scalar_shape x ≡ Some NoValue → ⊥
no_void_scalar shape.Void e = absurd (cc)
no_void_scalar (shape.Int i) e = absurd (cc)
no_void_scalar (shape.Pointer to) e = no_void_pointer to (out-Shape to.shape) (same_Some _ NoValue e)
no_void_scalar (shape.Array of n) e = absurd (cc)
no_void_scalar (shape.Struct s) e = absurd (cc)
no_void_scalar (shape.Func sig) e = absurd (cc)

pub no_void : (a : PlaceType) → read_from a ≡ Some NoValue → ⊥
no_void (DevicePlace constant t) e = absurd (cc)
no_void (ObjectPlace constant volatile t) e = no_void_scalar (out-Shape t.shape) e
no_void (FunctionPlace sig) e = absurd (cc)

-- ---- a value of a type, and a set of that type

module _ {I : Type 0} (d : Domain I) (p : Program) (openings : List ℕ) where
  pub fit : (w : ValueType) (x : Abs I) (v : Value) → (w ≡ NoValue → ⊥) → IsSetIn p d w x → HasType p openings w v → FitsIn x v
  fit NoValue x v scalar s h = absurd (scalar refl)
  fit (Integer t) (abs.Ints x) (value.Int n) scalar s h = (value_is_int n t p.target (value_from_test t p.target n h), tt)
  fit (Integer t) (abs.Ints x) (value.Place a) scalar s h = absurd h
  fit (Integer t) (abs.Addrs y) v scalar s h = absurd s
  fit (ToObject constant volatile t) (abs.Ints x) v scalar s h = absurd s
  fit (ToObject constant volatile t) (abs.Addrs y) (value.Int n) scalar s h = absurd h
  fit (ToObject constant volatile t) (abs.Addrs y) (value.Place a) scalar s h = (tt, tt)
  fit (ToFunction sig) (abs.Ints x) v scalar s h = absurd s
  fit (ToFunction sig) (abs.Addrs y) (value.Int n) scalar s h = absurd h
  fit (ToFunction sig) (abs.Addrs y) (value.Place a) scalar s h = (tt, tt)

-- ---- first values

module _ (p : Program) (typed : IsTypedProgram p) where
  abbrev pub firsts : List (List Value)
  firsts = map (first_values p) p.objects

  -- the object of a scalar
  pub object_there : (i position : ℕ) (v : Value) → scalar_in firsts i position ≡ Some v → (o : Object) × (slice_get p.objects i ≡ Some o)
  object_there i position v e = by (slice_get p.objects i) refl
    where
      by : (x : Option Object) → slice_get p.objects i ≡ x → (o : Object) × (slice_get p.objects i ≡ Some o)
      by None h =
          absurd (let k : None ≡ Some v = ap (option_and_then (λ (scalars : List Value). slice_get scalars position)) (sym (slice_get-map (first_values p) p.objects i ∙ ap (option_map (first_values p)) h)) ∙ e in cc)
      by (Some o) h = (o, h)

  -- a value of a type
  abbrev pub HasTypeHere : ValueType → Value → Type 0
  HasTypeHere w v = HasType p (start_state p typed []).0 w v

  pub first_typed : (i at : ℕ) (path : List Part) (v : Value) (leads : LeadsTo p (root.Static i) path at) → scalar_in firsts i at ≡ Some v → HasTypeHere leads.0 v
  first_typed i at path v (w, reads, stands) e =
      let (o, there) = object_there i at v e in
      let type : object_type p (root.Static i) ≡ Some (object_place o.ctype) = ap (option_map (λ (o : Object). object_place o.ctype)) there in
      let (values, is, are) = (start_state p typed []).1.statics.1 i o there in
      let reads_here : of_one (place_at p.structures path (object_place o.ctype)) read_from ≡ Some w = ap (λ (x : Option PlaceType). of_one (of_one x (place_at p.structures path)) read_from) (sym type) ∙ reads in
      let stands_here : position p.structures path (Some (object_place o.ctype)) ≡ at = ap (position p.structures path) (sym type) ∙ stands in
      let (u, first, has) = are.typed path w reads_here in
      let own : slice_get values at ≡ Some v = ap (option_and_then (λ (scalars : List Value). slice_get scalars at)) (sym is) ∙ e in
      let same : u ≡ v = same_Some u v (sym first ∙ (ap (slice_get values) stands_here ∙ own)) in
      subst (HasTypeHere w) same has

  -- the place to which a path leads
  place_there : (x : Option PlaceType) (w : ValueType) → of_one x read_from ≡ Some w → (a : PlaceType) × (x ≡ Some a) × (read_from a ≡ Some w)
  place_there None w e = absurd (cc)
  place_there (Some a) w e = (a, refl, e)

  read_typed : (k : Key) (a : PlaceType) (w : ValueType) → IsHeld p k a → read_from a ≡ Some w → IsTyped p k w
  read_typed k (DevicePlace constant t) w held e = read_held p k (DevicePlace constant t) w held e
  read_typed k (ObjectPlace constant volatile t) w held e = read_held p k (ObjectPlace constant volatile t) w held e
  read_typed k (FunctionPlace sig) w held e = absurd (cc)

  pub path_typed : (i at : ℕ) (path : List Part) (leads : LeadsTo p (root.Static i) path at) → IsTyped p (cell_key p (root.Static i) path) leads.0 × (leads.0 ≡ NoValue → ⊥)
  path_typed i at path (w, reads, stands) =
      let (a, is, read) = place_there (of_one (object_type p (root.Static i)) (place_at p.structures path)) w reads in
      (read_typed (cell_key p (root.Static i) path) a w (key_held p (root.Static i) path a is) read, λ void. no_void a (read ∙ ap Some void))

  module _ {I : Type 0} (d : Domain I) (facts : Facts I) (shape : HaveShape d p facts) where
    pub fits : (n : ℕ) (k : Key) (kind : Abs I) (v : Value) → slice_get (keys_of p) n ≡ Some k → slice_get facts.whole n ≡ Some kind → IsFirstValue d p facts k v → FitsIn kind v
    fits n k kind v at there (i, position, path, leads, is, e) =
        let (held, scalar) = path_typed i position path leads in
        let declared : IsTyped p k leads.0 = subst (λ (k : Key). IsTyped p k leads.0) is held in
        let set = shape.whole.there n (slice_get_within (keys_of p) n k at) in
        let its = set.2.0 in
        let same_key : its.0 ≡ k = same_Some its.0 k (sym its.2 ∙ at) in
        let same_type : its.1 ≡ declared.0 = same_Some its.1 declared.0 (sym its.3 ∙ ap (ctype_of p) same_key ∙ declared.1) in
        let one : set.0 ≡ leads.0 = one_type declared.0 set.0 leads.0 (subst (λ (c : CType). IsCellType c set.0) same_type its.4) declared.2 in
        let same_set : set.1 ≡ kind = same_Some set.1 kind (sym set.2.1 ∙ there) in
        fit d p (start_state p typed []).0 leads.0 kind v scalar (subst (λ (x : Abs I). IsSetIn p d leads.0 x) same_set (subst (λ (t : ValueType). IsSetIn p d t set.1) one set.2.2)) (first_typed i position path v leads e)

    -- ---- as they are listed

    module _ (keys : List (List Key)) (are : AreStaticKeys p p.objects keys) where
      list_there : (i : ℕ) (o : Object) → slice_get p.objects i ≡ Some o → (list : List Key) × (slice_get keys i ≡ Some list)
      list_there i o there = some_within keys i (subst (λ (n : ℕ). i < n) (sym are.count) (slice_get_within p.objects i o there))

      pub listed : (k : Key) (v : Value) → IsFirstValue d p facts k v → IsFirstIn keys firsts k v
      listed k v (i, position, path, leads, is, e) =
          let (o, there) = object_there i position v e in
          let (list, at) = list_there i o there in
          (i, position, ap (option_and_then (λ (scalars : List Key). slice_get scalars position)) at ∙ ((are.there i list at).each path position leads ∙ ap Some is), e)

      own_list : (i position : ℕ) (k : Key) (x : Option (List Key)) → slice_get keys i ≡ x → option_and_then (λ (scalars : List Key). slice_get scalars position) x ≡ Some k → (list : List Key) × (slice_get keys i ≡ Some list) × (slice_get list position ≡ Some k)
      own_list i position k None h e = absurd (cc)
      own_list i position k (Some list) h e = (list, h, e)

      pub is_first : (k : Key) (v : Value) → IsFirstIn keys firsts k v → IsFirstValue d p facts k v
      is_first k v (i, position, at, e) =
          let (list, there, own) = own_list i position k (slice_get keys i) refl at in
          let (path, leads, is) = (are.there i list there).all position k own in
          (i, position, path, leads, is, e)
