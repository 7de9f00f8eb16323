-- Each key that a place names at a point has a whole-run set of the kind of what the place holds: the declared type of the key's cells is
-- the type of the place, or that of an array of such things. By induction over how the place's classes come about.
use Rattle.std.proofs.Common.{◌≡◌, ⊎_elim, ℕ, Bool, true, false, List, Option, Some, None, refl, ap, sym, ◌∙◌, subst, slice_get}
use Rattle.std.specs.Prelude.{option_map, option_and_then, if◌then◌else◌}
use Rattle.std.specs.List.{Contains}
use Rattle.std.proofs.lemmas.Option.{same_Some, slice_get_within}
use Rattle.cc_state_reads.specs.CcPlaces.declared.abs.Abs.{Abs}
use Rattle.cc_state_reads.specs.CcPlaces.declared.abs.Abs.TheVariants as abs
use Rattle.cc_program.specs.declared.expr.Expr.TheOpen as one
use Rattle.cc_program.specs.declared.expr.Place.{Place}
use Rattle.cc_program.specs.declared.func.Func.{Func}
use Rattle.cc_program.specs.declared.object.Object.{Object}
use Rattle.cc_program.specs.declared.program.Program.{Program}
use Rattle.cc_program.specs.declared.types.CType.{CType}
use Rattle.cc_program.specs.declared.types.Shape.{Shape, out-Shape}
use Rattle.cc_program.specs.declared.types.Shape.TheOpen as shape
use Rattle.cc_program.specs.declared.types.Sig.{Sig}
use Rattle.cc_program.specs.declared.value.Address.{Address}
use Rattle.cc_program.specs.declared.value.Address.TheVariants as address
use Rattle.cc_program.specs.declared.value.Part.{Part}
use Rattle.cc_program.specs.declared.value.Root.{Root}
use Rattle.cc_state.proofs.CellTypes.{one_type, IsHeld, IsHeldIn, IsTyped, read_held, element_held, member_held, own_held, key_held, pointed_held}
use Rattle.cc_state.proofs.Lists.{at_contained, no_member, only_one, from_filter, from_flat, any_there, same_key}
use Rattle.cc_state.proofs.Numbered.{key_at, key_numbered}
use Rattle.cc_state.proofs.Sets.{registers_point}
use Rattle.cc_state.specs.Points.{HaveKindsAt}
use Rattle.cc_state.specs.Shape.{IsCellType, declared_type, object_ctype, local_ctype, ctype_of, IsSetIn, HaveShape}
use Rattle.cc_state_reads.specs.CcStateFacts.declared.facts.Facts.{Facts}
use Rattle.cc_state_reads.specs.CcStateFacts.declared.facts.Key.{Key}
use Rattle.cc_state_reads.specs.CcStateFacts.declared.facts.Key.TheVariants as key
use Rattle.cc_state_reads.specs.CcStateKeys.Keys.{cell_key, is_key, structure_shape, keys_of}
use Rattle.cc_state_reads.specs.CcStateKeys.Lists.{only}
use Rattle.cc_state_reads.specs.CcStateOperators.Domains.{Domain}
use Rattle.cc_state_reads.specs.Named.{AreClasses, OfLocal, OfStatic, OfDevice, OfElement, OfMember, OfTarget, target_class, member_class, is_among}
use Rattle.cc_state_reads.specs.Reads.{IsOfKind, registers_at, whole_of}
use Rattle.cc_state_reads.proofs.CcStateValues.Parts.{place_typed_as}
use Rattle.cc_state_reads.proofs.CcStateValues.Rules.{one_there, two_there}
use Rattle.cc_state_values_grow.proofs.Fitting.{Fitting, Leads, Points}
use Rattle.cc_state_values_grow.proofs.Leading.{value_points}
use Rattle.cc_state_values_grow.specs.Growth.{RegistersPoint}
use Rattle.cc_flow_sound.proofs.CcStates.Options.{mapped}
use Rattle.cc_state_reads.specs.CcSyntax.Operators.{is_integer, subscript_type}
use Rattle.cc_state_reads.specs.CcSyntax.Programs.{type_of, place_type}
use Rattle.cc_state_reads.specs.CcSyntax.Types.{Named}
use Rattle.cc_state_reads.specs.CcSyntax.Values.{ValueType, NoValue, Integer, ToObject, ToFunction, PlaceType, DevicePlace, ObjectPlace, FunctionPlace, object_place, read_from, pointed_to, element_of, member_of, member_shape, is_void}

element_taken : (b : Bool) (x : Option PlaceType) (w : PlaceType) → (if b then x else None) ≡ Some w → x ≡ Some w
element_taken true x w e = e
element_taken false x w e = absurd (cc)

if_object : (b : Bool) (c v : Bool) (t : CType) (u : PlaceType) → (if b then None else Some (ObjectPlace c v t)) ≡ Some u → ObjectPlace c v t ≡ u
if_object true c v t u e = absurd (cc)
if_object false c v t u e = same_Some (ObjectPlace c v t) u e

-- ---- where addresses lead

module _ (p : Program) where
  whole_held : (c v : Bool) (t : CType) (object : Root) (path : List Part) (count : ℕ) → Fitting p (ToObject c v t) object path count → IsHeld p (cell_key p object path) (ObjectPlace c v t)
  whole_held c v t object path count fits =
      let held : IsHeld p (cell_key p object path) fits.place = key_held p object path fits.place fits.there in ⊎_elim
      (λ e. pointed_held p (cell_key p object path) c v t (element_of fits.place) (λ a i. element_held p (cell_key p object path) fits.place a held i) e.1)
      (λ e. pointed_held p (cell_key p object path) c v t (Some fits.place) (λ a i. subst (IsHeld p (cell_key p object path)) (same_Some fits.place a i) held) e.1) fits.fits

  address_held : (c v : Bool) (t : CType) (a : Address) → Leads p (ToObject c v t) a → (k : Key) → Contains (target_class p a) k → IsHeld p k (ObjectPlace c v t)
  address_held c v t address.Null h k there = no_member k there
  address_held c v t (address.Func g) h k there = no_member k there
  address_held c v t (address.At object path index count) h k there = subst (λ (z : Key). IsHeld p z (ObjectPlace c v t)) (only_one (cell_key p object path) k there) (whole_held c v t object path count h)

  pointer_held : (t : ValueType) (u : PlaceType) → pointed_to t ≡ Some u → (a : Address) → Points p t a → (k : Key) → Contains (target_class p a) k → IsHeldIn p k u
  pointer_held NoValue u e a h k there = absurd (cc)
  pointer_held (Integer i) u e a h k there = absurd (cc)
  pointer_held (ToObject c v t) u e a h k there = subst (IsHeldIn p k) (if_object (is_void t) c v t u e) (address_held c v t a h k there)
  pointer_held (ToFunction sig) u e a h k there = subst (IsHeldIn p k) (same_Some (FunctionPlace sig) u e) tt

  -- ---- parts

  member_of_shape : (c v : Bool) (m : ℕ) (x : shape.Shape-F Shape CType Sig) (u : PlaceType) → member_shape p.structures c v m x ≡ Some u → (k : Key) → Contains (only (option_map (λ s. key.Member s m) (structure_shape x))) k → IsHeld p k u
  member_of_shape c v m (shape.Struct s) u e k there = subst (λ (z : Key). IsHeld p z u) (only_one (key.Member s m) k there) (member_held p (key.Object 0) m c v (shape.Struct s) u e)
  member_of_shape c v m shape.Void u e k there = absurd (cc)
  member_of_shape c v m (shape.Int w) u e k there = absurd (cc)
  member_of_shape c v m (shape.Pointer to) u e k there = absurd (cc)
  member_of_shape c v m (shape.Array of n) u e k there = absurd (cc)
  member_of_shape c v m (shape.Func sig) u e k there = absurd (cc)

  held_in : (k : Key) (u : PlaceType) → IsHeld p k u → IsHeldIn p k u
  held_in k (DevicePlace constant t) h = h
  held_in k (ObjectPlace constant volatile t) h = h
  held_in k (FunctionPlace sig) h = tt

  member_is_held : (w u : PlaceType) (m : ℕ) → member_of p.structures m w ≡ Some u → (k : Key) → Contains (member_class (Some w) m) k → IsHeldIn p k u
  member_is_held (DevicePlace constant t) u m e k there = absurd (cc)
  member_is_held (ObjectPlace c v t) u m e k there = held_in k u (member_of_shape c v m (out-Shape t.shape) u e k there)
  member_is_held (FunctionPlace sig) u m e k there = absurd (cc)

  element_is_held : (w u : PlaceType) (k : Key) → element_of w ≡ Some u → IsHeldIn p k w → IsHeldIn p k u
  element_is_held (DevicePlace constant t) u k e h = absurd (cc)
  element_is_held (ObjectPlace c v t) u k e h = held_in k u (element_held p k (ObjectPlace c v t) u h e)
  element_is_held (FunctionPlace sig) u k e h = absurd (cc)

-- ---- the classes of a place

module _ {I : Type 0} (d : Domain I) (p : Program) (id : ℕ) (f : Func) (register : ℕ → Option (Abs I)) (own : slice_get p.funcs id ≡ Some f) (points : RegistersPoint p f register) where
  class_held : (a : Place) (classes : List Key) → AreClasses d p id f register a classes → (u : PlaceType) → place_type p f.locals a ≡ Some u → (k : Key) → Contains classes k → IsHeldIn p k u
  class_held a classes (OfLocal r h e) u typed k there =
      let w = mapped (λ (n : Named). object_place n.1) (slice_get f.locals r) u (place_typed_as p f a (one.Local r) u h typed) in
      let same : key.Local id r ≡ k = only_one (key.Local id r) k (subst (λ (l : List Key). Contains l k) e there) in
      held_in p k u (subst (λ (z : Key). IsHeld p z u) same (subst (IsHeld p (key.Local id r)) w.2 (own_held p (key.Local id r) w.0.1 (ap (local_ctype r) own ∙ ap declared_type w.1))))
  class_held a classes (OfStatic i h e) u typed k there =
      let w = mapped (λ (o : Object). object_place o.ctype) (slice_get p.objects i) u (place_typed_as p f a (one.Static i) u h typed) in
      let same : key.Object i ≡ k = only_one (key.Object i) k (subst (λ (l : List Key). Contains l k) e there) in
      held_in p k u (subst (λ (z : Key). IsHeld p z u) same (subst (IsHeld p (key.Object i)) w.2 (own_held p (key.Object i) w.0.ctype (ap object_ctype w.1))))
  class_held a classes (OfDevice n h e) u typed k there = no_member k (subst (λ (l : List Key). Contains l k) e there)
  class_held a classes (OfElement b i h rest) u typed k there =
      let w = two_there (place_type p f.locals b) (type_of p f.locals i) subscript_type u (place_typed_as p f a (one.Element b i) u h typed) in
      element_is_held p w.0 u k (element_taken (is_integer w.1) (element_of w.0) u w.4) (class_held b classes rest w.0 w.2 k there)
  class_held a classes (OfMember b m h e) u typed k there =
      let w = one_there (place_type p f.locals b) (member_of p.structures m) u (place_typed_as p f a (one.Member b m) u h typed) in
      member_is_held p w.0 u m w.2 k (subst (λ (o : Option PlaceType). Contains (member_class o m) k) w.1 (subst (λ (l : List Key). Contains l k) e there))
  class_held a classes (OfTarget x s h value e) u typed k there =
      let w = one_there (type_of p f.locals x) pointed_to u (place_typed_as p f a (one.Deref x) u h typed) in
      let m = from_flat (target_class p) s.members k (subst (λ (l : List Key). Contains l k) e there) in
      pointer_held p w.0 u w.2 m.0 (value_points d p id f register own points x (abs.Addrs s) value w.0 w.1 m.0 m.1) k m.2

-- ---- kinds

module _ {I : Type 0} (d : Domain I) (p : Program) where
  kind_of : (t : ValueType) (y : Abs I) → IsSetIn p d t y → IsOfKind t y
  kind_of NoValue (abs.Ints x) h = refl
  kind_of NoValue (abs.Addrs s) h = absurd h
  kind_of (Integer t) (abs.Ints x) h = refl
  kind_of (Integer t) (abs.Addrs s) h = absurd h
  kind_of (ToObject constant volatile t) (abs.Ints x) h = absurd h
  kind_of (ToObject constant volatile t) (abs.Addrs s) h = refl
  kind_of (ToFunction sig) (abs.Ints x) h = absurd h
  kind_of (ToFunction sig) (abs.Addrs s) h = refl

  -- a key of the program, the cells of which are of this type
  whole_kind : (facts : Facts I) → HaveShape d p facts → (k : Key) (u : ValueType) → IsTyped p k u → Contains (keys_of p) k → (y : Abs I) × (whole_of p facts k ≡ Some y) × IsOfKind u y
  whole_kind facts shape k u typed there =
      let number = key_numbered p k (at_contained (keys_of p) k there) in
      let at = key_at p k number.0 number.1 in
      let set = shape.whole.there number.0 (slice_get_within (keys_of p) number.0 k at) in
      let its = set.2.0 in
      let same_key : its.0 ≡ k = same_Some its.0 k (sym its.2 ∙ at) in
      let same_type : its.1 ≡ typed.0 = same_Some its.1 typed.0 (sym its.3 ∙ ap (ctype_of p) same_key ∙ typed.1) in
      let one : set.0 ≡ u = one_type typed.0 set.0 u (subst (λ (c : CType). IsCellType c set.0) same_type its.4) typed.2 in
      (set.1, ap (option_and_then (slice_get facts.whole)) number.1 ∙ set.2.1, subst (λ (t : ValueType). IsOfKind t set.1) one (kind_of set.0 set.1 set.2.2))

-- at each point
pub kinds_at : {I : Type 0} (d : Domain I) (p : Program) (facts : Facts I) → HaveShape d p facts → (n : ℕ) (a : Place) → HaveKindsAt d p facts n a
kinds_at {I = I} d p facts shape n a q f stands keys k t named there reads =
    let listed = from_filter (is_among named.0) (keys_of p) k (subst (λ (l : List Key). Contains l k) named.2 there) in
    let class = any_there (λ c. is_key c k) named.0 listed.1 in
    let same : class.0 ≡ k = same_key class.0 k class.2 in
    by (subst (Contains named.0) same class.1) listed.0 (place_type p f.locals a) refl reads
  where
    by : Contains named.0 k → Contains (keys_of p) k → (o : Option PlaceType) → place_type p f.locals a ≡ o → option_and_then read_from o ≡ Some t → (y : Abs I) × (whole_of p facts k ≡ Some y) × IsOfKind t y
    by class listed None e h = absurd (cc)
    by class listed (Some u) e h =
        whole_kind d p facts shape k t
        (read_held p k u t (class_held d p q.func f (registers_at facts f n) stands.function (registers_point d p facts shape n q f stands) a named.0 named.1 u e k class) h) listed
