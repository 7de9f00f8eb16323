-- The keys that a place names are of cells of its type, and what a read of the place may give is of that too.
use Rattle.std.proofs.Common.{◌≡◌, ⊎_elim, ℕ, Bool, true, false, true≢false, List, Contains, Option, Some, None, refl, ap, sym, ◌∙◌, subst, slice_get}
use Rattle.std.specs.Prelude.{option_map, option_and_then, if◌then◌else◌}
use Rattle.std.proofs.lemmas.Option.{same_Some, none-some, slice_get_within}
use Rattle.cc_rules_grow.specs.CcPlaces.Abstract.{AreOfOneKind}
use Rattle.cc_rules_grow.specs.CcPlaces.declared.abs.Abs.{Abs}
use Rattle.cc_rules_grow.specs.CcPlaces.declared.abs.Abs.TheVariants as abs
use Rattle.cc_program.specs.declared.expr.Expr.{Expr}
use Rattle.cc_program.specs.declared.expr.Expr.TheOpen as one
use Rattle.cc_program.specs.declared.expr.Place.{Place, out-Place}
use Rattle.cc_program.specs.declared.func.Func.{Func}
use Rattle.cc_program.specs.declared.object.Device.{Device}
use Rattle.cc_program.specs.declared.object.Object.{Object}
use Rattle.cc_program.specs.declared.program.Program.{Program}
use Rattle.cc_program.specs.declared.types.CType.{CType}
use Rattle.cc_program.specs.declared.types.Shape.{Shape, out-Shape}
use Rattle.cc_program.specs.declared.types.Shape.TheOpen as shape
use Rattle.cc_program.specs.declared.types.Sig.{Sig}
use Rattle.cc_program.specs.declared.value.Address.{Address}
use Rattle.cc_program.specs.declared.value.Address.TheVariants as address
use Rattle.cc_program.specs.declared.value.Part.{Part}
use Rattle.cc_program.specs.declared.value.Root.{Root}
use Rattle.cc_rules_shaped.proofs.Types.{one_key_type, one_tracked_type}
use Rattle.cc_rules_grow.proofs.CcState.CellTypes.{IsHeld, IsHeldIn, IsTyped, read_held, element_held, member_held, own_held, key_held, pointed_held}
use Rattle.cc_rules_grow.proofs.CcState.Lists.{contains_at, no_member, only_one, from_filter, from_flat, any_there, number_at, same_key}
use Rattle.cc_rules_grow.proofs.CcState.Numbered.{key_at}
use Rattle.cc_rules_grow.specs.CcState.Shape.{declared_type, object_ctype, local_ctype, IsSetIn, IsTrackedType, IsPointFact, HaveShape}
use Rattle.cc_rules_grow.specs.CcStateFacts.declared.facts.Facts.{Facts}
use Rattle.cc_rules_grow.specs.CcStateFacts.declared.facts.Key.{Key}
use Rattle.cc_rules_grow.specs.CcStateFacts.declared.facts.Key.TheVariants as key
use Rattle.cc_rules_grow.specs.CcStateFacts.declared.facts.PointFact.{PointFact}
use Rattle.cc_rules_grow.specs.CcStateFacts.Facts.{fact_at, cell_at, cell_of}
use Rattle.cc_rules_grow.specs.CcStateKeys.Keys.{cell_key, is_key, structure_shape, keys_of, key_number}
use Rattle.cc_rules_grow.specs.CcStateKeys.Lists.{only}
use Rattle.cc_rules_grow.specs.CcStateKeys.Tracked.{tracked}
use Rattle.cc_rules_grow.specs.CcStateOperators.Domains.{Domain}
use Rattle.cc_rules_grow.specs.CcStateReads.Named.{AreClasses, OfLocal, OfStatic, OfDevice, OfElement, OfMember, OfTarget, target_class, member_class, is_among}
use Rattle.cc_rules_grow.specs.CcStateReads.Reads.{whole_of, object_in, device_number, tracked_in, IsOfKind, IsOfKeys, AreNamed, IsByKeys, IsRead, OfTracked, OfDevice as OfDeviceRead, OfOther}
use Rattle.cc_rules_grow.proofs.CcStateValues.Parts.{place_typed_as}
use Rattle.cc_rules_grow.proofs.CcStateValues.Rules.{one_there, two_there}
use Rattle.cc_state_values_fit.proofs.Sets.{IsTyping, holds, union_in}
use Rattle.cc_state_values_fit.specs.Fit.{HasWholes}
use Rattle.cc_state_values_fit.proofs.CcStateValuesGrow.Fitting.{Fitting, Leads, Points}
use Rattle.cc_state_values_fit.proofs.CcStateValuesGrow.Leading.{value_points}
use Rattle.cc_state_values_fit.specs.CcStateValuesGrow.Growth.{RegistersPoint}
use Rattle.cc_rules_grow.proofs.CcStates.Options.{mapped}
use Rattle.cc_rules_grow.specs.CcSyntax.Operators.{is_integer, subscript_type}
use Rattle.cc_rules_grow.specs.CcSyntax.Programs.{type_of, place_type}
use Rattle.cc_rules_grow.specs.CcSyntax.Types.{Named}
use Rattle.cc_rules_grow.specs.CcSyntax.Values.{ValueType, NoValue, Integer, ToObject, ToFunction, PlaceType, DevicePlace, ObjectPlace, FunctionPlace, object_place, read_from, pointed_to, element_of, member_of, member_shape, is_void, is_scalar}

element_taken : (b : Bool) (x : Option PlaceType) (w : PlaceType) → (if b then x else None) ≡ Some w → x ≡ Some w
element_taken true x w e = e
element_taken false x w e = absurd (cc)

if_object : (b : Bool) (c v : Bool) (t : CType) (u : PlaceType) → (if b then None else Some (ObjectPlace c v t)) ≡ Some u → ObjectPlace c v t ≡ u
if_object true c v t u e = absurd (cc)
if_object false c v t u e = same_Some (ObjectPlace c v t) u e

-- ---- where addresses lead

module _ (p : Program) where
  whole_held : (c v : Bool) (t : CType) (object : Root) (path : List Part) (count : ℕ) → Fitting p (ToObject c v t) object path count → IsHeld p (cell_key p object path) (ObjectPlace c v t)
  whole_held c v t object path count fits =
      let held : IsHeld p (cell_key p object path) fits.place = key_held p object path fits.place fits.there in ⊎_elim
      (λ e. pointed_held p (cell_key p object path) c v t (element_of fits.place) (λ a i. element_held p (cell_key p object path) fits.place a held i) e.1)
      (λ e. pointed_held p (cell_key p object path) c v t (Some fits.place) (λ a i. subst (IsHeld p (cell_key p object path)) (same_Some fits.place a i) held) e.1) fits.fits

  address_held : (c v : Bool) (t : CType) (a : Address) → Leads p (ToObject c v t) a → (k : Key) → Contains (target_class p a) k → IsHeld p k (ObjectPlace c v t)
  address_held c v t address.Null h k there = no_member k there
  address_held c v t (address.Func g) h k there = no_member k there
  address_held c v t (address.At object path index count) h k there = subst (λ (z : Key). IsHeld p z (ObjectPlace c v t)) (only_one (cell_key p object path) k there) (whole_held c v t object path count h)

  pointer_held : (t : ValueType) (u : PlaceType) → pointed_to t ≡ Some u → (a : Address) → Points p t a → (k : Key) → Contains (target_class p a) k → IsHeldIn p k u
  pointer_held NoValue u e a h k there = absurd (cc)
  pointer_held (Integer i) u e a h k there = absurd (cc)
  pointer_held (ToObject c v t) u e a h k there = subst (IsHeldIn p k) (if_object (is_void t) c v t u e) (address_held c v t a h k there)
  pointer_held (ToFunction sig) u e a h k there = subst (IsHeldIn p k) (same_Some (FunctionPlace sig) u e) tt

  -- ---- parts

  member_of_shape : (c v : Bool) (m : ℕ) (x : shape.Shape-F Shape CType Sig) (u : PlaceType) → member_shape p.structures c v m x ≡ Some u → (k : Key) → Contains (only (option_map (λ s. key.Member s m) (structure_shape x))) k → IsHeld p k u
  member_of_shape c v m (shape.Struct s) u e k there = subst (λ (z : Key). IsHeld p z u) (only_one (key.Member s m) k there) (member_held p (key.Object 0) m c v (shape.Struct s) u e)
  member_of_shape c v m shape.Void u e k there = absurd (cc)
  member_of_shape c v m (shape.Int w) u e k there = absurd (cc)
  member_of_shape c v m (shape.Pointer to) u e k there = absurd (cc)
  member_of_shape c v m (shape.Array of n) u e k there = absurd (cc)
  member_of_shape c v m (shape.Func sig) u e k there = absurd (cc)

  held_in : (k : Key) (u : PlaceType) → IsHeld p k u → IsHeldIn p k u
  held_in k (DevicePlace constant t) h = h
  held_in k (ObjectPlace constant volatile t) h = h
  held_in k (FunctionPlace sig) h = tt

  member_is_held : (w u : PlaceType) (m : ℕ) → member_of p.structures m w ≡ Some u → (k : Key) → Contains (member_class (Some w) m) k → IsHeldIn p k u
  member_is_held (DevicePlace constant t) u m e k there = absurd (cc)
  member_is_held (ObjectPlace c v t) u m e k there = held_in k u (member_of_shape c v m (out-Shape t.shape) u e k there)
  member_is_held (FunctionPlace sig) u m e k there = absurd (cc)

  element_is_held : (w u : PlaceType) (k : Key) → element_of w ≡ Some u → IsHeldIn p k w → IsHeldIn p k u
  element_is_held (DevicePlace constant t) u k e h = absurd (cc)
  element_is_held (ObjectPlace c v t) u k e h = held_in k u (element_held p k (ObjectPlace c v t) u h e)
  element_is_held (FunctionPlace sig) u k e h = absurd (cc)

-- ---- the classes of a place

module _ {I : Type 0} (d : Domain I) (p : Program) (id : ℕ) (f : Func) (register : ℕ → Option (Abs I)) (own : slice_get p.funcs id ≡ Some f) (points : RegistersPoint p f register) where
  class_held : (a : Place) (classes : List Key) → AreClasses d p id f register a classes → (u : PlaceType) → place_type p f.locals a ≡ Some u → (k : Key) → Contains classes k → IsHeldIn p k u
  class_held a classes (OfLocal r h e) u typed k there =
      let w = mapped (λ (n : Named). object_place n.1) (slice_get f.locals r) u (place_typed_as p f a (one.Local r) u h typed) in
      let same : key.Local id r ≡ k = only_one (key.Local id r) k (subst (λ (l : List Key). Contains l k) e there) in
      held_in p k u (subst (λ (z : Key). IsHeld p z u) same (subst (IsHeld p (key.Local id r)) w.2 (own_held p (key.Local id r) w.0.1 (ap (local_ctype r) own ∙ ap declared_type w.1))))
  class_held a classes (OfStatic i h e) u typed k there =
      let w = mapped (λ (o : Object). object_place o.ctype) (slice_get p.objects i) u (place_typed_as p f a (one.Static i) u h typed) in
      let same : key.Object i ≡ k = only_one (key.Object i) k (subst (λ (l : List Key). Contains l k) e there) in
      held_in p k u (subst (λ (z : Key). IsHeld p z u) same (subst (IsHeld p (key.Object i)) w.2 (own_held p (key.Object i) w.0.ctype (ap object_ctype w.1))))
  class_held a classes (OfDevice n h e) u typed k there = no_member k (subst (λ (l : List Key). Contains l k) e there)
  class_held a classes (OfElement b i h rest) u typed k there =
      let w = two_there (place_type p f.locals b) (type_of p f.locals i) subscript_type u (place_typed_as p f a (one.Element b i) u h typed) in
      element_is_held p w.0 u k (element_taken (is_integer w.1) (element_of w.0) u w.4) (class_held b classes rest w.0 w.2 k there)
  class_held a classes (OfMember b m h e) u typed k there =
      let w = one_there (place_type p f.locals b) (member_of p.structures m) u (place_typed_as p f a (one.Member b m) u h typed) in
      member_is_held p w.0 u m w.2 k (subst (λ (o : Option PlaceType). Contains (member_class o m) k) w.1 (subst (λ (l : List Key). Contains l k) e there))
  class_held a classes (OfTarget x s h value e) u typed k there =
      let w = one_there (type_of p f.locals x) pointed_to u (place_typed_as p f a (one.Deref x) u h typed) in
      let m = from_flat (target_class p) s.members k (subst (λ (l : List Key). Contains l k) e there) in
      pointer_held p w.0 u w.2 m.0 (value_points d p id f register own points x (abs.Addrs s) value w.0 w.1 m.0 m.1) k m.2

  -- of the keys that it names
  pub named_typed : (a : Place) (keys : List Key) → AreNamed d p id f register a keys → (u : PlaceType) (t : ValueType) → place_type p f.locals a ≡ Some u → read_from u ≡ Some t → (k : Key) → Contains keys k → IsTyped p k t
  named_typed a keys (classes, are, is) u t typed reads k there =
      let listed = from_filter (is_among classes) (keys_of p) k (subst (λ (l : List Key). Contains l k) is there) in
      let class = any_there (λ c. is_key c k) classes listed.1 in
      let same : class.0 ≡ k = same_key class.0 k class.2 in
      read_held p k u t (class_held a classes are u typed k (subst (Contains classes) same class.1)) reads

-- ---- what is read

then_there : {A B : Type 0} (g : A → Option B) (a : Option A) (w : B) → option_and_then g a ≡ Some w → (x : A) × (a ≡ Some x) × (g x ≡ Some w)
then_there g None w h = absurd (none-some w h)
then_there g (Some x) w h = (x, refl, h)

static_in : (objects : List ℕ) (x : one.Place-F Expr Place) (cell : ℕ) → object_in objects x ≡ Some cell → (i : ℕ) × (x ≡ one.Static i) × (slice_get objects cell ≡ Some i)
static_in objects (one.Static i) cell h = (i, refl, number_at objects i cell h)
static_in objects (one.Local r) cell h = absurd (none-some cell h)
static_in objects (one.Device n) cell h = absurd (none-some cell h)
static_in objects (one.Element a i) cell h = absurd (none-some cell h)
static_in objects (one.Member a m) cell h = absurd (none-some cell h)
static_in objects (one.Deref e) cell h = absurd (none-some cell h)

device_in : (x : one.Place-F Expr Place) (m : ℕ) → device_number x ≡ Some m → x ≡ one.Device m
device_in (one.Device n) m h = ap (λ (z : ℕ). one.Device z) (same_Some n m h)
device_in (one.Local r) m h = absurd (none-some m h)
device_in (one.Static i) m h = absurd (none-some m h)
device_in (one.Element a i) m h = absurd (none-some m h)
device_in (one.Member a k) m h = absurd (none-some m h)
device_in (one.Deref e) m h = absurd (none-some m h)

module _ {I : Type 0} (d : Domain I) (p : Program) (f : Func) where
  -- the tracked cell that a place is holds what the place does
  pub tracked_type : (a : Place) (cell : ℕ) (u : PlaceType) (t : ValueType) → tracked_in p (out-Place a) ≡ Some cell → place_type p f.locals a ≡ Some u → read_from u ≡ Some t → IsTrackedType d p cell t
  tracked_type a cell u t is typed reads =
      let (i, form, at) = static_in (tracked p) (out-Place a) cell is in
      let w = mapped (λ (o : Object). object_place o.ctype) (slice_get p.objects i) u (place_typed_as p f a (one.Static i) u form typed) in
      (i, w.0, at, w.1, ap read_from w.2 ∙ reads)

  device_type : (a : Place) (m : ℕ) (device : Device) (u : PlaceType) (t : ValueType) → device_number (out-Place a) ≡ Some m → slice_get p.devices m ≡ Some device → place_type p f.locals a ≡ Some u → read_from u ≡ Some t → Integer device.int ≡ t
  device_type a m device u t is there typed reads =
      let w = mapped (λ (x : Device). DevicePlace x.constant x.int) (slice_get p.devices m) u (place_typed_as p f a (one.Device m) u (device_in (out-Place a) m is) typed) in
      let same : w.0 ≡ device = same_Some w.0 device (sym w.1 ∙ there) in
      ap (λ (x : Device). Integer x.int) (sym same) ∙ same_Some (Integer w.0.int) t (ap read_from w.2 ∙ reads)

module _ {I : Type 0} (d : Domain I) (typing : IsTyping d) (p : Program) (wholes : HasWholes d p.target) (facts : Facts I) (shape : HaveShape d p facts) where
  -- what a key has in the whole run
  pub whole_in : (k : Key) (t : ValueType) (z : Abs I) → IsTyped p k t → whole_of p facts k ≡ Some z → Contains facts.whole z × IsSetIn p d t z
  whole_in k t z (c, is_ctype, cell) is =
      let (number, numbered, there) = then_there (slice_get facts.whole) (key_number p k) z is in
      let at = key_at p k number numbered in
      let set = shape.whole.there number (slice_get_within (keys_of p) number k at) in
      let same : set.1 ≡ z = same_Some set.1 z (sym set.2.1 ∙ there) in
      let one : set.0 ≡ t = one_key_type d p number set.0 t set.2.0 (k, c, at, is_ctype, cell) in
      (contains_at facts.whole number z there, subst (λ (u : ValueType). IsSetIn p d u z) one (subst (IsSetIn p d set.0) same set.2.2))

  of_kind : (t : ValueType) (kind u : Abs I) → IsOfKind t kind → IsSetIn p d t u → AreOfOneKind kind u
  of_kind t (abs.Ints x) (abs.Ints y) h l = tt
  of_kind t (abs.Addrs r) (abs.Addrs s) h l = tt
  of_kind NoValue (abs.Ints x) (abs.Addrs s) h l = absurd l
  of_kind (Integer i) (abs.Ints x) (abs.Addrs s) h l = absurd l
  of_kind (ToObject c v t) (abs.Ints x) (abs.Addrs s) h l = absurd (true≢false h)
  of_kind (ToFunction sig) (abs.Ints x) (abs.Addrs s) h l = absurd (true≢false h)
  of_kind NoValue (abs.Addrs r) (abs.Ints y) h l = absurd (true≢false (sym h))
  of_kind (Integer i) (abs.Addrs r) (abs.Ints y) h l = absurd (true≢false (sym h))
  of_kind (ToObject c v t) (abs.Addrs r) (abs.Ints y) h l = absurd l
  of_kind (ToFunction sig) (abs.Addrs r) (abs.Ints y) h l = absurd l

  module _ (n id : ℕ) (f : Func) (register : ℕ → Option (Abs I)) (own : slice_get p.funcs id ≡ Some f) (points : RegistersPoint p f register) (fact : PointFact I) (known : fact_at facts n ≡ Some fact) (of_fact : IsPointFact d p f fact) where
    by_keys : (a : Place) (y : Abs I) (u : PlaceType) (t : ValueType) → place_type p f.locals a ≡ Some u → read_from u ≡ Some t → is_scalar t ≡ true → IsByKeys d p id f register facts a y → IsSetIn p d t y
    by_keys a y u t typed reads scalar h =
        let same : h.type ≡ t = same_Some h.type t (sym h.is_type ∙ (ap (option_and_then read_from) typed ∙ reads)) in
        union_in d p typing wholes t scalar (IsOfKeys p facts h.keys) facts.whole h.kind y
        (λ z k. whole_in k.0 t z (named_typed d p id f register own points a h.keys h.named u t typed reads k.0 k.1) k.2)
        (λ z l. of_kind t h.kind z (subst (λ (x : ValueType). IsOfKind x h.kind) same h.is_kind) l) h.union

    cell_known : (cell : ℕ) (y : Abs I) → cell_at facts n cell ≡ Some y → cell_of fact cell ≡ Some y
    cell_known cell y h = subst (λ (o : Option (PointFact I)). option_and_then (λ (x : PointFact I). cell_of x cell) o ≡ Some y) known h

    pub read_in : (a : Place) (y : Abs I) (u : PlaceType) (t : ValueType) → place_type p f.locals a ≡ Some u → read_from u ≡ Some t → is_scalar t ≡ true → IsRead d p id f register facts n a y → IsSetIn p d t y
    read_in a y u t typed reads scalar (OfTracked cell is at) =
        let of_type = tracked_type d p f a cell u t is typed reads in
        let set = of_fact.cells.there cell (slice_get_within (tracked p) cell of_type.0 of_type.2) in
        let same : set.1 ≡ y = same_Some set.1 y (sym set.2.1 ∙ cell_known cell y at) in
        let one : set.0 ≡ t = one_tracked_type d p cell set.0 t set.2.0 of_type in
        subst (λ (x : ValueType). IsSetIn p d x y) one (subst (IsSetIn p d set.0) same set.2.2)
    read_in a y u t typed reads scalar (OfDeviceRead m is (device, x, there, whole, same)) =
        subst (λ (z : ValueType). IsSetIn p d z y) (device_type d p f a m device u t is there typed reads) (subst (IsSetIn p d (Integer device.int)) (sym same) (holds d p device.int x (λ q k. (whole q).1 k)))
    read_in a y u t typed reads scalar (OfOther none other by) = by_keys a y u t typed reads scalar by
