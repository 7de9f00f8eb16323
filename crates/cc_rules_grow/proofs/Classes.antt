-- The classes of cells to which a place leads, the keys that it names, and what a read of it may give grow with the facts. The class of an
-- address is that of its place, by which greater sets of addresses may tell it.
use Rattle.std.proofs.Common.{arith, ◌≡◌, inl, inr, ℕ, Bool, true, false, true≢false, List, [], ◌∷◌, map, Contains, Option, Some, None, slice_get, refl, ap, sym, ◌∙◌, subst}
use Rattle.std.specs.Prelude.{is_some, option_and_then, if◌then◌else◌}
use Rattle.std.specs.List.{flat_map}
use Rattle.std.proofs.lemmas.Bool.{ltb-true, lt-ltb}
use Rattle.std.proofs.lemmas.List.Elements.{Contains-append_left, Contains-append_right}
use Rattle.std.proofs.lemmas.Option.{same_Some}
use Rattle.cc_rules.specs.CcEval.Context.{object_type}
use Rattle.cc_program.specs.CcNum.declared.int_type.IntType.{IntType}
use Rattle.cc_rules.specs.CcPlaces.Abstract.{AreOfOneKind, IsBelowAbs}
use Rattle.cc_rules.specs.CcPlaces.declared.abs.Abs.{Abs}
use Rattle.cc_rules.specs.CcPlaces.declared.abs.Abs.TheVariants as abs
use Rattle.cc_rules.specs.CcPlaces.declared.addrs.Addrs.{Addrs}
use Rattle.cc_rules.specs.CcPlaces.Kept.{kept_root, starred_part, member_for}
use Rattle.cc_rules.specs.CcPlaces.laws.ListLaws.{cons_cases, none_in, any_at, any_from}
use Rattle.cc_rules.specs.CcPlaces.laws.SetLaws.{has_member}
use Rattle.cc_rules.specs.CcPlaces.Sets.{IsWithin}
use Rattle.cc_program.specs.declared.expr.Expr.{Expr}
use Rattle.cc_program.specs.declared.expr.Expr.TheOpen as one
use Rattle.cc_program.specs.declared.expr.Place.{Place as PlaceOf, out-Place}
use Rattle.cc_program.specs.declared.func.Func.{Func}
use Rattle.cc_program.specs.declared.object.Device.{Device}
use Rattle.cc_program.specs.declared.program.Program.{Program}
use Rattle.cc_program.specs.declared.types.Structure.{Structure}
use Rattle.cc_program.specs.declared.value.Address.{Address}
use Rattle.cc_program.specs.declared.value.Address.TheVariants as address
use Rattle.cc_program.specs.declared.value.Part.{Part}
use Rattle.cc_program.specs.declared.value.Part.TheVariants as part
use Rattle.cc_program.specs.declared.value.Root.{Root}
use Rattle.cc_program.specs.declared.value.Root.TheVariants as root
use Rattle.cc_rules_grow.proofs.Elements.{in_filter}
use Rattle.cc_rules_grow.proofs.Kept.{IsKept, ValuesGrow, abs_through, kind_through}
use Rattle.cc_rules.specs.CcRulesNeeds.declared.needs.Slot.TheVariants.{Whole, CellAt}
use Rattle.cc_rules.specs.CcRulesNeeds.Needs.{AreValuesBelow, IsBelow}
use Rattle.cc_state_points.proofs.CcState.Lists.{from_filter, from_flat}
use Rattle.cc_rules.specs.CcStateFacts.declared.facts.Facts.{Facts}
use Rattle.cc_rules.specs.CcStateFacts.declared.facts.Key.{Key}
use Rattle.cc_rules.specs.CcStateFacts.declared.facts.Key.TheVariants as key
use Rattle.cc_rules.specs.CcStateFacts.Facts.{cell_at}
use Rattle.cc_rules.specs.CcStateKeys.Keys.{key_of_step, key_along, cell_key, root_key, keys_of, key_number, is_key}
use Rattle.cc_rules.specs.CcStateOperators.Domains.{Domain, IsWhole}
use Rattle.cc_rules.specs.CcStateReads.Named.{target_class, member_class, is_among, AreClasses, OfLocal, OfStatic, OfDevice, OfElement, OfMember, OfTarget}
use Rattle.cc_rules.specs.CcStateReads.Reads.{whole_of, device_number, tracked_in, IsOfKind, IsOfKeys, IsOfDevice, AreNamed, IsByKeys, IsRead, OfTracked, OfDevice as OfDeviceRead, OfOther}
use Rattle.cc_rules.proofs.CcStateValues.Parts.{place_typed_as}
use Rattle.cc_rules.proofs.CcStateValues.Rules.{two_there}
use Rattle.cc_rules.specs.CcStateValues.Values.{IsVal, AtTarget}
use Rattle.cc_state_points.specs.CcStateValuesGrow.Growth.{AreRegistersBelow, LeadSomewhere, RegistersPoint}
use Rattle.cc_state_points.specs.CcStateValuesSound.Steps.{IsReal}
use Rattle.cc_rules.specs.CcSyntax.Expressions.{of_one}
use Rattle.cc_rules.specs.CcSyntax.Initial.{bound_of, is_below, place_at, step_into}
use Rattle.cc_rules.specs.CcSyntax.Operators.{subscript_type}
use Rattle.cc_rules.specs.CcSyntax.Programs.{type_of, place_type}
use Rattle.cc_rules.specs.CcSyntax.Values.{ValueType, PlaceType, element_of, read_from}

-- ---- of an address and of its place

module _ (structures : List Structure) where
  first_below : (i : ℕ) (bound : Option ℕ) → is_below i bound ≡ true → is_below 0 bound ≡ true
  first_below i None h = absurd (cc)
  first_below i (Some n) h = let k = ltb-true i n h in lt-ltb 0 n (omega (arith, k))

  step_starred : (step : Part) (a b : PlaceType) → step_into structures step a ≡ Some b → step_into structures (starred_part step) a ≡ Some b
  step_starred (part.Member m) a b h = h
  step_starred (part.Index i) a b h = by (is_below i (bound_of a)) refl h
    where
      by : (t : Bool) → is_below i (bound_of a) ≡ t → (if t then element_of a else None) ≡ Some b → step_into structures (part.Index 0) a ≡ Some b
      by true e k = ap (λ (z : Bool). if z then element_of a else None) (first_below i (bound_of a) e) ∙ k
      by false e k = absurd (cc)

  step_key : (step : Part) (a : PlaceType) (before : Key) → key_of_step (starred_part step) a before ≡ key_of_step step a before
  step_key (part.Member m) a before = refl
  step_key (part.Index i) a before = refl

  key_starred : (path : List Part) (x : Option PlaceType) (before : Key) → is_some (option_and_then (place_at structures path) x) ≡ true → key_along structures (map starred_part path) x before ≡ key_along structures path x before
  key_starred path None before h = absurd (cc)
  key_starred [] (Some a) before h = refl
  key_starred (step ∷ path) (Some a) before h = by (λ (b : PlaceType) k. key_starred path (Some b) (key_of_step step a before) k) (step_into structures step a) refl h
    where
      by : ((b : PlaceType) → is_some (option_and_then (place_at structures path) (Some b)) ≡ true →
          key_along structures (map starred_part path) (Some b) (key_of_step step a before) ≡ key_along structures path (Some b) (key_of_step step a before)) →
          (y : Option PlaceType) → step_into structures step a ≡ y → is_some (of_one y (place_at structures path)) ≡ true →
          key_along structures (map starred_part path) (step_into structures (starred_part step) a) (key_of_step (starred_part step) a before) ≡ key_along structures path (step_into structures step a) (key_of_step step a before)
      by again None e k = absurd (cc)
      by again (Some b) e k =
          ap (λ (z : Option PlaceType). key_along structures (map starred_part path) z (key_of_step (starred_part step) a before)) (step_starred step a b e)
          ∙ ap (key_along structures (map starred_part path) (Some b)) (step_key step a before)
          ∙ again b k
          ∙ ap (λ (z : Option PlaceType). key_along structures path z (key_of_step step a before)) (sym e)

module _ (p : Program) where
  key_kept : (object : Root) (path : List Part) → cell_key p (kept_root object) path ≡ cell_key p object path
  key_kept (root.Static i) path = refl
  key_kept (root.Auto number g r) path = refl

  class_for : (exact : Bool) (a : Address) (k : Key) → IsReal p a → Contains (target_class p a) k → Contains (target_class p (member_for exact a)) k
  class_for exact address.Null k real c = absurd (none_in k c)
  class_for exact (address.Func g) k real c = absurd (none_in k c)
  class_for true (address.At object path index count) k real c = subst (λ (z : Key). Contains (z ∷ []) k) (sym (key_kept object path)) c
  class_for false (address.At object path index count) k real c =
      subst (λ (z : Key). Contains (z ∷ []) k) (sym (key_kept object (map starred_part path) ∙ key_starred p.structures path (object_type p object) (root_key object) real)) c

  to_flat : {A : Type 0} (g : A → List Key) (xs : List A) (x : A) (k : Key) → Contains xs x → Contains (g x) k → Contains (flat_map g xs) k
  to_flat g [] x k c h = absurd (none_in x c)
  to_flat g (y ∷ xs) x k c h = elim (cons_cases y xs x c) [
    | inl e ↦ Contains-append_left (g y) (flat_map g xs) k (subst (λ z. Contains (g z) k) (sym e) h)
    | inr r ↦ Contains-append_right (g y) (flat_map g xs) k (to_flat g xs x k r h)
  ]

  targets_more : (s t : Addrs) → IsWithin s t → ((a : Address) → Contains s.members a → IsReal p a) → (k : Key) → Contains (flat_map (target_class p) s.members) k → Contains (flat_map (target_class p) t.members) k
  targets_more s t h real k c =
      let (a, there, has) = from_flat (target_class p) s.members k c in
      to_flat (target_class p) t.members (member_for t.is_exact a) k (h a (has_member s a there)) (class_for t.is_exact a k (real a there) has)

module _ {I : Type 0} (d : Domain I) (k : IsKept d) (p : Program) (id : ℕ) (f : Func) (grown : ValuesGrow d p id f) (register more : ℕ → Option (Abs I))
    (points : RegistersPoint p f register) (leads : LeadSomewhere d p id f register) (below : AreRegistersBelow d.below register more) where
  -- ---- of a place

  abbrev Classes : (ℕ → Option (Abs I)) → PlaceOf → List Key → Type 0
  Classes own a classes = AreClasses d p id f own a classes

  abbrev ClassesAs : (ℕ → Option (Abs I)) → one.Place-F Expr PlaceOf → List Key → Type 0
  ClassesAs own (one.Local r) classes = classes ≡ key.Local id r ∷ []
  ClassesAs own (one.Static i) classes = classes ≡ key.Object i ∷ []
  ClassesAs own (one.Device n) classes = classes ≡ []
  ClassesAs own (one.Element b i) classes = Classes own b classes
  ClassesAs own (one.Member b m) classes = classes ≡ member_class (place_type p f.locals b) m
  ClassesAs own (one.Deref e) classes = (s : Addrs) × IsVal d p id f own e (abs.Addrs s) × (classes ≡ flat_map (target_class p) s.members)

  by_form : (own : ℕ → Option (Abs I)) (a : PlaceOf) (classes : List Key) → Classes own a classes → ClassesAs own (out-Place a) classes
  by_form own a classes (OfLocal r is same) = subst (λ (x : one.Place-F Expr PlaceOf). ClassesAs own x classes) (sym is) same
  by_form own a classes (OfStatic i is same) = subst (λ (x : one.Place-F Expr PlaceOf). ClassesAs own x classes) (sym is) same
  by_form own a classes (OfDevice n is same) = subst (λ (x : one.Place-F Expr PlaceOf). ClassesAs own x classes) (sym is) same
  by_form own a classes (OfElement b i is sub) = subst (λ (x : one.Place-F Expr PlaceOf). ClassesAs own x classes) (sym is) sub
  by_form own a classes (OfMember b m is same) = subst (λ (x : one.Place-F Expr PlaceOf). ClassesAs own x classes) (sym is) same
  by_form own a classes (OfTarget e s is val same) = subst (λ (x : one.Place-F Expr PlaceOf). ClassesAs own x classes) (sym is) (s, val, same)

  classes_at : (own : ℕ → Option (Abs I)) (a : PlaceOf) (x : one.Place-F Expr PlaceOf) (classes : List Key) → out-Place a ≡ x → Classes own a classes → ClassesAs own x classes
  classes_at own a x classes is l = subst (λ (x : one.Place-F Expr PlaceOf). ClassesAs own x classes) is (by_form own a classes l)

  same_class : (cs ds es : List Key) (q : Key) → cs ≡ es → ds ≡ es → Contains cs q → Contains ds q
  same_class cs ds es q e g c = subst (λ (l : List Key). Contains l q) (e ∙ sym g) c

  pub classes_more : (a : PlaceOf) (t : PlaceType) (cs ds : List Key) → place_type p f.locals a ≡ Some t → Classes register a cs → Classes more a ds → (q : Key) → Contains cs q → Contains ds q
  classes_more a t cs ds typed (OfLocal r is same) l q c = same_class cs ds (key.Local id r ∷ []) q same (classes_at more a (one.Local r) ds is l) c
  classes_more a t cs ds typed (OfStatic i is same) l q c = same_class cs ds (key.Object i ∷ []) q same (classes_at more a (one.Static i) ds is l) c
  classes_more a t cs ds typed (OfDevice n is same) l q c = same_class cs ds [] q same (classes_at more a (one.Device n) ds is l) c
  classes_more a t cs ds typed (OfElement b i is sub) l q c =
      let (u, v, typed_b, typed_i, w) = two_there (place_type p f.locals b) (type_of p f.locals i) subscript_type t (place_typed_as p f a (one.Element b i) t is typed) in
      classes_more b u cs ds typed_b sub (classes_at more a (one.Element b i) ds is l) q c
  classes_more a t cs ds typed (OfMember b m is same) l q c = same_class cs ds (member_class (place_type p f.locals b) m) q same (classes_at more a (one.Member b m) ds is l) c
  classes_more a t cs ds typed (OfTarget e s is val same) l q c =
      let (s', val', same') = classes_at more a (one.Deref e) ds is l in
      subst (λ (l : List Key). Contains l q) (sym same')
      (targets_more p s s' (grown register more points below e (abs.Addrs s) (abs.Addrs s') val val') (λ b there. leads a t s typed (AtTarget e is val) b there) q (subst (λ (l : List Key). Contains l q) same c))

  among_more : (cs ds : List Key) → ((q : Key) → Contains cs q → Contains ds q) → (q : Key) → is_among cs q ≡ true → is_among ds q ≡ true
  among_more cs ds h q e = let (b, there, is) = any_at (λ (c : Key). is_key c q) cs e in any_from (λ (c : Key). is_key c q) ds b (h b there) is

  -- the keys that it names
  pub named_more : (a : PlaceOf) (t : PlaceType) (keys more_keys : List Key) → place_type p f.locals a ≡ Some t → AreNamed d p id f register a keys → AreNamed d p id f more a more_keys → (q : Key) → Contains keys q → Contains more_keys q
  named_more a t keys more_keys typed (cs, classes, is) (ds, classes', is') q c =
      let (there, among) = from_filter (is_among cs) (keys_of p) q (subst (λ (l : List Key). Contains l q) is c) in
      subst (λ (l : List Key). Contains l q) (sym is') (in_filter (is_among ds) (keys_of p) q there (among_more cs ds (classes_more a t cs ds typed classes classes') q among))

  -- ---- what a read gives

  module _ (facts others : Facts I) (less : IsBelow d.below facts others) (same_whole : (t : IntType) (x y : I) → IsWhole d t p.target x → IsWhole d t p.target y → d.below x y) where
    some_below : (x y : Abs I) (u v : Option (Abs I)) → AreValuesBelow d.below u v → u ≡ Some x → v ≡ Some y → IsBelowAbs d.below x y
    some_below x y u v h e g = subst (λ (z : Option (Abs I)). AreValuesBelow d.below (Some x) z) g (subst (λ (z : Option (Abs I)). AreValuesBelow d.below z v) e h)

    found_below : (x : Abs I) (v : Option (Abs I)) → AreValuesBelow d.below (Some x) v → (y : Abs I) × (v ≡ Some y) × IsBelowAbs d.below x y
    found_below x None h = absurd h
    found_below x (Some y) h = (y, refl, h)

    -- the whole-run set of a key
    pub whole_more : (q : Key) (x : Abs I) → whole_of p facts q ≡ Some x → (y : Abs I) × (whole_of p others q ≡ Some y) × IsBelowAbs d.below x y
    whole_more q x e = by (key_number p q) e
      where
        by : (n : Option ℕ) → option_and_then (slice_get facts.whole) n ≡ Some x → (y : Abs I) × (option_and_then (slice_get others.whole) n ≡ Some y) × IsBelowAbs d.below x y
        by None e = absurd (cc)
        by (Some n) e = found_below x (slice_get others.whole n) (subst (λ (z : Option (Abs I)). AreValuesBelow d.below z (slice_get others.whole n)) e (less (Whole n)))

    kind_of : (t : ValueType) (x y : Abs I) → IsOfKind t x → IsOfKind t y → AreOfOneKind x y
    kind_of t (abs.Ints x) (abs.Ints y) h l = tt
    kind_of t (abs.Ints x) (abs.Addrs s) h l = absurd (true≢false (sym l ∙ h))
    kind_of t (abs.Addrs s) (abs.Ints x) h l = absurd (true≢false (sym h ∙ l))
    kind_of t (abs.Addrs s) (abs.Addrs r) h l = tt

    typed_of : (t : ValueType) (u : Option PlaceType) → option_and_then read_from u ≡ Some t → (v : PlaceType) × (u ≡ Some v)
    typed_of t None e = absurd (cc)
    typed_of t (Some v) e = (v, refl)

    by_keys_more : (a : PlaceOf) (y z : Abs I) → IsByKeys d p id f register facts a y → IsByKeys d p id f more others a z → IsBelowAbs d.below y z
    by_keys_more a y z h l = h.union.least z (kind_through h.kind l.kind z (kind_of h.type h.kind l.kind h.is_kind (subst (λ (t : ValueType). IsOfKind t l.kind) (same_Some l.type h.type (sym l.is_type ∙ h.is_type)) l.is_kind)) l.union.alike) each
      where
        each : (x : Abs I) → IsOfKeys p facts h.keys x → IsBelowAbs d.below x z
        each x (q, c, is) =
            let (t, typed) = typed_of h.type (place_type p f.locals a) h.is_type in
            let (y', is', g) = whole_more q x is in
            abs_through d k x y' z g (l.union.above y' (q, named_more a t h.keys l.keys typed h.named l.named q c, is'))

    tracked_or_device : (x : one.Place-F Expr PlaceOf) (c m : ℕ) → tracked_in p x ≡ Some c → device_number x ≡ Some m → ⊥
    tracked_or_device (one.Local r) c m e g = cc
    tracked_or_device (one.Static i) c m e g = cc
    tracked_or_device (one.Device n) c m e g = cc
    tracked_or_device (one.Element b i) c m e g = cc
    tracked_or_device (one.Member b n) c m e g = cc
    tracked_or_device (one.Deref v) c m e g = cc

    is_none : {A : Type 0} {C : Type 0} (x : A) (o : Option A) → o ≡ Some x → o ≡ None → C
    is_none x o e g = absurd (let h : Some x ≡ None = sym e ∙ g in cc)

    device_more : (n m : ℕ) (y z : Abs I) → n ≡ m → IsOfDevice d p n y → IsOfDevice d p m z → IsBelowAbs d.below y z
    device_more n m y z same (device, x, is, whole, of) (device', x', is', whole', of') =
        let same_device : device' ≡ device = same_Some device' device (sym is' ∙ (ap (slice_get p.devices) (sym same) ∙ is)) in
        subst (λ (s : Abs I). IsBelowAbs d.below s z) (sym of)
        (subst (λ (s : Abs I). IsBelowAbs d.below (abs.Ints x) s) (sym of') (same_whole device.int x x' whole (subst (λ (s : Device). IsWhole d s.int p.target x') same_device whole')))

    pub read_more : (n : ℕ) (a : PlaceOf) (y z : Abs I) → IsRead d p id f register facts n a y → IsRead d p id f more others n a z → IsBelowAbs d.below y z
    read_more n a y z (OfTracked c is at) (OfTracked c' is' at') =
        some_below y z (cell_at facts n c) (cell_at others n c) (less (CellAt n c)) at (subst (λ (i : ℕ). cell_at others n i ≡ Some z) (same_Some c' c (sym is' ∙ is)) at')
    read_more n a y z (OfTracked c is at) (OfDeviceRead m is' of) = absurd (tracked_or_device (out-Place a) c m is is')
    read_more n a y z (OfTracked c is at) (OfOther none other by_keys) = is_none c (tracked_in p (out-Place a)) is none
    read_more n a y z (OfDeviceRead m is of) (OfTracked c is' at) = absurd (tracked_or_device (out-Place a) c m is' is)
    read_more n a y z (OfDeviceRead m is of) (OfDeviceRead m' is' of') = device_more m m' y z (same_Some m m' (sym is ∙ is')) of of'
    read_more n a y z (OfDeviceRead m is of) (OfOther none other by_keys) = is_none m (device_number (out-Place a)) is other
    read_more n a y z (OfOther none other by_keys) (OfTracked c is at) = is_none c (tracked_in p (out-Place a)) is none
    read_more n a y z (OfOther none other by_keys) (OfDeviceRead m is of) = is_none m (device_number (out-Place a)) is other
    read_more n a y z (OfOther none other by_keys) (OfOther none' other' by_keys') = by_keys_more a y z by_keys by_keys'
