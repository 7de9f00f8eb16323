-- The cell to which a place leads that is no register: by where the place is known to lead.
use Rattle.std.proofs.Common.{arith, ◌≡◌, inl, inr, ℕ, suc, Bool, true, false, List, [], ◌∷◌, Contains, Option, Some, None, refl, ap, sym, ◌∙◌, subst}
use Rattle.std.specs.Prelude.{nat_lt, option_map, if◌then◌else◌}
use Rattle.std.proofs.lemmas.Option.{same_Some}
use Rattle.cc_state_values_sound.specs.CcEval.Context.{has_elements, path_to, named_by, designated, cell_of, cell_at, reached}
use Rattle.cc_state_values_sound.specs.CcEval.declared.spots.Spot.{Spot}
use Rattle.cc_state_values_sound.specs.CcEval.declared.spots.Spot.TheVariants as spot
use Rattle.cc_program.specs.declared.expr.Expr.{Expr}
use Rattle.cc_program.specs.declared.expr.Expr.TheOpen as one
use Rattle.cc_program.specs.declared.expr.Place.{Place, out-Place}
use Rattle.cc_program.specs.declared.func.Func.{Func}
use Rattle.cc_program.specs.declared.program.Program.{Program}
use Rattle.cc_program.specs.declared.types.CType.{CType}
use Rattle.cc_program.specs.declared.value.Address.{Address}
use Rattle.cc_program.specs.declared.value.Address.TheVariants as address
use Rattle.cc_program.specs.declared.value.Cell.{Cell}
use Rattle.cc_program.specs.declared.value.Cell.TheVariants as cell
use Rattle.cc_program.specs.declared.value.Part.{Part}
use Rattle.cc_program.specs.declared.value.Root.{Root}
use Rattle.cc_program.specs.declared.value.Root.TheVariants as root
use Rattle.cc_proof_rules.proofs.Keys.{designated_class}
use Rattle.cc_proof_rules.specs.Operands.{root_static, address_static, spot_static, HasClass, IsLed}
use Rattle.cc_rules.specs.CcStateFacts.declared.facts.Facts.{Facts}
use Rattle.cc_rules.specs.CcStateFacts.declared.facts.Key.{Key}
use Rattle.cc_rules.specs.CcStateKeys.Keys.{cell_key}
use Rattle.cc_rules.specs.CcStateKeys.Paths.{LeadsTo}
use Rattle.cc_rules.specs.CcStateKeys.Tracked.{tracked_number}
use Rattle.cc_state_values_sound.specs.CcStateOperators.Domains.{Domain}
use Rattle.cc_rules.specs.CcStateReads.Named.{AreClasses}
use Rattle.cc_rules.specs.CcStateReads.Reads.{registers_at, tracked_in, device_number}
use Rattle.cc_state_values_sound.proofs.CcStates.GivenLemmas.{reached_cell}
use Rattle.cc_state_values_sound.proofs.CcStates.MemoryLemmas.{part_in_memory}
use Rattle.cc_state_values_sound.proofs.CcStates.PlaceLemmas.{CanPoint, real}
use Rattle.cc_state_values_sound.proofs.CcStates.ReachLemmas.{cell_reached}
use Rattle.cc_state_values_sound.specs.CcStates.Typed.{place_in, cell_type, IsInMemory, MayLead}
use Rattle.cc_state_values_sound.specs.CcSteps.Step.{cell_position}
use Rattle.cc_state_values_sound.specs.CcSyntax.Programs.{place_type}
use Rattle.cc_state_values_sound.specs.CcSyntax.Values.{ValueType, PlaceType, DevicePlace, ObjectPlace, FunctionPlace, read_from}

-- ---- by forms

pub record IsReachedCell (p : Program) (t : Option PlaceType) (s : Option Spot) (to : Cell) : Type 0 where
  pub type : PlaceType
  pub is_type : t ≡ Some type
  pub there : Spot
  pub is_there : s ≡ Some there
  pub leads : cell_at p type there ≡ Some to

pub reached_is : (p : Program) (t : Option PlaceType) (s : Option Spot) (to : Cell) → reached p t s ≡ Some to → IsReachedCell p t s to
reached_is p None s to h = absurd (cc)
reached_is p (Some u) None to h = absurd (cc)
reached_is p (Some u) (Some there) to h = record { type = u; is_type = refl; there = there; is_there = refl; leads = h }

same_cell : (a b : Cell) → Some a ≡ Some b → a ≡ b
same_cell a b e = same_Some a b e

module _ (p : Program) where
  cell_designated : (t : PlaceType) (s : Spot) (object : Root) (path : List Part) → cell_at p t s ≡ Some (cell.At object path) → designated p t s ≡ Some (object, path)
  cell_designated t (spot.Device n) object path e = absurd (let k = same_Some (cell.Device n) (cell.At object path) e in cc)
  cell_designated t (spot.Object o q) object path e =
      let k = same_Some (cell.At o q) (cell.At object path) e in
      let root_is : o ≡ object = cc in
      let path_is : q ≡ path = cc in
      ap (λ (z : Root). Some (z, q)) root_is ∙ ap (λ (z : List Part). Some (object, z)) path_is
  cell_designated t (spot.Address a) object path e = by (named_by p t a) refl e
    where
      by : (x : Option (Root × List Part)) → named_by p t a ≡ x → option_map cell_of x ≡ Some (cell.At object path) → named_by p t a ≡ Some (object, path)
      by None h k = absurd (cc)
      by (Some o) h k =
          let c = same_Some (cell.At o.0 o.1) (cell.At object path) k in
          let root_is : o.0 ≡ object = cc in
          let path_is : o.1 ≡ path = cc in
          h ∙ ap (λ (z : Root). Some (z, o.1)) root_is ∙ ap (λ (z : List Part). Some (object, z)) path_is

  device_there : (t : PlaceType) (s : Spot) (n : ℕ) → cell_at p t s ≡ Some (cell.Device n) → s ≡ spot.Device n
  device_there t (spot.Device k) n e = let c = same_Some (cell.Device k) (cell.Device n) e in let same : k ≡ n = cc in ap (λ (z : ℕ). spot.Device z) same
  device_there t (spot.Object o q) n e = absurd (let k = same_Some (cell.At o q) (cell.Device n) e in cc)
  device_there t (spot.Address a) n e = by (named_by p t a) e
    where
      by : (x : Option (Root × List Part)) → option_map cell_of x ≡ Some (cell.Device n) → spot.Address a ≡ spot.Device n
      by None k = absurd (cc)
      by (Some o) k = absurd (let c = same_Some (cell.At o.0 o.1) (cell.Device n) k in cc)

  -- the static object is that of the spot
  named_static : (t : PlaceType) (a : Address) (o : Root × List Part) → named_by p t a ≡ Some o → address_static a ≡ root_static o.0
  named_static t address.Null o e = absurd (cc)
  named_static t (address.Func g) o e = absurd (cc)
  named_static t (address.At object path index count) o e = by (nat_lt index count) e
    where
      by : (b : Bool) → (if b then Some (object, path_to (has_elements p t object path) path index) else None) ≡ Some o → root_static object ≡ root_static o.0
      by true k = ap (λ (z : Root × List Part). root_static z.0) (same_Some (object, path_to (has_elements p t object path) path index) o k)
      by false k = absurd (cc)

  designated_static : (t : PlaceType) (s : Spot) (o : Root × List Part) → designated p t s ≡ Some o → spot_static (Some s) ≡ root_static o.0
  designated_static t (spot.Device n) o e = absurd (cc)
  designated_static t (spot.Object object path) o e = ap (λ (z : Root × List Part). root_static z.0) (same_Some (object, path) o e)
  designated_static t (spot.Address a) o e = named_static t a o e

-- ---- what is in memory

module _ (p : Program) (openings : List ℕ) where
  part_memory : (object : Root) (path : List Part) (c v : Bool) (t : CType) → CanPoint c v t (place_in p object path) → (path ≡ [] → IsInMemory p object) → IsInMemory p object
  part_memory object [] c v t can h = h refl
  part_memory object (step ∷ path) c v t can h =
      let r = real c v t (place_in p object (step ∷ path)) can in
      part_in_memory p object (step ∷ path) (ObjectPlace r.const r.volat r.to) r.is (λ e. absurd (cc))

  object_memory : (u : PlaceType) (object : Root) (path : List Part) → MayLead p openings u (Some (spot.Object object path)) → (path ≡ [] → IsInMemory p object) → IsInMemory p object
  object_memory (DevicePlace constant t) object path h k = absurd h
  object_memory (FunctionPlace sig) object path h k = absurd h
  object_memory (ObjectPlace c v t) object path h k = part_memory object path c v t h.2 k

  no_more : (n : ℕ) → n ≡ suc n → ⊥
  no_more n e = omega (arith, e)

  address_memory : (u : PlaceType) (a : Address) (object : Root) (path : List Part) → MayLead p openings u (Some (spot.Address a)) → cell_at p u (spot.Address a) ≡ Some (cell.At object path) → IsInMemory p object
  address_memory u a (root.Static i) path h e = tt
  address_memory u a (root.Auto number g r) path h e = elim (cell_reached p (suc number) openings u (Some (spot.Address a)) (cell.At (root.Auto number g r) path) h tt e) [ inl k ↦ absurd (no_more number k) | inr k ↦ k ]

  pub cell_memory : (u : PlaceType) (s : Spot) (object : Root) (path : List Part) → MayLead p openings u (Some s) → ((o : Root) → Some s ≡ Some (spot.Object o []) → IsInMemory p o) → cell_at p u s ≡ Some (cell.At object path) → IsInMemory p object
  cell_memory u (spot.Device n) object path h k e = absurd (let c = same_Some (cell.Device n) (cell.At object path) e in cc)
  cell_memory u (spot.Object o q) object path h k e =
      let c = same_Some (cell.At o q) (cell.At object path) e in
      let root_is : o ≡ object = cc in
      subst (IsInMemory p) root_is (object_memory u o q h (λ empty. k o (ap (λ (z : List Part). Some (spot.Object o z)) empty)))
  cell_memory u (spot.Address a) object path h k e = address_memory u a object path h e

-- ---- from where the place is known to lead

module _ {I : Type 0} (d : Domain I) (p : Program) (facts : Facts I) (n id : ℕ) (f : Func) (a : Place) (there : Option Spot) (led : IsLed d p facts n id f a there) (to : Cell) (leads : reached p (place_type p f.locals a) there ≡ Some to) where
  abbrev its : IsReachedCell p (place_type p f.locals a) there to
  its = reached_is p (place_type p f.locals a) there to leads

  typed_there : MayLead p led.openings its.type (Some its.there)
  typed_there = subst (MayLead p led.openings its.type) its.is_there (led.typed its.type its.is_type)

  pub type_is : (u : PlaceType) → place_type p f.locals a ≡ Some u → its.type ≡ u
  type_is u e = same_Some its.type u (sym its.is_type ∙ e)

  -- its type
  pub cell_typed : (u : PlaceType) (w : ValueType) → place_type p f.locals a ≡ Some u → read_from u ≡ Some w → cell_type p to ≡ Some w
  cell_typed u w e k =
      (reached_cell p led.openings its.type w (Some its.there) to typed_there (ap read_from (type_is u e) ∙ k) its.leads).0

  pub led_device : (k : ℕ) → to ≡ cell.Device k → out-Place a ≡ one.Device k
  led_device k e = led.device k (its.is_there ∙ ap Some (device_there p its.type its.there k (its.leads ∙ ap Some e)))

  module _ (object : Root) (path : List Part) (is : to ≡ cell.At object path) where
    designates_it : designated p its.type its.there ≡ Some (object, path)
    designates_it = cell_designated p its.type its.there object path (its.leads ∙ ap Some is)

    pub led_memory : IsInMemory p object
    led_memory = cell_memory p led.openings its.type its.there object path typed_there (λ o e. led.in_memory o (its.is_there ∙ e)) (its.leads ∙ ap Some is)

    pub led_class : (classes : List Key) → AreClasses d p id f (registers_at facts f n) a classes → Contains classes (cell_key p object path)
    led_class classes h = designated_class p classes its.type its.there (object, path) (subst (HasClass p classes) its.is_there (led.classes its.type its.is_type classes h)) designates_it

    pub led_static : (i : ℕ) → object ≡ root.Static i → spot_static there ≡ Some i
    led_static i e = ap spot_static its.is_there ∙ designated_static p its.type its.there (object, path) designates_it ∙ ap root_static e

    pub leads_to : (u : PlaceType) (w : ValueType) → place_type p f.locals a ≡ Some u → read_from u ≡ Some w → LeadsTo p object path (cell_position p object path)
    leads_to u w e k = (w, ap (cell_type p) (sym is) ∙ cell_typed u w e k, refl)

  -- a static object that the place names
  pub named_cell : (i : ℕ) → out-Place a ≡ one.Static i → to ≡ cell.At (root.Static i) []
  named_cell i e =
      let same : its.there ≡ spot.Object (root.Static i) [] = same_Some its.there (spot.Object (root.Static i) []) (sym its.is_there ∙ led.named i e) in
      same_Some to (cell.At (root.Static i) []) (sym its.leads ∙ ap (cell_at p its.type) same)

  pub device_cell : (k : ℕ) → out-Place a ≡ one.Device k → to ≡ cell.Device k
  device_cell k e =
      let same : its.there ≡ spot.Device k = same_Some its.there (spot.Device k) (sym its.is_there ∙ led.named_device k e) in
      same_Some to (cell.Device k) (sym its.leads ∙ ap (cell_at p its.type) same)

-- ---- which tracked cell, and which device, a place is

pub tracked_place : (p : Program) (x : one.Place-F Expr Place) (j : ℕ) → tracked_in p x ≡ Some j → (i : ℕ) × (x ≡ one.Static i) × (tracked_number p i ≡ Some j)
tracked_place p (one.Static i) j e = (i, refl, e)
tracked_place p (one.Local r) j e = absurd (cc)
tracked_place p (one.Device k) j e = absurd (cc)
tracked_place p (one.Element b i) j e = absurd (cc)
tracked_place p (one.Member b m) j e = absurd (cc)
tracked_place p (one.Deref x) j e = absurd (cc)

pub device_place : (x : one.Place-F Expr Place) (j : ℕ) → device_number x ≡ Some j → x ≡ one.Device j
device_place (one.Device k) j e = ap (λ (z : ℕ). one.Device z) (same_Some k j e)
device_place (one.Static i) j e = absurd (cc)
device_place (one.Local r) j e = absurd (cc)
device_place (one.Element b i) j e = absurd (cc)
device_place (one.Member b m) j e = absurd (cc)
device_place (one.Deref x) j e = absurd (cc)
