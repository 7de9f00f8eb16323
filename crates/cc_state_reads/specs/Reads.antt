-- Read: what an access to a place may give at a point; and the keys that a place names.
use Rattle.std.specs.Prelude.{◌≡◌, ℕ, ◌==◌, Bool, true, false, List, Option, Some, None, option_and_then, position, slice_get}
use Rattle.std.specs.List.{Contains, filter}
use Rattle.cc_state_values.specs.CcPlaces.declared.abs.Abs.{Abs}
use Rattle.cc_state_values.specs.CcPlaces.declared.abs.Abs.TheVariants as abs
use Rattle.cc_program.specs.declared.expr.Expr.{Expr}
use Rattle.cc_program.specs.declared.expr.Expr.TheOpen as one
use Rattle.cc_program.specs.declared.expr.Place.{Place as PlaceOf, out-Place}
use Rattle.cc_program.specs.declared.func.Func.{Func}
use Rattle.cc_program.specs.declared.object.Device.{Device}
use Rattle.cc_program.specs.declared.program.Program.{Program}
use Rattle.cc_state_keys.specs.CcStateFacts.declared.facts.Facts.{Facts}
use Rattle.cc_state_keys.specs.CcStateFacts.declared.facts.Key.{Key}
use Rattle.cc_state_keys.specs.CcStateFacts.Facts.{cell_at, local_at}
use Rattle.cc_state_keys.specs.Keys.{keys_of, key_number}
use Rattle.cc_state_keys.specs.Tracked.{register_number, tracked}
use Rattle.cc_state_values.specs.CcStateOperators.Domains.{Domain, IsWhole, IsUnion}
use Rattle.cc_state_reads.specs.Named.{AreClasses, is_among}
use Rattle.cc_state_keys.specs.CcSyntax.Programs.{place_type}
use Rattle.cc_state_keys.specs.CcSyntax.Values.{ValueType, NoValue, Integer, ToObject, ToFunction, read_from}

-- the sets of the registers of a function, at a point of it
abbrev pub registers_at : {I : Type 0} → Facts I → Func → ℕ → ℕ → Option (Abs I)
registers_at facts f point r = option_and_then (local_at facts point) (register_number f r)

-- the whole-run set of a key of a program
abbrev pub whole_of : {I : Type 0} → Program → Facts I → Key → Option (Abs I)
whole_of p facts k = option_and_then (slice_get facts.whole) (key_number p k)

-- which of some static objects a place is, by position, and which device
abbrev pub object_in : List ℕ → one.Place-F Expr PlaceOf → Option ℕ
object_in objects (one.Static i) = position (λ k. k == i) objects
object_in objects (one.Local r) = None
object_in objects (one.Device n) = None
object_in objects (one.Element a i) = None
object_in objects (one.Member a m) = None
object_in objects (one.Deref e) = None

abbrev pub device_number : one.Place-F Expr PlaceOf → Option ℕ
device_number (one.Device n) = Some n
device_number (one.Local r) = None
device_number (one.Static i) = None
device_number (one.Element a i) = None
device_number (one.Member a m) = None
device_number (one.Deref e) = None

-- which tracked cell it is
abbrev pub tracked_in : Program → one.Place-F Expr PlaceOf → Option ℕ
tracked_in p x = object_in (tracked p) x

-- of the kind of a type: addresses for a pointer, else integers
abbrev pub is_pointer : ValueType → Bool
is_pointer NoValue = false
is_pointer (Integer t) = false
is_pointer (ToObject constant volatile t) = true
is_pointer (ToFunction sig) = true

abbrev pub IsOfKind : {I : Type 0} → ValueType → Abs I → Type 0
IsOfKind t (abs.Ints x) = is_pointer t ≡ false
IsOfKind t (abs.Addrs s) = is_pointer t ≡ true

-- one of the whole-run sets of some keys
abbrev pub IsOfKeys : {I : Type 0} → Program → Facts I → List Key → Abs I → Type 0
IsOfKeys p facts keys z = (k : Key) × Contains keys k × (whole_of p facts k ≡ Some z)

-- all values that a device may have
abbrev pub IsOfDevice : {I : Type 0} → Domain I → Program → ℕ → Abs I → Type 0
IsOfDevice {I = I} d p n y = (device : Device) × (x : I) × (slice_get p.devices n ≡ Some device) × IsWhole d device.int p.target x × (y ≡ abs.Ints x)

module _ {I : Type 0} (d : Domain I) (p : Program) (id : ℕ) (f : Func) (register : ℕ → Option (Abs I)) where
  -- the keys of the program, in its order, that are the classes of a place: a structure and a register have none
  abbrev pub AreNamed : PlaceOf → List Key → Type 0
  AreNamed a keys = (classes : List Key) × AreClasses d p id f register a classes × (keys ≡ filter (is_among classes) (keys_of p))

  module _ (facts : Facts I) where
    -- the union of the whole-run sets of the keys that a place names
    pub record IsByKeys (a : PlaceOf) (y : Abs I) : Type 0 where
      pub type : ValueType
      pub kind : Abs I
      pub keys : List Key
      pub is_type : option_and_then read_from (place_type p f.locals a) ≡ Some type
      pub is_kind : IsOfKind type kind
      pub named : AreNamed a keys
      pub union : IsUnion d kind (IsOfKeys p facts keys) y

    -- a tracked cell has the point's set, a device all values of its type, and another place what its keys have in the whole run
    pub data IsRead (point : ℕ) (a : PlaceOf) (y : Abs I) : Type 0 where
      OfTracked : (cell : ℕ) → tracked_in p (out-Place a) ≡ Some cell → cell_at facts point cell ≡ Some y → IsRead point a y
      OfDevice : (n : ℕ) → device_number (out-Place a) ≡ Some n → IsOfDevice d p n y → IsRead point a y
      OfOther : tracked_in p (out-Place a) ≡ None → device_number (out-Place a) ≡ None → IsByKeys a y → IsRead point a y
