-- Types of values and places that a program has: what is pointed to may stand in it, or is void with no qualifiers.
use Rattle.std.specs.Prelude.{◌≡◌, Bool, true, false}
use Rattle.std.specs.Option.{is_some}
use Rattle.cc_program.specs.declared.program.Program.{Program}
use Rattle.cc_terms.specs.CcSyntax.Programs.{kind_in}
use Rattle.cc_terms.specs.CcSyntax.Values.{ValueType, NoValue, Integer, ToObject, ToFunction, PlaceType, DevicePlace, ObjectPlace, FunctionPlace, is_void}

abbrev pub is_device_place : PlaceType → Bool
is_device_place (DevicePlace c t) = true
is_device_place (ObjectPlace c v t) = false
is_device_place (FunctionPlace s) = false

module _ (p : Program) where
  abbrev pub FitsPlace : PlaceType → Type 0
  FitsPlace (DevicePlace c t) = Unit {0}
  FitsPlace (ObjectPlace c v t) = (is_void t ≡ false) × (is_some (kind_in p t) ≡ true)
  FitsPlace (FunctionPlace s) = Unit {0}

  abbrev pub FitsValue : ValueType → Type 0
  FitsValue NoValue = Unit {0}
  FitsValue (Integer t) = Unit {0}
  FitsValue (ToObject c v t) = (is_void t ≡ true → (c ≡ false) × (v ≡ false)) × (is_void t ≡ false → is_some (kind_in p t) ≡ true)
  FitsValue (ToFunction s) = Unit {0}
