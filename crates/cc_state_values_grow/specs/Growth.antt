-- Sets of registers, and greater ones; and that places have addresses that lead somewhere.
use Rattle.std.specs.Prelude.{◌≡◌, ℕ, true, Option, Some, slice_get}
use Rattle.std.specs.List.{Contains}
use Rattle.cc_state_values_sound.specs.CcPlaces.Abstract.{IsBelowAbs}
use Rattle.cc_state_values_sound.specs.CcPlaces.declared.abs.Abs.{Abs}
use Rattle.cc_state_values_sound.specs.CcPlaces.declared.abs.Abs.TheVariants as abs
use Rattle.cc_state_values_sound.specs.CcPlaces.declared.addrs.Addrs.{Addrs}
use Rattle.cc_program.specs.declared.expr.Place.{Place}
use Rattle.cc_program.specs.declared.func.Func.{Func}
use Rattle.cc_program.specs.declared.program.Program.{Program}
use Rattle.cc_program.specs.declared.value.Address.{Address}
use Rattle.cc_program.specs.declared.value.Address.TheVariants as address
use Rattle.cc_state_values_sound.specs.CcStateOperators.Domains.{Domain}
use Rattle.cc_state_values_sound.specs.CcStateValues.Values.{Designates}
use Rattle.cc_state_values_sound.specs.Steps.{IsReal}
use Rattle.cc_state_values_sound.specs.CcStates.Typed.{place_in}
use Rattle.cc_state_values_sound.specs.CcSyntax.Initial.{names}
use Rattle.cc_state_values_sound.specs.CcSyntax.Programs.{place_type}
use Rattle.cc_state_values_sound.specs.CcSyntax.Types.{Named}
use Rattle.cc_state_values_sound.specs.CcSyntax.Values.{ValueType, PlaceType, scalar_value}

-- the set of each register is below that which it has among others
abbrev pub AreRegistersBelow : {I : Type 0} → (I → I → Type 0) → (ℕ → Option (Abs I)) → (ℕ → Option (Abs I)) → Type 0
AreRegistersBelow {I = I} below register more = (r : ℕ) (x y : Abs I) → register r ≡ Some x → more r ≡ Some y → IsBelowAbs below x y

-- each place of a type has addresses of which the paths lead to something
abbrev pub LeadSomewhere : {I : Type 0} → Domain I → Program → ℕ → Func → (ℕ → Option (Abs I)) → Type 0
LeadSomewhere d p id f register = (a : Place) (t : PlaceType) (s : Addrs) → place_type p f.locals a ≡ Some t → Designates d p id f register a s → (b : Address) → Contains s.members b → IsReal p b

-- an address that a pointer of a type may have: null, a function, or one of a place of which the pointer names an element, or the whole
abbrev pub MayPoint : Program → ValueType → Address → Type 0
MayPoint p to address.Null = Unit {0}
MayPoint p to (address.Func f) = Unit {0}
MayPoint p to (address.At object path index count) = names to path index count (place_in p object path) ≡ true

-- registers that are pointers have addresses of their types
abbrev pub RegistersPoint : {I : Type 0} → Program → Func → (ℕ → Option (Abs I)) → Type 0
RegistersPoint p f register = (r : ℕ) (local : Named) (to : ValueType) (s : Addrs) → slice_get f.locals r ≡ Some local → scalar_value local.1 ≡ Some to → register r ≡ Some (abs.Addrs s) →
    (a : Address) → Contains s.members a → MayPoint p to a
