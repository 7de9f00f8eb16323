-- The steps that a pure expression asks for, what answers them where registers hold values of their sets, and what it gives then.
use Rattle.std.specs.Prelude.{◌≡◌, ℕ, ℤ, Bool, true, false, is_some, [], List, Option, Some, None, option_and_then}
use Rattle.cc_state_values.specs.CcEval.declared.action.Action.{Action}
use Rattle.cc_state_values.specs.CcEval.declared.action.Action.TheVariants as action
use Rattle.cc_state_values.specs.CcEval.declared.action.Manner.{Manner}
use Rattle.cc_state_values.specs.CcEval.declared.mark.Mark.{Mark}
use Rattle.cc_state_values.specs.CcEval.declared.mark.Mark.TheVariants.{Chose}
use Rattle.cc_state_values.specs.CcEval.declared.spots.Spot.{Spot}
use Rattle.cc_state_values.specs.CcEval.declared.spots.Spot.TheVariants as spot
use Rattle.cc_state_values.specs.CcEval.Context.{Context, object_type, has_elements, address_at}
use Rattle.cc_state_values.specs.CcEval.Progress.{given}
use Rattle.cc_state_values.specs.CcPlaces.declared.abs.Abs.{Abs}
use Rattle.cc_state_values.specs.CcPlaces.declared.addrs.Addrs.{Addrs}
use Rattle.cc_state_values.specs.CcPlaces.Abstract.{HasValue}
use Rattle.cc_state_values.specs.CcPlaces.Sets.{HasAddress}
use Rattle.cc_program.specs.declared.program.Program.{Program}
use Rattle.cc_program.specs.declared.value.Address.{Address}
use Rattle.cc_program.specs.declared.value.Address.TheVariants as address
use Rattle.cc_program.specs.declared.value.Cell.{Cell}
use Rattle.cc_program.specs.declared.value.Cell.TheVariants as cell
use Rattle.cc_program.specs.declared.value.Part.{Part}
use Rattle.cc_program.specs.declared.value.Root.{Root}
use Rattle.cc_program.specs.declared.value.Root.TheVariants as root
use Rattle.cc_program.specs.declared.value.Value.{Value}
use Rattle.cc_state_values.specs.CcSyntax.Initial.{place_at}
use Rattle.cc_state_values.specs.CcSyntax.Registers.{is_register}
use Rattle.cc_state_values.specs.CcSyntax.Values.{PlaceType}

-- a value of a set, or a bad one, which stands for none
abbrev pub MayGive : {I : Type 0} → (I → ℤ → Type 0) → Abs I → Option Value → Type 0
MayGive has x None = Unit {0}
MayGive has x (Some v) = HasValue has x v

-- a register of the activation
abbrev pub own_cell : Context → ℕ → Cell
own_cell c r = cell.At (root.Auto c.number c.id r) []

-- the steps that are asked for: reads of registers, and branch steps
pub data IsOwnStep (c : Context) (asked : Action) : Type 0 where
  Reads : (r : ℕ) (manner : Manner) → is_register c.func r ≡ true → asked ≡ action.Read (own_cell c r) manner → IsOwnStep c asked
  Branches : (b : Option Bool) → asked ≡ action.Choose b → IsOwnStep c asked

-- a register gives a value of its set, or a bad one, and a branch goes as it was asked
pub record IsAnswer {I : Type 0} (has : I → ℤ → Type 0) (c : Context) (register : ℕ → Option (Abs I)) (asked : Action) (m : Mark) : Type 0 where
  pub reads : (r : ℕ) (manner : Manner) (x : Abs I) → asked ≡ action.Read (own_cell c r) manner → register r ≡ Some x → MayGive has x (given m)
  pub branches : (b : Option Bool) → asked ≡ action.Choose b → m ≡ Chose b

-- where a place leads is one of these addresses
abbrev pub LeadsInto : Addrs → Option Spot → Type 0
LeadsInto s None = Unit {0}
LeadsInto s (Some there) = (a : Address) → address_at there ≡ Some a → HasAddress s a

-- the path of an address leads to something
abbrev pub leads_anywhere : Program → Root → List Part → Bool
leads_anywhere p object path = is_some (option_and_then (place_at p.structures path) (object_type p object))

abbrev pub IsReal : Program → Address → Type 0
IsReal p address.Null = Unit {0}
IsReal p (address.Func f) = Unit {0}
IsReal p (address.At object path index count) = leads_anywhere p object path ≡ true

-- a place of a type leads to something, which is no array with elements of its own type
abbrev pub IsFit : Program → PlaceType → Spot → Type 0
IsFit p t (spot.Device d) = Unit {0}
IsFit p t (spot.Object object path) = (leads_anywhere p object path ≡ true) × (has_elements p t object path ≡ false)
IsFit p t (spot.Address a) = IsReal p a

abbrev pub MayFit : Program → Option PlaceType → Option Spot → Type 0
MayFit p t None = Unit {0}
MayFit p None (Some there) = Unit {0}
MayFit p (Some t) (Some there) = IsFit p t there
