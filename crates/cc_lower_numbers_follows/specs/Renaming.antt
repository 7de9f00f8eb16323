-- Programs whose locals and devices have other numbers, and what they make of values, cells and events.
use Rattle.std.specs.Prelude.{◌≡◌, ◌<◌, ℕ, false, List, map, Option, Some, None, option_map, slice_get}
use Rattle.cc_states.specs.CcEval.declared.action.Action.{Action}
use Rattle.cc_states.specs.CcEval.declared.action.Action.TheVariants.{Read, Write, Choose, Call, Flag, Save}
use Rattle.cc_states.specs.CcEval.declared.mark.Mark.{Mark}
use Rattle.cc_states.specs.CcEval.declared.mark.Mark.TheVariants.{Gave, Did, Chose}
use Rattle.cc_states.specs.CcEval.declared.spots.Spot.{Spot}
use Rattle.cc_states.specs.CcEval.declared.spots.Spot.TheVariants as spot
use Rattle.cc_lower_numbers.specs.Renamed.{stmt_renamed}
use Rattle.cc_program.specs.declared.func.Func.{Func}
use Rattle.cc_program.specs.declared.object.Device.{Device}
use Rattle.cc_program.specs.declared.program.Program.{Program}
use Rattle.cc_program.specs.declared.value.Address.{Address}
use Rattle.cc_program.specs.declared.value.Address.TheVariants as address
use Rattle.cc_program.specs.declared.value.Cell.{Cell}
use Rattle.cc_program.specs.declared.value.Cell.TheVariants as cell
use Rattle.cc_program.specs.declared.value.Root.{Root}
use Rattle.cc_program.specs.declared.value.Root.TheVariants as root
use Rattle.cc_program.specs.declared.value.Value.{Value}
use Rattle.cc_program.specs.declared.value.Value.TheVariants as value
use Rattle.cc_states.specs.CcSteps.declared.event.Event.{Event}
use Rattle.cc_states.specs.CcSteps.declared.event.Event.TheVariants as event
use Rattle.cc_states.specs.CcSyntax.Registers.{is_register}

-- the new number of a local of a function, and of a device
pub record Renaming : Type 0 where
  pub local : ℕ → ℕ → ℕ
  pub device : ℕ → ℕ

module _ (r : Renaming) where
  abbrev pub root_renamed : Root → Root
  root_renamed (root.Static i) = root.Static i
  root_renamed (root.Auto number func local) = root.Auto number func (r.local func local)

  abbrev pub address_renamed : Address → Address
  address_renamed address.Null = address.Null
  address_renamed (address.Func f) = address.Func f
  address_renamed (address.At object path index count) = address.At (root_renamed object) path index count

  abbrev pub value_renamed : Value → Value
  value_renamed (value.Int n) = value.Int n
  value_renamed (value.Place a) = value.Place (address_renamed a)

  abbrev pub cell_renamed : Cell → Cell
  cell_renamed (cell.Device d) = cell.Device (r.device d)
  cell_renamed (cell.At object path) = cell.At (root_renamed object) path

  abbrev pub spot_renamed : Spot → Spot
  spot_renamed (spot.Device d) = spot.Device (r.device d)
  spot_renamed (spot.Object object path) = spot.Object (root_renamed object) path
  spot_renamed (spot.Address a) = spot.Address (address_renamed a)

  abbrev pub action_renamed : Action → Action
  action_renamed (Read at manner) = Read (cell_renamed at) manner
  action_renamed (Write at is_event v) = Write (cell_renamed at) is_event (value_renamed v)
  action_renamed (Choose b) = Choose b
  action_renamed (Call callee args) = Call (address_renamed callee) (map value_renamed args)
  action_renamed (Flag on) = Flag on
  action_renamed Save = Save

  abbrev pub mark_renamed : Mark → Mark
  mark_renamed (Gave v) = Gave (option_map value_renamed v)
  mark_renamed Did = Did
  mark_renamed (Chose b) = Chose b

  abbrev pub event_renamed : Event → Event
  event_renamed (event.Read at v) = event.Read (cell_renamed at) (value_renamed v)
  event_renamed (event.Write at v) = event.Write (cell_renamed at) (value_renamed v)
  event_renamed (event.Enter h) = event.Enter h

-- the same function, by other numbers: each local has its type, parameters have their numbers, and no two locals have one number
pub record IsFuncRenamed (local device : ℕ → ℕ) (g f : Func) : Type 0 where
  pub name : g.name ≡ f.name
  pub sig : g.sig ≡ f.sig
  pub entry : g.entry ≡ f.entry
  pub params : g.params ≡ f.params
  pub body : g.body ≡ map (stmt_renamed local device) f.body
  pub types : (i : ℕ) → option_map (λ l. l.1) (slice_get g.locals (local i)) ≡ option_map (λ l. l.1) (slice_get f.locals i)
  -- locals that are no registers have their names
  pub names : (i : ℕ) → is_register f i ≡ false → option_map (λ l. l.0) (slice_get g.locals (local i)) ≡ option_map (λ l. l.0) (slice_get f.locals i)
  pub first : (i : ℕ) → i < f.params → local i ≡ i

abbrev pub AreFuncsRenamed : (ℕ → ℕ) → (ℕ → ℕ) → Option Func → Option Func → Type 0
AreFuncsRenamed local device None None = Unit {0}
AreFuncsRenamed local device (Some g) (Some f) = IsFuncRenamed local device g f
AreFuncsRenamed local device None (Some f) = ⊥
AreFuncsRenamed local device (Some g) None = ⊥

-- a program with these devices and functions in place of its own
abbrev pub with_parts : List Device → List Func → Program → Program
with_parts devices funcs p =
    record { target = p.target; roles = p.roles; structures = p.structures; devices = devices; objects = p.objects; funcs = funcs; main = p.main }

-- what it is by other numbers
pub record IsRenamed (r : Renaming) (devices : List Device) (funcs : List Func) (p : Program) : Type 0 where
  pub devices_there : (d : ℕ) → slice_get devices (r.device d) ≡ slice_get p.devices d
  pub funcs_there : (id : ℕ) → AreFuncsRenamed (r.local id) r.device (slice_get funcs id) (slice_get p.funcs id)
  pub apart : (id i j : ℕ) → r.local id i ≡ r.local id j → i ≡ j
