-- An event by other numbers has the same row, where it names no register.
use Rattle.std.proofs.Common.{◌≡◌, ◌∷◌, ℕ, false, List, [], map, Option, Some, None, option_map, slice_get, refl, ap}
use Rattle.cc_program.specs.declared.func.Func.{Func}
use Rattle.cc_program.specs.declared.object.Device.{Device as DeviceOf}
use Rattle.cc_program.specs.declared.program.Program.{Program}
use Rattle.cc_program.specs.declared.value.Address.{Address}
use Rattle.cc_program.specs.declared.value.Address.TheVariants as address
use Rattle.cc_program.specs.declared.value.Cell.{Cell}
use Rattle.cc_program.specs.declared.value.Cell.TheVariants as cell
use Rattle.cc_program.specs.declared.value.Part.{Part}
use Rattle.cc_program.specs.declared.value.Root.{Root}
use Rattle.cc_program.specs.declared.value.Root.TheVariants as root
use Rattle.cc_program.specs.declared.value.Value.{Value}
use Rattle.cc_program.specs.declared.value.Value.TheVariants.{Int, Place}
use Rattle.cc_states.specs.CcSteps.declared.event.Event.{Event}
use Rattle.cc_states.specs.CcSteps.declared.event.Event.TheVariants as event
use Rattle.cc_states.specs.CcSteps.Rows.{Spelled, Auto, ToObject, ToFunction, Reads, Writes, Enters, steps, func_name, local_in, object_spelled, device_spelled, cell_spelled, address_spelled, value_spelled, row_of, rows_of}
use Rattle.cc_states.specs.Typed.{is_register_in, IsInMemory}
use Rattle.cc_lower_numbers_follows.specs.Renaming.{Renaming, root_renamed, address_renamed, value_renamed, cell_renamed, event_renamed, AreFuncsRenamed, IsRenamed}
use Rattle.cc_lower_numbers_follows.specs.Shown.{IsCellShown, IsAddressShown, IsValueShown, IsShown, AreShown}
use Rattle.cc_lower_numbers_follows.proofs.Places.{Q, func_same, object_same}

module _ (r : Renaming) (devices : List DeviceOf) (funcs : List Func) (P : Program) (renamed : IsRenamed r devices funcs P) where
  abbrev New : Program
  New = Q r devices funcs P renamed

  func_named : (id : ℕ) → func_name New id ≡ func_name P id
  func_named id = func_same r devices funcs P renamed (option_map (λ (f : Func). f.name)) id (λ x y a. ap (λ (n : List ℕ). Some n) a.name)

  local_by : (id local : ℕ) (x y : Option Func) → AreFuncsRenamed (r.local id) r.device x y → is_register_in y local ≡ false → local_in New (r.local id local) x ≡ local_in P local y
  local_by id local None None a h = refl
  local_by id local (Some g) (Some f) a h = a.names local h
  local_by id local None (Some f) a h = absurd a
  local_by id local (Some g) None a h = absurd a

  object_row : (o : Root) (path : List Part) → IsInMemory P o → object_spelled New (root_renamed r o) path ≡ object_spelled P o path
  object_row (root.Static i) path h = refl
  object_row (root.Auto number func local) path h = λ i.
      Auto (local_by func local (slice_get funcs func) (slice_get P.funcs func) (renamed.funcs_there func) h i) (func_named func i) (steps P path (object_same r devices funcs P renamed (root.Auto number func local) i))

  cell_row : (c : Cell) → IsCellShown P c → cell_spelled New (cell_renamed r c) ≡ cell_spelled P c
  cell_row (cell.Device d) h = ap (device_spelled P) (renamed.devices_there d)
  cell_row (cell.At object path) h = object_row object path h

  address_row : (a : Address) → IsAddressShown P a → address_spelled New (address_renamed r a) ≡ address_spelled P a
  address_row address.Null h = refl
  address_row (address.Func f) h = ap ToFunction (func_named f)
  address_row (address.At object path index count) h = ap (λ (o : Spelled). ToObject o index count) (object_row object path h)

  value_row : (v : Value) → IsValueShown P v → value_spelled New (value_renamed r v) ≡ value_spelled P v
  value_row (Int n) h = refl
  value_row (Place a) h = address_row a h

  event_row : (e : Event) → IsShown P e → row_of New (event_renamed r e) ≡ row_of P e
  event_row (event.Read at v) h = λ i. Reads (cell_row at h.0 i) (value_row v h.1 i)
  event_row (event.Write at v) h = λ i. Writes (cell_row at h.0 i) (value_row v h.1 i)
  event_row (event.Enter f) h = ap Enters (func_named f)

  pub rows_same : (trace : List Event) → AreShown P trace → rows_of New (map (event_renamed r) trace) ≡ rows_of P trace
  rows_same [] h = refl
  rows_same (e ∷ trace) h = λ i. event_row e h.0 i ∷ rows_same trace h.1 i
