-- Events by other numbers of static objects have the same rows.
use Rattle.std.proofs.Common.{◌≡◌, ◌∙◌, ◌∷◌, ℕ, List, [], map, Option, Some, None, option_map, slice_get, refl, ap}
use Rattle.std.proofs.lemmas.Option.{slice_get-map}
use Rattle.cc_program.specs.declared.func.Func.{Func}
use Rattle.cc_program.specs.declared.object.Object.{Object}
use Rattle.cc_program.specs.declared.program.Program.{Program}
use Rattle.cc_program.specs.declared.value.Address.{Address}
use Rattle.cc_program.specs.declared.value.Address.TheVariants as address
use Rattle.cc_program.specs.declared.value.Cell.{Cell}
use Rattle.cc_program.specs.declared.value.Cell.TheVariants as cell
use Rattle.cc_program.specs.declared.value.Part.{Part}
use Rattle.cc_program.specs.declared.value.Root.{Root}
use Rattle.cc_program.specs.declared.value.Root.TheVariants as root
use Rattle.cc_program.specs.declared.value.Value.{Value}
use Rattle.cc_program.specs.declared.value.Value.TheVariants.{Int, Place}
use Rattle.cc_states.specs.CcSteps.declared.event.Event.{Event}
use Rattle.cc_states.specs.CcSteps.declared.event.Event.TheVariants as event
use Rattle.cc_states.specs.CcSteps.Rows.{Spelled, Static, Auto, ToObject, ToFunction, Reads, Writes, Enters, steps, func_name, local_in, object_spelled, cell_spelled, address_spelled, value_spelled, row_of, rows_of}
use Rattle.cc_rewrite_renamed.specs.Objects.{root_renamed, address_renamed, object_renamed, func_renamed}
use Rattle.cc_rewrite_renamed.specs.Renaming.{value_renamed, cell_renamed, AreRenamed}
use Rattle.cc_rewrite_renamed.proofs.Places.{Q, func_same, object_same}

module _ (r : ℕ → ℕ) where
  abbrev pub event_renamed : Event → Event
  event_renamed (event.Read at v) = event.Read (cell_renamed r at) (value_renamed r v)
  event_renamed (event.Write at v) = event.Write (cell_renamed r at) (value_renamed r v)
  event_renamed (event.Enter h) = event.Enter h

module _ (r : ℕ → ℕ) (objects : List Object) (P : Program) (renamed : AreRenamed r objects P)
    (there : (i : ℕ) → slice_get objects (r i) ≡ option_map (object_renamed r) (slice_get P.objects i)) where
  abbrev New : Program
  New = Q r objects P renamed

  func_named : (id : ℕ) → func_name New id ≡ func_name P id
  func_named id = func_same r objects P renamed (option_map (λ (f : Func). f.name)) (λ f. refl) id

  local_by : (local : ℕ) (f : Option Func) → local_in New local (option_map (func_renamed r) f) ≡ local_in P local f
  local_by local None = refl
  local_by local (Some f) = refl

  local_named : (id local : ℕ) → local_in New local (slice_get New.funcs id) ≡ local_in P local (slice_get P.funcs id)
  local_named id local = ap (local_in New local) (slice_get-map (func_renamed r) P.funcs id) ∙ local_by local (slice_get P.funcs id)

  object_by : (o : Option Object) → option_map (λ (o : Object). o.name) (option_map (object_renamed r) o) ≡ option_map (λ (o : Object). o.name) o
  object_by None = refl
  object_by (Some o) = refl

  object_named : (i : ℕ) → option_map (λ (o : Object). o.name) (slice_get objects (r i)) ≡ option_map (λ (o : Object). o.name) (slice_get P.objects i)
  object_named i = ap (option_map (λ (o : Object). o.name)) (there i) ∙ object_by (slice_get P.objects i)

  object_row : (o : Root) (path : List Part) → object_spelled New (root_renamed r o) path ≡ object_spelled P o path
  object_row (root.Static i) path = λ j. Static (object_named i j) (steps P path (object_same r objects P renamed (root.Static i) j))
  object_row (root.Auto number func local) path = λ j. Auto (local_named func local j) (func_named func j) (steps P path (object_same r objects P renamed (root.Auto number func local) j))

  cell_row : (c : Cell) → cell_spelled New (cell_renamed r c) ≡ cell_spelled P c
  cell_row (cell.Device d) = refl
  cell_row (cell.At object path) = object_row object path

  address_row : (a : Address) → address_spelled New (address_renamed r a) ≡ address_spelled P a
  address_row address.Null = refl
  address_row (address.Func f) = ap ToFunction (func_named f)
  address_row (address.At object path index count) = ap (λ (o : Spelled). ToObject o index count) (object_row object path)

  value_row : (v : Value) → value_spelled New (value_renamed r v) ≡ value_spelled P v
  value_row (Int n) = refl
  value_row (Place a) = address_row a

  event_row : (e : Event) → row_of New (event_renamed r e) ≡ row_of P e
  event_row (event.Read at v) = λ i. Reads (cell_row at i) (value_row v i)
  event_row (event.Write at v) = λ i. Writes (cell_row at i) (value_row v i)
  event_row (event.Enter f) = ap Enters (func_named f)

  pub rows_same : (trace : List Event) → rows_of New (map (event_renamed r) trace) ≡ rows_of P trace
  rows_same [] = refl
  rows_same (e ∷ trace) = λ i. event_row e i ∷ rows_same trace i
