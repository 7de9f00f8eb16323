-- Programs with other bodies spell the same events alike, and begin their runs with the same values.
use Rattle.std.proofs.Common.{◌≡◌, ◌∙◌, ◌∷◌, ℕ, List, [], Option, Some, None, option_map, slice_get, refl, ap}
use Rattle.cc_program.specs.declared.func.Func.{Func}
use Rattle.cc_program.specs.declared.program.Program.{Program}
use Rattle.cc_program.specs.declared.stmt.Stmt.{Stmt}
use Rattle.cc_program.specs.declared.value.Address.{Address}
use Rattle.cc_program.specs.declared.value.Address.TheVariants as address
use Rattle.cc_program.specs.declared.value.Cell.{Cell}
use Rattle.cc_program.specs.declared.value.Cell.TheVariants as cell
use Rattle.cc_program.specs.declared.value.Part.{Part}
use Rattle.cc_program.specs.declared.value.Part.TheVariants as part
use Rattle.cc_program.specs.declared.value.Root.{Root}
use Rattle.cc_program.specs.declared.value.Root.TheVariants as root
use Rattle.cc_program.specs.declared.value.Value.{Value}
use Rattle.cc_program.specs.declared.value.Value.TheVariants as value
use Rattle.cc_steps.specs.CcEval.Context.{object_type}
use Rattle.cc_steps.specs.declared.event.Event.{Event}
use Rattle.cc_steps.specs.declared.event.Event.TheVariants as event
use Rattle.cc_steps.specs.Rows.{Name, Into, Spelled, Static, Auto, ToFunction, ToObject, Row, Reads, Writes, Enters, step_in, steps, func_name, local_in, object_spelled, cell_spelled, address_spelled, value_spelled, row_of, rows_of}
use Rattle.cc_steps.specs.CcSyntax.Initial.{step_into}
use Rattle.cc_steps.specs.CcSyntax.Values.{PlaceType, DevicePlace, ObjectPlace, FunctionPlace}
use Rattle.cc_meaning_simulations.specs.Bodies.{with_bodies}
use Rattle.cc_meaning_simulations.proofs.OtherBodies.{func_same, object_same}

module _ (new : Func → List Stmt) (P : Program) where
  abbrev Q : Program
  Q = with_bodies new P

  name_same : (f : ℕ) → func_name Q f ≡ func_name P f
  name_same = func_same new P (λ f. option_map (λ f. f.name) f) (λ f. refl)

  step_same : (s : Part) (a : PlaceType) → step_in Q s a ≡ step_in P s a
  step_same (part.Member m) (ObjectPlace constant volatile t) = refl
  step_same (part.Member m) (DevicePlace constant t) = refl
  step_same (part.Member m) (FunctionPlace sig) = refl
  step_same (part.Index i) a = refl

  steps_same : (path : List Part) (a : Option PlaceType) → steps Q path a ≡ steps P path a
  steps_same [] a = refl
  steps_same (s ∷ path) None = refl
  steps_same (s ∷ path) (Some a) =
      ap (λ (x : Into). x ∷ steps Q path (step_into P.structures s a)) (step_same s a) ∙ ap (λ (l : List Into). step_in P s a ∷ l) (steps_same path (step_into P.structures s a))

  path_same : (path : List Part) (r : Root) → steps Q path (object_type Q r) ≡ steps P path (object_type P r)
  path_same path r = steps_same path (object_type Q r) ∙ ap (steps P path) (object_same new P r)

  spelled_same : (r : Root) (path : List Part) → object_spelled Q r path ≡ object_spelled P r path
  spelled_same (root.Static i) path = ap (Static (option_map (λ o. o.name) (slice_get P.objects i))) (path_same path (root.Static i))
  spelled_same (root.Auto number f local) path =
      ap (λ (n : Name). Auto n (func_name Q f) (steps Q path (object_type Q (root.Auto number f local)))) (func_same new P (local_in P local) (λ f. refl) f)
      ∙ ap (λ (n : Name). Auto (local_in P local (slice_get P.funcs f)) n (steps Q path (object_type Q (root.Auto number f local)))) (name_same f)
      ∙ ap (Auto (local_in P local (slice_get P.funcs f)) (func_name P f)) (path_same path (root.Auto number f local))

  cell_same : (c : Cell) → cell_spelled Q c ≡ cell_spelled P c
  cell_same (cell.Device d) = refl
  cell_same (cell.At object path) = spelled_same object path

  address_same : (a : Address) → address_spelled Q a ≡ address_spelled P a
  address_same address.Null = refl
  address_same (address.Func f) = ap ToFunction (name_same f)
  address_same (address.At object path index count) = ap (λ (s : Spelled). ToObject s index count) (spelled_same object path)

  value_same : (v : Value) → value_spelled Q v ≡ value_spelled P v
  value_same (value.Int n) = refl
  value_same (value.Place a) = address_same a

  pub row_same : (e : Event) → row_of Q e ≡ row_of P e
  row_same (event.Read c v) = ap (λ (s : Spelled). Reads s (value_spelled Q v)) (cell_same c) ∙ ap (Reads (cell_spelled P c)) (value_same v)
  row_same (event.Write c v) = ap (λ (s : Spelled). Writes s (value_spelled Q v)) (cell_same c) ∙ ap (Writes (cell_spelled P c)) (value_same v)
  row_same (event.Enter h) = ap Enters (name_same h)

  pub rows_same : (trace : List Event) → rows_of Q trace ≡ rows_of P trace
  rows_same [] = refl
  rows_same (e ∷ trace) = ap (λ (r : Row). r ∷ rows_of Q trace) (row_same e) ∙ ap (λ (l : List Row). row_of P e ∷ l) (rows_same trace)
