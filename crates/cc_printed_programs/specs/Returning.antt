-- Names of a program by the numbers of a unit, and back; and what may be said of the numbers of which a program speaks.
use Rattle.std.specs.Prelude.{◌≡◌, ℕ, false, Some, slice_get}
use Rattle.cc_program.specs.declared.expr.Place.{Device as DeviceAt}
use Rattle.cc_program.specs.declared.func.Func.{Func}
use Rattle.cc_program.specs.declared.object.Device.{Device}
use Rattle.cc_program.specs.declared.object.Object.{Object}
use Rattle.cc_program.specs.declared.program.Program.{Program}
use Rattle.cc_program.specs.declared.types.Structure.{Structure}
use Rattle.cc_shown_expressions.specs.OperationNumbers.{Numbers}
use Rattle.cc_type.specs.CcSyntax.Operators.{is_handler}
use Rattle.cc_type.specs.CcUnit.Renumbered.{structure_by, object_by, device_by, func_by}
use Rattle.cc_type.specs.CcUnit.declared.ids.Ids.{Ids}

module _ (p : Program) where
  -- from numbers, by ids, to other numbers
  pub record Returns (ids : Ids) (n m : Numbers) : Type 0 where
    pub structures : (i : ℕ) (s : Structure) → slice_get p.structures i ≡ Some s → structure_by (slice_get ids.structures (n.structure i)) ≡ m.structure i
    pub objects : (i : ℕ) (o : Object) → slice_get p.objects i ≡ Some o → object_by (slice_get ids.names (n.object i)) ≡ m.object i
    pub devices : (i : ℕ) (d : Device) → slice_get p.devices i ≡ Some d → device_by (slice_get ids.names (n.device i)) ≡ DeviceAt (m.device i)
    pub funcs : (i : ℕ) (f : Func) → slice_get p.funcs i ≡ Some f → func_by (slice_get ids.names (n.func i)) ≡ m.func i

  -- it holds of the number of each object, device and function that is no handler
  pub record HoldsOfNames (n : Numbers) (holds : ℕ → Type 0) : Type 0 where
    pub objects : (i : ℕ) (o : Object) → slice_get p.objects i ≡ Some o → holds (n.object i)
    pub devices : (i : ℕ) (d : Device) → slice_get p.devices i ≡ Some d → holds (n.device i)
    pub funcs : (i : ℕ) (f : Func) → slice_get p.funcs i ≡ Some f → is_handler f ≡ false → holds (n.func i)
