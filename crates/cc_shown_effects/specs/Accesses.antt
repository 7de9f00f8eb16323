-- What is known where a statement accesses a place: a device without a name is known there by its number, or is declared by
-- this use, behind all that is (C99 6.7.8).
use Rattle.std.specs.Prelude.{◌≡◌, ℕ, true, Some, None, length, slice_get}
use Rattle.std.specs.Option.{is_some}
use Rattle.cc_typed_bodies.specs.CcTypedTerms.Devices.{declared_device, number_of}
use Rattle.cc_program.specs.declared.expr.Place.{Place, out-Place}
use Rattle.cc_program.specs.declared.expr.Expr.TheOpen as one
use Rattle.cc_program.specs.declared.object.Device.{Device}
use Rattle.cc_program.specs.declared.program.Program.{Program}
use Rattle.cc_typed_bodies.specs.CcScopes.State.{State, with_declared}
use Rattle.cc_shown_expressions.specs.OperationNumbers.{Numbers}

module _ (p : Program) (n : Numbers) (s : State) where
  -- from what is known in front of the access to what is known behind it
  pub data Accesses (a : Place) : State → Type 0 where
    NoneNumbered : ((i : ℕ) (d : Device) → out-Place a ≡ one.Device i → slice_get p.devices i ≡ Some d → is_some d.name ≡ true) → Accesses a s
    Known : (i : ℕ) (d : Device) → out-Place a ≡ one.Device i → slice_get p.devices i ≡ Some d → d.name ≡ None → number_of d s.names ≡ Some (n.device i) → Accesses a s
    First : (i : ℕ) (d : Device) → out-Place a ≡ one.Device i → slice_get p.devices i ≡ Some d → d.name ≡ None → number_of d s.names ≡ None → n.device i ≡ length s.names → Accesses a (with_declared (declared_device d) s)
