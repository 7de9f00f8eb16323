-- Events that name no register: neither the cell that is read or written, nor what a pointer points to that is.
use Rattle.std.specs.Prelude.{ℤ, List, [], ◌∷◌}
use Rattle.cc_program.specs.declared.program.Program.{Program}
use Rattle.cc_program.specs.declared.value.Address.{Address}
use Rattle.cc_program.specs.declared.value.Address.TheVariants as address
use Rattle.cc_program.specs.declared.value.Cell.{Cell}
use Rattle.cc_program.specs.declared.value.Cell.TheVariants as cell
use Rattle.cc_program.specs.declared.value.Value.{Value}
use Rattle.cc_program.specs.declared.value.Value.TheVariants.{Int, Place}
use Rattle.cc_states.specs.CcSteps.declared.event.Event.{Event}
use Rattle.cc_states.specs.CcSteps.declared.event.Event.TheVariants as event
use Rattle.cc_states.specs.CcSteps.Runs.{Arrivals, run}
use Rattle.cc_states.specs.CcSteps.Turn.{start}
use Rattle.cc_states.specs.Typed.{IsInMemory}

module _ (p : Program) where
  abbrev pub IsCellShown : Cell → Type 0
  IsCellShown (cell.Device d) = Unit {0}
  IsCellShown (cell.At object path) = IsInMemory p object

  abbrev pub IsAddressShown : Address → Type 0
  IsAddressShown address.Null = Unit {0}
  IsAddressShown (address.Func f) = Unit {0}
  IsAddressShown (address.At object path index count) = IsInMemory p object

  abbrev pub IsValueShown : Value → Type 0
  IsValueShown (Int n) = Unit {0}
  IsValueShown (Place a) = IsAddressShown a

  abbrev pub IsShown : Event → Type 0
  IsShown (event.Read at v) = IsCellShown at × IsValueShown v
  IsShown (event.Write at v) = IsCellShown at × IsValueShown v
  IsShown (event.Enter h) = Unit {0}

  abbrev pub AreShown : List Event → Type 0
  AreShown [] = Unit {0}
  AreShown (e ∷ trace) = IsShown e × AreShown trace

  -- no event of a run names a register
  abbrev pub ShowsNoRegister : Type 0
  ShowsNoRegister = (inputs : List ℤ) (arrivals : Arrivals) → AreShown (run p (start p inputs) arrivals).memory.trace
