-- What is kept of the first locals of a function: whether each is a register.
use Rattle.std.specs.Prelude.{◌≡◌, ℕ, Bool, List, Some, slice_get}
use Rattle.cc_program.specs.declared.func.Func.{Func}
use Rattle.cc_syntax.specs.Registers.{is_register}

abbrev pub AreKept : Func → List Bool → Type 0
AreKept f kept = (local : ℕ) → (is : Bool) → slice_get kept local ≡ Some is → is ≡ is_register f local
