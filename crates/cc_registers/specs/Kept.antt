-- What is kept of the locals of a function: whether each is a register.
use Rattle.std.specs.Prelude.{◌≡◌, ℕ, Bool, false, List, Option, Some, None, slice_get}
use Rattle.cc_program.specs.declared.func.Func.{Func}
use Rattle.cc_typed.specs.CcSyntax.Registers.{is_register}

abbrev pub if_kept : Option Bool → Bool
if_kept None = false
if_kept (Some is) = is

abbrev pub AreKept : Func → List Bool → Type 0
AreKept f kept = (local : ℕ) → if_kept (slice_get kept local) ≡ is_register f local
