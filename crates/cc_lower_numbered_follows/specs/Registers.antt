-- Programs whose temporaries are registers: no event tells the name of one.
use Rattle.std.specs.Prelude.{◌≡◌, ◌<◌, ◌≤◌, ℕ, true, All, length}
use Rattle.cc_lower_numbers.specs.Temporaries.{kept_count}
use Rattle.cc_program.specs.declared.func.Func.{Func}
use Rattle.cc_program.specs.declared.program.Program.{Program}
use Rattle.cc_states.specs.CcSyntax.Registers.{is_register}

abbrev pub HasRegisterTemporaries : Func → Type 0
HasRegisterTemporaries f = (i : ℕ) → kept_count f ≤ i → i < length f.locals → is_register f i ≡ true

abbrev pub AreTemporariesRegisters : Program → Type 0
AreTemporariesRegisters p = All HasRegisterTemporaries p.funcs
