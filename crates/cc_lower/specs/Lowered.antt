-- The program that a program is lowered to.
use Rattle.std.specs.Prelude.{All}
use Rattle.cc_lower_continues.specs.Continues.{HasFewLocals}
use Rattle.cc_lower_normal.specs.Lowered.{lowered_but_for_names}
use Rattle.cc_lower_numbers.specs.Numbered.{numbered}
use Rattle.cc_program.specs.declared.program.Program.{Program}

-- Loops that are continued take flags, all loops become `while (1)`, expressions go into statements with one access each; and then
-- temporaries and devices are numbered, and temporaries named.
unfoldable pub lowered : Program → Program
lowered p = numbered (lowered_but_for_names p)

-- each local of the lowered program has an id of 32 bits
abbrev pub HasIds : Program → Type 0
HasIds p = All HasFewLocals (lowered_but_for_names p).funcs
