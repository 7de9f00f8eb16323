-- Which locals of the functions of a program are registers, as the code has it.
use Rattle.std.specs.Prelude.{Bool, List}
use Rattle.std.specs.List.{AllZip}
use Rattle.cc_program.specs.declared.program.Program.{Program}
use Rattle.cc_state_points.specs.CcRegisters.Kept.{AreKept}

-- of each function, by its id
abbrev pub AreMarksOf : Program → List (List Bool) → Type 0
AreMarksOf p marks = AllZip AreKept p.funcs marks
