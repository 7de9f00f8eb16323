-- The numbers that the names of a program's text have in its translation unit, in order of first appearance: devices that have
-- names, functions, static objects, and the devices without names, which functions use first (C99 6.9).
use Rattle.std.specs.Prelude.{ℕ, ◌+◌, nat_lt, length, if◌then◌else◌}
use Rattle.cc_program.specs.declared.program.Program.{Program}
use Rattle.cc_shown_expressions.specs.OperationNumbers.{Numbers}
use Rattle.cc_type.specs.CcSyntax.Normal.{count_named}

module _ (p : Program) where
  abbrev pub first_function : ℕ
  first_function = count_named p.devices

  abbrev pub first_object : ℕ
  first_object = first_function + length p.funcs

  abbrev pub device_number : ℕ → ℕ
  device_number i = if nat_lt i (count_named p.devices) then i else length p.funcs + (length p.objects + i)

  -- beside numbers of structures
  abbrev pub numbers_with : (ℕ → ℕ) → Numbers
  numbers_with number = record { structure = number; object = λ i. first_object + i; device = device_number; func = λ i. first_function + i }
