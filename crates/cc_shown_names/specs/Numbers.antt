-- The numbers that a translation unit gives to what a program's text declares while it is read: structures in order of first
-- appearance.
use Rattle.cc_program.specs.declared.program.Program.{Program}
use Rattle.cc_shown_declarations.specs.Order.{structure_number}
use Rattle.cc_shown_declarations.specs.UnitNumbers.{numbers_with}
use Rattle.cc_shown_expressions.specs.OperationNumbers.{Numbers}

abbrev pub read_numbers : Program → Numbers
read_numbers p = numbers_with p (structure_number p)
