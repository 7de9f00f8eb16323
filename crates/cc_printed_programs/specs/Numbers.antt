-- The numbers of names in the typed unit that a program's text is: structures have the numbers that they have in the program.
use Rattle.cc_program.specs.declared.program.Program.{Program}
use Rattle.cc_shown_declarations.specs.UnitNumbers.{numbers_with}
use Rattle.cc_shown_expressions.specs.OperationNumbers.{Numbers}

abbrev pub unit_numbers : Program → Numbers
unit_numbers p = numbers_with p (λ i. i)

-- each by its own number
abbrev pub own_numbers : Numbers
own_numbers = record { structure = λ i. i; object = λ i. i; device = λ i. i; func = λ i. i }
