-- A program whose `do`s have flags, with lowered statements and then lowered expressions: all of lowering but names and numbers.
use Rattle.cc_lower_continues.specs.Continues.{flagged_program}
use Rattle.cc_lower_expressions.specs.Programs.{lower_expressions_program}
use Rattle.cc_lower_statements.specs.Statements.{lower_program}
use Rattle.cc_program.specs.declared.program.Program.{Program}

abbrev pub lowered_but_for_names : Program → Program
lowered_but_for_names p = lower_expressions_program (lower_program (flagged_program p))
