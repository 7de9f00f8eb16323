-- Inputs: a number in each row.
use Rattle.std.specs.Prelude.{ℤ, [], ◌∷◌, Option, None}
use Rattle.cc_rows.specs.Numbers.{signed_in}
use Rattle.cc_rows.specs.Rows.{Row}
use Rattle.cc_run.specs.declared.inputs.InputLine.{InputLine}

-- the input that a row gives: its only field is a number of 64 bits, with a sign or without
abbrev pub input_in : Row → Option ℤ
input_in [] = None
input_in (field ∷ []) = signed_in field
input_in (field ∷ more ∷ rest) = None

-- the same, as it is kept
abbrev pub line_of : Row → InputLine
line_of row = record { input = input_in row }

abbrev pub input_of : InputLine → Option ℤ
input_of line = line.input
