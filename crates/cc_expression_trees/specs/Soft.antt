-- Texts before which a type's name, a declaration or an expression may stand.
use Rattle.std.specs.Prelude.{◌≡◌, ℕ, Bool, false, ◌||◌, ◌==◌, List}
use Rattle.std.specs.Str.{byte}
use Rattle.cc_program.specs.CcWords.Names.{is_letter_or_digit}
use Rattle.cc_lex.specs.Bytes.{point, begins_with}

-- no name and no number goes on there, and no mark becomes another one with `=`
abbrev pub is_hard : ℕ → Bool
is_hard b = is_letter_or_digit b || (b == point || b == byte "=")

abbrev pub IsSoft : List ℕ → Type 0
IsSoft text = begins_with is_hard text ≡ false
