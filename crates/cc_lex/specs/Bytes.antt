-- What a byte is (C99 5.2.1, 6.4). Letters and digits stand in cc_words, with the names that they make.
use Rattle.std.specs.Prelude.{ℕ, Bool, false, ◌||◌, ◌==◌, not, List, [], ◌∷◌}
use Rattle.std.specs.Str.{byte}
use Rattle.cc_words.specs.Names.{is_between}

-- the bytes that the grammar names (C99 5.2.1)
abbrev pub line_feed : ℕ
line_feed = 10

abbrev pub tab : ℕ
tab = 9

abbrev pub quotation : ℕ
quotation = byte "\""

abbrev pub hash : ℕ
hash = byte "#"

abbrev pub apostrophe : ℕ
apostrophe = byte "'"

abbrev pub star : ℕ
star = byte "*"

abbrev pub point : ℕ
point = byte "."

abbrev pub slash : ℕ
slash = byte "/"

abbrev pub numeral_zero : ℕ
numeral_zero = byte "0"

abbrev pub backslash : ℕ
backslash = byte "\\"

-- space and tab
abbrev pub is_blank : ℕ → Bool
is_blank b = b == byte " " || b == tab

-- vertical tab, form feed, carriage return
abbrev pub is_other_space : ℕ → Bool
is_other_space b = is_between 11 13 b

-- lines end at a line feed alone
abbrev pub is_in_line : ℕ → Bool
is_in_line b = not (b == line_feed)

-- whether the first byte passes
abbrev pub begins_with : (ℕ → Bool) → List ℕ → Bool
begins_with p [] = false
begins_with p (b ∷ bs) = p b
