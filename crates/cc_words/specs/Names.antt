-- Identifiers (C99 6.4.2.1), and which of them may name something in a program: those that are no
-- keyword, in no spelling, and no word that is outside the subset.
use Rattle.std.specs.Prelude.{ℕ, Bool, true, false, not, ◌&&◌, ◌||◌, nat_le, ◌==◌, List, [], ◌∷◌}
use Rattle.std.specs.List.{list_all, list_any}
use Rattle.std.specs.Option.{is_none}
use Rattle.std.specs.Str.{byte, bytes_eq}
use Rattle.cc_words.specs.Words.{word_of, is_outside}

-- ---- bytes

abbrev pub is_between : ℕ → ℕ → ℕ → Bool
is_between low high b = nat_le low b && nat_le b high

abbrev pub is_digit : ℕ → Bool
is_digit b = is_between (byte "0") (byte "9") b

-- a letter or `_`
abbrev pub is_letter : ℕ → Bool
is_letter b = is_between (byte "a") (byte "z") b || is_between (byte "A") (byte "Z") b || b == byte "_"

-- what an identifier goes on with
abbrev pub is_letter_or_digit : ℕ → Bool
is_letter_or_digit b = is_letter b || is_digit b

-- ---- words

-- letters, digits and `_`, not starting with a digit
abbrev pub is_identifier : List ℕ → Bool
is_identifier [] = false
is_identifier (b ∷ bs) = is_letter b && list_all is_letter_or_digit bs

-- what may name something
unfoldable pub is_name : List ℕ → Bool
is_name w = is_identifier w && is_none (word_of w) && not (is_outside w)

-- no two of them are the same
abbrev pub are_distinct : List (List ℕ) → Bool
are_distinct [] = true
are_distinct (x ∷ xs) = not (list_any (bytes_eq x) xs) && are_distinct xs
