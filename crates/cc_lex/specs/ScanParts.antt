-- The scanner's parts as functions on lists, a twin of the code: preprocessing numbers, integer
-- constants, elements of literals and lines that are skipped. Not their meaning, which stands in Numbers, Literals and
-- Separators.
use Rattle.std.specs.Prelude.{ℕ, ◌+◌, ◌*◌, Bool, true, false, ◌&&◌, ◌||◌, not, nat_lt, ◌==◌, if◌then◌else◌, List, [], ◌∷◌, take, drop, fold, min, Option, Some, None, codes}
use Rattle.std.specs.List.{list_all, prefix_len}
use Rattle.std.specs.Str.{byte, bytes_eq}
use Rattle.cc_lex.specs.declared.token.Suffix.{Suffix}
use Rattle.cc_words.specs.Names.{is_digit, is_letter_or_digit}
use Rattle.cc_lex.specs.Bytes.{line_feed, quotation, apostrophe, point, backslash, is_blank, begins_with}
use Rattle.cc_lex.specs.Numbers.{digit_value, is_digit_in, is_x, is_b, greatest, is_sign}

-- ---- preprocessing numbers

abbrev pub is_exponent : ℕ → Bool
is_exponent b = b == byte "e" || b == byte "E" || b == byte "p" || b == byte "P"

-- a number goes on with letters, digits, `_`, `.`, and a sign right after e, E, p or P
abbrev pub goes_on : ℕ → ℕ → Bool
goes_on before b = is_letter_or_digit b || b == point || (is_sign b && is_exponent before)

abbrev pub begins_with_digit : List ℕ → Bool
begins_with_digit [] = false
begins_with_digit (b ∷ bs) = is_digit b

-- a point and a digit: with a digit, what starts a number
abbrev pub begins_fraction : List ℕ → Bool
begins_fraction [] = false
begins_fraction (b ∷ bs) = b == point && begins_with_digit bs

-- ---- integer constants

-- the value of digits
unfoldable pub value_of : ℕ → List ℕ → ℕ
value_of base digits = fold (λ v b. v * base + digit_value b) 0 digits

-- the base of a run, and how many bytes of it come before the digits: 0x, 0b, 0, or no prefix
abbrev pub base_of : List ℕ → ℕ × ℕ
base_of [] = (10, 0)
base_of (a ∷ []) = if a == 48 then (8, 0) else (10, 0)
base_of (a ∷ b ∷ rest) =
    if a == 48 then (if is_x b then (16, 2) else if is_b b then (2, 2) else (8, 0)) else (10, 0)

abbrev pub is_u : ℕ → Bool
is_u b = b == byte "u" || b == byte "U"

abbrev pub is_l : ℕ → Bool
is_l b = b == byte "l" || b == byte "L"

-- u, or l or ll, or u and one of these in either order; whether u is there, and how many l
abbrev pub suffix_of : List ℕ → Option (Bool × ℕ)
suffix_of [] = Some (false, 0)
suffix_of (a ∷ []) = if is_u a then Some (true, 0) else if is_l a then Some (false, 1) else None
suffix_of (a ∷ b ∷ []) =
    if is_u a && is_l b then Some (true, 1)
    else if is_l a && is_u b then Some (true, 1)
    else if is_l a && a == b then Some (false, 2)
    else None
suffix_of (a ∷ b ∷ c ∷ []) =
    if is_u a && is_l b && b == c then Some (true, 2)
    else if is_l a && a == b && is_u c then Some (true, 2)
    else None
suffix_of (a ∷ b ∷ c ∷ d ∷ rest) = None

-- the constant, where it is in range
abbrev pub valued : Bool → ℕ → Option (Bool × ℕ) → Option (ℕ × Suffix)
valued decimal v None = None
valued decimal v (Some (unsigned, longs)) =
    if nat_lt (greatest decimal unsigned) v then None
    else Some (v, record { decimal = decimal; unsigned = unsigned; longs = longs })

-- n digits of the base, at least one, and a suffix behind them
abbrev pub integer : ℕ → List ℕ → ℕ → Option (ℕ × Suffix)
integer base run n =
    if n == 0 then None else valued (base == 10) (value_of base (take n run)) (suffix_of (drop n run))

-- the longest front of digits of the base
abbrev pub integer_in : ℕ → List ℕ → Option (ℕ × Suffix)
integer_in base run = integer base run (prefix_len (is_digit_in base) run)

-- the integer that a run is: an optional prefix that tells the base, digits, and an optional suffix
unfoldable pub number_of : List ℕ → Option (ℕ × Suffix)
number_of run = integer_in (base_of run).0 (drop (base_of run).1 run)

-- ---- elements of literals

-- the value of an escape of one letter or mark
abbrev pub simple_escape : ℕ → Option ℕ
simple_escape b =
    if b == apostrophe then Some apostrophe
    else if b == quotation then Some quotation
    else if b == byte "?" then Some (byte "?")
    else if b == backslash then Some backslash
    else if b == byte "a" then Some 7
    else if b == byte "b" then Some 8
    else if b == byte "f" then Some 12
    else if b == byte "n" then Some line_feed
    else if b == byte "r" then Some 13
    else if b == byte "t" then Some 9
    else if b == byte "v" then Some 11
    else None

-- an escape above 255 has no value
abbrev pub byte_of : ℕ → Option ℕ
byte_of v = if nat_lt v 256 then Some v else None

-- n octal digits, one to three
abbrev pub octal_escape : List ℕ → ℕ → ℕ × Option ℕ
octal_escape text n = (n, byte_of (value_of 8 (take n text)))

-- n hexadecimal digits behind an x; without one there is no such escape
abbrev pub hexadecimal_escape : List ℕ → ℕ → ℕ × Option ℕ
hexadecimal_escape text n = if n == 0 then (1, None) else (n + 1, byte_of (value_of 16 (take n text)))

-- behind a backslash: how many bytes belong to the escape, and its value; an unknown one has one byte
-- and no value
unfoldable pub escape_of : List ℕ → ℕ × Option ℕ
escape_of [] = (0, None)
escape_of (b ∷ bs) =
    if is_digit_in 8 b then octal_escape (b ∷ bs) (min 3 (prefix_len (is_digit_in 8) (b ∷ bs)))
    else if b == byte "x" then hexadecimal_escape bs (prefix_len (is_digit_in 16) bs)
    else (1, simple_escape b)

abbrev pub behind_backslash : ℕ × Option ℕ → ℕ × Option ℕ
behind_backslash e = (e.0 + 1, e.1)

-- the first element of a content: how many bytes it takes, and its value
unfoldable pub element_of : List ℕ → ℕ × Option ℕ
element_of [] = (0, None)
element_of (b ∷ bs) = if b == backslash then behind_backslash (escape_of bs) else (1, Some b)

-- ---- lines that are skipped

-- behind the spaces and tabs at the front
abbrev pub past_blanks : List ℕ → List ℕ
past_blanks text = drop (prefix_len is_blank text) text

-- the longest front of letters, digits and `_`
abbrev pub front_word : List ℕ → List ℕ
front_word text = take (prefix_len is_letter_or_digit text) text

-- decimal digits
abbrev pub is_decimal : List ℕ → Bool
is_decimal [] = false
is_decimal (d ∷ ds) = list_all is_digit (d ∷ ds)

-- a decimal number, with nothing behind it that would belong to the number
abbrev pub is_decimal_front : List ℕ → List ℕ → Bool
is_decimal_front word behind = is_decimal word && not (begins_with (λ b. b == point) behind)

abbrev pub begins_with_decimal : List ℕ → Bool
begins_with_decimal text = is_decimal_front (front_word text) (drop (prefix_len is_letter_or_digit text) text)

-- a word that is not `pack`
abbrev pub is_other_pragma : List ℕ → Bool
is_other_pragma [] = false
is_other_pragma (c ∷ cs) = not (is_digit c) && not (bytes_eq (c ∷ cs) (codes "pack"))

-- behind `line` or `pragma`
abbrev pub is_skipped_word : List ℕ → List ℕ → Bool
is_skipped_word word behind =
    (bytes_eq word (codes "line") && begins_with_decimal (past_blanks behind))
    || (bytes_eq word (codes "pragma") && is_other_pragma (front_word (past_blanks behind)))

-- what stands behind a `#` on a line that is skipped: a decimal number, `line` and such a number, or
-- `pragma` and a word other than `pack`
unfoldable pub is_skipped : List ℕ → Bool
is_skipped behind =
    let text = past_blanks behind in
    begins_with_decimal text || is_skipped_word (front_word text) (drop (prefix_len is_letter_or_digit text) text)
