-- Integer constants (C99 6.4.4.1), and preprocessing numbers (C99 6.4.8): a number of a text is a
-- preprocessing number that is an integer constant.
use Rattle.std.specs.Prelude.{◌≡◌, ◌≢◌, ℕ, ◌+◌, ◌-◌, ◌*◌, ◌^◌, ◌≤◌, Bool, true, false, ◌||◌, nat_lt, ◌==◌, if◌then◌else◌, List, [], ◌∷◌, ◌++◌, length, codes}
use Rattle.std.specs.Str.{byte}
use Rattle.cc_lex.specs.declared.token.Suffix.{Suffix}
use Rattle.cc_words.specs.Names.{is_between, is_digit, is_letter}
use Rattle.cc_lex.specs.Bytes.{point, numeral_zero}

-- ---- integer constants

-- the value of a digit in any base up to 16; 16 where it is none
abbrev pub digit_value : ℕ → ℕ
digit_value b =
    if is_digit b then b - byte "0"
    else if is_between (byte "a") (byte "f") b then b - byte "a" + 10
    else if is_between (byte "A") (byte "F") b then b - byte "A" + 10
    else 16

abbrev pub is_digit_in : ℕ → ℕ → Bool
is_digit_in base b = nat_lt (digit_value b) base

-- digits of a base, at least one, and their value
pub data AreDigits : ℕ → List ℕ → ℕ → Type 0 where
  OneDigit : (base b : ℕ) → is_digit_in base b ≡ true → AreDigits base (b ∷ []) (digit_value b)
  OneMore : (base : ℕ) (ds : List ℕ) (n b : ℕ) → AreDigits base ds n → is_digit_in base b ≡ true → AreDigits base (ds ++ b ∷ []) (n * base + digit_value b)

abbrev pub is_x : ℕ → Bool
is_x b = b == byte "x" || b == byte "X"

abbrev pub is_b : ℕ → Bool
is_b b = b == byte "b" || b == byte "B"

-- a constant without its suffix, whether it is decimal, and its value
pub data IsConstant : List ℕ → Bool → ℕ → Type 0 where
  -- decimal-constant: digits of which the first is not 0
  ADecimal : (d : ℕ) (ds : List ℕ) (n : ℕ) → d ≢ numeral_zero → AreDigits 10 (d ∷ ds) n → IsConstant (d ∷ ds) true n
  -- octal-constant: digits of which the first is 0
  AnOctal : (ds : List ℕ) (n : ℕ) → AreDigits 8 (numeral_zero ∷ ds) n → IsConstant (numeral_zero ∷ ds) false n
  -- hexadecimal-constant: 0x and digits
  AHexadecimal : (x : ℕ) (ds : List ℕ) (n : ℕ) → is_x x ≡ true → AreDigits 16 ds n → IsConstant (numeral_zero ∷ x ∷ ds) false n
  -- 0b and digits, a binary constant of GNU C
  ABinary : (b : ℕ) (ds : List ℕ) (n : ℕ) → is_b b ≡ true → AreDigits 2 ds n → IsConstant (numeral_zero ∷ b ∷ ds) false n

-- unsigned-suffix
pub data IsUnsigned : List ℕ → Type 0 where
  SmallU : IsUnsigned (codes "u")
  CapitalU : IsUnsigned (codes "U")

-- long-suffix and long-long-suffix, and how many l there are; both letters of ll have one case
pub data IsLong : List ℕ → ℕ → Type 0 where
  SmallL : IsLong (codes "l") 1
  CapitalL : IsLong (codes "L") 1
  SmallTwo : IsLong (codes "ll") 2
  CapitalTwo : IsLong (codes "LL") 2

-- integer-suffix, or none: whether u is there, and how many l
pub data IsSuffix : List ℕ → Bool → ℕ → Type 0 where
  NoSuffix : IsSuffix [] false 0
  JustUnsigned : (u : List ℕ) → IsUnsigned u → IsSuffix u true 0
  JustLong : (l : List ℕ) (n : ℕ) → IsLong l n → IsSuffix l false n
  UnsignedLong : (u l : List ℕ) (n : ℕ) → IsUnsigned u → IsLong l n → IsSuffix (u ++ l) true n
  LongUnsigned : (u l : List ℕ) (n : ℕ) → IsUnsigned u → IsLong l n → IsSuffix (l ++ u) true n

-- the greatest value of a constant: a decimal one without u has a signed type (C99 6.4.4.1, 5)
abbrev pub greatest : Bool → Bool → ℕ
greatest true false = 2 ^ 63 - 1
greatest true true = 2 ^ 64 - 1
greatest false unsigned = 2 ^ 64 - 1

-- integer-constant, its value, and what decides its type
pub data IsInteger : List ℕ → ℕ → Suffix → Type 0 where
  AnInteger : (w s : List ℕ) (decimal unsigned : Bool) (n longs : ℕ) → IsConstant w decimal n → IsSuffix s unsigned longs → n ≤ greatest decimal unsigned →
      IsInteger (w ++ s) n (record { decimal = decimal; unsigned = unsigned; longs = longs })

-- ---- preprocessing numbers

abbrev pub is_sign : ℕ → Bool
is_sign b = b == byte "+" || b == byte "-"

-- pp-number, a constructor a production
pub data IsPreprocessingNumber : List ℕ → Type 0 where
  -- digit
  ADigit : (d : ℕ) → is_digit d ≡ true → IsPreprocessingNumber (d ∷ [])
  -- . digit
  APointAndDigit : (d : ℕ) → is_digit d ≡ true → IsPreprocessingNumber (point ∷ d ∷ [])
  -- pp-number digit
  AndDigit : (w : List ℕ) (d : ℕ) → IsPreprocessingNumber w → is_digit d ≡ true → IsPreprocessingNumber (w ++ d ∷ [])
  -- pp-number identifier-nondigit
  AndLetter : (w : List ℕ) (b : ℕ) → IsPreprocessingNumber w → is_letter b ≡ true → IsPreprocessingNumber (w ++ b ∷ [])
  -- pp-number e sign
  AndSmallE : (w : List ℕ) (s : ℕ) → IsPreprocessingNumber w → is_sign s ≡ true → IsPreprocessingNumber (w ++ byte "e" ∷ s ∷ [])
  -- pp-number E sign
  AndCapitalE : (w : List ℕ) (s : ℕ) → IsPreprocessingNumber w → is_sign s ≡ true → IsPreprocessingNumber (w ++ byte "E" ∷ s ∷ [])
  -- pp-number p sign
  AndSmallP : (w : List ℕ) (s : ℕ) → IsPreprocessingNumber w → is_sign s ≡ true → IsPreprocessingNumber (w ++ byte "p" ∷ s ∷ [])
  -- pp-number P sign
  AndCapitalP : (w : List ℕ) (s : ℕ) → IsPreprocessingNumber w → is_sign s ≡ true → IsPreprocessingNumber (w ++ byte "P" ∷ s ∷ [])
  -- pp-number .
  AndPoint : (w : List ℕ) → IsPreprocessingNumber w → IsPreprocessingNumber (w ++ point ∷ [])

-- no preprocessing number at the front of w and the rest is longer than w (C99 6.4, 4)
abbrev pub IsLongestNumber : List ℕ → List ℕ → Type 0
IsLongestNumber w rest = (other behind : List ℕ) → IsPreprocessingNumber other → w ++ rest ≡ other ++ behind → length other ≤ length w

-- no preprocessing number is at the front of the text
abbrev pub HasNoNumber : List ℕ → Type 0
HasNoNumber text = (w behind : List ℕ) → IsPreprocessingNumber w → text ≡ w ++ behind → ⊥
