-- Character constants and string literals: how they close, and what they hold (C99 6.4.4.4, 6.4.5).
-- Universal character names (C99 6.4.3) are no part of the subset: in a literal a backslash and `u` or `U`
-- are an element without a value, as with any other byte that begins no escape; and outside of literals
-- no token has a backslash.
use Rattle.std.specs.Prelude.{◌≡◌, ◌≢◌, ℕ, ◌+◌, ◌<◌, ◌≤◌, ◌⊎◌, false, List, [], ◌∷◌, ◌++◌, length, codes}
use Rattle.std.specs.Str.{byte}
use Rattle.cc_lex.specs.Bytes.{tab, line_feed, quotation, apostrophe, backslash, begins_with}
use Rattle.cc_lex.specs.Numbers.{is_digit_in, AreDigits}

-- what may stand between two quotes on one line: a backslash takes the byte behind it along
pub data IsContent : ℕ → List ℕ → Type 0 where
  NoByte : (quote : ℕ) → IsContent quote []
  OneByte : (quote b : ℕ) (bs : List ℕ) → b ≢ quote → b ≢ backslash → b ≢ line_feed → IsContent quote bs → IsContent quote (b ∷ bs)
  Escaped : (quote b : ℕ) (bs : List ℕ) → b ≢ line_feed → IsContent quote bs → IsContent quote (backslash ∷ b ∷ bs)

-- simple-escape-sequence behind its backslash, and its value (C99 5.2.2, 2)
pub data IsSimple : List ℕ → ℕ → Type 0 where
  AnApostrophe : IsSimple (codes "'") apostrophe
  AQuotation : IsSimple (quotation ∷ []) quotation
  AQuestionMark : IsSimple (codes "?") (byte "?")
  ABackslash : IsSimple (backslash ∷ []) backslash
  AnAlert : IsSimple (codes "a") 7
  ABackspace : IsSimple (codes "b") 8
  AFormFeed : IsSimple (codes "f") 12
  ANewLine : IsSimple (codes "n") line_feed
  ACarriageReturn : IsSimple (codes "r") 13
  ATab : IsSimple (codes "t") tab
  AVerticalTab : IsSimple (codes "v") 11

-- escape-sequence behind its backslash, what stands behind it, and its value; it is the longest that
-- may stand there (C99 6.4.4.4, 7)
pub data IsEscape : List ℕ → List ℕ → ℕ → Type 0 where
  ASimpleEscape : (w behind : List ℕ) (v : ℕ) → IsSimple w v → IsEscape w behind v
  -- octal-escape-sequence: one to three digits, as many as there are
  AnOctalEscape : (ds behind : List ℕ) (v : ℕ) → AreDigits 8 ds v → length ds ≤ 3 → (length ds ≡ 3) ⊎ (begins_with (is_digit_in 8) behind ≡ false) → IsEscape ds behind v
  -- hexadecimal-escape-sequence: x and digits, as many as there are
  AHexadecimalEscape : (ds behind : List ℕ) (v : ℕ) → AreDigits 16 ds v → begins_with (is_digit_in 16) behind ≡ false → IsEscape (byte "x" ∷ ds) behind v

-- c-char or s-char, what stands behind it, and its value, which is a byte
pub data IsElement : List ℕ → List ℕ → ℕ → Type 0 where
  AByte : (b : ℕ) (behind : List ℕ) → b ≢ backslash → IsElement (b ∷ []) behind b
  AnEscape : (w behind : List ℕ) (v : ℕ) → IsEscape w behind v → v < 256 → IsElement (backslash ∷ w) behind v

-- one without a value, and what stands behind it
pub data IsBadEscape : List ℕ → List ℕ → Type 0 where
  -- an escape above 255
  ALargeEscape : (w behind : List ℕ) (v : ℕ) → IsEscape w behind v → 256 ≤ v → IsBadEscape (backslash ∷ w) behind
  -- no escape begins behind the backslash: the element has one byte there
  AnUnknown : (b : ℕ) (behind : List ℕ) → ((w rest : List ℕ) (v : ℕ) → b ∷ behind ≡ w ++ rest → IsEscape w rest v → ⊥) → IsBadEscape (backslash ∷ b ∷ []) behind

-- the content's elements have these values
pub data HasBytes : List ℕ → List ℕ → Type 0 where
  NoElement : HasBytes [] []
  OneElement : (w rest vs : List ℕ) (v : ℕ) → IsElement w rest v → HasBytes rest vs → HasBytes (w ++ rest) (v ∷ vs)

-- the content's first element without a value begins at this byte
pub data HasBadEscape : List ℕ → ℕ → Type 0 where
  AtFirst : (w rest : List ℕ) → IsBadEscape w rest → HasBadEscape (w ++ rest) 0
  Behind : (w rest : List ℕ) (v k : ℕ) → IsElement w rest v → HasBadEscape rest k → HasBadEscape (w ++ rest) (length w + k)
