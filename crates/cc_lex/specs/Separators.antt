-- What separates tokens: spaces, comments, and the lines that a preprocessor leaves (C99 6.4, 6.4.9,
-- 6.10.4, 6.10.6).
use Rattle.std.specs.Prelude.{◌≡◌, ◌≢◌, ℕ, Bool, true, false, ◌&&◌, ◌||◌, ◌==◌, List, [], ◌∷◌, ◌++◌, codes}
use Rattle.std.specs.List.{list_all}
use Rattle.cc_words.specs.Names.{is_letter_or_digit}
use Rattle.cc_lex.specs.Bytes.{line_feed, hash, star, slash, is_blank, is_other_space, is_in_line, begins_with}
use Rattle.cc_lex.specs.Identifiers.{IsIdentifier}
use Rattle.cc_lex.specs.Numbers.{AreDigits, IsLongestNumber}

-- whether `*/` stands in the text
abbrev pub has_close : List ℕ → Bool
has_close [] = false
has_close (a ∷ []) = false
has_close (a ∷ b ∷ rest) = (a == star && b == slash) || has_close (b ∷ rest)

-- a preprocessing number that is decimal digits, and what stands behind it
pub data BeginsWithNumber : List ℕ → Type 0 where
  ANumeral : (ds behind : List ℕ) (n : ℕ) → AreDigits 10 ds n → IsLongestNumber ds behind → BeginsWithNumber (ds ++ behind)

-- one blank or more
pub data AreBlanks : List ℕ → Type 0 where
  Blanks : (b : ℕ) (bs : List ℕ) → is_blank b ≡ true → list_all is_blank bs ≡ true → AreBlanks (b ∷ bs)

-- what stands behind the `#` of a line that is skipped
pub data IsSkipped : List ℕ → Type 0 where
  -- a number
  ALineMarker : (text : List ℕ) → BeginsWithNumber text → IsSkipped text
  -- `line` and a number
  ALineNumber : (blanks text : List ℕ) → AreBlanks blanks → BeginsWithNumber text → IsSkipped (codes "line" ++ (blanks ++ text))
  -- `pragma` and a word other than `pack`
  APragma : (blanks word behind : List ℕ) → AreBlanks blanks → IsIdentifier word → word ≢ codes "pack" → begins_with is_letter_or_digit behind ≡ false → IsSkipped (codes "pragma" ++ (blanks ++ (word ++ behind)))
  -- the same behind a blank
  BehindBlank : (b : ℕ) (text : List ℕ) → is_blank b ≡ true → IsSkipped text → IsSkipped (b ∷ text)

-- A separator, and what stands behind it. The first flag says that the line has only blanks so far,
-- the second that this is so behind the separator too.
pub data Separates : Bool → List ℕ → List ℕ → Bool → Type 0 where
  ABlank : (fresh : Bool) (b : ℕ) (rest : List ℕ) → is_blank b ≡ true → Separates fresh (b ∷ []) rest fresh
  ALineFeed : (fresh : Bool) (rest : List ℕ) → Separates fresh (line_feed ∷ []) rest true
  AnotherSpace : (fresh : Bool) (b : ℕ) (rest : List ℕ) → is_other_space b ≡ true → Separates fresh (b ∷ []) rest false
  -- up to the first `*/`
  AComment : (fresh : Bool) (c rest : List ℕ) → has_close (c ++ star ∷ []) ≡ false → Separates fresh (slash ∷ star ∷ (c ++ star ∷ slash ∷ [])) rest false
  -- up to the end of the line
  ALineComment : (fresh : Bool) (c rest : List ℕ) → list_all is_in_line c ≡ true → begins_with is_in_line rest ≡ false → Separates fresh (slash ∷ slash ∷ c) rest false
  -- a line that is skipped, up to its end
  ALine : (c rest : List ℕ) → list_all is_in_line c ≡ true → begins_with is_in_line rest ≡ false → IsSkipped c → Separates true (hash ∷ c) rest false

-- the text begins a comment
abbrev pub begins_comment : List ℕ → Bool
begins_comment [] = false
begins_comment (a ∷ []) = false
begins_comment (a ∷ b ∷ rest) = a == slash && (b == slash || b == star)
