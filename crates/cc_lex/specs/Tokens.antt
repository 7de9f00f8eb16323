-- A text and its tokens: the text is any sequence of separators and spellings, end to end, each spelling
-- the longest that may stand at its place (C99 6.4).
use Rattle.std.specs.Prelude.{◌≡◌, ℕ, ◌+◌, ◌≤◌, Bool, true, false, List, [], ◌∷◌, ◌++◌, length, take, drop}
use Rattle.cc_lex.specs.declared.token.Kind.{Kind}
use Rattle.cc_lex.specs.declared.token.Kind.TheVariants as kind
use Rattle.cc_lex.specs.declared.token.Mark.{Mark}
use Rattle.cc_lex.specs.declared.token.Suffix.{Suffix}
use Rattle.cc_lex.specs.declared.token.Token.{Token}
use Rattle.cc_words.specs.Names.{is_letter_or_digit}
use Rattle.cc_lex.specs.Bytes.{quotation, apostrophe, begins_with}
use Rattle.cc_lex.specs.Identifiers.{IsIdentifier, name_kind}
use Rattle.cc_lex.specs.Literals.{IsContent, IsElement, HasBytes}
use Rattle.cc_lex.specs.Marks.{spelling_of, IsLongestMark}
use Rattle.cc_lex.specs.Numbers.{IsInteger, IsPreprocessingNumber, IsLongestNumber, HasNoNumber}
use Rattle.cc_lex.specs.Separators.{Separates, begins_comment}

-- A spelling, what stands behind it, and what it is.
pub data Spells : List ℕ → List ℕ → Kind → Type 0 where
  AName : (w rest : List ℕ) → IsIdentifier w → begins_with is_letter_or_digit rest ≡ false → Spells w rest (name_kind w)
  ANumber : (w rest : List ℕ) (n : ℕ) (s : Suffix) → IsPreprocessingNumber w → IsLongestNumber w rest → IsInteger w n s → Spells w rest (kind.Number n s)
  ACharacter : (c rest : List ℕ) (v : ℕ) → IsContent apostrophe c → IsElement c [] v → Spells (apostrophe ∷ (c ++ apostrophe ∷ [])) rest (kind.Character v)
  AText : (c rest vs : List ℕ) → IsContent quotation c → HasBytes c vs → Spells (quotation ∷ (c ++ quotation ∷ [])) rest (kind.Text vs)
  -- neither a number nor a comment begins there
  AMark : (m : Mark) (rest : List ℕ) → IsLongestMark m (spelling_of m ++ rest) → HasNoNumber (spelling_of m ++ rest) → begins_comment (spelling_of m ++ rest) ≡ false → Spells (spelling_of m) rest (kind.Punct m)

-- The tokens of a text that stands at byte `at`; the flag says that its line has only blanks before it.
pub data TokensFrom : Bool → ℕ → List ℕ → List Token → Type 0 where
  NoToken : (fresh : Bool) (at : ℕ) → TokensFrom fresh at [] []
  Separated : (fresh after : Bool) (at : ℕ) (gap rest : List ℕ) (ts : List Token) → Separates fresh gap rest after → TokensFrom after (at + length gap) rest ts → TokensFrom fresh at (gap ++ rest) ts
  Spelled : (fresh : Bool) (at : ℕ) (w rest : List ℕ) (k : Kind) (ts : List Token) → Spells w rest k → TokensFrom false (at + length w) rest ts → TokensFrom fresh at (w ++ rest) (record { at = at; len = length w; kind = k } ∷ ts)

-- the tokens of a text
abbrev pub Tokens : List ℕ → List Token → Type 0
Tokens text ts = TokensFrom true 0 text ts

-- The spans of tokens, from byte `from` on: each begins where the one before ended or behind it, and its
-- bytes are its spelling.
abbrev pub AreSpans : List ℕ → ℕ → List Token → Type 0
AreSpans text from [] = from ≤ length text
AreSpans text from (t ∷ ts) = (from ≤ t.at) × Spells (take t.len (drop t.at text)) (drop (t.at + t.len) text) t.kind × AreSpans text (t.at + t.len) ts
