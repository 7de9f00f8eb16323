-- Why a text has no tokens: the first place where there is none, and the cause there.
use Rattle.std.specs.Prelude.{◌≡◌, ℕ, ◌+◌, Bool, true, false, ◌||◌, not, ◌==◌, List, [], ◌∷◌, ◌++◌, length}
use Rattle.std.specs.List.{list_all}
use Rattle.cc_lex.specs.declared.fault.LexFault.{LexFault}
use Rattle.cc_lex.specs.declared.fault.LexFault.TheVariants as fault
use Rattle.cc_lex.specs.declared.token.Kind.{Kind}
use Rattle.cc_lex.specs.declared.token.Suffix.{Suffix}
use Rattle.cc_words.specs.Names.{is_letter, is_digit}
use Rattle.cc_lex.specs.Bytes.{line_feed, quotation, hash, apostrophe, star, slash, is_blank, is_other_space, is_in_line, begins_with}
use Rattle.cc_lex.specs.Literals.{IsContent, IsElement, IsBadEscape, HasBadEscape}
use Rattle.cc_lex.specs.Marks.{HasNoMark}
use Rattle.cc_lex.specs.Numbers.{IsInteger, IsPreprocessingNumber, IsLongestNumber}
use Rattle.cc_lex.specs.Separators.{has_close, IsSkipped, Separates}
use Rattle.cc_lex.specs.Tokens.{Spells}

-- no letter, digit, white space, quote or `#`: with this byte at most a mark begins, or a number with `.`
-- and a comment with `/`, which are marks too
abbrev pub begins_at_most_a_mark : ℕ → Bool
begins_at_most_a_mark b = not (is_letter b || is_digit b || is_blank b || b == line_feed || is_other_space b || b == apostrophe || b == quotation || b == hash)

-- Why no token stands at the front of a text that stands at byte `at`, nor a separator.
pub data Fails : Bool → ℕ → List ℕ → LexFault → Type 0 where
  ABadByte : (fresh : Bool) (at b : ℕ) (rest : List ℕ) → begins_at_most_a_mark b ≡ true → HasNoMark (b ∷ rest) → Fails fresh at (b ∷ rest) (fault.BadByte at)
  -- a `#` that is not the first of its line
  ALateHash : (at : ℕ) (rest : List ℕ) → Fails false at (hash ∷ rest) (fault.BadByte at)
  -- a line of another form than those that are skipped
  ADirective : (at : ℕ) (c rest : List ℕ) → list_all is_in_line c ≡ true → begins_with is_in_line rest ≡ false → (IsSkipped c → ⊥) → Fails true at (hash ∷ (c ++ rest)) (fault.Directive at)
  AnOpenComment : (fresh : Bool) (at : ℕ) (rest : List ℕ) → has_close rest ≡ false → Fails fresh at (slash ∷ star ∷ rest) (fault.OpenComment at)
  -- a preprocessing number that is no integer constant, or one out of range
  ABadNumber : (fresh : Bool) (at : ℕ) (w rest : List ℕ) → IsPreprocessingNumber w → IsLongestNumber w rest → ((n : ℕ) (s : Suffix) → IsInteger w n s → ⊥) → Fails fresh at (w ++ rest) (fault.BadNumber at)
  -- a literal that is not closed on its line
  AnOpenCharacter : (fresh : Bool) (at : ℕ) (rest : List ℕ) → ((c behind : List ℕ) → IsContent apostrophe c → rest ≡ c ++ (apostrophe ∷ behind) → ⊥) → Fails fresh at (apostrophe ∷ rest) (fault.OpenText at)
  AnOpenText : (fresh : Bool) (at : ℕ) (rest : List ℕ) → ((c behind : List ℕ) → IsContent quotation c → rest ≡ c ++ (quotation ∷ behind) → ⊥) → Fails fresh at (quotation ∷ rest) (fault.OpenText at)
  -- a character of no element, or of more than one
  AWrongLength : (fresh : Bool) (at : ℕ) (c rest : List ℕ) → IsContent apostrophe c → ((v : ℕ) → IsElement c [] v → ⊥) → (IsBadEscape c [] → ⊥) → Fails fresh at (apostrophe ∷ (c ++ (apostrophe ∷ rest))) (fault.OpenText at)
  -- an escape without a value, at its backslash
  ABadCharacter : (fresh : Bool) (at : ℕ) (c rest : List ℕ) → IsContent apostrophe c → IsBadEscape c [] → Fails fresh at (apostrophe ∷ (c ++ (apostrophe ∷ rest))) (fault.BadNumber (at + 1))
  ABadEscape : (fresh : Bool) (at : ℕ) (c rest : List ℕ) (k : ℕ) → IsContent quotation c → HasBadEscape c k → Fails fresh at (quotation ∷ (c ++ (quotation ∷ rest))) (fault.BadNumber (at + 1 + k))

-- the first fault of a text that stands at byte `at`: any sequence of separators and spellings, end to
-- end, and then the cause
pub data FaultFrom : Bool → ℕ → List ℕ → LexFault → Type 0 where
  FirstFault : (fresh : Bool) (at : ℕ) (text : List ℕ) (e : LexFault) → Fails fresh at text e → FaultFrom fresh at text e
  BehindSeparator : (fresh after : Bool) (at : ℕ) (gap rest : List ℕ) (e : LexFault) → Separates fresh gap rest after → FaultFrom after (at + length gap) rest e → FaultFrom fresh at (gap ++ rest) e
  BehindSpelling : (fresh : Bool) (at : ℕ) (w rest : List ℕ) (k : Kind) (e : LexFault) → Spells w rest k → FaultFrom false (at + length w) rest e → FaultFrom fresh at (w ++ rest) e

-- the first fault of a text
abbrev pub HasFault : List ℕ → LexFault → Type 0
HasFault text e = FaultFrom true 0 text e
