-- The forms of tokens, whatever stands behind them and whatever they are worth (C99 6.4, 1 and 4).
use Rattle.std.specs.Prelude.{◌≡◌, ℕ, ◌≤◌, List, [], ◌∷◌, ◌++◌, length}
use Rattle.cc_lex.specs.declared.token.Mark.{Mark}
use Rattle.cc_lex.specs.Bytes.{quotation, apostrophe}
use Rattle.cc_lex.specs.Identifiers.{IsIdentifier}
use Rattle.cc_lex.specs.Literals.{IsContent}
use Rattle.cc_lex.specs.Marks.{spelling_of}
use Rattle.cc_lex.specs.Numbers.{IsPreprocessingNumber}

pub data HasForm : List ℕ → Type 0 where
  NameForm : (w : List ℕ) → IsIdentifier w → HasForm w
  NumberForm : (w : List ℕ) → IsPreprocessingNumber w → HasForm w
  CharacterForm : (c : List ℕ) → IsContent apostrophe c → HasForm (apostrophe ∷ (c ++ apostrophe ∷ []))
  TextForm : (c : List ℕ) → IsContent quotation c → HasForm (quotation ∷ (c ++ quotation ∷ []))
  MarkForm : (m : Mark) → HasForm (spelling_of m)

-- w has a form, and none at the front of the text is longer
pub record IsLongest (w rest : List ℕ) : Type 0 where
  pub form : HasForm w
  pub longest : (other behind : List ℕ) → HasForm other → w ++ rest ≡ other ++ behind → length other ≤ length w
