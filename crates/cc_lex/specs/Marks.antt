-- Punctuators, and their spellings (C99 6.4.6).
use Rattle.std.specs.Prelude.{◌≡◌, ℕ, ◌≤◌, List, ◌++◌, length, codes}
use Rattle.cc_lex.specs.declared.token.Mark.{Mark}
use Rattle.cc_lex.specs.declared.token.Mark.TheVariants as mark

abbrev pub spelling_of : Mark → List ℕ
spelling_of mark.LBracket = codes "["
spelling_of mark.RBracket = codes "]"
spelling_of mark.LParen = codes "("
spelling_of mark.RParen = codes ")"
spelling_of mark.LBrace = codes "{"
spelling_of mark.RBrace = codes "}"
spelling_of mark.Dot = codes "."
spelling_of mark.Arrow = codes "->"
spelling_of mark.PlusPlus = codes "++"
spelling_of mark.MinusMinus = codes "--"
spelling_of mark.Amp = codes "&"
spelling_of mark.Star = codes "*"
spelling_of mark.Plus = codes "+"
spelling_of mark.Minus = codes "-"
spelling_of mark.Tilde = codes "~"
spelling_of mark.Bang = codes "!"
spelling_of mark.Slash = codes "/"
spelling_of mark.Percent = codes "%"
spelling_of mark.Shl = codes "<<"
spelling_of mark.Shr = codes ">>"
spelling_of mark.Lt = codes "<"
spelling_of mark.Gt = codes ">"
spelling_of mark.Le = codes "<="
spelling_of mark.Ge = codes ">="
spelling_of mark.EqEq = codes "=="
spelling_of mark.NotEq = codes "!="
spelling_of mark.Caret = codes "^"
spelling_of mark.Bar = codes "|"
spelling_of mark.AndAnd = codes "&&"
spelling_of mark.OrOr = codes "||"
spelling_of mark.Question = codes "?"
spelling_of mark.Colon = codes ":"
spelling_of mark.Semi = codes ";"
spelling_of mark.Dots = codes "..."
spelling_of mark.Assign = codes "="
spelling_of mark.StarAssign = codes "*="
spelling_of mark.SlashAssign = codes "/="
spelling_of mark.PercentAssign = codes "%="
spelling_of mark.PlusAssign = codes "+="
spelling_of mark.MinusAssign = codes "-="
spelling_of mark.ShlAssign = codes "<<="
spelling_of mark.ShrAssign = codes ">>="
spelling_of mark.AndAssign = codes "&="
spelling_of mark.XorAssign = codes "^="
spelling_of mark.OrAssign = codes "|="
spelling_of mark.Comma = codes ","

-- no mark at the front of the text is longer
abbrev pub IsLongestMark : Mark → List ℕ → Type 0
IsLongestMark m text = (other : Mark) (rest : List ℕ) → text ≡ spelling_of other ++ rest → length (spelling_of other) ≤ length (spelling_of m)

-- no mark is at the front of the text
abbrev pub HasNoMark : List ℕ → Type 0
HasNoMark text = (m : Mark) (rest : List ℕ) → text ≡ spelling_of m ++ rest → ⊥
