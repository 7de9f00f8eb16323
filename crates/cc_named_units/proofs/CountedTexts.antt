-- Each token of a text is spelled by a byte at least.
use Rattle.std.proofs.Common.{◌≤◌, ℕ, suc, Bool, List, [], ◌∷◌, length, length-append, arith}
use Rattle.cc_type.specs.CcLex.Identifiers.{IsIdentifier}
use Rattle.cc_type.specs.CcLex.Marks.{spelling_of}
use Rattle.cc_type.specs.CcLex.Numbers.{IsPreprocessingNumber, ADigit, APointAndDigit, AndDigit, AndLetter, AndSmallE, AndCapitalE, AndSmallP, AndCapitalP, AndPoint}
use Rattle.cc_type.specs.CcLex.Tokens.{Spells, AName, ANumber, ACharacter, AText, AMark, TokensFrom, NoToken, Separated, Spelled, Tokens}
use Rattle.cc_type.specs.CcLex.declared.token.Kind.{Kind}
use Rattle.cc_type.specs.CcLex.declared.token.Mark.{Mark}
use Rattle.cc_type.specs.CcLex.declared.token.Mark.TheVariants as mark
use Rattle.cc_type.specs.CcLex.declared.token.Token.{Token}

name_spelled : (w : List ℕ) → IsIdentifier w → suc 0 ≤ length w
name_spelled [] h = absurd (cc)
name_spelled (b ∷ w) h = omega arith

number_spelled : {w : List ℕ} → IsPreprocessingNumber w → suc 0 ≤ length w
number_spelled (ADigit d i) = omega arith
number_spelled (APointAndDigit d i) = omega arith
number_spelled (AndDigit w d h i) = let x = number_spelled h in omega (arith, length-append w (d ∷ []))
number_spelled (AndLetter w b h i) = let x = number_spelled h in omega (arith, length-append w (b ∷ []))
number_spelled (AndSmallE w s h i) = let x = number_spelled h in omega (arith, length-append {A = ℕ})
number_spelled (AndCapitalE w s h i) = let x = number_spelled h in omega (arith, length-append {A = ℕ})
number_spelled (AndSmallP w s h i) = let x = number_spelled h in omega (arith, length-append {A = ℕ})
number_spelled (AndCapitalP w s h i) = let x = number_spelled h in omega (arith, length-append {A = ℕ})
number_spelled (AndPoint w h) = let x = number_spelled h in omega (arith, length-append {A = ℕ})

mark_spelled : (m : Mark) → suc 0 ≤ length (spelling_of m)
mark_spelled mark.LBracket = omega arith
mark_spelled mark.RBracket = omega arith
mark_spelled mark.LParen = omega arith
mark_spelled mark.RParen = omega arith
mark_spelled mark.LBrace = omega arith
mark_spelled mark.RBrace = omega arith
mark_spelled mark.Dot = omega arith
mark_spelled mark.Arrow = omega arith
mark_spelled mark.PlusPlus = omega arith
mark_spelled mark.MinusMinus = omega arith
mark_spelled mark.Amp = omega arith
mark_spelled mark.Star = omega arith
mark_spelled mark.Plus = omega arith
mark_spelled mark.Minus = omega arith
mark_spelled mark.Tilde = omega arith
mark_spelled mark.Bang = omega arith
mark_spelled mark.Slash = omega arith
mark_spelled mark.Percent = omega arith
mark_spelled mark.Shl = omega arith
mark_spelled mark.Shr = omega arith
mark_spelled mark.Lt = omega arith
mark_spelled mark.Gt = omega arith
mark_spelled mark.Le = omega arith
mark_spelled mark.Ge = omega arith
mark_spelled mark.EqEq = omega arith
mark_spelled mark.NotEq = omega arith
mark_spelled mark.Caret = omega arith
mark_spelled mark.Bar = omega arith
mark_spelled mark.AndAnd = omega arith
mark_spelled mark.OrOr = omega arith
mark_spelled mark.Question = omega arith
mark_spelled mark.Colon = omega arith
mark_spelled mark.Semi = omega arith
mark_spelled mark.Dots = omega arith
mark_spelled mark.Assign = omega arith
mark_spelled mark.StarAssign = omega arith
mark_spelled mark.SlashAssign = omega arith
mark_spelled mark.PercentAssign = omega arith
mark_spelled mark.PlusAssign = omega arith
mark_spelled mark.MinusAssign = omega arith
mark_spelled mark.ShlAssign = omega arith
mark_spelled mark.ShrAssign = omega arith
mark_spelled mark.AndAssign = omega arith
mark_spelled mark.XorAssign = omega arith
mark_spelled mark.OrAssign = omega arith
mark_spelled mark.Comma = omega arith

spelled : {w rest : List ℕ} {k : Kind} → Spells w rest k → suc 0 ≤ length w
spelled (AName w rest i b) = name_spelled w i
spelled (ANumber w rest n s p l i) = number_spelled p
spelled (ACharacter c rest v i e) = omega arith
spelled (AText c rest vs i b) = omega arith
spelled (AMark m rest l n b) = mark_spelled m

from_spelled : {fresh : Bool} {at : ℕ} {text : List ℕ} {ts : List Token} → TokensFrom fresh at text ts → length ts ≤ length text
from_spelled (NoToken fresh at) = omega arith
from_spelled (Separated fresh after at gap rest ts s d) = let x = from_spelled d in omega (arith, length-append gap rest)
from_spelled (Spelled fresh at w rest k ts s d) = let x = from_spelled d in let y = spelled s in omega (arith, length-append w rest)

pub text_spelled : (text : List ℕ) (ts : List Token) → Tokens text ts → length ts ≤ length text
text_spelled text ts d = from_spelled d
