-- Which printed pieces part from one another: each token is one whose spelling is its own, and ends where the text
-- behind it begins. One byte of that text decides it.
use Rattle.std.specs.Prelude.{◌≡◌, ℕ, ◌+◌, ◌≤◌, Bool, true, false, ◌||◌, not, nat_eq, ◌==◌, List, [], ◌∷◌, ◌++◌}
use Rattle.std.specs.List.{list_all, list_any, starts_with}
use Rattle.cc_program.specs.CcWords.Names.{is_name, is_letter_or_digit, is_digit}
use Rattle.cc_lex.specs.declared.token.Kind.{Kind}
use Rattle.cc_lex.specs.declared.token.Kind.TheVariants as kind
use Rattle.cc_lex.specs.declared.token.Mark.{Mark}
use Rattle.cc_lex.specs.declared.token.Mark.TheVariants as m
use Rattle.cc_lex.specs.declared.token.Token.{Token}
use Rattle.cc_lex.specs.Bytes.{is_blank, line_feed, point, slash, star}
use Rattle.cc_lex.specs.Marks.{spelling_of}
use Rattle.cc_lex.specs.Numbers.{greatest}
use Rattle.cc_lex.specs.Scan.{marks}
use Rattle.cc_pieces.specs.Pieces.{Pieces, Gap, Token as AToken, flat}

-- `...` is outside the subset
abbrev pub is_inside : Mark → Bool
is_inside m.Dots = false
is_inside _ = true

-- Kinds that are printed: names that may name something, keywords, and the integer constants whose spelling in decimal
-- they are, of which 0 counts as octal (C99 6.4.4.1, 1).
abbrev pub IsPrinted : Kind → Type 0
IsPrinted (kind.Ident x) = is_name x ≡ true
IsPrinted (kind.Keyword w) = Unit {0}
IsPrinted (kind.Number n s) = (n ≤ greatest s.decimal s.unsigned) × (s.decimal ≡ not (nat_eq n 0)) × (s.longs ≤ 2)
IsPrinted (kind.Punct o) = is_inside o ≡ true
IsPrinted (kind.Character v) = ⊥
IsPrinted (kind.Text vs) = ⊥

-- a mark with the byte behind it begins another one, a constant with a fraction, or a comment
abbrev pub makes_other : Mark → ℕ → Bool
makes_other m.Dot b = is_digit b
makes_other m.Slash b = b == slash || b == star
makes_other _ b = false

abbrev pub extends : Mark → ℕ → Bool
extends o b = list_any (λ other. starts_with ◌==◌ (spelling_of other) (spelling_of o ++ b ∷ [])) marks || makes_other o b

-- a token of the kind ends where this byte stands behind it
abbrev pub parts : Kind → ℕ → Bool
parts (kind.Punct o) b = not (extends o b)
parts (kind.Number n s) b = not (is_letter_or_digit b || b == point)
parts (kind.Ident x) b = not (is_letter_or_digit b)
parts (kind.Keyword w) b = not (is_letter_or_digit b)
parts (kind.Character v) b = true
parts (kind.Text vs) b = true

abbrev pub is_apart : Kind → List ℕ → Bool
is_apart k [] = true
is_apart k (b ∷ bs) = parts k b

-- spaces, tabs and line feeds
abbrev pub is_gap : List ℕ → Bool
is_gap g = list_all (λ b. is_blank b || b == line_feed) g

abbrev pub Fits : Pieces → Type 0
Fits [] = Unit {0}
Fits (Gap g ∷ ps) = (is_gap g ≡ true) × Fits ps
Fits (AToken k ∷ ps) = IsPrinted k × (is_apart k (flat ps) ≡ true) × Fits ps

-- tokens from byte `from` on, each behind the one before
abbrev pub Ascend : ℕ → List Token → Type 0
Ascend from [] = Unit {0}
Ascend from (t ∷ ts) = (from ≤ t.at) × Ascend (t.at + t.len) ts
