-- No token of printed pieces is outside the subset, and their offsets ascend.
use Rattle.std.proofs.Common.{◌≡◌, ◌≤◌, ◌+◌, ℕ, true, false, List, [], ◌∷◌, length, None, refl, arith}
use Rattle.cc_lex.specs.declared.token.Kind.{Kind}
use Rattle.cc_lex.specs.declared.token.Kind.TheVariants as kind
use Rattle.cc_lex.specs.declared.token.Mark.{Mark}
use Rattle.cc_lex.specs.declared.token.Mark.TheVariants as m
use Rattle.cc_lex.specs.declared.token.Token.{Token}
use Rattle.cc_lex.proofs.Booleans.{and-false}
use Rattle.cc_tree.specs.Outside.{first_outside, outside_word, begins_literal}
use Rattle.cc_tree.specs.Scopes.{same_name}
use Rattle.cc_tree.specs.Tokens.{Tokens}
use Rattle.cc_pieces.specs.Pieces.{Pieces, Gap, Token as AToken, spelled}
use Rattle.cc_expression_trees.specs.Laid.{laid}
use Rattle.cc_expression_trees.specs.Parts.{IsPrinted, is_inside, Fits, Ascend}
use Rattle.cc_expression_trees.proofs.Spelling.{name-parts}

no-literal : (ps : Pieces) → Fits ps → (at : ℕ) → begins_literal (laid at ps) ≡ false
no-literal [] h at = refl
no-literal (Gap g ∷ ps) h at = no-literal ps h.1 (at + length g)
no-literal (AToken (kind.Ident x) ∷ ps) h at = refl
no-literal (AToken (kind.Keyword w) ∷ ps) h at = refl
no-literal (AToken (kind.Number n s) ∷ ps) h at = refl
no-literal (AToken (kind.Punct o) ∷ ps) h at = refl
no-literal (AToken (kind.Character c) ∷ ps) h at = absurd h.0
no-literal (AToken (kind.Text b) ∷ ps) h at = absurd h.0

mark-inside : (o : Mark) (ts : Tokens) → is_inside o ≡ true → outside_word (kind.Punct o) ts ≡ None
mark-inside m.Dots ts h = absurd (cc)
mark-inside _ ts h = refl

word-inside : (k : Kind) (ts : Tokens) → IsPrinted k → begins_literal ts ≡ false → outside_word k ts ≡ None
word-inside (kind.Ident x) ts h e = rw ((name-parts x h).inside, e, and-false (same_name x (76 ∷ []))) refl
word-inside (kind.Keyword w) ts h e = refl
word-inside (kind.Number n s) ts h e = refl
word-inside (kind.Punct o) ts h e = mark-inside o ts h
word-inside (kind.Character c) ts h e = absurd h
word-inside (kind.Text b) ts h e = absurd h

pub none-outside : (ps : Pieces) → Fits ps → (at : ℕ) → first_outside (laid at ps) ≡ None
none-outside [] h at = refl
none-outside (Gap g ∷ ps) h at = none-outside ps h.1 (at + length g)
none-outside (AToken k ∷ ps) h at = rw (word-inside k (laid (at + length (spelled k)) ps) h.0 (no-literal ps h.2 (at + length (spelled k))), none-outside ps h.2 (at + length (spelled k))) refl

-- ---- offsets

from-less : (n k : ℕ) (ts : List Token) → n ≤ k → Ascend k ts → Ascend n ts
from-less n k [] e h = tt
from-less n k (t ∷ ts) e h = let f = h.0 in (omega (arith, e, f), h.1)

pub ascends : (ps : Pieces) (at : ℕ) → Ascend at (laid at ps)
ascends [] at = tt
ascends (Gap g ∷ ps) at = from-less at (at + length g) (laid (at + length g) ps) (omega arith) (ascends ps (at + length g))
ascends (AToken k ∷ ps) at = (omega arith, ascends ps (at + length (spelled k)))
