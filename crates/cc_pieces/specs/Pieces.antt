-- A printed text as a list of pieces: kinds of tokens, each with one spelling, and gaps between tokens. Its bytes
-- are a fold over it. What is printed stands in front of the pieces that follow.
use Rattle.std.specs.Prelude.{ℕ, zero, suc, Bool, true, false, not, nat_eq, List, [], ◌∷◌, ◌++◌, codes}
use Rattle.std.specs.Fmt.{decimal}
use Rattle.cc_program.specs.CcWords.declared.word.Word.{Word}
use Rattle.cc_program.specs.CcWords.Words.{spellings}
use Rattle.cc_lex.specs.declared.token.Kind.{Kind}
use Rattle.cc_lex.specs.declared.token.Kind.TheVariants as kind
use Rattle.cc_lex.specs.declared.token.Mark.{Mark}
use Rattle.cc_lex.specs.declared.token.Mark.TheVariants as m
use Rattle.cc_lex.specs.declared.token.Suffix.{Suffix}
use Rattle.cc_lex.specs.Bytes.{line_feed}
use Rattle.cc_lex.specs.Marks.{spelling_of}

pub data Piece : Type 0 where
  Gap : List ℕ → Piece
  Token : Kind → Piece

abbrev pub Pieces : Type 0
Pieces = List Piece

-- ---- the one spelling in which a kind of token is printed

-- the plain one of a keyword's spellings
abbrev pub first_of : List (List ℕ) → List ℕ
first_of [] = []
first_of (w ∷ ws) = w

abbrev pub unsigned_letter : Bool → List ℕ
unsigned_letter true = codes "u"
unsigned_letter false = []

abbrev pub long_letters : ℕ → List ℕ
long_letters zero = []
long_letters (suc zero) = codes "l"
long_letters (suc (suc n)) = codes "ll"

abbrev pub suffix_text : Suffix → List ℕ
suffix_text s = unsigned_letter s.unsigned ++ long_letters s.longs

-- characters and texts are not printed
abbrev pub spelled : Kind → List ℕ
spelled (kind.Ident x) = x
spelled (kind.Keyword w) = first_of (spellings w)
spelled (kind.Number n s) = decimal n ++ suffix_text s
spelled (kind.Punct o) = spelling_of o
spelled (kind.Character v) = []
spelled (kind.Text vs) = []

-- ---- the bytes

abbrev pub bytes_of : Piece → List ℕ
bytes_of (Gap g) = g
bytes_of (Token k) = spelled k

abbrev pub flat : Pieces → List ℕ
flat [] = []
flat (p ∷ ps) = bytes_of p ++ flat ps

-- ---- pieces of one token or gap

abbrev pub punct : Mark → Piece
punct o = Token (kind.Punct o)

abbrev pub keyword : Word → Piece
keyword w = Token (kind.Keyword w)

abbrev pub ident : List ℕ → Piece
ident x = Token (kind.Ident x)

-- `0` counts as octal (C99 6.4.4.1, 1)
abbrev pub number : ℕ → Bool → ℕ → Piece
number n unsigned longs = Token (kind.Number n (record { decimal = not (nat_eq n 0); unsigned = unsigned; longs = longs }))

abbrev pub plain_number : ℕ → Piece
plain_number n = number n false 0

abbrev pub space : Piece
space = Gap (codes " ")

abbrev pub end_of_line : Piece
end_of_line = Gap (line_feed ∷ [])

-- two spaces a level
abbrev pub indentation : ℕ → List ℕ
indentation zero = []
indentation (suc n) = 32 ∷ 32 ∷ indentation n

abbrev pub indent : ℕ → Piece
indent level = Gap (indentation level)

-- ---- pairs of parentheses, where they stand

abbrev pub opening : Bool → Pieces → Pieces
opening true ps = punct m.LParen ∷ ps
opening false ps = ps

abbrev pub closing : Bool → Pieces → Pieces
closing true ps = punct m.RParen ∷ ps
closing false ps = ps
