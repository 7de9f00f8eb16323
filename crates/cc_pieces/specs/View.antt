-- What the code's pieces and symbols stand for. The code has the last piece of a text first.
use Rattle.std.specs.Prelude.{ℕ, ◌+◌, ◌*◌, List, [], ◌∷◌, ◌++◌, map, reverse, fold}
use Rattle.cc_lex.specs.declared.token.Kind.TheVariants as kind
use Rattle.cc_pieces.specs.declared.piece.Piece.{Piece as CodePiece}
use Rattle.cc_pieces.specs.declared.piece.Piece.TheVariants as piece
use Rattle.cc_pieces.specs.declared.piece.Symbol.{Symbol}
use Rattle.cc_pieces.specs.declared.piece.Symbol.TheVariants as symbol
use Rattle.cc_pieces.specs.Pieces.{Piece, Gap, Token, Pieces, space, end_of_line, indent}

abbrev pub piece_of : CodePiece → Piece
piece_of (piece.Name x) = Token (kind.Ident x.now)
piece_of (piece.Keyword w) = Token (kind.Keyword w)
piece_of (piece.Number n s) = Token (kind.Number n s)
piece_of (piece.Punct o) = Token (kind.Punct o)
piece_of piece.Space = space
piece_of piece.LineEnd = end_of_line
piece_of (piece.Indent level) = indent level

-- the number that bytes write to the base 256, behind a number that stands in front of them
abbrev pub number_from : ℕ → List ℕ → ℕ
number_from n bytes = fold (λ n b. n * 256 + b) n bytes

abbrev pub number_in : List ℕ → ℕ
number_in bytes = number_from 0 bytes

-- the piece that a symbol ends, of the bytes that stand in front of it
abbrev pub ended : Symbol → List ℕ → Pieces
ended symbol.Name bytes = Token (kind.Ident bytes) ∷ []
ended (symbol.Keyword w) bytes = Token (kind.Keyword w) ∷ []
ended (symbol.Number s) bytes = Token (kind.Number (number_in bytes) s) ∷ []
ended (symbol.Punct o) bytes = Token (kind.Punct o) ∷ []
ended symbol.Space bytes = space ∷ []
ended symbol.LineEnd bytes = end_of_line ∷ []
ended symbol.Gap bytes = Gap bytes ∷ []
ended (symbol.Byte b) bytes = []

-- the bytes that stand in front of what follows a symbol
abbrev pub left : Symbol → List ℕ → List ℕ
left symbol.Name bytes = []
left (symbol.Keyword w) bytes = []
left (symbol.Number s) bytes = []
left (symbol.Punct o) bytes = []
left symbol.Space bytes = []
left symbol.LineEnd bytes = []
left symbol.Gap bytes = []
left (symbol.Byte b) bytes = bytes ++ b ∷ []

-- the pieces of symbols in the order of the text, behind bytes
abbrev pub read : List ℕ → List Symbol → Pieces
read bytes [] = []
read bytes (s ∷ symbols) = ended s bytes ++ read (left s bytes) symbols

unfoldable pub pieces_of : List Symbol → Pieces
pieces_of last_first = read [] (reverse last_first)

-- the symbols of bytes, the last one first
abbrev pub put_in_front : List ℕ → List Symbol
put_in_front bytes = map (λ b. symbol.Byte b) (reverse bytes)
