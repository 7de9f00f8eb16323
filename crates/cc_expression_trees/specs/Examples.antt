-- Some pieces, and their tokens worked out by hand; and pieces that do not part.
use Rattle.std.specs.Prelude.{true, List, [], ◌∷◌, codes}
use Rattle.cc_lex.specs.declared.token.Kind.TheVariants as kind
use Rattle.cc_lex.specs.declared.token.Mark.TheVariants as m
use Rattle.cc_lex.specs.declared.token.Token.{Token}
use Rattle.cc_pieces.specs.Pieces.{Pieces, punct, ident, number, space, end_of_line}

-- `(x + +y) << 2ul;` on a line
abbrev pub sum : Pieces
sum = punct m.LParen ∷ ident (codes "x") ∷ space ∷ punct m.Plus ∷ space ∷ punct m.Plus ∷ ident (codes "y") ∷ punct m.RParen
    ∷ space ∷ punct m.Shl ∷ space ∷ number 2 true 1 ∷ punct m.Semi ∷ end_of_line ∷ []

abbrev pub sum_tokens : List Token
sum_tokens = record { at = 0; len = 1; kind = kind.Punct m.LParen }
    ∷ record { at = 1; len = 1; kind = kind.Ident (codes "x") }
    ∷ record { at = 3; len = 1; kind = kind.Punct m.Plus }
    ∷ record { at = 5; len = 1; kind = kind.Punct m.Plus }
    ∷ record { at = 6; len = 1; kind = kind.Ident (codes "y") }
    ∷ record { at = 7; len = 1; kind = kind.Punct m.RParen }
    ∷ record { at = 9; len = 2; kind = kind.Punct m.Shl }
    ∷ record { at = 12; len = 3; kind = kind.Number 2 (record { decimal = true; unsigned = true; longs = 1 }) }
    ∷ record { at = 15; len = 1; kind = kind.Punct m.Semi }
    ∷ []

-- without the space the text has `++`
abbrev pub run_on : Pieces
run_on = punct m.Plus ∷ punct m.Plus ∷ ident (codes "y") ∷ []
