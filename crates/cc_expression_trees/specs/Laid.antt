-- The tokens of printed pieces: a fold over the same pieces as their bytes.
use Rattle.std.specs.Prelude.{ℕ, ◌+◌, List, [], ◌∷◌, length}
use Rattle.cc_lex.specs.declared.token.Token.{Token}
use Rattle.cc_pieces.specs.Pieces.{Pieces, Gap, Token as AToken, spelled}

-- those of a text that stands at byte `at`
abbrev pub laid : ℕ → Pieces → List Token
laid at [] = []
laid at (Gap g ∷ ps) = laid (at + length g) ps
laid at (AToken k ∷ ps) = record { at = at; len = length (spelled k); kind = k } ∷ laid (at + length (spelled k)) ps
