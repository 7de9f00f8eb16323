-- Tokens by kind, and the offset of what begins with them. A production speaks of the tokens from the
-- first of its construct on, and of those that stand behind the construct.
use Rattle.std.specs.Prelude.{ℕ, List, [], ◌∷◌}
use Rattle.cc_lex.specs.declared.token.Kind.TheVariants as kind
use Rattle.cc_lex.specs.declared.token.Mark.{Mark}
use Rattle.cc_lex.specs.declared.token.Suffix.{Suffix}
use Rattle.cc_lex.specs.declared.token.Token.{Token}
use Rattle.cc_words.specs.declared.word.Word.{Word}
use Rattle.cc_tree.specs.declared.at.At.{At}

abbrev pub Tokens : Type 0
Tokens = List Token

abbrev pub Name : Type 0
Name = List ℕ

-- where a token stands: its offset, and how many bytes it has
abbrev pub Span : Type 0
Span = ℕ × ℕ

abbrev pub mark : Mark → Span → Token
mark m s = record { at = s.0; len = s.1; kind = kind.Punct m }

abbrev pub word : Word → Span → Token
word w s = record { at = s.0; len = s.1; kind = kind.Keyword w }

abbrev pub ident : Name → Span → Token
ident x s = record { at = s.0; len = s.1; kind = kind.Ident x }

abbrev pub number : ℕ → Suffix → Span → Token
number n f s = record { at = s.0; len = s.1; kind = kind.Number n f }

abbrev pub character : ℕ → Span → Token
character c s = record { at = s.0; len = s.1; kind = kind.Character c }

abbrev pub text : List ℕ → Span → Token
text b s = record { at = s.0; len = s.1; kind = kind.Text b }

-- the offset of the first token
abbrev pub offset : Tokens → ℕ
offset [] = 0
offset (t ∷ ts) = t.at

-- a construct that begins with the first of these tokens
abbrev pub at : {A : Type 0} → Tokens → A → At A
at ts node = record { at = offset ts; node = node }
