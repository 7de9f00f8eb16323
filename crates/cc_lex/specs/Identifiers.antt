-- Identifiers and keywords as tokens (C99 6.4.1, 6.4.2).
use Rattle.std.specs.Prelude.{◌≡◌, ℕ, true, List, Option, Some, None}
use Rattle.cc_words.specs.declared.word.Word.{Word}
use Rattle.cc_words.specs.Names.{is_identifier}
use Rattle.cc_words.specs.Words.{word_of}
use Rattle.cc_lex.specs.declared.token.Kind.{Kind}
use Rattle.cc_lex.specs.declared.token.Kind.TheVariants as kind

-- letters, digits and `_`, not starting with a digit
abbrev pub IsIdentifier : List ℕ → Type 0
IsIdentifier w = is_identifier w ≡ true

abbrev pub named : Option Word → List ℕ → Kind
named (Some w) name = kind.Keyword w
named None name = kind.Ident name

-- what an identifier is: the keyword that it spells, else a name
abbrev pub name_kind : List ℕ → Kind
name_kind name = named (word_of name) name
