-- The reader of attributes, qualifiers, tags and literals, and what begins specifiers: an executable twin of the code.
use Rattle.std.specs.Prelude.{ℕ, ◌+◌, Bool, true, false, List, [], ◌∷◌, ◌++◌, Option, Some, None, Ok, length, if◌then◌else◌}
use Rattle.cc_lex.specs.declared.token.Kind.{Kind}
use Rattle.cc_lex.specs.declared.token.Kind.TheVariants as kind
use Rattle.cc_lex.specs.declared.token.Mark.TheVariants as m
use Rattle.cc_words.specs.declared.word.Word.{Word}
use Rattle.cc_words.specs.declared.word.Word.TheVariants as w
use Rattle.cc_tree.specs.declared.at.At.{At}
use Rattle.cc_tree.specs.declared.tree.Attr.{Attr}
use Rattle.cc_tree.specs.Reading.{Flat, ◌>>=◌, eat, after, begins_with, name, repeated, separated}
use Rattle.cc_tree.specs.Scopes.{Scope, is_typedef}
use Rattle.cc_tree.specs.Terms.{is_qualifier, is_spec_word}
use Rattle.cc_tree.specs.Tokens.{Tokens, Name, at}

-- how often a loop may turn
abbrev pub turns : Tokens → ℕ
turns ts = length ts + 1

-- attributes

abbrev pub AttrWord : Type 0
AttrWord = Name × Option Name

abbrev pub attr_argument : Name → Tokens → Option Tokens → Flat AttrWord
attr_argument x ts None = Ok ((x, None), ts)
attr_argument x ts (Some us) = do
  y ← name us
  vs ← eat m.RParen y.1
  Ok ((x, Some y.0), vs)

unfoldable pub attr_word : Tokens → Flat AttrWord
attr_word ts = name ts >>= λ x. attr_argument x.0 x.1 (after m.LParen x.1)

unfoldable pub attr_words : Tokens → Flat (List AttrWord)
attr_words ts = separated attr_word (turns ts) ts

abbrev pub is_keyword_attribute : Kind → Bool
is_keyword_attribute (kind.Keyword w.Attribute) = true
is_keyword_attribute _ = false

unfoldable pub begins_attr : Tokens → Bool
begins_attr [] = false
begins_attr (t ∷ ts) = is_keyword_attribute t.kind

-- the tokens behind the first
abbrev pub behind : Tokens → Tokens
behind [] = []
behind (t ∷ ts) = ts

abbrev pub attr_list : Tokens → Bool → Flat (List AttrWord)
attr_list ts true = Ok ([], ts)
attr_list ts false = attr_words ts

-- an attribute, where its word stands first
unfoldable pub attr : Tokens → Flat (At Attr)
attr ts = do
  us ← eat m.LParen (behind ts)
  vs ← eat m.LParen us
  words ← attr_list vs (begins_with m.RParen vs)
  ws ← eat m.RParen words.1
  rest ← eat m.RParen ws
  Ok (at ts (record { words = words.0 }), rest)

unfoldable pub attrs : Tokens → Flat (List (At Attr))
attrs ts = repeated begins_attr attr (turns ts) ts

-- what begins a specifier
abbrev pub is_spec_start : Word → Bool
is_spec_start w.Struct = true
is_spec_start w.Enum = true
is_spec_start w.Attribute = true
is_spec_start x = is_spec_word x

abbrev pub kind_begins_spec : Scope → Kind → Bool
kind_begins_spec scope (kind.Keyword x) = is_spec_start x
kind_begins_spec scope (kind.Ident x) = is_typedef scope x
kind_begins_spec scope _ = false

unfoldable pub begins_spec : Scope → Tokens → Bool
begins_spec scope [] = false
begins_spec scope (t ∷ ts) = kind_begins_spec scope t.kind

abbrev pub is_extension_word : Kind → Bool
is_extension_word (kind.Keyword w.Extension) = true
is_extension_word _ = false

-- specifiers begin, behind as many `__extension__` as there are
abbrev pub begins_specs : Scope → Tokens → Bool
begins_specs scope [] = false
begins_specs scope (t ∷ ts) = if is_extension_word t.kind then begins_specs scope ts else kind_begins_spec scope t.kind

-- qualifiers

abbrev pub qualifier_in_front : Word → Tokens → List Word × Tokens → Bool → List Word × Tokens
qualifier_in_front q all r true = (q ∷ r.0, r.1)
qualifier_in_front q all r false = ([], all)

abbrev pub qualifiers_at : Kind → Tokens → List Word × Tokens → List Word × Tokens
qualifiers_at (kind.Keyword q) all r = qualifier_in_front q all r (is_qualifier q)
qualifiers_at _ all r = ([], all)

abbrev pub qualifiers : Tokens → List Word × Tokens
qualifiers [] = ([], [])
qualifiers (t ∷ ts) = qualifiers_at t.kind (t ∷ ts) (qualifiers ts)

-- [ name ]
abbrev pub tag_at : Tokens → Tokens → Kind → Option Name × Tokens
tag_at all ts (kind.Ident x) = (Some x, ts)
tag_at all ts _ = (None, all)

unfoldable pub tag : Tokens → Option Name × Tokens
tag [] = (None, [])
tag (t ∷ ts) = tag_at (t ∷ ts) ts t.kind

-- the bytes of neighbouring literals, and the tokens behind them
abbrev pub texts_at : Tokens → Kind → List ℕ × Tokens → List ℕ × Tokens
texts_at all (kind.Text b) r = (b ++ r.0, r.1)
texts_at all _ r = ([], all)

abbrev pub texts : Tokens → List ℕ × Tokens
texts [] = ([], [])
texts (t ∷ ts) = texts_at (t ∷ ts) t.kind (texts ts)
