-- The tokens that are outside the subset: words of C and GNU C, `L` in front of a literal, and `...`; the
-- first of them is answered.
use Rattle.std.specs.Prelude.{ℕ, Bool, true, false, ◌||◌, ◌&&◌, List, [], ◌∷◌, Option, Some, None, codes}
use Rattle.std.specs.Borrow.{Bor}
use Rattle.cc_words.specs.Words.{is_outside}
use Rattle.cc_lex.specs.declared.token.Kind.{Kind}
use Rattle.cc_lex.specs.declared.token.Kind.TheVariants as kind
use Rattle.cc_lex.specs.declared.token.Mark.TheVariants as m
use Rattle.cc_tree.specs.Scopes.{same_name}
use Rattle.cc_tree.specs.Tokens.{Tokens, Name}

-- a literal stands first
abbrev pub begins_literal : Tokens → Bool
begins_literal [] = false
begins_literal (t ∷ ts) = elim t.kind [ kind.Character c ↦ true | kind.Text b ↦ true | _ ↦ false ]

abbrev pub named : Bool → Name → Option Name
named true x = Some x
named false x = None

-- the outside word that a token is, given those behind it: `L` is one in front of a literal
abbrev pub outside_word : Kind → Tokens → Option Name
outside_word (kind.Ident x) ts = named (is_outside x || (same_name x (codes "L") && begins_literal ts)) x
outside_word (kind.Punct m.Dots) ts = Some (codes "...")
outside_word _ ts = None

-- a word, and its offset
abbrev pub first_at : Option Name → ℕ → Option (Name × ℕ) → Option (Name × ℕ)
first_at None n other = other
first_at (Some x) n other = Some (x, n)

-- the first outside word, and its offset
abbrev pub first_outside : Tokens → Option (Name × ℕ)
first_outside [] = None
first_outside (t ∷ ts) = first_at (outside_word t.kind ts) t.at (first_outside ts)

-- the view of the code's answer
abbrev pub word_and_offset : Option (Bor (List ℕ) × ℕ) → Option (Name × ℕ)
word_and_offset None = None
word_and_offset (Some r) = Some (r.0.now, r.1)
