-- What goes on behind a construct: an expression of a level, a declarator.
use Rattle.std.proofs.Common.{◌≡◌, ◌≤◌, ℕ, zero, suc, Bool, true, false, ◌||◌, not, [], ◌∷◌, Option, Some, None, refl, arith, nat_le}
use Rattle.std.proofs.lemmas.Bool.{leb-false, lt-leb}
use Rattle.cc_lex.specs.declared.token.Kind.{Kind}
use Rattle.cc_lex.specs.declared.token.Kind.TheVariants as kind
use Rattle.cc_lex.specs.declared.token.Mark.{Mark}
use Rattle.cc_lex.specs.declared.token.Mark.TheVariants as m
use Rattle.cc_tree.specs.Operators.{binary_level}
use Rattle.cc_tree.specs.Reading.{begins_with}
use Rattle.cc_tree.specs.ReadTypes.{begins_spec, is_spec_start}
use Rattle.cc_tree.specs.Scopes.{Scope, is_typedef}
use Rattle.cc_tree.specs.Terms.{is_qualifier}
use Rattle.cc_tree.specs.Tokens.{Tokens}

-- the greatest level that this mark goes on at
abbrev pub mark_goes_on : Mark → Option ℕ
mark_goes_on m.LBracket = Some 15
mark_goes_on m.LParen = Some 15
mark_goes_on m.Dot = Some 15
mark_goes_on m.Arrow = Some 15
mark_goes_on m.PlusPlus = Some 15
mark_goes_on m.MinusMinus = Some 15
mark_goes_on m.Question = Some 2
mark_goes_on m.Assign = Some 1
mark_goes_on m.StarAssign = Some 1
mark_goes_on m.SlashAssign = Some 1
mark_goes_on m.PercentAssign = Some 1
mark_goes_on m.PlusAssign = Some 1
mark_goes_on m.MinusAssign = Some 1
mark_goes_on m.ShlAssign = Some 1
mark_goes_on m.ShrAssign = Some 1
mark_goes_on m.AndAssign = Some 1
mark_goes_on m.XorAssign = Some 1
mark_goes_on m.OrAssign = Some 1
mark_goes_on m.Comma = Some 0
mark_goes_on o = binary_level o

abbrev pub kind_goes_on : Kind → Option ℕ
kind_goes_on (kind.Text b) = Some 15
kind_goes_on (kind.Punct o) = mark_goes_on o
kind_goes_on _ = None

abbrev pub within : ℕ → Option ℕ → Bool
within n None = false
within n (Some k) = nat_le n k

-- an expression of this level goes on here
abbrev pub goes_on : ℕ → Tokens → Bool
goes_on n [] = false
goes_on n (t ∷ ts) = within n (kind_goes_on t.kind)

-- behind a left operand of this level there may stand an operator of this level, but for `?` and assignments
abbrev pub next : ℕ → ℕ
next zero = 1
next (suc zero) = 1
next (suc (suc zero)) = 2
next (suc (suc (suc n))) = suc (suc (suc (suc n)))

pub next-more : (n : ℕ) → n ≤ next n
next-more zero = omega arith
next-more (suc zero) = omega arith
next-more (suc (suc zero)) = omega arith
next-more (suc (suc (suc n))) = omega arith

pub next-suc : (n : ℕ) → next n ≤ suc n
next-suc zero = omega arith
next-suc (suc zero) = omega arith
next-suc (suc (suc zero)) = omega arith
next-suc (suc (suc (suc n))) = omega arith

pub next-two : (n : ℕ) → n ≤ 2 → next n ≤ 2
next-two zero h = omega arith
next-two (suc zero) h = omega arith
next-two (suc (suc zero)) h = omega arith
next-two (suc (suc (suc n))) h = absurd (omega (arith, h))

pub next-one : (n : ℕ) → n ≤ 1 → next n ≤ 1
next-one zero h = omega arith
next-one (suc zero) h = omega arith
next-one (suc (suc n)) h = absurd (omega (arith, h))

within-more : (k : Option ℕ) (n l : ℕ) → within n k ≡ false → n ≤ l → within l k ≡ false
within-more None n l h e = refl
within-more (Some k) n l h e = lt-leb l k (omega (arith, leb-false n k h, e))

-- what doesn't go on at a level doesn't at a higher one
pub goes_on-more : (n l : ℕ) (ts : Tokens) → goes_on n ts ≡ false → n ≤ l → goes_on l ts ≡ false
goes_on-more n l [] h e = refl
goes_on-more n l (t ∷ ts) h e = within-more (kind_goes_on t.kind) n l h e

-- a declarator goes on here, or begins
abbrev pub kind_goes_on_declr : Scope → Kind → Bool
kind_goes_on_declr scope (kind.Ident x) = not (is_typedef scope x)
kind_goes_on_declr scope (kind.Keyword q) = is_qualifier q
kind_goes_on_declr scope (kind.Punct m.Star) = true
kind_goes_on_declr scope (kind.Punct m.LParen) = true
kind_goes_on_declr scope (kind.Punct m.LBracket) = true
kind_goes_on_declr scope _ = false

abbrev pub goes_on_declr : Scope → Tokens → Bool
goes_on_declr scope [] = false
goes_on_declr scope (t ∷ ts) = kind_goes_on_declr scope t.kind

-- specifiers go on here, or the brace of one that has a name stands here
abbrev pub kind_goes_on_specs : Scope → Kind → Bool
kind_goes_on_specs scope (kind.Keyword x) = is_spec_start x
kind_goes_on_specs scope (kind.Ident x) = is_typedef scope x
kind_goes_on_specs scope (kind.Punct m.LBrace) = true
kind_goes_on_specs scope _ = false

abbrev pub goes_on_specs : Scope → Tokens → Bool
goes_on_specs scope [] = false
goes_on_specs scope (t ∷ ts) = kind_goes_on_specs scope t.kind

-- parameters begin here, or end
abbrev pub closes : Scope → Tokens → Bool
closes scope ts = begins_with m.RParen ts || begins_spec scope ts

-- a declarator that isn't left out begins here
abbrev pub mark_begins_declr : Scope → Tokens → Mark → Bool
mark_begins_declr scope ts m.Star = true
mark_begins_declr scope ts m.LParen = not (closes scope ts)
mark_begins_declr scope ts _ = false

abbrev pub kind_begins_declr : Scope → Tokens → Kind → Bool
kind_begins_declr scope ts (kind.Ident x) = not (is_typedef scope x)
kind_begins_declr scope ts (kind.Punct o) = mark_begins_declr scope ts o
kind_begins_declr scope ts _ = false

abbrev pub begins_declr : Scope → Tokens → Bool
begins_declr scope [] = false
begins_declr scope (t ∷ ts) = kind_begins_declr scope ts t.kind
