-- What a turn leaves weighs less than a number, and what is read leaves fewer tokens than there were.
use Rattle.std.proofs.Common.{◌≡◌, ◌≤◌, ◌<◌, ◌+◌, ◌*◌, ℕ, Bool, true, false, List, [], ◌∷◌, Option, Some, None, Result, Ok, Err, IfSome, IfOk, refl, ap, length, arith}
use Rattle.cc_lex.specs.declared.token.Kind.{Kind}
use Rattle.cc_lex.specs.declared.token.Kind.TheVariants as kind
use Rattle.cc_lex.specs.declared.token.Mark.{Mark}
use Rattle.cc_lex.specs.declared.token.Mark.TheVariants as m
use Rattle.cc_words.specs.declared.word.Word.{Word}
use Rattle.cc_tree.specs.declared.at.At.{At}
use Rattle.cc_tree.specs.declared.state.Frame.{Frame}
use Rattle.cc_tree.specs.declared.state.Scoping.{Scoping}
use Rattle.cc_tree.specs.declared.stop.Stop.{Stop}
use Rattle.cc_tree.specs.declared.tree.Attr.{Attr}
use Rattle.cc_tree.specs.Measure.{rank}
use Rattle.cc_tree.specs.Reading.{Flat, ◌>>=◌, after, eat, begins_with, name, first_mark}
use Rattle.cc_tree.specs.ReadTypes.{AttrWord, attr_argument, attr_word, attr_words, attr_list, attr, attrs, begins_attr, behind, turns, qualifiers, qualifiers_at, qualifier_in_front, tag, tag_at, texts, texts_at}
use Rattle.cc_tree.specs.Terms.{is_qualifier}
use Rattle.cc_tree.specs.Tokens.{Tokens, Name, at}
use Rattle.cc_tree.specs.Turns.{Turn, Went}
use Rattle.cc_tree.specs.TurnLines.{scoped}
use Rattle.cc_tree.proofs.ReadingBasics.{ok_bind, Behind, after-sound, eat-sound, Named, name-sound}
use Rattle.cc_tree.proofs.SoundTokens.{some_map, FirstMark, first_mark_from, repeated-sound, separated-sound}

abbrev pub frame_weight : Option Frame → ℕ
frame_weight None = 0
frame_weight (Some f) = 2

abbrev pub weight : Went → ℕ
weight t = 16 * length t.rest + frame_weight t.frame + rank t.control

-- what a turn leaves weighs less than this
abbrev pub Falls : ℕ → Turn → Type 0
Falls n r = IfOk r (λ t. weight t < n)

pub heavier : (n k : ℕ) (r : Turn) → Falls n r → n ≤ k → Falls k r
heavier n k (Err e) h l = tt
heavier n k (Ok t) h l = omega arith

pub scoped-falls : (n : ℕ) (s : Scoping) (r : Turn) → Falls n r → Falls n (scoped s r)
scoped-falls n s (Err e) h = tt
scoped-falls n s (Ok t) h = h

-- a mark or a name that stands first leaves fewer tokens

pub after-fewer : (o : Mark) (ts : Tokens) (n : ℕ) → length ts ≤ n → IfSome (after o ts) (λ us. length us < n)
after-fewer o ts n h = some_map (after o ts) (Behind o ts) (λ us. length us < n) (after-sound o ts) (λ us b. omega (arith, ap length b.1))

pub eat-fewer : {A : Type 0} (o : Mark) (ts : Tokens) (f : Tokens → Result A Stop) (n : ℕ) (Q : A → Type 0) → length ts ≤ n → ((us : Tokens) → length us < n → IfOk (f us) Q) → IfOk (eat o ts >>= f) Q
eat-fewer o ts f n Q h k = ok_bind (eat o ts) f (Behind o ts) Q (eat-sound o ts) (λ us b. k us (omega (arith, ap length b.1)))

pub name-fewer : {A : Type 0} (ts : Tokens) (f : Name × Tokens → Result A Stop) (n : ℕ) (Q : A → Type 0) → length ts ≤ n → ((x : Name) (us : Tokens) → length us < n → IfOk (f (x, us)) Q) → IfOk (name ts >>= f) Q
name-fewer ts f n Q h k = ok_bind (name ts) f (Named ts) Q (name-sound ts) (λ r b. k r.0 r.1 (omega (arith, ap length b.1)))

pub first_mark-fewer : (ts : Tokens) → IfSome (first_mark ts) (λ r. length r.1 < length ts)
first_mark-fewer ts = some_map (first_mark ts) (FirstMark (λ us. ts ≡ us)) (λ r. length r.1 < length ts) (first_mark_from ts (λ us. ts ≡ us) refl) (λ r b. omega (arith, ap length b.1))

-- literals, qualifiers and tags leave no more tokens

texts_at-fewer : (all : Tokens) (k : Kind) (r : List ℕ × Tokens) → length r.1 ≤ length all → length (texts_at all k r).1 ≤ length all
texts_at-fewer all (kind.Text b) r h = h
texts_at-fewer all k r h = omega arith

pub texts-fewer : (ts : Tokens) → length (texts ts).1 ≤ length ts
texts-fewer [] = omega arith
texts-fewer (t ∷ ts) = texts_at-fewer (t ∷ ts) t.kind (texts ts) (omega (arith, texts-fewer ts))

qualifier-fewer : (q : Word) (all : Tokens) (r : List Word × Tokens) (b : Bool) → length r.1 ≤ length all → length (qualifier_in_front q all r b).1 ≤ length all
qualifier-fewer q all r true h = h
qualifier-fewer q all r false h = omega arith

qualifiers_at-fewer : (k : Kind) (all : Tokens) (r : List Word × Tokens) → length r.1 ≤ length all → length (qualifiers_at k all r).1 ≤ length all
qualifiers_at-fewer (kind.Keyword q) all r h = qualifier-fewer q all r (is_qualifier q) h
qualifiers_at-fewer k all r h = omega arith

pub qualifiers-fewer : (ts : Tokens) → length (qualifiers ts).1 ≤ length ts
qualifiers-fewer [] = omega arith
qualifiers-fewer (t ∷ ts) = qualifiers_at-fewer t.kind (t ∷ ts) (qualifiers ts) (omega (arith, qualifiers-fewer ts))

tag_at-fewer : (all ts : Tokens) (k : Kind) → length ts ≤ length all → length (tag_at all ts k).1 ≤ length all
tag_at-fewer all ts (kind.Ident x) h = h
tag_at-fewer all ts k h = omega arith

pub tag-fewer : (ts : Tokens) → length (tag ts).1 ≤ length ts
unfolding tag
tag-fewer [] = omega arith
tag-fewer (t ∷ ts) = tag_at-fewer (t ∷ ts) ts t.kind (omega arith)

-- attributes

-- what was read leaves no more tokens
abbrev Fewer : {A : Type 0} → A → Tokens → Tokens → Type 0
Fewer x ts us = length us ≤ length ts

attr_argument-fewer : (x : Name) (ts : Tokens) (r : Option Tokens) (n : ℕ) → length ts ≤ n → IfSome r (λ us. length us < n) → IfOk (attr_argument x ts r) (λ a. length a.1 ≤ n)
attr_argument-fewer x ts None n h k = h
attr_argument-fewer x ts (Some us) n h k = name-fewer us (λ y. eat m.RParen y.1 >>= λ vs. Ok ((x, Some y.0), vs)) n (λ a. length a.1 ≤ n) (omega arith)
    (λ y vs g. eat-fewer m.RParen vs (λ z. Ok ((x, Some y), z)) n (λ a. length a.1 ≤ n) (omega arith) (λ us f. omega arith))

attr_word-fewer : (ts : Tokens) → IfOk (attr_word ts) (λ a. Fewer a.0 ts a.1)
unfolding attr_word
attr_word-fewer ts = name-fewer ts (λ x. attr_argument x.0 x.1 (after m.LParen x.1)) (length ts) (λ a. Fewer a.0 ts a.1) (omega arith)
    (λ x us h. attr_argument-fewer x us (after m.LParen us) (length ts) (omega arith) (after-fewer m.LParen us (length ts) (omega arith)))

attr_words-fewer : (ts : Tokens) → IfOk (attr_words ts) (λ a. Fewer a.0 ts a.1)
unfolding attr_words
attr_words-fewer ts = separated-sound attr_word Fewer Fewer attr_word-fewer (λ x ts us h. h) (λ x more c ts us vs h k. omega arith) (turns ts) ts

attr_list-fewer : (ts : Tokens) (b : Bool) → IfOk (attr_list ts b) (λ a. Fewer a.0 ts a.1)
attr_list-fewer ts true = omega arith
attr_list-fewer ts false = attr_words-fewer ts

behind-fewer : (ts : Tokens) → length (behind ts) ≤ length ts
behind-fewer [] = omega arith
behind-fewer (t ∷ ts) = omega arith

pub attr-fewer : (ts : Tokens) → IfOk (attr ts) (λ a. length a.1 < length ts)
unfolding attr
attr-fewer ts = eat-fewer m.LParen (behind ts) (λ us. eat m.LParen us >>= λ vs. attr_list vs (begins_with m.RParen vs) >>= closed) (length ts) Q (behind-fewer ts)
    (λ us h. eat-fewer m.LParen us (λ vs. attr_list vs (begins_with m.RParen vs) >>= closed) (length ts) Q (omega arith)
    (λ vs g. ok_bind (attr_list vs (begins_with m.RParen vs)) closed (λ a. Fewer a.0 vs a.1) Q (attr_list-fewer vs (begins_with m.RParen vs))
    (λ words f. eat-fewer m.RParen words.1 (λ ws. eat m.RParen ws >>= λ rest. Ok (at ts (record { words = words.0 }), rest)) (length ts) Q (omega arith)
    (λ ws e. eat-fewer m.RParen ws (λ rest. Ok (at ts (record { words = words.0 }), rest)) (length ts) Q (omega arith) (λ rest d. d)))))
  where
    Q : At Attr × Tokens → Type 0
    Q a = length a.1 < length ts

    closed : List AttrWord × Tokens → Flat (At Attr)
    closed words = eat m.RParen words.1 >>= λ ws. eat m.RParen ws >>= λ rest. Ok (at ts (record { words = words.0 }), rest)

pub attrs-fewer : (ts : Tokens) → IfOk (attrs ts) (λ a. length a.1 ≤ length ts)
unfolding attrs
attrs-fewer ts = repeated-sound attr Fewer Fewer begins_attr (λ ts h. ok_weaker (attr ts) ts (attr-fewer ts)) (λ ts. omega arith) (λ x more ts us vs h k. omega arith) (turns ts) ts
  where
    ok_weaker : (r : Flat (At Attr)) (ts : Tokens) → IfOk r (λ a. length a.1 < length ts) → IfOk r (λ a. Fewer a.0 ts a.1)
    ok_weaker (Err e) ts h = tt
    ok_weaker (Ok a) ts h = omega arith
