-- What is read at the tokens' level is spelled by the tokens between: marks, names, literals, qualifiers,
-- attributes and tags. What is known of the tokens ahead is given as a family, which then speaks of the token
-- that was found in front.
use Rattle.std.proofs.Common.{◌≡◌, ℕ, zero, suc, Bool, true, false, is_some, List, [], ◌∷◌, ◌++◌, Option, Some, None, Result, Ok, Err, IfSome, IfOk, refl, sym, subst}
use Rattle.std.proofs.lemmas.List.{append-nil}
use Rattle.cc_lex.specs.declared.token.Kind.{Kind}
use Rattle.cc_lex.specs.declared.token.Kind.TheVariants as kind
use Rattle.cc_lex.specs.declared.token.Mark.{Mark}
use Rattle.cc_lex.specs.declared.token.Mark.TheVariants as m
use Rattle.cc_words.specs.declared.word.Word.{Word}
use Rattle.cc_words.specs.declared.word.Word.TheVariants as w
use Rattle.cc_tree.specs.declared.at.At.{At}
use Rattle.cc_tree.specs.declared.stop.Stop.{Stop}
use Rattle.cc_tree.specs.declared.tree.Attr.{Attr}
use Rattle.cc_tree.specs.Reading.{Flat, ◌>>=◌, mark_of, mark_before, first_mark, after, eat, begins_with, name, in_front, repeated, repeated_at, separated, separated_at}
use Rattle.cc_tree.specs.ReadTypes.{AttrWord, attr_argument, attr_word, attr_words, attr_list, attr, attrs, begins_attr, is_keyword_attribute, behind, turns, qualifiers, qualifiers_at, qualifier_in_front, tag, tag_at, texts, texts_at}
use Rattle.cc_tree.specs.Terms.{IsTexts, LastText, MoreText, is_qualifier, IsQualifiers, NoQualifier, MoreQualifiers, IsAttrWord, AttrName, AttrCall, IsAttrWords, LastAttrWord, MoreAttrWords, IsAttr, AttrOfNone, AttrOf, IsAttrs, NoAttr, MoreAttrs, IsTag, NoTag, ATag}
use Rattle.cc_tree.specs.Tokens.{Tokens, Name, Span, mark, word, ident, text, at}
use Rattle.cc_tree.proofs.ReadingBasics.{ok_bind, Behind, after-sound, eat-sound, Named, name-sound}

-- marks

pub some_map : {A : Type 0} (r : Option A) (P Q : A → Type 0) → IfSome r P → ((x : A) → P x → Q x) → IfSome r Q
some_map None P Q h k = tt
some_map (Some x) P Q h k = k x h

-- a mark that stands first, and what is known of the tokens
pub after_from : (o : Mark) (ts : Tokens) (P : Tokens → Type 0) → P ts → IfSome (after o ts) (λ us. (s : Span) × P (mark o s ∷ us))
after_from o ts P h = some_map (after o ts) (Behind o ts) (λ us. (s : Span) × P (mark o s ∷ us)) (after-sound o ts) (λ us b. (b.0, subst P b.1 h))

pub eat_from : {A : Type 0} (o : Mark) (ts : Tokens) (f : Tokens → Result A Stop) (P : Tokens → Type 0) (Q : A → Type 0) → P ts → ((s : Span) (us : Tokens) → P (mark o s ∷ us) → IfOk (f us) Q) → IfOk (eat o ts >>= f) Q
eat_from o ts f P Q h k = ok_bind (eat o ts) f (Behind o ts) Q (eat-sound o ts) (λ us b. k b.0 us (subst P b.1 h))

pub name_from : {A : Type 0} (ts : Tokens) (f : Name × Tokens → Result A Stop) (P : Tokens → Type 0) (Q : A → Type 0) → P ts → ((x : Name) (s : Span) (us : Tokens) → P (ident x s ∷ us) → IfOk (f (x, us)) Q) → IfOk (name ts >>= f) Q
name_from ts f P Q h k = ok_bind (name ts) f (Named ts) Q (name-sound ts) (λ r b. k r.0 b.0 r.1 (subst P b.1 h))

abbrev pub FirstMark : (Tokens → Type 0) → Mark × Tokens → Type 0
FirstMark P r = (s : Span) × P (mark r.0 s ∷ r.1)

mark_kind : (at len : ℕ) (k : Kind) (ts : Tokens) (P : Tokens → Type 0) → P (record { at = at; len = len; kind = k } ∷ ts) → IfSome (mark_before ts (mark_of k)) (FirstMark P)
mark_kind at len (kind.Punct o) ts P h = ((at, len), h)
mark_kind at len _ ts P h = tt

pub first_mark_from : (ts : Tokens) (P : Tokens → Type 0) → P ts → IfSome (first_mark ts) (FirstMark P)
unfolding first_mark
first_mark_from [] P h = tt
first_mark_from (t ∷ ts) P h = mark_kind t.at t.len t.kind ts P h

-- where the test says that a mark stands first
pub begins_from : (o : Mark) (ts : Tokens) (P : Tokens → Type 0) (Q : Type 0) → begins_with o ts ≡ true → P ts → ((s : Span) (us : Tokens) → P (mark o s ∷ us) → Q) → Q
begins_from o ts P Q e h k = found (after o ts) e (after_from o ts P h)
  where
    found : (r : Option Tokens) → is_some r ≡ true → IfSome r (λ us. (s : Span) × P (mark o s ∷ us)) → Q
    found None e b = cc
    found (Some us) e b = k b.0 us b.1

-- literals

more_texts : (n len : ℕ) (k : Kind) (ts : Tokens) (r : List ℕ × Tokens) → ((c : List ℕ) (s : Span) → IsTexts (c ++ r.0) (text c s ∷ ts) r.1) → (b : List ℕ) (s : Span) →
    IsTexts (b ++ (texts_at (record { at = n; len = len; kind = k } ∷ ts) k r).0) (text b s ∷ record { at = n; len = len; kind = k } ∷ ts) (texts_at (record { at = n; len = len; kind = k } ∷ ts) k r).1
more_texts n len (kind.Text c) ts r h b s = MoreText b (c ++ r.0) s (text c (n, len) ∷ ts) r.1 (h c (n, len))
more_texts n len k ts r h b s = subst (λ (c : List ℕ). IsTexts c (text b s ∷ record { at = n; len = len; kind = k } ∷ ts) (record { at = n; len = len; kind = k } ∷ ts)) (sym (append-nil b)) (LastText b s (record { at = n; len = len; kind = k } ∷ ts))

pub texts-sound : (ts : Tokens) (b : List ℕ) (s : Span) → IsTexts (b ++ (texts ts).0) (text b s ∷ ts) (texts ts).1
texts-sound [] b s = subst (λ (c : List ℕ). IsTexts c (text b s ∷ []) []) (sym (append-nil b)) (LastText b s [])
texts-sound (t ∷ ts) b s = more_texts t.at t.len t.kind ts (texts ts) (texts-sound ts) b s

-- qualifiers

more_qualifiers : (n len : ℕ) (k : Kind) (ts : Tokens) (r : List Word × Tokens) → IsQualifiers r.0 ts r.1 →
    IsQualifiers (qualifiers_at k (record { at = n; len = len; kind = k } ∷ ts) r).0 (record { at = n; len = len; kind = k } ∷ ts) (qualifiers_at k (record { at = n; len = len; kind = k } ∷ ts) r).1
more_qualifiers n len (kind.Keyword q) ts r h = chosen (is_qualifier q) refl
  where
    chosen : (b : Bool) → is_qualifier q ≡ b → IsQualifiers (qualifier_in_front q (word q (n, len) ∷ ts) r b).0 (word q (n, len) ∷ ts) (qualifier_in_front q (word q (n, len) ∷ ts) r b).1
    chosen true e = MoreQualifiers q r.0 (n, len) ts r.1 e h
    chosen false e = NoQualifier (word q (n, len) ∷ ts)
more_qualifiers n len k ts r h = NoQualifier (record { at = n; len = len; kind = k } ∷ ts)

pub qualifiers-sound : (ts : Tokens) → IsQualifiers (qualifiers ts).0 ts (qualifiers ts).1
qualifiers-sound [] = NoQualifier []
qualifiers-sound (t ∷ ts) = more_qualifiers t.at t.len t.kind ts (qualifiers ts) (qualifiers-sound ts)

-- tags

tag_kind : (n len : ℕ) (k : Kind) (ts : Tokens) → IsTag (tag_at (record { at = n; len = len; kind = k } ∷ ts) ts k).0 (record { at = n; len = len; kind = k } ∷ ts) (tag_at (record { at = n; len = len; kind = k } ∷ ts) ts k).1
tag_kind n len (kind.Ident x) ts = ATag x (n, len) ts
tag_kind n len k ts = NoTag (record { at = n; len = len; kind = k } ∷ ts)

pub tag-sound : (ts : Tokens) → IsTag (tag ts).0 ts (tag ts).1
unfolding tag
tag-sound [] = NoTag []
tag-sound (t ∷ ts) = tag_kind t.at t.len t.kind ts

-- parts one behind another, and with commas between them

module _ {A : Type 0} (one : Tokens → Flat A) (One : A → Tokens → Tokens → Type 0) (Many : List A → Tokens → Tokens → Type 0) where
  in_front-sound : (x : A) (ts us : Tokens) (r : Flat (List A)) → One x ts us → ((more : List A) (vs : Tokens) → Many more us vs → Many (x ∷ more) ts vs) → IfOk r (λ m. Many m.0 us m.1) →
      IfOk (in_front x r) (λ m. Many m.0 ts m.1)
  in_front-sound x ts us (Err e) h k more = tt
  in_front-sound x ts us (Ok r) h k more = k r.0 r.1 more

  pub repeated-sound : (begins : Tokens → Bool) → ((ts : Tokens) → begins ts ≡ true → IfOk (one ts) (λ r. One r.0 ts r.1)) → ((ts : Tokens) → Many [] ts ts) →
      ((x : A) (more : List A) (ts us vs : Tokens) → One x ts us → Many more us vs → Many (x ∷ more) ts vs) → (n : ℕ) (ts : Tokens) → IfOk (repeated begins one n ts) (λ m. Many m.0 ts m.1)
  unfolding repeated
  repeated-sound begins part none behind zero ts = tt
  repeated-sound begins part none behind (suc n) ts = chosen (repeated begins one n) (repeated-sound begins part none behind n) (begins ts) refl
    where
      chosen : (rest : Tokens → Flat (List A)) → ((us : Tokens) → IfOk (rest us) (λ m. Many m.0 us m.1)) → (b : Bool) → begins ts ≡ b → IfOk (repeated_at one rest ts b) (λ m. Many m.0 ts m.1)
      chosen rest more true e = ok_bind (one ts) (λ r. in_front r.0 (rest r.1)) (λ r. One r.0 ts r.1) (λ m. Many m.0 ts m.1) (part ts e)
          (λ r h. in_front-sound r.0 ts r.1 (rest r.1) h (λ ms vs g. behind r.0 ms ts r.1 vs h g) (more r.1))
      chosen rest more false e = none ts

  pub separated-sound : ((ts : Tokens) → IfOk (one ts) (λ r. One r.0 ts r.1)) → ((x : A) (ts us : Tokens) → One x ts us → Many (x ∷ []) ts us) →
      ((x : A) (more : List A) (c : Span) (ts us vs : Tokens) → One x ts (mark m.Comma c ∷ us) → Many more us vs → Many (x ∷ more) ts vs) → (n : ℕ) (ts : Tokens) →
      IfOk (separated one n ts) (λ m. Many m.0 ts m.1)
  unfolding separated
  separated-sound part last behind zero ts = tt
  separated-sound part last behind (suc n) ts = ok_bind (one ts) (λ r. separated_at r (separated one n) (after m.Comma r.1)) (λ r. One r.0 ts r.1) (λ m. Many m.0 ts m.1) (part ts)
      (λ r h. comma (separated one n) (separated-sound part last behind n) r.0 r.1 (after m.Comma r.1) h (after_from m.Comma r.1 (λ us. One r.0 ts us) h))
    where
      comma : (rest : Tokens → Flat (List A)) → ((us : Tokens) → IfOk (rest us) (λ m. Many m.0 us m.1)) → (x : A) (us : Tokens) (r : Option Tokens) → One x ts us →
          IfSome r (λ vs. (c : Span) × One x ts (mark m.Comma c ∷ vs)) → IfOk (separated_at (x, us) rest r) (λ m. Many m.0 ts m.1)
      comma rest more x us None h g = last x ts us h
      comma rest more x us (Some vs) h g = joined x vs (rest vs) g.0 g.1 (more vs)
        where
          joined : (x : A) (vs : Tokens) (r : Flat (List A)) (c : Span) → One x ts (mark m.Comma c ∷ vs) → IfOk r (λ m. Many m.0 vs m.1) → IfOk (in_front x r) (λ m. Many m.0 ts m.1)
          joined x vs (Err e) c g more = tt
          joined x vs (Ok r) c g more = behind x r.0 c ts vs r.1 g more

-- attributes

attr_argument-sound : (x : Name) (s : Span) (ts : Tokens) (r : Option Tokens) → IfSome r (λ us. (p : Span) × (ts ≡ mark m.LParen p ∷ us)) →
    IfOk (attr_argument x ts r) (λ a. IsAttrWord a.0 (ident x s ∷ ts) a.1)
attr_argument-sound x s ts None h = AttrName x s ts
attr_argument-sound x s ts (Some us) h = name_from us (λ y. eat m.RParen y.1 >>= λ vs. Ok ((x, Some y.0), vs)) (λ z. ts ≡ mark m.LParen h.0 ∷ z) (λ a. IsAttrWord a.0 (ident x s ∷ ts) a.1) h.1
    (λ y r vs g. eat_from m.RParen vs (λ z. Ok ((x, Some y), z)) (λ z. ts ≡ mark m.LParen h.0 ∷ ident y r ∷ z) (λ a. IsAttrWord a.0 (ident x s ∷ ts) a.1) g
    (λ q us f. subst (λ z. IsAttrWord (x, Some y) (ident x s ∷ z) us) (sym f) (AttrCall x y s h.0 r q us)))

attr_word-sound : (ts : Tokens) → IfOk (attr_word ts) (λ a. IsAttrWord a.0 ts a.1)
unfolding attr_word
attr_word-sound ts = name_from ts (λ x. attr_argument x.0 x.1 (after m.LParen x.1)) (λ z. ts ≡ z) (λ a. IsAttrWord a.0 ts a.1) refl
    (λ x s us e. rw e (attr_argument-sound x s us (after m.LParen us) (after_from m.LParen us (λ z. us ≡ z) refl)))

pub attr_words-sound : (ts : Tokens) → IfOk (attr_words ts) (λ a. IsAttrWords a.0 ts a.1)
unfolding attr_words
attr_words-sound ts = separated-sound attr_word IsAttrWord IsAttrWords attr_word-sound LastAttrWord MoreAttrWords (turns ts) ts

-- the parentheses that close an attribute
abbrev closed : Tokens → List AttrWord × Tokens → Flat (At Attr)
closed all words = eat m.RParen words.1 >>= λ ws. eat m.RParen ws >>= λ rest. Ok (at all (record { words = words.0 }), rest)

closed-sound : (all : Tokens) (words : List AttrWord × Tokens) (P : Tokens → Type 0) → P words.1 →
    ((r t : Span) (us : Tokens) → P (mark m.RParen r ∷ mark m.RParen t ∷ us) → IsAttr (at all (record { words = words.0 })) all us) → IfOk (closed all words) (λ a. IsAttr a.0 all a.1)
closed-sound all words P h k = eat_from m.RParen words.1 (λ ws. eat m.RParen ws >>= λ rest. Ok (at all (record { words = words.0 }), rest)) P (λ a. IsAttr a.0 all a.1) h
    (λ r ws g. eat_from m.RParen ws (λ rest. Ok (at all (record { words = words.0 }), rest)) (λ z. P (mark m.RParen r ∷ z)) (λ a. IsAttr a.0 all a.1) g (λ t us f. k r t us f))

attr_behind : (s p q : Span) (vs : Tokens) (b : Bool) → IfOk (attr_list vs b >>= closed (word w.Attribute s ∷ mark m.LParen p ∷ mark m.LParen q ∷ vs))
    (λ a. IsAttr a.0 (word w.Attribute s ∷ mark m.LParen p ∷ mark m.LParen q ∷ vs) a.1)
attr_behind s p q vs true = closed-sound (word w.Attribute s ∷ mark m.LParen p ∷ mark m.LParen q ∷ vs) ([], vs) (λ z. vs ≡ z) refl
    (λ r t us e. subst (λ z. IsAttr (record { at = s.0; node = record { words = [] } }) (word w.Attribute s ∷ mark m.LParen p ∷ mark m.LParen q ∷ z) us) (sym e) (AttrOfNone s p q r t us))
attr_behind s p q vs false = ok_bind (attr_words vs) (closed (word w.Attribute s ∷ mark m.LParen p ∷ mark m.LParen q ∷ vs)) (λ words. IsAttrWords words.0 vs words.1)
    (λ a. IsAttr a.0 (word w.Attribute s ∷ mark m.LParen p ∷ mark m.LParen q ∷ vs) a.1) (attr_words-sound vs)
    (λ words h. closed-sound (word w.Attribute s ∷ mark m.LParen p ∷ mark m.LParen q ∷ vs) words (λ z. IsAttrWords words.0 vs z) h (λ r t us g. AttrOf words.0 s p q r t vs us g))

attr_at : (s : Span) (ts : Tokens) → IfOk (attr (word w.Attribute s ∷ ts)) (λ a. IsAttr a.0 (word w.Attribute s ∷ ts) a.1)
unfolding attr
attr_at s ts = eat_from m.LParen ts (λ us. eat m.LParen us >>= λ vs. attr_list vs (begins_with m.RParen vs) >>= closed (word w.Attribute s ∷ ts)) (λ z. ts ≡ z) (λ a. IsAttr a.0 (word w.Attribute s ∷ ts) a.1) refl
    (λ p us e. eat_from m.LParen us (λ vs. attr_list vs (begins_with m.RParen vs) >>= closed (word w.Attribute s ∷ ts)) (λ z. ts ≡ mark m.LParen p ∷ z) (λ a. IsAttr a.0 (word w.Attribute s ∷ ts) a.1) e
    (λ q vs e. subst (λ z. IfOk (attr_list vs (begins_with m.RParen vs) >>= closed (word w.Attribute s ∷ z)) (λ a. IsAttr a.0 (word w.Attribute s ∷ z) a.1)) (sym e) (attr_behind s p q vs (begins_with m.RParen vs))))

attr_kind : (n len : ℕ) (k : Kind) (ts : Tokens) → is_keyword_attribute k ≡ true → IfOk (attr (record { at = n; len = len; kind = k } ∷ ts)) (λ a. IsAttr a.0 (record { at = n; len = len; kind = k } ∷ ts) a.1)
attr_kind n len (kind.Keyword w.Attribute) ts h = attr_at (n, len) ts
attr_kind n len k ts h = cc

pub attr-sound : (ts : Tokens) → begins_attr ts ≡ true → IfOk (attr ts) (λ a. IsAttr a.0 ts a.1)
unfolding begins_attr
attr-sound [] h = cc
attr-sound (t ∷ ts) h = attr_kind t.at t.len t.kind ts h

-- where the word stands first
pub attr_word_first : (s : Span) (ts : Tokens) → begins_attr (word w.Attribute s ∷ ts) ≡ true
unfolding begins_attr
attr_word_first s ts = refl

pub attrs-sound : (ts : Tokens) → IfOk (attrs ts) (λ a. IsAttrs a.0 ts a.1)
unfolding attrs
attrs-sound ts = repeated-sound attr IsAttr IsAttrs begins_attr attr-sound NoAttr MoreAttrs (turns ts) ts
