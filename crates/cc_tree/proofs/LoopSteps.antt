-- One turn of a loop that reads parts: the equations of the reader's recursions, as the code takes them.
use Rattle.std.proofs.Common.{◌≡◌, ◌<◌, ◌-◌, ℕ, zero, suc, Bool, true, false, List, [], ◌∷◌, ◌++◌, Some, None, Ok, Err, refl, ap, sym, ◌∙◌, arith, append_assoc, sub-one}
use Rattle.std.proofs.lemmas.List.{append-nil}
use Rattle.cc_lex.specs.declared.token.Kind.{Kind}
use Rattle.cc_lex.specs.declared.token.Kind.TheVariants as kind
use Rattle.cc_lex.specs.declared.token.Mark.TheVariants as m
use Rattle.cc_lex.specs.declared.token.Token.{Token}
use Rattle.cc_words.specs.declared.word.Word.{Word}
use Rattle.cc_tree.specs.declared.stop.Stop.{Stop}
use Rattle.cc_tree.specs.ReadTypes.{texts, texts_at, qualifiers, qualifiers_at, qualifier_in_front}
use Rattle.cc_tree.specs.Terms.{is_qualifier}
use Rattle.cc_tree.specs.Tokens.{Tokens}
use Rattle.cc_tree.specs.Reading.{Flat, wrong, after, in_front, repeated, separated}

-- parts in front of others
abbrev pub behind : {A : Type 0} → List A → Flat (List A) → Flat (List A)
behind a (Err e) = Err e
behind a (Ok r) = Ok (a ++ r.0, r.1)

pub behind-front : {A : Type 0} (a : List A) (x : A) (r : Flat (List A)) → behind a (in_front x r) ≡ behind (a ++ x ∷ []) r
behind-front a x (Err e) = refl
behind-front a x (Ok r) = rw (append_assoc a (x ∷ []) r.0) refl

pub behind-end : {A : Type 0} (a : List A) (ts : Tokens) → behind a (Ok ([], ts)) ≡ Ok (a, ts)
behind-end a ts = rw (append-nil a) refl

pub behind-none : {A : Type 0} (r : Flat (List A)) → behind [] r ≡ r
behind-none (Err e) = refl
behind-none (Ok r) = refl

module _ {A : Type 0} (begins : Tokens → Bool) (one : Tokens → Flat A) where
  pub repeated-out : (n : ℕ) (ts : Tokens) → n ≡ 0 → repeated begins one n ts ≡ wrong ts
  unfolding repeated
  repeated-out zero ts h = refl
  repeated-out (suc n) ts h = absurd (omega arith)

  pub repeated-end : (n : ℕ) (ts : Tokens) → 0 < n → begins ts ≡ false → repeated begins one n ts ≡ Ok ([], ts)
  unfolding repeated
  repeated-end zero ts h k = absurd (omega arith)
  repeated-end (suc n) ts h k = rw k refl

  pub repeated-fault : (n : ℕ) (ts : Tokens) (e : Stop) → 0 < n → begins ts ≡ true → one ts ≡ Err e → repeated begins one n ts ≡ Err e
  unfolding repeated
  repeated-fault zero ts e h k l = absurd (omega arith)
  repeated-fault (suc n) ts e h k l = rw (k, l) refl

  pub repeated-more : (n : ℕ) (ts : Tokens) (x : A) (us : Tokens) → 0 < n → begins ts ≡ true → one ts ≡ Ok (x, us) → repeated begins one n ts ≡ in_front x (repeated begins one (n - 1) us)
  unfolding repeated
  repeated-more zero ts x us k l o = absurd (omega arith)
  repeated-more (suc n) ts x us k l o = rw (sub-one, l, o) refl

module _ {A : Type 0} (one : Tokens → Flat A) where
  pub separated-out : (n : ℕ) (ts : Tokens) → n ≡ 0 → separated one n ts ≡ wrong ts
  unfolding separated
  separated-out zero ts h = refl
  separated-out (suc n) ts h = absurd (omega arith)

  pub separated-fault : (n : ℕ) (ts : Tokens) (e : Stop) → 0 < n → one ts ≡ Err e → separated one n ts ≡ Err e
  unfolding separated
  separated-fault zero ts e h k = absurd (omega arith)
  separated-fault (suc n) ts e h k = rw k refl

  pub separated-last : (n : ℕ) (ts : Tokens) (x : A) (us : Tokens) → 0 < n → one ts ≡ Ok (x, us) → after m.Comma us ≡ None → separated one n ts ≡ Ok (x ∷ [], us)
  unfolding separated
  separated-last zero ts x us k l o = absurd (omega arith)
  separated-last (suc n) ts x us k l o = rw (l, o) refl

  pub separated-more : (n : ℕ) (ts : Tokens) (x : A) (us vs : Tokens) → 0 < n → one ts ≡ Ok (x, us) → after m.Comma us ≡ Some vs → separated one n ts ≡ in_front x (separated one (n - 1) vs)
  unfolding separated
  separated-more zero ts x us vs k l o = absurd (omega arith)
  separated-more (suc n) ts x us vs k l o = rw (sub-one, l, o) refl

-- What a turn of a loop keeps: the parts so far, in front of what is still read, are what is read.
module _ {A : Type 0} (a b : List A) (x : A) (n : ℕ) (ts us : Tokens) (s : Flat (List A)) (more : 0 < n) (grows : b ≡ a ++ x ∷ []) where
  pub repeated-kept : (begins : Tokens → Bool) (one : Tokens → Flat A) → behind a (repeated begins one n ts) ≡ s → begins ts ≡ true → one ts ≡ Ok (x, us) → behind b (repeated begins one (n - 1) us) ≡ s
  repeated-kept begins one i e f = rw (grows, ← behind-front a x (repeated begins one (n - 1) us), ← repeated-more begins one n ts x us more e f) i

  pub separated-kept : (one : Tokens → Flat A) (vs : Tokens) → behind a (separated one n ts) ≡ s → one ts ≡ Ok (x, us) → after m.Comma us ≡ Some vs → behind b (separated one (n - 1) vs) ≡ s
  separated-kept one vs i e f = rw (grows, ← behind-front a x (separated one (n - 1) vs), ← separated-more one n ts x us vs more e f) i

  pub separated-done : (one : Tokens → Flat A) → behind a (separated one n ts) ≡ s → one ts ≡ Ok (x, us) → after m.Comma us ≡ None → s ≡ Ok (b, us)
  separated-done one i e f = rw grows (sym i ∙ ap (behind a) (separated-last one n ts x us more e f))

-- how a loop ends, given what it has kept
module _ {A : Type 0} (a : List A) (n : ℕ) (ts : Tokens) (s : Flat (List A)) where
  pub repeated-done : (begins : Tokens → Bool) (one : Tokens → Flat A) → behind a (repeated begins one n ts) ≡ s → 0 < n → begins ts ≡ false → s ≡ Ok (a, ts)
  repeated-done begins one i m e = sym i ∙ ap (behind a) (repeated-end begins one n ts m e) ∙ behind-end a ts

  pub repeated-failed : (begins : Tokens → Bool) (one : Tokens → Flat A) (e : Stop) → behind a (repeated begins one n ts) ≡ s → 0 < n → begins ts ≡ true → one ts ≡ Err e → s ≡ Err e
  repeated-failed begins one e i m f g = sym i ∙ ap (behind a) (repeated-fault begins one n ts e m f g)

  pub repeated-spent : (begins : Tokens → Bool) (one : Tokens → Flat A) → behind a (repeated begins one n ts) ≡ s → n ≡ 0 → s ≡ wrong ts
  repeated-spent begins one i e = sym i ∙ ap (behind a) (repeated-out begins one n ts e)

  pub separated-failed : (one : Tokens → Flat A) (e : Stop) → behind a (separated one n ts) ≡ s → 0 < n → one ts ≡ Err e → s ≡ Err e
  separated-failed one e i m g = sym i ∙ ap (behind a) (separated-fault one n ts e m g)

  pub separated-spent : (one : Tokens → Flat A) → behind a (separated one n ts) ≡ s → n ≡ 0 → s ≡ wrong ts
  separated-spent one i e = sym i ∙ ap (behind a) (separated-out one n ts e)

pub ruleset of_repeated = (repeated-kept, repeated-done, repeated-failed, repeated-spent, behind-none)

pub ruleset of_separated = (separated-kept, separated-done, separated-failed, separated-spent, behind-none)

-- what is read without a fault: items in front of others
abbrev pub joined : {A : Type 0} → List A → List A × Tokens → List A × Tokens
joined a r = (a ++ r.0, r.1)

pub joined-front : {A : Type 0} (a b : List A) (r : List A × Tokens) → joined a (joined b r) ≡ joined (a ++ b) r
joined-front a b r = rw (append_assoc a b r.0) refl

pub joined-end : {A : Type 0} (a : List A) (ts : Tokens) → joined a ([], ts) ≡ (a, ts)
joined-end a ts = rw (append-nil a) refl

-- literals, and qualifiers, as the code reads them
pub texts-kept : (a b c : List ℕ) (t : Token) (ts : Tokens) (s : List ℕ × Tokens) → joined a (texts (t ∷ ts)) ≡ s → t.kind ≡ kind.Text b → c ≡ a ++ b → joined c (texts ts) ≡ s
texts-kept a b c t ts s i e g = rw g (sym (joined-front a b (texts ts)) ∙ ap (λ (k : Kind). joined a (texts_at (t ∷ ts) k (texts ts))) (sym e) ∙ i)

pub qualifiers-kept : (a c : List Word) (q : Word) (t : Token) (ts : Tokens) (s : List Word × Tokens) → joined a (qualifiers (t ∷ ts)) ≡ s → t.kind ≡ kind.Keyword q → is_qualifier q ≡ true → c ≡ a ++ q ∷ [] →
    joined c (qualifiers ts) ≡ s
qualifiers-kept a c q t ts s i e f g = rw g (sym (joined-front a (q ∷ []) (qualifiers ts)) ∙ ap (λ (b : Bool). joined a (qualifier_in_front q (t ∷ ts) (qualifiers ts) b)) (sym f)
    ∙ ap (λ (k : Kind). joined a (qualifiers_at k (t ∷ ts) (qualifiers ts))) (sym e) ∙ i)

pub ruleset of_joined = (texts-kept, qualifiers-kept, joined-end)
