-- Where literals and comments close. A literal's length is found exactly where some content stands
-- before the quote, and then it is that content's; so it is with the first `*/` of a comment.
use Rattle.std.proofs.Common.{◌≡◌, ◌≢◌, ℕ, suc, ◌+◌, Bool, true, false, ◌&&◌, cond, eqb, List, [], ◌∷◌, ◌++◌, length, Option, Some, None, refl, ap, sym, ◌∙◌, subst, arith}
use Rattle.cc_lex.specs.Literals.{IsContent, NoByte, OneByte, Escaped}
use Rattle.cc_lex.specs.Separators.{has_close}
use Rattle.cc_lex.specs.Scan.{one_more, content_len, close_len}
use Rattle.cc_lex.proofs.Booleans.{and-true, and-false, or-false, eq-true, eq-false, eq-same, eq-other}

-- ---- literals

-- the quotes of C are no line feed and no backslash
pub record IsQuote (quote : ℕ) : Type 0 where
  pub no_feed : eqb quote 10 ≡ false
  pub no_backslash : eqb 92 quote ≡ false

pub content-len : (quote : ℕ) → IsQuote quote → (c rest : List ℕ) → IsContent quote c → content_len quote false (c ++ (quote ∷ rest)) ≡ Some (length c)
content-len quote q c rest (NoByte _) = rw (q.no_feed, eq-same quote) refl
content-len quote q c rest (OneByte _ b bs h k j i) =
    rw (eq-other b 10 j, eq-other b quote h, eq-other b 92 k, content-len quote q bs rest i) refl
content-len quote q c rest (Escaped _ b bs h i) =
    rw (q.no_backslash, eq-other b 10 h, content-len quote q bs rest i) refl

-- a text that is a content, a quote and a rest
pub record Closes (quote : ℕ) (text : List ℕ) (n : ℕ) : Type 0 where
  pub content : List ℕ
  pub rest : List ℕ
  pub whole : text ≡ content ++ (quote ∷ rest)
  pub size : n ≡ length content
  pub is : IsContent quote content

-- what an answer says of the text
abbrev pub ClosesAt : ℕ → List ℕ → Option ℕ → Type 0
ClosesAt quote text None = (content rest : List ℕ) → IsContent quote content → text ≡ content ++ (quote ∷ rest) → ⊥
ClosesAt quote text (Some n) = Closes quote text n

abbrev pub ClosesIfSome : ℕ → List ℕ → Option ℕ → Type 0
ClosesIfSome quote text None = Unit {0}
ClosesIfSome quote text (Some n) = Closes quote text n

with-byte : (quote b : ℕ) (bs : List ℕ) (r : Option ℕ) → b ≢ quote → b ≢ 92 → b ≢ 10 → ClosesIfSome quote bs r → ClosesIfSome quote (b ∷ bs) (one_more r)
with-byte quote b bs None h k j c = tt
with-byte quote b bs (Some n) h k j c = record {
  content = b ∷ c.content;
  rest = c.rest;
  whole = ap (λ (x : List ℕ). b ∷ x) c.whole;
  size = ap suc c.size;
  is = OneByte quote b c.content h k j c.is;
}

with-escape : (quote b : ℕ) (bs : List ℕ) (r : Option ℕ) → b ≢ 10 → ClosesIfSome quote bs r → ClosesIfSome quote (92 ∷ b ∷ bs) (one_more (one_more r))
with-escape quote b bs None h c = tt
with-escape quote b bs (Some n) h c = record {
  content = 92 ∷ b ∷ c.content;
  rest = c.rest;
  whole = ap (λ (x : List ℕ). 92 ∷ b ∷ x) c.whole;
  size = ap (λ (x : ℕ). suc (suc x)) c.size;
  is = Escaped quote b c.content h c.is;
}

-- behind a backslash
escaped-closes : (quote b : ℕ) (bs : List ℕ) (t : Bool) → eqb b 10 ≡ t → ClosesIfSome quote bs (content_len quote false bs) → ClosesIfSome quote (92 ∷ b ∷ bs) (one_more (cond t None (one_more (content_len quote false bs))))
escaped-closes quote b bs true e c = tt
escaped-closes quote b bs false e c = with-escape quote b bs (content_len quote false bs) (eq-false b 10 e) c

-- behind one byte
content-closes-at : (quote b : ℕ) (bs : List ℕ) (feed close back : Bool) → eqb b 10 ≡ feed → eqb b quote ≡ close → eqb b 92 ≡ back →
    ClosesIfSome quote bs (content_len quote false bs) → ClosesIfSome quote (92 ∷ bs) (one_more (content_len quote true bs)) →
    ClosesIfSome quote (b ∷ bs) (cond feed None (cond close (Some 0) (one_more (content_len quote back bs))))
content-closes-at quote b bs true close back e f g h k = tt
content-closes-at quote b bs false true back e f g h k = let i = eq-true b quote f in
    subst (λ (x : ℕ). Closes quote (x ∷ bs) 0) (sym i) (record { content = []; rest = bs; whole = refl; size = refl; is = NoByte quote })
content-closes-at quote b bs false false true e f g h k = let i = eq-true b 92 g in
    subst (λ (x : ℕ). ClosesIfSome quote (x ∷ bs) (one_more (content_len quote true bs))) (sym i) k
content-closes-at quote b bs false false false e f g h k = with-byte quote b bs (content_len quote false bs) (eq-false b quote f) (eq-false b 92 g) (eq-false b 10 e) h

content-closes : (quote : ℕ) (text : List ℕ) → ClosesIfSome quote text (content_len quote false text)
content-closes quote [] = tt
content-closes quote (b ∷ []) = content-closes-at quote b [] (eqb b 10) (eqb b quote) (eqb b 92) refl refl refl tt tt
content-closes quote (b ∷ c ∷ cs) = content-closes-at quote b (c ∷ cs) (eqb b 10) (eqb b quote) (eqb b 92) refl refl refl
    (content-closes quote (c ∷ cs)) (escaped-closes quote c cs (eqb c 10) refl (content-closes quote cs))

not-both : (r : Option ℕ) (n : ℕ) → r ≡ None → r ≡ Some n → ⊥
not-both r n h k = cc

open-or-closed : (quote : ℕ) → IsQuote quote → (text : List ℕ) (r : Option ℕ) → content_len quote false text ≡ r → ClosesIfSome quote text r → ClosesAt quote text r
open-or-closed quote q text None e c = λ content rest h k. not-both (content_len quote false text) (length content) e (ap (content_len quote false) k ∙ content-len quote q content rest h)
open-or-closed quote q text (Some n) e c = c

pub content-closes-is : (quote : ℕ) → IsQuote quote → (text : List ℕ) → ClosesAt quote text (content_len quote false text)
content-closes-is quote q text = open-or-closed quote q text (content_len quote false text) refl (content-closes quote text)

-- ---- comments

-- the same length, looked for by pairs of bytes
abbrev pub pair_len : List ℕ → Option ℕ
pair_len [] = None
pair_len (a ∷ []) = None
pair_len (a ∷ b ∷ rest) = cond (eqb a 42 && eqb b 47) (Some 2) (one_more (pair_len (b ∷ rest)))

one_more-cond : (t : Bool) (x y : Option ℕ) → one_more (cond t x y) ≡ cond t (one_more x) (one_more y)
one_more-cond true x y = refl
one_more-cond false x y = refl

pair_len-is : (a : ℕ) (bs : List ℕ) → pair_len (a ∷ bs) ≡ one_more (close_len (eqb a 42) bs)
pair_len-is a [] = refl
pair_len-is a (b ∷ bs) =
    ap (λ (r : Option ℕ). cond (eqb a 42 && eqb b 47) (Some 2) (one_more r)) (pair_len-is b bs)
    ∙ sym (one_more-cond (eqb a 42 && eqb b 47) (Some 1) (one_more (close_len (eqb b 42) bs)))

pub close_len-is : (text : List ℕ) → close_len false text ≡ pair_len text
close_len-is [] = refl
close_len-is (a ∷ bs) = sym (pair_len-is a bs)

pub no-close : (text : List ℕ) → has_close text ≡ false → pair_len text ≡ None
no-close [] h = refl
no-close (a ∷ []) h = refl
no-close (a ∷ b ∷ rest) h =
    let e = or-false (eqb a 42 && eqb b 47) (has_close (b ∷ rest)) h in
    rw (e.0, no-close (b ∷ rest) e.1) refl

pub close-len : (c rest : List ℕ) → has_close (c ++ 42 ∷ []) ≡ false → pair_len (c ++ (42 ∷ 47 ∷ rest)) ≡ Some (length c + 2)
close-len [] rest h = refl
close-len (a ∷ []) rest h = rw (and-false (eqb a 42)) refl
close-len (a ∷ b ∷ c) rest h =
    let e = or-false (eqb a 42 && eqb b 47) (has_close (b ∷ (c ++ 42 ∷ []))) h in
    let n : suc (suc (length c)) + 2 ≡ suc (suc (length c) + 2) = omega arith in
    rw (e.0, close-len (b ∷ c) rest e.1, n) refl

-- a text that is a comment's inside, its end and a rest
pub record Ends (text : List ℕ) (n : ℕ) : Type 0 where
  pub inside : List ℕ
  pub rest : List ℕ
  pub whole : text ≡ inside ++ (42 ∷ 47 ∷ rest)
  pub size : n ≡ length inside + 2
  pub first : has_close (inside ++ 42 ∷ []) ≡ false

abbrev pub EndsAt : List ℕ → Option ℕ → Type 0
EndsAt text None = has_close text ≡ false
EndsAt text (Some n) = Ends text n

one-more-inside : (a : ℕ) (bs inside rest : List ℕ) → (b : ℕ) (cs : List ℕ) → bs ≡ b ∷ cs → bs ≡ inside ++ (42 ∷ 47 ∷ rest) → (eqb a 42 && eqb b 47) ≡ false → has_close (inside ++ 42 ∷ []) ≡ false → has_close (a ∷ (inside ++ 42 ∷ [])) ≡ false
one-more-inside a bs [] rest b cs e f h k = rw (and-false (eqb a 42)) refl
one-more-inside a bs (c ∷ inside) rest b cs e f h k =
    let i : b ≡ c = cc in
    let j = subst (λ (x : ℕ). (eqb a 42 && eqb x 47) ≡ false) i h in
    rw (j, k) refl

with-front : (a b : ℕ) (bs : List ℕ) (t : Bool) (r : Option ℕ) → (eqb a 42 && eqb b 47) ≡ t → EndsAt (b ∷ bs) r → EndsAt (a ∷ b ∷ bs) (cond t (Some 2) (one_more r))
with-front a b bs true r e h =
    let f = and-true (eqb a 42) (eqb b 47) e in
    subst (λ (x : ℕ). Ends (x ∷ b ∷ bs) 2) (sym (eq-true a 42 f.0)) (subst (λ (x : ℕ). Ends (42 ∷ x ∷ bs) 2) (sym (eq-true b 47 f.1))
    (record { inside = []; rest = bs; whole = refl; size = refl; first = refl }))
with-front a b bs false None e h = rw (e, h) refl
with-front a b bs false (Some n) e h = record {
  inside = a ∷ h.inside;
  rest = h.rest;
  whole = ap (λ (x : List ℕ). a ∷ x) h.whole;
  size = ap suc h.size ∙ omega arith;
  first = one-more-inside a (b ∷ bs) h.inside h.rest b bs refl h.whole e h.first;
}

pub close-ends : (text : List ℕ) → EndsAt text (pair_len text)
close-ends [] = refl
close-ends (a ∷ []) = refl
close-ends (a ∷ b ∷ rest) = with-front a b rest (eqb a 42 && eqb b 47) (pair_len (b ∷ rest)) refl (close-ends (b ∷ rest))
