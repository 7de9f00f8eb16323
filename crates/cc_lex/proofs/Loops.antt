-- The steps of the scanning loops. Each loop keeps that what it still has to find behind its index makes
-- up, with what it has passed, what there is to find in the whole text.
use Rattle.std.proofs.Common.{◌≡◌, ℕ, zero, suc, ◌+◌, ◌*◌, ◌<◌, ◌≤◌, min, Bool, true, false, ◌&&◌, not, cond, eqb, List, [], ◌∷◌, length, get_or, take, drop, Option, Some, None, refl, ap, sym, ◌∙◌, arith, add-zero, zero-add}
use Rattle.std.proofs.Common.{inl, inr}
use Rattle.std.proofs.lemmas.Bool.{cases_lt}
use Rattle.std.proofs.Math.Nat.{le-mul_of_pos_right, mul-le-mul_right}
use Rattle.std.proofs.lemmas.List.Sums.{fold_more}
use Rattle.cc_lex.specs.Numbers.{digit_value}
use Rattle.cc_lex.specs.ScanParts.{goes_on, value_of}
use Rattle.cc_lex.specs.Scan.{run_len, one_more, close_len, content_len}

-- ---- runs

pub run_len-step : (before : ℕ) (text : List ℕ) (n : ℕ) → n < length text → run_len before (drop n text) ≡ cond (goes_on before (get_or text n 0)) (suc (run_len (get_or text n 0) (drop (n + 1) text))) 0
run_len-step before [] n h = absurd (omega arith)
run_len-step before (b ∷ bs) zero h = refl
run_len-step before (b ∷ bs) (suc n) h =
    let k : n < length bs = omega arith in
    let e : suc n + 1 ≡ suc (n + 1) = omega arith in
    rw e (run_len-step before bs n k)

pub run_len-end : (before : ℕ) (text : List ℕ) (n : ℕ) → length text ≤ n → run_len before (drop n text) ≡ 0
run_len-end before [] zero h = refl
run_len-end before [] (suc n) h = refl
run_len-end before (b ∷ bs) zero h = absurd (omega arith)
run_len-end before (b ∷ bs) (suc n) h = run_len-end before bs n (omega arith)

pub ruleset of_runs = (run_len-step, run_len-end)

-- ---- places that are looked for

-- n bytes more
abbrev pub more : ℕ → Option ℕ → Option ℕ
more n None = None
more n (Some k) = Some (n + k)

more-one : (n : ℕ) (r : Option ℕ) → more n (one_more r) ≡ more (n + 1) r
more-one n None = refl
more-one n (Some k) = let e : n + suc k ≡ n + 1 + k = omega arith in rw e refl

one_more-more : (n : ℕ) (r : Option ℕ) → more (suc n) r ≡ one_more (more n r)
one_more-more n None = refl
one_more-more n (Some k) = let e : suc n + k ≡ suc (n + k) = omega arith in rw e refl

one_more-cond : (b : Bool) (x y : Option ℕ) → one_more (cond b x y) ≡ cond b (one_more x) (one_more y)
one_more-cond true x y = refl
one_more-cond false x y = refl

more-cond : (n : ℕ) (b : Bool) (x y : Option ℕ) → more n (cond b x y) ≡ cond b (more n x) (more n y)
more-cond n true x y = refl
more-cond n false x y = refl

close_len-at : (star : Bool) (text : List ℕ) (n : ℕ) → n < length text → close_len star (drop n text) ≡ cond (star && eqb (get_or text n 0) 47) (Some 1) (one_more (close_len (eqb (get_or text n 0) 42) (drop (n + 1) text)))
close_len-at star [] n h = absurd (omega arith)
close_len-at star (b ∷ bs) zero h = refl
close_len-at star (b ∷ bs) (suc n) h =
    let k : n < length bs = omega arith in
    let e : suc n + 1 ≡ suc (n + 1) = omega arith in
    rw e (close_len-at star bs n k)

pub close_len-step : (star : Bool) (text : List ℕ) (n : ℕ) → n < length text → more n (close_len star (drop n text)) ≡ cond (star && eqb (get_or text n 0) 47) (Some (n + 1)) (more (n + 1) (close_len (eqb (get_or text n 0) 42) (drop (n + 1) text)))
close_len-step star text n h =
    let b = get_or text n 0 in
    let rest = close_len (eqb b 42) (drop (n + 1) text) in
    ap (more n) (close_len-at star text n h) ∙ more-cond n (star && eqb b 47) (Some 1) (one_more rest) ∙ ap (λ (r : Option ℕ). cond (star && eqb b 47) (Some (n + 1)) r) (more-one n rest)

pub close_len-end : (star : Bool) (text : List ℕ) (n : ℕ) → length text ≤ n → more n (close_len star (drop n text)) ≡ None
close_len-end star [] zero h = refl
close_len-end star [] (suc n) h = refl
close_len-end star (b ∷ bs) zero h = absurd (omega arith)
close_len-end star (b ∷ bs) (suc n) h = one_more-more n (close_len star (drop n bs)) ∙ ap one_more (close_len-end star bs n (omega arith))

pub more-none : (r : Option ℕ) → more 0 r ≡ r
more-none None = refl
more-none (Some k) = ap Some (zero-add k)

pub ruleset of_closes = (close_len-step, close_len-end, more-none)

content_len-at : (quote : ℕ) (escaped : Bool) (text : List ℕ) (n : ℕ) → n < length text → content_len quote escaped (drop n text) ≡
    cond (eqb (get_or text n 0) 10) None (cond (not escaped && eqb (get_or text n 0) quote) (Some 0)
    (one_more (content_len quote (not escaped && eqb (get_or text n 0) 92) (drop (n + 1) text))))
content_len-at quote escaped [] n h = absurd (omega arith)
content_len-at quote escaped (b ∷ bs) zero h = refl
content_len-at quote escaped (b ∷ bs) (suc n) h =
    let k : n < length bs = omega arith in
    let e : suc n + 1 ≡ suc (n + 1) = omega arith in
    rw e (content_len-at quote escaped bs n k)

pub content_len-step : (quote : ℕ) (escaped : Bool) (text : List ℕ) (n : ℕ) → n < length text → more n (content_len quote escaped (drop n text)) ≡
    cond (eqb (get_or text n 0) 10) None (cond (not escaped && eqb (get_or text n 0) quote) (Some n)
    (more (n + 1) (content_len quote (not escaped && eqb (get_or text n 0) 92) (drop (n + 1) text))))
content_len-step quote escaped text n h =
    let b = get_or text n 0 in
    let rest = content_len quote (not escaped && eqb b 92) (drop (n + 1) text) in
    ap (more n) (content_len-at quote escaped text n h)
    ∙ more-cond n (eqb b 10) None (cond (not escaped && eqb b quote) (Some 0) (one_more rest))
    ∙ ap (λ (r : Option ℕ). cond (eqb b 10) None r)
    (more-cond n (not escaped && eqb b quote) (Some 0) (one_more rest)
    ∙ ap (λ (k : ℕ). cond (not escaped && eqb b quote) (Some k) (more n (one_more rest))) (add-zero n)
    ∙ ap (λ (r : Option ℕ). cond (not escaped && eqb b quote) (Some n) r) (more-one n rest))

pub content_len-end : (quote : ℕ) (escaped : Bool) (text : List ℕ) (n : ℕ) → length text ≤ n → more n (content_len quote escaped (drop n text)) ≡ None
content_len-end quote escaped [] zero h = refl
content_len-end quote escaped [] (suc n) h = refl
content_len-end quote escaped (b ∷ bs) zero h = absurd (omega arith)
content_len-end quote escaped (b ∷ bs) (suc n) h = one_more-more n (content_len quote escaped (drop n bs)) ∙ ap one_more (content_len-end quote escaped bs n (omega arith))

pub ruleset of_contents = (content_len-step, content_len-end, more-none)

-- ---- values

-- a cap is no worse before a step than behind it
capped-step : (v base d cap : ℕ) → 0 < base → min (min v cap * base + d) cap ≡ min (v * base + d) cap
capped-step v base d cap h = elim (cases_lt v cap) [ inl k ↦ below v base d cap k | inr k ↦ above v base d cap h k ]
  where
    below : (v base d cap : ℕ) → v < cap → min (min v cap * base + d) cap ≡ min (v * base + d) cap
    below v base d cap k = let e : min v cap ≡ v = omega arith in rw e refl

    above : (v base d cap : ℕ) → 0 < base → cap ≤ v → min (min v cap * base + d) cap ≡ min (v * base + d) cap
    above v base d cap h k =
        let e : min v cap ≡ cap = omega arith in
        let p : cap ≤ cap * base = le-mul_of_pos_right cap h in
        let q : cap * base ≤ v * base = mul-le-mul_right base k in
        rw e (omega (arith, p, q))

pub capped_more : (base : ℕ) (digits : List ℕ) (n cap : ℕ) → 0 < base → n < length digits →
    min (min (value_of base (take n digits)) cap * base + digit_value (get_or digits n 0)) cap ≡ min (value_of base (take (n + 1) digits)) cap
unfolding value_of
capped_more base digits n cap h k =
    let before = value_of base (take n digits) in
    let d = digit_value (get_or digits n 0) in
    capped-step before base d cap h ∙ ap (λ (v : ℕ). min v cap) (sym (fold_more (λ v b. v * base + digit_value b) 0 digits n 0 k))
