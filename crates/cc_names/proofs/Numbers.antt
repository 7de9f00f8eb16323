-- The least number that passes a test, found by trying one after the other.
use Rattle.std.proofs.Common.{◌≡◌, ◌∙◌, ◌+◌, ◌<◌, ◌≤◌, ◌⊎◌, inl, inr, ℕ, zero, suc, Bool, true, false, Some, None, refl, ap, sym, true≢false, arith}
use Rattle.std.specs.Prelude.{find}
use Rattle.std.proofs.lemmas.Bool.{cases_lt}
use Rattle.cc_names.specs.Names.{numbers_from}

abbrev pub Fail : (ℕ → Bool) → ℕ → ℕ → Type 0
Fail p from end = (i : ℕ) → from ≤ i → i < end → p i ≡ false

pub find-none : (p : ℕ → Bool) (n from : ℕ) → Fail p from (from + n) → find p (numbers_from from n) ≡ None
find-none p zero from fail = refl
find-none p (suc n) from fail = rw (fail from (omega arith) (omega arith)) (find-none p n (suc from) (λ i low high. fail i (omega (arith, low)) (omega (arith, high))))

pub find-number : (p : ℕ → Bool) (n from k : ℕ) → from ≤ k → k < from + n → p k ≡ true → Fail p from k → find p (numbers_from from n) ≡ Some k
find-number p zero from k low high passes fail = absurd (omega (arith, low, high))
find-number p (suc n) from k low high passes fail =
    by (p from) refl (λ lower. find-number p n (suc from) k lower (omega (arith, high)) passes (λ i l h. fail i (omega (arith, l)) h))
  where
    by : (b : Bool) → p from ≡ b → (suc from ≤ k → find p (numbers_from (suc from) n) ≡ Some k) → find p (numbers_from from (suc n)) ≡ Some k
    by true e rest = rw e (at_first (cases_lt from k))
      where
        at_first : (from < k) ⊎ (k ≤ from) → Some from ≡ Some k
        at_first (inl less) = absurd (true≢false (sym e ∙ fail from (omega arith) less))
        at_first (inr more) = ap Some (omega (arith, low, more))
    by false e rest = rw e (rest (later (cases_lt from k)))
      where
        later : (from < k) ⊎ (k ≤ from) → suc from ≤ k
        later (inl less) = omega (arith, less)
        later (inr more) = let same : from ≡ k = omega (arith, low, more) in absurd (true≢false (sym passes ∙ ap p (sym same) ∙ e))
