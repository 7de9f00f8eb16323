-- Alignments are 1, 2 or 4. What `aligned` gives is the least multiple that is not below.
use Rattle.std.proofs.Common.{arith, ◌≡◌, ◌≤◌, ◌<◌, ◌+◌, ◌-◌, ◌%◌, ◌^◌, inl, inr, ℕ, max, refl, subst, sym}
use Rattle.cc_syntax.specs.Layout.{IsAlign, aligned}

pub align_cases : (P : ℕ → Type 0) → P 1 → P 2 → P 4 → (a : ℕ) → IsAlign a → P a
align_cases P one two four a (inl h) = subst P (sym h) one
align_cases P one two four a (inr (inl h)) = subst P (sym h) two
align_cases P one two four a (inr (inr h)) = subst P (sym h) four

pub aligned_low : (a n : ℕ) → IsAlign a → n ≤ aligned a n
unfolding aligned
aligned_low a n h = align_cases (λ a. n ≤ aligned a n) (omega arith) (omega arith) (omega arith) a h

pub aligned_high : (a n : ℕ) → IsAlign a → aligned a n < n + a
unfolding aligned
aligned_high a n h = align_cases (λ a. aligned a n < n + a) (omega arith) (omega arith) (omega arith) a h

pub aligned_multiple : (a n : ℕ) → IsAlign a → aligned a n % a ≡ 0
unfolding aligned
aligned_multiple a n h = align_cases (λ a. aligned a n % a ≡ 0) (omega arith) (omega arith) (omega arith) a h

pub aligned_least : (a n m : ℕ) → IsAlign a → n ≤ m → m % a ≡ 0 → aligned a n ≤ m
unfolding aligned
aligned_least a n m h low multiple =
    align_cases (λ a. m % a ≡ 0 → aligned a n ≤ m) (λ k. omega (arith, k, low)) (λ k. omega (arith, k, low)) (λ k. omega (arith, k, low)) a h multiple

pub align_positive : (a : ℕ) → IsAlign a → 0 < a
align_positive a h = align_cases (λ a. 0 < a) (omega arith) (omega arith) (omega arith) a h

pub max_align : (a b : ℕ) → IsAlign a → IsAlign b → IsAlign (max a b)
max_align a b h k =
    align_cases (λ a. IsAlign (max a b))
    (align_cases (λ b. IsAlign (max 1 b)) (inl refl) (inr (inl refl)) (inr (inr refl)) b k)
    (align_cases (λ b. IsAlign (max 2 b)) (inr (inl refl)) (inr (inl refl)) (inr (inr refl)) b k)
    (align_cases (λ b. IsAlign (max 4 b)) (inr (inr refl)) (inr (inr refl)) (inr (inr refl)) b k) a h

-- what stands behind n at its alignment ends at most 2 ^ 32 - 1 bytes behind, if its size is a multiple of
-- its alignment and below 2 ^ 32
pub behind_high : (a n size : ℕ) → IsAlign a → size % a ≡ 0 → size < 2 ^ 32 → aligned a n + size ≤ n + (2 ^ 32 - 1)
unfolding aligned
behind_high a n size h whole small =
    align_cases (λ a. size % a ≡ 0 → aligned a n + size ≤ n + (2 ^ 32 - 1)) (λ k. omega (arith, k, small)) (λ k. omega (arith, k, small)) (λ k. omega (arith, k, small)) a h whole

pub ruleset of_places = (align_positive, aligned_high)
