-- Counts up to the end of their type: sums and products of them say of the counts what the counts themselves say.
use Rattle.std.proofs.Common.{arith, ◌≡◌, ◌<◌, ◌≤◌, ◌+◌, ◌*◌, ◌-◌, ◌^◌, ℕ, zero, suc, ap, sym, ◌∙◌, ◌⊎◌, inl, inr}
use Rattle.std.proofs.Math.Nat.{le-mul_of_pos_right, mul-zero}
use Rattle.std.proofs.lemmas.Bool.{cases_lt}
use Rattle.cc_slots_structures.specs.Copies.{capped}

pub capped-capped : (n : ℕ) → capped (capped n) ≡ capped n
capped-capped n = omega arith

pub capped-sum : (a b c d : ℕ) → capped a ≡ capped c → capped b ≡ capped d → capped (a + b) ≡ capped (c + d)
capped-sum a b c d h k = omega (arith, h, k)

high : (a n : ℕ) → 2 ^ 32 - 1 ≤ a → capped (a * suc n) ≡ 2 ^ 32 - 1
high a n h = let up : a ≤ a * suc n = le-mul_of_pos_right a (omega arith) in omega (arith, h, up)

times-pos : (a c n : ℕ) → capped a ≡ capped c → (a < 2 ^ 32 - 1) ⊎ (2 ^ 32 - 1 ≤ a) → capped (a * suc n) ≡ capped (c * suc n)
times-pos a c n h (inl low) = let e : a ≡ c = omega (arith, h, low) in ap (λ x. capped (x * suc n)) e
times-pos a c n h (inr past) = high a n past ∙ sym (high c n (omega (arith, h, past)))

pub capped-times : (a c n : ℕ) → capped a ≡ capped c → capped (a * n) ≡ capped (c * n)
capped-times a c zero h = ap capped (mul-zero a ∙ sym (mul-zero c))
capped-times a c (suc n) h = times-pos a c n h (cases_lt a (2 ^ 32 - 1))
