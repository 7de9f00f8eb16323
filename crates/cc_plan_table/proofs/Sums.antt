-- Products and sums that have their place in 128 bits.
use Rattle.std.proofs.Common.{◌≤◌, ◌<◌, ◌*◌, ◌-◌, ◌^◌, ℕ, arith}
use Rattle.std.proofs.lemmas.Nat.{mul-le}

pub product_small : (a b : ℕ) → a < 2 ^ 64 → b < 2 ^ 32 → a * b < 2 ^ 96
product_small a b h k = let m = mul-le a b (2 ^ 64 - 1) (2 ^ 32 - 1) (omega (arith, h)) (omega (arith, k)) in omega (arith, m)
