-- What tests of numbers mean.
use Rattle.std.proofs.Common.{◌≡◌, ◌<◌, ◌≤◌, ℕ, true, false, nat_eq, nat_le, arith}
use Rattle.std.proofs.lemmas.Bool.Decides.{nat_tests}

pub zero_of : (n : ℕ) → nat_eq n 0 ≡ true → n ≡ 0
zero_of n e = grind (arith, nat_tests)

pub some_of : (n : ℕ) → nat_eq n 0 ≡ false → 0 < n
some_of n e = grind (arith, nat_tests)

pub le_of : (m n : ℕ) → nat_le m n ≡ true → m ≤ n
le_of m n e = grind (arith, nat_tests)

pub above_of : (m n : ℕ) → nat_le m n ≡ false → n < m
above_of m n e = grind (arith, nat_tests)
