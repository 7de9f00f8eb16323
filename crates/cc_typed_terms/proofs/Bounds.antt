-- How many characters a string may have, so that with its zero it is an array (C99 6.7.5.2, 1).
use Rattle.std.proofs.Common.{◌≡◌, ℕ, ◌+◌, ◌<◌, ◌≤◌, true, false, arith}
use Rattle.cc_specifiers.specs.Bounds.{is_bound}

pub short-bound : (n : ℕ) → n < 65535 → is_bound (n + 1) ≡ true
short-bound n h = grind arith

pub long-bound : (n : ℕ) → 65535 ≤ n → is_bound (n + 1) ≡ false
long-bound n h = grind arith

pub ruleset of_bounds = (short-bound, long-bound)
