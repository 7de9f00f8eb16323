-- With n - 1 of m bits, n - 1 < 2^m and 2^m < 2 n: so n ≤ 2^m, and 2^b ≥ n for no b below m.
use Rattle.std.proofs.Common.{◌≡◌, ℕ, suc, ◌-◌, ◌<◌, ◌≤◌, ◌^◌, arith, pow_mono, ⊎_elim}
use Rattle.std.proofs.Math.Nat.{two-pow-succ}
use Rattle.std.proofs.lemmas.Nat.{leading_length}
use Rattle.std.proofs.lemmas.Bool.{cases_lt}
use lib.Count.{count_leading_zeros}
use Rattle.cc_num.proofs.bits.bits_for.Goals as goal

wide : (n : ℕ) → n < 2 ^ 128 → n - 1 < 2 ^ 128
wide n h = omega arith

enough : (n : ℕ) → 1 ≤ n → n - 1 < 2 ^ 128 → n ≤ 2 ^ (128 - count_leading_zeros 128 (n - 1))
enough n some h =
    let l = leading_length 128 (n - 1) h in
    let m : 128 - count_leading_zeros 128 (n - 1) ≡ l.0 = let sum = l.1 in omega arith in
    let below = l.2 in
    rw m (omega arith)

least : (n b : ℕ) → 1 ≤ n → n - 1 < 2 ^ 128 → n ≤ 2 ^ b → 128 - count_leading_zeros 128 (n - 1) ≤ b
least n b some h fits =
    let l = leading_length 128 (n - 1) h in
    let sum = l.1 in
    let above = l.3 in
    ⊎_elim
    (λ less. let up : 2 ^ (suc b) ≤ 2 ^ l.0 = pow_mono less in let twice = two-pow-succ b in absurd (omega arith))
    (λ done. omega arith)
    (cases_lt b l.0)

pub returns-clause-enough : goal.returns-clause-enough
returns-clause-enough c = enough c.args.n c.requires (wide c.args.n c.ranges.n.fits)

pub returns-clause-least : goal.returns-clause-least
returns-clause-least c = λ b fits. least c.args.n b c.requires (wide c.args.n c.ranges.n.fits) fits
