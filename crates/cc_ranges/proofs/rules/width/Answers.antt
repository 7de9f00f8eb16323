-- A number below 2^b has b bits at the most.
use Rattle.std.proofs.Common.{ℕ, suc, ◌-◌, ◌<◌, ◌≤◌, ◌^◌, arith, pow_mono, ⊎_elim}
use Rattle.std.proofs.Math.Nat.{two-pow-succ}
use Rattle.std.proofs.lemmas.Nat.{leading_length}
use Rattle.std.proofs.lemmas.Int.{ints}
use Rattle.std.proofs.lemmas.Bool.{cases_lt}
use lib.Count.{count_leading_zeros}
use Rattle.cc_ranges.proofs.rules.width.Goals as goal

few_bits : (n b : ℕ) → n < 2 ^ 128 → n < 2 ^ b → 128 - count_leading_zeros 128 n ≤ b
few_bits n b h small =
    let l = leading_length 128 n h in
    let sum = l.1 in
    let above = l.3 in
    ⊎_elim
    (λ less. let up : 2 ^ (suc b) ≤ 2 ^ l.0 = pow_mono less in let twice = two-pow-succ b in absurd (omega arith))
    (λ done. omega arith)
    (cases_lt b l.0)

pub returns-clause-most : goal.returns-clause-most
returns-clause-most c =
    let small : c.unsigned_abs.result < 2 ^ 64 = omega (arith, ints, c.unsigned_abs.ensures.value, c.requires.least, c.requires.most) in
    few_bits c.unsigned_abs.result 64 (omega arith) small
