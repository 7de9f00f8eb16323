-- Ascending pairs of registers and tracked cells are no more than there are pairs: their numbers, row by row, ascend below that.
use Rattle.std.proofs.Common.{arith, ◌≡◌, inl, inr, ℕ, suc, ◌+◌, ◌-◌, ◌*◌, ◌<◌, ◌≤◌, List, [], ◌∷◌, length, ap, mul-le-mul_right, suc-mul}
use Rattle.std.specs.List.{AllByRecursion}
use Rattle.cc_state_reads.specs.CcStateFacts.Orders.{IsBefore, Ascend}

abbrev number : ℕ → ℕ × ℕ → ℕ
number cells q = q.0 * cells + q.1

-- a pair of a register and a cell of so many
abbrev pub IsInRange : ℕ → ℕ → ℕ × ℕ → Type 0
IsInRange registers cells q = (q.0 < registers) × (q.1 < cells)

rows_before : (cells a b i j : ℕ) → a < b → i < cells → a * cells + i < b * cells + j
rows_before cells a b i j l h =
    let m : suc a * cells ≤ b * cells = mul-le-mul_right cells (let k : suc a ≤ b = omega (arith, l) in k) in
    let s = suc-mul a cells in
    omega (arith, m, s, h)

in_order : (cells : ℕ) (p q : ℕ × ℕ) → p.1 < cells → IsBefore p q → number cells p < number cells q
in_order cells p q h (inl l) = rows_before cells p.0 q.0 p.1 q.1 l h
in_order cells p q h (inr e) = let same = e.0 in let l = e.1 in same_row p.0 q.0 same l
  where
    same_row : (a b : ℕ) → a ≡ b → p.1 < q.1 → a * cells + p.1 < b * cells + q.1
    same_row a b e l = let k = ap (λ n. n * cells) e in omega (arith, k, l)

later_numbers : (cells : ℕ) (p : ℕ × ℕ) (pairs : List (ℕ × ℕ)) → p.1 < cells → AllByRecursion (IsBefore p) pairs → AllByRecursion (λ q. suc (number cells p) ≤ number cells q) pairs
later_numbers cells p [] h k = tt
later_numbers cells p (q ∷ pairs) h k = ((let l = in_order cells p q h k.0 in omega (arith, l)), later_numbers cells p pairs h k.1)

last_number : (registers cells : ℕ) (q : ℕ × ℕ) → IsInRange registers cells q → number cells q < registers * cells
last_number registers cells q h = let l = rows_before cells q.0 registers q.1 0 h.0 h.1 in omega (arith, l)

counted : (registers cells low : ℕ) (pairs : List (ℕ × ℕ)) → Ascend pairs → AllByRecursion (IsInRange registers cells) pairs → AllByRecursion (λ q. low ≤ number cells q) pairs → length pairs ≤ registers * cells - low
counted registers cells low [] a r l = omega arith
counted registers cells low (q ∷ pairs) a r l =
    let n = counted registers cells (suc (number cells q)) pairs a.1 r.1 (later_numbers cells q pairs r.0.1 a.0) in
    let last = last_number registers cells q r.0 in
    let first = l.0 in
    omega (arith, n, last, first)

from_zero : (cells : ℕ) (pairs : List (ℕ × ℕ)) → AllByRecursion (λ q. 0 ≤ number cells q) pairs
from_zero cells [] = tt
from_zero cells (q ∷ pairs) = (omega arith, from_zero cells pairs)

pub few_pairs : (registers cells : ℕ) (pairs : List (ℕ × ℕ)) → Ascend pairs → AllByRecursion (IsInRange registers cells) pairs → length pairs ≤ registers * cells
few_pairs registers cells pairs a r = let n = counted registers cells 0 pairs a r (from_zero cells pairs) in omega (arith, n)
