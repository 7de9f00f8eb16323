-- The residue modulo 2^w among the numbers of w bits: it is one of them, and a number of w bits is
-- its own. A number and its Euclidean remainder differ by a multiple of 2^w, so a remainder may be
-- taken before anything is taken off.
use Rattle.std.proofs.Common.{◌≡◌, ℕ, zero, suc, ◌+◌, ◌*◌, ◌-◌, ◌/◌, ◌^◌, ◌%◌, ◌<◌, ◌≤◌, Bool, true, false, ℤ, pos, negsuc, ◌+ℤ◌, ◌-ℤ◌, ◌≤ℤ◌, ◌<ℤ◌, refl, sym, ap, ◌∙◌, arith, pow_pos, mod-lt, mod-eq_of_lt, div-add-mod', sub-one, mul-le-mul_left}
use Rattle.std.proofs.Math.Nat.{two-pow-succ}
use Rattle.std.proofs.lemmas.Int.{ints, int_rem_euclid_is}
use Rattle.std.specs.Int.{int_rem_euclid}
use borrow.Author.Differences.{up, down}
use Rattle.cc_num.specs.Integers.{least_of_bits, most_of_bits, residue_from}

-- 2^w is twice its half
pub halves : (w : ℕ) → 0 < w → 2 ^ w ≡ 2 ^ (w - 1) + 2 ^ (w - 1)
halves zero h = elim h [ ]
halves (suc n) h = rw sub-one (two-pow-succ n)

-- the remainder is a natural number below n
pub remainder : (v : ℤ) (n : ℕ) → 0 < n → (r : ℕ) × (int_rem_euclid v (pos n) ≡ pos r) × (r < n)
remainder (pos a) n h = (a % n, refl, mod-lt a h)
remainder (negsuc a) n h = (n - 1 - a % n, refl, omega arith)

-- v and its remainder differ by a multiple of n
pub apart : (v : ℤ) (n r : ℕ) → 0 < n → int_rem_euclid v (pos n) ≡ pos r → (j : ℕ) × (k : ℕ) × (v +ℤ pos (k * n) ≡ pos (r + j * n))
apart (pos a) n r h e = let s = div-add-mod' a n in (a / n, 0, omega (arith, ints))
apart (negsuc a) n r h e = let s = div-add-mod' a n in (0, a / n + 1, omega (arith, ints))

-- numbers that differ by a multiple of n have one remainder
pub remainder_same : (v u : ℤ) (n j k : ℕ) → 0 < n → v +ℤ pos (k * n) ≡ u +ℤ pos (j * n) → int_rem_euclid v (pos n) ≡ int_rem_euclid u (pos n)
remainder_same v u n j k h e =
    let t = down v + down u in
    let far : t * 1 ≤ t * n = mul-le-mul_left t h in
    let m = up v + (k + t) * n - down v in
    int_rem_euclid_is v (pos n) n (k + t) m h refl (omega (arith, ints)) ∙ sym (int_rem_euclid_is u (pos n) n (j + t) m h refl (omega (arith, ints)))

-- what is taken off may be taken off the remainder
pub remainder_less : (v c : ℤ) (n : ℕ) → 0 < n → int_rem_euclid (int_rem_euclid v (pos n) -ℤ c) (pos n) ≡ int_rem_euclid (v -ℤ c) (pos n)
remainder_less v c n h =
    let r = remainder v n h in
    let e = r.1 in
    let a = apart v n r.0 h e in
    let s = a.2 in
    remainder_same (int_rem_euclid v (pos n) -ℤ c) (v -ℤ c) n a.1 a.0 h (omega (arith, ints))

-- the residue is a number of w bits
pub residue_least : (s : Bool) (w : ℕ) (v : ℤ) → least_of_bits s w ≤ℤ residue_from (least_of_bits s w) w v
residue_least s w v = let r = remainder (v -ℤ least_of_bits s w) (2 ^ w) (pow_pos w) in let e = r.1 in omega (arith, ints)

pub residue_most : (s : Bool) (w : ℕ) (v : ℤ) → 0 < w → residue_from (least_of_bits s w) w v ≤ℤ most_of_bits s w
residue_most true w v h =
    let r = remainder (v -ℤ least_of_bits true w) (2 ^ w) (pow_pos w) in
    let e = r.1 in
    let below = r.2 in
    let two = halves w h in
    omega (arith, ints)
residue_most false w v h =
    let r = remainder (v -ℤ least_of_bits false w) (2 ^ w) (pow_pos w) in
    let e = r.1 in
    let below = r.2 in
    omega (arith, ints)

-- a natural number below n is its own remainder
pub remainder_small : (x : ℤ) (n : ℕ) → pos 0 ≤ℤ x → x <ℤ pos n → int_rem_euclid x (pos n) ≡ x
remainder_small (pos a) n low high = ap pos (mod-eq_of_lt (omega (arith, ints)))
remainder_small (negsuc a) n low high = absurd (omega (arith, ints))

-- a number of w bits is its own residue
pub residue_same : (s : Bool) (w : ℕ) (v : ℤ) → 0 < w → least_of_bits s w ≤ℤ v → v ≤ℤ most_of_bits s w → residue_from (least_of_bits s w) w v ≡ v
residue_same true w v h low high =
    let two = halves w h in
    let some = pow_pos (w - 1) in
    let e = remainder_small (v -ℤ least_of_bits true w) (2 ^ w) (omega (arith, ints)) (omega (arith, ints)) in
    omega (arith, ints)
residue_same false w v h low high =
    let some = pow_pos w in
    let e = remainder_small (v -ℤ least_of_bits false w) (2 ^ w) (omega (arith, ints)) (omega (arith, ints)) in
    omega (arith, ints)

-- the residue as it is computed, with the remainder taken first
pub residue_by_steps : (v least r s : ℤ) (w : ℕ) → r ≡ int_rem_euclid v (pos (2 ^ w)) → s ≡ int_rem_euclid (r -ℤ least) (pos (2 ^ w)) → least +ℤ s ≡ residue_from least w v
residue_by_steps v least r s w e f = ap (λ x. least +ℤ x) (f ∙ ap (λ x. int_rem_euclid (x -ℤ least) (pos (2 ^ w))) e ∙ remainder_less v least (2 ^ w) (pow_pos w))

-- a residue differs from the number by a multiple of 2^w
pub residue_alike : (least : ℤ) (w : ℕ) (v : ℤ) → int_rem_euclid (residue_from least w v) (pos (2 ^ w)) ≡ int_rem_euclid v (pos (2 ^ w))
residue_alike least w v =
    let r = remainder (v -ℤ least) (2 ^ w) (pow_pos w) in
    let e = r.1 in
    let a = apart (v -ℤ least) (2 ^ w) r.0 (pow_pos w) e in
    let s = a.2 in
    remainder_same (residue_from least w v) v (2 ^ w) a.1 a.0 (pow_pos w) (omega (arith, ints))
