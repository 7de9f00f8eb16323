-- The least range that has two ends far apart, from the least numbers of bits that tell them.
use Rattle.std.proofs.Common.{◌≡◌, ℕ, ◌+◌, ◌-◌, ◌^◌, ◌≤◌, max, Bool, true, false, ℤ, pos, neg_ℤ, ◌+ℤ◌, ◌≤ℤ◌, ◌<ℤ◌, subst, sym, refl, arith, pow_mono, pow_pos}
use Rattle.std.specs.Int.{int_max}
use Rattle.std.proofs.lemmas.Int.{ints, clamps}
use Rattle.cc_num.specs.Integers.{least_of_bits, most_of_bits}
use Rattle.cc_sets.specs.Ranges.{IsSpread, AreLeastBits}
use Rattle.cc_num.proofs.Residues.{halves}

-- b is the least number of bits with n at most 2^b
pub record AreBitsFor (n b : ℕ) : Type 0 where
  pub enough : n ≤ 2 ^ b
  pub least : (k : ℕ) → n ≤ 2 ^ k → b ≤ k

unsigned_least : (low high : ℤ) (n b : ℕ) → pos 0 ≤ℤ low → IsSpread low high → pos n ≡ high +ℤ pos 1 → AreBitsFor n b
    → (t : Bool) (k : ℕ) → least_of_bits t k ≤ℤ low → high ≤ℤ most_of_bits t k → (least_of_bits t k ≤ℤ pos 0) × (pos (2 ^ b - 1) ≤ℤ most_of_bits t k)
unsigned_least low high n b up s e p true k h g =
    let w = s.wide in
    let some = pow_pos (k - 1) in
    let l : b ≤ k - 1 = p.least (k - 1) (omega (arith, ints)) in
    let m : 2 ^ b ≤ 2 ^ (k - 1) = pow_mono l in
    (omega (arith, ints), omega (arith, ints))
unsigned_least low high n b up s e p false k h g =
    let w = s.wide in
    let some = pow_pos k in
    let l : b ≤ k = p.least k (omega (arith, ints)) in
    let m : 2 ^ b ≤ 2 ^ k = pow_mono l in
    (omega (arith, ints), omega (arith, ints))

pub unsigned_bits : (low high : ℤ) (n b : ℕ) → pos 0 ≤ℤ low → IsSpread low high → pos n ≡ high +ℤ pos 1 → AreBitsFor n b → AreLeastBits low high false b
unsigned_bits low high n b up s e p =
    let w = s.wide in let m = s.most in let enough = p.enough in
    let top : b ≤ 64 = p.least 64 (omega (arith, ints)) in
    record {
      many = omega (arith, ints);
      few = top;
      low_in = up;
      high_in = omega (arith, ints);
      least = unsigned_least low high n b up s e p;
    }

-- the bits of the negative end and of the other
signed_least : (low high : ℤ) (n m a b j : ℕ) → low <ℤ pos 0 → IsSpread low high → pos n ≡ neg_ℤ low → pos m ≡ int_max high (pos 0) +ℤ pos 1 → AreBitsFor n a → AreBitsFor m b → j ≡ max a b
    → (t : Bool) (k : ℕ) → least_of_bits t k ≤ℤ low → high ≤ℤ most_of_bits t k → (least_of_bits t k ≤ℤ neg_ℤ (pos (2 ^ j))) × (pos (2 ^ j - 1) ≤ℤ most_of_bits t k)
signed_least low high n m a b j down s e f p q g true k h l =
    let some = pow_pos (k - 1) in
    let pa : a ≤ k - 1 = p.least (k - 1) (omega (arith, ints)) in
    let pb : b ≤ k - 1 = q.least (k - 1) (omega (arith, ints, clamps)) in
    let pj : j ≤ k - 1 = omega arith in
    let up : 2 ^ j ≤ 2 ^ (k - 1) = pow_mono pj in
    (omega (arith, ints), omega (arith, ints))
signed_least low high n m a b j down s e f p q g false k h l = absurd (omega (arith, ints))

signed_inner : (low high : ℤ) (n m a b j k : ℕ) → low <ℤ pos 0 → IsSpread low high → pos n ≡ neg_ℤ low → pos m ≡ int_max high (pos 0) +ℤ pos 1 → AreBitsFor n a → AreBitsFor m b → j ≡ max a b
    → k - 1 ≡ j → k ≡ 1 + j → AreLeastBits low high true k
signed_inner low high n m a b j k down s e f p q g i i' =
    let w = s.wide in let l = s.least in let t = s.most in
    let pe = p.enough in let qe = q.enough in
    let some = pow_pos j in
    let pa : a ≤ 64 = p.least 64 (omega (arith, ints)) in
    let pb : b ≤ 64 = q.least 64 (omega (arith, ints, clamps)) in
    let aj : a ≤ j = omega arith in
    let bj : b ≤ j = omega arith in
    let ja : 2 ^ a ≤ 2 ^ j = pow_mono aj in
    let jb : 2 ^ b ≤ 2 ^ j = pow_mono bj in
    let two : 2 ^ k ≡ 2 ^ j + 2 ^ j = subst (λ (x : ℕ). 2 ^ k ≡ 2 ^ x + 2 ^ x) i (halves k (omega arith)) in
    let least : (t : Bool) (x : ℕ) → least_of_bits t x ≤ℤ low → high ≤ℤ most_of_bits t x → (least_of_bits t x ≤ℤ neg_ℤ (pos (2 ^ (k - 1)))) × (pos (2 ^ (k - 1) - 1) ≤ℤ most_of_bits t x)
    = subst (λ (y : ℕ). (t : Bool) (x : ℕ) → least_of_bits t x ≤ℤ low → high ≤ℤ most_of_bits t x → (least_of_bits t x ≤ℤ neg_ℤ (pos (2 ^ y))) × (pos (2 ^ y - 1) ≤ℤ most_of_bits t x)) (sym i)
    (signed_least low high n m a b j down s e f p q g) in
    record {
      many = omega (arith, ints, clamps);
      few = omega arith;
      low_in = subst (λ (y : ℕ). neg_ℤ (pos (2 ^ y)) ≤ℤ low) (sym i) (omega (arith, ints));
      high_in = subst (λ (y : ℕ). high ≤ℤ pos (2 ^ y - 1)) (sym i) (omega (arith, ints, clamps));
      least = least;
    }

pub signed_bits : (low high : ℤ) (n m a b k : ℕ) → low <ℤ pos 0 → IsSpread low high → pos n ≡ neg_ℤ low → pos m ≡ int_max high (pos 0) +ℤ pos 1 → AreBitsFor n a → AreBitsFor m b → k ≡ 1 + max a b
    → AreLeastBits low high true k
signed_bits low high n m a b k down s e f p q i = signed_inner low high n m a b (max a b) k down s e f p q refl (omega arith) i
