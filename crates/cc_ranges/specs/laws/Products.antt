-- A product of two numbers lies between the products of the ends.
use Rattle.std.proofs.Common.{◌≡◌, ℕ, suc, ◌*◌, ◌≤◌, ℤ, pos, negsuc, ◌*ℤ◌, ◌≤ℤ◌, arith}
use Rattle.std.specs.Int.{int_max, int_min}
use Rattle.std.proofs.Math.Nat.{mul-le-mul_right}
use Rattle.std.proofs.Math.IntN.{*ℤ_comm}
use Rattle.std.proofs.lemmas.Int.{ints, clamps}
use Rattle.cc_ranges.specs.Rules.{least_four, greatest_four}

-- a factor that is not negative keeps the order, and one that is turns it
times_pos : (a b : ℤ) (n : ℕ) → a ≤ℤ b → (a *ℤ pos n) ≤ℤ (b *ℤ pos n)
times_pos (pos a) (pos b) n h = let k : a ≤ b = omega (arith, ints) in let m : a * n ≤ b * n = mul-le-mul_right n k in omega (arith, ints)
times_pos (pos a) (negsuc b) n h = absurd (omega (arith, ints))
times_pos (negsuc a) (pos b) n h = omega (arith, ints)
times_pos (negsuc a) (negsuc b) n h = let k : suc b ≤ suc a = omega (arith, ints) in let m : suc b * n ≤ suc a * n = mul-le-mul_right n k in omega (arith, ints)

times_neg : (a b : ℤ) (n : ℕ) → a ≤ℤ b → (b *ℤ negsuc n) ≤ℤ (a *ℤ negsuc n)
times_neg (pos a) (pos b) n h = let k : a ≤ b = omega (arith, ints) in let m : a * suc n ≤ b * suc n = mul-le-mul_right (suc n) k in omega (arith, ints)
times_neg (pos a) (negsuc b) n h = absurd (omega (arith, ints))
times_neg (negsuc a) (pos b) n h = omega (arith, ints)
times_neg (negsuc a) (negsuc b) n h = let k : suc b ≤ suc a = omega (arith, ints) in let m : suc b * suc n ≤ suc a * suc n = mul-le-mul_right (suc n) k in omega (arith, ints)

-- a product lies between those of the ends of one factor
pub record IsBetween (low high v : ℤ) : Type 0 where
  pub low_end : low ≤ℤ v
  pub high_end : v ≤ℤ high

one_side : (la ha v w : ℤ) → la ≤ℤ v → v ≤ℤ ha → IsBetween (int_min (la *ℤ w) (ha *ℤ w)) (int_max (la *ℤ w) (ha *ℤ w)) (v *ℤ w)
one_side la ha v (pos n) h k =
    let a = times_pos la v n h in
    let b = times_pos v ha n k in
    record { low_end = omega (arith, ints, clamps); high_end = omega (arith, ints, clamps) }
one_side la ha v (negsuc n) h k =
    let a = times_neg la v n h in
    let b = times_neg v ha n k in
    record { low_end = omega (arith, ints, clamps); high_end = omega (arith, ints, clamps) }

other_side : (lb hb v w : ℤ) → lb ≤ℤ w → w ≤ℤ hb → IsBetween (int_min (v *ℤ lb) (v *ℤ hb)) (int_max (v *ℤ lb) (v *ℤ hb)) (v *ℤ w)
other_side lb hb v w h k =
    let e : lb *ℤ v ≡ v *ℤ lb = *ℤ_comm lb v in
    let f : hb *ℤ v ≡ v *ℤ hb = *ℤ_comm hb v in
    let g : w *ℤ v ≡ v *ℤ w = *ℤ_comm w v in
    rw (← e, ← f, ← g) (one_side lb hb w v h k)

-- of all four ends
within_four : (p q a b c d x : ℤ) → IsBetween (int_min p q) (int_max p q) x → IsBetween (int_min a b) (int_max a b) p → IsBetween (int_min c d) (int_max c d) q
    → IsBetween (least_four a b c d) (greatest_four a b c d) x
within_four p q a b c d x h k l =
    let h0 = h.low_end in let h1 = h.high_end in
    let k0 = k.low_end in let k1 = k.high_end in
    let l0 = l.low_end in let l1 = l.high_end in
    record { low_end = omega (arith, ints, clamps); high_end = omega (arith, ints, clamps) }

pub product_between : (la ha lb hb v w : ℤ) → la ≤ℤ v → v ≤ℤ ha → lb ≤ℤ w → w ≤ℤ hb
    → IsBetween (least_four (la *ℤ lb) (la *ℤ hb) (ha *ℤ lb) (ha *ℤ hb)) (greatest_four (la *ℤ lb) (la *ℤ hb) (ha *ℤ lb) (ha *ℤ hb)) (v *ℤ w)
product_between la ha lb hb v w h k l m =
    within_four (la *ℤ w) (ha *ℤ w) (la *ℤ lb) (la *ℤ hb) (ha *ℤ lb) (ha *ℤ hb) (v *ℤ w)
    (one_side la ha v w h k) (other_side lb hb la w l m) (other_side lb hb ha w l m)

four_between : (low high a b c d : ℤ) → IsBetween low high a → IsBetween low high b → IsBetween low high c → IsBetween low high d
    → (low ≤ℤ least_four a b c d) × (greatest_four a b c d ≤ℤ high)
four_between low high a b c d h k l m =
    let h0 = h.low_end in let h1 = h.high_end in
    let k0 = k.low_end in let k1 = k.high_end in
    let l0 = l.low_end in let l1 = l.high_end in
    let m0 = m.low_end in let m1 = m.high_end in
    (omega (arith, ints, clamps), omega (arith, ints, clamps))

-- the products of inner ends lie between those of outer ones
pub inner_products : (la ha lb hb lx hx ly hy : ℤ) → la ≤ℤ ha → lb ≤ℤ hb → lx ≤ℤ la → ha ≤ℤ hx → ly ≤ℤ lb → hb ≤ℤ hy
    → (least_four (lx *ℤ ly) (lx *ℤ hy) (hx *ℤ ly) (hx *ℤ hy) ≤ℤ least_four (la *ℤ lb) (la *ℤ hb) (ha *ℤ lb) (ha *ℤ hb))
    × (greatest_four (la *ℤ lb) (la *ℤ hb) (ha *ℤ lb) (ha *ℤ hb) ≤ℤ greatest_four (lx *ℤ ly) (lx *ℤ hy) (hx *ℤ ly) (hx *ℤ hy))
inner_products la ha lb hb lx hx ly hy a b p q r s =
    let la_high : la ≤ℤ hx = omega (arith, ints) in
    let ha_low : lx ≤ℤ ha = omega (arith, ints) in
    let lb_high : lb ≤ℤ hy = omega (arith, ints) in
    let hb_low : ly ≤ℤ hb = omega (arith, ints) in
    four_between _ _ (la *ℤ lb) (la *ℤ hb) (ha *ℤ lb) (ha *ℤ hb)
    (product_between lx hx ly hy la lb p la_high r lb_high)
    (product_between lx hx ly hy la hb p la_high hb_low s)
    (product_between lx hx ly hy ha lb ha_low q r lb_high)
    (product_between lx hx ly hy ha hb ha_low q hb_low s)
