-- Numbers in reach are exact in 128 bits.
use Rattle.std.proofs.Common.{◌≡◌, ◌↔◌, ◌⊎◌, ℤ, pos, ◌<ℤ◌, Bool, IsTrue, to_z, of_z, subst, arith}
use Rattle.std.specs.Int.{w128}
use Rattle.std.proofs.lemmas.Int.{ints}
use Rattle.cc_lattice.specs.Domains.{IsInReach, IsIntValue}
use Rattle.cc_state_operators.specs.Domains.{Domain}
use Rattle.cc_state_operators.proofs.Hulls.{IsNumber}

reach_same : (v : ℤ) → IsInReach v → to_z w128 (of_z w128 v) ≡ v
reach_same v h = let l = h.least in let m = h.most in omega (arith, ints)

int_same : (v : ℤ) → IsIntValue v → to_z w128 (of_z w128 v) ≡ v
int_same v h = let l = h.least in let m = h.most in omega (arith, ints)

-- the set of a number that was read
pub number_read : {I : Type 0} (d : Domain I) (m : ℤ) (x : I) → IsIntValue m → ((w : ℤ) → d.has x w ↔ (w ≡ to_z w128 (of_z w128 m))) → ((y : I) → d.has y (to_z w128 (of_z w128 m)) → d.below x y) → IsNumber d m x
number_read d m x h only least = subst (λ z. IsNumber d z x) (int_same m h) (record { only = only; least = least })

-- a test of two numbers that were read
pub ends_read : (low high : ℤ) (r : Bool) → IsInReach low → IsInReach high → (IsTrue r ↔ ((to_z w128 (of_z w128 low) <ℤ pos 0) ⊎ (pos 0 <ℤ to_z w128 (of_z w128 high)))) → (IsTrue r ↔ ((low <ℤ pos 0) ⊎ (pos 0 <ℤ high)))
ends_read low high r h k f =
    subst (λ z. IsTrue r ↔ ((z <ℤ pos 0) ⊎ (pos 0 <ℤ high))) (reach_same low h)
    (subst (λ z. IsTrue r ↔ ((to_z w128 (of_z w128 low) <ℤ pos 0) ⊎ (pos 0 <ℤ z))) (reach_same high k) f)
