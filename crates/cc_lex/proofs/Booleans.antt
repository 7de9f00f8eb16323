-- What tests on bytes and numbers say when they are true or false.
use Rattle.std.proofs.Common.{◌≡◌, ◌≢◌, ℕ, ◌≤◌, Bool, true, false, ◌&&◌, ◌||◌, not, eqb, leb, refl, arith}
use Rattle.std.proofs.lemmas.Bool.Decides.{nat_tests}

pub and-true : (a b : Bool) → (a && b) ≡ true → (a ≡ true) × (b ≡ true)
and-true true b h = (refl, h)
and-true false b h = absurd (cc)

pub both-true : (a b : Bool) → a ≡ true → b ≡ true → (a && b) ≡ true
both-true true b h k = k
both-true false b h k = absurd (cc)

pub and-false : (t : Bool) → (t && false) ≡ false
and-false true = refl
and-false false = refl

pub or-true : (t : Bool) → (t || true) ≡ true
or-true true = refl
or-true false = refl

pub or-false : (a b : Bool) → (a || b) ≡ false → (a ≡ false) × (b ≡ false)
or-false true b h = absurd (cc)
or-false false b h = (refl, h)

pub not-true : (b : Bool) → not b ≡ true → b ≡ false
not-true true h = absurd (cc)
not-true false h = refl

pub true-false : (t : Bool) → t ≡ true → t ≡ false → ⊥
true-false t h k = cc

pub eq-true : (a b : ℕ) → eqb a b ≡ true → a ≡ b
eq-true a b h = grind (arith, nat_tests)

pub eq-false : (a b : ℕ) → eqb a b ≡ false → a ≢ b
eq-false a b h = grind (arith, nat_tests)

pub eq-same : (a : ℕ) → eqb a a ≡ true
eq-same a = grind (arith, nat_tests)

pub eq-other : (a b : ℕ) → a ≢ b → eqb a b ≡ false
eq-other a b h = grind (arith, nat_tests)

pub le-true : (a b : ℕ) → leb a b ≡ true → a ≤ b
le-true a b h = grind (arith, nat_tests)

pub le-same : (a : ℕ) → a ≤ a
le-same a = omega arith
