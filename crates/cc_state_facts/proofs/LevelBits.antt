-- A set of levels is within another one where it adds no bit to it.
use Rattle.std.proofs.Common.{arith, ◌≡◌, ◌⊎◌, inl, inr, ◌<◌, ℕ, true, refl, sym, ap, subst, ◌∙◌}
use Rattle.std.specs.Prelude.{nat_eq, bit_or, max}
use Rattle.std.specs.Int.{bit_at}
use Rattle.std.proofs.lemmas.Nat.Bits.{bit_at_or, same_from_bits}
use Rattle.cc_state_facts.specs.Levels.{AreLevelsWithin}

one_from_eq : (p : ℕ) → nat_eq p 1 ≡ true → p ≡ 1
one_from_eq p h = grind arith

eq_from_one : (p : ℕ) → p ≡ 1 → nat_eq p 1 ≡ true
eq_from_one p e = subst (λ n. nat_eq n 1 ≡ true) (sym e) refl

more_is_one : (p q : ℕ) → q < 2 → max p q ≡ q → p ≡ 1 → q ≡ 1
more_is_one p q k e h = omega arith

no_more : (p q : ℕ) → p < 2 → q < 2 → (p ≡ 1 → q ≡ 1) → max p q ≡ q
no_more p q kp kq h = elim (zero_or_one p kp) [ inl e ↦ omega arith | inr e ↦ let f = h e in omega arith ]
  where
    zero_or_one : (p : ℕ) → p < 2 → (p ≡ 0) ⊎ (p ≡ 1)
    zero_or_one p k = grind arith

bit_below : (n i : ℕ) → bit_at n i < 2
bit_below n i = omega arith

pub within_from_or : (x y : ℕ) → bit_or x y ≡ y → AreLevelsWithin x y
within_from_or x y e l h = eq_from_one (bit_at y l) (more_is_one (bit_at x l) (bit_at y l) (bit_below y l) (sym (bit_at_or x y l) ∙ ap (λ n. bit_at n l) e) (one_from_eq (bit_at x l) h))

pub or_from_within : (x y : ℕ) → AreLevelsWithin x y → bit_or x y ≡ y
or_from_within x y w = same_from_bits (bit_or x y) y (λ i. bit_at_or x y i ∙ no_more (bit_at x i) (bit_at y i) (bit_below x i) (bit_below y i) (λ e. one_from_eq (bit_at y i) (w i (eq_from_one (bit_at x i) e))))

-- the levels of both are those of either
pub or_left : (x y : ℕ) → AreLevelsWithin x (bit_or x y)
or_left x y l h = eq_from_one (bit_at (bit_or x y) l) (bit_at_or x y l ∙ left_one (bit_at x l) (bit_at y l) (bit_below y l) (one_from_eq (bit_at x l) h))
  where
    left_one : (p q : ℕ) → q < 2 → p ≡ 1 → max p q ≡ 1
    left_one p q k e = omega arith

pub or_right : (x y : ℕ) → AreLevelsWithin y (bit_or x y)
or_right x y l h = eq_from_one (bit_at (bit_or x y) l) (bit_at_or x y l ∙ right_one (bit_at x l) (bit_at y l) (bit_below x l) (one_from_eq (bit_at y l) h))
  where
    right_one : (p q : ℕ) → p < 2 → q ≡ 1 → max p q ≡ 1
    right_one p q k e = omega arith

pub or_least : (x y z : ℕ) → AreLevelsWithin x z → AreLevelsWithin y z → AreLevelsWithin (bit_or x y) z
or_least x y z a b l h = by_bit (bit_at x l) (bit_at y l) (sym (bit_at_or x y l) ∙ one_from_eq (bit_at (bit_or x y) l) h)
    (λ e. a l (eq_from_one (bit_at x l) e)) (λ e. b l (eq_from_one (bit_at y l) e))
  where
    either : (p q : ℕ) → max p q ≡ 1 → (p ≡ 1) ⊎ (q ≡ 1)
    either p q e = grind arith

    by_bit : {A : Type 0} (p q : ℕ) → max p q ≡ 1 → (p ≡ 1 → A) → (q ≡ 1 → A) → A
    by_bit p q e f g = elim (either p q e) [ inl h ↦ f h | inr h ↦ g h ]

eq_of : (a b : ℕ) → nat_eq a b ≡ true → a ≡ b
eq_of a b h = grind arith

of_eq : (a b : ℕ) → a ≡ b → nat_eq a b ≡ true
of_eq a b e = grind arith

pub within_test : (x y : ℕ) → (nat_eq (bit_or x y) y ≡ true → AreLevelsWithin x y) × (AreLevelsWithin x y → nat_eq (bit_or x y) y ≡ true)
within_test x y = ((λ h. within_from_or x y (eq_of (bit_or x y) y h)), (λ w. of_eq (bit_or x y) y (or_from_within x y w)))
