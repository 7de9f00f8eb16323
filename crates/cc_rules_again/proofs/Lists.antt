-- What holds of each element of lists that are joined and made, and what such lists contain.
use Rattle.std.proofs.Common.{arith, ◌≡◌, ◌⊎◌, inl, inr, ℕ, zero, suc, ◌+◌, ◌<◌, true, List, [], ◌∷◌, Contains, refl, sym, ap, subst}
use Rattle.std.specs.Prelude.{◌==◌, nat_lt}
use Rattle.std.specs.List.{flat_map}
use Rattle.std.proofs.lemmas.List.Elements.{Contains-append_left, Contains-append_right}
use Rattle.cc_rules_grow.specs.CcPlaces.laws.ListLaws.{cons_cases, at_head, behind_head, none_in}
use Rattle.cc_rules_grow.proofs.Elements.{Each, each_append}
use Rattle.cc_rules_grow.specs.CcRulesNeeds.Flowing.{numbers}

pub same_or : (m n : ℕ) → (m ≡ n) ⊎ (m ≡ n → ⊥)
same_or zero zero = inl refl
same_or zero (suc n) = inr (λ e. let h : zero ≡ suc n = e in omega (arith, h))
same_or (suc m) zero = inr (λ e. let h : suc m ≡ zero = e in omega (arith, h))
same_or (suc m) (suc n) = elim (same_or m n) [ inl e ↦ inl (ap suc e) | inr differs ↦ inr (λ e. differs (let h : suc m ≡ suc n = e in omega (arith, h))) ]

pub is_equal : (m n : ℕ) → m ≡ n → (m == n) ≡ true
is_equal m n e = grind (arith, e)

pub is_less : (m n : ℕ) → m < n → nat_lt m n ≡ true
is_less m n l = grind (arith, l)

-- a list of numbers has one or not
pub contained : (xs : List ℕ) (x : ℕ) → Contains xs x ⊎ (Contains xs x → ⊥)
contained [] x = inr (λ c. none_in x c)
contained (y ∷ xs) x = elim (same_or y x) [
  | inl e ↦ inl (subst (λ z. Contains (y ∷ xs) z) e (at_head y xs))
  | inr other ↦ elim (contained xs x) [
    | inl c ↦ inl (behind_head y xs x c)
    | inr none ↦ inr (λ c. elim (cons_cases y xs x c) [ inl e ↦ other e | inr r ↦ none r ])
  ]
]

number_behind : (k n i : ℕ) → i < n → Contains (numbers k n) (k + i)
number_behind k zero i l = absurd (omega (arith, l))
number_behind k (suc n) zero l = let own : k ≡ k + 0 = omega arith in subst (λ m. Contains (numbers k (suc n)) m) own (at_head k (numbers (suc k) n))
number_behind k (suc n) (suc i) l =
    let own : suc k + i ≡ k + suc i = omega arith in
    subst (λ m. Contains (numbers k (suc n)) m) own (behind_head k (numbers (suc k) n) (suc k + i) (number_behind (suc k) n i (omega (arith, l))))

pub number_there : (n i : ℕ) → i < n → Contains (numbers 0 n) i
number_there n i l = let own : 0 + i ≡ i = omega arith in subst (λ m. Contains (numbers 0 n) m) own (number_behind 0 n i l)

pub flat_there : {A B : Type 0} (make : A → List B) (xs : List A) (x : A) (y : B) → Contains xs x → Contains (make x) y → Contains (flat_map make xs) y
flat_there make [] x y c m = absurd (none_in x c)
flat_there make (a ∷ xs) x y c m = elim (cons_cases a xs x c) [
  | inl e ↦ Contains-append_left (make a) (flat_map make xs) y (subst (λ z. Contains (make z) y) (sym e) m)
  | inr r ↦ Contains-append_right (make a) (flat_map make xs) y (flat_there make xs x y r m)
]

pub each_flat_in : {A B : Type 0} (P : B → Type 0) (make : A → List B) (xs : List A) → ((x : A) → Contains xs x → Each P (make x)) → Each P (flat_map make xs)
each_flat_in P make [] h = tt
each_flat_in P make (x ∷ xs) h = each_append P (make x) (flat_map make xs) (h x (at_head x xs)) (each_flat_in P make xs (λ y c. h y (behind_head x xs y c)))

pub each_more : {A : Type 0} (P Q : A → Type 0) (xs : List A) → ((x : A) → P x → Q x) → Each P xs → Each Q xs
each_more P Q [] more h = tt
each_more P Q (x ∷ xs) more h = (more x h.0, each_more P Q xs more h.1)

pub number_below : (k n i : ℕ) → Contains (numbers k n) i → i < k + n
number_below k zero i c = absurd (none_in i c)
number_below k (suc n) i c = elim (cons_cases k (numbers (suc k) n) i c) [
  | inl e ↦ omega (arith, e)
  | inr r ↦ let l = number_below (suc k) n i r in omega (arith, l)
]
