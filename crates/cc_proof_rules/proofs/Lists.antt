-- What is contained in lists that are joined, made and filtered, and where a test first passes.
use Rattle.std.proofs.Common.{arith, ◌≡◌, ◌⊎◌, inl, inr, ℕ, zero, suc, ◌+◌, ◌<◌, ◌≤◌, Bool, true, false, true≢false, ◌&&◌, List, [], ◌∷◌, ◌++◌, map, length, length-append, cond, All, Contains, Some, slice_get, get_or, refl, sym, ap, subst, ◌∙◌}
use Rattle.std.specs.Prelude.{◌==◌, position}
use Rattle.std.specs.List.{filter, flat_map, list_all, list_any}
use Rattle.std.proofs.lemmas.Bool.{eqb-true}
use Rattle.std.proofs.lemmas.List.{get_or_append_left, get_or-append-add}
use Rattle.std.proofs.lemmas.List.Elements.{Contains-append_left, Contains-append_right}
use Rattle.std.proofs.lemmas.List.Quantifiers.{position-Some}
use Rattle.std.proofs.lemmas.Map.Keys.{any_passes_from_place}
use Rattle.std.proofs.lemmas.Option.{same_Some, slice_get-get_or, slice_get_within, get_or_from_slice_get}
use Rattle.cc_rules.specs.CcRulesNeeds.Flowing.{numbers, each_pair}

-- ---- elements by their places

pub contains_at : {A : Type 0} (xs : List A) (i : ℕ) (x : A) → slice_get xs i ≡ Some x → Contains xs x
contains_at xs i x e = (i, slice_get_within xs i x e, get_or_from_slice_get xs i x x e)

pub at_contained : {A : Type 0} (xs : List A) (x : A) → Contains xs x → (i : ℕ) × (slice_get xs i ≡ Some x)
at_contained xs x c = (c.0, slice_get-get_or xs c.0 x c.1 ∙ ap Some c.2)

pub in_first : {A : Type 0} (x : A) (xs : List A) → Contains (x ∷ xs) x
in_first x xs = (0, omega arith, refl)

pub in_rest : {A : Type 0} (y : A) (xs : List A) (x : A) → Contains xs x → Contains (y ∷ xs) x
in_rest y xs x c = (suc c.0, let l = c.1 in omega (arith, l), c.2)

pub no_member : {A : Type 0} {C : Type 0} (x : A) → Contains [] x → C
no_member x c = absurd (let l : c.0 < 0 = c.1 in omega (arith, l))

pub first_or_rest : {A : Type 0} (y : A) (xs : List A) (x : A) → Contains (y ∷ xs) x → (y ≡ x) ⊎ Contains xs x
first_or_rest y xs x c = let at = at_contained (y ∷ xs) x c in by at.0 at.1
  where
    by : (i : ℕ) → slice_get (y ∷ xs) i ≡ Some x → (y ≡ x) ⊎ Contains xs x
    by zero e = inl (same_Some y x e)
    by (suc i) e = inr (contains_at xs i x e)

pub in_map : {A B : Type 0} (f : A → B) (xs : List A) (x : A) → Contains xs x → Contains (map f xs) (f x)
in_map f [] x c = no_member x c
in_map f (y ∷ xs) x c = elim (first_or_rest y xs x c) [ inl e ↦ subst (λ z. Contains (f y ∷ map f xs) (f z)) e (in_first (f y) (map f xs)) | inr r ↦ in_rest (f y) (map f xs) (f x) (in_map f xs x r) ]

pub in_flat : {A B : Type 0} (f : A → List B) (xs : List A) (x : A) (b : B) → Contains xs x → Contains (f x) b → Contains (flat_map f xs) b
in_flat f [] x b c h = no_member x c
in_flat f (y ∷ xs) x b c h = elim (first_or_rest y xs x c) [
  | inl e ↦ Contains-append_left (f y) (flat_map f xs) b (subst (λ z. Contains (f z) b) (sym e) h)
  | inr r ↦ Contains-append_right (f y) (flat_map f xs) b (in_flat f xs x b r h)
]

in_kept : {A : Type 0} (b : Bool) (y : A) (xs : List A) (x : A) → Contains xs x → Contains (cond b (y ∷ xs) xs) x
in_kept true y xs x c = in_rest y xs x c
in_kept false y xs x c = c

pub in_filter : {A : Type 0} (test : A → Bool) (xs : List A) (x : A) → Contains xs x → test x ≡ true → Contains (filter test xs) x
in_filter test [] x c h = no_member x c
in_filter test (y ∷ xs) x c h = elim (first_or_rest y xs x c) [
  | inl e ↦ subst (λ b. Contains (cond b (y ∷ filter test xs) (filter test xs)) x) (sym (ap test e ∙ h)) (subst (λ z. Contains (y ∷ filter test xs) z) e (in_first y (filter test xs)))
  | inr r ↦ in_kept (test y) y (filter test xs) x (in_filter test xs x r h)
]

pub in_numbers : (k n i : ℕ) → k ≤ i → i < k + n → Contains (numbers k n) i
in_numbers k zero i low high = absurd (omega (arith, low, high))
in_numbers k (suc n) i low high = elim (here_or_later k i low) [
  | inl e ↦ subst (λ j. Contains (k ∷ numbers (suc k) n) j) e (in_first k (numbers (suc k) n))
  | inr l ↦ in_rest k (numbers (suc k) n) i (in_numbers (suc k) n i l (omega (arith, high)))
]
  where
    here_or_later : (k i : ℕ) → k ≤ i → (k ≡ i) ⊎ (suc k ≤ i)
    here_or_later k i l = grind (arith, l)

pub in_pairs : (registers cells r j : ℕ) → r < registers → j < cells → Contains (each_pair registers cells) (r, j)
in_pairs registers cells r j h k =
    in_flat (λ r. map (λ j. (r, j)) (numbers 0 cells)) (numbers 0 registers) r (r, j) (in_numbers 0 registers r (omega arith) (omega (arith, h)))
    (in_map (λ (j : ℕ). (r, j)) (numbers 0 cells) j (in_numbers 0 cells j (omega arith) (omega (arith, k))))

-- ---- what holds of all

pub all_front : {A : Type 0} (P : A → Type 0) (xs ys : List A) → All P (xs ++ ys) → All P xs
all_front P xs ys h k d l = subst P (get_or_append_left xs ys d k l) (h k d (let n = length-append xs ys in omega (arith, n, l)))

pub all_back : {A : Type 0} (P : A → Type 0) (xs ys : List A) → All P (xs ++ ys) → All P ys
all_back P xs ys h k d l = subst P (get_or-append-add xs ys k d) (h (length xs + k) d (let n = length-append xs ys in omega (arith, n, l)))

pub any_of : {A : Type 0} (test : A → Bool) (xs : List A) (x : A) → Contains xs x → test x ≡ true → list_any test xs ≡ true
any_of test xs x c h = let at = at_contained xs x c in any_passes_from_place test xs at.0 x at.1 h

pub both_true : (a b : Bool) → (a && b) ≡ true → (a ≡ true) × (b ≡ true)
both_true true b h = (refl, h)
both_true false b h = absurd (true≢false (sym h))

pub each_of : {A : Type 0} (test : A → Bool) (xs : List A) (x : A) → Contains xs x → list_all test xs ≡ true → test x ≡ true
each_of test [] x c h = no_member x c
each_of test (y ∷ xs) x c h = let b = both_true (test y) (list_all test xs) h in elim (first_or_rest y xs x c) [ inl e ↦ ap test (sym e) ∙ b.0 | inr r ↦ each_of test xs x r b.1 ]

-- ---- the first place of a number

pub at_position : (xs : List ℕ) (x i : ℕ) → position (λ y. y == x) xs ≡ Some i → slice_get xs i ≡ Some x
at_position xs x i e =
    let w = position-Some (λ (y : ℕ). y == x) xs i x e in
    slice_get-get_or xs i x w.0 ∙ ap Some (eqb-true (get_or xs i x) x w.1)
