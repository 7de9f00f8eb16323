-- A number that falls wherever things differ: it does for pairs where it does for their parts, and for lists where it does place by place.
use Rattle.std.proofs.Common.{◌≡◌, ◌≢◌, ◌⊎◌, inl, inr, ℕ, ◌+◌, ◌<◌, ◌≤◌, List, [], ◌∷◌, All, sum_by, refl, ap, ◌∙◌, arith}
use Rattle.std.specs.List.{AllZip}
use Rattle.std.proofs.lemmas.List.Elements.{All-head, All-tail}
use Rattle.std.proofs.lemmas.List.Sums.{sum_by-cons}

abbrev pub Falls : {A : Type 0} → (A → ℕ) → A → A → Type 0
Falls r x y = x ≢ y → r y < r x

pub order : (a b : ℕ) → (a ≤ b) ⊎ (b < a)
order a b = grind arith

pub never_more : {A : Type 0} (r : A → ℕ) (x y : A) → Falls r x y → r y ≤ r x
never_more r x y f = elim (order (r y) (r x)) [ inl h ↦ h | inr h ↦ absurd (let k = f (λ e. differ h e) in omega (arith, h, k)) ]
  where
    differ : r x < r y → x ≡ y → ⊥
    differ h e = let q = ap r e in omega (arith, h, q)

abbrev pub sum_of : {A B : Type 0} → (A → ℕ) → (B → ℕ) → A × B → ℕ
sum_of r s z = r z.0 + s z.1

pair_same : {A B : Type 0} (a a' : A) (b b' : B) → a ≡ a' → b ≡ b' → ◌≡◌ {A = A × B} (a, b) (a', b')
pair_same {A} {B} a a' b b' e d =
    let first : A → A × B = λ x. (x, b) in
    let second : B → A × B = λ y. (a', y) in
    ap first e ∙ ap second d

pub of_pair : {A B : Type 0} (r : A → ℕ) (s : B → ℕ) (a a' : A) (b b' : B) → Falls r a a' → Falls s b b' → Falls (sum_of r s) (a, b) (a', b')
of_pair r s a a' b b' f g differ = elim (order (r a + s b) (r a' + s b')) [ inr h ↦ h | inl h ↦ absurd (both h) ]
  where
    not_first : r a + s b ≤ r a' + s b' → (a ≢ a') → ⊥
    not_first h n = let k = f n in let q = never_more s b b' g in omega (arith, h, k, q)

    not_second : r a + s b ≤ r a' + s b' → (b ≢ b') → ⊥
    not_second h n = let k = g n in let q = never_more r a a' f in omega (arith, h, k, q)

    both : r a + s b ≤ r a' + s b' → ⊥
    both h = not_first h (λ e. not_second h (λ d. differ (pair_same a a' b b' e d)))

-- of what something is made of
pub of_parts : {A B : Type 0} (r : B → ℕ) (parts : A → B) (x y : A) → (parts x ≡ parts y → x ≡ y) → Falls r (parts x) (parts y) → Falls (λ a. r (parts a)) x y
of_parts r parts x y made f n = f (λ e. n (made e))

pub of_list : {A : Type 0} (r : A → ℕ) (xs ys : List A) → AllZip (Falls r) xs ys → Falls (sum_by r) xs ys
of_list r [] [] h n = absurd (n refl)
of_list r [] (y ∷ ys) h n = absurd h
of_list r (x ∷ xs) [] h n = absurd h
of_list r (x ∷ xs) (y ∷ ys) h n =
    let less : r y + sum_by r ys < r x + sum_by r xs = of_pair r (sum_by r) x y xs ys h.0 (of_list r xs ys h.1) (λ e. n (ap (λ z. z.0 ∷ z.1) e)) in
    let p = sum_by-cons r x xs in
    let q = sum_by-cons r y ys in
    omega (arith, less, p, q)

-- place by place
pub zip_falls : {A : Type 0} (R : A → A → Type 0) (P : A → Type 0) (r : A → ℕ) → ((x y : A) → R x y → P y → Falls r x y) → (xs ys : List A) → AllZip R xs ys → All P ys → AllZip (Falls r) xs ys
zip_falls R P r each [] [] h k = tt
zip_falls R P r each [] (y ∷ ys) h k = absurd h
zip_falls R P r each (x ∷ xs) [] h k = absurd h
zip_falls R P r each (x ∷ xs) (y ∷ ys) h k = (each x y h.0 (All-head P y ys k), zip_falls R P r each xs ys h.1 (All-tail P y ys k))

pub zip_both : {A : Type 0} (R S : A → A → Type 0) (xs ys : List A) → AllZip R xs ys → AllZip S xs ys → AllZip (λ x y. R x y × S x y) xs ys
zip_both R S [] [] h k = tt
zip_both R S [] (y ∷ ys) h k = absurd h
zip_both R S (x ∷ xs) [] h k = absurd h
zip_both R S (x ∷ xs) (y ∷ ys) h k = ((h.0, k.0), zip_both R S xs ys h.1 k.1)
