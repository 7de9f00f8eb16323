-- Ascending lists of pairs: one whose pairs are all in another one, and that differs from it, is shorter.
use Rattle.std.proofs.Common.{◌≡◌, ◌≢◌, inl, inr, ℕ, ◌<◌, Bool, true, false, true≢false, ◌&&◌, ◌||◌, nat_eq, List, [], ◌∷◌, length, refl, sym, ap, subst, ◌∙◌, arith}
use Rattle.std.specs.List.{AllByRecursion, list_all}
use Rattle.cc_state_facts.specs.Orders.{IsBefore, Ascend}
use Rattle.cc_state_facts.specs.laws.Pairs.{is_in}
use Rattle.cc_state_room.proofs.Falling.{Falls, never_more}

both_true : (a b : Bool) → (a && b) ≡ true → (a ≡ true) × (b ≡ true)
both_true true b h = (refl, h)
both_true false b h = absurd (true≢false (sym h))

and_true : (a b : Bool) → a ≡ true → b ≡ true → (a && b) ≡ true
and_true true b h k = k
and_true false b h k = h

abbrev is_that : ℕ × ℕ → ℕ × ℕ → Bool
is_that q p = nat_eq p.0 q.0 && nat_eq p.1 q.1

numbers_of : (a b c d : ℕ) → (nat_eq a c && nat_eq b d) ≡ true → (a ≡ c) × (b ≡ d)
numbers_of a b c d h = (grind arith, grind arith)

that_is : (q p : ℕ × ℕ) → is_that q p ≡ true → p ≡ q
that_is q p h = let t = numbers_of p.0 p.1 q.0 q.1 h in ap (λ a. (a, p.1)) t.0 ∙ ap (λ b. (q.0, b)) t.1

head_or_rest : (A : Type 0) (q p : ℕ × ℕ) (pairs : List (ℕ × ℕ)) (b : Bool) → is_that q p ≡ b → (is_that q p || is_in pairs q) ≡ true → (p ≡ q → A) → (is_in pairs q ≡ true → A) → A
head_or_rest A q p pairs true e h f g = f (that_is q p e)
head_or_rest A q p pairs false e h f g = g (subst (λ b. (b || is_in pairs q) ≡ true) e h)

-- ---- in order

not_itself : (a : ℕ × ℕ) → IsBefore a a → ⊥
not_itself a (inl h) = omega (arith, h)
not_itself a (inr h) = let l = h.1 in omega (arith, l)

before_through : (a b c : ℕ × ℕ) → IsBefore a b → IsBefore b c → IsBefore a c
before_through a b c (inl h) (inl k) = inl (omega (arith, h, k))
before_through a b c (inl h) (inr k) = let e = k.0 in inl (omega (arith, h, e))
before_through a b c (inr h) (inl k) = let e = h.0 in inl (omega (arith, k, e))
before_through a b c (inr h) (inr k) = let e = h.0 in let d = k.0 in let l = h.1 in let m = k.1 in inr ((omega (arith, e, d)), (omega (arith, l, m)))

before_all : (a b : ℕ × ℕ) (ps : List (ℕ × ℕ)) → IsBefore a b → AllByRecursion (IsBefore b) ps → AllByRecursion (IsBefore a) ps
before_all a b [] h k = tt
before_all a b (p ∷ ps) h k = (before_through a b p h k.0, before_all a b ps h k.1)

-- what holds of each pair of a list holds of one that is in it
member : (P : ℕ × ℕ → Type 0) (pairs : List (ℕ × ℕ)) (q : ℕ × ℕ) → AllByRecursion P pairs → is_in pairs q ≡ true → P q
member P [] q h k = absurd (true≢false (sym k))
member P (p ∷ pairs) q h k = head_or_rest (P q) q p pairs (is_that q p) refl k (λ e. subst P e h.0) (λ inside. member P pairs q h.1 inside)

-- what is in a list and behind its first pair is in the rest
rest_in : (x : ℕ × ℕ) (xs ps : List (ℕ × ℕ)) → AllByRecursion (IsBefore x) ps → list_all (is_in (x ∷ xs)) ps ≡ true → list_all (is_in xs) ps ≡ true
rest_in x xs [] h k = refl
rest_in x xs (p ∷ ps) h k =
    let t = both_true (is_in (x ∷ xs) p) (list_all (is_in (x ∷ xs)) ps) k in
    and_true (is_in xs p) (list_all (is_in xs) ps)
    (head_or_rest (is_in xs p ≡ true) p x xs (is_that p x) refl t.0 (λ e. absurd (not_itself p (subst (λ a. IsBefore a p) e h.0))) (λ i. i))
    (rest_in x xs ps h.1 t.1)

cons_same : {x y : ℕ × ℕ} {xs ys : List (ℕ × ℕ)} → x ≡ y → xs ≡ ys → x ∷ xs ≡ y ∷ ys
cons_same {y = y} {xs = xs} h k = ap (λ a. a ∷ xs) h ∙ ap (λ ls. y ∷ ls) k

first_same : (x y : ℕ × ℕ) (xs ys : List (ℕ × ℕ)) → x ≡ y → (x ∷ xs) ≢ (y ∷ ys) → Falls length xs ys → length (y ∷ ys) < length (x ∷ xs)
first_same x y xs ys e n f = let l = f (λ d. n (cons_same e d)) in omega (arith, l)

later : (x y : ℕ × ℕ) (xs ys : List (ℕ × ℕ)) → Falls length xs (y ∷ ys) → length (y ∷ ys) < length (x ∷ xs)
later x y xs ys f = let l = never_more length xs (y ∷ ys) f in omega (arith, l)

-- the first list has all pairs of the second
pub fewer : (xs ys : List (ℕ × ℕ)) → Ascend xs → Ascend ys → list_all (is_in xs) ys ≡ true → Falls length xs ys
fewer [] [] a b h n = absurd (n refl)
fewer [] (y ∷ ys) a b h n = absurd (true≢false (sym h))
fewer (x ∷ xs) [] a b h n = omega arith
fewer (x ∷ xs) (y ∷ ys) a b h n =
    let t = both_true (is_in (x ∷ xs) y) (list_all (is_in (x ∷ xs)) ys) h in
    head_or_rest (length (y ∷ ys) < length (x ∷ xs)) y x xs (is_that y x) refl t.0
    (λ e. first_same x y xs ys e n (fewer xs ys a.1 b.1 (rest_in x xs ys (subst (λ p. AllByRecursion (IsBefore p) ys) (sym e) b.0) t.1)))
    (λ inside. later x y xs ys
    (fewer xs (y ∷ ys) a.1 b (and_true (is_in xs y) (list_all (is_in xs) ys) inside (rest_in x xs ys (before_all x y ys (member (IsBefore x) xs y a.0 inside) b.0) t.1))))
