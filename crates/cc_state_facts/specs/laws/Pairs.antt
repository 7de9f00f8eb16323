-- Pairs of a fact, which ascend: facts that have the same pairs have equal lists of them.
use Rattle.std.specs.Prelude.{◌≡◌, ℕ, Bool, true, false, ◌&&◌, ◌||◌, nat_eq, List, [], ◌∷◌, refl}
use Rattle.std.specs.List.{AllByRecursion, filter, list_all, list_any}
use Rattle.std.proofs.lemmas.Map.Views.{any-filter_same}
use Rattle.std.proofs.Common.{arith, cond, ap, sym, subst, ◌∙◌, inl, inr, true≢false}
use Rattle.cc_state_facts.specs.Orders.{IsBefore, Ascend}

-- ---- tests of all and of some

both_true : (a b : Bool) → (a && b) ≡ true → (a ≡ true) × (b ≡ true)
both_true true b h = (refl, h)
both_true false b h = absurd (true≢false (sym h))

and_true : (a b : Bool) → a ≡ true → b ≡ true → (a && b) ≡ true
and_true true b h k = k
and_true false b h k = h

or_second : (a b : Bool) → b ≡ true → (a || b) ≡ true
or_second true b h = refl
or_second false b h = h

all_more : {A : Type 0} (f g : A → Bool) → ((x : A) → f x ≡ true → g x ≡ true) → (xs : List A) → list_all f xs ≡ true → list_all g xs ≡ true
all_more f g each [] h = refl
all_more f g each (x ∷ xs) h = let t = both_true (f x) (list_all f xs) h in and_true (g x) (list_all g xs) (each x t.0) (all_more f g each xs t.1)

-- ---- whether a pair is one of a list

abbrev pub is_in : List (ℕ × ℕ) → ℕ × ℕ → Bool
is_in pairs q = list_any (λ p. nat_eq p.0 q.0 && nat_eq p.1 q.1) pairs

abbrev is_that : ℕ × ℕ → ℕ × ℕ → Bool
is_that q p = nat_eq p.0 q.0 && nat_eq p.1 q.1

that_itself : (p : ℕ × ℕ) → is_that p p ≡ true
that_itself p = grind arith

numbers_of : (a b c d : ℕ) → (nat_eq a c && nat_eq b d) ≡ true → (a ≡ c) × (b ≡ d)
numbers_of a b c d h = (grind arith, grind arith)

-- what holds of each pair of a list holds of one that is in it
member_by : (P : ℕ × ℕ → Type 0) (p q : ℕ × ℕ) (pairs : List (ℕ × ℕ)) (b : Bool) → is_that q p ≡ b → P p → (is_in pairs q ≡ true → P q) → (is_that q p || is_in pairs q) ≡ true → P q
member_by P p q pairs true e h rest k = let t = numbers_of p.0 p.1 q.0 q.1 e in subst (λ a. P (a, q.1)) t.0 (subst (λ b. P (p.0, b)) t.1 h)
member_by P p q pairs false e h rest k = rest (subst (λ b. (b || is_in pairs q) ≡ true) e k)

member : (P : ℕ × ℕ → Type 0) (pairs : List (ℕ × ℕ)) (q : ℕ × ℕ) → AllByRecursion P pairs → is_in pairs q ≡ true → P q
member P [] q h k = absurd (true≢false (sym k))
member P (p ∷ pairs) q h k = member_by P p q pairs (is_that q p) refl h.0 (member P pairs q h.1) k

passed : {A : Type 0} (f : A → Bool) (xs : List A) → list_all f xs ≡ true → AllByRecursion (λ x. f x ≡ true) xs
passed f [] h = tt
passed f (x ∷ xs) h = let t = both_true (f x) (list_all f xs) h in (t.0, passed f xs t.1)

pub through : (xs ys zs : List (ℕ × ℕ)) → list_all (is_in xs) ys ≡ true → list_all (is_in ys) zs ≡ true → list_all (is_in xs) zs ≡ true
through xs ys zs h k = all_more (is_in ys) (is_in xs) (λ p e. member (λ q. is_in xs q ≡ true) ys p (passed (is_in xs) ys h) e) zs k

in_rest : (x : ℕ × ℕ) (xs : List (ℕ × ℕ)) (ps : List (ℕ × ℕ)) → list_all (is_in xs) ps ≡ true → list_all (is_in (x ∷ xs)) ps ≡ true
in_rest x xs ps h = all_more (is_in xs) (is_in (x ∷ xs)) (λ p e. or_second (is_that p x) (is_in xs p) e) ps h

pub itself : (xs : List (ℕ × ℕ)) → list_all (is_in xs) xs ≡ true
itself [] = refl
itself (x ∷ xs) = and_true (is_in (x ∷ xs) x) (list_all (is_in (x ∷ xs)) xs) (ap (λ b. b || is_in xs x) (that_itself x)) (in_rest x xs xs (itself xs))

-- ---- in order

abbrev NotBoth : ℕ × ℕ → ℕ × ℕ → Type 0
NotBoth a b = IsBefore a b → IsBefore b a → ⊥

not_both : (a b : ℕ × ℕ) → NotBoth a b
not_both a b (inl h) (inl k) = omega (arith, h, k)
not_both a b (inl h) (inr k) = let e = k.0 in omega (arith, h, e)
not_both a b (inr h) (inl k) = let e = h.0 in omega (arith, k, e)
not_both a b (inr h) (inr k) = let l = h.1 in let m = k.1 in omega (arith, l, m)

not_itself : (a : ℕ × ℕ) → IsBefore a a → ⊥
not_itself a h = not_both a a h h

that_is : (q p : ℕ × ℕ) → is_that q p ≡ true → p ≡ q
that_is q p h = let t = numbers_of p.0 p.1 q.0 q.1 h in ap (λ a. (a, p.1)) t.0 ∙ ap (λ b. (q.0, b)) t.1

head_or_rest : (A : Type 0) (q p : ℕ × ℕ) (pairs : List (ℕ × ℕ)) (b : Bool) → is_that q p ≡ b → (is_that q p || is_in pairs q) ≡ true → (p ≡ q → A) → (is_in pairs q ≡ true → A) → A
head_or_rest A q p pairs true e h f g = f (that_is q p e)
head_or_rest A q p pairs false e h f g = g (subst (λ b. (b || is_in pairs q) ≡ true) e h)

-- the first pairs are the same: else each would be before the other
heads_same : (x y : ℕ × ℕ) (xs ys : List (ℕ × ℕ)) → AllByRecursion (IsBefore x) xs → AllByRecursion (IsBefore y) ys → is_in (y ∷ ys) x ≡ true → is_in (x ∷ xs) y ≡ true → y ≡ x
heads_same x y xs ys hx hy kx ky =
    head_or_rest (y ≡ x) x y ys (is_that x y) refl kx (λ e. e) (λ inside.
    head_or_rest (y ≡ x) y x xs (is_that y x) refl ky (λ e. sym e) (λ within.
    absurd (not_both x y (member (IsBefore x) xs y hx within) (member (IsBefore y) ys x hy inside))))

-- what is in a list and behind its first pair is in the rest
rest_in : (x : ℕ × ℕ) (xs ps : List (ℕ × ℕ)) → AllByRecursion (IsBefore x) ps → list_all (is_in (x ∷ xs)) ps ≡ true → list_all (is_in xs) ps ≡ true
rest_in x xs [] h k = refl
rest_in x xs (p ∷ ps) h k =
    let t = both_true (is_in (x ∷ xs) p) (list_all (is_in (x ∷ xs)) ps) k in
    and_true (is_in xs p) (list_all (is_in xs) ps)
    (head_or_rest (is_in xs p ≡ true) p x xs (is_that p x) refl t.0 (λ e. absurd (not_itself p (subst (λ a. IsBefore a p) e h.0))) (λ i. i))
    (rest_in x xs ps h.1 t.1)

pub pairs_same : (xs ys : List (ℕ × ℕ)) → Ascend xs → Ascend ys → list_all (is_in xs) ys ≡ true → list_all (is_in ys) xs ≡ true → xs ≡ ys
pairs_same [] [] a b h k = refl
pairs_same [] (y ∷ ys) a b h k = absurd (true≢false (sym h))
pairs_same (x ∷ xs) [] a b h k = absurd (true≢false (sym k))
pairs_same (x ∷ xs) (y ∷ ys) a b h k =
    let u = both_true (is_in (x ∷ xs) y) (list_all (is_in (x ∷ xs)) ys) h in
    let v = both_true (is_in (y ∷ ys) x) (list_all (is_in (y ∷ ys)) xs) k in
    let e : y ≡ x = heads_same x y xs ys a.0 b.0 v.0 u.0 in
    let rest : xs ≡ ys = pairs_same xs ys a.1 b.1
    (rest_in x xs ys (subst (λ p. AllByRecursion (IsBefore p) ys) e b.0) u.1)
    (rest_in y ys xs (subst (λ p. AllByRecursion (IsBefore p) xs) (sym e) a.0) v.1) in
    ap (λ ps. x ∷ ps) rest ∙ ap (λ p. p ∷ ys) (sym e)

-- ---- those that pass a test

kept_by : {A : Type 0} (P : A → Type 0) (f : A → Bool) (x : A) (xs : List A) (b : Bool) → P x → AllByRecursion P (filter f xs) → AllByRecursion P (cond b (x ∷ filter f xs) (filter f xs))
kept_by P f x xs true k h = (k, h)
kept_by P f x xs false k h = h

pub kept_all : {A : Type 0} (P : A → Type 0) (f : A → Bool) (xs : List A) → AllByRecursion P xs → AllByRecursion P (filter f xs)
kept_all P f [] h = tt
kept_all P f (x ∷ xs) h = kept_by P f x xs (f x) h.0 (kept_all P f xs h.1)

ascend_by : (f : ℕ × ℕ → Bool) (x : ℕ × ℕ) (xs : List (ℕ × ℕ)) (b : Bool) → AllByRecursion (IsBefore x) (filter f xs) → Ascend (filter f xs) → Ascend (cond b (x ∷ filter f xs) (filter f xs))
ascend_by f x xs true h k = (h, k)
ascend_by f x xs false h k = k

pub kept_ascend : (f : ℕ × ℕ → Bool) (xs : List (ℕ × ℕ)) → Ascend xs → Ascend (filter f xs)
kept_ascend f [] h = tt
kept_ascend f (x ∷ xs) h = ascend_by f x xs (f x) (kept_all (IsBefore x) f xs h.0) (kept_ascend f xs h.1)

kept_pass_by : {A : Type 0} (f : A → Bool) (x : A) (xs : List A) (b : Bool) → f x ≡ b → AllByRecursion (λ x. f x ≡ true) (filter f xs) → AllByRecursion (λ x. f x ≡ true) (cond b (x ∷ filter f xs) (filter f xs))
kept_pass_by f x xs true e h = (e, h)
kept_pass_by f x xs false e h = h

kept_pass : {A : Type 0} (f : A → Bool) (xs : List A) → AllByRecursion (λ x. f x ≡ true) (filter f xs)
kept_pass f [] = tt
kept_pass f (x ∷ xs) = kept_pass_by f x xs (f x) refl (kept_pass f xs)

all_from : {A : Type 0} (f : A → Bool) (xs : List A) → AllByRecursion (λ x. f x ≡ true) xs → list_all f xs ≡ true
all_from f [] h = refl
all_from f (x ∷ xs) h = and_true (f x) (list_all f xs) h.0 (all_from f xs h.1)

-- those of one list that are in another are in both, and each list whose pairs are in both is in them
pub common_first : (xs ys : List (ℕ × ℕ)) → list_all (is_in xs) (filter (is_in ys) xs) ≡ true
common_first xs ys = all_from (is_in xs) (filter (is_in ys) xs) (kept_all (λ p. is_in xs p ≡ true) (is_in ys) xs (passed (is_in xs) xs (itself xs)))

pub common_second : (xs ys : List (ℕ × ℕ)) → list_all (is_in ys) (filter (is_in ys) xs) ≡ true
common_second xs ys = all_from (is_in ys) (filter (is_in ys) xs) (kept_pass (is_in ys) xs)

in_common : (ys xs : List (ℕ × ℕ)) (p : ℕ × ℕ) → is_in ys p ≡ true → is_in xs p ≡ true → is_in (filter (is_in ys) xs) p ≡ true
in_common ys xs p h k = any-filter_same (λ q. nat_eq q.0 p.0 && nat_eq q.1 p.1) (is_in ys) true (λ q e. subst (λ a. is_in ys a ≡ true) (sym (that_is p q e)) h) xs ∙ k

pub common_all : (xs ys zs : List (ℕ × ℕ)) → list_all (is_in xs) zs ≡ true → list_all (is_in ys) zs ≡ true → list_all (is_in (filter (is_in ys) xs)) zs ≡ true
common_all xs ys [] h k = refl
common_all xs ys (z ∷ zs) h k =
    let t = both_true (is_in xs z) (list_all (is_in xs) zs) h in
    let u = both_true (is_in ys z) (list_all (is_in ys) zs) k in
    and_true (is_in (filter (is_in ys) xs) z) (list_all (is_in (filter (is_in ys) xs)) zs) (in_common ys xs z u.0 t.0) (common_all xs ys zs t.1 u.1)
