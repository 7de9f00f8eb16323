-- Elements of lists by their positions, and one of its kind in a list.
use Rattle.std.proofs.Common.{◌≡◌, ◌∙◌, ◌⊎◌, inl, inr, ◌+◌, ◌<◌, ℕ, zero, suc, Bool, true, false, true≢false, not, ◌||◌, cond, List, [], ◌∷◌, ◌++◌, length, map, Some, None, slice_get, filter, find, refl, ap, sym, subst, arith}
use Rattle.std.specs.Prelude.{position}
use Rattle.std.specs.List.{list_any, position_or_len}
use Rattle.std.proofs.lemmas.Bool.{lt-ltb}
use Rattle.cc_linked_programs.proofs.ThingLists.{order-in}
use Rattle.cc_order.specs.Order.{inserted, in_order}
use Rattle.cc_structures.proofs.Elements.{In}
use Rattle.cc_type.specs.CcSyntax.Lists.{come_first}

-- ---- by positions

pub get-left : {X : Type 0} (xs ys : List X) (i : ℕ) (x : X) → slice_get xs i ≡ Some x → slice_get (xs ++ ys) i ≡ Some x
get-left [] ys i x e = absurd (cc)
get-left (y ∷ xs) ys zero x e = e
get-left (y ∷ xs) ys (suc i) x e = get-left xs ys i x e

pub get-right : {X : Type 0} (xs ys : List X) (i k : ℕ) (x : X) → k ≡ length xs + i → slice_get ys i ≡ Some x → slice_get (xs ++ ys) k ≡ Some x
get-right [] ys i k x h e = let s : i ≡ k = omega (arith, h) in subst (λ (j : ℕ). slice_get ys j ≡ Some x) s e
get-right (y ∷ xs) ys i zero x h e = absurd (omega (arith, h))
get-right (y ∷ xs) ys i (suc k) x h e = get-right xs ys i k x (omega (arith, h)) e

pub get-split : {X : Type 0} (xs ys : List X) (k : ℕ) (x : X) → slice_get (xs ++ ys) k ≡ Some x → (slice_get xs k ≡ Some x) ⊎ ((i : ℕ) × (k ≡ length xs + i) × (slice_get ys i ≡ Some x))
get-split [] ys k x e = inr (k, omega arith, e)
get-split (y ∷ xs) ys zero x e = inl e
get-split {X} (y ∷ xs) ys (suc k) x e = by (get-split xs ys k x e)
  where
    by : (slice_get xs k ≡ Some x) ⊎ ((i : ℕ) × (k ≡ length xs + i) × (slice_get ys i ≡ Some x)) → (slice_get xs k ≡ Some x) ⊎ ((i : ℕ) × (suc k ≡ length (y ∷ xs) + i) × (slice_get ys i ≡ Some x))
    by (inl h) = inl h
    by (inr h) = let s = h.1 in let t : suc k ≡ length (y ∷ xs) + h.0 = omega (arith, s) in inr (h.0, t, h.2)

pub get-map : {X Y : Type 0} (f : X → Y) (xs : List X) (i : ℕ) (x : X) → slice_get xs i ≡ Some x → slice_get (map f xs) i ≡ Some (f x)
get-map f [] i x e = absurd (cc)
get-map {X} {Y} f (y ∷ xs) zero x e = let s : y ≡ x = cc e in ap (λ (z : X). Some (f z)) s
get-map f (y ∷ xs) (suc i) x e = get-map f xs i x e

pub get-unmap : {X Y : Type 0} (f : X → Y) (xs : List X) (i : ℕ) (y : Y) → slice_get (map f xs) i ≡ Some y → (x : X) × (slice_get xs i ≡ Some x) × (f x ≡ y)
get-unmap f [] i y e = absurd (cc)
get-unmap f (x ∷ xs) zero y e = let s : f x ≡ y = cc e in (x, refl, s)
get-unmap f (x ∷ xs) (suc i) y e = get-unmap f xs i y e

pub in-get : {X : Type 0} (xs : List X) (i : ℕ) (x : X) → slice_get xs i ≡ Some x → In x xs
in-get [] i x e = absurd (cc)
in-get (y ∷ ys) zero x e = let s : y ≡ x = cc e in inl s
in-get (y ∷ ys) (suc i) x e = inr (in-get ys i x e)

pub get-in : {X : Type 0} (xs : List X) (x : X) → In x xs → (i : ℕ) × (slice_get xs i ≡ Some x)
get-in [] x h = absurd h
get-in {X} (y ∷ ys) x (inl e) = (zero, ap (λ (z : X). Some z) e)
get-in (y ∷ ys) x (inr h) = let r = get-in ys x h in (suc r.0, r.1)

pub within : {X : Type 0} (xs : List X) (i : ℕ) (x : X) → slice_get xs i ≡ Some x → i < length xs
within [] i x e = absurd (cc)
within (y ∷ ys) zero x e = omega arith
within (y ∷ ys) (suc i) x e = let r = within ys i x e in omega (arith, r)

pub get-inside : {X : Type 0} (xs : List X) (k : ℕ) → k < length xs → (x : X) × (slice_get xs k ≡ Some x)
get-inside [] k h = absurd (omega (arith, h))
get-inside (x ∷ xs) zero h = (x, refl)
get-inside (x ∷ xs) (suc k) h = get-inside xs k (omega (arith, h))

-- ---- what passes a test

one-more : (n : ℕ) → 1 + n ≡ suc n
one-more n = omega arith

pub find-none : {X : Type 0} (p : X → Bool) (xs : List X) → ((x : X) → In x xs → p x ≡ false) → find p xs ≡ None
find-none p [] h = refl
find-none p (x ∷ xs) h = rw (h x (inl refl), find-none p xs (λ y i. h y (inr i))) refl

pub position-some : {X : Type 0} (p : X → Bool) (xs : List X) (j : ℕ) → position_or_len p xs ≡ j → j < length xs → position p xs ≡ Some j
position-some p xs j e l = rw (e, lt-ltb j (length xs) l) refl

-- behind those of which none passes
pub place-behind : {X : Type 0} (p : X → Bool) (xs ys : List X) → ((x : X) → In x xs → p x ≡ false) → position_or_len p (xs ++ ys) ≡ length xs + position_or_len p ys
place-behind p [] ys h = omega arith
place-behind p (x ∷ xs) ys h = rw (h x (inl refl), place-behind p xs ys (λ y i. h y (inr i))) (omega arith)

pub place-in-front : {X : Type 0} (p : X → Bool) (xs ys : List X) (j : ℕ) → position_or_len p xs ≡ j → j < length xs → position_or_len p (xs ++ ys) ≡ j
place-in-front p [] ys j e l = absurd (omega (arith, l))
place-in-front p (x ∷ xs) ys j e l = by (p x) refl j e l (place-in-front p xs ys)
  where
    by : (b : Bool) → p x ≡ b → (j : ℕ) → position_or_len p (x ∷ xs) ≡ j → j < length (x ∷ xs) → ((i : ℕ) → position_or_len p xs ≡ i → i < length xs → position_or_len p (xs ++ ys) ≡ i) → position_or_len p (x ∷ (xs ++ ys)) ≡ j
    by true h j e l rest = let k : position_or_len p (x ∷ xs) ≡ 0 = rw h refl in rw h (sym k ∙ e)
    by false h zero e l rest = let k : position_or_len p (x ∷ xs) ≡ 1 + position_or_len p xs = rw h refl in absurd (omega (arith, k, e))
    by false h (suc j) e l rest =
        let k : position_or_len p (x ∷ xs) ≡ 1 + position_or_len p xs = rw h refl in
        let low : j < length xs = omega (arith, l) in
        let r = rest j (omega (arith, k, e)) low in
        rw (h, r) (omega arith)

-- one alone
pub unique-place : {X : Type 0} (q : X → Bool) (xs : List X) (k : ℕ) (x : X) → slice_get xs k ≡ Some x → q x ≡ true → ((j : ℕ) (y : X) → slice_get xs j ≡ Some y → q y ≡ true → j ≡ k) → position_or_len q xs ≡ k
unique-place q [] k x e t u = absurd (cc)
unique-place q (y ∷ ys) zero x e t u = let s : y ≡ x = cc e in rw (ap q s ∙ t) refl
unique-place q (y ∷ ys) (suc k) x e t u = by (q y) refl (unique-place q ys k x e t (λ j z g p. let s = u (suc j) z g p in omega (arith, s)))
  where
    by : (b : Bool) → q y ≡ b → position_or_len q ys ≡ k → position_or_len q (y ∷ ys) ≡ suc k
    by true h r = let z = u 0 y refl h in absurd (omega (arith, z))
    by false h r = rw (h, r) (one-more k)

none-left : {X : Type 0} (q : X → Bool) (xs : List X) → ((j : ℕ) (y : X) → slice_get xs j ≡ Some y → q y ≡ false) → filter q xs ≡ []
none-left q [] h = refl
none-left q (x ∷ xs) h = rw (h 0 x refl, none-left q xs (λ j y e. h (suc j) y e)) refl

not-true : (b : Bool) → (b ≡ true → ⊥) → b ≡ false
not-true true h = absurd (h refl)
not-true false h = refl

pub unique-filter : {X : Type 0} (q : X → Bool) (xs : List X) (k : ℕ) (x : X) → slice_get xs k ≡ Some x → q x ≡ true → ((j : ℕ) (y : X) → slice_get xs j ≡ Some y → q y ≡ true → j ≡ k) → filter q xs ≡ x ∷ []
unique-filter q [] k x e t u = absurd (cc)
unique-filter {X} q (y ∷ ys) zero x e t u =
    let s : y ≡ x = cc e in
    let none = none-left q ys (λ j z g. not-true (q z) (λ p. let r = u (suc j) z g p in omega (arith, r))) in
    rw (ap q s ∙ t, none) (ap (λ (z : X). z ∷ []) s)
unique-filter q (y ∷ ys) (suc k) x e t u = by (q y) refl (unique-filter q ys k x e t (λ j z g p. let s = u (suc j) z g p in omega (arith, s)))
  where
    by : (b : Bool) → q y ≡ b → filter q ys ≡ x ∷ [] → filter q (y ∷ ys) ≡ x ∷ []
    by true h r = let z = u 0 y refl h in absurd (omega (arith, z))
    by false h r = rw h r

pub filter-same : {X : Type 0} (p q : X → Bool) (xs : List X) → ((x : X) → p x ≡ q x) → filter p xs ≡ filter q xs
filter-same p q [] h = refl
filter-same p q (x ∷ xs) h = rw (h x, filter-same p q xs h) refl

-- ---- those that pass in front of the others

either-false : (a b : Bool) → not (a || b) ≡ true → (a ≡ false) × (not b ≡ true)
either-false true b h = absurd (true≢false (sym h))
either-false false b h = (refl, h)

none-passes : {X : Type 0} (test : X → Bool) (xs : List X) → not (list_any test xs) ≡ true → (filter test xs ≡ []) × (filter (λ (x : X). not (test x)) xs ≡ xs)
none-passes test [] h = (refl, refl)
none-passes test (x ∷ xs) h =
    let b = either-false (test x) (list_any test xs) h in
    let r = none-passes test xs b.1 in
    (rw (b.0, r.0) refl, rw (b.0, r.1) refl)

pub first-then : {X : Type 0} (test : X → Bool) (xs : List X) → come_first test xs ≡ true → filter test xs ++ filter (λ (x : X). not (test x)) xs ≡ xs
first-then test [] h = refl
first-then {X} test (x ∷ xs) h = by (test x) refl h (first-then test xs)
  where
    by : (b : Bool) → test x ≡ b → cond b (come_first test xs) (not (list_any test xs)) ≡ true → (come_first test xs ≡ true → filter test xs ++ filter (λ (x : X). not (test x)) xs ≡ xs) →
        filter test (x ∷ xs) ++ filter (λ (x : X). not (test x)) (x ∷ xs) ≡ x ∷ xs
    by true e k rest = rw e (ap (λ (ys : List X). x ∷ ys) (rest k))
    by false e k rest = let r = none-passes test xs k in rw (e, r.0, r.1) refl

-- ---- in an order

-- of two that pass the later one is not before the other
module _ {X : Type 0} (before : X → X → Bool) (passes : X → Bool) where
  abbrev pub Rises : List X → Type 0
  Rises [] = Unit {0}
  Rises (x ∷ xs) = ((y : X) → In y xs → passes x ≡ true → passes y ≡ true → before y x ≡ false) × Rises xs

  skipped : (x : X) (ys : List X) → passes x ≡ false → filter passes (inserted before x ys) ≡ filter passes ys
  skipped x [] h = rw h refl
  skipped x (y ∷ ys) h = by (before y x) (skipped x ys h)
    where
      by : (b : Bool) → filter passes (inserted before x ys) ≡ filter passes ys → filter passes (cond b (y ∷ inserted before x ys) (x ∷ y ∷ ys)) ≡ filter passes (y ∷ ys)
      by true rest = ap (λ (zs : List X). cond (passes y) (y ∷ zs) zs) rest
      by false rest = rw h refl

  in-front : (x : X) (ys : List X) → passes x ≡ true → ((y : X) → In y ys → passes y ≡ true → before y x ≡ false) → filter passes (inserted before x ys) ≡ x ∷ filter passes ys
  in-front x [] h k = rw h refl
  in-front x (y ∷ ys) h k = by (before y x) refl (in-front x ys h (λ z i. k z (inr i)))
    where
      by : (b : Bool) → before y x ≡ b → filter passes (inserted before x ys) ≡ x ∷ filter passes ys → filter passes (cond b (y ∷ inserted before x ys) (x ∷ y ∷ ys)) ≡ x ∷ filter passes (y ∷ ys)
      by false e rest = rw h refl
      by true e rest = other (passes y) refl
        where
          other : (c : Bool) → passes y ≡ c → cond (passes y) (y ∷ filter passes (inserted before x ys)) (filter passes (inserted before x ys)) ≡ x ∷ cond (passes y) (y ∷ filter passes ys) (filter passes ys)
          other true p = absurd (true≢false (sym e ∙ k y (inl refl) p))
          other false p = rw p rest

  pub filter-order : (xs : List X) → Rises xs → filter passes (in_order before xs) ≡ filter passes xs
  unfolding in_order
  filter-order [] h = refl
  filter-order (x ∷ xs) h = by (passes x) refl (filter-order xs h.1)
    where
      by : (b : Bool) → passes x ≡ b → filter passes (in_order before xs) ≡ filter passes xs → filter passes (inserted before x (in_order before xs)) ≡ filter passes (x ∷ xs)
      by true p rest =
          let kept : x ∷ filter passes xs ≡ filter passes (x ∷ xs) = rw p refl in
          in-front x (in_order before xs) p (λ y i q. h.0 y (order-in before xs y i) p q) ∙ (ap (λ (ys : List X). x ∷ ys) rest ∙ kept)
      by false p rest =
          let kept : filter passes xs ≡ filter passes (x ∷ xs) = rw p refl in
          skipped x (in_order before xs) p ∙ (rest ∙ kept)
