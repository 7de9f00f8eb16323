-- Elements of lists: in an order, by their positions, and where each gives a value.
use Rattle.std.proofs.Common.{◌≡◌, ◌∙◌, ◌⊎◌, inl, inr, ◌<◌, ◌≤◌, ℕ, zero, suc, Bool, true, false, true≢false, cond, List, [], ◌∷◌, ◌++◌, length, get_or, Option, Some, None, is_some, slice_get, refl, ap, sym, subst, arith}
use Rattle.std.specs.Prelude.{◌||◌, filter_map, find, nat_eq, position}
use Rattle.std.specs.List.{list_any, position_or_len}
use Rattle.std.proofs.lemmas.Bool.{cases_lt, eqb-true, eq-eqb, lt-ltb, le-ltb}
use Rattle.std.proofs.lemmas.Option.{slice_get-get_or}
use Rattle.cc_definitions.specs.Definitions.{numbers_below}
use Rattle.cc_order.specs.Order.{inserted, in_order}
use Rattle.cc_structures.proofs.ClassLemmas.{position-within, position-passes, position-past}
use Rattle.cc_structures.proofs.Elements.{In, any-in, in-any, in-left, in-right}

-- ---- an element that passes a test is found

pub found-in : {X : Type 0} (p : X → Bool) (xs : List X) (x : X) → find p xs ≡ Some x → In x xs × (p x ≡ true)
found-in p [] x e = absurd (cc)
found-in {X} p (y ∷ ys) x e = by (p y) refl e (found-in p ys x)
  where
    by : (b : Bool) → p y ≡ b → cond b (Some y) (find p ys) ≡ Some x → (find p ys ≡ Some x → In x ys × (p x ≡ true)) → In x (y ∷ ys) × (p x ≡ true)
    by true h f rest = let s : y ≡ x = cc f in (inl s, sym (ap p s) ∙ h)
    by false h f rest = let r = rest f in (inr r.0, r.1)

pub in-found : {X : Type 0} (p : X → Bool) (xs : List X) → list_any p xs ≡ true → (x : X) × (find p xs ≡ Some x)
in-found p [] h = absurd (true≢false (sym h))
in-found {X} p (y ∷ ys) h = by (p y) refl h (in-found p ys)
  where
    by : (b : Bool) → p y ≡ b → b || list_any p ys ≡ true → (list_any p ys ≡ true → (x : X) × (find p ys ≡ Some x)) → (x : X) × (cond b (Some y) (find p ys) ≡ Some x)
    by true e k rest = (y, refl)
    by false e k rest = rest k

pub not-found : {X : Type 0} (p : X → Bool) (xs : List X) (x : X) → find p xs ≡ None → In x xs → p x ≡ false
not-found p [] x e h = absurd h
not-found p (y ∷ ys) x e h = by (p y) refl e h (not-found p ys x)
  where
    by : (b : Bool) → p y ≡ b → cond b (Some y) (find p ys) ≡ None → In x (y ∷ ys) → (find p ys ≡ None → In x ys → p x ≡ false) → p x ≡ false
    by true k f i rest = absurd (cc f)
    by false k f (inl s) rest = sym (ap p s) ∙ k
    by false k f (inr i) rest = rest f i

-- ---- in an order

module _ {X : Type 0} (before : X → X → Bool) where
  in-inserted : (x : X) (xs : List X) (z : X) → (x ≡ z) ⊎ In z xs → In z (inserted before x xs)
  in-inserted x [] z (inl e) = inl e
  in-inserted x [] z (inr h) = absurd h
  in-inserted x (y ∷ ys) z h = by (before y x) h (in-inserted x ys z)
    where
      by : (b : Bool) → (x ≡ z) ⊎ In z (y ∷ ys) → ((x ≡ z) ⊎ In z ys → In z (inserted before x ys)) → In z (cond b (y ∷ inserted before x ys) (x ∷ y ∷ ys))
      by true (inl e) rest = inr (rest (inl e))
      by true (inr (inl s)) rest = inl s
      by true (inr (inr i)) rest = inr (rest (inr i))
      by false (inl e) rest = inl e
      by false (inr i) rest = inr i

  inserted-in : (x : X) (xs : List X) (z : X) → In z (inserted before x xs) → (x ≡ z) ⊎ In z xs
  inserted-in x [] z (inl e) = inl e
  inserted-in x [] z (inr h) = absurd h
  inserted-in x (y ∷ ys) z h = by (before y x) h (inserted-in x ys z)
    where
      by : (b : Bool) → In z (cond b (y ∷ inserted before x ys) (x ∷ y ∷ ys)) → (In z (inserted before x ys) → (x ≡ z) ⊎ In z ys) → (x ≡ z) ⊎ In z (y ∷ ys)
      by true (inl s) rest = inr (inl s)
      by true (inr i) rest = more (rest i)
        where
          more : (x ≡ z) ⊎ In z ys → (x ≡ z) ⊎ In z (y ∷ ys)
          more (inl e) = inl e
          more (inr j) = inr (inr j)
      by false (inl e) rest = inl e
      by false (inr i) rest = inr i

  pub in-order : (xs : List X) (z : X) → In z xs → In z (in_order before xs)
  unfolding in_order
  in-order [] z h = h
  in-order (x ∷ xs) z (inl e) = in-inserted x (in_order before xs) z (inl e)
  in-order (x ∷ xs) z (inr i) = in-inserted x (in_order before xs) z (inr (in-order xs z i))

  pub order-in : (xs : List X) (z : X) → In z (in_order before xs) → In z xs
  unfolding in_order
  order-in [] z h = h
  order-in (x ∷ xs) z h = by (inserted-in x (in_order before xs) z h) (order-in xs z)
    where
      by : (x ≡ z) ⊎ In z (in_order before xs) → (In z (in_order before xs) → In z xs) → In z (x ∷ xs)
      by (inl e) rest = inl e
      by (inr i) rest = inr (rest i)

-- ---- numbers

pub below-in : (n k : ℕ) → k < n → In k (numbers_below n)
below-in zero k h = absurd (omega (arith, h))
below-in (suc n) k h = by (cases_lt k n) (below-in n k)
  where
    by : (k < n) ⊎ (n ≤ k) → (k < n → In k (numbers_below n)) → In k (numbers_below n ++ n ∷ [])
    by (inl low) rest = in-left (numbers_below n) (n ∷ []) k (rest low)
    by (inr high) rest = let e : n ≡ k = omega (arith, h, high) in in-right (numbers_below n) (n ∷ []) k (inl e)

-- ---- positions

pub record Positioned (k : ℕ) (xs : List ℕ) : Type 0 where
  pub at : ℕ
  pub is : position (nat_eq k) xs ≡ Some at
  pub there : slice_get xs at ≡ Some k

pub positioned : (k : ℕ) (xs : List ℕ) → In k xs → Positioned k xs
positioned k xs i =
    let any = any-in (nat_eq k) xs k i (eq-eqb k k refl) in
    let n = position_or_len (nat_eq k) xs in
    let within = position-within (nat_eq k) xs any in
    record {
      at = n;
      is = ap (λ (b : Bool). cond b (Some n) None) (lt-ltb n (length xs) within);
      there = slice_get-get_or xs n 0 within ∙ ap (λ (j : ℕ). Some j) (sym (eqb-true k (get_or xs n 0) (position-passes (nat_eq k) xs 0 any)));
    }

pub no-position : (k : ℕ) (xs : List ℕ) → (In k xs → ⊥) → position (nat_eq k) xs ≡ None
no-position k xs absent = by (list_any (nat_eq k) xs) refl
  where
    by : (b : Bool) → list_any (nat_eq k) xs ≡ b → position (nat_eq k) xs ≡ None
    by true h = let r = in-any (nat_eq k) xs h in absurd (absent (subst (λ (j : ℕ). In j xs) (sym (eqb-true k r.0 r.1.1)) r.1.0))
    by false h =
        let n = position_or_len (nat_eq k) xs in
        let e = position-past (nat_eq k) xs h in
        ap (λ (b : Bool). cond b (Some n) None) (le-ltb n (length xs) (omega (arith, e)))

-- ---- where each element gives a value

pub given-at : {X Y : Type 0} (f : X → Option Y) (xs : List X) → ((x : X) → In x xs → is_some (f x) ≡ true) → (i : ℕ) (x : X) → slice_get xs i ≡ Some x → slice_get (filter_map f xs) i ≡ f x
given-at f [] each i x e = absurd (cc)
given-at {X} {Y} f (y ∷ ys) each i x e = by (f y) refl (each y (inl refl)) i e (λ j g. given-at f ys (λ z h. each z (inr h)) j x g)
  where
    by : (o : Option Y) → f y ≡ o → is_some o ≡ true → (i : ℕ) → slice_get (y ∷ ys) i ≡ Some x → ((j : ℕ) → slice_get ys j ≡ Some x → slice_get (filter_map f ys) j ≡ f x) → slice_get (filter_map f (y ∷ ys)) i ≡ f x
    by None g h i d rest = absurd (true≢false (sym h))
    by (Some z) g h zero d rest = let s : y ≡ x = cc d in rw g (sym g ∙ ap f s)
    by (Some z) g h (suc i) d rest = rw g (rest i d)
