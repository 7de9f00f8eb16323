-- Where things stand in lists: the first place at which a test passes, and what is made of the things that pass.
use Rattle.std.proofs.Common.{arith, ◌≡◌, ◌≤◌, ◌<◌, ◌+◌, ℕ, zero, suc, Bool, true, false, true≢false, not, ◌&&◌, nat_lt, List, [], ◌∷◌, ◌++◌, length, take, get_or, Some, None, refl, ap, sym, ◌∙◌, subst, slice_get}
use Rattle.std.specs.Prelude.{◌==◌, position, if◌then◌else◌}
use Rattle.std.specs.List.{Contains, filter, position_or_len}
use Rattle.std.proofs.lemmas.List.Quantifiers.{position-Some}
use Rattle.std.proofs.lemmas.Option.{same_Some, none-some, slice_get-get_or, slice_get_within, get_or_from_slice_get}
use Rattle.cc_rules.specs.CcStateFacts.declared.facts.Key.{Key}
use Rattle.cc_rules.specs.CcStateFacts.declared.facts.Key.TheVariants as key
use Rattle.cc_rules.specs.CcStateKeys.Keys.{is_key}
use Rattle.cc_rules.specs.CcStateKeys.Lists.{only_if, made_from, all_from}

-- a list has a thing
abbrev pub IsIn : {A : Type 0} → List A → A → Type 0
IsIn xs x = (k : ℕ) × (slice_get xs k ≡ Some x)

pub is_in_contains : {A : Type 0} (xs : List A) (x : A) → IsIn xs x → Contains xs x
is_in_contains xs x h = (h.0, slice_get_within xs h.0 x h.1, get_or_from_slice_get xs h.0 x x h.1)

pub contains_is_in : {A : Type 0} (xs : List A) (x : A) → Contains xs x → IsIn xs x
contains_is_in xs x h = (h.0, slice_get-get_or xs h.0 x h.1 ∙ ap Some h.2)

pub in_later : {A : Type 0} (y : A) (xs : List A) (x : A) → IsIn xs x → IsIn (y ∷ xs) x
in_later y xs x h = (suc h.0, h.1)

pub in_left : {A : Type 0} (xs ys : List A) (x : A) → IsIn xs x → IsIn (xs ++ ys) x
in_left {A = A} xs ys x h = by xs h.0 h.1
  where
    by : (xs : List A) (k : ℕ) → slice_get xs k ≡ Some x → IsIn (xs ++ ys) x
    by [] k e = absurd (none-some x e)
    by (z ∷ zs) zero e = (zero, e)
    by (z ∷ zs) (suc k) e = in_later z (zs ++ ys) x (by zs k e)

pub in_right : {A : Type 0} (xs ys : List A) (x : A) → IsIn ys x → IsIn (xs ++ ys) x
in_right [] ys x h = h
in_right (z ∷ xs) ys x h = in_later z (xs ++ ys) x (in_right xs ys x h)

pub in_filtered : {A : Type 0} (test : A → Bool) (xs : List A) (x : A) → test x ≡ true → IsIn xs x → IsIn (filter test xs) x
in_filtered {A = A} test xs x t h = by xs h.0 h.1
  where
    first : (b : Bool) (zs : List A) (z : A) → b ≡ true → z ≡ x → IsIn (if b then z ∷ zs else zs) x
    first true zs z e s = (zero, ap Some s)
    first false zs z e s = absurd (true≢false (sym e))

    later : (b : Bool) (zs : List A) (z : A) → IsIn zs x → IsIn (if b then z ∷ zs else zs) x
    later true zs z k = in_later z zs x k
    later false zs z k = k

    by : (xs : List A) (k : ℕ) → slice_get xs k ≡ Some x → IsIn (filter test xs) x
    by [] k e = absurd (none-some x e)
    by (z ∷ zs) zero e = let s = same_Some z x e in first (test z) (filter test zs) z (ap test s ∙ t) s
    by (z ∷ zs) (suc k) e = later (test z) (filter test zs) z (by zs k e)

-- ---- the first place at which a test passes

lt_true : (m n : ℕ) → m < n → nat_lt m n ≡ true
lt_true m n h = grind arith

pub position_at : {A : Type 0} (test : A → Bool) (xs : List A) (n : ℕ) → position test xs ≡ Some n → (x : A) × (slice_get xs n ≡ Some x) × (test x ≡ true)
position_at test [] n h = absurd (none-some n h)
position_at test (x ∷ xs) n h = let s = position-Some test (x ∷ xs) n x h in (get_or (x ∷ xs) n x, slice_get-get_or (x ∷ xs) n x s.0, s.1)

not_behind_first : (b : Bool) (n : ℕ) → b ≡ true → (if not b then 1 + n else 0) ≤ 0
not_behind_first true n e = omega arith
not_behind_first false n e = absurd (true≢false (sym e))

not_behind_later : (b : Bool) (n k : ℕ) → n ≤ k → (if not b then 1 + n else 0) ≤ suc k
not_behind_later true n k h = omega arith
not_behind_later false n k h = omega (arith, h)

not_behind : {A : Type 0} (test : A → Bool) (xs : List A) (k : ℕ) (x : A) → slice_get xs k ≡ Some x → test x ≡ true → position_or_len test xs ≤ k
not_behind test [] k x e t = absurd (none-some x e)
not_behind test (y ∷ ys) zero x e t = not_behind_first (test y) (position_or_len test ys) (ap test (same_Some y x e) ∙ t)
not_behind test (y ∷ ys) (suc k) x e t = not_behind_later (test y) (position_or_len test ys) k (not_behind test ys k x e t)

pub position_there : {A : Type 0} (test : A → Bool) (xs : List A) (k : ℕ) (x : A) → slice_get xs k ≡ Some x → test x ≡ true → (n : ℕ) × (position test xs ≡ Some n)
position_there test xs k x e t =
    let le = not_behind test xs k x e t in
    let lt = slice_get_within xs k x e in
    let within : position_or_len test xs < length xs = omega (arith, le, lt) in
    (position_or_len test xs, ap (λ b. if b then Some (position_or_len test xs) else None) (lt_true (position_or_len test xs) (length xs) within))

eq_of : (m n : ℕ) → (m == n) ≡ true → m ≡ n
eq_of m n h = grind arith

eq_itself : (n : ℕ) → (n == n) ≡ true
eq_itself n = grind arith

-- of a number
pub number_at : (xs : List ℕ) (x n : ℕ) → position (λ y. y == x) xs ≡ Some n → slice_get xs n ≡ Some x
number_at xs x n h = let s = position_at (λ y. y == x) xs n h in s.1 ∙ ap Some (eq_of s.0 x s.2)

pub number_there : (xs : List ℕ) (x : ℕ) → IsIn xs x → (n : ℕ) × (position (λ y. y == x) xs ≡ Some n)
number_there xs x h = position_there (λ y. y == x) xs h.0 x h.1 (eq_itself x)

-- of a key

both_eq : (a b m n : ℕ) → ((a == b) && (m == n)) ≡ true → (a ≡ b) × (m ≡ n)
both_eq a b m n h = (grind (arith, h), grind (arith, h))

both_itself : (a m : ℕ) → ((a == a) && (m == m)) ≡ true
both_itself a m = grind arith

pub same_key : (k l : Key) → is_key k l ≡ true → k ≡ l
same_key (key.Object i) (key.Object j) h = ap key.Object (eq_of i j h)
same_key (key.Object i) (key.Local g q) h = absurd (true≢false (sym h))
same_key (key.Object i) (key.Member t n) h = absurd (true≢false (sym h))
same_key (key.Local f r) (key.Object j) h = absurd (true≢false (sym h))
same_key (key.Local f r) (key.Local g q) h = let s = both_eq f g r q h in ap (λ n. key.Local n r) s.0 ∙ ap (key.Local g) s.1
same_key (key.Local f r) (key.Member t n) h = absurd (true≢false (sym h))
same_key (key.Member s m) (key.Object j) h = absurd (true≢false (sym h))
same_key (key.Member s m) (key.Local g q) h = absurd (true≢false (sym h))
same_key (key.Member s m) (key.Member t n) h = let e = both_eq s t m n h in ap (λ k. key.Member k m) e.0 ∙ ap (key.Member t) e.1

pub is_itself : (k : Key) → is_key k k ≡ true
is_itself (key.Object i) = eq_itself i
is_itself (key.Local f r) = both_itself f r
is_itself (key.Member s m) = both_itself s m

-- ---- what is made of the things that pass

module _ {A B : Type 0} (passes : ℕ → A → Bool) (make : ℕ → B) where
  first_made : (n j : ℕ) (b : Bool) (rest : List B) → n ≡ j → b ≡ true → IsIn (only_if b (make n) ++ rest) (make j)
  first_made n j true rest e t = (zero, ap (λ m. Some (make m)) e)
  first_made n j false rest e t = absurd (true≢false (sym t))

  pub made_there : (n : ℕ) (xs : List A) (i : ℕ) (x : A) (j : ℕ) → slice_get xs i ≡ Some x → j ≡ n + i → passes j x ≡ true → IsIn (made_from passes make n xs) (make j)
  made_there n [] i x j e q t = absurd (none-some x e)
  made_there n (y ∷ ys) zero x j e q t =
      let here : n ≡ j = omega (arith, q) in
      first_made n j (passes n y) (made_from passes make (n + 1) ys) here (ap (λ m. passes m y) here ∙ ap (passes j) (same_Some y x e) ∙ t)
  made_there n (y ∷ ys) (suc i) x j e q t = in_right (only_if (passes n y) (make n)) (made_from passes make (n + 1) ys) (make j) (made_there (n + 1) ys i x j e (omega (arith, q)) t)

  -- a thing that passes, of which something is made
  pub record IsMade (n : ℕ) (xs : List A) (y : B) : Type 0 where
    pub place : ℕ
    pub number : ℕ
    pub thing : A
    pub there : slice_get xs place ≡ Some thing
    pub counts : number ≡ n + place
    pub passes_it : passes number thing ≡ true
    pub is : y ≡ make number

  made_later : (n : ℕ) (x : A) (xs : List A) (y : B) → IsMade (n + 1) xs y → IsMade n (x ∷ xs) y
  made_later n x xs y h = record {
    place = suc h.place;
    number = h.number;
    thing = h.thing;
    there = h.there;
    counts = (let c = h.counts in omega (arith, c));
    passes_it = h.passes_it;
    is = h.is;
  }

  made_by : (n : ℕ) (x : A) (xs : List A) (y : B) (b : Bool) → passes n x ≡ b → ((k : ℕ) → slice_get (made_from passes make (n + 1) xs) k ≡ Some y → IsMade (n + 1) xs y) → (k : ℕ) →
      slice_get (only_if b (make n) ++ made_from passes make (n + 1) xs) k ≡ Some y → IsMade n (x ∷ xs) y
  made_by n x xs y true t rest zero e = record { place = zero; number = n; thing = x; there = refl; counts = omega arith; passes_it = t; is = sym (same_Some (make n) y e) }
  made_by n x xs y true t rest (suc k) e = made_later n x xs y (rest k e)
  made_by n x xs y false t rest k e = made_later n x xs y (rest k e)

  pub made_of : (n : ℕ) (xs : List A) (k : ℕ) (y : B) → slice_get (made_from passes make n xs) k ≡ Some y → IsMade n xs y
  made_of n [] k y e = absurd (none-some y e)
  made_of n (x ∷ xs) k y e = made_by n x xs y (passes n x) refl (λ m h. made_of (n + 1) xs m y h) k e

module _ {A B : Type 0} (lists : ℕ → A → List B) where
  pub listed_there : (n : ℕ) (xs : List A) (i : ℕ) (x : A) (j : ℕ) (y : B) → slice_get xs i ≡ Some x → j ≡ n + i → IsIn (lists j x) y → IsIn (all_from lists n xs) y
  listed_there n [] i x j y e q h = absurd (none-some x e)
  listed_there n (z ∷ zs) zero x j y e q h =
      let here : n ≡ j = omega (arith, q) in
      in_left (lists n z) (all_from lists (n + 1) zs) y (subst (λ m. IsIn (lists m z) y) (sym here) (subst (λ (w : A). IsIn (lists j w) y) (sym (same_Some z x e)) h))
  listed_there n (z ∷ zs) (suc i) x j y e q h = in_right (lists n z) (all_from lists (n + 1) zs) y (listed_there (n + 1) zs i x j y e (omega (arith, q)) h)

pub get_taken : {A : Type 0} (n : ℕ) (xs : List A) (k : ℕ) (x : A) → slice_get (take n xs) k ≡ Some x → slice_get xs k ≡ Some x
get_taken zero xs k x e = absurd (none-some x e)
get_taken (suc n) [] k x e = e
get_taken (suc n) (y ∷ ys) zero x e = e
get_taken (suc n) (y ∷ ys) (suc k) x e = get_taken n ys k x e
