-- What is contained in lists that are filtered and made, and where a test passes in one.
use Rattle.std.proofs.Common.{arith, ◌≡◌, ◌≤◌, ◌<◌, ◌+◌, inl, inr, ℕ, zero, suc, Bool, true, false, true≢false, not, ◌&&◌, nat_lt, List, [], ◌∷◌, ◌++◌, length, get_or, Some, None, refl, ap, sym, ◌∙◌, slice_get}
use Rattle.std.specs.Prelude.{◌==◌, position, if◌then◌else◌}
use Rattle.std.specs.List.{Contains, filter, flat_map, list_any, position_or_len}
use Rattle.std.proofs.lemmas.List.Elements.{Contains-append_cases}
use Rattle.std.proofs.lemmas.List.Folds.{Any-from_list_any}
use Rattle.std.proofs.lemmas.List.Quantifiers.{position-Some}
use Rattle.std.proofs.lemmas.Option.{same_Some, none-some, slice_get-get_or, slice_get_within, get_or_from_slice_get}
use Rattle.cc_state_reads.specs.CcStateFacts.declared.facts.Key.{Key}
use Rattle.cc_state_reads.specs.CcStateFacts.declared.facts.Key.TheVariants as key
use Rattle.cc_state_reads.specs.CcStateKeys.Keys.{is_key}
use Rattle.cc_state_reads.specs.CcStateKeys.Lists.{only_if, made_from}

-- a list has a thing
abbrev pub IsIn : {A : Type 0} → List A → A → Type 0
IsIn xs x = (k : ℕ) × (slice_get xs k ≡ Some x)

pub at_contained : {A : Type 0} (xs : List A) (x : A) → Contains xs x → IsIn xs x
at_contained xs x c = (c.0, slice_get-get_or xs c.0 x c.1 ∙ ap Some c.2)

pub contains_at : {A : Type 0} (xs : List A) (k : ℕ) (x : A) → slice_get xs k ≡ Some x → Contains xs x
contains_at xs k x e = (k, slice_get_within xs k x e, get_or_from_slice_get xs k x x e)

pub no_member : {A C : Type 0} (x : A) → Contains [] x → C
no_member x c = absurd (let l : c.0 < 0 = c.1 in omega (arith, l))

-- the one of a list of one
pub only_one : {A : Type 0} (y x : A) → Contains (y ∷ []) x → y ≡ x
only_one y x c = by (at_contained (y ∷ []) x c).0 (at_contained (y ∷ []) x c).1
  where
    by : (k : ℕ) → slice_get (y ∷ []) k ≡ Some x → y ≡ x
    by zero e = same_Some y x e
    by (suc k) e = absurd (none-some x e)

in_rest : {A : Type 0} (y : A) (xs : List A) (x : A) → Contains xs x → Contains (y ∷ xs) x
in_rest y xs x c = let at = at_contained xs x c in contains_at (y ∷ xs) (suc at.0) x at.1

-- ---- filtered, and joined

kept_later : {A : Type 0} (test : A → Bool) (y : A) (xs : List A) (x : A) → Contains xs x × (test x ≡ true) → Contains (y ∷ xs) x × (test x ≡ true)
kept_later test y xs x h = (in_rest y xs x h.0, h.1)

pub from_filter : {A : Type 0} (test : A → Bool) (xs : List A) (x : A) → Contains (filter test xs) x → Contains xs x × (test x ≡ true)
from_filter test [] x c = no_member x c
from_filter {A = A} test (y ∷ xs) x c = by (λ k. from_filter test xs x k) (test y) refl c
  where
    first : (Contains (filter test xs) x → Contains xs x × (test x ≡ true)) → test y ≡ true → (k : ℕ) → slice_get (y ∷ filter test xs) k ≡ Some x → Contains (y ∷ xs) x × (test x ≡ true)
    first rest t zero e = (contains_at (y ∷ xs) 0 x e, ap test (sym (same_Some y x e)) ∙ t)
    first rest t (suc k) e = kept_later test y xs x (rest (contains_at (filter test xs) k x e))

    by : (Contains (filter test xs) x → Contains xs x × (test x ≡ true)) → (b : Bool) → test y ≡ b → Contains (if b then y ∷ filter test xs else filter test xs) x → Contains (y ∷ xs) x × (test x ≡ true)
    by rest true t c = let at = at_contained (y ∷ filter test xs) x c in first rest t at.0 at.1
    by rest false t c = kept_later test y xs x (rest c)

pub from_flat : {A B : Type 0} (list : A → List B) (xs : List A) (x : B) → Contains (flat_map list xs) x → (a : A) × Contains xs a × Contains (list a) x
from_flat list [] x c = no_member x c
from_flat list (y ∷ xs) x c = elim (Contains-append_cases (list y) (flat_map list xs) x c) [
  | inl h ↦ (y, contains_at (y ∷ xs) 0 y refl, h)
  | inr h ↦ let w = from_flat list xs x h in (w.0, in_rest y xs w.0 w.1, w.2)
]

pub any_there : {A : Type 0} (test : A → Bool) (xs : List A) → list_any test xs ≡ true → (x : A) × Contains xs x × (test x ≡ true)
any_there test xs h = let w = Any-from_list_any test xs h in (w.1, (w.0, w.2, w.3), w.4)

-- ---- the first place at which a test passes

lt_true : (m n : ℕ) → m < n → nat_lt m n ≡ true
lt_true m n h = grind arith

pub position_at : {A : Type 0} (test : A → Bool) (xs : List A) (n : ℕ) → position test xs ≡ Some n → (x : A) × (slice_get xs n ≡ Some x) × (test x ≡ true)
position_at test [] n h = absurd (none-some n h)
position_at test (x ∷ xs) n h = let s = position-Some test (x ∷ xs) n x h in (get_or (x ∷ xs) n x, slice_get-get_or (x ∷ xs) n x s.0, s.1)

not_behind_first : (b : Bool) (n : ℕ) → b ≡ true → (if not b then 1 + n else 0) ≤ 0
not_behind_first true n e = omega arith
not_behind_first false n e = absurd (true≢false (sym e))

not_behind_later : (b : Bool) (n k : ℕ) → n ≤ k → (if not b then 1 + n else 0) ≤ suc k
not_behind_later true n k h = omega arith
not_behind_later false n k h = omega (arith, h)

not_behind : {A : Type 0} (test : A → Bool) (xs : List A) (k : ℕ) (x : A) → slice_get xs k ≡ Some x → test x ≡ true → position_or_len test xs ≤ k
not_behind test [] k x e t = absurd (none-some x e)
not_behind test (y ∷ ys) zero x e t = not_behind_first (test y) (position_or_len test ys) (ap test (same_Some y x e) ∙ t)
not_behind test (y ∷ ys) (suc k) x e t = not_behind_later (test y) (position_or_len test ys) k (not_behind test ys k x e t)

pub position_there : {A : Type 0} (test : A → Bool) (xs : List A) (k : ℕ) (x : A) → slice_get xs k ≡ Some x → test x ≡ true → (n : ℕ) × (position test xs ≡ Some n)
position_there test xs k x e t =
    let le = not_behind test xs k x e t in
    let lt = slice_get_within xs k x e in
    let within : position_or_len test xs < length xs = omega (arith, le, lt) in
    (position_or_len test xs, ap (λ b. if b then Some (position_or_len test xs) else None) (lt_true (position_or_len test xs) (length xs) within))

eq_of : (m n : ℕ) → (m == n) ≡ true → m ≡ n
eq_of m n h = grind arith

eq_itself : (n : ℕ) → (n == n) ≡ true
eq_itself n = grind arith

-- of a number
pub number_at : (xs : List ℕ) (x n : ℕ) → position (λ y. y == x) xs ≡ Some n → slice_get xs n ≡ Some x
number_at xs x n h = let s = position_at (λ y. y == x) xs n h in s.1 ∙ ap Some (eq_of s.0 x s.2)

pub number_there : (xs : List ℕ) (x : ℕ) → IsIn xs x → (n : ℕ) × (position (λ y. y == x) xs ≡ Some n)
number_there xs x h = position_there (λ y. y == x) xs h.0 x h.1 (eq_itself x)

-- of a key

both_eq : (a b m n : ℕ) → ((a == b) && (m == n)) ≡ true → (a ≡ b) × (m ≡ n)
both_eq a b m n h = (grind (arith, h), grind (arith, h))

both_itself : (a m : ℕ) → ((a == a) && (m == m)) ≡ true
both_itself a m = grind arith

pub same_key : (k l : Key) → is_key k l ≡ true → k ≡ l
same_key (key.Object i) (key.Object j) h = ap key.Object (eq_of i j h)
same_key (key.Object i) (key.Local g q) h = absurd (true≢false (sym h))
same_key (key.Object i) (key.Member t n) h = absurd (true≢false (sym h))
same_key (key.Local f r) (key.Object j) h = absurd (true≢false (sym h))
same_key (key.Local f r) (key.Local g q) h = let s = both_eq f g r q h in ap (λ n. key.Local n r) s.0 ∙ ap (key.Local g) s.1
same_key (key.Local f r) (key.Member t n) h = absurd (true≢false (sym h))
same_key (key.Member s m) (key.Object j) h = absurd (true≢false (sym h))
same_key (key.Member s m) (key.Local g q) h = absurd (true≢false (sym h))
same_key (key.Member s m) (key.Member t n) h = let e = both_eq s t m n h in ap (λ k. key.Member k m) e.0 ∙ ap (key.Member t) e.1

pub is_itself : (k : Key) → is_key k k ≡ true
is_itself (key.Object i) = eq_itself i
is_itself (key.Local f r) = both_itself f r
is_itself (key.Member s m) = both_itself s m

-- ---- what is made of the things that pass

in_right : {A : Type 0} (xs ys : List A) (x : A) → IsIn ys x → IsIn (xs ++ ys) x
in_right [] ys x h = h
in_right (z ∷ xs) ys x h = let k = in_right xs ys x h in (suc k.0, k.1)

module _ {A B : Type 0} (passes : ℕ → A → Bool) (make : ℕ → B) where
  first_made : (n j : ℕ) (b : Bool) (rest : List B) → n ≡ j → b ≡ true → IsIn (only_if b (make n) ++ rest) (make j)
  first_made n j true rest e t = (zero, ap (λ m. Some (make m)) e)
  first_made n j false rest e t = absurd (true≢false (sym t))

  pub made_there : (n : ℕ) (xs : List A) (i : ℕ) (x : A) (j : ℕ) → slice_get xs i ≡ Some x → j ≡ n + i → passes j x ≡ true → IsIn (made_from passes make n xs) (make j)
  made_there n [] i x j e q t = absurd (none-some x e)
  made_there n (y ∷ ys) zero x j e q t =
      let here : n ≡ j = omega (arith, q) in
      first_made n j (passes n y) (made_from passes make (n + 1) ys) here (ap (λ m. passes m y) here ∙ ap (passes j) (same_Some y x e) ∙ t)
  made_there n (y ∷ ys) (suc i) x j e q t = in_right (only_if (passes n y) (make n)) (made_from passes make (n + 1) ys) (make j) (made_there (n + 1) ys i x j e (omega (arith, q)) t)

  length_first : (b : Bool) (n m : ℕ) (x : B) (rest : List B) → length rest ≤ m → length (only_if b x ++ rest) ≤ suc m
  length_first true n m x rest h = omega (arith, h)
  length_first false n m x rest h = omega (arith, h)

  -- not more than there are things
  pub made_few : (n : ℕ) (xs : List A) → length (made_from passes make n xs) ≤ length xs
  made_few n [] = omega arith
  made_few n (y ∷ ys) = length_first (passes n y) n (length ys) (make n) (made_from passes make (n + 1) ys) (made_few (n + 1) ys)
