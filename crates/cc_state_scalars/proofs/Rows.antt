-- Lists that are repeated, and lists that stand one after the other.
use Rattle.std.proofs.Common.{arith, ◌≡◌, ◌⊎◌, inl, inr, ◌<◌, ◌≤◌, ◌+◌, ◌-◌, ◌*◌, ℕ, zero, suc, List, [], ◌∷◌, ◌++◌, length, length-append, append_assoc, take, get_or, replicate, Option, Some, None, slice_get, refl, ap, sym, ◌∙◌, subst}
use Rattle.std.specs.List.{flat_map}
use Rattle.std.proofs.lemmas.Grind.{flat_map-append}
use Rattle.std.proofs.lemmas.List.{append-nil, take_more, replicate-append-replicate}
use Rattle.std.proofs.lemmas.Option.{same_Some, none-some}

pub get_before : {A : Type 0} → (xs ys : List A) (k : ℕ) → k < length xs → slice_get (xs ++ ys) k ≡ slice_get xs k
get_before [] ys k h = absurd (omega (arith, h))
get_before (x ∷ xs) ys zero h = refl
get_before (x ∷ xs) ys (suc k) h = get_before xs ys k (omega (arith, h))

pub get_after : {A : Type 0} → (xs ys : List A) (k n : ℕ) → n ≡ length xs + k → slice_get (xs ++ ys) n ≡ slice_get ys k
get_after [] ys k n e = ap (slice_get ys) (e ∙ omega arith)
get_after (x ∷ xs) ys k zero e = absurd (omega (arith, e))
get_after (x ∷ xs) ys k (suc n) e = get_after xs ys k n (omega (arith, e))

pub get_last : {A : Type 0} (xs : List A) (x : A) (n : ℕ) → n ≡ length xs → slice_get (xs ++ x ∷ []) n ≡ Some x
get_last xs x n e = get_after xs (x ∷ []) 0 n (e ∙ omega arith)

-- an element stands in the first list, or in the second
pub get_split : {A : Type 0} (xs ys : List A) (k : ℕ) (x : A) → slice_get (xs ++ ys) k ≡ Some x → ((k < length xs) × (slice_get xs k ≡ Some x)) ⊎ ((q : ℕ) × (k ≡ length xs + q) × (slice_get ys q ≡ Some x))
get_split [] ys k x h = inr (k, omega arith, h)
get_split (z ∷ xs) ys zero x h = inl (omega arith, h)
get_split (z ∷ xs) ys (suc k) x h = elim (get_split xs ys k x h) [ inl w ↦ inl ((let l = w.0 in omega (arith, l)), w.1) | inr w ↦ inr (w.0, (let e = w.1 in omega (arith, e)), w.2) ]

one_more : (n a : ℕ) → suc n * a ≡ a + n * a
one_more n a = grind arith

abbrev pub repeats : {A : Type 0} → ℕ → List A → List A
repeats n xs = flat_map (λ ys. ys) (replicate n xs)

pub length-repeats : {A : Type 0} (n : ℕ) (xs : List A) → length (repeats n xs) ≡ n * length xs
length-repeats zero xs = omega arith
length-repeats (suc n) xs = let r = length-repeats n xs in length-append xs (repeats n xs) ∙ (omega (arith, r) ∙ sym (one_more n (length xs)))

pub get_repeat : {A : Type 0} (xs : List A) (n i q : ℕ) → i < n → q < length xs → slice_get (repeats n xs) (i * length xs + q) ≡ slice_get xs q
get_repeat xs zero i q h k = absurd (omega (arith, h))
get_repeat xs (suc n) zero q h k =
    let e : zero * length xs + q ≡ q = omega arith in
    ap (slice_get (xs ++ repeats n xs)) e ∙ get_before xs (repeats n xs) q k
get_repeat xs (suc n) (suc i) q h k =
    let e = one_more i (length xs) in
    get_after xs (repeats n xs) (i * length xs + q) (suc i * length xs + q) (omega (arith, e)) ∙ get_repeat xs n i q (omega (arith, h)) k

-- where an element stands
pub record InRepeat {A : Type 0} (xs : List A) (n k : ℕ) (x : A) : Type 0 where
  pub row : ℕ
  pub column : ℕ
  pub within : row < n
  pub is : k ≡ row * length xs + column
  pub there : slice_get xs column ≡ Some x

next_row : {A : Type 0} (xs : List A) (n k q : ℕ) (x : A) → k ≡ length xs + q → InRepeat xs n q x → InRepeat xs (suc n) k x
next_row xs n k q x e r = record {
  row = suc r.row;
  column = r.column;
  within = (let l = r.within in omega (arith, l));
  is = (let i = r.is in let m = one_more r.row (length xs) in omega (arith, i, m, e));
  there = r.there;
}

pub split_repeat : {A : Type 0} (xs : List A) (n k : ℕ) (x : A) → slice_get (repeats n xs) k ≡ Some x → InRepeat xs n k x
split_repeat xs zero k x h = absurd (none-some x h)
split_repeat xs (suc n) k x h = elim (get_split xs (repeats n xs) k x h) [
  | inl w ↦ record { row = zero; column = k; within = omega arith; is = omega arith; there = w.1 }
  | inr w ↦ next_row xs n k w.0 x w.1 (split_repeat xs n w.0 x w.2)
]

-- ---- one list for each of some things, each as long as is said

abbrev pub joined : {B : Type 0} → List (List B) → List B
joined ls = flat_map (λ l. l) ls

module _ {A : Type 0} (size : A → ℕ) where
  -- so many in front
  abbrev pub before : List A → ℕ → ℕ
  before things zero = zero
  before [] (suc m) = zero
  before (a ∷ rest) (suc m) = size a + before rest m

  abbrev pub whole : List A → ℕ
  whole [] = zero
  whole (a ∷ rest) = size a + whole rest

module _ {A B : Type 0} (size : A → ℕ) where
  abbrev pub AreSized : List A → List (List B) → Type 0
  AreSized [] [] = Unit {0}
  AreSized [] (l ∷ ls) = ⊥
  AreSized (a ∷ rest) [] = ⊥
  AreSized (a ∷ rest) (l ∷ ls) = (length l ≡ size a) × AreSized rest ls

  pub length-joined : (rest : List A) (ls : List (List B)) → AreSized rest ls → length (joined ls) ≡ whole size rest
  length-joined [] [] h = refl
  length-joined [] (l ∷ ls) h = absurd h
  length-joined (a ∷ rest) [] h = absurd h
  length-joined (a ∷ rest) (l ∷ ls) h = let e = h.0 in let r = length-joined rest ls h.1 in length-append l (joined ls) ∙ omega (arith, e, r)

  pub get_joined : (rest : List A) (ls : List (List B)) → AreSized rest ls → (m q : ℕ) (l : List B) → slice_get ls m ≡ Some l → q < length l → slice_get (joined ls) (before size rest m + q) ≡ slice_get l q
  get_joined [] [] h m q l e k = absurd (none-some l e)
  get_joined [] (z ∷ ls) h m q l e k = absurd h
  get_joined (a ∷ rest) [] h m q l e k = absurd h
  get_joined (a ∷ rest) (z ∷ ls) h zero q l e k =
      let same : z ≡ l = same_Some z l e in
      let n : zero + q ≡ q = omega arith in
      ap (slice_get (z ++ joined ls)) n ∙ get_before z (joined ls) q (subst (λ (y : List B). q < length y) (sym same) k) ∙ ap (λ (y : List B). slice_get y q) same
  get_joined (a ∷ rest) (z ∷ ls) h (suc m) q l e k =
      let s = h.0 in
      get_after z (joined ls) (before size rest m + q) (size a + before size rest m + q) (omega (arith, s)) ∙ get_joined rest ls h.1 m q l e k

  pub record InJoined (rest : List A) (ls : List (List B)) (k : ℕ) (x : B) : Type 0 where
    pub place : ℕ
    pub thing : A
    pub list : List B
    pub column : ℕ
    pub is_thing : slice_get rest place ≡ Some thing
    pub is_list : slice_get ls place ≡ Some list
    pub there : slice_get list column ≡ Some x
    pub is : before size rest place + column ≡ k

  next_list : (a : A) (rest : List A) (z : List B) (ls : List (List B)) (k q : ℕ) (x : B) → length z ≡ size a → k ≡ length z + q → InJoined rest ls q x → InJoined (a ∷ rest) (z ∷ ls) k x
  next_list a rest z ls k q x s e r = record {
    place = suc r.place;
    thing = r.thing;
    list = r.list;
    column = r.column;
    is_thing = r.is_thing;
    is_list = r.is_list;
    there = r.there;
    is = (let i = r.is in omega (arith, i, s, e));
  }

  pub split_joined : (rest : List A) (ls : List (List B)) → AreSized rest ls → (k : ℕ) (x : B) → slice_get (joined ls) k ≡ Some x → InJoined rest ls k x
  split_joined [] [] h k x e = absurd (none-some x e)
  split_joined [] (z ∷ ls) h k x e = absurd h
  split_joined (a ∷ rest) [] h k x e = absurd h
  split_joined (a ∷ rest) (z ∷ ls) h k x e = elim (get_split z (joined ls) k x e) [
    | inl w ↦ record { place = zero; thing = a; list = z; column = k; is_thing = refl; is_list = refl; there = w.1; is = omega arith }
    | inr w ↦ next_list a rest z ls k w.0 x h.0 w.1 (split_joined rest ls h.1 w.0 x w.2)
  ]

  -- from what is said by places
  pub sized_by : (rest : List A) (ls : List (List B)) → length ls ≡ length rest → ((m : ℕ) (a : A) (l : List B) → slice_get rest m ≡ Some a → slice_get ls m ≡ Some l → length l ≡ size a) → AreSized rest ls
  sized_by [] [] n h = tt
  sized_by [] (l ∷ ls) n h = absurd (omega (arith, n))
  sized_by (a ∷ rest) [] n h = absurd (omega (arith, n))
  sized_by (a ∷ rest) (l ∷ ls) n h = (h 0 a l refl refl, sized_by rest ls (omega (arith, n)) (λ m b k i j. h (suc m) b k i j))

-- ---- as far as loops have come

pub behind_more : {A : Type 0} (front xs : List A) (i : ℕ) (d : A) → i < length xs → front ++ take (i + 1) xs ≡ (front ++ take i xs) ++ get_or xs i d ∷ []
behind_more front xs i d h = ap (λ ys. front ++ ys) (take_more xs i d h) ∙ sym (append_assoc front (take i xs) (get_or xs i d ∷ []))

pub repeats_more : {A : Type 0} (xs : List A) (n : ℕ) → repeats (n + 1) xs ≡ repeats n xs ++ xs
repeats_more xs n =
    ap (flat_map (λ ys. ys)) (sym (replicate-append-replicate n 1 xs)) ∙ flat_map-append (λ ys. ys) (replicate n xs) (xs ∷ [])
    ∙ ap (λ ys. repeats n xs ++ ys) (append-nil xs)

pub ruleset of_lists = (behind_more, append-nil)

pub ruleset of_repeats = (repeats_more)
