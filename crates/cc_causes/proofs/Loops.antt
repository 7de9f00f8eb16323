-- Loops over lists and over the numbers below a count: the first that passes a test, and whether one does.
use Rattle.std.proofs.Common.{◌≡◌, ◌∙◌, ◌+◌, ◌-◌, ◌<◌, ◌≤◌, ℕ, zero, suc, Bool, true, false, cond, List, [], ◌∷◌, ◌++◌, length, get_or, take, drop, map, Some, None, refl, ap, sym, arith, drop-cons, append_assoc}
use Rattle.std.specs.List.{list_any}
use Rattle.std.specs.Prelude.{◌||◌, find}
use Rattle.std.proofs.lemmas.List.{map-append, take_more, take-append-drop}
use Rattle.std.proofs.lemmas.List.Folds.{list_any-append}
use Rattle.cc_definitions.specs.Definitions.{numbers_below}

take_end : {X : Type 0} (xs : List X) (i : ℕ) → length xs ≤ i → take i xs ≡ xs
take_end [] zero h = refl
take_end [] (suc i) h = refl
take_end (x ∷ xs) zero h = absurd (omega (arith, h))
take_end (x ∷ xs) (suc i) h = ap (λ l. x ∷ l) (take_end xs i (omega (arith, h)))

one_more : {X : Type 0} (xs : List X) (i : ℕ) (x : X) → i < length xs → x ≡ get_or xs i x → take (i + 1) xs ≡ take i xs ++ x ∷ []
one_more xs i x h is = take_more xs i x h ∙ ap (λ y. take i xs ++ y ∷ []) (sym is)

split_at : {X : Type 0} (xs : List X) (i : ℕ) (x : X) → i < length xs → x ≡ get_or xs i x → xs ≡ take i xs ++ (x ∷ drop (suc i) xs)
split_at xs i x h is = sym (take-append-drop i xs) ∙ ap (λ l. take i xs ++ l) (drop-cons xs i x h ∙ ap (λ y. y ∷ drop (suc i) xs) (sym is))

or_false : (b : Bool) → (b || false) ≡ b
or_false true = refl
or_false false = refl

-- ---- whether one passes

module _ {X Y : Type 0} (f : X → Y) (p : Y → Bool) (xs : List X) where
  pub any_not : (i : ℕ) (x : X) → i < length xs → x ≡ get_or xs i x → list_any p (map f (take i xs)) ≡ false → p (f x) ≡ false → list_any p (map f (take (i + 1) xs)) ≡ false
  any_not i x h is none fails =
      ap (λ l. list_any p (map f l)) (one_more xs i x h is)
      ∙ (ap (list_any p) (map-append f (take i xs) (x ∷ []))
      ∙ (list_any-append p (map f (take i xs)) (f x ∷ [])
      ∙ (ap (λ b. b || (p (f x) || false)) none ∙ (or_false (p (f x)) ∙ fails))))

  pub any_found : (i : ℕ) (x : X) → i < length xs → x ≡ get_or xs i x → list_any p (map f (take i xs)) ≡ false → p (f x) ≡ true → list_any p (map f xs) ≡ true
  any_found i x h is none passes =
      ap (λ l. list_any p (map f l)) (split_at xs i x h is)
      ∙ (ap (list_any p) (map-append f (take i xs) (x ∷ drop (suc i) xs))
      ∙ (list_any-append p (map f (take i xs)) (f x ∷ map f (drop (suc i) xs))
      ∙ (ap (λ b. b || (p (f x) || list_any p (map f (drop (suc i) xs)))) none ∙ ap (λ b. b || list_any p (map f (drop (suc i) xs))) passes)))

  pub any_end : (i : ℕ) → length xs ≤ i → list_any p (map f (take i xs)) ≡ false → list_any p (map f xs) ≡ false
  any_end i h none = ap (λ l. list_any p (map f l)) (sym (take_end xs i h)) ∙ none

-- ---- numbers below a count

find_behind : {Y : Type 0} (p : Y → Bool) (xs ys : List Y) → find p xs ≡ None → find p (xs ++ ys) ≡ find p ys
find_behind p [] ys h = refl
find_behind p (x ∷ xs) ys h = by (p x) h (find_behind p xs ys)
  where
    by : (b : Bool) → cond b (Some x) (find p xs) ≡ None → (find p xs ≡ None → find p (xs ++ ys) ≡ find p ys) → cond b (Some x) (find p (xs ++ ys)) ≡ find p ys
    by true h rest = absurd (cc)
    by false h rest = rest h

below_suc : (n : ℕ) → numbers_below (n + 1) ≡ numbers_below n ++ n ∷ []
below_suc n = let e : n + 1 ≡ suc n = omega arith in rw e refl

-- those behind a number
below_split : (n k : ℕ) → (rest : List ℕ) × (numbers_below (suc n + k) ≡ numbers_below n ++ (n ∷ rest))
below_split n zero = ([], (let e : suc n + 0 ≡ suc n = omega arith in rw e refl))
below_split n (suc k) = by (below_split n k)
  where
    by : (rest : List ℕ) × (numbers_below (suc n + k) ≡ numbers_below n ++ (n ∷ rest)) → (rest : List ℕ) × (numbers_below (suc n + suc k) ≡ numbers_below n ++ (n ∷ rest))
    by (rest, is) =
        let e : suc n + suc k ≡ suc (suc n + k) = omega arith in
        (rest ++ (suc n + k) ∷ [], (ap numbers_below e ∙ (ap (λ l. l ++ (suc n + k) ∷ []) is ∙ append_assoc (numbers_below n) (n ∷ rest) ((suc n + k) ∷ []))))

module _ (p : ℕ → Bool) where
  pub below_passed : (n : ℕ) → find p (numbers_below n) ≡ None → p n ≡ false → find p (numbers_below (n + 1)) ≡ None
  below_passed n none fails =
      ap (find p) (below_suc n) ∙ (find_behind p (numbers_below n) (n ∷ []) none ∙ ap (λ b. cond b (Some n) None) fails)

  pub below_found : (n m : ℕ) → n < m → find p (numbers_below n) ≡ None → p n ≡ true → find p (numbers_below m) ≡ Some n
  below_found n m h none passes = by (below_split n (m - suc n))
    where
      by : (rest : List ℕ) × (numbers_below (suc n + (m - suc n)) ≡ numbers_below n ++ (n ∷ rest)) → find p (numbers_below m) ≡ Some n
      by (rest, is) =
          let e : m ≡ suc n + (m - suc n) = omega (arith, h) in
          ap (λ k. find p (numbers_below k)) e ∙ (ap (find p) is ∙ (find_behind p (numbers_below n) (n ∷ rest) none ∙ ap (λ b. cond b (Some n) (find p rest)) passes))

  pub below_none : (n : ℕ) → list_any p (numbers_below n) ≡ false → p n ≡ false → list_any p (numbers_below (n + 1)) ≡ false
  below_none n none fails =
      ap (list_any p) (below_suc n) ∙ (list_any-append p (numbers_below n) (n ∷ []) ∙ (ap (λ b. b || (p n || false)) none ∙ (or_false (p n) ∙ fails)))

  pub below_one : (n m : ℕ) → n < m → list_any p (numbers_below n) ≡ false → p n ≡ true → list_any p (numbers_below m) ≡ true
  below_one n m h none passes = by (below_split n (m - suc n))
    where
      by : (rest : List ℕ) × (numbers_below (suc n + (m - suc n)) ≡ numbers_below n ++ (n ∷ rest)) → list_any p (numbers_below m) ≡ true
      by (rest, is) =
          let e : m ≡ suc n + (m - suc n) = omega (arith, h) in
          ap (λ k. list_any p (numbers_below k)) e ∙ (ap (list_any p) is ∙ (list_any-append p (numbers_below n) (n ∷ rest) ∙ (ap (λ b. b || (p n || list_any p rest)) none ∙ ap (λ b. b || list_any p rest) passes)))

-- ---- elements as they are

pub map_id : {X : Type 0} (xs : List X) → map (λ x. x) xs ≡ xs
map_id [] = refl
map_id (x ∷ xs) = ap (λ l. x ∷ l) (map_id xs)
