-- The ids of things, by their positions in the program's lists.
use Rattle.std.proofs.Common.{◌≡◌, ◌∙◌, ◌+◌, ◌<◌, ◌≤◌, ◌⊎◌, inl, inr, ℕ, zero, suc, Bool, true, false, cond, List, [], ◌∷◌, ◌++◌, length, get_or, map, Option, None, refl, ap, sym, arith, length-append}
use Rattle.std.specs.Prelude.{◌&&◌, filter, nat_eq, nat_lt, not, position}
use Rattle.std.specs.List.{list_all}
use Rattle.std.proofs.Math.ListN.{get_or-append, get_or-eq_default}
use Rattle.std.proofs.Math.Seq.{get_or-append_seam}
use Rattle.std.proofs.lemmas.Bool.{cases_lt}
use Rattle.std.proofs.lemmas.List.{map-append, length-map}
use Rattle.cc_definitions.specs.Definitions.{thing_at, numbers_below, numbers_of, has_definition, is_function, is_defined_before, defined, devices, functions, objects}
use Rattle.cc_link.specs.Kept.{id_or_none, id_told}
use Rattle.cc_link.specs.Linked.{id_by, id_at}
use Rattle.cc_linked_names.proofs.Giving.{all_filtered, no_position, numbers_below_count}
use Rattle.cc_order.specs.Order.{inserted, in_order}
use Rattle.cc_things.specs.Things.{Thing, is_device}
use Rattle.cc_unit.specs.declared.ids.Id.{Id}
use Rattle.cc_unit.specs.declared.ids.Id.TheVariants as id

length_below : (n : ℕ) → length (numbers_below n) ≡ n
length_below zero = refl
length_below (suc n) = length-append (numbers_below n) (n ∷ []) ∙ (let e = length_below n in omega (arith, e))

module _ {X : Type 0} (F : ℕ → X) (d : X) where
  length_told : (n : ℕ) → length (map F (numbers_below n)) ≡ n
  length_told n = length-map (numbers_below n) F ∙ length_below n

  told_below : (n k : ℕ) → k < n → get_or (map F (numbers_below n)) k d ≡ F k
  told_below zero k h = absurd (omega (arith, h))
  told_below (suc n) k h = ap (λ l. get_or l k d) (map-append F (numbers_below n) (n ∷ [])) ∙ by (cases_lt k n) (told_below n k)
    where
      by : (k < n) ⊎ (n ≤ k) → (k < n → get_or (map F (numbers_below n)) k d ≡ F k) → get_or (map F (numbers_below n) ++ F n ∷ []) k d ≡ F k
      by (inl low) rest = get_or-append (map F (numbers_below n)) (F n ∷ []) d k (let e = length_told n in omega (arith, e, low)) ∙ rest low
      by (inr high) rest =
          let e : k ≡ n = omega (arith, h, high) in
          ap (λ j. get_or (map F (numbers_below n) ++ F n ∷ []) j d) (e ∙ sym (length_told n)) ∙ (get_or-append_seam (map F (numbers_below n)) (F n) [] d ∙ ap F (sym e))

  told_past : (n k : ℕ) → n ≤ k → get_or (map F (numbers_below n)) k d ≡ d
  told_past n k h = get_or-eq_default (map F (numbers_below n)) d (let e = length_told n in omega (arith, e, h))

-- ---- all numbers of the program's lists are those of things

all_inserted : (p : ℕ → Bool) (before : ℕ → ℕ → Bool) (x : ℕ) (xs : List ℕ) → p x ≡ true → list_all p xs ≡ true → list_all p (inserted before x xs) ≡ true
all_inserted p before x [] h all = ap (λ b. b && true) h
all_inserted p before x (y ∷ ys) h all = by (before y x) (p y) refl all (all_inserted p before x ys h)
  where
    by : (b c : Bool) → p y ≡ c → (c && list_all p ys) ≡ true → (list_all p ys ≡ true → list_all p (inserted before x ys) ≡ true) → list_all p (cond b (y ∷ inserted before x ys) (x ∷ y ∷ ys)) ≡ true
    by true true e a rest = ap (λ c. c && list_all p (inserted before x ys)) e ∙ rest a
    by false true e a rest = ap (λ c. c && (p y && list_all p ys)) h ∙ (ap (λ c. c && list_all p ys) e ∙ a)
    by b false e a rest = absurd (cc)

all_in_order : (p : ℕ → Bool) (before : ℕ → ℕ → Bool) (xs : List ℕ) → list_all p xs ≡ true → list_all p (in_order before xs) ≡ true
unfolding in_order
all_in_order p before [] h = refl
all_in_order p before (x ∷ xs) h = by (p x) refl h (all_in_order p before xs)
  where
    by : (b : Bool) → p x ≡ b → (b && list_all p xs) ≡ true → (list_all p xs ≡ true → list_all p (in_order before xs) ≡ true) → list_all p (inserted before x (in_order before xs)) ≡ true
    by true e a rest = all_inserted p before x (in_order before xs) e (rest a)
    by false e a rest = absurd (cc)

module _ (ts : List Thing) where
  abbrev is_number : ℕ → Bool
  is_number j = nat_lt j (length ts)

  defined_are : list_all is_number (defined ts) ≡ true
  defined_are = all_in_order is_number (is_defined_before ts) (numbers_of has_definition ts) (numbers_below_count has_definition ts)

  functions_are : list_all is_number (functions ts) ≡ true
  functions_are = all_filtered is_number (λ k. is_function (thing_at ts k)) (defined ts) defined_are

  objects_are : list_all is_number (objects ts) ≡ true
  objects_are = all_filtered is_number (λ k. not (is_function (thing_at ts k))) (defined ts) defined_are

  pub ids_told : (n : ℕ) (ds fs os : List (Option ℕ)) → n ≡ length ts →
      ((k : ℕ) → k < n → get_or ds k None ≡ position (nat_eq k) (devices ts)) →
      ((k : ℕ) → k < n → get_or fs k None ≡ position (nat_eq k) (functions ts)) →
      ((k : ℕ) → k < n → get_or os k None ≡ position (nat_eq k) (objects ts)) →
      (k : ℕ) → id_or_none (map (id_told ds fs os) (numbers_below n)) k ≡ id_at ts k
  ids_told n ds fs os count d f o k = by (cases_lt k n)
    where
      by : (k < n) ⊎ (n ≤ k) → id_or_none (map (id_told ds fs os) (numbers_below n)) k ≡ id_at ts k
      by (inl low) =
          told_below (id_told ds fs os) (id.Object 0) n k low
          ∙ (ap (λ a. id_by a (get_or fs k None) (get_or os k None)) (d k low)
          ∙ (ap (λ a. id_by (position (nat_eq k) (devices ts)) a (get_or os k None)) (f k low)
          ∙ ap (id_by (position (nat_eq k) (devices ts)) (position (nat_eq k) (functions ts))) (o k low)))
      by (inr high) =
          let past : length ts ≤ k = omega (arith, count, high) in
          told_past (id_told ds fs os) (id.Object 0) n k high
          ∙ sym (ap (λ a. id_by a (position (nat_eq k) (functions ts)) (position (nat_eq k) (objects ts))) (no_position k (devices ts) (length ts) past (numbers_below_count is_device ts))
          ∙ (ap (λ a. id_by None a (position (nat_eq k) (objects ts))) (no_position k (functions ts) (length ts) past functions_are)
          ∙ ap (id_by None None) (no_position k (objects ts) (length ts) past objects_are)))
