-- Rows, read from their beginning, and pairs in order.
use Rattle.std.proofs.Common.{arith, ◌≡◌, ◌⊎◌, inl, inr, ◌<◌, ◌≤◌, ◌+◌, ◌-◌, ℕ, false, eqb, List, length, get_or, Some, sym, ◌∙◌, subst, slice_get, below_more}
use Rattle.std.specs.List.{All, AllPairs, Contains, sum_by}
use Rattle.std.proofs.lemmas.List.{get_or_default}
use Rattle.std.proofs.lemmas.List.Concat.{length-flat_map}
use Rattle.std.proofs.lemmas.List.Elements.{All-contains, Contains-get_or}
use Rattle.std.proofs.lemmas.Option.{slice_get_within, slice_get-get_or, same_Some}
use Rattle.cc_state_reads.specs.CcStateFacts.declared.facts.Row.{Row}
use Rattle.cc_state_reads.specs.CcStateFacts.Orders.{IsBefore}
use Rattle.cc_state_shaped.specs.Parts.{cells_in, cell_count, IsFilled, AreFilled}

-- ---- rows

pub counted : {I : Type 0} (rows : List (Row I)) → cell_count rows ≡ sum_by cells_in rows
counted {I = I} rows = length-flat_map (λ (row : Row I). row.cells) rows

module _ {I : Type 0} (rows : List (Row I)) where
  -- the first so many rows are filled
  abbrev pub AreFilledTo : ℕ → Type 0
  AreFilledTo count = (n : ℕ) → n < count → (row : Row I) → slice_get rows n ≡ Some row → IsFilled row (eqb (n + 1) (length rows))

  pub filled_more : (n : ℕ) (row : Row I) → slice_get rows n ≡ Some row → AreFilledTo n → IsFilled row (eqb (n + 1) (length rows)) → AreFilledTo (n + 1)
  filled_more n row e h k = below_more (λ m. (r : Row I) → slice_get rows m ≡ Some r → IsFilled r (eqb (m + 1) (length rows))) n h
      (λ r i. subst (λ (z : Row I). IsFilled z (eqb (n + 1) (length rows))) (same_Some row r (sym e ∙ i)) k)

  not_last : (n : ℕ) (next : Row I) → slice_get rows (n + 1) ≡ Some next → eqb (n + 1) (length rows) ≡ false
  not_last n next e = let l = slice_get_within rows (n + 1) next e in grind arith

  pub filled_all : (count : ℕ) → length rows ≤ count → AreFilledTo count → AreFilled rows
  filled_all count l h = (
    (λ n row e. (h n (let m = slice_get_within rows n row e in omega (arith, l, m)) row e).0),
    (λ n row next e f. (h n (let m = slice_get_within rows n row e in omega (arith, l, m)) row e).1 (not_last n next f)),
  )

  next_there : (n : ℕ) → n < length rows → eqb (n + 1) (length rows) ≡ false → (row : Row I) → n + 1 < length rows
  next_there n l e row = grind arith

  pub filled_at : (n : ℕ) (row : Row I) → slice_get rows n ≡ Some row → AreFilled rows → IsFilled row (eqb (n + 1) (length rows))
  filled_at n row e h = (h.0 n row e, λ f. h.1 n row (get_or rows (n + 1) row) e (slice_get-get_or rows (n + 1) row (next_there n (slice_get_within rows n row e) f row)))

-- ---- pairs

order : (a b : ℕ) → (a ≤ b) ⊎ (b < a)
order a b = grind arith

before_through : (a b c : ℕ × ℕ) → IsBefore a b → IsBefore b c → IsBefore a c
before_through a b c h k = grind arith

module _ (pairs : List (ℕ × ℕ)) where
  abbrev pub AscendTo : ℕ → Type 0
  AscendTo count = (i j : ℕ) (d : ℕ × ℕ) → i < j → j < count → IsBefore (get_or pairs i d) (get_or pairs j d)

  to_last : (n i : ℕ) → i < n → AscendTo n → ((d : ℕ × ℕ) → IsBefore (get_or pairs (n - 1) d) (get_or pairs n d)) → (d : ℕ × ℕ) → IsBefore (get_or pairs i d) (get_or pairs n d)
  to_last n i l h last d = elim (order (n - 1) i) [
    | inl q ↦ let e : n - 1 ≡ i = omega (arith, l, q) in subst (λ k. IsBefore (get_or pairs k d) (get_or pairs n d)) e (last d)
    | inr q ↦ before_through (get_or pairs i d) (get_or pairs (n - 1) d) (get_or pairs n d) (h i (n - 1) d q (omega (arith, l))) (last d)
  ]

  pub ascend_more : (n : ℕ) → AscendTo n → ((d : ℕ × ℕ) → IsBefore (get_or pairs (n - 1) d) (get_or pairs n d)) → AscendTo (n + 1)
  ascend_more n h last i j d l m = elim (order n j) [
    | inl q ↦ let e : n ≡ j = omega (arith, m, q) in subst (λ k. IsBefore (get_or pairs i d) (get_or pairs k d)) e (to_last n i (omega (arith, l, m)) h last d)
    | inr q ↦ h i j d l q
  ]

  pub ascend_all : (count : ℕ) → length pairs ≤ count → AscendTo count → AllPairs IsBefore pairs
  ascend_all count l h i j d m k = h i j d m (omega (arith, l, k))

-- pairs as they are read
pub read_pairs : (pairs : List (ℕ × ℕ)) (n : ℕ) → n < length pairs → IsBefore (get_or pairs (n - 1) (0, 0)) (get_or pairs n (0, 0)) → (d : ℕ × ℕ) → IsBefore (get_or pairs (n - 1) d) (get_or pairs n d)
read_pairs pairs n l h d =
    let z : ℕ × ℕ = (0, 0) in
    subst (λ (a : ℕ × ℕ). IsBefore a (get_or pairs n d)) (get_or_default pairs (n - 1) z d (omega (arith, l)))
    (subst (λ (b : ℕ × ℕ). IsBefore (get_or pairs (n - 1) z) b) (get_or_default pairs n z d l) h)

-- ---- of each

pub each_contained : {A : Type 0} (P : A → Type 0) (xs : List A) → All P xs → (x : A) → Contains xs x → P x
each_contained P xs h x c = All-contains P xs x h c

pub all_from_each : {A : Type 0} (P : A → Type 0) (xs : List A) → ((x : A) → Contains xs x → P x) → All P xs
all_from_each P xs h k d l = h (get_or xs k d) (Contains-get_or xs k d l)
