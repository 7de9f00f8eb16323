-- A fact that a statement changes tells what flows from there.
use Rattle.std.proofs.Common.{arith, ◌≡◌, ◌<◌, ◌+◌, ◌*◌, ◌/◌, ◌%◌, ◌==◌, ℕ, zero, suc, Bool, true, false, true≢false, not, cond, ◌&&◌, nat_eq, List, [], ◌∷◌, length, Option, Some, None, is_some, option_and_then, inl, inr, ◌⊎◌, ◌≢◌, eqb, slice_get, slice_set, refl, ap, sym, subst, ◌∙◌}
use Rattle.std.specs.List.{filter, list_any}
use Rattle.std.proofs.lemmas.Bool.{eqb-true, eq-eqb}
use Rattle.std.proofs.lemmas.Bool.Decides.{eqb_tells}
use Rattle.std.proofs.lemmas.Map.Views.{any-filter_same}
use Rattle.std.proofs.lemmas.Option.{slice_get_within}
use Rattle.cc_state_reads.specs.CcPlaces.declared.abs.Abs.{Abs}
use Rattle.cc_rules_flows.specs.Known.{Tells, is_of_other_register, is_of_other_cell}
use Rattle.cc_rules_needs.specs.Flowing.{Flowing, with_local, with_cell, with_flags}
use Rattle.cc_state_reads.specs.CcStateFacts.declared.facts.PointFact.{PointFact}
use Rattle.cc_state_reads.specs.CcStateFacts.declared.facts.Row.{Row}
use Rattle.cc_state_reads.specs.CcStateFacts.Facts.{cell_of, local_of, has_pair, row_length}

within : {A : Type 0} (xs : List A) (k : ℕ) → is_some (slice_get xs k) ≡ true → k < length xs
within [] k h = absurd (true≢false (sym h))
within (x ∷ xs) zero h = omega arith
within (x ∷ xs) (suc k) h = let l = within xs k h in omega (arith, l)

-- ---- tests of numbers

agree_by : (a b c d : ℕ) → (a ≡ b → c ≡ d) → (c ≡ d → a ≡ b) → ((eqb a b ≡ true) × (a ≡ b)) ⊎ ((eqb a b ≡ false) × (a ≢ b)) → ((eqb c d ≡ true) × (c ≡ d)) ⊎ ((eqb c d ≡ false) × (c ≢ d)) → (a == b) ≡ (c == d)
agree_by a b c d f g (inl h) (inl k) = h.0 ∙ sym k.0
agree_by a b c d f g (inl h) (inr k) = absurd (k.1 (f h.1))
agree_by a b c d f g (inr h) (inl k) = absurd (h.1 (g k.1))
agree_by a b c d f g (inr h) (inr k) = h.0 ∙ sym k.0

pub agree : (a b c d : ℕ) → (a ≡ b → c ≡ d) → (c ≡ d → a ≡ b) → (a == b) ≡ (c == d)
agree a b c d f g = agree_by a b c d f g (eqb_tells a b) (eqb_tells c d)

differ_by : (a b : ℕ) → (a ≡ b → ⊥) → ((eqb a b ≡ true) × (a ≡ b)) ⊎ ((eqb a b ≡ false) × (a ≢ b)) → (a == b) ≡ false
differ_by a b f (inl h) = absurd (f h.1)
differ_by a b f (inr h) = h.0

differ : (a b : ℕ) → (a ≡ b → ⊥) → (a == b) ≡ false
differ a b f = differ_by a b f (eqb_tells a b)

-- ---- a list with another element at a place

set_at : {A : Type 0} (xs : List A) (k n : ℕ) (y : A) → k < length xs → slice_get (slice_set xs k y) n ≡ cond (n == k) (Some y) (slice_get xs n)
set_at [] k n y h = absurd (omega (arith, h))
set_at (x ∷ xs) zero zero y h = refl
set_at (x ∷ xs) zero (suc n) y h = ap (λ b. cond b (Some y) (slice_get xs n)) (sym (differ (suc n) 0 (λ m. omega (arith, m))))
set_at (x ∷ xs) (suc k) zero y h = ap (λ b. cond b (Some y) (Some x)) (sym (differ 0 (suc k) (λ m. omega (arith, m))))
set_at (x ∷ xs) (suc k) (suc n) y h =
    set_at xs k n y (omega (arith, h)) ∙ ap (λ b. cond b (Some y) (slice_get xs n)) (agree n k (suc n) (suc k) (λ m. ap suc m) (λ m. omega (arith, m)))

-- ---- pairs

first_of : (a b q j : ℕ) → (nat_eq a q && nat_eq b j) ≡ true → a ≡ q
first_of a b q j h = grind arith

second_of : (a b q j : ℕ) → (nat_eq a q && nat_eq b j) ≡ true → b ≡ j
second_of a b q j h = grind arith

abbrev is_in : List (ℕ × ℕ) → ℕ → ℕ → Bool
is_in pairs q j = list_any (λ pair. nat_eq pair.0 q && nat_eq pair.1 j) pairs

without_register : (r : ℕ) (pairs : List (ℕ × ℕ)) (q j : ℕ) → is_in (filter (is_of_other_register r) pairs) q j ≡ (not (q == r) && is_in pairs q j)
without_register r pairs q j =
    any-filter_same (λ pair. nat_eq pair.0 q && nat_eq pair.1 j) (is_of_other_register r) (not (q == r)) (λ pair e. ap (λ a. not (a == r)) (first_of pair.0 pair.1 q j e)) pairs

without_cell : (i : ℕ) (pairs : List (ℕ × ℕ)) (q j : ℕ) → is_in (filter (is_of_other_cell i) pairs) q j ≡ (not (j == i) && is_in pairs q j)
without_cell i pairs q j =
    any-filter_same (λ pair. nat_eq pair.0 q && nat_eq pair.1 j) (is_of_other_cell i) (not (j == i)) (λ pair e. ap (λ a. not (a == i)) (second_of pair.0 pair.1 q j e)) pairs

module _ {I : Type 0} where
  abbrev cells_in : List (Row I) → ℕ → Option (Abs I)
  cells_in rows j = option_and_then (λ (row : Row I). slice_get row.cells (j % row_length)) (slice_get rows (j / row_length))

  -- ---- a register gets a set

  pub local_told : (old new : PointFact I) (r : ℕ) (y : Abs I) → r < length old.locals → new.off ≡ old.off → new.on ≡ old.on → new.rows ≡ old.rows →
      new.locals ≡ slice_set old.locals r y → new.same ≡ filter (is_of_other_register r) old.same → (flow : Flowing I) → Tells old flow → Tells new (with_local r y flow)
  local_told old new r y h off on rows locals same flow t = record {
    off = off ∙ t.off;
    on = on ∙ t.on;
    locals = λ q. ap (λ xs. slice_get xs q) locals ∙ set_at old.locals r q y h ∙ ap (cond (q == r) (Some y)) (t.locals q);
    cells = λ j. ap (λ rows. cells_in rows j) rows ∙ t.cells j;
    pairs = λ q j. ap (λ ps. is_in ps q j) same ∙ without_register r old.same q j ∙ ap (λ b. not (q == r) && b) (t.pairs q j);
  }

  -- ---- the flag

  pub flags_told : (old : PointFact I) (off on : Bool) (flow : Flowing I) → Tells old flow → Tells (record old { off = off; on = on }) (with_flags off on flow)
  flags_told old off on flow t = record { off = refl; on = refl; locals = t.locals; cells = t.cells; pairs = t.pairs }

  -- ---- a cell gets a set

  by_row : (rows : List (Row I)) (row made : Row I) (cell j : ℕ) (y : Abs I) (b : Bool) → slice_get rows (cell / row_length) ≡ Some row → cell % row_length < length row.cells →
      made.cells ≡ slice_set row.cells (cell % row_length) y → (j / row_length == cell / row_length) ≡ b →
      option_and_then (λ (row : Row I). slice_get row.cells (j % row_length)) (cond b (Some made) (slice_get rows (j / row_length))) ≡ cond (j == cell) (Some y) (cells_in rows j)
  by_row rows row made cell j y true at h is e =
      let same : j / row_length ≡ cell / row_length = eqb-true (j / row_length) (cell / row_length) e in
      ap (λ cells. slice_get cells (j % row_length)) is ∙ set_at row.cells (cell % row_length) (j % row_length) y h
      ∙ ap (λ b. cond b (Some y) (slice_get row.cells (j % row_length))) (agree (j % row_length) (cell % row_length) j cell (λ m. omega (arith, m, same)) (λ m. ap (λ n. n % row_length) m))
      ∙ ap (λ row. cond (j == cell) (Some y) (option_and_then (λ (row : Row I). slice_get row.cells (j % row_length)) row)) (sym (ap (slice_get rows) same ∙ at))
  by_row rows row made cell j y false at h is e =
      ap (λ b. cond b (Some y) (cells_in rows j)) (sym (differ j cell (λ m. true≢false (sym (eq-eqb (j / row_length) (cell / row_length) (ap (λ n. n / row_length) m)) ∙ e))))

  put_cell : (rows : List (Row I)) (row made : Row I) (cell : ℕ) (y : Abs I) → slice_get rows (cell / row_length) ≡ Some row → cell % row_length < length row.cells →
      made.cells ≡ slice_set row.cells (cell % row_length) y → (j : ℕ) → cells_in (slice_set rows (cell / row_length) made) j ≡ cond (j == cell) (Some y) (cells_in rows j)
  put_cell rows row made cell y at h is j =
      ap (option_and_then (λ (row : Row I). slice_get row.cells (j % row_length))) (set_at rows (cell / row_length) (j / row_length) made (slice_get_within rows (cell / row_length) row at))
      ∙ by_row rows row made cell j y (j / row_length == cell / row_length) at h is refl

  pub cell_told : (old new : PointFact I) (row made : Row I) (cell : ℕ) (y : Abs I) → slice_get old.rows (cell / row_length) ≡ Some row → cell % row_length < length row.cells →
      made.cells ≡ slice_set row.cells (cell % row_length) y → new.off ≡ old.off → new.on ≡ old.on → new.locals ≡ old.locals → new.rows ≡ slice_set old.rows (cell / row_length) made →
      new.same ≡ filter (is_of_other_cell cell) old.same → (flow : Flowing I) → Tells old flow → Tells new (with_cell (Some cell) y flow)
  cell_told old new row made cell y at h is off on locals rows same flow t = record {
    off = off ∙ t.off;
    on = on ∙ t.on;
    locals = λ q. ap (λ xs. slice_get xs q) locals ∙ t.locals q;
    cells = λ j. ap (λ rows. cells_in rows j) rows ∙ put_cell old.rows row made cell y at h is j ∙ ap (cond (j == cell) (Some y)) (t.cells j);
    pairs = λ q j. ap (λ ps. is_in ps q j) same ∙ without_cell cell old.same q j ∙ ap (λ b. not (j == cell) && b) (t.pairs q j);
  }

  -- where a cell has a set there is a row with a place for it
  opened : (f : Row I → Option (Abs I)) (x : Option (Row I)) → is_some (option_and_then f x) ≡ true → is_some x ≡ true
  opened f None h = h
  opened f (Some row) h = refl

  pub row_there : (rows : List (Row I)) (cell : ℕ) → is_some (cells_in rows cell) ≡ true → cell / row_length < length rows
  row_there rows cell h = within rows (cell / row_length) (opened (λ (row : Row I). slice_get row.cells (cell % row_length)) (slice_get rows (cell / row_length)) h)

  pub cell_there : (rows : List (Row I)) (row : Row I) (cell : ℕ) → slice_get rows (cell / row_length) ≡ Some row → is_some (cells_in rows cell) ≡ true → cell % row_length < length row.cells
  cell_there rows row cell at h = within row.cells (cell % row_length) (subst (λ x. is_some (option_and_then (λ (row : Row I). slice_get row.cells (cell % row_length)) x) ≡ true) at h)
