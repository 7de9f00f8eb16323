-- What is known at a point, with another set of a cell, or without a pair: it is of the shape of the point's function, has what there was but for
-- that, and facts above the old ones that have the one thing have all of it.
use Rattle.std.proofs.Common.{arith, ◌≡◌, ◌⊎◌, inl, inr, ℕ, zero, suc, ◌+◌, ◌/◌, ◌%◌, ◌<◌, Bool, true, false, true≢false, not, cond, ◌&&◌, ◌||◌, nat_eq, List, [], ◌∷◌, length, length-append, Option, Some, None, slice_get, slice_set, refl, sym, ap, subst, ◌∙◌}
use Rattle.std.specs.Prelude.{option_and_then, is_some}
use Rattle.std.specs.List.{filter, flat_map, list_any}
use Rattle.std.proofs.lemmas.List.Kept.{AllPairs-filter}
use Rattle.std.proofs.lemmas.Option.{none-some, same_Some, slice_get_within}
use Rattle.cc_rules_asked.specs.CcFlow.declared.types.Point.{Point}
use Rattle.cc_rules_asked.specs.CcPlaces.declared.abs.Abs.{Abs}
use Rattle.cc_program.specs.declared.func.Func.{Func}
use Rattle.cc_program.specs.declared.program.Program.{Program}
use Rattle.cc_rules_asked.specs.CcRulesFlows.Nexts.{IsPoint}
use Rattle.cc_rules_asked.proofs.CcRulesNeeds.AtPoint.{point_has, has_below}
use Rattle.cc_rules_asked.proofs.CcRulesNeeds.Others.{set_at, set_there}
use Rattle.cc_rules_asked.specs.CcRulesNeeds.Flowing.{of_fact}
use Rattle.cc_rules_asked.specs.CcRulesNeeds.declared.needs.Part.{Part}
use Rattle.cc_rules_asked.specs.CcRulesNeeds.declared.needs.Part.TheVariants.{Mark, Flags, Values}
use Rattle.cc_rules_asked.specs.CcRulesNeeds.declared.needs.Slot.TheVariants.{Flag, LocalAt, CellAt, Apart}
use Rattle.cc_rules_asked.specs.CcRulesNeeds.Needs.{flags_in, apart_in, get, IsBelowPart, Has, IsBelow}
use Rattle.cc_rules_asked.specs.CcRulesNeeds.Points.{HasFlow}
use Rattle.cc_rules_raised.proofs.NeedsAt.{AreParts, all_of, parts_of}
use Rattle.cc_rules_raised.specs.Completed.{row_with, rows_with, fact_with_cell, is_other_pair, fact_apart}
use Rattle.cc_rules_grow.proofs.CcState.Lists.{from_filter}
use Rattle.cc_rules_grow.specs.CcState.Shape.{IsSetIn, AreRows, IsBefore, IsTrackedType, IsPointFact, HaveShape}
use Rattle.cc_rules_asked.specs.CcStateFacts.declared.facts.Facts.{Facts}
use Rattle.cc_rules_asked.specs.CcStateFacts.declared.facts.PointFact.{PointFact}
use Rattle.cc_rules_asked.specs.CcStateFacts.declared.facts.Row.{Row}
use Rattle.cc_rules_asked.specs.CcStateFacts.Facts.{row_length, fact_at, cell_of, local_of, has_pair}
use Rattle.cc_rules_asked.specs.CcStateKeys.Tracked.{registers, tracked}
use Rattle.cc_rules_asked.specs.CcStateOperators.Domains.{Domain}
use Rattle.cc_state_shape.proofs.Alike.{points_alike, fact_of}
use Rattle.cc_rules_asked.specs.CcSyntax.Values.{ValueType}

-- ---- rows, one of which has another set

set_length : {A : Type 0} (xs : List A) (k : ℕ) (y : A) → length (slice_set xs k y) ≡ length xs
set_length [] k y = refl
set_length (x ∷ xs) zero y = refl
set_length (x ∷ xs) (suc k) y = ap suc (set_length xs k y)

module _ {I : Type 0} where
  abbrev cells_in : List (Row I) → List (Abs I)
  cells_in rows = flat_map (λ (row : Row I). row.cells) rows

  abbrev HasLength : List (Row I) → ℕ → ℕ → Type 0
  HasLength rows n c = (row : Row I) × (slice_get rows n ≡ Some row) × (length row.cells ≡ c)

  total_same : (rows : List (Row I)) (q : ℕ) (old new : Row I) → slice_get rows q ≡ Some old → length new.cells ≡ length old.cells → length (cells_in (slice_set rows q new)) ≡ length (cells_in rows)
  total_same [] q old new e l = refl
  total_same (row ∷ rows) zero old new e l =
      length-append new.cells (cells_in rows) ∙ (ap (λ n. n + length (cells_in rows)) (l ∙ ap (λ (r : Row I). length r.cells) (sym (same_Some row old e))) ∙ sym (length-append row.cells (cells_in rows)))
  total_same (row ∷ rows) (suc q) old new e l =
      length-append row.cells (cells_in (slice_set rows q new)) ∙ (ap (λ n. length row.cells + n) (total_same rows q old new e l) ∙ sym (length-append row.cells (cells_in rows)))

  -- each row was one of the same length
  row_before : (rows : List (Row I)) (q : ℕ) (old new : Row I) → slice_get rows q ≡ Some old → length new.cells ≡ length old.cells → (n : ℕ) (row : Row I) → slice_get (slice_set rows q new) n ≡ Some row → HasLength rows n (length row.cells)
  row_before rows q old new e l n row at = elim (set_at rows q new n (slice_get_within rows q old e)) [
    | inl h ↦ (old, ap (slice_get rows) h.0 ∙ e, sym l ∙ ap (λ (r : Row I). length r.cells) (same_Some new row (sym h.1 ∙ at)))
    | inr h ↦ (row, sym h ∙ at, refl)
  ]

then_there : {A B : Type 0} (f : A → Option B) (a : Option A) (w : B) → option_and_then f a ≡ Some w → (x : A) × (a ≡ Some x) × (f x ≡ Some w)
then_there f None w h = absurd (none-some w h)
then_there f (Some x) w h = (x, refl, h)

module _ {I : Type 0} where
  row_of : (fact : PointFact I) (j : ℕ) (z : Abs I) → cell_of fact j ≡ Some z → (row : Row I) × (slice_get fact.rows (j / row_length) ≡ Some row) × (slice_get row.cells (j % row_length) ≡ Some z)
  row_of fact j z e = then_there (λ (row : Row I). slice_get row.cells (j % row_length)) (slice_get fact.rows (j / row_length)) z e

  -- ---- a cell

  module _ (fact : PointFact I) (j : ℕ) (z y : Abs I) (there : cell_of fact j ≡ Some z) where
    held : (row : Row I) × (slice_get fact.rows (j / row_length) ≡ Some row) × (slice_get row.cells (j % row_length) ≡ Some z)
    held = row_of fact j z there

    abbrev new_row : Row I
    new_row = row_with held.0 (j % row_length) y

    new_rows : (fact_with_cell fact j y).rows ≡ slice_set fact.rows (j / row_length) new_row
    new_rows = ap (rows_with fact.rows j y) held.1

    row_there : slice_get (fact_with_cell fact j y).rows (j / row_length) ≡ Some new_row
    row_there = ap (λ rows. slice_get rows (j / row_length)) new_rows ∙ set_there fact.rows (j / row_length) new_row (slice_get_within fact.rows (j / row_length) held.0 held.1)

    pub cell_is : cell_of (fact_with_cell fact j y) j ≡ Some y
    cell_is = ap (option_and_then (λ (row : Row I). slice_get row.cells (j % row_length))) row_there ∙ set_there held.0.cells (j % row_length) y (slice_get_within held.0.cells (j % row_length) z held.2)

    one_place : (i : ℕ) → i / 16 ≡ j / 16 → i % 16 ≡ j % 16 → i ≡ j
    one_place i a b = omega (arith, a, b)

    in_row : (i : ℕ) → i / 16 ≡ j / 16 → slice_get (fact_with_cell fact j y).rows (i / 16) ≡ Some new_row → (i ≡ j) ⊎ (cell_of (fact_with_cell fact j y) i ≡ cell_of fact i)
    in_row i same at = elim (set_at held.0.cells (j % row_length) y (i % row_length) (slice_get_within held.0.cells (j % row_length) z held.2)) [
      | inl h ↦ inl (one_place i same h.0)
      | inr h ↦ inr (ap (option_and_then (λ (row : Row I). slice_get row.cells (i % row_length))) at
          ∙ (h ∙ sym (ap (option_and_then (λ (row : Row I). slice_get row.cells (i % row_length))) (ap (slice_get fact.rows) same ∙ held.1))))
    ]

    pub cell_other : (i : ℕ) → (i ≡ j) ⊎ (cell_of (fact_with_cell fact j y) i ≡ cell_of fact i)
    cell_other i = elim (set_at fact.rows (j / row_length) new_row (i / row_length) (slice_get_within fact.rows (j / row_length) held.0 held.1)) [
      | inl h ↦ in_row i h.0 (ap (λ rows. slice_get rows (i / row_length)) new_rows ∙ h.1)
      | inr h ↦ inr (ap (option_and_then (λ (row : Row I). slice_get row.cells (i % row_length))) (ap (λ rows. slice_get rows (i / row_length)) new_rows ∙ h))
    ]

-- a copy whose rows are others is what is known, with another set of the cell
pub with_rows : {I : Type 0} (fact made : PointFact I) (j : ℕ) (y : Abs I) (row : Row I) (rows : List (Row I)) → slice_get fact.rows (j / row_length) ≡ Some row → made ≡ fact → rows ≡ slice_set made.rows (j / row_length) (row_with row (j % row_length) y) →
    record made { rows = rows } ≡ fact_with_cell fact j y
with_rows {I} fact made j y row rows at e k =
    let as_fact : PointFact I → PointFact I = λ m. record m { rows = rows } in
    let of_rows : List (Row I) → PointFact I = λ rs. record fact { rows = rs } in
    ap as_fact e ∙ ap of_rows (k ∙ (ap (λ (m : PointFact I). slice_set m.rows (j / row_length) (row_with row (j % row_length) y)) e ∙ sym (ap (rows_with fact.rows j y) at)))

pub cell_bounds : {I : Type 0} (fact : PointFact I) (j : ℕ) (row : Row I) → slice_get fact.rows (j / row_length) ≡ Some row → is_some (cell_of fact j) ≡ true → (j / row_length < length fact.rows) × (j % row_length < length row.cells)
cell_bounds {I} fact j row at h = (slice_get_within fact.rows (j / row_length) row at, inside (slice_get row.cells (j % row_length)) refl (sym (ap (λ o. is_some (option_and_then (λ (row : Row I). slice_get row.cells (j % row_length)) o)) at) ∙ h))
  where
    inside : (o : Option (Abs I)) → slice_get row.cells (j % row_length) ≡ o → is_some o ≡ true → j % row_length < length row.cells
    inside None e k = absurd (true≢false (sym k))
    inside (Some x) e k = slice_get_within row.cells (j % row_length) x e

module _ {I : Type 0} (d : Domain I) (p : Program) where
  rows_kept : (count : ℕ) (rows : List (Row I)) (q : ℕ) (old new : Row I) → slice_get rows q ≡ Some old → length new.cells ≡ length old.cells → AreRows d p count rows → AreRows d p count (slice_set rows q new)
  rows_kept count rows q old new e l (each, (some, full)) = (
    total_same rows q old new e l ∙ each,
    (
      λ n row at. (let (b, was, same) = row_before rows q old new e l n row at in let k = some n b was in omega (arith, k, same)),
      λ n row next at behind.
          (let (b, was, same) = row_before rows q old new e l n row at in
          let (c, later, long) = row_before rows q old new e l (n + 1) next behind in
          sym same ∙ full n b c was later),
    ),
  )

  -- ---- a cell

  module _ (fact : PointFact I) (j : ℕ) (z y : Abs I) (there : cell_of fact j ≡ Some z) where
    pub cell_shaped : (f : Func) (t : ValueType) → IsTrackedType d p j t → ((n : ℕ) (t u : ValueType) → IsTrackedType d p n t → IsTrackedType d p n u → t ≡ u) → IsSetIn p d t y → IsPointFact d p f fact → IsPointFact d p f (fact_with_cell fact j y)
    cell_shaped f t is one h of_fact = record {
      flag = of_fact.flag;
      local_count = of_fact.local_count;
      locals = of_fact.locals;
      rows = subst (AreRows d p (length (tracked p))) (sym (new_rows fact j z y there)) (rows_kept (length (tracked p)) fact.rows (j / row_length) (held fact j z y there).0 (new_row fact j z y there) (held fact j z y there).1 (set_length (held fact j z y there).0.cells (j % row_length) y) of_fact.rows);
      cells = record { there = each };
      pairs_in_range = of_fact.pairs_in_range;
      pairs_ascend = of_fact.pairs_ascend;
    }
      where
        each : (n : ℕ) → n < length (tracked p) → (u : ValueType) × (x : Abs I) × (IsTrackedType d p n u × (cell_of (fact_with_cell fact j y) n ≡ Some x) × IsSetIn p d u x)
        each n l = elim (cell_other fact j z y there n) [
          | inl e ↦ (t, y, (subst (λ (i : ℕ). IsTrackedType d p i t) (sym e) is, ap (cell_of (fact_with_cell fact j y)) e ∙ cell_is fact j z y there, h))
          | inr e ↦ let w = of_fact.cells.there n l in (w.0, w.1, (w.2.0, e ∙ w.2.1, w.2.2))
        ]

-- ---- a pair

or_false : (a b : Bool) → a ≡ false → b ≡ false → (a || b) ≡ false
or_false true b h k = absurd (true≢false h)
or_false false b h k = k

both_of : (a b r j : ℕ) → (nat_eq a r && nat_eq b j) ≡ true → (a ≡ r) × (b ≡ j)
both_of a b r j h = (grind (arith, h), grind (arith, h))

or_parts : (a b : Bool) → (a || b) ≡ false → (a ≡ false) × (b ≡ false)
or_parts true b h = absurd (true≢false h)
or_parts false b h = (refl, h)

abbrev is_in : List (ℕ × ℕ) → ℕ → ℕ → Bool
is_in same r j = list_any (λ pair. nat_eq pair.0 r && nat_eq pair.1 j) same

-- without a pair it is not there, and each other one is where it was
gone_by : (r j : ℕ) (pair : ℕ × ℕ) (same : List (ℕ × ℕ)) (b : Bool) → (nat_eq pair.0 r && nat_eq pair.1 j) ≡ b → is_in (filter (is_other_pair r j) same) r j ≡ false →
    is_in (cond (not b) (pair ∷ filter (is_other_pair r j) same) (filter (is_other_pair r j) same)) r j ≡ false
gone_by r j pair same true e h = h
gone_by r j pair same false e h = or_false (nat_eq pair.0 r && nat_eq pair.1 j) (is_in (filter (is_other_pair r j) same) r j) e h

gone : (r j : ℕ) (same : List (ℕ × ℕ)) → is_in (filter (is_other_pair r j) same) r j ≡ false
gone r j [] = refl
gone r j (pair ∷ same) = gone_by r j pair same (nat_eq pair.0 r && nat_eq pair.1 j) refl (gone r j same)

abbrev IsStill : ℕ → ℕ → ℕ → ℕ → List (ℕ × ℕ) → Type 0
IsStill r j q i same = ((q ≡ r) × (i ≡ j)) ⊎ (is_in same q i ≡ false)

still_rest : (r j q i : ℕ) (pair : ℕ × ℕ) (same : List (ℕ × ℕ)) → IsStill r j q i same → (nat_eq pair.0 q && nat_eq pair.1 i) ≡ false → IsStill r j q i (pair ∷ same)
still_rest r j q i pair same (inl e) n = inl e
still_rest r j q i pair same (inr e) n = inr (or_false (nat_eq pair.0 q && nat_eq pair.1 i) (is_in same q i) n e)

still_by : (r j q i : ℕ) (pair : ℕ × ℕ) (same : List (ℕ × ℕ)) (b c : Bool) → (nat_eq pair.0 r && nat_eq pair.1 j) ≡ b → (nat_eq pair.0 q && nat_eq pair.1 i) ≡ c → (is_in (filter (is_other_pair r j) same) q i ≡ false → IsStill r j q i same) →
    is_in (cond (not b) (pair ∷ filter (is_other_pair r j) same) (filter (is_other_pair r j) same)) q i ≡ false → IsStill r j q i (pair ∷ same)
still_by r j q i pair same true true e n rest k = let s = both_of pair.0 pair.1 r j e in let t = both_of pair.0 pair.1 q i n in inl (sym t.0 ∙ s.0, sym t.1 ∙ s.1)
still_by r j q i pair same true false e n rest k = still_rest r j q i pair same (rest k) n
still_by r j q i pair same false c e n rest k = let t = or_parts (nat_eq pair.0 q && nat_eq pair.1 i) (is_in (filter (is_other_pair r j) same) q i) k in still_rest r j q i pair same (rest t.1) t.0

still : (r j q i : ℕ) (same : List (ℕ × ℕ)) → is_in (filter (is_other_pair r j) same) q i ≡ false → IsStill r j q i same
still r j q i [] h = inr refl
still r j q i (pair ∷ same) h = still_by r j q i pair same (nat_eq pair.0 r && nat_eq pair.1 j) (nat_eq pair.0 q && nat_eq pair.1 i) refl refl (λ k. still r j q i same k) h

module _ {I : Type 0} (d : Domain I) (p : Program) where
  pub apart_shaped : (f : Func) (fact : PointFact I) (r j : ℕ) → IsPointFact d p f fact → IsPointFact d p f (fact_apart fact r j)
  apart_shaped f fact r j h = record {
    flag = h.flag;
    local_count = h.local_count;
    locals = h.locals;
    rows = h.rows;
    cells = h.cells;
    pairs_in_range = λ pair c. h.pairs_in_range pair (from_filter (is_other_pair r j) fact.same pair c).0;
    pairs_ascend = AllPairs-filter (IsBefore d p) (is_other_pair r j) fact.same h.pairs_ascend;
  }

-- ---- what facts have at a point that is reached

module _ {I : Type 0} (d : Domain I) where
  -- what is known at a point has what flows there where it has each part
  flag_of : (f h : Facts I) (n : ℕ) (fact : PointFact I) → fact_at f n ≡ Some fact → IsBelow d.below f h → Has d.below h (Flag n, Flags fact.off fact.on)
  flag_of f h n fact e b = subst (λ (x : Part I). IsBelowPart d.below x (get (Flag n) h)) (ap flags_in e) (b (Flag n))

  local_of_below : (f h : Facts I) (n : ℕ) (fact : PointFact I) → fact_at f n ≡ Some fact → IsBelow d.below f h → (r : ℕ) → Has d.below h (LocalAt n r, Values (local_of fact r))
  local_of_below f h n fact e b r = subst (λ (x : Option (PointFact I)). IsBelowPart d.below (Values (option_and_then (λ x. local_of x r) x)) (get (LocalAt n r) h)) e (b (LocalAt n r))

  cell_of_below : (f h : Facts I) (n : ℕ) (fact : PointFact I) → fact_at f n ≡ Some fact → IsBelow d.below f h → (j : ℕ) → Has d.below h (CellAt n j, Values (cell_of fact j))
  cell_of_below f h n fact e b j = subst (λ (x : Option (PointFact I)). IsBelowPart d.below (Values (option_and_then (λ x. cell_of x j) x)) (get (CellAt n j) h)) e (b (CellAt n j))

  apart_of_below : (f h : Facts I) (n : ℕ) (fact : PointFact I) → fact_at f n ≡ Some fact → IsBelow d.below f h → (r j : ℕ) → has_pair fact r j ≡ false → Has d.below h (Apart n r j, Mark true)
  apart_of_below f h n fact e b r j none = λ t. b (Apart n r j) (ap (λ (x : Option (PointFact I)). apart_in x r j) e ∙ ap not none)

  -- a point that is reached in facts is reached in those above
  pub reached_later : (f h : Facts I) (n : ℕ) (fact : PointFact I) → fact_at f n ≡ Some fact → (fact.off ≡ true) ⊎ (fact.on ≡ true) → IsBelow d.below f h → (x : PointFact I) × (fact_at h n ≡ Some x)
  reached_later f h n fact e flag b = by (fact_at h n) refl (flag_of f h n fact e b)
    where
      by : (o : Option (PointFact I)) → fact_at h n ≡ o → IsBelowPart d.below (Flags fact.off fact.on) (flags_in o) → (x : PointFact I) × (fact_at h n ≡ Some x)
      by None g k = absurd (elim flag [ inl s ↦ true≢false (sym (k.0 s)) | inr s ↦ true≢false (sym (k.1 s)) ])
      by (Some x) g k = (x, g)

  listed : (at : List (Option (PointFact I))) (n : ℕ) (x : PointFact I) (o : Option (Option (PointFact I))) → slice_get at n ≡ o → option_and_then (λ (q : Option (PointFact I)). q) o ≡ Some x → slice_get at n ≡ Some (Some x)
  listed at n x None e h = absurd (none-some x h)
  listed at n x (Some o) e h = e ∙ ap Some h

  -- and facts that have what flows to a point have each part
  pub flow_parts : (g : Facts I) (n count cells : ℕ) (flow : PointFact I) → HasFlow d.below flow (fact_at g n) → AreParts (Has d.below g) n count cells (of_fact flow)
  flow_parts g n count cells flow h = by (fact_at g n) refl h
    where
      by : (o : Option (PointFact I)) → fact_at g n ≡ o → HasFlow d.below flow o → AreParts (Has d.below g) n count cells (of_fact flow)
      by None e k = absurd k
      by (Some x) e k = parts_of (Has d.below g) n count cells (of_fact flow) (point_has d.below g n flow x e count cells k)

  -- facts that have it
  pub gives_cell : (g : Facts I) (n j : ℕ) (fact : PointFact I) (z y : Abs I) → cell_of fact j ≡ Some z → HasFlow d.below (fact_with_cell fact j y) (fact_at g n) → Has d.below g (CellAt n j, Values (Some y))
  gives_cell g n j fact z y there h =
      let parts = flow_parts g n 0 (suc j) (fact_with_cell fact j y) h in
      subst (λ (o : Option (Abs I)). Has d.below g (CellAt n j, Values o)) (cell_is fact j z y there) (parts.cell j (omega arith))

  pub gives_apart : (g : Facts I) (n r j : ℕ) (fact : PointFact I) → HasFlow d.below (fact_apart fact r j) (fact_at g n) → Has d.below g (Apart n r j, Mark true)
  gives_apart g n r j fact h =
      let parts = flow_parts g n (suc r) (suc j) (fact_apart fact r j) h in
      parts.apart r j (omega arith) (omega arith) (gone r j fact.same)

  module _ (p : Program) where
    -- what is known at a point of a function is of its shape
    pub known_shaped : (h : Facts I) → HaveShape d p h → (n id : ℕ) (f : Func) (q : Point) → IsPoint p n id f q → (x : PointFact I) → fact_at h n ≡ Some x → IsPointFact d p f x
    known_shaped h shape n id f q is x e = shape.point_facts n x q f (listed h.at n x (slice_get h.at n) refl e) is.numbered (ap (slice_get p.funcs) is.own ∙ is.function)

    -- facts of the shape that have all that a point needs of what flows there have it
    pub has_flow : (h : Facts I) → HaveShape d p h → (n id : ℕ) (f : Func) (q : Point) → IsPoint p n id f q → (flow x : PointFact I) → fact_at h n ≡ Some x → IsPointFact d p f flow →
        AreParts (Has d.below h) n (length (registers f)) (length (tracked p)) (of_fact flow) → HasFlow d.below flow (fact_at h n)
    has_flow h shape n id f q is flow x e of_flow parts =
        let of_x = known_shaped h shape n id f q is x e in
        subst (HasFlow d.below flow) (sym e) (has_below d.below h n flow x e (length (registers f)) (length (tracked p)) (fact_of d p f flow of_flow) (fact_of d p f x of_x) (points_alike d p f flow x of_flow of_x).0
        (all_of (Has d.below h) n (length (registers f)) (length (tracked p)) (of_fact flow) parts))

    module _ (f h : Facts I) (shape : HaveShape d p f) (of_h : HaveShape d p h) (b : IsBelow d.below f h) (n id : ℕ) (func : Func) (q : Point) (is : IsPoint p n id func q) (fact : PointFact I) (e : fact_at f n ≡ Some fact) where
      reached : (x : PointFact I) × (fact_at h n ≡ Some x)
      reached = reached_later f h n fact e (known_shaped f shape n id func q is fact e).flag b

      -- with another set of a cell
      pub wants_cell : (j : ℕ) (z y : Abs I) → cell_of fact j ≡ Some z → IsPointFact d p func (fact_with_cell fact j y) → Has d.below h (CellAt n j, Values (Some y)) → HasFlow d.below (fact_with_cell fact j y) (fact_at h n)
      wants_cell j z y there of_flow has = has_flow h of_h n id func q is (fact_with_cell fact j y) reached.0 reached.1 of_flow (record {
        flag = flag_of f h n fact e b;
        local = λ r l. local_of_below f h n fact e b r;
        cell = λ i l. elim (cell_other fact j z y there i) [
          | inl s ↦ subst (λ (i : ℕ). Has d.below h (CellAt n i, Values (cell_of (fact_with_cell fact j y) i))) (sym s) (subst (λ (o : Option (Abs I)). Has d.below h (CellAt n j, Values o)) (sym (cell_is fact j z y there)) has)
          | inr s ↦ subst (λ (o : Option (Abs I)). Has d.below h (CellAt n i, Values o)) (sym s) (cell_of_below f h n fact e b i)
        ];
        apart = λ r i lr li none. apart_of_below f h n fact e b r i none;
      })

      -- without a pair
      pub wants_apart : (r j : ℕ) → Has d.below h (Apart n r j, Mark true) → HasFlow d.below (fact_apart fact r j) (fact_at h n)
      wants_apart r j has = has_flow h of_h n id func q is (fact_apart fact r j) reached.0 reached.1 (apart_shaped d p func fact r j (known_shaped f shape n id func q is fact e)) (record {
        flag = flag_of f h n fact e b;
        local = λ q l. local_of_below f h n fact e b q;
        cell = λ i l. cell_of_below f h n fact e b i;
        apart = λ q i lq li none. elim (still r j q i fact.same none) [
          | inl s ↦ subst (λ (a : ℕ). Has d.below h (Apart n a i, Mark true)) (sym s.0) (subst (λ (c : ℕ). Has d.below h (Apart n r c, Mark true)) (sym s.1) has)
          | inr s ↦ apart_of_below f h n fact e b q i s
        ];
      })
