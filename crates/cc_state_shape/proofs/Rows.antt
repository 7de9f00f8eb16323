-- Rows of so many cells, each of which is there, have lengths that the number of the cells tells: 16 while there are so many, then what is left.
use Rattle.std.proofs.Common.{arith, ◌≡◌, ◌⊎◌, inl, inr, ℕ, zero, suc, ◌+◌, ◌-◌, ◌*◌, ◌/◌, ◌%◌, ◌<◌, ◌≤◌, min, List, [], ◌∷◌, length, length-append, Option, Some, None, slice_get, refl, sym, ap, subst, ◌∙◌}
use Rattle.std.specs.Prelude.{option_and_then}
use Rattle.std.specs.List.{AllZip, flat_map}
use Rattle.std.proofs.lemmas.Option.{none-some, same_Some}
use Rattle.cc_state_reads.specs.CcPlaces.declared.abs.Abs.{Abs}
use Rattle.cc_state_reads.specs.CcPlaces.Abstract.{AreOfOneKind}
use Rattle.cc_rules_needs.proofs.Zips.{AreSome, zip_from}
use Rattle.cc_state_reads.specs.CcStateFacts.declared.facts.PointFact.{PointFact}
use Rattle.cc_state_reads.specs.CcStateFacts.declared.facts.Row.{Row}
use Rattle.cc_state_reads.specs.CcStateFacts.Facts.{row_length, cell_of}
use Rattle.cc_state_reads.specs.CcStateFacts.Orders.{AreRowsAlike}

order : (a b : ℕ) → (a ≤ b) ⊎ (b < a)
order a b = grind arith

module _ {I : Type 0} where
  abbrev total : List (Row I) → ℕ
  total rows = length (flat_map (λ (row : Row I). row.cells) rows)

  abbrev pub AreChunks : ℕ → List (Row I) → Type 0
  AreChunks c [] = c ≡ 0
  AreChunks c (row ∷ rows) = (0 < c) × (length row.cells ≡ min 16 c) × AreChunks (c - 16) rows

  total_more : (row : Row I) (rows : List (Row I)) → total (row ∷ rows) ≡ length row.cells + total rows
  total_more row rows = length-append row.cells (flat_map (λ (row : Row I). row.cells) rows)

  -- of rows that are not empty, all but the last of which have 16 cells, where each cell has a row
  pub chunks : (rows : List (Row I)) (c : ℕ) → total rows ≡ c → ((n : ℕ) (row : Row I) → slice_get rows n ≡ Some row → 0 < length row.cells) →
      ((n : ℕ) (row next : Row I) → slice_get rows n ≡ Some row → slice_get rows (n + 1) ≡ Some next → length row.cells ≡ row_length) →
      ((j : ℕ) → j < c → j / 16 < length rows) → AreChunks c rows
  chunks [] c e some full within = sym e
  chunks (row ∷ []) c e some full within =
      let a = some zero row refl in
      let t : total (row ∷ []) ≡ length row.cells + 0 = total_more row [] in
      let short : c ≤ 16 = last_short in
      (omega (arith, a, t, e), omega (arith, short, t, e), omega (arith, short))
    where
      last_short : c ≤ 16
      last_short = elim (order c 16) [ inl h ↦ h | inr h ↦ absurd (let w = within 16 h in omega (arith, w)) ]
  chunks (row ∷ next ∷ rows) c e some full within =
      let a : length row.cells ≡ 16 = full zero row next refl refl in
      let t : total (row ∷ next ∷ rows) ≡ length row.cells + total (next ∷ rows) = total_more row (next ∷ rows) in
      let s : total (next ∷ rows) ≡ length next.cells + total rows = total_more next rows in
      let b = some (suc zero) next refl in (
        omega (arith, a, t, e),
        omega (arith, a, t, e, s, b),
        chunks (next ∷ rows) (c - 16) (omega (arith, a, t, e)) (λ n q k. some (suc n) q k) (λ n q r k l. full (suc n) q r k (next_place n r l)) (λ j l. later j (within (j + 16) (omega (arith, l)))),
      )
    where
      next_place : (n : ℕ) (r : Row I) → slice_get (next ∷ rows) (n + 1) ≡ Some r → slice_get (row ∷ next ∷ rows) (suc n + 1) ≡ Some r
      next_place n r l = subst (λ (m : ℕ). slice_get (row ∷ next ∷ rows) m ≡ Some r) (let e : suc (n + 1) ≡ suc n + 1 = omega arith in e) l

      later : (j : ℕ) → (j + 16) / 16 < length (row ∷ next ∷ rows) → j / 16 < length (next ∷ rows)
      later j l = omega (arith, l)

  -- a row, and the cells up to its end
  pub chunk_at : (rows : List (Row I)) (c : ℕ) → AreChunks c rows → (n : ℕ) (row : Row I) → slice_get rows n ≡ Some row → (length row.cells ≤ 16) × (16 * n + length row.cells ≤ c)
  chunk_at [] c h n row e = absurd (none-some row e)
  chunk_at (first ∷ rows) c h zero row e = let l : length first.cells ≡ min 16 c = h.1 in let s : length row.cells ≡ length first.cells = ap (λ (r : Row I). length r.cells) (sym (same_Some first row e)) in (omega (arith, l, s), omega (arith, l, s))
  chunk_at (first ∷ []) c h (suc n) row e = absurd (none-some row e)
  chunk_at (first ∷ next ∷ rows) c h (suc n) row e =
      let t = chunk_at (next ∷ rows) (c - 16) h.2 n row e in
      let a = t.0 in
      let b = t.1 in
      let more : 0 < c - 16 = h.2.0 in
      (a, omega (arith, b, more))

  pub lengths_same : (xs ys : List (Row I)) (c : ℕ) → AreChunks c xs → AreChunks c ys → length xs ≡ length ys
  lengths_same [] [] c h k = refl
  lengths_same [] (y ∷ ys) c h k = absurd (let l : 0 < c = k.0 in omega (arith, h, l))
  lengths_same (x ∷ xs) [] c h k = absurd (let l : 0 < c = h.0 in omega (arith, k, l))
  lengths_same (x ∷ xs) (y ∷ ys) c h k = let e = lengths_same xs ys (c - 16) h.2 k.2 in omega (arith, e)

  pub row_same : (xs ys : List (Row I)) (c : ℕ) → AreChunks c xs → AreChunks c ys → (n : ℕ) (x y : Row I) → slice_get xs n ≡ Some x → slice_get ys n ≡ Some y → length x.cells ≡ length y.cells
  row_same [] ys c h k n x y e f = absurd (none-some x e)
  row_same (a ∷ xs) [] c h k n x y e f = absurd (none-some y f)
  row_same (a ∷ xs) (b ∷ ys) c h k zero x y e f =
      ap (λ (r : Row I). length r.cells) (sym (same_Some a x e)) ∙ (h.1 ∙ (sym k.1 ∙ ap (λ (r : Row I). length r.cells) (same_Some b y f)))
  row_same (a ∷ xs) (b ∷ ys) c h k (suc n) x y e f = row_same xs ys (c - 16) h.2 k.2 n x y e f

  -- the cell of a row
  pub cell_in_row : (fact : PointFact I) (q i : ℕ) (row : Row I) → slice_get fact.rows q ≡ Some row → i < 16 → cell_of fact (16 * q + i) ≡ slice_get row.cells i
  cell_in_row fact q i row e l =
      let d : (16 * q + i) / 16 ≡ q = omega (arith, l) in
      let m : (16 * q + i) % 16 ≡ i = omega (arith, l) in
      ap (λ n. option_and_then (λ (row : Row I). slice_get row.cells ((16 * q + i) % 16)) (slice_get fact.rows n)) d
      ∙ (ap (option_and_then (λ (row : Row I). slice_get row.cells ((16 * q + i) % 16))) e ∙ ap (slice_get row.cells) m)

  -- rows of so many cells each of which is of one kind in both
  module _ (x y : PointFact I) (c : ℕ) (h : AreChunks c x.rows) (k : AreChunks c y.rows) (each : (j : ℕ) → j < c → AreSome AreOfOneKind (cell_of x j) (cell_of y j)) where
    cells_alike : (q : ℕ) (a b : Row I) → slice_get x.rows q ≡ Some a → slice_get y.rows q ≡ Some b → AreRowsAlike a b
    cells_alike q a b e f = zip_from AreOfOneKind a.cells b.cells (row_same x.rows y.rows c h k q a b e f) cell
      where
        cell : (i : ℕ) → i < length a.cells → AreSome AreOfOneKind (slice_get a.cells i) (slice_get b.cells i)
        cell i l =
            let t = chunk_at x.rows c h q a e in
            let short = t.0 in
            let inside = t.1 in
            let small : i < 16 = omega (arith, l, short) in
            subst (λ (o : Option (Abs I)). AreSome AreOfOneKind (slice_get a.cells i) o) (cell_in_row y q i b f small)
            (subst (λ (o : Option (Abs I)). AreSome AreOfOneKind o (cell_of y (16 * q + i))) (cell_in_row x q i a e small) (each (16 * q + i) (omega (arith, l, inside))))

    row_alike : (q : ℕ) (a b : Option (Row I)) → slice_get x.rows q ≡ a → slice_get y.rows q ≡ b → q < length y.rows → AreSome AreRowsAlike a b
    row_alike q None b e f l = tt
    row_alike q (Some a) None e f l = absurd (there y.rows q l f)
      where
        there : (rows : List (Row I)) (q : ℕ) → q < length rows → slice_get rows q ≡ None → ⊥
        there [] q l f = omega (arith, l)
        there (r ∷ rows) zero l f = let g : Some r ≡ None = f in absurd (none-some r (sym g))
        there (r ∷ rows) (suc q) l f = there rows q (omega (arith, l)) f
    row_alike q (Some a) (Some b) e f l = cells_alike q a b e f

    pub rows_alike : AllZip AreRowsAlike x.rows y.rows
    rows_alike =
        let same = lengths_same x.rows y.rows c h k in
        zip_from AreRowsAlike x.rows y.rows same (λ q l. row_alike q (slice_get x.rows q) (slice_get y.rows q) refl refl (omega (arith, l, same)))
