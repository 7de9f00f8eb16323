-- Rows of tracked cells, as far as loops have come.
use Rattle.std.proofs.Common.{arith, ◌≡◌, ◌<◌, ◌≤◌, ◌+◌, ◌-◌, ◌*◌, ◌/◌, ◌%◌, ◌⊎◌, inl, inr, ℕ, zero, suc, ℤ, List, [], ◌∷◌, ◌++◌, length, length-append, Some, slice_get, refl, ap, sym, subst, ◌∙◌}
use Rattle.std.specs.List.{flat_map}
use Rattle.std.specs.Prelude.{min, option_and_then}
use Rattle.std.proofs.lemmas.Bool.{cases_lt}
use Rattle.std.proofs.lemmas.Option.{same_Some, none-some, slice_get_within}
use Rattle.cc_rules_asked.specs.CcPlaces.declared.abs.Abs.{Abs}
use Rattle.cc_program.specs.declared.program.Program.{Program}
use Rattle.cc_program.specs.declared.value.Value.{Value}
use Rattle.cc_rules_firsts.proofs.Among.{below_or_last}
use Rattle.cc_rules_firsts.specs.Rows.{IsFirstOf, HasCell, AreFrom, IsRowSize, IsRowFrom, AreFirstRows}
use Rattle.cc_rules_grow.proofs.Elements.{some_within}
use Rattle.cc_rules_grow.specs.CcState.Shape.{AreRows}
use Rattle.cc_rules_asked.specs.CcStateFacts.declared.facts.Row.{Row}
use Rattle.cc_rules_asked.specs.CcStateOperators.Domains.{Domain}

-- ---- lists with one more behind

pub in_front : {A : Type 0} (xs : List A) (y : A) (n : ℕ) (x : A) → slice_get xs n ≡ Some x → slice_get (xs ++ y ∷ []) n ≡ Some x
in_front [] y n x h = absurd (cc)
in_front (z ∷ xs) y zero x h = h
in_front (z ∷ xs) y (suc n) x h = in_front xs y n x h

pub at_end : {A : Type 0} (xs : List A) (y : A) (n : ℕ) → n ≡ length xs → slice_get (xs ++ y ∷ []) n ≡ Some y
at_end [] y n e = ap (slice_get (y ∷ [])) e
at_end (z ∷ xs) y zero e = absurd (omega (arith, e))
at_end (z ∷ xs) y (suc n) e = at_end xs y n (omega (arith, e))

pub pushed : {A : Type 0} (xs : List A) (y : A) (n : ℕ) (x : A) → slice_get (xs ++ y ∷ []) n ≡ Some x → (slice_get xs n ≡ Some x) ⊎ ((n ≡ length xs) × (y ≡ x))
pushed [] y zero x h = let e : y ≡ x = cc in inr (refl, e)
pushed [] y (suc n) x h = absurd (cc)
pushed (z ∷ xs) y zero x h = inl h
pushed (z ∷ xs) y (suc n) x h = behind (pushed xs y n x h)
  where
    behind : (slice_get xs n ≡ Some x) ⊎ ((n ≡ length xs) × (y ≡ x)) → (slice_get (z ∷ xs) (suc n) ≡ Some x) ⊎ ((suc n ≡ length (z ∷ xs)) × (y ≡ x))
    behind (inl k) = inl k
    behind (inr k) = inr (let e = k.0 in omega (arith, e), k.1)

pub longer : {A : Type 0} (xs : List A) (y : A) → length (xs ++ y ∷ []) ≡ length xs + 1
longer [] y = omega arith
longer (x ∷ xs) y = let r = longer xs y in omega (arith, r)

-- ---- one row

pub row_size : (count first size end : ℕ) → first + size ≡ end → end ≤ count → first ≤ end → end ≤ first + 16 → (end < first + 16 → end ≡ count) → IsRowSize count first size
row_size count first size end e within behind short full = record { begins = omega (arith, behind, within); is = sized (cases_lt end (first + 16)) }
  where
    sized : (end < first + 16) ⊎ (first + 16 ≤ end) → size ≡ min 16 (count - first)
    sized (inl l) = let last = full l in omega (arith, e, last, l)
    sized (inr l) = omega (arith, e, within, short, l)

abbrev pub cells_of : {I : Type 0} → List (Row I) → List (Abs I)
cells_of {I = I} rows = flat_map (λ (row : Row I). row.cells) rows

more_cells : {I : Type 0} (rows : List (Row I)) (row : Row I) → length (cells_of (rows ++ row ∷ [])) ≡ length (cells_of rows) + length row.cells
more_cells [] row = let l = length-append row.cells [] in omega (arith, l)
more_cells (first ∷ rows) row =
    let l = length-append first.cells (cells_of (rows ++ row ∷ [])) in
    let m = length-append first.cells (cells_of rows) in
    let r = more_cells rows row in
    omega (arith, l, m, r)

module _ {I : Type 0} (has : I → ℤ → Type 0) (below : I → I → Type 0) (values : List (List Value)) (objects : List ℕ) where
  pub none_from : (first : ℕ) (sets : List (Abs I)) → sets ≡ [] → AreFrom has below values objects first sets first
  none_from first sets e = record {
    count = (let l = ap length e in omega (arith, l));
    each = λ n i l at. absurd (let k = ap length e in omega (arith, l, k));
  }

  cell_on : (sets new : List (Abs I)) (y : Abs I) (n i : ℕ) → new ≡ sets ++ y ∷ [] → HasCell has below values objects sets n i → HasCell has below values objects new n i
  cell_on sets new y n i e (z, at, is) = (z, subst (λ (ys : List (Abs I)). slice_get ys n ≡ Some z) (sym e) (in_front sets y n z at), is)

  pub more_from : (first next object : ℕ) (sets new : List (Abs I)) (y : Abs I) → AreFrom has below values objects first sets next → slice_get objects next ≡ Some object → IsFirstOf has below values object y →
      new ≡ sets ++ y ∷ [] → AreFrom has below values objects first new (next + 1)
  more_from first next object sets new y are at is e = record {
    count = (let l = ap length e ∙ longer sets y in let c = are.count in omega (arith, l, c));
    each = λ n i l there. by n i there (below_or_last n (length sets) (let m = ap length e ∙ longer sets y in omega (arith, l, m)));
  }
    where
      by : (n i : ℕ) → slice_get objects (first + n) ≡ Some i → (n < length sets) ⊎ (n ≡ length sets) → HasCell has below values objects new n i
      by n i there (inl l) = cell_on sets new y n i e (are.each n i l there)
      by n i there (inr q) =
          let place : first + n ≡ next = (let c = are.count in omega (arith, q, c)) in
          let same : object ≡ i = same_Some object i (sym at ∙ (ap (slice_get objects) (sym place) ∙ there)) in
          (y, subst (λ (ys : List (Abs I)). slice_get ys n ≡ Some y) (sym e) (at_end sets y n q), subst (λ (o : ℕ). IsFirstOf has below values o y) same is)

  pub row_from : (first next : ℕ) (sets : List (Abs I)) → AreFrom has below values objects first sets next → IsRowSize (length objects) first (length sets) → IsRowFrom has below values objects first sets
  row_from first next sets are size n i l at =
      let within = slice_get_within objects (first + n) i at in
      let is : length sets ≡ min 16 (length objects - first) = size.is in
      are.each n i (omega (arith, within, is, l)) at

  -- ---- all rows

  pub record AreRowsBelow (rows : List (Row I)) (count : ℕ) : Type 0 where
    pub so_many : length rows ≡ count
    pub each : (r : ℕ) (row : Row I) → slice_get rows r ≡ Some row → IsRowFrom has below values objects (r * 16) row.cells
    pub sizes : (r : ℕ) (row : Row I) → slice_get rows r ≡ Some row → IsRowSize (length objects) (r * 16) (length row.cells)
    pub begun : (r : ℕ) → r < count → r * 16 < length objects
    pub total : length (cells_of rows) ≡ min (count * 16) (length objects)

  pub none_below : (rows : List (Row I)) → rows ≡ [] → AreRowsBelow rows 0
  none_below rows e = record {
    so_many = ap length e;
    each = λ r row at. absurd (none-some row (ap (λ (rs : List (Row I)). slice_get rs r) (sym e) ∙ at));
    sizes = λ r row at. absurd (none-some row (ap (λ (rs : List (Row I)). slice_get rs r) (sym e) ∙ at));
    begun = λ r l. absurd (omega (arith, l));
    total = (let l = ap (λ (rs : List (Row I)). length (cells_of rs)) e in omega (arith, l));
  }

  pub rows_on : (rows new : List (Row I)) (count : ℕ) (row : Row I) → AreRowsBelow rows count → IsRowFrom has below values objects (count * 16) row.cells → IsRowSize (length objects) (count * 16) (length row.cells) → count * 16 < length objects → new ≡ rows ++ row ∷ [] →
      AreRowsBelow new (count + 1)
  rows_on rows new count row are is size low e = record {
    so_many = (let l = ap length e ∙ longer rows row in let c = are.so_many in omega (arith, l, c));
    each = λ r other at. by r other (pushed rows row r other (subst (λ (rs : List (Row I)). slice_get rs r ≡ Some other) e at));
    sizes = λ r other at. sized r other (pushed rows row r other (subst (λ (rs : List (Row I)). slice_get rs r ≡ Some other) e at));
    begun = λ r l. begun_by r (below_or_last r count l);
    total = summed;
  }
    where
      place : (r : ℕ) → r ≡ length rows → count ≡ r
      place r q = sym (q ∙ are.so_many)

      by : (r : ℕ) (other : Row I) → (slice_get rows r ≡ Some other) ⊎ ((r ≡ length rows) × (row ≡ other)) → IsRowFrom has below values objects (r * 16) other.cells
      by r other (inl at) = are.each r other at
      by r other (inr q) =
          subst (λ (o : Row I). IsRowFrom has below values objects (r * 16) o.cells) q.1 (subst (λ (n : ℕ). IsRowFrom has below values objects (n * 16) row.cells) (place r q.0) is)

      sized : (r : ℕ) (other : Row I) → (slice_get rows r ≡ Some other) ⊎ ((r ≡ length rows) × (row ≡ other)) → IsRowSize (length objects) (r * 16) (length other.cells)
      sized r other (inl at) = are.sizes r other at
      sized r other (inr q) =
          subst (λ (o : Row I). IsRowSize (length objects) (r * 16) (length o.cells)) q.1 (subst (λ (n : ℕ). IsRowSize (length objects) (n * 16) (length row.cells)) (place r q.0) size)

      begun_by : (r : ℕ) → (r < count) ⊎ (r ≡ count) → r * 16 < length objects
      begun_by r (inl l) = are.begun r l
      begun_by r (inr q) = omega (arith, q, low)

      summed : length (cells_of new) ≡ min ((count + 1) * 16) (length objects)
      summed =
          let more : length (cells_of new) ≡ length (cells_of rows) + length row.cells = ap (λ (rs : List (Row I)). length (cells_of rs)) e ∙ more_cells rows row in
          let before = are.total in
          let own : length row.cells ≡ min 16 (length objects - count * 16) = size.is in
          omega (arith, more, before, own, low)

  pub all_rows : (rows : List (Row I)) (count : ℕ) → AreRowsBelow rows count → length objects ≤ count * 16 → AreFirstRows has below values objects rows
  all_rows rows count are enough n i at =
      let l = slice_get_within objects n i at in
      let many = are.so_many in
      let (row, there) = some_within rows (n / 16) (omega (arith, l, many, enough)) in
      let place : (n / 16) * 16 + n % 16 ≡ n = omega arith in
      let short : n % 16 < 16 = omega arith in
      let (y, own, is) = are.each (n / 16) row there (n % 16) i short (ap (slice_get objects) place ∙ at) in
      (y, ap (option_and_then (λ (row : Row I). slice_get row.cells (n % 16))) there ∙ own, is)

  pub all_laid : (d : Domain I) (p : Program) (rows : List (Row I)) (count : ℕ) → AreRowsBelow rows count → length objects ≤ count * 16 → AreRows d p (length objects) rows
  all_laid d p rows count are enough = (
    (let total = are.total in omega (arith, total, enough)),
    (
      λ n row at. (let low = begun n row at in let own = sized n row at in omega (arith, own, low)),
      λ n row next at there. (let low = begun (n + 1) next there in let own = sized n row at in omega (arith, own, low)),
    ),
  )
    where
      begun : (n : ℕ) (row : Row I) → slice_get rows n ≡ Some row → n * 16 < length objects
      begun n row at = let l = slice_get_within rows n row at in let c = are.so_many in are.begun n (omega (arith, l, c))

      sized : (n : ℕ) (row : Row I) → slice_get rows n ≡ Some row → length row.cells ≡ min 16 (length objects - n * 16)
      sized n row at = (are.sizes n row at).is
