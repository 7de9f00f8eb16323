-- A point has what flows there exactly where it has all that is needed of it.
use Rattle.std.proofs.Common.{arith, ◌≡◌, ◌⊎◌, inl, inr, ℕ, zero, suc, ◌+◌, ◌*◌, ◌/◌, ◌%◌, ◌<◌, ◌≤◌, Bool, true, false, true≢false, not, ◌&&◌, ◌||◌, nat_eq, List, [], ◌∷◌, ◌++◌, map, length, All, Option, Some, None, slice_get, refl, sym, ap, subst, ◌∙◌}
use Rattle.std.specs.Prelude.{option_and_then, if◌then◌else◌}
use Rattle.std.specs.List.{AllByRecursion, AllZip, flat_map, list_all, list_any}
use Rattle.std.proofs.lemmas.List.Elements.{All-from_recursion, All-head, All-tail, length_all_zip}
use Rattle.std.proofs.lemmas.Map.Keys.{any_passes_from_place}
use Rattle.cc_places.specs.declared.abs.Abs.{Abs}
use Rattle.cc_places.specs.Abstract.{AreOfOneKind, IsBelowAbs}
use Rattle.cc_rules_needs.specs.Flowing.{of_fact, numbers, each_pair, need_apart, need_local, need_cell, needs_at}
use Rattle.cc_rules_needs.specs.Needs.{Slot, Flag, Apart, Part, Mark, Flags, flags_in, apart_in, AreValuesBelow, IsBelowPart, Has, HasAll}
use Rattle.cc_rules_needs.specs.Points.{is_same, AreRowsAlike, ArePointsAlike, AreRowsBelow, IsFactOf, IsPointBelow}
use Rattle.cc_rules_needs.proofs.Puts.{none_not_some, some_same}
use Rattle.cc_rules_needs.proofs.Zips.{AreSome, some_at, zip_from}
use Rattle.cc_state_facts.specs.declared.facts.Facts.{Facts}
use Rattle.cc_state_facts.specs.declared.facts.PointFact.{PointFact}
use Rattle.cc_state_facts.specs.declared.facts.Row.{Row}
use Rattle.cc_state_facts.specs.Facts.{row_length, fact_at, cell_of, local_of, has_pair}

-- ---- lists, by recursion

abbrev pub Each : {A : Type 0} → (A → Type 0) → List A → Type 0
Each P xs = AllByRecursion P xs

pub each_of : {A : Type 0} (P : A → Type 0) (xs : List A) → All P xs → Each P xs
each_of P [] h = tt
each_of P (x ∷ xs) h = (All-head P x xs h, each_of P xs (All-tail P x xs h))

each_append : {A : Type 0} (P : A → Type 0) (xs ys : List A) → Each P xs → Each P ys → Each P (xs ++ ys)
each_append P [] ys h k = k
each_append P (x ∷ xs) ys h k = (h.0, each_append P xs ys h.1 k)

both_true : (a b : Bool) → (a && b) ≡ true → (a ≡ true) × (b ≡ true)
both_true true b h = (refl, h)
both_true false b h = absurd (true≢false (sym h))

and_true : (a b : Bool) → a ≡ true → b ≡ true → (a && b) ≡ true
and_true true b h k = k
and_true false b h k = h

pub each_passes : {A : Type 0} (f : A → Bool) (xs : List A) → list_all f xs ≡ true → Each (λ x. f x ≡ true) xs
each_passes f [] h = tt
each_passes f (x ∷ xs) h = let t = both_true (f x) (list_all f xs) h in (t.0, each_passes f xs t.1)

pub passes_each : {A : Type 0} (f : A → Bool) (xs : List A) → Each (λ x. f x ≡ true) xs → list_all f xs ≡ true
passes_each f [] h = refl
passes_each f (x ∷ xs) h = and_true (f x) (list_all f xs) h.0 (passes_each f xs h.1)

-- ---- lists of numbers and of pairs

all_split : {A : Type 0} (P : A → Type 0) (xs ys : List A) → Each P (xs ++ ys) → Each P xs × Each P ys
all_split P [] ys h = (tt, h)
all_split P (x ∷ xs) ys h = let t = all_split P xs ys h.1 in ((h.0, t.0), t.1)

all_numbers : {A : Type 0} (P : A → Type 0) (f : ℕ → A) → ((n : ℕ) → P (f n)) → (k n : ℕ) → Each P (map f (numbers k n))
all_numbers P f h k zero = tt
all_numbers P f h k (suc n) = (h k, all_numbers P f h (suc k) n)

first_or_later : (k i : ℕ) → k ≤ i → (k ≡ i) ⊎ (suc k ≤ i)
first_or_later k i l = grind (arith, l)

number_of : {A : Type 0} (P : A → Type 0) (f : ℕ → A) (k n : ℕ) → Each P (map f (numbers k n)) → (i : ℕ) → k ≤ i → i < k + n → P (f i)
number_of P f k zero h i lo hi = absurd (omega (arith, lo, hi))
number_of P f k (suc n) h i lo hi = elim (first_or_later k i lo) [ inl e ↦ subst (λ j. P (f j)) e h.0 | inr l ↦ number_of P f (suc k) n h.1 i l (omega (arith, hi)) ]

all_flat : {A B : Type 0} (P : B → Type 0) (f : A → List B) (xs : List A) → ((x : A) → Each P (f x)) → Each P (flat_map f xs)
all_flat P f [] h = tt
all_flat P f (x ∷ xs) h = each_append P (f x) (flat_map f xs) (h x) (all_flat P f xs h)

flat_all : {A B : Type 0} (P : B → Type 0) (f : A → List B) (xs : List A) → Each P (flat_map f xs) → Each (λ x. Each P (f x)) xs
flat_all P f [] h = tt
flat_all P f (x ∷ xs) h = let t = all_split P (f x) (flat_map f xs) h in (t.0, flat_all P f xs t.1)

pub all_at : {A : Type 0} (P : A → Type 0) (xs : List A) → ((i : ℕ) (x : A) → slice_get xs i ≡ Some x → P x) → Each P xs
all_at P [] h = tt
all_at P (x ∷ xs) h = (h zero x refl, all_at P xs (λ i y e. h (suc i) y e))

at_all : {A : Type 0} (P : A → Type 0) (xs : List A) → Each P xs → (i : ℕ) (x : A) → slice_get xs i ≡ Some x → P x
at_all P [] h i x e = none_not_some x e
at_all P (y ∷ ys) h zero x e = subst P (some_same e) h.0
at_all P (y ∷ ys) h (suc i) x e = at_all P ys h.1 i x e

by_map : (Q : ℕ → Type 0) (xs : List ℕ) → Each Q xs → Each Q (map (λ m. m) xs)
by_map Q [] h = tt
by_map Q (x ∷ xs) h = (h.0, by_map Q xs h.1)

-- every pair of numbers below two bounds
of_pair : (P : ℕ × ℕ → Type 0) (registers cells : ℕ) → Each P (each_pair registers cells) → (r j : ℕ) → r < registers → j < cells → P (r, j)
of_pair P registers cells h r j kr kj =
    let Q : ℕ → Type 0 = λ q. Each P (map (λ j. (q, j)) (numbers 0 cells)) in
    let rows : Each Q (numbers 0 registers) = flat_all P (λ q. map (λ j. (q, j)) (numbers 0 cells)) (numbers 0 registers) h in
    number_of P (λ i. (r, i)) 0 cells (in_numbers Q 0 registers rows r (omega arith) (omega (arith, kr))) j (omega arith) (omega (arith, kj))
  where
    in_numbers : (Q : ℕ → Type 0) (k n : ℕ) → Each Q (numbers k n) → (i : ℕ) → k ≤ i → i < k + n → Q i
    in_numbers Q k n h i lo hi = number_of Q (λ m. m) k n (by_map Q (numbers k n) h) i lo hi

-- ---- pairs

module _ (has : ℕ → ℕ → Bool) where
  pub same_numbers : (a b r j : ℕ) → (nat_eq a r && nat_eq b j) ≡ true → (a ≡ r) × (b ≡ j)
  same_numbers a b r j h = (grind (arith, h), grind (arith, h))

  any_step : (p : ℕ × ℕ) (rest : Bool) (r j : ℕ) (b : Bool) → (nat_eq p.0 r && nat_eq p.1 j) ≡ b → has p.0 p.1 ≡ true → has r j ≡ false → rest ≡ false → ((nat_eq p.0 r && nat_eq p.1 j) || rest) ≡ false
  any_step p rest r j true e h n k = absurd (let t = same_numbers p.0 p.1 r j e in let f : has r j ≡ true = subst (λ a. has a j ≡ true) t.0 (subst (λ b. has p.0 b ≡ true) t.1 h) in true≢false (sym f ∙ n))
  any_step p rest r j false e h n k = subst (λ b. (b || rest) ≡ false) (sym e) k

  -- a pair that the flow has not is none of a fact whose pairs it has
  pub none_of : (same : List (ℕ × ℕ)) → Each (λ p. has p.0 p.1 ≡ true) same → (r j : ℕ) → has r j ≡ false → list_any (λ p. nat_eq p.0 r && nat_eq p.1 j) same ≡ false
  none_of [] h r j n = refl
  none_of (p ∷ same) h r j n = any_step p (list_any (λ p. nat_eq p.0 r && nat_eq p.1 j) same) r j (nat_eq p.0 r && nat_eq p.1 j) refl h.0 n (none_of same h.1 r j n)

pub itself_true : (a b : ℕ) → (nat_eq a a && nat_eq b b) ≡ true
itself_true a b = grind arith

-- ---- the needs of a flow

module _ {I : Type 0} (below : I → I → Type 0) where
  pub some_values : (x y : Option (Abs I)) → AreSome (IsBelowAbs below) x y → AreValuesBelow below x y
  some_values None y h = tt
  some_values (Some x) None h = h
  some_values (Some x) (Some y) h = h

  pub values_some : (x y : Option (Abs I)) → AreValuesBelow below x y → AreSome (IsBelowAbs below) x y
  values_some None y h = tt
  values_some (Some x) None h = h
  values_some (Some x) (Some y) h = h

  pub row_values : (i : ℕ) (x y : Option (Row I)) → AreSome (AreRowsBelow below) x y → AreValuesBelow below (option_and_then (λ (row : Row I). slice_get row.cells i) x) (option_and_then (λ (row : Row I). slice_get row.cells i) y)
  row_values i None y h = tt
  row_values i (Some x) None h = absurd h
  row_values i (Some x) (Some y) h = some_values (slice_get x.cells i) (slice_get y.cells i) (some_at (IsBelowAbs below) x.cells y.cells h i)

  apart_all : (facts : Facts I) (k r j : ℕ) (b : Bool) → (b ≡ false → Has below facts (Apart k r j, Mark true)) → Each (Has below facts) (if b then [] else (Apart k r j, Mark true) ∷ [])
  apart_all facts k r j true h = tt
  apart_all facts k r j false h = (h refl, tt)

  apart_of : (facts : Facts I) (k r j : ℕ) (b : Bool) → Each (Has below facts) (if b then [] else (Apart k r j, Mark true) ∷ []) → b ≡ false → Has below facts (Apart k r j, Mark true)
  apart_of facts k r j true h e = absurd (true≢false e)
  apart_of facts k r j false h e = h.0

  -- rows from their cells
  module _ (flow fact : PointFact I) where
    in_row : (q i : ℕ) (x y : Row I) → slice_get flow.rows q ≡ Some x → slice_get fact.rows q ≡ Some y → (j : ℕ) → j / 16 ≡ q → j % 16 ≡ i → AreValuesBelow below (cell_of flow j) (cell_of fact j) → AreSome (IsBelowAbs below) (slice_get x.cells i) (slice_get y.cells i)
    in_row q i x y ex ey j dq di h =
        let here : AreValuesBelow below (option_and_then (λ (row : Row I). slice_get row.cells i) (slice_get flow.rows q)) (option_and_then (λ (row : Row I). slice_get row.cells i) (slice_get fact.rows q)) =
        subst (λ n. AreValuesBelow below (option_and_then (λ (row : Row I). slice_get row.cells n) (slice_get flow.rows q)) (option_and_then (λ (row : Row I). slice_get row.cells n) (slice_get fact.rows q))) di
        (subst (λ n. AreValuesBelow below (option_and_then (λ (row : Row I). slice_get row.cells (j % 16)) (slice_get flow.rows n)) (option_and_then (λ (row : Row I). slice_get row.cells (j % 16)) (slice_get fact.rows n))) dq h) in
        values_some (slice_get x.cells i) (slice_get y.cells i)
        (subst (λ (o : Option (Row I)). AreValuesBelow below (slice_get x.cells i) (option_and_then (λ (row : Row I). slice_get row.cells i) o)) ey
        (subst (λ (o : Option (Row I)). AreValuesBelow below (option_and_then (λ (row : Row I). slice_get row.cells i) o) (option_and_then (λ (row : Row I). slice_get row.cells i) (slice_get fact.rows q))) ex here))

    row_from : (q : ℕ) (x y : Option (Row I)) → slice_get flow.rows q ≡ x → slice_get fact.rows q ≡ y → AreSome AreRowsAlike x y →
        ((row : Row I) → slice_get flow.rows q ≡ Some row → (i : ℕ) → i < length row.cells → (i < row_length) × AreValuesBelow below (cell_of flow (row_length * q + i)) (cell_of fact (row_length * q + i))) →
        AreSome (AreRowsBelow below) x y
    row_from q None y ex ey a each = tt
    row_from q (Some x) None ex ey a each = absurd a
    row_from q (Some x) (Some y) ex ey a each = zip_from (IsBelowAbs below) x.cells y.cells (length_all_zip AreOfOneKind x.cells y.cells a)
        (λ i l. let b = each x ex i l in in_row q i x y ex ey (16 * q + i) (quotient q i b.0) (remainder q i b.0) b.1)
      where
        quotient : (q i : ℕ) → i < 16 → (16 * q + i) / 16 ≡ q
        quotient q i l = omega (arith, l)

        remainder : (q i : ℕ) → i < 16 → (16 * q + i) % 16 ≡ i
        remainder q i l = omega (arith, l)

    pub rows_from : AllZip AreRowsAlike flow.rows fact.rows →
        ((q : ℕ) (row : Row I) → slice_get flow.rows q ≡ Some row → (i : ℕ) → i < length row.cells → (i < row_length) × AreValuesBelow below (cell_of flow (row_length * q + i)) (cell_of fact (row_length * q + i))) →
        AllZip (AreRowsBelow below) flow.rows fact.rows
    rows_from a each = zip_from (AreRowsBelow below) flow.rows fact.rows (length_all_zip AreRowsAlike flow.rows fact.rows a)
        (λ q l. row_from q (slice_get flow.rows q) (slice_get fact.rows q) refl refl (some_at AreRowsAlike flow.rows fact.rows a q) (each q))

  module _ (facts : Facts I) (k : ℕ) (flow fact : PointFact I) (e : fact_at facts k ≡ Some fact) where
    local_has : AllZip (IsBelowAbs below) flow.locals fact.locals → (r : ℕ) → Has below facts (need_local k (of_fact flow) r)
    local_has h r = subst (λ (o : Option (PointFact I)). AreValuesBelow below (local_of flow r) (option_and_then (λ x. local_of x r) o)) (sym e) (some_values (local_of flow r) (local_of fact r) (some_at (IsBelowAbs below) flow.locals fact.locals h r))

    cell_has : AllZip (AreRowsBelow below) flow.rows fact.rows → (j : ℕ) → Has below facts (need_cell k (of_fact flow) j)
    cell_has h j = subst (λ (o : Option (PointFact I)). AreValuesBelow below (cell_of flow j) (option_and_then (λ x. cell_of x j) o)) (sym e)
        (row_values (j % 16) (slice_get flow.rows (j / 16)) (slice_get fact.rows (j / 16)) (some_at (AreRowsBelow below) flow.rows fact.rows h (j / 16)))

    pair_has : list_all (is_same flow) fact.same ≡ true → (r j : ℕ) → has_pair flow r j ≡ false → Has below facts (Apart k r j, Mark true)
    pair_has h r j n t = subst (λ (o : Option (PointFact I)). apart_in o r j ≡ true) (sym e) (ap not (none_of (has_pair flow) fact.same (each_passes (is_same flow) fact.same h) r j n))

    flag_has : (flow.off ≡ true → fact.off ≡ true) → (flow.on ≡ true → fact.on ≡ true) → Has below facts (Flag k, Flags flow.off flow.on)
    flag_has off on = subst (λ (o : Option (PointFact I)). IsBelowPart below (Flags flow.off flow.on) (flags_in o)) (sym e) (off, on)

    pub point_has : (registers cells : ℕ) → IsPointBelow below flow fact → HasAll below (needs_at k registers cells (of_fact flow)) facts
    point_has registers cells h =
        All-from_recursion (Has below facts) (needs_at k registers cells (of_fact flow)) (
          flag_has h.off h.on,
          each_append (Has below facts) (map (need_local k (of_fact flow)) (numbers 0 registers)) (map (need_cell k (of_fact flow)) (numbers 0 cells) ++ flat_map (need_apart k (has_pair flow)) (each_pair registers cells))
              (all_numbers (Has below facts) (need_local k (of_fact flow)) (local_has h.locals) 0 registers)
              (each_append (Has below facts) (map (need_cell k (of_fact flow)) (numbers 0 cells)) (flat_map (need_apart k (has_pair flow)) (each_pair registers cells))
              (all_numbers (Has below facts) (need_cell k (of_fact flow)) (cell_has h.rows) 0 cells)
              (all_flat (Has below facts) (need_apart k (has_pair flow)) (each_pair registers cells) (λ q. apart_all facts k q.0 q.1 (has_pair flow q.0 q.1) (pair_has h.same q.0 q.1)))),
        )

    -- ---- and back

    local_of_has : (r : ℕ) → Has below facts (need_local k (of_fact flow) r) → AreSome (IsBelowAbs below) (slice_get flow.locals r) (slice_get fact.locals r)
    local_of_has r h = values_some (local_of flow r) (local_of fact r) (subst (λ (o : Option (PointFact I)). AreValuesBelow below (local_of flow r) (option_and_then (λ x. local_of x r) o)) e h)

    cell_of_has : (j : ℕ) → Has below facts (need_cell k (of_fact flow) j) → AreValuesBelow below (cell_of flow j) (cell_of fact j)
    cell_of_has j h = subst (λ (o : Option (PointFact I)). AreValuesBelow below (cell_of flow j) (option_and_then (λ x. cell_of x j) o)) e h

    same_from : (p : ℕ × ℕ) (i : ℕ) → slice_get fact.same i ≡ Some p → Each (Has below facts) (need_apart k (has_pair flow) p) → (b : Bool) → is_same flow p ≡ b → b ≡ true
    same_from p i at h true n = refl
    same_from p i at h false n =
        let apart : Has below facts (Apart k p.0 p.1, Mark true) = apart_of facts k p.0 p.1 (is_same flow p) h n in
        let none : not (has_pair fact p.0 p.1) ≡ true = subst (λ (o : Option (PointFact I)). apart_in o p.0 p.1 ≡ true) e (apart refl) in
        let one : has_pair fact p.0 p.1 ≡ true = any_passes_from_place (λ pair. nat_eq pair.0 p.0 && nat_eq pair.1 p.1) fact.same i p at (itself_true p.0 p.1) in
        absurd (true≢false (sym none ∙ ap not one))

    pub has_below : (registers cells : ℕ) → IsFactOf registers cells flow → IsFactOf registers cells fact → ArePointsAlike flow fact → HasAll below (needs_at k registers cells (of_fact flow)) facts → IsPointBelow below flow fact
    has_below registers cells of held alike h =
        let P : Slot × Part I → Type 0 = Has below facts in
        let needs : Each P (needs_at k registers cells (of_fact flow)) = each_of P (needs_at k registers cells (of_fact flow)) h in
        let A = map (need_local k (of_fact flow)) (numbers 0 registers) in
        let B = map (need_cell k (of_fact flow)) (numbers 0 cells) in
        let C = flat_map (need_apart k (has_pair flow)) (each_pair registers cells) in
        let t : Each P A × Each P (B ++ C) = all_split P A (B ++ C) needs.1 in
        let u : Each P B × Each P C = all_split P B C t.1 in
        let flag : IsBelowPart below (Flags flow.off flow.on) (flags_in (Some fact)) = subst (λ (o : Option (PointFact I)). IsBelowPart below (Flags flow.off flow.on) (flags_in o)) e needs.0 in
        let local : (r : ℕ) → r < registers → AreSome (IsBelowAbs below) (slice_get flow.locals r) (slice_get fact.locals r) = λ r l. local_of_has r (number_of P (need_local k (of_fact flow)) 0 registers t.0 r (omega arith) (omega (arith, l))) in
        let cell : (j : ℕ) → j < cells → AreValuesBelow below (cell_of flow j) (cell_of fact j) = λ j l. cell_of_has j (number_of P (need_cell k (of_fact flow)) 0 cells u.0 j (omega arith) (omega (arith, l))) in
        let pairs : Each (λ q. Each (Has below facts) (need_apart k (has_pair flow) q)) (each_pair registers cells) = flat_all P (need_apart k (has_pair flow)) (each_pair registers cells) u.1 in
        record {
          off = flag.0;
          on = flag.1;
          locals = zip_from (IsBelowAbs below) flow.locals fact.locals (length_all_zip AreOfOneKind flow.locals fact.locals alike.locals) (λ r l. local r (subst (λ n. r < n) of.each l));
          rows = rows_from flow fact alike.rows (λ q row e i l. let b = of.within q i row e l in (b.0, cell (row_length * q + i) b.1));
          same = passes_each (is_same flow) fact.same (all_at (λ p. is_same flow p ≡ true) fact.same (λ i p at.
              let range = at_all (λ p. (p.0 < registers) × (p.1 < cells)) fact.same (each_of (λ p. (p.0 < registers) × (p.1 < cells)) fact.same held.between) i p at in
              same_from p i at (of_pair (λ q. Each (Has below facts) (need_apart k (has_pair flow) q)) registers cells pairs p.0 p.1 range.0 range.1) (is_same flow p) refl));
        }

  -- a point that is not reached has no flag
  pub not_reached : (facts : Facts I) (k registers cells : ℕ) (flow : PointFact I) → fact_at facts k ≡ None → (flow.off ≡ true) ⊎ (flow.on ≡ true) → HasAll below (needs_at k registers cells (of_fact flow)) facts → ⊥
  not_reached facts k registers cells flow e flag h =
      let none : IsBelowPart below (Flags flow.off flow.on) (Flags false false) = subst (λ (o : Option (PointFact I)). IsBelowPart below (Flags flow.off flow.on) (flags_in o)) e (All-head (Has below facts) (Flag k, Flags flow.off flow.on) _ h) in
      elim flag [ inl off ↦ true≢false (sym (none.0 off)) | inr on ↦ true≢false (sym (none.1 on)) ]
