-- Cells of a row, and rows, one after the other.
use Rattle.std.proofs.Common.{arith, ◌≡◌, ◌⊎◌, ⊎_elim, ◌+◌, ◌*◌, ◌/◌, ◌<◌, ◌≤◌, ◌==◌, ◌&&◌, nat_eq, ℕ, Bool, true, false, true≢false, List, [], ◌∷◌, ◌++◌, length, take, get_or, Option, Some, None, slice_get, refl, ap, sym, subst, ◌∙◌}
use Rattle.std.specs.List.{list_any}
use Rattle.std.proofs.lemmas.Bool.Decides.{nat_tests}
use Rattle.std.proofs.lemmas.List.{length-append, length-take-le, take_more}
use Rattle.std.proofs.lemmas.Option.{get_or_from_slice_get, same_Some, slice_get_within}
use Rattle.cc_rules_flows.specs.CcPlaces.declared.abs.Abs.{Abs}
use Rattle.cc_rules_flows.specs.CcPlaces.laws.ListLaws.{all_taken, any_at, any_from, both_true}
use Rattle.cc_rules_sides.specs.Refined.{AreCellsLeft, AreRowsLeft, IsCellLeft, equal_from, has_pairs_in}
use Rattle.cc_rules_sides.proofs.CellLemmas.{none_equal}
use Rattle.cc_rules_sides.proofs.LocalLemmas.{IsBefore, pushed_cases}
use Rattle.cc_rules_tests.specs.declared.tested.Tested.{Tested}
use Rattle.cc_rules_flows.specs.CcStateFacts.declared.facts.PointFact.{PointFact}
use Rattle.cc_rules_flows.specs.CcStateFacts.declared.facts.Row.{Row}
use Rattle.cc_rules_flows.specs.CcStateFacts.Facts.{has_pair, row_length}
use Rattle.cc_rules_flows.specs.CcStateOperators.Domains.{Domain}

no_item : {A B : Type 0} (k : ℕ) (y : A) → slice_get {X = A} [] k ≡ Some y → B
no_item k y h = absurd (cc)

-- a fact of each element and what stands at its place in another list
record AreAt {A B : Type 0} (R : ℕ → A → B → Type 0) (xs : List A) (ys : List B) : Type 0 where
  pub each : length ys ≡ length xs
  pub all : (k : ℕ) (a : A) (b : B) → slice_get xs k ≡ Some a → slice_get ys k ≡ Some b → R k a b

module _ {A B : Type 0} (R : ℕ → A → B → Type 0) where
  none_at : AreAt R [] []
  none_at = record { each = refl; all = λ k a b h. no_item k a h }

  module _ (xs : List A) (ys : List B) (i : ℕ) (x : A) (y : B) (is : slice_get xs i ≡ Some x) (so_far : AreAt R (take i xs) ys) where
    here : i < length xs
    here = slice_get_within xs i x is

    long : length (take i xs) ≡ i
    long = let l = here in length-take-le i xs (omega (arith, l))

    taken : take (i + 1) xs ≡ take i xs ++ x ∷ []
    taken = take_more xs i x here ∙ ap (λ q. take i xs ++ q ∷ []) (get_or_from_slice_get xs i x x is)

    longer : length (ys ++ y ∷ []) ≡ length (take (i + 1) xs)
    longer =
        let e = so_far.each in
        let a : length (ys ++ y ∷ []) ≡ length ys + 1 = length-append ys (y ∷ []) in
        let b : length (take i xs ++ x ∷ []) ≡ length (take i xs) + 1 = length-append (take i xs) (x ∷ []) in
        a ∙ (ap (λ n. n + 1) e ∙ (sym b ∙ ap length (sym taken)))

    one_at : R i x y → AreAt R (take (i + 1) xs) (ys ++ y ∷ [])
    one_at r = record {
      each = longer;
      all = λ k a b h j. ⊎_elim
          (λ old. ⊎_elim
          (λ there. so_far.all k a b old.there there.there)
          (λ there. absurd (let l = old.within in let e = so_far.each in let n = there.0 in omega (arith, l, e, n)))
          (pushed_cases ys y k b j))
          (λ new. ⊎_elim
          (λ there. absurd (let l = there.within in let e = so_far.each in let n = new.0 in omega (arith, l, e, n)))
          (λ there. subst (λ z. R k a z) there.1 (subst (λ z. R k z y) new.1 (subst (λ n. R n x y) (sym (new.0 ∙ long)) r)))
          (pushed_cases ys y k b j))
          (pushed_cases (take i xs) x k a (subst (λ zs. slice_get zs k ≡ Some a) taken h));
    }

-- a row of which no cell is in a pair
in_row : (cell row at : ℕ) → at < row_length → cell ≡ row_length * row + at → (cell / row_length == row) ≡ true
in_row cell row at l e = let h : cell / row_length ≡ row = omega (arith, l, e) in subst (λ n. (n == row) ≡ true) (sym h) (itself row)
  where
    itself : (n : ℕ) → (n == n) ≡ true
    itself n = grind (arith, nat_tests)

is_cell : (n cell : ℕ) → nat_eq n cell ≡ true → n ≡ cell
is_cell n cell h = grind (arith, nat_tests)

abbrev pub is_of : ℕ → ℕ → ℕ × ℕ → Bool
is_of m cell pair = nat_eq pair.0 m && nat_eq pair.1 cell

pub none_in_row : (pairs : List (ℕ × ℕ)) (row at m : ℕ) → at < row_length → has_pairs_in pairs row ≡ false → list_any (is_of m (row_length * row + at)) pairs ≡ false
none_in_row pairs row at m l h = by_test (list_any (is_of m (row_length * row + at)) pairs) refl
  where
    by_test : (b : Bool) → list_any (is_of m (row_length * row + at)) pairs ≡ b → b ≡ false
    by_test false e = refl
    by_test true e =
        let w = any_at (is_of m (row_length * row + at)) pairs e in
        let both = both_true (nat_eq w.0.0 m) (nat_eq w.0.1 (row_length * row + at)) w.2 in
        let there : (w.0.1 / row_length == row) ≡ true = in_row w.0.1 row at l (is_cell w.0.1 (row_length * row + at) both.1) in
        absurd (true≢false (sym (any_from (λ (pair : ℕ × ℕ). pair.1 / row_length == row) pairs w.0 w.1 there) ∙ h))

module _ {I : Type 0} (d : Domain I) (t : Tested I) (fact : PointFact I) where
  module _ (row : ℕ) where
    abbrev CellAt : ℕ → Abs I → Abs I → Type 0
    CellAt at y z = IsCellLeft d t (equal_from fact (row_length * row + at) 0 t.context.now.registers.now) y z

    pub no_cells : AreCellsLeft d t fact row [] []
    no_cells = record { each = refl; cells = λ k a b h. no_item k a h }

    pub more_cells : (sets left : List (Abs I)) (i : ℕ) (y z : Abs I) → slice_get sets i ≡ Some y → AreCellsLeft d t fact row (take i sets) left → CellAt i y z → AreCellsLeft d t fact row (take (i + 1) sets) (left ++ z ∷ [])
    more_cells sets left i y z is h k = let w = one_at CellAt sets left i y z is (record { each = h.each; all = h.cells }) k in record { each = w.each; cells = w.all }

    pub all_cells : (sets left : List (Abs I)) (i : ℕ) → length sets ≤ i → AreCellsLeft d t fact row (take i sets) left → AreCellsLeft d t fact row sets left
    all_cells sets left i l h = subst (λ xs. AreCellsLeft d t fact row xs left) (all_taken sets i l) h

    -- the row as it is, where no register equals a cell
    pub same_cells : (sets left : List (Abs I)) → ((m at : ℕ) → at < length sets → has_pair fact m (row_length * row + at) ≡ false) → left ≡ sets → AreCellsLeft d t fact row sets left
    same_cells sets left none e = record {
      each = ap length e;
      cells = λ at y z h k.
          let same : z ≡ y = same_Some z y (sym k ∙ (ap (λ xs. slice_get xs at) e ∙ h)) in
          let l = slice_get_within sets at y h in
          subst (λ rs. IsCellLeft d t rs y z) (sym (none_equal fact (row_length * row + at) 0 t.context.now.registers.now (λ m. none m at l))) (record { left = same; worked = λ r before behind u m f. no_split r before behind f });
    }
      where
        no_split : {C : Type 0} (r : ℕ) (before behind : List ℕ) → [] ≡ before ++ r ∷ behind → C
        no_split r [] behind f = absurd (cc)
        no_split r (x ∷ xs) behind f = absurd (cc)

  pub no_rows : AreRowsLeft d t fact [] []
  no_rows = record { each = refl; cells = λ k a b h. no_item k a h }

  pub more_rows : (rows left : List (Row I)) (i : ℕ) (x z : Row I) → slice_get rows i ≡ Some x → AreRowsLeft d t fact (take i rows) left → AreCellsLeft d t fact i x.cells z.cells → AreRowsLeft d t fact (take (i + 1) rows) (left ++ z ∷ [])
  more_rows rows left i x z is h k =
      let w = one_at (λ n (a b : Row I). AreCellsLeft d t fact n a.cells b.cells) rows left i x z is (record { each = h.each; all = h.cells }) k in
      record { each = w.each; cells = w.all }

  pub all_rows : (rows left : List (Row I)) (i : ℕ) → length rows ≤ i → AreRowsLeft d t fact (take i rows) left → AreRowsLeft d t fact rows left
  all_rows rows left i l h = subst (λ xs. AreRowsLeft d t fact xs left) (all_taken rows i l) h
