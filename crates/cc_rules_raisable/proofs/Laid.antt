-- How facts at points are laid out that have the rows of a point of the shape of its function, or keep the shape of one.
use Rattle.std.proofs.Common.{arith, ◌≡◌, ◌<◌, ◌≤◌, ◌+◌, ◌/◌, ◌%◌, ℕ, zero, suc, List, [], ◌∷◌, AllPairs, Contains, length, length-append, Option, Some, None, slice_get, refl, ap, sym, subst, ◌∙◌}
use Rattle.std.specs.Prelude.{option_and_then}
use Rattle.std.specs.List.{AllZip, flat_map}
use Rattle.std.proofs.lemmas.List.Elements.{All-contains, All-from_recursion}
use Rattle.std.proofs.lemmas.List.Kept.{AllPairs-cons}
use Rattle.std.proofs.lemmas.Option.{none-some, same_Some, slice_get_within}
use Rattle.cc_rules_asked.specs.CcPlaces.declared.abs.Abs.{Abs}
use Rattle.cc_program.specs.declared.func.Func.{Func}
use Rattle.cc_program.specs.declared.program.Program.{Program}
use Rattle.cc_rules_asked.specs.CcRulesFlows.Kept.{AreAsLong, KeepsShape}
use Rattle.cc_rules_grow.proofs.Elements.{some_within}
use Rattle.cc_rules_layout.specs.Raisable.{IsLaidOutFor}
use Rattle.cc_rules_asked.specs.CcRulesNeeds.Points.{IsFactOf}
use Rattle.cc_rules_grow.proofs.CcState.Lists.{no_member}
use Rattle.cc_rules_grow.specs.CcState.Shape.{AreRows, IsBefore, IsPointFact}
use Rattle.cc_rules_asked.specs.CcStateFacts.declared.facts.PointFact.{PointFact}
use Rattle.cc_rules_asked.specs.CcStateFacts.declared.facts.Row.{Row}
use Rattle.cc_rules_asked.specs.CcStateFacts.Facts.{row_length, cell_of}
use Rattle.cc_rules_asked.specs.CcStateFacts.laws.Places.{zip_back}
use Rattle.cc_rules_asked.specs.CcStateFacts.Orders.{Ascend}
use Rattle.cc_rules_asked.specs.CcStateKeys.Tracked.{registers, tracked}
use Rattle.cc_rules_asked.specs.CcStateOperators.Domains.{Domain}
use Rattle.cc_state_shape.proofs.Alike.{ascends, fact_of}

then_there : {A B : Type 0} (f : A → Option B) (a : Option A) (w : B) → option_and_then f a ≡ Some w → (x : A) × (a ≡ Some x) × (f x ≡ Some w)
then_there f None w h = absurd (none-some w h)
then_there f (Some x) w h = (x, refl, h)

-- ---- rows that are as long

module _ {I : Type 0} where
  row_at : (xs ys : List (Row I)) → AllZip AreAsLong xs ys → (n : ℕ) (x : Row I) → slice_get xs n ≡ Some x → (y : Row I) × (slice_get ys n ≡ Some y) × AreAsLong x y
  row_at [] ys h n x e = absurd (none-some x e)
  row_at (x ∷ xs) [] h n z e = absurd h
  row_at (x ∷ xs) (y ∷ ys) h zero z e = (y, refl, subst (λ (q : Row I). AreAsLong q y) (same_Some x z e) h.0)
  row_at (x ∷ xs) (y ∷ ys) h (suc n) z e = row_at xs ys h.1 n z e

  abbrev all_cells : List (Row I) → List (Abs I)
  all_cells rows = flat_map (λ (row : Row I). row.cells) rows

  cells_long : (xs ys : List (Row I)) → AllZip AreAsLong xs ys → length (all_cells ys) ≡ length (all_cells xs)
  cells_long [] [] h = refl
  cells_long [] (y ∷ ys) h = absurd h
  cells_long (x ∷ xs) [] h = absurd h
  cells_long (x ∷ xs) (y ∷ ys) h =
      length-append y.cells (all_cells ys)
      ∙ (ap (λ (n : ℕ). n + length (all_cells ys)) (sym h.0) ∙ (ap (λ (n : ℕ). length x.cells + n) (cells_long xs ys h.1) ∙ sym (length-append x.cells (all_cells xs))))

  cell_long : (old new : PointFact I) → AllZip AreAsLong old.rows new.rows → (j : ℕ) (x : Abs I) → cell_of old j ≡ Some x → (y : Abs I) × (cell_of new j ≡ Some y)
  cell_long old new h j x e =
      let (row, at, there) = then_there (λ (row : Row I). slice_get row.cells (j % row_length)) (slice_get old.rows (j / row_length)) x e in
      let (made, at_made, long) = row_at old.rows new.rows h (j / row_length) row at in
      let (y, is) = some_within made.cells (j % row_length) (subst (λ (n : ℕ). j % row_length < n) long (slice_get_within row.cells (j % row_length) x there)) in
      (y, ap (option_and_then (λ (row : Row I). slice_get row.cells (j % row_length))) at_made ∙ is)

module _ {I : Type 0} (d : Domain I) (p : Program) where
  rows_long : (count : ℕ) (xs ys : List (Row I)) → AllZip AreAsLong xs ys → AreRows d p count xs → AreRows d p count ys
  rows_long count xs ys h (each, (some, full)) =
      let back : AllZip AreAsLong ys xs = zip_back AreAsLong AreAsLong (λ x y e. sym e) xs ys h in (
        cells_long xs ys h ∙ each,
        (
          λ n row e. (let (x, at, long) = row_at ys xs back n row e in subst (λ (c : ℕ). 0 < c) (sym long) (some n x at)),
          λ n row next e g.
              (let (x, at, long) = row_at ys xs back n row e in
              let (x', at', long') = row_at ys xs back (n + 1) next g in
              long ∙ full n x x' at at'),
        ),
      )

  pairs_ascend : (pairs : List (ℕ × ℕ)) → Ascend pairs → AllPairs (IsBefore d p) pairs
  pairs_ascend [] h = λ i j e k l. absurd (omega (arith, l))
  pairs_ascend (a ∷ pairs) h = AllPairs-cons (IsBefore d p) a pairs (All-from_recursion (IsBefore d p a) pairs h.0) (pairs_ascend pairs h.1)

  -- ---- with the rows of a point of some function

  pub laid_as : (f g : Func) (fact flow : PointFact I) → IsPointFact d p g fact → length flow.locals ≤ length (registers f) → flow.rows ≡ fact.rows → flow.same ≡ [] → IsLaidOutFor d p f flow
  laid_as f g fact flow h few same none = record {
    few_locals = few;
    rows = subst (AreRows d p (length (tracked p))) (sym same) h.rows;
    cells = λ j l. (let v = h.cells.there j l in (v.1, ap (λ (rows : List (Row I)). option_and_then (λ (row : Row I). slice_get row.cells (j % row_length)) (slice_get rows (j / row_length))) same ∙ v.2.1));
    pairs_in_range = λ pair c. no_member pair (subst (λ (pairs : List (ℕ × ℕ)). Contains pairs pair) none c);
    pairs_ascend = subst (AllPairs (IsBefore d p)) (sym none) (pairs_ascend [] tt);
  }

  -- ---- of the shape of a point of the function

  pub laid_alike : (f : Func) (fact flow : PointFact I) → IsPointFact d p f fact → KeepsShape (length (registers f)) (length (tracked p)) fact flow → IsLaidOutFor d p f flow
  laid_alike f fact flow h k =
      let of : IsFactOf (length (registers f)) (length (tracked p)) flow = k.of (fact_of d p f fact h) in
      let each = of.each in
      record {
        few_locals = omega (arith, each);
        rows = rows_long (length (tracked p)) fact.rows flow.rows k.large.rows h.rows;
        cells = λ j l. (let v = h.cells.there j l in cell_long fact flow k.large.rows j v.1 v.2.1);
        pairs_in_range = λ pair c. All-contains (λ (pair : ℕ × ℕ). (pair.0 < length (registers f)) × (pair.1 < length (tracked p))) flow.same pair of.between c;
        pairs_ascend = pairs_ascend flow.same (k.orderly (ascends d p fact.same h.pairs_ascend));
      }
