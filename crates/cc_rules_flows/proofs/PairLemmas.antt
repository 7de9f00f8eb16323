-- A pair that is put between those that come before and behind it.
use Rattle.std.proofs.Common.{arith, ◌≡◌, ◌==◌, ℕ, Bool, true, false, true≢false, ◌&&◌, ◌||◌, nat_eq, nat_lt, List, [], ◌∷◌, ◌++◌, Option, Some, slice_get, ◌/◌, ◌%◌, option_and_then, refl, ap, sym, append_assoc, ◌∙◌}
use Rattle.std.specs.List.{filter, list_any}
use Rattle.std.proofs.lemmas.Map.Views.{any-filter_same}
use Rattle.cc_rules_flows.proofs.KnownLemmas.{agree}
use Rattle.cc_rules_flows.specs.Known.{Tells, comes_before, with_between}
use Rattle.cc_rules_needs.specs.Flowing.{Flowing, with_pair}
use Rattle.cc_state_reads.specs.CcPlaces.declared.abs.Abs.{Abs}
use Rattle.cc_state_reads.specs.CcStateFacts.declared.facts.PointFact.{PointFact}
use Rattle.cc_state_reads.specs.CcStateFacts.declared.facts.Row.{Row}
use Rattle.cc_state_reads.specs.CcStateFacts.Facts.{row_length}

abbrev is_in : List (ℕ × ℕ) → ℕ → ℕ → Bool
is_in pairs q j = list_any (λ pair. nat_eq pair.0 q && nat_eq pair.1 j) pairs

or_same : (a b c : Bool) → ((a || b) || c) ≡ (a || (b || c))
or_same true b c = refl
or_same false b c = refl

any_both : {A : Type 0} (p : A → Bool) (xs ys : List A) → list_any p (xs ++ ys) ≡ (list_any p xs || list_any p ys)
any_both p [] ys = refl
any_both p (x ∷ xs) ys = ap (λ b. p x || b) (any_both p xs ys) ∙ sym (or_same (p x) (list_any p xs) (list_any p ys))

or_pairs : (b c s x : Bool) → (b || (s || c)) ≡ true → ((b && x) || (s || (c && x))) ≡ (s || x)
or_pairs true true true true h = refl
or_pairs true true true false h = refl
or_pairs true true false true h = refl
or_pairs true true false false h = refl
or_pairs true false true true h = refl
or_pairs true false true false h = refl
or_pairs true false false true h = refl
or_pairs true false false false h = refl
or_pairs false true true true h = refl
or_pairs false true true false h = refl
or_pairs false true false true h = refl
or_pairs false true false false h = refl
or_pairs false false true true h = refl
or_pairs false false true false h = refl
or_pairs false false false true h = absurd (true≢false (sym h))
or_pairs false false false false h = absurd (true≢false (sym h))

pair_is : (a b q j : ℕ) → (nat_eq a q && nat_eq b j) ≡ true → (a ≡ q) × (b ≡ j)
pair_is a b q j h = (grind arith, grind arith)

either_way : (a b q j : ℕ) → (comes_before (q, j) (a, b) || ((nat_eq a q && nat_eq b j) || comes_before (a, b) (q, j))) ≡ true
either_way a b q j = grind arith

turned : (a b q j : ℕ) → (nat_eq a q && nat_eq b j) ≡ (q == a && j == b)
turned a b q j = ap (λ x. x && nat_eq b j) (agree a q q a sym sym) ∙ ap (λ x. q == a && x) (agree b j j b sym sym)

before_is : (p k : ℕ × ℕ) (q j : ℕ) → (nat_eq k.0 q && nat_eq k.1 j) ≡ true → comes_before k p ≡ comes_before (q, j) p
before_is p k q j e = let t = pair_is k.0 k.1 q j e in ap (λ a. comes_before (a, k.1) p) t.0 ∙ ap (λ b. comes_before (q, b) p) t.1

behind_is : (p k : ℕ × ℕ) (q j : ℕ) → (nat_eq k.0 q && nat_eq k.1 j) ≡ true → comes_before p k ≡ comes_before p (q, j)
behind_is p k q j e = let t = pair_is k.0 k.1 q j e in ap (λ a. comes_before p (a, k.1)) t.0 ∙ ap (λ b. comes_before p (q, b)) t.1

between : (p : ℕ × ℕ) (pairs : List (ℕ × ℕ)) (q j : ℕ) → is_in (with_between p pairs) q j ≡ ((q == p.0 && j == p.1) || is_in pairs q j)
between p pairs q j =
    let test = λ (pair : ℕ × ℕ). nat_eq pair.0 q && nat_eq pair.1 j in
    let a = any-filter_same test (λ k. comes_before k p) (comes_before (q, j) p) (λ k e. before_is p k q j e) pairs in
    let b = any-filter_same test (comes_before p) (comes_before p (q, j)) (λ k e. behind_is p k q j e) pairs in
    any_both test (filter (λ k. comes_before k p) pairs) (p ∷ filter (comes_before p) pairs)
    ∙ ap (λ x. x || (test p || list_any test (filter (comes_before p) pairs))) a
    ∙ ap (λ x. (comes_before (q, j) p && is_in pairs q j) || (test p || x)) b
    ∙ or_pairs (comes_before (q, j) p) (comes_before p (q, j)) (test p) (is_in pairs q j) (either_way p.0 p.1 q j)
    ∙ ap (λ x. x || is_in pairs q j) (turned p.0 p.1 q j)

-- in the steps in which a list is made
pub put_between : (p : ℕ × ℕ) (pairs a b start front with_it all made : List (ℕ × ℕ)) → a ≡ pairs → b ≡ pairs → start ≡ [] → front ≡ start ++ filter (λ q. comes_before q p) a → with_it ≡ front ++ p ∷ [] → all ≡ with_it ++ filter (comes_before p) b →
    made ≡ all → made ≡ with_between p pairs
put_between p pairs a b start front with_it all made ea eb es ef ew el em =
    let f : front ≡ filter (λ q. comes_before q p) pairs = ef ∙ ap (λ xs. xs ++ filter (λ q. comes_before q p) a) es ∙ ap (filter (λ q. comes_before q p)) ea in
    em ∙ el ∙ ap (λ xs. xs ++ filter (comes_before p) b) (ew ∙ ap (λ xs. xs ++ p ∷ []) f) ∙ ap (λ xs. (filter (λ q. comes_before q p) pairs ++ p ∷ []) ++ filter (comes_before p) xs) eb
    ∙ append_assoc (filter (λ q. comes_before q p) pairs) (p ∷ []) (filter (comes_before p) pairs)

module _ {I : Type 0} where
  abbrev cells_in : List (Row I) → ℕ → Option (Abs I)
  cells_in rows j = option_and_then (λ (row : Row I). slice_get row.cells (j % row_length)) (slice_get rows (j / row_length))

  pub pair_told : (old new : PointFact I) (r cell : ℕ) → new.off ≡ old.off → new.on ≡ old.on → new.locals ≡ old.locals → new.rows ≡ old.rows → new.same ≡ with_between (r, cell) old.same →
      (flow : Flowing I) → Tells old flow → Tells new (with_pair r (Some cell) flow)
  pair_told old new r cell off on locals rows same flow t = record {
    off = off ∙ t.off;
    on = on ∙ t.on;
    locals = λ q. ap (λ xs. slice_get xs q) locals ∙ t.locals q;
    cells = λ j. ap (λ rows. cells_in rows j) rows ∙ t.cells j;
    pairs = λ q j. ap (λ ps. is_in ps q j) same ∙ between (r, cell) old.same q j ∙ ap (λ b. (q == r && j == cell) || b) (t.pairs q j);
  }
