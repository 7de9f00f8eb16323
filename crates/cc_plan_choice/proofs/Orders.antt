-- Numbers in order: a binary search finds a number, or it is not among them.
use Rattle.std.proofs.Common.{◌≡◌, ◌∙◌, ◌==◌, ◌||◌, ℕ, suc, ◌+◌, ◌<◌, ◌≤◌, Bool, false, List, [], ◌∷◌, length, get_or, Ok, Err, Some, Result, IsSorted, refl, ap, sym, arith, ⊎_elim}
use Rattle.std.specs.List.Sorted.{IsBinarySearchResult}
use Rattle.std.specs.Ordering.{nat_cmp, is_lt}
use Rattle.std.specs.Result.{is_ok}
use Rattle.std.proofs.lemmas.Bool.{cases_lt}
use Rattle.std.proofs.lemmas.Bool.Decides.{nat_tests}
use Rattle.std.proofs.lemmas.List.{get_or-map, length-map}
use Rattle.std.proofs.lemmas.List.Sorted.{searched, IsNonDecreasingBy-from_sort}
use Rattle.std.proofs.lemmas.Option.{slice_get-get_or}
use Rattle.cc_bins.specs.declared.types.Field.{Field}
use Rattle.cc_plan_legal.specs.Legality.{is_among}
use Rattle.cc_plan_legal.specs.Plans.{slots_of}
use Rattle.cc_plan_legal.proofs.IndexLemmas.{among_at}

other : (a b : ℕ) → (a ≡ b → ⊥) → (a == b) ≡ false
other a b h = ⊎_elim (λ (l : a < b). below a b l) (λ (l : b ≤ a). ⊎_elim (λ (m : b < a). above a b m) (λ (m : a ≤ b). absurd (h (omega (arith, l, m)))) (cases_lt b a)) (cases_lt a b)
  where
    below : (a b : ℕ) → a < b → (a == b) ≡ false
    below a b l = grind (arith, nat_tests)

    above : (a b : ℕ) → b < a → (a == b) ≡ false
    above a b l = grind (arith, nat_tests)

none : (xs : List ℕ) (v : ℕ) → ((k : ℕ) → k < length xs → get_or xs k 0 ≡ v → ⊥) → is_among xs v ≡ false
none [] v h = refl
none (x ∷ xs) v h = ap (λ (b : Bool). b || is_among xs v) (other x v (λ e. h 0 (omega arith) e)) ∙ none xs v (λ k l e. h (suc k) (omega (arith, l)) e)

rises : (xs : List ℕ) → IsSorted nat_cmp xs → (i j : ℕ) → i ≤ j → j < length xs → get_or xs i 0 ≤ get_or xs j 0
rises xs s i j l m = IsNonDecreasingBy-from_sort (λ (n : ℕ). n) xs s i j 0 l m

pub found : (xs : List ℕ) (v : ℕ) (r : Result ℕ ℕ) → IsSorted nat_cmp xs → IsBinarySearchResult (λ y. nat_cmp y v) xs r → is_ok r ≡ is_among xs v
found xs v (Ok i) s p =
    let q = searched xs v (Ok i) p (rises xs s) in
    sym (among_at xs v i (slice_get-get_or xs i 0 q.0 ∙ ap Some q.1))
found xs v (Err i) s p =
    let q = searched xs v (Err i) p (rises xs s) in
    sym (none xs v (λ k l e. ⊎_elim
    (λ (m : k < i). let n = q.1 k m in absurd (omega (arith, n, e)))
    (λ (m : i ≤ k). let n = q.2 k m l in absurd (omega (arith, n, e)))
    (cases_lt k i)))

-- the slots of fields in order are in order
pub slots_sorted : (fields : List Field) → IsSorted (λ (x y : Field). nat_cmp x.slot y.slot) fields → IsSorted nat_cmp (slots_of fields)
slots_sorted fields h = λ k d z l.
    let no_field : Field = record { slot = 0; word = 0; shift = 0 } in
    let n : length (slots_of fields) ≡ length fields = length-map fields (λ (f : Field). f.slot) in
    let a = get_or-map (λ (f : Field). f.slot) fields (k + 1) no_field d (omega (arith, l, n)) in
    let b = get_or-map (λ (f : Field). f.slot) fields k no_field d (omega (arith, l, n)) in
    ap (λ (m : ℕ). is_lt (nat_cmp m (get_or (slots_of fields) k d))) a ∙ ap (λ (m : ℕ). is_lt (nat_cmp (get_or fields (k + 1) no_field).slot m)) b ∙ h k no_field z (omega (arith, l, n))
