-- A binary search of ascending numbers finds the number, or it is not among them.
use Rattle.std.proofs.Common.{◌≡◌, ◌∙◌, ◌==◌, ◌||◌, nat_le, ℕ, zero, suc, ◌+◌, ◌<◌, ◌≤◌, Bool, true, false, List, [], ◌∷◌, length, get_or, Ok, Err, Some, Result, slice_get, refl, ap, subst, arith, ⊎_elim}
use Rattle.std.specs.List.Sorted.{IsBinarySearchResult, IsNonDecreasingBy, IsSortedBy}
use Rattle.std.specs.Ordering.{nat_cmp, is_lt, ordering_index}
use Rattle.std.specs.declared.cmp.Ordering.TheVariants.{Less, Equal, Greater}
use Rattle.std.specs.Result.{MatchResult}
use Rattle.std.specs.Cmp.{nat_cmp_total}
use Rattle.std.proofs.lemmas.Bool.{and_parts, cases_lt}
use Rattle.std.proofs.lemmas.Bool.Decides.{nat_tests}
use Rattle.std.proofs.lemmas.List.Sorted.{searchable_from_sorted}
use Rattle.std.proofs.lemmas.Option.{slice_get-get_or}
use Rattle.cc_plan_legal.specs.Legality.{is_among}
use Rattle.cc_plan_legal.specs.Plans.{ascends_from}
use Rattle.cc_plan_legal.proofs.index.search.Goals as goal

same : (y v : ℕ) → nat_cmp y v ≡ Equal → y ≡ v
same y v e = grind (arith, nat_tests)

less : (y v : ℕ) → nat_cmp y v ≡ Less → y < v
less y v e = grind (arith, nat_tests)

greater : (y v : ℕ) → nat_cmp y v ≡ Greater → v < y
greater y v e = grind (arith, nat_tests)

not_less : (a b : ℕ) → a < b → is_lt (nat_cmp b a) ≡ false
not_less a b h = grind (arith, nat_tests)

next_le : (a b : ℕ) → nat_le (a + 1) b ≡ true → a < b
next_le a b h = grind (arith, nat_tests)

other : (a b : ℕ) → (a ≡ b → ⊥) → (a == b) ≡ false
other a b h = ⊎_elim (λ (l : a < b). below a b l) (λ (l : b ≤ a). ⊎_elim (λ (m : b < a). above a b m) (λ (m : a ≤ b). absurd (h (omega (arith, l, m)))) (cases_lt b a)) (cases_lt a b)
  where
    below : (a b : ℕ) → a < b → (a == b) ≡ false
    below a b l = grind (arith, nat_tests)

    above : (a b : ℕ) → b < a → (a == b) ≡ false
    above a b l = grind (arith, nat_tests)

increase : (n : ℕ) (xs : List ℕ) → ascends_from n xs ≡ true → (k d : ℕ) → k + 1 < length xs → get_or xs k d < get_or xs (k + 1) d
increase n [] h k d l = absurd (omega (arith, l))
increase n (x ∷ []) h k d l = absurd (omega (arith, l))
increase n (x ∷ y ∷ xs) h zero d l =
    let rest = (and_parts (nat_le n x) (ascends_from (x + 1) (y ∷ xs)) h).1 in
    next_le x y (and_parts (nat_le (x + 1) y) (ascends_from (y + 1) xs) rest).0
increase n (x ∷ y ∷ xs) h (suc k) d l =
    let e : suc (k + 1) ≡ suc k + 1 = omega arith in
    let rest = (and_parts (nat_le n x) (ascends_from (x + 1) (y ∷ xs)) h).1 in
    subst (λ (m : ℕ). get_or (y ∷ xs) k d < get_or (x ∷ y ∷ xs) m d) e (increase (x + 1) (y ∷ xs) rest k d (omega (arith, l)))

sorted : (xs : List ℕ) → ascends_from 0 xs ≡ true → IsSortedBy (λ a b. is_lt (nat_cmp a b)) xs
sorted xs h k d l m = not_less (get_or xs k d) (get_or xs (k + 1) d) (increase 0 xs h k d m)

searchable : (xs : List ℕ) (v : ℕ) → ascends_from 0 xs ≡ true → IsNonDecreasingBy (λ y. ordering_index (nat_cmp y v)) xs
searchable xs v h = searchable_from_sorted nat_cmp_total (λ (y : ℕ). y) xs v (sorted xs h)

none : (xs : List ℕ) (v : ℕ) → ((k : ℕ) → k < length xs → get_or xs k v ≡ v → ⊥) → is_among xs v ≡ false
none [] v h = refl
none (x ∷ xs) v h = ap (λ (b : Bool). b || is_among xs v) (other x v (λ e. h 0 (omega arith) e)) ∙ none xs v (λ k l e. h (suc k) (omega (arith, l)) e)

placed : (xs : List ℕ) (v : ℕ) (r : Result ℕ ℕ) → ascends_from 0 xs ≡ true → MatchResult r (λ i. i < length xs) (λ i. i ≤ length xs)
    → IsBinarySearchResult (λ y. nat_cmp y v) xs r → MatchResult r (λ place. slice_get xs place ≡ Some v) (λ _. is_among xs v ≡ false)
placed xs v (Ok i) h b p = slice_get-get_or xs i v b ∙ ap Some (same (get_or xs i v) v (p v))
placed xs v (Err i) h b p =
    let q = p (searchable xs v h) in
    none xs v (λ k l e. ⊎_elim
    (λ (m : k < i). let s = less (get_or xs k v) v (q.0 k v (omega arith) m) in absurd (omega (arith, s, e)))
    (λ (m : i ≤ k). let s = greater (get_or xs k v) v (q.1 k v m l) in absurd (omega (arith, s, e)))
    (cases_lt k i))

pub returns : goal.returns
returns c = placed c.args.slots.now c.args.slot c.binary_search.result c.requires c.binary_search.ensures.bound c.binary_search.ensures.position
