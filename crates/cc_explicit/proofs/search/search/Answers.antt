-- A binary search of ascending numbers finds the number or its place.
use Rattle.std.proofs.Common.{◌≡◌, ◌∙◌, ℤ, ◌<ℤ◌, ℕ, zero, suc, ◌+◌, ◌<◌, ◌≤◌, false, List, [], ◌∷◌, length, get_or, Ok, Err, Some, Result, Ordering, sym, refl, subst, to_z-of_z, arith}
use Rattle.std.specs.List.{Contains, slice_get}
use Rattle.std.specs.List.Sorted.{IsBinarySearchResult, IsNonDecreasingBy, IsSortedBy}
use Rattle.std.specs.Ordering.{int_cmp, is_lt, ordering_index}
use Rattle.std.specs.declared.cmp.Ordering.TheVariants.{Less, Equal, Greater}
use Rattle.std.specs.Result.{MatchResult}
use Rattle.std.proofs.lemmas.Cmp.{int_ranked}
use Rattle.std.specs.Cmp.{int_cmp_total}
use Rattle.std.proofs.lemmas.Int.{ints}
use Rattle.std.proofs.lemmas.List.Sorted.{searchable_from_sorted}
use Rattle.cc_lattice.specs.Domains.{Ascends}
use Rattle.cc_explicit.specs.Sets.{IsPlace}
use Rattle.cc_explicit.proofs.search.search.Goals as goal

same : (y v : ℤ) → int_cmp y v ≡ Equal → y ≡ v
same y v e = int_ranked y v Equal (sym e)

less : (y v : ℤ) → int_cmp y v ≡ Less → y <ℤ v
less y v e = int_ranked y v Less (sym e)

greater : (y v : ℤ) → int_cmp y v ≡ Greater → v <ℤ y
greater y v e = int_ranked y v Greater (sym e)

both : (a b : ℤ) → a <ℤ b → b <ℤ a → ⊥
both a b h k = omega (arith, ints)

not_less : (a b : ℤ) (r : Ordering) → a <ℤ b → r ≡ int_cmp b a → is_lt r ≡ false
not_less a b Less h e = absurd (both a b h (less b a (sym e)))
not_less a b Equal h e = refl
not_less a b Greater h e = refl

got_at : (xs : List ℤ) (k : ℕ) (d : ℤ) → k < length xs → slice_get xs k ≡ Some (get_or xs k d)
got_at [] k d l = absurd (omega arith)
got_at (x ∷ xs) zero d l = refl
got_at (x ∷ xs) (suc k) d l = got_at xs k d (omega arith)

sorted : (xs : List ℤ) → Ascends xs → IsSortedBy (λ a b. is_lt (int_cmp a b)) xs
sorted xs h k d l m = not_less (get_or xs k d) (get_or xs (k + 1) d) (int_cmp (get_or xs (k + 1) d) (get_or xs k d))
    (h k (k + 1) (get_or xs k d) (get_or xs (k + 1) d) (omega arith) (got_at xs k d (omega arith)) (got_at xs (k + 1) d m)) refl

searchable : (xs : List ℤ) (v : ℤ) → Ascends xs → IsNonDecreasingBy (λ y. ordering_index (int_cmp y v)) xs
searchable xs v h = searchable_from_sorted int_cmp_total (λ (y : ℤ). y) xs v (sorted xs h)

placed : (xs : List ℤ) (u v : ℤ) (r : Result ℕ ℕ) → u ≡ v → Ascends xs → MatchResult r (λ i. i < length xs) (λ i. i ≤ length xs)
    → IsBinarySearchResult (λ y. int_cmp y u) xs r → MatchResult r (λ _. Contains xs v) (λ at. IsPlace xs at v)
placed xs u v (Ok i) s h b p = (i, b, same (get_or xs i v) u (p v) ∙ s)
placed xs u v (Err i) s h b p =
    let q = p (searchable xs u h) in
    subst (λ (z : ℤ). IsPlace xs i z) s
    (record { within = b; below = λ k d l. less (get_or xs k d) u (q.0 k d (omega arith) l); above = λ k d l m. greater (get_or xs k d) u (q.1 k d l m) })

pub returns : goal.returns
returns c = placed c.args.members.now _ c.args.v c.binary_search.result (to_z-of_z c.ranges.v) c.requires c.binary_search.ensures.bound c.binary_search.ensures.position
