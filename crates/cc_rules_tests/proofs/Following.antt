-- Numbers that follow one another in a list, and sets with a value that is not among labels.
use Rattle.std.proofs.Common.{arith, ◌≡◌, ◌⊎◌, ◌<◌, ◌≤◌, ◌+◌, ◌-◌, ℕ, zero, suc, ℤ, pos, to_z, of_z, FitsSigned, ◌+ℤ◌, ◌≤ℤ◌, ◌<ℤ◌, true, List, [], ◌∷◌, length, take, get_or, inl, inr, ⊎_elim, refl, sym, subst, ◌∙◌}
use Rattle.std.specs.List.{Contains}
use Rattle.std.specs.Int.{w128}
use borrow.Author.Differences.{up, down, sum_is_lem, le_out, lt_out, at_most_in, le-true}
use lib.Signed.{le_z}
use Rattle.std.proofs.lemmas.Int.{by_lt_z, ints}
use Rattle.cc_rules_flows.specs.CcLattice.Domains.{IsInReach, IsIntValue}
use Rattle.cc_rules_flows.specs.CcPlaces.laws.ListLaws.{all_taken, item_in, none_in, taken_cases}
use Rattle.cc_rules_tests.specs.Passing.{IsBehind, IsNext, HasOtherBetween}

-- ---- numbers as the code has them

pub next_same : (v : ℤ) → IsNext v → to_z w128 (of_z w128 v) ≡ v
next_same v h = let l = h.least in let m = h.most in omega (arith, ints)

pub int_same : (v : ℤ) → IsIntValue v → to_z w128 (of_z w128 v) ≡ v
int_same v h = let l = h.least in let m = h.most in omega (arith, ints)

pub next_fits : (v : ℤ) → IsNext v → FitsSigned w128 (v +ℤ pos 1)
next_fits v h = let l = h.least in let m = h.most in omega (arith, ints)

pub one_on : (v : ℤ) → IsNext (v +ℤ pos 1) → to_z w128 (of_z w128 (v +ℤ pos 1)) ≡ v +ℤ pos 1
one_on v h = next_same (v +ℤ pos 1) h

same_item : {A : Type 0} (xs : List A) (i : ℕ) (a b : A) → i < length xs → get_or xs i a ≡ get_or xs i b
same_item [] i a b h = absurd (omega (arith, h))
same_item (x ∷ xs) zero a b h = refl
same_item (x ∷ xs) (suc i) a b h = same_item xs i a b (omega (arith, h))

pub itself_at : {A : Type 0} (xs : List A) (i : ℕ) (a : A) → i < length xs → get_or xs i a ≡ get_or xs i (get_or xs i a)
itself_at xs i a h = same_item xs i a (get_or xs i a) h

either_order : (v next : ℤ) → (v <ℤ next) ⊎ (next ≤ℤ v)
either_order v next = by_lt_z v next (λ h. inl h) (λ h. inr h)

or_there : (v next : ℤ) → v <ℤ (next +ℤ pos 1) → next ≤ℤ v → v ≡ next
or_there v next g k = omega (arith, ints, g, k)

below : (v next high : ℤ) → v ≤ℤ high → (next ≤ℤ high → ⊥) → (v <ℤ next) ⊎ (next ≤ℤ v) → v <ℤ next
below v next high b l (inl k) = k
below v next high b l (inr k) = absurd (l (omega (arith, ints, b, k)))

-- how far a number is above another one
abbrev pub how_far : ℤ → ℤ → ℕ
how_far a b = (up b + down a) - (up a + down b)

pub falls : (next end high : ℤ) → next ≤ℤ high → next <ℤ end → how_far end (high +ℤ pos 1) < how_far next (high +ℤ pos 1)
falls next end high h k = omega (arith, le_out next high h, lt_out next end k, sum_is_lem high (pos 1))

pub reach_same : (v : ℤ) → IsInReach v → to_z w128 (of_z w128 v) ≡ v
reach_same v h = let l = h.least in let m = h.most in omega (arith, ints)

pub at_most : (a b : ℤ) → le_z a b ≡ true → a ≤ℤ b
at_most a b h = at_most_in a b (le-true a b h)

pub apart : (next end : ℤ) → next ≤ℤ end → (end ≡ next → ⊥) → next <ℤ end
apart next end h k = by_lt_z next end (λ l. l) (λ l. absurd (k (omega (arith, ints, h, l))))

-- what has been read of a list
pub record IsBehindSoFar (first : ℤ) (numbers : List ℤ) (i : ℕ) (next : ℤ) : Type 0 where
  pub here : IsNext next
  pub above : first ≤ℤ next
  pub all : (v : ℤ) → first ≤ℤ v → v <ℤ next → Contains numbers v
  pub none : next ≡ first → Contains (take i numbers) first → ⊥

-- all numbers from the low end on and before the next one are in a list
pub record IsPassed (low : ℤ) (others : List ℤ) (next : ℤ) : Type 0 where
  pub here : IsNext next
  pub above : low ≤ℤ next
  pub all : (v : ℤ) → low ≤ℤ v → v <ℤ next → Contains others v

pub none_read : (first : ℤ) (numbers : List ℤ) → IsNext first → IsBehindSoFar first numbers 0 first
none_read first numbers h = record { here = h; above = omega (arith, ints); all = λ v a b. absurd (omega (arith, ints, a, b)); none = λ e k. none_in first k }

pub read_next : (first : ℤ) (numbers : List ℤ) (i : ℕ) (n next : ℤ) → ((m : ℤ) → Contains numbers m → IsIntValue m) → i < length numbers → n ≡ get_or numbers i n → n ≡ next →
    IsBehindSoFar first numbers i next → IsBehindSoFar first numbers (i + 1) (next +ℤ pos 1)
read_next first numbers i n next values l e same h =
    let w = values n (item_in numbers i n l e) in
    let m = w.most in
    let a = h.above in
    let b = h.here.least in
    record {
      here = record { least = omega (arith, ints, b); most = omega (arith, ints, m, same) };
      above = omega (arith, ints, a);
      all = λ v f g. ⊎_elim (λ k. h.all v f k) (λ k. subst (λ z. Contains numbers z) (same ∙ sym (or_there v next g k)) (item_in numbers i n l e)) (either_order v next);
      none = λ k. absurd (omega (arith, ints, a, k));
    }

pub read_other : (first : ℤ) (numbers : List ℤ) (i : ℕ) (n next : ℤ) → i < length numbers → n ≡ get_or numbers i n → (n ≡ next → ⊥) → IsBehindSoFar first numbers i next → IsBehindSoFar first numbers (i + 1) next
read_other first numbers i n next l e other h = record {
  here = h.here;
  above = h.above;
  all = h.all;
  none = λ k c. ⊎_elim (λ a. h.none k a) (λ a. other (a ∙ sym k)) (taken_cases numbers i n first l e c);
}

pub all_read : (first : ℤ) (numbers : List ℤ) (i : ℕ) (next : ℤ) → length numbers ≤ i → IsBehindSoFar first numbers i next → IsBehind first numbers next
all_read first numbers i next l h = record { above = h.above; all = h.all; none = λ k c. h.none k (subst (λ xs. Contains xs first) (sym (all_taken numbers i l)) c) }

pub none_passed : (low : ℤ) (others : List ℤ) → IsNext low → IsPassed low others low
none_passed low others h = record { here = h; above = omega (arith, ints); all = λ v a b. absurd (omega (arith, ints, a, b)) }

pub passed_on : (low : ℤ) (others : List ℤ) (next end : ℤ) → IsNext end → IsBehind next others end → IsPassed low others next → IsPassed low others end
passed_on low others next end e b h =
    let a = h.above in
    let c = b.above in
    record { here = e; above = omega (arith, ints, a, c); all = λ v f g. ⊎_elim (λ k. h.all v f k) (λ k. b.all v k g) (either_order v next) }

pub one_left : (low high : ℤ) (others : List ℤ) (next end : ℤ) → end ≡ next → next ≤ℤ high → IsBehind next others end → IsPassed low others next → HasOtherBetween low high others
one_left low high others next end e l b h = (next, (h.above, l), b.none e)

pub none_left : (low high : ℤ) (others : List ℤ) (next : ℤ) → (next ≤ℤ high → ⊥) → IsPassed low others next → HasOtherBetween low high others → ⊥
none_left low high others next l h (v, (a, b), c) = c (h.all v a (below v next high b l (either_order v next)))

pub item_value : (numbers : List ℤ) (i : ℕ) (n : ℤ) → ((m : ℤ) → Contains numbers m → IsIntValue m) → i < length numbers → n ≡ get_or numbers i n → IsIntValue n
item_value numbers i n values l e = values n (item_in numbers i n l e)
