-- What is asked of keys, one after the other, and as the constraint on first values has it.
use Rattle.std.proofs.Common.{arith, ◌≡◌, ◌+◌, ℕ, suc, List, [], ◌∷◌, ◌++◌, length, Some, slice_get, refl, ap, sym, ◌∙◌}
use Rattle.std.specs.List.{AllByRecursion}
use Rattle.std.proofs.lemmas.List.Elements.{All-from_recursion}
use Rattle.std.proofs.lemmas.Option.{slice_get_within}
use Rattle.cc_rules_asked.specs.CcPlaces.declared.abs.Abs.{Abs}
use Rattle.cc_program.specs.declared.program.Program.{Program}
use Rattle.cc_program.specs.declared.value.Value.{Value}
use Rattle.cc_rules_asked.specs.CcRules.Rules.{IsFirstValue, IsFirstSet, AreFirstSets}
use Rattle.cc_rules_asked.specs.declared.asked.Asked.{Asked}
use Rattle.cc_rules_asked.specs.declared.asked.Asked.TheVariants as asked
use Rattle.cc_rules_asked.specs.Asked.{all_needs}
use Rattle.cc_rules_firsts.specs.Firsts.{IsFirstIn, AreLeastOf, asked_of_sets}
use Rattle.cc_rules_grow.proofs.Elements.{some_within}
use Rattle.cc_rules_layout.specs.Raisable.{IsRaisable, AreRaisable}
use Rattle.cc_rules_asked.specs.CcRulesNeeds.declared.needs.Part.TheVariants.{Values}
use Rattle.cc_rules_asked.specs.CcRulesNeeds.declared.needs.Slot.TheVariants.{Whole}
use Rattle.cc_rules_asked.specs.CcStateFacts.declared.facts.Facts.{Facts}
use Rattle.cc_rules_asked.specs.CcStateFacts.declared.facts.Key.{Key}
use Rattle.cc_rules_asked.specs.CcStateKeys.Keys.{keys_of}
use Rattle.cc_rules_asked.specs.CcStateOperators.Domains.{Domain}

-- ---- set by set

module _ {I : Type 0} where
  pub so_many : (n : ℕ) (sets : List (Abs I)) → length (asked_of_sets n sets) ≡ length sets
  so_many n [] = refl
  so_many n (y ∷ sets) = ap suc (so_many (suc n) sets)

  pub one_more : (n m : ℕ) (sets : List (Abs I)) (y : Abs I) → m ≡ n + length sets → asked_of_sets n sets ++ asked.Part (Whole m) (Values (Some y)) ∷ [] ≡ asked_of_sets n (sets ++ y ∷ [])
  one_more n m [] y e = let same : m ≡ n = omega (arith, e) in ap (λ (k : ℕ). asked.Part (Whole k) (Values (Some y)) ∷ []) same
  one_more n m (x ∷ sets) y e = ap (λ (l : List (Asked I)). asked.Part (Whole n) (Values (Some x)) ∷ l) (one_more (suc n) m sets y (omega (arith, e)))

-- ---- as the constraint has it

module _ {I : Type 0} (d : Domain I) (p : Program) (facts : Facts I) where
  first_from : (n : ℕ) (all : List Key) (sets : List (Abs I)) → length sets ≡ length all → ((m q : ℕ) (k : Key) (y : Abs I) → q ≡ n + m → slice_get all m ≡ Some k → slice_get sets m ≡ Some y → IsFirstSet d p facts q k y) →
      AreFirstSets d p facts n all (all_needs p (asked_of_sets n sets))
  first_from n [] [] e each = refl
  first_from n [] (y ∷ sets) e each = absurd (omega (arith, e))
  first_from n (k ∷ all) [] e each = absurd (omega (arith, e))
  first_from n (k ∷ all) (y ∷ sets) e each =
      (y, all_needs p (asked_of_sets (suc n) sets), each 0 n k y (omega arith) refl refl, first_from (suc n) all sets (omega (arith, e)) (λ m q h z is at there. each (suc m) q h z (omega (arith, is)) at there), refl)

  module _ (keys : List (List Key)) (values : List (List Value)) (from : (k : Key) (v : Value) → IsFirstValue d p facts k v → IsFirstIn keys values k v) (into : (k : Key) (v : Value) → IsFirstIn keys values k v → IsFirstValue d p facts k v) (count : length facts.whole ≡ length (keys_of p)) (sets : List (Abs I)) (are : AreLeastOf (keys_of p) d.has d.below facts.whole (IsFirstIn keys values) sets) where
    first_set : (m q : ℕ) (k : Key) (y : Abs I) → q ≡ 0 + m → slice_get (keys_of p) m ≡ Some k → slice_get sets m ≡ Some y → IsFirstSet d p facts q k y
    first_set m q k y is at to =
        let same : m ≡ q = omega (arith, is) in
        let (kind, there) = some_within facts.whole m (let l = slice_get_within sets m y to in let c = are.count in omega (arith, l, c)) in
        let least = are.each m k kind y at there to in
        record {
          set = kind;
          there = ap (slice_get facts.whole) (sym same) ∙ there;
          alike = least.alike;
          has = λ v h. least.has_all v (from k v h);
          least = λ u l f. least.least u l (λ v h. f v (into k v h));
        }

    pub first_sets : AreFirstSets d p facts 0 (keys_of p) (all_needs p (asked_of_sets 0 sets))
    first_sets = first_from 0 (keys_of p) sets (are.count ∙ count) first_set

  -- parts of keys alone can always be asked
  parts_raisable : (n : ℕ) (sets : List (Abs I)) → AllByRecursion (IsRaisable d p facts) (asked_of_sets n sets)
  parts_raisable n [] = tt
  parts_raisable n (y ∷ sets) = (tt, parts_raisable (suc n) sets)

  pub raisable : (n : ℕ) (sets : List (Abs I)) → AreRaisable d p facts (asked_of_sets n sets)
  raisable n sets = All-from_recursion (IsRaisable d p facts) (asked_of_sets n sets) (parts_raisable n sets)
