-- Sets of integers by their ends.
use Rattle.std.proofs.Common.{arith, ◌≡◌, ◌↔◌, ℤ, ◌≤ℤ◌, to_z, of_z, Bool, true, false, IsTrue, ap, sym, ◌∙◌}
use Rattle.std.specs.Int.{w128}
use Rattle.std.proofs.lemmas.Int.{ints}
use Rattle.cc_state_reads.specs.CcLattice.Domains.{AreEnds, IsInReach}
use Rattle.cc_program.specs.CcNum.declared.int_type.IntType.{IntType}
use Rattle.cc_program.specs.CcNum.declared.target.Target.{Target}
use Rattle.cc_program.specs.CcNum.Integers.{is_value_of}
use Rattle.cc_program.proofs.CcNum.ResultLaws.{is_value_from, value_from_test}

reach_same : (v : ℤ) → IsInReach v → to_z w128 (of_z w128 v) ≡ v
reach_same v h = let l = h.least in let m = h.most in omega (arith, ints)

between : (t : IntType) (target : Target) (low high v : ℤ) → is_value_of t target low ≡ true → is_value_of t target high ≡ true → low ≤ℤ v → v ≤ℤ high → is_value_of t target v ≡ true
between t target low high v h k l m =
    let a = (value_from_test t target low h).least in
    let b = (value_from_test t target high k).most in
    is_value_from t target v (record { least = omega (arith, ints, a, l); most = omega (arith, ints, b, m) })

module _ (has : ℤ → Type 0) (t : IntType) (target : Target) (low high : ℤ) (ends : AreEnds has (low, high)) (l : IsInReach low) (h : IsInReach high) where
  abbrev AreValues : Type 0
  AreValues = (n : ℤ) → has n → is_value_of t target n ≡ true

  pub both_ends : (a b : Bool) → a ≡ is_value_of t target (to_z w128 (of_z w128 low)) → b ≡ is_value_of t target (to_z w128 (of_z w128 high)) → a ≡ true → (IsTrue b ↔ AreValues)
  both_ends a b first second is = (
    (λ k n m. between t target low high n (sym (first ∙ ap (is_value_of t target) (reach_same low l)) ∙ is) (sym (second ∙ ap (is_value_of t target) (reach_same high h)) ∙ k) (ends.low n m) (ends.high n m)),
    (λ k. second ∙ ap (is_value_of t target) (reach_same high h) ∙ k high ends.high_in),
  )

  pub first_end : (a : Bool) → a ≡ is_value_of t target (to_z w128 (of_z w128 low)) → a ≡ false → (IsTrue a ↔ AreValues)
  first_end a first is = (
    (λ k. let e : a ≡ true = k in absurd (cc)),
    (λ k. first ∙ ap (is_value_of t target) (reach_same low l) ∙ k low ends.low_in),
  )
