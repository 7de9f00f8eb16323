-- Which members of an explicit set stay, and the least set that has them.
use Rattle.std.proofs.Common.{◌≡◌, ◌<◌, ◌+◌, ℕ, ℤ, List, [], length, take, get_or, inl, inr, ⊎_elim, refl, sym, subst}
use Rattle.std.specs.List.{Contains}
use Rattle.cc_rules_flows.specs.CcLattice.Domains.{IsIntValue}
use Rattle.cc_rules_flows.specs.CcLattice.Orders.{IsLeastUpperBound}
use Rattle.cc_rules_flows.proofs.CcLattice.IntValues.{value_is_int}
use Rattle.cc_rules_flows.specs.CcPlaces.declared.abs.Abs.{Abs}
use Rattle.cc_rules_flows.specs.CcPlaces.laws.ListLaws.{item_in, none_in, taken_before, taken_cases, taken_now}
use Rattle.cc_rules_flows.specs.Tests.{Test}
use Rattle.cc_rules_tests.specs.Passing.{MayPassIn}
use Rattle.cc_rules_tests.specs.Tested.{IsValWith, IsWorkedAt, MayHoldAll, MayHoldEach, MayHoldOne, StaysIn, test_of}
use Rattle.cc_rules_tests.specs.Trials.{IsGivenAt}
use Rattle.cc_rules_tests.specs.declared.tested.Tested.{Tested}
use Rattle.cc_rules_tests.proofs.Changing.{changed}
use Rattle.cc_rules_flows.specs.CcStateOperators.Domains.{Domain, IsHull, IsHullFrom}
use Rattle.cc_rules_tests.proofs.Least.{IsNumber, IsOrder, from_none, from_number, hull_more, hull_none, number_typed}
use Rattle.cc_rules_flows.specs.CcStateValues.declared.context.Context.{Context}
use Rattle.cc_rules_flows.proofs.CcStateValues.Same.{IsOrdered, one_hull, same_value}

module _ {I : Type 0} (d : Domain I) (c : Context I) where
  pub one_int : (r : ℕ) (m : ℤ) → MayHoldOne d c r m → IsIntValue m
  one_int r m (t, is, v) = value_is_int m t c.program.now.target v

  -- the set of a number that a register may hold
  pub one_held : (r : ℕ) (m : ℤ) (one : I) → MayHoldOne d c r m → IsNumber d m one → MayHoldAll d c r one
  one_held r m one (t, is, v) h = (t, is, number_typed d t c.program.now.target m one h v)

  pub held_int : (r : ℕ) (members : List ℤ) → MayHoldEach d c r members → (m : ℤ) → Contains members m → IsIntValue m
  held_int r members (t, is, each) m k = value_is_int m t c.program.now.target (each m k)

  pub item_held : (r : ℕ) (members : List ℤ) (i : ℕ) (m : ℤ) → i < length members → m ≡ get_or members i m → MayHoldEach d c r members → MayHoldOne d c r m
  item_held r members i m l e (t, is, each) = (t, is, each m (item_in members i m l e))

module _ {I : Type 0} (d : Domain I) (test : Test) where
  -- a number, where a test passes with a value
  abbrev pub IsMore : ℤ → Abs I → ℤ → Type 0
  IsMore m v n = (n ≡ m) × MayPassIn d test v

  module _ (alike : I → I → Type 0) (all : (x y : I) → alike x y) (o : IsOrder d) where
    pub more_stays : (m : ℤ) (v : Abs I) (set one j : I) → IsNumber d m one → MayPassIn d test v → IsLeastUpperBound alike d.below set one j → IsHullFrom d set (IsMore m v) j
    more_stays m v set one j number passes l = from_number d alike all o (IsMore m v) m set one j number (λ n k. k.0) (refl, passes) l

    pub more_goes : (m : ℤ) (v : Abs I) (set : I) → (MayPassIn d test v → ⊥) → IsHullFrom d set (IsMore m v) set
    more_goes m v set goes = from_none d alike all o (IsMore m v) set (λ n k. goes k.1)

module _ {I : Type 0} (d : Domain I) (t : Tested I) where
  -- a value at a number tells whether the test may pass there
  pub stays_on : IsOrdered d → (r : ℕ) (m : ℤ) (y : Abs I) → IsGivenAt d t.context.now t.expression.now r m y → MayPassIn d (test_of t.test) y → StaysIn d t r m
  stays_on o r m y (one, hull, value) h one' y' hull' value' =
      let same : one ≡ one' = one_hull d o (λ n. n ≡ m) one one' hull hull' in
      let there : IsValWith d t.context.now r one' t.expression.now y = subst (λ x. IsValWith d t.context.now r x t.expression.now y) same value in
      subst (λ z. MayPassIn d (test_of t.test) z) (same_value d o t.context.now.program.now t.context.now.id t.context.now.func.now (changed d t.context.now r one') t.expression.now y y' there value') h

  pub stays_back : (r : ℕ) (m : ℤ) (y : Abs I) → IsGivenAt d t.context.now t.expression.now r m y → StaysIn d t r m → MayPassIn d (test_of t.test) y
  stays_back r m y (one, hull, value) h = h one y hull value

  pub worked_on : (r : ℕ) (m : ℤ) (y : Abs I) → IsGivenAt d t.context.now t.expression.now r m y → IsWorkedAt d t r m
  worked_on r m y (one, hull, value) = (one, y, hull, value)

  abbrev pub StayOf : ℕ → List ℤ → ℤ → Type 0
  StayOf r members n = Contains members n × StaysIn d t r n

  module _ (alike : I → I → Type 0) (all : (x y : I) → alike x y) (o : IsOrder d) (r : ℕ) where
    pub none_yet : (x : I) → ((y : I) → d.below x y) → IsHull d (StayOf r []) x
    none_yet x least = hull_none d (StayOf r []) x (λ n k. none_in n k.0) least

    pub one_more : IsOrdered d → (members : List ℤ) (i : ℕ) (m : ℤ) (v : Abs I) (y z : I) → i < length members → m ≡ get_or members i m → IsGivenAt d t.context.now t.expression.now r m v → IsHull d (StayOf r (take i members)) y →
        IsHullFrom d y (IsMore d (test_of t.test) m v) z → IsHull d (StayOf r (take (i + 1) members)) z
    one_more ordered members i m v y z l e given h k = hull_more d alike all o (StayOf r (take i members)) (IsMore d (test_of t.test) m v) (StayOf r (take (i + 1) members)) y z
        (λ n s. ⊎_elim (λ a. inl (a, s.1)) (λ a. inr (sym a, stays_back r m v given (subst (λ u. StaysIn d t r u) (sym a) s.1))) (taken_cases members i m n l e s.0))
        (λ n s. (taken_before members i m n l e s.0, s.1))
        (λ n s. (subst (λ u. Contains (take (i + 1) members) u) (sym s.0) (taken_now members i m l e), subst (λ u. StaysIn d t r u) (sym s.0) (stays_on ordered r m v given s.1))) h k
