-- A handler of the levels from which some points are reached may enter where one may that reaches one of them.
use Rattle.std.proofs.Common.{arith, ◌≡◌, ◌≤◌, ◌∙◌, ℕ, zero, suc, Bool, true, false, ◌&&◌, ◌||◌, List, [], ◌∷◌, fold, refl, ap}
use Rattle.std.specs.Prelude.{bit_or, max, nat_eq}
use Rattle.std.specs.Int.{bit_at}
use Rattle.std.specs.List.{list_any}
use Rattle.std.proofs.lemmas.Nat.Bits.{bit_at_or}
use Rattle.cc_rules_flows.specs.CcFlow.declared.types.Point.{Point}
use Rattle.cc_plan_costs.specs.Guards.{from_at, is_entered, levels_to, running_at, with_from}
use Rattle.cc_sets.specs.declared.vals.Vals.{Vals}
use Rattle.cc_slots_accesses.specs.Known.{may_be_on}
use Rattle.cc_rules_flows.specs.CcStateFacts.declared.facts.Facts.{Facts}
use Rattle.cc_rules_flows.specs.CcStateFacts.Facts.{fact_at}
use Rattle.cc_rules_flows.specs.CcStateFacts.Levels.{all_levels, has_level, may_enter, one_may_enter}

-- ---- truth values

swap : (a b c d : Bool) → ((a || b) || (c || d)) ≡ ((a || c) || (b || d))
swap true b c d = refl
swap false true true d = refl
swap false true false d = refl
swap false false c d = refl

both_ways : (a b c : Bool) → ((a || b) && c) ≡ ((a && c) || (b && c))
both_ways true b true = refl
both_ways true true false = refl
both_ways true false false = refl
both_ways false b c = refl

grouped : (a b c : Bool) → ((a || b) || c) ≡ (a || (b || c))
grouped true b c = refl
grouped false b c = refl

or_none : (b : Bool) → b ≡ (b || false)
or_none true = refl
or_none false = refl

-- ---- a level of two sets

greater_is_one : (p q : ℕ) → p ≤ 1 → q ≤ 1 → nat_eq (max p q) 1 ≡ (nat_eq p 1 || nat_eq q 1)
greater_is_one zero zero h k = refl
greater_is_one zero (suc zero) h k = refl
greater_is_one (suc zero) zero h k = refl
greater_is_one (suc zero) (suc zero) h k = refl
greater_is_one (suc (suc p)) q h k = absurd (omega (arith, h))
greater_is_one zero (suc (suc q)) h k = absurd (omega (arith, k))
greater_is_one (suc zero) (suc (suc q)) h k = absurd (omega (arith, k))

one_bit : (x l : ℕ) → bit_at x l ≤ 1
one_bit x l = omega arith

has_either : (x y l : ℕ) → has_level (bit_or x y) l ≡ (has_level x l || has_level y l)
has_either x y l = ap (λ n. nat_eq n 1) (bit_at_or x y l) ∙ greater_is_one (bit_at x l) (bit_at y l) (one_bit x l) (one_bit y l)

any_either : (f g h : ℕ → Bool) → ((l : ℕ) → h l ≡ (f l || g l)) → (xs : List ℕ) → list_any h xs ≡ (list_any f xs || list_any g xs)
any_either f g h same [] = refl
any_either f g h same (x ∷ xs) =
    ap (λ b. b || list_any h xs) (same x)
    ∙ ap (λ b. (f x || g x) || b) (any_either f g h same xs)
    ∙ swap (f x) (g x) (list_any f xs) (list_any g xs)

enters_either : (running x y : ℕ) → one_may_enter running (bit_or x y) ≡ (one_may_enter running x || one_may_enter running y)
enters_either running x y =
    any_either (λ l. has_level x l && may_enter running l) (λ l. has_level y l && may_enter running l) (λ l. has_level (bit_or x y) l && may_enter running l)
    (λ l. ap (λ b. b && may_enter running l) (has_either x y l) ∙ both_ways (has_level x l) (has_level y l) (may_enter running l)) all_levels

-- ---- the levels from which points are reached

module _ (points : List Point) (facts : Facts Vals) where
  from_each : (running levels : ℕ) (others : List ℕ) → one_may_enter running (fold (with_from points facts) levels others) ≡ (one_may_enter running levels || list_any (λ other. one_may_enter running (from_at points facts other)) others)
  from_each running levels [] = or_none (one_may_enter running levels)
  from_each running levels (other ∷ more) =
      from_each running (with_from points facts levels other) more
      ∙ ap (λ b. b || list_any (λ other. one_may_enter running (from_at points facts other)) more) (enters_either running levels (from_at points facts other))
      ∙ grouped (one_may_enter running levels) (one_may_enter running (from_at points facts other)) (list_any (λ other. one_may_enter running (from_at points facts other)) more)

  pub enters : (others : List ℕ) (n : ℕ) → is_entered points facts (levels_to points facts others) n
      ≡ (may_be_on (fact_at facts n) && list_any (λ other. one_may_enter (running_at points facts n) (from_at points facts other)) others)
  enters others n = ap (λ b. may_be_on (fact_at facts n) && b) (from_each (running_at points facts n) 0 others)
