-- Which slots are coded. They are ranked by what they gain for their price; then each is taken, in rank order, where what
-- is taken stays within the budgets with it.
use Rattle.std.specs.Prelude.{◌≡◌, ◌≢◌, ◌≤◌, ℕ, ◌+◌, ◌*◌, ◌++◌, Bool, true, ◌&&◌, nat_le, List, [], ◌∷◌, fold, AllPairs, Option, Some, None, if◌then◌else◌, IsPermutation, IsSorted}
use Rattle.std.specs.declared.cmp.Ordering.{Ordering}
use Rattle.std.specs.Ordering.{nat_cmp, ordering_then}
use Rattle.cc_cost_ranking.specs.declared.types.Budgets.{Budgets}
use Rattle.cc_cost_ranking.specs.declared.types.Costed.{Costed}
use Rattle.cc_cost_ranking.specs.declared.types.Weights.{Weights}

-- weights as a profile may have them
pub record AreWeights (weights : Weights) : Type 0 where
  pub code : weights.code ≤ 1000
  pub time : weights.time ≤ 1000

-- no two slots have one number
abbrev pub AreApart : List Costed → Type 0
AreApart list = AllPairs (λ x y. x.slot ≢ y.slot) list

-- what coding a slot costs; never nothing
abbrev pub price : Weights → Costed → ℕ
price weights c = 1 + weights.code * c.code + weights.time * c.time

-- a slot that gains more for its price comes first, and of two that gain as much the one with the lesser number; a quotient is
-- greater where its numerator times the other's denominator is
abbrev pub rank_order : Weights → Costed → Costed → Ordering
rank_order weights x y = ordering_then (nat_cmp (y.gain * price weights x) (x.gain * price weights y)) (nat_cmp x.slot y.slot)

-- what is taken: slots, in the order of taking, and what they cost together
pub record Taken : Type 0 where
  pub slots : List ℕ
  pub code : ℕ
  pub time : ℕ

abbrev pub nothing : Taken
nothing = record { slots = []; code = 0; time = 0 }

abbrev pub with_one : Taken → Costed → Taken
with_one taken c = record { slots = taken.slots ++ c.slot ∷ []; code = taken.code + c.code; time = taken.time + c.time }

-- whether a sum is within a budget
abbrev pub is_within : Option ℕ → ℕ → Bool
is_within None sum = true
is_within (Some most) sum = nat_le sum most

abbrev pub are_within : Budgets → Taken → Bool
are_within budgets taken = is_within budgets.code taken.code && is_within budgets.time taken.time

-- a slot is taken where both sums with it are within the budgets, and else left
abbrev pub take_one : Budgets → Taken → Costed → Taken
take_one budgets taken c = if are_within budgets (with_one taken c) then with_one taken c else taken

-- what is taken of slots in order
abbrev pub taken_of : Budgets → List Costed → Taken
taken_of budgets order = fold (take_one budgets) nothing order

-- the slots that are taken, in rank order
pub record IsRanking (weights : Weights) (budgets : Budgets) (list : List Costed) (slots : List ℕ) : Type 0 where
  pub order : List Costed
  pub permuted : IsPermutation list order
  pub sorted : IsSorted (rank_order weights) order
  pub taken : slots ≡ (taken_of budgets order).slots
