-- Slots and budgets whose ranking is known.
use Rattle.std.specs.Prelude.{ℕ, true, false, List, [], ◌∷◌, Some, None}
use Rattle.cc_cost_ranking.specs.declared.costs.Sites.{Sites}
use Rattle.cc_cost_ranking.specs.declared.types.Budgets.{Budgets}
use Rattle.cc_cost_ranking.specs.declared.types.Costed.{Costed}

-- a slot by its number, its gain, and what it costs in code and time
abbrev pub costed : ℕ → ℕ → ℕ → ℕ → Costed
costed slot gain code time = record { slot = slot; gain = gain; code = code; time = time }

-- a budget of 10 for code alone, and one of 3 for time beside it
abbrev pub ten_of_code : Budgets
ten_of_code = record { code = Some 10; time = None }

abbrev pub three_of_time : Budgets
three_of_time = record { code = Some 10; time = Some 3 }

-- 6, 5 and 4 of code
abbrev pub six_five_four : List Costed
six_five_four = costed 0 1 6 9 ∷ costed 1 1 5 9 ∷ costed 2 1 4 9 ∷ []

-- 3, 1 and none of time
abbrev pub three_one_none : List Costed
three_one_none = costed 4 1 1 3 ∷ costed 5 1 1 1 ∷ costed 6 1 9 0 ∷ []

-- a scalar with three reads and two writes, of which one is guarded, and an array with one of each
abbrev pub three_two_one : Sites
three_two_one = record { reads = 3; writes = 2; guarded = 1; array = false }

abbrev pub one_of_each : Sites
one_of_each = record { reads = 1; writes = 1; guarded = 0; array = true }
