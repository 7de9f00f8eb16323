-- Sets of interrupt levels, from 0 to 7, as numbers: bit n stands for level n.
use Rattle.std.specs.Prelude.{◌≡◌, ℕ, ◌^◌, ◌/◌, ◌%◌, Bool, true, ◌&&◌, ◌||◌, nat_eq, nat_lt, List, [], ◌∷◌}
use Rattle.std.specs.List.{list_any}

-- whether a set has a level
abbrev pub has_level : ℕ → ℕ → Bool
has_level set level = nat_eq ((set / 2 ^ level) % 2) 1

-- the set of one level
abbrev pub only_level : ℕ → ℕ
only_level level = 2 ^ level

abbrev pub all_levels : List ℕ
all_levels = 0 ∷ 1 ∷ 2 ∷ 3 ∷ 4 ∷ 5 ∷ 6 ∷ 7 ∷ []

-- whether a level is above the least one of a set; an empty set has no least one, and no level counts as above it
abbrev pub is_above_least : ℕ → ℕ → Bool
is_above_least set level = list_any (λ l. has_level set l && nat_lt l level) all_levels

-- whether a handler of a level may enter, where the flag is on, over a function that may run at the levels of a set: it is 0, or
-- above the least of them
abbrev pub may_enter : ℕ → ℕ → Bool
may_enter running level = nat_eq level 0 || is_above_least running level

-- whether a handler of one of these levels may
abbrev pub one_may_enter : ℕ → ℕ → Bool
one_may_enter running levels = list_any (λ l. has_level levels l && may_enter running l) all_levels

-- each level of the one is in the other
abbrev pub AreLevelsWithin : ℕ → ℕ → Type 0
AreLevelsWithin x y = (l : ℕ) → has_level x l ≡ true → has_level y l ≡ true
