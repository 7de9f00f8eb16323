-- Lists, and counts that may not be there.
use Rattle.std.specs.Prelude.{ℕ, Bool, true, false, not, nat_eq, List, [], ◌∷◌, Option, Some, None, if◌then◌else◌}
use Rattle.std.specs.List.{list_any}

-- the elements that pass stand in front of all others
abbrev pub come_first : {A : Type 0} → (A → Bool) → List A → Bool
come_first test [] = true
come_first test (x ∷ xs) = if test x then come_first test xs else not (list_any test xs)

-- a count that is there, and is this one
abbrev pub is_count : ℕ → Option ℕ → Bool
is_count n None = false
is_count n (Some m) = nat_eq n m
