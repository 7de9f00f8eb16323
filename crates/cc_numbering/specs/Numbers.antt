-- The numbers of structures. While a unit is read they are numbered in order of first appearance; in the unit those that
-- are only named come first, and the others follow in the order of their closing braces.
use Rattle.std.specs.Prelude.{ℕ, zero, suc, Bool, nat_eq, is_some, List, [], ◌∷◌, ◌++◌, length, if◌then◌else◌}
use Rattle.cc_scopes.specs.State.{State, KnownStructure}

abbrev pub unless : Bool → ℕ → List ℕ
unless complete i = if complete then [] else i ∷ []

-- those that have no members, from a number on
abbrev pub only_named : ℕ → List KnownStructure → List ℕ
only_named i [] = []
only_named i (k ∷ ks) = unless (is_some k.members) i ++ only_named (suc i) ks

abbrev pub order_of : State → List ℕ
order_of s = only_named 0 s.structures ++ s.completed

-- where a number stands in a list that begins with its n-th; 0 where it stands nowhere
abbrev pub place_from : ℕ → List ℕ → ℕ → ℕ
place_from n [] i = 0
place_from n (j ∷ js) i = if nat_eq i j then n else place_from (suc n) js i

-- the places of so many numbers, from one on
abbrev pub places_from : ℕ → ℕ → List ℕ → List ℕ
places_from i zero order = []
places_from i (suc n) order = place_from 0 order i ∷ places_from (suc i) n order

-- the number of each structure in the unit
abbrev pub numbers_of : State → List ℕ
numbers_of s = places_from 0 (length s.structures) (order_of s)
