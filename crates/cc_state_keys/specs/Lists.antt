-- What is made of the things of a list by their numbers, in order.
use Rattle.std.specs.Prelude.{ℕ, ◌+◌, Bool, true, false, List, [], ◌∷◌, ◌++◌, Option, Some, None}

abbrev pub only_if : {B : Type 0} → Bool → B → List B
only_if true b = b ∷ []
only_if false b = []

-- for each thing that passes, what is made of its number, from one on
abbrev pub made_from : {A B : Type 0} → (ℕ → A → Bool) → (ℕ → B) → ℕ → List A → List B
made_from passes make n [] = []
made_from passes make n (a ∷ more) = only_if (passes n a) (make n) ++ made_from passes make (n + 1) more

-- for each thing a list
abbrev pub all_from : {A B : Type 0} → (ℕ → A → List B) → ℕ → List A → List B
all_from lists n [] = []
all_from lists n (a ∷ more) = lists n a ++ all_from lists (n + 1) more

abbrev pub only : {B : Type 0} → Option B → List B
only None = []
only (Some b) = b ∷ []
