-- Two lists side by side.
use Rattle.std.specs.Prelude.{Bool, true, false, ◌&&◌, List, [], ◌∷◌}

-- they are of one length, and each element passes with the one beside it
abbrev pub all_pairs : {A B : Type 0} → (A → B → Bool) → List A → List B → Bool
all_pairs test [] [] = true
all_pairs test (x ∷ xs) (y ∷ ys) = test x y && all_pairs test xs ys
all_pairs test [] (y ∷ ys) = false
all_pairs test (x ∷ xs) [] = false
