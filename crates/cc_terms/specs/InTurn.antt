-- Constructs of a list, one behind another: each is found behind what those before it gave.
use Rattle.std.specs.Prelude.{List, [], ◌∷◌, ◌++◌, Ok}
use Rattle.cc_scopes.specs.State.{State}
use Rattle.cc_scopes.specs.Verdicts.{Found, and_then}

abbrev pub in_turn : {A B : Type 0} → (A → B → State → Found B) → List A → B → State → Found B
in_turn find [] before s = Ok (before, s)
in_turn find (x ∷ xs) before s = and_then (find x before s) (in_turn find xs)

-- one more, behind those before
abbrev pub one_more : {B : Type 0} → List B → Found B → Found (List B)
one_more before found = and_then found (λ x s. Ok (before ++ x ∷ [], s))
