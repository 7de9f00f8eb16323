-- The inputs that are left, the next one last.
use Rattle.std.proofs.Common.{◌≡◌, ◌<◌, ◌≤◌, ◌-◌, ◌+◌, ℤ, List, [], ◌∷◌, ◌++◌, refl, ap, sym, ◌∙◌, length, take, get_or, reverse, arith}
use Rattle.std.proofs.lemmas.List.{reverse-append, take_all, take_more}

pub inputs-empty : (xs : List ℤ) → length xs ≡ 0 → reverse xs ≡ []
inputs-empty [] h = refl
inputs-empty (x ∷ xs) h = absurd (omega arith)

pub inputs-last : (xs : List ℤ) (d : ℤ) → 0 < length xs → reverse xs ≡ get_or xs (length xs - 1) d ∷ reverse (take (length xs - 1) xs)
inputs-last xs d h =
    let below : length xs - 1 < length xs = omega arith in
    let whole : length xs ≤ length xs - 1 + 1 = omega arith in
    let e : xs ≡ take (length xs - 1) xs ++ get_or xs (length xs - 1) d ∷ [] = sym (take_all (length xs - 1 + 1) xs whole) ∙ take_more xs (length xs - 1) d below in
    ap reverse e ∙ reverse-append (take (length xs - 1) xs) (get_or xs (length xs - 1) d ∷ [])

pub ruleset of_inputs = (inputs-empty, inputs-last)
