-- As many names come as there are wishes.
use Rattle.std.proofs.Common.{◌≡◌, ℕ, suc, List, [], ◌∷◌, ◌++◌, length, refl, ap}
use Rattle.cc_names.specs.Names.{Wish, name_for, names_for}

pub names-length : (reserved given space : List (List ℕ)) (ws : List Wish) → length (names_for reserved given space ws) ≡ length ws
unfolding names_for
names-length reserved given space [] = refl
names-length reserved given space (w ∷ ws) =
    let x = name_for reserved given space w in
    ap suc (names-length reserved (given ++ x ∷ []) (space ++ x ∷ []) ws)
