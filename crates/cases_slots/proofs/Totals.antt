-- How many bytes two texts have.
use Rattle.std.proofs.Common.{◌≡◌, ◌+◌, ℕ, List, [], ◌∷◌, ◌++◌, length, map, sum, refl}
use Rattle.std.specs.Prelude.{Vec}
use Rattle.std.specs.declared.alloc.Global.{Global}
use Rattle.cc_read.specs.Texts.{bytes_of}

pub sum-two : (t u : Vec ℕ Global) → sum (map length (bytes_of (([] ++ t ∷ []) ++ u ∷ []))) ≡ 0 + length t.items + length u.items
sum-two t u = refl

pub ruleset of_totals = (sum-two)
