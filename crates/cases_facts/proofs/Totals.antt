-- How many bytes one text has.
use Rattle.std.proofs.Common.{◌≡◌, ◌+◌, ℕ, List, [], ◌∷◌, ◌++◌, length, map, sum, refl}
use Rattle.std.specs.Prelude.{Vec}
use Rattle.std.specs.declared.alloc.Global.{Global}
use Rattle.cc_read.specs.Texts.{bytes_of}

pub sum-one : (t : Vec ℕ Global) → sum (map length (bytes_of ([] ++ t ∷ []))) ≡ 0 + length t.items
sum-one t = refl

pub ruleset of_totals = (sum-one)
