-- How many initialisers there are, those in lists included: the walk over them ends by it.
use Rattle.std.specs.Prelude.{ℕ, suc, ◌+◌, List, [], ◌∷◌}
use Rattle.cc_tree.specs.declared.at.At.{At}
use Rattle.cc_tree.specs.declared.unit.Given.{Given, fold-Given}
use Rattle.cc_tree.specs.declared.unit.Given.TheOpen as one_given

abbrev pub sum_of : List (At ℕ) → ℕ
sum_of [] = 0
sum_of (n ∷ ns) = n.node + sum_of ns

abbrev pub count_step : one_given.Given-F ℕ → ℕ
count_step (one_given.One e) = 1
count_step (one_given.Many ns) = suc (sum_of ns)

unfoldable pub initialisers_in : Given → ℕ
initialisers_in g = fold-Given ℕ count_step g

abbrev pub initialisers_among : List (At Given) → ℕ
initialisers_among [] = 0
initialisers_among (g ∷ gs) = initialisers_in g.node + initialisers_among gs
