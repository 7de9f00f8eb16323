-- Marks of the numbers below a bound: whether a list has each.
use Rattle.std.specs.Prelude.{ℕ, Bool, true, false, List, fold, replicate, set}

abbrev pub with_mark : List Bool → ℕ → List Bool
with_mark marks number = set marks number true

abbrev pub with_marks : List Bool → List ℕ → List Bool
with_marks marks list = fold with_mark marks list

abbrev pub marks_of : ℕ → List ℕ → List Bool
marks_of count list = with_marks (replicate count false) list
