-- Where lists start that stand one behind the other, as they come.
use Rattle.std.specs.Prelude.{◌≡◌, ◌+◌, ℕ, List, ◌∷◌, ◌++◌, replicate}
use Rattle.cc_flow.specs.Laws.{starts}

-- some empty lists wait for one that has points: where one more comes, of so many points, the same lists start at the same points, and some wait still
abbrev pub AreStarted : List ℕ → ℕ → ℕ → ℕ → List ℕ → ℕ → Type 0
AreStarted old waiting number count new left =
    (behind : ℕ) (counts : List ℕ) → old ++ starts number behind (replicate waiting 0 ++ count ∷ counts) ≡ new ++ starts (number + count) behind (replicate left 0 ++ counts)
