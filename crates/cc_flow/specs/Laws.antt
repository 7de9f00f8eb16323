-- What holds of the points of a function.
use Rattle.std.specs.Prelude.{◌≡◌, ◌≢◌, ◌<◌, ◌≤◌, ◌+◌, ℕ, nat_eq, List, [], ◌∷◌, All, AllPairs, if◌then◌else◌}
use Rattle.cc_flow.specs.declared.types.Point.{Point}

-- a point of a function whose points have the numbers from `first` up to `end`: control stays in the function, and where
-- it goes ascends without repeats
pub record IsIn (func first end : ℕ) (p : Point) : Type 0 where
  pub own : p.func ≡ func
  pub stays : All (λ n. (first ≤ n) × (n < end)) p.next
  pub ascends : AllPairs (λ m n. m < n) p.next

-- no two points have one path
abbrev pub AreApart : List Point → Type 0
AreApart points = AllPairs (λ p q. p.path ≢ q.path) points

-- where control goes that comes to lists with so many points, one behind the other: an empty one starts where the next one
-- does, and an empty last one behind them
abbrev pub start : ℕ → ℕ → List ℕ → ℕ
start number behind [] = behind
start number behind (count ∷ counts) = if nat_eq count 0 then start number behind counts else number

-- where each of them starts
abbrev pub starts : ℕ → ℕ → List ℕ → List ℕ
starts number behind [] = []
starts number behind (count ∷ counts) = start number behind (count ∷ counts) ∷ starts (number + count) behind counts
