-- What the code keeps of the names that are taken.
use Rattle.std.specs.Str.{bytes_eq}
use Rattle.std.specs.Prelude.{◌≡◌, ◌≤◌, ◌<◌, ◌⊎◌, ◌+◌, ℕ, suc, if◌then◌else◌, true, false, List, ◌++◌, length, Option, Some, Vec}
use Rattle.std.specs.Cmp.Lexicographic.{pointwise}
use Rattle.std.specs.Prelude.{nat_eq}
use Rattle.std.specs.declared.alloc.Global.{Global}
use Rattle.std.specs.declared.hash.BuildHasherDefault.{BuildHasherDefault}
use Rattle.std.specs.declared.hash.FoldHasher.{FoldHasher}
use Rattle.indexmap.specs.IndexMap.{IndexMap, get_by}
use Rattle.cc_names.specs.Names.{is_among, with_number}
use Rattle.cc_names.specs.View.{HaveSame}
use Rattle.cc_names.specs.declared.taken.Taken.{Taken}

-- for a name, the number from which on a new one is sought
abbrev pub Starts : Type 0
Starts = IndexMap (Vec ℕ Global) ℕ (BuildHasherDefault FoldHasher)

abbrev pub start_of : List ℕ → Starts → Option ℕ
start_of base starts = get_by (λ k. pointwise nat_eq base k.items) starts

-- the numbers from one on up to that one make names that are taken
abbrev pub AreTaken : ℕ → Starts → List (List ℕ) → Type 0
AreTaken from starts names = (base : List ℕ) (n i : ℕ) → start_of base starts ≡ Some n → from ≤ i → i < n → is_among (with_number base i) names ≡ true

-- a number of `count + 1` from one on that makes a name that is not there, and none before it does; else the first one
abbrev pub FailUpTo : List (List ℕ) → List ℕ → ℕ → ℕ → Type 0
FailUpTo names base from end = (i : ℕ) → from ≤ i → i < end → is_among (with_number base i) names ≡ true

abbrev pub IsLeast : List (List ℕ) → ℕ → List ℕ → ℕ → ℕ → Type 0
IsLeast names count base from number =
    ((from ≤ number) × ((number ≤ count + from) × ((is_among (with_number base number) names ≡ false) × FailUpTo names base from number)))
    ⊎ ((number ≡ from) × FailUpTo names base from (suc (count + from)))

-- a start is told for one name
abbrev pub IsNoted : Starts → Starts → List ℕ → ℕ → Type 0
IsNoted before after base number = (x : List ℕ) → start_of x after ≡ (if bytes_eq x base then Some number else start_of x before)

-- these are the names that no new one may be, and these were given
pub record Holds (t : Taken) (reserved given : List (List ℕ)) : Type 0 where
  pub names : HaveSame t.names (reserved ++ given)
  pub count : t.count ≡ length reserved + length given
  pub renamed : AreTaken 2 t.renamed t.names
  pub numbered : AreTaken 1 t.numbered t.names
