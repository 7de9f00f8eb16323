-- Classes of equal keys, numbered from 1 in order of first appearance.
use Rattle.std.specs.Prelude.{ℕ, suc, Bool, nat_eq, List, [], ◌∷◌, fold, Vec}
use Rattle.std.specs.Cmp.Lexicographic.{pointwise}
use Rattle.std.specs.declared.alloc.Global.{Global}
use Rattle.std.specs.List.{position_or_len}
use Rattle.indexmap.specs.IndexSet.{insert_key}

module _ {K : Type 0} (eq : K → K → Bool) where
  -- a key that is equal to none of those found is the next
  abbrev pub numbers_behind : List K → List K → List ℕ
  numbers_behind found [] = []
  numbers_behind found (k ∷ ks) = suc (position_or_len (eq k) found) ∷ numbers_behind (insert_key eq found k) ks

  abbrev pub class_numbers : List K → List ℕ
  class_numbers ks = numbers_behind [] ks

  -- one key of each class
  abbrev pub distinct : List K → List K
  distinct ks = fold (insert_key eq) [] ks

-- two lists of numbers are equal
abbrev pub same_list : Vec ℕ Global → Vec ℕ Global → Bool
same_list a b = pointwise nat_eq a.items b.items
