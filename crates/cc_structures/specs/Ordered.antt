-- The first structures of classes, in their source and in the program.
use Rattle.std.specs.Prelude.{ℕ, Bool, nat_eq, ◌&&◌, List, [], ◌∷◌, ◌++◌, map, if◌then◌else◌}
use Rattle.std.specs.List.{list_any, position_or_len}
use Rattle.indexmap.specs.IndexSet.{insert_key}
use Rattle.cc_structures.specs.Structures.{Known, Numbering, number_of}
use Rattle.cc_structures.specs.declared.firsts.Seen.{Seen}

abbrev pub same_seen : Seen → Seen → Bool
same_seen a b = nat_eq a.text b.text && nat_eq a.number b.number

module _ (numbering : Numbering) where
  abbrev pub seen_of : Known → Seen
  seen_of s = record { text = s.text; number = number_of numbering s }

  -- the number of the class, and where another of the class stands in front in the source, what it has alone
  abbrev pub first_key : Bool → Known → List ℕ
  first_key seen s = number_of numbering s ∷ (if seen then s.text ∷ s.position ∷ [] else [])

  abbrev pub first_keys_behind : List Seen → List Known → List (List ℕ)
  first_keys_behind seen [] = []
  first_keys_behind seen (s ∷ ss) = first_key (list_any (same_seen (seen_of s)) seen) s ∷ first_keys_behind (insert_key same_seen seen (seen_of s)) ss

  -- the first structure of each number that is not yet found
  abbrev pub firsts_behind : List ℕ → List Known → List Known
  firsts_behind found [] = []
  firsts_behind found (s ∷ ss) =
      (if list_any (nat_eq (number_of numbering s)) found then [] else s ∷ []) ++ firsts_behind (insert_key nat_eq found (number_of numbering s)) ss

  -- their numbers, and the positions of all structures among them
  abbrev pub classes_of : List Known → List ℕ
  classes_of ss = map (number_of numbering) ss

  abbrev pub positions_of : List ℕ → List Known → List ℕ
  positions_of found ss = map (λ s. position_or_len (nat_eq (number_of numbering s)) found) ss
