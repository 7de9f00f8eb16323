-- What the sets of the code stand for: names, and things of settings, in the order in which they were added.
use Rattle.std.specs.Prelude.{ℕ, Bool, List, [], ◌∷◌, ◌++◌, map, if◌then◌else◌}
use Rattle.std.specs.List.{list_any}
use Rattle.std.specs.Str.{bytes_eq}
use Rattle.std.specs.Borrow.{Bor}
use Rattle.std.specs.declared.hash.BuildHasherDefault.{BuildHasherDefault}
use Rattle.std.specs.declared.hash.FoldHasher.{FoldHasher}
use Rattle.indexmap.specs.IndexSet.{IndexSet}
use Rattle.cc_cost.specs.Settings.{Thing}

abbrev pub NameSet : Type 0
NameSet = IndexSet (Bor (List ℕ)) (BuildHasherDefault FoldHasher)

unfoldable pub names_of : NameSet → List (List ℕ)
names_of set = map (λ x. x.now) set.keys

abbrev pub Pair : Type 0
Pair = Bor (List ℕ) × Bor (List ℕ)

abbrev pub pair_thing : Pair → Thing
pair_thing p = record { key = p.0.now; second = p.1.now }

abbrev pub ThingSet : Type 0
ThingSet = IndexSet Pair (BuildHasherDefault FoldHasher)

unfoldable pub things_of : ThingSet → List Thing
things_of set = map pair_thing set.keys

-- names with a default name, where there is no row for the intrinsic
abbrev pub insert_default : Bool → List ℕ → List (List ℕ) → List (List ℕ)
insert_default has_row name names = if has_row then names else if list_any (bytes_eq name) names then names else names ++ name ∷ []
