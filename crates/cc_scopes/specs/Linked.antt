-- Which names have linkage (C99 6.2.2).
use Rattle.std.specs.Prelude.{◌≡◌, ℕ, suc, Bool, true, false, ◌&&◌, List, [], ◌∷◌, Option, Some, None, if◌then◌else◌}
use Rattle.std.specs.Str.{bytes_eq}
use Rattle.cc_scopes.specs.Maps.{Key, named_entries}
use Rattle.cc_scopes.specs.State.{State, Name, find_name}
use Rattle.cc_scopes.specs.declared.unit.Declared.{Declared}
use Rattle.cc_unit.specs.declared.unit.Linkage.{Linkage}
use Rattle.cc_unit.specs.declared.unit.Linkage.TheVariants as linkage

abbrev pub is_linked : Linkage → Bool
is_linked linkage.External = true
is_linked linkage.Internal = true
is_linked linkage.Local = false

abbrev pub has_name : Name → Option Name → Bool
has_name x None = false
has_name x (Some y) = bytes_eq x y

abbrev pub linked_from : ℕ → Name → List Declared → Option ℕ
linked_from i x [] = None
linked_from i x (d ∷ ds) = if is_linked d.linkage && has_name x d.name then Some i else linked_from (suc i) x ds

-- by a declaration anywhere in front of here
abbrev pub linked_name : Name → State → Option ℕ
linked_name x s = linked_from 0 x s.names

-- the name of what has linkage
abbrev pub key_if : Bool → Option Name → Option Name
key_if true x = x
key_if false x = None

abbrev pub key_in : Declared → Option Name
key_in d = key_if (is_linked d.linkage) d.name

-- a list of names with numbers finds the first of each name that has linkage
abbrev pub IsIndex : List Declared → List (Key × ℕ) → Type 0
IsIndex ds es = (x : Name) → linked_from 0 x ds ≡ find_name x (named_entries es)
