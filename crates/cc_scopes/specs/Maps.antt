-- Maps from names as lists of names with what they stand for.
use Rattle.std.specs.Prelude.{ℕ, List, Vec, map}
use Rattle.std.specs.declared.alloc.Global.{Global}
use Rattle.std.specs.declared.hash.BuildHasherDefault.{BuildHasherDefault}
use Rattle.std.specs.declared.hash.FoldHasher.{FoldHasher}
use Rattle.indexmap.specs.IndexMap.{IndexMap}
use Rattle.cc_scopes.specs.State.{Name, Scope}
use Rattle.cc_scopes.specs.declared.designated.Designated.{Designated}
use Rattle.cc_scopes.specs.declared.designated.Tagged.{Tagged}

abbrev pub Key : Type 0
Key = Vec ℕ Global

abbrev pub NameMap : Type 0 → Type 0
NameMap A = IndexMap Key A (BuildHasherDefault FoldHasher)

abbrev pub named_entries : {A : Type 0} → List (Key × A) → List (Name × A)
named_entries es = map (λ e. (e.0.items, e.1)) es

unfoldable pub scope_with : NameMap Designated → NameMap Tagged → Scope
scope_with names tags = record { names = named_entries names.entries; tags = named_entries tags.entries }
