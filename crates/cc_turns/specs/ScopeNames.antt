-- A twin of the code: its set of typedef names in scope, as the list of its names.
use Rattle.std.specs.Prelude.{ℕ, List, Vec, map}
use Rattle.std.specs.declared.alloc.Global.{Global}
use Rattle.std.specs.declared.hash.BuildHasherDefault.{BuildHasherDefault}
use Rattle.std.specs.declared.hash.FoldHasher.{FoldHasher}
use Rattle.indexmap.specs.IndexSet.{IndexSet}
use Rattle.cc_tree.specs.Tokens.{Name}

abbrev pub texts : List (Vec ℕ Global) → List Name
texts names = map (λ x. x.items) names

abbrev pub NameSet : Type 0
NameSet = IndexSet (Vec ℕ Global) (BuildHasherDefault FoldHasher)

unfoldable pub names_of : NameSet → List Name
names_of s = texts s.keys
