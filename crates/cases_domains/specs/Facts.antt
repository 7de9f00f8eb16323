-- Facts whose tables have two parts.
use Rattle.std.specs.Prelude.{ℕ, ◌≡◌, [], ◌∷◌, length}
use Rattle.cc_lattice.specs.declared.pair.Pair.{Pair}
use Rattle.cc_lattice.specs.declared.table.Table.{Table}
use Rattle.cc_places.specs.declared.addrs.Addrs.{Addrs}
use Rattle.cc_sets.specs.declared.vals.Vals.{Vals}

-- the keys 0 and 1, and a set of addresses for each
abbrev pub AreTwo : Pair Vals (Table ℕ Addrs) → Type 0
AreTwo f = (f.second.keys ≡ 0 ∷ 1 ∷ []) × (length f.second.parts ≡ 2)
