-- The values of a slot: how many there are, which are told one by one, and whether they can be told apart.
use Rattle.std.specs.Prelude.{ℕ, ◌^◌, Bool, true, false, ◌&&◌, List, [], length, map}
use Rattle.std.specs.List.{list_all}
use Rattle.cc_places.specs.declared.abs.Abs.{Abs}
use Rattle.cc_places.specs.declared.abs.Abs.TheVariants.{Ints, Addrs}
use Rattle.cc_places.specs.Abstract.{HasValue}
use Rattle.cc_program.specs.declared.value.Address.{Address}
use Rattle.cc_program.specs.declared.value.Address.TheVariants as address
use Rattle.cc_program.specs.declared.value.Root.TheVariants as root
use Rattle.cc_program.specs.declared.value.Value.{Value}
use Rattle.cc_program.specs.declared.value.Value.TheVariants as value
use Rattle.cc_sets.specs.declared.vals.Vals.{Vals}
use Rattle.cc_sets.specs.declared.vals.Vals.TheVariants.{Few, Many}
use Rattle.cc_sets.specs.Rungs.{ValsHas}

-- how many values there are
abbrev pub count_of : Abs Vals → ℕ
count_of (Ints (Few s)) = length s.items.items
count_of (Ints (Many r)) = 2 ^ r.bits
count_of (Addrs s) = length s.members

-- the members that are told one by one, in their order: integers ascending; null, functions, objects by number, path and index
abbrev pub members_of : Abs Vals → List Value
members_of (Ints (Few s)) = map value.Int s.items.items
members_of (Ints (Many r)) = []
members_of (Addrs s) = map value.Place s.members

-- whether they are all told so
abbrev pub are_listed : Abs Vals → Bool
are_listed (Ints (Few s)) = true
are_listed (Ints (Many r)) = false
are_listed (Addrs s) = true

-- the value is one of them
abbrev pub Has : Abs Vals → Value → Type 0
Has values v = HasValue ValsHas values v

-- an automatic address stands for those of all activations
abbrev pub is_static : Address → Bool
is_static address.Null = true
is_static (address.Func f) = true
is_static (address.At (root.Static object) path index count) = true
is_static (address.At (root.Auto activation func local) path index count) = false

-- whether each value can be told from the others: a set of addresses that is not exact, or has an automatic one, has more
-- than its members
abbrev pub has_coding : Abs Vals → Bool
has_coding (Ints x) = true
has_coding (Addrs s) = s.is_exact && list_all is_static s.members
