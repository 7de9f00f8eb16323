-- The addresses to which those of a set are moved by numbers (C99 6.5.6, 8).
use Rattle.std.specs.Prelude.{ℤ, ◌≡◌, Bool, true, false, List, Some}
use Rattle.std.specs.List.{Contains}
use Rattle.cc_program.specs.declared.value.Address.{Address}
use Rattle.cc_values.specs.Values.{moved_address}
use Rattle.cc_places.specs.declared.addrs.Addrs.{Addrs}
use Rattle.cc_places.specs.Kept.{is_object}
use Rattle.cc_places.specs.Sets.{HasAddress}

-- an address to which another one is moved without a trap by one of the numbers
abbrev pub IsMoved : (ℤ → Type 0) → Address → Address → Type 0
IsMoved by a b = (n : ℤ) × by n × (moved_address false n a ≡ Some b)

abbrev pub AreMoved : (ℤ → Type 0) → List Address → Address → Type 0
AreMoved by members b = (a : Address) × Contains members a × IsMoved by a b

-- the members of an exact set are moved; the addresses of a starred place stay in it, whatever the numbers are, and null
-- and functions trap
abbrev pub HasMoved : (ℤ → Type 0) → Addrs → Bool → Address → Type 0
HasMoved by s true b = AreMoved by s.members b
HasMoved by s false b = HasAddress s b × (is_object b ≡ true)
