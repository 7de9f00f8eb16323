-- What a scalar may hold: integers, told by a domain, or addresses.
use Rattle.std.specs.Prelude.{ℤ}
use Rattle.cc_program.specs.declared.value.Value.{Value}
use Rattle.cc_program.specs.declared.value.Value.TheVariants as value
use Rattle.cc_places.specs.declared.abs.Abs.{Abs}
use Rattle.cc_places.specs.declared.abs.Abs.TheVariants as abs
use Rattle.cc_places.specs.Sets.{HasAddress, IsWithin}

-- both are of integers, or both of addresses
abbrev pub AreOfOneKind : {I : Type 0} → Abs I → Abs I → Type 0
AreOfOneKind (abs.Ints a) (abs.Ints b) = Unit {0}
AreOfOneKind (abs.Ints a) (abs.Addrs t) = ⊥
AreOfOneKind (abs.Addrs s) (abs.Ints b) = ⊥
AreOfOneKind (abs.Addrs s) (abs.Addrs t) = Unit {0}

-- the one is below the other, by the order of its kind
abbrev pub IsBelowAbs : {I : Type 0} → (I → I → Type 0) → Abs I → Abs I → Type 0
IsBelowAbs below (abs.Ints a) (abs.Ints b) = below a b
IsBelowAbs below (abs.Ints a) (abs.Addrs t) = ⊥
IsBelowAbs below (abs.Addrs s) (abs.Ints b) = ⊥
IsBelowAbs below (abs.Addrs s) (abs.Addrs t) = IsWithin s t

-- the value is among them
abbrev pub HasValue : {I : Type 0} → (I → ℤ → Type 0) → Abs I → Value → Type 0
HasValue has (abs.Ints a) (value.Int v) = has a v
HasValue has (abs.Ints a) (value.Place p) = ⊥
HasValue has (abs.Addrs s) (value.Int v) = ⊥
HasValue has (abs.Addrs s) (value.Place p) = HasAddress s p
