-- Sets of addresses. Each address of an exact set is a member, whatever its activation. Another set has all
-- addresses of its members' places.
use Rattle.std.specs.Prelude.{ℕ, ◌+◌, ◌-◌, ◌≤◌, ◌≡◌, ◌↔◌, ◌⊎◌, false, List, length, if◌then◌else◌}
use Rattle.std.specs.List.{Contains}
use Rattle.cc_program.specs.declared.value.Address.{Address}
use Rattle.cc_places.specs.declared.addrs.Addrs.{Addrs}
use Rattle.cc_places.specs.Kept.{kept, starred, member_for}
use Rattle.cc_places.specs.Members.{most_exact}

-- the set has the address
abbrev pub HasAddress : Addrs → Address → Type 0
HasAddress s a = Contains s.members (member_for s.is_exact a)

-- each address of the one is in the other
abbrev pub IsWithin : Addrs → Addrs → Type 0
IsWithin x y = (a : Address) → HasAddress x a → HasAddress y a

-- no more addresses than an exact set can tell
abbrev pub AreFew : (Address → Type 0) → Type 0
AreFew within = (members : List Address) × (length members ≤ most_exact) × ((a : Address) → within a → Contains members (kept a))

-- s is the set of some addresses: it tells them exactly where they are few, and else by their places
pub record IsSetOf (within : Address → Type 0) (s : Addrs) : Type 0 where
  pub has : (a : Address) → HasAddress s a ↔ ((b : Address) × within b × (member_for s.is_exact b ≡ member_for s.is_exact a))
  pub exact : s.is_exact ≡ false → AreFew within → ⊥

-- the addresses of two sets
abbrev pub EitherHas : Addrs → Addrs → Address → Type 0
EitherHas x y a = HasAddress x a ⊎ HasAddress y a

-- the addresses of a set and one more
abbrev pub OneMore : Addrs → Address → Address → Type 0
OneMore s a b = HasAddress s b ⊎ (b ≡ a)

-- the addresses in the places of a set's own
abbrev pub InPlaceOf : Addrs → Address → Type 0
InPlaceOf s b = (a : Address) × HasAddress s a × (starred a ≡ starred b)

-- the members of a list, each starred
abbrev pub AreStarred : List Address → List Address → Type 0
AreStarred members places = (b : Address) → Contains places b ↔ ((m : Address) × Contains members m × (starred m ≡ b))

-- how often a set can still rise where sets that are not exact have at most so many members
abbrev pub room_left : ℕ → Addrs → ℕ
room_left most s = if s.is_exact then most + 1 + (most_exact - length s.members) else most - length s.members
