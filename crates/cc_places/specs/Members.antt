-- What the members of a set of addresses are, and where one is put.
use Rattle.std.specs.Prelude.{ℕ, suc, Bool, true, false, ◌&&◌, ◌||◌, nat_le, nat_lt, List, [], ◌∷◌, length}
use Rattle.std.specs.List.{list_all, list_any}
use Rattle.std.specs.declared.cmp.Ordering.{Ordering}
use Rattle.std.specs.declared.cmp.Ordering.TheVariants.{Less, Equal, Greater}
use Rattle.cc_program.specs.declared.value.Address.{Address}
use Rattle.cc_places.specs.Kept.{is_kept, is_starred, is_object}
use Rattle.cc_places.specs.Order.{order, ascends}

-- how many addresses a set can tell exactly
abbrev pub most_exact : ℕ
most_exact = 64

-- whether there is an object, or more than an exact set has
abbrev pub are_many : List Address → Bool
are_many members = list_any is_object members || nat_lt most_exact (length members)

-- whether a list is that of the members of a set: exact ones, or with a starred place for each object
abbrev pub are_members : Bool → List Address → Bool
are_members true members = ascends members && (list_all is_kept members && nat_le (length members) most_exact)
are_members false members = ascends members && (list_all is_starred members && are_many members)

-- how many members come before an address
abbrev pub place_by : Ordering → ℕ → ℕ
place_by Less place = suc place
place_by Equal place = 0
place_by Greater place = 0

abbrev pub place_of : Address → List Address → ℕ
place_of a [] = 0
place_of a (m ∷ behind) = place_by (order m a) (place_of a behind)

-- the members with an address at its place, once
abbrev pub put : Ordering → Address → Address → List Address → List Address → List Address
put Less a m behind more = m ∷ more
put Equal a m behind more = m ∷ behind
put Greater a m behind more = a ∷ m ∷ behind

abbrev pub added : Address → List Address → List Address
added a [] = a ∷ []
added a (m ∷ behind) = put (order m a) a m behind (added a behind)
