-- Order and positions, worked out.
use Rattle.std.proofs.Common.{◌≡◌, ℕ, [], ◌∷◌, refl}
use Rattle.cc_order.specs.Order.{in_order}
use Rattle.cc_order.specs.Places.{stands_before}
use Rattle.cc_order.specs.declared.place.Place.{Place}

abbrev place : ℕ → ℕ → ℕ → Place
place source offset number = record { source = source; offset = offset; number = number }

-- sources come first, then offsets, and at one offset the earlier of the list
four : in_order stands_before (place 1 2 0 ∷ place 0 9 1 ∷ place 1 0 2 ∷ place 0 9 3 ∷ []) ≡ place 0 9 1 ∷ place 0 9 3 ∷ place 1 0 2 ∷ place 1 2 0 ∷ []
unfolding in_order
four = refl
