-- What the code's spots stand for.
use Rattle.std.specs.Option.{option_copied}
use Rattle.cc_bodies.specs.declared.spots.Spot.{Spot as CodeSpot}
use Rattle.cc_bodies.specs.declared.spots.Spot.TheVariants as spot
use Rattle.cc_bodies.specs.Spots.{Spot, Whole, Operand, Converted, Pointed}

abbrev pub spot_of : CodeSpot → Spot
spot_of (spot.Whole to) = Whole (option_copied to)
spot_of spot.Operand = Operand
spot_of spot.Converted = Converted
spot_of spot.Pointed = Pointed
