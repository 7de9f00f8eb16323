-- What the code knows of addresses, as the definitions do.
use Rattle.cc_initial.specs.Addresses.{Spot, Located, NotConstant, Trapping, AtNull, AtFunction, AtSpot}
use Rattle.cc_initial.specs.declared.spot.Located.{Located as CodeLocated}
use Rattle.cc_initial.specs.declared.spot.Located.TheVariants as located
use Rattle.cc_initial.specs.declared.spot.Spot.{Spot as CodeSpot}
use Rattle.cc_operands.specs.CcTyped.View.{place_view}

abbrev pub spot_view : CodeSpot → Spot
spot_view s = record { object = s.object; path = s.path; element = s.element; index = s.index; count = s.count; type = place_view s.ctype }

abbrev pub located_view : CodeLocated → Located
located_view located.NotConstant = NotConstant
located_view located.Trapping = Trapping
located_view located.Null = AtNull
located_view (located.Function f) = AtFunction f
located_view (located.Spot s) = AtSpot (spot_view s)
