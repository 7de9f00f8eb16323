-- Of which kind sets are, and the values of locals.
use Rattle.std.specs.Prelude.{ℕ, Bool, true, false, slice_get}
use Rattle.cc_rules_asked.specs.CcPlaces.declared.abs.Abs.{Abs}
use Rattle.cc_rules_asked.specs.CcPlaces.declared.abs.Abs.TheVariants as abs
use Rattle.cc_program.specs.declared.func.Func.{Func}
use Rattle.cc_rules_grow.specs.CcState.Shape.{declared_type}
use Rattle.cc_state_shape.specs.Lowest.{declared_addresses}

abbrev pub is_set_of_addresses : {I : Type 0} → Abs I → Bool
is_set_of_addresses (abs.Ints x) = false
is_set_of_addresses (abs.Addrs s) = true

abbrev pub local_addresses : Func → ℕ → Bool
local_addresses f r = declared_addresses (declared_type (slice_get f.locals r))
