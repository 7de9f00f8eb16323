-- A pointer that can be moved points to an object.
use Rattle.std.proofs.Common.{◌≡◌, Bool, true, false, ◌&&◌, Option, Some, None, option_map, refl}
use Rattle.std.specs.Prelude.{is_some}
use Rattle.cc_typed.specs.CcSyntax.Operators.{when}
use Rattle.cc_typed.specs.CcSyntax.Values.{ValueType}
use Rattle.cc_typed.specs.View.{value_view}
use Rattle.cc_typed.specs.declared.values.ValueType.{ValueType as CodeValue}

pub moved_is : (r : Option CodeValue) (p : Bool) (v : ValueType) → option_map value_view r ≡ when (p && true) v → is_some r ≡ p
moved_is None true v h = cc
moved_is None false v h = refl
moved_is (Some x) true v h = refl
moved_is (Some x) false v h = cc

pub ruleset of_moves = (moved_is)
