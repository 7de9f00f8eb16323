use Rattle.std.proofs.Common.{◌≡◌, ◌-◌, ◌^◌, min, take}
use Rattle.cc_rows.specs.Numbers.{value_of}
use Rattle.cc_rows.proofs.number.value.Given as goal

abbrev pub invariant-loop-digit : goal.invariant-loop-digit
invariant-loop-digit l = l.number ≡ min (value_of (take l.digit-index l.digits)) (2 ^ 128 - 1)
