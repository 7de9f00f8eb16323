use Rattle.std.proofs.Common.{◌≡◌, ◌^◌, min, take}
use Rattle.cc_lex.specs.ScanParts.{value_of}
use Rattle.cc_lex.proofs.numbers.capped_value.Given as goal

abbrev pub invariant-loop-b : goal.invariant-loop-b
invariant-loop-b l = l.value ≡ min (value_of l.base (take l.b-index l.digits)) (2 ^ 64)
