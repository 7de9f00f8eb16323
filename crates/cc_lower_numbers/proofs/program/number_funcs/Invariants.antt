use Rattle.std.proofs.Common.{◌≡◌, map}
use Rattle.cc_lower_numbers.specs.Numbered.{numbered_func}
use Rattle.cc_lower_numbers.specs.Renamed.{number_at}
use Rattle.cc_lower_numbers.proofs.program.number_funcs.Given as goal

abbrev pub invariant-loop-f : goal.invariant-loop-f
invariant-loop-f l = l.out.items ≡ map (numbered_func l.names (number_at l.devices)) l.yielded
