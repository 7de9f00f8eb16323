use Rattle.std.proofs.Common.{◌≡◌}
use Rattle.cc_structures.specs.Classes.{class_numbers, distinct}
use Rattle.cc_structures.proofs.classes.put_numbers.Given as goal

abbrev pub invariant-loop-key : goal.invariant-loop-key
invariant-loop-key g l = record {
  numbers : l.numbers.items ≡ class_numbers g.K.PartialEq.eq l.yielded;
  found : l.found.keys ≡ distinct g.K.PartialEq.eq l.yielded;
}
