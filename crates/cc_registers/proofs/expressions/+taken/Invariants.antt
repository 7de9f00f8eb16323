use Rattle.std.proofs.Common.{◌≡◌, ◌++◌, take}
use Rattle.std.specs.List.{flat_map}
use Rattle.cc_registers.specs.Taken.{taken_in}
use Rattle.cc_registers.proofs.expressions.+taken.Given as goal

abbrev pub invariant-put_all_taken-loop-e : goal.invariant-put_all_taken-loop-e
invariant-put_all_taken-loop-e l = l.out.items ≡ l.fn.out.items ++ flat_map taken_in (take l.e-index l.es)
