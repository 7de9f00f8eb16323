use Rattle.std.proofs.Common.{ℕ, List}
use Rattle.cc_names.specs.View.{HaveSame}
use Rattle.cc_lower_numbers.proofs.TemporaryNames.{AreGiven}
use Rattle.cc_lower_numbers.proofs.names.free_names.Given as goal

abbrev pub invariant-loop-number : goal.invariant-loop-number
invariant-loop-number l = (reserved : List (List ℕ)) → HaveSame l.names reserved → AreGiven reserved l.count l.number l.out.items
