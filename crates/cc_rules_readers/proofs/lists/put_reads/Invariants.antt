use Rattle.std.proofs.Common.{◌≡◌, ◌++◌, map, take, slice_get}
use Rattle.std.specs.List.{filter}
use Rattle.cc_rules_asked.specs.CcRules.Constraints.{Flow}
use Rattle.cc_rules_again.specs.Again.{number_at}
use Rattle.cc_rules_readers.specs.Points.{on, reads_in}
use Rattle.cc_rules_readers.proofs.lists.put_reads.Given as goal

abbrev pub invariant-loop-point : goal.invariant-loop-point
invariant-loop-point l = l.list.items ≡ l.initial.list.items ++ map (number_at Flow) (filter (λ n. on (reads_in l.keys) (slice_get l.deeds n)) (take l.point-index l.points))
