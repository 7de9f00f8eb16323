use Rattle.std.proofs.Common.{◌≡◌, slice_get}
use Rattle.std.specs.List.{filter}
use Rattle.cc_rules_asked.specs.CcRulesNeeds.Flowing.{numbers}
use Rattle.cc_rules_readers.specs.Points.{on, passes_in}
use Rattle.cc_rules_readers.proofs.picked.picked.Given as goal

abbrev pub invariant-loop-point : goal.invariant-loop-point
invariant-loop-point l = l.points.items ≡ filter (λ n. on (passes_in l.test) (slice_get l.deeds n)) (numbers 0 l.point)
