use Rattle.std.proofs.Common.{◌≡◌, ◌≤◌, ◌+◌, ◌*◌, ◌^◌, take}
use Rattle.std.specs.List.{slice_get, sum_by}
use Rattle.std.specs.Option.{unwrap_or}
use Rattle.cc_state_keys.proofs.counts.facts_at_points.Given as goal

abbrev pub invariant-loop-point : goal.invariant-loop-point
invariant-loop-point l = record {
  sum : l.count ≡ sum_by (λ point. l.tracked + unwrap_or (slice_get l.counts point.func) 0) (take l.point-index l.points);
  few : l.count ≤ l.point-index * 2 ^ 33;
}
