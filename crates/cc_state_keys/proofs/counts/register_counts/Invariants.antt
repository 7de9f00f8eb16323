use Rattle.std.proofs.Common.{◌≡◌, length, map, take}
use Rattle.cc_state_keys.specs.Tracked.{registers}
use Rattle.cc_state_keys.proofs.counts.register_counts.Given as goal

abbrev pub invariant-loop-func : goal.invariant-loop-func
invariant-loop-func l = l.counts.items ≡ map (λ f. length (registers f)) (take l.func-index l.func-items)
