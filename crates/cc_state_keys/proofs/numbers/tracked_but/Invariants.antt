use Rattle.std.proofs.Common.{◌≡◌, ℕ, take}
use Rattle.cc_state_keys.specs.Lists.{made_from}
use Rattle.cc_state_keys.specs.Tracked.{most_tracked, may_be_tracked}
use Rattle.cc_state_keys.proofs.numbers.tracked_but.Given as goal

abbrev pub invariant-loop-i : goal.invariant-loop-i
invariant-loop-i l = l.tracked.items ≡ take most_tracked (made_from (may_be_tracked l.taken) (λ (n : ℕ). n) 0 (take l.i l.object-items))
