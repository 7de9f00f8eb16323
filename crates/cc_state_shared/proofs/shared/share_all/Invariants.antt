use Rattle.std.proofs.Common.{◌≡◌, take}
use Rattle.cc_state_shared.proofs.shared.share_all.Given as goal

abbrev pub invariant-loop-value : goal.invariant-loop-value
invariant-loop-value g l = l.shared.items ≡ take l.value-index l.values
