use Rattle.std.proofs.Common.{◌≡◌, ◌≤◌, length, reverse, take}
use Rattle.cc_scopes.specs.State.{tagged}
use Rattle.cc_scopes.proofs.state.State.tagged.Given as goal

abbrev pub invariant-loop-n : goal.invariant-loop-n
invariant-loop-n l = (l.n ≤ length l.scopes) × (tagged l.name (reverse (take l.n l.scopes)) ≡ tagged l.fn.name (reverse l.fn.self.scopes.items))

abbrev pub decreases-loop-n : goal.decreases-loop-n
decreases-loop-n l = l.n
