use Rattle.std.proofs.Common.{◌≡◌, length}
use Rattle.cc_syntax.specs.Lists.{come_first}
use Rattle.cc_syntax.specs.Normal.{has_name}
use Rattle.cc_normal.proofs.devices.named_first.Given as goal

abbrev pub invariant-loop-left : goal.invariant-loop-left
invariant-loop-left l = come_first has_name l.left ≡ come_first has_name l.fn.devices

abbrev pub decreases-loop-left : goal.decreases-loop-left
decreases-loop-left l = length l.left
