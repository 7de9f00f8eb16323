use Rattle.std.proofs.Common.{◌≡◌, length}
use Rattle.cc_typed.specs.CcSyntax.Sound.{devices_differ as devices_differ_of}
use Rattle.cc_sound.proofs.program.devices_differ.Given as goal

abbrev pub invariant-loop-left : goal.invariant-loop-left
invariant-loop-left l = devices_differ_of l.left ≡ devices_differ_of l.fn.devices

abbrev pub decreases-loop-left : goal.decreases-loop-left
decreases-loop-left l = length l.left
