use Rattle.std.proofs.Common.{◌≡◌, length}
use Rattle.cc_typed.specs.CcSyntax.Lists.{come_first}
use Rattle.cc_typed.specs.CcSyntax.Sound.{is_only_named}
use Rattle.cc_sound.proofs.program.named_first.Given as goal

abbrev pub invariant-loop-left : goal.invariant-loop-left
invariant-loop-left l = come_first is_only_named l.left ≡ come_first is_only_named l.fn.structures

abbrev pub decreases-loop-left : goal.decreases-loop-left
decreases-loop-left l = length l.left
