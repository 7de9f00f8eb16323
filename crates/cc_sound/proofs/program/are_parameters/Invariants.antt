use Rattle.std.proofs.Common.{◌≡◌, length}
use Rattle.cc_typed.specs.CcSyntax.Sound.{are_parameters as are_parameters_of}
use Rattle.cc_sound.proofs.program.are_parameters.Given as goal

abbrev pub invariant-loop-left : goal.invariant-loop-left
invariant-loop-left l = are_parameters_of l.left l.behind ≡ are_parameters_of l.fn.params l.fn.locals

abbrev pub decreases-loop-left : goal.decreases-loop-left
decreases-loop-left l = length l.left
