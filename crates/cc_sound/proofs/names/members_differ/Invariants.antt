use Rattle.std.proofs.Common.{◌≡◌, length}
use Rattle.cc_program.specs.CcWords.Names.{are_distinct}
use Rattle.cc_typed.specs.CcSyntax.Names.{local_names}
use Rattle.cc_sound.proofs.names.members_differ.Given as goal

abbrev pub invariant-loop-left : goal.invariant-loop-left
invariant-loop-left l = are_distinct (local_names l.left) ≡ are_distinct (local_names l.fn.members)

abbrev pub decreases-loop-left : goal.decreases-loop-left
decreases-loop-left l = length l.left
