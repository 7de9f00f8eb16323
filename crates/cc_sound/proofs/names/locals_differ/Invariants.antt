use Rattle.std.proofs.Common.{◌≡◌, ◌++◌, length}
use Rattle.cc_program.specs.CcWords.Names.{are_distinct}
use Rattle.cc_typed.specs.CcSyntax.Names.{local_names, file_names}
use Rattle.cc_sound.proofs.names.locals_differ.Given as goal

abbrev pub invariant-loop-left : goal.invariant-loop-left
invariant-loop-left l = are_distinct (local_names l.left ++ file_names l.p) ≡ are_distinct (local_names l.fn.locals ++ file_names l.p)

abbrev pub decreases-loop-left : goal.decreases-loop-left
decreases-loop-left l = length l.left
