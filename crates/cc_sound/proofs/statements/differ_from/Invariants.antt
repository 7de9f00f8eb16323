use Rattle.std.proofs.Common.{◌≡◌, length}
use Rattle.cc_typed.specs.CcSyntax.Statements.{labels_of}
use Rattle.cc_sound.specs.Cases.{apart_from}
use Rattle.cc_sound.proofs.statements.differ_from.Given as goal

abbrev pub invariant-loop-left : goal.invariant-loop-left
invariant-loop-left l = apart_from l.left (labels_of l.cases) ≡ apart_from l.fn.labels (labels_of l.cases)

abbrev pub decreases-loop-left : goal.decreases-loop-left
decreases-loop-left l = length l.left
