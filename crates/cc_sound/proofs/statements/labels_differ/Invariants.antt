use Rattle.std.proofs.Common.{◌≡◌, drop}
use Rattle.cc_typed.specs.CcSyntax.Statements.{are_apart, labels_of}
use Rattle.cc_sound.proofs.statements.labels_differ.Given as goal

abbrev pub invariant-loop-i : goal.invariant-loop-i
invariant-loop-i l = are_apart (labels_of (drop l.i l.cases)) ≡ are_apart (labels_of l.cases)
