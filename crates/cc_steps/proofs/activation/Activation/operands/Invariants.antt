use Rattle.std.proofs.Common.{◌≡◌, take}
use Rattle.cc_eval.specs.Progress.{operands_of}
use Rattle.cc_steps.proofs.activation.Activation.operands.Given as goal

abbrev pub invariant-loop-mark : goal.invariant-loop-mark
invariant-loop-mark l = l.operands.items ≡ operands_of (take l.mark-index l.self.marks.items)
