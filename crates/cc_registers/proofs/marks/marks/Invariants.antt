use Rattle.std.proofs.Common.{◌≡◌, take}
use Rattle.cc_registers.specs.Marks.{marks_of}
use Rattle.cc_registers.proofs.marks.marks.Given as goal

abbrev pub invariant-loop-number : goal.invariant-loop-number
invariant-loop-number l = l.marks.items ≡ marks_of l.count (take l.number-index l.list)
