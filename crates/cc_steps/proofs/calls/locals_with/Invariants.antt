use Rattle.std.proofs.Common.{◌≡◌, take}
use Rattle.cc_cells.specs.Cells.{cells_of}
use Rattle.cc_steps.specs.State.{locals_with as locals_with_of}
use Rattle.cc_steps.proofs.calls.locals_with.Given as goal

abbrev pub invariant-loop-i : goal.invariant-loop-i
invariant-loop-i l = cells_of l.all.items ≡ locals_with_of l.p l.args (take l.i l.locals)
