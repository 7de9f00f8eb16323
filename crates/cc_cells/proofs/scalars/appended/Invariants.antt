use Rattle.std.proofs.Common.{◌≡◌, ◌++◌, take}
use Rattle.cc_cells.proofs.scalars.appended.Given as goal

abbrev pub invariant-loop-value : goal.invariant-loop-value
invariant-loop-value l = l.all.items ≡ l.fn.front.items ++ take l.value-index l.values
