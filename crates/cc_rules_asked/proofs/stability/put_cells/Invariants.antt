use Rattle.std.proofs.Common.{◌≡◌, ◌++◌, take}
use Rattle.cc_rules_asked.specs.Unstable.{parts_of_cells}
use Rattle.cc_rules_asked.proofs.stability.put_cells.Given as goal

abbrev pub invariant-loop-cell : goal.invariant-loop-cell
invariant-loop-cell g l = l.asked.items ≡ l.initial.asked.items ++ parts_of_cells l.number l.whole l.keys (take l.cell-index l.cells)
