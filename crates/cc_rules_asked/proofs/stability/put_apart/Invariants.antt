use Rattle.std.proofs.Common.{◌≡◌, ◌++◌, take}
use Rattle.cc_rules_asked.specs.Unstable.{parts_apart}
use Rattle.cc_rules_asked.proofs.stability.put_apart.Given as goal

abbrev pub invariant-loop-cell : goal.invariant-loop-cell
invariant-loop-cell g l = l.asked.items ≡ l.initial.asked.items ++ parts_apart l.number (take l.cell-index l.cells) l.register
