use Rattle.std.proofs.Common.{◌≡◌, take}
use Rattle.cc_structures.specs.Ordered.{positions_of}
use Rattle.cc_structures.specs.View.{knowns_of}
use Rattle.cc_structures.proofs.ordered.positions.Given as goal

abbrev pub invariant-loop-s : goal.invariant-loop-s
invariant-loop-s l = l.positions.items ≡ positions_of l.numbers l.found.keys (knowns_of (take l.s-index l.knowns))
