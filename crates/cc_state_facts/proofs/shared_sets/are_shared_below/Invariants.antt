use Rattle.std.proofs.Common.{take}
use Rattle.std.specs.List.{AllZip}
use Rattle.cc_state_facts.proofs.shared_sets.are_shared_below.Given as goal

abbrev pub invariant-loop-at : goal.invariant-loop-at
invariant-loop-at g l = AllZip g.L.Lattice.IsBelow (take l.at l.sets) (take l.at l.others)
