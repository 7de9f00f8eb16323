use Rattle.std.proofs.Common.{take}
use Rattle.std.specs.List.{AllZip}
use Rattle.cc_state_facts.specs.Orders.{IsKnownBelow}
use Rattle.cc_state_facts.proofs.points.are_known_below.Given as goal

abbrev pub invariant-loop-at : goal.invariant-loop-at
invariant-loop-at g l = AllZip (IsKnownBelow g.I.Lattice.IsBelow) (take l.at l.points) (take l.at l.others)
