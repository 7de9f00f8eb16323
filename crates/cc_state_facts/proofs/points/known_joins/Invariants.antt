use Rattle.std.proofs.Common.{take}
use Rattle.cc_lattice.specs.Tables.{AreJoins}
use Rattle.cc_state_facts.specs.Orders.{IsKnownJoin}
use Rattle.cc_state_facts.proofs.points.known_joins.Given as goal

abbrev pub invariant-loop-at : goal.invariant-loop-at
invariant-loop-at g l = AreJoins (IsKnownJoin g.I.Lattice.IsBelow) (take l.at l.points) (take l.at l.others) l.both.items
