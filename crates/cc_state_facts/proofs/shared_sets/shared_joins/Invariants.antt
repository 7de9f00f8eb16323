use Rattle.std.proofs.Common.{take}
use Rattle.cc_lattice.specs.Orders.{IsLeastUpperBound}
use Rattle.cc_lattice.specs.Tables.{AreJoins}
use Rattle.cc_state_facts.proofs.shared_sets.shared_joins.Given as goal

abbrev pub invariant-loop-at : goal.invariant-loop-at
invariant-loop-at g l = AreJoins (IsLeastUpperBound g.L.Lattice.AreAlike g.L.Lattice.IsBelow) (take l.at l.sets) (take l.at l.others) l.both.items
