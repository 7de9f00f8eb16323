use Rattle.std.proofs.Common.{take}
use Rattle.cc_lattice.specs.Tables.{AreJoins}
use Rattle.cc_state_facts.specs.Orders.{IsLevelJoin}
use Rattle.cc_state_facts.proofs.marks.level_joins.Given as goal

abbrev pub invariant-loop-at : goal.invariant-loop-at
invariant-loop-at l = AreJoins IsLevelJoin (take l.at l.sets) (take l.at l.others) l.both.items
