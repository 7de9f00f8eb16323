use Rattle.std.proofs.Common.{take}
use Rattle.cc_lattice.specs.Tables.{AreJoins}
use Rattle.cc_state_facts.specs.Orders.{IsMarkJoin}
use Rattle.cc_state_facts.proofs.marks.mark_joins.Given as goal

abbrev pub invariant-loop-at : goal.invariant-loop-at
invariant-loop-at l = AreJoins IsMarkJoin (take l.at l.marks) (take l.at l.others) l.both.items
