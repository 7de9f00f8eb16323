use Rattle.std.proofs.Common.{take}
use Rattle.cc_lattice.specs.Tables.{AreJoins}
use Rattle.cc_state_facts.specs.Orders.{IsRowJoin}
use Rattle.cc_state_facts.proofs.rows.joined_rows.Given as goal

abbrev pub invariant-loop-at : goal.invariant-loop-at
invariant-loop-at g l = AreJoins (IsRowJoin g.I.Lattice.IsBelow) (take l.at l.rows) (take l.at l.others) l.both.items
