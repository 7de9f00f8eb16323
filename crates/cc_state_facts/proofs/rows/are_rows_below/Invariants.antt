use Rattle.std.proofs.Common.{take}
use Rattle.std.specs.List.{AllZip}
use Rattle.cc_state_facts.specs.Orders.{AreRowsBelow}
use Rattle.cc_state_facts.proofs.rows.are_rows_below.Given as goal

abbrev pub invariant-loop-at : goal.invariant-loop-at
invariant-loop-at g l = AllZip (AreRowsBelow g.I.Lattice.IsBelow) (take l.at l.rows) (take l.at l.others)
