use Rattle.std.proofs.Common.{◌≡◌, ◌++◌, drop}
use Rattle.cc_numbering.specs.Names.{own_ids}
use Rattle.cc_numbering.proofs.names.own_ids.Given as goal

abbrev pub invariant-loop-i : goal.invariant-loop-i
invariant-loop-i l = l.ids.items ++ own_ids l.i (drop l.i l.names) ≡ own_ids 0 l.names
