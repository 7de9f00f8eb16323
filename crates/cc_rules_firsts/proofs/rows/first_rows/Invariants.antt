use Rattle.cc_rules_firsts.proofs.RowLemmas.{AreRowsBelow}
use Rattle.cc_rules_firsts.proofs.rows.first_rows.Given as goal

abbrev pub invariant-loop-row : goal.invariant-loop-row
invariant-loop-row g l = AreRowsBelow g.I.Concrete.Has g.I.Lattice.IsBelow l.values l.objects l.rows.items l.row
