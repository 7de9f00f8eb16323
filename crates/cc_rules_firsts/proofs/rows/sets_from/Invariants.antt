use Rattle.cc_rules_firsts.specs.Rows.{AreFrom}
use Rattle.cc_rules_firsts.proofs.rows.sets_from.Given as goal

abbrev pub invariant-loop-cell : goal.invariant-loop-cell
invariant-loop-cell g l = AreFrom g.I.Concrete.Has g.I.Lattice.IsBelow l.values l.objects l.first l.sets.items l.cell
