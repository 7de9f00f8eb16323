use Rattle.cc_rules_firsts.proofs.Among.{IsInFirst}
use Rattle.cc_rules_firsts.specs.Firsts.{AreWith}
use Rattle.cc_rules_firsts.proofs.firsts.put_objects.Given as goal

abbrev pub invariant-loop-i : goal.invariant-loop-i
invariant-loop-i g l = AreWith l.all g.I.Concrete.Has g.I.Lattice.IsBelow (IsInFirst l.keys l.values l.i) l.fn.sets l.sets
