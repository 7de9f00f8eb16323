use Rattle.cc_rules_firsts.proofs.Among.{IsAmongFirst}
use Rattle.cc_rules_firsts.specs.Firsts.{AreWith}
use Rattle.cc_rules_firsts.proofs.firsts.put_object.Given as goal

abbrev pub invariant-loop-n : goal.invariant-loop-n
invariant-loop-n g l = AreWith l.all g.I.Concrete.Has g.I.Lattice.IsBelow (IsAmongFirst l.keys l.values l.n) l.fn.sets l.sets
