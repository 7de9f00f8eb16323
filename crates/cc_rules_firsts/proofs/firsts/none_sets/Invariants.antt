use Rattle.cc_rules_firsts.specs.Firsts.{AreNoneOf}
use Rattle.cc_rules_firsts.proofs.firsts.none_sets.Given as goal

abbrev pub invariant-loop-kind : goal.invariant-loop-kind
invariant-loop-kind g l = AreNoneOf g.I.Lattice.IsBelow l.kinds l.kind-index l.sets.items
