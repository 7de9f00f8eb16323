use Rattle.std.proofs.Common.{◌≡◌}
use Rattle.cc_rules_firsts.specs.Firsts.{asked_of_sets}
use Rattle.cc_rules_firsts.proofs.firsts.asked_of_sets.Given as goal

abbrev pub invariant-loop-set : goal.invariant-loop-set
invariant-loop-set g l = l.asked.items ≡ asked_of_sets 0 l.yielded
