use Rattle.std.proofs.Common.{◌≡◌, map, take}
use Rattle.cc_rules_asked.specs.CcSteps.Whole.{values_over}
use Rattle.cc_rules_firsts.proofs.initial.all_over.Given as goal

abbrev pub invariant-loop-object : goal.invariant-loop-object
invariant-loop-object l = l.all.items ≡ map (values_over l.structures) (take l.object-index l.objects)
