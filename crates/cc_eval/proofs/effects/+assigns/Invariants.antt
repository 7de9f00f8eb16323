use Rattle.std.proofs.Common.{◌≡◌, map, take}
use Rattle.cc_syntax.specs.Effects.{all_assigned, effects_of}
use Rattle.cc_eval.proofs.effects.+assigns.Given as goal

abbrev pub invariant-is_one_assigned-loop-e : goal.invariant-is_one_assigned-loop-e
invariant-is_one_assigned-loop-e l = l.found ≡ all_assigned (map (effects_of l.f) (take l.e-index l.es)) l.register
