use Rattle.std.proofs.Common.{◌≡◌, map, take}
use Rattle.cc_steps.specs.Whole.{position_in}
use Rattle.cc_steps.proofs.activation.Activation.path.Given as goal

abbrev pub invariant-loop-level : goal.invariant-loop-level
invariant-loop-level l = l.path.items ≡ map position_in (take l.level-index l.self.around.items)
