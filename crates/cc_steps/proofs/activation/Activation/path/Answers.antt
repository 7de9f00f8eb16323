use Rattle.std.proofs.Common.{arith}
use Rattle.std.proofs.lemmas.Grind.{common_steps}
use Rattle.cc_control.specs.View.{level_of}
use Rattle.cc_steps.proofs.BoundaryLemmas.{path-done}
use Rattle.cc_steps.proofs.activation.Activation.path.Goals as goal

pub returns : goal.returns
returns c =
    path-done (level_of c.args.self.now.here) c.args.self.now.around.items c.loop-level.level-index c.push-2.new.self.items (grind (arith, common_steps)) (grind (arith, common_steps))
