use Rattle.std.proofs.Common.{arith}
use Rattle.std.proofs.lemmas.Grind.{common_steps}
use Rattle.cc_steps.specs.View.{state_of}
use Rattle.cc_steps.proofs.StepLemmas.{proceed-went}
use Rattle.cc_steps.proofs.run.Run.running_next.Goals as goal

pub returns : goal.returns
returns c =
    let m = c.args.self.now in
    proceed-went m.program.now (state_of m) m.stack.items c.index.result.now (grind (arith, common_steps)) (grind (arith, common_steps)) c.in_ok-next.next c.in_ok-next.ensures
