use Rattle.std.proofs.lemmas.Result.{on_ok_weaker}
use Rattle.cc_steps.specs.View.{state_of}
use Rattle.cc_steps.proofs.OpenedLemmas.{idle-opens}
use Rattle.cc_steps.proofs.run.Run.step.Goals as goal

pub returns-in-None-clause-opened : goal.returns-in-None-clause-opened
returns-in-None-clause-opened c =
    on_ok_weaker c.go_on.result (idle-opens c.args.self.now.program.now (state_of c.args.self.now) (state_of c.go_on.new.self)) c.go_on.ensures.turn
