use Rattle.cc_tree.specs.declared.at.At.{At}
use Rattle.cc_tree.specs.declared.state.Tall.{Tall}
use Rattle.cc_tree.specs.declared.unit.Given.{Given}
use Rattle.cc_tree.specs.TurnLines as lines
use Rattle.cc_tree.specs.Turns.{went_of}
use Rattle.cc_machine.specs.Waits.{waiting}
use Rattle.cc_machine.proofs.Taken.{hands-taken}
use Rattle.cc_machine.proofs.machine.hand_value.Goals as goal

pub returns : goal.returns
returns c = hands-taken (λ (x : Tall (At Given)). lines.to_value x c.args.tokens.now) (waiting c.args.frames.now) (waiting c.taken.new.frames) c.args.value c.in_ok-frame.value c.in_ok-frame.frame c.args.tokens.now (went_of c.in_ok-to_value.field-0) c.in_ok-frame.ensures c.in_ok-to_value.ensures
