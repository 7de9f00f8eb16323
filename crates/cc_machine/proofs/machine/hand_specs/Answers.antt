use Rattle.std.proofs.Common.{List}
use Rattle.cc_tree.specs.declared.at.At.{At}
use Rattle.cc_tree.specs.declared.state.Tall.{Tall}
use Rattle.cc_tree.specs.declared.tree.Spec.{Spec}
use Rattle.cc_tree.specs.TurnLines as lines
use Rattle.cc_tree.specs.Turns.{went_of}
use Rattle.cc_machine.specs.Waits.{waiting}
use Rattle.cc_machine.proofs.Taken.{hands-taken}
use Rattle.cc_machine.proofs.machine.hand_specs.Goals as goal

pub returns : goal.returns
returns c = hands-taken (λ (x : Tall (List (At Spec))). lines.to_specs x c.args.tokens.now) (waiting c.args.frames.now) (waiting c.taken.new.frames) c.args.specs c.in_ok-frame.specs c.in_ok-frame.frame c.args.tokens.now (went_of c.in_ok-to_specs.field-0) c.in_ok-frame.ensures c.in_ok-to_specs.ensures
