use Rattle.cc_tree.specs.Height.{greatest_height}
use Rattle.cc_machine.proofs.Turned.{starts, starts-low}
use Rattle.cc_machine.proofs.run.run.Goals as goal

pub turns-init : goal.turns-init
turns-init c = record {
  led = starts greatest_height c.new-machine.result c.in_ok-control.control c.args.tokens.now c.new-machine.ensures.scope c.new-machine.ensures.frames c.in_ok-control.ensures;
  low = starts-low greatest_height c.in_ok-control.control c.in_ok-control.ensures;
}
