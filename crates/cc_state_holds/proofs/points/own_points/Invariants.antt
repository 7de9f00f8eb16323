use Rattle.cc_flow_sound.specs.Moves.{IsAt, standing}
use Rattle.cc_steps.specs.View.{active_of}
use Rattle.cc_state_holds.proofs.Counted.{ArePassed}
use Rattle.cc_state_holds.proofs.points.own_points.Given as goal

abbrev pub invariant-loop-n : goal.invariant-loop-n
invariant-loop-n g l = ArePassed (IsAt l.b.program.now (standing (active_of l.a))) l.points.items l.n
