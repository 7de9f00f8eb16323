use Rattle.cc_states.specs.CcSteps.View.{state_of}
use Rattle.cc_meaning.proofs.Kept.{is_first}
use Rattle.cc_meaning.proofs.turns.start.Goals as goal

pub invariant_of-result : goal.invariant_of-result
invariant_of-result c =
    record { is_state = is_first c.args.p.now c.in_ok-program.field-0.program.now (state_of c.in_ok-program.field-0) c.args.inputs.items c.requires c.in_ok-program.ensures.program c.in_ok-program.ensures.state }
