-- The state that a machine is in.
use Rattle.cc_meaning.specs.declared.machine.Machine.{Machine}
use Rattle.cc_states.specs.CcSteps.State.{State}
use Rattle.cc_states.specs.CcSteps.View.{state_of as state_of_run}

abbrev pub state_of : Machine → State
state_of m = state_of_run (record { program = m.program; flag = m.flag; statics = m.statics; stack = m.stack; inputs = m.inputs; trace = m.trace; opened = m.opened; end = m.end })
