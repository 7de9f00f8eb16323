-- A twin of the code: its machine, as a state.
use Rattle.std.specs.Prelude.{List}
use Rattle.cc_machine.specs.declared.machine.Machine.{Machine}
use Rattle.cc_machine.specs.declared.waiting.Waiting.{Waiting}
use Rattle.cc_machine.specs.Waits.{waiting}
use Rattle.cc_tree.specs.declared.state.Control.{Control}
use Rattle.cc_tree.specs.declared.state.Frame.{Frame}
use Rattle.cc_tree.specs.declared.state.Turn.{Turn}
use Rattle.cc_tree.specs.Machine.{State}
use Rattle.cc_tree.specs.Tokens.{Tokens}
use Rattle.cc_tree.specs.Turns.{Went, went_of}

abbrev pub state_of : Machine → Control → Tokens → State
state_of m c ts = record { scope = m.scope; frames = waiting m.frames; control = c; rest = ts }

-- a turn, and what is left waiting
abbrev pub handed : Waiting → Turn → List Frame × Went
handed w t = (waiting w, went_of t)
