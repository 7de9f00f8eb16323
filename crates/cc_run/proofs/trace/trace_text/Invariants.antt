use Rattle.std.proofs.Common.{◌≡◌, take}
use Rattle.cc_states.specs.CcSteps.Rows.{rows_of}
use Rattle.cc_run.specs.Trace.{rows_text}
use Rattle.cc_run.proofs.trace.trace_text.Given as goal

abbrev pub invariant-loop-event : goal.invariant-loop-event
invariant-loop-event l = l.text.items ≡ rows_text (rows_of l.p (take l.event-index l.trace))
