use Rattle.std.proofs.Common.{◌≡◌, ◌++◌, option_map, length}
use Rattle.cc_states.specs.CcTyped.View.{place_view}
use Rattle.cc_states.specs.CcSteps.Rows.{steps}
use Rattle.cc_run.specs.Trace.{steps_text}
use Rattle.cc_run.proofs.trace.put_steps.Given as goal

abbrev pub invariant-loop-left : goal.invariant-loop-left
invariant-loop-left l = l.text.items ++ steps_text (steps l.p l.left (option_map place_view l.place)) ≡ l.fn.text.items ++ steps_text (steps l.p l.path (option_map place_view l.start))

abbrev pub decreases-loop-left : goal.decreases-loop-left
decreases-loop-left l = length l.left
