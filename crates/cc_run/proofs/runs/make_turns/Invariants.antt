use Rattle.std.proofs.Common.{◌≡◌, ◌+◌, ◌-◌, ◌<◌, ◌^◌}
use Rattle.cc_states.specs.CcSteps.Runs.{run}
use Rattle.cc_meaning.specs.View.{state_of}
use Rattle.cc_run.specs.Driven.{arrivals_for}
use Rattle.cc_run.proofs.DriveLemmas.{Ahead, GivesWhole}
use Rattle.cc_run.proofs.runs.make_turns.Given as goal

abbrev pub invariant-loop-made : goal.invariant-loop-made
invariant-loop-made l = record {
  program : l.machine.program ≡ l.fn.machine.program;
  ahead : Ahead l.arrivals l.left l.made;
  whole : GivesWhole l.fn.machine.program.now (run l.fn.machine.program.now (state_of l.fn.machine) (arrivals_for l.arrivals 1 l.turns)) (state_of l.machine) l.arrivals l.made l.turns;
  few : (state_of l.machine).opened + (l.turns - l.made) < 2 ^ 64 - 1;
}
