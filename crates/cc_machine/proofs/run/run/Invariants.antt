use Rattle.std.proofs.Common.{◌≤◌}
use Rattle.cc_tree.specs.Height.{greatest_height}
use Rattle.cc_tree.specs.Machine.{LeadsWithin, start, height_of}
use Rattle.cc_tree.specs.Measure.{measure}
use Rattle.cc_machine.specs.View.{state_of}
use Rattle.cc_machine.proofs.run.run.Given as goal

abbrev pub invariant-turns : goal.invariant-turns
invariant-turns l = record {
  led : LeadsWithin greatest_height (start l.fn.tokens) (state_of l.machine l.control l.rest);
  low : height_of l.control ≤ greatest_height;
}

abbrev pub decreases-turns : goal.decreases-turns
decreases-turns l = measure (state_of l.machine l.control l.rest)
