use Rattle.std.proofs.Common.{drop, map}
use Rattle.cc_run.specs.Inputs.{input_of}
use Rattle.cc_run.proofs.Coming.{Came}
use Rattle.cc_run.proofs.inputs.inputs_in.Given as goal

abbrev pub invariant-loop-line : goal.invariant-loop-line
invariant-loop-line l = Came (map input_of l.lines) l.inputs.items (map input_of (drop l.line-index l.lines))
