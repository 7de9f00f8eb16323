use Rattle.std.proofs.Common.{◌≡◌, take, map}
use Rattle.cc_flow.specs.View.{case_total}
use Rattle.cc_flow.proofs.counts.sizes.Given as goal

abbrev pub invariant-loop-case : goal.invariant-loop-case
invariant-loop-case l = l.sizes.items ≡ map case_total (take l.case-index l.cases)
