use Rattle.std.proofs.Common.{◌≡◌, ◌++◌, drop}
use Rattle.cc_structures.specs.Refined.{by_source}
use Rattle.cc_structures.specs.View.{units_of}
use Rattle.cc_structures.proofs.refined.by_source.Given as goal

abbrev pub invariant-loop-x : goal.invariant-loop-x
invariant-loop-x l = l.sources.items ++ by_source (units_of (drop l.x-index l.texts)) l.rest ≡ by_source (units_of l.texts) l.numbers
