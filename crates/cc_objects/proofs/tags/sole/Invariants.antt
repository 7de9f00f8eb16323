use Rattle.std.proofs.Common.{◌≡◌, length}
use Rattle.cc_objects.specs.Tags.{sole_spec}
use Rattle.cc_objects.proofs.tags.sole.Given as goal

abbrev pub invariant-loop-rest : goal.invariant-loop-rest
invariant-loop-rest l = sole_spec l.rest ≡ sole_spec l.specs

abbrev pub decreases-loop-rest : goal.decreases-loop-rest
decreases-loop-rest l = length l.rest
