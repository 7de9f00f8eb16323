use Rattle.std.proofs.Common.{◌≡◌, drop, map}
use Rattle.std.specs.Vec.Iter.{into_iter_items}
use Rattle.cc_designators.proofs.Arguments.{ahead}
use Rattle.cc_designators.proofs.calls.passed.Given as goal
use Rattle.cc_designators.specs.Calls.{passed}
use Rattle.cc_operands.specs.View.{operand_view}

abbrev pub invariant-loop-t : goal.invariant-loop-t
invariant-loop-t l = ahead l.values.items (passed l.target (drop l.t-index l.params) (map operand_view (into_iter_items l.xs))) ≡ passed l.target l.fn.params (map operand_view l.fn.args)
