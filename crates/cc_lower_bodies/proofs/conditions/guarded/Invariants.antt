use Rattle.std.proofs.Common.{◌≡◌, map, length}
use Rattle.cc_lower_bodies.specs.Conditions.{condition_view, nest}
use Rattle.cc_lower_bodies.proofs.conditions.guarded.Given as goal

abbrev pub invariant-loop-condition : goal.invariant-loop-condition
invariant-loop-condition l = nest (map condition_view l.fn.conditions.items) l.fn.these.items ≡ nest (map condition_view l.left.items) l.done.items

abbrev pub decreases-loop-condition : goal.decreases-loop-condition
decreases-loop-condition l = length l.left.items
