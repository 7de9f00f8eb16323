use Rattle.std.proofs.Common.{◌≡◌, length}
use Rattle.cc_places.specs.Kept.{path_for}
use Rattle.cc_places.specs.Order.{path_order}
use Rattle.cc_places.proofs.order.compare_paths.Given as goal

abbrev pub invariant-loop-left : goal.invariant-loop-left
invariant-loop-left l = path_order l.left (path_for l.is_exact l.right) ≡ path_order l.fn.path (path_for l.is_exact l.fn.other)

abbrev pub decreases-loop-left : goal.decreases-loop-left
decreases-loop-left l = length l.left
