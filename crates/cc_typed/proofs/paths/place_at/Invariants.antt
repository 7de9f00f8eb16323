use Rattle.std.proofs.Common.{◌≡◌, length}
use Rattle.cc_syntax.specs.Initial.{place_at as place_at_of}
use Rattle.cc_typed.specs.View.{place_view}
use Rattle.cc_typed.proofs.paths.place_at.Given as goal

abbrev pub invariant-loop-left : goal.invariant-loop-left
invariant-loop-left l = place_at_of l.structures l.left (place_view l.place) ≡ place_at_of l.structures l.fn.path (place_view l.fn.start)

abbrev pub decreases-loop-left : goal.decreases-loop-left
decreases-loop-left l = length l.left
