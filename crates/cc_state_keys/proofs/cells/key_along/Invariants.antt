use Rattle.std.proofs.Common.{◌≡◌, length, Some}
use Rattle.cc_state_keys.specs.Keys.{key_along as key_along_of}
use Rattle.cc_state_keys.proofs.cells.key_along.Given as goal
use Rattle.cc_eval.specs.CcTyped.View.{place_view}

abbrev pub invariant-loop-left : goal.invariant-loop-left
invariant-loop-left l = key_along_of l.structures l.left (Some (place_view l.place)) l.key ≡ key_along_of l.structures l.fn.path (Some (place_view l.fn.start)) l.fn.before

abbrev pub decreases-loop-left : goal.decreases-loop-left
decreases-loop-left l = length l.left
