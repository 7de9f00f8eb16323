use Rattle.std.proofs.Common.{◌≡◌, ◌<◌, length}
use Rattle.cc_control.specs.Control.{close}
use Rattle.cc_control.specs.View.{left_of, levels_of}
use Rattle.cc_control.proofs.Begun.{depth}
use Rattle.cc_control.proofs.begin.begin.Given as goal

abbrev pub invariant-loop-inside : goal.invariant-loop-inside
invariant-loop-inside l =
    (0 < length l.inside.list.now) × (close (left_of l.inside) l.at (levels_of l.levels.items) ≡ close (left_of l.left) l.position (levels_of l.around))

abbrev pub decreases-loop-inside : goal.decreases-loop-inside
decreases-loop-inside l = depth l.inside.list.now
