use Rattle.std.proofs.Common.{◌≡◌, ◌<◌, ◌^◌, length, option_map}
use Rattle.std.specs.List.{list_any}
use Rattle.cc_control.specs.Control.{from_label}
use Rattle.cc_control.specs.View.{counted_at, is_wanted}
use Rattle.cc_control.proofs.labels.from_case.Given as goal

abbrev pub invariant-loop-case : goal.invariant-loop-case
invariant-loop-case l = (l.before < 2 ^ 32) × (option_map counted_at (from_label (list_any (is_wanted l.wanted)) 0 l.cases) ≡ option_map counted_at (from_label (list_any (is_wanted l.wanted)) l.before l.left))

abbrev pub decreases-loop-case : goal.decreases-loop-case
decreases-loop-case l = length l.left
