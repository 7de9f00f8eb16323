use Rattle.std.proofs.Common.{◌≡◌, take, false}
use Rattle.std.specs.List.{list_any}
use Rattle.cc_control.specs.View.{is_wanted}
use Rattle.cc_control.proofs.labels.has_wanted.Given as goal

abbrev pub invariant-loop-label : goal.invariant-loop-label
invariant-loop-label l = list_any (is_wanted l.wanted) (take l.label-index l.labels) ≡ false
