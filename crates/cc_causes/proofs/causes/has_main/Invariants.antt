use Rattle.std.proofs.Common.{◌≡◌, false, map, take}
use Rattle.std.specs.List.{list_any}
use Rattle.cc_causes.specs.Causes.{is_main}
use Rattle.cc_things.specs.View.{thing_view}
use Rattle.cc_causes.proofs.causes.has_main.Given as goal

abbrev pub invariant-loop-t : goal.invariant-loop-t
invariant-loop-t l = list_any is_main (map thing_view (take l.t-index l.things)) ≡ false
