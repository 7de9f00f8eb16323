use Rattle.std.proofs.Common.{◌≡◌, None, map, take}
use Rattle.std.specs.Prelude.{find}
use Rattle.cc_things.specs.View.{thing_view}
use Rattle.cc_causes.specs.Causes.{is_undefined}
use Rattle.cc_causes.proofs.causes.first_undefined.Given as goal

abbrev pub invariant-loop-t : goal.invariant-loop-t
invariant-loop-t l = find is_undefined (map thing_view (take l.t-index l.things)) ≡ None
