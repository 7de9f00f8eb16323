use Rattle.std.proofs.Common.{◌≡◌, None, map, take}
use Rattle.std.specs.Prelude.{find}
use Rattle.cc_things.specs.View.{thing_view}
use Rattle.cc_causes.specs.Causes.{is_twice}
use Rattle.cc_causes.proofs.causes.first_defined_twice.Given as goal

abbrev pub invariant-loop-t : goal.invariant-loop-t
invariant-loop-t l = find is_twice (map thing_view (take l.t-index l.things)) ≡ None
