use Rattle.std.proofs.Common.{◌≡◌, ◌++◌, drop}
use Rattle.std.specs.Vec.Iter.{into_iter_items}
use Rattle.cc_objects.specs.Values.{assignments}
use Rattle.cc_objects.proofs.values.assignments.Given as goal

abbrev pub invariant-loop-a : goal.invariant-loop-a
invariant-loop-a l = l.es.items ++ assignments (drop l.a-index l.places) (into_iter_items l.values) ≡ assignments l.places l.fn.values.items
