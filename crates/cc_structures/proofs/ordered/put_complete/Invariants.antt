use Rattle.std.proofs.Common.{◌≡◌, ◌++◌, take, filter}
use Rattle.cc_structures.specs.Structures.{is_complete}
use Rattle.cc_structures.specs.View.{knowns_of}
use Rattle.cc_structures.proofs.ordered.put_complete.Given as goal

abbrev pub invariant-loop-s : goal.invariant-loop-s
invariant-loop-s l = knowns_of l.order.items ≡ knowns_of l.initial.order.items ++ filter is_complete (knowns_of (take l.s-index l.knowns))
