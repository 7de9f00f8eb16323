use Rattle.std.proofs.Common.{◌≡◌, ◌++◌, take, filter, not}
use Rattle.cc_structures.specs.Structures.{Known, is_complete}
use Rattle.cc_structures.specs.View.{knowns_of}
use Rattle.cc_structures.proofs.ordered.put_named.Given as goal

abbrev pub invariant-loop-s : goal.invariant-loop-s
invariant-loop-s l = knowns_of l.order.items ≡ knowns_of l.initial.order.items ++ filter (λ (k : Known). not (is_complete k)) (knowns_of (take l.s-index l.knowns))
