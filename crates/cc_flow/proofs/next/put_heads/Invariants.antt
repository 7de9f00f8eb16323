use Rattle.cc_flow.proofs.Heads.{HeadsLeft}
use Rattle.cc_flow.proofs.next.put_heads.Given as goal

abbrev pub invariant-loop-count : goal.invariant-loop-count
invariant-loop-count l = HeadsLeft l.counts l.fn.first l.initial.next.items l.count-index l.number l.next.items
