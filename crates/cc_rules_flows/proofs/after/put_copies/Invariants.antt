use Rattle.std.proofs.Common.{◌≡◌, ◌++◌, map, take}
use Rattle.cc_rules_flows.proofs.after.put_copies.Given as goal

abbrev pub invariant-loop-k : goal.invariant-loop-k
invariant-loop-k g l = l.all.items ≡ l.initial.all.items ++ map (λ k. (k, l.fact)) (take l.k-index l.next)
