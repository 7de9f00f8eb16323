use Rattle.std.proofs.Common.{◌≡◌, ◌++◌, take}
use Rattle.std.specs.List.{filter}
use Rattle.cc_rules_flows.specs.Known.{comes_before}
use Rattle.cc_rules_flows.proofs.known.put_behind.Given as goal

abbrev pub invariant-loop-other : goal.invariant-loop-other
invariant-loop-other l = l.all.items ≡ l.initial.all.items ++ filter (comes_before l.pair) (take l.other-index l.pairs)
