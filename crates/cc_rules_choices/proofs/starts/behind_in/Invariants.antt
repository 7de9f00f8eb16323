use Rattle.std.proofs.Common.{◌≡◌, drop}
use Rattle.cc_rules_flows.specs.Nexts.{behind_in}
use Rattle.cc_rules_choices.proofs.starts.behind_in.Given as goal

abbrev pub invariant-loop-k : goal.invariant-loop-k
invariant-loop-k l = behind_in l.number l.size (drop l.k-index l.next) ≡ behind_in l.number l.size l.next
