use Rattle.std.proofs.Common.{◌≡◌, ◌++◌}
use Rattle.std.specs.List.{flat_map}
use Rattle.cc_rules_again.specs.Again.{call_readers}
use Rattle.cc_rules_asked.specs.CcRulesNeeds.Flowing.{numbers}
use Rattle.cc_rules_readers.proofs.calls.put_all_called.Given as goal

abbrev pub invariant-loop-g : goal.invariant-loop-g
invariant-loop-g g l = l.list.items ≡ l.initial.list.items ++ flat_map (call_readers l.rules.program.now l.facts) (numbers 0 l.g)
