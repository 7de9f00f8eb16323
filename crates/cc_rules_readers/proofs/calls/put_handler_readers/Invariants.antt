use Rattle.std.proofs.Common.{◌≡◌, ◌++◌, take}
use Rattle.std.specs.List.{flat_map}
use Rattle.cc_rules_asked.specs.CcRules.Rules.{handlers}
use Rattle.cc_rules_again.specs.Again.{entry_readers}
use Rattle.cc_rules_readers.proofs.calls.put_handler_readers.Given as goal

abbrev pub invariant-loop-handler : goal.invariant-loop-handler
invariant-loop-handler l = l.list.items ≡ l.initial.list.items ++ flat_map (entry_readers l.rules.program.now) (take l.handler-index (handlers l.rules.program.now))
