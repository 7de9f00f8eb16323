use Rattle.std.proofs.Common.{◌≡◌, take}
use Rattle.cc_rules_asked.specs.Handlers.{asked_of_all}
use Rattle.cc_rules_asked.proofs.handlers.asked_of_handlers.Given as goal

abbrev pub invariant-loop-handler : goal.invariant-loop-handler
invariant-loop-handler g l = l.asked.items ≡ asked_of_all l.here (take l.handler-index l.handlers)
