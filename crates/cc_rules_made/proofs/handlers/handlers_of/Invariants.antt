use Rattle.std.proofs.Common.{take}
use Rattle.std.specs.List.{AllZip}
use Rattle.cc_rules_asked.specs.CcRules.Rules.{handlers_from}
use Rattle.cc_rules_asked.specs.Handlers.{IsHandlerOf}
use Rattle.cc_rules_made.proofs.handlers.handlers_of.Given as goal

abbrev pub invariant-loop-id : goal.invariant-loop-id
invariant-loop-id l = AllZip (IsHandlerOf l.p) l.handlers.items (handlers_from 0 (take l.id l.p.funcs))
