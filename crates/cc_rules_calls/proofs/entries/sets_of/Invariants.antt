use Rattle.std.proofs.Common.{◌≡◌, take}
use Rattle.cc_rules_calls.specs.Called.{sets_of}
use Rattle.cc_rules_calls.proofs.entries.sets_of.Given as goal

abbrev pub invariant-loop-register : goal.invariant-loop-register
invariant-loop-register g l = l.locals.items ≡ sets_of l.sets (take l.register-index l.registers)
