use Rattle.std.proofs.Common.{◌≡◌, take}
use Rattle.cc_rules_calls.specs.Here.{asked_of_all}
use Rattle.cc_rules_calls.proofs.entries.asked_of_functions.Given as goal

abbrev pub invariant-loop-id : goal.invariant-loop-id
invariant-loop-id g l = l.asked.items ≡ asked_of_all l.here l.functions (take l.id-index l.ids) l.sets
