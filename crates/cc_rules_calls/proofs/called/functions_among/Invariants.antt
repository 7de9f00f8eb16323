use Rattle.std.proofs.Common.{◌≡◌, take}
use Rattle.cc_rules_calls.specs.Called.{functions_among}
use Rattle.cc_rules_calls.proofs.called.functions_among.Given as goal

abbrev pub invariant-loop-member : goal.invariant-loop-member
invariant-loop-member l = l.functions.items ≡ functions_among (take l.member-index l.members)
