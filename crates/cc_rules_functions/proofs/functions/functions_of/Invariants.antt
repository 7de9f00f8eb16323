use Rattle.cc_rules_functions.proofs.Gets.{AreFirst}
use Rattle.cc_rules_functions.proofs.functions.functions_of.Given as goal

abbrev pub invariant-loop-id : goal.invariant-loop-id
invariant-loop-id l = AreFirst l.p l.functions.items l.id
