use Rattle.std.proofs.Common.{◌≡◌, ◌++◌, take}
use Rattle.cc_state_keys.specs.Addressed.{taken_in_func}
use Rattle.cc_state_keys.specs.Lists.{all_from}
use Rattle.cc_state_keys.proofs.text.put_taken_in_funcs.Given as goal

abbrev pub invariant-loop-id : goal.invariant-loop-id
invariant-loop-id l = l.keys.items ≡ l.fn.keys.items ++ all_from (taken_in_func l.p) 0 (take l.id l.func-items)
