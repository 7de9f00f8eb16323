use Rattle.std.proofs.Common.{◌≡◌, ◌++◌, take}
use Rattle.cc_state_keys.specs.Keys.{local_keys}
use Rattle.cc_state_keys.specs.Lists.{all_from}
use Rattle.cc_state_keys.proofs.listed.put_all_locals.Given as goal

abbrev pub invariant-loop-id : goal.invariant-loop-id
invariant-loop-id l = l.keys.items ≡ l.fn.keys.items ++ all_from local_keys 0 (take l.id l.func-items)
