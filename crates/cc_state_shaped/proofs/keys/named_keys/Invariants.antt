use Rattle.std.proofs.Common.{◌≡◌, map, take}
use Rattle.cc_state_shaped.specs.Names.{may_name}
use Rattle.cc_state_shaped.proofs.keys.named_keys.Given as goal

abbrev pub invariant-loop-key : goal.invariant-loop-key
invariant-loop-key l = l.names.items ≡ map (may_name l.p) (take l.key-index l.keys)
