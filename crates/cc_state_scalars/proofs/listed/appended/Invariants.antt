use Rattle.std.proofs.Common.{◌≡◌, ◌++◌, take}
use Rattle.cc_state_scalars.proofs.listed.appended.Given as goal

abbrev pub invariant-loop-key : goal.invariant-loop-key
invariant-loop-key l = l.all.items ≡ l.fn.front.items ++ take l.key-index l.keys
