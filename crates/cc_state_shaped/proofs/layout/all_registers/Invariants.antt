use Rattle.std.proofs.Common.{◌≡◌, map, take}
use Rattle.cc_state_reads.specs.CcStateKeys.Tracked.{registers}
use Rattle.cc_state_shaped.proofs.layout.all_registers.Given as goal

abbrev pub invariant-loop-func : goal.invariant-loop-func
invariant-loop-func l = l.lists.items ≡ map registers (take l.func-index l.funcs)
