use Rattle.std.proofs.Common.{◌≡◌, map, take}
use Rattle.cc_lower_continues.specs.Continues.{flagged_func}
use Rattle.cc_lower_continues.proofs.program.flagged_funcs.Given as goal

abbrev pub invariant-loop-f : goal.invariant-loop-f
invariant-loop-f l = l.out.items ≡ map flagged_func (take l.f-index l.f-items)
