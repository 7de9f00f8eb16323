use Rattle.std.proofs.Common.{◌≡◌, take}
use Rattle.cc_lower_continues.proofs.program.copy_locals.Given as goal

abbrev pub invariant-loop-name : goal.invariant-loop-name
invariant-loop-name l = l.out.items ≡ take l.name-index l.name-items
