use Rattle.std.proofs.Common.{◌≡◌, take}
use Rattle.cc_program.proofs.program.copies.copy_levels.Given as goal

abbrev pub invariant-loop-name : goal.invariant-loop-name
invariant-loop-name l = l.copies.items ≡ take l.name-index l.name-items
