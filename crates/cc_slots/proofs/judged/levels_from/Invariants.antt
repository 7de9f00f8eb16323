use Rattle.std.proofs.Common.{◌≡◌, take}
use Rattle.cc_slots.specs.Judged.{levels_from}
use Rattle.cc_slots.proofs.judged.levels_from.Given as goal

abbrev pub invariant-loop-access : goal.invariant-loop-access
invariant-loop-access l = l.levels ≡ levels_from (take l.access-index l.accesses)
