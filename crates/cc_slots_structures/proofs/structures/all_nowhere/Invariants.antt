use Rattle.cc_slots_structures.specs.Added.{AreNowhere}
use Rattle.cc_slots_structures.proofs.structures.all_nowhere.Given as goal

abbrev pub invariant-loop-number : goal.invariant-loop-number
invariant-loop-number l = AreNowhere l.number l.list.items
