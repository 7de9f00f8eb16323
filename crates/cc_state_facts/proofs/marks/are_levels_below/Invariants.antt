use Rattle.std.proofs.Common.{take}
use Rattle.cc_state_facts.specs.Orders.{AreLevelSetsBelow}
use Rattle.cc_state_facts.proofs.marks.are_levels_below.Given as goal

abbrev pub invariant-loop-at : goal.invariant-loop-at
invariant-loop-at l = AreLevelSetsBelow (take l.at l.sets) (take l.at l.others)
