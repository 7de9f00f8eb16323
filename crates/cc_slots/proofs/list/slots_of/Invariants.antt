use Rattle.std.proofs.Common.{take}
use Rattle.cc_slots.specs.Domain.{vals_domain}
use Rattle.cc_slots.specs.Slots.{AreSlotsOf}
use Rattle.cc_slots.proofs.list.slots_of.Given as goal

abbrev pub invariant-loop-key : goal.invariant-loop-key
invariant-loop-key l = AreSlotsOf l.p vals_domain l.facts (take l.key-index l.keys) l.slots.items
