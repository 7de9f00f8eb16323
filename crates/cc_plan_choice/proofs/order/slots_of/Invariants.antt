use Rattle.std.proofs.Common.{◌≡◌, take}
use Rattle.cc_plan_legal.specs.Plans.{slots_of}
use Rattle.cc_plan_choice.proofs.order.slots_of.Given as goal

abbrev pub invariant-loop-field : goal.invariant-loop-field
invariant-loop-field l = l.slots.items ≡ slots_of (take l.field-index l.fields)
