use Rattle.std.proofs.Common.{◌≡◌, ◌++◌, take}
use Rattle.cc_state_points.specs.CcStateFacts.declared.facts.Key.TheVariants as key
use Rattle.cc_slots.specs.Keys.{is_member_slot}
use Rattle.cc_state_points.specs.CcStateKeys.Lists.{made_from}
use Rattle.cc_slots.proofs.keys.put_members.Given as goal

abbrev pub invariant-loop-m : goal.invariant-loop-m
invariant-loop-m l = l.keys.items ≡ l.fn.keys.items ++ made_from (is_member_slot l.id) (key.Member l.id) 0 (take l.m l.member-items)
