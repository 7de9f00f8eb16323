-- The key of a slot is one of the program, and what is made of its accesses and values is its slot.
use Rattle.std.proofs.Common.{arith, sym, subst, ◌∙◌}
use Rattle.std.proofs.lemmas.Result.{IfOk-weaker}
use Rattle.cc_slots.specs.Domain.{vals_domain}
use Rattle.cc_slots.proofs.SlotKeys.{slot_key}
use Rattle.cc_slots.proofs.SlotLemmas.{slot_is}
use Rattle.cc_slots_accesses.proofs.PutAll.{number_below}
use Rattle.cc_slots_points.specs.Lists.{AreAccessesOf}
use Rattle.cc_slots.proofs.list.slot_of.Goals as goal

pub number_of-number-requires-clause-keys : goal.number_of-number-requires-clause-keys
number_of-number-requires-clause-keys c = c.all.ensures ∙ c.requires.shape.keys

pub number_of-number-requires-clause-there : goal.number_of-number-requires-clause-there
number_of-number-requires-clause-there c = (slot_key c.args.p.now c.args.key c.requires.slot).numbered

pub values_of-requires : goal.values_of-requires
values_of-requires c =
    let below = number_below c.args.p.now c.args.key c.number_of-number.result c.number_of-number.ensures in
    let whole = c.requires.shape.whole_count in
    omega (arith, below, whole)

pub made_slot-requires-clause-slot : goal.made_slot-requires-clause-slot
made_slot-requires-clause-slot c = (slot_key c.args.p.now c.args.key c.requires.slot).is_slot

pub returns-clause-key : goal.returns-clause-key
returns-clause-key c = IfOk-weaker c.made_slot.result _ _ (λ slot made. made.key) c.made_slot.ensures

pub returns-clause-slot : goal.returns-clause-slot
returns-clause-slot c =
    let numbered = c.number_of-number.ensures in
    let own = subst (AreAccessesOf vals_domain c.args.p.now c.args.facts.now c.args.key) (sym c.accesses_of.ensures) (c.requires.lists.each c.args.key c.number_of-number.result numbered) in
    let marks = c.requires.marks.each c.args.key c.number_of-number.result numbered in
    IfOk-weaker c.made_slot.result _ _
    (λ slot made.
    slot_is c.args.p.now vals_domain c.args.facts.now c.args.key c.number_of-number.result c.accesses_of.result.now c.mark_of.result c.values_of.result.now slot numbered own made
    (slot_key c.args.p.now c.args.key c.requires.slot).is_slot c.requires.low ((λ h. marks.0 (sym c.mark_of.ensures ∙ h)), (λ h. c.mark_of.ensures ∙ marks.1 h)) c.values_of.ensures)
    c.made_slot.ensures
