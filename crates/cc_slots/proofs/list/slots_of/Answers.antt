use Rattle.std.proofs.Common.{arith, get_or, take, take_all, subst, sym, List}
use Rattle.std.specs.List.{Contains}
use Rattle.std.proofs.lemmas.List.{get_or_default}
use Rattle.cc_slots.specs.Domain.{vals_domain}
use Rattle.cc_slots.specs.Slots.{AreSlotsOf}
use Rattle.cc_slots.proofs.SlotLemmas.{no_slots, one_slot}
use Rattle.cc_slots_accesses.proofs.PutAll.{next_of}
use Rattle.cc_state_points.specs.CcStateFacts.declared.facts.Key.{Key}
use Rattle.cc_state_points.specs.CcStateFacts.declared.facts.Key.TheVariants as key
use Rattle.cc_slots.proofs.list.slots_of.Goals as goal

pub slot_of-requires-clause-slot : goal.slot_of-requires-clause-slot
slot_of-requires-clause-slot c =
    let x : Key = get_or c.args.keys.now c.loop-key.key-index (key.Object 0) in
    subst (λ (l : List Key). Contains l x) c.requires.keys (c.loop-key.key-index, c.loop-key-test.true, sym (get_or_default c.args.keys.now c.loop-key.key-index (key.Object 0) x c.loop-key-test.true))

pub loop-key-init : goal.loop-key-init
loop-key-init c = no_slots c.args.p.now vals_domain c.args.facts.now c.new-slots.result.items c.new-slots.ensures.items

pub loop-key-preserved : goal.loop-key-preserved
loop-key-preserved c =
    let x : Key = get_or c.args.keys.now c.loop-key.key-index (key.Object 0) in
    next_of (λ (l : List Key). AreSlotsOf c.args.p.now vals_domain c.args.facts.now l c.push.new.self.items) c.args.keys.now c.loop-key.key-index x c.loop-key-test.true
    (get_or_default c.args.keys.now c.loop-key.key-index (key.Object 0) x c.loop-key-test.true)
    (one_slot c.args.p.now vals_domain c.args.facts.now (take c.loop-key.key-index c.args.keys.now) c.loop-key.slots.items c.push.new.self.items x c.in_ok-slot_of.field-0 c.loop-key.invariant
    c.in_ok-slot_of.ensures.key c.in_ok-slot_of.ensures.slot c.in_ok-push.ensures.items)

pub returns : goal.returns
returns c =
    subst (λ (l : List Key). AreSlotsOf c.args.p.now vals_domain c.args.facts.now l c.loop-key.slots.items) (take_all c.loop-key.key-index c.args.keys.now (omega (arith, c.loop-key-test.false))) c.loop-key.invariant
