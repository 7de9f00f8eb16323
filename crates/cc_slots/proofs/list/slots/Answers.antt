-- What is made once of a program, and all keys of its slots.
use Rattle.std.proofs.Common.{sym, subst, ◌∙◌, List}
use Rattle.std.proofs.lemmas.Result.{IfOk-weaker}
use Rattle.cc_slots.specs.Domain.{vals_domain}
use Rattle.cc_slots.specs.Marks.{AreMarks}
use Rattle.cc_slots.specs.Slots.{AreSlotsOf}
use Rattle.cc_slots_points.specs.Lists.{AreLists}
use Rattle.cc_slots_structures.specs.Standings.{AreStandings}
use Rattle.cc_state_points.specs.CcStateFacts.declared.facts.Key.{Key}
use Rattle.cc_state_points.specs.CcStateKeys.Addressed.{taken_keys}
use Rattle.cc_state_points.proofs.CcSyntax.NameRules.{sound-typed}
use Rattle.cc_slots.proofs.list.slots.Goals as goal

pub accesses-requires-clause-shape : goal.accesses-requires-clause-shape
accesses-requires-clause-shape c = c.requires.shape

pub addressed-requires-clause-typed : goal.addressed-requires-clause-typed
addressed-requires-clause-typed c = sound-typed c.args.p.now c.requires.normal.sound

pub addressed-requires-clause-keys : goal.addressed-requires-clause-keys
addressed-requires-clause-keys c = c.all.ensures ∙ c.requires.shape.keys

pub slot_keys-requires : goal.slot_keys-requires
slot_keys-requires c = sound-typed c.args.p.now c.requires.normal.sound

pub slots_of-requires-clause-standings : goal.slots_of-requires-clause-standings
slots_of-requires-clause-standings c = subst (AreStandings c.args.p.now) (sym c.deref.ensures.value) c.in_ok-standings.ensures

pub slots_of-requires-clause-marks : goal.slots_of-requires-clause-marks
slots_of-requires-clause-marks c = subst (AreMarks c.args.p.now (taken_keys c.args.p.now)) (sym c.deref-2.ensures.value) c.in_ok-marks.ensures

pub slots_of-requires-clause-lists : goal.slots_of-requires-clause-lists
slots_of-requires-clause-lists c = subst (AreLists vals_domain c.args.p.now c.args.facts.now) (sym c.deref-3.ensures.value) c.in_ok-lists.ensures

pub slots_of-requires-clause-keys : goal.slots_of-requires-clause-keys
slots_of-requires-clause-keys c = c.deref-4.ensures.value ∙ c.in_ok-keys.ensures

pub returns : goal.returns
returns c =
    IfOk-weaker c.slots_of.result _ _
    (λ slots h. subst (λ (l : List Key). AreSlotsOf c.args.p.now vals_domain c.args.facts.now l slots.items) (c.deref-4.ensures.value ∙ c.in_ok-keys.ensures) h) c.slots_of.ensures
