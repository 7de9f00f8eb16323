-- First no key is marked, and then each of those that are taken.
use Rattle.std.proofs.Common.{arith, ap, subst, sym, ◌∙◌, length, List, false}
use Rattle.std.proofs.lemmas.List.{length-replicate, with_items_is}
use Rattle.cc_slots.specs.Marks.{AreMarks}
use Rattle.cc_slots.proofs.MarkLemmas.{no_marks}
use Rattle.cc_state_points.specs.CcStateFacts.declared.facts.Key.{Key}
use Rattle.cc_state_points.specs.CcStateKeys.Addressed.{taken_keys}
use Rattle.cc_slots.proofs.addressed.addressed.Goals as goal

pub mark_all-requires-clause-none : goal.mark_all-requires-clause-none
mark_all-requires-clause-none c =
    no_marks c.args.p.now c.deref_mut.result.now (length c.args.keys.now) (c.deref_mut.ensures.value ∙ c.in_ok-marks.ensures) (ap length c.requires.keys)

pub returns : goal.returns
returns c =
    let marked = subst (λ (l : List Key). AreMarks c.args.p.now l c.mark_all.new.marks) (c.deref.ensures.value ∙ c.in_ok-taken.ensures) c.mark_all.ensures in
    let many = c.mark_all.ensures.count in
    let first = ap length c.in_ok-marks.ensures ∙ (length-replicate (length c.args.keys.now) false ∙ ap length c.requires.keys) in
    subst (AreMarks c.args.p.now (taken_keys c.args.p.now)) (sym (with_items_is c.in_ok-marks.marks c.mark_all.new.marks (omega (arith, many, first)))) marked
