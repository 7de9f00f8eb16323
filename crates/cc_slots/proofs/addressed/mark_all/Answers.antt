use Rattle.std.proofs.Common.{arith, length, get_or, take, take_all, ap, subst, sym, ◌∙◌, List}
use Rattle.std.proofs.lemmas.List.{get_or_default}
use Rattle.cc_slots.specs.Marks.{AreMarks}
use Rattle.cc_slots.proofs.MarkLemmas.{one_more}
use Rattle.cc_slots_accesses.proofs.PutAll.{next_of}
use Rattle.cc_state_points.specs.CcStateFacts.declared.facts.Key.{Key}
use Rattle.cc_state_points.specs.CcStateFacts.declared.facts.Key.TheVariants as key
use Rattle.cc_slots.proofs.addressed.mark_all.Goals as goal

pub mark-requires-clause-marks : goal.mark-requires-clause-marks
mark-requires-clause-marks c = c.loop-key.invariant.count ∙ sym (ap length c.requires.keys)

pub loop-key-init : goal.loop-key-init
loop-key-init c = c.requires.none

pub loop-key-preserved : goal.loop-key-preserved
loop-key-preserved c =
    let x : Key = get_or c.args.named.now c.loop-key.key-index (key.Object 0) in
    next_of (λ (l : List Key). AreMarks c.args.p.now l c.mark.new.marks) c.args.named.now c.loop-key.key-index x c.loop-key-test.true
    (get_or_default c.args.named.now c.loop-key.key-index (key.Object 0) x c.loop-key-test.true)
    (one_more c.args.p.now (take c.loop-key.key-index c.args.named.now) c.loop-key.marks c.mark.new.marks x c.loop-key.invariant c.mark.ensures.lacking c.mark.ensures.set)

pub returns : goal.returns
returns c =
    subst (λ (l : List Key). AreMarks c.args.p.now l c.loop-key.marks) (take_all c.loop-key.key-index c.args.named.now (omega (arith, c.loop-key-test.false))) c.loop-key.invariant
