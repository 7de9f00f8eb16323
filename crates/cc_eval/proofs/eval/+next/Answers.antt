use Rattle.std.proofs.Common.{◌≡◌, refl, ap, sym, ◌∙◌, map, Bool}
use Rattle.cc_syntax.specs.Effects.{also}
use Rattle.cc_eval.specs.Eval.{meaning, both, either, chosen_arm, sequence, called_with, assigned_by}
use Rattle.cc_eval.specs.Progress.{and_then}
use Rattle.cc_eval.specs.View.{context_of, later_of, progress_of}
use Rattle.cc_eval.proofs.EachLemmas.{each_waits, each_traps, each_known}
use Rattle.cc_eval.proofs.LaterLemmas.{all_behind, rest_behind}
use Rattle.cc_eval.proofs.Links.{pure_linked}
use Rattle.cc_eval.proofs.Level.{same_outcome, choose_level, two_next, bin_level, move_level, gap_level, compare_level, both_level, either_level, call_level, one_next, place_next, change_next, load_level, address_level, after_level, un_level, conv_level, assign_level, change_level, seq_level}
use Rattle.cc_eval.specs.declared.operators.AtPlace.TheVariants as place
use Rattle.cc_eval.specs.declared.operators.OneOperand.TheVariants as one
use Rattle.cc_eval.specs.declared.operators.ToPlace.TheVariants as change
use Rattle.cc_eval.specs.declared.operators.TwoOperands.TheVariants as two
use Rattle.cc_eval.proofs.eval.+next.Goals as goal

-- src/eval.rt:25:1
pub next-returns-in-Both : goal.next-returns-in-Both
next-returns-in-Both t c =
    let at = context_of c.args.c.now in
    let later = later_of at c.args.later.now in
    same_outcome c.both.result (λ s. progress_of s)
    (both c.is_pure-is_pure.result (meaning at c.get-in-Both.result.now) (meaning at c.get-in-Both-2.result.now) later c.args.marks.now) _
    (ap (λ (pure : Bool). both pure (meaning at c.get-in-Both.result.now) (meaning at c.get-in-Both-2.result.now) later c.args.marks.now) (c.is_pure-is_pure.ensures ∙ sym (pure_linked at c.args.e.now later)) ∙
    rw (c.get-in-Both.ensures, c.get-in-Both-2.ensures) (both_level at c.args.e.now c.in-Both.a c.in-Both.b c.in-Both.is later c.args.marks.now))
    c.both.ensures

-- src/eval.rt:26:1
pub next-returns-in_ok-callee-in-Call : goal.next-returns-in_ok-callee-in-Call
next-returns-in_ok-callee-in-Call t c =
    let at = context_of c.args.c.now in
    let later = later_of at c.args.later.now in
    let args = map (meaning at) c.in-Call.args in
    let known_callee : progress_of c.in_ok-callee-in-Call.callee ≡ (meaning at c.in-Call.f).next (also (assigned_by args) later) c.args.marks.now =
    c.in_ok-callee-in-Call.ensures ∙
    ap (λ l. (meaning at c.get-in-Call.result.now).next l c.args.marks.now) (all_behind at c.all.result c.args.later ∙ ap (λ xs. also (assigned_by (map (meaning at) xs)) later) c.all.ensures) ∙
    ap (λ f. (meaning at f).next (also (assigned_by args) later) c.args.marks.now) c.get-in-Call.ensures in
    same_outcome c.call.result (λ s. progress_of s) (and_then (progress_of c.in_ok-callee-in-Call.callee) (called_with args later)) _
    (ap (λ p. and_then p (called_with args later)) known_callee ∙ call_level at c.args.e.now c.in-Call.f c.in-Call.args c.in-Call.is later c.args.marks.now)
    c.call.ensures

-- src/eval.rt:25:1
pub next-returns-in-Either : goal.next-returns-in-Either
next-returns-in-Either t c =
    let at = context_of c.args.c.now in
    let later = later_of at c.args.later.now in
    same_outcome c.either.result (λ s. progress_of s)
    (either c.is_pure-is_pure-in-Either.result (meaning at c.get-in-Either.result.now) (meaning at c.get-in-Either-2.result.now) later c.args.marks.now) _
    (ap (λ (pure : Bool). either pure (meaning at c.get-in-Either.result.now) (meaning at c.get-in-Either-2.result.now) later c.args.marks.now) (c.is_pure-is_pure-in-Either.ensures ∙ sym (pure_linked at c.args.e.now later)) ∙
    rw (c.get-in-Either.ensures, c.get-in-Either-2.ensures) (either_level at c.args.e.now c.in-Either.a c.in-Either.b c.in-Either.is later c.args.marks.now))
    c.either.ensures

pub next-returns-in-Choose : goal.next-returns-in-Choose
next-returns-in-Choose t c =
    let at = context_of c.args.c.now in
    let later = later_of at c.args.later.now in
    same_outcome c.chosen_arm.result (λ s. progress_of s)
    (chosen_arm c.is_pure-is_pure-in-Choose.result (meaning at c.get-in-Choose.result.now) (meaning at c.get-in-Choose-2.result.now) (meaning at c.get-in-Choose-3.result.now) later c.args.marks.now) _
    (ap (λ (pure : Bool). chosen_arm pure (meaning at c.get-in-Choose.result.now) (meaning at c.get-in-Choose-2.result.now) (meaning at c.get-in-Choose-3.result.now) later c.args.marks.now) (c.is_pure-is_pure-in-Choose.ensures ∙ sym (pure_linked at c.args.e.now later)) ∙
    rw (c.get-in-Choose.ensures, c.get-in-Choose-2.ensures, c.get-in-Choose-3.ensures) (choose_level at c.args.e.now c.in-Choose.d c.in-Choose.a c.in-Choose.b c.in-Choose.is later c.args.marks.now))
    c.chosen_arm.ensures

-- src/eval.rt:268:37
pub each-returns-in-Waits : goal.each-returns-in-Waits
each-returns-in-Waits t c =
    let at = context_of c.args.c.now in
    each_waits at (later_of at c.args.later.now) c.args.args.now c.loop-i.i c.index-args-i.result c.loop-i.left.now c.in-Waits.action c.loop-i.values.items _
    c.loop-i-test.true c.index-args-i.is c.loop-i.invariant
    (sym (ap (λ s. progress_of s) c.in-Waits.is) ∙ c.in_ok-v.ensures ∙
    ap (λ l. (meaning at c.index-args-i.result).next l c.loop-i.left.now) (rest_behind at c.args.args.now c.loop-i.i _ c.args.later refl))

-- src/eval.rt:269:35
pub each-returns-in-Traps : goal.each-returns-in-Traps
each-returns-in-Traps t c =
    let at = context_of c.args.c.now in
    each_traps at (later_of at c.args.later.now) c.args.args.now c.loop-i.i c.index-args-i.result c.loop-i.left.now c.in-Traps.rest.now c.loop-i.values.items _
    c.loop-i-test.true c.index-args-i.is c.loop-i.invariant
    (sym (ap (λ s. progress_of s) c.in-Traps.is) ∙ c.in_ok-v.ensures ∙
    ap (λ l. (meaning at c.index-args-i.result).next l c.loop-i.left.now) (rest_behind at c.args.args.now c.loop-i.i _ c.args.later refl))

-- src/eval.rt:262:5
pub each-loop-i-preserved : goal.each-loop-i-preserved
each-loop-i-preserved t c =
    let at = context_of c.args.c.now in
    rw (c.in_ok-push-in-Known.ensures.items)
    (each_known at (later_of at c.args.later.now) c.args.args.now c.loop-i.i c.index-args-i.result c.loop-i.left.now c.in-Known.rest.now c.in-Known.v c.loop-i.values.items _
    c.loop-i-test.true c.index-args-i.is c.loop-i.invariant
    (sym (ap (λ s. progress_of s) c.in-Known.is) ∙ c.in_ok-v.ensures ∙
    ap (λ l. (meaning at c.index-args-i.result).next l c.loop-i.left.now) (rest_behind at c.args.args.now c.loop-i.i _ c.args.later refl)))

pub next-returns-in-Bin : goal.next-returns-in-Bin
next-returns-in-Bin t c =
    let at = context_of c.args.c.now in
    let later = later_of at c.args.later.now in
    same_outcome c.of_both.result (λ s. progress_of s) (two_next at (two.Operator c.in-Bin.op c.in-Bin.t) c.get-in-Bin.result.now c.get-in-Bin-2.result.now later c.args.marks.now) _
    (rw (c.get-in-Bin.ensures, c.get-in-Bin-2.ensures) (bin_level at c.args.e.now c.in-Bin.op c.in-Bin.t c.in-Bin.a c.in-Bin.b c.in-Bin.is later c.args.marks.now))
    c.of_both.ensures

pub next-returns-in-Move : goal.next-returns-in-Move
next-returns-in-Move t c =
    let at = context_of c.args.c.now in
    let later = later_of at c.args.later.now in
    same_outcome c.of_both-in-Move.result (λ s. progress_of s) (two_next at (two.Movement c.in-Move.back) c.get-in-Move.result.now c.get-in-Move-2.result.now later c.args.marks.now) _
    (rw (c.get-in-Move.ensures, c.get-in-Move-2.ensures) (move_level at c.args.e.now c.in-Move.a c.in-Move.b c.in-Move.back c.in-Move.is later c.args.marks.now))
    c.of_both-in-Move.ensures

pub next-returns-in-Gap : goal.next-returns-in-Gap
next-returns-in-Gap t c =
    let at = context_of c.args.c.now in
    let later = later_of at c.args.later.now in
    same_outcome c.of_both-in-Gap.result (λ s. progress_of s) (two_next at two.Difference c.get-in-Gap.result.now c.get-in-Gap-2.result.now later c.args.marks.now) _
    (rw (c.get-in-Gap.ensures, c.get-in-Gap-2.ensures) (gap_level at c.args.e.now c.in-Gap.a c.in-Gap.b c.in-Gap.is later c.args.marks.now))
    c.of_both-in-Gap.ensures

pub next-returns-in-Compare : goal.next-returns-in-Compare
next-returns-in-Compare t c =
    let at = context_of c.args.c.now in
    let later = later_of at c.args.later.now in
    same_outcome c.of_both-in-Compare.result (λ s. progress_of s) (two_next at (two.Comparison c.in-Compare.op) c.get-in-Compare.result.now c.get-in-Compare-2.result.now later c.args.marks.now) _
    (rw (c.get-in-Compare.ensures, c.get-in-Compare-2.ensures) (compare_level at c.args.e.now c.in-Compare.op c.in-Compare.a c.in-Compare.b c.in-Compare.is later c.args.marks.now))
    c.of_both-in-Compare.ensures

pub next-returns-in-Load : goal.next-returns-in-Load
next-returns-in-Load t c =
    let at = context_of c.args.c.now in
    let later = later_of at c.args.later.now in
    same_outcome c.at_place.result (λ s. progress_of s) (place_next at place.Load c.get.result.now later c.args.marks.now) _
    (rw (c.get.ensures) (load_level at c.args.e.now c.in-Load.a c.in-Load.is later c.args.marks.now))
    c.at_place.ensures

pub next-returns-in-AddrOf : goal.next-returns-in-AddrOf
next-returns-in-AddrOf t c =
    let at = context_of c.args.c.now in
    let later = later_of at c.args.later.now in
    same_outcome c.at_place-in-AddrOf.result (λ s. progress_of s) (place_next at place.Address c.get-in-AddrOf.result.now later c.args.marks.now) _
    (rw (c.get-in-AddrOf.ensures) (address_level at c.args.e.now c.in-AddrOf.a c.in-AddrOf.is later c.args.marks.now))
    c.at_place-in-AddrOf.ensures

pub next-returns-in-After : goal.next-returns-in-After
next-returns-in-After t c =
    let at = context_of c.args.c.now in
    let later = later_of at c.args.later.now in
    same_outcome c.at_place-in-After.result (λ s. progress_of s) (place_next at (place.Step c.in-After.down) c.get-in-After.result.now later c.args.marks.now) _
    (rw (c.get-in-After.ensures) (after_level at c.args.e.now c.in-After.a c.in-After.down c.in-After.is later c.args.marks.now))
    c.at_place-in-After.ensures

pub next-returns-in-Un : goal.next-returns-in-Un
next-returns-in-Un t c =
    let at = context_of c.args.c.now in
    let later = later_of at c.args.later.now in
    same_outcome c.of_one.result (λ s. progress_of s) (one_next at (one.Operator c.in-Un.op c.in-Un.t) c.get-in-Un.result.now later c.args.marks.now) _
    (rw (c.get-in-Un.ensures) (un_level at c.args.e.now c.in-Un.op c.in-Un.t c.in-Un.a c.in-Un.is later c.args.marks.now))
    c.of_one.ensures

pub next-returns-in-Conv : goal.next-returns-in-Conv
next-returns-in-Conv t c =
    let at = context_of c.args.c.now in
    let later = later_of at c.args.later.now in
    same_outcome c.of_one-in-Conv.result (λ s. progress_of s) (one_next at (one.Conversion c.in-Conv.t) c.get-in-Conv.result.now later c.args.marks.now) _
    (rw (c.get-in-Conv.ensures) (conv_level at c.args.e.now c.in-Conv.t c.in-Conv.a c.in-Conv.is later c.args.marks.now))
    c.of_one-in-Conv.ensures

pub next-returns-in-Assign : goal.next-returns-in-Assign
next-returns-in-Assign t c =
    let at = context_of c.args.c.now in
    let later = later_of at c.args.later.now in
    same_outcome c.to_place.result (λ s. progress_of s) (change_next at change.Assign c.get-in-Assign.result.now c.get-in-Assign-2.result.now later c.args.marks.now) _
    (rw (c.get-in-Assign.ensures, c.get-in-Assign-2.ensures) (assign_level at c.args.e.now c.in-Assign.a c.in-Assign.e c.in-Assign.is later c.args.marks.now))
    c.to_place.ensures

pub next-returns-in-Change : goal.next-returns-in-Change
next-returns-in-Change t c =
    let at = context_of c.args.c.now in
    let later = later_of at c.args.later.now in
    same_outcome c.to_place-in-Change.result (λ s. progress_of s) (change_next at (change.Change c.in-Change.op c.in-Change.t) c.get-in-Change.result.now c.get-in-Change-2.result.now later c.args.marks.now) _
    (rw (c.get-in-Change.ensures, c.get-in-Change-2.ensures) (change_level at c.args.e.now c.in-Change.a c.in-Change.op c.in-Change.t c.in-Change.e c.in-Change.is later c.args.marks.now))
    c.to_place-in-Change.ensures

pub next-returns-in-Seq : goal.next-returns-in-Seq
next-returns-in-Seq t c =
    let at = context_of c.args.c.now in
    let later = later_of at c.args.later.now in
    same_outcome c.sequence.result (λ s. progress_of s) (sequence (meaning at c.get-in-Seq.result.now) (meaning at c.get-in-Seq-2.result.now) later c.args.marks.now) _
    (rw (c.get-in-Seq.ensures, c.get-in-Seq-2.ensures) (seq_level at c.args.e.now c.in-Seq.a c.in-Seq.b c.in-Seq.is later c.args.marks.now))
    c.sequence.ensures
