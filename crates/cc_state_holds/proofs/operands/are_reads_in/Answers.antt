-- Mark by mark.
use Rattle.std.proofs.Common.{arith, List, take, refl, sym, ◌∙◌, subst}
use Rattle.cc_state_reads.specs.CcEval.declared.mark.Mark.{Mark}
use Rattle.cc_state_holds.proofs.Eaches.{each_more, each_all, at_place}
use Rattle.cc_state_holds.proofs.Right.{never}
use Rattle.cc_state_holds.proofs.operands.are_reads_in.Goals as goal
use Rattle.cc_state_holds.specs.Parts.{Each, IsReadIn}
use Rattle.cc_state_reads.specs.CcStateOperators.Domains.{domain}
use Rattle.cc_steps.specs.View.{active_of}

pub is_read_in-requires-clause-basis : goal.is_read_in-requires-clause-basis
is_read_in-requires-clause-basis g c = c.requires.basis

pub is_read_in-requires-clause-place : goal.is_read_in-requires-clause-place
is_read_in-requires-clause-place g c = c.requires.place

pub loop-k-init : goal.loop-k-init
loop-k-init g c = λ f e n x l k. absurd (omega (arith, l))

pub loop-k-preserved : goal.loop-k-preserved
loop-k-preserved g c = λ f e.
    (let d = domain g.I.Concrete.Has g.I.Lattice.IsBelow g.I.IntDomain.OpGives g.I.IntDomain.OpOneGives g.I.IntDomain.ToGives g.I.IntDomain.KeepGives g.I.IntDomain.members_of in
    let p = c.args.b.now.program.now in
    let a = active_of c.args.a.now in
    let marks = c.marks-marks.result.now in
    let mark = c.index-marks-k.result in
    each_more (λ k mark. IsReadIn d p c.args.b.now.facts.now a f c.args.place.now.number (take k marks) mark) marks c.loop-k.k mark (at_place marks c.loop-k.k mark c.loop-k-test.true c.index-marks-k.is) (c.loop-k.invariant f e)
    ((c.in_ok-fits.ensures f e).0 c.if-not-fits.false))

pub returns-then-not-fits : goal.returns-then-not-fits
returns-then-not-fits g c = λ f e.
    (let d = domain g.I.Concrete.Has g.I.Lattice.IsBelow g.I.IntDomain.OpGives g.I.IntDomain.OpOneGives g.I.IntDomain.ToGives g.I.IntDomain.KeepGives g.I.IntDomain.members_of in
    let p = c.args.b.now.program.now in
    let a = active_of c.args.a.now in
    let marks = c.marks-marks.result.now in
    let mark = c.index-marks-k.result in
    let there = at_place marks c.loop-k.k mark c.loop-k-test.true c.index-marks-k.is in (
      never,
      (λ h. sym c.if-not-fits.true ∙ (c.in_ok-fits.ensures f e).1 (subst (λ (ms : List Mark). Each (λ k mark. IsReadIn d p c.args.b.now.facts.now a f c.args.place.now.number (take k ms) mark) ms) (sym c.marks-marks.ensures) h c.loop-k.k mark there)),
    ))

pub returns : goal.returns
returns g c = λ f e.
    (let d = domain g.I.Concrete.Has g.I.Lattice.IsBelow g.I.IntDomain.OpGives g.I.IntDomain.OpOneGives g.I.IntDomain.ToGives g.I.IntDomain.KeepGives g.I.IntDomain.members_of in
    let p = c.args.b.now.program.now in
    let a = active_of c.args.a.now in
    let marks = c.marks-marks.result.now in (
      (λ t. subst (λ (ms : List Mark). Each (λ k mark. IsReadIn d p c.args.b.now.facts.now a f c.args.place.now.number (take k ms) mark) ms) c.marks-marks.ensures
          (each_all (λ k mark. IsReadIn d p c.args.b.now.facts.now a f c.args.place.now.number (take k marks) mark) marks c.loop-k.k (omega (arith, c.loop-k-test.false)) (c.loop-k.invariant f e))),
      (λ h. refl),
    ))
