-- Each cell so far has its set; at the end these are all.
use Rattle.std.proofs.Common.{arith, ◌<◌, refl}
use Rattle.cc_state.specs.Shape.{IsTrackedType}
use Rattle.cc_state_reads.specs.CcStateFacts.Facts.{cell_of}
use Rattle.cc_state_reads.specs.CcStateOperators.Domains.{domain}
use Rattle.cc_state_shaped.proofs.Typed.{sets_none, sets_more, sets_all}
use Rattle.cc_state_shaped.proofs.lists.have_cell_sets.Goals as goal

pub loop-number-init : goal.loop-number-init
loop-number-init g c =
    let d = domain g.I.Concrete.Has g.I.Lattice.IsBelow g.I.IntDomain.OpGives g.I.IntDomain.OpOneGives g.I.IntDomain.ToGives g.I.IntDomain.KeepGives g.I.IntDomain.members_of in
    let p = c.args.layout.now.program.now in
    sets_none d p (cell_of c.args.fact.now) (IsTrackedType d p)

pub loop-number-preserved : goal.loop-number-preserved
loop-number-preserved g c =
    let d = domain g.I.Concrete.Has g.I.Lattice.IsBelow g.I.IntDomain.OpGives g.I.IntDomain.OpOneGives g.I.IntDomain.ToGives g.I.IntDomain.KeepGives g.I.IntDomain.members_of in
    let p = c.args.layout.now.program.now in
    sets_more d p (cell_of c.args.fact.now) (IsTrackedType d p) c.loop-number.number c.loop-number.invariant (c.if-not-has_cell_set.ensures.0 refl)

pub returns-then-not-has_cell_set : goal.returns-then-not-has_cell_set
returns-then-not-has_cell_set g c =
    let lt : c.loop-number.number < c.args.count = omega (arith, c.loop-number-test.true) in
    ((λ e. absurd (cc)), (λ h. c.if-not-has_cell_set.ensures.1 (h.there c.loop-number.number lt)))

pub returns : goal.returns
returns g c =
    let d = domain g.I.Concrete.Has g.I.Lattice.IsBelow g.I.IntDomain.OpGives g.I.IntDomain.OpOneGives g.I.IntDomain.ToGives g.I.IntDomain.KeepGives g.I.IntDomain.members_of in
    let p = c.args.layout.now.program.now in
    ((λ e. sets_all d p (cell_of c.args.fact.now) (IsTrackedType d p) c.loop-number.number c.args.count (omega (arith, c.loop-number-test.false)) c.loop-number.invariant), (λ h. refl))
