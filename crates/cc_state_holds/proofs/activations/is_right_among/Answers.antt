-- Point by point.
use Rattle.std.proofs.Common.{arith, ℕ, get_or, refl, sym, ◌∙◌, true≢false}
use Rattle.std.specs.Option.{option_copied}
use Rattle.std.proofs.lemmas.Option.{slice_get-get_or}
use Rattle.cc_state.proofs.Lists.{contains_at}
use Rattle.cc_state_holds.proofs.Activity.{none_right}
use Rattle.cc_state_holds.proofs.Eaches.{each_more, each_all}
use Rattle.cc_state_holds.proofs.activations.is_right_among.Goals as goal
use Rattle.cc_state_holds.specs.Parts.{IsRight}
use Rattle.cc_state_reads.specs.CcStateOperators.Domains.{domain}
use Rattle.cc_steps.specs.View.{active_of}

pub is_right_in-requires-clause-basis : goal.is_right_in-requires-clause-basis
is_right_in-requires-clause-basis g c = c.requires.basis

pub is_right_in-requires-clause-stands : goal.is_right_in-requires-clause-stands
is_right_in-requires-clause-stands g c =
    let xs = c.args.points.now in
    let n = get_or xs c.loop-n.n-index 0 in
    c.requires.stands n (contains_at xs c.loop-n.n-index n (slice_get-get_or xs c.loop-n.n-index 0 c.loop-n-test.true))

pub loop-n-init : goal.loop-n-init
loop-n-init g c = λ f m e s n x l k. absurd (omega (arith, l))

pub loop-n-preserved : goal.loop-n-preserved
loop-n-preserved g c = λ f m e s.
    (let d = domain g.I.Concrete.Has g.I.Lattice.IsBelow g.I.IntDomain.OpGives g.I.IntDomain.OpOneGives g.I.IntDomain.ToGives g.I.IntDomain.KeepGives g.I.IntDomain.members_of in
    let xs = c.args.points.now in
    each_more (λ (k n : ℕ). IsRight d c.args.b.now.program.now c.args.b.now.facts.now c.args.around.now.flag m (active_of c.args.a.now) f (option_copied c.args.pending) n → ⊥) xs c.loop-n.n-index (get_or xs c.loop-n.n-index 0)
    (slice_get-get_or xs c.loop-n.n-index 0 c.loop-n-test.true) (c.loop-n.invariant f m e s) (λ h. true≢false (sym ((c.in_ok-right.ensures f m e s).1 h) ∙ c.if-right.false)))

pub returns-then-right : goal.returns-then-right
returns-then-right g c = λ f m e s.
    (let xs = c.args.points.now in
    let n = get_or xs c.loop-n.n-index 0 in
    ((λ t. (n, contains_at xs c.loop-n.n-index n (slice_get-get_or xs c.loop-n.n-index 0 c.loop-n-test.true), (c.in_ok-right.ensures f m e s).0 c.if-right.true)), (λ h. refl)))

pub returns : goal.returns
returns g c = λ f m e s.
    (let d = domain g.I.Concrete.Has g.I.Lattice.IsBelow g.I.IntDomain.OpGives g.I.IntDomain.OpOneGives g.I.IntDomain.ToGives g.I.IntDomain.KeepGives g.I.IntDomain.members_of in
    let xs = c.args.points.now in
    none_right d c.args.b.now.program.now c.args.b.now.facts.now m xs c.args.around.now.flag (active_of c.args.a.now) f (option_copied c.args.pending)
    (each_all (λ (k n : ℕ). IsRight d c.args.b.now.program.now c.args.b.now.facts.now c.args.around.now.flag m (active_of c.args.a.now) f (option_copied c.args.pending) n → ⊥) xs c.loop-n.n-index (omega (arith, c.loop-n-test.false)) (c.loop-n.invariant f m e s)))
