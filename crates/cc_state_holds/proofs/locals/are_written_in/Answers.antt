-- Scalar by scalar.
use Rattle.std.proofs.Common.{arith, get_or, refl, sym, ◌∙◌, slice_get}
use Rattle.std.proofs.lemmas.Option.{slice_get-get_or}
use Rattle.cc_state_reads.specs.CcStateFacts.declared.facts.Key.{Key}
use Rattle.cc_state_reads.specs.CcStateFacts.declared.facts.Key.TheVariants as key
use Rattle.cc_state_holds.proofs.Eaches.{each_more, each_all}
use Rattle.cc_state_holds.proofs.locals.are_written_in.Goals as goal
use Rattle.cc_state_holds.specs.Parts.{good, IsScalarIn}
use Rattle.cc_state_reads.specs.CcStateOperators.Domains.{domain}

pub loop-n-init : goal.loop-n-init
loop-n-init g c = λ n x l k. absurd (omega (arith, l))

pub loop-n-preserved : goal.loop-n-preserved
loop-n-preserved g c =
    let d = domain g.I.Concrete.Has g.I.Lattice.IsBelow g.I.IntDomain.OpGives g.I.IntDomain.OpOneGives g.I.IntDomain.ToGives g.I.IntDomain.KeepGives g.I.IntDomain.members_of in
    let xs = c.args.keys.now in
    let item = get_or xs c.loop-n.n (key.Object 0) in
    each_more (λ n (k : Key). IsScalarIn d c.args.b.now.program.now c.args.b.now.facts.now k (good (slice_get c.args.values.now n))) xs c.loop-n.n item (slice_get-get_or xs c.loop-n.n (key.Object 0) c.loop-n-test.true) c.loop-n.invariant
    (λ x h. c.if-not-is_scalar_in.ensures.0 refl x (c.written_at.ensures ∙ h))

pub returns-then-not-is_scalar_in : goal.returns-then-not-is_scalar_in
returns-then-not-is_scalar_in g c =
    let xs = c.args.keys.now in
    let item = get_or xs c.loop-n.n (key.Object 0) in
    ((λ t. cc), (λ h. c.if-not-is_scalar_in.ensures.1 (λ x k. h c.loop-n.n item (slice_get-get_or xs c.loop-n.n (key.Object 0) c.loop-n-test.true) x (sym c.written_at.ensures ∙ k))))

pub returns : goal.returns
returns g c =
    let d = domain g.I.Concrete.Has g.I.Lattice.IsBelow g.I.IntDomain.OpGives g.I.IntDomain.OpOneGives g.I.IntDomain.ToGives g.I.IntDomain.KeepGives g.I.IntDomain.members_of in
    ((λ t. each_all (λ n (k : Key). IsScalarIn d c.args.b.now.program.now c.args.b.now.facts.now k (good (slice_get c.args.values.now n))) c.args.keys.now c.loop-n.n (omega (arith, c.loop-n-test.false)) c.loop-n.invariant), (λ h. refl))
