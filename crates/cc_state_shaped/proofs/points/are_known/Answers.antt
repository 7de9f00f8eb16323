-- What is known at each point so far is of its shape; at the end these are all.
use Rattle.std.proofs.Common.{arith, ◌≡◌, Some, length, refl, slice_get, below_more}
use Rattle.std.proofs.lemmas.Option.{slice_get_read}
use Rattle.cc_state_reads.specs.CcStateOperators.Domains.{domain}
use Rattle.cc_state_shaped.proofs.Known.{IsKnownIn, known_into, known_from, known_all}
use Rattle.cc_state_shaped.proofs.points.are_known.Goals as goal

pub loop-number-preserved : goal.loop-number-preserved
loop-number-preserved g c =
    let d = domain g.I.Concrete.Has g.I.Lattice.IsBelow g.I.IntDomain.OpGives g.I.IntDomain.OpOneGives g.I.IntDomain.ToGives g.I.IntDomain.KeepGives g.I.IntDomain.members_of in
    let p = c.args.layout.now.program.now in
    let xs = c.args.at.now in
    let n = c.loop-number.number in
    let y = c.index-at-number.result in
    let there : slice_get xs n ≡ Some y = slice_get_read xs (length xs) n y refl (omega (arith, c.loop-number-test.true)) c.index-at-number.is in
    below_more (λ k. IsKnownIn d p k (slice_get xs k)) n c.loop-number.invariant (known_into d p n (slice_get xs n) y there (c.if-not-is_known_at.ensures.0 refl))

pub returns-then-not-is_known_at : goal.returns-then-not-is_known_at
returns-then-not-is_known_at g c =
    let d = domain g.I.Concrete.Has g.I.Lattice.IsBelow g.I.IntDomain.OpGives g.I.IntDomain.OpOneGives g.I.IntDomain.ToGives g.I.IntDomain.KeepGives g.I.IntDomain.members_of in
    let p = c.args.layout.now.program.now in
    let xs = c.args.at.now in
    let n = c.loop-number.number in
    let y = c.index-at-number.result in
    let there : slice_get xs n ≡ Some y = slice_get_read xs (length xs) n y refl (omega (arith, c.loop-number-test.true)) c.index-at-number.is in
    ((λ e. absurd (cc)), (λ h. c.if-not-is_known_at.ensures.1 (known_from d p n xs y there h)))

pub returns : goal.returns
returns g c =
    let d = domain g.I.Concrete.Has g.I.Lattice.IsBelow g.I.IntDomain.OpGives g.I.IntDomain.OpOneGives g.I.IntDomain.ToGives g.I.IntDomain.KeepGives g.I.IntDomain.members_of in
    let p = c.args.layout.now.program.now in
    let xs = c.args.at.now in
    ((λ e. known_all d p c.loop-number.number xs (omega (arith, c.loop-number-test.false)) c.loop-number.invariant), (λ h. refl))
