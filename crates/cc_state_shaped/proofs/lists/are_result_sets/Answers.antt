-- Each set so far is of its type; at the end these are all.
use Rattle.std.proofs.Common.{arith, ◌≡◌, ◌<◌, Some, length, refl, slice_get}
use Rattle.std.proofs.lemmas.Option.{slice_get_read}
use Rattle.cc_state.specs.Shape.{IsResultType}
use Rattle.cc_state_reads.specs.CcStateOperators.Domains.{domain}
use Rattle.cc_state_shaped.proofs.Typed.{sets_none, sets_more, sets_all, set_into, set_from}
use Rattle.cc_state_shaped.proofs.lists.are_result_sets.Goals as goal

pub loop-id-init : goal.loop-id-init
loop-id-init g c =
    let d = domain g.I.Concrete.Has g.I.Lattice.IsBelow g.I.IntDomain.OpGives g.I.IntDomain.OpOneGives g.I.IntDomain.ToGives g.I.IntDomain.KeepGives g.I.IntDomain.members_of in
    let p = c.args.layout.now.program.now in
    sets_none d p (slice_get c.args.sets.now) (IsResultType d p)

pub loop-id-preserved : goal.loop-id-preserved
loop-id-preserved g c =
    let d = domain g.I.Concrete.Has g.I.Lattice.IsBelow g.I.IntDomain.OpGives g.I.IntDomain.OpOneGives g.I.IntDomain.ToGives g.I.IntDomain.KeepGives g.I.IntDomain.members_of in
    let p = c.args.layout.now.program.now in
    let xs = c.args.sets.now in
    let n = c.loop-id.id in
    let y = c.index-sets-id.result in
    let there : slice_get xs n ≡ Some y = slice_get_read xs (length xs) n y refl (omega (arith, c.loop-id-test.true)) c.index-sets-id.is in
    sets_more d p (slice_get xs) (IsResultType d p) n c.loop-id.invariant (set_into d p (slice_get xs) (IsResultType d p) n y there (c.if-not-is_result_set.ensures.0 refl))

pub returns-then-not-is_result_set : goal.returns-then-not-is_result_set
returns-then-not-is_result_set g c =
    let d = domain g.I.Concrete.Has g.I.Lattice.IsBelow g.I.IntDomain.OpGives g.I.IntDomain.OpOneGives g.I.IntDomain.ToGives g.I.IntDomain.KeepGives g.I.IntDomain.members_of in
    let p = c.args.layout.now.program.now in
    let xs = c.args.sets.now in
    let n = c.loop-id.id in
    let y = c.index-sets-id.result in
    let lt : n < length xs = omega (arith, c.loop-id-test.true) in
    let there : slice_get xs n ≡ Some y = slice_get_read xs (length xs) n y refl lt c.index-sets-id.is in
    ((λ e. absurd (cc)), (λ h. c.if-not-is_result_set.ensures.1 (set_from d p (slice_get xs) (IsResultType d p) n y there (h.there n lt))))

pub returns : goal.returns
returns g c =
    let d = domain g.I.Concrete.Has g.I.Lattice.IsBelow g.I.IntDomain.OpGives g.I.IntDomain.OpOneGives g.I.IntDomain.ToGives g.I.IntDomain.KeepGives g.I.IntDomain.members_of in
    let p = c.args.layout.now.program.now in
    let xs = c.args.sets.now in
    ((λ e. sets_all d p (slice_get xs) (IsResultType d p) c.loop-id.id (length xs) (omega (arith, c.loop-id-test.false)) c.loop-id.invariant), (λ h. refl))
