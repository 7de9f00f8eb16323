-- Each set so far is of its type; at the end these are all.
use Rattle.std.proofs.Common.{arith, ◌≡◌, ◌<◌, Some, length, refl, slice_get}
use Rattle.std.proofs.lemmas.Option.{slice_get_read}
use Rattle.cc_state.specs.Shape.{IsKeyType}
use Rattle.cc_state_reads.specs.CcStateOperators.Domains.{domain}
use Rattle.cc_state_shaped.proofs.Typed.{sets_none, sets_more, sets_all, set_into, set_from}
use Rattle.cc_state_shaped.proofs.lists.are_key_sets.Goals as goal

pub loop-number-init : goal.loop-number-init
loop-number-init g c =
    let d = domain g.I.Concrete.Has g.I.Lattice.IsBelow g.I.IntDomain.OpGives g.I.IntDomain.OpOneGives g.I.IntDomain.ToGives g.I.IntDomain.KeepGives g.I.IntDomain.members_of in
    let p = c.args.layout.now.program.now in
    sets_none d p (slice_get c.args.sets.now) (IsKeyType d p)

pub loop-number-preserved : goal.loop-number-preserved
loop-number-preserved g c =
    let d = domain g.I.Concrete.Has g.I.Lattice.IsBelow g.I.IntDomain.OpGives g.I.IntDomain.OpOneGives g.I.IntDomain.ToGives g.I.IntDomain.KeepGives g.I.IntDomain.members_of in
    let p = c.args.layout.now.program.now in
    let xs = c.args.sets.now in
    let n = c.loop-number.number in
    let y = c.index-sets-number.result in
    let there : slice_get xs n ≡ Some y = slice_get_read xs (length xs) n y refl (omega (arith, c.loop-number-test.true)) c.index-sets-number.is in
    sets_more d p (slice_get xs) (IsKeyType d p) n c.loop-number.invariant (set_into d p (slice_get xs) (IsKeyType d p) n y there (c.if-not-is_key_set.ensures.0 refl))

pub returns-then-not-is_key_set : goal.returns-then-not-is_key_set
returns-then-not-is_key_set g c =
    let d = domain g.I.Concrete.Has g.I.Lattice.IsBelow g.I.IntDomain.OpGives g.I.IntDomain.OpOneGives g.I.IntDomain.ToGives g.I.IntDomain.KeepGives g.I.IntDomain.members_of in
    let p = c.args.layout.now.program.now in
    let xs = c.args.sets.now in
    let n = c.loop-number.number in
    let y = c.index-sets-number.result in
    let lt : n < length xs = omega (arith, c.loop-number-test.true) in
    let there : slice_get xs n ≡ Some y = slice_get_read xs (length xs) n y refl lt c.index-sets-number.is in
    ((λ e. absurd (cc)), (λ h. c.if-not-is_key_set.ensures.1 (set_from d p (slice_get xs) (IsKeyType d p) n y there (h.there n lt))))

pub returns : goal.returns
returns g c =
    let d = domain g.I.Concrete.Has g.I.Lattice.IsBelow g.I.IntDomain.OpGives g.I.IntDomain.OpOneGives g.I.IntDomain.ToGives g.I.IntDomain.KeepGives g.I.IntDomain.members_of in
    let p = c.args.layout.now.program.now in
    let xs = c.args.sets.now in
    ((λ e. sets_all d p (slice_get xs) (IsKeyType d p) c.loop-number.number (length xs) (omega (arith, c.loop-number-test.false)) c.loop-number.invariant), (λ h. refl))
