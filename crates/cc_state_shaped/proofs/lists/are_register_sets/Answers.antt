-- Each set so far is of its type; at the end these are all.
use Rattle.std.proofs.Common.{arith, ◌≡◌, ◌<◌, Some, length, refl, sym, subst, slice_get}
use Rattle.std.proofs.lemmas.Option.{slice_get_read}
use Rattle.cc_state.specs.Shape.{IsRegisterType}
use Rattle.cc_state_reads.specs.CcStateOperators.Domains.{domain}
use Rattle.cc_state_shaped.specs.Parts.{IsSetOf}
use Rattle.cc_state_shaped.proofs.Typed.{sets_none, sets_more, sets_all, set_into, set_from}
use Rattle.cc_state_shaped.proofs.lists.are_register_sets.Goals as goal

pub loop-number-init : goal.loop-number-init
loop-number-init g c =
    let d = domain g.I.Concrete.Has g.I.Lattice.IsBelow g.I.IntDomain.OpGives g.I.IntDomain.OpOneGives g.I.IntDomain.ToGives g.I.IntDomain.KeepGives g.I.IntDomain.members_of in
    let p = c.args.layout.now.program.now in
    sets_none d p (slice_get c.args.sets.now) (IsRegisterType d p c.args.f.now)

pub loop-number-preserved : goal.loop-number-preserved
loop-number-preserved g c =
    let d = domain g.I.Concrete.Has g.I.Lattice.IsBelow g.I.IntDomain.OpGives g.I.IntDomain.OpOneGives g.I.IntDomain.ToGives g.I.IntDomain.KeepGives g.I.IntDomain.members_of in
    let p = c.args.layout.now.program.now in
    let xs = c.args.sets.now in
    let n = c.loop-number.number in
    let y = c.index-sets-number.result in
    let there : slice_get xs n ≡ Some y = slice_get_read xs (length xs) n y refl (omega (arith, c.loop-number-test.true)) c.index-sets-number.is in
    sets_more d p (slice_get xs) (IsRegisterType d p c.args.f.now) n c.loop-number.invariant (set_into d p (slice_get xs) (IsRegisterType d p c.args.f.now) n y there (subst (IsSetOf d p (IsRegisterType d p c.args.f.now n)) c.get.ensures (c.if-not-is_register_set.ensures.0 refl)))

pub returns-then-not-is_register_set : goal.returns-then-not-is_register_set
returns-then-not-is_register_set g c =
    let d = domain g.I.Concrete.Has g.I.Lattice.IsBelow g.I.IntDomain.OpGives g.I.IntDomain.OpOneGives g.I.IntDomain.ToGives g.I.IntDomain.KeepGives g.I.IntDomain.members_of in
    let p = c.args.layout.now.program.now in
    let xs = c.args.sets.now in
    let n = c.loop-number.number in
    let y = c.index-sets-number.result in
    let lt : n < length xs = omega (arith, c.loop-number-test.true) in
    let there : slice_get xs n ≡ Some y = slice_get_read xs (length xs) n y refl lt c.index-sets-number.is in
    ((λ e. absurd (cc)), (λ h. c.if-not-is_register_set.ensures.1 (subst (IsSetOf d p (IsRegisterType d p c.args.f.now n)) (sym c.get.ensures) (set_from d p (slice_get xs) (IsRegisterType d p c.args.f.now) n y there (h.there n lt)))))

pub returns : goal.returns
returns g c =
    let d = domain g.I.Concrete.Has g.I.Lattice.IsBelow g.I.IntDomain.OpGives g.I.IntDomain.OpOneGives g.I.IntDomain.ToGives g.I.IntDomain.KeepGives g.I.IntDomain.members_of in
    let p = c.args.layout.now.program.now in
    let xs = c.args.sets.now in
    ((λ e. sets_all d p (slice_get xs) (IsRegisterType d p c.args.f.now) c.loop-number.number (length xs) (omega (arith, c.loop-number-test.false)) c.loop-number.invariant), (λ h. refl))
