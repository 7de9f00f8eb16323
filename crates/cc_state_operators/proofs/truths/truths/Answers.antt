-- 0 and 1 are joined.
use Rattle.std.proofs.Common.{true}
use Rattle.std.proofs.lemmas.Result.{IfOk-weaker}
use Rattle.cc_program.specs.CcNum.declared.int_type.IntType.TheVariants as int
use Rattle.cc_state_operators.specs.Domains.{domain}
use Rattle.cc_state_operators.proofs.Hulls.{order_of, as_truths, zero_and_one, zero_typed, one_typed}
use Rattle.cc_state_operators.proofs.truths.truths.Goals as goal

pub returns-then-has_one-clause-hull : goal.returns-then-has_one-clause-hull
returns-then-has_one-clause-hull g c =
    let d = domain g.I.Concrete.Has g.I.Lattice.IsBelow g.I.IntDomain.OpGives g.I.IntDomain.OpOneGives g.I.IntDomain.ToGives g.I.IntDomain.KeepGives g.I.IntDomain.members_of in
    let o = order_of d g.I.Lattice.AreAlike g.met.I.IntDomain.all_alike g.met.I.Lattice.below_itself g.met.I.Lattice.below_through g.met.I.IntDomain.below_has in
    IfOk-weaker c.join.result _ _
    (λ j l. as_truths d c.args.has_zero c.args.has_one true true j c.if-has_zero.true c.if-has_one.true
    (zero_and_one d g.I.Lattice.AreAlike g.met.I.IntDomain.all_alike o c.one.result c.one-then-has_one.result j
    (record { only = c.one.ensures.has; least = c.one.ensures.least }) (record { only = c.one-then-has_one.ensures.has; least = c.one-then-has_one.ensures.least }) l))
    c.join.ensures

pub returns-then-has_one-clause-typed : goal.returns-then-has_one-clause-typed
returns-then-has_one-clause-typed g c =
    let d = domain g.I.Concrete.Has g.I.Lattice.IsBelow g.I.IntDomain.OpGives g.I.IntDomain.OpOneGives g.I.IntDomain.ToGives g.I.IntDomain.KeepGives g.I.IntDomain.members_of in
    IfOk-weaker c.join.result _ _
    (λ j l c'. g.met.I.IntDomain.join_typed c.one.result c.one-then-has_one.result j int.Int c' l
    (zero_typed d c' c.one.result (record { only = c.one.ensures.has; least = c.one.ensures.least }))
    (one_typed d c' c.one-then-has_one.result (record { only = c.one-then-has_one.ensures.has; least = c.one-then-has_one.ensures.least })))
    c.join.ensures
