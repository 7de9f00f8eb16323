-- A number is added by a join with the set that it makes alone.
use Rattle.std.proofs.Common.{◌≡◌, Some}
use Rattle.std.proofs.lemmas.Result.{IfOk-weaker}
use Rattle.cc_program.specs.declared.value.Value.TheVariants.{Int}
use Rattle.cc_state_operators.specs.Domains.{domain}
use Rattle.cc_state_operators.proofs.Exact.{number_read}
use Rattle.cc_state_operators.proofs.Hulls.{order_of, from_number, number_typed}
use Rattle.cc_state_operators.proofs.Images.{number_named, only_number}
use Rattle.cc_state_operators.proofs.pairs.with_number.Goals as goal

pub returns-in-Int-clause-hull : goal.returns-in-Int-clause-hull
returns-in-Int-clause-hull g c =
    let d = domain g.I.Concrete.Has g.I.Lattice.IsBelow g.I.IntDomain.OpGives g.I.IntDomain.OpOneGives g.I.IntDomain.ToGives g.I.IntDomain.KeepGives g.I.IntDomain.members_of in
    let o = order_of d g.I.Lattice.AreAlike g.met.I.IntDomain.all_alike g.met.I.Lattice.below_itself g.met.I.Lattice.below_through g.met.I.IntDomain.below_has in
    let m = c.in-Int.n in
    let e = number_named c.args.v.now c.in-Some.value m c.in-Some.is c.in-Int.is in
    IfOk-weaker c.join.result _ _
    (λ j l. from_number d g.I.Lattice.AreAlike g.met.I.IntDomain.all_alike o (λ n. c.args.v.now ≡ Some (Int n)) m c.args.set c.one.result j
    (number_read d m c.one.result (c.requires m e) c.one.ensures.has c.one.ensures.least) (λ n h. only_number c.args.v.now m n e h) e l)
    c.join.ensures

pub returns-in-Int-clause-typed : goal.returns-in-Int-clause-typed
returns-in-Int-clause-typed g c =
    let d = domain g.I.Concrete.Has g.I.Lattice.IsBelow g.I.IntDomain.OpGives g.I.IntDomain.OpOneGives g.I.IntDomain.ToGives g.I.IntDomain.KeepGives g.I.IntDomain.members_of in
    let m = c.in-Int.n in
    let e = number_named c.args.v.now c.in-Some.value m c.in-Some.is c.in-Int.is in
    IfOk-weaker c.join.result _ _
    (λ j l t c' h k. g.met.I.IntDomain.join_typed c.args.set c.one.result j t c' l h
    (number_typed d t c' m c.one.result (number_read d m c.one.result (c.requires m e) c.one.ensures.has c.one.ensures.least) (k m e)))
    c.join.ensures
