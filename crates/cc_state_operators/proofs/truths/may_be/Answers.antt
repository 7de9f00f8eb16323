-- By the kind of the value and the truth that is asked for.
use Rattle.std.proofs.Common.{true, false}
use Rattle.cc_places.specs.declared.abs.Abs.TheVariants as abs
use Rattle.cc_state_operators.specs.Domains.{domain}
use Rattle.cc_state_operators.proofs.Tests.{as_known, ints_false, addrs_true, addrs_false}
use Rattle.cc_state_operators.proofs.truths.may_be.Goals as goal

pub returns-else-b : goal.returns-else-b
returns-else-b g c =
    let d = domain g.I.Concrete.Has g.I.Lattice.IsBelow g.I.IntDomain.OpGives g.I.IntDomain.OpOneGives g.I.IntDomain.ToGives g.I.IntDomain.KeepGives g.I.IntDomain.members_of in
    as_known d c.args.b false c.args.x.now (abs.Ints c.in-Ints.numbers) c.has.result c.if-b.false c.in-Ints.is (ints_false d c.in-Ints.numbers c.has.result c.has.ensures)

pub returns-then-b-2 : goal.returns-then-b-2
returns-then-b-2 g c =
    let d = domain g.I.Concrete.Has g.I.Lattice.IsBelow g.I.IntDomain.OpGives g.I.IntDomain.OpOneGives g.I.IntDomain.ToGives g.I.IntDomain.KeepGives g.I.IntDomain.members_of in
    as_known d c.args.b true c.args.x.now (abs.Addrs c.in-Addrs.places) c.has_other_addresses.result c.if-b-2.true c.in-Addrs.is
    (addrs_true d c.in-Addrs.places c.all.result.now c.has_other_addresses.result c.all.ensures c.has_other_addresses.ensures)

pub returns-else-b-2 : goal.returns-else-b-2
returns-else-b-2 g c =
    let d = domain g.I.Concrete.Has g.I.Lattice.IsBelow g.I.IntDomain.OpGives g.I.IntDomain.OpOneGives g.I.IntDomain.ToGives g.I.IntDomain.KeepGives g.I.IntDomain.members_of in
    as_known d c.args.b false c.args.x.now (abs.Addrs c.in-Addrs.places) c.has-else-b-2.result c.if-b-2.false c.in-Addrs.is (addrs_false d c.in-Addrs.places c.has-else-b-2.result c.has-else-b-2.ensures)
