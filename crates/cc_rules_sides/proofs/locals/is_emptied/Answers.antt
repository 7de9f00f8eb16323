-- A set of integers by those that it has; addresses stay.
use Rattle.cc_rules_sides.proofs.Emptied.{emptied_ints, stay}
use Rattle.cc_rules_flows.specs.CcStateOperators.Domains.{domain}
use Rattle.cc_rules_sides.proofs.locals.is_emptied.Goals as goal

pub returns-in-Addrs : goal.returns-in-Addrs
returns-in-Addrs g c = stay (domain g.I.Concrete.Has g.I.Lattice.IsBelow g.I.IntDomain.OpGives g.I.IntDomain.OpOneGives g.I.IntDomain.ToGives g.I.IntDomain.KeepGives g.I.IntDomain.members_of) c.args.set.now c.args.left.now c.in-Addrs.field-0 c.in-Addrs.is c.requires

pub returns-then-has_number : goal.returns-then-has_number
returns-then-has_number g c = emptied_ints (domain g.I.Concrete.Has g.I.Lattice.IsBelow g.I.IntDomain.OpGives g.I.IntDomain.OpOneGives g.I.IntDomain.ToGives g.I.IntDomain.KeepGives g.I.IntDomain.members_of) c.args.set.now c.args.left.now c.in-Ints.x c.in-Ints-left.z c.has_none.result c.in-Ints.is c.in-Ints-left.is (c.has_number.ensures.0 c.if-has_number.true) c.has_none.ensures
