-- By the kind of the set.
use Rattle.cc_rules_flows.specs.CcStateOperators.Domains.{domain}
use Rattle.cc_rules_tests.proofs.PassingValues.{addresses_told, other_told}
use Rattle.cc_rules_tests.proofs.passing.has_other_value.Goals as goal

pub returns-in-Ints : goal.returns-in-Ints
returns-in-Ints g c = other_told (domain g.I.Concrete.Has g.I.Lattice.IsBelow g.I.IntDomain.OpGives g.I.IntDomain.OpOneGives g.I.IntDomain.ToGives g.I.IntDomain.KeepGives g.I.IntDomain.members_of) c.args.y.now c.in-Ints.x c.args.labels.now c.has_other_number.result c.in-Ints.is c.has_other_number.ensures

pub returns-in-Addrs : goal.returns-in-Addrs
returns-in-Addrs g c = addresses_told (domain g.I.Concrete.Has g.I.Lattice.IsBelow g.I.IntDomain.OpGives g.I.IntDomain.OpOneGives g.I.IntDomain.ToGives g.I.IntDomain.KeepGives g.I.IntDomain.members_of) c.args.y.now c.in-Addrs.s c.args.labels.now c.all.result.now c.is_empty.result c.in-Addrs.is c.all.ensures c.is_empty.ensures
