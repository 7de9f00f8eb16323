-- Where it has not one.
use Rattle.cc_rules_sides.specs.Refined.{HasNumber}
use Rattle.cc_rules_sides.proofs.Emptied.{none_told}
use Rattle.cc_rules_flows.specs.CcStateOperators.Domains.{domain}
use Rattle.cc_rules_sides.proofs.locals.has_none.Goals as goal

pub returns : goal.returns
returns g c = none_told (HasNumber (domain g.I.Concrete.Has g.I.Lattice.IsBelow g.I.IntDomain.OpGives g.I.IntDomain.OpOneGives g.I.IntDomain.ToGives g.I.IntDomain.KeepGives g.I.IntDomain.members_of) c.args.x.now) c.has_number.result c.has_number.ensures
