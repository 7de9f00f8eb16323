use Rattle.std.proofs.Common.{sym, subst}
use Rattle.cc_rules_asked.specs.CcLattice.Domains.{IsIntValue}
use Rattle.cc_rules_firsts.proofs.Least.{exact, number_least}
use Rattle.cc_rules_firsts.proofs.sets.one_number.Goals as goal

pub one-requires : goal.one-requires
one-requires g c = subst IsIntValue (sym (exact c.args.n.now c.requires)) c.requires

pub returns : goal.returns
returns g c = number_least g.I.Concrete.Has g.I.Lattice.IsBelow c.args.n.now c.one.result c.requires c.one.ensures.has c.one.ensures.least
