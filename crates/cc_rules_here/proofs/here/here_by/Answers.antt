use Rattle.std.proofs.Common.{refl}
use Rattle.cc_rules_here.proofs.HereLemmas.{is_here}
use Rattle.cc_state_points.specs.CcStateOperators.Domains.{domain}
use Rattle.cc_rules_here.proofs.here.here_by.Goals as goal

pub returns : goal.returns
returns g c =
    is_here (domain g.I.Concrete.Has g.I.Lattice.IsBelow g.I.IntDomain.OpGives g.I.IntDomain.OpOneGives g.I.IntDomain.ToGives g.I.IntDomain.KeepGives g.I.IntDomain.members_of) c.args.program.now c.args.facts.now c.args.number _ c.args.function.now c.requires.normal c.requires.shape c.requires.function
    (record { program = refl; these = refl; number = refl; there = c.requires.there; id = refl; func = refl; registers = c.all-registers.ensures; sets = c.all-sets.ensures; tracked = c.requires.tracked; reached = c.requires.reached })
