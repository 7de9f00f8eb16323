use Rattle.std.proofs.Common.{sym}
use Rattle.cc_rules_calls.proofs.BackLemmas.{none_asked}
use Rattle.cc_state_points.specs.CcStateOperators.Domains.{domain}
use Rattle.cc_rules_calls.proofs.backs.put_back.Goals as goal

pub put_exit-requires : goal.put_exit-requires
put_exit-requires g c = record { here = c.requires.here; function = c.requires.function; gets = c.requires.gets; exit = sym c.in-Some.ensures }

pub returns-in-None : goal.returns-in-None
returns-in-None g c = none_asked (domain g.I.Concrete.Has g.I.Lattice.IsBelow g.I.IntDomain.OpGives g.I.IntDomain.OpOneGives g.I.IntDomain.ToGives g.I.IntDomain.KeepGives g.I.IntDomain.members_of) c.args.here.now c.args.register c.args.id c.args.function.now c.args.asked.now.items c.requires.function (sym c.in-None.ensures)
