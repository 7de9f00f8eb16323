use Rattle.std.proofs.Common.{take}
use Rattle.std.specs.List.{AllZip}
use Rattle.cc_state_points.specs.CcStateOperators.Domains.{domain}
use Rattle.cc_state_points.specs.CcStateValues.Contexts.{IsValIn}
use Rattle.cc_rules_calls.proofs.called.values_here.Given as goal

abbrev pub invariant-loop-e : goal.invariant-loop-e
invariant-loop-e g l = AllZip (IsValIn (domain g.I.Concrete.Has g.I.Lattice.IsBelow g.I.IntDomain.OpGives g.I.IntDomain.OpOneGives g.I.IntDomain.ToGives g.I.IntDomain.KeepGives g.I.IntDomain.members_of) l.here.context) (take l.e-index l.args) l.sets.items
