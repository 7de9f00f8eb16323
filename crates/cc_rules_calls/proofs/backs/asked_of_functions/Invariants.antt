use Rattle.std.proofs.Common.{All, take}
use Rattle.cc_rules_calls.specs.Backs.{EachReturns, IsBehind}
use Rattle.cc_state_points.specs.CcStateOperators.Domains.{domain}
use Rattle.cc_rules_calls.proofs.backs.asked_of_functions.Given as goal

abbrev pub invariant-loop-id : goal.invariant-loop-id
invariant-loop-id g l =
    let d = (domain g.I.Concrete.Has g.I.Lattice.IsBelow g.I.IntDomain.OpGives g.I.IntDomain.OpOneGives g.I.IntDomain.ToGives g.I.IntDomain.KeepGives g.I.IntDomain.members_of) in
    EachReturns d l.here l.register (take l.id-index l.ids) l.asked.items × All (IsBehind d l.here) l.asked.items
