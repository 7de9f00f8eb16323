use Rattle.std.proofs.Common.{slice_get}
use Rattle.cc_state.specs.Shape.{AreSets, IsResultType}
use Rattle.cc_state_reads.specs.CcStateOperators.Domains.{domain}
use Rattle.cc_state_shaped.proofs.lists.are_result_sets.Given as goal

abbrev pub invariant-loop-id : goal.invariant-loop-id
invariant-loop-id g l =
    let d = domain g.I.Concrete.Has g.I.Lattice.IsBelow g.I.IntDomain.OpGives g.I.IntDomain.OpOneGives g.I.IntDomain.ToGives g.I.IntDomain.KeepGives g.I.IntDomain.members_of in
    AreSets d l.layout.program.now l.id (slice_get l.sets) (IsResultType d l.layout.program.now)
