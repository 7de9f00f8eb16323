use Rattle.std.proofs.Common.{slice_get}
use Rattle.cc_state.specs.Shape.{AreSets, IsKeyType}
use Rattle.cc_state_reads.specs.CcStateOperators.Domains.{domain}
use Rattle.cc_state_shaped.proofs.lists.are_key_sets.Given as goal

abbrev pub invariant-loop-number : goal.invariant-loop-number
invariant-loop-number g l =
    let d = domain g.I.Concrete.Has g.I.Lattice.IsBelow g.I.IntDomain.OpGives g.I.IntDomain.OpOneGives g.I.IntDomain.ToGives g.I.IntDomain.KeepGives g.I.IntDomain.members_of in
    AreSets d l.layout.program.now l.number (slice_get l.sets) (IsKeyType d l.layout.program.now)
