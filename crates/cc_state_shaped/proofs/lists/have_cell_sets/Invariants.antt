use Rattle.cc_state.specs.Shape.{AreSets, IsTrackedType}
use Rattle.cc_state_reads.specs.CcStateFacts.Facts.{cell_of}
use Rattle.cc_state_reads.specs.CcStateOperators.Domains.{domain}
use Rattle.cc_state_shaped.proofs.lists.have_cell_sets.Given as goal

abbrev pub invariant-loop-number : goal.invariant-loop-number
invariant-loop-number g l =
    let d = domain g.I.Concrete.Has g.I.Lattice.IsBelow g.I.IntDomain.OpGives g.I.IntDomain.OpOneGives g.I.IntDomain.ToGives g.I.IntDomain.KeepGives g.I.IntDomain.members_of in
    AreSets d l.layout.program.now l.number (cell_of l.fact) (IsTrackedType d l.layout.program.now)
