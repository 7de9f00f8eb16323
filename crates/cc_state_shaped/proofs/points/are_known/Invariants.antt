use Rattle.std.proofs.Common.{ℕ, ◌<◌, slice_get}
use Rattle.cc_state_reads.specs.CcStateOperators.Domains.{domain}
use Rattle.cc_state_shaped.proofs.Known.{IsKnownIn}
use Rattle.cc_state_shaped.proofs.points.are_known.Given as goal

abbrev pub invariant-loop-number : goal.invariant-loop-number
invariant-loop-number g l =
    let d = domain g.I.Concrete.Has g.I.Lattice.IsBelow g.I.IntDomain.OpGives g.I.IntDomain.OpOneGives g.I.IntDomain.ToGives g.I.IntDomain.KeepGives g.I.IntDomain.members_of in
    (k : ℕ) → k < l.number → IsKnownIn d l.layout.program.now k (slice_get l.at k)
