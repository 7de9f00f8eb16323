use Rattle.std.specs.Prelude.{ℕ}
use Rattle.cc_cells.specs.Cells.{cells_of, scalar_in}
use Rattle.cc_state_holds.proofs.Eaches.{EachTo}
use Rattle.cc_state_holds.specs.Parts.{IsCellHeld}
use Rattle.cc_state_reads.specs.CcStateOperators.Domains.{domain}
use Rattle.cc_state_holds.proofs.memory.are_cells_held.Given as goal

abbrev pub invariant-loop-i : goal.invariant-loop-i
invariant-loop-i g l =
    EachTo (λ (k i : ℕ). IsCellHeld (domain g.I.Concrete.Has g.I.Lattice.IsBelow g.I.IntDomain.OpGives g.I.IntDomain.OpOneGives g.I.IntDomain.ToGives g.I.IntDomain.KeepGives g.I.IntDomain.members_of) l.b.program.now l.fact i (scalar_in (cells_of l.statics) i 0)) l.b.tracked.now l.i-index
