use Rattle.std.proofs.Common.{◌+◌, ◌*◌, ◌^◌, length}
use Rattle.cc_fix.specs.Work.{listed, IsWork, IsBelowSolutions}
use Rattle.cc_fix.proofs.solve.least.Given as goal

abbrev pub invariant-loop-index : goal.invariant-loop-index
invariant-loop-index g l =
    let s = g.S.System in
    s.IsFitting l.system l.facts
    × IsWork (s.count_of l.system) (s.Asks l.system) l.facts l.work.pending.items (listed l.work)
    × IsBelowSolutions (s.IsFitting l.system) g.S.Facts.Lattice.IsBelow (s.count_of l.system) (s.Asks l.system) l.facts

abbrev pub decreases-loop-index : goal.decreases-loop-index
decreases-loop-index g l = g.S.System.room_of l.system l.facts * 2 ^ 65 + length (listed l.work)
