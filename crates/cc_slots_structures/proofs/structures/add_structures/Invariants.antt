use Rattle.std.proofs.Common.{◌≤◌, length}
use Rattle.cc_slots_structures.specs.Added.{AreFrom}
use Rattle.cc_slots_structures.proofs.structures.add_structures.Given as goal

abbrev pub invariant-loop-first : goal.invariant-loop-first
invariant-loop-first l = record { low : l.first ≤ length l.p.structures; known : AreFrom l.p l.first l.list }

abbrev pub decreases-loop-first : goal.decreases-loop-first
decreases-loop-first l = l.first
