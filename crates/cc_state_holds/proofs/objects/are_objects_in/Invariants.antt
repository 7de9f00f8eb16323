use Rattle.std.specs.Prelude.{List, slice_get}
use Rattle.cc_cells.specs.Cells.{cells_of}
use Rattle.cc_state_reads.specs.CcStateFacts.declared.facts.Key.{Key}
use Rattle.cc_state_holds.proofs.Eaches.{EachTo}
use Rattle.cc_state_holds.specs.Parts.{IsObjectIn}
use Rattle.cc_state_reads.specs.CcStateOperators.Domains.{domain}
use Rattle.cc_state_holds.proofs.objects.are_objects_in.Given as goal

abbrev pub invariant-loop-i : goal.invariant-loop-i
invariant-loop-i g l =
    EachTo (λ i (ks : List Key). IsObjectIn (domain g.I.Concrete.Has g.I.Lattice.IsBelow g.I.IntDomain.OpGives g.I.IntDomain.OpOneGives g.I.IntDomain.ToGives g.I.IntDomain.KeepGives g.I.IntDomain.members_of) l.b.program.now l.b.facts.now ks (slice_get (cells_of l.statics) i)) l.b.objects.now l.i
