use Rattle.std.specs.Prelude.{◌≡◌, List, slice_get}
use Rattle.cc_cells.specs.Cells.{cells_of}
use Rattle.cc_program.specs.declared.func.Func.{Func}
use Rattle.cc_state_reads.specs.CcStateFacts.declared.facts.Key.{Key}
use Rattle.cc_state_holds.proofs.Eaches.{EachTo}
use Rattle.cc_state_holds.specs.Parts.{IsLocalIn}
use Rattle.cc_state_reads.specs.CcStateKeys.Tracked.{registers}
use Rattle.cc_state_reads.specs.CcStateOperators.Domains.{domain}
use Rattle.cc_state_holds.proofs.locals.are_local_lists_in.Given as goal

abbrev pub invariant-loop-r : goal.invariant-loop-r
invariant-loop-r g l =
    (f : Func) → l.registers ≡ registers f →
    EachTo (λ r (ks : List Key). IsLocalIn (domain g.I.Concrete.Has g.I.Lattice.IsBelow g.I.IntDomain.OpGives g.I.IntDomain.OpOneGives g.I.IntDomain.ToGives g.I.IntDomain.KeepGives g.I.IntDomain.members_of) l.b.program.now l.b.facts.now f r ks (slice_get (cells_of l.locals) r)) l.keys l.r
