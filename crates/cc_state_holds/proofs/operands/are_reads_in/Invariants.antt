use Rattle.std.specs.Prelude.{◌≡◌, take}
use Rattle.cc_program.specs.declared.func.Func.{Func}
use Rattle.cc_state_holds.proofs.Eaches.{EachTo}
use Rattle.cc_state_holds.specs.Parts.{IsReadIn}
use Rattle.cc_state_reads.specs.CcStateKeys.Tracked.{registers}
use Rattle.cc_state_reads.specs.CcStateOperators.Domains.{domain}
use Rattle.cc_steps.specs.View.{active_of}
use Rattle.cc_state_holds.proofs.operands.are_reads_in.Given as goal

abbrev pub invariant-loop-k : goal.invariant-loop-k
invariant-loop-k g l =
    (f : Func) → l.own ≡ registers f → EachTo (λ k mark. IsReadIn (domain g.I.Concrete.Has g.I.Lattice.IsBelow g.I.IntDomain.OpGives g.I.IntDomain.OpOneGives g.I.IntDomain.ToGives g.I.IntDomain.KeepGives g.I.IntDomain.members_of) l.b.program.now l.b.facts.now (active_of l.a) f l.place.number (take k l.marks) mark) l.marks l.k
