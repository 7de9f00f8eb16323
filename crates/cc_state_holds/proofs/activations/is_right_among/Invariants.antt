use Rattle.std.specs.Prelude.{◌≡◌, ℕ}
use Rattle.std.specs.Option.{option_copied}
use Rattle.cc_cells.specs.Cells.{cells_of}
use Rattle.cc_program.specs.declared.func.Func.{Func}
use Rattle.cc_state_holds.proofs.Eaches.{EachTo}
use Rattle.cc_state_holds.specs.Parts.{IsRight}
use Rattle.cc_state_reads.specs.CcStateKeys.Tracked.{registers}
use Rattle.cc_state_reads.specs.CcStateOperators.Domains.{domain}
use Rattle.cc_steps.specs.State.{Memory}
use Rattle.cc_steps.specs.View.{active_of}
use Rattle.cc_state_holds.proofs.activations.is_right_among.Given as goal

abbrev pub invariant-loop-n : goal.invariant-loop-n
invariant-loop-n g l =
    (f : Func) (m : Memory) → l.own ≡ registers f → m.statics ≡ cells_of l.around.statics.now →
    EachTo (λ (k n : ℕ). IsRight (domain g.I.Concrete.Has g.I.Lattice.IsBelow g.I.IntDomain.OpGives g.I.IntDomain.OpOneGives g.I.IntDomain.ToGives g.I.IntDomain.KeepGives g.I.IntDomain.members_of) l.b.program.now l.b.facts.now l.around.flag m (active_of l.a) f (option_copied l.pending) n → ⊥) l.points l.n-index
