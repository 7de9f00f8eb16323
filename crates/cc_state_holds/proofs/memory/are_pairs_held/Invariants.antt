use Rattle.std.specs.Prelude.{◌≡◌, ℕ}
use Rattle.std.specs.Option.{option_copied}
use Rattle.cc_cells.specs.Cells.{cells_of}
use Rattle.cc_program.specs.declared.func.Func.{Func}
use Rattle.cc_proof_covers.specs.Pending.{value_in}
use Rattle.cc_state_holds.proofs.Eaches.{EachTo}
use Rattle.cc_state_holds.specs.Parts.{IsPairHeld}
use Rattle.cc_state_reads.specs.CcStateKeys.Tracked.{registers}
use Rattle.cc_steps.specs.View.{active_of}
use Rattle.cc_state_holds.proofs.memory.are_pairs_held.Given as goal

abbrev pub invariant-loop-pair : goal.invariant-loop-pair
invariant-loop-pair g l =
    (f : Func) → l.registers ≡ registers f → EachTo (λ k (pair : ℕ × ℕ). IsPairHeld l.b.program.now f pair (value_in (option_copied l.pending) (active_of l.a)) (cells_of l.statics)) l.pairs l.pair-index
