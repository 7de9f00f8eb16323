-- Simulations by control alone: two activations converge where each comes by jumps to controls that match; there both make the same
-- transition, and converge again. Memory and locals are the same.
use Rattle.std.specs.Prelude.{◌≡◌, true}
use Rattle.cc_program.specs.declared.program.Program.{Program}
use Rattle.cc_steps.specs.CcEval.declared.mark.Mark.{Mark}
use Rattle.cc_meaning_simulations.specs.Transitions.{ControlState, is_at_boundary, Transition, FallsOff, Performs, Aborts, Jumps, Returns, transition, marked_control}

module _ (Q P : Program) (Match : ControlState → ControlState → Type 0) where
  -- jumps of either lead to controls that match. Where P leaves a boundary, Q is at one.
  pub data ControlConverges : ControlState → ControlState → Type 0 where
    Matches : (q p : ControlState) → Match q p → ControlConverges q p
    QJumps : (q p q' : ControlState) → transition Q q ≡ Jumps q' → ControlConverges q' p → ControlConverges q p
    PJumps : (q p p' : ControlState) → transition P p ≡ Jumps p' → (is_at_boundary p ≡ true → is_at_boundary q ≡ true) → ControlConverges q p' → ControlConverges q p

  -- both make the same transition, and converge again, whatever mark an action leaves
  abbrev pub AreControlsAlike : ControlState → ControlState → Transition → Transition → Type 0
  AreControlsAlike q p FallsOff FallsOff = Unit {0}
  AreControlsAlike q p (Performs x) (Performs y) = (x ≡ y) × ((m : Mark) → ControlConverges (marked_control Q q m) (marked_control P p m))
  AreControlsAlike q p Aborts Aborts = Unit {0}
  AreControlsAlike q p (Jumps c) (Jumps d) = ControlConverges c d
  AreControlsAlike q p (Returns v) (Returns w) = v ≡ w
  AreControlsAlike q p _ _ = ⊥
