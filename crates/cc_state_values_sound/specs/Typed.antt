-- The marks that a run gives an activation: each has the type of its step, and registers give values of their sets.
use Rattle.std.specs.Prelude.{ℕ, ℤ, List, Option}
use Rattle.cc_state_values.specs.CcEval.declared.action.Action.{Action}
use Rattle.cc_state_values.specs.CcEval.declared.mark.Mark.{Mark}
use Rattle.cc_state_values.specs.CcEval.Context.{Context}
use Rattle.cc_state_values.specs.CcPlaces.declared.abs.Abs.{Abs}
use Rattle.cc_states.specs.Answers.{IsMarkOf}
use Rattle.cc_state_values_sound.specs.Steps.{IsAnswer}

pub record IsTypedAnswer {I : Type 0} (has : I → ℤ → Type 0) (c : Context) (openings : List ℕ) (register : ℕ → Option (Abs I)) (asked : Action) (m : Mark) : Type 0 where
  pub typed : IsMarkOf c.program openings asked m
  pub in_sets : IsAnswer has c register asked m
