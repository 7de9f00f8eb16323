-- States that are equal but for the positions of statements in their lists.
use Rattle.std.specs.Prelude.{◌≡◌, true, List, [], ◌∷◌}
use Rattle.cc_steps.specs.State.{Active, IsSameCall, State}
use Rattle.cc_steps.specs.Turn.{is_going}
use Rattle.cc_meaning_simulations.specs.Transitions.{control_state}

-- activation by activation
abbrev pub AreActivesEqual : List Active → List Active → Type 0
AreActivesEqual [] [] = Unit {0}
AreActivesEqual (a ∷ below) (b ∷ others) = IsSameCall a b × (a.locals ≡ b.locals) × (control_state a ≡ control_state b) × AreActivesEqual below others
AreActivesEqual [] (b ∷ others) = ⊥
AreActivesEqual (a ∷ below) [] = ⊥

-- runs that have ended have no activations that matter
pub record AreEqualButPositions (s t : State) : Type 0 where
  pub memory : s.memory ≡ t.memory
  pub end : s.end ≡ t.end
  pub alive : is_going t.end ≡ true → (s.opened ≡ t.opened) × AreActivesEqual s.stack t.stack
