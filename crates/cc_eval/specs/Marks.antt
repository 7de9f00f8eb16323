-- How what asks for steps uses the marks of those that were done.
use Rattle.std.specs.Prelude.{◌≡◌, List, [], ◌∷◌, ◌++◌}
use Rattle.cc_eval.specs.declared.action.Action.{Action}
use Rattle.cc_eval.specs.declared.mark.Mark.{Mark}
use Rattle.cc_eval.specs.Progress.{Progress, Known, Waits, Traps, Get}

-- marks that are used: the first ones, and the same ones whatever stands behind them
abbrev pub IsUsed : {A : Type 0} → Get A → (List Mark → Progress A) → List Mark → List Mark → Type 0
IsUsed g outcome ms rest = (used : List Mark) × (ms ≡ used ++ rest) × ((more : List Mark) → g (used ++ more) ≡ outcome more)

-- an answer stays the same under more marks, and so does a trap
pub record UsesFirst {A : Type 0} (g : Get A) : Type 0 where
  pub known : (a : A) (ms rest : List Mark) → g ms ≡ Known a rest → IsUsed g (Known a) ms rest
  pub traps : (ms rest : List Mark) → g ms ≡ Traps rest → IsUsed g Traps ms rest

-- under more marks an answer is the same and leaves those too, and so does a trap
pub record Stays {A : Type 0} (g : Get A) : Type 0 where
  pub known : (ms rest more : List Mark) (a : A) → g ms ≡ Known a rest → g (ms ++ more) ≡ Known a (rest ++ more)
  pub traps : (ms rest more : List Mark) → g ms ≡ Traps rest → g (ms ++ more) ≡ Traps (rest ++ more)

-- where it waits it has used all marks: it waited at those in front too, and what comes by one mark more leaves none
pub record UsesAll {A : Type 0} (g : Get A) : Type 0 where
  pub before : (front back : List Mark) (action : Action) → g (front ++ back) ≡ Waits action → (first : Action) × (g front ≡ Waits first)
  pub known : (ms rest : List Mark) (m : Mark) (action : Action) (a : A) → g ms ≡ Waits action → g (ms ++ m ∷ []) ≡ Known a rest → rest ≡ []
  pub traps : (ms rest : List Mark) (m : Mark) (action : Action) → g ms ≡ Waits action → g (ms ++ m ∷ []) ≡ Traps rest → rest ≡ []

-- what is left once the first step has this mark
abbrev pub after : {A : Type 0} → Get A → Mark → Get A
after g m ms = g (m ∷ ms)

module _ (IsMark : Action → Mark → Type 0) where
  -- where a step was asked for at the marks in front of one, that is a mark of the step
  abbrev pub AnswerSteps : {A : Type 0} → Get A → List Mark → Type 0
  AnswerSteps g ms = (front back : List Mark) (m : Mark) (action : Action) → ms ≡ front ++ m ∷ back → g front ≡ Waits action → IsMark action m

  -- and one was asked for there in front of each
  abbrev pub AnswerEach : {A : Type 0} → Get A → List Mark → Type 0
  AnswerEach g ms = (front back : List Mark) (m : Mark) → ms ≡ front ++ m ∷ back → (action : Action) × (g front ≡ Waits action) × IsMark action m

  -- by marks that answer what was asked: what it gives is as it should be, and so is each step that it asks for
  pub record Works (IsStep : Action → Type 0) {A : Type 0} (P : A → Type 0) (g : Get A) : Type 0 where
    pub known : (ms rest : List Mark) (a : A) → AnswerSteps g ms → g ms ≡ Known a rest → IsUsed g (Known a) ms rest × P a
    pub waits : (ms : List Mark) (action : Action) → AnswerSteps g ms → g ms ≡ Waits action → IsStep action
