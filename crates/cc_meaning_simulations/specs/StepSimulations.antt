-- Simulations by single steps of the running activations: a relation of the running activations of two programs, with their memories, and one
-- of the suspended ones below them, give a relation of states. A step of either program is answered by silent steps of one of them, or by
-- both in lockstep; a handler enters where both may be entered.
use Rattle.std.specs.Prelude.{◌≡◌, ℕ, Bool, true, false, not, ◌&&◌, List, [], ◌∷◌, ◌++◌, slice_get, Some}
use Rattle.cc_program.specs.declared.func.Func.{Func}
use Rattle.cc_program.specs.declared.program.Program.{Program}
use Rattle.cc_steps.specs.declared.event.End.TheVariants.{Going}
use Rattle.cc_steps.specs.declared.event.Event.TheVariants.{Enter}
use Rattle.cc_steps.specs.Rows.{rows_of}
use Rattle.cc_steps.specs.Runs.{is_empty, begins}
use Rattle.cc_steps.specs.State.{Active, IsSameCall, Memory, State}
use Rattle.cc_steps.specs.Step.{activation, proceed}
use Rattle.cc_steps.specs.Turn.{is_going}

-- the state of a run that goes on
abbrev pub going : Memory → List Active → ℕ → State
going m stack opened = record { memory = m; stack = stack; opened = opened; end = Going }

-- a silent step: it changes the running activation, maybe the memory, and nothing else
pub record IsSilent (p : Program) (m : Memory) (a : Active) (n : Memory) (b : Active) : Type 0 where
  pub same : IsSameCall b a
  pub step : (below : List Active) (opened : ℕ) → proceed p (going m (a ∷ below) opened) (a ∷ below) ≡ going n (b ∷ below) opened

-- the memory with which a handler begins
abbrev pub entry_memory : Memory → ℕ → Memory
entry_memory m h = record { flag = false; statics = m.statics; inputs = m.inputs; trace = m.trace ++ Enter h ∷ [] }

-- whether the next step of an activation is the first of a statement, or of a loop's turn
abbrev pub begins_there : Active → Bool
begins_there a = is_empty a.marks && begins a.here.rest a.here.phase

-- Suspended relates activations that wait for a call (true) or were interrupted by a handler (false), Running the running ones.
module _ (Suspended : Bool → Active → Active → Type 0) where
  -- the stacks below running activations, of which the first waits for a call or was interrupted
  abbrev pub SuspendedStacks : Bool → List Active → List Active → Type 0
  SuspendedStacks called [] [] = Unit {0}
  SuspendedStacks called (q ∷ qs) (p ∷ ps) = IsSameCall q p × Suspended called q p × SuspendedStacks (not p.handler) qs ps
  SuspendedStacks called [] (p ∷ ps) = ⊥
  SuspendedStacks called (q ∷ qs) [] = ⊥

  module _ (Running : Memory → Active → Memory → Active → Type 0) where
    abbrev pub Stacks : Memory → Memory → List Active → List Active → Type 0
    Stacks m n [] [] = ⊥
    Stacks m n (q ∷ qs) (p ∷ ps) = IsSameCall q p × Running m q n p × SuspendedStacks (not p.handler) qs ps
    Stacks m n [] (p ∷ ps) = ⊥
    Stacks m n (q ∷ qs) [] = ⊥

    module _ (Q P : Program) where
      -- of runs that have ended only what can be seen is related
      pub record Related (s t : State) : Type 0 where
        pub rows : rows_of Q s.memory.trace ≡ rows_of P t.memory.trace
        pub end : s.end ≡ t.end
        pub alive : is_going t.end ≡ true → (s.opened ≡ t.opened) × Stacks s.memory t.memory s.stack t.stack

      -- a step of both, in lockstep, above these activations of P
      abbrev pub Lockstep : List Active → ℕ → Memory → Active → Memory → Active → Type 0
      Lockstep ps opened m q n p = (qs : List Active) → IsSameCall q p → SuspendedStacks (not p.handler) qs ps →
          Related (proceed Q (going m (q ∷ qs) opened) (q ∷ qs)) (proceed P (going n (p ∷ ps) opened) (p ∷ ps))

      -- a step of Q: a silent one alone; or behind silent steps of P; or in lockstep
      pub data Followed (ps : List Active) (opened : ℕ) : Memory → Active → Memory → Active → Type 0 where
        QAlone : (m n m' : Memory) (q p q' : Active) → IsSilent Q m q m' q' → Running m' q' n p → Followed ps opened m q n p
        PFirst : (m n n' : Memory) (q p p' : Active) → IsSilent P n p n' p' → Followed ps opened m q n' p' → Followed ps opened m q n p
        QWithP : (m n : Memory) (q p : Active) → Lockstep ps opened m q n p → Followed ps opened m q n p

      -- a step of P, likewise
      pub data Answered (ps : List Active) (opened : ℕ) : Memory → Active → Memory → Active → Type 0 where
        PAlone : (m n n' : Memory) (q p p' : Active) → IsSilent P n p n' p' → Running m q n' p' → Answered ps opened m q n p
        QFirst : (m n m' : Memory) (q p q' : Active) → IsSilent Q m q m' q' → Answered ps opened m' q' n p → Answered ps opened m q n p
        PWithQ : (m n : Memory) (q p : Active) → Lockstep ps opened m q n p → Answered ps opened m q n p

      module _ (counterpart : Func → Func) where
        -- a handler may enter both, and its activations, of a function of P and of its counterpart, are related
        pub record EnterBoth (m : Memory) (q : Active) (n : Memory) (p : Active) : Type 0 where
          pub rows : rows_of Q m.trace ≡ rows_of P n.trace
          pub on : n.flag ≡ true
          pub interrupted : Suspended false q p
          pub entered : (h : ℕ) (f : Func) (opened : ℕ) → slice_get P.funcs h ≡ Some f →
              Running (entry_memory m h) (activation Q opened h true [] (counterpart f)) (entry_memory n h) (activation P opened h true [] f)

        -- silent steps of Q lead to a boundary where its flag is on and a handler may enter both
        pub data CatchesUp : Memory → Active → Memory → Active → Type 0 where
          AtBoundary : (m n : Memory) (q p : Active) → m.flag ≡ true → begins_there q ≡ true → EnterBoth m q n p → CatchesUp m q n p
          Further : (m n m' : Memory) (q p q' : Active) → IsSilent Q m q m' q' → CatchesUp m' q' n p → CatchesUp m q n p
