-- When a state lies in facts, part by part: the static objects; and of each activation from where its function was reached, at which level it
-- runs, its locals, and one point at which all else that is known of it is so.
use Rattle.std.specs.Prelude.{◌≡◌, ◌↔◌, ◌⊎◌, ℕ, Bool, true, false, List, [], ◌∷◌, take, Option, Some, None, option_and_then, slice_get}
use Rattle.std.specs.List.{Contains}
use Rattle.cc_cells.specs.Cells.{scalar_in}
use Rattle.cc_state_reads.specs.CcEval.declared.action.Action.{Action}
use Rattle.cc_state_reads.specs.CcEval.declared.action.Action.TheVariants.{Read, Write, Choose, Call, Flag, Save}
use Rattle.cc_state_reads.specs.CcEval.declared.mark.Mark.{Mark}
use Rattle.cc_state_reads.specs.CcEval.declared.mark.Mark.TheVariants.{Gave, Did, Chose}
use Rattle.cc_state_reads.specs.CcEval.Progress.{Progress, Known, Waits, Traps}
use Rattle.cc_flow_sound.specs.CcFlow.declared.types.Flow.{Flow}
use Rattle.cc_flow_sound.specs.CcFlow.declared.types.Point.{Point}
use Rattle.cc_state_reads.specs.CcPlaces.declared.abs.Abs.{Abs}
use Rattle.cc_state_reads.specs.CcPlaces.Abstract.{HasValue}
use Rattle.cc_program.specs.declared.func.Func.{Func}
use Rattle.cc_program.specs.declared.program.Program.{Program}
use Rattle.cc_program.specs.declared.value.Cell.{Cell}
use Rattle.cc_program.specs.declared.value.Part.{Part}
use Rattle.cc_program.specs.declared.value.Root.TheVariants as root
use Rattle.cc_program.specs.declared.value.Value.{Value}
use Rattle.cc_proof_covers.specs.Covers.{Role, Running, Interrupted, Waiting, under, innermost, StandsAtPoint, AreStaticsIn, AreLocalsIn, AreRegistersIn, WasIn, IsMemoryIn}
use Rattle.cc_proof_covers.specs.Pending.{pending, value_in}
use Rattle.cc_state.specs.View.{view, IsLevelIn, InWhole, LocalOf, IsReachedAt}
use Rattle.cc_state_reads.specs.CcStateFacts.declared.facts.Facts.{Facts}
use Rattle.cc_state_reads.specs.CcStateFacts.declared.facts.Key.{Key}
use Rattle.cc_state_reads.specs.CcStateFacts.declared.facts.PointFact.{PointFact}
use Rattle.cc_state_reads.specs.CcStateFacts.Facts.{mark_of, levels_of, cell_of, local_of}
use Rattle.cc_state_reads.specs.CcStateFacts.Levels.{has_level}
use Rattle.cc_state_reads.specs.CcStateKeys.Tracked.{register_number, tracked_number}
use Rattle.cc_state_reads.specs.CcStateOperators.Domains.{Domain}
use Rattle.cc_flow_sound.specs.CcStates.States.{expression_of}
use Rattle.cc_steps.specs.State.{Active, Memory, State}
use Rattle.cc_steps.specs.Step.{progress_at, cell_position}
use Rattle.cc_steps.specs.Turn.{running_level}
use Rattle.cc_state_reads.specs.CcSyntax.Registers.{is_register}

-- each thing of a list, with its place
abbrev pub Each : {A : Type 0} → (ℕ → A → Type 0) → List A → Type 0
Each {A = A} Is xs = (n : ℕ) (x : A) → slice_get xs n ≡ Some x → Is n x

-- ---- sets

-- the set is there, and has the value
abbrev pub HasIn : {I : Type 0} → Domain I → Option (Abs I) → Value → Type 0
HasIn {I = I} d y v = (x : Abs I) × (y ≡ Some x) × HasValue d.has x v

-- what is written, of what may not be there and may not be written
abbrev pub good : Option (Option Value) → Option Value
good held = option_and_then (λ v. v) held

-- ---- points

-- some numbers, and one more if it passes
abbrev pub IsAdded : (ℕ → Type 0) → List ℕ → ℕ → List ℕ → Type 0
IsAdded P numbers n all = (m : ℕ) → Contains all m ↔ (Contains numbers m ⊎ ((m ≡ n) × P m))

-- a point's next one
abbrev pub IsNextOf : Flow → ℕ → ℕ → Type 0
IsNextOf flow m n = (point : Point) × (slice_get flow.points m ≡ Some point) × Contains point.next n

-- ---- reads

-- the cell that is read next
abbrev pub cell_read : Action → Option Cell
cell_read (Read at manner) = Some at
cell_read (Write at is_event x) = None
cell_read (Choose b) = None
cell_read (Call callee args) = None
cell_read (Flag on) = None
cell_read Save = None

abbrev pub cell_waited : Progress (Option Value) → Option Cell
cell_waited (Waits action) = cell_read action
cell_waited (Known x ms) = None
cell_waited (Traps ms) = None

-- the value that a mark gave, where it gave a good one
abbrev pub value_given : Mark → Option Value
value_given (Gave x) = x
value_given Did = None
value_given (Chose b) = None

-- ---- the flag as it counts: of an activation that waits for a call nothing is said

abbrev pub counted_flag : Role → Memory → Option Bool
counted_flag Running m = Some m.flag
counted_flag Interrupted m = Some true
counted_flag (Waiting g) m = None

-- ---- functions

module _ {I : Type 0} (facts : Facts I) where
  -- by main, or from the innermost handler of this level
  abbrev pub IsReachedFrom : Option ℕ → ℕ → Type 0
  IsReachedFrom None g = mark_of facts.by_main g ≡ true
  IsReachedFrom (Some level) g = (mark_of facts.by_handler g ≡ true) × IsLevelIn (levels_of facts.from g) level

  abbrev pub MayRunAt : ℕ → ℕ → Type 0
  MayRunAt g level = has_level (levels_of facts.levels g) level ≡ true

-- ---- registers that are equal to tracked objects

module _ (p : Program) where
  -- what is held, if it is written, is what the tracked object of a position holds
  abbrev pub IsAtCell : ℕ → Option Value → List (List Value) → Type 0
  IsAtCell n held statics = (i : ℕ) (x : Value) → tracked_number p i ≡ Some n → held ≡ Some x → scalar_in statics i 0 ≡ Some x

  -- a register that was written is the same as a tracked object, where their positions are this pair
  abbrev pub IsPairHeld : Func → ℕ × ℕ → (ℕ → Option (Option Value)) → List (List Value) → Type 0
  IsPairHeld f pair values statics =
      (r i : ℕ) (x : Value) → register_number f r ≡ Some pair.0 → tracked_number p i ≡ Some pair.1 → good (values r) ≡ Some x → scalar_in statics i 0 ≡ Some x

  abbrev pub ArePairsHeld : Func → List (ℕ × ℕ) → (ℕ → Option (Option Value)) → List (List Value) → Type 0
  ArePairsHeld f pairs values statics = Each (λ k pair. IsPairHeld f pair values statics) pairs

-- ---- what is known at a point, by its facts and its function

module _ {I : Type 0} (d : Domain I) where
  -- a value is in the set of a register
  abbrev pub IsInRegisterSet : PointFact I → Func → ℕ → Value → Type 0
  IsInRegisterSet fact f r x = (number : ℕ) × (register_number f r ≡ Some number) × HasIn d (local_of fact number) x

  -- what a register holds, if it was written, is
  abbrev pub IsRegisterHeld : PointFact I → Func → ℕ → Option Value → Type 0
  IsRegisterHeld fact f r held = (x : Value) → held ≡ Some x → IsInRegisterSet fact f r x

  -- of each of some
  abbrev pub AreRegistersHeld : PointFact I → Func → List ℕ → (ℕ → Option (Option Value)) → Type 0
  AreRegistersHeld fact f own values = Each (λ k r. IsRegisterHeld fact f r (good (values r))) own

  module _ (p : Program) where
    -- a value is in the set of a tracked object
    abbrev pub IsInCellSet : PointFact I → ℕ → Value → Type 0
    IsInCellSet fact i x = (number : ℕ) × (tracked_number p i ≡ Some number) × HasIn d (cell_of fact number) x

    -- what a tracked object holds is
    abbrev pub IsCellHeld : PointFact I → ℕ → Option Value → Type 0
    IsCellHeld fact i held = (x : Value) → held ≡ Some x → IsInCellSet fact i x

    abbrev pub AreCellsHeld : PointFact I → List ℕ → List (List Value) → Type 0
    AreCellsHeld fact objects statics = Each (λ k i. IsCellHeld fact i (scalar_in statics i 0)) objects

module _ {I : Type 0} (d : Domain I) (p : Program) (facts : Facts I) where
  -- ---- scalars, by their keys

  -- what a scalar holds, if it was written, is in the set of its key
  abbrev pub IsScalarIn : Key → Option Value → Type 0
  IsScalarIn k held = (x : Value) → held ≡ Some x → InWhole d p facts k x

  -- each scalar of an object, where these are their keys in order of path
  abbrev pub AreScalarsIn : List Key → List Value → Type 0
  AreScalarsIn keys values = Each (λ n k. IsScalarIn k (slice_get values n)) keys

  abbrev pub IsObjectIn : List Key → Option (List Value) → Type 0
  IsObjectIn keys held = (values : List Value) → held ≡ Some values → AreScalarsIn keys values

  -- each object
  abbrev pub AreObjectsIn : List (List Key) → List (List Value) → Type 0
  AreObjectsIn keys statics = Each (λ i (ks : List Key). IsObjectIn ks (slice_get statics i)) keys

  -- each scalar of a local, where some were not written
  abbrev pub AreWrittenIn : List Key → List (Option Value) → Type 0
  AreWrittenIn keys values = Each (λ n k. IsScalarIn k (good (slice_get values n))) keys

  abbrev pub IsLocalIn : Func → ℕ → List Key → Option (List (Option Value)) → Type 0
  IsLocalIn f r keys held = is_register f r ≡ false → (values : List (Option Value)) → held ≡ Some values → AreWrittenIn keys values

  -- each local that is no register
  abbrev pub AreLocalListsIn : Func → List (List Key) → List (List (Option Value)) → Type 0
  AreLocalListsIn f keys locals = Each (λ r (ks : List Key). IsLocalIn f r ks (slice_get locals r)) keys

  -- ---- the memory, with the flag as it counts

  abbrev pub IsMemoryAt : Option Bool → Memory → Active → ℕ → Option (ℕ × Value) → Type 0
  IsMemoryAt None m a n result = Unit {0}
  IsMemoryAt (Some flag) m a n result = IsMemoryIn p (view d p facts) m flag a n result

  -- ---- operands that were read: by the marks in front of each

  -- by the key that is listed at a position
  abbrev pub IsListedIn : List Key → ℕ → Value → Type 0
  IsListedIn keys position x = (k : Key) → slice_get keys position ≡ Some k → InWhole d p facts k x

  -- a local of a function, which is no register of that
  abbrev pub WasLocalIn : ℕ → ℕ → ℕ → List Part → Value → Type 0
  WasLocalIn number g r path x = (h : Func) → slice_get p.funcs g ≡ Some h → is_register h r ≡ false → LocalOf d p facts g r (cell_position p (root.Auto number g r) path) x

  abbrev pub WasReadIn : Active → Func → ℕ → Option Cell → Option Value → Type 0
  WasReadIn a f n from given = (at : Cell) (x : Value) → from ≡ Some at → given ≡ Some x → WasIn p (view d p facts) a f n at x

  -- the mark behind these
  abbrev pub IsReadIn : Active → Func → ℕ → List Mark → Mark → Type 0
  IsReadIn a f n front mark = WasReadIn a f n (cell_waited (progress_at p a.number a.func front (expression_of a))) (value_given mark)

  abbrev pub AreReadsIn : Active → Func → ℕ → Type 0
  AreReadsIn a f n = Each (λ k mark. IsReadIn a f n (take k a.marks) mark) a.marks

  -- of a statement whose result is not written yet nothing is said
  abbrev pub AreReadsAt : Option (ℕ × Value) → Active → Func → ℕ → Type 0
  AreReadsAt None a f n = AreReadsIn a f n
  AreReadsAt (Some result) a f n = Unit {0}

  -- ---- activations

  -- at a point
  pub record IsRight (flag : Option Bool) (m : Memory) (a : Active) (f : Func) (result : Option (ℕ × Value)) (n : ℕ) : Type 0 where
    pub at : StandsAtPoint p a result n
    pub reached : IsReachedAt d p facts n
    pub registers : AreRegistersIn p (view d p facts) f n (value_in result a)
    pub operands : AreReadsAt result a f n
    pub memory : IsMemoryAt flag m a n result

  -- at one of some points
  abbrev pub IsRightAmong : List ℕ → Option Bool → Memory → Active → Func → Option (ℕ × Value) → Type 0
  IsRightAmong points flag m a f result = (n : ℕ) × Contains points n × IsRight flag m a f result n

  -- its locals, and all that is known at a point
  abbrev pub IsBodyIn : Option Bool → Memory → Active → Func → Type 0
  IsBodyIn flag m a f = AreLocalsIn p (view d p facts) f a × ((n : ℕ) × IsRight flag m a f (pending p a) n)

  -- in its function
  pub record IsIn (flag : Option Bool) (m : Memory) (a : Active) (below : List Active) (f : Func) : Type 0 where
    pub from : IsReachedFrom facts (innermost p (a ∷ below)) a.func
    pub level : MayRunAt facts a.func (running_level p (a ∷ below))
    pub locals : AreLocalsIn p (view d p facts) f a
    pub point : ℕ
    pub right : IsRight flag m a f (pending p a) point

  abbrev pub IsActivationIn : Option Bool → Memory → Active → List Active → Type 0
  IsActivationIn flag m a below = (f : Func) × (slice_get p.funcs a.func ≡ Some f) × IsIn flag m a below f

  abbrev pub IsStackIn : Option Bool → Memory → List Active → Type 0
  IsStackIn flag m [] = Unit {0}
  IsStackIn flag m (a ∷ below) = IsActivationIn flag m a below × IsStackIn (counted_flag (under a) m) m below

  pub record IsStateIn (s : State) : Type 0 where
    pub statics : AreStaticsIn p (view d p facts) s.memory.statics
    pub stack : IsStackIn (Some s.memory.flag) s.memory s.stack
