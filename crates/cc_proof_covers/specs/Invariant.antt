-- What each turn keeps: a state lies in what facts say, and what the next turns need besides.
use Rattle.std.specs.Prelude.{◌≡◌, ◌⊎◌, ◌<◌, ◌+◌, ℕ, Bool, true, false, List, [], ◌∷◌, ◌++◌, Option, Some, None, slice_get, max, if◌then◌else◌}
use Rattle.cc_flow_sound.specs.CcCells.Cells.{scalar_in}
use Rattle.cc_flow_sound.specs.CcEval.declared.action.Action.{Action}
use Rattle.cc_flow_sound.specs.CcEval.declared.action.Action.TheVariants.{Read, Write, Choose, Call, Flag, Save}
use Rattle.cc_flow_sound.specs.CcEval.declared.mark.Mark.{Mark}
use Rattle.cc_flow_sound.specs.CcEval.declared.mark.Mark.TheVariants.{Gave, Did, Chose}
use Rattle.cc_flow_sound.specs.CcEval.Progress.{Waits}
use Rattle.cc_flow_sound.specs.CcFlow.Points.{total_of}
use Rattle.cc_flow_sound.specs.Moves.{entry}
use Rattle.cc_flow_sound.specs.Sites.{base_of, IsPoint}
use Rattle.cc_program.specs.declared.func.Func.{Func}
use Rattle.cc_program.specs.declared.program.Program.{Program}
use Rattle.cc_program.specs.declared.value.Cell.{Cell}
use Rattle.cc_program.specs.declared.value.Cell.TheVariants as cell
use Rattle.cc_program.specs.declared.value.Root.TheVariants as root
use Rattle.cc_program.specs.declared.value.Value.{Value}
use Rattle.cc_proof_covers.specs.Covers.{Role, Running, Interrupted, Waiting, under, innermost, AreStaticsIn, AreLocalsIn, IsReached, AreRegistersIn, IsDeviceValue, WasIn}
use Rattle.cc_proof_covers.specs.Pending.{has_result, value_in}
use Rattle.cc_proof_covers.specs.Views.{View}
use Rattle.cc_flow_sound.specs.CcStates.States.{expression_of}
use Rattle.cc_flow_sound.specs.CcSteps.State.{Active, Memory, State}
use Rattle.cc_flow_sound.specs.CcSteps.Step.{progress_at, progress_of, with_mark, marked, return_mark, gives_nothing, cell_position}
use Rattle.cc_flow_sound.specs.CcSteps.Turn.{level_of, running_level}
use Rattle.cc_flow_sound.specs.CcSyntax.Registers.{is_register}

module _ (p : Program) where
  abbrev pub exit_of : ℕ → Func → ℕ
  exit_of id f = entry p id + total_of f.body

  -- ---- the point of which facts speak

  abbrev pub IsAtPoint : Func → Active → ℕ → Type 0
  IsAtPoint f a n = IsPoint (base_of p a.func f) f.body (a.here, a.around) n

  -- with this mark its statement is done, and it stands at that point
  abbrev pub EndsAt : Func → Active → ℕ → Mark → Type 0
  EndsAt f a k mark = IsAtPoint f (marked p a mark) k × ((marked p a mark).marks ≡ [])

  -- its call or intrinsic is done, and the register has still to be written: it counts as standing at the next point
  pub record IsPending (f : Func) (a : Active) (n r : ℕ) (x : Value) : Type 0 where
    pub given : has_result (expression_of a) ≡ true
    pub register : is_register f r ≡ true
    pub event : Bool
    pub waits : progress_of p a (expression_of a) ≡ Waits (Write (cell.At (root.Auto a.number a.func r) []) event x)
    pub ends : EndsAt f a n Did

  -- where facts speak of it, with a result that has still to be written or without one
  abbrev pub CountsAt : Func → Active → ℕ → Option (ℕ × Value) → Type 0
  CountsAt f a n None = IsAtPoint f a n
  CountsAt f a n (Some result) = IsPending f a n result.0 result.1

  module _ (v : View) where
    -- ---- handlers that may enter

    -- one of this level may enter where the function runs and the flag is on
    abbrev pub MayInterrupt : ℕ → ℕ → Type 0
    MayInterrupt f l = (l ≡ 0) ⊎ ((running : ℕ) × v.runs_at f running × (running < l))

    -- one that may enter there may write the tracked object
    abbrev pub MayBeWritten : ℕ → ℕ → Type 0
    MayBeWritten f i = (l : ℕ) × v.written_by i l × MayInterrupt f l

    -- ---- operands that were read

    module _ (m : Memory) (a : Active) (f : Func) (n : ℕ) where
      -- what was read is still so: a tracked object has the value, or handlers may have written it since
      abbrev pub IsCurrentAt : Cell → Value → Type 0
      IsCurrentAt (cell.Device d) x = IsDeviceValue p d x
      IsCurrentAt (cell.At (root.Static i) path) x =
          v.static_at i (cell_position p (root.Static i) path) x ×
          (v.tracked i ≡ true → v.cell n i x × ((scalar_in m.statics i 0 ≡ Some x) ⊎ (v.may_be n true × MayBeWritten a.func i)))
      IsCurrentAt (cell.At (root.Auto number id r) path) x =
          (number ≡ a.number → is_register f r ≡ true → scalar_in a.locals r 0 ≡ Some (Some x)) ×
          ((g : Func) → slice_get p.funcs id ≡ Some g → is_register g r ≡ false → v.local_at id r (cell_position p (root.Auto number id r) path) x)

      -- a mark of a step of the operands: at the point no other step is done; a bad value, which a read may give that says so, is in no set
      abbrev pub IsCurrent : Action → Mark → Type 0
      IsCurrent (Read at manner) mark = (o : Option Value) × (mark ≡ Gave o) × ((x : Value) → o ≡ Some x → IsCurrentAt at x) × (o ≡ None → manner.may_be_bad ≡ true)
      IsCurrent (Choose b) mark = mark ≡ Chose b
      IsCurrent (Write at is_event w) mark = ⊥
      IsCurrent (Call callee args) mark = ⊥
      IsCurrent (Flag on) mark = ⊥
      IsCurrent Save mark = ⊥

      abbrev pub AreCurrent : Type 0
      AreCurrent = (front back : List Mark) (mark : Mark) → a.marks ≡ front ++ mark ∷ back → (action : Action) × (progress_at p a.number a.func front (expression_of a) ≡ Waits action) × IsCurrent action mark

    -- the same, whatever the memory is by now
    module _ (a : Active) (f : Func) (n : ℕ) where
      abbrev pub IsReadIn : Action → Mark → Type 0
      IsReadIn (Read at manner) mark = (o : Option Value) × (mark ≡ Gave o) × ((x : Value) → o ≡ Some x → WasIn p v a f n at x)
      IsReadIn (Choose b) mark = mark ≡ Chose b
      IsReadIn (Write at is_event w) mark = ⊥
      IsReadIn (Call callee args) mark = ⊥
      IsReadIn (Flag on) mark = ⊥
      IsReadIn Save mark = ⊥

      abbrev pub AreReadIn : Type 0
      AreReadIn = (front back : List Mark) (mark : Mark) → a.marks ≡ front ++ mark ∷ back → (action : Action) × (progress_at p a.number a.func front (expression_of a) ≡ Waits action) × IsReadIn action mark

    -- ---- the memory, where an activation runs, or goes on once a handler has returned

    pub record IsReady (m : Memory) (on : Bool) (a : Active) (f : Func) (n : ℕ) (result : Option (ℕ × Value)) : Type 0 where
      pub flag : v.may_be n on
      pub cells : (i : ℕ) (x : Value) → v.tracked i ≡ true → scalar_in m.statics i 0 ≡ Some x → v.cell n i x
      pub sames : (r i : ℕ) (x : Value) → v.same n r i → value_in result a r ≡ Some (Some x) → scalar_in m.statics i 0 ≡ Some x
      pub marks : result ≡ None → AreCurrent m a f n

    -- ---- calls

    -- what the return of a function brings to the point behind its call: the memory at its exit, its result, if a register gets it, and
    -- the other registers of the caller
    pub record FlowsBack (f : Func) (n k g exit : ℕ) (result : Option ℕ) : Type 0 where
      pub reached : v.reached k
      pub flags : (b : Bool) → v.may_be exit b → v.may_be k b
      pub cells : (i : ℕ) (x : Value) → v.cell exit i x → v.cell k i x
      pub locals : (r : ℕ) (x : Value) → (result ≡ Some r → ⊥) → v.local n r x → v.local k r x
      pub given : (r : ℕ) (x : Value) → result ≡ Some r → v.result g x → v.local k r x
      pub sames : (r i : ℕ) → v.same k r i → ⊥

    -- once its call has returned, or its intrinsic is done, an activation is at the next point, with its result or without one
    abbrev pub Resumes : Func → Active → ℕ → Option ℕ → Mark → Type 0
    Resumes f b k None mark = EndsAt f b k mark
    Resumes f b k (Some r) mark = (x : Value) → mark ≡ Gave (Some x) → IsPending f (with_mark b mark) k r x × (marked p b mark ≡ with_mark b mark)

    -- an activation that waits for the call of a function
    pub record Awaits (b : Active) (f : Func) (n g : ℕ) : Type 0 where
      pub function : Func
      pub there : slice_get p.funcs g ≡ Some function
      pub next : ℕ
      pub result : Option ℕ
      -- where it may return
      pub back : v.reached (exit_of g function) → FlowsBack f n next g (exit_of g function) result
      -- where a register gets the result, there is one
      pub gives : (r : ℕ) → result ≡ Some r → gives_nothing (Some function) ≡ false
      pub resumes : (x : Value) → Resumes f b next result (return_mark p g x)

    abbrev pub MemoryFits : Role → Memory → Active → Func → ℕ → Option (ℕ × Value) → Type 0
    MemoryFits Running m a f n result = IsReady m m.flag a f n result
    MemoryFits Interrupted m a f n result = IsReady m true a f n result
    MemoryFits (Waiting g) m a f n result = (result ≡ None) × Awaits a f n g × AreReadIn a f n

    -- ---- the stack

    -- an activation of a function above others, entered as a handler or called: from where the function is reached, and at which level it runs
    pub record RunsAbove (handler : Bool) (id : ℕ) (below : List Active) : Type 0 where
      pub from : IsReached p v (if handler then Some (level_of p id) else innermost p below) id
      pub level : v.runs_at id (if handler then max (level_of p id) (running_level p below) else running_level p below)
      pub enters : handler ≡ true → (level_of p id ≡ 0) ⊎ (running_level p below < level_of p id)

    pub record ActivationFits (role : Role) (m : Memory) (a : Active) (below : List Active) : Type 0 where
      pub func : Func
      pub function : slice_get p.funcs a.func ≡ Some func
      pub runs : RunsAbove a.handler a.func below
      pub point : ℕ
      pub result : Option (ℕ × Value)
      pub counts : CountsAt func a point result
      pub reached : v.reached point
      pub registers : AreRegistersIn p v func point (value_in result a)
      -- its locals that are no registers
      pub others : AreLocalsIn p v func a
      pub memory : MemoryFits role m a func point result

    abbrev pub StackFits : Role → Memory → List Active → Type 0
    StackFits role m [] = Unit {0}
    StackFits role m (a ∷ below) = ActivationFits role m a below × StackFits (under a) m below

    pub record Fits (s : State) : Type 0 where
      pub statics : AreStaticsIn p v s.memory.statics
      pub stack : StackFits Running s.memory s.stack
