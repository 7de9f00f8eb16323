-- Facts that are closed under the rules of a program: what a step takes an activation to is in the sets of where it leads, whichever
-- activation at a point asks for it, with what facts say of the point.
use Rattle.std.specs.Prelude.{◌≡◌, ◌⊎◌, ℕ, Bool, true, false, List, [], ◌∷◌, Option, Some, None, slice_get, map}
use Rattle.cc_flow_sound.specs.CcCells.Cells.{scalar_in}
use Rattle.cc_flow_sound.specs.CcEval.declared.action.Action.{Action}
use Rattle.cc_flow_sound.specs.CcEval.declared.action.Action.TheVariants.{Read, Write, Choose, Call, Flag, Save}
use Rattle.cc_flow_sound.specs.CcEval.declared.mark.Mark.{Mark}
use Rattle.cc_flow_sound.specs.CcEval.declared.mark.Mark.TheVariants.{Gave, Did}
use Rattle.cc_flow_sound.specs.CcEval.Progress.{Waits, Known, no_value}
use Rattle.cc_flow_sound.specs.Moves.{entry}
use Rattle.cc_program.specs.CcNum.Results.{one_if}
use Rattle.cc_program.specs.declared.func.Func.{Func}
use Rattle.cc_program.specs.declared.program.Program.{Program}
use Rattle.cc_program.specs.declared.stmt.Case.{Case}
use Rattle.cc_program.specs.declared.stmt.Stmt.{Stmt, out-Stmt}
use Rattle.cc_program.specs.declared.stmt.Stmt.TheOpen as is
use Rattle.cc_program.specs.declared.value.Address.{Address}
use Rattle.cc_program.specs.declared.value.Address.TheVariants as address
use Rattle.cc_program.specs.declared.value.Cell.{Cell}
use Rattle.cc_program.specs.declared.value.Cell.TheVariants as cell
use Rattle.cc_program.specs.declared.value.Part.{Part}
use Rattle.cc_program.specs.declared.value.Root.TheVariants as root
use Rattle.cc_program.specs.declared.value.Value.{Value}
use Rattle.cc_program.specs.declared.value.Value.TheVariants.{Int}
use Rattle.cc_proof_covers.specs.Covers.{AreStaticsIn, AreLocalsIn, AreRegistersIn}
use Rattle.cc_proof_covers.specs.Invariant.{exit_of, IsAtPoint, EndsAt, CountsAt, MayInterrupt, MayBeWritten, IsReady, Resumes, Awaits}
use Rattle.cc_proof_covers.specs.Pending.{value_in}
use Rattle.cc_proof_covers.specs.Views.{View}
use Rattle.cc_flow_sound.specs.CcStates.States.{expression_of, IsActive}
use Rattle.cc_flow_sound.specs.CcSteps.State.{Active, Memory, locals_with, first_values}
use Rattle.cc_flow_sound.specs.CcSteps.Step.{progress_of, with_mark, marked, next_place, is_return, goes_to, gives_nothing, cell_position}
use Rattle.cc_flow_sound.specs.CcSteps.Turn.{level_of}
use Rattle.cc_flow_sound.specs.CcSyntax.Operators.{is_handler}
use Rattle.cc_flow_sound.specs.CcSyntax.Registers.{is_register}

module _ (p : Program) (v : View) where
  -- ---- from a point to a next one

  -- what is not written stays: but for a register, or a tracked object
  pub record Flows (n k : ℕ) (register object : Option ℕ) : Type 0 where
    pub reached : v.reached k
    pub locals : (r : ℕ) (x : Value) → (register ≡ Some r → ⊥) → v.local n r x → v.local k r x
    pub cells : (i : ℕ) (x : Value) → (object ≡ Some i → ⊥) → v.cell n i x → v.cell k i x
    pub sames : (r i : ℕ) → (register ≡ Some r → ⊥) → v.same k r i → v.same n r i × (object ≡ Some i → ⊥)

  abbrev pub KeepsFlag : ℕ → ℕ → Type 0
  KeepsFlag n k = (b : Bool) → v.may_be n b → v.may_be k b

  -- from a point to the entry of a function: with the memory that there is, and a flag
  pub record Opens (f n g k : ℕ) (flag : Bool → Type 0) : Type 0 where
    pub reached : v.reached k
    pub flags : (b : Bool) → flag b → v.may_be k b
    pub cells : (i : ℕ) (x : Value) → v.cell n i x → v.cell k i x
    pub sames : (r i : ℕ) → v.same k r i → ⊥

  -- ---- what the running activation may ask for at its point

  module _ (m : Memory) (a : Active) (f : Func) (n : ℕ) where
    -- the write of a register of its own: the pairs that it gives the register are what it equals
    pub record AllowedRegister (number id r : ℕ) (path : List Part) (x : Value) : Type 0 where
      pub own : number ≡ a.number
      pub whole : cell_position p (root.Auto number id r) path ≡ 0
      pub register : is_register f r ≡ true
      pub next : ℕ
      pub ends : EndsAt p f a next Did
      pub flows : Flows n next (Some r) None
      pub keeps : KeepsFlag n next
      pub value : v.local next r x
      pub pairs : (i : ℕ) → v.same next r i → (scalar_in m.statics i 0 ≡ Some x) ⊎ (v.may_be n true × MayBeWritten p v a.func i)

    -- that of another local, of any activation
    pub record AllowedLocal (number id r : ℕ) (path : List Part) (x : Value) : Type 0 where
      pub other : (g : Func) → slice_get p.funcs id ≡ Some g → is_register g r ≡ false
      pub value : v.local_at id r (cell_position p (root.Auto number id r) path) x
      pub next : ℕ
      pub ends : EndsAt p f a next Did
      pub flows : Flows n next None None
      pub keeps : KeepsFlag n next

    -- that of a static object
    pub record AllowedStatic (i : ℕ) (path : List Part) (x : Value) : Type 0 where
      pub next : ℕ
      pub ends : EndsAt p f a next Did
      pub flows : Flows n next None (Some i)
      pub keeps : KeepsFlag n next
      pub value : v.static_at i (cell_position p (root.Static i) path) x
      pub tracked : v.tracked i ≡ true → (cell_position p (root.Static i) path ≡ 0) × v.cell next i x × ((l : ℕ) → v.reached_from a.func l → v.written_by i l)

    pub record AllowedDevice : Type 0 where
      pub next : ℕ
      pub ends : EndsAt p f a next Did
      pub flows : Flows n next None None
      pub keeps : KeepsFlag n next

    abbrev pub AllowedWrite : Cell → Value → Type 0
    AllowedWrite (cell.Device d) x = AllowedDevice
    AllowedWrite (cell.At (root.Static i) path) x = AllowedStatic i path x
    AllowedWrite (cell.At (root.Auto number id r) path) x = AllowedRegister number id r path x ⊎ AllowedLocal number id r path x

    -- the call of a function that is there
    pub record AllowedCallOf (g : ℕ) (args : List Value) (function : Func) : Type 0 where
      pub awaits : Awaits p v a f n g
      pub opens : Opens a.func n g (entry p g) (v.may_be n)
      pub by_main : v.by_main a.func → v.by_main g
      pub by_handler : v.by_handler a.func → v.by_handler g
      pub from : (l : ℕ) → v.reached_from a.func l → v.reached_from g l
      pub levels : (l : ℕ) → v.runs_at a.func l → v.runs_at g l
      pub registers : AreRegistersIn p v function (entry p g) (λ r. scalar_in (locals_with p args function.locals) r 0)
      pub others : (r k : ℕ) (x : Value) → is_register function r ≡ false → scalar_in (locals_with p args function.locals) r k ≡ Some (Some x) → v.local_at g r k x

    abbrev pub AllowedCall : Address → List Value → Type 0
    AllowedCall address.Null args = Unit {0}
    AllowedCall (address.At object path index count) args = Unit {0}
    AllowedCall (address.Func g) args = (function : Func) → slice_get p.funcs g ≡ Some function → AllowedCallOf g args function

    -- tracked objects and registers are read whole
    abbrev pub ReadsWhole : Cell → Type 0
    ReadsWhole (cell.Device d) = Unit {0}
    ReadsWhole (cell.At (root.Static i) path) = v.tracked i ≡ true → cell_position p (root.Static i) path ≡ 0
    ReadsWhole (cell.At (root.Auto number id r) path) = number ≡ a.number → is_register f r ≡ true → cell_position p (root.Auto number id r) path ≡ 0

    -- with this step the statement is not done
    abbrev pub GoesOn : Type 0
    GoesOn = (mark : Mark) → marked p a mark ≡ with_mark a mark

    pub record AllowedFlag (on : Bool) : Type 0 where
      pub next : ℕ
      pub ends : EndsAt p f a next Did
      pub flows : Flows n next None None
      pub flag : v.may_be next on

    pub record AllowedSave : Type 0 where
      pub next : ℕ
      pub result : Option ℕ
      pub flows : Flows n next result None
      pub off : v.may_be next false
      pub resumes : (b : Bool) → v.may_be n b → Resumes p v f a next result (Gave (Some (Int (one_if b))))
      pub given : (b : Bool) → v.may_be n b → (r : ℕ) → result ≡ Some r → v.local next r (Int (one_if b))
      pub pairs : (r i : ℕ) → result ≡ Some r → v.same next r i → ⊥

    abbrev pub Allowed : Action → Type 0
    Allowed (Read at manner) = ReadsWhole at × GoesOn
    Allowed (Choose b) = GoesOn
    Allowed (Write at is_event x) = AllowedWrite at x
    Allowed (Call callee args) = AllowedCall callee args
    Allowed (Flag on) = AllowedFlag on
    Allowed Save = AllowedSave

    -- a test or a jump: the next point has what registers and memory are
    pub record Goes (x : is.Stmt-F Stmt Case) (w : Value) : Type 0 where
      pub next : ℕ
      pub there : IsAtPoint p f (goes_to p a (next_place x a w)) next
      pub reached : v.reached next
      pub registers : AreRegistersIn p v f next (value_in None a)
      pub keeps : KeepsFlag n next
      pub cells : (i : ℕ) (y : Value) → v.tracked i ≡ true → scalar_in m.statics i 0 ≡ Some y → v.cell next i y
      pub sames : (r i : ℕ) → v.same next r i → v.same n r i

    -- a return: the value is one that the function gives, and its exit has the memory
    pub record Leaves (w : Value) : Type 0 where
      pub result : gives_nothing (Some f) ≡ false → v.result a.func w
      pub flows : Flows n (exit_of p a.func f) None None
      pub keeps : KeepsFlag n (exit_of p a.func f)

    -- it runs at a point that is reached, with no result that has still to be written, and facts say of it what they say there
    pub record IsHere : Type 0 where
      pub openings : List ℕ
      pub active : IsActive p openings a
      pub function : slice_get p.funcs a.func ≡ Some f
      pub there : IsAtPoint p f a n
      pub reached : v.reached n
      pub registers : AreRegistersIn p v f n (value_in None a)
      pub others : AreLocalsIn p v f a
      pub memory : IsReady p v m m.flag a f n None

  -- ---- where runs begin, and where handlers enter

  pub record Begins (k : ℕ) : Type 0 where
    pub reached : v.reached k
    pub off : v.may_be k false
    pub by_main : v.by_main p.main
    pub level : v.runs_at p.main 0
    pub cells : (i : ℕ) (x : Value) → v.tracked i ≡ true → scalar_in (map (first_values p) p.objects) i 0 ≡ Some x → v.cell k i x
    pub sames : (r i : ℕ) → v.same k r i → ⊥

  -- a handler of this level, at a point of a function
  pub record Enters (f n h l : ℕ) : Type 0 where
    pub opens : Opens f n h (entry p h) (λ b. b ≡ false)
    pub by_handler : v.by_handler h
    pub from : v.reached_from h l
    pub below : l ≡ 0 → (running : ℕ) → v.runs_at f running → v.runs_at h running
    pub level : (l ≡ 0 → ⊥) → v.runs_at h l

  -- where a handler may write a tracked object there, the point has all its values, and the same as none
  pub record IsStable (n i : ℕ) : Type 0 where
    pub whole : (x : Value) → v.static_at i 0 x → v.cell n i x
    pub sames : (r : ℕ) → v.same n r i → ⊥

  -- facts speak of an activation of the function at the point, and the flag may be on there
  pub record IsOpen (a : Active) (f : Func) (n : ℕ) : Type 0 where
    pub result : Option (ℕ × Value)
    pub function : slice_get p.funcs a.func ≡ Some f
    pub counts : CountsAt p f a n result
    pub reached : v.reached n
    pub on : v.may_be n true

  -- ---- all of it

  pub record IsClosed : Type 0 where
    pub initial : AreStaticsIn p v (map (first_values p) p.objects)
    pub main : (f : Func) → slice_get p.funcs p.main ≡ Some f → Begins (entry p p.main)
    -- pairs are of registers and tracked objects
    pub pair_registers : (a : Active) (f : Func) (n : ℕ) (result : Option (ℕ × Value)) → slice_get p.funcs a.func ≡ Some f → CountsAt p f a n result → (r i : ℕ) → v.same n r i → is_register f r ≡ true
    pub pairs : (n r i : ℕ) → v.same n r i → v.tracked i ≡ true
    -- the step of a full expression that is asked for
    pub steps : (m : Memory) (a : Active) (f : Func) (n : ℕ) → IsHere m a f n → (action : Action) → progress_of p a (expression_of a) ≡ Waits action → Allowed m a f n action
    -- where the value of one is known
    pub goes : (m : Memory) (a : Active) (f : Func) (n : ℕ) → IsHere m a f n → (s : Stmt) (rest : List Stmt) (w : Value) (ms : List Mark) → a.here.rest ≡ s ∷ rest → progress_of p a (expression_of a) ≡ Known (Some w) ms →
        is_return (out-Stmt s) ≡ false → Goes m a f n (out-Stmt s) w
    pub leaves : (m : Memory) (a : Active) (f : Func) (n : ℕ) → IsHere m a f n → (s : Stmt) (rest : List Stmt) (w : Value) (ms : List Mark) → a.here.rest ≡ s ∷ rest → progress_of p a (expression_of a) ≡ Known (Some w) ms →
        is_return (out-Stmt s) ≡ true → Leaves m a f n w
    -- at its end main gives 0, to what has called it too (C99 5.1.2.2.3)
    pub falls : (a : Active) (f : Func) (n : ℕ) → slice_get p.funcs a.func ≡ Some f → IsAtPoint p f a n → v.reached n → a.here.rest ≡ [] → gives_nothing (Some f) ≡ false → a.func ≡ p.main → v.result a.func no_value
    pub handlers : (a : Active) (f : Func) (n : ℕ) → IsOpen a f n → (h : ℕ) (function : Func) → slice_get p.funcs h ≡ Some function → is_handler function ≡ true → MayInterrupt p v a.func (level_of p h) → Enters a.func n h (level_of p h)
    pub stable : (a : Active) (f : Func) (n : ℕ) → IsOpen a f n → (i : ℕ) → v.tracked i ≡ true → MayBeWritten p v a.func i → IsStable n i
