-- A state of a run lies in what facts say.
use Rattle.std.specs.Prelude.{◌≡◌, ℕ, ℤ, Bool, true, false, List, [], ◌∷◌, ◌++◌, Option, Some, None, slice_get, if◌then◌else◌}
use Rattle.std.specs.List.{Contains}
use Rattle.cc_flow_sound.specs.CcCells.Cells.{scalar_in}
use Rattle.cc_flow_sound.specs.CcEval.declared.action.Action.TheVariants.{Read}
use Rattle.cc_flow_sound.specs.CcEval.declared.action.Manner.{Manner}
use Rattle.cc_flow_sound.specs.CcEval.declared.mark.Mark.{Mark}
use Rattle.cc_flow_sound.specs.CcEval.declared.mark.Mark.TheVariants.{Gave}
use Rattle.cc_flow_sound.specs.CcEval.Progress.{Waits}
use Rattle.cc_flow_sound.specs.Moves.{IsAt, standing}
use Rattle.cc_program.specs.CcNum.Integers.{converted}
use Rattle.cc_program.specs.declared.func.Func.{Func}
use Rattle.cc_program.specs.declared.object.Device.{Device}
use Rattle.cc_program.specs.declared.program.Program.{Program}
use Rattle.cc_program.specs.declared.value.Cell.{Cell}
use Rattle.cc_program.specs.declared.value.Cell.TheVariants as cell
use Rattle.cc_program.specs.declared.value.Root.TheVariants as root
use Rattle.cc_program.specs.declared.value.Value.TheVariants.{Int}
use Rattle.cc_program.specs.declared.value.Value.{Value}
use Rattle.cc_proof_covers.specs.Pending.{pending, value_in}
use Rattle.cc_proof_covers.specs.Views.{View}
use Rattle.cc_flow_sound.specs.CcStates.States.{expression_of}
use Rattle.cc_flow_sound.specs.CcSteps.State.{Active, Memory, State}
use Rattle.cc_flow_sound.specs.CcSteps.Step.{progress_at, cell_position}
use Rattle.cc_flow_sound.specs.CcSteps.Turn.{level_of, running_level}
use Rattle.cc_flow_sound.specs.CcSyntax.Registers.{is_register}

-- the first activation of the stack runs; one below another was interrupted by it, or waits for its function
pub data Role : Type 0 where
  Running : Role
  Interrupted : Role
  Waiting : ℕ → Role

abbrev pub under : Active → Role
under a = if a.handler then Interrupted else Waiting a.func

module _ (p : Program) where
  -- the number of its point; with a result that is not written yet, that of the next point
  abbrev pub StandsAtPoint : Active → Option (ℕ × Value) → ℕ → Type 0
  StandsAtPoint a None n = IsAt p (standing a) n
  StandsAtPoint a (Some result) n = (m : ℕ) × (at : IsAt p (standing a) m) × Contains at.point.next n

  -- a device gives what is converted to its type
  abbrev pub IsDeviceValue : ℕ → Value → Type 0
  IsDeviceValue d x = (device : Device) × (z : ℤ) × (slice_get p.devices d ≡ Some device) × (x ≡ Int (converted z device.int p.target))

  -- the level of the innermost handler's activation, where there is one
  abbrev pub innermost : List Active → Option ℕ
  innermost [] = None
  innermost (a ∷ below) = if a.handler then Some (level_of p a.func) else innermost below

  module _ (v : View) where
    -- ---- 1: each written cell that is no register has a value of its set in the whole run

    abbrev pub AreStaticsIn : List (List Value) → Type 0
    AreStaticsIn statics = (i k : ℕ) (x : Value) → scalar_in statics i k ≡ Some x → v.static_at i k x

    abbrev pub AreLocalsIn : Func → Active → Type 0
    AreLocalsIn f a = (r k : ℕ) (x : Value) → is_register f r ≡ false → scalar_in a.locals r k ≡ Some (Some x) → v.local_at a.func r k x

    -- ---- 2: its function is reached, by main where no handler's activation stands at or under it, else from the innermost such handler

    abbrev pub IsReached : Option ℕ → ℕ → Type 0
    IsReached None g = v.by_main g
    IsReached (Some level) g = v.by_handler g × v.reached_from g level

    -- ---- 3: its written registers are in the sets of its point, and the operands that it has read are in those of what was read

    abbrev pub AreRegistersIn : Func → ℕ → (ℕ → Option (Option Value)) → Type 0
    AreRegistersIn f n values = (r : ℕ) (x : Value) → is_register f r ≡ true → values r ≡ Some (Some x) → v.local n r x

    -- a register and a tracked object have sets by the point, and what else has an address one of the whole run; a device gives values of
    -- its type
    abbrev pub WasIn : Active → Func → ℕ → Cell → Value → Type 0
    WasIn a f n (cell.Device d) x = IsDeviceValue d x
    WasIn a f n (cell.At (root.Static i) path) x = v.static_at i (cell_position p (root.Static i) path) x × (v.tracked i ≡ true → v.cell n i x)
    WasIn a f n (cell.At (root.Auto number g r) path) x =
        (number ≡ a.number → is_register f r ≡ true → v.local n r x) ×
        ((h : Func) → slice_get p.funcs g ≡ Some h → is_register h r ≡ false → v.local_at g r (cell_position p (root.Auto number g r) path) x)

    abbrev pub AreOperandsIn : Active → Func → ℕ → Type 0
    AreOperandsIn a f n =
        (front back : List Mark) (x : Value) (at : Cell) (manner : Manner) → a.marks ≡ front ++ Gave (Some x) ∷ back → progress_at p a.number a.func front (expression_of a) ≡ Waits (Read at manner) →
        WasIn a f n at x

    -- ---- 4: where it runs, or a handler has interrupted it, the flag may be as it is, tracked objects are in the sets of the point, and its
    -- registers are the same as they where facts say so; the flag of one that was interrupted counts as on

    pub record IsMemoryIn (m : Memory) (flag : Bool) (a : Active) (n : ℕ) (result : Option (ℕ × Value)) : Type 0 where
      pub flag_in : v.may_be n flag
      pub cells : (i : ℕ) (x : Value) → v.tracked i ≡ true → scalar_in m.statics i 0 ≡ Some x → v.cell n i x
      pub pairs : (r i : ℕ) (x : Value) → v.same n r i → value_in result a r ≡ Some (Some x) → scalar_in m.statics i 0 ≡ Some x

    abbrev pub MemoryLies : Role → Memory → Active → ℕ → Option (ℕ × Value) → Type 0
    MemoryLies Running m a n result = IsMemoryIn m m.flag a n result
    MemoryLies Interrupted m a n result = IsMemoryIn m true a n result
    MemoryLies (Waiting g) m a n result = Unit {0}

    -- where a result is not written yet it counts in place of its register's old value, and nothing is said of operands
    pub record ActivationLies (role : Role) (m : Memory) (a : Active) (below : List Active) : Type 0 where
      pub func : Func
      pub function : slice_get p.funcs a.func ≡ Some func
      pub locals : AreLocalsIn func a
      pub from : IsReached (innermost (a ∷ below)) a.func
      -- 5: at the running level
      pub level : v.runs_at a.func (running_level p (a ∷ below))
      pub point : ℕ
      pub at : StandsAtPoint a (pending p a) point
      pub reached : v.reached point
      pub registers : AreRegistersIn func point (value_in (pending p a) a)
      pub operands : pending p a ≡ None → AreOperandsIn a func point
      pub memory : MemoryLies role m a point (pending p a)

    abbrev pub StackLies : Role → Memory → List Active → Type 0
    StackLies role m [] = Unit {0}
    StackLies role m (a ∷ below) = ActivationLies role m a below × StackLies (under a) m below

    pub record Lies (s : State) : Type 0 where
      pub statics : AreStaticsIn s.memory.statics
      pub stack : StackLies Running s.memory s.stack
