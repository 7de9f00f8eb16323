-- Simulations by the control and the locals of activations: two activations converge where each comes, by steps that nothing else can see, to
-- states that match; there both make the same transition, and converge again. Locals that are not hidden stay the same.
use Rattle.std.specs.Prelude.{◌≡◌, ◌∷◌, ◌==◌, ◌||◌, ◌⊎◌, if◌then◌else◌, ℕ, ℤ, Bool, true, false, not, List, [], Option, Some, None, slice_get}
use Rattle.cc_program.specs.CcNum.Integers.{converted}
use Rattle.cc_program.specs.CcNum.Results.{one_if}
use Rattle.cc_program.specs.declared.object.Device.{Device}
use Rattle.cc_program.specs.declared.program.Program.{Program}
use Rattle.cc_program.specs.declared.value.Address.TheVariants as address
use Rattle.cc_program.specs.declared.value.Cell.{Cell}
use Rattle.cc_program.specs.declared.value.Cell.TheVariants as cell
use Rattle.cc_program.specs.declared.value.Root.{Root}
use Rattle.cc_program.specs.declared.value.Root.TheVariants as root
use Rattle.cc_program.specs.declared.value.Value.{Value}
use Rattle.cc_program.specs.declared.value.Value.TheVariants.{Int}
use Rattle.cc_steps.specs.CcEval.declared.action.Action.{Action}
use Rattle.cc_steps.specs.CcEval.declared.action.Action.TheVariants.{Read, Write, Choose, Call, Flag, Save}
use Rattle.cc_steps.specs.CcEval.declared.action.Manner.{Manner}
use Rattle.cc_steps.specs.CcEval.declared.mark.Mark.{Mark}
use Rattle.cc_steps.specs.CcEval.declared.mark.Mark.TheVariants.{Gave, Did, Chose}
use Rattle.cc_steps.specs.CcEval.Progress.{no_value}
use Rattle.cc_steps.specs.declared.content.Content.{Content}
use Rattle.cc_steps.specs.declared.content.Content.TheVariants.{Gone, Unwritten, Holds}
use Rattle.cc_steps.specs.Rows.{rows_of}
use Rattle.cc_steps.specs.State.{Active, Memory, State}
use Rattle.cc_steps.specs.Step.{cell_position, content_at, gives_nothing, return_mark}
use Rattle.cc_meaning_simulations.specs.LocalSteps.{LocalState, LocalStep, Locals, TrapsNext, local_state, local_state_of}
use Rattle.cc_meaning_simulations.specs.StepSimulations.{going}
use Rattle.cc_meaning_simulations.specs.Transitions.{Aborts, FallsOff, Jumps, Performs, Returns, Transition, control_state, is_at_boundary, marked_control, transition}

-- ---- marks

abbrev pub content_mark : Manner → Content → Option Mark
content_mark manner Gone = None
content_mark manner Unwritten = if manner.may_be_bad then Some (Gave None) else None
content_mark manner (Holds v) = Some (Gave (Some v))

abbrev pub input_mark : Program → Option Device → List ℤ → Option Mark
input_mark p None inputs = None
input_mark p (Some device) [] = None
input_mark p (Some device) (n ∷ inputs) = Some (Gave (Some (Int (converted n device.int p.target))))

-- the mark that an action leaves at once in a state, if it leaves one
abbrev pub answer_mark : Program → State → Action → Option Mark
answer_mark p s (Read (cell.Device d) manner) = input_mark p (slice_get p.devices d) s.memory.inputs
answer_mark p s (Read (cell.At object path) manner) = content_mark manner (content_at s object (cell_position p object path))
answer_mark p s (Write at is_event v) = Some Did
answer_mark p s (Choose b) = Some (Chose b)
answer_mark p s (Call callee args) = None
answer_mark p s (Flag on) = Some Did
answer_mark p s Save = Some (Gave (Some (Int (one_if s.memory.flag))))

-- what an activation gives at its end
abbrev pub IsResult : Program → Active → Value → Type 0
IsResult p a v =
    (transition p (control_state a) ≡ Returns v) ⊎
    ((transition p (control_state a) ≡ FallsOff) × (v ≡ no_value) × ((gives_nothing (slice_get p.funcs a.func) || (a.func == p.main)) ≡ true))

-- what comes of a state is as it should be: the marks that its running activation leaves, those that the one below it is left by a return, and
-- the arguments that a function is called with, by the number of the activation that this opens
pub record AreFitting (Fits : LocalState → Mark → Type 0) (Opens : ℕ → ℕ → List Value → Type 0) (p : Program) (m : Memory) (a : Active) (below : List Active) (opened : ℕ) : Type 0 where
  pub actions : (x : Action) → transition p (control_state a) ≡ Performs x → (k : Mark) → answer_mark p (going m (a ∷ below) opened) x ≡ Some k → Fits (local_state_of a) k
  pub returns : (b : Active) (rest : List Active) → below ≡ b ∷ rest → a.handler ≡ false → (v : Value) → IsResult p a v → Fits (local_state_of b) (return_mark p a.func v)
  pub calls : (id : ℕ) (args : List Value) → transition p (control_state a) ≡ Performs (Call (address.Func id) args) → Opens opened id args

module _ (hidden : ℕ → ℕ → Bool) where
  -- the locals of a function that are not hidden are the same
  abbrev pub AgreeOnVisible : ℕ → Locals → Locals → Type 0
  AgreeOnVisible f ql pl = (local : ℕ) → hidden f local ≡ false → slice_get ql local ≡ slice_get pl local

  -- whether a local of the open activation that has this number is not hidden
  abbrev pub is_visible : List Active → ℕ → ℕ → Bool
  is_visible [] number local = true
  is_visible (a ∷ below) number local = if a.number == number then not (hidden a.func local) else is_visible below number local

  abbrev pub is_root_visible : List Active → Root → Bool
  is_root_visible stack (root.Static i) = true
  is_root_visible stack (root.Auto number f local) = is_visible stack number local

  abbrev pub is_cell_visible : List Active → Cell → Bool
  is_cell_visible stack (cell.Device d) = true
  is_cell_visible stack (cell.At object path) = is_root_visible stack object

  -- whether an action reads and writes no hidden local
  abbrev pub is_action_visible : List Active → Action → Bool
  is_action_visible stack (Read c manner) = is_cell_visible stack c
  is_action_visible stack (Write c is_event v) = is_cell_visible stack c
  is_action_visible stack (Choose b) = true
  is_action_visible stack (Call callee args) = true
  is_action_visible stack (Flag on) = true
  is_action_visible stack Save = true

  -- Meets relates the local states of running and of interrupted activations, Waits those of activations that wait for an action
  module _ (Meets Waits : LocalState → LocalState → Type 0) where
    -- both make the same transition, and meet again, or wait for the same action
    abbrev pub AreAlike : LocalState → LocalState → Transition → Transition → Type 0
    AreAlike q p FallsOff FallsOff = Unit {0}
    AreAlike q p (Performs x) (Performs y) = (x ≡ y) × Waits q p
    AreAlike q p Aborts Aborts = Unit {0}
    AreAlike q p (Jumps c) (Jumps d) = Meets (local_state c q.locals) (local_state d p.locals)
    AreAlike q p (Returns v) (Returns w) = v ≡ w
    AreAlike q p _ _ = ⊥

    abbrev pub AreMeeting : Bool → Active → Active → Type 0
    AreMeeting true q p = Waits (local_state_of q) (local_state_of p)
    AreMeeting false q p = Meets (local_state_of q) (local_state_of p)

    abbrev pub LocalSuspended : Bool → Active → Active → Type 0
    LocalSuspended called q p = AgreeOnVisible p.func q.locals p.locals × AreMeeting called q p

    -- the memory is the same, and its events are seen alike
    abbrev pub LocalRunning : Program → Program → Memory → Active → Memory → Active → Type 0
    LocalRunning Q P m q n p = (m ≡ n) × LocalSuspended false q p × (rows_of Q m.trace ≡ rows_of P n.trace)

  module _ (Q P : Program) (Match : LocalState → LocalState → Type 0) where
    -- steps that nothing else can see, of either, lead to states that match. Where P leaves a boundary, Q is at one.
    pub data Converges : LocalState → LocalState → Type 0 where
      Matched : (q p : LocalState) → Match q p → Converges q p
      QSteps : (q p q' : LocalState) → LocalStep hidden Q q q' → Converges q' p → Converges q p
      PSteps : (q p p' : LocalState) → LocalStep hidden P p p' → (is_at_boundary p.control ≡ true → is_at_boundary q.control ≡ true) → Converges q p' → Converges q p

    -- two activations that wait for an action converge once that has left its mark
    abbrev pub Awaits : LocalState → LocalState → Type 0
    Awaits q p = (m : Mark) → Converges (local_state (marked_control Q q.control m) q.locals) (local_state (marked_control P p.control m) p.locals)

    -- ---- where both may trap, and P may have to wait for Q at a boundary

    -- where P is at a boundary Q is at one, unless it has left that already
    abbrev pub IsNear : Bool → LocalState → LocalState → Type 0
    IsNear late q p = late ≡ false → is_at_boundary p.control ≡ true → is_at_boundary q.control ≡ true

    -- steps that nothing else can see, of either, lead to states that match, or to where both trap. Where P is at a boundary Q is at one, or
    -- comes to one; it is late where it has left it while P stands there.
    pub data Approaches : Bool → LocalState → LocalState → Type 0 where
      Arrives : (late : Bool) (q p : LocalState) → Match q p → IsNear late q p → Approaches late q p
      QGoes : (late : Bool) (q p q' : LocalState) → LocalStep hidden Q q q' → Approaches (late || is_at_boundary q.control) q' p → Approaches late q p
      PGoes : (late : Bool) (q p p' : LocalState) → LocalStep hidden P p p' → IsNear late q p → Approaches false q p' → Approaches late q p
      BothTrap : (late : Bool) (q p : LocalState) → TrapsNext hidden Q q → TrapsNext hidden P p → IsNear late q p → Approaches late q p

    -- two activations that wait for an action approach once that has left a mark that fits
    abbrev pub Expects : (LocalState → Mark → Type 0) → LocalState → LocalState → Type 0
    Expects Fits q p = (m : Mark) → Fits p m → Approaches false (local_state (marked_control Q q.control m) q.locals) (local_state (marked_control P p.control m) p.locals)
