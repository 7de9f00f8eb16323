-- Steps of an activation that nothing else can see: it jumps, branches, or reads or writes a hidden local of its own; and where it traps.
use Rattle.std.specs.Prelude.{◌≡◌, ℕ, Bool, true, false, List, [], Option, Some, None}
use Rattle.cc_steps.specs.CcCells.Cells.{scalar_in, with_scalar}
use Rattle.cc_steps.specs.CcEval.declared.action.Action.TheVariants.{Read, Write, Choose}
use Rattle.cc_steps.specs.CcEval.declared.action.Manner.{Manner}
use Rattle.cc_steps.specs.CcEval.declared.mark.Mark.TheVariants.{Gave, Did, Chose}
use Rattle.cc_program.specs.declared.func.Func.{Func}
use Rattle.cc_program.specs.declared.program.Program.{Program}
use Rattle.cc_program.specs.declared.value.Cell.{Cell}
use Rattle.cc_program.specs.declared.value.Cell.TheVariants as cell
use Rattle.cc_program.specs.declared.value.Root.TheVariants as root
use Rattle.cc_program.specs.declared.value.Value.{Value}
use Rattle.cc_steps.specs.declared.content.Content.TheVariants.{Unwritten, Holds}
use Rattle.cc_steps.specs.Access.{content}
use Rattle.cc_steps.specs.State.{Active, locals_with}
use Rattle.cc_meaning_simulations.specs.Continuations.{resume}
use Rattle.cc_meaning_simulations.specs.Transitions.{Aborts, ControlState, Jumps, Performs, control_at, control_state, jump_to, marked_control, transition}

-- the scalars of the locals of an activation, those unwritten without a value
abbrev pub Locals : Type 0
Locals = List (List (Option Value))

-- the control of an activation, and its locals
pub record LocalState : Type 0 where
  pub control : ControlState
  pub locals : Locals

abbrev pub local_state : ControlState → Locals → LocalState
local_state a l = record { control = a; locals = l }

abbrev pub local_state_of : Active → LocalState
local_state_of a = local_state (control_state a) a.locals

-- the local state of an activation that begins: its number, its function, the arguments
abbrev pub begun_state : Program → ℕ → ℕ → List Value → Func → LocalState
begun_state p number id args f = local_state (jump_to p (control_at number id) (resume f.body [])) (locals_with p args f.locals)

-- a local of the activation itself
abbrev pub own_local : ControlState → ℕ → Cell
own_local a r = cell.At (root.Auto a.number a.func r) []

-- after a write of a local
abbrev pub after_write : LocalState → ℕ → ℕ → Value → LocalState
after_write s local i v = local_state s.control (with_scalar s.locals local i (Some v))

-- some locals are hidden, by function and local
module _ (hidden : ℕ → ℕ → Bool) where
  -- a step that nothing else can see: to another place; a read or a write of a hidden local of the activation itself; or a branch
  pub data LocalStep (p : Program) : LocalState → LocalState → Type 0 where
    Jump : (a c : ControlState) (l : Locals) → transition p a ≡ Jumps c → LocalStep p (local_state a l) (local_state c l)
    ReadHidden : (a : ControlState) (l : Locals) (r : ℕ) (manner : Manner) (v : Value) → transition p a ≡ Performs (Read (own_local a r) manner) → hidden a.func r ≡ true → manner.is_event ≡ false → content (scalar_in l r 0) ≡ Holds v →
        LocalStep p (local_state a l) (local_state (marked_control p a (Gave (Some v))) l)
    ReadUnwritten : (a : ControlState) (l : Locals) (r : ℕ) (manner : Manner) → transition p a ≡ Performs (Read (own_local a r) manner) → hidden a.func r ≡ true → manner.may_be_bad ≡ true → content (scalar_in l r 0) ≡ Unwritten →
        LocalStep p (local_state a l) (local_state (marked_control p a (Gave None)) l)
    WriteHidden : (a : ControlState) (l : Locals) (r : ℕ) (v : Value) → transition p a ≡ Performs (Write (own_local a r) false v) → hidden a.func r ≡ true → LocalStep p (local_state a l) (local_state (marked_control p a Did) (with_scalar l r 0 (Some v)))
    Branch : (a : ControlState) (l : Locals) (b : Option Bool) → transition p a ≡ Performs (Choose b) → LocalStep p (local_state a l) (local_state (marked_control p a (Chose b)) l)

  -- the next step traps: the value is bad, or a hidden local of its own is read that was not written
  pub data TrapsNext (p : Program) : LocalState → Type 0 where
    Trapping : (a : ControlState) (l : Locals) → transition p a ≡ Aborts → TrapsNext p (local_state a l)
    ReadingUnwritten : (a : ControlState) (l : Locals) (r : ℕ) (manner : Manner) → transition p a ≡ Performs (Read (own_local a r) manner) → hidden a.func r ≡ true → manner.may_be_bad ≡ false → content (scalar_in l r 0) ≡ Unwritten →
        TrapsNext p (local_state a l)
