-- Activations and states by their parts: what an activation is, where it stands, and what stays the same while it makes steps of its own.
use Rattle.std.specs.Prelude.{ℕ, ℤ, Bool, List, [], ◌∷◌, Option}
use Rattle.cc_steps.specs.CcControl.Control.{Level, Control, close, level}
use Rattle.cc_steps.specs.CcControl.declared.phase.Phase.TheVariants.{First}
use Rattle.cc_steps.specs.CcEval.declared.mark.Mark.{Mark}
use Rattle.cc_program.specs.declared.func.Func.{Func}
use Rattle.cc_program.specs.declared.program.Program.{Program}
use Rattle.cc_program.specs.declared.stmt.Stmt.{Stmt}
use Rattle.cc_program.specs.declared.value.Value.{Value}
use Rattle.cc_steps.specs.State.{Active, State}
use Rattle.cc_steps.specs.Step.{begun_at}
use Rattle.cc_steps.specs.declared.event.End.TheVariants.{Going}
use Rattle.cc_steps.specs.declared.event.Event.{Event}

-- what never changes in an activation
pub record Frame : Type 0 where
  pub number : ℕ
  pub func : ℕ
  pub handler : Bool

-- for each local the values of its scalars, none for one that was not written
abbrev pub Locals : Type 0
Locals = List (List (Option Value))

-- where an activation stands, and what its full expression has done
pub record Spot : Type 0 where
  pub control : Control
  pub marks : List Mark

abbrev pub spot : Control → List Mark → Spot
spot control marks = record { control = control; marks = marks }

abbrev pub standing : Frame → Locals → Spot → Active
standing f locals s = record { number = f.number; func = f.func; handler = f.handler; locals = locals; here = s.control.0; around = s.control.1; marks = s.marks }

-- in front of the first of these statements, which has its first full expression to do
abbrev pub todo : List Stmt → ℕ → List Level → Control
todo list position around = (level list position First, around)

-- where a function begins
abbrev pub entry : Program → ℕ → ℕ → Func → Spot
entry p number id f = spot (begun_at p number id (close f.body 0 [])) []

-- what stays the same while one activation makes steps that nothing else can see
pub record Rest : Type 0 where
  pub inputs : List ℤ
  pub trace : List Event
  pub below : List Active
  pub opened : ℕ

abbrev pub running : Rest → Bool → List (List Value) → Active → State
running r flag statics a = record {
  memory = record { flag = flag; statics = statics; inputs = r.inputs; trace = r.trace };
  stack = a ∷ r.below;
  opened = r.opened;
  end = Going;
}
