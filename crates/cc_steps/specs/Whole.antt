-- What the code gives: what the program does next, the first values of objects, and positions.
use Rattle.std.specs.Prelude.{ℕ, List}
use Rattle.cc_cells.specs.Scalars.{zeros_over}
use Rattle.cc_control.specs.declared.level.Level.{Level}
use Rattle.cc_program.specs.declared.object.Object.{Object}
use Rattle.cc_program.specs.declared.program.Program.{Program}
use Rattle.cc_program.specs.declared.stmt.Stmt.{out-Stmt}
use Rattle.cc_program.specs.declared.value.Value.{Value}
use Rattle.cc_steps.specs.declared.event.End.TheVariants.{Trap}
use Rattle.cc_steps.specs.declared.step.Next.{Next}
use Rattle.cc_steps.specs.declared.step.Next.TheVariants as next
use Rattle.cc_steps.specs.State.{Active, State, values_or}
use Rattle.cc_steps.specs.Step.{stopped, perform}
use Rattle.cc_steps.specs.View.{fallen_first, done_first}

-- what the running activation does next makes this of a state
abbrev pub went_first : Program → Next → State → List Active → State
went_first p next.Falls s stack = fallen_first p s stack
went_first p (next.Performs action) s stack = perform p s action
went_first p next.Traps s stack = stopped s Trap
went_first p (next.Done x v) s stack = done_first p (out-Stmt x.now) s stack v

-- how an object starts, over structures that have these zeros
abbrev pub values_over : List (List Value) → Object → List Value
values_over structures o = values_or o.init (zeros_over structures o.ctype)

abbrev pub position_in : Level → ℕ
position_in l = l.position
