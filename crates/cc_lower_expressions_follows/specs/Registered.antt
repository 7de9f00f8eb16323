-- The registers of an activation in a state.
use Rattle.std.specs.Prelude.{◌≡◌, ℕ, true, List, Option, Some, None, if◌then◌else◌}
use Rattle.cc_states.specs.CcCells.Cells.{scalar_in}
use Rattle.cc_program.specs.declared.func.Func.{Func}
use Rattle.cc_program.specs.declared.value.Value.{Value}
use Rattle.cc_states.specs.CcSteps.State.{Active}
use Rattle.cc_states.specs.CcSyntax.Registers.{is_register}
use Rattle.cc_lower_expressions_follows.specs.Trees.{Regs}

abbrev pub flat : Option (Option Value) → Option Value
flat None = None
flat (Some v) = v

abbrev pub regs_in : Func → List (List (Option Value)) → Regs
regs_in f locals i = if is_register f i then flat (scalar_in locals i 0) else None

abbrev pub regs_of : Func → Active → Regs
regs_of f a = regs_in f a.locals

-- each register has its scalar
abbrev pub HasRegisters : Func → Active → Type 0
HasRegisters f a = (i : ℕ) → is_register f i ≡ true → (v : Option Value) × (scalar_in a.locals i 0 ≡ Some v)
