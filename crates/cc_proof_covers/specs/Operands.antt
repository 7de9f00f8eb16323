-- The steps that operands ask for.
use Rattle.std.specs.Prelude.{◌≡◌, ◌⊎◌, ℕ, Bool, true, [], Option}
use Rattle.cc_flow_sound.specs.CcEval.Context.{Context}
use Rattle.cc_flow_sound.specs.CcEval.declared.action.Action.TheVariants.{Read, Choose}
use Rattle.cc_flow_sound.specs.CcEval.declared.action.Action.{Action}
use Rattle.cc_flow_sound.specs.CcEval.declared.action.Manner.{Manner}
use Rattle.cc_program.specs.declared.value.Cell.TheVariants as cell
use Rattle.cc_program.specs.declared.value.Root.TheVariants as root
use Rattle.cc_flow_sound.specs.CcSyntax.Registers.{is_register}

-- the read of a register of the activation, or a branch step
abbrev pub IsOperandStep : Context → Action → Type 0
IsOperandStep c action =
    ((r : ℕ) × (how : Manner) × (is_register c.func r ≡ true) × (action ≡ Read (cell.At (root.Auto c.number c.id r) []) how)) ⊎ ((b : Option Bool) × (action ≡ Choose b))
