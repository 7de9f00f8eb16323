-- What is known of P where it performs an action, so that Q performs the same: what is accessed stands in Q as it does in P, and what is called
-- begins in both.
use Rattle.std.specs.Prelude.{◌≡◌, ◌⊎◌, ◌<◌, ◌==◌, ℕ, false, List, [], ◌∷◌, Option, Some}
use Rattle.cc_steps.specs.CcCells.Cells.{scalar_in, with_scalar}
use Rattle.cc_steps.specs.CcEval.declared.action.Action.{Action}
use Rattle.cc_steps.specs.CcEval.declared.action.Action.TheVariants.{Read, Write, Choose, Call, Flag, Save}
use Rattle.cc_steps.specs.CcEval.declared.mark.Mark.{Mark}
use Rattle.cc_program.specs.declared.program.Program.{Program}
use Rattle.cc_program.specs.declared.value.Address.{Address}
use Rattle.cc_program.specs.declared.value.Address.TheVariants as address
use Rattle.cc_program.specs.declared.value.Cell.{Cell}
use Rattle.cc_program.specs.declared.value.Cell.TheVariants as cell
use Rattle.cc_program.specs.declared.value.Root.TheVariants as root
use Rattle.cc_program.specs.declared.value.Value.{Value}
use Rattle.cc_rewrite_homes.specs.Homes.{Field}
use Rattle.cc_rewrite_residues.specs.Standing.{Frame, Locals, Spot, standing, Rest}
use Rattle.cc_rewrite_simulation.specs.Comparison.{Comparison}
use Rattle.cc_rewrite_actions.specs.Kept.{MarkIs, Kept}
use Rattle.cc_rewrite_simulation.specs.Simulated.{BeginCalled}
use Rattle.cc_steps.specs.Access.{local_content}
use Rattle.cc_steps.specs.State.{Active}
use Rattle.cc_steps.specs.Step.{cell_position, marked}
use Rattle.cc_steps.specs.declared.content.Content.TheVariants.{Holds}

-- ---- activations

module _ {Q P : Program} (c : Comparison Q P) where
  -- that an activation stands at a write without a guard is no matter of its locals
  abbrev pub StaysUnguarded : Type 0
  StaysUnguarded =
      (frame : Frame) (locals : Locals) (s : Spot) (f : Field) (i k : ℕ) (v : Option Value) → c.Unguarded (standing frame locals s) f → c.Unguarded (standing frame (with_scalar locals i k v) s) f

  -- a local of the activation with a number stands in front of temporaries; and it is one that pointers may name
  abbrev pub IsWithin : List Active → ℕ → ℕ → Type 0
  IsWithin [] number local = Unit {0}
  IsWithin (p ∷ below) number local = (p.number ≡ number → local < c.base p.func) × IsWithin below number local

  abbrev pub IsNamed : List Active → ℕ → ℕ → Type 0
  IsNamed [] number local = Unit {0}
  IsNamed (p ∷ below) number local = (p.number ≡ number → (local < c.base p.func) × (c.own p.func local ≡ false)) × IsNamed below number local

  -- what a mark does to activations of both, whatever their locals: they stand in front of the same statements again
  abbrev pub MarkBoth : (Value → Type 0) → Frame → Spot → Spot → Type 0
  MarkBoth IsKeptValue frame sq sp =
      (ql pl : Locals) (m : Mark) → MarkIs IsKeptValue m →
      (tq : Spot) × (tp : Spot) × (marked Q (standing frame ql sq) m ≡ standing frame ql tq) × (marked P (standing frame pl sp) m ≡ standing frame pl tp) × c.Joined frame tq tp

  -- the one that waits for the running one, if it was called
  abbrev pub IsResumed : (Value → Type 0) → List Active → Type 0
  IsResumed IsKeptValue [] = Unit {0}
  IsResumed IsKeptValue (p ∷ below) = (frame : Frame) (locals : Locals) (sq sp : Spot) → p ≡ standing frame locals sp → c.Joined frame sq sp → MarkBoth IsKeptValue frame sq sp

-- ---- actions

-- where this activation runs above these, with these static scalars
module _ {Q P : Program} (c : Comparison Q P) (k : Kept c) (r : Rest) (statics : List (List Value)) (frame : Frame) (locals : Locals) (s : Spot) where
  abbrev pub IsReadKnown : Cell → Type 0
  IsReadKnown (cell.Device d) = Unit {0}
  IsReadKnown (cell.At (root.Static i) path) = k.IsKept (root.Static i) × ((v : Value) × (scalar_in statics i (cell_position P (root.Static i) path) ≡ Some v) × k.IsKeptValue v)
  IsReadKnown (cell.At (root.Auto n f l) path) =
      k.IsKept (root.Auto n f l) × IsWithin c (standing frame locals s ∷ r.below) n l ×
      ((v : Value) → local_content (standing frame locals s ∷ r.below) n l (cell_position P (root.Auto n f l) path) ≡ Holds v → k.IsKeptValue v)

  abbrev pub IsWriteKnown : Cell → Type 0
  IsWriteKnown (cell.Device d) = Unit {0}
  IsWriteKnown (cell.At (root.Static i) path) = k.IsKept (root.Static i) × ((old : Value) × (scalar_in statics i (cell_position P (root.Static i) path) ≡ Some old))
  IsWriteKnown (cell.At (root.Auto n f l) path) =
      k.IsKept (root.Auto n f l) × (((frame.number ≡ n) × (l < c.base frame.func)) ⊎ (((frame.number == n) ≡ false) × IsNamed c r.below n l))

  abbrev pub IsCallKnown : Address → List Value → Type 0
  IsCallKnown address.Null args = Unit {0}
  IsCallKnown (address.Func f) args = BeginCalled c f args
  IsCallKnown (address.At object path index count) args = Unit {0}

  abbrev pub IsActionKnown : Action → Type 0
  IsActionKnown (Read at manner) = IsReadKnown at
  IsActionKnown (Write at is_event v) = IsWriteKnown at × k.IsKeptValue v
  IsActionKnown (Choose b) = Unit {0}
  IsActionKnown (Call callee args) = IsCallKnown callee args
  IsActionKnown (Flag on) = Unit {0}
  IsActionKnown Save = Unit {0}
