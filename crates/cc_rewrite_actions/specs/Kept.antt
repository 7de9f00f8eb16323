-- What stands in Q as it does in P: devices, locals, static objects that no word took, and values that name no others.
use Rattle.std.specs.Prelude.{◌≡◌, ℕ, ℤ, List, [], ◌∷◌, Option, Some, None, slice_get}
use Rattle.cc_steps.specs.CcEval.declared.mark.Mark.{Mark}
use Rattle.cc_steps.specs.CcEval.declared.mark.Mark.TheVariants.{Gave, Did, Chose}
use Rattle.cc_program.specs.declared.program.Program.{Program}
use Rattle.cc_program.specs.declared.value.Cell.{Cell}
use Rattle.cc_program.specs.declared.value.Cell.TheVariants as cell
use Rattle.cc_program.specs.declared.value.Part.{Part}
use Rattle.cc_program.specs.declared.value.Root.{Root}
use Rattle.cc_program.specs.declared.value.Root.TheVariants as root
use Rattle.cc_program.specs.declared.value.Value.{Value}
use Rattle.cc_program.specs.declared.value.Value.TheVariants.{Int}
use Rattle.cc_rewrite_homes.specs.Homes.{Whole}
use Rattle.cc_rewrite_simulation.specs.Comparison.{Comparison}
use Rattle.cc_steps.specs.Rows.{row_of}
use Rattle.cc_steps.specs.Step.{cell_position}
use Rattle.cc_steps.specs.declared.event.Event.TheVariants as event

abbrev pub CellIs : (Root → Type 0) → Cell → Type 0
CellIs Is (cell.Device d) = Unit {0}
CellIs Is (cell.At object path) = Is object

abbrev pub MarkIs : (Value → Type 0) → Mark → Type 0
MarkIs Is (Gave None) = Unit {0}
MarkIs Is (Gave (Some v)) = Is v
MarkIs Is Did = Unit {0}
MarkIs Is (Chose b) = Unit {0}

abbrev pub MarksAre : (Value → Type 0) → List Mark → Type 0
MarksAre Is [] = Unit {0}
MarksAre Is (m ∷ ms) = MarkIs Is m × MarksAre Is ms

pub record Kept {Q P : Program} (c : Comparison Q P) : Type 1 where
  pub IsKept : Root → Type 0
  pub IsKeptValue : Value → Type 0
  pub numbers : (n : ℤ) → IsKeptValue (Int n)
  pub devices : Q.devices ≡ P.devices
  pub target : Q.target ≡ P.target
  -- the scalars of a static object have homes of their own, and those of locals the same positions
  pub places : (i : ℕ) (path : List Part) → IsKept (root.Static i) → c.home i (cell_position P (root.Static i) path) ≡ Whole i (cell_position Q (root.Static i) path)
  pub positions : (number func local : ℕ) (path : List Part) → IsKept (root.Auto number func local) → cell_position Q (root.Auto number func local) path ≡ cell_position P (root.Auto number func local) path
  -- and all have the same names
  pub reads : (at : Cell) (v : Value) → CellIs IsKept at → IsKeptValue v → row_of Q (event.Read at v) ≡ row_of P (event.Read at v)
  pub writes : (at : Cell) (v : Value) → CellIs IsKept at → IsKeptValue v → row_of Q (event.Write at v) ≡ row_of P (event.Write at v)
