-- The two turns of a statement that reads a static scalar and sets a register to it.
use Rattle.std.proofs.Common.{◌≡◌, ℕ, Bool, false, List, [], ◌∷◌, ◌++◌, Some, None, slice_get, ap}
use Rattle.cc_program.specs.declared.expr.Expr.{Expr}
use Rattle.cc_program.specs.declared.func.Func.{Func}
use Rattle.cc_program.specs.declared.program.Program.{Program}
use Rattle.cc_program.specs.declared.stmt.Stmt.{Stmt, Do}
use Rattle.cc_program.specs.declared.value.Cell.{Cell}
use Rattle.cc_program.specs.declared.value.Part.{Part}
use Rattle.cc_program.specs.declared.value.Root.TheVariants as root
use Rattle.cc_program.specs.declared.value.Value.{Value}
use Rattle.cc_rewrite_accesses_follows.specs.Accesses.{in_list, behind_one, context}
use Rattle.cc_rewrite_accesses_follows.specs.Asked.{register_cell, static_cell, Copies}
use Rattle.cc_rewrite_accesses_follows.proofs.Turns.{read-turn, set-turn, unknown-writing}
use Rattle.cc_rewrite_residues.specs.Residues.{Need, SetsLocal, Turns}
use Rattle.cc_rewrite_residues.specs.Standing.{Frame, Locals, standing, Rest, running}
use Rattle.cc_steps.specs.CcCells.Cells.{scalar_in}
use Rattle.cc_steps.specs.CcControl.Control.{Level}
use Rattle.cc_steps.specs.CcEval.declared.mark.Mark.{Mark}
use Rattle.cc_steps.specs.CcEval.declared.mark.Mark.TheVariants.{Gave}
use Rattle.cc_steps.specs.Step.{cell_position}
use Rattle.cc_steps.specs.Turn.{turn}

module _ (p : Program) (frame : Frame) (f : Func) (known : slice_get p.funcs frame.func ≡ Some f) (e : Expr) (rest : List Stmt) (n : ℕ) (around : List Level) (ms : List Mark) where
  pub copy-reads : (object : ℕ) (path : List Part) (position i : ℕ) → Copies (context p frame f) e ms (static_cell object path) (register_cell (context p frame f) i) → cell_position p (root.Static object) path ≡ position → (v : Value) →
      (r : Rest) (flag : Bool) (statics : List (List Value)) (locals : Locals) → scalar_in statics object position ≡ Some v →
      turn p (running r flag statics (standing frame locals (in_list (Do e ∷ rest) n around ms))) None ≡ running r flag statics (standing frame locals (in_list (Do e ∷ rest) n around (ms ++ Gave (Some v) ∷ [])))
  copy-reads object path position i h located v =
      read-turn p frame f known e rest n around object path position false v ms h.reads located
      (unknown-writing (context p frame f) e (register_cell (context p frame f) i) v (ms ++ Gave (Some v) ∷ []) (h.writes v))

  pub copy-sets : (needs : List Need) (from : Cell) (i : ℕ) → Copies (context p frame f) e ms from (register_cell (context p frame f) i) → (v : Value) →
      Turns p frame needs (in_list (Do e ∷ rest) n around (ms ++ Gave (Some v) ∷ [])) (SetsLocal i v) (behind_one p frame rest n around)
  copy-sets needs from i h v = set-turn p frame f known e rest n around needs i v (ms ++ Gave (Some v) ∷ []) (h.writes v)
