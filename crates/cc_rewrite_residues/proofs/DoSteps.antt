-- One step of the running activation inside an expression statement, and what its mark does.
use Rattle.std.proofs.Common.{◌≡◌, ℕ, ◌+◌, Bool, true, false, List, [], ◌∷◌, ◌++◌, Option, Some, None, slice_get, refl, ap, ◌∙◌}
use Rattle.std.proofs.lemmas.Bool.{eq-eqb}
use Rattle.cc_program.specs.CcNum.Results.{one_if}
use Rattle.cc_program.specs.declared.expr.Expr.{Expr}
use Rattle.cc_program.specs.declared.func.Func.{Func}
use Rattle.cc_program.specs.declared.program.Program.{Program}
use Rattle.cc_program.specs.declared.stmt.Stmt.{Stmt, out-Stmt}
use Rattle.cc_program.specs.declared.stmt.Stmt.TheOpen as is
use Rattle.cc_program.specs.declared.value.Cell.TheVariants as cell
use Rattle.cc_program.specs.declared.value.Part.TheVariants as part
use Rattle.cc_program.specs.declared.value.Root.TheVariants as root
use Rattle.cc_steps.specs.CcCells.Scalars.{position as position_in}
use Rattle.cc_program.specs.declared.value.Value.{Value}
use Rattle.cc_program.specs.declared.value.Value.TheVariants.{Int}
use Rattle.cc_steps.specs.CcCells.Cells.{scalar_in, with_scalar}
use Rattle.cc_steps.specs.CcControl.Control.{Level, Control, counted, close}
use Rattle.cc_steps.proofs.CcControl.Begun.{begun_stands}
use Rattle.cc_steps.specs.CcEval.declared.action.Action.TheVariants.{Read, Write, Choose, Flag, Save}
use Rattle.cc_steps.specs.CcEval.declared.action.Manner.{Manner}
use Rattle.cc_steps.specs.CcEval.declared.mark.Mark.{Mark}
use Rattle.cc_steps.specs.CcEval.declared.mark.Mark.TheVariants.{Gave, Did, Chose}
use Rattle.cc_steps.specs.CcEval.Context.{Context, object_type}
use Rattle.cc_steps.specs.CcEval.Eval.{next_of}
use Rattle.cc_steps.specs.CcEval.Progress.{Progress, Waits, Traps}
use Rattle.cc_steps.specs.State.{Active, State}
use Rattle.cc_steps.specs.declared.event.End.TheVariants.{Trap}
use Rattle.cc_steps.specs.Step.{stopped, is_known, did, begun_at, stepped}
use Rattle.cc_steps.specs.Turn.{turn}
use Rattle.cc_rewrite_residues.specs.Standing.{Frame, Rest, Spot, spot, standing, running, todo}

-- where the flag is off nothing enters
pub off-turn : (p : Program) (r : Rest) (statics : List (List Value)) (a : Active) (arrival : Option ℕ) → turn p (running r false statics a) arrival ≡ turn p (running r false statics a) None
off-turn p r statics a None = refl
off-turn p r statics a (Some h) = refl

abbrev pub quiet : Bool → Manner
quiet b = record { is_event = false; may_be_bad = b }

module _ (p : Program) (frame : Frame) (f : Func) (known : slice_get p.funcs frame.func ≡ Some f) (r : Rest) where
  abbrev pub here : Context
  here = record { program = p; number = frame.number; id = frame.func; func = f }

  abbrev pub at : Bool → List (List Value) → List (List (Option Value)) → Control → List Mark → State
  at flag statics locals control ms = running r flag statics (standing frame locals (spot control ms))

  module _ (x : Stmt) (rest : List Stmt) (position : ℕ) (around : List Level) (e : Expr) (simple : out-Stmt x ≡ is.Do e) where
    abbrev now : Control
    now = todo (x ∷ rest) position around

    -- the step that the expression statement makes
    turns : (flag : Bool) (statics : List (List Value)) (locals : List (List (Option Value))) (ms : List Mark) (q : Progress (Option Value)) → next_of here e ms ≡ q →
        turn p (at flag statics locals now ms) None ≡ stepped p (is.Do e) (at flag statics locals now ms) (standing frame locals (spot now ms)) r.below q
    turns flag statics locals ms q h = rw (simple, known, h) refl

    -- a mark in the middle of the statement
    pub marked-on : (flag : Bool) (statics : List (List Value)) (locals : List (List (Option Value))) (ms : List Mark) (m : Mark) → is_known (next_of here e (ms ++ m ∷ [])) ≡ false →
        did p (at flag statics locals now ms) m ≡ at flag statics locals now (ms ++ m ∷ [])
    marked-on flag statics locals ms m h = rw (simple, known, h) refl

    -- the last mark: it goes on behind the statement
    pub marked-last : (flag : Bool) (statics : List (List Value)) (locals : List (List (Option Value))) (ms : List Mark) (m : Mark) → is_known (next_of here e (ms ++ m ∷ [])) ≡ true →
        did p (at flag statics locals now ms) m ≡ at flag statics locals (begun_at p frame.number frame.func (close rest (counted (position + 1)) around)) []
    marked-last flag statics locals ms m h = rw (simple, known, h) refl

    module _ (flag : Bool) (statics : List (List Value)) (locals : List (List (Option Value))) (ms : List Mark) where
      pub reads-static : (i : ℕ) (b : Bool) (v : Value) → next_of here e ms ≡ Waits (Read (cell.At (root.Static i) []) (quiet b)) → scalar_in statics i 0 ≡ Some v →
          turn p (at flag statics locals now ms) None ≡ did p (at flag statics locals now ms) (Gave (Some v))
      reads-static i b v h k = turns flag statics locals ms _ h ∙ rw k refl

      -- an element, of which is known where it stands among the object's scalars
      pub reads-element : (i k j : ℕ) (b : Bool) (v : Value) → next_of here e ms ≡ Waits (Read (cell.At (root.Static i) (part.Index k ∷ [])) (quiet b)) →
          position_in p.structures (part.Index k ∷ []) (object_type p (root.Static i)) ≡ j → scalar_in statics i j ≡ Some v →
          turn p (at flag statics locals now ms) None ≡ did p (at flag statics locals now ms) (Gave (Some v))
      reads-element i k j b v h place there = turns flag statics locals ms _ h ∙ rw (place, there) refl

      pub reads-local : (i : ℕ) (b : Bool) (v : Value) → next_of here e ms ≡ Waits (Read (cell.At (root.Auto frame.number frame.func i) []) (quiet b)) → scalar_in locals i 0 ≡ Some (Some v) →
          turn p (at flag statics locals now ms) None ≡ did p (at flag statics locals now ms) (Gave (Some v))
      reads-local i b v h k = turns flag statics locals ms _ h ∙ rw (eq-eqb frame.number frame.number refl, k) refl

      -- one that was never written gives a bad value, where it may
      pub reads-bad : (i : ℕ) (b : Bool) → next_of here e ms ≡ Waits (Read (cell.At (root.Auto frame.number frame.func i) []) (quiet b)) → b ≡ true → scalar_in locals i 0 ≡ Some None →
          turn p (at flag statics locals now ms) None ≡ did p (at flag statics locals now ms) (Gave None)
      reads-bad i b h soft k = turns flag statics locals ms _ h ∙ rw (eq-eqb frame.number frame.number refl, k, soft) refl

      pub traps : (rest : List Mark) → next_of here e ms ≡ Traps rest → turn p (at flag statics locals now ms) None ≡ stopped (at flag statics locals now ms) Trap
      traps rest h = turns flag statics locals ms _ h

      pub writes-static : (i : ℕ) (v : Value) → next_of here e ms ≡ Waits (Write (cell.At (root.Static i) []) false v) →
          turn p (at flag statics locals now ms) None ≡ did p (at flag (with_scalar statics i 0 v) locals now ms) Did
      writes-static i v h = turns flag statics locals ms _ h

      pub writes-local : (i : ℕ) (v : Value) → next_of here e ms ≡ Waits (Write (cell.At (root.Auto frame.number frame.func i) []) false v) →
          turn p (at flag statics locals now ms) None ≡ did p (at flag statics (with_scalar locals i 0 (Some v)) now ms) Did
      writes-local i v h = turns flag statics locals ms _ h ∙ rw (eq-eqb frame.number frame.number refl) refl

      pub saves : next_of here e ms ≡ Waits Save → turn p (at flag statics locals now ms) None ≡ did p (at false statics locals now ms) (Gave (Some (Int (one_if flag))))
      saves h = turns flag statics locals ms _ h

      pub flags : (b : Bool) → next_of here e ms ≡ Waits (Flag b) → turn p (at flag statics locals now ms) None ≡ did p (at b statics locals now ms) Did
      flags b h = turns flag statics locals ms _ h

      pub chooses : (b : Option Bool) → next_of here e ms ≡ Waits (Choose b) → turn p (at flag statics locals now ms) None ≡ did p (at flag statics locals now ms) (Chose b)
      chooses b h = turns flag statics locals ms _ h

  -- behind an expression statement stands the next one
  pub next-simple : (y : Stmt) (rest : List Stmt) (n : ℕ) (around : List Level) (e : Expr) → out-Stmt y ≡ is.Do e → begun_at p frame.number frame.func (close (y ∷ rest) n around) ≡ todo (y ∷ rest) n around
  next-simple y rest n around e h = ap (begun_at p frame.number frame.func) (begun_stands y n rest around (rw h refl)) ∙ rw h refl
