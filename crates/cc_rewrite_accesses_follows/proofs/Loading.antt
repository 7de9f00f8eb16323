-- A word is read into a temporary, and then comes a statement that takes it from there: what is left once the word was read says nothing of it.
use Rattle.std.proofs.Common.{◌≡◌, ◌<◌, ◌≤◌, ◌^◌, ℕ, zero, suc, pos, Bool, true, false, List, [], ◌∷◌, ◌++◌, Option, Some, None, slice_get, refl, ap, sym, ◌∙◌, subst}
use Rattle.cc_program.specs.declared.expr.Expr.{Expr}
use Rattle.cc_program.specs.declared.func.Func.{Func}
use Rattle.cc_program.specs.declared.program.Program.{Program}
use Rattle.cc_program.specs.declared.stmt.Stmt.{Stmt, Do}
use Rattle.cc_program.specs.declared.value.Cell.{Cell}
use Rattle.cc_program.specs.declared.value.Value.{Value}
use Rattle.cc_program.specs.declared.value.Value.TheVariants.{Int}
use Rattle.cc_rewrite_accesses_follows.specs.Accesses.{in_list, next_position, context, AreBeside, Slot}
use Rattle.cc_rewrite_accesses_follows.specs.Asked.{Asked, Covers, Asks, Copies, register_cell}
use Rattle.cc_rewrite_accesses_follows.proofs.Copying.{copy-sets}
use Rattle.cc_rewrite_accesses_follows.proofs.Turns.{steps, now, in-front, left-residue, left-doomed}
use Rattle.cc_rewrite_homes.specs.Homes.{Home, Packed, AtHome, Statics}
use Rattle.cc_rewrite_homes.proofs.ScalarLemmas.{written_there, written_elsewhere}
use Rattle.cc_rewrite_residues.specs.Residues.{Need, Has, There, Bad, AreMet, AreOwn, Does, SetsLocal, Turns, Stops, Residue, Doomed}
use Rattle.cc_rewrite_residues.specs.Standing.{Frame, Locals, Spot}
use Rattle.cc_rewrite_simulation.specs.Comparison.{Comparison}
use Rattle.cc_steps.specs.CcCells.Cells.{with_scalar}
use Rattle.cc_steps.specs.CcControl.Control.{Level}
use Rattle.cc_steps.specs.CcEval.Eval.{next_of}
use Rattle.cc_steps.specs.CcEval.declared.mark.Mark.{Mark}
use Rattle.cc_steps.specs.CcEval.declared.mark.Mark.TheVariants.{Gave}
use Rattle.cc_steps.specs.Step.{is_known}

-- what stands in the word of a slot
pub held-word : {Q P : Program} (c : Comparison Q P) {ps : List (List Value)} (slot : Slot c ps) (qs : List (List Value)) → Statics c.home c.decode qs ps → AtHome (Packed slot.field) (c.decode slot.object slot.position) qs slot.held
held-word c slot qs statics = subst (λ (x : Home). AtHome x (c.decode slot.object slot.position) qs slot.held) slot.home (statics slot.object slot.position slot.held slot.there)

-- other registers are as before
pub beside-met : (t : ℕ) (needs : List Need) → AreBeside t needs → (v : Option Value) (locals : Locals) → AreMet needs locals → AreMet needs (with_scalar locals t 0 v)
beside-met t [] beside v locals met = tt
beside-met t (Has i u ∷ needs) beside v locals met = (written_elsewhere locals t 0 v i 0 (λ e _. beside.0 e) ∙ met.0, beside-met t needs beside.1 v locals met.1)
beside-met t (There i ∷ needs) beside v locals met = ((met.0.0, written_elsewhere locals t 0 v i 0 (λ e _. beside.0 e) ∙ met.0.1), beside-met t needs beside.1 v locals met.1)
beside-met t (Bad i ∷ needs) beside v locals met = (written_elsewhere locals t 0 v i 0 (λ e _. beside.0 e) ∙ met.0, beside-met t needs beside.1 v locals met.1)

pub loaded-met : (t : ℕ) (needs : List Need) → AreBeside t needs → (v : Value) (locals : Locals) → AreMet (There t ∷ needs) locals → AreMet (Has t v ∷ needs) (with_scalar locals t 0 (Some v))
loaded-met t needs beside v locals met = (written_there locals t 0 (Some v) met.0.0 met.0.1, beside-met t needs beside (Some v) locals met.1)

module _ (p : Program) (frame : Frame) (f : Func) (known : slice_get p.funcs frame.func ≡ Some f) (load e : Expr) (rest : List Stmt) (n : ℕ) (around : List Level) (ms : List Mark) (from : Cell) (t : ℕ)
    (copies : Copies (context p frame f) load ms from (register_cell (context p frame f) t))
  where
    -- the temporary is set
    pub load-sets : (needs : List Need) (v : Value) → Turns p frame needs (in_list (Do load ∷ Do e ∷ rest) n around (ms ++ Gave (Some v) ∷ [])) (SetsLocal t v) (in_list (Do e ∷ rest) (next_position n) around [])
    load-sets needs v =
        subst (λ (to : Spot). Turns p frame needs (in_list (Do load ∷ Do e ∷ rest) n around (ms ++ Gave (Some v) ∷ [])) (SetsLocal t v) to) (in-front p frame f known e rest n around)
        (copy-sets p frame f known load (Do e ∷ rest) n around ms needs from t copies v)

    -- and all that is left then
    module _ (own : ℕ → ℕ → Bool) (base : ℕ) (new : base ≤ t) (own_t : own frame.func t ≡ true) (needs : List Need) (needs_own : AreOwn (own frame.func) needs) (beside : AreBeside t needs) (v : Value) (asked : List Asked)
        (covers : Covers (Has t v ∷ needs) asked) (Then : List Mark → Type 0) (last : (ms : List Mark) → Then ms → is_known (next_of (context p frame f) e ms) ≡ false)
        (h : Asks (context p frame f) (next_of (context p frame f) e) Then [] asked)
      where
        pub loaded-residue : (does : Does) (to : Spot) → ((ms : List Mark) → Then ms → Turns p frame (Has t v ∷ needs) (in_list (Do e ∷ rest) (next_position n) around ms) does to) →
            Residue p frame own base (suc (steps asked zero)) (There t ∷ needs) (in_list (Do load ∷ Do e ∷ rest) n around (ms ++ Gave (Some v) ∷ [])) does to
        loaded-residue does to ends = (
          SetsLocal t v,
          in_list (Do e ∷ rest) (next_position n) around [],
          Has t v ∷ needs,
          new,
          load-sets (There t ∷ needs) v,
          (λ locals met. loaded-met t needs beside v locals met),
          (own_t, needs_own),
          left-residue p frame f known e rest (next_position n) around own base (Has t v ∷ needs) (own_t, needs_own) Then last does to ends asked [] covers h,
        )

        pub loaded-doomed : ((ms : List Mark) → Then ms → Stops p frame (Has t v ∷ needs) (in_list (Do e ∷ rest) (next_position n) around ms)) →
            Doomed p frame own base (suc (steps asked zero)) (There t ∷ needs) (in_list (Do load ∷ Do e ∷ rest) n around (ms ++ Gave (Some v) ∷ []))
        loaded-doomed ends = (
          SetsLocal t v,
          in_list (Do e ∷ rest) (next_position n) around [],
          Has t v ∷ needs,
          new,
          load-sets (There t ∷ needs) v,
          (λ locals met. loaded-met t needs beside v locals met),
          (own_t, needs_own),
          left-doomed p frame f known e rest (next_position n) around own base (Has t v ∷ needs) (own_t, needs_own) Then last ends asked [] covers h,
        )
