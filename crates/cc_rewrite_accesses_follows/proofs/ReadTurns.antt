-- A read of a word without a guard: P reads the scalar when Q reads the word, and both have still to set the register.
use Rattle.std.proofs.Common.{◌≡◌, ℕ, zero, suc, pos, Bool, List, [], ◌∷◌, ◌++◌, Some, None, refl, ap, ◌∙◌}
use Rattle.cc_program.specs.declared.expr.Expr.{Expr}
use Rattle.cc_program.specs.declared.program.Program.{Program}
use Rattle.cc_program.specs.declared.stmt.Stmt.{Stmt, Do}
use Rattle.cc_program.specs.declared.value.Value.{Value}
use Rattle.cc_program.specs.declared.value.Value.TheVariants.{Int}
use Rattle.cc_rewrite_accesses_follows.specs.Accesses.{Functions, Slot, in_list, behind_one, next_position, in_q, in_p, IsStep, Anything, slot_cell, word_cell, ReadOfWord}
use Rattle.cc_rewrite_accesses_follows.specs.Asked.{register_cell, IsWriting}
use Rattle.cc_rewrite_accesses_follows.proofs.Copying.{copy-reads, copy-sets}
use Rattle.cc_rewrite_accesses_follows.proofs.Loading.{held-word, loaded-residue}
use Rattle.cc_rewrite_accesses_follows.proofs.Meetings.{follows-meeting, answers-meeting}
use Rattle.cc_rewrite_accesses_follows.proofs.Turns.{steps, not-empty, set-turn, unknown-writing}
use Rattle.cc_rewrite_fields.specs.Field.{field as field_of}
use Rattle.cc_rewrite_homes.specs.Homes.{HoldsWord}
use Rattle.cc_rewrite_residues.specs.Residues.{Agree, Has, There, SetsLocal}
use Rattle.cc_rewrite_residues.specs.Standing.{Frame, Locals, Spot, standing, running}
use Rattle.cc_rewrite_simulation.specs.Comparison.{Comparison}
use Rattle.cc_rewrite_simulation.specs.Relation.{Reads, Reading}
use Rattle.cc_rewrite_simulation.specs.RelationBack.{ReadingBack}
use Rattle.cc_steps.specs.CcControl.Control.{Level}
use Rattle.cc_steps.specs.CcEval.declared.mark.Mark.{Mark}
use Rattle.cc_steps.specs.CcEval.declared.mark.Mark.TheVariants.{Gave}

module _ {Q P : Program} (c : Comparison Q P) (frame : Frame) (f : Functions Q P frame) {ps : List (List Value)} (slot : Slot c ps) (qs : List (List Value)) (ql pl : Locals) (agree : Agree (c.base frame.func) ql pl)
    (these those : List Mark) (load take source : Expr) (h : ReadOfWord c frame f slot qs ql these those load take source) (back rest : List Stmt) (n m : ℕ) (qa pa : List Level)
    (joined : c.Joined frame (behind_one Q frame back (next_position n) qa) (behind_one P frame rest m pa))
  where
    abbrev q_read : ℕ → Spot
    q_read word = in_list (Do load ∷ Do take ∷ back) n qa (these ++ Gave (Some (Int (pos word))) ∷ [])

    abbrev p_read : Spot
    p_read = in_list (Do source ∷ rest) m pa (those ++ Gave (Some slot.held) ∷ [])

    left : (word : ℕ) → HoldsWord qs slot.field word → c.decode slot.object slot.position (field_of word slot.field.shift slot.field.width) ≡ slot.held →
        Reads c frame ql pl (in_list (Do load ∷ Do take ∷ back) n qa (these ++ Gave (Some (Int (pos word))) ∷ [])) (in_list (Do source ∷ rest) m pa (those ++ Gave (Some slot.held) ∷ []))
    left word holds decoded = record {
      n = suc (steps (h.asked word) zero);
      m = 0;
      q_needs = There h.temporary ∷ h.needs;
      p_needs = [];
      register = h.register;
      value = slot.held;
      tq = behind_one Q frame back (next_position n) qa;
      tp = behind_one P frame rest m pa;
      q_met = ((h.is_temporary.old, h.is_temporary.there), h.are_needs.met);
      p_met = tt;
      q_own = (h.is_temporary.own, h.are_needs.own);
      p_own = tt;
      below = h.below;
      q_left = loaded-residue Q frame f.fq f.known_q load take back n qa these (word_cell c frame f slot) h.temporary h.loads c.own (c.base frame.func) h.is_temporary.new h.is_temporary.own h.needs h.are_needs.own h.beside (Int (pos word)) (h.asked word) (h.covers word)
          (IsWriting (in_q c frame f) take (register_cell (in_q c frame f) h.register) slot.held) (unknown-writing (in_q c frame f) take (register_cell (in_q c frame f) h.register) slot.held) (h.takes word holds decoded)
          (SetsLocal h.register slot.held) (behind_one Q frame back (next_position n) qa)
          (set-turn Q frame f.fq f.known_q take back (next_position n) qa (Has h.temporary (Int (pos word)) ∷ h.needs) h.register slot.held);
      p_left = copy-sets P frame f.fp f.known_p source rest m pa those [] (slot_cell c frame f slot) h.register h.reads slot.held;
      joined = joined;
    }

    pub plain-read : IsStep c frame f (Anything c frame f) qs ps ql pl (in_list (Do load ∷ Do take ∷ back) n qa these) (in_list (Do source ∷ rest) m pa those)
    unfolding left
    plain-read rq rp flag =
        let p_first = copy-reads P frame f.fp f.known_p source rest m pa those slot.object slot.path slot.position h.register h.reads slot.located slot.held rp flag ps pl slot.there in (
          (λ shared _.
              let word = held-word c slot qs shared.statics in
              follows-meeting c (running rq flag qs (standing frame ql (in_list (Do load ∷ Do take ∷ back) n qa these))) (running rp flag ps (standing frame pl (in_list (Do source ∷ rest) m pa those))) 1 rq rp flag qs ps frame ql pl (q_read word.0) p_read
              (copy-reads Q frame f.fq f.known_q load (Do take ∷ back) n qa these slot.field.object slot.word_path slot.field.position h.temporary h.loads slot.word_located (Int (pos word.0)) rq flag qs ql word.1.there)
              p_first shared agree (Reading tt (left word.0 word.1 word.2))),
          (λ shared.
              let word = held-word c slot qs shared.statics in
              answers-meeting c (running rq flag qs (standing frame ql (in_list (Do load ∷ Do take ∷ back) n qa these))) (running rp flag ps (standing frame pl (in_list (Do source ∷ rest) m pa those))) 1 rq rp flag qs ps frame ql pl (q_read word.0) p_read
              (copy-reads Q frame f.fq f.known_q load (Do take ∷ back) n qa these slot.field.object slot.word_path slot.field.position h.temporary h.loads slot.word_located (Int (pos word.0)) rq flag qs ql word.1.there)
              p_first shared agree (ReadingBack (not-empty those (Gave (Some slot.held))) (left word.0 word.1 word.2) tt)),
        )
