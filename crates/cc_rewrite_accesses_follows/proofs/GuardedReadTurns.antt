-- A read of a word in a guard: P reads the scalar when Q restores the flag, and both have still to set the register.
use Rattle.std.proofs.Common.{◌≡◌, ◌≤◌, ℕ, zero, suc, pos, Bool, false, List, [], ◌∷◌, Some, None, refl, ap, sym, ◌∙◌, subst}
use Rattle.cc_program.specs.CcNum.Results.{one_if}
use Rattle.cc_program.specs.declared.expr.Expr.{Expr}
use Rattle.cc_program.specs.declared.program.Program.{Program}
use Rattle.cc_program.specs.declared.stmt.Stmt.{Stmt, Do}
use Rattle.cc_program.specs.declared.value.Value.{Value}
use Rattle.cc_program.specs.declared.value.Value.TheVariants.{Int}
use Rattle.cc_rewrite_accesses_follows.specs.Accesses.{Functions, Slot, in_list, behind_one, next_position, in_q, in_p, IsStep, Anything, IsGuard, slot_cell, word_cell, ReadOfWord, saving, restoring}
use Rattle.cc_rewrite_accesses_follows.specs.Asked.{register_cell, IsWriting}
use Rattle.cc_rewrite_accesses_follows.proofs.Copying.{copy-reads, copy-sets}
use Rattle.cc_rewrite_accesses_follows.proofs.Guarding.{guard-saves, guard-sets, guard-restores, guard-meeting}
use Rattle.cc_rewrite_accesses_follows.proofs.Loading.{held-word, beside-met, loaded-met, load-sets}
use Rattle.cc_rewrite_accesses_follows.proofs.Meetings.{answers-meeting}
use Rattle.cc_rewrite_accesses_follows.proofs.Passing.{Passing, pass, passing-run}
use Rattle.cc_rewrite_accesses_follows.proofs.Turns.{steps, in-front, set-turn, left-residue, unknown-writing}
use Rattle.cc_rewrite_fields.specs.Field.{field as field_of}
use Rattle.cc_rewrite_homes.specs.Homes.{HoldsWord}
use Rattle.cc_rewrite_homes.proofs.ScalarLemmas.{written_there, written_elsewhere}
use Rattle.cc_rewrite_residues.specs.Residues.{Agree, AreMet, Has, There, SetsLocal, alone}
use Rattle.cc_rewrite_residues.specs.Standing.{Frame, Locals, Spot, standing, Rest, running}
use Rattle.cc_rewrite_residues.proofs.ResidueLemmas.{silent-agree, agree-trans}
use Rattle.cc_rewrite_simulation.specs.Comparison.{Comparison}
use Rattle.cc_rewrite_simulation.specs.Relation.{Reads, Reading}
use Rattle.cc_rewrite_simulation.specs.RelationBack.{ReadingBack}
use Rattle.cc_steps.specs.CcCells.Cells.{scalar_in, with_scalar}
use Rattle.cc_steps.specs.CcControl.Control.{Level}
use Rattle.cc_steps.specs.CcEval.declared.mark.Mark.TheVariants.{Gave}
use Rattle.cc_steps.specs.Runs.{run}
use Rattle.cc_steps.specs.State.{State}

module _ {Q P : Program} (c : Comparison Q P) (frame : Frame) (f : Functions Q P frame) {ps : List (List Value)} (slot : Slot c ps) (qs : List (List Value)) (ql pl : Locals) (agree : Agree (c.base frame.func) ql pl)
    (load take source : Expr) (h : ReadOfWord c frame f slot qs ql [] [] load take source) (g : ℕ) (guard : IsGuard c frame f ql (There h.temporary ∷ h.needs) g) (back rest : List Stmt) (n m : ℕ) (qa pa : List Level)
  where
    abbrev n1 : ℕ
    n1 = next_position n

    abbrev n2 : ℕ
    n2 = next_position n1

    abbrev n3 : ℕ
    n3 = next_position n2

    abbrev q_end : Spot
    q_end = behind_one Q frame back n3 qa

    abbrev p_end : Spot
    p_end = behind_one P frame rest m pa

    abbrev front : Spot
    front = in_list (Do (saving g) ∷ Do load ∷ Do (restoring g) ∷ Do take ∷ back) n qa []

    abbrev taking : Spot
    taking = in_list (Do take ∷ back) n3 qa []

    abbrev p_read : Spot
    p_read = in_list (Do source ∷ rest) m pa (Gave (Some slot.held) ∷ [])

    module _ (joined : c.Joined frame q_end p_end) (flag : Bool) (word : ℕ) (holds : HoldsWord qs slot.field word) where
      abbrev saved : Value
      saved = Int (one_if flag)

      abbrev l1 : Locals
      l1 = with_scalar ql g 0 (Some saved)

      abbrev l2 : Locals
      l2 = with_scalar l1 h.temporary 0 (Some (Int (pos word)))

      met1 : AreMet (There h.temporary ∷ h.needs) l1
      met1 = beside-met g (There h.temporary ∷ h.needs) guard.beside (Some saved) ql ((h.is_temporary.old, h.is_temporary.there), h.are_needs.met)

      has_g : scalar_in l2 g 0 ≡ Some (Some saved)
      has_g = written_elsewhere l1 h.temporary 0 (Some (Int (pos word))) g 0 (λ e _. guard.beside.0 (sym e)) ∙ written_there ql g 0 (Some saved) guard.is_temporary.old guard.is_temporary.there

      agree2 : Agree (c.base frame.func) l2 pl
      agree2 =
          agree-trans (c.base frame.func) l2 l1 pl (silent-agree (c.base frame.func) (SetsLocal h.temporary (Int (pos word))) l1 h.is_temporary.new)
          (agree-trans (c.base frame.func) l1 ql pl (silent-agree (c.base frame.func) (SetsLocal g saved) ql guard.is_temporary.new) agree)

      left : c.decode slot.object slot.position (field_of word slot.field.shift slot.field.width) ≡ slot.held → Reads c frame l2 pl taking p_read
      left decoded = record {
        n = steps (h.asked word) zero;
        m = 0;
        q_needs = Has h.temporary (Int (pos word)) ∷ h.needs;
        p_needs = [];
        register = h.register;
        value = slot.held;
        tq = q_end;
        tp = p_end;
        q_met = loaded-met h.temporary h.needs h.beside (Int (pos word)) l1 met1;
        p_met = tt;
        q_own = (h.is_temporary.own, h.are_needs.own);
        p_own = tt;
        below = h.below;
        q_left = left-residue Q frame f.fq f.known_q take back n3 qa c.own (c.base frame.func) (Has h.temporary (Int (pos word)) ∷ h.needs) (h.is_temporary.own, h.are_needs.own)
            (IsWriting (in_q c frame f) take (register_cell (in_q c frame f) h.register) slot.held) (unknown-writing (in_q c frame f) take (register_cell (in_q c frame f) h.register) slot.held) (SetsLocal h.register slot.held) q_end
            (set-turn Q frame f.fq f.known_q take back n3 qa (Has h.temporary (Int (pos word)) ∷ h.needs) h.register slot.held) (h.asked word) [] (h.covers word) (h.takes word holds decoded);
        p_left = copy-sets P frame f.fp f.known_p source rest m pa [] [] (slot_cell c frame f slot) h.register h.reads slot.held;
        joined = joined;
      }

      module _ (r : Rest) where
        abbrev first : State
        first = running r false qs (standing frame ql (in_list (Do (saving g) ∷ Do load ∷ Do (restoring g) ∷ Do take ∷ back) n qa (Gave (Some saved) ∷ [])))

        abbrev last : State
        last = running r flag qs (standing frame l2 taking)

        restores : Passing Q r false 2 (running r false qs (standing frame l2 (in_list (Do (restoring g) ∷ Do take ∷ back) n2 qa []))) last
        restores =
            subst (λ (to : Spot). Passing Q r false 2 (running r false qs (standing frame l2 (in_list (Do (restoring g) ∷ Do take ∷ back) n2 qa []))) (running r flag qs (standing frame l2 to)))
            (in-front Q frame f.fq f.known_q take back n2 qa) (guard-restores Q frame f.fq f.known_q g guard.plain (Do take ∷ back) n2 qa r flag qs l2 has_g)

        passes : Passing Q r false 5 first last
        passes =
            pass Q r false 4 qs (standing frame ql (in_list (Do (saving g) ∷ Do load ∷ Do (restoring g) ∷ Do take ∷ back) n qa (Gave (Some saved) ∷ []))) _ last (guard-sets Q frame f.fq f.known_q g guard.plain saved load (Do (restoring g) ∷ Do take ∷ back) n qa r false qs ql tt)
            (pass Q r false 3 qs (standing frame l1 (in_list (Do load ∷ Do (restoring g) ∷ Do take ∷ back) n1 qa [])) _ last
            (copy-reads Q frame f.fq f.known_q load (Do (restoring g) ∷ Do take ∷ back) n1 qa [] slot.field.object slot.word_path slot.field.position h.temporary h.loads slot.word_located (Int (pos word)) r false qs l1 holds.there)
            (pass Q r false 2 qs (standing frame l1 (in_list (Do load ∷ Do (restoring g) ∷ Do take ∷ back) n1 qa (Gave (Some (Int (pos word))) ∷ []))) _ last (load-sets Q frame f.fq f.known_q load (restoring g) (Do take ∷ back) n1 qa [] (word_cell c frame f slot) h.temporary h.loads [] (Int (pos word)) r false qs l1 tt) restores))

        runs : run Q (running r flag qs (standing frame ql front)) (alone 6) ≡ last
        runs = ap (λ s. run Q s (alone 5)) (guard-saves Q frame f.fq f.known_q g guard.plain (Do load ∷ Do (restoring g) ∷ Do take ∷ back) n qa r flag qs ql) ∙ passing-run Q r false 5 first last passes

    pub guarded-read : c.Joined frame q_end p_end → IsStep c frame f (Anything c frame f) qs ps ql pl front (in_list (Do source ∷ rest) m pa [])
    unfolding left
    guarded-read joined rq rp flag =
        let p_first = copy-reads P frame f.fp f.known_p source rest m pa [] slot.object slot.path slot.position h.register h.reads slot.located slot.held rp flag ps pl slot.there in (
          (λ shared _.
              let word = held-word c slot qs shared.statics in
              guard-meeting c (running rq flag qs (standing frame ql front)) (running rp flag ps (standing frame pl (in_list (Do source ∷ rest) m pa []))) (first joined flag word.0 word.1 rq) 4 1 rq rp flag qs ps frame (l2 joined flag word.0 word.1) pl taking p_read
              (guard-saves Q frame f.fq f.known_q g guard.plain (Do load ∷ Do (restoring g) ∷ Do take ∷ back) n qa rq flag qs ql) (passes joined flag word.0 word.1 rq) refl refl p_first shared
              (agree2 joined flag word.0 word.1) (Reading tt (left joined flag word.0 word.1 word.2))),
          (λ shared.
              let word = held-word c slot qs shared.statics in
              answers-meeting c (running rq flag qs (standing frame ql front)) (running rp flag ps (standing frame pl (in_list (Do source ∷ rest) m pa []))) 6 rq rp flag qs ps frame (l2 joined flag word.0 word.1) pl taking p_read (runs joined flag word.0 word.1 rq) p_first shared (agree2 joined flag word.0 word.1)
              (ReadingBack refl (left joined flag word.0 word.1 word.2) tt)),
        )
