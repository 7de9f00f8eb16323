-- A write into a word in a guard: P makes its write when Q restores the flag.
use Rattle.std.proofs.Common.{◌≡◌, ◌<◌, ◌≤◌, ◌^◌, ℕ, zero, suc, pos, Bool, false, List, [], ◌∷◌, Some, None, length, refl, ap, sym, ◌∙◌, subst}
use Rattle.cc_program.specs.CcNum.Results.{one_if}
use Rattle.cc_program.specs.declared.expr.Expr.{Expr}
use Rattle.cc_program.specs.declared.program.Program.{Program}
use Rattle.cc_program.specs.declared.stmt.Stmt.{Stmt, Do}
use Rattle.cc_program.specs.declared.value.Value.{Value}
use Rattle.cc_program.specs.declared.value.Value.TheVariants.{Int}
use Rattle.cc_rewrite_accesses_follows.specs.Accesses.{Functions, Slot, in_list, behind_one, next_position, in_q, in_p, AreBeside, IsStep, IsGuard, JoinedBefore, slot_cell, word_cell, Source, BadSource, Put, PutBad, saving, restoring}
use Rattle.cc_rewrite_accesses_follows.specs.Asked.{Asked, IsWriting, IsTrapping}
use Rattle.cc_rewrite_accesses_follows.proofs.Copying.{copy-reads}
use Rattle.cc_rewrite_accesses_follows.proofs.Failing.{answers-failing}
use Rattle.cc_rewrite_accesses_follows.proofs.Guarding.{on-next, guard-saves, guard-sets, guard-restores, guard-meeting, guard-failing}
use Rattle.cc_rewrite_accesses_follows.proofs.Loading.{held-word, beside-met, loaded-met, load-sets}
use Rattle.cc_rewrite_accesses_follows.proofs.Passing.{Passing, passed, pass, passing-run, done-passing, failed-passing}
use Rattle.cc_rewrite_accesses_follows.proofs.Turns.{steps, same-steps, write-turn, trap-turn, unknown-writing, unknown-trapping, left-residue, left-inside}
use Rattle.cc_rewrite_fields.specs.Field.{put}
use Rattle.cc_rewrite_homes.specs.Homes.{HoldsWord}
use Rattle.cc_rewrite_homes.proofs.ScalarLemmas.{written_there, written_elsewhere}
use Rattle.cc_rewrite_residues.specs.Residues.{Agree, AreMet, Has, There, Need, SetsLocal, SetsStatic, Puts, alone, word_put}
use Rattle.cc_rewrite_residues.specs.Standing.{Frame, Locals, Spot, standing, Rest, running}
use Rattle.cc_rewrite_residues.proofs.ResidueLemmas.{silent-agree, agree-trans}
use Rattle.cc_rewrite_simulation.specs.Comparison.{Comparison}
use Rattle.cc_rewrite_simulation.specs.Relation.{AreApart, Level}
use Rattle.cc_rewrite_simulation.proofs.Answers.{ahead-step}
use Rattle.cc_rewrite_simulation.proofs.Follows.{shared-put}
use Rattle.cc_steps.specs.CcCells.Cells.{scalar_in, with_scalar}
use Rattle.cc_steps.specs.CcControl.Control.{Level as Around}
use Rattle.cc_steps.specs.CcEval.declared.mark.Mark.{Mark}
use Rattle.cc_steps.specs.CcEval.declared.mark.Mark.TheVariants.{Gave}
use Rattle.cc_steps.specs.Runs.{run}
use Rattle.cc_steps.specs.State.{State}
use Rattle.cc_steps.specs.Step.{stopped}
use Rattle.cc_steps.specs.declared.event.End.TheVariants.{Trap}

module _ {Q P : Program} (c : Comparison Q P) (frame : Frame) (f : Functions Q P frame) {ps : List (List Value)} (slot : Slot c ps) (qs : List (List Value)) (ql pl : Locals) (agree : Agree (c.base frame.func) ql pl) (load store source : Expr)
    (g : ℕ) (those : List Mark) (back rest : List Stmt) (n m : ℕ) (qa pa : List Around)
  where
    abbrev n1 : ℕ
    n1 = next_position n

    abbrev n2 : ℕ
    n2 = next_position n1

    abbrev n3 : ℕ
    n3 = next_position n2

    abbrev front : Spot
    front = in_list (Do (saving g) ∷ Do load ∷ Do store ∷ Do (restoring g) ∷ back) n qa []

    abbrev q_end : Spot
    q_end = behind_one Q frame back n3 qa

    abbrev p_at : List Mark → Spot
    p_at ms = in_list (Do source ∷ rest) m pa ms

    abbrev p_end : Spot
    p_end = behind_one P frame rest m pa

    -- the locals, once the flag and the word stand in temporaries
    abbrev locals_with : ℕ → Bool → ℕ → Locals → Locals
    locals_with t flag word locals = with_scalar (with_scalar locals g 0 (Some (Int (one_if flag)))) t 0 (Some (Int (pos word)))

    agree-with : (t : ℕ) (flag : Bool) (word : ℕ) (locals : Locals) → c.base frame.func ≤ t → c.base frame.func ≤ g → Agree (c.base frame.func) (locals_with t flag word locals) locals
    agree-with t flag word locals new new_g =
        agree-trans (c.base frame.func) (locals_with t flag word locals) (with_scalar locals g 0 (Some (Int (one_if flag)))) locals
        (silent-agree (c.base frame.func) (SetsLocal t (Int (pos word))) (with_scalar locals g 0 (Some (Int (one_if flag)))) new) (silent-agree (c.base frame.func) (SetsLocal g (Int (one_if flag))) locals new_g)

    module _ (s : Source c frame f slot pl those source) (h : Put c frame f slot ql s.code [] load store) (guard : IsGuard c frame f ql (There h.temporary ∷ h.needs) g) (joined : c.Joined frame q_end p_end) where
      abbrev new : ℕ → Value
      new word = Int (pos (put word slot.field.shift slot.field.width s.code))

      abbrev needs : List Need
      needs = There g ∷ There h.temporary ∷ h.needs

      -- from behind the save
      module _ (r : Rest) (flag : Bool) (statics : List (List Value)) (locals : Locals) (word : ℕ) (met : AreMet needs locals) (holds : HoldsWord statics slot.field word) where
        abbrev saved : Value
        saved = Int (one_if flag)

        abbrev l1 : Locals
        l1 = with_scalar locals g 0 (Some saved)

        abbrev l2 : Locals
        l2 = with_scalar l1 h.temporary 0 (Some (Int (pos word)))

        abbrev after : List (List Value)
        after = word_put statics slot.field word s.code

        has_g : scalar_in l2 g 0 ≡ Some (Some saved)
        has_g = written_elsewhere l1 h.temporary 0 (Some (Int (pos word))) g 0 (λ e _. guard.beside.0 (sym e)) ∙ written_there locals g 0 (Some saved) met.0.0 met.0.1

        met2 : AreMet (Has h.temporary (Int (pos word)) ∷ h.needs) l2
        met2 = loaded-met h.temporary h.needs h.beside (Int (pos word)) l1 (beside-met g (There h.temporary ∷ h.needs) guard.beside (Some saved) locals met.1)

        abbrev first : State
        first = running r false statics (standing frame locals (in_list (Do (saving g) ∷ Do load ∷ Do store ∷ Do (restoring g) ∷ back) n qa (Gave (Some saved) ∷ [])))

        abbrev last : State
        last = running r flag after (standing frame l2 q_end)

        passes : Passing Q r false (suc (suc (suc (steps (h.asked word) 3)))) first last
        passes =
            pass Q r false (suc (suc (steps (h.asked word) 3))) statics (standing frame locals (in_list (Do (saving g) ∷ Do load ∷ Do store ∷ Do (restoring g) ∷ back) n qa (Gave (Some saved) ∷ []))) _ last (guard-sets Q frame f.fq f.known_q g guard.plain saved load (Do store ∷ Do (restoring g) ∷ back) n qa r false statics locals tt)
            (pass Q r false (suc (steps (h.asked word) 3)) statics (standing frame l1 (in_list (Do load ∷ Do store ∷ Do (restoring g) ∷ back) n1 qa [])) _ last
            (copy-reads Q frame f.fq f.known_q load (Do store ∷ Do (restoring g) ∷ back) n1 qa [] slot.field.object slot.word_path slot.field.position h.temporary h.loads slot.word_located (Int (pos word)) r false statics l1 holds.there)
            (pass Q r false (steps (h.asked word) 3) statics (standing frame l1 (in_list (Do load ∷ Do store ∷ Do (restoring g) ∷ back) n1 qa (Gave (Some (Int (pos word))) ∷ []))) _ last (load-sets Q frame f.fq f.known_q load store (Do (restoring g) ∷ back) n1 qa [] (word_cell c frame f slot) h.temporary h.loads [] (Int (pos word)) r false statics l1 tt)
            (done-passing Q frame f.fq f.known_q store (Do (restoring g) ∷ back) n2 qa (IsWriting (in_q c frame f) store (word_cell c frame f slot) (new word)) (unknown-writing (in_q c frame f) store (word_cell c frame f slot) (new word)) r false statics l2
            (SetsStatic slot.field.object slot.field.position (new word)) (in_list (Do (restoring g) ∷ back) n3 qa [])
            (λ ms got. on-next Q frame f.fq f.known_q [] (in_list (Do store ∷ Do (restoring g) ∷ back) n2 qa ms) (SetsStatic slot.field.object slot.field.position (new word)) (restoring g) back n2 qa
            (write-turn Q frame f.fq f.known_q store (Do (restoring g) ∷ back) n2 qa [] slot.field.object slot.word_path slot.field.position (new word) ms slot.word_located got)) 2 last
            (guard-restores Q frame f.fq f.known_q g guard.plain back n3 qa r flag after l2 has_g) (h.asked word) [] (h.covers word l2 met2) (h.stores word holds.small))))

        abbrev count : ℕ
        count = suc (suc (suc (suc (steps (h.asked 0) 3))))

        runs : run Q (running r flag statics (standing frame locals front)) (alone count) ≡ last
        runs =
            subst (λ (k : ℕ). run Q (running r flag statics (standing frame locals front)) (alone (suc (suc (suc (suc k))))) ≡ last) (same-steps (h.asked word) (h.asked 0) 3 (h.same word))
            (ap (λ x. run Q x (alone (suc (suc (suc (steps (h.asked word) 3)))))) (guard-saves Q frame f.fq f.known_q g guard.plain (Do load ∷ Do store ∷ Do (restoring g) ∷ back) n qa r flag statics locals)
            ∙ passing-run Q r false (suc (suc (suc (steps (h.asked word) 3)))) first last passes)

      puts : Puts Q frame (c.base frame.func) (suc (suc (suc (suc (steps (h.asked 0) 3))))) needs front slot.field s.code q_end
      puts r flag statics locals word met holds = (
        locals_with h.temporary flag word locals,
        agree-with h.temporary flag word locals h.is_temporary.new guard.is_temporary.new,
        runs r flag statics locals word met holds,
      )

      q_met : AreMet needs ql
      q_met = ((guard.is_temporary.old, guard.is_temporary.there), ((h.is_temporary.old, h.is_temporary.there), h.are_needs.met))

      abbrev p_done : Rest → Bool → State
      p_done r flag = running r flag (with_scalar ps slot.object slot.position s.value) (standing frame pl p_end)

      -- all turns of P
      source_runs : (r : Rest) (flag : Bool) → run P (running r flag ps (standing frame pl (p_at those))) (alone (steps s.asked 1)) ≡ running r flag (with_scalar ps slot.object slot.position s.value) (standing frame pl p_end)
      source_runs r flag =
          passing-run P r flag (steps s.asked 1) (running r flag ps (standing frame pl (p_at those))) (p_done r flag)
          (done-passing P frame f.fp f.known_p source rest m pa (IsWriting (in_p c frame f) source (slot_cell c frame f slot) s.value) (unknown-writing (in_p c frame f) source (slot_cell c frame f slot) s.value) r flag ps pl
          (SetsStatic slot.object slot.position s.value) p_end (λ ms. write-turn P frame f.fp f.known_p source rest m pa [] slot.object slot.path slot.position s.value ms slot.located) zero (p_done r flag) (passed P r flag (p_done r flag)) s.asked those
          (s.covers pl s.are_needs.met) s.writes)

      pub guarded-write : IsStep c frame f (AreApart c slot.field) qs ps ql pl front (p_at those)
      guarded-write rq rp flag = (
        (λ shared apart.
            let word = held-word c slot qs shared.statics in
            guard-meeting c (running rq flag qs (standing frame ql front)) (running rp flag ps (standing frame pl (p_at those))) (first rq flag qs ql word.0 q_met word.1) (suc (suc (steps (h.asked word.0) 3))) (steps s.asked 1) rq rp flag (word_put qs slot.field word.0 s.code) (with_scalar ps slot.object slot.position s.value) frame
            (locals_with h.temporary flag word.0 ql) pl q_end p_end (guard-saves Q frame f.fq f.known_q g guard.plain (Do load ∷ Do store ∷ Do (restoring g) ∷ back) n qa rq flag qs ql) (passes rq flag qs ql word.0 q_met word.1) refl refl
            (source_runs rp flag) (shared-put c (Unit {0}) frame.handler rq rp qs ps slot.field word.0 s.code slot.object slot.position s.value slot.home word.1 s.small s.coded apart shared)
            (agree-trans (c.base frame.func) (locals_with h.temporary flag word.0 ql) ql pl (agree-with h.temporary flag word.0 ql h.is_temporary.new guard.is_temporary.new) agree) (Level joined)),
        (λ shared.
            ahead-step c rq rp flag qs ps shared frame ql front pl (p_at those) agree (record {
              n = suc (suc (suc (suc (steps (h.asked 0) 3))));
              m = steps s.asked zero;
              q_needs = needs;
              p_needs = s.needs;
              object = slot.object;
              position = slot.position;
              field = slot.field;
              code = s.code;
              value = s.value;
              tq = q_end;
              tp = p_end;
              q_met = q_met;
              p_met = s.are_needs.met;
              q_own = (guard.is_temporary.own, (h.is_temporary.own, h.are_needs.own));
              p_own = s.are_needs.own;
              at = slot.home;
              small = s.small;
              coded = s.coded;
              q_left = puts;
              p_left = left-residue P frame f.fp f.known_p source rest m pa c.own (c.base frame.func) s.needs s.are_needs.own (IsWriting (in_p c frame f) source (slot_cell c frame f slot) s.value)
                  (unknown-writing (in_p c frame f) source (slot_cell c frame f slot) s.value) (SetsStatic slot.object slot.position s.value) p_end
                  (λ ms. write-turn P frame f.fp f.known_p source rest m pa s.needs slot.object slot.path slot.position s.value ms slot.located) s.asked those s.covers s.writes;
              p_inside = left-inside P frame f.fp f.known_p source rest m pa c.own (c.base frame.func) s.needs s.are_needs.own (IsWriting (in_p c frame f) source (slot_cell c frame f slot) s.value)
                  (unknown-writing (in_p c frame f) source (slot_cell c frame f slot) s.value) (SetsStatic slot.object slot.position s.value) p_end
                  (λ ms. write-turn P frame f.fp f.known_p source rest m pa s.needs slot.object slot.path slot.position s.value ms slot.located) s.asked those s.covers s.writes;
              joined = joined;
            }) slot.held slot.there),
      )

    -- ---- of a value that is bad: Q traps in the guard

    module _ (s : BadSource c frame f slot pl those source) (h : PutBad c frame f slot ql [] load store) (guard : IsGuard c frame f ql (There h.temporary ∷ h.needs) g) (before : JoinedBefore c frame f front p_at those s.asked) where
      module _ (r : Rest) (flag : Bool) (word : ℕ) (holds : HoldsWord qs slot.field word) where
        abbrev bad_saved : Value
        bad_saved = Int (one_if flag)

        abbrev bad_first : State
        bad_first = running r false qs (standing frame ql (in_list (Do (saving g) ∷ Do load ∷ Do store ∷ Do (restoring g) ∷ back) n qa (Gave (Some bad_saved) ∷ [])))

        bad_met : AreMet (Has h.temporary (Int (pos word)) ∷ h.needs) (locals_with h.temporary flag word ql)
        bad_met =
            loaded-met h.temporary h.needs h.beside (Int (pos word)) (with_scalar ql g 0 (Some bad_saved))
            (beside-met g (There h.temporary ∷ h.needs) guard.beside (Some bad_saved) ql ((h.is_temporary.old, h.is_temporary.there), h.are_needs.met))

        abbrev failed : List Mark → State
        failed ms = running r false qs (standing frame (locals_with h.temporary flag word ql) (in_list (Do store ∷ Do (restoring g) ∷ back) n2 qa ms))

        fails : (ms : List Mark) × Passing Q r false (suc (suc (suc (steps (h.asked word) 1)))) bad_first
            (stopped (failed ms) Trap)
        fails =
            let more =
            failed-passing Q frame f.fq f.known_q store (Do (restoring g) ∷ back) n2 qa (IsTrapping (in_q c frame f) store) (unknown-trapping (in_q c frame f) store) r false qs (locals_with h.temporary flag word ql)
            (trap-turn Q frame f.fq f.known_q store (Do (restoring g) ∷ back) n2 qa []) (h.asked word) [] (h.covers word (locals_with h.temporary flag word ql) bad_met) (h.fails word holds.small) in (
              more.0,
              pass Q r false (suc (suc (steps (h.asked word) 1))) qs (standing frame ql (in_list (Do (saving g) ∷ Do load ∷ Do store ∷ Do (restoring g) ∷ back) n qa (Gave (Some bad_saved) ∷ []))) _ (stopped (failed more.0) Trap) (guard-sets Q frame f.fq f.known_q g guard.plain bad_saved load (Do store ∷ Do (restoring g) ∷ back) n qa r false qs ql tt)
                  (pass Q r false (suc (steps (h.asked word) 1)) qs (standing frame (with_scalar ql g 0 (Some bad_saved)) (in_list (Do load ∷ Do store ∷ Do (restoring g) ∷ back) n1 qa [])) _ (stopped (failed more.0) Trap)
                  (copy-reads Q frame f.fq f.known_q load (Do store ∷ Do (restoring g) ∷ back) n1 qa [] slot.field.object slot.word_path slot.field.position h.temporary h.loads slot.word_located (Int (pos word)) r false qs (with_scalar ql g 0 (Some bad_saved)) holds.there)
                  (pass Q r false (steps (h.asked word) 1) qs (standing frame (with_scalar ql g 0 (Some bad_saved)) (in_list (Do load ∷ Do store ∷ Do (restoring g) ∷ back) n1 qa (Gave (Some (Int (pos word))) ∷ []))) _ (stopped (failed more.0) Trap)
                  (load-sets Q frame f.fq f.known_q load store (Do (restoring g) ∷ back) n1 qa [] (word_cell c frame f slot) h.temporary h.loads [] (Int (pos word)) r false qs (with_scalar ql g 0 (Some bad_saved)) tt) more.1)),
            )

        fails-run : run Q (running r flag qs (standing frame ql front)) (alone (suc (suc (suc (suc (steps (h.asked word) 1))))))
            ≡ stopped (failed fails.0) Trap
        fails-run =
            ap (λ x. run Q x (alone (suc (suc (suc (steps (h.asked word) 1)))))) (guard-saves Q frame f.fq f.known_q g guard.plain (Do load ∷ Do store ∷ Do (restoring g) ∷ back) n qa r flag qs ql)
            ∙ passing-run Q r false (suc (suc (suc (steps (h.asked word) 1)))) bad_first (stopped (failed fails.0) Trap) fails.1

      pub guarded-bad-write : IsStep c frame f (AreApart c slot.field) qs ps ql pl front (p_at those)
      guarded-bad-write rq rp flag = (
        (λ shared apart.
            let word = held-word c slot qs shared.statics in
            let more =
            failed-passing P frame f.fp f.known_p source rest m pa (IsTrapping (in_p c frame f) source) (unknown-trapping (in_p c frame f) source) rp flag ps pl (trap-turn P frame f.fp f.known_p source rest m pa []) s.asked those
            (s.covers pl s.are_needs.met) s.fails in
            guard-failing c (running rq flag qs (standing frame ql front)) (running rp flag ps (standing frame pl (p_at those))) (bad_first rq flag word.0 word.1) (failed rq flag word.0 word.1 (fails rq flag word.0 word.1).0) (running rp flag ps (standing frame pl (p_at more.0))) (suc (suc (steps (h.asked word.0) 1))) (steps s.asked 1) rq
            (guard-saves Q frame f.fq f.known_q g guard.plain (Do load ∷ Do store ∷ Do (restoring g) ∷ back) n qa rq flag qs ql) (fails rq flag word.0 word.1).1 refl shared.rows refl refl (passing-run P rp flag (steps s.asked 1) (running rp flag ps (standing frame pl (p_at those))) (stopped (running rp flag ps (standing frame pl (p_at more.0))) Trap) more.1)),
        (λ shared.
            let word = held-word c slot qs shared.statics in
            answers-failing c frame f source those rest m pa ps ql pl agree qs front rq rp flag shared (suc (suc (suc (suc (steps (h.asked word.0) 1))))) (failed rq flag word.0 word.1 (fails rq flag word.0 word.1).0) refl (fails-run rq flag word.0 word.1) s.asked s.needs s.are_needs.met s.covers s.fails before),
      )
