-- A write of the only code in its word in a guard, where an access of the word is made of several.
use Rattle.std.proofs.Common.{◌≡◌, ◌≤◌, ◌*◌, ◌^◌, ℕ, zero, suc, pos, Bool, false, List, [], ◌∷◌, ◌++◌, Some, None, refl, ap, sym, ◌∙◌}
use Rattle.cc_program.specs.CcNum.Results.{one_if}
use Rattle.cc_program.specs.declared.expr.Expr.{Expr}
use Rattle.cc_program.specs.declared.program.Program.{Program}
use Rattle.cc_program.specs.declared.stmt.Stmt.{Stmt, Do}
use Rattle.cc_program.specs.declared.value.Value.{Value}
use Rattle.cc_program.specs.declared.value.Value.TheVariants.{Int}
use Rattle.cc_rewrite_accesses_follows.specs.Accesses.{Functions, Slot, in_list, behind_one, next_position, in_q, in_p, IsStep, IsGuard, JoinedInside, JoinedBefore, slot_cell, word_cell, Source, BadSource, PutAlone, PutAloneBad, saving, restoring}
use Rattle.cc_rewrite_accesses_follows.specs.Asked.{Asked, mark_of, needs_of, Writes, IsWriting, IsTrapping}
use Rattle.cc_rewrite_accesses_follows.proofs.AloneWriteTurns.{alone-shared, alone-back}
use Rattle.cc_rewrite_accesses_follows.proofs.Failing.{answers-failing}
use Rattle.cc_rewrite_accesses_follows.proofs.Guarding.{on-next, guard-saves, guard-sets, guard-restores, guard-meeting, guard-failing}
use Rattle.cc_rewrite_accesses_follows.proofs.Loading.{beside-met}
use Rattle.cc_rewrite_accesses_follows.proofs.Meetings.{answers-meeting}
use Rattle.cc_rewrite_accesses_follows.proofs.Passing.{Passing, passed, pass, passing-run, done-passing, failed-passing}
use Rattle.cc_rewrite_accesses_follows.proofs.Turns.{steps, head-met, unknown, ask-turn, write-turn, trap-turn, unknown-writing, unknown-trapping}
use Rattle.cc_rewrite_homes.proofs.ScalarLemmas.{written_there}
use Rattle.cc_rewrite_residues.specs.Residues.{Agree, AreMet, SetsLocal, SetsStatic, alone}
use Rattle.cc_rewrite_residues.specs.Standing.{Frame, Locals, Spot, standing, Rest, running}
use Rattle.cc_rewrite_residues.proofs.ResidueLemmas.{silent-agree, agree-trans}
use Rattle.cc_rewrite_simulation.specs.Comparison.{Comparison}
use Rattle.cc_rewrite_simulation.specs.Relation.{AreApart, Level}
use Rattle.cc_rewrite_simulation.specs.RelationBack.{SharedBack, LevelBack}
use Rattle.cc_rewrite_simulation.specs.Simulated.{IsTurnAnswered}
use Rattle.cc_steps.specs.CcCells.Cells.{scalar_in, with_scalar}
use Rattle.cc_steps.specs.CcControl.Control.{Level as Around}
use Rattle.cc_steps.specs.CcEval.Eval.{next_of}
use Rattle.cc_steps.specs.CcEval.declared.mark.Mark.{Mark}
use Rattle.cc_steps.specs.CcEval.declared.mark.Mark.TheVariants.{Gave}
use Rattle.cc_steps.specs.Runs.{run}
use Rattle.cc_steps.specs.State.{State}
use Rattle.cc_steps.specs.Step.{stopped}
use Rattle.cc_steps.specs.declared.event.End.TheVariants.{Trap}

module _ {Q P : Program} (c : Comparison Q P) (frame : Frame) (f : Functions Q P frame) {ps : List (List Value)} (slot : Slot c ps) (qs : List (List Value)) (ql pl : Locals) (agree : Agree (c.base frame.func) ql pl) (store source : Expr)
    (g : ℕ) (those : List Mark) (back rest : List Stmt) (n m : ℕ) (qa pa : List Around)
  where
    abbrev n1 : ℕ
    n1 = next_position n

    abbrev n2 : ℕ
    n2 = next_position n1

    abbrev front : Spot
    front = in_list (Do (saving g) ∷ Do store ∷ Do (restoring g) ∷ back) n qa []

    abbrev q_end : Spot
    q_end = behind_one Q frame back n2 qa

    abbrev p_at : List Mark → Spot
    p_at ms = in_list (Do source ∷ rest) m pa ms

    abbrev p_end : Spot
    p_end = behind_one P frame rest m pa

    abbrev kept : Bool → Locals
    kept flag = with_scalar ql g 0 (Some (Int (one_if flag)))

    abbrev at_save : Bool → Spot
    at_save flag = in_list (Do (saving g) ∷ Do store ∷ Do (restoring g) ∷ back) n qa (Gave (Some (Int (one_if flag))) ∷ [])

    module _ (s : Source c frame f slot pl those source) (h : PutAlone c frame f slot ql s.code store) (guard : IsGuard c frame f ql h.needs g) (joined : c.Joined frame q_end p_end)
        (inside : JoinedInside c frame f front p_at those s.asked)
      where
        abbrev new : Value
        new = Int (pos (s.code * 2 ^ slot.field.shift))

        agree_kept : (flag : Bool) → Agree (c.base frame.func) (kept flag) pl
        agree_kept flag = agree-trans (c.base frame.func) (kept flag) ql pl (silent-agree (c.base frame.func) (SetsLocal g (Int (one_if flag))) ql guard.is_temporary.new) agree

        module _ (r : Rest) (flag : Bool) where
          abbrev first : State
          first = running r false qs (standing frame ql (at_save flag))

          abbrev last : State
          last = running r flag (with_scalar qs slot.field.object slot.field.position new) (standing frame (kept flag) q_end)

          passes : Passing Q r false (suc (steps h.asked 3)) first last
          passes =
              pass Q r false (steps h.asked 3) qs (standing frame ql (at_save flag)) _ last (guard-sets Q frame f.fq f.known_q g guard.plain (Int (one_if flag)) store (Do (restoring g) ∷ back) n qa r false qs ql tt)
              (done-passing Q frame f.fq f.known_q store (Do (restoring g) ∷ back) n1 qa (IsWriting (in_q c frame f) store (word_cell c frame f slot) new) (unknown-writing (in_q c frame f) store (word_cell c frame f slot) new) r false qs (kept flag)
              (SetsStatic slot.field.object slot.field.position new) (in_list (Do (restoring g) ∷ back) n2 qa [])
              (λ ms got. on-next Q frame f.fq f.known_q [] (in_list (Do store ∷ Do (restoring g) ∷ back) n1 qa ms) (SetsStatic slot.field.object slot.field.position new) (restoring g) back n1 qa
              (write-turn Q frame f.fq f.known_q store (Do (restoring g) ∷ back) n1 qa [] slot.field.object slot.word_path slot.field.position new ms slot.word_located got)) 2 last
              (guard-restores Q frame f.fq f.known_q g guard.plain back n2 qa r flag (with_scalar qs slot.field.object slot.field.position new) (kept flag)
              (written_there ql g 0 (Some (Int (one_if flag))) guard.is_temporary.old guard.is_temporary.there)) h.asked []
              (h.covers (kept flag) (beside-met g h.needs guard.beside (Some (Int (one_if flag))) ql h.met)) h.stores)

          runs : run Q (running r flag qs (standing frame ql front)) (alone (suc (suc (steps h.asked 3)))) ≡ last
          runs =
              ap (λ x. run Q x (alone (suc (steps h.asked 3)))) (guard-saves Q frame f.fq f.known_q g guard.plain (Do store ∷ Do (restoring g) ∷ back) n qa r flag qs ql)
              ∙ passing-run Q r false (suc (steps h.asked 3)) first last passes

        abbrev p_done : Rest → Bool → State
        p_done r flag = running r flag (with_scalar ps slot.object slot.position s.value) (standing frame pl p_end)

        source_runs : (r : Rest) (flag : Bool) → run P (running r flag ps (standing frame pl (p_at those))) (alone (steps s.asked 1)) ≡ running r flag (with_scalar ps slot.object slot.position s.value) (standing frame pl p_end)
        source_runs r flag =
            passing-run P r flag (steps s.asked 1) (running r flag ps (standing frame pl (p_at those))) (p_done r flag)
            (done-passing P frame f.fp f.known_p source rest m pa (IsWriting (in_p c frame f) source (slot_cell c frame f slot) s.value) (unknown-writing (in_p c frame f) source (slot_cell c frame f slot) s.value) r flag ps pl
            (SetsStatic slot.object slot.position s.value) p_end (λ ms. write-turn P frame f.fp f.known_p source rest m pa [] slot.object slot.path slot.position s.value ms slot.located) zero (p_done r flag) (passed P r flag (p_done r flag)) s.asked those
            (s.covers pl s.are_needs.met) s.writes)

        -- P goes on alone up to its write, and then Q does all
        answers : (rq rp : Rest) (flag : Bool) → SharedBack c rq rp qs ps → (asked : List Asked) → AreMet (needs_of asked) pl → Writes (in_p c frame f) source those asked (slot_cell c frame f slot) s.value → JoinedInside c frame f front p_at those asked →
            IsTurnAnswered c (running rq flag qs (standing frame ql front)) (running rp flag ps (standing frame pl (p_at those))) None
        answers rq rp flag shared [] met writes inside =
            answers-meeting c (running rq flag qs (standing frame ql front)) (running rp flag ps (standing frame pl (p_at those))) (suc (suc (steps h.asked 3))) rq rp flag (with_scalar qs slot.field.object slot.field.position new) (with_scalar ps slot.object slot.position s.value) frame (kept flag) pl q_end p_end (runs rq flag)
            (write-turn P frame f.fp f.known_p source rest m pa [] slot.object slot.path slot.position s.value those slot.located writes rp flag ps pl tt) (alone-back c slot s.code s.value s.coded s.small h.fits h.single qs rq rp shared) (agree_kept flag)
            (LevelBack joined)
        answers rq rp flag shared (a ∷ asked) met writes inside =
            answers-meeting c (running rq flag qs (standing frame ql front)) (running rp flag ps (standing frame pl (p_at those))) 0 rq rp flag qs ps frame ql pl front (p_at (those ++ mark_of a ∷ [])) refl
            (ask-turn P frame f.fp f.known_p source rest m pa a those writes.0 writes.1 writes.2
            (unknown (in_p c frame f) (next_of (in_p c frame f) source) (IsWriting (in_p c frame f) source (slot_cell c frame f slot) s.value) (unknown-writing (in_p c frame f) source (slot_cell c frame f slot) s.value) (those ++ mark_of a ∷ []) asked writes.3)
            rp flag ps pl (head-met a asked pl met)) shared agree (LevelBack inside)

        pub guarded-alone-write : IsStep c frame f (AreApart c slot.field) qs ps ql pl front (p_at those)
        guarded-alone-write rq rp flag = (
          (λ shared apart.
              guard-meeting c (running rq flag qs (standing frame ql front)) (running rp flag ps (standing frame pl (p_at those))) (first rq flag) (steps h.asked 3) (steps s.asked 1) rq rp flag (with_scalar qs slot.field.object slot.field.position new) (with_scalar ps slot.object slot.position s.value) frame (kept flag) pl q_end p_end
              (guard-saves Q frame f.fq f.known_q g guard.plain (Do store ∷ Do (restoring g) ∷ back) n qa rq flag qs ql) (passes rq flag) refl refl (source_runs rp flag)
              (alone-shared c slot s.code s.value s.coded s.small h.fits h.single qs frame.handler rq rp shared apart) (agree_kept flag) (Level joined)),
          (λ shared. answers rq rp flag shared s.asked (s.covers pl s.are_needs.met) s.writes inside),
        )

    -- ---- of a value that is bad

    module _ (s : BadSource c frame f slot pl those source) (h : PutAloneBad c frame f slot ql store) (guard : IsGuard c frame f ql h.needs g) (before : JoinedBefore c frame f front p_at those s.asked) where
      module _ (r : Rest) (flag : Bool) where
        abbrev bad_first : State
        bad_first = running r false qs (standing frame ql (at_save flag))

        abbrev failed : List Mark → State
        failed ms = running r false qs (standing frame (kept flag) (in_list (Do store ∷ Do (restoring g) ∷ back) n1 qa ms))

        fails : (ms : List Mark) × Passing Q r false (suc (steps h.asked 1)) bad_first (stopped (failed ms) Trap)
        fails =
            let more =
            failed-passing Q frame f.fq f.known_q store (Do (restoring g) ∷ back) n1 qa (IsTrapping (in_q c frame f) store) (unknown-trapping (in_q c frame f) store) r false qs (kept flag)
            (trap-turn Q frame f.fq f.known_q store (Do (restoring g) ∷ back) n1 qa []) h.asked [] (h.covers (kept flag) (beside-met g h.needs guard.beside (Some (Int (one_if flag))) ql h.met)) h.fails in
            (more.0, pass Q r false (steps h.asked 1) qs (standing frame ql (at_save flag)) _ (stopped (failed more.0) Trap) (guard-sets Q frame f.fq f.known_q g guard.plain (Int (one_if flag)) store (Do (restoring g) ∷ back) n qa r false qs ql tt) more.1)

        fails-run : run Q (running r flag qs (standing frame ql front)) (alone (suc (suc (steps h.asked 1)))) ≡ stopped (failed fails.0) Trap
        fails-run =
            ap (λ x. run Q x (alone (suc (steps h.asked 1)))) (guard-saves Q frame f.fq f.known_q g guard.plain (Do store ∷ Do (restoring g) ∷ back) n qa r flag qs ql)
            ∙ passing-run Q r false (suc (steps h.asked 1)) bad_first (stopped (failed fails.0) Trap) fails.1

      pub guarded-alone-bad-write : IsStep c frame f (AreApart c slot.field) qs ps ql pl front (p_at those)
      guarded-alone-bad-write rq rp flag = (
        (λ shared apart.
            let more =
            failed-passing P frame f.fp f.known_p source rest m pa (IsTrapping (in_p c frame f) source) (unknown-trapping (in_p c frame f) source) rp flag ps pl (trap-turn P frame f.fp f.known_p source rest m pa []) s.asked those
            (s.covers pl s.are_needs.met) s.fails in
            guard-failing c (running rq flag qs (standing frame ql front)) (running rp flag ps (standing frame pl (p_at those))) (bad_first rq flag) (failed rq flag (fails rq flag).0) (running rp flag ps (standing frame pl (p_at more.0))) (steps h.asked 1) (steps s.asked 1) rq
            (guard-saves Q frame f.fq f.known_q g guard.plain (Do store ∷ Do (restoring g) ∷ back) n qa rq flag qs ql) (fails rq flag).1 refl shared.rows refl refl (passing-run P rp flag (steps s.asked 1) (running rp flag ps (standing frame pl (p_at those))) (stopped (running rp flag ps (standing frame pl (p_at more.0))) Trap) more.1)),
        (λ shared.
            answers-failing c frame f source those rest m pa ps ql pl agree qs front rq rp flag shared (suc (suc (steps h.asked 1))) (failed rq flag (fails rq flag).0) refl (fails-run rq flag) s.asked s.needs s.are_needs.met s.covers s.fails before),
      )
