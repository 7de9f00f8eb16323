-- A write into a word without a guard: Q reads the word, and P stands in front of its write until Q has written.
use Rattle.std.proofs.Common.{◌≡◌, ◌<◌, ◌^◌, ℕ, zero, suc, pos, Bool, List, [], ◌∷◌, ◌++◌, Some, None, length, refl, ap, sym, ◌∙◌, subst}
use Rattle.cc_program.specs.declared.expr.Expr.{Expr}
use Rattle.cc_program.specs.declared.program.Program.{Program}
use Rattle.cc_program.specs.declared.stmt.Stmt.{Stmt, Do}
use Rattle.cc_program.specs.declared.value.Value.{Value}
use Rattle.cc_program.specs.declared.value.Value.TheVariants.{Int}
use Rattle.cc_rewrite_accesses_follows.specs.Accesses.{Functions, Slot, in_list, behind_one, next_position, in_q, in_p, IsStep, Anything, JoinedBefore, slot_cell, word_cell, Source, BadSource, Put, PutBad}
use Rattle.cc_rewrite_accesses_follows.specs.Asked.{Asked, register_cell, IsWriting, IsTrapping}
use Rattle.cc_rewrite_accesses_follows.proofs.Copying.{copy-reads}
use Rattle.cc_rewrite_accesses_follows.proofs.Failing.{answers-failing}
use Rattle.cc_rewrite_accesses_follows.proofs.Loading.{held-word, load-sets, loaded-met, loaded-residue, loaded-doomed}
use Rattle.cc_rewrite_accesses_follows.proofs.Meetings.{follows-meeting}
use Rattle.cc_rewrite_accesses_follows.proofs.Passing.{Passing, passed, pass, passing-run, done-passing, failed-passing}
use Rattle.cc_rewrite_accesses_follows.proofs.Turns.{steps, same-steps, write-turn, trap-turn, unknown-writing, unknown-trapping, left-residue, left-inside, left-doomed}
use Rattle.cc_rewrite_fields.specs.Field.{put}
use Rattle.cc_rewrite_homes.specs.Homes.{HoldsWord}
use Rattle.cc_rewrite_residues.specs.Residues.{Agree, AreMet, Has, There, SetsLocal, SetsStatic, Puts, alone, word_put}
use Rattle.cc_rewrite_residues.specs.Standing.{Frame, Locals, Spot, standing, Rest, running}
use Rattle.cc_rewrite_residues.proofs.ResidueLemmas.{silent-agree}
use Rattle.cc_rewrite_simulation.specs.Comparison.{Comparison}
use Rattle.cc_rewrite_simulation.specs.Relation.{Writes, Writing, Dooms, Trapping}
use Rattle.cc_rewrite_simulation.proofs.Answers.{ahead-step}
use Rattle.cc_steps.specs.CcCells.Cells.{with_scalar}
use Rattle.cc_steps.specs.CcControl.Control.{Level}
use Rattle.cc_steps.specs.CcEval.declared.mark.Mark.{Mark}
use Rattle.cc_steps.specs.CcEval.declared.mark.Mark.TheVariants.{Gave}
use Rattle.cc_steps.specs.Runs.{run}
use Rattle.cc_steps.specs.Step.{stopped}
use Rattle.cc_steps.specs.State.{State}
use Rattle.cc_steps.specs.declared.event.End.TheVariants.{Trap}

module _ {Q P : Program} (c : Comparison Q P) (frame : Frame) (f : Functions Q P frame) {ps : List (List Value)} (slot : Slot c ps) (qs : List (List Value)) (ql pl : Locals) (agree : Agree (c.base frame.func) ql pl) (these : List Mark) (load store source : Expr)
    (those : List Mark) (back rest : List Stmt) (n m : ℕ) (qa pa : List Level)
  where
    abbrev front : Spot
    front = in_list (Do load ∷ Do store ∷ back) n qa these

    abbrev q_end : Spot
    q_end = behind_one Q frame back (next_position n) qa

    abbrev has_read : ℕ → Spot
    has_read word = in_list (Do load ∷ Do store ∷ back) n qa (these ++ Gave (Some (Int (pos word))) ∷ [])

    abbrev p_at : List Mark → Spot
    p_at ms = in_list (Do source ∷ rest) m pa ms

    abbrev p_end : Spot
    p_end = behind_one P frame rest m pa

    module _ (s : Source c frame f slot pl those source) (h : Put c frame f slot ql s.code these load store) (joined : c.Joined frame q_end p_end) where
      abbrev new : ℕ → Value
      new word = Int (pos (put word slot.field.shift slot.field.width s.code))

      abbrev End : ℕ → List Mark → Type 0
      End word = IsWriting (in_q c frame f) store (word_cell c frame f slot) (new word)

      left : (word : ℕ) → HoldsWord qs slot.field word → c.Unguarded (standing frame pl (p_at those)) slot.field → Writes c qs frame ql pl (has_read word) (p_at those)
      left word holds unguarded = record {
        n = suc (steps (h.asked word) zero);
        m = steps s.asked zero;
        q_needs = There h.temporary ∷ h.needs;
        p_needs = s.needs;
        object = slot.object;
        position = slot.position;
        field = slot.field;
        word = word;
        code = s.code;
        value = s.value;
        tq = q_end;
        tp = p_end;
        q_met = ((h.is_temporary.old, h.is_temporary.there), h.are_needs.met);
        p_met = s.are_needs.met;
        q_own = (h.is_temporary.own, h.are_needs.own);
        p_own = s.are_needs.own;
        at = slot.home;
        holds = holds;
        small = s.small;
        coded = s.coded;
        q_left = loaded-residue Q frame f.fq f.known_q load store back n qa these (word_cell c frame f slot) h.temporary h.loads c.own (c.base frame.func) h.is_temporary.new h.is_temporary.own h.needs h.are_needs.own h.beside (Int (pos word)) (h.asked word)
            (h.covers word) (End word) (unknown-writing (in_q c frame f) store (word_cell c frame f slot) (new word)) (h.stores word holds.small) (SetsStatic slot.field.object slot.field.position (new word)) q_end
            (λ ms. write-turn Q frame f.fq f.known_q store back (next_position n) qa (Has h.temporary (Int (pos word)) ∷ h.needs) slot.field.object slot.word_path slot.field.position (new word) ms slot.word_located);
        p_left = left-residue P frame f.fp f.known_p source rest m pa c.own (c.base frame.func) s.needs s.are_needs.own (IsWriting (in_p c frame f) source (slot_cell c frame f slot) s.value)
            (unknown-writing (in_p c frame f) source (slot_cell c frame f slot) s.value) (SetsStatic slot.object slot.position s.value) p_end
            (λ ms. write-turn P frame f.fp f.known_p source rest m pa s.needs slot.object slot.path slot.position s.value ms slot.located) s.asked those s.covers s.writes;
        joined = joined;
        unguarded = unguarded;
      }

      -- the whole of it, with no arrival
      abbrev count : ℕ
      count = suc (suc (steps (h.asked 0) 1))

      module _ (r : Rest) (flag : Bool) (statics : List (List Value)) (locals : Locals) (word : ℕ) (met : AreMet (There h.temporary ∷ h.needs) locals) (holds : HoldsWord statics slot.field word) where
        abbrev after : Locals
        after = with_scalar locals h.temporary 0 (Some (Int (pos word)))

        abbrev last : State
        last = running r flag (word_put statics slot.field word s.code) (standing frame after q_end)

        passes : Passing Q r flag (suc (suc (steps (h.asked word) 1))) (running r flag statics (standing frame locals front)) last
        passes =
            pass Q r flag (suc (steps (h.asked word) 1)) statics (standing frame locals front) _ last
            (copy-reads Q frame f.fq f.known_q load (Do store ∷ back) n qa these slot.field.object slot.word_path slot.field.position h.temporary h.loads slot.word_located (Int (pos word)) r flag statics locals holds.there)
            (pass Q r flag (steps (h.asked word) 1) statics (standing frame locals (has_read word)) _ last (load-sets Q frame f.fq f.known_q load store back n qa these (word_cell c frame f slot) h.temporary h.loads [] (Int (pos word)) r flag statics locals tt)
            (done-passing Q frame f.fq f.known_q store back (next_position n) qa (End word) (unknown-writing (in_q c frame f) store (word_cell c frame f slot) (new word)) r flag statics after (SetsStatic slot.field.object slot.field.position (new word)) q_end
            (λ ms. write-turn Q frame f.fq f.known_q store back (next_position n) qa [] slot.field.object slot.word_path slot.field.position (new word) ms slot.word_located) zero last (passed Q r flag last) (h.asked word) []
            (h.covers word after (loaded-met h.temporary h.needs h.beside (Int (pos word)) locals met)) (h.stores word holds.small)))

        runs : run Q (running r flag statics (standing frame locals front)) (alone count) ≡ last
        runs =
            subst (λ (k : ℕ). run Q (running r flag statics (standing frame locals front)) (alone (suc (suc k))) ≡ last) (same-steps (h.asked word) (h.asked 0) 1 (h.same word))
            (passing-run Q r flag (suc (suc (steps (h.asked word) 1))) (running r flag statics (standing frame locals front)) last passes)

      puts : Puts Q frame (c.base frame.func) count (There h.temporary ∷ h.needs) front slot.field s.code q_end
      puts r flag statics locals word met holds = (
        with_scalar locals h.temporary 0 (Some (Int (pos word))),
        silent-agree (c.base frame.func) (SetsLocal h.temporary (Int (pos word))) locals h.is_temporary.new,
        runs r flag statics locals word met holds,
      )

      pub plain-write : c.Unguarded (standing frame pl (p_at those)) slot.field → IsStep c frame f (Anything c frame f) qs ps ql pl front (p_at those)
      plain-write unguarded rq rp flag = (
        (λ shared _.
            let word = held-word c slot qs shared.statics in
            follows-meeting c (running rq flag qs (standing frame ql front)) (running rp flag ps (standing frame pl (p_at those))) 0 rq rp flag qs ps frame ql pl (has_read word.0) (p_at those)
            (copy-reads Q frame f.fq f.known_q load (Do store ∷ back) n qa these slot.field.object slot.word_path slot.field.position h.temporary h.loads slot.word_located (Int (pos word.0)) rq flag qs ql word.1.there) refl shared agree
            (Writing tt (left word.0 word.1 unguarded))),
        (λ shared.
            ahead-step c rq rp flag qs ps shared frame ql front pl (p_at those) agree (record {
              n = count;
              m = steps s.asked zero;
              q_needs = There h.temporary ∷ h.needs;
              p_needs = s.needs;
              object = slot.object;
              position = slot.position;
              field = slot.field;
              code = s.code;
              value = s.value;
              tq = q_end;
              tp = p_end;
              q_met = ((h.is_temporary.old, h.is_temporary.there), h.are_needs.met);
              p_met = s.are_needs.met;
              q_own = (h.is_temporary.own, h.are_needs.own);
              p_own = s.are_needs.own;
              at = slot.home;
              small = s.small;
              coded = s.coded;
              q_left = puts;
              p_left = left-residue P frame f.fp f.known_p source rest m pa c.own (c.base frame.func) s.needs s.are_needs.own (IsWriting (in_p c frame f) source (slot_cell c frame f slot) s.value)
                  (unknown-writing (in_p c frame f) source (slot_cell c frame f slot) s.value) (SetsStatic slot.object slot.position s.value) p_end
                  (λ ms. write-turn P frame f.fp f.known_p source rest m pa s.needs slot.object slot.path slot.position s.value ms slot.located) s.asked those s.covers s.writes;
              p_inside = left-inside P frame f.fp f.known_p source rest m pa c.own (c.base frame.func) s.needs s.are_needs.own (IsWriting (in_p c frame f) source (slot_cell c frame f slot) s.value)
                  (unknown-writing (in_p c frame f) source (slot_cell c frame f slot) s.value) (SetsStatic slot.object slot.position s.value) p_end
                  (λ ms. write-turn P frame f.fp f.known_p source rest m pa s.needs slot.object slot.path slot.position s.value ms slot.located) s.asked those s.covers s.writes;
              joined = joined;
            }) slot.held slot.there),
      )

    -- ---- of a value that is bad: both trap, whatever is done between

    module _ (s : BadSource c frame f slot pl those source) (h : PutBad c frame f slot ql these load store) (before : JoinedBefore c frame f front p_at those s.asked) where
      doomed : (word : ℕ) → HoldsWord qs slot.field word → Dooms c frame ql pl (has_read word) (p_at those)
      doomed word holds = record {
        n = suc (steps (h.asked word) zero);
        m = steps s.asked zero;
        q_needs = There h.temporary ∷ h.needs;
        p_needs = s.needs;
        q_met = ((h.is_temporary.old, h.is_temporary.there), h.are_needs.met);
        p_met = s.are_needs.met;
        q_own = (h.is_temporary.own, h.are_needs.own);
        p_own = s.are_needs.own;
        q_left = loaded-doomed Q frame f.fq f.known_q load store back n qa these (word_cell c frame f slot) h.temporary h.loads c.own (c.base frame.func) h.is_temporary.new h.is_temporary.own h.needs h.are_needs.own h.beside (Int (pos word)) (h.asked word)
            (h.covers word) (IsTrapping (in_q c frame f) store) (unknown-trapping (in_q c frame f) store) (h.fails word holds.small) (trap-turn Q frame f.fq f.known_q store back (next_position n) qa (Has h.temporary (Int (pos word)) ∷ h.needs));
        p_left = left-doomed P frame f.fp f.known_p source rest m pa c.own (c.base frame.func) s.needs s.are_needs.own (IsTrapping (in_p c frame f) source) (unknown-trapping (in_p c frame f) source)
            (trap-turn P frame f.fp f.known_p source rest m pa s.needs) s.asked those s.covers s.fails;
      }

      module _ (r : Rest) (flag : Bool) (word : ℕ) (holds : HoldsWord qs slot.field word) where
        abbrev set : Locals
        set = with_scalar ql h.temporary 0 (Some (Int (pos word)))

        abbrev failed : List Mark → State
        failed ms = running r flag qs (standing frame set (in_list (Do store ∷ back) (next_position n) qa ms))

        fails : (ms : List Mark) × Passing Q r flag (suc (suc (steps (h.asked word) 1))) (running r flag qs (standing frame ql front)) (stopped (failed ms) Trap)
        fails =
            let more =
            failed-passing Q frame f.fq f.known_q store back (next_position n) qa (IsTrapping (in_q c frame f) store) (unknown-trapping (in_q c frame f) store) r flag qs set (trap-turn Q frame f.fq f.known_q store back (next_position n) qa []) (h.asked word) []
            (h.covers word set (loaded-met h.temporary h.needs h.beside (Int (pos word)) ql ((h.is_temporary.old, h.is_temporary.there), h.are_needs.met))) (h.fails word holds.small) in (
              more.0,
              pass Q r flag (suc (steps (h.asked word) 1)) qs (standing frame ql front) _ (stopped (failed more.0) Trap)
                  (copy-reads Q frame f.fq f.known_q load (Do store ∷ back) n qa these slot.field.object slot.word_path slot.field.position h.temporary h.loads slot.word_located (Int (pos word)) r flag qs ql holds.there)
                  (pass Q r flag (steps (h.asked word) 1) qs (standing frame ql (has_read word)) _ (stopped (failed more.0) Trap) (load-sets Q frame f.fq f.known_q load store back n qa these (word_cell c frame f slot) h.temporary h.loads [] (Int (pos word)) r flag qs ql tt) more.1),
            )

      pub plain-bad-write : IsStep c frame f (Anything c frame f) qs ps ql pl front (p_at those)
      plain-bad-write rq rp flag = (
        (λ shared _.
            let word = held-word c slot qs shared.statics in
            follows-meeting c (running rq flag qs (standing frame ql front)) (running rp flag ps (standing frame pl (p_at those))) 0 rq rp flag qs ps frame ql pl (has_read word.0) (p_at those)
            (copy-reads Q frame f.fq f.known_q load (Do store ∷ back) n qa these slot.field.object slot.word_path slot.field.position h.temporary h.loads slot.word_located (Int (pos word.0)) rq flag qs ql word.1.there) refl shared agree
            (Trapping tt (doomed word.0 word.1))),
        (λ shared.
            let word = held-word c slot qs shared.statics in
            let more = fails rq flag word.0 word.1 in
            answers-failing c frame f source those rest m pa ps ql pl agree qs front rq rp flag shared (suc (suc (steps (h.asked word.0) 1))) (failed rq flag word.0 word.1 more.0) refl
            (passing-run Q rq flag (suc (suc (steps (h.asked word.0) 1))) (running rq flag qs (standing frame ql front)) (stopped (failed rq flag word.0 word.1 more.0) Trap) more.1) s.asked s.needs s.are_needs.met s.covers s.fails before),
      )
