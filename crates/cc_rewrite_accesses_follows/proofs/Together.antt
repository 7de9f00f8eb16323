-- Two statements that work out values which nothing else sees, and then do what leads to the same statements in both, or trap. What each asks for
-- is of no matter, but that both begin with the same turn.
use Rattle.std.proofs.Common.{◌≡◌, ℕ, Bool, false, List, [], ◌∷◌, ◌++◌, None, refl}
use Rattle.cc_program.specs.declared.expr.Expr.{Expr}
use Rattle.cc_program.specs.declared.program.Program.{Program}
use Rattle.cc_program.specs.declared.stmt.Stmt.{Stmt, Do}
use Rattle.cc_program.specs.declared.value.Value.{Value}
use Rattle.cc_rewrite_accesses_follows.specs.Accesses.{Functions, in_list, behind_one, in_q, in_p, IsStep, JoinedOn}
use Rattle.cc_rewrite_accesses_follows.specs.Asked.{Asked, mark_of, needs_of, Asks}
use Rattle.cc_rewrite_accesses_follows.proofs.Meetings.{follows-meeting, answers-meeting, follows-trap, answers-trap}
use Rattle.cc_rewrite_accesses_follows.proofs.Passing.{passed, passing-run, done-passing, failed-passing}
use Rattle.cc_rewrite_accesses_follows.proofs.Turns.{steps, head-met, unknown, ask-turn}
use Rattle.cc_rewrite_residues.specs.Residues.{Agree, AreMet, Does, statics_after, locals_after, Turns, Stops, alone}
use Rattle.cc_rewrite_residues.specs.Standing.{Frame, Locals, Spot, standing, Rest, running}
use Rattle.cc_rewrite_simulation.specs.Comparison.{Comparison}
use Rattle.cc_rewrite_simulation.specs.Relation.{Shared, Level}
use Rattle.cc_rewrite_simulation.specs.RelationBack.{SharedBack, LevelBack}
use Rattle.cc_rewrite_simulation.specs.Simulated.{IsTurnFollowed, IsTurnAnswered}
use Rattle.cc_steps.specs.CcControl.Control.{Level as Around}
use Rattle.cc_steps.specs.CcEval.Eval.{next_of}
use Rattle.cc_steps.specs.CcEval.declared.mark.Mark.{Mark}
use Rattle.cc_steps.specs.Runs.{run}
use Rattle.cc_steps.specs.State.{Active, State}
use Rattle.cc_steps.specs.Step.{is_known, stopped}
use Rattle.cc_steps.specs.Turn.{turn}
use Rattle.cc_steps.specs.declared.event.End.TheVariants.{Trap}

module _ {Q P : Program} (c : Comparison Q P) (frame : Frame) (f : Functions Q P frame) (d e : Expr) (back rest : List Stmt) (n m : ℕ) (qa pa : List Around) (QThen PThen : List Mark → Type 0)
    (q_last : (ms : List Mark) → QThen ms → is_known (next_of (in_q c frame f) d ms) ≡ false) (p_last : (ms : List Mark) → PThen ms → is_known (next_of (in_p c frame f) e ms) ≡ false)
    (qs ps : List (List Value)) (ql pl : Locals) (agree : Agree (c.base frame.func) ql pl)
  where
    abbrev q_at : List Mark → Spot
    q_at ms = in_list (Do d ∷ back) n qa ms

    abbrev p_at : List Mark → Spot
    p_at ms = in_list (Do e ∷ rest) m pa ms

    abbrev q_end : Spot
    q_end = behind_one Q frame back n qa

    abbrev p_end : Spot
    p_end = behind_one P frame rest m pa

    abbrev q_state : List Mark → Rest → Bool → State
    q_state ms r flag = running r flag qs (standing frame ql (q_at ms))

    abbrev p_state : List Mark → Rest → Bool → State
    p_state ms r flag = running r flag ps (standing frame pl (p_at ms))

    -- a turn that asks
    q_asks : (a : Asked) (asked : List Asked) (ms : List Mark) → AreMet (needs_of (a ∷ asked)) ql → Asks (in_q c frame f) (next_of (in_q c frame f) d) QThen ms (a ∷ asked) → (r : Rest) (flag : Bool) →
        turn Q (running r flag qs (standing frame ql (q_at ms))) None ≡ running r flag qs (standing frame ql (q_at (ms ++ mark_of a ∷ [])))
    q_asks a asked ms met h r flag =
        ask-turn Q frame f.fq f.known_q d back n qa a ms h.0 h.1 h.2 (unknown (in_q c frame f) (next_of (in_q c frame f) d) QThen q_last (ms ++ mark_of a ∷ []) asked h.3) r flag qs ql (head-met a asked ql met)

    p_asks : (a : Asked) (asked : List Asked) (ms : List Mark) → AreMet (needs_of (a ∷ asked)) pl → Asks (in_p c frame f) (next_of (in_p c frame f) e) PThen ms (a ∷ asked) → (r : Rest) (flag : Bool) →
        turn P (running r flag ps (standing frame pl (p_at ms))) None ≡ running r flag ps (standing frame pl (p_at (ms ++ mark_of a ∷ [])))
    p_asks a asked ms met h r flag =
        ask-turn P frame f.fp f.known_p e rest m pa a ms h.0 h.1 h.2 (unknown (in_p c frame f) (next_of (in_p c frame f) e) PThen p_last (ms ++ mark_of a ∷ []) asked h.3) r flag ps pl (head-met a asked pl met)

    abbrev Followed : Rest → Rest → Bool → List Mark → List Mark → Type 0
    Followed rq rp flag these those = IsTurnFollowed c (Unit {0}) (running rq flag qs (standing frame ql (q_at these))) (running rp flag ps (standing frame pl (p_at those))) None

    abbrev Answered : Rest → Rest → Bool → List Mark → List Mark → Type 0
    Answered rq rp flag these those = IsTurnAnswered c (running rq flag qs (standing frame ql (q_at these))) (running rp flag ps (standing frame pl (p_at those))) None

    -- ---- both do something

    module _ (q_does p_does : Does) (q_ends : (ms : List Mark) → QThen ms → Turns Q frame [] (q_at ms) q_does q_end) (p_ends : (ms : List Mark) → PThen ms → Turns P frame [] (p_at ms) p_does p_end)
        (joined : c.Joined frame q_end p_end) (agree_after : Agree (c.base frame.func) (locals_after q_does ql) (locals_after p_does pl)) (Apart : List Active → Type 0)
        (shared_after : (rq rp : Rest) → Shared c (Unit {0}) frame.handler rq rp qs ps → Apart rp.below → Shared c (Unit {0}) frame.handler rq rp (statics_after q_does qs) (statics_after p_does ps))
        (back_after : (rq rp : Rest) → SharedBack c rq rp qs ps → SharedBack c rq rp (statics_after q_does qs) (statics_after p_does ps))
      where
        abbrev q_done : Rest → Bool → State
        q_done r flag = running r flag (statics_after q_does qs) (standing frame (locals_after q_does ql) q_end)

        abbrev p_done : Rest → Bool → State
        p_done r flag = running r flag (statics_after p_does ps) (standing frame (locals_after p_does pl) p_end)

        q_runs : (asked : List Asked) (ms : List Mark) → AreMet (needs_of asked) ql → Asks (in_q c frame f) (next_of (in_q c frame f) d) QThen ms asked → (r : Rest) (flag : Bool) →
            run Q (running r flag qs (standing frame ql (q_at ms))) (alone (steps asked 1)) ≡ running r flag (statics_after q_does qs) (standing frame (locals_after q_does ql) q_end)
        q_runs asked ms met h r flag =
            passing-run Q r flag (steps asked 1) (q_state ms r flag) (q_done r flag) (done-passing Q frame f.fq f.known_q d back n qa QThen q_last r flag qs ql q_does q_end q_ends 0 (q_done r flag) (passed Q r flag (q_done r flag)) asked ms met h)

        p_runs : (asked : List Asked) (ms : List Mark) → AreMet (needs_of asked) pl → Asks (in_p c frame f) (next_of (in_p c frame f) e) PThen ms asked → (r : Rest) (flag : Bool) →
            run P (running r flag ps (standing frame pl (p_at ms))) (alone (steps asked 1)) ≡ running r flag (statics_after p_does ps) (standing frame (locals_after p_does pl) p_end)
        p_runs asked ms met h r flag =
            passing-run P r flag (steps asked 1) (p_state ms r flag) (p_done r flag) (done-passing P frame f.fp f.known_p e rest m pa PThen p_last r flag ps pl p_does p_end p_ends 0 (p_done r flag) (passed P r flag (p_done r flag)) asked ms met h)

        follows : (these those : List Mark) (asked others : List Asked) → AreMet (needs_of asked) ql → AreMet (needs_of others) pl → Asks (in_q c frame f) (next_of (in_q c frame f) d) QThen these asked →
            Asks (in_p c frame f) (next_of (in_p c frame f) e) PThen those others → JoinedOn c frame f q_at p_at these those asked others → (rq rp : Rest) (flag : Bool) →
            Shared c (Unit {0}) frame.handler rq rp qs ps → Apart rp.below → Followed rq rp flag these those
        follows these those [] others q_met p_met h k on rq rp flag shared apart =
            follows-meeting c (q_state these rq flag) (p_state those rp flag) (steps others 1) rq rp flag (statics_after q_does qs) (statics_after p_does ps) frame (locals_after q_does ql) (locals_after p_does pl) q_end p_end (q_ends these h rq flag qs ql tt) (p_runs others those p_met k rp flag) (shared_after rq rp shared apart) agree_after (Level joined)
        follows these those (a ∷ asked) [] q_met p_met h k on rq rp flag shared apart =
            follows-meeting c (q_state these rq flag) (p_state those rp flag) 0 rq rp flag qs ps frame ql pl (q_at (these ++ mark_of a ∷ [])) (p_at those) (q_asks a asked these q_met h rq flag) refl shared agree (Level on)
        follows these those (a ∷ asked) (b ∷ others) q_met p_met h k on rq rp flag shared apart =
            follows-meeting c (q_state these rq flag) (p_state those rp flag) 1 rq rp flag qs ps frame ql pl (q_at (these ++ mark_of a ∷ [])) (p_at (those ++ mark_of b ∷ [])) (q_asks a asked these q_met h rq flag) (p_asks b others those p_met k rp flag) shared agree (Level on)

        answers : (these those : List Mark) (asked others : List Asked) → AreMet (needs_of asked) ql → AreMet (needs_of others) pl → Asks (in_q c frame f) (next_of (in_q c frame f) d) QThen these asked →
            Asks (in_p c frame f) (next_of (in_p c frame f) e) PThen those others → JoinedOn c frame f q_at p_at these those asked others → (rq rp : Rest) (flag : Bool) → SharedBack c rq rp qs ps → Answered rq rp flag these those
        answers these those asked [] q_met p_met h k on rq rp flag shared =
            answers-meeting c (q_state these rq flag) (p_state those rp flag) (steps asked 1) rq rp flag (statics_after q_does qs) (statics_after p_does ps) frame (locals_after q_does ql) (locals_after p_does pl) q_end p_end (q_runs asked these q_met h rq flag) (p_ends those k rp flag ps pl tt) (back_after rq rp shared) agree_after (LevelBack joined)
        answers these those [] (b ∷ others) q_met p_met h k on rq rp flag shared =
            answers-meeting c (q_state these rq flag) (p_state those rp flag) 0 rq rp flag qs ps frame ql pl (q_at these) (p_at (those ++ mark_of b ∷ [])) refl (p_asks b others those p_met k rp flag) shared agree (LevelBack on)
        answers these those (a ∷ asked) (b ∷ others) q_met p_met h k on rq rp flag shared =
            answers-meeting c (q_state these rq flag) (p_state those rp flag) 1 rq rp flag qs ps frame ql pl (q_at (these ++ mark_of a ∷ [])) (p_at (those ++ mark_of b ∷ [])) (q_asks a asked these q_met h rq flag) (p_asks b others those p_met k rp flag) shared agree (LevelBack on)

        pub do-together : (these those : List Mark) (asked others : List Asked) → AreMet (needs_of asked) ql → AreMet (needs_of others) pl → Asks (in_q c frame f) (next_of (in_q c frame f) d) QThen these asked →
            Asks (in_p c frame f) (next_of (in_p c frame f) e) PThen those others → JoinedOn c frame f q_at p_at these those asked others → IsStep c frame f Apart qs ps ql pl (q_at these) (p_at those)
        do-together these those asked others q_met p_met h k on rq rp flag = (
          (λ shared apart. follows these those asked others q_met p_met h k on rq rp flag shared apart),
          (λ shared. answers these those asked others q_met p_met h k on rq rp flag shared),
        )

    -- ---- both trap

    module _ (q_ends : (ms : List Mark) → QThen ms → Stops Q frame [] (q_at ms)) (p_ends : (ms : List Mark) → PThen ms → Stops P frame [] (p_at ms)) where
      follows-failing : (these those : List Mark) (asked others : List Asked) → AreMet (needs_of asked) ql → AreMet (needs_of others) pl → Asks (in_q c frame f) (next_of (in_q c frame f) d) QThen these asked →
          Asks (in_p c frame f) (next_of (in_p c frame f) e) PThen those others → JoinedOn c frame f q_at p_at these those asked others → (rq rp : Rest) (flag : Bool) →
          Shared c (Unit {0}) frame.handler rq rp qs ps → Followed rq rp flag these those
      follows-failing these those [] others q_met p_met h k on rq rp flag shared =
          let more = failed-passing P frame f.fp f.known_p e rest m pa PThen p_last rp flag ps pl p_ends others those p_met k in
          follows-trap c (q_state these rq flag) (p_state those rp flag) (q_state these rq flag) (p_state more.0 rp flag) (steps others 1) shared.rows (q_ends these h rq flag qs ql tt) (passing-run P rp flag (steps others 1) (p_state those rp flag) (stopped (p_state more.0 rp flag) Trap) more.1)
      follows-failing these those (a ∷ asked) [] q_met p_met h k on rq rp flag shared =
          follows-meeting c (q_state these rq flag) (p_state those rp flag) 0 rq rp flag qs ps frame ql pl (q_at (these ++ mark_of a ∷ [])) (p_at those) (q_asks a asked these q_met h rq flag) refl shared agree (Level on)
      follows-failing these those (a ∷ asked) (b ∷ others) q_met p_met h k on rq rp flag shared =
          follows-meeting c (q_state these rq flag) (p_state those rp flag) 1 rq rp flag qs ps frame ql pl (q_at (these ++ mark_of a ∷ [])) (p_at (those ++ mark_of b ∷ [])) (q_asks a asked these q_met h rq flag) (p_asks b others those p_met k rp flag) shared agree (Level on)

      answers-failing : (these those : List Mark) (asked others : List Asked) → AreMet (needs_of asked) ql → AreMet (needs_of others) pl → Asks (in_q c frame f) (next_of (in_q c frame f) d) QThen these asked →
          Asks (in_p c frame f) (next_of (in_p c frame f) e) PThen those others → JoinedOn c frame f q_at p_at these those asked others → (rq rp : Rest) (flag : Bool) → SharedBack c rq rp qs ps → Answered rq rp flag these those
      answers-failing these those asked [] q_met p_met h k on rq rp flag shared =
          let more = failed-passing Q frame f.fq f.known_q d back n qa QThen q_last rq flag qs ql q_ends asked these q_met h in
          answers-trap c (q_state these rq flag) (p_state those rp flag) (q_state more.0 rq flag) (p_state those rp flag) (steps asked 1) shared.rows (passing-run Q rq flag (steps asked 1) (q_state these rq flag) (stopped (q_state more.0 rq flag) Trap) more.1) (p_ends those k rp flag ps pl tt)
      answers-failing these those [] (b ∷ others) q_met p_met h k on rq rp flag shared =
          answers-meeting c (q_state these rq flag) (p_state those rp flag) 0 rq rp flag qs ps frame ql pl (q_at these) (p_at (those ++ mark_of b ∷ [])) refl (p_asks b others those p_met k rp flag) shared agree (LevelBack on)
      answers-failing these those (a ∷ asked) (b ∷ others) q_met p_met h k on rq rp flag shared =
          answers-meeting c (q_state these rq flag) (p_state those rp flag) 1 rq rp flag qs ps frame ql pl (q_at (these ++ mark_of a ∷ [])) (p_at (those ++ mark_of b ∷ [])) (q_asks a asked these q_met h rq flag) (p_asks b others those p_met k rp flag) shared agree (LevelBack on)

      pub fail-together : (Apart : List Active → Type 0) (these those : List Mark) (asked others : List Asked) → AreMet (needs_of asked) ql → AreMet (needs_of others) pl → Asks (in_q c frame f) (next_of (in_q c frame f) d) QThen these asked →
          Asks (in_p c frame f) (next_of (in_p c frame f) e) PThen those others → JoinedOn c frame f q_at p_at these those asked others → IsStep c frame f Apart qs ps ql pl (q_at these) (p_at those)
      fail-together Apart these those asked others q_met p_met h k on rq rp flag = (
        (λ shared apart. follows-failing these those asked others q_met p_met h k on rq rp flag shared),
        (λ shared. answers-failing these those asked others q_met p_met h k on rq rp flag shared),
      )
