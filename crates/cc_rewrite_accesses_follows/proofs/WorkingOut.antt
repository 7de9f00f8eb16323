-- A value that is worked out into a temporary of Q, and then stands for it in what stands for a write. P stands in front of its write until then.
use Rattle.std.proofs.Common.{◌≡◌, ℕ, zero, suc, Bool, false, List, [], ◌∷◌, ◌++◌, Option, Some, None, refl, ap, sym, ◌∙◌, subst}
use Rattle.cc_program.specs.declared.expr.Expr.{Expr}
use Rattle.cc_program.specs.declared.program.Program.{Program}
use Rattle.cc_program.specs.declared.stmt.Stmt.{Stmt, Do}
use Rattle.cc_program.specs.declared.value.Value.{Value}
use Rattle.cc_rewrite_accesses_follows.specs.Accesses.{Functions, in_list, behind_one, in_q, in_p, IsStep, JoinedOut, StepBehind, WorkedOut}
use Rattle.cc_rewrite_accesses_follows.specs.Asked.{Asked, mark_of, needs_of, register_cell, IsWriting}
use Rattle.cc_rewrite_accesses_follows.proofs.Meetings.{follows-meeting, answers-meeting}
use Rattle.cc_rewrite_accesses_follows.proofs.Turns.{head-met, unknown, unknown-writing, ask-turn, set-turn}
use Rattle.cc_rewrite_residues.specs.Residues.{Agree, SetsLocal, alone}
use Rattle.cc_rewrite_residues.specs.Standing.{Frame, Locals, Spot, standing, Rest, running}
use Rattle.cc_rewrite_residues.proofs.ResidueLemmas.{silent-agree, agree-trans}
use Rattle.cc_rewrite_simulation.specs.Comparison.{Comparison}
use Rattle.cc_rewrite_simulation.specs.Relation.{Shared, Level}
use Rattle.cc_rewrite_simulation.specs.RelationBack.{SharedBack, RelatedBack, LevelBack}
use Rattle.cc_rewrite_simulation.specs.Simulated.{IsTurnFollowed, IsTurnAnswered}
use Rattle.cc_steps.specs.CcCells.Cells.{with_scalar}
use Rattle.cc_steps.specs.CcControl.Control.{Level as Around}
use Rattle.cc_steps.specs.CcEval.Eval.{next_of}
use Rattle.cc_steps.specs.CcEval.declared.mark.Mark.{Mark}
use Rattle.cc_steps.specs.Runs.{Arrivals, run, EntersAtBoundaries}
use Rattle.cc_steps.specs.State.{Active, State}
use Rattle.cc_steps.specs.Step.{is_known}
use Rattle.cc_steps.specs.Turn.{turn}

-- turns without an arrival in front of others
run-more : (p : Program) (n : ℕ) (s : State) (others : Arrivals) → run p s (alone n ++ others) ≡ run p (run p s (alone n)) others
run-more p zero s others = refl
run-more p (suc n) s others = run-more p n (turn p s None) others

enters-more : (p : Program) (n : ℕ) (s : State) (others : Arrivals) → EntersAtBoundaries p (run p s (alone n)) others → EntersAtBoundaries p s (alone n ++ others)
enters-more p zero s others h = h
enters-more p (suc n) s others h = (λ e. absurd (cc), enters-more p n (turn p s None) others h)

answers-later : {Q P : Program} (c : Comparison Q P) (s u t : State) (n : ℕ) → run Q s (alone n) ≡ u → IsTurnAnswered c u t None → IsTurnAnswered c s t None
answers-later {Q = Q} {P = P} c s u t n e h = (
  alone n ++ h.0,
  enters-more Q n s h.0 (subst (λ (x : State). EntersAtBoundaries Q x h.0) (sym e) h.1),
  subst (λ (x : State). RelatedBack c x (turn P t None)) (sym (run-more Q n s h.0 ∙ ap (λ x. run Q x h.0) e)) h.2,
)

module _ {Q P : Program} (c : Comparison Q P) (frame : Frame) (f : Functions Q P frame) (qs ps : List (List Value)) (ql pl : Locals) (agree : Agree (c.base frame.func) ql pl) (these those : List Mark) (keep source : Expr)
    (back rest : List Stmt) (n m : ℕ) (qa pa : List Around) (Apart : List Active → Type 0)
  where
    abbrev q_at : List Mark → Spot
    q_at ms = in_list (Do keep ∷ back) n qa ms

    abbrev p_at : List Mark → Spot
    p_at ms = in_list (Do source ∷ rest) m pa ms

    abbrev q_end : Spot
    q_end = behind_one Q frame back n qa

    abbrev q_state : List Mark → Rest → Bool → State
    q_state ms r flag = running r flag qs (standing frame ql (q_at ms))

    abbrev p_state : List Mark → Rest → Bool → State
    p_state ms r flag = running r flag ps (standing frame pl (p_at ms))

    pub worked-out : (asked : List Asked) (h : WorkedOut c frame f ql pl these those asked keep source) → JoinedOut c frame f q_at p_at q_end these those asked →
        StepBehind c frame f Apart qs ps (with_scalar ql h.temporary 0 (Some h.value)) pl q_end (p_at those) asked → IsStep c frame f Apart qs ps ql pl (q_at these) (p_at those)
    worked-out [] h on behind rq rp flag =
        let sets = set-turn Q frame f.fq f.known_q keep back n qa [] h.temporary h.value these h.keeps rq flag qs ql tt in (
          (λ shared apart.
              follows-meeting c (q_state these rq flag) (p_state those rp flag) 0 rq rp flag qs ps frame (with_scalar ql h.temporary 0 (Some h.value)) pl q_end (p_at those) sets refl shared
              (agree-trans (c.base frame.func) (with_scalar ql h.temporary 0 (Some h.value)) ql pl (silent-agree (c.base frame.func) (SetsLocal h.temporary h.value) ql h.new) agree) (Level on)),
          (λ shared.
              answers-later c (q_state these rq flag) (running rq flag qs (standing frame (with_scalar ql h.temporary 0 (Some h.value)) q_end)) (p_state those rp flag) 1 sets ((behind rq rp flag).1 shared)),
        )
    worked-out (a ∷ asked) h on behind rq rp flag =
        let k = h.keeps in
        let j = h.asks in
        let q_asks = ask-turn Q frame f.fq f.known_q keep back n qa a these k.0 k.1 k.2
        (unknown (in_q c frame f) (next_of (in_q c frame f) keep) (IsWriting (in_q c frame f) keep (register_cell (in_q c frame f) h.temporary) h.value) (unknown-writing (in_q c frame f) keep (register_cell (in_q c frame f) h.temporary) h.value) (these ++ mark_of a ∷ []) asked k.3)
        rq flag qs ql (head-met a asked ql h.q_met) in
        let p_asks = ask-turn P frame f.fp f.known_p source rest m pa a those j.0 j.1 j.2
        (unknown (in_p c frame f) (next_of (in_p c frame f) source) (λ ms. is_known (next_of (in_p c frame f) source ms) ≡ false) (λ ms e. e) (those ++ mark_of a ∷ []) asked j.3) rp flag ps pl (head-met a asked pl h.p_met) in (
          (λ shared apart.
              follows-meeting c (q_state these rq flag) (p_state those rp flag) 1 rq rp flag qs ps frame ql pl (q_at (these ++ mark_of a ∷ [])) (p_at (those ++ mark_of a ∷ [])) q_asks p_asks shared agree (Level on)),
          (λ shared.
              answers-meeting c (q_state these rq flag) (p_state those rp flag) 1 rq rp flag qs ps frame ql pl (q_at (these ++ mark_of a ∷ [])) (p_at (those ++ mark_of a ∷ [])) q_asks p_asks shared agree (LevelBack on)),
        )
