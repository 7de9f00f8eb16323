-- Both ask for something of which nothing else sees anything.
use Rattle.std.proofs.Common.{◌≡◌, ℕ, Bool, false, List, [], ◌∷◌, ◌++◌, None}
use Rattle.cc_program.specs.declared.expr.Expr.{Expr}
use Rattle.cc_program.specs.declared.program.Program.{Program}
use Rattle.cc_program.specs.declared.stmt.Stmt.{Stmt, Do}
use Rattle.cc_program.specs.declared.value.Value.{Value}
use Rattle.cc_rewrite_accesses_follows.specs.Accesses.{Functions, IsAsking, in_list, in_q, in_p, IsStep, Anything}
use Rattle.cc_rewrite_accesses_follows.specs.Asked.{Asked, mark_of}
use Rattle.cc_rewrite_accesses_follows.proofs.Meetings.{follows-meeting, answers-meeting}
use Rattle.cc_rewrite_accesses_follows.proofs.Turns.{ask-turn}
use Rattle.cc_rewrite_residues.specs.Residues.{Agree}
use Rattle.cc_rewrite_residues.specs.Standing.{Frame, Locals, Spot, standing, Rest, running}
use Rattle.cc_rewrite_simulation.specs.Comparison.{Comparison}
use Rattle.cc_rewrite_simulation.specs.Relation.{Level}
use Rattle.cc_rewrite_simulation.specs.RelationBack.{LevelBack}
use Rattle.cc_steps.specs.CcControl.Control.{Level as Around}
use Rattle.cc_steps.specs.CcEval.declared.mark.Mark.{Mark}
use Rattle.cc_steps.specs.State.{State}
use Rattle.cc_steps.specs.Turn.{turn}

module _ {Q P : Program} (c : Comparison Q P) (frame : Frame) (f : Functions Q P frame) (qs ps : List (List Value)) (ql pl : Locals) (agree : Agree (c.base frame.func) ql pl) (these those : List Mark) (a b : Asked) (first source : Expr)
    (h : IsAsking (in_q c frame f) ql these a first) (k : IsAsking (in_p c frame f) pl those b source) (back rest : List Stmt) (n m : ℕ) (qa pa : List Around)
  where
    abbrev q_at : List Mark → Spot
    q_at ms = in_list (Do first ∷ back) n qa ms

    abbrev p_at : List Mark → Spot
    p_at ms = in_list (Do source ∷ rest) m pa ms

    q_turn : (r : Rest) (flag : Bool) → turn Q (running r flag qs (standing frame ql (q_at these))) None ≡ running r flag qs (standing frame ql (q_at (these ++ mark_of a ∷ [])))
    q_turn r flag = let j = h.asks in ask-turn Q frame f.fq f.known_q first back n qa a these j.0 j.1 j.2 j.3 r flag qs ql h.met

    p_turn : (r : Rest) (flag : Bool) → turn P (running r flag ps (standing frame pl (p_at those))) None ≡ running r flag ps (standing frame pl (p_at (those ++ mark_of b ∷ [])))
    p_turn r flag = let j = k.asks in ask-turn P frame f.fp f.known_p source rest m pa b those j.0 j.1 j.2 j.3 r flag ps pl k.met

    pub ask-together : c.Joined frame (q_at (these ++ mark_of a ∷ [])) (p_at (those ++ mark_of b ∷ [])) → IsStep c frame f (Anything c frame f) qs ps ql pl (q_at these) (p_at those)
    ask-together joined rq rp flag = (
      (λ shared _.
          follows-meeting c (running rq flag qs (standing frame ql (q_at these))) (running rp flag ps (standing frame pl (p_at those))) 1 rq rp flag qs ps frame ql pl (q_at (these ++ mark_of a ∷ [])) (p_at (those ++ mark_of b ∷ []))
          (q_turn rq flag) (p_turn rp flag) shared agree (Level joined)),
      (λ shared.
          answers-meeting c (running rq flag qs (standing frame ql (q_at these))) (running rp flag ps (standing frame pl (p_at those))) 1 rq rp flag qs ps frame ql pl (q_at (these ++ mark_of a ∷ [])) (p_at (those ++ mark_of b ∷ []))
          (q_turn rq flag) (p_turn rp flag) shared agree (LevelBack joined)),
    )
