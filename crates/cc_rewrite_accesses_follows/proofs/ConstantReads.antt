-- Accesses of a scalar that never changes, and stands nowhere in Q. A read takes one turn of Q for two of P.
use Rattle.std.proofs.Common.{◌≡◌, ℕ, zero, Bool, List, [], ◌∷◌, ◌++◌, Some, None, refl, ap, ◌∙◌}
use Rattle.cc_program.specs.declared.expr.Expr.{Expr}
use Rattle.cc_program.specs.declared.program.Program.{Program}
use Rattle.cc_program.specs.declared.stmt.Stmt.{Stmt, Do}
use Rattle.cc_program.specs.declared.value.Value.{Value}
use Rattle.cc_rewrite_accesses_follows.specs.Accesses.{Functions, in_list, behind_one, in_q, in_p, IsStep, Anything, ReadOfConstant}
use Rattle.cc_rewrite_accesses_follows.proofs.Copying.{copy-reads, copy-sets}
use Rattle.cc_rewrite_accesses_follows.proofs.Meetings.{follows-meeting, answers-meeting}
use Rattle.cc_rewrite_accesses_follows.proofs.Turns.{not-empty, set-turn}
use Rattle.cc_rewrite_residues.specs.Residues.{Agree, SetsLocal, Turns}
use Rattle.cc_rewrite_residues.specs.Standing.{Frame, Locals, standing, Rest, running}
use Rattle.cc_rewrite_residues.proofs.ResidueLemmas.{agree-set}
use Rattle.cc_rewrite_simulation.specs.Comparison.{Comparison}
use Rattle.cc_rewrite_simulation.specs.Relation.{Level}
use Rattle.cc_rewrite_simulation.specs.RelationBack.{ReadingBack}
use Rattle.cc_steps.specs.CcControl.Control.{Level as Around}
use Rattle.cc_steps.specs.CcEval.declared.mark.Mark.{Mark}
use Rattle.cc_steps.specs.CcEval.declared.mark.Mark.TheVariants.{Gave}
use Rattle.cc_steps.specs.State.{State}
use Rattle.cc_steps.specs.Turn.{turn}
use Rattle.cc_steps.specs.CcCells.Cells.{with_scalar}

module _ {Q P : Program} (c : Comparison Q P) (frame : Frame) (f : Functions Q P frame) (ps : List (List Value)) (those : List Mark) (take source : Expr) (h : ReadOfConstant c frame f ps those take source)
    (back rest : List Stmt) (n m : ℕ) (qa pa : List Around) (joined : c.Joined frame (behind_one Q frame back n qa) (behind_one P frame rest m pa)) (qs : List (List Value)) (ql pl : Locals) (agree : Agree (c.base frame.func) ql pl)
  where
    sets : Turns Q frame [] (in_list (Do take ∷ back) n qa []) (SetsLocal h.register h.value) (behind_one Q frame back n qa)
    sets = set-turn Q frame f.fq f.known_q take back n qa [] h.register h.value [] h.takes

    source_sets : Turns P frame [] (in_list (Do source ∷ rest) m pa (those ++ Gave (Some h.value) ∷ [])) (SetsLocal h.register h.value) (behind_one P frame rest m pa)
    source_sets = copy-sets P frame f.fp f.known_p source rest m pa those [] _ h.register h.reads h.value

    abbrev q_front : Rest → Bool → State
    q_front r flag = running r flag qs (standing frame ql (in_list (Do take ∷ back) n qa []))

    abbrev p_front : Rest → Bool → State
    p_front r flag = running r flag ps (standing frame pl (in_list (Do source ∷ rest) m pa those))

    pub constant-read : IsStep c frame f (Anything c frame f) qs ps ql pl (in_list (Do take ∷ back) n qa []) (in_list (Do source ∷ rest) m pa those)
    constant-read rq rp flag =
        let first = copy-reads P frame f.fp f.known_p source rest m pa those h.object h.path h.position h.register h.reads h.located h.value rp flag ps pl h.there in (
          (λ shared _. follows-meeting c (q_front rq flag) (p_front rp flag) 2 rq rp flag qs ps frame (with_scalar ql h.register 0 (Some h.value)) (with_scalar pl h.register 0 (Some h.value)) (behind_one Q frame back n qa) (behind_one P frame rest m pa) (sets rq flag qs ql tt) (ap (λ s. turn P s None) first ∙ source_sets rp flag ps pl tt) shared
              (agree-set (c.base frame.func) h.register 0 (Some h.value) ql pl agree h.below) (Level joined)),
          (λ shared. answers-meeting c (q_front rq flag) (p_front rp flag) 0 rq rp flag qs ps frame ql pl (in_list (Do take ∷ back) n qa []) (in_list (Do source ∷ rest) m pa (those ++ Gave (Some h.value) ∷ [])) refl first shared agree
              (ReadingBack (not-empty those (Gave (Some h.value))) (record {
                n = 0;
                m = 0;
                q_needs = [];
                p_needs = [];
                register = h.register;
                value = h.value;
                tq = behind_one Q frame back n qa;
                tp = behind_one P frame rest m pa;
                q_met = tt;
                p_met = tt;
                q_own = tt;
                p_own = tt;
                below = h.below;
                q_left = sets;
                p_left = source_sets;
                joined = joined;
              }) tt)),
        )
