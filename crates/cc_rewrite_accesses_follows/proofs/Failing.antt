-- P stands in front of a write of a bad value, and Q in front of what stands for it, which traps: a turn of P.
use Rattle.std.proofs.Common.{◌≡◌, ℕ, zero, suc, Bool, true, false, ◌&&◌, List, [], ◌∷◌, ◌++◌, refl, ap, sym, ◌∙◌, subst, None}
use Rattle.cc_program.specs.declared.expr.Expr.{Expr}
use Rattle.cc_program.specs.declared.program.Program.{Program}
use Rattle.cc_program.specs.declared.stmt.Stmt.{Stmt, Do}
use Rattle.cc_program.specs.declared.value.Value.{Value}
use Rattle.cc_rewrite_accesses_follows.specs.Accesses.{Functions, in_list, in_p, JoinedBefore}
use Rattle.cc_rewrite_accesses_follows.specs.Asked.{Asked, mark_of, needs_of, Covers, Fails, IsTrapping, Asks}
use Rattle.cc_rewrite_accesses_follows.proofs.Meetings.{answers-meeting, answers-trap}
use Rattle.cc_rewrite_accesses_follows.proofs.Turns.{head-met, not-empty, unknown, unknown-trapping, ask-turn, trap-turn}
use Rattle.cc_rewrite_residues.specs.Residues.{Agree, Need, AreMet, alone}
use Rattle.cc_rewrite_residues.specs.Standing.{Frame, Locals, Spot, standing, Rest, running}
use Rattle.cc_rewrite_simulation.specs.Comparison.{Comparison}
use Rattle.cc_rewrite_simulation.specs.RelationBack.{SharedBack, LevelBack, RelatedBack, FailingBack}
use Rattle.cc_rewrite_simulation.specs.Simulated.{IsTurnAnswered}
use Rattle.cc_steps.specs.CcControl.Control.{Level}
use Rattle.cc_steps.specs.CcControl.declared.phase.Phase.TheVariants.{First}
use Rattle.cc_steps.specs.CcEval.Eval.{next_of}
use Rattle.cc_steps.specs.CcEval.declared.mark.Mark.{Mark}
use Rattle.cc_steps.specs.Rows.{rows_of}
use Rattle.cc_steps.specs.Runs.{run, is_empty, begins, IsBoundary}
use Rattle.cc_steps.specs.State.{State}
use Rattle.cc_steps.specs.Step.{stopped}
use Rattle.cc_steps.specs.Turn.{turn}
use Rattle.cc_steps.specs.declared.event.End.TheVariants.{Trap}

not-both : (b d : Bool) → b ≡ false → ((b && d) && true) ≡ true → ⊥
not-both true d e h = absurd (cc)
not-both false d e h = absurd (cc)

module _ {Q P : Program} (c : Comparison Q P) (frame : Frame) (f : Functions Q P frame) (source : Expr) (those : List Mark) (rest : List Stmt) (m : ℕ) (pa : List Level) (ps : List (List Value)) (ql pl : Locals)
    (agree : Agree (c.base frame.func) ql pl) (qs : List (List Value)) (front : Spot) (rq rp : Rest) (flag : Bool) (shared : SharedBack c rq rp qs ps)
  where
    abbrev p_at : List Mark → Spot
    p_at ms = in_list (Do source ∷ rest) m pa ms

    abbrev s : State
    s = running rq flag qs (standing frame ql front)

    abbrev t : List Mark → State
    t ms = running rp flag ps (standing frame pl (p_at ms))

    inside : (a : Asked) (x : State) → x ≡ t (those ++ mark_of a ∷ []) → IsBoundary x → ⊥
    inside a x e k =
        not-both (is_empty (those ++ mark_of a ∷ [])) (begins (Do source ∷ rest) First) (not-empty those (mark_of a)) (subst (λ (y : State). IsBoundary y) e k)

    -- of Q all turns up to its trap are known
    module _ (n : ℕ) (trapped : State) (same : trapped.memory.trace ≡ rq.trace) (runs : run Q s (alone n) ≡ stopped trapped Trap) where
      rows : rows_of Q trapped.memory.trace ≡ rows_of P rp.trace
      rows = ap (rows_of Q) same ∙ shared.rows

      by-asked : (asked : List Asked) → AreMet (needs_of asked) pl → Fails (in_p c frame f) source those asked → JoinedBefore c frame f front p_at those asked → IsTurnAnswered c s (t those) None
      by-asked [] met h before = answers-trap c s (t those) trapped (t those) n rows runs (trap-turn P frame f.fp f.known_p source rest m pa [] those h rp flag ps pl tt)
      by-asked (a ∷ []) met h before =
          let first = ask-turn P frame f.fp f.known_p source rest m pa a those h.0 h.1 h.2 (unknown-trapping (in_p c frame f) source (those ++ mark_of a ∷ []) h.3) rp flag ps pl (head-met a [] pl met) in (
            [],
            tt,
            FailingBack (record {
              n = n;
              last = stopped trapped Trap;
              source_last = stopped (t (those ++ mark_of a ∷ [])) Trap;
              going_q = refl;
              going_p = ap (λ (x : State). x.end) first;
              rows = shared.rows ∙ sym (ap (λ (x : State). rows_of P x.memory.trace) first);
              leads = runs;
              source = ap (λ x. turn P x None) first ∙ trap-turn P frame f.fp f.known_p source rest m pa [] (those ++ mark_of a ∷ []) h.3 rp flag ps pl tt;
              inside = inside a (turn P (t those) None) first;
              ended = record { rows = rows; end = refl; over = refl };
            }),
          )
      by-asked (a ∷ b ∷ asked) met h before =
          answers-meeting c s (t those) 0 rq rp flag qs ps frame ql pl front (p_at (those ++ mark_of a ∷ [])) refl
          (ask-turn P frame f.fp f.known_p source rest m pa a those h.0 h.1 h.2
          (unknown (in_p c frame f) (next_of (in_p c frame f) source) (IsTrapping (in_p c frame f) source) (unknown-trapping (in_p c frame f) source) (those ++ mark_of a ∷ []) (b ∷ asked) h.3) rp flag ps pl (head-met a (b ∷ asked) pl met))
          shared agree (LevelBack before)

      pub answers-failing : (asked : List Asked) (needs : List Need) → AreMet needs pl → Covers needs asked → Fails (in_p c frame f) source those asked → JoinedBefore c frame f front p_at those asked → IsTurnAnswered c s (t those) None
      answers-failing asked needs met covers h before = by-asked asked (covers pl met) h before
