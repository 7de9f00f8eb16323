-- Passes that keep a statement go on alike behind it: where each way of going on converges, so does each kind of statement.
use Rattle.std.proofs.Common.{◌≡◌, ◌∙◌, ◌∷◌, ℕ, Bool, true, false, List, [], Option, Some, None, slice_get, refl, ap, sym, subst, if◌then◌else◌}
use Rattle.cc_steps.specs.CcControl.declared.phase.Phase.TheVariants.{First, Test}
use Rattle.cc_steps.specs.CcControl.Control.{opening, first_phase}
use Rattle.cc_steps.specs.CcEval.declared.mark.Mark.{Mark}
use Rattle.cc_steps.specs.CcEval.Progress.{Progress, Known, Waits, Traps}
use Rattle.cc_program.specs.declared.expr.Expr.{Expr}
use Rattle.cc_program.specs.declared.func.Func.{Func}
use Rattle.cc_program.specs.declared.program.Program.{Program}
use Rattle.cc_program.specs.declared.stmt.Case.{Case}
use Rattle.cc_program.specs.declared.stmt.Stmt.{Stmt, roll-Stmt, out-roll-Stmt}
use Rattle.cc_program.specs.declared.stmt.Stmt.TheOpen as is
use Rattle.cc_program.specs.declared.value.Value.{Value}
use Rattle.cc_steps.specs.Step.{worked, passed, is_known, is_past, is_passed, is_return, number_in, progress_in}
use Rattle.cc_steps.specs.CcValues.Values.{is_true}
use Rattle.cc_meaning_simulations.specs.Continuations.{Remainder, remainder, Continuation, resume, past, break_out, continue_on, enclosing, in_arm, in_loop, in_cases, found_case, next_continuation}
use Rattle.cc_meaning_simulations.specs.Locksteps.{ControlConverges, AreControlsAlike}
use Rattle.cc_meaning_simulations.specs.Transitions.{ControlState, at_continuation, test_remainder, Jumps, Returns, passes_at, jump_to, progress_there, settled_control_in, marked_control, transition_in, transition}
use Rattle.cc_meaning_simulations.proofs.ContinuationLemmas.{begin_stands}

-- ---- where a statement goes on

module _ (Goes : Continuation → Continuation → Type 0) (q : Remainder) (qs : List Remainder) (p : Remainder) (ps : List Remainder)
    (behind : Goes (past q qs) (past p ps))
    (inside : (l : List Stmt) → Goes (resume l (enclosing q ∷ qs)) (resume l (enclosing p ∷ ps)))
    (broken : Goes (break_out qs) (break_out ps))
    (continued : Goes (continue_on qs) (continue_on ps))
  where
    arms : (b : Bool) (these those : List Stmt) → Goes (in_arm b these those (enclosing q ∷ qs)) (in_arm b these those (enclosing p ∷ ps))
    arms true these those = inside these
    arms false these those = inside those

    loops : (b : Bool) (body : List Stmt) → Goes (in_loop b body q qs) (in_loop b body p ps)
    loops true body = inside body
    loops false body = behind

    cases : (x : Option (ℕ × List Stmt)) → Goes (in_cases x q qs) (in_cases x p ps)
    cases None = behind
    cases (Some x) = inside x.1

    pub next_alike : (x : is.Stmt-F Stmt Case) (v : Value) → Goes (next_continuation x q qs v) (next_continuation x p ps v)
    next_alike (is.Do e) v = behind
    next_alike (is.If e these those) v = arms (is_true v) these those
    next_alike (is.While e body) v = loops (is_true v) body
    next_alike (is.DoWhile body e) v = loops (is_true v) body
    next_alike (is.For first test again body) v = loops (is_passed test v) body
    next_alike (is.Switch e list) v = cases (found_case (number_in v) list)
    next_alike is.Break v = broken
    next_alike is.Continue v = continued
    next_alike (is.Return e) v = behind
    next_alike is.Empty v = behind
    next_alike (is.Block body) v = behind

-- ---- an empty statement

module _ (p : Program) (a : ControlState) (l : List Stmt) (around : List Remainder) where
  abbrev empty : Stmt
  empty = roll-Stmt is.Empty

  abbrev at_empty : ControlState
  at_empty = at_continuation a (remainder (empty ∷ l) First, around)

  -- is where an activation stands
  pub stands_at_empty : jump_to p a (resume (empty ∷ l) around) ≡ at_empty
  stands_at_empty =
      ap (jump_to p a) (begin_stands empty l around (ap opening (out-roll-Stmt is.Empty)) ∙ ap (λ (x : is.Stmt-F Stmt Case). (remainder (empty ∷ l) (first_phase x), around)) (out-roll-Stmt is.Empty))
      ∙ ap (λ (x : is.Stmt-F Stmt Case). at_continuation a (if is_past p a.number a.func [] (passed x First) then (remainder (empty ∷ l) Test, around) else (remainder (empty ∷ l) First, around))) (out-roll-Stmt is.Empty)

  -- and jumps behind it
  pub empty_jumps : (f : Func) → slice_get p.funcs a.func ≡ Some f → transition p at_empty ≡ Jumps (jump_to p a (resume l around))
  empty_jumps f there =
      ap (λ (x : is.Stmt-F Stmt Case). transition_in p x at_empty (progress_there p at_empty (worked x First))) (out-roll-Stmt is.Empty)
      ∙ ap (λ (g : Option Func). transition_in p is.Empty at_empty (progress_in p a.number a.func [] g None)) there

-- ---- lock steps

module _ (Q P : Program) (Match : ControlState → ControlState → Type 0) where
  abbrev Meets : ControlState → ControlState → Type 0
  Meets q p = ControlConverges Q P Match q p

  -- by a test that both make alike
  pub either_converges : (b c : Bool) (w x y z : ControlState) → b ≡ c → Meets w y → Meets x z → Meets (if b then w else x) (if c then y else z)
  either_converges b c w x y z e h k = subst (λ (d : Bool). Meets (if d then w else x) (if c then y else z)) (sym e) (by_case c)
    where
      by_case : (c : Bool) → Meets (if c then w else x) (if c then y else z)
      by_case true = h
      by_case false = k

  pub either_continues : (a : ControlState) (b c : Bool) (w x y z : Continuation) → b ≡ c → Meets (jump_to Q a w) (jump_to P a y) → Meets (jump_to Q a x) (jump_to P a z) → Meets (jump_to Q a (if b then w else x)) (jump_to P a (if c then y else z))
  either_continues a b c w x y z e h k = subst (λ (d : Bool). Meets (jump_to Q a (if d then w else x)) (jump_to P a (if c then y else z))) (sym e) (by_case c)
    where
      by_case : (c : Bool) → Meets (jump_to Q a (if c then w else x)) (jump_to P a (if c then y else z))
      by_case true = h
      by_case false = k

  module _ (q p : ControlState) where
    -- once a step is done
    pub settled_alike : ((e : Option Expr) → progress_there Q q e ≡ progress_there P p e) → passes_at Q q.number q.func q.marks q.here ≡ passes_at P p.number p.func p.marks p.here → Meets q p →
        Meets (jump_to Q q (past q.here q.around)) (jump_to P p (past p.here p.around)) → Meets (at_continuation q (test_remainder q.here, q.around)) (at_continuation p (test_remainder p.here, p.around)) →
        (x : is.Stmt-F Stmt Case) → Meets (settled_control_in Q x q) (settled_control_in P x p)
    settled_alike same passes here behind test (is.Do e) = either_converges _ _ _ _ _ _ (ap is_known (same (Some e))) behind here
    settled_alike same passes here behind test (is.For first condition again body) = either_converges _ _ _ _ _ _ passes test here
    settled_alike same passes here behind test _ = here

    known_alike : (b : Bool) (c d : ControlState) (v : Value) → Meets c d → AreControlsAlike Q P Match q p (if b then Returns v else Jumps c) (if b then Returns v else Jumps d)
    known_alike true c d v h = refl
    known_alike false c d v h = h

    -- the transition of a statement that both work, as far as that has come
    pub transition_alike : ((m : Mark) → Meets (marked_control Q q m) (marked_control P p m)) → (x : is.Stmt-F Stmt Case) →
        ((v : Value) → Meets (jump_to Q q (next_continuation x q.here q.around v)) (jump_to P p (next_continuation x p.here p.around v))) →
        (r : Progress (Option Value)) → AreControlsAlike Q P Match q p (transition_in Q x q r) (transition_in P x p r)
    transition_alike marks x next (Waits action) = (refl, marks)
    transition_alike marks x next (Traps ms) = tt
    transition_alike marks x next (Known None ms) = tt
    transition_alike marks x next (Known (Some v) ms) = known_alike (is_return x) _ _ v (next v)
