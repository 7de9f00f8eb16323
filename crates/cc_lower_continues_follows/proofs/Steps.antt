-- At related positions a program whose `do`s have flags and its source make the same transition, and converge again; so it follows its source and answers it.
use Rattle.std.proofs.Common.{inl, arith, ◌≡◌, ◌≤◌, ◌<◌, ℕ, ℤ, ◌+◌, Bool, true, false, ◌&&◌, List, [], ◌∷◌, ◌++◌, length, Option, Some, None, slice_get, refl, ap, sym, ◌∙◌, subst, if◌then◌else◌}
use Rattle.cc_meaning_simulations.proofs.HiddenLocals as hidden_locals
use Rattle.std.specs.Prelude.{pos}
use Rattle.cc_states.specs.CcCells.Cells.{with_scalar}
use Rattle.cc_states.specs.CcControl.declared.phase.Phase.{Phase}
use Rattle.cc_states.specs.CcControl.declared.phase.Phase.TheVariants.{First, Test, Again}
use Rattle.cc_states.specs.CcControl.Control.{is_loop, is_left_by_break, behind_body}
use Rattle.cc_states.specs.CcEval.declared.action.Action.{Action}
use Rattle.cc_states.specs.CcEval.declared.mark.Mark.{Mark}
use Rattle.cc_states.specs.CcEval.Progress.{Progress, Known, Waits, Traps, no_value}
use Rattle.cc_program.specs.declared.expr.Expr.{Expr}
use Rattle.cc_program.specs.declared.func.Func.{Func}
use Rattle.cc_program.specs.declared.program.Program.{Program}
use Rattle.cc_program.specs.declared.stmt.Case.{Case}
use Rattle.cc_program.specs.declared.stmt.Stmt.{Stmt, out-Stmt, out-roll-Stmt}
use Rattle.cc_program.specs.declared.stmt.Stmt.TheOpen as is
use Rattle.cc_program.specs.declared.value.Value.{Value}
use Rattle.cc_program.specs.declared.value.Value.TheVariants.{Int}
use Rattle.std.specs.Prelude.{nat_le}
use Rattle.std.proofs.lemmas.Bool.{leb-true, ltb-true}
use Rattle.cc_states.specs.CcSteps.Rows.{rows_of}
use Rattle.cc_states.specs.CcSteps.Runs.{Follows, Answers, begins_at, is_empty}
use Rattle.cc_states.specs.CcSteps.State.{Active, Memory, State, locals_with}
use Rattle.cc_states.specs.CcSteps.Step.{worked, passed, is_return, is_known, is_past, is_passed, number_in, progress_in}
use Rattle.cc_states.specs.CcSteps.Turn.{start, turn}
use Rattle.cc_states.specs.CcValues.Values.{is_true}
use Rattle.cc_meaning_simulations.specs.Bodies.{all_extended, extended}
use Rattle.cc_meaning_simulations.specs.Continuations.{Continuation, Remainder, break_out, continue_on, enclosing, found_case, in_arm, in_cases, in_loop, next_continuation, remainder, resume}
use Rattle.cc_meaning_simulations.specs.LocalSimulations.{AreAlike, Awaits, Converges, Matched, QSteps, is_action_visible}
use Rattle.cc_meaning_simulations.specs.LocalSteps.{Jump, LocalState, Locals, after_write, begun_state, local_state, local_state_of}
use Rattle.cc_meaning_simulations.specs.NamedLocals.{names_below}
use Rattle.cc_meaning_simulations.specs.StepSimulations.{going}
use Rattle.cc_meaning_simulations.specs.Transitions.{ControlState, Jumps, Performs, Returns, Transition, control_state, is_at_boundary, jump_to, mark_added, marked_control, progress_there, settled_control_in, transition, transition_in}
use Rattle.cc_lower_statements.specs.Statements.{break_statement, endless_loop}
use Rattle.cc_lower_follows.proofs.Converging.{break_loop, break_past, continue_loop, continue_past, endless_loop-out, jump_begin-is, marked-is, resume_past, transition-is}
use Rattle.cc_lower_follows.proofs.Relation.{control_of, loop_remainder}
use Rattle.cc_lower_continues.specs.Continues.{flagged_body, flagged_do, flags_of, leave_unless, new_body, new_locals, test_but_first}
use Rattle.cc_lower_continues_follows.proofs.Converging.{LocalsConverge, at_phase, base, flagged_again, is_flag_there, is_here, jump_flagged_loop, names_kept, past_alike, progress_alike, resumes_alike, same_behind, same_left, same_loop, same_worked, there_q, transition_known}
use Rattle.cc_lower_continues_follows.proofs.Copies.{Copies, FoundCopies, MBlock, MBreak, MContinue, MDo, MDoWhile, MEmpty, MFor, MIf, MReturn, MSwitch, MWhile, Mirrors, copies, first, flag_in, found_copies, hidden, shown}
use Rattle.cc_lower_continues_follows.proofs.ExpressionNames.{are_below, both_left, both_right, expressions_below, optional_below, passed_below, worked_below}
use Rattle.cc_lower_continues_follows.proofs.FlagLocals.{is_there, scalars}
use Rattle.cc_lower_continues_follows.proofs.Relation.{AreAround, AreZero, AtFunctionEnd, AtStatement, AtTest, FlagsExist, InFlagged, Inside, IsHere, Match, Outside, has_elsewhere, holds_at, zeros_by, zeros_elsewhere}

module _ (P : Program) where
  abbrev Converge : LocalState → LocalState → Type 0
  Converge q p = LocalsConverge P q p

  abbrev R : Program
  R = all_extended new_locals new_body P

  abbrev Alike : LocalState → LocalState → Transition → Transition → Type 0
  Alike q p d e = AreAlike (hidden P) (Converges (hidden P) (all_extended new_locals new_body P) P (Match P)) (Awaits (hidden P) (all_extended new_locals new_body P) P (Match P)) q p d e

  abbrev known : Program → is.Stmt-F Stmt Case → ControlState → Value → Transition
  known p x a v = if is_return x then Returns v else Jumps (jump_to p a (next_continuation x a.here a.around v))

  alike_by : (y x : is.Stmt-F Stmt Case) (q p : LocalState) (r : Progress (Option Value)) → ((m : Mark) → Converge (local_state (marked_control R q.control m) q.locals) (local_state (marked_control P p.control m) p.locals)) →
      ((v : Value) → Alike q p (known R y q.control v) (known P x p.control v)) → Alike q p (transition_in R y q.control r) (transition_in P x p.control r)
  alike_by y x q p (Waits action) j k = (refl, j)
  alike_by y x q p (Traps ms) j k = tt
  alike_by y x q p (Known None ms) j k = tt
  alike_by y x q p (Known (Some v) ms) j k = k v

  module _ (n f : ℕ) (g : Func) (there : slice_get P.funcs f ≡ Some g) (ms : List Mark) (l m : Locals) (t s : Stmt) (r rest : List Stmt) (later now : Phase) (out around : List Remainder) (y x : is.Stmt-F Stmt Case) (e : out-Stmt t ≡ y) (h : out-Stmt s ≡ x) where
    abbrev q_here : ControlState
    q_here = control_of n f (remainder (t ∷ r) later) out ms

    abbrev p_here : ControlState
    p_here = control_of n f (remainder (s ∷ rest) now) around ms

    same_expression : (d : Option Expr) → optional_below (first g) d ≡ true → worked y later ≡ d → worked x now ≡ d → ((k : Mark) → Converge (local_state (settled_control_in R y (mark_added q_here k)) l) (local_state (settled_control_in P x (mark_added p_here k)) m)) →
        ((v : Value) → Alike (local_state q_here l) (local_state p_here m) (known R y q_here v) (known P x p_here v)) → Alike (local_state q_here l) (local_state p_here m) (transition R q_here) (transition P p_here)
    same_expression d nm i j k v =
        let dq : transition R q_here ≡ transition_in R y q_here (progress_there P p_here d) = transition-is R n f t r later out ms y e ∙ ap (transition_in R y q_here) (ap (progress_there R q_here) i ∙ progress_alike P n f g there q_here.here q_here.around q_here.marks d nm) in
        let dp : transition P p_here ≡ transition_in P x p_here (progress_there P p_here d) = transition-is P n f s rest now around ms x h ∙ ap (λ (z : Option Expr). transition_in P x p_here (progress_there P p_here z)) j in
        subst (λ (z : Transition). Alike (local_state q_here l) (local_state p_here m) z (transition P p_here)) (sym dq)
        (subst (λ (z : Transition). Alike (local_state q_here l) (local_state p_here m) (transition_in R y q_here (progress_there P p_here d)) z) (sym dp)
        (alike_by y x (local_state q_here l) (local_state p_here m) (progress_there P p_here d)
        (λ mk. subst (λ (z : ControlState). Converge (local_state z l) (local_state (marked_control P p_here mk) m)) (sym (marked-is R n f t r later out ms y e mk))
        (subst (λ (z : ControlState). Converge (local_state (settled_control_in R y (mark_added q_here mk)) l) (local_state z m)) (sym (marked-is P n f s rest now around ms x h mk)) (k mk)))
        v))

  module _ (n f : ℕ) (g : Func) (there : slice_get P.funcs f ≡ Some g) where
    abbrev low : ℕ
    low = first g

    abbrev top : ℕ
    top = first g + flags_of g.body

    abbrev o : ControlState
    o = base P n f g there

    abbrev A : List Remainder → List Remainder → Type 0
    A around around' = AreAround low top around around'

    abbrev Z : (l : Locals) (around around' : List Remainder) → A around around' → Type 0
    Z l around around' w = AreZero low top l around around' w

    -- ---- `break` and `continue`

    abbrev GoesAlike : (List Remainder → Continuation) → List Remainder → List Remainder → Locals → Locals → Type 0
    GoesAlike by around around' l m = Converge (local_state (jump_to R o (by around')) l) (local_state (jump_to P o (by around)) m)

    resumes : (k k' : List Stmt) → Copies low top k k' → (around around' : List Remainder) (l m : Locals) (w : A around around') → Z l around around' w → FlagsExist P f l → Converge (local_state (jump_to R o (resume k' around')) l) (local_state (jump_to P o (resume k around)) m)
    resumes = resumes_alike P n f g there

    block_out : (k : ℕ) (e : Expr) (a' rest' : List Stmt) (around' : List Remainder) → resume [] (remainder (flagged_do k e a' ∷ rest') First ∷ around') ≡ resume rest' around'
    block_out k e a' rest' around' = resume_past (flagged_do k e a') rest' First around' _ (out-roll-Stmt (is.Block _)) refl

    breaks_alike : (around around' : List Remainder) (l m : Locals) (w : A around around') → Z l around around' w → FlagsExist P f l → GoesAlike break_out around around' l m
    breaks_alike _ _ l m Outside z has = Matched _ _ (AtFunctionEnd n f [] l m refl refl)
    breaks_alike _ _ l m (Inside s t rest rest' phase x y around around' e h mir b c w) z has = by_kind (resumes rest rest' c around around' l m w z has) (breaks_alike around around' l m w z has) (is_left_by_break x) refl
      where
        by_kind : Converge (local_state (jump_to R o (resume rest' around')) l) (local_state (jump_to P o (resume rest around)) m) → GoesAlike break_out around around' l m → (b : Bool) → is_left_by_break x ≡ b → GoesAlike break_out (remainder (s ∷ rest) phase ∷ around) (remainder (t ∷ rest') phase ∷ around') l m
        by_kind j k true i =
            subst (λ (a : Continuation). Converge (local_state (jump_to R o a) l) (local_state (jump_to P o (break_out (remainder (s ∷ rest) phase ∷ around))) m)) (sym (break_loop t rest' phase around' y h (same_left low top x y mir ∙ i)))
            (subst (λ (a : Continuation). Converge (local_state (jump_to R o (resume rest' around')) l) (local_state (jump_to P o a) m)) (sym (break_loop s rest phase around x e i)) j)
        by_kind j k false i =
            subst (λ (a : Continuation). Converge (local_state (jump_to R o a) l) (local_state (jump_to P o (break_out (remainder (s ∷ rest) phase ∷ around))) m)) (sym (break_past t rest' phase around' y h (same_left low top x y mir ∙ i)))
            (subst (λ (a : Continuation). Converge (local_state (jump_to R o (break_out around')) l) (local_state (jump_to P o a) m)) (sym (break_past s rest phase around x e i)) k)
    breaks_alike _ _ l m (InFlagged s rest rest' u a e k a' around around' ne h from to c cs w) z has =
        subst (λ (b : Continuation). Converge (local_state (jump_to R o b) l) (local_state (jump_to P o (break_out (remainder (s ∷ rest) Test ∷ around))) m))
        (sym (break_loop (endless_loop (flagged_body k e a')) [] Test (remainder (flagged_do k e a' ∷ rest') First ∷ around') _ (endless_loop-out (flagged_body k e a') [] []) refl ∙ block_out k e a' rest' around'))
        (subst (λ (b : Continuation). Converge (local_state (jump_to R o (resume rest' around')) l) (local_state (jump_to P o b) m)) (sym (break_loop s rest Test around (is.DoWhile (u ∷ a) e) h refl)) (resumes rest rest' cs around around' l m w z.1 has))

    continues_alike : (around around' : List Remainder) (l m : Locals) (w : A around around') → Z l around around' w → FlagsExist P f l → GoesAlike continue_on around around' l m
    continues_alike _ _ l m Outside z has = Matched _ _ (AtFunctionEnd n f [] l m refl refl)
    continues_alike _ _ l m (Inside s t rest rest' phase x y around around' e h mir b c w) z has = by_kind (continues_alike around around' l m w z has) (is_loop x) refl
      where
        by_kind : GoesAlike continue_on around around' l m → (b : Bool) → is_loop x ≡ b → GoesAlike continue_on (remainder (s ∷ rest) phase ∷ around) (remainder (t ∷ rest') phase ∷ around') l m
        by_kind k true i =
            subst (λ (a : Continuation). Converge (local_state (jump_to R o a) l) (local_state (jump_to P o (continue_on (remainder (s ∷ rest) phase ∷ around))) m)) (sym (continue_loop t rest' phase around' y h (same_loop low top x y mir ∙ i)))
            (subst (λ (a : Continuation). Converge (local_state (jump_to R o (remainder (t ∷ rest') phase, around')) l) (local_state (jump_to P o a) m)) (sym (continue_loop s rest phase around x e i))
            (at_phase P n f g there s t rest rest' phase x y around around' l m w z has e h mir c))
        by_kind k false i =
            subst (λ (a : Continuation). Converge (local_state (jump_to R o a) l) (local_state (jump_to P o (continue_on (remainder (s ∷ rest) phase ∷ around))) m)) (sym (continue_past t rest' phase around' y h (same_loop low top x y mir ∙ i)))
            (subst (λ (a : Continuation). Converge (local_state (jump_to R o (continue_on around')) l) (local_state (jump_to P o a) m)) (sym (continue_past s rest phase around x e i)) k)
    continues_alike _ _ l m (InFlagged s rest rest' u a e k a' around around' ne h from to c cs w) z has =
        let block : List Remainder = remainder (flagged_do k e a' ∷ rest') First ∷ around' in
        subst (λ (q : ControlState). Converge (local_state q l) (local_state (jump_to P o (continue_on (remainder (s ∷ rest) Test ∷ around))) m))
        (sym (ap (jump_to R o) (continue_loop (endless_loop (flagged_body k e a')) [] Test block _ (endless_loop-out (flagged_body k e a') [] []) refl) ∙ jump_flagged_loop P n f g there (flagged_body k e a') [] block))
        (subst (λ (b : Continuation). Converge (local_state (control_of n f (loop_remainder (flagged_body k e a') []) block []) l) (local_state (jump_to P o b) m)) (sym (continue_loop s rest Test around (is.DoWhile (u ∷ a) e) h refl))
        (flagged_again P n f g there s rest rest' u a e k a' around around' l m w z.1 has ne h from to c cs z.0))

    -- ---- at the same statement

    module _ (s t : Stmt) (rest rest' : List Stmt) (around around' : List Remainder) (l m : Locals) (w : A around around') (z : Z l around around' w) (has : FlagsExist P f l) (cs : Copies low top rest rest') where
      abbrev here : IsHere P f around around' l
      here = is_here P n f g there around around' l w z has

      behind : Converge (local_state (jump_to R o (resume rest' around')) l) (local_state (jump_to P o (resume rest around)) m)
      behind = resumes rest rest' cs around around' l m w z has

      module _ (phase : Phase) (ms : List Mark) (x y : is.Stmt-F Stmt Case) (e : out-Stmt s ≡ x) (h : out-Stmt t ≡ y) (mir : Mirrors low top x y) where
        abbrev q_at : List Mark → ControlState
        q_at ms = control_of n f (remainder (t ∷ rest') phase) around' ms

        abbrev p_at : List Mark → ControlState
        p_at ms = control_of n f (remainder (s ∷ rest) phase) around ms

        mark_added_alike : (k : Mark) → Converge (local_state (mark_added (q_at ms) k) l) (local_state (mark_added (p_at ms) k) m)
        mark_added_alike k = Matched _ _ (AtStatement n f s t rest rest' phase x y around around' (ms ++ k ∷ []) l m here e h mir cs refl refl)

        at_test : Converge (local_state (control_of n f (remainder (t ∷ rest') Test) around' []) l) (local_state (control_of n f (remainder (s ∷ rest) Test) around []) m)
        at_test = Matched _ _ (AtStatement n f s t rest rest' Test x y around around' [] l m here e h mir cs refl refl)

        -- into a list inside
        resume_inside : (k k' : List Stmt) → Copies low top k k' → Converge (local_state (jump_to R o (resume k' (enclosing (remainder (t ∷ rest') phase) ∷ around'))) l) (local_state (jump_to P o (resume k (enclosing (remainder (s ∷ rest) phase) ∷ around))) m)
        resume_inside k k' c =
            subst (λ (b : Phase). Converge (local_state (jump_to R o (resume k' (remainder (t ∷ rest') b ∷ around'))) l) (local_state (jump_to P o (resume k (enclosing (remainder (s ∷ rest) phase) ∷ around))) m)) (sym (ap behind_body h ∙ same_behind low top x y mir))
            (subst (λ (b : Phase). Converge (local_state (jump_to R o (resume k' (remainder (t ∷ rest') (behind_body x) ∷ around'))) l) (local_state (jump_to P o (resume k (remainder (s ∷ rest) b ∷ around))) m)) (sym (ap behind_body e))
            (resumes k k' c (remainder (s ∷ rest) (behind_body x) ∷ around) (remainder (t ∷ rest') (behind_body x) ∷ around') l m (Inside s t rest rest' (behind_body x) x y around around' e h mir refl cs w) z has))

        loop_by : (b : Bool) (k k' : List Stmt) → Copies low top k k' → Converge (local_state (jump_to R o (in_loop b k' (remainder (t ∷ rest') phase) around')) l) (local_state (jump_to P o (in_loop b k (remainder (s ∷ rest) phase) around)) m)
        loop_by true k k' c = resume_inside k k' c
        loop_by false k k' c = behind

        arms_by : (b : Bool) (a c a' c' : List Stmt) → Copies low top a a' → Copies low top c c' →
            Converge (local_state (jump_to R o (in_arm b a' c' (enclosing (remainder (t ∷ rest') phase) ∷ around'))) l) (local_state (jump_to P o (in_arm b a c (enclosing (remainder (s ∷ rest) phase) ∷ around))) m)
        arms_by true a c a' c' i j = resume_inside a a' i
        arms_by false a c a' c' i j = resume_inside c c' j

        cases_by : (a a' : Option (ℕ × List Stmt)) → FoundCopies low top a a' → Converge (local_state (jump_to R o (in_cases a' (remainder (t ∷ rest') phase) around')) l) (local_state (jump_to P o (in_cases a (remainder (s ∷ rest) phase) around)) m)
        cases_by None None i = behind
        cases_by (Some a) (Some a') i = resume_inside a.1 a'.1 i
        cases_by None (Some a') i = absurd i
        cases_by (Some a) None i = absurd i

        same_alike_at : ((k : Mark) → Converge (local_state (settled_control_in R y (mark_added (q_at ms) k)) l) (local_state (settled_control_in P x (mark_added (p_at ms) k)) m)) →
            ((v : Value) → Alike (local_state (q_at ms) l) (local_state (p_at ms) m) (known R y (q_at ms) v) (known P x (p_at ms) v)) → Alike (local_state (q_at ms) l) (local_state (p_at ms) m) (transition R (q_at ms)) (transition P (p_at ms))
        same_alike_at = same_expression n f g there ms l m t s rest' rest phase phase around' around y x h e (worked x phase) (worked_below low x phase (names_kept low top x y mir)) (same_worked low top x y mir phase) refl

      do_alike : (phase : Phase) (ms : List Mark) (d : Expr) → expressions_below low (is.Do d) ≡ true → out-Stmt s ≡ is.Do d → out-Stmt t ≡ is.Do d →
          Alike (local_state (control_of n f (remainder (t ∷ rest') phase) around' ms) l) (local_state (control_of n f (remainder (s ∷ rest) phase) around ms) m) (transition R (control_of n f (remainder (t ∷ rest') phase) around' ms)) (transition P (control_of n f (remainder (s ∷ rest) phase) around ms))
      do_alike phase ms d nm e h =
          same_alike_at phase ms (is.Do d) (is.Do d) e h (MDo d nm)
          (λ k. subst (λ (r : Progress (Option Value)). Converge (local_state (if is_known r then jump_to R o (resume rest' around') else control_of n f (remainder (t ∷ rest') phase) around' (ms ++ k ∷ [])) l)
          (local_state (if is_known (progress_there P (control_of n f (remainder (s ∷ rest) phase) around (ms ++ k ∷ [])) (Some d)) then jump_to P o (resume rest around) else control_of n f (remainder (s ∷ rest) phase) around (ms ++ k ∷ [])) m))
          (sym (progress_alike P n f g there (remainder (t ∷ rest') phase) around' (ms ++ k ∷ []) (Some d) nm)) (either k (is_known (progress_there P (control_of n f (remainder (s ∷ rest) phase) around (ms ++ k ∷ [])) (Some d)))))
          (λ v. behind)
        where
          either : (k : Mark) (b : Bool) → Converge (local_state (if b then jump_to R o (resume rest' around') else control_of n f (remainder (t ∷ rest') phase) around' (ms ++ k ∷ [])) l) (local_state (if b then jump_to P o (resume rest around) else control_of n f (remainder (s ∷ rest) phase) around (ms ++ k ∷ [])) m)
          either k true = behind
          either k false = mark_added_alike phase ms (is.Do d) (is.Do d) e h (MDo d nm) k

      for_alike : (phase : Phase) (ms : List Mark) (start test again : Option Expr) (a a' : List Stmt) (c : Copies low top a a') → expressions_below low (is.For start test again a) ≡ true → out-Stmt s ≡ is.For start test again a → out-Stmt t ≡ is.For start test again a' →
          Alike (local_state (control_of n f (remainder (t ∷ rest') phase) around' ms) l) (local_state (control_of n f (remainder (s ∷ rest) phase) around ms) m) (transition R (control_of n f (remainder (t ∷ rest') phase) around' ms)) (transition P (control_of n f (remainder (s ∷ rest) phase) around ms))
      for_alike phase ms start test again a a' c nm e h =
          same_alike_at phase ms (is.For start test again a) (is.For start test again a') e h mir
          (λ k. let ks : List Mark = ms ++ k ∷ [] in
          subst (λ (b : Bool). Converge (local_state (if b then control_of n f (remainder (t ∷ rest') Test) around' [] else control_of n f (remainder (t ∷ rest') phase) around' ks) l) (local_state (settled_control_in P (is.For start test again a) (control_of n f (remainder (s ∷ rest) phase) around ks)) m))
          (sym (ap (λ (y : is.Stmt-F Stmt Case). is_past R n f ks (passed y phase)) h ∙ past_alike P n f g there ks (passed (is.For start test again a) phase) (passed_below low (is.For start test again a) phase nm)))
          (subst (λ (b : Bool). Converge (local_state (if is_past P n f ks (passed (is.For start test again a) phase) then control_of n f (remainder (t ∷ rest') Test) around' [] else control_of n f (remainder (t ∷ rest') phase) around' ks) l)
          (local_state (if b then control_of n f (remainder (s ∷ rest) Test) around [] else control_of n f (remainder (s ∷ rest) phase) around ks) m))
          (sym (ap (λ (y : is.Stmt-F Stmt Case). is_past P n f ks (passed y phase)) e)) (either k (is_past P n f ks (passed (is.For start test again a) phase)))))
          (λ v. loop_by phase ms (is.For start test again a) (is.For start test again a') e h mir (is_passed test v) a a' c)
        where
          mir : Mirrors low top (is.For start test again a) (is.For start test again a')
          mir = MFor start test again a a' c nm

          either : (k : Mark) (b : Bool) → Converge (local_state (if b then control_of n f (remainder (t ∷ rest') Test) around' [] else control_of n f (remainder (t ∷ rest') phase) around' (ms ++ k ∷ [])) l) (local_state (if b then control_of n f (remainder (s ∷ rest) Test) around [] else control_of n f (remainder (s ∷ rest) phase) around (ms ++ k ∷ [])) m)
          either k true = at_test phase ms (is.For start test again a) (is.For start test again a') e h (MFor start test again a a' c nm)
          either k false = mark_added_alike phase ms (is.For start test again a) (is.For start test again a') e h (MFor start test again a a' c nm) k

      same_alike : (phase : Phase) (ms : List Mark) (x y : is.Stmt-F Stmt Case) → Mirrors low top x y → out-Stmt s ≡ x → out-Stmt t ≡ y →
          Alike (local_state (control_of n f (remainder (t ∷ rest') phase) around' ms) l) (local_state (control_of n f (remainder (s ∷ rest) phase) around ms) m) (transition R (control_of n f (remainder (t ∷ rest') phase) around' ms)) (transition P (control_of n f (remainder (s ∷ rest) phase) around ms))
      same_alike phase ms _ _ (MDo d nm) e h = do_alike phase ms d nm e h
      same_alike phase ms _ _ (MIf d a b a' b' c c' nm) e h =
          same_alike_at phase ms (is.If d a b) (is.If d a' b') e h (MIf d a b a' b' c c' nm) (mark_added_alike phase ms (is.If d a b) (is.If d a' b') e h (MIf d a b a' b' c c' nm))
          (λ v. arms_by phase ms (is.If d a b) (is.If d a' b') e h (MIf d a b a' b' c c' nm) (is_true v) a b a' b' c c')
      same_alike phase ms _ _ (MWhile d a a' c nm) e h =
          same_alike_at phase ms (is.While d a) (is.While d a') e h (MWhile d a a' c nm) (mark_added_alike phase ms (is.While d a) (is.While d a') e h (MWhile d a a' c nm)) (λ v. loop_by phase ms (is.While d a) (is.While d a') e h (MWhile d a a' c nm) (is_true v) a a' c)
      same_alike phase ms _ _ (MDoWhile d a a' c nm) e h =
          same_alike_at phase ms (is.DoWhile a d) (is.DoWhile a' d) e h (MDoWhile d a a' c nm) (mark_added_alike phase ms (is.DoWhile a d) (is.DoWhile a' d) e h (MDoWhile d a a' c nm))
          (λ v. loop_by phase ms (is.DoWhile a d) (is.DoWhile a' d) e h (MDoWhile d a a' c nm) (is_true v) a a' c)
      same_alike phase ms _ _ (MFor start test again a a' c nm) e h = for_alike phase ms start test again a a' c nm e h
      same_alike phase ms _ _ (MSwitch d cs1 cs2 c nm) e h =
          same_alike_at phase ms (is.Switch d cs1) (is.Switch d cs2) e h (MSwitch d cs1 cs2 c nm) (mark_added_alike phase ms (is.Switch d cs1) (is.Switch d cs2) e h (MSwitch d cs1 cs2 c nm))
          (λ v. cases_by phase ms (is.Switch d cs1) (is.Switch d cs2) e h (MSwitch d cs1 cs2 c nm) (found_case (number_in v) cs1) (found_case (number_in v) cs2) (found_copies low top (number_in v) cs1 cs2 c))
      same_alike phase ms _ _ MBreak e h = same_alike_at phase ms is.Break is.Break e h MBreak (mark_added_alike phase ms is.Break is.Break e h MBreak) (λ v. breaks_alike around around' l m w z has)
      same_alike phase ms _ _ MContinue e h = same_alike_at phase ms is.Continue is.Continue e h MContinue (mark_added_alike phase ms is.Continue is.Continue e h MContinue) (λ v. continues_alike around around' l m w z has)
      same_alike phase ms _ _ (MReturn d nm) e h = same_alike_at phase ms (is.Return d) (is.Return d) e h (MReturn d nm) (mark_added_alike phase ms (is.Return d) (is.Return d) e h (MReturn d nm)) (λ v. refl)
      same_alike phase ms _ _ MEmpty e h = same_alike_at phase ms is.Empty is.Empty e h MEmpty (mark_added_alike phase ms is.Empty is.Empty e h MEmpty) (λ v. behind)
      same_alike phase ms _ _ (MBlock a a' c) e h = same_alike_at phase ms (is.Block a) (is.Block a') e h (MBlock a a' c) (mark_added_alike phase ms (is.Block a) (is.Block a') e h (MBlock a a' c)) (λ v. behind)

      -- ---- at the test of a `do` with a flag

      module _ (u : Stmt) (a : List Stmt) (d : Expr) (k : ℕ) (a' : List Stmt) (ne : names_below low d ≡ true) (e : out-Stmt s ≡ is.DoWhile (u ∷ a) d) (from : low ≤ k) (to : k < top) (c : Copies low top (u ∷ a) a') (zero : holds_at l k (Int (pos 0))) where
        abbrev turn' : List Stmt
        turn' = flagged_body k d a'

        abbrev block : List Remainder
        block = remainder (flagged_do k d a' ∷ rest') First ∷ around'

        abbrev levels : List Remainder
        levels = remainder turn' First ∷ loop_remainder turn' [] ∷ block

        abbrev tests : is.Stmt-F Stmt Case
        tests = is.If d [] (break_statement ∷ [])

        test-out : out-Stmt (leave_unless d) ≡ tests
        test-out = out-roll-Stmt tests

        abbrev q_test : List Mark → ControlState
        q_test ms = control_of n f (remainder (leave_unless d ∷ []) First) levels ms

        abbrev p_test : List Mark → ControlState
        p_test ms = control_of n f (remainder (s ∷ rest) Test) around ms

        again : Converge (local_state (jump_to R o (resume a' (loop_remainder turn' [] ∷ block))) l) (local_state (jump_to P o (resume (u ∷ a) (enclosing (remainder (s ∷ rest) Test) ∷ around))) m)
        again =
            subst (λ (b : Phase). Converge (local_state (jump_to R o (resume a' (loop_remainder turn' [] ∷ block))) l) (local_state (jump_to P o (resume (u ∷ a) (remainder (s ∷ rest) b ∷ around))) m)) (sym (ap behind_body e))
            (resumes (u ∷ a) a' c (remainder (s ∷ rest) Test ∷ around) (loop_remainder turn' [] ∷ block) l m (InFlagged s rest rest' u a d k a' around around' ne e from to c cs w) (zero, z) has)

        left : break_out (remainder (leave_unless d ∷ []) First ∷ levels) ≡ resume rest' around'
        left =
            break_past (leave_unless d) [] First levels tests test-out refl ∙ break_past (test_but_first k d) a' First (loop_remainder turn' [] ∷ block) _ (out-roll-Stmt (is.If _ _ _)) refl
            ∙ break_loop (endless_loop turn') [] Test block _ (endless_loop-out turn' [] []) refl ∙ block_out k d a' rest' around'

        over : Converge (local_state (jump_to R o (resume (break_statement ∷ []) (remainder (leave_unless d ∷ []) First ∷ levels))) l) (local_state (jump_to P o (resume rest around)) m)
        over =
            subst (λ (q : ControlState). Converge (local_state q l) (local_state (jump_to P o (resume rest around)) m)) (sym (jump_begin-is R n f break_statement [] (remainder (leave_unless d ∷ []) First ∷ levels) is.Break (out-roll-Stmt is.Break) refl refl))
            (QSteps _ _ _ (Jump _ _ l leaves) (subst (λ (b : Continuation). Converge (local_state (jump_to R o b) l) (local_state (jump_to P o (resume rest around)) m)) (sym left) behind))
          where
            leaves : transition R (control_of n f (remainder (break_statement ∷ []) First) (remainder (leave_unless d ∷ []) First ∷ levels) []) ≡ Jumps (jump_to R o (break_out (remainder (leave_unless d ∷ []) First ∷ levels)))
            leaves =
                transition-is R n f break_statement [] First (remainder (leave_unless d ∷ []) First ∷ levels) [] is.Break (out-roll-Stmt is.Break)
                ∙ transition_known P n f g there is.Break (control_of n f (remainder (break_statement ∷ []) First) (remainder (leave_unless d ∷ []) First ∷ levels) []) _ no_value [] refl
                (ap (λ (h : Option Func). progress_in R n f [] h None) (there_q P n f g there))

        decided : (b : Bool) → Converge (local_state (jump_to R o (in_arm b [] (break_statement ∷ []) (remainder (leave_unless d ∷ []) First ∷ levels))) l) (local_state (jump_to P o (in_loop b (u ∷ a) (remainder (s ∷ rest) Test) around)) m)
        decided true =
            subst (λ (b : Continuation). Converge (local_state (jump_to R o b) l) (local_state (jump_to P o (resume (u ∷ a) (enclosing (remainder (s ∷ rest) Test) ∷ around))) m))
            (sym (resume_past (leave_unless d) [] First levels tests test-out refl ∙ resume_past (test_but_first k d) a' First (loop_remainder turn' [] ∷ block) _ (out-roll-Stmt (is.If _ _ _)) refl)) again
        decided false = over

        test_alike : (ms : List Mark) → Alike (local_state (q_test ms) l) (local_state (p_test ms) m) (transition R (q_test ms)) (transition P (p_test ms))
        test_alike ms =
            same_expression n f g there ms l m (leave_unless d) s [] rest First Test levels around tests (is.DoWhile (u ∷ a) d) test-out e (Some d) ne refl refl
            (λ mk. Matched _ _ (AtTest n f s rest rest' u a d k a' around around' (ms ++ mk ∷ []) l m here ne e from to c cs zero refl refl))
            (λ v. subst (λ (b : Remainder). Converge (local_state (jump_to R o (in_arm (is_true v) [] (break_statement ∷ []) (b ∷ levels))) l) (local_state (jump_to P o (in_loop (is_true v) (u ∷ a) (remainder (s ∷ rest) Test) around)) m))
            (sym (ap (λ (y : is.Stmt-F Stmt Case). remainder (leave_unless d ∷ []) (behind_body y)) test-out)) (decided (is_true v)))

  -- ---- all related positions

  alike_at : (q p q' p' : LocalState) → q ≡ q' → p ≡ p' → Alike q' p' (transition R q'.control) (transition P p'.control) → Alike q p (transition R q.control) (transition P p.control)
  alike_at q p q' p' e h a = subst (λ (q : LocalState). Alike q p (transition R q.control) (transition P p.control)) (sym e) (subst (λ (p : LocalState). Alike q' p (transition R q'.control) (transition P p.control)) (sym h) a)

  pub alike : (q p : LocalState) → Match P q p → Alike q p (transition R q.control) (transition P p.control)
  alike q p (AtStatement n f s t rest rest' phase x y around around' ms l m h e i mir cs ep eq) =
      alike_at q p _ _ eq ep (same_alike n f h.body h.function s t rest rest' around around' l m h.levels h.zero_flags h.has cs phase ms x y mir e i)
  alike q p (AtFunctionEnd n f ms l m ep eq) = alike_at q p _ _ eq ep tt
  alike q p (AtTest n f s rest rest' u a e k a' around around' ms l m h ne i from to c cs zero ep eq) =
      alike_at q p _ _ eq ep (test_alike n f h.body h.function s s rest rest' around around' l m h.levels h.zero_flags h.has cs u a e k a' ne i from to c zero ms)

  -- ---- boundaries, and writes from elsewhere

  empty_copies : (least most : ℕ) (a a' : List Stmt) → Copies least most a a' → is_empty a' ≡ is_empty a
  empty_copies least most [] [] c = refl
  empty_copies least most (s ∷ a) (t ∷ a') c = refl
  empty_copies least most [] (t ∷ a') c = absurd c
  empty_copies least most (s ∷ a) [] c = absurd c

  same_begins : (least most : ℕ) (x y : is.Stmt-F Stmt Case) → Mirrors least most x y → (phase : Phase) → begins_at y phase ≡ begins_at x phase
  same_begins least most _ _ (MDo e nm) phase = refl
  same_begins least most _ _ (MIf e a b a' b' c d nm) phase = refl
  same_begins least most _ _ (MWhile e a a' c nm) phase = refl
  same_begins least most _ _ (MDoWhile e a a' c nm) phase = empty_copies least most a a' c
  same_begins least most _ _ (MFor start test step a a' c nm) First = refl
  same_begins least most _ _ (MFor start test step a a' c nm) Test = refl
  same_begins least most _ _ (MFor start test step a a' c nm) Again = refl
  same_begins least most _ _ (MSwitch e cs ds c nm) phase = refl
  same_begins least most _ _ MBreak phase = refl
  same_begins least most _ _ MContinue phase = refl
  same_begins least most _ _ (MReturn e nm) phase = refl
  same_begins least most _ _ MEmpty phase = refl
  same_begins least most _ _ (MBlock a a' c) phase = refl

  pub boundary : (q p : LocalState) → Match P q p → is_at_boundary p.control ≡ true → is_at_boundary q.control ≡ true
  boundary q p (AtStatement n f s t rest rest' phase x y around around' ms l m h e i mir cs ep eq) b =
      ap (λ (a : LocalState). is_at_boundary a.control) eq
      ∙ ap (λ (c : Bool). is_empty ms && c) (ap (λ (z : is.Stmt-F Stmt Case). begins_at z phase) i ∙ same_begins (first h.body) (first h.body + flags_of h.body.body) x y mir phase ∙ sym (ap (λ (z : is.Stmt-F Stmt Case). begins_at z phase) e))
      ∙ sym (ap (λ (a : LocalState). is_at_boundary a.control) ep) ∙ b
  boundary q p (AtFunctionEnd n f ms l m ep eq) b = ap (λ (a : LocalState). is_at_boundary a.control) eq ∙ sym (ap (λ (a : LocalState). is_at_boundary a.control) ep) ∙ b
  boundary q p (AtTest n f s rest rest' u a e k a' around around' ms l m h ne i from to c cs zero ep eq) b =
      ap (λ (a : LocalState). is_at_boundary a.control) eq
      ∙ ap (λ (c : Bool). c && begins_at (out-Stmt (leave_unless e)) First) (both_left (is_empty ms) _ (sym (ap (λ (a : LocalState). is_at_boundary a.control) ep) ∙ b)) ∙ ap (λ (z : is.Stmt-F Stmt Case). begins_at z First) (out-roll-Stmt (is.If e [] (break_statement ∷ [])))

  pub here_after_write : (f : ℕ) (around around' : List Remainder) (l : Locals) (h : IsHere P f around around' l) (local i : ℕ) (v : Value) → hidden P f local ≡ false → IsHere P f around around' (with_scalar l local i (Some v))
  here_after_write f around around' l h local i v k = record {
    body = h.body;
    function = h.function;
    levels = h.levels;
    zero_flags = zeros_by P f (first h.body) (first h.body + flags_of h.body.body) (is_flag_there P 0 f h.body h.function) l (with_scalar l local i (Some v))
        (zeros_elsewhere P f (first h.body) (first h.body + flags_of h.body.body) (is_flag_there P 0 f h.body h.function) l local i v k) around around' h.levels h.zero_flags;
    has = has_elsewhere P f l h.has local i v k;
  }

  pub match_after_write : (q p : LocalState) → Match P q p → q.control.func ≡ p.control.func → (local i : ℕ) (v : Value) → hidden P p.control.func local ≡ false → Match P (after_write q local i v) (after_write p local i v)
  unfolding here_after_write
  match_after_write q p (AtStatement n f s t rest rest' phase x y around around' ms l m h e j mir cs ep eq) same local i v k =
      AtStatement n f s t rest rest' phase x y around around' ms (with_scalar l local i (Some v)) (with_scalar m local i (Some v)) (here_after_write f around around' l h local i v (sym (ap (λ (a : LocalState). hidden P a.control.func local) ep) ∙ k)) e j mir cs
      (ap (λ (a : LocalState). after_write a local i v) ep) (ap (λ (a : LocalState). after_write a local i v) eq)
  match_after_write q p (AtFunctionEnd n f ms l m ep eq) same local i v k =
      AtFunctionEnd n f ms (with_scalar l local i (Some v)) (with_scalar m local i (Some v)) (ap (λ (a : LocalState). after_write a local i v) ep) (ap (λ (a : LocalState). after_write a local i v) eq)
  match_after_write q p (AtTest n f s rest rest' u a e r a' around around' ms l m h ne j from to c cs zero ep eq) same local i v k =
      let apart : hidden P f local ≡ false = sym (ap (λ (a : LocalState). hidden P a.control.func local) ep) ∙ k in
      AtTest n f s rest rest' u a e r a' around around' ms (with_scalar l local i (Some v)) (with_scalar m local i (Some v)) (here_after_write f around around' l h local i v apart) ne j from to c cs
      (zeros_elsewhere P f (first h.body) (first h.body + flags_of h.body.body) (is_flag_there P 0 f h.body h.function) l local i v apart r (is_flag_there P 0 f h.body h.function r from to) zero)
      (ap (λ (a : LocalState). after_write a local i v) ep) (ap (λ (a : LocalState). after_write a local i v) eq)

  -- ---- the laws

  module _ (Inv : State → Type 0)
      -- each expression names locals of its function
      (names_bounded : (id : ℕ) (f : Func) → slice_get P.funcs id ≡ Some f → are_below (length f.locals) f.body ≡ true)
      -- what is seen of the memory is spelled alike
      (spelled : (t : State) → Inv t → rows_of R t.memory.trace ≡ rows_of P t.memory.trace)
      (kept : (t : State) → Inv t → (arrival : Option ℕ) → Inv (turn P t arrival))
      (begun : (inputs : List ℤ) → Inv (start P inputs))
      -- no action of the source reads or writes a flag
      (visible : (m : Memory) (p : Active) (ps : List Active) (o : ℕ) → Inv (going m (p ∷ ps) o) → (q : LocalState) → Match P q (local_state_of p) → (x : Action) → transition P (control_state p) ≡ Performs x → is_action_visible (hidden P) (p ∷ ps) x ≡ true)
    where
      are_there : (id : ℕ) (f : Func) (args : List Value) → slice_get P.funcs id ≡ Some f → FlagsExist P id (locals_with R args (f.locals ++ new_locals f))
      are_there id f args e r h =
          let k : flag_in (Some f) r ≡ true = ap (λ (o : Option Func). flag_in o r) (sym e) ∙ h in
          is_there R args f.locals (flags_of f.body) r (leb-true (first f) r (both_left (nat_le (first f) r) _ k)) (ltb-true r (first f + flags_of f.body) (both_right (nat_le (first f) r) _ k))

      fresh : (number id : ℕ) (args : List Value) (f : Func) → slice_get P.funcs id ≡ Some f → Converge (begun_state R number id args (extended new_locals new_body f)) (begun_state P number id args f)
      fresh number id args f e =
          resumes_alike P number id f e f.body (new_body f) (copies (first f) (first f + flags_of f.body) f.body (first f) (record { from = omega arith; to = omega arith }) (names_bounded id f e)) [] []
          (locals_with R args (f.locals ++ new_locals f)) (locals_with P args f.locals) Outside tt (are_there id f args e)

      module _ (main : Func) (there : slice_get P.funcs P.main ≡ Some main) where
        pub follows : Follows R P
        follows = hidden_locals.follows new_locals new_body P scalars (hidden P) Inv (Match P) (λ id f e local h. inl (shown P id f e local h)) match_after_write fresh (λ m p ps o i q h. alike q (local_state_of p) h) boundary spelled kept begun visible main there

        pub answers : Answers R P
        answers = hidden_locals.answers new_locals new_body P scalars (hidden P) Inv (Match P) (λ id f e local h. inl (shown P id f e local h)) match_after_write fresh (λ m p ps o i q h. alike q (local_state_of p) h) boundary spelled kept begun visible main there
