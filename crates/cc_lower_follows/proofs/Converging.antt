-- The lowered program and its source converge wherever the source goes on with a list of its function: by recursion on the lists around,
-- on the list, and on the statement that begins there.
use Rattle.std.proofs.Common.{◌≡◌, ℕ, Bool, true, false, ◌&&◌, List, [], ◌∷◌, ◌++◌, Option, Some, None, slice_get, refl, ap, sym, ◌∙◌, subst, if◌then◌else◌}
use Rattle.std.specs.Prelude.{pos}
use Rattle.cc_program.specs.declared.expr.Expr.{Expr}
use Rattle.cc_program.specs.declared.func.Func.{Func}
use Rattle.cc_program.specs.declared.program.Program.{Program}
use Rattle.cc_program.specs.declared.stmt.Case.{Case}
use Rattle.cc_program.specs.declared.stmt.Stmt.{Stmt, out-Stmt, roll-Stmt, out-roll-Stmt}
use Rattle.cc_program.specs.declared.stmt.Stmt.TheOpen as is
use Rattle.cc_program.specs.declared.value.Value.{Value}
use Rattle.cc_program.specs.declared.value.Value.TheVariants.{Int}
use Rattle.cc_program.proofs.Each.{Each}
use Rattle.cc_program.proofs.StmtInduction.{StmtParts, by_stmts}
use Rattle.cc_steps.specs.CcControl.declared.phase.Phase.{Phase}
use Rattle.cc_steps.specs.CcControl.declared.phase.Phase.TheVariants.{First, Test, Again}
use Rattle.cc_steps.specs.CcControl.Control.{is_loop, is_left_by_break, behind_body, opening, first_phase, coming}
use Rattle.cc_steps.specs.CcEval.declared.mark.Mark.{Mark}
use Rattle.cc_steps.specs.CcEval.Progress.{Progress, Known, Waits, Traps, no_value}
use Rattle.cc_steps.specs.Runs.{begins_at}
use Rattle.cc_steps.specs.Step.{worked, passed, is_return, is_known, is_past, progress_in}
use Rattle.cc_meaning_simulations.specs.Continuations.{Continuation, Remainder, begin_with, break_out, continue_on, enclosing, next_continuation, past, remainder, resume}
use Rattle.cc_meaning_simulations.specs.Locksteps.{ControlConverges, Matches, PJumps, QJumps}
use Rattle.cc_meaning_simulations.specs.Transitions.{ControlState, Jumps, Returns, at_continuation, control_at, is_at_boundary, jump_to, mark_added, marked_control, progress_there, settled_control_in, transition, transition_in}
use Rattle.cc_meaning_simulations.proofs.ContinuationLemmas.{begin_enters, begin_stands}
use Rattle.cc_meaning_simulations.proofs.OtherBodies.{progress_same}
use Rattle.cc_lower_statements.specs.Statements.{break_statement, constant_one, endless_loop, expression_statement, guarded, lower_body, lower_cases, lower_list, lower_program, needed_test, optional_statement}
use Rattle.cc_lower_statements.proofs.Layers.{lower_layer}
use Rattle.cc_lower_follows.specs.Fit.{are_fit, is_fit}
use Rattle.cc_lower_follows.proofs.Addresses.{addressed_same}
use Rattle.cc_lower_follows.proofs.Constants.{next-one}
use Rattle.cc_lower_follows.proofs.Relation.{AreWellFormed, AtEnd, AtFirst, AtFunctionEnd, AtLoop, AtStatement, AtStep, AtTest, ByContinue, IsAt, Match, ReturnsToLoop, after-is, after_in, after_of, control_of, guarded_body, in_tested_do, in_tested_do-is, inside_test, is_continue, is_fit-out, is_kept, is_layer_fit, loop_body, loop_remainder, lowered_around, lowered_around-is, lowered_around_in, lowered_list, lowered_list-is, step-is, step_in, step_of, test_of, test_statement, tested_do_in}

-- ---- steps, by what the first statement is

module _ (p : Program) (n f : ℕ) (s : Stmt) (rest : List Stmt) (phase : Phase) (around : List Remainder) (ms : List Mark) (x : is.Stmt-F Stmt Case) (e : out-Stmt s ≡ x) where
  abbrev here : ControlState
  here = control_of n f (remainder (s ∷ rest) phase) around ms

  pub transition-is : transition p here ≡ transition_in p x here (progress_there p here (worked x phase))
  transition-is = ap (λ (y : is.Stmt-F Stmt Case). transition_in p y here (progress_there p here (worked y phase))) e

  pub marked-is : (m : Mark) → marked_control p here m ≡ settled_control_in p x (mark_added here m)
  marked-is m = ap (λ (y : is.Stmt-F Stmt Case). settled_control_in p y (mark_added here m)) e

-- where nothing is passed, an activation stays
pub jump-is : (p : Program) (n f : ℕ) (s : Stmt) (rest : List Stmt) (phase : Phase) (around : List Remainder) (x : is.Stmt-F Stmt Case) → out-Stmt s ≡ x → passed x phase ≡ None →
    jump_to p (control_at n f) (remainder (s ∷ rest) phase, around) ≡ control_of n f (remainder (s ∷ rest) phase) around []
jump-is p n f s rest phase around x e h =
    ap (λ (y : Option (Option Expr)). at_continuation (control_at n f) (if is_past p n f [] y then (remainder (s ∷ rest) Test, around) else (remainder (s ∷ rest) phase, around))) (ap (λ (y : is.Stmt-F Stmt Case). passed y phase) e ∙ h)

pub begin-is : (s : Stmt) (rest : List Stmt) (around : List Remainder) (x : is.Stmt-F Stmt Case) → out-Stmt s ≡ x → opening x ≡ [] → begin_with s rest around ≡ (remainder (s ∷ rest) (first_phase x), around)
begin-is s rest around x e o = begin_stands s rest around (ap opening e ∙ o) ∙ ap (λ (y : is.Stmt-F Stmt Case). (remainder (s ∷ rest) (first_phase y), around)) e

pub jump_begin-is : (p : Program) (n f : ℕ) (s : Stmt) (rest : List Stmt) (around : List Remainder) (x : is.Stmt-F Stmt Case) → out-Stmt s ≡ x → opening x ≡ [] → passed x (first_phase x) ≡ None →
    jump_to p (control_at n f) (begin_with s rest around) ≡ control_of n f (remainder (s ∷ rest) (first_phase x)) around []
jump_begin-is p n f s rest around x e o h = ap (jump_to p (control_at n f)) (begin-is s rest around x e o) ∙ jump-is p n f s rest (first_phase x) around x e h

-- out of a list that is done, which is the body of no loop, or of one
pub resume_past : (s : Stmt) (rest : List Stmt) (phase : Phase) (around : List Remainder) (x : is.Stmt-F Stmt Case) → out-Stmt s ≡ x → is_loop x ≡ false → resume [] (remainder (s ∷ rest) phase ∷ around) ≡ resume rest around
resume_past s rest phase around x e h = ap (λ (b : Bool). if b then (remainder (s ∷ rest) phase, around) else resume rest around) (ap is_loop e ∙ h)

pub resume_loop : (s : Stmt) (rest : List Stmt) (phase : Phase) (around : List Remainder) (x : is.Stmt-F Stmt Case) → out-Stmt s ≡ x → is_loop x ≡ true → resume [] (remainder (s ∷ rest) phase ∷ around) ≡ (remainder (s ∷ rest) phase, around)
resume_loop s rest phase around x e h = ap (λ (b : Bool). if b then (remainder (s ∷ rest) phase, around) else resume rest around) (ap is_loop e ∙ h)

pub continue_past : (s : Stmt) (rest : List Stmt) (phase : Phase) (around : List Remainder) (x : is.Stmt-F Stmt Case) → out-Stmt s ≡ x → is_loop x ≡ false → continue_on (remainder (s ∷ rest) phase ∷ around) ≡ continue_on around
continue_past s rest phase around x e h = ap (λ (b : Bool). if b then (remainder (s ∷ rest) phase, around) else continue_on around) (ap is_loop e ∙ h)

pub continue_loop : (s : Stmt) (rest : List Stmt) (phase : Phase) (around : List Remainder) (x : is.Stmt-F Stmt Case) → out-Stmt s ≡ x → is_loop x ≡ true → continue_on (remainder (s ∷ rest) phase ∷ around) ≡ (remainder (s ∷ rest) phase, around)
continue_loop s rest phase around x e h = ap (λ (b : Bool). if b then (remainder (s ∷ rest) phase, around) else continue_on around) (ap is_loop e ∙ h)

pub break_past : (s : Stmt) (rest : List Stmt) (phase : Phase) (around : List Remainder) (x : is.Stmt-F Stmt Case) → out-Stmt s ≡ x → is_left_by_break x ≡ false → break_out (remainder (s ∷ rest) phase ∷ around) ≡ break_out around
break_past s rest phase around x e h = ap (λ (b : Bool). if b then resume rest around else break_out around) (ap is_left_by_break e ∙ h)

pub break_loop : (s : Stmt) (rest : List Stmt) (phase : Phase) (around : List Remainder) (x : is.Stmt-F Stmt Case) → out-Stmt s ≡ x → is_left_by_break x ≡ true → break_out (remainder (s ∷ rest) phase ∷ around) ≡ resume rest around
break_loop s rest phase around x e h = ap (λ (b : Bool). if b then resume rest around else break_out around) (ap is_left_by_break e ∙ h)

-- ---- the endless loops of the lowered program

module _ (inside r : List Stmt) (out : List Remainder) where
  pub endless_loop-out : out-Stmt (endless_loop inside) ≡ is.While constant_one inside
  endless_loop-out = out-roll-Stmt (is.While constant_one inside)

  pub resume_endless : resume [] (loop_remainder inside r ∷ out) ≡ (loop_remainder inside r, out)
  resume_endless = resume_loop (endless_loop inside) r Test out _ endless_loop-out refl

  pub enclosing_endless : enclosing (loop_remainder inside r) ≡ loop_remainder inside r
  enclosing_endless = ap (λ (y : is.Stmt-F Stmt Case). remainder (endless_loop inside ∷ r) (behind_body y)) endless_loop-out

  -- out of a test, to the loop
  pub resume_test : (e : Option Expr) (a : List Stmt) → resume [] (inside_test e a (loop_remainder inside r ∷ out)) ≡ (loop_remainder inside r, out)
  resume_test None a = resume_endless
  resume_test (Some e) a = resume_past (test_statement e a) [] First (loop_remainder inside r ∷ out) _ (out-roll-Stmt (is.If e a (break_statement ∷ []))) refl ∙ resume_endless

  pub continue_test : (e : Option Expr) (a : List Stmt) → continue_on (inside_test e a (loop_remainder inside r ∷ out)) ≡ (loop_remainder inside r, out)
  continue_test None a = continue_loop (endless_loop inside) r Test out _ endless_loop-out refl
  continue_test (Some e) a =
      continue_past (test_statement e a) [] First (loop_remainder inside r ∷ out) _ (out-roll-Stmt (is.If e a (break_statement ∷ []))) refl ∙ continue_loop (endless_loop inside) r Test out _ endless_loop-out refl

  pub break_test : (e : Option Expr) (a : List Stmt) → break_out (inside_test e a (loop_remainder inside r ∷ out)) ≡ resume r out
  break_test None a = break_loop (endless_loop inside) r Test out _ endless_loop-out refl
  break_test (Some e) a =
      break_past (test_statement e a) [] First (loop_remainder inside r ∷ out) _ (out-roll-Stmt (is.If e a (break_statement ∷ []))) refl ∙ break_loop (endless_loop inside) r Test out _ endless_loop-out refl

module _ (P : Program) where
  abbrev Q : Program
  Q = lower_program P

  abbrev pub ControlsConverge : ControlState → ControlState → Type 0
  ControlsConverge q p = ControlConverges (lower_program P) P (Match P) q p

  pub progress_alike : (a : ControlState) (e : Option Expr) → progress_there Q a e ≡ progress_there P a e
  progress_alike a e = progress_same lower_body P addressed_same a.number a.func a.marks e

  -- a function of the program, and an activation of it
  module _ (n f : ℕ) (g : Func) (there : slice_get P.funcs f ≡ Some g) where
    -- they converge, and the lowered program is at a boundary
    abbrev pub ConvergesAt : List Stmt → List Remainder → Continuation → Type 0
    ConvergesAt l out at = ControlsConverge (jump_to Q (control_at n f) (resume l out)) (jump_to P (control_at n f) at) × (is_at_boundary (jump_to Q (control_at n f) (resume l out)) ≡ true)

    pub same_converges : (l k : List Stmt) (out out' : List Remainder) (at at' : Continuation) → l ≡ k → out ≡ out' → at ≡ at' → ConvergesAt l out at → ConvergesAt k out' at'
    same_converges l k out out' at at' e h i j =
        subst (λ (l : List Stmt). ConvergesAt l out' at') e (subst (λ (out : List Remainder). ConvergesAt l out at') h (subst (λ (at : Continuation). ConvergesAt l out at) i j))

    -- where the source goes on with a list
    abbrev pub ResumesAlike : List Stmt → List Remainder → Type 0
    ResumesAlike l around = ConvergesAt (lowered_list l around) (lowered_around around) (resume l around)

    -- from where it stands
    pub converges_from : (l : List Stmt) (out : List Remainder) (at : Continuation) (q p : ControlState) → jump_to Q (control_at n f) (resume l out) ≡ q → jump_to P (control_at n f) at ≡ p → is_at_boundary q ≡ true → ControlsConverge q p → ConvergesAt l out at
    converges_from l out at q p e h b j =
        (subst (λ (q : ControlState). ControlsConverge q (jump_to P (control_at n f) at)) (sym e) (subst (λ (p : ControlState). ControlsConverge q p) (sym h) j), ap is_at_boundary e ∙ b)

    -- ---- jumps of the lowered program

    one-known : (here : Remainder) (out : List Remainder) → progress_there Q (control_of n f here out []) (Some constant_one) ≡ Known (Some (Int (pos 1))) []
    one-known here out =
        progress_alike (control_of n f here out []) (Some constant_one)
        ∙ ap (λ (h : Option Func). progress_in P n f [] h (Some constant_one)) there ∙ next-one (record { program = P; number = n; id = f; func = g }) []

    -- into an endless loop
    pub into_body : (inside r : List Stmt) (out : List Remainder) → transition Q (control_of n f (loop_remainder inside r) out []) ≡ Jumps (jump_to Q (control_at n f) (resume inside (loop_remainder inside r ∷ out)))
    into_body inside r out =
        transition-is Q n f (endless_loop inside) r Test out [] (is.While constant_one inside) (endless_loop-out inside r out)
        ∙ ap (transition_in Q (is.While constant_one inside) (control_of n f (loop_remainder inside r) out [])) (one-known (loop_remainder inside r) out)
        ∙ ap (λ (b : Remainder). Jumps (jump_to Q (control_at n f) (resume inside (b ∷ out)))) (enclosing_endless inside r out)

    pub jumps_in : (inside r : List Stmt) (out : List Remainder) (p : ControlState) → ControlsConverge (jump_to Q (control_at n f) (resume inside (loop_remainder inside r ∷ out))) p → ControlsConverge (control_of n f (loop_remainder inside r) out []) p
    jumps_in inside r out p j = QJumps (control_of n f (loop_remainder inside r) out []) p _ (into_body inside r out) j

    -- at an endless loop
    pub jump_endless : (inside r : List Stmt) (out : List Remainder) → jump_to Q (control_at n f) (loop_remainder inside r, out) ≡ control_of n f (loop_remainder inside r) out []
    jump_endless inside r out = jump-is Q n f (endless_loop inside) r Test out (is.While constant_one inside) (endless_loop-out inside r out) refl

    pub jump_begin_endless : (inside r : List Stmt) (out : List Remainder) → jump_to Q (control_at n f) (resume (endless_loop inside ∷ r) out) ≡ control_of n f (loop_remainder inside r) out []
    jump_begin_endless inside r out = jump_begin-is Q n f (endless_loop inside) r out (is.While constant_one inside) (endless_loop-out inside r out) refl refl

    -- ---- a value that is known

    pub transition_known : (p : Program) (x : is.Stmt-F Stmt Case) (here : ControlState) (r : Progress (Option Value)) (v : Value) (ms : List Mark) → is_return x ≡ false → r ≡ Known (Some v) ms →
        transition_in p x here r ≡ Jumps (jump_to p here (next_continuation x here.here here.around v))
    transition_known p x here r v ms h e =
        ap (transition_in p x here) e ∙ ap (λ (b : Bool). if b then Returns v else Jumps (jump_to p here (next_continuation x here.here here.around v))) h

    pub known_at : (r : Progress (Option Value)) → is_known r ≡ true → (v : Value) × (ms : List Mark) × (r ≡ Known (Some v) ms)
    known_at (Known (Some v) ms) h = (v, ms, refl)
    known_at (Known None ms) h = absurd (cc)
    known_at (Waits action) h = absurd (cc)
    known_at (Traps ms) h = absurd (cc)

    pub nothing-known : (ms : List Mark) → progress_there P (control_of n f (remainder [] First) [] ms) None ≡ Known (Some no_value) ms
    nothing-known ms = ap (λ (h : Option Func). progress_in P n f ms h None) there

    -- a statement without an expression
    pub jumps_by : (x : is.Stmt-F Stmt Case) (r : List Stmt) (out : List Remainder) → worked x First ≡ None → is_return x ≡ false →
        transition Q (control_of n f (remainder (roll-Stmt x ∷ r) First) out []) ≡ Jumps (jump_to Q (control_at n f) (next_continuation x (remainder (roll-Stmt x ∷ r) First) out no_value))
    jumps_by x r out w i =
        transition-is Q n f (roll-Stmt x) r First out [] x (out-roll-Stmt x)
        ∙ transition_known Q x (control_of n f (remainder (roll-Stmt x ∷ r) First) out []) _ no_value [] i
        (ap (progress_there Q (control_of n f (remainder (roll-Stmt x ∷ r) First) out [])) w ∙ progress_alike (control_of n f (remainder (roll-Stmt x ∷ r) First) out []) None ∙ nothing-known [])

    -- an expression statement whose value is known before any step
    pub passes_expression : (e : Expr) (r : List Stmt) (out : List Remainder) → is_known (progress_there P (control_at n f) (Some e)) ≡ true → transition Q (control_of n f (remainder (expression_statement e ∷ r) First) out []) ≡ Jumps (jump_to Q (control_at n f) (resume r out))
    passes_expression e r out h =
        let k = known_at (progress_there P (control_at n f) (Some e)) h in
        transition-is Q n f (expression_statement e) r First out [] (is.Do e) (out-roll-Stmt (is.Do e))
        ∙ transition_known Q (is.Do e) (control_of n f (remainder (expression_statement e ∷ r) First) out []) _ k.0 k.1 refl (progress_alike (control_of n f (remainder (expression_statement e ∷ r) First) out []) (Some e) ∙ k.2)

    -- ---- at a loop

    module _ (s : Stmt) (rest : List Stmt) (around : List Remainder) where
      abbrev r : List Stmt
      r = lowered_list rest around

      abbrev out : List Remainder
      out = lowered_around around

      abbrev tests : ControlState
      tests = control_of n f (remainder (s ∷ rest) Test) around []

      test_statement-out : (e : Expr) (inside : List Stmt) → out-Stmt (test_statement e inside) ≡ is.If e inside (break_statement ∷ [])
      test_statement-out e inside = out-roll-Stmt (is.If e inside (break_statement ∷ []))

      -- the lowered program stands in the loop, at the choice that is its test
      at_choice : (x : is.Stmt-F Stmt Case) (e : Expr) → IsAt P f s rest around x → is_loop x ≡ true → needed_test (test_of x) ≡ Some e →
          ControlsConverge (jump_to Q (control_at n f) (resume (test_statement e (guarded_body x) ∷ []) (loop_remainder (loop_body x) r ∷ out))) tests
      at_choice x e p l k =
          subst (λ (q : ControlState). ControlsConverge q tests)
          (sym (jump_begin-is Q n f (test_statement e (guarded_body x)) [] (loop_remainder (loop_body x) r ∷ out) (is.If e (guarded_body x) (break_statement ∷ [])) (test_statement-out e (guarded_body x)) refl refl))
          (Matches _ _ (AtTest n f s rest around x [] e p l k refl refl))

      at_loop : (x : is.Stmt-F Stmt Case) → IsAt P f s rest around x → is_loop x ≡ true → needed_test (test_of x) ≡ None → ControlsConverge (control_of n f (loop_remainder (loop_body x) r) out []) tests
      at_loop x p l k = Matches _ _ (AtLoop n f s rest around x p l k refl refl)

      -- at the loop itself, where its test is all that stands in front of its body
      pub loop_converges : (x : is.Stmt-F Stmt Case) (k : Option Expr) → IsAt P f s rest around x → is_loop x ≡ true → needed_test (test_of x) ≡ k → loop_body x ≡ guarded k (guarded_body x) →
          ControlsConverge (control_of n f (loop_remainder (loop_body x) r) out []) tests
      loop_converges x None p l k i = at_loop x p l k
      loop_converges x (Some e) p l k i =
          jumps_in (loop_body x) r out tests (subst (λ (y : List Stmt). ControlsConverge (jump_to Q (control_at n f) (resume y (loop_remainder (loop_body x) r ∷ out))) tests) (sym i) (at_choice x e p l k))

      -- at the test behind the body of a `do`
      pub do_converges : (x : is.Stmt-F Stmt Case) (k : Option Expr) → IsAt P f s rest around x → is_loop x ≡ true → guarded_body x ≡ [] → needed_test (test_of x) ≡ k →
          ControlsConverge (jump_to Q (control_at n f) (resume (guarded k []) (loop_remainder (loop_body x) r ∷ out))) tests
      do_converges x None p l i k =
          subst (λ (q : ControlState). ControlsConverge q tests) (sym (ap (jump_to Q (control_at n f)) (resume_endless (loop_body x) r out) ∙ jump_endless (loop_body x) r out)) (at_loop x p l k)
      do_converges x (Some e) p l i k =
          subst (λ (y : List Stmt). ControlsConverge (jump_to Q (control_at n f) (resume (test_statement e y ∷ []) (loop_remainder (loop_body x) r ∷ out))) tests) i (at_choice x e p l k)

      -- ---- a `for` with a step

      module _ (first test : Option Expr) (e : Expr) (a : List Stmt) (p : IsAt P f s rest around (is.For first test (Some e) a)) where
        abbrev x : is.Stmt-F Stmt Case
        x = is.For first test (Some e) a

        abbrev loop : Remainder
        loop = loop_remainder (loop_body x) r

        in_loop_converges : ControlsConverge (jump_to Q (control_at n f) (loop, out)) tests
        in_loop_converges = subst (λ (q : ControlState). ControlsConverge q tests) (sym (jump_endless (loop_body x) r out)) (loop_converges x (needed_test test) p refl refl refl)

        -- behind it the loop begins anew
        pub back_to_loop : (more : List Stmt) (levels : List Remainder) → ReturnsToLoop P loop out more levels → ControlsConverge (jump_to Q (control_at n f) (resume more levels)) tests
        back_to_loop more levels (AtEnd _ _ _ h) = subst (λ (c : Continuation). ControlsConverge (jump_to Q (control_at n f) c) tests) (sym h) in_loop_converges
        back_to_loop more levels (ByContinue _ _ _ rest h) =
            subst (λ (q : ControlState). ControlsConverge q tests) (sym (jump_begin-is Q n f (roll-Stmt is.Continue) rest levels is.Continue (out-roll-Stmt is.Continue) refl refl))
            (QJumps _ _ _ (jumps_by is.Continue rest levels refl refl) (subst (λ (c : Continuation). ControlsConverge (jump_to Q (control_at n f) c) tests) (sym h) in_loop_converges))

        step_by : (b : Bool) (more : List Stmt) (levels : List Remainder) → ReturnsToLoop P loop out more levels → is_known (progress_there P (control_at n f) (Some e)) ≡ b →
            ControlsConverge (control_of n f (remainder (expression_statement e ∷ more) First) levels []) (at_continuation (control_at n f) (if b then (remainder (s ∷ rest) Test, around) else (remainder (s ∷ rest) Again, around)))
        step_by true more levels l k = QJumps _ _ _ (passes_expression e more levels k) (back_to_loop more levels l)
        step_by false more levels l k = Matches _ _ (AtStep n f s rest around first test e a more levels [] p k l refl refl)

        pub step_converges : (more : List Stmt) (levels : List Remainder) → ReturnsToLoop P loop out more levels → ControlsConverge (control_of n f (remainder (expression_statement e ∷ more) First) levels []) (jump_to P (control_at n f) (remainder (s ∷ rest) Again, around))
        step_converges more levels l =
            subst (λ (y : is.Stmt-F Stmt Case). ControlsConverge (control_of n f (remainder (expression_statement e ∷ more) First) levels []) (at_continuation (control_at n f) (if is_past P n f [] (passed y Again) then (remainder (s ∷ rest) Test, around) else (remainder (s ∷ rest) Again, around))))
            (sym p.first) (step_by (is_known (progress_there P (control_at n f) (Some e))) more levels l refl)

    -- ---- where `continue` goes

    -- nowhere, or to the innermost loop
    pub data ContinueTarget (around : List Remainder) : Type 0 where
      NoLoop : continue_on around ≡ (remainder [] First, []) → continue_on (lowered_around around) ≡ (remainder [] First, []) → step_of around ≡ [] → ContinueTarget around
      InLoop : (s : Stmt) (rest : List Stmt) (outer : List Remainder) (x : is.Stmt-F Stmt Case) → IsAt P f s rest outer x → is_loop x ≡ true →
          continue_on around ≡ (remainder (s ∷ rest) (behind_body x), outer) → continue_on (lowered_around around) ≡ (loop_remainder (loop_body x) (lowered_list rest outer), lowered_around outer) →
          step_of around ≡ step_in x [] → in_tested_do around ≡ tested_do_in x false → ContinueTarget around

    same_target : (around inner : List Remainder) → continue_on inner ≡ continue_on around → continue_on (lowered_around inner) ≡ continue_on (lowered_around around) → step_of inner ≡ step_of around → in_tested_do inner ≡ in_tested_do around → ContinueTarget around → ContinueTarget inner
    same_target around inner h i j k (NoLoop a b c) = NoLoop (h ∙ a) (i ∙ b) (j ∙ c)
    same_target around inner h i j k (InLoop s rest outer x p l a b c d) = InLoop s rest outer x p l (h ∙ a) (i ∙ b) (j ∙ c) (k ∙ d)

    is_at : (s : Stmt) (rest : List Stmt) (around : List Remainder) (x : is.Stmt-F Stmt Case) → out-Stmt s ≡ x → are_fit (in_tested_do around) (s ∷ rest) ≡ true → AreWellFormed around → IsAt P f s rest around x
    is_at s rest around x e h p = record { body = g; function = there; first = e; is_fit = h; well_formed = p }

    target_in : (x : is.Stmt-F Stmt Case) (s : Stmt) (rest : List Stmt) (phase : Phase) (around : List Remainder) → out-Stmt s ≡ x → phase ≡ behind_body x → are_fit (in_tested_do around) (s ∷ rest) ≡ true → AreWellFormed around →
        ContinueTarget around → ContinueTarget (remainder (s ∷ rest) phase ∷ around)
    target_in x s rest phase around e c h p t = by_kind x e c
      where
        on : (y : is.Stmt-F Stmt Case) → out-Stmt s ≡ y → is_loop y ≡ false → continue_on (lowered_around_in y (step_of around) (lowered_list rest around) (lowered_around around)) ≡ continue_on (lowered_around around) →
            step_in y (step_of around) ≡ step_of around → tested_do_in y (in_tested_do around) ≡ in_tested_do around → ContinueTarget (remainder (s ∷ rest) phase ∷ around)
        on y e l i j k =
            same_target around (remainder (s ∷ rest) phase ∷ around) (continue_past s rest phase around y e l) (ap continue_on (lowered_around-is s rest phase around y e) ∙ i) (step-is s rest phase around y e ∙ j) (in_tested_do-is s rest phase around y e ∙ k) t

        loop : (y : is.Stmt-F Stmt Case) → out-Stmt s ≡ y → phase ≡ behind_body y → is_loop y ≡ true → is_loop y ≡ true →
            continue_on (lowered_around_in y (step_of around) (lowered_list rest around) (lowered_around around)) ≡ (loop_remainder (loop_body y) (lowered_list rest around), lowered_around around) →
            step_in y (step_of around) ≡ step_in y [] → tested_do_in y (in_tested_do around) ≡ tested_do_in y false → ContinueTarget (remainder (s ∷ rest) phase ∷ around)
        loop y e c l a i j k =
            InLoop s rest around y (is_at s rest around y e h p) a (continue_loop s rest phase around y e l ∙ ap (λ (z : Phase). (remainder (s ∷ rest) z, around)) c)
            (ap continue_on (lowered_around-is s rest phase around y e) ∙ i) (step-is s rest phase around y e ∙ j) (in_tested_do-is s rest phase around y e ∙ k)

        by_kind : (y : is.Stmt-F Stmt Case) → out-Stmt s ≡ y → phase ≡ behind_body y → ContinueTarget (remainder (s ∷ rest) phase ∷ around)
        by_kind (is.Do d) e c = on (is.Do d) e refl refl refl refl
        by_kind (is.If d these those) e c =
            on (is.If d these those) e refl (continue_past (roll-Stmt (is.If d (lower_list these (step_of around)) (lower_list those (step_of around)))) (lowered_list rest around) First (lowered_around around) _ (out-roll-Stmt _) refl) refl refl
        by_kind (is.While d a) e c = loop (is.While d a) e c refl refl (continue_test (guarded (needed_test (Some d)) (lower_list a [])) (lowered_list rest around) (lowered_around around) (needed_test (Some d)) (lower_list a [])) refl refl
        by_kind (is.DoWhile a d) e c = loop (is.DoWhile a d) e c refl refl (continue_test (lower_list a [] ++ guarded (needed_test (Some d)) []) (lowered_list rest around) (lowered_around around) None []) refl refl
        by_kind (is.For first test again a) e c =
            loop (is.For first test again a) e c refl refl
            (continue_test (guarded (needed_test test) (lower_list a (optional_statement again) ++ optional_statement again)) (lowered_list rest around) (lowered_around around) (needed_test test) (lower_list a (optional_statement again) ++ optional_statement again)) refl refl
        by_kind (is.Switch d cases) e c = on (is.Switch d cases) e refl (continue_past (roll-Stmt (is.Switch d (lower_cases cases (step_of around)))) (lowered_list rest around) First (lowered_around around) _ (out-roll-Stmt _) refl) refl refl
        by_kind is.Break e c = on is.Break e refl refl refl refl
        by_kind is.Continue e c = on is.Continue e refl refl refl refl
        by_kind (is.Return d) e c = on (is.Return d) e refl refl refl refl
        by_kind is.Empty e c = on is.Empty e refl refl refl refl
        by_kind (is.Block a) e c = on (is.Block a) e refl refl refl refl

    pub continue_target : (around : List Remainder) → AreWellFormed around → ContinueTarget around
    continue_target [] p = NoLoop refl refl refl
    continue_target (at ∷ around) p = by_rest (continue_target around p.2) at.rest at.phase p.0 p.1
      where
        by_rest : ContinueTarget around → (l : List Stmt) (phase : Phase) → phase ≡ coming l → are_fit (in_tested_do around) l ≡ true → ContinueTarget (remainder l phase ∷ around)
        by_rest t [] phase c h = same_target around (remainder [] phase ∷ around) refl refl refl refl t
        by_rest t (s ∷ rest) phase c h = target_in (out-Stmt s) s rest phase around refl c h p.2 t

    -- ---- a statement that begins a list, where both converge behind it

    abbrev BeginsAlike : Stmt → Type 0
    BeginsAlike s = (rest : List Stmt) (around : List Remainder) → AreWellFormed around → are_fit (in_tested_do around) (s ∷ rest) ≡ true → ResumesAlike rest around → ResumesAlike (s ∷ rest) around

    abbrev any_case : Case → Type 0
    any_case c = Unit {0}

    both_left : (a b : Bool) → (a && b) ≡ true → a ≡ true
    both_left true b h = refl
    both_left false b h = absurd (cc)

    both_right : (a b : Bool) → (a && b) ≡ true → b ≡ true
    both_right true b h = h
    both_right false b h = absurd (cc)

    through_list : (l : List Stmt) → Each BeginsAlike l → (around : List Remainder) → AreWellFormed around → are_fit (in_tested_do around) l ≡ true → ResumesAlike [] around → ResumesAlike l around
    through_list [] h around p i j = j
    through_list (s ∷ l) h around p i j = h.0 l around p i (through_list l h.1 around p (both_right (is_fit s (in_tested_do around)) (are_fit (in_tested_do around) l) i) j)

    -- ---- a statement that the source jumps over, and the lowered program does not have
    silent_begins : (x : is.Stmt-F Stmt Case) → opening x ≡ [] → passed x First ≡ None → ((k : List Stmt) → lower_layer x k ≡ []) → worked x First ≡ None → is_return x ≡ false →
        first_phase x ≡ First → ((at : Remainder) (around : List Remainder) (v : Value) → next_continuation x at around v ≡ past at around) → (s : Stmt) → out-Stmt s ≡ x → BeginsAlike s
    silent_begins x o w m k i b z s e rest around p h j =
        let here : ControlState = control_of n f (remainder (s ∷ rest) First) around [] in
        let p_at : jump_to P (control_at n f) (begin_with s rest around) ≡ here = ap (jump_to P (control_at n f)) (begin-is s rest around x e o ∙ ap (λ (y : Phase). (remainder (s ∷ rest) y, around)) b) ∙ jump-is P n f s rest First around x e w in
        let moves : transition P here ≡ Jumps (jump_to P (control_at n f) (resume rest around)) =
        transition-is P n f s rest First around [] x e ∙ transition_known P x here _ no_value [] i (ap (progress_there P here) k ∙ nothing-known []) ∙ ap (λ (c : Continuation). Jumps (jump_to P (control_at n f) c)) (z (remainder (s ∷ rest) First) around no_value) in
        let list : lowered_list (s ∷ rest) around ≡ lowered_list rest around = lowered_list-is s rest around x e ∙ ap (λ (l : List Stmt). l ++ lowered_list rest around) (m (step_of around)) in
        subst (λ (l : List Stmt). ConvergesAt l (lowered_around around) (begin_with s rest around)) (sym list)
        (subst (λ (y : ControlState). ControlsConverge (jump_to Q (control_at n f) (resume (lowered_list rest around) (lowered_around around))) y) (sym p_at) (PJumps _ here _ moves (λ c. j.1) j.0), j.1)

    -- inside a block
    module _ (s : Stmt) (rest : List Stmt) (around : List Remainder) (a : List Stmt) (e : out-Stmt s ≡ is.Block a) (p : AreWellFormed around) (h : are_fit (in_tested_do around) (s ∷ rest) ≡ true) where
      abbrev inner : List Remainder
      inner = remainder (s ∷ rest) First ∷ around

      block_well_formed : AreWellFormed inner
      block_well_formed = (sym (ap behind_body e), h, p)

      block_fit : are_fit (in_tested_do inner) a ≡ true
      block_fit =
          ap (λ b. are_fit b a) (in_tested_do-is s rest First around (is.Block a) e)
          ∙ sym (is_fit-out s (in_tested_do around) ∙ ap (λ (y : is.Stmt-F Stmt Case). is_layer_fit y (in_tested_do around)) e) ∙ both_left (is_fit s (in_tested_do around)) (are_fit (in_tested_do around) rest) h

      block_end : ResumesAlike rest around → ResumesAlike [] inner
      block_end j =
          same_converges (lowered_list rest around) (lowered_list [] inner) (lowered_around around) (lowered_around inner) (resume rest around) (resume [] inner) (sym (after-is s rest First around (is.Block a) e)) (sym (lowered_around-is s rest First around (is.Block a) e))
          (sym (resume_past s rest First around (is.Block a) e refl)) j

      block_list : lowered_list a inner ≡ lowered_list (s ∷ rest) around
      block_list =
          ap (λ (k : List Stmt). lower_list a k ++ after_of inner) (step-is s rest First around (is.Block a) e) ∙ ap (λ (k : List Stmt). lower_list a (step_of around) ++ k) (after-is s rest First around (is.Block a) e)
          ∙ sym (lowered_list-is s rest around (is.Block a) e)

    block_begins : (a : List Stmt) → Each BeginsAlike a → (s : Stmt) → out-Stmt s ≡ is.Block a → BeginsAlike s
    block_begins [] h s e rest around p i j = silent_begins (is.Block []) refl refl (λ k. refl) refl refl refl (λ at around v. refl) s e rest around p i j
    block_begins (t ∷ ts) h s e rest around p i j =
        same_converges (lowered_list (t ∷ ts) (inner s rest around (t ∷ ts) e p i)) (lowered_list (s ∷ rest) around) (lowered_around (inner s rest around (t ∷ ts) e p i)) (lowered_around around) _ _ (block_list s rest around (t ∷ ts) e p i) (lowered_around-is s rest First around (is.Block (t ∷ ts)) e)
        (sym (begin_enters s t rest ts around (ap opening e) ∙ ap (λ (y : is.Stmt-F Stmt Case). begin_with t ts (remainder (s ∷ rest) (behind_body y) ∷ around)) e))
        (through_list (t ∷ ts) h (inner s rest around (t ∷ ts) e p i) (block_well_formed s rest around (t ∷ ts) e p i) (block_fit s rest around (t ∷ ts) e p i) (block_end s rest around (t ∷ ts) e p i j))

    -- ---- a statement that both have

    kept_from : (x y : is.Stmt-F Stmt Case) → opening x ≡ [] → first_phase x ≡ First → passed x First ≡ None → opening y ≡ [] → first_phase y ≡ First → passed y First ≡ None → begins_at y First ≡ true → is_kept x ≡ true →
        (s : Stmt) → out-Stmt s ≡ x → (rest : List Stmt) (around : List Remainder) → AreWellFormed around → are_fit (in_tested_do around) (s ∷ rest) ≡ true →
        (is_continue x ≡ true → step_of around ≡ []) → lower_layer x (step_of around) ≡ roll-Stmt y ∷ [] → ResumesAlike (s ∷ rest) around
    kept_from x y o b w o' b' w' z k s e rest around p h c l =
        let p_at : jump_to P (control_at n f) (begin_with s rest around) ≡ control_of n f (remainder (s ∷ rest) First) around [] =
        ap (jump_to P (control_at n f)) (begin-is s rest around x e o ∙ ap (λ (y : Phase). (remainder (s ∷ rest) y, around)) b) ∙ jump-is P n f s rest First around x e w in
        let q_at : (ls : List Stmt) → ls ≡ roll-Stmt y ∷ [] → jump_to Q (control_at n f) (resume (ls ++ lowered_list rest around) (lowered_around around)) ≡ control_of n f (remainder (ls ++ lowered_list rest around) First) (lowered_around around) [] =
        λ ls i. subst (λ (ks : List Stmt). jump_to Q (control_at n f) (resume (ks ++ lowered_list rest around) (lowered_around around)) ≡ control_of n f (remainder (ks ++ lowered_list rest around) First) (lowered_around around) []) (sym i)
        (ap (jump_to Q (control_at n f)) (begin-is (roll-Stmt y) (lowered_list rest around) (lowered_around around) y (out-roll-Stmt y) o' ∙ ap (λ (z : Phase). (remainder (roll-Stmt y ∷ lowered_list rest around) z, lowered_around around)) b')
        ∙ jump-is Q n f (roll-Stmt y) (lowered_list rest around) First (lowered_around around) y (out-roll-Stmt y) w') in
        let boundary_here : (ls : List Stmt) → ls ≡ roll-Stmt y ∷ [] → is_at_boundary (control_of n f (remainder (ls ++ lowered_list rest around) First) (lowered_around around) []) ≡ true =
        λ ls i. ap (λ (ks : List Stmt). is_at_boundary (control_of n f (remainder (ks ++ lowered_list rest around) First) (lowered_around around) [])) i ∙ ap (λ (z : is.Stmt-F Stmt Case). begins_at z First) (out-roll-Stmt y) ∙ z in
        subst (λ (l : List Stmt). ConvergesAt l (lowered_around around) (begin_with s rest around)) (sym (lowered_list-is s rest around x e))
        (converges_from (lower_layer x (step_of around) ++ lowered_list rest around) (lowered_around around) (begin_with s rest around) _ _ (q_at (lower_layer x (step_of around)) l) p_at (boundary_here (lower_layer x (step_of around)) l)
        (Matches _ _ (AtStatement n f s rest around x [] (is_at s rest around x e h p) k c refl refl)))

    kept_begins : (x : is.Stmt-F Stmt Case) → is_kept x ≡ true → (s : Stmt) → out-Stmt s ≡ x → (rest : List Stmt) (around : List Remainder) → AreWellFormed around → are_fit (in_tested_do around) (s ∷ rest) ≡ true →
        (is_continue x ≡ true → step_of around ≡ []) → ResumesAlike (s ∷ rest) around
    kept_begins (is.Do d) k s e rest around p h c = kept_from (is.Do d) (is.Do d) refl refl refl refl refl refl refl k s e rest around p h c refl
    kept_begins (is.If d these those) k s e rest around p h c =
        kept_from (is.If d these those) (is.If d (lower_list these (step_of around)) (lower_list those (step_of around))) refl refl refl refl refl refl refl k s e rest around p h c refl
    kept_begins (is.While d a) k s e rest around p h c = absurd (cc)
    kept_begins (is.DoWhile a d) k s e rest around p h c = absurd (cc)
    kept_begins (is.For first test again a) k s e rest around p h c = absurd (cc)
    kept_begins (is.Switch d cases) k s e rest around p h c =
        kept_from (is.Switch d cases) (is.Switch d (lower_cases cases (step_of around))) refl refl refl refl refl refl refl k s e rest around p h c refl
    kept_begins is.Break k s e rest around p h c = kept_from is.Break is.Break refl refl refl refl refl refl refl k s e rest around p h c refl
    kept_begins is.Continue k s e rest around p h c =
        kept_from is.Continue is.Continue refl refl refl refl refl refl refl k s e rest around p h c (ap (λ (l : List Stmt). l ++ roll-Stmt is.Continue ∷ []) (c refl))
    kept_begins (is.Return d) k s e rest around p h c = kept_from (is.Return d) (is.Return d) refl refl refl refl refl refl refl k s e rest around p h c refl
    kept_begins is.Empty k s e rest around p h c = absurd (cc)
    kept_begins (is.Block a) k s e rest around p h c = absurd (cc)

    -- ---- `continue`

    -- behind the step of the loop
    continue_by_step : (s : Stmt) → out-Stmt s ≡ is.Continue → (rest : List Stmt) (around : List Remainder) → (t : Stmt) (behind : List Stmt) (outer : List Remainder) (first test : Option Expr) (d : Expr) (a : List Stmt) →
        IsAt P f t behind outer (is.For first test (Some d) a) → continue_on around ≡ (remainder (t ∷ behind) Again, outer) →
        continue_on (lowered_around around) ≡ (loop_remainder (loop_body (is.For first test (Some d) a)) (lowered_list behind outer), lowered_around outer) → step_of around ≡ expression_statement d ∷ [] → ResumesAlike (s ∷ rest) around
    continue_by_step s e rest around t behind outer first test d a pl to to' b =
        let here : ControlState = control_of n f (remainder (s ∷ rest) First) around [] in
        let more : List Stmt = roll-Stmt is.Continue ∷ lowered_list rest around in
        let q_at : jump_to Q (control_at n f) (resume (expression_statement d ∷ more) (lowered_around around)) ≡ control_of n f (remainder (expression_statement d ∷ more) First) (lowered_around around) [] =
        jump_begin-is Q n f (expression_statement d) more (lowered_around around) (is.Do d) (out-roll-Stmt (is.Do d)) refl refl in
        let moves : transition P here ≡ Jumps (jump_to P (control_at n f) (remainder (t ∷ behind) Again, outer)) =
        transition-is P n f s rest First around [] is.Continue e ∙ transition_known P is.Continue here _ no_value [] refl (nothing-known []) ∙ ap (λ (c : Continuation). Jumps (jump_to P (control_at n f) c)) to in
        let boundary_here : is_at_boundary (control_of n f (remainder (expression_statement d ∷ more) First) (lowered_around around) []) ≡ true = ap (λ (z : is.Stmt-F Stmt Case). begins_at z First) (out-roll-Stmt (is.Do d)) in
        subst (λ (l : List Stmt). ConvergesAt l (lowered_around around) (begin_with s rest around)) (sym (lowered_list-is s rest around is.Continue e ∙ ap (λ (l : List Stmt). (l ++ roll-Stmt is.Continue ∷ []) ++ lowered_list rest around) b))
        (converges_from (expression_statement d ∷ more) (lowered_around around) (begin_with s rest around) _ here q_at (jump_begin-is P n f s rest around is.Continue e refl refl) boundary_here
        (PJumps _ here _ moves (λ c. boundary_here) (step_converges t behind outer first test d a pl more (lowered_around around) (ByContinue _ _ (lowered_around around) (lowered_list rest around) to'))))

    continue_to : (s : Stmt) → out-Stmt s ≡ is.Continue → (rest : List Stmt) (around : List Remainder) → AreWellFormed around → are_fit (in_tested_do around) (s ∷ rest) ≡ true → ContinueTarget around → ResumesAlike (s ∷ rest) around
    continue_to s e rest around p h (NoLoop i j k) = kept_begins is.Continue refl s e rest around p h (λ c. k)
    continue_to s e rest around p h (InLoop t behind outer x pl l i j k m) = by_kind x pl l i j k
      where
        by_kind : (x : is.Stmt-F Stmt Case) → IsAt P f t behind outer x → is_loop x ≡ true → continue_on around ≡ (remainder (t ∷ behind) (behind_body x), outer) →
            continue_on (lowered_around around) ≡ (loop_remainder (loop_body x) (lowered_list behind outer), lowered_around outer) → step_of around ≡ step_in x [] → ResumesAlike (s ∷ rest) around
        by_kind (is.Do d) pl l i j k = absurd (cc)
        by_kind (is.If d these those) pl l i j k = absurd (cc)
        by_kind (is.While d a) pl l i j k = kept_begins is.Continue refl s e rest around p h (λ c. k)
        by_kind (is.DoWhile a d) pl l i j k = kept_begins is.Continue refl s e rest around p h (λ c. k)
        by_kind (is.For first test None a) pl l i j k = kept_begins is.Continue refl s e rest around p h (λ c. k)
        by_kind (is.For first test (Some d) a) pl l i j k = continue_by_step s e rest around t behind outer first test d a pl i j k
        by_kind (is.Switch d cases) pl l i j k = absurd (cc)
        by_kind is.Break pl l i j k = absurd (cc)
        by_kind is.Continue pl l i j k = absurd (cc)
        by_kind (is.Return d) pl l i j k = absurd (cc)
        by_kind is.Empty pl l i j k = absurd (cc)
        by_kind (is.Block a) pl l i j k = absurd (cc)

    continue_begins : (s : Stmt) → out-Stmt s ≡ is.Continue → BeginsAlike s
    continue_begins s e rest around p h j = continue_to s e rest around p h (continue_target around p)

    -- ---- loops

    endless_boundary : (inside r : List Stmt) (out : List Remainder) → is_at_boundary (control_of n f (loop_remainder inside r) out []) ≡ true
    endless_boundary inside r out = ap (λ (z : is.Stmt-F Stmt Case). begins_at z Test) (endless_loop-out inside r out)

    do_boundary : (k : Option Expr) (inside r : List Stmt) (out : List Remainder) → is_at_boundary (jump_to Q (control_at n f) (resume (guarded k []) (loop_remainder inside r ∷ out))) ≡ true
    do_boundary None inside r out = ap is_at_boundary (ap (jump_to Q (control_at n f)) (resume_endless inside r out) ∙ jump_endless inside r out) ∙ endless_boundary inside r out
    do_boundary (Some e) inside r out =
        ap is_at_boundary (jump_begin-is Q n f (test_statement e []) [] (loop_remainder inside r ∷ out) (is.If e [] (break_statement ∷ [])) (out-roll-Stmt (is.If e [] (break_statement ∷ []))) refl refl)
        ∙ ap (λ (z : is.Stmt-F Stmt Case). begins_at z First) (out-roll-Stmt (is.If e [] (break_statement ∷ [])))

    -- ---- where the list inside a statement is done

    -- not in a loop: behind the statement
    end_on : (x : is.Stmt-F Stmt Case) (s : Stmt) → out-Stmt s ≡ x → (rest : List Stmt) (around : List Remainder) (phase : Phase) → is_loop x ≡ false →
        resume (after_in x (lowered_list rest around)) (lowered_around_in x (step_of around) (lowered_list rest around) (lowered_around around)) ≡ resume (lowered_list rest around) (lowered_around around) → ResumesAlike rest around → ResumesAlike [] (remainder (s ∷ rest) phase ∷ around)
    end_on x s e rest around phase l h j =
        let list : resume (lowered_list [] (remainder (s ∷ rest) phase ∷ around)) (lowered_around (remainder (s ∷ rest) phase ∷ around)) ≡ resume (lowered_list rest around) (lowered_around around) =
        ap (λ (k : List Stmt). resume k (lowered_around (remainder (s ∷ rest) phase ∷ around))) (after-is s rest phase around x e) ∙ ap (λ (o : List Remainder). resume (after_in x (lowered_list rest around)) o) (lowered_around-is s rest phase around x e) ∙ h in
        subst (λ (c : Continuation). ControlsConverge (jump_to Q (control_at n f) c) (jump_to P (control_at n f) (resume [] (remainder (s ∷ rest) phase ∷ around))) × (is_at_boundary (jump_to Q (control_at n f) c) ≡ true)) (sym list)
        (subst (λ (c : Continuation). ConvergesAt (lowered_list rest around) (lowered_around around) c) (sym (resume_past s rest phase around x e l)) j)

    -- in a loop: to what comes behind its body
    end_at : (x : is.Stmt-F Stmt Case) (s : Stmt) → out-Stmt s ≡ x → (rest : List Stmt) (around : List Remainder) (q p : ControlState) → is_loop x ≡ true →
        jump_to Q (control_at n f) (resume (after_in x (lowered_list rest around)) (lowered_around_in x (step_of around) (lowered_list rest around) (lowered_around around))) ≡ q →
        jump_to P (control_at n f) (remainder (s ∷ rest) (behind_body x), around) ≡ p → is_at_boundary q ≡ true → ControlsConverge q p → ResumesAlike [] (remainder (s ∷ rest) (behind_body x) ∷ around)
    end_at x s e rest around q p l h i b j =
        converges_from (lowered_list [] (remainder (s ∷ rest) (behind_body x) ∷ around)) (lowered_around (remainder (s ∷ rest) (behind_body x) ∷ around)) (resume [] (remainder (s ∷ rest) (behind_body x) ∷ around)) q p
        (ap (λ (k : List Stmt). jump_to Q (control_at n f) (resume k (lowered_around (remainder (s ∷ rest) (behind_body x) ∷ around)))) (after-is s rest (behind_body x) around x e)
        ∙ ap (λ (o : List Remainder). jump_to Q (control_at n f) (resume (after_in x (lowered_list rest around)) o)) (lowered_around-is s rest (behind_body x) around x e) ∙ h)
        (ap (jump_to P (control_at n f)) (resume_loop s rest (behind_body x) around x e l) ∙ i) b j

    do_end : (a : List Stmt) (d : Expr) (s : Stmt) → out-Stmt s ≡ is.DoWhile a d → (rest : List Stmt) (around : List Remainder) → AreWellFormed around → are_fit (in_tested_do around) (s ∷ rest) ≡ true → ResumesAlike [] (remainder (s ∷ rest) Test ∷ around)
    do_end a d s e rest around p h =
        let x : is.Stmt-F Stmt Case = is.DoWhile a d in
        end_at x s e rest around _ _ refl refl (jump-is P n f s rest Test around x e refl) (do_boundary (needed_test (Some d)) (loop_body x) (lowered_list rest around) (lowered_around around))
        (do_converges s rest around x (needed_test (Some d)) (is_at s rest around x e h p) refl refl refl)

    while_end : (x : is.Stmt-F Stmt Case) (k : Option Expr) (s : Stmt) → out-Stmt s ≡ x → (rest : List Stmt) (around : List Remainder) → AreWellFormed around → are_fit (in_tested_do around) (s ∷ rest) ≡ true →
        is_loop x ≡ true → is_loop x ≡ true → behind_body x ≡ Test → passed x Test ≡ None → loop_body x ≡ guarded (needed_test (test_of x)) (guarded_body x) → after_in x (lowered_list rest around) ≡ [] →
        lowered_around_in x (step_of around) (lowered_list rest around) (lowered_around around) ≡ inside_test (needed_test (test_of x)) (guarded_body x) (loop_remainder (loop_body x) (lowered_list rest around) ∷ lowered_around around) → ResumesAlike [] (remainder (s ∷ rest) (behind_body x) ∷ around)
    while_end x k s e rest around p h l m b w i t o =
        let r : List Stmt = lowered_list rest around in
        let out : List Remainder = lowered_around around in
        end_at x s e rest around (control_of n f (loop_remainder (loop_body x) r) out []) (control_of n f (remainder (s ∷ rest) Test) around []) m
        (ap (λ (k : List Stmt). jump_to Q (control_at n f) (resume k (lowered_around_in x (step_of around) r out))) t ∙ ap (λ (c : List Remainder). jump_to Q (control_at n f) (resume [] c)) o
        ∙ ap (jump_to Q (control_at n f)) (resume_test (loop_body x) r out (needed_test (test_of x)) (guarded_body x)) ∙ jump_endless (loop_body x) r out)
        (ap (λ (z : Phase). jump_to P (control_at n f) (remainder (s ∷ rest) z, around)) b ∙ jump-is P n f s rest Test around x e w) (endless_boundary (loop_body x) r out)
        (loop_converges s rest around x (needed_test (test_of x)) (is_at s rest around x e h p) l refl i)

    for_end : (first test : Option Expr) (d : Expr) (a : List Stmt) (s : Stmt) → out-Stmt s ≡ is.For first test (Some d) a → (rest : List Stmt) (around : List Remainder) → AreWellFormed around → are_fit (in_tested_do around) (s ∷ rest) ≡ true →
        ResumesAlike [] (remainder (s ∷ rest) Again ∷ around)
    for_end first test d a s e rest around p h =
        let x : is.Stmt-F Stmt Case = is.For first test (Some d) a in
        let r : List Stmt = lowered_list rest around in
        let levels : List Remainder = inside_test (needed_test test) (guarded_body x) (loop_remainder (loop_body x) r ∷ lowered_around around) in
        end_at x s e rest around (control_of n f (remainder (expression_statement d ∷ []) First) levels []) _ refl (jump_begin-is Q n f (expression_statement d) [] levels (is.Do d) (out-roll-Stmt (is.Do d)) refl refl) refl
        (ap (λ (z : is.Stmt-F Stmt Case). begins_at z First) (out-roll-Stmt (is.Do d)))
        (step_converges s rest around first test d a (is_at s rest around x e h p) [] levels (AtEnd _ _ levels (resume_test (loop_body x) r (lowered_around around) (needed_test test) (guarded_body x))))

    end_in : (x : is.Stmt-F Stmt Case) (s : Stmt) → out-Stmt s ≡ x → (rest : List Stmt) (around : List Remainder) → AreWellFormed around → are_fit (in_tested_do around) (s ∷ rest) ≡ true → ResumesAlike rest around → ResumesAlike [] (remainder (s ∷ rest) (behind_body x) ∷ around)
    end_in (is.Do d) s e rest around p h j = end_on (is.Do d) s e rest around First refl refl j
    end_in (is.If d these those) s e rest around p h j =
        end_on (is.If d these those) s e rest around First refl (resume_past (roll-Stmt (is.If d (lower_list these (step_of around)) (lower_list those (step_of around)))) (lowered_list rest around) First (lowered_around around) _ (out-roll-Stmt _) refl) j
    end_in (is.While d a) s e rest around p h j = while_end (is.While d a) None s e rest around p h refl refl refl refl refl refl refl
    end_in (is.DoWhile a d) s e rest around p h j = do_end a d s e rest around p h
    end_in (is.For first test None a) s e rest around p h j = while_end (is.For first test None a) None s e rest around p h refl refl refl refl refl refl refl
    end_in (is.For first test (Some d) a) s e rest around p h j = for_end first test d a s e rest around p h
    end_in (is.Switch d cases) s e rest around p h j =
        end_on (is.Switch d cases) s e rest around First refl (resume_past (roll-Stmt (is.Switch d (lower_cases cases (step_of around)))) (lowered_list rest around) First (lowered_around around) _ (out-roll-Stmt _) refl) j
    end_in is.Break s e rest around p h j = end_on is.Break s e rest around First refl refl j
    end_in is.Continue s e rest around p h j = end_on is.Continue s e rest around First refl refl j
    end_in (is.Return d) s e rest around p h j = end_on (is.Return d) s e rest around First refl refl j
    end_in is.Empty s e rest around p h j = end_on is.Empty s e rest around First refl refl j
    end_in (is.Block a) s e rest around p h j = end_on (is.Block a) s e rest around First refl refl j

    -- the first expression of a `for`
    for_first : (d : Expr) (test again : Option Expr) (a : List Stmt) (s : Stmt) (rest : List Stmt) (around : List Remainder) (pl : IsAt P f s rest around (is.For (Some d) test again a)) (b : Bool) → is_known (progress_there P (control_at n f) (Some d)) ≡ b →
        ControlsConverge (control_of n f (remainder (expression_statement d ∷ endless_loop (loop_body (is.For (Some d) test again a)) ∷ lowered_list rest around) First) (lowered_around around) [])
        (at_continuation (control_at n f) (if b then (remainder (s ∷ rest) Test, around) else (remainder (s ∷ rest) First, around)))
    for_first d test again a s rest around pl true k =
        let x : is.Stmt-F Stmt Case = is.For (Some d) test again a in
        let r : List Stmt = lowered_list rest around in
        QJumps _ _ _ (passes_expression d (endless_loop (loop_body x) ∷ r) (lowered_around around) k)
        (subst (λ (q : ControlState). ControlsConverge q (control_of n f (remainder (s ∷ rest) Test) around [])) (sym (jump_begin_endless (loop_body x) r (lowered_around around))) (loop_converges s rest around x (needed_test test) pl refl refl refl))
    for_first d test again a s rest around pl false k = Matches _ _ (AtFirst n f s rest around d test again a [] pl k refl refl)

    loop_begins : (x : is.Stmt-F Stmt Case) → is_loop x ≡ true → opening x ≡ [] → first_phase x ≡ Test → passed x Test ≡ None → ((k : List Stmt) → lower_layer x k ≡ endless_loop (loop_body x) ∷ []) →
        loop_body x ≡ guarded (needed_test (test_of x)) (guarded_body x) → (s : Stmt) → out-Stmt s ≡ x → BeginsAlike s
    loop_begins x l o b w m i s e rest around p h j =
        let p_at : jump_to P (control_at n f) (begin_with s rest around) ≡ control_of n f (remainder (s ∷ rest) Test) around [] =
        ap (jump_to P (control_at n f)) (begin-is s rest around x e o ∙ ap (λ (y : Phase). (remainder (s ∷ rest) y, around)) b) ∙ jump-is P n f s rest Test around x e w in
        subst (λ (l : List Stmt). ConvergesAt l (lowered_around around) (begin_with s rest around)) (sym (lowered_list-is s rest around x e ∙ ap (λ (l : List Stmt). l ++ lowered_list rest around) (m (step_of around))))
        (converges_from (endless_loop (loop_body x) ∷ lowered_list rest around) (lowered_around around) (begin_with s rest around) _ _ (jump_begin_endless (loop_body x) (lowered_list rest around) (lowered_around around)) p_at
        (endless_boundary (loop_body x) (lowered_list rest around) (lowered_around around)) (loop_converges s rest around x (needed_test (test_of x)) (is_at s rest around x e h p) l refl i))

    for_begins : (d : Expr) (test again : Option Expr) (a : List Stmt) (s : Stmt) → out-Stmt s ≡ is.For (Some d) test again a → BeginsAlike s
    for_begins d test again a s e rest around p h j =
        let x : is.Stmt-F Stmt Case = is.For (Some d) test again a in
        let r : List Stmt = lowered_list rest around in
        let out : List Remainder = lowered_around around in
        let more : List Stmt = endless_loop (loop_body x) ∷ r in
        let q : ControlState = control_of n f (remainder (expression_statement d ∷ more) First) out [] in
        let pl : IsAt P f s rest around x = is_at s rest around x e h p in
        let first : (b : Bool) → is_known (progress_there P (control_at n f) (Some d)) ≡ b → ControlsConverge q (at_continuation (control_at n f) (if b then (remainder (s ∷ rest) Test, around) else (remainder (s ∷ rest) First, around))) = λ b k. for_first d test again a s rest around pl b k in
        let p_at : jump_to P (control_at n f) (begin_with s rest around) ≡ at_continuation (control_at n f) (if is_known (progress_there P (control_at n f) (Some d)) then (remainder (s ∷ rest) Test, around) else (remainder (s ∷ rest) First, around)) =
        ap (jump_to P (control_at n f)) (begin-is s rest around x e refl)
        ∙ ap (λ (y : is.Stmt-F Stmt Case). at_continuation (control_at n f) (if is_past P n f [] (passed y First) then (remainder (s ∷ rest) Test, around) else (remainder (s ∷ rest) First, around))) e in
        subst (λ (l : List Stmt). ConvergesAt l out (begin_with s rest around)) (sym (lowered_list-is s rest around x e))
        (converges_from (expression_statement d ∷ more) out (begin_with s rest around) q _ (jump_begin-is Q n f (expression_statement d) more out (is.Do d) (out-roll-Stmt (is.Do d)) refl refl) p_at
        (ap (λ (z : is.Stmt-F Stmt Case). begins_at z First) (out-roll-Stmt (is.Do d))) (first (is_known (progress_there P (control_at n f) (Some d))) refl))

    do_begins : (a : List Stmt) (d : Expr) → Each BeginsAlike a → (s : Stmt) → out-Stmt s ≡ is.DoWhile a d → BeginsAlike s
    do_begins [] d h s e rest around p i j = loop_begins (is.DoWhile [] d) refl refl refl refl (λ k. refl) refl s e rest around p i j
    do_begins (t ∷ ts) d h s e rest around p i j =
        let x : is.Stmt-F Stmt Case = is.DoWhile (t ∷ ts) d in
        let inner : List Remainder = remainder (s ∷ rest) Test ∷ around in
        let r : List Stmt = lowered_list rest around in
        let well_formed : AreWellFormed inner = (sym (ap behind_body e), i, p) in
        let is_fit : are_fit (in_tested_do inner) (t ∷ ts) ≡ true =
        ap (λ b. are_fit b (t ∷ ts)) (in_tested_do-is s rest Test around x e)
        ∙ sym (is_fit-out s (in_tested_do around) ∙ ap (λ (y : is.Stmt-F Stmt Case). is_layer_fit y (in_tested_do around)) e) ∙ both_left (is_fit s (in_tested_do around)) (are_fit (in_tested_do around) rest) i in
        let body : ResumesAlike (t ∷ ts) inner = through_list (t ∷ ts) h inner well_formed is_fit (do_end (t ∷ ts) d s e rest around p i) in
        let list : lowered_list (t ∷ ts) inner ≡ loop_body x =
        ap (λ (k : List Stmt). lower_list (t ∷ ts) k ++ after_of inner) (step-is s rest Test around x e) ∙ ap (λ (k : List Stmt). lower_list (t ∷ ts) [] ++ k) (after-is s rest Test around x e) in
        let entered : begin_with s rest around ≡ begin_with t ts inner = begin_enters s t rest ts around (ap opening e) ∙ ap (λ (y : is.Stmt-F Stmt Case). begin_with t ts (remainder (s ∷ rest) (behind_body y) ∷ around)) e in
        let there : ConvergesAt (loop_body x) (loop_remainder (loop_body x) r ∷ lowered_around around) (begin_with s rest around) =
        same_converges (lowered_list (t ∷ ts) inner) (loop_body x) (lowered_around inner) (loop_remainder (loop_body x) r ∷ lowered_around around) (begin_with t ts inner) (begin_with s rest around) list (lowered_around-is s rest Test around x e) (sym entered) body in
        subst (λ (l : List Stmt). ConvergesAt l (lowered_around around) (begin_with s rest around)) (sym (lowered_list-is s rest around x e))
        (converges_from (endless_loop (loop_body x) ∷ r) (lowered_around around) (begin_with s rest around) _ _ (jump_begin_endless (loop_body x) r (lowered_around around)) refl (endless_boundary (loop_body x) r (lowered_around around))
        (jumps_in (loop_body x) r (lowered_around around) (jump_to P (control_at n f) (begin_with s rest around)) there.0))

    begins_level : (x : is.Stmt-F Stmt Case) → StmtParts BeginsAlike any_case x → BeginsAlike (roll-Stmt x)
    begins_level x h = begins_in x h (roll-Stmt x) (out-roll-Stmt x)
      where
        begins_in : (x : is.Stmt-F Stmt Case) → StmtParts BeginsAlike any_case x → (s : Stmt) → out-Stmt s ≡ x → BeginsAlike s
        begins_in (is.Do d) h s e rest around p i j = kept_begins (is.Do d) refl s e rest around p i (λ c. absurd (cc))
        begins_in (is.If d these those) h s e rest around p i j = kept_begins (is.If d these those) refl s e rest around p i (λ c. absurd (cc))
        begins_in (is.While d a) h s e rest around p i j = loop_begins (is.While d a) refl refl refl refl (λ k. refl) refl s e rest around p i j
        begins_in (is.DoWhile a d) h s e rest around p i j = do_begins a d h s e rest around p i j
        begins_in (is.For None test again a) h s e rest around p i j = loop_begins (is.For None test again a) refl refl refl refl (λ k. refl) refl s e rest around p i j
        begins_in (is.For (Some d) test again a) h s e rest around p i j = for_begins d test again a s e rest around p i j
        begins_in (is.Switch d cases) h s e rest around p i j = kept_begins (is.Switch d cases) refl s e rest around p i (λ c. absurd (cc))
        begins_in is.Break h s e rest around p i j = kept_begins is.Break refl s e rest around p i (λ c. absurd (cc))
        begins_in is.Continue h s e rest around p i j = continue_begins s e rest around p i j
        begins_in (is.Return d) h s e rest around p i j = kept_begins (is.Return d) refl s e rest around p i (λ c. absurd (cc))
        begins_in is.Empty h s e rest around p i j = silent_begins is.Empty refl refl (λ k. refl) refl refl refl (λ at around v. refl) s e rest around p i j
        begins_in (is.Block a) h s e rest around p i j = block_begins a h s e rest around p i j

    -- ---- where a list is done

    list_end : (around : List Remainder) → AreWellFormed around → ResumesAlike [] around
    list_end [] p = (Matches _ _ (AtFunctionEnd n f [] refl refl), refl)
    list_end (at ∷ around) p = by_rest (list_end around p.2) at.rest at.phase p.0 p.1
      where
        by_rest : ResumesAlike [] around → (l : List Stmt) (phase : Phase) → phase ≡ coming l → are_fit (in_tested_do around) l ≡ true → ResumesAlike [] (remainder l phase ∷ around)
        by_rest j [] phase c h = j
        by_rest j (s ∷ rest) phase c h =
            subst (λ (z : Phase). ResumesAlike [] (remainder (s ∷ rest) z ∷ around)) (sym c)
            (end_in (out-Stmt s) s refl rest around p.2 h (through_list rest (by_stmts BeginsAlike any_case begins_level (λ x h. tt) rest) around p.2 (both_right (is_fit s (in_tested_do around)) (are_fit (in_tested_do around) rest) h) j))

    pub resumes_alike : (around : List Remainder) (l : List Stmt) → AreWellFormed around → are_fit (in_tested_do around) l ≡ true → ResumesAlike l around
    resumes_alike around l p h = through_list l (by_stmts BeginsAlike any_case begins_level (λ x h. tt) l) around p h (list_end around p)
