-- A program whose `do`s have flags and its source converge wherever the source goes on with a list of its function.
use Rattle.std.proofs.Common.{◌≡◌, ◌≤◌, ◌<◌, ℕ, ◌+◌, Bool, true, false, List, [], ◌∷◌, ◌++◌, option_map, Option, Some, None, slice_get, refl, ap, sym, ◌∙◌, subst, if◌then◌else◌}
use Rattle.std.specs.Prelude.{pos}
use Rattle.cc_states.specs.CcCells.Cells.{with_scalar}
use Rattle.cc_states.specs.CcControl.declared.phase.Phase.{Phase}
use Rattle.cc_states.specs.CcControl.declared.phase.Phase.TheVariants.{First, Test}
use Rattle.cc_states.specs.CcControl.Control.{is_loop, is_left_by_break, behind_body, opening, first_phase}
use Rattle.cc_states.specs.CcEval.declared.action.Action.TheVariants.{Read, Write}
use Rattle.cc_states.specs.CcEval.declared.mark.Mark.{Mark}
use Rattle.cc_states.specs.CcEval.declared.mark.Mark.TheVariants.{Gave, Did}
use Rattle.cc_states.specs.CcEval.Context.{Context, is_seen}
use Rattle.cc_states.specs.CcEval.Eval.{Meaning, next_of}
use Rattle.cc_states.specs.CcEval.Progress.{Progress, Known}
use Rattle.cc_program.specs.declared.expr.Expr.{Expr, roll-Expr}
use Rattle.cc_program.specs.CcNum.declared.int_type.IntType.TheVariants as int
use Rattle.cc_program.specs.declared.expr.Expr.TheOpen as one
use Rattle.cc_program.specs.declared.expr.Place.{roll-Place}
use Rattle.cc_program.specs.declared.func.Func.{Func}
use Rattle.cc_program.specs.declared.program.Program.{Program}
use Rattle.cc_program.specs.declared.stmt.Case.{Case}
use Rattle.cc_program.specs.declared.stmt.Stmt.{Stmt, out-Stmt, roll-Stmt, out-roll-Stmt}
use Rattle.cc_program.specs.declared.stmt.Stmt.TheOpen as is
use Rattle.cc_program.specs.declared.value.Value.{Value}
use Rattle.cc_program.specs.declared.value.Value.TheVariants.{Int}
use Rattle.cc_program.proofs.Each.{Each}
use Rattle.cc_program.proofs.StmtInduction.{StmtParts, by_stmt}
use Rattle.cc_states.specs.CcSyntax.Effects.{no_one}
use Rattle.cc_states.specs.CcSyntax.Values.{PlaceType, object_place}
use Rattle.cc_states.specs.CcSteps.Step.{worked, passed, is_return, is_known, is_past, progress_in, progress_at}
use Rattle.cc_states.specs.CcValues.Values.{is_true}
use Rattle.cc_meaning_simulations.specs.Bodies.{all_extended, extended}
use Rattle.cc_meaning_simulations.specs.Continuations.{Continuation, Remainder, begin_with, in_arm, next_continuation, remainder, resume}
use Rattle.cc_meaning_simulations.specs.LocalSimulations.{Converges, Matched, QSteps}
use Rattle.cc_meaning_simulations.specs.LocalSteps.{Jump, LocalState, Locals, ReadHidden, WriteHidden, local_state, own_local}
use Rattle.cc_meaning_simulations.specs.NamedLocals.{names_below}
use Rattle.cc_meaning_simulations.specs.Transitions.{ControlState, Jumps, Performs, Returns, at_continuation, jump_to, marked_control, progress_there, transition, transition_in}
use Rattle.cc_meaning_simulations.proofs.ContinuationLemmas.{begin_enters}
use Rattle.cc_meaning_simulations.proofs.MoreLocals.{funcs_same, meaning_extended}
use Rattle.cc_lower_statements.specs.Statements.{break_statement, constant_one, endless_loop}
use Rattle.cc_lower_follows.proofs.Constants.{next-one}
use Rattle.cc_lower_follows.proofs.Converging.{begin-is, enclosing_endless, endless_loop-out, jump-is, jump_begin-is, marked-is, resume_endless, resume_loop, resume_past, transition-is}
use Rattle.cc_lower_follows.proofs.Relation.{control_of, loop_remainder}
use Rattle.cc_lower_continues.specs.Continues.{assign_flag, flagged_body, flagged_do, flags_of, leave_unless, new_body, new_locals, read_flag, test_but_first, unsigned_char}
use Rattle.cc_lower_continues_follows.proofs.Addresses.{addressed_same}
use Rattle.cc_lower_continues_follows.proofs.Copies.{Copied, Copies, IsCopy, IsFlagged, Kept, MBlock, MBreak, MContinue, MDo, MDoWhile, MEmpty, MFor, MIf, MReturn, MSwitch, MWhile, Mirrors, copied, first, flag_hidden, hidden, is_flag, is_function_flag}
use Rattle.cc_lower_continues_follows.proofs.ExpressionNames.{expressions_below, optional_below, passed_below, passes_below}
use Rattle.cc_lower_continues_follows.proofs.FlagAccess.{next-assign, next-load, reading}
use Rattle.cc_lower_continues_follows.proofs.FlagLocals.{behind, scalars, unseen}
use Rattle.cc_lower_continues_follows.proofs.Relation.{AreAround, AreZero, AtFunctionEnd, AtStatement, AtTest, FlagsExist, InFlagged, Inside, IsHere, Match, Outside, has_set, holds_at, set_now, zeros_back, zeros_by}

-- ---- what a kind of statement and its copy have in common

module _ (low top : ℕ) where
  pub same_phase : (x y : is.Stmt-F Stmt Case) → Mirrors low top x y → first_phase y ≡ first_phase x
  same_phase _ _ (MDo e nm) = refl
  same_phase _ _ (MIf e a b a' b' c d nm) = refl
  same_phase _ _ (MWhile e a a' c nm) = refl
  same_phase _ _ (MDoWhile e a a' c nm) = refl
  same_phase _ _ (MFor None test again a a' c nm) = refl
  same_phase _ _ (MFor (Some e) test again a a' c nm) = refl
  same_phase _ _ (MSwitch e cs ds c nm) = refl
  same_phase _ _ MBreak = refl
  same_phase _ _ MContinue = refl
  same_phase _ _ (MReturn e nm) = refl
  same_phase _ _ MEmpty = refl
  same_phase _ _ (MBlock a a' c) = refl

  pub same_behind : (x y : is.Stmt-F Stmt Case) → Mirrors low top x y → behind_body y ≡ behind_body x
  same_behind _ _ (MDo e nm) = refl
  same_behind _ _ (MIf e a b a' b' c d nm) = refl
  same_behind _ _ (MWhile e a a' c nm) = refl
  same_behind _ _ (MDoWhile e a a' c nm) = refl
  same_behind _ _ (MFor first test None a a' c nm) = refl
  same_behind _ _ (MFor first test (Some e) a a' c nm) = refl
  same_behind _ _ (MSwitch e cs ds c nm) = refl
  same_behind _ _ MBreak = refl
  same_behind _ _ MContinue = refl
  same_behind _ _ (MReturn e nm) = refl
  same_behind _ _ MEmpty = refl
  same_behind _ _ (MBlock a a' c) = refl

  pub same_passed : (x y : is.Stmt-F Stmt Case) → Mirrors low top x y → (phase : Phase) → passed y phase ≡ passed x phase
  same_passed _ _ (MDo e nm) phase = refl
  same_passed _ _ (MIf e a b a' b' c d nm) phase = refl
  same_passed _ _ (MWhile e a a' c nm) phase = refl
  same_passed _ _ (MDoWhile e a a' c nm) phase = refl
  same_passed _ _ (MFor first test again a a' c nm) phase = refl
  same_passed _ _ (MSwitch e cs ds c nm) phase = refl
  same_passed _ _ MBreak phase = refl
  same_passed _ _ MContinue phase = refl
  same_passed _ _ (MReturn e nm) phase = refl
  same_passed _ _ MEmpty phase = refl
  same_passed _ _ (MBlock a a' c) phase = refl

  pub same_worked : (x y : is.Stmt-F Stmt Case) → Mirrors low top x y → (phase : Phase) → worked y phase ≡ worked x phase
  same_worked _ _ (MDo e nm) phase = refl
  same_worked _ _ (MIf e a b a' b' c d nm) phase = refl
  same_worked _ _ (MWhile e a a' c nm) phase = refl
  same_worked _ _ (MDoWhile e a a' c nm) phase = refl
  same_worked _ _ (MFor first test again a a' c nm) phase = refl
  same_worked _ _ (MSwitch e cs ds c nm) phase = refl
  same_worked _ _ MBreak phase = refl
  same_worked _ _ MContinue phase = refl
  same_worked _ _ (MReturn e nm) phase = refl
  same_worked _ _ MEmpty phase = refl
  same_worked _ _ (MBlock a a' c) phase = refl

  pub same_loop : (x y : is.Stmt-F Stmt Case) → Mirrors low top x y → is_loop y ≡ is_loop x
  same_loop _ _ (MDo e nm) = refl
  same_loop _ _ (MIf e a b a' b' c d nm) = refl
  same_loop _ _ (MWhile e a a' c nm) = refl
  same_loop _ _ (MDoWhile e a a' c nm) = refl
  same_loop _ _ (MFor first test again a a' c nm) = refl
  same_loop _ _ (MSwitch e cs ds c nm) = refl
  same_loop _ _ MBreak = refl
  same_loop _ _ MContinue = refl
  same_loop _ _ (MReturn e nm) = refl
  same_loop _ _ MEmpty = refl
  same_loop _ _ (MBlock a a' c) = refl

  pub same_left : (x y : is.Stmt-F Stmt Case) → Mirrors low top x y → is_left_by_break y ≡ is_left_by_break x
  same_left _ _ (MDo e nm) = refl
  same_left _ _ (MIf e a b a' b' c d nm) = refl
  same_left _ _ (MWhile e a a' c nm) = refl
  same_left _ _ (MDoWhile e a a' c nm) = refl
  same_left _ _ (MFor first test again a a' c nm) = refl
  same_left _ _ (MSwitch e cs ds c nm) = refl
  same_left _ _ MBreak = refl
  same_left _ _ MContinue = refl
  same_left _ _ (MReturn e nm) = refl
  same_left _ _ MEmpty = refl
  same_left _ _ (MBlock a a' c) = refl

  pub names_kept : (x y : is.Stmt-F Stmt Case) → Mirrors low top x y → expressions_below low x ≡ true
  names_kept _ _ (MDo e nm) = nm
  names_kept _ _ (MIf e a b a' b' c d nm) = nm
  names_kept _ _ (MWhile e a a' c nm) = nm
  names_kept _ _ (MDoWhile e a a' c nm) = nm
  names_kept _ _ (MFor first test again a a' c nm) = nm
  names_kept _ _ (MSwitch e cs ds c nm) = nm
  names_kept _ _ MBreak = refl
  names_kept _ _ MContinue = refl
  names_kept _ _ (MReturn e nm) = nm
  names_kept _ _ MEmpty = refl
  names_kept _ _ (MBlock a a' c) = refl

  pub same_opened : (x y : is.Stmt-F Stmt Case) → Mirrors low top x y → Copies low top (opening x) (opening y)
  same_opened _ _ (MDo e nm) = tt
  same_opened _ _ (MIf e a b a' b' c d nm) = tt
  same_opened _ _ (MWhile e a a' c nm) = tt
  same_opened _ _ (MDoWhile e a a' c nm) = c
  same_opened _ _ (MFor first test again a a' c nm) = tt
  same_opened _ _ (MSwitch e cs ds c nm) = tt
  same_opened _ _ MBreak = tt
  same_opened _ _ MContinue = tt
  same_opened _ _ (MReturn e nm) = tt
  same_opened _ _ MEmpty = tt
  same_opened _ _ (MBlock a a' c) = c

module _ (P : Program) where
  abbrev pub Q : Program
  Q = all_extended new_locals new_body P

  abbrev pub LocalsConverge : LocalState → LocalState → Type 0
  LocalsConverge q p = Converges (hidden P) (all_extended new_locals new_body P) P (Match P) q p

  module _ (n f : ℕ) (g : Func) (there : slice_get P.funcs f ≡ Some g) where
    abbrev low : ℕ
    low = first g

    abbrev top : ℕ
    top = first g + flags_of g.body

    abbrev pub base : ControlState
    base = control_of n f (remainder [] First) [] []

    abbrev context : Context
    context = record { program = Q; number = n; id = f; func = extended new_locals new_body g }

    pub is_flag_there : (k : ℕ) → low ≤ k → k < top → is_flag P f k ≡ true
    is_flag_there k h i = is_function_flag P f g k there h i

    pub is_hidden : (k : ℕ) → low ≤ k → k < top → hidden P f k ≡ true
    is_hidden k h i = flag_hidden P f k (is_flag_there k h i)

    pub there_q : slice_get Q.funcs f ≡ Some (extended new_locals new_body g)
    there_q = funcs_same new_locals new_body P f ∙ ap (option_map (extended new_locals new_body)) there

    -- an expression that names no flag does the same
    progress_extended : (ms : List Mark) (e : Option Expr) → optional_below low e ≡ true → progress_in Q n f ms (Some (extended new_locals new_body g)) e ≡ progress_in P n f ms (Some g) e
    progress_extended ms None h = refl
    progress_extended ms (Some e) h = ap (λ (m : Meaning). m.next no_one ms) (meaning_extended new_locals new_body P scalars addressed_same n f g e h)

    progress_same : (ms : List Mark) (e : Option Expr) → optional_below low e ≡ true → progress_at Q n f ms e ≡ progress_at P n f ms e
    progress_same ms e h = ap (λ (o : Option Func). progress_in Q n f ms o e) there_q ∙ progress_extended ms e h ∙ sym (ap (λ (o : Option Func). progress_in P n f ms o e) there)

    pub progress_alike : (here : Remainder) (around : List Remainder) (ms : List Mark) (e : Option Expr) → optional_below low e ≡ true → progress_there Q (control_of n f here around ms) e ≡ progress_there P (control_of n f here around ms) e
    progress_alike here around ms e h = progress_same ms e h

    pub past_alike : (ms : List Mark) (o : Option (Option Expr)) → passes_below low o ≡ true → is_past Q n f ms o ≡ is_past P n f ms o
    past_alike ms None h = refl
    past_alike ms (Some e) h = ap is_known (progress_same ms e h)

    abbrev declared : (k : ℕ) → low ≤ k → k < top → (t : PlaceType) × (option_map (λ l. object_place l.1) (slice_get (g.locals ++ new_locals g) k) ≡ Some t) × (is_seen (Some t) ≡ false)
    declared k from to = (object_place unsigned_char, ap (option_map (λ l. object_place l.1)) (behind g.locals (flags_of g.body) k from to), unseen)

    -- ---- steps of the new program alone

    progress_known : (here : Remainder) (around : List Remainder) (ms : List Mark) (e : Expr) → progress_there Q (control_of n f here around ms) (Some e) ≡ next_of context e ms
    progress_known here around ms e = ap (λ (h : Option Func). progress_in Q n f ms h (Some e)) there_q

    pub transition_known : (x : is.Stmt-F Stmt Case) (here : ControlState) (r : Progress (Option Value)) (v : Value) (ms : List Mark) → is_return x ≡ false → r ≡ Known (Some v) ms → transition_in Q x here r ≡ Jumps (jump_to Q here (next_continuation x here.here here.around v))
    transition_known x here r v ms h e = ap (transition_in Q x here) e ∙ ap (λ (b : Bool). if b then Returns v else Jumps (jump_to Q here (next_continuation x here.here here.around v))) h

    into_body : (inside r : List Stmt) (out : List Remainder) → transition Q (control_of n f (loop_remainder inside r) out []) ≡ Jumps (jump_to Q base (resume inside (loop_remainder inside r ∷ out)))
    into_body inside r out =
        transition-is Q n f (endless_loop inside) r Test out [] (is.While constant_one inside) (endless_loop-out inside r out)
        ∙ transition_known (is.While constant_one inside) (control_of n f (loop_remainder inside r) out []) _ (Int (pos 1)) [] refl (progress_known (loop_remainder inside r) out [] constant_one ∙ next-one context [])
        ∙ ap (λ (b : Remainder). Jumps (jump_to Q base (resume inside (b ∷ out)))) (enclosing_endless inside r out)

    pub jump_begin_endless : (inside r : List Stmt) (out : List Remainder) → jump_to Q base (resume (endless_loop inside ∷ r) out) ≡ control_of n f (loop_remainder inside r) out []
    jump_begin_endless inside r out = jump_begin-is Q n f (endless_loop inside) r out (is.While constant_one inside) (endless_loop-out inside r out) refl refl

    -- a write to a flag: `t = v` in front of others
    module _ (k : ℕ) (from : low ≤ k) (to : k < top) where
      h : hidden P f k ≡ true
      h = is_hidden k from to

      abbrev d : (v : ℕ) → Expr
      d v = roll-Expr (one.Assign (roll-Place (one.Local k)) (roll-Expr (one.Const (pos v) int.UChar)))

      writes : (v : ℕ) (r : List Stmt) (out : List Remainder) → transition Q (control_of n f (remainder (assign_flag k v ∷ r) First) out []) ≡ Performs (Write (own_local base k) false (Int (pos v)))
      writes v r out =
          let t = declared k from to in
          transition-is Q n f (assign_flag k v) r First out [] (is.Do (d v)) (out-roll-Stmt (is.Do (d v)))
          ∙ ap (transition_in Q (is.Do (d v)) (control_of n f (remainder (assign_flag k v ∷ r) First) out [])) (progress_known (remainder (assign_flag k v ∷ r) First) out [] (d v) ∙ next-assign context k t.0 t.1 t.2 v [])

      written : (v : ℕ) (r : List Stmt) (out : List Remainder) → marked_control Q (control_of n f (remainder (assign_flag k v ∷ r) First) out []) Did ≡ jump_to Q base (resume r out)
      written v r out =
          let t = declared k from to in
          marked-is Q n f (assign_flag k v) r First out [] (is.Do (d v)) (out-roll-Stmt (is.Do (d v))) Did
          ∙ ap (λ (z : Progress (Option Value)). if is_known z then jump_to Q base (resume r out) else control_of n f (remainder (assign_flag k v ∷ r) First) out (Did ∷ []))
          (progress_known (remainder (assign_flag k v ∷ r) First) out (Did ∷ []) (d v) ∙ next-assign context k t.0 t.1 t.2 v (Did ∷ []))

      pub assigns : (v : ℕ) (r : List Stmt) (out : List Remainder) (l : Locals) (p : LocalState) → LocalsConverge (local_state (jump_to Q base (resume r out)) (with_scalar l k 0 (Some (Int (pos v))))) p → LocalsConverge (local_state (jump_to Q base (resume (assign_flag k v ∷ r) out)) l) p
      assigns v r out l p j =
          let at : jump_to Q base (resume (assign_flag k v ∷ r) out) ≡ control_of n f (remainder (assign_flag k v ∷ r) First) out [] = jump_begin-is Q n f (assign_flag k v) r out (is.Do (d v)) (out-roll-Stmt (is.Do (d v))) refl refl in
          subst (λ (a : ControlState). LocalsConverge (local_state a l) p) (sym at)
          (QSteps _ p _ (WriteHidden (control_of n f (remainder (assign_flag k v ∷ r) First) out []) l k (Int (pos v)) (writes v r out) h)
          (subst (λ (a : ControlState). LocalsConverge (local_state a (with_scalar l k 0 (Some (Int (pos v))))) p) (sym (written v r out)) j))

      -- ---- the first turn, or a test

      module _ (e : Expr) (a : List Stmt) (out : List Remainder) where
        abbrev inside : List Stmt
        inside = flagged_body k e a

        abbrev asks : is.Stmt-F Stmt Case
        asks = is.If (read_flag k) (assign_flag k 0 ∷ []) (leave_unless e ∷ [])

        abbrev at_turn : List Mark → ControlState
        at_turn ms = control_of n f (remainder inside First) (loop_remainder inside [] ∷ out) ms

        asks-out : out-Stmt (test_but_first k e) ≡ asks
        asks-out = out-roll-Stmt asks

        reads : transition Q (at_turn []) ≡ Performs (Read (own_local base k) (reading context k (declared k from to).0 (declared k from to).1 (declared k from to).2))
        reads =
            let t = declared k from to in
            transition-is Q n f (test_but_first k e) a First (loop_remainder inside [] ∷ out) [] asks asks-out
            ∙ ap (transition_in Q asks (at_turn [])) (progress_known (remainder inside First) (loop_remainder inside [] ∷ out) [] (read_flag k) ∙ next-load context k t.0 t.1 t.2 [])

        chose : (v : ℕ) → transition Q (at_turn (Gave (Some (Int (pos v))) ∷ [])) ≡ Jumps (jump_to Q base (in_arm (is_true (Int (pos v))) (assign_flag k 0 ∷ []) (leave_unless e ∷ []) (remainder inside First ∷ loop_remainder inside [] ∷ out)))
        chose v =
            let t = declared k from to in
            let ms : List Mark = Gave (Some (Int (pos v))) ∷ [] in
            transition-is Q n f (test_but_first k e) a First (loop_remainder inside [] ∷ out) ms asks asks-out
            ∙ transition_known asks (at_turn ms) _ (Int (pos v)) [] refl (progress_known (remainder inside First) (loop_remainder inside [] ∷ out) ms (read_flag k) ∙ next-load context k t.0 t.1 t.2 ms)
            ∙ ap (λ (y : is.Stmt-F Stmt Case). Jumps (jump_to Q base (in_arm (is_true (Int (pos v))) (assign_flag k 0 ∷ []) (leave_unless e ∷ []) (remainder inside (behind_body y) ∷ loop_remainder inside [] ∷ out)))) asks-out

        -- from the loop through the read of the flag
        asked : (v : ℕ) (l : Locals) (p : LocalState) → holds_at l k (Int (pos v)) →
            LocalsConverge (local_state (jump_to Q base (in_arm (is_true (Int (pos v))) (assign_flag k 0 ∷ []) (leave_unless e ∷ []) (remainder inside First ∷ loop_remainder inside [] ∷ out))) l) p → LocalsConverge (local_state (control_of n f (loop_remainder inside []) out []) l) p
        asked v l p i j =
            let t = declared k from to in
            let noted : marked_control Q (at_turn []) (Gave (Some (Int (pos v)))) ≡ at_turn (Gave (Some (Int (pos v))) ∷ []) = marked-is Q n f (test_but_first k e) a First (loop_remainder inside [] ∷ out) [] asks asks-out (Gave (Some (Int (pos v)))) in
            QSteps _ p _ (Jump _ _ l (into_body inside [] out))
            (subst (λ (z : ControlState). LocalsConverge (local_state z l) p) (sym (jump_begin-is Q n f (test_but_first k e) a (loop_remainder inside [] ∷ out) asks asks-out refl refl))
            (QSteps _ p _ (ReadHidden (at_turn []) l k (reading context k t.0 t.1 t.2) (Int (pos v)) reads h refl i)
            (subst (λ (z : ControlState). LocalsConverge (local_state z l) p) (sym noted) (QSteps _ p _ (Jump _ _ l (chose v)) j))))

        -- the first turn, by `t = 1` and `t = 0`
        pub first_turn : (r : List Stmt) (l : Locals) (p : LocalState) → FlagsExist P f l →
            LocalsConverge (local_state (jump_to Q base (resume a (loop_remainder inside [] ∷ out))) (with_scalar (with_scalar l k 0 (Some (Int (pos 1)))) k 0 (Some (Int (pos 0))))) p → LocalsConverge (local_state (jump_to Q base (resume (assign_flag k 1 ∷ endless_loop inside ∷ []) out)) l) p
        first_turn r l p has j =
            assigns 1 (endless_loop inside ∷ []) out l p
            (subst (λ (z : ControlState). LocalsConverge (local_state z (with_scalar l k 0 (Some (Int (pos 1))))) p) (sym (jump_begin_endless inside [] out))
            (asked 1 (with_scalar l k 0 (Some (Int (pos 1)))) p (set_now P f l has k (Int (pos 1)) (is_flag_there k from to))
            (assigns 0 [] (remainder inside First ∷ loop_remainder inside [] ∷ out) (with_scalar l k 0 (Some (Int (pos 1)))) p
            (subst (λ (c : Continuation). LocalsConverge (local_state (jump_to Q base c) (with_scalar (with_scalar l k 0 (Some (Int (pos 1)))) k 0 (Some (Int (pos 0))))) p)
            (sym (resume_past (test_but_first k e) a First (loop_remainder inside [] ∷ out) asks asks-out refl)) j))))

        -- a later one: to the test
        pub later_turn : (l : Locals) (p : LocalState) → holds_at l k (Int (pos 0)) → LocalsConverge (local_state (control_of n f (remainder (leave_unless e ∷ []) First) (remainder inside First ∷ loop_remainder inside [] ∷ out) []) l) p → LocalsConverge (local_state (control_of n f (loop_remainder inside []) out []) l) p
        later_turn l p i j =
            asked 0 l p i (subst (λ (z : ControlState). LocalsConverge (local_state z l) p)
            (sym (jump_begin-is Q n f (leave_unless e) [] (remainder inside First ∷ loop_remainder inside [] ∷ out) (is.If e [] (break_statement ∷ [])) (out-roll-Stmt (is.If e [] (break_statement ∷ []))) refl refl)) j)

    -- ---- at a position of the source

    abbrev A : List Remainder → List Remainder → Type 0
    A around around' = AreAround low top around around'

    abbrev Z : (l : Locals) (around around' : List Remainder) → A around around' → Type 0
    Z l around around' w = AreZero low top l around around' w

    abbrev pub is_here : (around around' : List Remainder) (l : Locals) (w : A around around') → Z l around around' w → FlagsExist P f l → IsHere P f around around' l
    is_here around around' l w z has = record { body = g; function = there; levels = w; zero_flags = z; has = has }

    -- both stand there, or where nothing is left of an expression, both at the test
    pub at_phase : (s t : Stmt) (rest rest' : List Stmt) (phase : Phase) (x y : is.Stmt-F Stmt Case) (around around' : List Remainder) (l m : Locals) (w : A around around') → Z l around around' w → FlagsExist P f l → out-Stmt s ≡ x → out-Stmt t ≡ y →
        Mirrors low top x y → Copies low top rest rest' → LocalsConverge (local_state (jump_to Q base (remainder (t ∷ rest') phase, around')) l) (local_state (jump_to P base (remainder (s ∷ rest) phase, around)) m)
    at_phase s t rest rest' phase x y around around' l m w z has e h mir c =
        let qp : is_past Q n f [] (passed (out-Stmt t) phase) ≡ is_past P n f [] (passed x phase) =
        ap (λ (y : is.Stmt-F Stmt Case). is_past Q n f [] (passed y phase)) h ∙ ap (is_past Q n f []) (same_passed low top x y mir phase) ∙ past_alike [] (passed x phase) (passed_below low x phase (names_kept low top x y mir)) in
        let pp : is_past P n f [] (passed (out-Stmt s) phase) ≡ is_past P n f [] (passed x phase) = ap (λ (y : is.Stmt-F Stmt Case). is_past P n f [] (passed y phase)) e in
        subst (λ (b : Bool). LocalsConverge (local_state (at_continuation base (if b then (remainder (t ∷ rest') Test, around') else (remainder (t ∷ rest') phase, around'))) l) (local_state (jump_to P base (remainder (s ∷ rest) phase, around)) m)) (sym qp)
        (subst (λ (b : Bool). LocalsConverge (local_state (at_continuation base (if is_past P n f [] (passed x phase) then (remainder (t ∷ rest') Test, around') else (remainder (t ∷ rest') phase, around'))) l)
        (local_state (at_continuation base (if b then (remainder (s ∷ rest) Test, around) else (remainder (s ∷ rest) phase, around))) m)) (sym pp) (either (is_past P n f [] (passed x phase))))
      where
        either : (b : Bool) → LocalsConverge (local_state (at_continuation base (if b then (remainder (t ∷ rest') Test, around') else (remainder (t ∷ rest') phase, around'))) l) (local_state (at_continuation base (if b then (remainder (s ∷ rest) Test, around) else (remainder (s ∷ rest) phase, around))) m)
        either true = Matched _ _ (AtStatement n f s t rest rest' Test x y around around' [] l m (is_here around around' l w z has) e h mir c refl refl)
        either false = Matched _ _ (AtStatement n f s t rest rest' phase x y around around' [] l m (is_here around around' l w z has) e h mir c refl refl)

    -- ---- a statement that is begun

    abbrev BeginsAlike : Stmt → Type 0
    BeginsAlike s = (t : Stmt) (rest rest' : List Stmt) (around around' : List Remainder) (l m : Locals) (w : A around around') → Z l around around' w → FlagsExist P f l → IsCopy low top s t → Copies low top rest rest' →
        LocalsConverge (local_state (jump_to Q base (begin_with t rest' around')) l) (local_state (jump_to P base (begin_with s rest around)) m)

    abbrev any_case : Case → Type 0
    any_case c = Unit {0}

    kept_begins : (s t : Stmt) (x y : is.Stmt-F Stmt Case) (os os' : List Stmt) → out-Stmt s ≡ x → out-Stmt t ≡ y → Mirrors low top x y → opening x ≡ os → opening y ≡ os' → Each BeginsAlike os → Copies low top os os' →
        (rest rest' : List Stmt) (around around' : List Remainder) (l m : Locals) (w : A around around') → Z l around around' w → FlagsExist P f l → Copies low top rest rest' →
        LocalsConverge (local_state (jump_to Q base (begin_with t rest' around')) l) (local_state (jump_to P base (begin_with s rest around)) m)
    kept_begins s t x y [] [] e h mir o o' each c rest rest' around around' l m w z has cs =
        subst (λ (a : Continuation). LocalsConverge (local_state (jump_to Q base a) l) (local_state (jump_to P base (begin_with s rest around)) m))
        (sym (begin-is t rest' around' y h o' ∙ ap (λ (p : Phase). (remainder (t ∷ rest') p, around')) (same_phase low top x y mir)))
        (subst (λ (a : Continuation). LocalsConverge (local_state (jump_to Q base (remainder (t ∷ rest') (first_phase x), around')) l) (local_state (jump_to P base a) m)) (sym (begin-is s rest around x e o))
        (at_phase s t rest rest' (first_phase x) x y around around' l m w z has e h mir cs))
    kept_begins s t x y (u ∷ us) (u' ∷ us') e h mir o o' each c rest rest' around around' l m w z has cs =
        let inner : List Remainder = remainder (s ∷ rest) (behind_body x) ∷ around in
        let inner' : List Remainder = remainder (t ∷ rest') (behind_body x) ∷ around' in
        let into_q : begin_with t rest' around' ≡ begin_with u' us' inner' =
        begin_enters t u' rest' us' around' (ap opening h ∙ o') ∙ ap (λ (p : Phase). begin_with u' us' (remainder (t ∷ rest') p ∷ around')) (ap behind_body h ∙ same_behind low top x y mir) in
        let into_p : begin_with s rest around ≡ begin_with u us inner = begin_enters s u rest us around (ap opening e ∙ o) ∙ ap (λ (p : Phase). begin_with u us (remainder (s ∷ rest) p ∷ around)) (ap behind_body e) in
        subst (λ (a : Continuation). LocalsConverge (local_state (jump_to Q base a) l) (local_state (jump_to P base (begin_with s rest around)) m)) (sym into_q)
        (subst (λ (a : Continuation). LocalsConverge (local_state (jump_to Q base (begin_with u' us' inner')) l) (local_state (jump_to P base a) m)) (sym into_p)
        (each.0 u' us us' inner inner' l m (Inside s t rest rest' (behind_body x) x y around around' e h mir refl cs w) z has c.0 c.1))
    kept_begins s t x y [] (u' ∷ us') e h mir o o' each c rest rest' around around' l m w z has cs = absurd c
    kept_begins s t x y (u ∷ us) [] e h mir o o' each c rest rest' around around' l m w z has cs = absurd c

    flagged_begins : (s t u : Stmt) (us : List Stmt) (e : Expr) (k : ℕ) (a' : List Stmt) → names_below low e ≡ true → out-Stmt s ≡ is.DoWhile (u ∷ us) e → t ≡ flagged_do k e a' → low ≤ k → k < top → Each BeginsAlike (u ∷ us) → Copies low top (u ∷ us) a' →
        (rest rest' : List Stmt) (around around' : List Remainder) (l m : Locals) (w : A around around') → Z l around around' w → FlagsExist P f l → Copies low top rest rest' →
        LocalsConverge (local_state (jump_to Q base (begin_with t rest' around')) l) (local_state (jump_to P base (begin_with s rest around)) m)
    flagged_begins s t u us e k [] ne h i from to each c rest rest' around around' l m w z has cs = absurd c
    flagged_begins s t u us e k (u' ∷ us') ne h i from to each c rest rest' around around' l m w z has cs =
        let a' : List Stmt = u' ∷ us' in
        let hid : is_flag P f k ≡ true = is_flag_there k from to in
        let block : List Remainder = remainder (flagged_do k e a' ∷ rest') First ∷ around' in
        let inner : List Remainder = remainder (s ∷ rest) Test ∷ around in
        let inner' : List Remainder = loop_remainder (flagged_body k e a') [] ∷ block in
        let once : Locals = with_scalar l k 0 (Some (Int (pos 1))) in
        let now : Locals = with_scalar once k 0 (Some (Int (pos 0))) in
        let flagged_do-out : out-Stmt (flagged_do k e a') ≡ is.Block (assign_flag k 1 ∷ endless_loop (flagged_body k e a') ∷ []) = out-roll-Stmt (is.Block (assign_flag k 1 ∷ endless_loop (flagged_body k e a') ∷ [])) in
        let into_q : begin_with t rest' around' ≡ resume (assign_flag k 1 ∷ endless_loop (flagged_body k e a') ∷ []) block =
        ap (λ (y : Stmt). begin_with y rest' around') i ∙ begin_enters (flagged_do k e a') (assign_flag k 1) rest' (endless_loop (flagged_body k e a') ∷ []) around' (ap opening flagged_do-out)
        ∙ ap (λ (y : is.Stmt-F Stmt Case). resume (assign_flag k 1 ∷ endless_loop (flagged_body k e a') ∷ []) (remainder (flagged_do k e a' ∷ rest') (behind_body y) ∷ around')) flagged_do-out in
        let into_p : begin_with s rest around ≡ begin_with u us inner = begin_enters s u rest us around (ap opening h) ∙ ap (λ (y : is.Stmt-F Stmt Case). begin_with u us (remainder (s ∷ rest) (behind_body y) ∷ around)) h in
        let zero_flags : Z now around around' w = zeros_by P f low top is_flag_there l now (zeros_back P f low top is_flag_there l has k hid) around around' w z in
        let body : LocalsConverge (local_state (jump_to Q base (begin_with u' us' inner')) now) (local_state (jump_to P base (begin_with u us inner)) m) =
        each.0 u' us us' inner inner' now m (InFlagged s rest rest' u us e k a' around around' ne h from to c cs w) (set_now P f once (has_set P f l has k (Int (pos 1))) k (Int (pos 0)) hid, zero_flags)
        (has_set P f once (has_set P f l has k (Int (pos 1))) k (Int (pos 0))) c.0 c.1 in
        subst (λ (a : Continuation). LocalsConverge (local_state (jump_to Q base a) l) (local_state (jump_to P base (begin_with s rest around)) m)) (sym into_q)
        (subst (λ (a : Continuation). LocalsConverge (local_state (jump_to Q base (resume (assign_flag k 1 ∷ endless_loop (flagged_body k e a') ∷ []) block)) l) (local_state (jump_to P base a) m)) (sym into_p)
        (first_turn k from to e a' block [] l (local_state (jump_to P base (begin_with u us inner)) m) has body))

    begins_by : (s t : Stmt) → Copied low top s t → (os : List Stmt) → opening (out-Stmt s) ≡ os → Each BeginsAlike os → (rest rest' : List Stmt) (around around' : List Remainder) (l m : Locals) (w : A around around') → Z l around around' w → FlagsExist P f l →
        Copies low top rest rest' → LocalsConverge (local_state (jump_to Q base (begin_with t rest' around')) l) (local_state (jump_to P base (begin_with s rest around)) m)
    begins_by s t (Kept x y e h mir) os o each =
        kept_begins s t x y (opening x) (opening y) e h mir refl refl (subst (λ (l : List Stmt). Each BeginsAlike l) (sym o ∙ ap opening e) each) (same_opened low top x y mir)
    begins_by s t (IsFlagged u a e k a' ne h i from to c) os o each = flagged_begins s t u a e k a' ne h i from to (subst (λ (l : List Stmt). Each BeginsAlike l) (sym o ∙ ap opening h) each) c

    opening_parts : (x : is.Stmt-F Stmt Case) → StmtParts BeginsAlike any_case x → Each BeginsAlike (opening x)
    opening_parts (is.Do e) h = tt
    opening_parts (is.If e a b) h = tt
    opening_parts (is.While e a) h = tt
    opening_parts (is.DoWhile a e) h = h
    opening_parts (is.For start test again a) h = tt
    opening_parts (is.Switch e cases) h = tt
    opening_parts is.Break h = tt
    opening_parts is.Continue h = tt
    opening_parts (is.Return e) h = tt
    opening_parts is.Empty h = tt
    opening_parts (is.Block a) h = h

    begins_level : (x : is.Stmt-F Stmt Case) → StmtParts BeginsAlike any_case x → BeginsAlike (roll-Stmt x)
    begins_level x h t rest rest' around around' l m w z has c cs =
        begins_by (roll-Stmt x) t (copied low top (roll-Stmt x) t c) (opening x) (ap opening (out-roll-Stmt x)) (opening_parts x h) rest rest' around around' l m w z has cs

    pub begins : (s : Stmt) → BeginsAlike s
    begins s = by_stmt BeginsAlike any_case begins_level (λ x h. tt) s

    -- ---- a list, and where it is done

    abbrev pub ResumesAlike : List Stmt → List Stmt → List Remainder → List Remainder → Locals → Locals → Type 0
    ResumesAlike k k' around around' l m = LocalsConverge (local_state (jump_to Q base (resume k' around')) l) (local_state (jump_to P base (resume k around)) m)

    by_list : (k k' : List Stmt) → Copies low top k k' → (around around' : List Remainder) (l m : Locals) (w : A around around') → Z l around around' w → FlagsExist P f l → ResumesAlike [] [] around around' l m → ResumesAlike k k' around around' l m
    by_list [] [] c around around' l m w z has j = j
    by_list (s ∷ k) (t ∷ k') c around around' l m w z has j = begins s t k k' around around' l m w z has c.0 c.1
    by_list [] (t ∷ k') c around around' l m w z has j = absurd c
    by_list (s ∷ k) [] c around around' l m w z has j = absurd c

    -- at a loop with a flag, behind its first turn
    pub flagged_again : (s : Stmt) (rest rest' : List Stmt) (u : Stmt) (a : List Stmt) (e : Expr) (k : ℕ) (a' : List Stmt) (around around' : List Remainder) (l m : Locals) (w : A around around') → Z l around around' w → FlagsExist P f l → names_below low e ≡ true →
        out-Stmt s ≡ is.DoWhile (u ∷ a) e → low ≤ k → k < top → Copies low top (u ∷ a) a' → Copies low top rest rest' → holds_at l k (Int (pos 0)) →
        LocalsConverge (local_state (control_of n f (loop_remainder (flagged_body k e a') []) (remainder (flagged_do k e a' ∷ rest') First ∷ around') []) l) (local_state (jump_to P base (remainder (s ∷ rest) Test, around)) m)
    flagged_again s rest rest' u a e k a' around around' l m w z has ne h from to c cs zero =
        let here : ControlState = control_of n f (remainder (s ∷ rest) Test) around [] in
        subst (λ (p : ControlState). LocalsConverge (local_state (control_of n f (loop_remainder (flagged_body k e a') []) (remainder (flagged_do k e a' ∷ rest') First ∷ around') []) l) (local_state p m)) (sym (jump-is P n f s rest Test around (is.DoWhile (u ∷ a) e) h refl))
        (later_turn k from to e a' (remainder (flagged_do k e a' ∷ rest') First ∷ around') l (local_state here m) zero
        (Matched _ _ (AtTest n f s rest rest' u a e k a' around around' [] l m (is_here around around' l w z has) ne h from to c cs zero refl refl)))

    pub jump_flagged_loop : (inside r : List Stmt) (out : List Remainder) → jump_to Q base (loop_remainder inside r, out) ≡ control_of n f (loop_remainder inside r) out []
    jump_flagged_loop inside r out = jump-is Q n f (endless_loop inside) r Test out (is.While constant_one inside) (endless_loop-out inside r out) refl

    list_end : (around around' : List Remainder) (l m : Locals) (w : A around around') → Z l around around' w → FlagsExist P f l → ResumesAlike [] [] around around' l m
    list_end _ _ l m Outside z has = Matched _ _ (AtFunctionEnd n f [] l m refl refl)
    list_end _ _ l m (Inside s t rest rest' phase x y around around' e h mir b c w) z has = by_loop (by_list rest rest' c around around' l m w z has (list_end around around' l m w z has)) (is_loop x) refl
      where
        by_loop : ResumesAlike rest rest' around around' l m → (o : Bool) → is_loop x ≡ o → ResumesAlike [] [] (remainder (s ∷ rest) phase ∷ around) (remainder (t ∷ rest') phase ∷ around') l m
        by_loop j true o =
            subst (λ (a : Continuation). LocalsConverge (local_state (jump_to Q base a) l) (local_state (jump_to P base (resume [] (remainder (s ∷ rest) phase ∷ around))) m)) (sym (resume_loop t rest' phase around' y h (same_loop low top x y mir ∙ o)))
            (subst (λ (a : Continuation). LocalsConverge (local_state (jump_to Q base (remainder (t ∷ rest') phase, around')) l) (local_state (jump_to P base a) m)) (sym (resume_loop s rest phase around x e o))
            (at_phase s t rest rest' phase x y around around' l m w z has e h mir c))
        by_loop j false o =
            subst (λ (a : Continuation). LocalsConverge (local_state (jump_to Q base a) l) (local_state (jump_to P base (resume [] (remainder (s ∷ rest) phase ∷ around))) m)) (sym (resume_past t rest' phase around' y h (same_loop low top x y mir ∙ o)))
            (subst (λ (a : Continuation). LocalsConverge (local_state (jump_to Q base (resume rest' around')) l) (local_state (jump_to P base a) m)) (sym (resume_past s rest phase around x e o)) j)
    list_end _ _ l m (InFlagged s rest rest' u a e k a' around around' ne h from to c cs w) z has =
        subst (λ (q : ControlState). LocalsConverge (local_state q l) (local_state (jump_to P base (resume [] (remainder (s ∷ rest) Test ∷ around))) m))
        (sym (ap (jump_to Q base) (resume_endless (flagged_body k e a') [] (remainder (flagged_do k e a' ∷ rest') First ∷ around')) ∙ jump_flagged_loop (flagged_body k e a') [] (remainder (flagged_do k e a' ∷ rest') First ∷ around')))
        (subst (λ (a : Continuation). LocalsConverge (local_state (control_of n f (loop_remainder (flagged_body k e a') []) (remainder (flagged_do k e a' ∷ rest') First ∷ around') []) l) (local_state (jump_to P base a) m)) (sym (resume_loop s rest Test around (is.DoWhile (u ∷ a) e) h refl))
        (flagged_again s rest rest' u a e k a' around around' l m w z.1 has ne h from to c cs z.0))

    pub resumes_alike : (k k' : List Stmt) → Copies low top k k' → (around around' : List Remainder) (l m : Locals) (w : A around around') → Z l around around' w → FlagsExist P f l → ResumesAlike k k' around around' l m
    resumes_alike k k' c around around' l m w z has = by_list k k' c around around' l m w z has (list_end around around' l m w z has)
