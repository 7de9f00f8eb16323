-- An expression statement whose full expression asks for operands, and then for one step: each step that it asks for is allowed where those of
-- the operands are, and the last one.
use Rattle.std.proofs.Common.{◌≡◌, ◌⊎◌, inl, inr, ℕ, List, [], ◌∷◌, ◌++◌, Option, Some, refl, ap, sym, ◌∙◌, subst}
use Rattle.cc_flow_sound.proofs.CcEval.Works.{answers_of, left_answers}
use Rattle.cc_flow_sound.specs.CcEval.Context.{Context}
use Rattle.cc_flow_sound.specs.CcEval.declared.action.Action.{Action}
use Rattle.cc_flow_sound.specs.CcEval.declared.mark.Mark.{Mark}
use Rattle.cc_flow_sound.specs.CcEval.Eval.{next_of}
use Rattle.cc_flow_sound.specs.CcEval.Marks.{UsesFirst, Works, AnswerSteps}
use Rattle.cc_flow_sound.specs.CcEval.Progress.{Known, Waits, Get, ask, bind}
use Rattle.cc_program.specs.declared.expr.Expr.{Expr}
use Rattle.cc_program.specs.declared.func.Func.{Func}
use Rattle.cc_program.specs.declared.program.Program.{Program}
use Rattle.cc_program.specs.declared.stmt.Stmt.TheOpen as is
use Rattle.cc_program.specs.declared.stmt.Stmt.{out-Stmt}
use Rattle.cc_program.specs.declared.value.Value.{Value}
use Rattle.cc_proof_covers.specs.Operands.{IsOperandStep}
use Rattle.cc_proof_covers.proofs.Statements.{AtStatement, own, progress_is, works_e, stays, ends}
use Rattle.cc_proof_covers.specs.Invariant.{EndsAt, IsCurrent, AreCurrent}
use Rattle.cc_proof_covers.specs.Rules.{GoesOn, Allowed}
use Rattle.cc_proof_covers.specs.Views.{View}
use Rattle.cc_proof_forms.proofs.LastStep.{IsOneStep, IsOperand, IsFinal, operand_or_final}
use Rattle.cc_flow_sound.specs.CcStates.States.{expression_of, context_in}
use Rattle.cc_flow_sound.specs.CcSteps.State.{Active, Memory}
use Rattle.cc_flow_sound.specs.CcSteps.Step.{progress_at, progress_of}

module _ (p : Program) (v : View) (m : Memory) (a : Active) (f : Func) (n : ℕ) where
  -- a step of operands: a register is read whole, and a branch is chosen
  pub operand_step : (action : Action) → IsOperandStep (context_in p a f) action → GoesOn p v m a f n → Allowed p v m a f n action
  operand_step action (inl h) on = subst (Allowed p v m a f n) (sym h.3) ((λ same register. refl), on)
  operand_step action (inr h) on = subst (Allowed p v m a f n) (sym h.1) on

  module _ (at : AtStatement p a f) (e : Expr) (is_do : out-Stmt at.statement ≡ is.Do e) (current : AreCurrent p v m a f n) where
    abbrev pub c : Context
    c = context_in p a f

    -- the point behind it
    abbrev pub next : ℕ
    next = (own p a f at).behind

    abbrev pub IsMark : Action → Mark → Type 0
    IsMark = IsCurrent p v m a f n

    pub next_is : (ms : List Mark) → progress_at p a.number a.func ms (expression_of a) ≡ next_of c e ms
    next_is ms = progress_is p a f at e (works_e p a f at e is_do) ms

    pub its_answers : AnswerSteps IsMark (next_of c e) a.marks
    its_answers = answers_of IsMark (next_of c e) a.marks (λ front back mark split. let w = current front back mark split in (w.0, sym (next_is front) ∙ w.1, w.2))

    -- where no mark is one of its last step its value is not known yet
    pub not_known : Works IsMark (λ action. Unit {0}) (λ w. ⊥) (next_of c e) → (w : Value) (ms : List Mark) → progress_of p a (expression_of a) ≡ Known (Some w) ms → ⊥
    not_known works w ms h = (works.known a.marks ms (Some w) its_answers (sym (next_is a.marks) ∙ h)).1

    module _ (A : Type 0) (ops : Get A) (last : A → Get (Option Value)) (e_is : (ms : List Mark) → next_of c e ms ≡ bind ops last ms) (uses : UsesFirst ops) (one : (q : A) → IsOneStep (last q)) (P : A → Type 0) (IsStep : Action → Type 0)
        (works : Works IsMark IsStep P ops) where
      all_answers : AnswerSteps IsMark (bind ops last) a.marks
      all_answers front back mark action split h = its_answers front back mark action split (e_is front ∙ h)

      pub ops_answers : AnswerSteps IsMark ops a.marks
      ops_answers = left_answers IsMark ops last a.marks all_answers

      module _ (asks : (action : Action) → IsStep action → ops a.marks ≡ Waits action → GoesOn p v m a f n → Allowed p v m a f n action)
          (does : (q : A) → P q → (action : Action) (result : Mark → Option Value) → ((ns : List Mark) → last q ns ≡ ask action result ns) → ((mark : Mark) (w : Value) → result mark ≡ Some w → EndsAt p f a next mark) → Allowed p v m a f n action) where
        operand_allowed : (action : Action) → IsOperand ops last uses one a.marks action → Allowed p v m a f n action
        operand_allowed action h =
            asks action (works.waits a.marks action ops_answers h.waits) h.waits
            (λ mark. stays p a f at e is_do mark (λ w ms k. h.goes_on mark (Some w) ms (sym (e_is (a.marks ++ mark ∷ [])) ∙ k)))

        final_allowed : (action : Action) → IsFinal ops last uses one a.marks action → Allowed p v m a f n action
        final_allowed action h =
            does h.value (works.known a.marks [] h.value ops_answers h.known).1 action h.result h.step
            (λ mark w g. ends p a f at e is_do mark w [] (e_is (a.marks ++ mark ∷ []) ∙ h.ends mark ∙ ap (λ (z : Option Value). Known z []) g))

        by_step : (action : Action) → IsOperand ops last uses one a.marks action ⊎ IsFinal ops last uses one a.marks action → Allowed p v m a f n action
        by_step action (inl h) = operand_allowed action h
        by_step action (inr h) = final_allowed action h

        pub step_allowed : (action : Action) → progress_of p a (expression_of a) ≡ Waits action → Allowed p v m a f n action
        step_allowed action h = by_step action (operand_or_final ops last uses one a.marks action (sym (e_is a.marks) ∙ sym (next_is a.marks) ∙ h))
