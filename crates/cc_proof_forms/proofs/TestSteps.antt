-- A test, and the operand of a return, ask for steps of operands alone, and stay at their statement.
use Rattle.std.proofs.Common.{◌≡◌, ℕ, true, List, Some, sym, ◌∙◌}
use Rattle.cc_flow_sound.proofs.CcEval.Works.{answers_of}
use Rattle.cc_flow_sound.specs.CcEval.Context.{Context}
use Rattle.cc_flow_sound.specs.CcEval.declared.action.Action.{Action}
use Rattle.cc_flow_sound.specs.CcEval.declared.mark.Mark.{Mark}
use Rattle.cc_flow_sound.specs.CcEval.Eval.{meaning, next_of}
use Rattle.cc_flow_sound.specs.CcEval.Marks.{AnswerSteps}
use Rattle.cc_flow_sound.specs.CcEval.Progress.{Waits}
use Rattle.cc_program.specs.declared.expr.Expr.{Expr}
use Rattle.cc_program.specs.declared.func.Func.{Func}
use Rattle.cc_program.specs.declared.program.Program.{Program}
use Rattle.cc_program.specs.declared.stmt.Case.{Case}
use Rattle.cc_program.specs.declared.stmt.Stmt.TheOpen as is
use Rattle.cc_program.specs.declared.stmt.Stmt.{Stmt, out-Stmt}
use Rattle.cc_proof_covers.proofs.Pure.{pure_quiet}
use Rattle.cc_proof_covers.proofs.Statements.{AtStatement, marked_is, progress_is, works_on}
use Rattle.cc_proof_covers.specs.Invariant.{IsCurrent, AreCurrent}
use Rattle.cc_proof_covers.specs.Rules.{GoesOn, Allowed}
use Rattle.cc_proof_covers.specs.Views.{View}
use Rattle.cc_proof_forms.proofs.FullSteps.{operand_step}
use Rattle.cc_flow_sound.specs.CcStates.States.{expression_of, context_in}
use Rattle.cc_flow_sound.specs.CcSteps.State.{Active, Memory}
use Rattle.cc_flow_sound.specs.CcSteps.Step.{progress_of}
use Rattle.cc_flow_sound.specs.CcSyntax.Effects.{no_one}

module _ (p : Program) (v : View) (m : Memory) (a : Active) (f : Func) (n : ℕ) (at : AtStatement p a f) (current : AreCurrent p v m a f n) where
  abbrev c : Context
  c = context_in p a f

  abbrev IsMark : Action → Mark → Type 0
  IsMark = IsCurrent p v m a f n

  module _ (e : Expr) (pure : (meaning c e).effects.pure no_one ≡ true) where
    pure_allowed : expression_of a ≡ Some e → GoesOn p v m a f n → (action : Action) → progress_of p a (expression_of a) ≡ Waits action → Allowed p v m a f n action
    pure_allowed works on action h = operand_step p v m a f n action ((pure_quiet c IsMark e no_one pure no_one).waits a.marks action answers (sym (progress_is p a f at e works a.marks) ∙ h)) on
      where
        answers : AnswerSteps IsMark (next_of c e) a.marks
        answers = answers_of IsMark (next_of c e) a.marks (λ front back mark split. let w = current front back mark split in (w.0, sym (progress_is p a f at e works front) ∙ w.1, w.2))

    pub if_allowed : (these those : List Stmt) → out-Stmt at.statement ≡ is.If e these those → (action : Action) → progress_of p a (expression_of a) ≡ Waits action → Allowed p v m a f n action
    if_allowed these those i = pure_allowed (works_on p a f at (is.If e these those) i) (λ mark. marked_is p a f at mark (is.If e these those) i)

    pub while_allowed : (body : List Stmt) → out-Stmt at.statement ≡ is.While e body → (action : Action) → progress_of p a (expression_of a) ≡ Waits action → Allowed p v m a f n action
    while_allowed body i = pure_allowed (works_on p a f at (is.While e body) i) (λ mark. marked_is p a f at mark (is.While e body) i)

    pub switch_allowed : (cases : List Case) → out-Stmt at.statement ≡ is.Switch e cases → (action : Action) → progress_of p a (expression_of a) ≡ Waits action → Allowed p v m a f n action
    switch_allowed cases i = pure_allowed (works_on p a f at (is.Switch e cases) i) (λ mark. marked_is p a f at mark (is.Switch e cases) i)

    pub return_allowed : out-Stmt at.statement ≡ is.Return (Some e) → (action : Action) → progress_of p a (expression_of a) ≡ Waits action → Allowed p v m a f n action
    return_allowed i = pure_allowed (works_on p a f at (is.Return (Some e)) i) (λ mark. marked_is p a f at mark (is.Return (Some e)) i)
