-- A return gives a value of its operand, and the exit has the memory.
use Rattle.std.proofs.Common.{◌≡◌, ℕ, true, List, Some, None, sym, ◌∙◌}
use Rattle.cc_flow_sound.proofs.CcEval.Works.{answers_of}
use Rattle.cc_flow_sound.specs.CcEval.declared.action.Action.{Action}
use Rattle.cc_flow_sound.specs.CcEval.declared.mark.Mark.{Mark}
use Rattle.cc_flow_sound.specs.CcEval.Eval.{meaning, next_of}
use Rattle.cc_flow_sound.specs.CcEval.Marks.{Works, AnswerSteps}
use Rattle.cc_flow_sound.specs.CcEval.Progress.{Known}
use Rattle.cc_program.specs.declared.expr.Expr.{Expr}
use Rattle.cc_program.specs.declared.func.Func.{Func}
use Rattle.cc_program.specs.declared.program.Program.{Program}
use Rattle.cc_program.specs.declared.stmt.Stmt.TheOpen as is
use Rattle.cc_program.specs.declared.stmt.Stmt.{out-Stmt}
use Rattle.cc_program.specs.declared.value.Value.{Value}
use Rattle.cc_proof_covers.specs.Operands.{IsOperandStep}
use Rattle.cc_proof_covers.proofs.Statements.{AtStatement, works_on, progress_is}
use Rattle.cc_proof_covers.specs.Invariant.{exit_of, IsCurrent, AreCurrent}
use Rattle.cc_proof_covers.specs.Rules.{Flows, KeepsFlag, Leaves}
use Rattle.cc_proof_covers.specs.Views.{View}
use Rattle.cc_proof_forms.specs.Sets.{Good}
use Rattle.cc_flow_sound.specs.CcStates.States.{expression_of, context_in}
use Rattle.cc_flow_sound.specs.CcSteps.State.{Active, Memory}
use Rattle.cc_flow_sound.specs.CcSteps.Step.{gives_nothing, progress_of}
use Rattle.cc_flow_sound.specs.CcSyntax.Effects.{Registers, no_one}

module _ (p : Program) (v : View) (m : Memory) (a : Active) (f : Func) (n : ℕ) (at : AtStatement p a f) (current : AreCurrent p v m a f n) (w : Value) (ms : List Mark) (known : progress_of p a (expression_of a) ≡ Known (Some w) ms) where
  abbrev IsMark : Action → Mark → Type 0
  IsMark = IsCurrent p v m a f n

  -- the value that is known of a full expression that asks for operands alone has their property
  module _ (e : Expr) (works : expression_of a ≡ Some e) (val : Value → Type 0) (operand : (later : Registers) → Works IsMark (IsOperandStep (context_in p a f)) (Good val) ((meaning (context_in p a f) e).next later)) where
    answers : AnswerSteps IsMark (next_of (context_in p a f) e) a.marks
    answers = answers_of IsMark (next_of (context_in p a f) e) a.marks (λ front back mark split. let h = current front back mark split in (h.0, sym (progress_is p a f at e works front) ∙ h.1, h.2))

    pub known_in : val w
    known_in = ((operand no_one).known a.marks ms (Some w) answers (sym (progress_is p a f at e works a.marks) ∙ known)).1

  -- `return operand`
  pub returned_leaves : (e : Expr) → out-Stmt at.statement ≡ is.Return (Some e) → (val : Value → Type 0) →
      ((later : Registers) → Works IsMark (IsOperandStep (context_in p a f)) (Good val) ((meaning (context_in p a f) e).next later)) → ((x : Value) → val x → v.result a.func x) →
      Flows p v n (exit_of p a.func f) None None → KeepsFlag p v n (exit_of p a.func f) → Leaves p v m a f n w
  returned_leaves e returns val operand result flows keeps = record {
    result = λ h. result w (known_in e (works_on p a f at (is.Return (Some e)) returns) val operand);
    flows = flows;
    keeps = keeps;
  }

  -- `return`, of a function that gives nothing
  pub left_leaves : gives_nothing (Some f) ≡ true → Flows p v n (exit_of p a.func f) None None → KeepsFlag p v n (exit_of p a.func f) → Leaves p v m a f n w
  left_leaves none flows keeps = record { result = λ h. absurd (cc); flows = flows; keeps = keeps }
