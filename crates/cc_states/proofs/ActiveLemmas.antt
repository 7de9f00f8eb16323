-- An activation that has done one more step of its full expression, or goes on elsewhere in its function, is one of its function still.
use Rattle.std.proofs.Common.{◌<◌, ◌≡◌, ℕ, Bool, true, false, List, [], ◌∷◌, ◌++◌, Option, Some, None, refl, ap, sym, ◌∙◌, subst}
use Rattle.std.specs.Prelude.{if◌then◌else◌}
use Rattle.cc_program.specs.declared.expr.Expr.{Expr}
use Rattle.cc_program.specs.declared.func.Func.{Func}
use Rattle.cc_program.specs.declared.program.Program.{Program}
use Rattle.cc_program.specs.declared.stmt.Case.{Case}
use Rattle.cc_program.specs.declared.stmt.Stmt.{Stmt, out-Stmt}
use Rattle.cc_program.specs.declared.stmt.Stmt.TheOpen as is
use Rattle.cc_program.specs.declared.value.Address.TheVariants as address
use Rattle.cc_steps.specs.CcControl.Control.{Control, behind}
use Rattle.cc_steps.specs.CcEval.declared.action.Action.{Action}
use Rattle.cc_steps.specs.CcEval.declared.action.Action.TheVariants.{Call}
use Rattle.cc_steps.specs.CcEval.declared.mark.Mark.{Mark}
use Rattle.cc_steps.specs.CcEval.Context.{Context}
use Rattle.cc_steps.specs.CcEval.Eval.{next_of}
use Rattle.cc_steps.proofs.CcEval.MarkLemmas.{nothing_in}
use Rattle.cc_steps.proofs.CcEval.Works.{one_answer}
use Rattle.cc_steps.specs.CcEval.Progress.{Waits}
use Rattle.cc_steps.specs.State.{Active, IsSameCall}
use Rattle.cc_steps.specs.Step.{moved, with_mark, at_test, progress_in, progress_of, is_known, passes, begun_at, goes_to, settled_in, settled, marked}
use Rattle.cc_states.specs.Answers.{IsMarkOf}
use Rattle.cc_states.specs.Inside.{AreInside}
use Rattle.cc_states.specs.States.{AreSound, expression_of, AreMarks, context_in, IsActive, AreCalled, AreInOrder}
use Rattle.cc_states.proofs.ControlLemmas.{behind_sound}
use Rattle.cc_states.proofs.InsideLemmas.{HasFirst, behind_inside}

-- ---- marks

pub no_marks : (c : Context) (openings : List ℕ) (x : Option Expr) → AreMarks c openings x []
no_marks c openings None = refl
no_marks c openings (Some e) = λ front back m split. absurd (nothing_in front back m split)

module _ (p : Program) (openings : List ℕ) where
  -- ---- elsewhere in the function

  abbrev Stands : Func → Control → Type 0
  Stands f at = AreSound p f (at.0 ∷ at.1) × AreInside f.body (at.0 ∷ at.1)

  pub moved_active : (a : Active) (h : IsActive p openings a) (at : Control) → Stands h.func at → IsActive p openings (moved a at)
  moved_active a h at k = record {
    func = h.func;
    function = h.function;
    number = h.number;
    entry = h.entry;
    locals = h.locals;
    parameters = h.parameters;
    control = k.0;
    inside = k.1;
    marks = no_marks (context_in p a h.func) openings (expression_of (moved a at));
  }

  pub begun_by : (f : Func) (at : Control) (b : Bool) → Stands f at → Stands f (if b then (at_test at.0, at.1) else at)
  begun_by f at true h = h
  begun_by f at false h = h

  pub goes_active : (a : Active) (h : IsActive p openings a) (at : Control) → Stands h.func at → IsActive p openings (goes_to p a at)
  goes_active a h at k = moved_active a h (begun_at p a.number a.func at) (begun_by h.func at (passes p a.number a.func [] at.0) k)

  either_active : (b : Bool) (these those : Active) → IsActive p openings these → IsActive p openings those → IsActive p openings (if b then these else those)
  either_active true these those h k = h
  either_active false these those h k = k

  settled_by : (x : is.Stmt-F Stmt Case) (a : Active) → HasFirst a.here.rest → IsActive p openings a → IsActive p openings (settled_in p x a)
  settled_by (is.Do e) a f h = either_active (is_known (progress_of p a (Some e))) (goes_to p a (behind a.here a.around)) a (goes_active a h (behind a.here a.around) (behind_sound p h.func a.here a.around h.control, behind_inside h.func.body a.here a.around f h.inside)) h
  settled_by (is.If e these those) a f h = h
  settled_by (is.While e body) a f h = h
  settled_by (is.DoWhile body e) a f h = h
  settled_by (is.For first test again body) a f h = either_active (passes p a.number a.func a.marks a.here) (moved a (at_test a.here, a.around)) a (moved_active a h (at_test a.here, a.around) (h.control, h.inside)) h
  settled_by (is.Switch e cases) a f h = h
  settled_by is.Break a f h = h
  settled_by is.Continue a f h = h
  settled_by (is.Return e) a f h = h
  settled_by is.Empty a f h = h
  settled_by (is.Block body) a f h = h

  settled_active : (list : List Stmt) (a : Active) → a.here.rest ≡ list → IsActive p openings a → IsActive p openings (settled p list a)
  settled_active [] a e h = h
  settled_active (s ∷ rest) a e h = settled_by (out-Stmt s) a (s, rest, e) h

  -- ---- one more mark

  marks_by : (a : Active) (h : IsActive p openings a) (m : Mark) (action : Action) (x : Option Expr) → AreMarks (context_in p a h.func) openings x a.marks → progress_in p a.number a.func a.marks (Some h.func) x ≡ Waits action →
      IsMarkOf p openings action m → AreMarks (context_in p a h.func) openings x (a.marks ++ m ∷ [])
  marks_by a h m action None k w i = absurd (cc)
  marks_by a h m action (Some e) k w i = one_answer (IsMarkOf p openings) (next_of (context_in p a h.func) e) a.marks m action k w i

  with_mark_active : (a : Active) (h : IsActive p openings a) (m : Mark) (action : Action) → progress_of p a (expression_of a) ≡ Waits action → IsMarkOf p openings action m → IsActive p openings (with_mark a m)
  with_mark_active a h m action w i = record {
    func = h.func;
    function = h.function;
    number = h.number;
    entry = h.entry;
    locals = h.locals;
    parameters = h.parameters;
    control = h.control;
    inside = h.inside;
    marks = marks_by a h m action (expression_of a) h.marks (ap (λ (f : Option Func). progress_in p a.number a.func a.marks f (expression_of a)) (sym h.function) ∙ w) i;
  }

  pub marked_active : (a : Active) → IsActive p openings a → (m : Mark) (action : Action) → progress_of p a (expression_of a) ≡ Waits action → IsMarkOf p openings action m → IsActive p openings (marked p a m)
  marked_active a h m action w i = settled_active a.here.rest (with_mark a m) refl (with_mark_active a h m action w i)

-- ---- what was called stays so

module _ (p : Program) where
  pub called_again : (a b : Active) (below : List Active) → IsSameCall b a → AreCalled p (a ∷ below) → AreCalled p (b ∷ below)
  called_again a b [] h k = (h.func ∙ k.0, h.handler ∙ k.1)
  called_again a b (c ∷ below) h k = (λ e. let args = k.0 (sym h.handler ∙ e) in (args.0, args.1 ∙ ap (λ (f : ℕ). Waits (Call (address.Func f) args.0)) (sym h.func)), k.1)

pub in_order_again : (a b : Active) (below : List Active) → b.number ≡ a.number → AreInOrder (a ∷ below) → AreInOrder (b ∷ below)
in_order_again a b [] e h = tt
in_order_again a b (c ∷ below) e h = (subst (λ (n : ℕ). c.number < n) (sym e) h.0, h.1)
