-- Where activations of p and q are in the middle of a statement of p: what is left of a part of its full expression, and of the code that this became.
use Rattle.std.specs.Prelude.{◌≡◌, ℕ, true, List, Option, Some, slice_get}
use Rattle.cc_states.specs.CcCells.Cells.{scalar_in}
use Rattle.cc_states.specs.CcControl.declared.phase.Phase.{Phase}
use Rattle.cc_states.specs.CcEval.declared.action.Action.{Action}
use Rattle.cc_states.specs.CcEval.declared.mark.Mark.{Mark}
use Rattle.cc_states.specs.CcEval.Progress.{Get, bind}
use Rattle.cc_program.specs.declared.expr.Expr.{Expr}
use Rattle.cc_program.specs.declared.func.Func.{Func}
use Rattle.cc_program.specs.declared.stmt.Stmt.{Stmt}
use Rattle.cc_program.specs.declared.value.Value.{Value}
use Rattle.cc_states.specs.Answers.{AreItsMarks, IsMarkOf}
use Rattle.cc_states.specs.CcSyntax.Registers.{is_register}
use Rattle.cc_meaning_simulations.specs.Continuations.{Remainder}
use Rattle.cc_meaning_simulations.specs.LocalSteps.{Locals}
use Rattle.cc_meaning_simulations.specs.Transitions.{ControlState}
use Rattle.cc_lower_expressions_follows.specs.Trees.{Regs, Setting}
use Rattle.cc_lower_expressions_follows.specs.Registered.{regs_in}
use Rattle.cc_lower_expressions_follows.specs.WholeRegion.{next_p, StandsInStatement, StandsInCode}
use Rattle.cc_lower_expressions_follows.specs.WholeTrees.{Does, AreTyped}

-- each register of a function has its scalar
abbrev pub AllThere : Func → Locals → Type 0
AllThere f l = (i : ℕ) → is_register f i ≡ true → (v : Option Value) × (scalar_in l i 0 ≡ Some v)

-- the same, where activations of these functions were opened
abbrev pub opened_at : Setting → List ℕ → Setting
opened_at w openings = record { q = w.q; p = w.p; to = w.to; from = w.from; number = w.number; id = w.id; base = w.base; openings = openings }

module _ (w : Setting) where
  -- with activations opened for which the marks of an expression and the registers of p have their types
  pub record IsTypedAt (e : Expr) (openings : List ℕ) (ms : List Mark) (r : Regs) : Type 0 where
    pub opened : slice_get openings w.number ≡ Some w.id
    pub marks : AreItsMarks w.p openings (next_p w e) ms
    pub typed : AreTyped (opened_at w openings) r

  -- and a mark of the step that comes behind the marks
  pub record MarkFits (e : Expr) (ms : List Mark) (action : Action) (m : Mark) (r : Regs) : Type 0 where
    pub openings : List ℕ
    pub before : IsTypedAt e openings ms r
    pub mark : IsMarkOf w.p openings action m

  module _ {A : Type 0} (Q : A → Unit {0} → Regs → Regs → Type 0) where
    -- whichever activations were opened, where the marks are ones of the expression
    abbrev pub DoesAnyway : Expr → List Mark → Get A → Regs → Get (Unit {0}) → Regs → Type 0
    DoesAnyway e ms g r h t = (openings : List ℕ) → slice_get openings w.number ≡ Some w.id → AreItsMarks w.p openings (next_p w e) ms → Does (opened_at w openings) Q g r h t

    module _ (F : A → Get Value) (s : Stmt) (rest : List Stmt) (phase : Phase) (around : List Remainder) (e : Expr) (out : List Stmt) (outer : List Remainder) where
      -- p has done these marks, with g left of a part of its expression and F behind it, and q has h left of its code
      pub record AreAt (ms : List Mark) (pc : ControlState) (pl : Locals) (qc : ControlState) (ql : Locals) (g : Get A) (r : Regs) (h : Get (Unit {0})) (t : Regs) : Type 0 where
        pub does : DoesAnyway e ms g r h t
        pub stands : StandsInStatement w s rest phase around e ms pc (bind g F)
        pub code : StandsInCode w out outer qc h
        pub regs_p : regs_in w.from pl ≡ r
        pub regs_q : regs_in w.to ql ≡ t
        pub has_p : AllThere w.from pl
        pub has_q : AllThere w.to ql
