-- Two trees of which the first does what the second does, in the middle of a whole program: what p reads of its own registers is of their types
-- because its states are, and what both do is no access of a register of the activation.
use Rattle.std.specs.Prelude.{◌≡◌, ℕ, true, [], Some}
use Rattle.cc_program.specs.declared.value.Value.{Value}
use Rattle.cc_states.specs.CcEval.declared.action.Action.{Action}
use Rattle.cc_states.specs.CcEval.declared.mark.Mark.{Mark}
use Rattle.cc_states.specs.CcEval.Progress.{Waits, Get, known}
use Rattle.cc_states.specs.Answers.{IsMarkOf}
use Rattle.cc_states.specs.Typed.{HasType, cell_type}
use Rattle.cc_states.specs.CcSyntax.Registers.{is_register}
use Rattle.cc_states.specs.CcSyntax.Values.{ValueType}
use Rattle.cc_lower_expressions_follows.specs.Trees.{Regs, Setting, after, register_cell, IsShared, IsQuiet, Ends}

module _ (w : Setting) where
  -- the tree h of q does what the tree g of p does, from registers on, and at their ends Q holds
  pub data Does {A B : Type 0} (Q : A → B → Regs → Regs → Type 0) : Get A → Regs → Get B → Regs → Type 0 where
    Finish : {g : Get A} {r : Regs} {h : Get B} {s : Regs} (a : A) (b : B) → g ≡ known a → h ≡ known b → Q a b r s → Does Q g r h s
    OfP : {g : Get A} {r : Regs} {h : Get B} {s : Regs} (r' : Regs) (action : Action) (m : Mark) → g [] ≡ Waits action → IsQuiet w w.from action r m r' → (IsMarkOf w.p w.openings action m → Does Q (after g m) r' h s) → Does Q g r h s
    OfQ : {g : Get A} {r : Regs} {h : Get B} {s : Regs} (s' : Regs) (action : Action) (m : Mark) → h [] ≡ Waits action → IsQuiet w w.to action s m s' → Does Q g r (after h m) s' → Does Q g r h s
    OfBoth : {g : Get A} {r : Regs} {h : Get B} {s : Regs} (action : Action) → IsShared w action → g [] ≡ Waits action → h [] ≡ Waits action →
        ((m : Mark) → IsMarkOf w.p w.openings action m → Does Q (after g m) r (after h m) s) → Does Q g r h s
    NoMore : {g : Get A} {r : Regs} {h : Get B} {s : Regs} → Ends w w.from g r → Ends w w.to h s → Does Q g r h s

  -- each written register has a value of its type
  abbrev pub AreTyped : Regs → Type 0
  AreTyped r = (i : ℕ) (v : Value) → is_register w.from i ≡ true → r i ≡ Some v → (t : ValueType) × (cell_type w.p (register_cell w i) ≡ Some t) × HasType w.p w.openings t v
