-- Local states of p and q that match: where both do the same step next, jump, return, or come to the end of their function.
use Rattle.std.specs.Prelude.{◌≡◌, true, List, [], ◌∷◌, Option, Some, None}
use Rattle.cc_states.specs.CcControl.declared.phase.Phase.TheVariants.{First, Test}
use Rattle.cc_states.specs.CcEval.declared.action.Action.{Action}
use Rattle.cc_states.specs.CcEval.declared.mark.Mark.{Mark}
use Rattle.cc_states.specs.CcEval.Progress.{Get, Known, Waits, known, needs}
use Rattle.cc_program.specs.declared.expr.Expr.{Expr, out-Expr}
use Rattle.cc_program.specs.declared.stmt.Stmt.{Stmt, out-Stmt}
use Rattle.cc_program.specs.declared.stmt.Stmt.TheOpen as is
use Rattle.cc_program.specs.declared.value.Value.{Value}
use Rattle.cc_states.specs.CcValues.Values.{is_true}
use Rattle.cc_meaning_simulations.specs.Continuations.{Remainder, remainder}
use Rattle.cc_meaning_simulations.specs.LocalSteps.{LocalState, Locals, local_state}
use Rattle.cc_meaning_simulations.specs.Transitions.{ControlState}
use Rattle.cc_lower_expressions_follows.specs.Trees.{Regs, Setting, IsShared}
use Rattle.cc_lower_expressions_follows.specs.Region.{next_q}
use Rattle.cc_lower_expressions_follows.specs.Registered.{regs_in}
use Rattle.cc_lower_expressions_follows.specs.WholeGuards.{IsGuard}
use Rattle.cc_lower_expressions_follows.specs.WholeLists.{is_one_at, AreSame, RunAlike, GivesAlike, IsLoweredRight, AreLowered, AreAround, IsLast}
use Rattle.cc_lower_expressions_follows.specs.WholePlaces.{AllThere, AreAt}
use Rattle.cc_lower_expressions_follows.specs.WholeRegion.{control_in, next_p}

-- a bad value traps
abbrev pub needed : Option Value → Get Value
needed v = needs v known

-- p's registers have the same values in q
pub record AreAlike (w : Setting) (pl ql : Locals) : Type 0 where
  pub same : AreSame w (regs_in w.from pl) (regs_in w.to ql)
  pub has_p : AllThere w.from pl
  pub has_q : AllThere w.to ql

module _ (w : Setting) (Good : Stmt → Type 0) where
  -- in lists of which one is the other lowered
  pub record AreTogether (l l' : List Stmt) (ps qs : List Remainder) : Type 0 where
    pub lists : AreLowered w Good l l'
    pub around : AreAround w Good ps qs

  pub data MatchIn : LocalState → LocalState → Type 0 where
    -- the next step of an expression statement, and of another statement's full expression
    InEffect : (s : Stmt) (e : Expr) (l l' : List Stmt) (ps qs : List Remainder) (ms : List Mark) (pc : ControlState) (pl : Locals) (qc : ControlState) (ql : Locals) (g : Get Value) (r : Regs) (h : Get (Unit {0})) (t : Regs) (action : Action) →
        out-Stmt s ≡ is.Do e → IsLoweredRight w e → AreTogether l l' ps qs → AreAt w (RunAlike w) known s l First ps e l' qs ms pc pl qc ql g r h t → IsShared w action → g [] ≡ Waits action → h [] ≡ Waits action → MatchIn (local_state qc ql) (local_state pc pl)
    InOperand : (s u : Stmt) (e x : Expr) (l l' : List Stmt) (ps qs : List Remainder) (ms : List Mark) (pc : ControlState) (pl : Locals) (qc : ControlState) (ql : Locals) (g : Get (Option Value)) (r : Regs) (h : Get (Unit {0})) (t : Regs) (action : Action) →
        IsLast w Good (out-Stmt s) e x (out-Stmt u) → IsLoweredRight w e → AreTogether l l' ps qs → AreAt w (GivesAlike w x) needed s l First ps e (u ∷ l') qs ms pc pl qc ql g r h t → IsShared w action → g [] ≡ Waits action → h [] ≡ Waits action →
        MatchIn (local_state qc ql) (local_state pc pl)
    -- both values are known
    AtValue : (s u : Stmt) (e x : Expr) (l l' : List Stmt) (ps qs : List Remainder) (ms ns : List Mark) (v : Value) (i j : List Mark) (pl ql : Locals) → IsLast w Good (out-Stmt s) e x (out-Stmt u) → AreTogether l l' ps qs →
        next_p w e ms ≡ Known (Some v) i → next_q w x ns ≡ Known (Some v) j → AreAlike w pl ql → MatchIn (local_state (control_in w (remainder (u ∷ l') First) qs ns) ql) (local_state (control_in w (remainder (s ∷ l) First) ps ms) pl)
    -- the next step of a part of an `if`'s condition, and where both go into the arm
    InCondition : (s : Stmt) (e : Expr) (arm l l' : List Stmt) (ps qs : List Remainder) (f : Option Value → Get Value) (x : Expr) (u : Stmt) (rest : List Stmt) (outer : List Remainder) (ms : List Mark) (pc : ControlState) (pl : Locals) (qc : ControlState) (ql : Locals)
        (g : Get (Option Value)) (r : Regs) (h : Get (Unit {0})) (t : Regs) (action : Action) → out-Stmt s ≡ is.If e arm [] → IsLoweredRight w e → AreTogether l l' ps qs → IsGuard w Good s arm l l' ps qs f x u rest outer →
        AreAt w (GivesAlike w x) f s l First ps e (u ∷ rest) outer ms pc pl qc ql g r h t → IsShared w action → g [] ≡ Waits action → h [] ≡ Waits action → MatchIn (local_state qc ql) (local_state pc pl)
    AtArm : (s u : Stmt) (e x : Expr) (arm these l rest : List Stmt) (ps outer : List Remainder) (ms ns : List Mark) (v v' : Value) (i j : List Mark) (pl ql : Locals) → out-Stmt s ≡ is.If e arm [] → out-Stmt u ≡ is.If x these [] → AreLowered w Good arm these →
        AreAround w Good (remainder (s ∷ l) First ∷ ps) (remainder (u ∷ rest) First ∷ outer) → next_p w e ms ≡ Known (Some v) i → next_q w x ns ≡ Known (Some v') j → is_true v ≡ true → is_true v' ≡ true → AreAlike w pl ql →
        MatchIn (local_state (control_in w (remainder (u ∷ rest) First) outer ns) ql) (local_state (control_in w (remainder (s ∷ l) First) ps ms) pl)
    -- at `while (1)`, and at jumps
    AtLoop : (s u : Stmt) (e : Expr) (body body' l l' : List Stmt) (ps qs : List Remainder) (pl ql : Locals) → out-Stmt s ≡ is.While e body → out-Stmt u ≡ is.While e body' → is_one_at (out-Expr e) ≡ true → AreLowered w Good body body' → AreTogether l l' ps qs →
        AreAlike w pl ql → MatchIn (local_state (control_in w (remainder (u ∷ l') Test) qs []) ql) (local_state (control_in w (remainder (s ∷ l) Test) ps []) pl)
    AtBreak : (s u : Stmt) (l l' : List Stmt) (ps qs : List Remainder) (pl ql : Locals) → out-Stmt s ≡ is.Break → out-Stmt u ≡ is.Break → AreAround w Good ps qs → AreAlike w pl ql →
        MatchIn (local_state (control_in w (remainder (u ∷ l') First) qs []) ql) (local_state (control_in w (remainder (s ∷ l) First) ps []) pl)
    AtContinue : (s u : Stmt) (l l' : List Stmt) (ps qs : List Remainder) (pl ql : Locals) → out-Stmt s ≡ is.Continue → out-Stmt u ≡ is.Continue → AreAround w Good ps qs → AreAlike w pl ql →
        MatchIn (local_state (control_in w (remainder (u ∷ l') First) qs []) ql) (local_state (control_in w (remainder (s ∷ l) First) ps []) pl)
    AtReturn : (s u : Stmt) (l l' : List Stmt) (ps qs : List Remainder) (pl ql : Locals) → out-Stmt s ≡ is.Return None → out-Stmt u ≡ is.Return None →
        MatchIn (local_state (control_in w (remainder (u ∷ l') First) qs []) ql) (local_state (control_in w (remainder (s ∷ l) First) ps []) pl)
    AtEnd : (pl ql : Locals) → MatchIn (local_state (control_in w (remainder [] First) [] []) ql) (local_state (control_in w (remainder [] First) [] []) pl)
