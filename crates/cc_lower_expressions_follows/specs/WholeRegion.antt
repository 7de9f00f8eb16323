-- Where the control of an activation of q stands in code of expression statements and `if`s, and that of p in the full expression of a statement.
use Rattle.std.specs.Prelude.{◌≡◌, ◌⊎◌, Bool, true, false, List, [], ◌∷◌, ◌++◌, Option, Some}
use Rattle.cc_states.specs.CcControl.declared.phase.Phase.{Phase}
use Rattle.cc_states.specs.CcControl.Control.{is_loop}
use Rattle.cc_states.specs.CcEval.declared.mark.Mark.{Mark}
use Rattle.cc_states.specs.CcEval.Eval.{meaning}
use Rattle.cc_states.specs.CcEval.Progress.{Progress, Known, Get, known, bind}
use Rattle.cc_program.specs.declared.expr.Expr.{Expr}
use Rattle.cc_program.specs.declared.stmt.Case.{Case}
use Rattle.cc_program.specs.declared.stmt.Stmt.{Stmt, out-Stmt}
use Rattle.cc_program.specs.declared.stmt.Stmt.TheOpen as is
use Rattle.cc_program.specs.declared.value.Value.{Value}
use Rattle.cc_meaning_simulations.specs.Continuations.{Remainder, remainder, resume}
use Rattle.cc_meaning_simulations.specs.Transitions.{ControlState, control_at, jump_to}
use Rattle.cc_states.specs.CcSyntax.Effects.{no_one}
use Rattle.cc_lower_expressions_follows.specs.Trees.{Setting, context_p}
use Rattle.cc_lower_expressions_follows.specs.Claims.{good}
use Rattle.cc_lower_expressions_follows.specs.Region.{AreCode, next_q, levels_tree, current, Kind}

-- of the code this is left, the innermost list first; behind it comes a list inside other ones
abbrev pub StandsAmid : List Stmt → List Remainder → List Stmt → List (List Stmt) → List Stmt → List Remainder → Type 0
StandsAmid out outer l [] rest around = (rest ≡ l ++ out) × (around ≡ outer)
StandsAmid out outer l (m ∷ ls) rest around =
    (rest ≡ l) × (c : Stmt) × (rest' : List Stmt) × (phase : Phase) × (around' : List Remainder) × (around ≡ remainder (c ∷ rest') phase ∷ around') × (is_loop (out-Stmt c) ≡ false) × StandsAmid out outer m ls rest' around'

-- an expression statement is left as soon as its value is known
abbrev pub is_do : is.Stmt-F Stmt Case → Bool
is_do (is.Do e) = true
is_do (is.If e a b) = false
is_do (is.While e a) = false
is_do (is.DoWhile a e) = false
is_do (is.For first test again a) = false
is_do (is.Switch e cases) = false
is_do is.Break = false
is_do is.Continue = false
is_do (is.Return e) = false
is_do is.Empty = false
is_do (is.Block a) = false

-- the statements that work a full expression and then go elsewhere
pub data IsWorkedIn (x : is.Stmt-F Stmt Case) (e : Expr) : Type 0 where
  InDo : x ≡ is.Do e → IsWorkedIn x e
  InIf : (these those : List Stmt) → x ≡ is.If e these those → IsWorkedIn x e
  InSwitch : (cases : List Case) → x ≡ is.Switch e cases → IsWorkedIn x e
  InReturn : x ≡ is.Return (Some e) → IsWorkedIn x e

module _ (w : Setting) where
  abbrev pub control_in : Remainder → List Remainder → List Mark → ControlState
  control_in here around ms = record { number = w.number; func = w.id; here = here; around = around; marks = ms }

  abbrev pub nowhere : ControlState
  nowhere = control_at w.number w.id

  -- ---- q, in code with this behind it

  module _ (out : List Stmt) (outer : List Remainder) where
    pub record AmidCode (a : ControlState) (h : Get (Unit {0})) : Type 0 where
      pub stmt : Stmt
      pub list : List Stmt
      pub levels : List (List Stmt)
      pub rest : List Stmt
      pub around : List Remainder
      pub marks : List Mark
      pub phase : Phase
      pub here : a ≡ control_in (remainder (stmt ∷ rest) phase) around marks
      pub stands : StandsAmid out outer (stmt ∷ list) levels (stmt ∷ rest) around
      pub code : AreCode (list ∷ levels)
      pub tree : h ≡ bind (current w (out-Stmt stmt) marks) (λ u. levels_tree w (list ∷ levels))
      pub expr : Expr
      pub kind : Kind w stmt expr
      -- all marks are used, and an expression statement whose value is known was left
      pub exact : (v : Option Value) (r : List Mark) → next_q w expr marks ≡ Known v r → (more : List Mark) → next_q w expr (marks ++ more) ≡ Known v more
      pub unsettled : out-Stmt stmt ≡ is.Do expr → (v : Value) (r : List Mark) → next_q w expr marks ≡ Known (Some v) r → ⊥

    pub record PastCode (a : ControlState) (h : Get (Unit {0})) : Type 0 where
      pub ended : h ≡ known tt
      pub at : a ≡ jump_to w.q nowhere (resume out outer)

    pub data StandsInCode (a : ControlState) (h : Get (Unit {0})) : Type 0 where
      Amid : AmidCode a h → StandsInCode a h
      Past : PastCode a h → StandsInCode a h

  -- ---- p, in a statement that works this full expression

  abbrev pub next_p : Expr → List Mark → Progress (Option Value)
  next_p e ms = (meaning (context_p w) e).next no_one ms

  -- what is left behind marks
  abbrev pub left_of : Expr → List Mark → Get (Option Value)
  left_of e ms more = next_p e (ms ++ more)

  module _ (s : Stmt) (rest : List Stmt) (phase : Phase) (around : List Remainder) (e : Expr) (ms : List Mark) where
    -- an expression statement with marks whose value is known was left
    abbrev pub StillWorks : Type 0
    StillWorks = (ms ≡ []) ⊎ ((v : Value) (r : List Mark) → next_p e ms ≡ Known (Some v) r → ⊥)

    -- behind these marks; a bad value traps
    pub data StandsInStatement (a : ControlState) (t : Get Value) : Type 0 where
      Working : a ≡ control_in (remainder (s ∷ rest) phase) around ms → t ≡ good (left_of e ms) → (is_do (out-Stmt s) ≡ true → StillWorks) → StandsInStatement a t
      Left : (v : Value) → a ≡ jump_to w.p nowhere (resume rest around) → t ≡ known v → is_do (out-Stmt s) ≡ true → StandsInStatement a t
