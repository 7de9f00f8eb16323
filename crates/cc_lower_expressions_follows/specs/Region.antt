-- Where an activation of q stands in code of expression statements and `if`s, and what it does next there.
use Rattle.std.specs.Prelude.{◌≡◌, ℕ, Bool, true, false, ◌&&◌, List, [], ◌∷◌, ◌++◌, map, Option, Some}
use Rattle.cc_states.specs.CcControl.declared.phase.Phase.{Phase}
use Rattle.cc_states.specs.CcControl.Control.{Level, level, is_loop, close}
use Rattle.cc_states.specs.CcEval.declared.mark.Mark.{Mark}
use Rattle.cc_states.specs.CcEval.Eval.{meaning}
use Rattle.cc_states.specs.CcEval.Progress.{Progress, Known, Get, known, trap, bind}
use Rattle.cc_program.specs.declared.expr.Expr.{Expr}
use Rattle.cc_program.specs.declared.stmt.Case.{Case}
use Rattle.cc_program.specs.declared.stmt.Stmt.{Stmt, out-Stmt, fold-Stmt}
use Rattle.cc_program.specs.declared.stmt.Stmt.TheOpen as is
use Rattle.cc_program.specs.declared.value.Value.{Value}
use Rattle.cc_states.specs.CcSteps.State.{Active}
use Rattle.cc_states.specs.CcSteps.Step.{begun_at}
use Rattle.cc_states.specs.CcSyntax.Effects.{no_one}
use Rattle.cc_states.specs.CcSyntax.Forms.{Form, AssignForm, CallForm, IntrinsicForm, ConstantForm, FunctionForm, LoadForm, OtherForm, form_of}
use Rattle.cc_lower_expressions_follows.specs.Trees.{Setting, context_q}
use Rattle.cc_lower_expressions_follows.specs.Relation.{finished, forked, code_tree}

abbrev pub all_true : List Bool → Bool
all_true [] = true
all_true (b ∷ bs) = b && all_true bs

-- what asks for a step before its value is known
abbrev pub is_step : Form → Bool
is_step (AssignForm a e) = true
is_step (CallForm f args) = true
is_step (IntrinsicForm a) = true
is_step (ConstantForm n t) = false
is_step FunctionForm = false
is_step (LoadForm a) = false
is_step OtherForm = false

abbrev pub code_step : is.Stmt-F Bool Bool → Bool
code_step (is.Do e) = is_step (form_of e)
code_step (is.If e a b) = all_true a && all_true b
code_step (is.While e a) = false
code_step (is.DoWhile a e) = false
code_step (is.For first test again a) = false
code_step (is.Switch e cases) = false
code_step is.Break = false
code_step is.Continue = false
code_step (is.Return e) = false
code_step is.Empty = false
code_step (is.Block a) = false

unfoldable pub is_code : Stmt → Bool
is_code s = fold-Stmt Bool Bool code_step (λ c. false) s

abbrev pub are_code : List Stmt → Bool
are_code list = all_true (map is_code list)

abbrev pub AreCode : List (List Stmt) → Type 0
AreCode [] = Unit {0}
AreCode (l ∷ ls) = (are_code l ≡ true) × AreCode ls

-- of the code this is left, the innermost list first; behind it comes a list inside other levels
abbrev pub StandsIn : List Stmt → List Level → List Stmt → List (List Stmt) → List Stmt → List Level → Type 0
StandsIn out outer l [] rest around = (rest ≡ l ++ out) × (around ≡ outer)
StandsIn out outer l (m ∷ ls) rest around =
    (rest ≡ l) × (c : Stmt) × (rest' : List Stmt) × (pos : ℕ) × (phase : Phase) × (around' : List Level) × (around ≡ level (c ∷ rest') pos phase ∷ around') × (is_loop (out-Stmt c) ≡ false) × StandsIn out outer m ls rest' around'

module _ (w : Setting) where
  abbrev pub next_q : Expr → List Mark → Progress (Option Value)
  next_q e ms = (meaning (context_q w) e).next no_one ms

  abbrev pub levels_tree : List (List Stmt) → Get (Unit {0})
  levels_tree [] = known tt
  levels_tree (l ∷ ls) = bind (code_tree w l) (λ u. levels_tree ls)

  -- what is left of an expression behind marks
  abbrev pub rest_of : Expr → List Mark → Get (Option Value)
  rest_of e ms more = next_q e (ms ++ more)

  abbrev pub current : is.Stmt-F Stmt Case → List Mark → Get (Unit {0})
  current (is.Do e) ms = finished (rest_of e ms)
  current (is.If e a b) ms = forked (rest_of e ms) (code_tree w a) (code_tree w b)
  current (is.While e a) ms = trap
  current (is.DoWhile a e) ms = trap
  current (is.For first test again a) ms = trap
  current (is.Switch e cases) ms = trap
  current is.Break ms = trap
  current is.Continue ms = trap
  current (is.Return e) ms = trap
  current is.Empty ms = trap
  current (is.Block a) ms = trap

  -- the two kinds of statement, by the expression
  pub data Kind (s : Stmt) (e : Expr) : Type 0 where
    Doing : out-Stmt s ≡ is.Do e → Kind s e
    Testing : (a b : List Stmt) → out-Stmt s ≡ is.If e a b → are_code a ≡ true → are_code b ≡ true → Kind s e

  module _ (out : List Stmt) (outer : List Level) where
    pub record InCode (a : Active) (h : Get (Unit {0})) : Type 0 where
      pub stmt : Stmt
      pub list : List Stmt
      pub levels : List (List Stmt)
      pub rest : List Stmt
      pub here : a.here.rest ≡ stmt ∷ rest
      pub stands : StandsIn out outer (stmt ∷ list) levels a.here.rest a.around
      pub code : AreCode (list ∷ levels)
      pub tree : h ≡ bind (current (out-Stmt stmt) a.marks) (λ u. levels_tree (list ∷ levels))
      pub expr : Expr
      pub kind : Kind stmt expr
      -- all marks are used, and an expression statement whose value is known was left
      pub exact : (v : Option Value) (r : List Mark) → next_q expr a.marks ≡ Known v r → (more : List Mark) → next_q expr (a.marks ++ more) ≡ Known v more
      pub unsettled : out-Stmt stmt ≡ is.Do expr → (v : Value) (r : List Mark) → next_q expr a.marks ≡ Known (Some v) r → ⊥

    -- behind all of it
    pub record BehindCode (a : Active) (h : Get (Unit {0})) : Type 0 where
      pub pos : ℕ
      pub ended : h ≡ known tt
      pub at : (a.here, a.around) ≡ begun_at w.q a.number a.func (close out pos outer)
      pub marks : a.marks ≡ []

    pub data Region (a : Active) (h : Get (Unit {0})) : Type 0 where
      Inside : InCode a h → Region a h
      Behind : BehindCode a h → Region a h
