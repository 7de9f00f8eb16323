-- Where an activation of q stands while that of p stands in lists of statements: each statement is lowered, with its temporaries from a number on.
use Rattle.std.specs.Prelude.{◌≡◌, ◌<◌, ◌≤◌, ◌&&◌, ℕ, pos, Bool, true, false, List, [], ◌∷◌, ◌++◌, Option, Some, None, slice_get}
use Rattle.std.specs.List.{list_all}
use Rattle.std.specs.Ordering.{int_eq}
use Rattle.cc_states.specs.CcControl.declared.phase.Phase.TheVariants.{First, Test}
use Rattle.cc_states.specs.CcEval.Eval.{meaning}
use Rattle.cc_states.specs.CcEval.declared.action.Action.TheVariants.{Write}
use Rattle.cc_states.specs.CcEval.declared.mark.Mark.{Mark}
use Rattle.cc_states.specs.CcEval.Progress.{Waits}
use Rattle.cc_program.specs.declared.expr.Expr.{Expr, out-Expr}
use Rattle.cc_program.specs.declared.expr.Expr.TheOpen as one
use Rattle.cc_program.specs.declared.expr.Place.{Place}
use Rattle.cc_program.specs.declared.stmt.Case.{Case}
use Rattle.cc_program.specs.declared.stmt.Stmt.{Stmt, out-Stmt, fold-Stmt}
use Rattle.cc_program.specs.declared.stmt.Stmt.TheOpen as is
use Rattle.cc_program.specs.declared.value.Value.{Value}
use Rattle.cc_program.proofs.Each.{Each}
use Rattle.cc_states.specs.Answers.{AreItsMarks}
use Rattle.cc_states.specs.Typed.{HasType, cell_type}
use Rattle.cc_states.specs.CcSyntax.Effects.{no_one}
use Rattle.cc_states.specs.CcSyntax.Values.{ValueType}
use Rattle.cc_lower_expressions.specs.Expressions.{Piece}
use Rattle.cc_lower_expressions.specs.Statements.{lower, lowered}
use Rattle.cc_meaning_simulations.specs.Continuations.{Remainder, remainder}
use Rattle.cc_lower_expressions_follows.specs.Trees.{Regs, Setting, context_p, register_cell}
use Rattle.cc_lower_expressions_follows.specs.Claims.{good}
use Rattle.cc_lower_expressions_follows.specs.Region.{are_code}
use Rattle.cc_lower_expressions_follows.specs.Relation.{code_tree, Declared, Gives}
use Rattle.cc_lower_expressions_follows.specs.WholePlaces.{opened_at}
use Rattle.cc_lower_expressions_follows.specs.WholeRegion.{next_p}
use Rattle.cc_lower_expressions_follows.specs.WholeTrees.{Does}

-- ---- statements whose loops are `while (1)`, without blocks and without empty statements

abbrev pub is_one_at : one.Expr-F Expr Place → Bool
is_one_at (one.Const n t) = int_eq n (pos 1)
is_one_at (one.Null t) = false
is_one_at (one.FuncAddr f) = false
is_one_at (one.Load a) = false
is_one_at (one.AddrOf a) = false
is_one_at (one.Un o t a) = false
is_one_at (one.Bin o t a b) = false
is_one_at (one.Conv t a) = false
is_one_at (one.Qualify t a) = false
is_one_at (one.Move a b back) = false
is_one_at (one.Gap a b) = false
is_one_at (one.Compare o a b) = false
is_one_at (one.Both a b) = false
is_one_at (one.Either a b) = false
is_one_at (one.Choose c a b) = false
is_one_at (one.Assign a e) = false
is_one_at (one.Change a o t e) = false
is_one_at (one.After a down) = false
is_one_at (one.Call f args) = false
is_one_at (one.Intr i a) = false
is_one_at (one.Seq a b) = false

abbrev pub all_true : List Bool → Bool
all_true bs = list_all (λ b. b) bs

abbrev pub endless_step : is.Stmt-F Bool Bool → Bool
endless_step (is.Do e) = true
endless_step (is.If e a b) = all_true a && all_true b
endless_step (is.While e body) = is_one_at (out-Expr e) && all_true body
endless_step (is.DoWhile body e) = false
endless_step (is.For first test again body) = false
endless_step (is.Switch e cases) = all_true cases
endless_step is.Break = true
endless_step is.Continue = true
endless_step (is.Return e) = true
endless_step is.Empty = false
endless_step (is.Block body) = false

unfoldable pub has_endless_loops : Stmt → Bool
has_endless_loops s = fold-Stmt Bool Bool endless_step (λ c. all_true c.body) s

abbrev pub have_endless_loops : List Stmt → Bool
have_endless_loops list = list_all has_endless_loops list

-- an `if`, or a `switch`: what is inside goes on behind it
pub data AreBranches : is.Stmt-F Stmt Case → is.Stmt-F Stmt Case → Type 0 where
  Ifs : (e x : Expr) (a b these those : List Stmt) → AreBranches (is.If e a b) (is.If x these those)
  Switches : (e x : Expr) (cases others : List Case) → AreBranches (is.Switch e cases) (is.Switch x others)

-- ---- registers

module _ (w : Setting) where
  -- p's registers have the same values in q
  abbrev pub AreSame : Regs → Regs → Type 0
  AreSame r s = (i : ℕ) → i < w.base → r i ≡ s i

  -- behind an expression statement, and behind an operand whose value this expression has
  abbrev pub RunAlike : Value → Unit {0} → Regs → Regs → Type 0
  RunAlike v u r s = AreSame r s

  abbrev pub GivesAlike : Expr → Option Value → Unit {0} → Regs → Regs → Type 0
  GivesAlike x v u r s = AreSame r s × Gives w x v s

  -- ---- what is asked of the full expressions of a function

  abbrev pub piece_of : Expr → ℕ → Piece Expr
  piece_of e k = (lowered w.p w.from e).operand no_one k

  abbrev pub effect_of : Expr → ℕ → Piece (Unit {0})
  effect_of e k = (lowered w.p w.from e).effect no_one k

  -- its lowered code does what it does, from any registers that are the same, with any temporaries behind the locals, whichever activations were
  -- opened; and what it writes to registers has their types
  pub record IsLoweredRight (e : Expr) : Type 0 where
    pub operand : (openings : List ℕ) → slice_get openings w.number ≡ Some w.id → (k : ℕ) → w.base ≤ k → Declared w k (piece_of e k).temps → (r s : Regs) → AreSame r s →
        Does (opened_at w openings) (GivesAlike (piece_of e k).value) ((meaning (context_p w) e).next no_one) r (code_tree w (piece_of e k).stmts) s
    pub effect : (openings : List ℕ) → slice_get openings w.number ≡ Some w.id → (k : ℕ) → w.base ≤ k → Declared w k (effect_of e k).temps → (r s : Regs) → AreSame r s →
        Does (opened_at w openings) RunAlike (good ((meaning (context_p w) e).next no_one)) r (code_tree w (effect_of e k).stmts) s
    pub operand_code : (k : ℕ) → are_code (piece_of e k).stmts ≡ true
    pub effect_code : (k : ℕ) → are_code (effect_of e k).stmts ≡ true
    pub writes : (openings : List ℕ) → slice_get openings w.number ≡ Some w.id → (ms : List Mark) → AreItsMarks w.p openings (next_p w e) ms → (i : ℕ) (v : Value) → next_p w e ms ≡ Waits (Write (register_cell w i) false v) →
        (t : ValueType) × (cell_type w.p (register_cell w i) ≡ Some t) × HasType w.p openings t v

  -- ---- lists

  module _ (Good : Stmt → Type 0) where
    -- a list is made of each statement, one after the other
    pub data AreLowered : List Stmt → List Stmt → Type 0 where
      NoneLowered : AreLowered [] []
      OneLowered : (s : Stmt) (k : ℕ) (l l' : List Stmt) → w.base ≤ k → Declared w k (lower w.p w.from s k).temps → Good s → AreLowered l l' → AreLowered (s ∷ l) ((lower w.p w.from s k).stmts ++ l')

    -- and so are the bodies of cases, whose labels stay
    pub data AreLoweredCases : List Case → List Case → Type 0 where
      NoCases : AreLoweredCases [] []
      OneCase : (c d : Case) (cases others : List Case) → d.labels ≡ c.labels → AreLowered c.body d.body → AreLoweredCases cases others → AreLoweredCases (c ∷ cases) (d ∷ others)

    -- the levels around the lists in which both stand
    pub data AreAround : List Remainder → List Remainder → Type 0 where
      Outside : AreAround [] []
      InBranch : (s t : Stmt) (l l' : List Stmt) (ps qs : List Remainder) → AreBranches (out-Stmt s) (out-Stmt t) → AreLowered l l' → AreAround ps qs → AreAround (remainder (s ∷ l) First ∷ ps) (remainder (t ∷ l') First ∷ qs)
      -- the second condition of an `&&` stands inside the first
      InGuard : (t : Stmt) (x : Expr) (these those : List Stmt) (ps qs : List Remainder) → out-Stmt t ≡ is.If x these those → AreAround ps qs → AreAround ps (remainder (t ∷ []) First ∷ qs)
      InLoop : (s t : Stmt) (e : Expr) (body body' l l' : List Stmt) (ps qs : List Remainder) → out-Stmt s ≡ is.While e body → out-Stmt t ≡ is.While e body' → is_one_at (out-Expr e) ≡ true → AreLowered body body' → AreLowered l l' → AreAround ps qs →
          AreAround (remainder (s ∷ l) Test ∷ ps) (remainder (t ∷ l') Test ∷ qs)

    -- the last statement of what a statement becomes, which has the lowered value
    pub data IsLast : is.Stmt-F Stmt Case → Expr → Expr → is.Stmt-F Stmt Case → Type 0 where
      LastIf : (e x : Expr) (a b these those : List Stmt) → AreLowered a these → AreLowered b those → IsLast (is.If e a b) e x (is.If x these those)
      LastSwitch : (e x : Expr) (cases others : List Case) → AreLoweredCases cases others → IsLast (is.Switch e cases) e x (is.Switch x others)
      LastReturn : (e x : Expr) → IsLast (is.Return (Some e)) e x (is.Return (Some x))

    -- a statement of such a function, whose full expressions are lowered right
    pub data IsNormal : is.Stmt-F Stmt Case → Type 0 where
      NormalDo : (e : Expr) → IsLoweredRight e → IsNormal (is.Do e)
      NormalIf : (e : Expr) (a b : List Stmt) → IsLoweredRight e → Each Good a → Each Good b → IsNormal (is.If e a b)
      NormalLoop : (e : Expr) (body : List Stmt) → is_one_at (out-Expr e) ≡ true → Each Good body → IsNormal (is.While e body)
      NormalSwitch : (e : Expr) (cases : List Case) → IsLoweredRight e → Each (λ c. Each Good c.body) cases → IsNormal (is.Switch e cases)
      NormalBreak : IsNormal is.Break
      NormalContinue : IsNormal is.Continue
      NormalReturn : (e : Expr) → IsLoweredRight e → IsNormal (is.Return (Some e))
      NormalEnd : IsNormal (is.Return None)
