-- Code as a tree, and what a lowered expression does.
use Rattle.std.specs.Prelude.{◌≡◌, ◌<◌, ◌≤◌, ◌==◌, ℕ, suc, ◌+◌, true, false, List, [], ◌∷◌, map, Option, Some, None, option_and_then, if◌then◌else◌}
use Rattle.cc_program.specs.declared.expr.Expr.{Expr}
use Rattle.cc_program.specs.declared.expr.Place.{Place, Local}
use Rattle.cc_program.specs.declared.stmt.Stmt.{Stmt, fold-Stmt}
use Rattle.cc_program.specs.declared.stmt.Stmt.TheOpen as is
use Rattle.cc_program.specs.declared.value.Value.{Value}
use Rattle.cc_states.specs.CcSyntax.Effects.{Registers, no_one}
use Rattle.cc_states.specs.CcSyntax.Registers.{is_register}
use Rattle.cc_states.specs.CcSyntax.Values.{ValueType, PlaceType, read_from}
use Rattle.cc_states.specs.CcSyntax.Views.{of_program}
use Rattle.cc_states.specs.CcEval.declared.action.Action.TheVariants.{Choose}
use Rattle.cc_states.specs.CcEval.declared.spots.Spot.{Spot}
use Rattle.cc_states.specs.CcEval.Context.{named_by, is_seen}
use Rattle.cc_states.specs.CcEval.Eval.{meaning, designation}
use Rattle.cc_states.specs.CcEval.Progress.{Get, known, trap, ask, bind, needs}
use Rattle.cc_states.specs.Typed.{MayHave}
use Rattle.cc_states.specs.CcValues.Values.{truth}
use Rattle.cc_lower_expressions.specs.Expressions.{Temps}
use Rattle.cc_lower_expressions_follows.specs.Trees.{Regs, Setting, context_p, context_q, Runs}
use Rattle.cc_lower_expressions_follows.specs.Agreement.{TypesAgree}

-- ---- code of q, of expression statements and `if`s, as one tree

abbrev pub all : List (Get (Unit {0})) → Get (Unit {0})
all [] = known tt
all (g ∷ gs) = bind g (λ u. all gs)

abbrev pub finished : Get (Option Value) → Get (Unit {0})
finished g = bind g (λ v. needs v (λ x. known tt))

-- one step to the arm
abbrev pub forked : Get (Option Value) → Get (Unit {0}) → Get (Unit {0}) → Get (Unit {0})
forked c these those = bind c (λ v. needs (truth v) (λ b. bind (ask (Choose (Some b)) (λ m. b)) (λ b. if b then these else those)))

module _ (w : Setting) where
  abbrev pub tree_step : is.Stmt-F (Get (Unit {0})) (Unit {0}) → Get (Unit {0})
  tree_step (is.Do e) = finished ((meaning (context_q w) e).next no_one)
  tree_step (is.If e a b) = forked ((meaning (context_q w) e).next no_one) (all a) (all b)
  tree_step (is.While e a) = trap
  tree_step (is.DoWhile a e) = trap
  tree_step (is.For first test again a) = trap
  tree_step (is.Switch e cases) = trap
  tree_step is.Break = trap
  tree_step is.Continue = trap
  tree_step (is.Return e) = trap
  tree_step is.Empty = trap
  tree_step (is.Block a) = trap

  unfoldable pub stmt_tree : Stmt → Get (Unit {0})
  stmt_tree s = fold-Stmt (Get (Unit {0})) (Unit {0}) tree_step (λ c. tt) s

  abbrev pub code_tree : List Stmt → Get (Unit {0})
  code_tree list = all (map stmt_tree list)

  -- ---- the two programs

  pub record Alike : Type 0 where
    pub view : of_program w.q ≡ of_program w.p
    pub naming : (t : PlaceType) → named_by w.q t ≡ named_by w.p t
    pub places : (i : ℕ) → i < w.base → (designation (context_q w) (Local i)).ctype ≡ (designation (context_p w) (Local i)).ctype
    pub registers : (i : ℕ) → i < w.base → is_register w.to i ≡ is_register w.from i
    -- a register has a scalar type, and is not volatile
    pub unseen : (i : ℕ) → is_register w.to i ≡ true → (t : PlaceType) × ((designation (context_q w) (Local i)).ctype ≡ Some t) × (is_seen (Some t) ≡ false)

  -- a temporary of q
  pub record IsTemp (n : ℕ) (t : Option ValueType) : Type 0 where
    pub register : is_register w.to n ≡ true
    pub ctype : TypesAgree (option_and_then read_from (designation (context_q w) (Local n)).ctype) t

  abbrev pub Declared : ℕ → Temps → Type 0
  Declared k [] = Unit {0}
  Declared k (t ∷ ts) = IsTemp k t × Declared (suc k) ts

  -- a value of a type, or a bad one
  abbrev pub ValueOf : Option ValueType → Option Value → Type 0
  ValueOf None v = Unit {0}
  ValueOf (Some t) v = MayHave w.p w.openings t v

  -- ---- registers

  -- p's registers have the same values in q
  pub record Agree (r s : Regs) : Type 0 where
    pub same : (i : ℕ) → i < w.base → r i ≡ s i

  -- what changes at most: these registers, and temporaries from a number on
  pub record Kept (assigned : Registers) (k : ℕ) (s t : Regs) : Type 0 where
    pub regs : (i : ℕ) → i < w.base → assigned i ≡ false → s i ≡ t i
    pub temps : (i : ℕ) → w.base ≤ i → i < k → s i ≡ t i

  -- what stays the same at least: registers that no later operand assigns, and temporaries from a number to another
  pub record Stays (later : Registers) (from to : ℕ) (s t : Regs) : Type 0 where
    pub regs : (i : ℕ) → i < w.base → later i ≡ false → s i ≡ t i
    pub temps : (i : ℕ) → from ≤ i → i < to → s i ≡ t i

  -- ---- what is left of expressions

  abbrev pub Gives : Expr → Option Value → Regs → Type 0
  Gives e v s = Runs w v s ((meaning (context_q w) e).next no_one) s

  abbrev pub Leads : Place → Option Spot → Regs → Type 0
  Leads a o s = Runs w o s ((designation (context_q w) a).leads no_one) s

  -- it holds, also where what may change has changed
  abbrev pub Holds : Registers → ℕ → ℕ → (Regs → Type 0) → Regs → Type 0
  Holds later from to G s = (t : Regs) → Stays later from to s t → G t

  -- behind a piece of code that took so many temporaries from k on
  pub record Post (assigned later : Registers) (k n : ℕ) (G : Regs → Type 0) (s r' s' : Regs) : Type 0 where
    pub agree : Agree r' s'
    pub kept : Kept assigned k s s'
    pub value : Holds later k (k + n) G s'

  -- behind a piece of code that wrote a register n of q, and else changed no more
  pub record Wrote (assigned : Registers) (k n : ℕ) (x : Value) (s r' s' : Regs) : Type 0 where
    pub here : s' n ≡ Some x
    pub same : (i : ℕ) → i < w.base → (n == i) ≡ false → r' i ≡ s' i
    pub regs : (i : ℕ) → i < w.base → (n == i) ≡ false → assigned i ≡ false → s i ≡ s' i
    pub temps : (i : ℕ) → w.base ≤ i → i < k → (n == i) ≡ false → s i ≡ s' i

  -- behind an expression statement
  pub record Ran (assigned : Registers) (k : ℕ) (s r' s' : Regs) : Type 0 where
    pub agree : Agree r' s'
    pub kept : Kept assigned k s s'
