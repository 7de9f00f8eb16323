-- Where an activation of q stands while that of p works the condition of an `if` without `else`: in the code of a part of the condition, behind
-- which stands an `if` on the value of that part, with the code of the next part inside it, or with the arm.
use Rattle.std.specs.Prelude.{◌≡◌, ℕ, Bool, true, false, List, [], ◌∷◌, ◌++◌, Option, Some, None, slice_get}
use Rattle.cc_states.specs.CcControl.declared.phase.Phase.TheVariants.{First}
use Rattle.cc_states.specs.CcEval.declared.action.Action.TheVariants.{Choose}
use Rattle.cc_states.specs.CcEval.declared.mark.Mark.TheVariants.{Chose}
use Rattle.cc_states.specs.CcEval.Progress.{Waits, Traps, Get, known, bind}
use Rattle.cc_program.specs.declared.expr.Expr.{Expr}
use Rattle.cc_program.specs.declared.stmt.Stmt.{Stmt, out-Stmt}
use Rattle.cc_program.specs.declared.stmt.Stmt.TheOpen as is
use Rattle.cc_program.specs.declared.value.Value.{Value}
use Rattle.cc_states.specs.CcValues.Values.{is_true}
use Rattle.cc_meaning_simulations.specs.Continuations.{Remainder, remainder, resume}
use Rattle.cc_lower_expressions_follows.specs.Trees.{Regs, Setting, after}
use Rattle.cc_lower_expressions_follows.specs.Region.{are_code}
use Rattle.cc_lower_expressions_follows.specs.Relation.{code_tree}
use Rattle.cc_lower_expressions_follows.specs.WholeLists.{AreSame, GivesAlike, AreLowered, AreAround}
use Rattle.cc_lower_expressions_follows.specs.WholePlaces.{opened_at}
use Rattle.cc_lower_expressions_follows.specs.WholeTrees.{Does}

-- branch steps alone lead to this
pub data LeadsTo (t : Get Value) : Get Value → Type 0 where
  There : {g : Get Value} → g ≡ t → LeadsTo t g
  Branches : {g : Get Value} (b : Option Bool) → g [] ≡ Waits (Choose b) → LeadsTo t (after g (Chose b)) → LeadsTo t g

-- to a value that is true, or to one that is not
abbrev pub Settles : Bool → Get Value → Type 0
Settles b g = (v : Value) × (is_true v ≡ b) × LeadsTo (known v) g

-- what the whole condition does behind the value of a part of it: a bad one traps, and where it is not true the whole is not
pub record IsConjunct (f : Option Value → Get Value) : Type 0 where
  pub traps : f None [] ≡ Traps []
  pub falsely : (v : Value) → is_true v ≡ false → Settles false (f (Some v))

module _ (w : Setting) where
  -- code that does what an operand does, whichever activations were opened, and then has its value
  abbrev pub Operates : Expr → Get (Option Value) → List Stmt → Type 0
  Operates x g code = (openings : List ℕ) → slice_get openings w.number ≡ Some w.id → (r t : Regs) → AreSame w r t → Does (opened_at w openings) (GivesAlike w x) g r (code_tree w code) t

  -- p stands in this `if`, with this arm, and q in what it becomes, in front of this list
  module _ (Good : Stmt → Type 0) (s : Stmt) (arm l l' : List Stmt) (ps qs : List Remainder) where
    abbrev pub around_arm : List Remainder
    around_arm = remainder (s ∷ l) First ∷ ps

    -- behind a part's value: q's `if` on it, in front of which stands the part's code
    pub data IsGuard : (Option Value → Get Value) → Expr → Stmt → List Stmt → List Remainder → Type 0 where
      -- the last one has the arm
      LastGuard : (f : Option Value → Get Value) (x : Expr) (u : Stmt) (rest : List Stmt) (outer : List Remainder) (these : List Stmt) → out-Stmt u ≡ is.If x these [] → IsConjunct f → resume rest outer ≡ resume l' qs →
          ((v : Value) → is_true v ≡ true → Settles true (f (Some v))) → AreLowered w Good arm these → AreAround w Good around_arm (remainder (u ∷ rest) First ∷ outer) → IsGuard f x u rest outer
      -- and the others have the next part
      NextGuard : (f : Option Value → Get Value) (x : Expr) (u : Stmt) (rest : List Stmt) (outer : List Remainder) (code : List Stmt) (y : Expr) (z : Stmt) (g : Get (Option Value)) (h : Option Value → Get Value) → out-Stmt u ≡ is.If x (code ++ z ∷ []) [] → IsConjunct f →
          resume rest outer ≡ resume l' qs → ((v : Value) → is_true v ≡ true → LeadsTo (bind g h) (f (Some v))) → Operates y g code → are_code code ≡ true → IsGuard h y z [] (remainder (u ∷ rest) First ∷ outer) → IsGuard f x u rest outer

    -- statements that work this: the code of its first part, and a guard
    pub record IsGuarded (t : Get Value) (stmts rest : List Stmt) (outer : List Remainder) : Type 0 where
      pub code : List Stmt
      pub operand : Expr
      pub test : Stmt
      pub first : Get (Option Value)
      pub behind : Option Value → Get Value
      pub made : stmts ≡ code ++ test ∷ []
      pub begins : t ≡ bind first behind
      pub operates : Operates operand first code
      pub runs : are_code code ≡ true
      pub guard : IsGuard behind operand test rest outer

    -- a place for a guard: behind it q goes on behind the `if`, and inside it in the arm
    pub record IsPlace (rest : List Stmt) (outer : List Remainder) : Type 0 where
      pub back : resume rest outer ≡ resume l' qs
      pub inside : (u : Stmt) (x : Expr) (these : List Stmt) → out-Stmt u ≡ is.If x these [] → AreAround w Good around_arm (remainder (u ∷ rest) First ∷ outer)
