-- What a lowered expression does, as an operand, as a whole right side, and as an expression statement; and a lowered place.
use Rattle.std.specs.Prelude.{◌≡◌, ◌<◌, ◌≤◌, ℕ, true, List, [], length, Option, Some, None}
use Rattle.cc_program.specs.declared.expr.Expr.{Expr}
use Rattle.cc_program.specs.declared.expr.Place.{Place, Local}
use Rattle.cc_program.specs.declared.value.Value.{Value}
use Rattle.cc_states.specs.CcSyntax.Effects.{Registers, no_one}
use Rattle.cc_states.specs.CcSyntax.Registers.{is_register}
use Rattle.cc_states.specs.CcSyntax.Values.{ValueType}
use Rattle.cc_states.specs.CcEval.Eval.{Meaning, Designation, meaning, designation}
use Rattle.cc_states.specs.CcEval.Progress.{Known, Get, known, bind, needs}
use Rattle.cc_states.specs.CcEval.Context.{reached}
use Rattle.cc_states.specs.CcEval.declared.mark.Mark.{Mark}
use Rattle.cc_states.specs.CcEval.declared.spots.Spot.{Spot}
use Rattle.cc_program.specs.declared.value.Cell.{Cell}
use Rattle.cc_states.specs.Answers.{AreAnswers}
use Rattle.cc_lower_expressions.specs.Expressions.{Piece, piece, Lowers, Lowering, PlaceLowering}
use Rattle.cc_lower_expressions_follows.specs.Trees.{IsSharedCell, Regs, Setting, context_p, context_q, Sim}
use Rattle.cc_lower_expressions_follows.specs.Relation.{code_tree, Declared, Agree, Post, Wrote, Ran, Gives, Leads}
use Rattle.cc_lower_expressions_follows.specs.Agreement.{TypesAgree, PlacesAgree}

-- a value that is not bad
abbrev pub good : {A : Type 0} → Get (Option A) → Get A
good g = bind g (λ v. needs v known)

module _ (w : Setting) where
  -- what holds behind a piece of code
  abbrev pub After : {A : Type 0} → Registers → Registers → ℕ → ℕ → (A → Regs → Type 0) → Regs → A → Unit {0} → Regs → Regs → Type 0
  After assigned later k n G s a u r' s' = Post w assigned later k n (G a) s r' s'

  abbrev pub Written : Registers → ℕ → ℕ → Regs → Value → Unit {0} → Regs → Regs → Type 0
  Written assigned k n s x u r' s' = Wrote w assigned k n x s r' s'

  abbrev pub Worked : Registers → ℕ → Regs → Value → Unit {0} → Regs → Regs → Type 0
  Worked assigned k s x u r' s' = Ran w assigned k s r' s'

  pub record IsOperand (m : Meaning) (later : Registers) (k : ℕ) (x : Piece Expr) : Type 0 where
    pub assigned : (meaning (context_q w) x.value).effects.assigned ≡ no_one
    pub ctype : TypesAgree (meaning (context_q w) x.value).ctype m.ctype
    pub sim : (r s : Regs) → Agree w r s → Sim w (After m.effects.assigned later k (length x.temps) (Gives w x.value) s) (m.next later) r (code_tree w x.stmts) s

  pub record IsPlace (d : Designation) (later : Registers) (k : ℕ) (x : Piece Place) : Type 0 where
    pub assigned : (designation (context_q w) x.value).effects.assigned ≡ no_one
    pub register : (designation (context_q w) x.value).effects.register ≡ d.effects.register
    pub ctype : PlacesAgree (designation (context_q w) x.value).ctype d.ctype
    pub sim : (r s : Regs) → Agree w r s → Sim w (After d.effects.assigned later k (length x.temps) (Leads w x.value) s) (d.leads later) r (code_tree w x.stmts) s

  abbrev pub Operands : Meaning → Lowers Expr → Type 0
  Operands m op = (later : Registers) (k : ℕ) → w.base ≤ k → Declared w k (op later k).temps → IsOperand m later k (op later k)

  abbrev pub Places : Designation → Lowers Place → Type 0
  Places d op = (later : Registers) (k : ℕ) → w.base ≤ k → Declared w k (op later k).temps → IsPlace d later k (op later k)

  abbrev pub Wholes : Meaning → (Option ValueType → ℕ → Lowers (Unit {0})) → Type 0
  Wholes m op = (t : Option ValueType) (n : ℕ) (later : Registers) (k : ℕ) → w.base ≤ k → n < k → is_register w.to n ≡ true → Declared w k (op t n later k).temps →
      (r s : Regs) → Agree w r s → Sim w (Written m.effects.assigned k n s) (good (m.next later)) r (code_tree w (op t n later k).stmts) s

  abbrev pub Effects : Meaning → Lowers (Unit {0}) → Type 0
  Effects m op = (later : Registers) (k : ℕ) → w.base ≤ k → Declared w k (op later k).temps →
      (r s : Regs) → Agree w r s → Sim w (Worked m.effects.assigned k s) (good (m.next later)) r (code_tree w (op later k).stmts) s

  -- an expression that is lowered right
  pub record IsRight (m : Meaning) (l : Lowering) : Type 0 where
    pub ctype : l.ctype ≡ m.ctype
    pub effects : l.effects ≡ m.effects
    pub operand : Operands m l.operand
    pub whole : Wholes m l.whole
    pub effect : Effects m l.effect

  -- where the place leads is no register of the activation
  abbrev pub IsApart : Designation → Option Spot → Type 0
  IsApart d o = (c : Cell) → reached w.p d.ctype o ≡ Some c → IsSharedCell w c

  -- a register of p is itself
  pub record IsLocal (d : Designation) (l : PlaceLowering) (i : ℕ) : Type 0 where
    pub below : i < w.base
    pub register : is_register w.from i ≡ true
    pub designates : d ≡ designation (context_p w) (Local i)
    pub itself : (later : Registers) (k : ℕ) → l.operands later k ≡ piece [] [] (Local i)

  pub record IsRightPlace (d : Designation) (l : PlaceLowering) : Type 0 where
    pub ctype : l.ctype ≡ d.ctype
    pub effects : l.effects ≡ d.effects
    pub operands : Places d l.operands
    -- a place that is no register leads to none
    pub shared : d.effects.register ≡ None → (later : Registers) (ms rest : List Mark) (o : Option Spot) → AreAnswers w.p w.openings (d.leads later) ms → d.leads later ms ≡ Known o rest → IsApart d o
    pub local : (i : ℕ) → d.effects.register ≡ Some i → IsLocal d l i
