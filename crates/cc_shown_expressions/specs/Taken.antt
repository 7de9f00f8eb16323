-- A tree whose value is assigned, passed or returned as what an expression of a program is.
use Rattle.std.specs.Prelude.{◌≡◌, ℕ, Ok}
use Rattle.cc_terms.specs.CcDesignators.Designators.{TypedExpr}
use Rattle.cc_terms.specs.CcOperands.Operands.{Operand}
use Rattle.cc_shown_expressions.specs.Assigned.{AssignedAs}
use Rattle.cc_terms.specs.CcTypedTerms.Values.{valued}
use Rattle.cc_program.specs.declared.expr.Expr.{Expr}
use Rattle.cc_program.specs.declared.program.Program.{Program}
use Rattle.cc_terms.specs.CcScopes.State.{State}
use Rattle.cc_terms.specs.CcSyntax.Values.{ValueType}
use Rattle.cc_terms.specs.Terms.{tree_of}
use Rattle.cc_tree.specs.declared.tree.Tree.{Tree}
use Rattle.cc_shown_expressions.specs.OperationNumbers.{Numbers, expr_numbered}
use Rattle.cc_shown_expressions.specs.Numbers.{value_numbered}

module _ (p : Program) (n : Numbers) (s : State) where
  -- where it is taken as a value of the type, with the numbers of the unit, it is the expression (C99 6.5.16.1, 6.5.2.2, 7, 6.8.6.4, 3)
  pub record IsTakenAs (x : Tree) (at : ℕ) (e : Expr) (to : ValueType) : Type 0 where
    pub found : TypedExpr
    pub is : tree_of p.target p.roles x at s ≡ Ok (found, s)
    pub operand : Operand
    pub value : (i : ℕ) → valued i found s ≡ Ok (operand, s)
    pub assigned : AssignedAs p.target (value_numbered n.structure to) operand (expr_numbered n e)
