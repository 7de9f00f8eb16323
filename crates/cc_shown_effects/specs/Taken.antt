-- A tree whose value is assigned as what an expression of a program is, from what is known in front of it to what is known
-- behind it.
use Rattle.std.specs.Prelude.{◌≡◌, ℕ, Ok}
use Rattle.cc_typed_bodies.specs.CcDesignators.Designators.{TypedExpr}
use Rattle.cc_typed_bodies.specs.CcOperands.Operands.{Operand}
use Rattle.cc_shown_expressions.specs.Assigned.{AssignedAs}
use Rattle.cc_typed_bodies.specs.CcTypedTerms.Values.{valued}
use Rattle.cc_program.specs.declared.expr.Expr.{Expr}
use Rattle.cc_program.specs.declared.program.Program.{Program}
use Rattle.cc_typed_bodies.specs.CcScopes.State.{State}
use Rattle.cc_typed_bodies.specs.CcSyntax.Values.{ValueType}
use Rattle.cc_typed_bodies.specs.CcTerms.Terms.{tree_of}
use Rattle.cc_tree.specs.declared.tree.Tree.{Tree}
use Rattle.cc_shown_expressions.specs.OperationNumbers.{Numbers, expr_numbered}
use Rattle.cc_shown_expressions.specs.Numbers.{value_numbered}

module _ (p : Program) (n : Numbers) where
  pub record IsTakenFrom (s t : State) (x : Tree) (at : ℕ) (e : Expr) (to : ValueType) : Type 0 where
    pub found : TypedExpr
    pub is : tree_of p.target p.roles x at s ≡ Ok (found, t)
    pub operand : Operand
    pub value : (i : ℕ) → valued i found t ≡ Ok (operand, t)
    pub assigned : AssignedAs p.target (value_numbered n.structure to) operand (expr_numbered n e)
