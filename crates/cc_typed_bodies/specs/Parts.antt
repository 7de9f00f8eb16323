-- The expressions and declarations that stand in statements, and the statements that have no other in them (C99 6.8.2,
-- 6.8.3, 6.8.6.4).
use Rattle.std.specs.Prelude.{List, map, Option, Some, None, Ok}
use Rattle.cc_program.specs.CcNum.declared.target.Target.{Target}
use Rattle.cc_terms.specs.CcOperands.Operands.{Operand}
use Rattle.cc_typed_terms.specs.Values.{value_found}
use Rattle.cc_program.specs.declared.expr.Expr.{Expr}
use Rattle.cc_program.specs.declared.program.Roles.{Roles}
use Rattle.cc_program.specs.declared.stmt.Stmt.{Stmt, Do, Empty}
use Rattle.cc_program.specs.declared.types.CType.{CType}
use Rattle.cc_scopes.specs.State.{State, Name}
use Rattle.cc_scopes.specs.Verdicts.{Found, Meaning, whole, and_then, maybe_found}
use Rattle.cc_terms.specs.CcSpecifiers.declared.storage.Where.TheVariants as stands
use Rattle.cc_terms.specs.Terms.{here}
use Rattle.cc_tree.specs.declared.at.At.{At}
use Rattle.cc_tree.specs.declared.tree.Tree.{Tree}
use Rattle.cc_tree.specs.declared.unit.Decl.{Decl}
use Rattle.cc_tree.specs.declared.unit.First.{First}
use Rattle.cc_tree.specs.declared.unit.First.TheVariants as first
use Rattle.cc_typed_bodies.specs.Meanings.{done}
use Rattle.cc_typed_bodies.specs.Declarations.{declaration}
use Rattle.cc_typed_statements.specs.Conditions.{effect, joined}
use Rattle.cc_typed_statements.specs.Jumps.{returned}

module _ (target : Target) (roles : Roles) where
  unfoldable pub value_here : At Tree → State → Found Operand
  value_here e s = value_found (here target roles e) s

  unfoldable pub effect_found : At Tree → State → Found Expr
  effect_found e s = and_then (value_here e s) (λ x s. whole e.at s (effect x))

  -- an expression for what it does, or an empty statement
  unfoldable pub expression_found : Option (At Tree) → State → Found (List Stmt)
  expression_found None s = done Empty s
  expression_found (Some e) s = and_then (effect_found e s) (λ e s. done (Do e) s)

  -- in a function with such a result
  unfoldable pub return_found : CType → Option (At Tree) → Meaning (List Stmt)
  return_found result e at s = and_then (maybe_found value_here e s) (λ x s. whole at s (returned target result x))

-- the names are those of the objects that the unit defines
module _ (target : Target) (roles : Roles) (defined : List Name) where
  unfoldable pub declared_found : Decl → State → Found (List Stmt)
  declared_found d s = and_then (declaration target roles defined stands.InBlock d s) (λ es s. Ok (map Do es, s))

  -- what stands first in a `for`
  unfoldable pub first_found : First → State → Found (Option Expr)
  first_found (first.Decl d) s = and_then (declaration target roles defined stands.InFor d s) (λ es s. Ok (joined es, s))
  first_found (first.Expr e) s = maybe_found (effect_found target roles) e s
