-- Conditions, and what stands around bodies (C99 6.8.2, 6.8.4.1, 6.8.5).
use Rattle.std.specs.Prelude.{List, [], ◌∷◌, Option, Some, None, Ok}
use Rattle.cc_operands.specs.Operands.{Operand, with_value, no_structure}
use Rattle.cc_operands.specs.Verdicts.{Judged, must, judge_then}
use Rattle.cc_operands.specs.declared.rule.Rule.TheVariants as rule
use Rattle.cc_program.specs.declared.expr.Expr.{Expr, Seq}
use Rattle.cc_program.specs.declared.stmt.Case.{Case}
use Rattle.cc_program.specs.declared.stmt.Stmt.{Stmt, out-Stmt}
use Rattle.cc_program.specs.declared.stmt.Stmt.TheOpen as is
use Rattle.cc_operands.specs.CcSyntax.Values.{is_scalar}

abbrev pub condition : Operand → Judged Expr
condition x = with_value x (must (is_scalar x.type) rule.NoScalar (Ok x.value))

abbrev pub maybe_condition : Option Operand → Judged (Option Expr)
maybe_condition None = Ok None
maybe_condition (Some x) = judge_then (condition x) (λ e. Ok (Some e))

-- an expression for what it does (6.8.3)
abbrev pub effect : Operand → Judged Expr
effect x = no_structure x (Ok x.value)

-- ---- the body of a statement: of a block its own list

abbrev pub inside_block : Stmt → is.Stmt-F Stmt Case → List Stmt
inside_block s (is.Block ss) = ss
inside_block s _ = s ∷ []

abbrev pub body_of : List Stmt → List Stmt
body_of (s ∷ []) = inside_block s (out-Stmt s)
body_of ss = ss

-- ---- several assignments in front of a `for`: one after the other

abbrev pub then_one : Option Expr → Expr → Option Expr
then_one None e = Some e
then_one (Some before) e = Some (Seq before e)

abbrev pub joined_to : Option Expr → List Expr → Option Expr
joined_to before [] = before
joined_to before (e ∷ es) = joined_to (then_one before e) es

abbrev pub joined : List Expr → Option Expr
joined es = joined_to None es
