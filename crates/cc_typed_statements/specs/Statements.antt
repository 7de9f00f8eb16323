-- Choices and loops of which the parts have types (C99 6.8.4.1, 6.8.5).
use Rattle.std.specs.Prelude.{List, [], ◌∷◌, Option, Ok}
use Rattle.cc_operands.specs.Operands.{Operand}
use Rattle.cc_operands.specs.Verdicts.{Judged, judge_then}
use Rattle.cc_program.specs.declared.expr.Expr.{Expr}
use Rattle.cc_program.specs.declared.stmt.Stmt.{Stmt, If, While, DoWhile, For}
use Rattle.cc_typed_statements.specs.Conditions.{condition, maybe_condition}

abbrev pub if_of : Operand → List Stmt → List Stmt → Judged (List Stmt)
if_of x these those = judge_then (condition x) (λ e. Ok (If e these those ∷ []))

abbrev pub while_of : Operand → List Stmt → Judged (List Stmt)
while_of x body = judge_then (condition x) (λ e. Ok (While e body ∷ []))

abbrev pub do_of : List Stmt → Operand → Judged (List Stmt)
do_of body x = judge_then (condition x) (λ e. Ok (DoWhile body e ∷ []))

abbrev pub for_of : Option Expr → Option Operand → Option Expr → List Stmt → Judged (List Stmt)
for_of first test step body = judge_then (maybe_condition test) (λ test. Ok (For first test step body ∷ []))
