-- A `switch` (C99 6.8.4.2): of an integer, over a block in which a label comes first.
use Rattle.std.specs.Prelude.{List, [], ◌∷◌, not, Option, Some, None, Ok, Err}
use Rattle.cc_program.specs.CcNum.declared.int_type.IntType.{IntType}
use Rattle.cc_program.specs.CcNum.declared.int_type.IntType.TheVariants as int
use Rattle.cc_program.specs.CcNum.declared.target.Target.{Target}
use Rattle.cc_program.specs.CcNum.Promotions.{promoted}
use Rattle.cc_operands.specs.Operands.{Operand, converted_to, with_value}
use Rattle.cc_operands.specs.Verdicts.{Judged, must, judge_then}
use Rattle.cc_operands.specs.declared.rule.Rule.TheVariants as rule
use Rattle.cc_program.specs.declared.stmt.Case.{Case}
use Rattle.cc_program.specs.declared.stmt.Stmt.{Stmt, Switch}
use Rattle.cc_operands.specs.CcSyntax.Operators.{is_integer}
use Rattle.cc_operands.specs.CcSyntax.Values.{ValueType, Integer}
use Rattle.cc_typed_statements.specs.declared.cases.Cases.{Cases}

-- the type in which the operand is compared with the labels
abbrev pub switch_type : Target → ValueType → IntType
switch_type target (Integer t) = promoted t target
switch_type target _ = int.Int

-- None where the body is no block
abbrev pub cases_of : Option Cases → Judged (List Case)
cases_of None = Err rule.Switch
cases_of (Some c) = must (not c.statement_first) rule.Switch (Ok c.cases)

abbrev pub switch_of : Target → Operand → Option Cases → Judged (List Stmt)
switch_of target x cases =
    with_value x (must (is_integer x.type) rule.Switch (judge_then (cases_of cases) (λ cs. Ok (Switch (converted_to target (switch_type target x.type) x).value cs ∷ []))))
