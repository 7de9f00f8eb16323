-- Assignments to what an expression designates (C99 6.5.16, 6.5.2.4, 6.5.3.1).
use Rattle.std.specs.Prelude.{pos, Bool, List, Option, Some, None, Err, if◌then◌else◌}
use Rattle.cc_operands.specs.CcLex.declared.token.Mark.{Mark}
use Rattle.cc_program.specs.CcNum.declared.int_type.IntType.TheVariants as int
use Rattle.cc_program.specs.CcNum.declared.op.BinOp.{BinOp}
use Rattle.cc_program.specs.CcNum.declared.op.BinOp.TheVariants as op
use Rattle.cc_program.specs.CcNum.declared.target.Target.{Target}
use Rattle.cc_operands.specs.Assignments.{stored_at, changed_at, stepped_at}
use Rattle.cc_operands.specs.Operands.{Operand, integer}
use Rattle.cc_operands.specs.Operators.{assigns_by}
use Rattle.cc_operands.specs.Verdicts.{Judged}
use Rattle.cc_operands.specs.declared.rule.Rule.TheVariants as rule
use Rattle.cc_program.specs.declared.types.Structure.{Structure}
use Rattle.cc_operands.specs.CcSyntax.Values.{written_to}
use Rattle.cc_designators.specs.Designators.{TypedExpr, IsPlace}

module _ (target : Target) where
  -- `a = b`
  abbrev pub assign_to : TypedExpr → Operand → Judged Operand
  assign_to (IsPlace a t) x = stored_at target a (written_to t) x
  assign_to _ x = Err rule.NotModifiable

  -- `a op= b`, `++a`, `--a`
  abbrev pub change_of : List Structure → BinOp → TypedExpr → Operand → Judged Operand
  change_of structures o (IsPlace a t) x = changed_at target structures o a x (written_to t)
  change_of structures o _ x = Err rule.NotModifiable

  abbrev pub assign_by : List Structure → Option BinOp → TypedExpr → Operand → Judged Operand
  assign_by structures None a x = assign_to a x
  assign_by structures (Some o) a x = change_of structures o a x

  abbrev pub assign_of : List Structure → Mark → TypedExpr → Operand → Judged Operand
  assign_of structures o a x = assign_by structures (assigns_by o) a x

  abbrev pub one : Operand
  one = integer (pos 1) int.Int

  abbrev pub stepped_before : List Structure → Bool → TypedExpr → Judged Operand
  stepped_before structures down a = change_of structures (if down then op.Sub else op.Add) a one

-- `a++`, `a--`
abbrev pub stepped_after : List Structure → Bool → TypedExpr → Judged Operand
stepped_after structures down (IsPlace a t) = stepped_at structures down a (written_to t)
stepped_after structures down _ = Err rule.NotModifiable
