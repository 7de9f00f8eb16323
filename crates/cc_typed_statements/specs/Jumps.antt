-- Jumps: what `break`, `continue` and `return` may do where a statement stands (C99 6.8.6).
use Rattle.std.specs.Prelude.{true, false, List, [], ◌∷◌, Option, Some, None, Ok, Err, if◌then◌else◌}
use Rattle.cc_program.specs.CcNum.declared.target.Target.{Target}
use Rattle.cc_operands.specs.Assignments.{assigned}
use Rattle.cc_operands.specs.Operands.{Operand}
use Rattle.cc_operands.specs.Verdicts.{Judged, must, judge_then}
use Rattle.cc_operands.specs.declared.rule.Rule.TheVariants as rule
use Rattle.cc_program.specs.declared.stmt.Stmt.{Stmt, Break, Continue, Return}
use Rattle.cc_program.specs.declared.types.CType.{CType}
use Rattle.cc_operands.specs.CcSyntax.Values.{ValueType, is_void, scalar_value}
use Rattle.cc_typed_statements.specs.declared.jumps.Jumps.{Jumps}

abbrev pub no_jumps : Jumps
no_jumps = record { breaks = false; continues = false }

abbrev pub in_loop : Jumps → Jumps
in_loop j = record { breaks = true; continues = true }

abbrev pub in_switch : Jumps → Jumps
in_switch j = record { breaks = true; continues = j.continues }

abbrev pub break_of : Jumps → Judged (List Stmt)
break_of j = must j.breaks rule.Break (Ok (Break ∷ []))

abbrev pub continue_of : Jumps → Judged (List Stmt)
continue_of j = must j.continues rule.Continue (Ok (Continue ∷ []))

-- ---- a `return` has a value exactly where the function gives one (6.8.6.4)

module _ (target : Target) where
  abbrev pub returned_by : Operand → Option ValueType → Judged (List Stmt)
  returned_by x None = Err rule.ReturnValue
  returned_by x (Some to) = judge_then (assigned target to x) (λ y. Ok (Return (Some y.value) ∷ []))

  abbrev pub returned : CType → Option Operand → Judged (List Stmt)
  returned t None = must (is_void t) rule.ReturnValue (Ok (Return None ∷ []))
  returned t (Some x) = if is_void t then Err rule.ReturnValue else returned_by x (scalar_value t)
