-- The bound of an array: a constant from 1 to 65,535 (C99 6.7.5.2, 1).
use Rattle.std.specs.Prelude.{ℕ, ℤ, pos, negsuc, Bool, ◌&&◌, nat_le, Ok, Err}
use Rattle.cc_operands.specs.Operands.{Operand, constancy}
use Rattle.cc_operands.specs.Verdicts.{Judged, must}
use Rattle.cc_operands.specs.declared.rule.Rule.TheVariants as rule
use Rattle.cc_syntax.specs.Folding.{Constant, NoConstant, Value, Traps}

-- how many elements an array may have

abbrev pub is_bound : ℕ → Bool
is_bound n = nat_le 1 n && nat_le n 65535

abbrev pub bound_by : ℤ → Judged ℕ
bound_by (pos n) = must (is_bound n) rule.ArrayBound (Ok n)
bound_by (negsuc n) = Err rule.ArrayBound

abbrev pub bound_in : Constant → Judged ℕ
bound_in NoConstant = Err rule.ArrayBound
bound_in (Value n) = bound_by n
bound_in Traps = Err rule.ConstantTraps

abbrev pub bound_judged : Operand → Judged ℕ
bound_judged x = bound_in (constancy x)
