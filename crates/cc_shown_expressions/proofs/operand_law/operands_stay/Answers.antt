use Rattle.std.proofs.Common.{true, false, refl}
use Rattle.cc_terms.specs.CcOperands.declared.operator.Operator.TheVariants as operator
use Rattle.cc_shown_expressions.proofs.CastRules.{integer-cast, constant-pointer, void-pointer, null-pointer, qualified-pointer}
use Rattle.cc_shown_expressions.proofs.ChoiceRules.{choose-integers, choose-pointers, assign-rule, assign-null, assign-constant}
use Rattle.cc_shown_expressions.proofs.Rules.{unary-rule, integer-rule, move-rule, gap-rule, compare-rule, both-rule, either-rule}
use Rattle.cc_shown_expressions.proofs.operand_law.operands_stay.Goals as goal

pub returns : goal.returns
returns c = record {
  unary = unary-rule;
  binary = integer-rule;
  moved = λ target structures x y s h k. move-rule target structures false operator.Sum x y s refl h k;
  moved_back = λ target structures x y s h k. move-rule target structures true operator.Difference x y s refl h k;
  differences = gap-rule;
  comparisons = compare-rule;
  both = both-rule;
  either = either-rule;
  chosen_integers = choose-integers;
  chosen_pointers = choose-pointers;
  assigned = assign-rule;
  assigned_nulls = assign-null;
  assigned_constants = assign-constant;
  integer_casts = integer-cast;
  constant_casts = constant-pointer;
  void_casts = void-pointer;
  null_casts = null-pointer;
  pointer_casts = qualified-pointer;
}
