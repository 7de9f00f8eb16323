-- What statements ask of the type of an expression, kept where it has another type (C99 6.8).
use Rattle.std.specs.Prelude.{◌≡◌, ℤ, true, List, Option, is_some}
use Rattle.cc_program.specs.CcNum.declared.target.Target.{Target}
use Rattle.cc_program.specs.declared.types.CType.{CType}
use Rattle.cc_operands.specs.CcSyntax.Statements.{is_condition, labels_fit}
use Rattle.cc_operands.specs.CcSyntax.Values.{ValueType, is_assignable_some, scalar_value}

-- in functions that give such results
pub record Keeps (target : Target) (before after : CType) (o p : Option ValueType) : Type 0 where
  pub there : is_some o ≡ true → is_some p ≡ true
  pub condition : is_condition o ≡ true → is_condition p ≡ true
  pub labels : (ls : List (Option ℤ)) → labels_fit target ls o ≡ true → labels_fit target ls p ≡ true
  pub returned : is_assignable_some (scalar_value before) o ≡ true → is_assignable_some (scalar_value after) p ≡ true
