-- Where an address constant lies, opened at a level.
use Rattle.std.proofs.Common.{◌≡◌, ℕ, ℤ, Bool, true, false, ◌||◌, ◌&&◌, List, Option, Ok, refl, ap, ◌∙◌}
use Rattle.std.specs.Prelude.{if◌then◌else◌}
use Rattle.cc_type.specs.CcInitial.Addresses.{Located, ConstantExpression, expr_step, place_step, constant_expression, place_located, located, address_leaf, leaf_by}
use Rattle.cc_program.specs.CcNum.declared.int_type.IntType.{IntType}
use Rattle.cc_program.specs.CcNum.Integers.{is_value_of}
use Rattle.cc_program.proofs.CcNum.Conversions.{converted-same}
use Rattle.cc_program.proofs.CcNum.ResultLaws.{value_from_test}
use Rattle.cc_program.specs.CcNum.declared.target.Target.{Target}
use Rattle.cc_type.specs.CcOperands.Assignments.{assigned, assigned_pointer}
use Rattle.cc_type.specs.CcOperands.Operands.{Operand, operand, integer, folded, cast_to, converted_from, constant_at, is_pointer, is_to_void, is_zero_constant, is_null_at, is_null_constant, null_of}
use Rattle.cc_type.specs.CcOperands.Verdicts.{must}
use Rattle.cc_type.specs.CcOperands.declared.rule.Rule.TheVariants as rule
use Rattle.cc_shown_expressions.proofs.ChoiceRules.{constancy-of}
use Rattle.cc_shown_expressions.proofs.Rules.{with-scalar, without-structure}
use Rattle.cc_program.specs.declared.expr.Expr.{Expr, Const, Conv, out-Expr, map-Expr, fold_out-Expr}
use Rattle.cc_program.specs.declared.expr.Expr.TheOpen as one
use Rattle.cc_program.specs.declared.expr.Place.{Place, out-Place, map-Place, fold_out-Place}
use Rattle.cc_program.specs.declared.types.CType.{CType}
use Rattle.cc_program.specs.declared.types.Structure.{Structure}
use Rattle.cc_type.specs.CcSyntax.Folding.{Constant, NoConstant, converted_constant}
use Rattle.cc_type.specs.CcSyntax.SameTypes.{same_int}
use Rattle.cc_type.proofs.CcSyntax.SameLemmas.{int_same}
use Rattle.cc_type.specs.CcSyntax.Values.{ValueType, NoValue, Integer, ToObject, ToFunction, is_scalar, is_assignable}

module _ (structures : List Structure) (objects : ℕ → Option CType) where
  abbrev found_in : one.Expr-F Expr Place → ConstantExpression
  found_in x = expr_step structures objects (map-Expr Expr Place ConstantExpression Located (constant_expression structures objects) (place_located structures objects) x)

  expression-out : (e : Expr) → constant_expression structures objects e ≡ found_in (out-Expr e)
  unfolding constant_expression place_located
  expression-out e = fold_out-Expr ConstantExpression Located (expr_step structures objects) (place_step structures objects) e

  pub expression-at : (e : Expr) (x : one.Expr-F Expr Place) → out-Expr e ≡ x → constant_expression structures objects e ≡ found_in x
  expression-at e x h = expression-out e ∙ ap found_in h

  pub located-at : (e : Expr) (x : one.Expr-F Expr Place) → out-Expr e ≡ x → located structures objects e ≡ (found_in x).located
  located-at e x h = ap (λ (c : ConstantExpression). c.located) (expression-at e x h)

  abbrev place_in : one.Place-F Expr Place → Located
  place_in x = place_step structures objects (map-Place Expr Place ConstantExpression Located (constant_expression structures objects) (place_located structures objects) x)

  place-out : (a : Place) → place_located structures objects a ≡ place_in (out-Place a)
  unfolding constant_expression place_located
  place-out a = fold_out-Place ConstantExpression Located (expr_step structures objects) (place_step structures objects) a

  pub place-located-at : (a : Place) (x : one.Place-F Expr Place) → out-Place a ≡ x → place_located structures objects a ≡ place_in x
  place-located-at a x h = place-out a ∙ ap place_in h

  -- the first value of a pointer
  pub leaf-pointer : (e : Expr) (w : ValueType) → is_pointer w ≡ true → leaf_by structures objects (operand e w) w ≡ address_leaf (located structures objects e)
  leaf-pointer e NoValue h = absurd (cc)
  leaf-pointer e (Integer t) h = absurd (cc)
  leaf-pointer e (ToObject c v t) h = refl
  leaf-pointer e (ToFunction g) h = refl

-- ---- what is assigned to a pointer

pointer-scalar : (w : ValueType) → is_pointer w ≡ true → is_scalar w ≡ true
pointer-scalar NoValue h = absurd (cc)
pointer-scalar (Integer t) h = absurd (cc)
pointer-scalar (ToObject c v t) h = refl
pointer-scalar (ToFunction g) h = refl

module _ (target : Target) where
  pointer-by : (w : ValueType) (x : Operand) → is_pointer w ≡ true → x.structure ≡ false → is_scalar x.type ≡ true → assigned target w x ≡ assigned_pointer w x
  pointer-by NoValue x h f g = absurd (cc)
  pointer-by (Integer t) x h f g = absurd (cc)
  pointer-by (ToObject c v t) x h f g = without-structure x _ f ∙ with-scalar x (assigned_pointer (ToObject c v t) x) g
  pointer-by (ToFunction t) x h f g = without-structure x _ f ∙ with-scalar x (assigned_pointer (ToFunction t) x) g

  pub assigned-address : (e : Expr) (v w : ValueType) → is_pointer w ≡ true → is_scalar v ≡ true → is_null_constant (operand e v) ≡ false → is_assignable w v ≡ true → assigned target w (operand e v) ≡ Ok (operand e w)
  assigned-address e v w h g n a =
      pointer-by w (operand e v) h refl g
      ∙ ap (λ (b : Bool). if b then Ok (operand (null_of w) w) else must (is_assignable w v) rule.NotAssignable (Ok (operand e w))) n
      ∙ ap (λ (b : Bool). must b rule.NotAssignable (Ok (operand e w))) a

  pub assigned-null : (x : Operand) (w : ValueType) → is_pointer w ≡ true → x.structure ≡ false → is_scalar x.type ≡ true → is_null_constant x ≡ true → assigned target w x ≡ Ok (operand (null_of w) w)
  assigned-null x w h f g n = pointer-by w x h f g ∙ ap (λ (b : Bool). if b then Ok (operand (null_of w) w) else must (is_assignable w x.type) rule.NotAssignable (Ok (operand x.value w))) n

and-false : (b : Bool) → (b && false) ≡ false
and-false true = refl
and-false false = refl

-- what is no constant and no null
pub no-null : (e : Expr) (v : ValueType) → constant_at (out-Expr e) ≡ NoConstant → is_null_at (out-Expr e) ≡ false → is_null_constant (operand e v) ≡ false
no-null e v h k =
    ap (λ (c : Constant). is_zero_constant c || (is_to_void v && is_null_at (out-Expr e))) h
    ∙ ap (λ (b : Bool). is_to_void v && b) k ∙ and-false (is_to_void v)

-- ---- an integer constant that is a value of an integer type

module _ (target : Target) where
  cast-by : (k : ℤ) (i t : IntType) → is_value_of t target k ≡ true → cast_to target t (integer k i) ≡ integer k t
  cast-by k i t h =
      ap (λ (c : Constant). folded t (converted_constant target t c) (Conv t (Const k i))) (constancy-of target k i)
      ∙ ap (λ (m : ℤ). integer m t) (converted-same t target k (value_from_test t target k h))

  converted-by : (k : ℤ) (i t : IntType) (b : Bool) → same_int i t ≡ b → is_value_of t target k ≡ true → converted_from target t i (integer k i) ≡ integer k t
  converted-by k i t true e h = ap (λ (b : Bool). if b then integer k i else cast_to target t (integer k i)) e ∙ ap (λ (j : IntType). integer k j) (int_same i t e)
  converted-by k i t false e h = ap (λ (b : Bool). if b then integer k i else cast_to target t (integer k i)) e ∙ cast-by k i t h

  pub integer-assigned : (k : ℤ) (i t : IntType) → is_value_of t target k ≡ true → assigned target (Integer t) (integer k i) ≡ Ok (integer k t)
  integer-assigned k i t h = ap (λ (z : Operand). Ok z) (converted-by k i t (same_int i t) refl h)
