-- What unary and binary operators make of folded operands is folded.
use Rattle.std.proofs.Common.{◌≡◌, Bool, true, false, ◌&&◌, List, Ok, refl, ap, ◌∙◌, subst}
use Rattle.std.specs.Prelude.{if◌then◌else◌}
use Rattle.cc_program.specs.CcNum.declared.int_type.IntType.{IntType}
use Rattle.cc_program.specs.CcNum.declared.int_type.IntType.TheVariants as int
use Rattle.cc_program.specs.CcNum.declared.op.BinOp.{BinOp}
use Rattle.cc_program.specs.CcNum.declared.op.BinOp.TheVariants as op
use Rattle.cc_program.specs.CcNum.declared.op.UnOp.{UnOp}
use Rattle.cc_program.specs.CcNum.declared.op.UnOp.TheVariants as unary
use Rattle.cc_program.specs.CcNum.declared.target.Target.{Target}
use Rattle.cc_program.specs.CcNum.Promotions.{promoted}
use Rattle.cc_operands.specs.Arithmetic.{truth, both, either, is_null_beside, pointers_compared, moved, working_type, second_type, worked, arithmetic, integers_by, sum_by, gap, difference_by, compared_by, scalars, binary_by, binary_of}
use Rattle.cc_operands.specs.Operands.{Operand, operand, constancy, converted_to, null_of, against_null, with_value}
use Rattle.cc_operands.specs.Unary.{negated, integer_by, plus_by, not_by, unary_by, unary_of}
use Rattle.cc_operands.specs.Verdicts.{must}
use Rattle.cc_operands.specs.declared.operator.Operator.{Operator}
use Rattle.cc_operands.specs.declared.operator.Operator.TheVariants as operator
use Rattle.cc_operands.specs.declared.operator.UnaryOperator.{UnaryOperator}
use Rattle.cc_operands.specs.declared.operator.UnaryOperator.TheVariants as unary_operator
use Rattle.cc_operands.specs.declared.rule.Rule.{Rule}
use Rattle.cc_operands.specs.declared.rule.Rule.TheVariants as rule
use Rattle.cc_program.specs.declared.expr.Expr.{Expr, Un, Bin, Move, Gap, Compare, Both, Either}
use Rattle.cc_program.specs.declared.expr.Expr.TheOpen as one
use Rattle.cc_program.specs.declared.expr.Expr.TheVariants.{rolls-Un, rolls-Bin, rolls-Move, rolls-Gap, rolls-Both, rolls-Either}
use Rattle.cc_program.specs.declared.types.Structure.{Structure}
use Rattle.cc_operands.specs.CcSyntax.Folding.{Constant, operation, variable, unary_constant, binary_constant, both_constant, either_constant, is_folded, constant_of}
use Rattle.cc_operands.specs.CcSyntax.Operators.{unary_result, binary_result, difference_type, has_difference, points_to_object}
use Rattle.cc_operands.specs.CcSyntax.Values.{ValueType, NoValue, Integer, ToObject, ToFunction, is_scalar, point_alike}
use Rattle.cc_folded_operands.proofs.Conversions.{compare_variable, null_folded, against_folded, converted_folded}
use Rattle.cc_folded_operands.proofs.Opened.{Folded, IsVariable, folding_is, constant_is, variable_at, variable_operand, operation_operand}
use Rattle.cc_folded_operands.proofs.Verdicts.{ok_is, must_ok, value_ok, both as two}

-- an operator over two constants, and whether both parts are folded, by what their operands say
operation_of : (f : Constant → Constant → Constant) (c d c' d' : Constant) (a b : Bool) → c ≡ c' → d ≡ d' → a ≡ true → b ≡ true → operation (f c d) (a && b) ≡ operation (f c' d') true
operation_of f c d c' d' a b h k p q =
    ap (λ (z : Constant). operation (f z d) (a && b)) h ∙ ap (λ (z : Constant). operation (f c' z) (a && b)) k ∙ ap (λ (z : Bool). operation (f c' d') z) (two a b p q)

module _ (target : Target) where
  abbrev Good : Operand → Type 0
  Good x = Folded target x

  -- ---- unary operators

  negated_folded : (o : UnOp) (t : IntType) (x : Operand) → Good x → Good (negated target o t x)
  negated_folded o t x h =
      operation_operand target (unary_result o t) (unary_constant target o t (constancy x)) (Un o t x.value)
      (folding_is target (Un o t x.value) (one.Un o t x.value) (rolls-Un o t x.value)
      ∙ ap (λ (c : Constant). operation (unary_constant target o t c) (is_folded target x.value)) h.constant
      ∙ ap (λ (b : Bool). operation (unary_constant target o t (constancy x)) b) h.folded)
      (constant_is target (Un o t x.value) (one.Un o t x.value) (rolls-Un o t x.value))

  integer_folded : (broken : Rule) (o : UnOp) (x : Operand) (v : ValueType) (r : Operand) → Good x → integer_by target broken o x v ≡ Ok r → Good r
  integer_folded broken o x (Integer i) r h e = subst Good (ok_is e) (negated_folded o (promoted i target) (converted_to target (promoted i target) x) (converted_folded target (promoted i target) x h))
  integer_folded broken o x NoValue r h e = absurd (cc)
  integer_folded broken o x (ToObject c v t) r h e = absurd (cc)
  integer_folded broken o x (ToFunction s) r h e = absurd (cc)

  plus_folded : (x : Operand) (v : ValueType) (r : Operand) → Good x → plus_by target x v ≡ Ok r → Good r
  plus_folded x (Integer i) r h e = subst Good (ok_is e) (converted_folded target (promoted i target) x h)
  plus_folded x NoValue r h e = absurd (cc)
  plus_folded x (ToObject c v t) r h e = absurd (cc)
  plus_folded x (ToFunction s) r h e = absurd (cc)

  not_folded : (x : Operand) (v : ValueType) (r : Operand) → Good x → not_by target x v ≡ Ok r → Good r
  not_folded x (Integer i) r h e = integer_folded rule.NoScalar unary.Lnot x (Integer i) r h e
  not_folded x NoValue r h e = absurd (cc)
  not_folded x (ToObject c v t) r h e = subst Good (ok_is e) (against_folded target op.Eq x h)
  not_folded x (ToFunction s) r h e = subst Good (ok_is e) (against_folded target op.Eq x h)

  unary_by_folded : (o : UnaryOperator) (x r : Operand) → Good x → unary_by target o x ≡ Ok r → Good r
  unary_by_folded unary_operator.Plus x r h e = plus_folded x x.type r h e
  unary_by_folded unary_operator.Minus x r h e = integer_folded rule.NoSum unary.Neg x x.type r h e
  unary_by_folded unary_operator.Complement x r h e = integer_folded rule.NoInteger unary.Not x x.type r h e
  unary_by_folded unary_operator.Not x r h e = not_folded x x.type r h e

  pub unary_folded : (o : UnaryOperator) (x r : Operand) → Good x → unary_of target o x ≡ Ok r → Good r
  unary_folded o x r h e = unary_by_folded o x r h (value_ok x (unary_by target o x) r e)

  -- ---- two integers

  worked_folded : (o : BinOp) (t : IntType) (x y : Operand) → Good x → Good y → Good (worked target o t x y)
  worked_folded o t x y h k =
      operation_operand target (binary_result o t) (binary_constant target o t (constancy x) (constancy y)) (Bin o t x.value y.value)
      (folding_is target (Bin o t x.value y.value) (one.Bin o t x.value y.value) (rolls-Bin o t x.value y.value)
      ∙ operation_of (binary_constant target o t) (constant_of target x.value) (constant_of target y.value) (constancy x) (constancy y) (is_folded target x.value) (is_folded target y.value) h.constant k.constant h.folded k.folded)
      (constant_is target (Bin o t x.value y.value) (one.Bin o t x.value y.value) (rolls-Bin o t x.value y.value))

  pub arithmetic_folded : (o : BinOp) (i j : IntType) (x y : Operand) → Good x → Good y → Good (arithmetic target o i j x y)
  arithmetic_folded o i j x y h k =
      worked_folded o (working_type target o i j) (converted_to target (working_type target o i j) x) (converted_to target (second_type target o i j) y)
      (converted_folded target (working_type target o i j) x h) (converted_folded target (second_type target o i j) y k)

  integers_folded : (o : BinOp) (x y : Operand) (v w : ValueType) (r : Operand) → Good x → Good y → integers_by target o x y v w ≡ Ok r → Good r
  integers_folded o x y (Integer i) (Integer j) r h k e = subst Good (ok_is e) (arithmetic_folded o i j x y h k)
  integers_folded o x y (Integer i) NoValue r h k e = absurd (cc)
  integers_folded o x y (Integer i) (ToObject c v t) r h k e = absurd (cc)
  integers_folded o x y (Integer i) (ToFunction s) r h k e = absurd (cc)
  integers_folded o x y NoValue w r h k e = absurd (cc)
  integers_folded o x y (ToObject c v t) w r h k e = absurd (cc)
  integers_folded o x y (ToFunction s) w r h k e = absurd (cc)

  -- ---- sums and differences

  move_variable : (a b : Expr) (back : Bool) → is_folded target a ≡ true → is_folded target b ≡ true → IsVariable target (Move a b back)
  move_variable a b back h k = variable_at target (Move a b back) (one.Move a b back) (rolls-Move a b back) refl (ap variable (two (is_folded target a) (is_folded target b) h k))

  pub move_folded : (x y : Operand) (back : Bool) (t : ValueType) → Good x → Good y → Good (operand (Move x.value y.value back) t)
  move_folded x y back t h k = variable_operand target (Move x.value y.value back) t (move_variable x.value y.value back h.folded k.folded)

  moved_folded : (structures : List Structure) (back : Bool) (x y r : Operand) → Good x → Good y → moved structures back x y ≡ Ok r → Good r
  moved_folded structures back x y r h k e =
      let m = must_ok (points_to_object structures x.type) rule.NoSum (Ok (operand (Move x.value y.value back) x.type)) r e in
      subst Good (ok_is m.1) (move_folded x y back x.type h k)

  gap_folded : (structures : List Structure) (x y r : Operand) → Good x → Good y → gap target structures x y ≡ Ok r → Good r
  gap_folded structures x y r h k e =
      let m = must_ok (point_alike x.type y.type && has_difference structures x.type) rule.NoSum (Ok (operand (Gap x.value y.value) (Integer (difference_type target)))) r e in
      subst Good (ok_is m.1)
      (variable_operand target (Gap x.value y.value) (Integer (difference_type target))
      (variable_at target (Gap x.value y.value) (one.Gap x.value y.value) (rolls-Gap x.value y.value) refl (ap variable (two (is_folded target x.value) (is_folded target y.value) h.folded k.folded))))

  sum_folded : (structures : List Structure) (x y : Operand) (v w : ValueType) (r : Operand) → Good x → Good y → sum_by target structures x y v w ≡ Ok r → Good r
  sum_folded structures x y (Integer i) (Integer j) r h k e = subst Good (ok_is e) (arithmetic_folded op.Add i j x y h k)
  sum_folded structures x y (Integer i) NoValue r h k e = absurd (cc)
  sum_folded structures x y (Integer i) (ToObject c v t) r h k e = absurd (cc)
  sum_folded structures x y (Integer i) (ToFunction s) r h k e = absurd (cc)
  sum_folded structures x y NoValue (Integer j) r h k e = moved_folded structures false x y r h k e
  sum_folded structures x y NoValue NoValue r h k e = absurd (cc)
  sum_folded structures x y NoValue (ToObject c v t) r h k e = absurd (cc)
  sum_folded structures x y NoValue (ToFunction s) r h k e = absurd (cc)
  sum_folded structures x y (ToObject d u p) (Integer j) r h k e = moved_folded structures false x y r h k e
  sum_folded structures x y (ToObject d u p) NoValue r h k e = absurd (cc)
  sum_folded structures x y (ToObject d u p) (ToObject c v t) r h k e = absurd (cc)
  sum_folded structures x y (ToObject d u p) (ToFunction s) r h k e = absurd (cc)
  sum_folded structures x y (ToFunction f) (Integer j) r h k e = moved_folded structures false x y r h k e
  sum_folded structures x y (ToFunction f) NoValue r h k e = absurd (cc)
  sum_folded structures x y (ToFunction f) (ToObject c v t) r h k e = absurd (cc)
  sum_folded structures x y (ToFunction f) (ToFunction s) r h k e = absurd (cc)

  difference_folded : (structures : List Structure) (x y : Operand) (v w : ValueType) (r : Operand) → Good x → Good y → difference_by target structures x y v w ≡ Ok r → Good r
  difference_folded structures x y (Integer i) (Integer j) r h k e = subst Good (ok_is e) (arithmetic_folded op.Sub i j x y h k)
  difference_folded structures x y (Integer i) NoValue r h k e = gap_folded structures x y r h k e
  difference_folded structures x y (Integer i) (ToObject c v t) r h k e = gap_folded structures x y r h k e
  difference_folded structures x y (Integer i) (ToFunction s) r h k e = gap_folded structures x y r h k e
  difference_folded structures x y NoValue (Integer j) r h k e = moved_folded structures true x y r h k e
  difference_folded structures x y NoValue NoValue r h k e = gap_folded structures x y r h k e
  difference_folded structures x y NoValue (ToObject c v t) r h k e = gap_folded structures x y r h k e
  difference_folded structures x y NoValue (ToFunction s) r h k e = gap_folded structures x y r h k e
  difference_folded structures x y (ToObject d u p) (Integer j) r h k e = moved_folded structures true x y r h k e
  difference_folded structures x y (ToObject d u p) NoValue r h k e = gap_folded structures x y r h k e
  difference_folded structures x y (ToObject d u p) (ToObject c v t) r h k e = gap_folded structures x y r h k e
  difference_folded structures x y (ToObject d u p) (ToFunction s) r h k e = gap_folded structures x y r h k e
  difference_folded structures x y (ToFunction f) (Integer j) r h k e = moved_folded structures true x y r h k e
  difference_folded structures x y (ToFunction f) NoValue r h k e = gap_folded structures x y r h k e
  difference_folded structures x y (ToFunction f) (ToObject c v t) r h k e = gap_folded structures x y r h k e
  difference_folded structures x y (ToFunction f) (ToFunction s) r h k e = gap_folded structures x y r h k e

  -- ---- comparisons

  pair_folded : (o : BinOp) (a b : Expr) → is_folded target a ≡ true → is_folded target b ≡ true → Good (truth (Compare o a b))
  pair_folded o a b h k = variable_operand target (Compare o a b) (Integer int.Int) (compare_variable target o a b h k)

  third_compared : (o : BinOp) (x y r : Operand) (b : Bool) → Good x → Good y → must b rule.NoComparison (Ok (truth (Compare o x.value y.value))) ≡ Ok r → Good r
  third_compared o x y r b h k e =
      let m = must_ok b rule.NoComparison (Ok (truth (Compare o x.value y.value))) r e in
      subst Good (ok_is m.1) (pair_folded o x.value y.value h.folded k.folded)

  second_compared : (o : BinOp) (x y r : Operand) (b : Bool) → Good x → Good y →
      (if b then Ok (truth (Compare o (null_of y.type) y.value)) else must (point_alike x.type y.type) rule.NoComparison (Ok (truth (Compare o x.value y.value)))) ≡ Ok r → Good r
  second_compared o x y r true h k e = subst Good (ok_is e) (pair_folded o (null_of y.type) y.value (null_folded target y.type) k.folded)
  second_compared o x y r false h k e = third_compared o x y r (point_alike x.type y.type) h k e

  first_compared : (o : BinOp) (x y r : Operand) (b : Bool) → Good x → Good y →
      (if b then Ok (truth (against_null o x)) else (if is_null_beside o y x then Ok (truth (Compare o (null_of y.type) y.value)) else must (point_alike x.type y.type) rule.NoComparison (Ok (truth (Compare o x.value y.value))))) ≡ Ok r → Good r
  first_compared o x y r true h k e = subst Good (ok_is e) (against_folded target o x h)
  first_compared o x y r false h k e = second_compared o x y r (is_null_beside o y x) h k e

  pointers_folded : (o : BinOp) (x y r : Operand) → Good x → Good y → pointers_compared o x y ≡ Ok r → Good r
  pointers_folded o x y r h k e = first_compared o x y r (is_null_beside o x y) h k e

  compared_folded : (o : BinOp) (x y : Operand) (v w : ValueType) (r : Operand) → Good x → Good y → compared_by target o x y v w ≡ Ok r → Good r
  compared_folded o x y (Integer i) (Integer j) r h k e = subst Good (ok_is e) (arithmetic_folded o i j x y h k)
  compared_folded o x y (Integer i) NoValue r h k e = pointers_folded o x y r h k e
  compared_folded o x y (Integer i) (ToObject c v t) r h k e = pointers_folded o x y r h k e
  compared_folded o x y (Integer i) (ToFunction s) r h k e = pointers_folded o x y r h k e
  compared_folded o x y NoValue w r h k e = pointers_folded o x y r h k e
  compared_folded o x y (ToObject c v t) w r h k e = pointers_folded o x y r h k e
  compared_folded o x y (ToFunction s) w r h k e = pointers_folded o x y r h k e

  -- ---- `&&` and `||`

  both_folded : (x y : Operand) → Good x → Good y → Good (both x y)
  both_folded x y h k =
      operation_operand target int.Int (both_constant (constancy x) (constancy y)) (Both x.value y.value)
      (folding_is target (Both x.value y.value) (one.Both x.value y.value) (rolls-Both x.value y.value)
      ∙ operation_of both_constant (constant_of target x.value) (constant_of target y.value) (constancy x) (constancy y) (is_folded target x.value) (is_folded target y.value) h.constant k.constant h.folded k.folded)
      (constant_is target (Both x.value y.value) (one.Both x.value y.value) (rolls-Both x.value y.value))

  either_folded : (x y : Operand) → Good x → Good y → Good (either x y)
  either_folded x y h k =
      operation_operand target int.Int (either_constant (constancy x) (constancy y)) (Either x.value y.value)
      (folding_is target (Either x.value y.value) (one.Either x.value y.value) (rolls-Either x.value y.value)
      ∙ operation_of either_constant (constant_of target x.value) (constant_of target y.value) (constancy x) (constancy y) (is_folded target x.value) (is_folded target y.value) h.constant k.constant h.folded k.folded)
      (constant_is target (Either x.value y.value) (one.Either x.value y.value) (rolls-Either x.value y.value))

  scalars_folded : (x y whole r : Operand) → Good whole → scalars x y whole ≡ Ok r → Good r
  scalars_folded x y whole r h e = let m = must_ok (is_scalar x.type && is_scalar y.type) rule.NoScalar (Ok whole) r e in subst Good (ok_is m.1) h

  -- ---- a binary operator

  binary_by_folded : (structures : List Structure) (o : Operator) (x y r : Operand) → Good x → Good y → binary_by target structures o x y ≡ Ok r → Good r
  binary_by_folded structures (operator.OfIntegers o) x y r h k e = integers_folded o x y x.type y.type r h k e
  binary_by_folded structures operator.Sum x y r h k e = sum_folded structures x y x.type y.type r h k e
  binary_by_folded structures operator.Difference x y r h k e = difference_folded structures x y x.type y.type r h k e
  binary_by_folded structures (operator.Comparison o) x y r h k e = compared_folded o x y x.type y.type r h k e
  binary_by_folded structures operator.Both x y r h k e = scalars_folded x y (both x y) r (both_folded x y h k) e
  binary_by_folded structures operator.Either x y r h k e = scalars_folded x y (either x y) r (either_folded x y h k) e

  pub binary_folded : (structures : List Structure) (o : Operator) (x y r : Operand) → Good x → Good y → binary_of target structures o x y ≡ Ok r → Good r
  binary_folded structures o x y r h k e =
      binary_by_folded structures o x y r h k (value_ok y (binary_by target structures o x y) r (value_ok x (with_value y (binary_by target structures o x y)) r e))
