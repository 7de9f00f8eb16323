-- What unary and binary operators make of operands accesses what these access.
use Rattle.std.proofs.Common.{◌≡◌, ◌∙◌, ◌||◌, ◌&&◌, ℕ, Bool, true, false, List, Ok, refl, subst}
use Rattle.std.specs.Prelude.{if◌then◌else◌}
use Rattle.std.proofs.lemmas.Bool.{or_right}
use Rattle.cc_accessed_operands.specs.Accessed.{accesses}
use Rattle.cc_accessed_operands.specs.Kept.{TrapsWithoutAccess, KeepsOperand}
use Rattle.cc_accessed_operands.proofs.Accesses.{or_kept, or_either}
use Rattle.cc_accessed_operands.proofs.Constants.{folded_keeps, unary_part, binary_parts, both_parts, either_parts}
use Rattle.cc_accessed_operands.proofs.Conversions.{against_keeps, converted_keeps, converted_known}
use Rattle.cc_accessed_operands.proofs.Parts.{accesses_is, never, neither, second_of, null_constant_none, constant_accesses_none, operand_keeps, fewer}
use Rattle.cc_accessed_operands.proofs.Verdicts.{ok_is, must_ok, value_ok}
use Rattle.cc_designators.specs.Designators.{IsValue}
use Rattle.cc_program.specs.CcNum.Promotions.{promoted}
use Rattle.cc_program.specs.CcNum.declared.int_type.IntType.{IntType}
use Rattle.cc_program.specs.CcNum.declared.int_type.IntType.TheVariants as int
use Rattle.cc_program.specs.CcNum.declared.op.BinOp.{BinOp}
use Rattle.cc_program.specs.CcNum.declared.op.BinOp.TheVariants as op
use Rattle.cc_program.specs.CcNum.declared.op.UnOp.{UnOp}
use Rattle.cc_program.specs.CcNum.declared.op.UnOp.TheVariants as unary
use Rattle.cc_program.specs.CcNum.declared.target.Target.{Target}
use Rattle.cc_operands.specs.Arithmetic.{truth, is_equality, both, either, is_null_beside, pointers_compared, moved, working_type, second_type, worked, arithmetic, integers_by, sum_by, gap, difference_by, compared_by, scalars, binary_by, binary_of}
use Rattle.cc_operands.specs.Operands.{Operand, operand, constancy, converted_to, is_pointer, is_null_constant, null_of, against_null, with_value}
use Rattle.cc_operands.specs.Unary.{negated, integer_by, plus_by, not_by, unary_by, unary_of}
use Rattle.cc_operands.specs.Verdicts.{must}
use Rattle.cc_operands.specs.declared.operator.Operator.{Operator}
use Rattle.cc_operands.specs.declared.operator.Operator.TheVariants as operator
use Rattle.cc_operands.specs.declared.operator.UnaryOperator.{UnaryOperator}
use Rattle.cc_operands.specs.declared.operator.UnaryOperator.TheVariants as unary_operator
use Rattle.cc_operands.specs.declared.rule.Rule.{Rule}
use Rattle.cc_operands.specs.declared.rule.Rule.TheVariants as rule
use Rattle.cc_program.specs.declared.expr.Expr.{Un, Bin, Move, Gap, Compare, Both, Either}
use Rattle.cc_program.specs.declared.expr.Expr.TheOpen as one
use Rattle.cc_program.specs.declared.expr.Expr.TheVariants.{rolls-Un, rolls-Bin, rolls-Move, rolls-Gap, rolls-Compare, rolls-Both, rolls-Either}
use Rattle.cc_program.specs.declared.types.Structure.{Structure}
use Rattle.cc_operands.specs.CcSyntax.Folding.{unary_constant, binary_constant, both_constant, either_constant}
use Rattle.cc_operands.specs.CcSyntax.Operators.{unary_result, binary_result, difference_type, has_difference, points_to_object}
use Rattle.cc_operands.specs.CcSyntax.Values.{ValueType, NoValue, Integer, ToObject, ToFunction, is_scalar, point_alike}

abbrev accesses_either : Operand → Operand → ℕ → Bool
accesses_either x y d = accesses d x.value || accesses d y.value

abbrev KeepsOne : Operand → Operand → Type 0
KeepsOne x r = KeepsOperand r (λ d. accesses d x.value)

abbrev KeepsTwo : Operand → Operand → Operand → Type 0
KeepsTwo x y r = KeepsOperand r (accesses_either x y)

abbrev Good : Operand → Type 0
Good x = TrapsWithoutAccess x

-- an operator over operands that keep those before
through : (x y x' y' r : Operand) → ((d : ℕ) → accesses d x.value ≡ true → accesses d x'.value ≡ true) → ((d : ℕ) → accesses d y.value ≡ true → accesses d y'.value ≡ true) → KeepsTwo x' y' r → KeepsTwo x y r
through x y x' y' r h k good =
    fewer (IsValue r) (accesses_either x' y') (accesses_either x y) (λ d. or_kept (accesses d x.value) (accesses d y.value) (accesses d x'.value) (accesses d y'.value) (h d) (k d)) good

module _ (target : Target) where
  -- ---- unary operators

  negated_keeps : (o : UnOp) (t : IntType) (x : Operand) → Good x → KeepsOne x (negated target o t x)
  negated_keeps o t x h =
      folded_keeps (unary_result o t) (unary_constant target o t (constancy x)) (Un o t x.value) (λ d. accesses d x.value)
      (λ d a. accesses_is d (Un o t x.value) (one.Un o t x.value) (rolls-Un o t x.value) ∙ a)
      (λ k d. accesses_is d (Un o t x.value) (one.Un o t x.value) (rolls-Un o t x.value) ∙ constant_accesses_none x h (unary_part target o t (constancy x) k) d)

  promoted_keeps : (o : UnOp) (t : IntType) (x : Operand) → Good x → KeepsOne x (negated target o t (converted_to target t x))
  promoted_keeps o t x h =
      let c = converted_to target t x in
      fewer (IsValue (negated target o t c)) (λ d. accesses d c.value) (λ d. accesses d x.value) (converted_keeps target t x) (negated_keeps o t c (converted_known target t x h))

  integer_keeps : (broken : Rule) (o : UnOp) (x : Operand) (v : ValueType) (r : Operand) → Good x → integer_by target broken o x v ≡ Ok r → KeepsOne x r
  integer_keeps broken o x (Integer i) r h e = subst (KeepsOne x) (ok_is e) (promoted_keeps o (promoted i target) x h)
  integer_keeps broken o x NoValue r h e = absurd (cc)
  integer_keeps broken o x (ToObject c v t) r h e = absurd (cc)
  integer_keeps broken o x (ToFunction s) r h e = absurd (cc)

  plus_keeps : (x : Operand) (v : ValueType) (r : Operand) → Good x → plus_by target x v ≡ Ok r → KeepsOne x r
  plus_keeps x (Integer i) r h e = subst (KeepsOne x) (ok_is e) (record { known = converted_known target (promoted i target) x h; kept = converted_keeps target (promoted i target) x })
  plus_keeps x NoValue r h e = absurd (cc)
  plus_keeps x (ToObject c v t) r h e = absurd (cc)
  plus_keeps x (ToFunction s) r h e = absurd (cc)

  null_keeps : (o : BinOp) (x : Operand) → KeepsOne x (truth (against_null o x))
  null_keeps o x = operand_keeps (against_null o x) (Integer int.Int) (λ d. accesses d x.value) (against_keeps o x)

  not_keeps : (x : Operand) (v : ValueType) (r : Operand) → Good x → not_by target x v ≡ Ok r → KeepsOne x r
  not_keeps x (Integer i) r h e = integer_keeps rule.NoScalar unary.Lnot x (Integer i) r h e
  not_keeps x NoValue r h e = absurd (cc)
  not_keeps x (ToObject c v t) r h e = subst (KeepsOne x) (ok_is e) (null_keeps op.Eq x)
  not_keeps x (ToFunction s) r h e = subst (KeepsOne x) (ok_is e) (null_keeps op.Eq x)

  unary_by_keeps : (o : UnaryOperator) (x r : Operand) → Good x → unary_by target o x ≡ Ok r → KeepsOne x r
  unary_by_keeps unary_operator.Plus x r h e = plus_keeps x x.type r h e
  unary_by_keeps unary_operator.Minus x r h e = integer_keeps rule.NoSum unary.Neg x x.type r h e
  unary_by_keeps unary_operator.Complement x r h e = integer_keeps rule.NoInteger unary.Not x x.type r h e
  unary_by_keeps unary_operator.Not x r h e = not_keeps x x.type r h e

  pub unary_keeps : (o : UnaryOperator) (x r : Operand) → TrapsWithoutAccess x → unary_of target o x ≡ Ok r → KeepsOperand r (λ d. accesses d x.value)
  unary_keeps o x r h e = unary_by_keeps o x r h (value_ok x (unary_by target o x) r e)

  -- ---- two integers

  worked_keeps : (o : BinOp) (t : IntType) (x y : Operand) → Good x → Good y → KeepsTwo x y (worked target o t x y)
  worked_keeps o t x y h k =
      folded_keeps (binary_result o t) (binary_constant target o t (constancy x) (constancy y)) (Bin o t x.value y.value) (accesses_either x y)
      (λ d a. accesses_is d (Bin o t x.value y.value) (one.Bin o t x.value y.value) (rolls-Bin o t x.value y.value) ∙ a)
      (λ c d. let p = binary_parts target o t (constancy x) (constancy y) c in
      accesses_is d (Bin o t x.value y.value) (one.Bin o t x.value y.value) (rolls-Bin o t x.value y.value)
      ∙ neither (accesses d x.value) (accesses d y.value) (constant_accesses_none x h p.0 d) (constant_accesses_none y k p.1 d))

  arithmetic_keeps : (o : BinOp) (i j : IntType) (x y : Operand) → Good x → Good y → KeepsTwo x y (arithmetic target o i j x y)
  arithmetic_keeps o i j x y h k =
      let t = working_type target o i j in
      let s = second_type target o i j in
      through x y (converted_to target t x) (converted_to target s y) (arithmetic target o i j x y) (converted_keeps target t x) (converted_keeps target s y)
      (worked_keeps o t (converted_to target t x) (converted_to target s y) (converted_known target t x h) (converted_known target s y k))

  integers_keeps : (o : BinOp) (x y : Operand) (v w : ValueType) (r : Operand) → Good x → Good y → integers_by target o x y v w ≡ Ok r → KeepsTwo x y r
  integers_keeps o x y (Integer i) (Integer j) r h k e = subst (KeepsTwo x y) (ok_is e) (arithmetic_keeps o i j x y h k)
  integers_keeps o x y (Integer i) NoValue r h k e = absurd (cc)
  integers_keeps o x y (Integer i) (ToObject c v t) r h k e = absurd (cc)
  integers_keeps o x y (Integer i) (ToFunction s) r h k e = absurd (cc)
  integers_keeps o x y NoValue w r h k e = absurd (cc)
  integers_keeps o x y (ToObject c v t) w r h k e = absurd (cc)
  integers_keeps o x y (ToFunction s) w r h k e = absurd (cc)

  -- ---- sums and differences

  moved_keeps : (structures : List Structure) (back : Bool) (x y r : Operand) → moved structures back x y ≡ Ok r → KeepsTwo x y r
  moved_keeps structures back x y r e =
      let m = must_ok (points_to_object structures x.type) rule.NoSum (Ok (operand (Move x.value y.value back) x.type)) r e in
      subst (KeepsTwo x y) (ok_is m.1)
      (operand_keeps (Move x.value y.value back) x.type (accesses_either x y) (λ d a. accesses_is d (Move x.value y.value back) (one.Move x.value y.value back) (rolls-Move x.value y.value back) ∙ a))

  gap_keeps : (structures : List Structure) (x y r : Operand) → gap target structures x y ≡ Ok r → KeepsTwo x y r
  gap_keeps structures x y r e =
      let m = must_ok (point_alike x.type y.type && has_difference structures x.type) rule.NoSum (Ok (operand (Gap x.value y.value) (Integer (difference_type target)))) r e in
      subst (KeepsTwo x y) (ok_is m.1)
      (operand_keeps (Gap x.value y.value) (Integer (difference_type target)) (accesses_either x y) (λ d a. accesses_is d (Gap x.value y.value) (one.Gap x.value y.value) (rolls-Gap x.value y.value) ∙ a))

  sum_keeps : (structures : List Structure) (x y : Operand) (v w : ValueType) (r : Operand) → Good x → Good y → sum_by target structures x y v w ≡ Ok r → KeepsTwo x y r
  sum_keeps structures x y (Integer i) (Integer j) r h k e = subst (KeepsTwo x y) (ok_is e) (arithmetic_keeps op.Add i j x y h k)
  sum_keeps structures x y (Integer i) NoValue r h k e = absurd (cc)
  sum_keeps structures x y (Integer i) (ToObject c v t) r h k e = absurd (cc)
  sum_keeps structures x y (Integer i) (ToFunction s) r h k e = absurd (cc)
  sum_keeps structures x y NoValue (Integer j) r h k e = moved_keeps structures false x y r e
  sum_keeps structures x y NoValue NoValue r h k e = absurd (cc)
  sum_keeps structures x y NoValue (ToObject c v t) r h k e = absurd (cc)
  sum_keeps structures x y NoValue (ToFunction s) r h k e = absurd (cc)
  sum_keeps structures x y (ToObject d u p) (Integer j) r h k e = moved_keeps structures false x y r e
  sum_keeps structures x y (ToObject d u p) NoValue r h k e = absurd (cc)
  sum_keeps structures x y (ToObject d u p) (ToObject c v t) r h k e = absurd (cc)
  sum_keeps structures x y (ToObject d u p) (ToFunction s) r h k e = absurd (cc)
  sum_keeps structures x y (ToFunction f) (Integer j) r h k e = moved_keeps structures false x y r e
  sum_keeps structures x y (ToFunction f) NoValue r h k e = absurd (cc)
  sum_keeps structures x y (ToFunction f) (ToObject c v t) r h k e = absurd (cc)
  sum_keeps structures x y (ToFunction f) (ToFunction s) r h k e = absurd (cc)

  difference_keeps : (structures : List Structure) (x y : Operand) (v w : ValueType) (r : Operand) → Good x → Good y → difference_by target structures x y v w ≡ Ok r → KeepsTwo x y r
  difference_keeps structures x y (Integer i) (Integer j) r h k e = subst (KeepsTwo x y) (ok_is e) (arithmetic_keeps op.Sub i j x y h k)
  difference_keeps structures x y (Integer i) NoValue r h k e = gap_keeps structures x y r e
  difference_keeps structures x y (Integer i) (ToObject c v t) r h k e = gap_keeps structures x y r e
  difference_keeps structures x y (Integer i) (ToFunction s) r h k e = gap_keeps structures x y r e
  difference_keeps structures x y NoValue (Integer j) r h k e = moved_keeps structures true x y r e
  difference_keeps structures x y NoValue NoValue r h k e = gap_keeps structures x y r e
  difference_keeps structures x y NoValue (ToObject c v t) r h k e = gap_keeps structures x y r e
  difference_keeps structures x y NoValue (ToFunction s) r h k e = gap_keeps structures x y r e
  difference_keeps structures x y (ToObject d u p) (Integer j) r h k e = moved_keeps structures true x y r e
  difference_keeps structures x y (ToObject d u p) NoValue r h k e = gap_keeps structures x y r e
  difference_keeps structures x y (ToObject d u p) (ToObject c v t) r h k e = gap_keeps structures x y r e
  difference_keeps structures x y (ToObject d u p) (ToFunction s) r h k e = gap_keeps structures x y r e
  difference_keeps structures x y (ToFunction f) (Integer j) r h k e = moved_keeps structures true x y r e
  difference_keeps structures x y (ToFunction f) NoValue r h k e = gap_keeps structures x y r e
  difference_keeps structures x y (ToFunction f) (ToObject c v t) r h k e = gap_keeps structures x y r e
  difference_keeps structures x y (ToFunction f) (ToFunction s) r h k e = gap_keeps structures x y r e

  -- ---- comparisons: a null constant that is left out accesses no device

  is_null_there : (o : BinOp) (x y : Operand) → is_null_beside o x y ≡ true → is_null_constant y ≡ true
  is_null_there o x y h = second_of (is_pointer x.type) (is_null_constant y) (second_of (is_equality o) (is_pointer x.type && is_null_constant y) h)

  first_alone : (o : BinOp) (x y : Operand) → is_null_constant y ≡ true → KeepsTwo x y (truth (against_null o x))
  first_alone o x y k =
      operand_keeps (against_null o x) (Integer int.Int) (accesses_either x y)
      (λ d. or_either (accesses d x.value) (accesses d y.value) (against_keeps o x d) (λ a. never a (null_constant_none d y k)))

  second_alone : (o : BinOp) (x y : Operand) → is_null_constant x ≡ true → KeepsTwo x y (truth (Compare o (null_of y.type) y.value))
  second_alone o x y k =
      operand_keeps (Compare o (null_of y.type) y.value) (Integer int.Int) (accesses_either x y)
      (λ d. or_either (accesses d x.value) (accesses d y.value) (λ a. never a (null_constant_none d x k))
      (λ a. accesses_is d (Compare o (null_of y.type) y.value) (one.Compare o (null_of y.type) y.value) (rolls-Compare o (null_of y.type) y.value) ∙ or_right (accesses d (null_of y.type)) (accesses d y.value) a))

  third_compared : (o : BinOp) (x y r : Operand) (b : Bool) → must b rule.NoComparison (Ok (truth (Compare o x.value y.value))) ≡ Ok r → KeepsTwo x y r
  third_compared o x y r b e =
      let m = must_ok b rule.NoComparison (Ok (truth (Compare o x.value y.value))) r e in
      subst (KeepsTwo x y) (ok_is m.1)
      (operand_keeps (Compare o x.value y.value) (Integer int.Int) (accesses_either x y) (λ d a. accesses_is d (Compare o x.value y.value) (one.Compare o x.value y.value) (rolls-Compare o x.value y.value) ∙ a))

  second_compared : (o : BinOp) (x y r : Operand) (b : Bool) → is_null_beside o y x ≡ b →
      (if b then Ok (truth (Compare o (null_of y.type) y.value)) else must (point_alike x.type y.type) rule.NoComparison (Ok (truth (Compare o x.value y.value)))) ≡ Ok r → KeepsTwo x y r
  second_compared o x y r true k e = subst (KeepsTwo x y) (ok_is e) (second_alone o x y (is_null_there o y x k))
  second_compared o x y r false k e = third_compared o x y r (point_alike x.type y.type) e

  first_compared : (o : BinOp) (x y r : Operand) (b : Bool) → is_null_beside o x y ≡ b →
      (if b then Ok (truth (against_null o x)) else (if is_null_beside o y x then Ok (truth (Compare o (null_of y.type) y.value)) else must (point_alike x.type y.type) rule.NoComparison (Ok (truth (Compare o x.value y.value))))) ≡ Ok r → KeepsTwo x y r
  first_compared o x y r true k e = subst (KeepsTwo x y) (ok_is e) (first_alone o x y (is_null_there o x y k))
  first_compared o x y r false k e = second_compared o x y r (is_null_beside o y x) refl e

  pointers_keeps : (o : BinOp) (x y r : Operand) → pointers_compared o x y ≡ Ok r → KeepsTwo x y r
  pointers_keeps o x y r e = first_compared o x y r (is_null_beside o x y) refl e

  compared_keeps : (o : BinOp) (x y : Operand) (v w : ValueType) (r : Operand) → Good x → Good y → compared_by target o x y v w ≡ Ok r → KeepsTwo x y r
  compared_keeps o x y (Integer i) (Integer j) r h k e = subst (KeepsTwo x y) (ok_is e) (arithmetic_keeps o i j x y h k)
  compared_keeps o x y (Integer i) NoValue r h k e = pointers_keeps o x y r e
  compared_keeps o x y (Integer i) (ToObject c v t) r h k e = pointers_keeps o x y r e
  compared_keeps o x y (Integer i) (ToFunction s) r h k e = pointers_keeps o x y r e
  compared_keeps o x y NoValue w r h k e = pointers_keeps o x y r e
  compared_keeps o x y (ToObject c v t) w r h k e = pointers_keeps o x y r e
  compared_keeps o x y (ToFunction s) w r h k e = pointers_keeps o x y r e

  -- ---- `&&` and `||`

  both_keeps : (x y : Operand) → Good x → Good y → KeepsTwo x y (both x y)
  both_keeps x y h k =
      folded_keeps int.Int (both_constant (constancy x) (constancy y)) (Both x.value y.value) (accesses_either x y)
      (λ d a. accesses_is d (Both x.value y.value) (one.Both x.value y.value) (rolls-Both x.value y.value) ∙ a)
      (λ c d. let p = both_parts (constancy x) (constancy y) c in
      accesses_is d (Both x.value y.value) (one.Both x.value y.value) (rolls-Both x.value y.value)
      ∙ neither (accesses d x.value) (accesses d y.value) (constant_accesses_none x h p.0 d) (constant_accesses_none y k p.1 d))

  either_keeps : (x y : Operand) → Good x → Good y → KeepsTwo x y (either x y)
  either_keeps x y h k =
      folded_keeps int.Int (either_constant (constancy x) (constancy y)) (Either x.value y.value) (accesses_either x y)
      (λ d a. accesses_is d (Either x.value y.value) (one.Either x.value y.value) (rolls-Either x.value y.value) ∙ a)
      (λ c d. let p = either_parts (constancy x) (constancy y) c in
      accesses_is d (Either x.value y.value) (one.Either x.value y.value) (rolls-Either x.value y.value)
      ∙ neither (accesses d x.value) (accesses d y.value) (constant_accesses_none x h p.0 d) (constant_accesses_none y k p.1 d))

  scalars_keeps : (x y whole r : Operand) → KeepsTwo x y whole → scalars x y whole ≡ Ok r → KeepsTwo x y r
  scalars_keeps x y whole r h e = let m = must_ok (is_scalar x.type && is_scalar y.type) rule.NoScalar (Ok whole) r e in subst (KeepsTwo x y) (ok_is m.1) h

  -- ---- a binary operator

  binary_by_keeps : (structures : List Structure) (o : Operator) (x y r : Operand) → Good x → Good y → binary_by target structures o x y ≡ Ok r → KeepsTwo x y r
  binary_by_keeps structures (operator.OfIntegers o) x y r h k e = integers_keeps o x y x.type y.type r h k e
  binary_by_keeps structures operator.Sum x y r h k e = sum_keeps structures x y x.type y.type r h k e
  binary_by_keeps structures operator.Difference x y r h k e = difference_keeps structures x y x.type y.type r h k e
  binary_by_keeps structures (operator.Comparison o) x y r h k e = compared_keeps o x y x.type y.type r h k e
  binary_by_keeps structures operator.Both x y r h k e = scalars_keeps x y (both x y) r (both_keeps x y h k) e
  binary_by_keeps structures operator.Either x y r h k e = scalars_keeps x y (either x y) r (either_keeps x y h k) e

  pub binary_keeps : (structures : List Structure) (o : Operator) (x y r : Operand) → TrapsWithoutAccess x → TrapsWithoutAccess y → binary_of target structures o x y ≡ Ok r →
      KeepsOperand r (λ d. accesses d x.value || accesses d y.value)
  binary_keeps structures o x y r h k e =
      binary_by_keeps structures o x y r h k (value_ok y (binary_by target structures o x y) r (value_ok x (with_value y (binary_by target structures o x y)) r e))
