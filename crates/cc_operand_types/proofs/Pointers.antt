-- Operators on scalars are typed: pointers that are compared and moved, conditions, and unary operators.
use Rattle.std.proofs.Common.{◌≡◌, Bool, true, false, ◌&&◌, List, Some, Ok, Err, refl, ap, sym, ◌∙◌, subst}
use Rattle.std.specs.Prelude.{if◌then◌else◌}
use Rattle.cc_operands.specs.CcLex.declared.token.Mark.{Mark}
use Rattle.cc_operands.specs.CcLex.declared.token.Mark.TheVariants as m
use Rattle.cc_program.specs.CcNum.declared.int_type.IntType.{IntType}
use Rattle.cc_program.specs.CcNum.declared.int_type.IntType.TheVariants as int
use Rattle.cc_program.specs.CcNum.declared.op.BinOp.{BinOp}
use Rattle.cc_program.specs.CcNum.declared.op.BinOp.TheVariants as op
use Rattle.cc_program.specs.CcNum.declared.op.UnOp.TheVariants as unary
use Rattle.cc_program.specs.declared.expr.Expr.{Expr, Move, Gap, Compare, Both, Either}
use Rattle.cc_program.specs.declared.types.Structure.{Structure}
use Rattle.cc_operands.specs.Arithmetic.{truth, is_equality, both, either, scalars, is_null_beside, pointers_compared, moved, sum_by, gap, difference_by, compared_by, binary_by, binary_of}
use Rattle.cc_operands.specs.Operands.{Operand, operand, constancy, is_pointer, is_nothing, is_null_constant, null_of, against_null}
use Rattle.cc_operands.specs.Operators.{operator_of}
use Rattle.cc_operands.specs.Unary.{not_by, unary_by, unary_of}
use Rattle.cc_operands.specs.declared.operator.Operator.{Operator}
use Rattle.cc_operands.specs.declared.operator.Operator.TheVariants as operator
use Rattle.cc_operands.specs.declared.operator.UnaryOperator.{UnaryOperator}
use Rattle.cc_operands.specs.declared.operator.UnaryOperator.TheVariants as unary_operator
use Rattle.cc_operands.specs.declared.rule.Rule.TheVariants as rule
use Rattle.cc_operands.specs.CcSyntax.Folding.{both_constant, either_constant}
use Rattle.cc_operands.specs.CcSyntax.Operators.{when, is_comparison, is_integer, difference_type, has_difference, points_to_object}
use Rattle.cc_operands.specs.CcSyntax.Types.{Named}
use Rattle.cc_operands.specs.CcSyntax.Values.{ValueType, NoValue, Integer, ToObject, ToFunction, is_scalar, point_alike}
use Rattle.cc_operands.proofs.CcSyntax.Prefixes.{both_true}
use Rattle.cc_operand_types.specs.Typed.{HasType, IsTypedOperand}
use Rattle.std.proofs.lemmas.Option.{same_Some as some_same}
use Rattle.cc_operands.proofs.CcSyntax.AlikeLemmas.{alike_itself}
use Rattle.cc_operand_types.proofs.Agreement.{scalar_agrees, integral_agrees, object_agrees, difference_agrees, pointers_alike}
use Rattle.cc_operand_types.proofs.Constants.{both_fits, either_fits}
use Rattle.cc_operand_types.proofs.Integers.{when_two, arithmetic_typed, integers_typed, integer_typed, plus_typed}
use Rattle.cc_operand_types.proofs.Nulls.{null_typed}
use Rattle.cc_operand_types.proofs.Operands.{ok_is, must_ok, value_ok, value_of, as_operand, integer_operand, as_folded}
use Rattle.cc_operand_types.proofs.Rolls.{type-Move, type-Gap, type-Compare, type-Both, type-Either}
use Rattle.cc_operands.proofs.CcSyntax.SameLemmas.{sig_compared}
use Rattle.cc_operands.specs.CcSyntax.Views.{View}

-- ---- what has a value

pub scalar_there : (t : ValueType) → is_scalar t ≡ true → is_nothing t ≡ false
scalar_there NoValue h = absurd (cc)
scalar_there (Integer i) h = refl
scalar_there (ToObject c v t) h = refl
scalar_there (ToFunction sig) h = refl

pub pointer_there : (t : ValueType) → is_pointer t ≡ true → is_nothing t ≡ false
pointer_there NoValue h = absurd (cc)
pointer_there (Integer i) h = absurd (cc)
pointer_there (ToObject c v t) h = refl
pointer_there (ToFunction sig) h = refl

pub integer_there : (t : ValueType) → is_integer t ≡ true → is_nothing t ≡ false
integer_there NoValue h = absurd (cc)
integer_there (Integer i) h = refl
integer_there (ToObject c v t) h = absurd (cc)
integer_there (ToFunction sig) h = absurd (cc)

pub object_there : (structures : List Structure) (t : ValueType) → points_to_object structures t ≡ true → is_nothing t ≡ false
object_there structures NoValue h = absurd (cc)
object_there structures (Integer i) h = absurd (cc)
object_there structures (ToObject c v t) h = refl
object_there structures (ToFunction sig) h = absurd (cc)

pub alike_there : (t u : ValueType) → point_alike t u ≡ true → (is_nothing t ≡ false) × (is_nothing u ≡ false)
alike_there NoValue u h = absurd (cc)
alike_there (Integer i) u h = absurd (cc)
alike_there (ToObject c v t) NoValue h = absurd (cc)
alike_there (ToObject c v t) (Integer i) h = absurd (cc)
alike_there (ToObject c v t) (ToObject c' v' u) h = (refl, refl)
alike_there (ToObject c v t) (ToFunction sig) h = absurd (cc)
alike_there (ToFunction sig) NoValue h = absurd (cc)
alike_there (ToFunction sig) (Integer i) h = absurd (cc)
alike_there (ToFunction sig) (ToObject c v u) h = absurd (cc)
alike_there (ToFunction sig) (ToFunction other) h = (refl, refl)

pub itself_alike : (t : ValueType) → is_pointer t ≡ true → point_alike t t ≡ true
itself_alike NoValue h = absurd (cc)
itself_alike (Integer i) h = absurd (cc)
itself_alike (ToObject c v t) h = alike_itself t
itself_alike (ToFunction sig) h = (sig_compared sig).itself

equality_compares : (o : BinOp) → is_equality o ≡ true → is_comparison o ≡ true
equality_compares op.Eq h = refl
equality_compares op.Ne h = refl
equality_compares op.Lt h = absurd (cc)
equality_compares op.Le h = absurd (cc)
equality_compares op.Gt h = absurd (cc)
equality_compares op.Ge h = absurd (cc)
equality_compares op.Add h = absurd (cc)
equality_compares op.Sub h = absurd (cc)
equality_compares op.Mul h = absurd (cc)
equality_compares op.Div h = absurd (cc)
equality_compares op.Rem h = absurd (cc)
equality_compares op.And h = absurd (cc)
equality_compares op.Or h = absurd (cc)
equality_compares op.Xor h = absurd (cc)
equality_compares op.Shl h = absurd (cc)
equality_compares op.Shr h = absurd (cc)

-- a comparison, where an operator is one
abbrev pub Compares : Operator → Type 0
Compares (operator.Comparison o) = is_comparison o ≡ true
Compares (operator.OfIntegers o) = Unit {0}
Compares operator.Sum = Unit {0}
Compares operator.Difference = Unit {0}
Compares operator.Both = Unit {0}
Compares operator.Either = Unit {0}

pub compares : (mark : Mark) (o : Operator) → operator_of mark ≡ Some o → Compares o
compares m.Star o h = subst Compares (some_same (operator.OfIntegers op.Mul) o h) tt
compares m.Slash o h = subst Compares (some_same (operator.OfIntegers op.Div) o h) tt
compares m.Percent o h = subst Compares (some_same (operator.OfIntegers op.Rem) o h) tt
compares m.Amp o h = subst Compares (some_same (operator.OfIntegers op.And) o h) tt
compares m.Bar o h = subst Compares (some_same (operator.OfIntegers op.Or) o h) tt
compares m.Caret o h = subst Compares (some_same (operator.OfIntegers op.Xor) o h) tt
compares m.Shl o h = subst Compares (some_same (operator.OfIntegers op.Shl) o h) tt
compares m.Shr o h = subst Compares (some_same (operator.OfIntegers op.Shr) o h) tt
compares m.Plus o h = subst Compares (some_same operator.Sum o h) tt
compares m.Minus o h = subst Compares (some_same operator.Difference o h) tt
compares m.Lt o h = subst Compares (some_same (operator.Comparison op.Lt) o h) refl
compares m.Le o h = subst Compares (some_same (operator.Comparison op.Le) o h) refl
compares m.Gt o h = subst Compares (some_same (operator.Comparison op.Gt) o h) refl
compares m.Ge o h = subst Compares (some_same (operator.Comparison op.Ge) o h) refl
compares m.EqEq o h = subst Compares (some_same (operator.Comparison op.Eq) o h) refl
compares m.NotEq o h = subst Compares (some_same (operator.Comparison op.Ne) o h) refl
compares m.AndAnd o h = subst Compares (some_same operator.Both o h) tt
compares m.OrOr o h = subst Compares (some_same operator.Either o h) tt
compares mark o h = absurd (cc)

module _ (p : View) (locals : List Named) where
  abbrev Typed : Operand → Type 0
  Typed x = IsTypedOperand p locals x

  -- ---- conditions

  logical_is : (u v : ValueType) → is_scalar u ≡ true → is_scalar v ≡ true → when (is_scalar u && is_scalar v) (Integer int.Int) ≡ Some (Integer int.Int)
  logical_is u v h k = when_two (is_scalar u) (is_scalar v) (Integer int.Int) h k

  both_typed : (x y : Operand) → HasType p locals x.value x.type → HasType p locals y.value y.type → is_scalar x.type ≡ true → is_scalar y.type ≡ true → Typed (both x y)
  both_typed x y hx hy h k =
      as_folded p locals int.Int (both_constant (constancy x) (constancy y)) (Both x.value y.value)
      (type-Both p locals x.value y.value hx.own hy.own (Some (Integer int.Int)) hx.typed hy.typed
      (logical_is hx.own hy.own (scalar_agrees hx.own x.type hx.agrees ∙ h) (scalar_agrees hy.own y.type hy.agrees ∙ k)))
      (both_fits p.target (constancy x) (constancy y))

  either_typed : (x y : Operand) → HasType p locals x.value x.type → HasType p locals y.value y.type → is_scalar x.type ≡ true → is_scalar y.type ≡ true → Typed (either x y)
  either_typed x y hx hy h k =
      as_folded p locals int.Int (either_constant (constancy x) (constancy y)) (Either x.value y.value)
      (type-Either p locals x.value y.value hx.own hy.own (Some (Integer int.Int)) hx.typed hy.typed
      (logical_is hx.own hy.own (scalar_agrees hx.own x.type hx.agrees ∙ h) (scalar_agrees hy.own y.type hy.agrees ∙ k)))
      (either_fits p.target (constancy x) (constancy y))

  scalars_typed : (x y whole r : Operand) → Typed x → Typed y →
      (HasType p locals x.value x.type → HasType p locals y.value y.type → is_scalar x.type ≡ true → is_scalar y.type ≡ true → Typed whole) → scalars x y whole ≡ Ok r → Typed r
  scalars_typed x y whole r hx hy made h =
      let m = must_ok (is_scalar x.type && is_scalar y.type) rule.NoScalar (Ok whole) r h in
      let b = both_true (is_scalar x.type) (is_scalar y.type) m.0 in
      subst Typed (ok_is m.1) (made (value_of p locals x hx (scalar_there x.type b.0)) (value_of p locals y hy (scalar_there y.type b.1)) b.0 b.1)

  -- ---- comparisons

  pub compare_typed : (o : BinOp) (a b : Expr) (t u : ValueType) → is_comparison o ≡ true → HasType p locals a t → HasType p locals b u → point_alike t u ≡ true → Typed (truth (Compare o a b))
  compare_typed o a b t u h ha hb k =
      integer_operand p locals (Compare o a b) int.Int
      (type-Compare p locals o a b ha.own hb.own (Some (Integer int.Int)) ha.typed hb.typed
      (when_two (is_comparison o) (point_alike ha.own hb.own) (Integer int.Int) h (pointers_alike ha.own t hb.own u ha.agrees hb.agrees k)))

  pub against_typed : (o : BinOp) (x : Operand) → is_comparison o ≡ true → is_pointer x.type ≡ true → HasType p locals x.value x.type → Typed (truth (against_null o x))
  against_typed o x h k hx = compare_typed o x.value (null_of x.type) x.type x.type h hx (null_typed p locals x.type k hx.standing) (itself_alike x.type k)

  null_first : (o : BinOp) (y : Operand) → is_comparison o ≡ true → is_pointer y.type ≡ true → HasType p locals y.value y.type → Typed (truth (Compare o (null_of y.type) y.value))
  null_first o y h k hy = compare_typed o (null_of y.type) y.value y.type y.type h (null_typed p locals y.type k hy.standing) hy (itself_alike y.type k)

  compared_third : (o : BinOp) (x y r : Operand) (b : Bool) → b ≡ point_alike x.type y.type → is_comparison o ≡ true → Typed x → Typed y → (if b then Ok (truth (Compare o x.value y.value)) else Err rule.NoComparison) ≡ Ok r → Typed r
  compared_third o x y r false e h hx hy k = absurd (cc)
  compared_third o x y r true e h hx hy k =
      let t = alike_there x.type y.type (sym e) in
      subst Typed (ok_is k) (compare_typed o x.value y.value x.type y.type h (value_of p locals x hx t.0) (value_of p locals y hy t.1) (sym e))

  beside : (o : BinOp) (x y : Operand) → is_null_beside o x y ≡ true → (is_comparison o ≡ true) × (is_pointer x.type ≡ true)
  beside o x y h =
      let a = both_true (is_equality o) (is_pointer x.type && is_null_constant y) h in
      (equality_compares o a.0, (both_true (is_pointer x.type) (is_null_constant y) a.1).0)

  compared_second : (o : BinOp) (x y r : Operand) (b : Bool) → is_null_beside o y x ≡ b → is_comparison o ≡ true → Typed x → Typed y →
      (if b then Ok (truth (Compare o (null_of y.type) y.value)) else (if point_alike x.type y.type then Ok (truth (Compare o x.value y.value)) else Err rule.NoComparison)) ≡ Ok r → Typed r
  compared_second o x y r true e h hx hy k =
      let n = beside o y x e in
      subst Typed (ok_is k) (null_first o y n.0 n.1 (value_of p locals y hy (pointer_there y.type n.1)))
  compared_second o x y r false e h hx hy k = compared_third o x y r (point_alike x.type y.type) refl h hx hy k

  compared_first : (o : BinOp) (x y r : Operand) (b : Bool) → is_null_beside o x y ≡ b → is_comparison o ≡ true → Typed x → Typed y →
      (if b then Ok (truth (against_null o x))
      else (if is_null_beside o y x then Ok (truth (Compare o (null_of y.type) y.value)) else (if point_alike x.type y.type then Ok (truth (Compare o x.value y.value)) else Err rule.NoComparison))) ≡ Ok r → Typed r
  compared_first o x y r true e h hx hy k =
      let n = beside o x y e in
      subst Typed (ok_is k) (against_typed o x n.0 n.1 (value_of p locals x hx (pointer_there x.type n.1)))
  compared_first o x y r false e h hx hy k = compared_second o x y r (is_null_beside o y x) refl h hx hy k

  pointers_typed : (o : BinOp) (x y r : Operand) → is_comparison o ≡ true → Typed x → Typed y → pointers_compared o x y ≡ Ok r → Typed r
  pointers_typed o x y r h hx hy k = compared_first o x y r (is_null_beside o x y) refl h hx hy k

  compared_typed : (o : BinOp) (x y r : Operand) (a b : ValueType) → is_comparison o ≡ true → Typed x → Typed y → x.type ≡ a → y.type ≡ b → compared_by p.target o x y a b ≡ Ok r → Typed r
  compared_typed o x y r (Integer i) (Integer j) c hx hy e f h = subst Typed (ok_is h) (arithmetic_typed p locals o i j x y hx hy e f)
  compared_typed o x y r (Integer i) NoValue c hx hy e f h = pointers_typed o x y r c hx hy h
  compared_typed o x y r (Integer i) (ToObject k v t) c hx hy e f h = pointers_typed o x y r c hx hy h
  compared_typed o x y r (Integer i) (ToFunction sig) c hx hy e f h = pointers_typed o x y r c hx hy h
  compared_typed o x y r NoValue b c hx hy e f h = pointers_typed o x y r c hx hy h
  compared_typed o x y r (ToObject k v t) b c hx hy e f h = pointers_typed o x y r c hx hy h
  compared_typed o x y r (ToFunction sig) b c hx hy e f h = pointers_typed o x y r c hx hy h

  -- ---- sums and differences

  pub move_typed : (back : Bool) (x y : Operand) → HasType p locals x.value x.type → HasType p locals y.value y.type → points_to_object p.structures x.type ≡ true → is_integer y.type ≡ true → HasType p locals (Move x.value y.value back) x.type
  move_typed back x y hx hy h k = record {
    own = hx.own;
    typed = type-Move p locals x.value y.value back hx.own hy.own (Some hx.own) hx.typed hy.typed
        (when_two (points_to_object p.structures hx.own) (is_integer hy.own) hx.own (object_agrees p.structures hx.own x.type hx.agrees ∙ h) (integral_agrees hy.own y.type hy.agrees ∙ k));
    agrees = hx.agrees;
    standing = hx.standing;
  }

  moved_typed : (back : Bool) (x y r : Operand) (j : IntType) → Typed x → Typed y → y.type ≡ Integer j → moved p.structures back x y ≡ Ok r → Typed r
  moved_typed back x y r j hx hy f h =
      let m = must_ok (points_to_object p.structures x.type) rule.NoSum (Ok (operand (Move x.value y.value back) x.type)) r h in
      let n = object_there p.structures x.type m.0 in
      subst Typed (ok_is m.1) (as_operand p locals (Move x.value y.value back) x.type n
      (move_typed back x y (value_of p locals x hx n) (value_of p locals y hy (ap is_nothing f)) m.0 (ap is_integer f)))

  gap_typed : (x y r : Operand) → Typed x → Typed y → gap p.target p.structures x y ≡ Ok r → Typed r
  gap_typed x y r hx hy h =
      let m = must_ok (point_alike x.type y.type && has_difference p.structures x.type) rule.NoSum (Ok (operand (Gap x.value y.value) (Integer (difference_type p.target)))) r h in
      let b = both_true (point_alike x.type y.type) (has_difference p.structures x.type) m.0 in
      let a = b.0 in
      let t = alike_there x.type y.type a in
      let vx = value_of p locals x hx t.0 in
      let vy = value_of p locals y hy t.1 in
      subst Typed (ok_is m.1) (integer_operand p locals (Gap x.value y.value) (difference_type p.target)
      (type-Gap p locals x.value y.value vx.own vy.own (Some (Integer (difference_type p.target))) vx.typed vy.typed
      (when_two (point_alike vx.own vy.own) (has_difference p.structures vx.own) (Integer (difference_type p.target)) (pointers_alike vx.own x.type vy.own y.type vx.agrees vy.agrees a)
      (difference_agrees p.structures vx.own x.type vx.agrees ∙ b.1))))

  sum_typed : (x y r : Operand) (a b : ValueType) → Typed x → Typed y → x.type ≡ a → y.type ≡ b → sum_by p.target p.structures x y a b ≡ Ok r → Typed r
  sum_typed x y r (Integer i) (Integer j) hx hy e f h = subst Typed (ok_is h) (arithmetic_typed p locals op.Add i j x y hx hy e f)
  sum_typed x y r NoValue (Integer j) hx hy e f h = moved_typed false x y r j hx hy f h
  sum_typed x y r (ToObject k v t) (Integer j) hx hy e f h = moved_typed false x y r j hx hy f h
  sum_typed x y r (ToFunction sig) (Integer j) hx hy e f h = moved_typed false x y r j hx hy f h
  sum_typed x y r NoValue NoValue hx hy e f h = absurd (cc)
  sum_typed x y r (Integer i) NoValue hx hy e f h = absurd (cc)
  sum_typed x y r (ToObject k v t) NoValue hx hy e f h = absurd (cc)
  sum_typed x y r (ToFunction sig) NoValue hx hy e f h = absurd (cc)
  sum_typed x y r NoValue (ToObject k v t) hx hy e f h = absurd (cc)
  sum_typed x y r (Integer i) (ToObject k v t) hx hy e f h = absurd (cc)
  sum_typed x y r (ToObject k' v' t') (ToObject k v t) hx hy e f h = absurd (cc)
  sum_typed x y r (ToFunction sig) (ToObject k v t) hx hy e f h = absurd (cc)
  sum_typed x y r NoValue (ToFunction s) hx hy e f h = absurd (cc)
  sum_typed x y r (Integer i) (ToFunction s) hx hy e f h = absurd (cc)
  sum_typed x y r (ToObject k v t) (ToFunction s) hx hy e f h = absurd (cc)
  sum_typed x y r (ToFunction sig) (ToFunction s) hx hy e f h = absurd (cc)

  difference_typed : (x y r : Operand) (a b : ValueType) → Typed x → Typed y → x.type ≡ a → y.type ≡ b → difference_by p.target p.structures x y a b ≡ Ok r → Typed r
  difference_typed x y r (Integer i) (Integer j) hx hy e f h = subst Typed (ok_is h) (arithmetic_typed p locals op.Sub i j x y hx hy e f)
  difference_typed x y r NoValue (Integer j) hx hy e f h = moved_typed true x y r j hx hy f h
  difference_typed x y r (ToObject k v t) (Integer j) hx hy e f h = moved_typed true x y r j hx hy f h
  difference_typed x y r (ToFunction sig) (Integer j) hx hy e f h = moved_typed true x y r j hx hy f h
  difference_typed x y r NoValue NoValue hx hy e f h = gap_typed x y r hx hy h
  difference_typed x y r (Integer i) NoValue hx hy e f h = gap_typed x y r hx hy h
  difference_typed x y r (ToObject k v t) NoValue hx hy e f h = gap_typed x y r hx hy h
  difference_typed x y r (ToFunction sig) NoValue hx hy e f h = gap_typed x y r hx hy h
  difference_typed x y r NoValue (ToObject k v t) hx hy e f h = gap_typed x y r hx hy h
  difference_typed x y r (Integer i) (ToObject k v t) hx hy e f h = gap_typed x y r hx hy h
  difference_typed x y r (ToObject k' v' t') (ToObject k v t) hx hy e f h = gap_typed x y r hx hy h
  difference_typed x y r (ToFunction sig) (ToObject k v t) hx hy e f h = gap_typed x y r hx hy h
  difference_typed x y r NoValue (ToFunction s) hx hy e f h = gap_typed x y r hx hy h
  difference_typed x y r (Integer i) (ToFunction s) hx hy e f h = gap_typed x y r hx hy h
  difference_typed x y r (ToObject k v t) (ToFunction s) hx hy e f h = gap_typed x y r hx hy h
  difference_typed x y r (ToFunction sig) (ToFunction s) hx hy e f h = gap_typed x y r hx hy h

  -- ---- all operators

  binary_by_typed : (o : Operator) (x y r : Operand) → Compares o → Typed x → Typed y → binary_by p.target p.structures o x y ≡ Ok r → Typed r
  binary_by_typed (operator.OfIntegers o) x y r c hx hy h = integers_typed p locals o x y r x.type y.type hx hy refl refl h
  binary_by_typed operator.Sum x y r c hx hy h = sum_typed x y r x.type y.type hx hy refl refl h
  binary_by_typed operator.Difference x y r c hx hy h = difference_typed x y r x.type y.type hx hy refl refl h
  binary_by_typed (operator.Comparison o) x y r c hx hy h = compared_typed o x y r x.type y.type c hx hy refl refl h
  binary_by_typed operator.Both x y r c hx hy h = scalars_typed x y (both x y) r hx hy (both_typed x y) h
  binary_by_typed operator.Either x y r c hx hy h = scalars_typed x y (either x y) r hx hy (either_typed x y) h

  pub binary_typed : (mark : Mark) (o : Operator) → operator_of mark ≡ Some o → (x y r : Operand) → Typed x → Typed y → binary_of p.target p.structures o x y ≡ Ok r → Typed r
  binary_typed mark o e x y r hx hy h =
      let a = value_ok x _ r h in
      let b = value_ok y _ r a.1 in
      binary_by_typed o x y r (compares mark o e) hx hy b.1

  not_typed : (x r : Operand) (a : ValueType) → Typed x → x.type ≡ a → not_by p.target x a ≡ Ok r → Typed r
  not_typed x r (Integer i) hx e h = integer_typed p locals rule.NoScalar unary.Lnot x r (Integer i) hx e h
  not_typed x r NoValue hx e h = absurd (cc)
  not_typed x r (ToObject c v t) hx e h = subst Typed (ok_is h) (against_typed op.Eq x refl (ap is_pointer e) (value_of p locals x hx (ap is_nothing e)))
  not_typed x r (ToFunction sig) hx e h = subst Typed (ok_is h) (against_typed op.Eq x refl (ap is_pointer e) (value_of p locals x hx (ap is_nothing e)))

  unary_by_typed : (o : UnaryOperator) (x r : Operand) → Typed x → unary_by p.target o x ≡ Ok r → Typed r
  unary_by_typed unary_operator.Plus x r hx h = plus_typed p locals x r x.type hx refl h
  unary_by_typed unary_operator.Minus x r hx h = integer_typed p locals rule.NoSum unary.Neg x r x.type hx refl h
  unary_by_typed unary_operator.Complement x r hx h = integer_typed p locals rule.NoInteger unary.Not x r x.type hx refl h
  unary_by_typed unary_operator.Not x r hx h = not_typed x r x.type hx refl h

  pub unary_typed : (o : UnaryOperator) (x r : Operand) → Typed x → unary_of p.target o x ≡ Ok r → Typed r
  unary_typed o x r hx h = unary_by_typed o x r hx (value_ok x _ r h).1
