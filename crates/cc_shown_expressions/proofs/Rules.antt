-- What the rules make of operands that have the types that a program asks for: each operator on them, and no conversion more.
use Rattle.std.proofs.Common.{◌≡◌, Bool, true, false, not, ◌&&◌, List, Ok, Err, refl, ap, sym, ◌∙◌}
use Rattle.std.specs.Prelude.{if◌then◌else◌}
use Rattle.cc_program.specs.CcNum.declared.int_type.IntType.{IntType}
use Rattle.cc_program.specs.CcNum.declared.op.BinOp.{BinOp}
use Rattle.cc_program.specs.CcNum.declared.op.BinOp.TheVariants as op
use Rattle.cc_program.specs.CcNum.declared.op.UnOp.{UnOp}
use Rattle.cc_program.specs.CcNum.declared.op.UnOp.TheVariants as un
use Rattle.cc_program.specs.CcNum.declared.target.Target.{Target}
use Rattle.cc_program.specs.CcNum.Promotions.{promoted, usual_of}
use Rattle.cc_program.specs.CcNum.Results.{is_shift}
use Rattle.cc_program.proofs.CcNum.PromotionLaws.{usual_of-same}
use Rattle.cc_terms.specs.CcOperands.Arithmetic.{truth, is_equality, both, either, scalars, is_null_beside, pointers_compared, moved, worked, arithmetic, integers_by, integers, sum_by, sum, gap, difference_by, difference, compared_by, compared, binary_by, binary_of}
use Rattle.cc_terms.specs.CcOperands.Operands.{Operand, operand, cast_to, converted_by, converted_to, is_pointer, is_nothing, is_null_constant, null_of, against_null, with_value, no_structure}
use Rattle.cc_terms.specs.CcOperands.Unary.{negated, integer_by, not_by, unary_of}
use Rattle.cc_terms.specs.CcOperands.Verdicts.{Judged, must}
use Rattle.cc_terms.specs.CcOperands.declared.operator.Operator.{Operator}
use Rattle.cc_terms.specs.CcOperands.declared.operator.Operator.TheVariants as operator
use Rattle.cc_terms.specs.CcOperands.declared.rule.Rule.{Rule}
use Rattle.cc_terms.specs.CcOperands.declared.rule.Rule.TheVariants as rule
use Rattle.cc_program.specs.declared.expr.Expr.{Expr, Move, Gap, Compare}
use Rattle.cc_program.specs.declared.types.Structure.{Structure}
use Rattle.cc_terms.specs.CcSyntax.Operators.{is_promoted, is_of, is_promoted_value, is_integer, points_to_object, has_difference, difference_type, second_fits}
use Rattle.cc_terms.specs.CcSyntax.Values.{ValueType, NoValue, Integer, ToObject, ToFunction, is_scalar, point_alike}
use Rattle.cc_shown_expressions.specs.Operators.{unary_for, operator_for, NullsAgree}
use Rattle.cc_terms.proofs.CcSyntax.Prefixes.{both_true}
use Rattle.cc_terms.proofs.CcSyntax.SameLemmas.{int_same, int_itself}

-- ---- types of values

pub scalar-something : (v : ValueType) → is_scalar v ≡ true → is_nothing v ≡ false
scalar-something NoValue h = absurd (cc)
scalar-something (Integer t) h = refl
scalar-something (ToObject c v t) h = refl
scalar-something (ToFunction s) h = refl

pub of-is : (t : IntType) (v : ValueType) → is_of t v ≡ true → v ≡ Integer t
of-is t NoValue h = absurd (cc)
of-is t (Integer s) h = ap (λ (i : IntType). Integer i) (int_same s t h)
of-is t (ToObject c v u) h = absurd (cc)
of-is t (ToFunction s) h = absurd (cc)

pub integer-is : (v : ValueType) → is_integer v ≡ true → (t : IntType) × (v ≡ Integer t)
integer-is NoValue h = absurd (cc)
integer-is (Integer s) h = (s, refl)
integer-is (ToObject c v u) h = absurd (cc)
integer-is (ToFunction s) h = absurd (cc)

pub promoted-value-is : (target : Target) (v : ValueType) → is_promoted_value target v ≡ true → (t : IntType) × (v ≡ Integer t) × (is_promoted target t ≡ true)
promoted-value-is target NoValue h = absurd (cc)
promoted-value-is target (Integer s) h = (s, refl, h)
promoted-value-is target (ToObject c v u) h = absurd (cc)
promoted-value-is target (ToFunction s) h = absurd (cc)

pub alike-scalars : (v w : ValueType) → point_alike v w ≡ true → (is_scalar v ≡ true) × (is_scalar w ≡ true)
alike-scalars NoValue w h = absurd (cc)
alike-scalars (Integer t) w h = absurd (cc)
alike-scalars (ToObject c v t) NoValue h = absurd (cc)
alike-scalars (ToObject c v t) (Integer s) h = absurd (cc)
alike-scalars (ToObject c v t) (ToObject d w u) h = (refl, refl)
alike-scalars (ToObject c v t) (ToFunction s) h = absurd (cc)
alike-scalars (ToFunction s) NoValue h = absurd (cc)
alike-scalars (ToFunction s) (Integer t) h = absurd (cc)
alike-scalars (ToFunction s) (ToObject c v t) h = absurd (cc)
alike-scalars (ToFunction s) (ToFunction t) h = (refl, refl)

pub points-scalar : (structures : List Structure) (v : ValueType) → points_to_object structures v ≡ true → is_scalar v ≡ true
points-scalar structures NoValue h = absurd (cc)
points-scalar structures (Integer t) h = absurd (cc)
points-scalar structures (ToObject c v t) h = refl
points-scalar structures (ToFunction s) h = absurd (cc)

-- an operand that has a value
pub with-scalar : {A : Type 0} → (x : Operand) (next : Judged A) → is_scalar x.type ≡ true → with_value x next ≡ next
with-scalar x next h = ap (λ (b : Bool). if b && not x.structure then Err rule.VoidUsed else next) (scalar-something x.type h)

pub without-structure : {A : Type 0} → (x : Operand) (next : Judged A) → x.structure ≡ false → no_structure x next ≡ next
without-structure x next h = ap (λ (b : Bool). if b then Err rule.StructureValue else next) h

integer-scalar : (v : ValueType) (t : IntType) → v ≡ Integer t → is_scalar v ≡ true
integer-scalar v t e = ap is_scalar e

module _ (target : Target) where
  pub promoted-is : (t : IntType) → is_promoted target t ≡ true → promoted t target ≡ t
  promoted-is t h = int_same (promoted t target) t h

  pub usual-is : (t : IntType) → is_promoted target t ≡ true → usual_of t t target ≡ t
  usual-is t h = usual_of-same t target ∙ promoted-is t h

  pub same-conversion : (t : IntType) (x : Operand) → x.type ≡ Integer t → converted_to target t x ≡ x
  same-conversion t x e = ap (converted_by target t x) e ∙ ap (λ (b : Bool). if b then x else cast_to target t x) (int_itself t)

  -- ---- unary operators

  integer-unary : (broken : Rule) (o : UnOp) (t : IntType) (x : Operand) → is_promoted target t ≡ true → x.type ≡ Integer t → integer_by target broken o x (Integer t) ≡ Ok (negated target o t x)
  integer-unary broken o t x p e =
      ap (λ (u : IntType). Ok (negated target o u (converted_to target u x))) (promoted-is t p) ∙ ap (λ (y : Operand). Ok (negated target o t y)) (same-conversion t x e)

  pub unary-rule : (o : UnOp) (t : IntType) (x : Operand) → is_promoted target t ≡ true → x.type ≡ Integer t → unary_of target (unary_for o) x ≡ Ok (negated target o t x)
  unary-rule un.Neg t x p e = with-scalar x _ (integer-scalar x.type t e) ∙ ap (integer_by target rule.NoSum un.Neg x) e ∙ integer-unary rule.NoSum un.Neg t x p e
  unary-rule un.Not t x p e = with-scalar x _ (integer-scalar x.type t e) ∙ ap (integer_by target rule.NoInteger un.Not x) e ∙ integer-unary rule.NoInteger un.Not t x p e
  unary-rule un.Lnot t x p e = with-scalar x _ (integer-scalar x.type t e) ∙ ap (not_by target x) e ∙ integer-unary rule.NoScalar un.Lnot t x p e

  -- ---- binary operators of integers

  work-by : (o : BinOp) (t s : IntType) (x y : Operand) (b : Bool) → is_shift o ≡ b → is_promoted target t ≡ true → (if b then is_promoted_value target (Integer s) else is_of t (Integer s)) ≡ true → x.type ≡ Integer t → y.type ≡ Integer s →
      arithmetic target o t s x y ≡ worked target o t x y
  work-by o t s x y true h p q e f =
      ap (λ (b : Bool). worked target o (if b then promoted t target else usual_of t s target) (converted_to target (if b then promoted t target else usual_of t s target) x) (converted_to target (if b then promoted s target else usual_of t s target) y)) h
      ∙ ap (λ (u : IntType). worked target o u (converted_to target u x) (converted_to target (promoted s target) y)) (promoted-is t p)
      ∙ ap (λ (u : IntType). worked target o t (converted_to target t x) (converted_to target u y)) (promoted-is s q)
      ∙ ap (λ (z : Operand). worked target o t z (converted_to target s y)) (same-conversion t x e)
      ∙ ap (λ (z : Operand). worked target o t x z) (same-conversion s y f)
  work-by o t s x y false h p q e f =
      let same : s ≡ t = int_same s t q in
      ap (λ (b : Bool). worked target o (if b then promoted t target else usual_of t s target) (converted_to target (if b then promoted t target else usual_of t s target) x) (converted_to target (if b then promoted s target else usual_of t s target) y)) h
      ∙ ap (λ (i : IntType). worked target o (usual_of t i target) (converted_to target (usual_of t i target) x) (converted_to target (usual_of t i target) y)) same
      ∙ ap (λ (u : IntType). worked target o u (converted_to target u x) (converted_to target u y)) (usual-is t p)
      ∙ ap (λ (z : Operand). worked target o t z (converted_to target t y)) (same-conversion t x e)
      ∙ ap (λ (z : Operand). worked target o t x z) (same-conversion t y (f ∙ ap (λ (i : IntType). Integer i) same))

  pub arithmetic-rule : (o : BinOp) (t s : IntType) (x y : Operand) → is_promoted target t ≡ true → second_fits target o t (Integer s) ≡ true → x.type ≡ Integer t → y.type ≡ Integer s → arithmetic target o t s x y ≡ worked target o t x y
  arithmetic-rule o t s x y p q e f = by (is_shift o) refl where
    by : (b : Bool) → is_shift o ≡ b → arithmetic target o t s x y ≡ worked target o t x y
    by b h = work-by o t s x y b h p (sym (ap (λ (b : Bool). if b then is_promoted_value target (Integer s) else is_of t (Integer s)) h) ∙ q) e f

  module _ (structures : List Structure) where
    integers-both : (o : BinOp) (t s : IntType) (x y : Operand) → x.type ≡ Integer t → y.type ≡ Integer s → integers target o x y ≡ Ok (arithmetic target o t s x y)
    integers-both o t s x y e f = ap (λ (v : ValueType). integers_by target o x y v y.type) e ∙ ap (integers_by target o x y (Integer t)) f

    compared-both : (o : BinOp) (t s : IntType) (x y : Operand) → x.type ≡ Integer t → y.type ≡ Integer s → compared target o x y ≡ Ok (arithmetic target o t s x y)
    compared-both o t s x y e f = ap (λ (v : ValueType). compared_by target o x y v y.type) e ∙ ap (compared_by target o x y (Integer t)) f

    of-integers : (o : BinOp) (t s : IntType) (x y : Operand) → x.type ≡ Integer t → y.type ≡ Integer s → binary_by target structures (operator_for o) x y ≡ Ok (arithmetic target o t s x y)
    of-integers op.Add t s x y e f = ap (λ (v : ValueType). sum_by target structures x y v y.type) e ∙ ap (sum_by target structures x y (Integer t)) f
    of-integers op.Sub t s x y e f = ap (λ (v : ValueType). difference_by target structures x y v y.type) e ∙ ap (difference_by target structures x y (Integer t)) f
    of-integers op.Mul t s x y e f = integers-both op.Mul t s x y e f
    of-integers op.Div t s x y e f = integers-both op.Div t s x y e f
    of-integers op.Rem t s x y e f = integers-both op.Rem t s x y e f
    of-integers op.And t s x y e f = integers-both op.And t s x y e f
    of-integers op.Or t s x y e f = integers-both op.Or t s x y e f
    of-integers op.Xor t s x y e f = integers-both op.Xor t s x y e f
    of-integers op.Shl t s x y e f = integers-both op.Shl t s x y e f
    of-integers op.Shr t s x y e f = integers-both op.Shr t s x y e f
    of-integers op.Lt t s x y e f = compared-both op.Lt t s x y e f
    of-integers op.Le t s x y e f = compared-both op.Le t s x y e f
    of-integers op.Gt t s x y e f = compared-both op.Gt t s x y e f
    of-integers op.Ge t s x y e f = compared-both op.Ge t s x y e f
    of-integers op.Eq t s x y e f = compared-both op.Eq t s x y e f
    of-integers op.Ne t s x y e f = compared-both op.Ne t s x y e f

    both-valued : (o : Operator) (x y : Operand) → is_scalar x.type ≡ true → is_scalar y.type ≡ true → binary_of target structures o x y ≡ binary_by target structures o x y
    both-valued o x y h k = with-scalar x _ h ∙ with-scalar y _ k

    pub integer-rule : (o : BinOp) (t s : IntType) (x y : Operand) → is_promoted target t ≡ true → second_fits target o t (Integer s) ≡ true → x.type ≡ Integer t → y.type ≡ Integer s → binary_of target structures (operator_for o) x y ≡ Ok (worked target o t x y)
    integer-rule o t s x y p q e f =
        both-valued (operator_for o) x y (integer-scalar x.type t e) (integer-scalar y.type s f) ∙ of-integers o t s x y e f ∙ ap (λ (z : Operand). Ok z) (arithmetic-rule o t s x y p q e f)

    -- ---- pointers that are moved

    moves : (back : Bool) (x y : Operand) → points_to_object structures x.type ≡ true → moved structures back x y ≡ Ok (operand (Move x.value y.value back) x.type)
    moves back x y h = ap (λ (b : Bool). must b rule.NoSum (Ok (operand (Move x.value y.value back) x.type))) h

    sum-by : (x y : Operand) (v : ValueType) (s : IntType) → x.type ≡ v → points_to_object structures v ≡ true → y.type ≡ Integer s → sum target structures x y ≡ moved structures false x y
    sum-by x y NoValue s e h f = absurd (cc)
    sum-by x y (Integer t) s e h f = absurd (cc)
    sum-by x y (ToObject c v t) s e h f = ap (λ (w : ValueType). sum_by target structures x y w y.type) e ∙ ap (sum_by target structures x y (ToObject c v t)) f
    sum-by x y (ToFunction g) s e h f = absurd (cc)

    difference-by : (x y : Operand) (v : ValueType) (s : IntType) → x.type ≡ v → points_to_object structures v ≡ true → y.type ≡ Integer s → difference target structures x y ≡ moved structures true x y
    difference-by x y NoValue s e h f = absurd (cc)
    difference-by x y (Integer t) s e h f = absurd (cc)
    difference-by x y (ToObject c v t) s e h f = ap (λ (w : ValueType). difference_by target structures x y w y.type) e ∙ ap (difference_by target structures x y (ToObject c v t)) f
    difference-by x y (ToFunction g) s e h f = absurd (cc)

    pub move-rule : (back : Bool) (o : Operator) (x y : Operand) (s : IntType) → o ≡ (if back then operator.Difference else operator.Sum) → points_to_object structures x.type ≡ true → y.type ≡ Integer s →
        binary_of target structures o x y ≡ Ok (operand (Move x.value y.value back) x.type)
    move-rule true o x y s i h f =
        ap (λ (o : Operator). binary_of target structures o x y) i ∙ both-valued operator.Difference x y (points-scalar structures x.type h) (integer-scalar y.type s f) ∙ difference-by x y x.type s refl h f ∙ moves true x y h
    move-rule false o x y s i h f =
        ap (λ (o : Operator). binary_of target structures o x y) i ∙ both-valued operator.Sum x y (points-scalar structures x.type h) (integer-scalar y.type s f) ∙ sum-by x y x.type s refl h f ∙ moves false x y h

    -- ---- differences of pointers

    gap-by : (x y : Operand) (v w : ValueType) → x.type ≡ v → y.type ≡ w → point_alike v w ≡ true → difference target structures x y ≡ gap target structures x y
    gap-by x y NoValue w e f h = absurd (cc)
    gap-by x y (Integer t) w e f h = absurd (cc)
    gap-by x y (ToObject c v t) NoValue e f h = absurd (cc)
    gap-by x y (ToObject c v t) (Integer s) e f h = absurd (cc)
    gap-by x y (ToObject c v t) (ToObject d w u) e f h = ap (λ (z : ValueType). difference_by target structures x y z y.type) e ∙ ap (difference_by target structures x y (ToObject c v t)) f
    gap-by x y (ToObject c v t) (ToFunction s) e f h = absurd (cc)
    gap-by x y (ToFunction s) NoValue e f h = absurd (cc)
    gap-by x y (ToFunction s) (Integer t) e f h = absurd (cc)
    gap-by x y (ToFunction s) (ToObject c v t) e f h = absurd (cc)
    gap-by x y (ToFunction s) (ToFunction t) e f h = ap (λ (z : ValueType). difference_by target structures x y z y.type) e ∙ ap (difference_by target structures x y (ToFunction s)) f

    pub gap-rule : (x y : Operand) → point_alike x.type y.type ≡ true → has_difference structures x.type ≡ true → binary_of target structures operator.Difference x y ≡ Ok (operand (Gap x.value y.value) (Integer (difference_type target)))
    gap-rule x y h k =
        both-valued operator.Difference x y (alike-scalars x.type y.type h).0 (alike-scalars x.type y.type h).1 ∙ gap-by x y x.type y.type refl refl h
        ∙ ap (λ (b : Bool). must (b && has_difference structures x.type) rule.NoSum (Ok (operand (Gap x.value y.value) (Integer (difference_type target))))) h
        ∙ ap (λ (b : Bool). must b rule.NoSum (Ok (operand (Gap x.value y.value) (Integer (difference_type target))))) k

    -- ---- comparisons of pointers: where one is a null constant, it is the null that the other is compared with

    compare-by : (o : BinOp) (x y : Operand) (v w : ValueType) → x.type ≡ v → y.type ≡ w → point_alike v w ≡ true → compared target o x y ≡ pointers_compared o x y
    compare-by o x y NoValue w e f h = absurd (cc)
    compare-by o x y (Integer t) w e f h = absurd (cc)
    compare-by o x y (ToObject c v t) w e f h = ap (λ (z : ValueType). compared_by target o x y z y.type) e
    compare-by o x y (ToFunction s) w e f h = ap (λ (z : ValueType). compared_by target o x y z y.type) e

    null-last : (o : BinOp) (x y : Operand) → is_null_beside o x y ≡ true → is_null_constant y ≡ true
    null-last o x y h = (both_true (is_pointer x.type) (is_null_constant y) (both_true (is_equality o) (is_pointer x.type && is_null_constant y) h).1).1

    compared-last : (o : BinOp) (x y : Operand) → point_alike x.type y.type ≡ true → NullsAgree x y → (b : Bool) → is_null_beside o y x ≡ b →
        (if b then Ok (truth (Compare o (null_of y.type) y.value)) else must (point_alike x.type y.type) rule.NoComparison (Ok (truth (Compare o x.value y.value)))) ≡ Ok (truth (Compare o x.value y.value))
    compared-last o x y h n true e = ap (λ (z : Expr). Ok (truth (Compare o z y.value))) (sym (n.left (null-last o y x e)))
    compared-last o x y h n false e = ap (λ (b : Bool). must b rule.NoComparison (Ok (truth (Compare o x.value y.value)))) h

    compared-first : (o : BinOp) (x y : Operand) → point_alike x.type y.type ≡ true → NullsAgree x y → (b : Bool) → is_null_beside o x y ≡ b →
        (if b then Ok (truth (against_null o x)) else (if is_null_beside o y x then Ok (truth (Compare o (null_of y.type) y.value)) else must (point_alike x.type y.type) rule.NoComparison (Ok (truth (Compare o x.value y.value)))))
        ≡ Ok (truth (Compare o x.value y.value))
    compared-first o x y h n true e = ap (λ (z : Expr). Ok (truth (Compare o x.value z))) (sym (n.right (null-last o x y e)))
    compared-first o x y h n false e = compared-last o x y h n (is_null_beside o y x) refl

    pub compare-rule : (o : BinOp) (x y : Operand) → point_alike x.type y.type ≡ true → NullsAgree x y → binary_of target structures (operator.Comparison o) x y ≡ Ok (truth (Compare o x.value y.value))
    compare-rule o x y h n =
        both-valued (operator.Comparison o) x y (alike-scalars x.type y.type h).0 (alike-scalars x.type y.type h).1 ∙ compare-by o x y x.type y.type refl refl h
        ∙ compared-first o x y h n (is_null_beside o x y) refl

    -- ---- `&&` and `||`

    scalars-are : (x y z : Operand) → is_scalar x.type ≡ true → is_scalar y.type ≡ true → scalars x y z ≡ Ok z
    scalars-are x y z h k = ap (λ (b : Bool). must (b && is_scalar y.type) rule.NoScalar (Ok z)) h ∙ ap (λ (b : Bool). must b rule.NoScalar (Ok z)) k

    pub both-rule : (x y : Operand) → is_scalar x.type ≡ true → is_scalar y.type ≡ true → binary_of target structures operator.Both x y ≡ Ok (both x y)
    both-rule x y h k = both-valued operator.Both x y h k ∙ scalars-are x y (both x y) h k

    pub either-rule : (x y : Operand) → is_scalar x.type ≡ true → is_scalar y.type ≡ true → binary_of target structures operator.Either x y ≡ Ok (either x y)
    either-rule x y h k = both-valued operator.Either x y h k ∙ scalars-are x y (either x y) h k
