-- Operators on integers are typed.
use Rattle.std.proofs.Common.{◌≡◌, Bool, true, false, ◌&&◌, List, Some, Ok, refl, ap, ◌∙◌, subst}
use Rattle.std.specs.Prelude.{if◌then◌else◌}
use Rattle.cc_program.specs.CcNum.declared.int_type.IntType.{IntType}
use Rattle.cc_program.specs.CcNum.declared.op.BinOp.{BinOp}
use Rattle.cc_program.specs.CcNum.declared.op.UnOp.{UnOp}
use Rattle.cc_program.specs.CcNum.declared.target.Target.{Target}
use Rattle.cc_program.specs.CcNum.Promotions.{promoted, usual_of}
use Rattle.cc_program.specs.CcNum.Results.{is_shift}
use Rattle.cc_program.proofs.CcNum.PromotionLaws.{promoted-promoted, promoted-usual_of}
use Rattle.cc_program.specs.declared.expr.Expr.{Un, Bin}
use Rattle.cc_operands.specs.Arithmetic.{working_type, second_type, worked, arithmetic, integers_by}
use Rattle.cc_operands.specs.Operands.{Operand, constancy, converted_to}
use Rattle.cc_operands.specs.Unary.{negated, integer_by, plus_by}
use Rattle.cc_operands.specs.declared.rule.Rule.{Rule}
use Rattle.cc_operands.specs.CcSyntax.Folding.{binary_constant, unary_constant}
use Rattle.cc_operands.specs.CcSyntax.Operators.{when, is_promoted, second_fits, binary_result, unary_result}
use Rattle.cc_operands.specs.CcSyntax.SameTypes.{same_int}
use Rattle.cc_operands.specs.CcSyntax.Types.{Named}
use Rattle.cc_operands.specs.CcSyntax.Values.{ValueType, NoValue, Integer, ToObject, ToFunction}
use Rattle.cc_operand_types.specs.Typed.{IsTypedOperand}
use Rattle.cc_operand_types.proofs.Constants.{binary_fits, unary_fits}
use Rattle.cc_operand_types.proofs.Operands.{ok_is, IsInteger, as_folded, converted_typed, value_integer}
use Rattle.cc_operand_types.proofs.Rolls.{type-Un, type-Bin}
use Rattle.cc_operands.proofs.CcSyntax.SameLemmas.{int_itself}
use Rattle.cc_operands.specs.CcSyntax.Views.{View}

pub when_one : {A : Type 0} (a : Bool) (x : A) → a ≡ true → when a x ≡ Some x
when_one a x h = rw h refl

pub when_two : {A : Type 0} (a b : Bool) (x : A) → a ≡ true → b ≡ true → when (a && b) x ≡ Some x
when_two a b x h k = rw (h, k) refl

pub when_three : {A : Type 0} (a b c : Bool) (x : A) → a ≡ true → b ≡ true → c ≡ true → when (a && (b && c)) x ≡ Some x
when_three a b c x h k l = rw (h, k, l) refl

pub promoted_is : (i : IntType) (target : Target) → is_promoted target (promoted i target) ≡ true
promoted_is i target = ap (λ (t : IntType). same_int t (promoted i target)) (promoted-promoted i target) ∙ int_itself (promoted i target)

pub usual_is : (i j : IntType) (target : Target) → is_promoted target (usual_of i j target) ≡ true
usual_is i j target = ap (λ (t : IntType). same_int t (usual_of i j target)) (promoted-usual_of i j target) ∙ int_itself (usual_of i j target)

working_by : (b : Bool) (i j : IntType) (target : Target) → is_promoted target (if b then promoted i target else usual_of i j target) ≡ true
working_by true i j target = promoted_is i target
working_by false i j target = usual_is i j target

second_by : (b : Bool) (i j : IntType) (target : Target) →
    (if b then is_promoted target (if b then promoted j target else usual_of i j target) else same_int (if b then promoted j target else usual_of i j target) (if b then promoted i target else usual_of i j target)) ≡ true
second_by true i j target = promoted_is j target
second_by false i j target = int_itself (usual_of i j target)

module _ (p : View) (locals : List Named) where
  abbrev Typed : Operand → Type 0
  Typed x = IsTypedOperand p locals x

  worked_typed : (o : BinOp) (t s : IntType) (x y : Operand) → is_promoted p.target t ≡ true → second_fits p.target o t (Integer s) ≡ true → IsInteger p locals t x → IsInteger p locals s y → Typed (worked p.target o t x y)
  worked_typed o t s x y h k hx hy =
      as_folded p locals (binary_result o t) (binary_constant p.target o t (constancy x) (constancy y)) (Bin o t x.value y.value)
      (type-Bin p locals o t x.value y.value (Integer t) (Integer s) (Some (Integer (binary_result o t))) (value_integer p locals t x hx) (value_integer p locals s y hy)
      (when_three (is_promoted p.target t) (same_int t t) (second_fits p.target o t (Integer s)) (Integer (binary_result o t)) h (int_itself t) k))
      (binary_fits o t p.target (constancy x) (constancy y))

  pub arithmetic_typed : (o : BinOp) (i j : IntType) (x y : Operand) → Typed x → Typed y → x.type ≡ Integer i → y.type ≡ Integer j → Typed (arithmetic p.target o i j x y)
  arithmetic_typed o i j x y hx hy e f =
      worked_typed o (working_type p.target o i j) (second_type p.target o i j) (converted_to p.target (working_type p.target o i j) x) (converted_to p.target (second_type p.target o i j) y)
      (working_by (is_shift o) i j p.target) (second_by (is_shift o) i j p.target) (converted_typed p locals (working_type p.target o i j) i x hx e) (converted_typed p locals (second_type p.target o i j) j y hy f)

  pub integers_typed : (o : BinOp) (x y r : Operand) (a b : ValueType) → Typed x → Typed y → x.type ≡ a → y.type ≡ b → integers_by p.target o x y a b ≡ Ok r → Typed r
  integers_typed o x y r (Integer i) (Integer j) hx hy e f h = subst Typed (ok_is h) (arithmetic_typed o i j x y hx hy e f)
  integers_typed o x y r (Integer i) NoValue hx hy e f h = absurd (cc)
  integers_typed o x y r (Integer i) (ToObject c v t) hx hy e f h = absurd (cc)
  integers_typed o x y r (Integer i) (ToFunction sig) hx hy e f h = absurd (cc)
  integers_typed o x y r NoValue b hx hy e f h = absurd (cc)
  integers_typed o x y r (ToObject c v t) b hx hy e f h = absurd (cc)
  integers_typed o x y r (ToFunction sig) b hx hy e f h = absurd (cc)

  negated_typed : (o : UnOp) (t : IntType) (x : Operand) → is_promoted p.target t ≡ true → IsInteger p locals t x → Typed (negated p.target o t x)
  negated_typed o t x h hx =
      as_folded p locals (unary_result o t) (unary_constant p.target o t (constancy x)) (Un o t x.value)
      (type-Un p locals o t x.value (Integer t) (Some (Integer (unary_result o t))) (value_integer p locals t x hx) (when_two (is_promoted p.target t) (same_int t t) (Integer (unary_result o t)) h (int_itself t)))
      (unary_fits o t p.target (constancy x))

  pub integer_typed : (broken : Rule) (o : UnOp) (x r : Operand) (a : ValueType) → Typed x → x.type ≡ a → integer_by p.target broken o x a ≡ Ok r → Typed r
  integer_typed broken o x r (Integer i) hx e h =
      subst Typed (ok_is h) (negated_typed o (promoted i p.target) (converted_to p.target (promoted i p.target) x) (promoted_is i p.target) (converted_typed p locals (promoted i p.target) i x hx e))
  integer_typed broken o x r NoValue hx e h = absurd (cc)
  integer_typed broken o x r (ToObject c v t) hx e h = absurd (cc)
  integer_typed broken o x r (ToFunction sig) hx e h = absurd (cc)

  pub plus_typed : (x r : Operand) (a : ValueType) → Typed x → x.type ≡ a → plus_by p.target x a ≡ Ok r → Typed r
  plus_typed x r (Integer i) hx e h = subst Typed (ok_is h) (converted_typed p locals (promoted i p.target) i x hx e).operand
  plus_typed x r NoValue hx e h = absurd (cc)
  plus_typed x r (ToObject c v t) hx e h = absurd (cc)
  plus_typed x r (ToFunction sig) hx e h = absurd (cc)
