-- What the rules make of `c ? a : b`, and of what is assigned, where a program has these types: the arms and the value stay
-- as they are.
use Rattle.std.proofs.Common.{◌≡◌, Bool, true, false, not, ◌&&◌, ◌||◌, Ok, Err, refl, ap, sym, ◌∙◌}
use Rattle.std.specs.Prelude.{ℤ, if◌then◌else◌}
use Rattle.cc_program.specs.CcNum.declared.int_type.IntType.{IntType}
use Rattle.cc_program.specs.CcNum.declared.target.Target.{Target}
use Rattle.cc_program.specs.CcNum.Integers.{is_value_of}
use Rattle.cc_program.proofs.CcNum.Conversions.{converted-same}
use Rattle.cc_program.proofs.CcNum.ResultLaws.{value_from_test}
use Rattle.cc_terms.specs.CcOperands.Assignments.{assigned_pointer, assigned_integer, assigned}
use Rattle.cc_terms.specs.CcOperands.Choices.{chosen_integer, chosen_pointer, nothing_chosen, pointers_chosen, chosen_by, arms_chosen, choose_of}
use Rattle.cc_terms.specs.CcOperands.Operands.{Operand, operand, integer, constancy, constant_at, folded, cast_to, converted_from, converted_to, is_pointer, is_nothing, is_to_void, is_null_constant, null_of, no_structure}
use Rattle.cc_terms.specs.CcOperands.Verdicts.{must}
use Rattle.cc_terms.specs.CcOperands.declared.rule.Rule.TheVariants as rule
use Rattle.cc_program.specs.declared.expr.Expr.{Const, Conv, Choose}
use Rattle.cc_program.specs.declared.expr.Expr.TheVariants as expr_rolls
use Rattle.cc_program.specs.declared.types.CType.{CType}
use Rattle.cc_program.specs.declared.types.Sig.{Sig}
use Rattle.cc_terms.specs.CcSyntax.Folding.{Constant, Value, converted_constant}
use Rattle.cc_terms.specs.CcSyntax.Operators.{is_promoted, common_type}
use Rattle.cc_terms.specs.CcSyntax.SameTypes.{same_int, same_sig, alike, is_void_shape}
use Rattle.cc_terms.specs.CcSyntax.Values.{ValueType, NoValue, Integer, ToObject, ToFunction, is_scalar, is_void, point_alike, is_assignable}
use Rattle.cc_terms.proofs.CcSyntax.AlikeLemmas.{shares}
use Rattle.cc_terms.proofs.CcSyntax.Prefixes.{both_true}
use Rattle.cc_terms.proofs.CcSyntax.SameLemmas.{Alike, SameShape, Arrays, int_same}
use Rattle.cc_shown_expressions.specs.Assigned.{AssignedAs}
use Rattle.cc_shown_expressions.proofs.Rules.{scalar-something, with-scalar, without-structure, usual-is, same-conversion}

shares-void : (t u : CType) → Alike t u → is_void t ≡ is_void u
shares-void _ _ (SameShape t u e) = ap is_void_shape e
shares-void _ _ (Arrays t u of other n e f h) = ap is_void_shape e ∙ sym (ap is_void_shape f)

pub alike-void : (t u : CType) → alike t u ≡ true → is_void t ≡ is_void u
alike-void t u h = shares-void t u (shares t u h)

not-false : (b : Bool) → not b ≡ true → b ≡ false
not-false false h = refl
not-false true h = absurd (cc)

pub pointer-scalar : (v : ValueType) → is_pointer v ≡ true → is_scalar v ≡ true
pointer-scalar NoValue h = absurd (cc)
pointer-scalar (Integer t) h = absurd (cc)
pointer-scalar (ToObject c v t) h = refl
pointer-scalar (ToFunction s) h = refl

module _ (target : Target) where
  -- two arms with one value: integers of a type, or pointers
  pub data Common (v w : ValueType) : Type 0 where
    Integers : (t : IntType) → v ≡ Integer t → w ≡ Integer t → is_promoted target t ≡ true → common_type target v w ≡ Integer t → Common v w
    Pointers : is_pointer v ≡ true → is_pointer w ≡ true → point_alike v w ≡ true → is_to_void v ≡ false → is_to_void w ≡ false → Common v w

  common-integers : (s t : IntType) (b : Bool) → (same_int s t && is_promoted target s) ≡ b → is_scalar (if b then Integer s else NoValue) ≡ true → Common (Integer s) (Integer t)
  common-integers s t false e h = absurd (cc)
  common-integers s t true e h =
      let k = both_true (same_int s t) (is_promoted target s) e in
      Integers s refl (ap (λ (i : IntType). Integer i) (sym (int_same s t k.0))) k.1 (ap (λ (b : Bool). if b then Integer s else NoValue) e)

  common-objects : (c v d w : Bool) (t u : CType) (b : Bool) → (alike t u && not (is_void t)) ≡ b → is_scalar (if b then ToObject (c || d) (v || w) t else NoValue) ≡ true → Common (ToObject c v t) (ToObject d w u)
  common-objects c v d w t u false e h = absurd (cc)
  common-objects c v d w t u true e h =
      let k = both_true (alike t u) (not (is_void t)) e in
      let n = not-false (is_void t) k.1 in
      Pointers refl refl k.0 n (sym (alike-void t u k.0) ∙ n)

  common-functions : (s t : Sig) (b : Bool) → same_sig s t ≡ b → is_scalar (if b then ToFunction s else NoValue) ≡ true → Common (ToFunction s) (ToFunction t)
  common-functions s t false e h = absurd (cc)
  common-functions s t true e h = Pointers refl refl e refl refl

  pub common-is : (v w : ValueType) → is_scalar (common_type target v w) ≡ true → Common v w
  common-is NoValue w h = absurd (cc)
  common-is (Integer s) NoValue h = absurd (cc)
  common-is (Integer s) (Integer t) h = common-integers s t (same_int s t && is_promoted target s) refl h
  common-is (Integer s) (ToObject c v t) h = absurd (cc)
  common-is (Integer s) (ToFunction g) h = absurd (cc)
  common-is (ToObject c v t) NoValue h = absurd (cc)
  common-is (ToObject c v t) (Integer s) h = absurd (cc)
  common-is (ToObject c v t) (ToObject d w u) h = common-objects c v d w t u (alike t u && not (is_void t)) refl h
  common-is (ToObject c v t) (ToFunction g) h = absurd (cc)
  common-is (ToFunction s) NoValue h = absurd (cc)
  common-is (ToFunction s) (Integer t) h = absurd (cc)
  common-is (ToFunction s) (ToObject c v t) h = absurd (cc)
  common-is (ToFunction s) (ToFunction t) h = common-functions s t (same_sig s t) refl h

  -- ---- `c ? a : b`

  arms-are : (c x y : Operand) → is_scalar x.type ≡ true → is_scalar y.type ≡ true → arms_chosen target c x y ≡ chosen_by target c x y x.type y.type
  arms-are c x y h k =
      ap (λ (b : Bool). if b && is_nothing y.type then Ok (nothing_chosen c x y) else (if b || is_nothing y.type then Err rule.NoCommonType else chosen_by target c x y x.type y.type)) (scalar-something x.type h)
      ∙ ap (λ (b : Bool). if b then Err rule.NoCommonType else chosen_by target c x y x.type y.type) (scalar-something y.type k)

  choose-valued : (c x y : Operand) → is_scalar c.type ≡ true → x.structure ≡ false → y.structure ≡ false → is_scalar x.type ≡ true → is_scalar y.type ≡ true → choose_of target c x y ≡ chosen_by target c x y x.type y.type
  choose-valued c x y h f g i j =
      with-scalar c _ h ∙ ap (λ (b : Bool). must b rule.NoScalar (no_structure x (no_structure y (arms_chosen target c x y)))) h
      ∙ without-structure x _ f ∙ without-structure y _ g ∙ arms-are c x y i j

  pub choose-integers : (c x y : Operand) (t : IntType) → is_scalar c.type ≡ true → x.structure ≡ false → y.structure ≡ false → x.type ≡ Integer t → y.type ≡ Integer t → is_promoted target t ≡ true → choose_of target c x y ≡ Ok (chosen_integer t c x y)
  choose-integers c x y t h f g e k p =
      choose-valued c x y h f g (ap is_scalar e) (ap is_scalar k)
      ∙ ap (λ (v : ValueType). chosen_by target c x y v y.type) e ∙ ap (chosen_by target c x y (Integer t)) k
      ∙ ap (λ (u : IntType). Ok (chosen_integer u c (converted_to target u x) (converted_to target u y))) (usual-is target t p)
      ∙ ap (λ (z : Operand). Ok (chosen_integer t c z (converted_to target t y))) (same-conversion target t x e)
      ∙ ap (λ (z : Operand). Ok (chosen_integer t c x z)) (same-conversion target t y k)

  chosen-pointers : (c x y : Operand) (v w : ValueType) → is_pointer v ≡ true → chosen_by target c x y v w ≡ pointers_chosen target c x y
  chosen-pointers c x y NoValue w h = absurd (cc)
  chosen-pointers c x y (Integer t) w h = absurd (cc)
  chosen-pointers c x y (ToObject d v t) w h = refl
  chosen-pointers c x y (ToFunction s) w h = refl

  and-false : (a : Bool) → a && false ≡ false
  and-false true = refl
  and-false false = refl

  pub choose-pointers : (c x y : Operand) → is_scalar c.type ≡ true → x.structure ≡ false → y.structure ≡ false → is_pointer x.type ≡ true → is_pointer y.type ≡ true → is_null_constant x ≡ false → is_null_constant y ≡ false →
      point_alike x.type y.type ≡ true → is_to_void x.type ≡ false → choose_of target c x y ≡ Ok (operand (Choose c.value x.value y.value) (common_type target x.type y.type))
  choose-pointers c x y h f g i j k l m n =
      let last = must (point_alike x.type y.type) rule.NoCommonType (chosen_pointer (is_to_void x.type) c x.value y.value (common_type target x.type y.type)) in
      let second = λ (b : Bool). if b then chosen_pointer (is_to_void y.type) c (null_of y.type) y.value y.type else last in
      choose-valued c x y h f g (pointer-scalar x.type i) (pointer-scalar y.type j)
      ∙ chosen-pointers c x y x.type y.type i
      ∙ ap (λ (b : Bool). if b then chosen_pointer (is_to_void x.type) c x.value (null_of x.type) x.type else second (is_pointer y.type && is_null_constant x)) (ap (λ (b : Bool). is_pointer x.type && b) l ∙ and-false (is_pointer x.type))
      ∙ ap second (ap (λ (b : Bool). is_pointer y.type && b) k ∙ and-false (is_pointer y.type))
      ∙ ap (λ (b : Bool). must b rule.NoCommonType (chosen_pointer (is_to_void x.type) c x.value y.value (common_type target x.type y.type))) m
      ∙ ap (λ (b : Bool). chosen_pointer b c x.value y.value (common_type target x.type y.type)) n

  -- ---- what is assigned

  integer-assigned : (t : IntType) (x : Operand) → x.structure ≡ false → x.type ≡ Integer t → assigned target (Integer t) x ≡ Ok x
  integer-assigned t x h e = without-structure x _ h ∙ ap (assigned_integer target t x) e ∙ ap (λ (z : Operand). Ok z) (same-conversion target t x e)

  pointer-assigned : (to : ValueType) (x : Operand) → is_pointer to ≡ true → x.structure ≡ false → is_scalar x.type ≡ true → assigned target to x ≡ assigned_pointer to x
  pointer-assigned NoValue x h f g = absurd (cc)
  pointer-assigned (Integer t) x h f g = absurd (cc)
  pointer-assigned (ToObject c v t) x h f g = without-structure x _ f ∙ with-scalar x _ g
  pointer-assigned (ToFunction s) x h f g = without-structure x _ f ∙ with-scalar x _ g

  assign-pointers : (to : ValueType) (x : Operand) → is_pointer to ≡ true → x.structure ≡ false → is_scalar x.type ≡ true → is_null_constant x ≡ false → is_assignable to x.type ≡ true → AssignedAs target to x x.value
  assign-pointers to x h f g n a = record {
    result = operand x.value to;
    is = pointer-assigned to x h f g
        ∙ ap (λ (b : Bool). if b then Ok (operand (null_of to) to) else must (is_assignable to x.type) rule.NotAssignable (Ok (operand x.value to))) n
        ∙ ap (λ (b : Bool). must b rule.NotAssignable (Ok (operand x.value to))) a;
    value = refl;
  }

  assign-by : (to : ValueType) (x : Operand) (v : ValueType) → x.type ≡ v → x.structure ≡ false → (is_pointer to ≡ true → is_null_constant x ≡ false) → is_assignable to v ≡ true → is_assignable to x.type ≡ true → AssignedAs target to x x.value
  assign-by NoValue x v e f n h a = absurd (cc)
  assign-by (Integer t) x NoValue e f n h a = absurd (cc)
  assign-by (Integer t) x (Integer s) e f n h a = record { result = x; is = integer-assigned t x f (e ∙ ap (λ (i : IntType). Integer i) (sym (int_same t s h))); value = refl }
  assign-by (Integer t) x (ToObject c v u) e f n h a = absurd (cc)
  assign-by (Integer t) x (ToFunction s) e f n h a = absurd (cc)
  assign-by (ToObject c v t) x NoValue e f n h a = absurd (cc)
  assign-by (ToObject c v t) x (Integer s) e f n h a = absurd (cc)
  assign-by (ToObject c v t) x (ToObject d w u) e f n h a = assign-pointers (ToObject c v t) x refl f (ap is_scalar e) (n refl) a
  assign-by (ToObject c v t) x (ToFunction s) e f n h a = absurd (cc)
  assign-by (ToFunction s) x NoValue e f n h a = absurd (cc)
  assign-by (ToFunction s) x (Integer t) e f n h a = absurd (cc)
  assign-by (ToFunction s) x (ToObject c v t) e f n h a = absurd (cc)
  assign-by (ToFunction s) x (ToFunction t) e f n h a = assign-pointers (ToFunction s) x refl f (ap is_scalar e) (n refl) a

  -- a value of the type, or a pointer that loses no qualifier
  pub assign-rule : (to : ValueType) (x : Operand) → x.structure ≡ false → (is_pointer to ≡ true → is_null_constant x ≡ false) → is_assignable to x.type ≡ true → AssignedAs target to x x.value
  assign-rule to x f n a = assign-by to x x.type refl f n a a

  -- a null constant
  pub assign-null : (to : ValueType) (x : Operand) → is_pointer to ≡ true → x.structure ≡ false → is_scalar x.type ≡ true → is_null_constant x ≡ true → AssignedAs target to x (null_of to)
  assign-null to x h f g n = record {
    result = operand (null_of to) to;
    is = pointer-assigned to x h f g ∙ ap (λ (b : Bool). if b then Ok (operand (null_of to) to) else must (is_assignable to x.type) rule.NotAssignable (Ok (operand x.value to))) n;
    value = refl;
  }

  pub constancy-of : (n : ℤ) (s : IntType) → constancy (integer n s) ≡ Value n
  constancy-of n s = ap constant_at (expr_rolls.outs-Const n s)

  narrow-cast : (n : ℤ) (s t : IntType) → is_value_of t target n ≡ true → cast_to target t (integer n s) ≡ integer n t
  narrow-cast n s t h =
      ap (λ (c : Constant). folded t (converted_constant target t c) (Conv t (Const n s))) (constancy-of n s)
      ∙ ap (λ (m : ℤ). integer m t) (converted-same t target n (value_from_test t target n h))

  narrow-by : (n : ℤ) (s t : IntType) (b : Bool) → same_int s t ≡ b → is_value_of t target n ≡ true → converted_from target t s (integer n s) ≡ integer n t
  narrow-by n s t true e h = ap (λ (b : Bool). if b then integer n s else cast_to target t (integer n s)) e ∙ ap (λ (i : IntType). integer n i) (int_same s t e)
  narrow-by n s t false e h = ap (λ (b : Bool). if b then integer n s else cast_to target t (integer n s)) e ∙ narrow-cast n s t h

  -- a constant that is a value of an integer type
  pub assign-constant : (n : ℤ) (s t : IntType) → is_value_of t target n ≡ true → AssignedAs target (Integer t) (integer n s) (Const n t)
  assign-constant n s t h = record { result = integer n t; is = ap (λ (z : Operand). Ok z) (narrow-by n s t (same_int s t) refl h); value = refl }
