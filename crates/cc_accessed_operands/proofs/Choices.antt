-- What `c ? a : b` and `a, b` make of operands accesses what these access.
use Rattle.std.proofs.Common.{◌≡◌, ◌∙◌, ◌||◌, ◌&&◌, ℕ, Bool, true, false, Ok, Err, refl, subst}
use Rattle.std.specs.Prelude.{if◌then◌else◌}
use Rattle.cc_accessed_operands.specs.Accessed.{accesses}
use Rattle.cc_accessed_operands.specs.Kept.{TrapsWithoutAccess, KeepsOperand}
use Rattle.cc_accessed_operands.proofs.Accesses.{or_kept}
use Rattle.cc_accessed_operands.proofs.Constants.{folded_keeps, chosen_parts}
use Rattle.cc_accessed_operands.proofs.Conversions.{converted_keeps, converted_known}
use Rattle.cc_accessed_operands.proofs.Parts.{IsConstant, AccessesNone, accesses_is, never, neither, second_of, null_constant_none, constant_accesses_none, operand_keeps, fewer}
use Rattle.cc_accessed_operands.proofs.Verdicts.{ok_is, must_ok, value_ok, structure_ok}
use Rattle.cc_designators.specs.Designators.{IsValue}
use Rattle.cc_program.specs.CcNum.Promotions.{usual_of}
use Rattle.cc_program.specs.CcNum.declared.int_type.IntType.{IntType}
use Rattle.cc_program.specs.CcNum.declared.target.Target.{Target}
use Rattle.cc_operands.specs.Choices.{chosen_integer, chosen_pointer, arm_chosen, nothing_by, nothing_chosen, pointers_chosen, chosen_by, arms_chosen, choose_of, comma_of}
use Rattle.cc_operands.specs.Operands.{Operand, operand, constancy, converted_to, is_pointer, is_nothing, is_to_void, is_null_constant, null_of, no_structure}
use Rattle.cc_operands.specs.Verdicts.{must}
use Rattle.cc_operands.specs.declared.rule.Rule.TheVariants as rule
use Rattle.cc_program.specs.declared.expr.Expr.{Expr, Choose, Seq}
use Rattle.cc_program.specs.declared.expr.Expr.TheOpen as one
use Rattle.cc_program.specs.declared.expr.Expr.TheVariants.{rolls-Choose, rolls-Seq}
use Rattle.cc_operands.specs.CcSyntax.Folding.{Constant, NoConstant, Value, Traps, is_true, chosen_constant}
use Rattle.cc_operands.specs.CcSyntax.Operators.{common_type}
use Rattle.cc_operands.specs.CcSyntax.Values.{ValueType, NoValue, Integer, ToObject, ToFunction, is_scalar, point_alike}

abbrev accesses_some : Operand → Operand → Operand → ℕ → Bool
accesses_some c x y d = accesses d c.value || (accesses d x.value || accesses d y.value)

abbrev KeepsThree : Operand → Operand → Operand → Operand → Type 0
KeepsThree c x y r = KeepsOperand r (accesses_some c x y)

abbrev Good : Operand → Type 0
Good x = TrapsWithoutAccess x

-- a choice, where what stands for the arms keeps them
choice_keeps : (c x y : Operand) (a b : Expr) (d : ℕ) → (accesses d x.value ≡ true → accesses d a ≡ true) → (accesses d y.value ≡ true → accesses d b ≡ true) → accesses_some c x y d ≡ true →
    accesses d (Choose c.value a b) ≡ true
choice_keeps c x y a b d h k s =
    accesses_is d (Choose c.value a b) (one.Choose c.value a b) (rolls-Choose c.value a b)
    ∙ or_kept (accesses d c.value) (accesses d x.value || accesses d y.value) (accesses d c.value) (accesses d a || accesses d b) (λ z. z) (or_kept (accesses d x.value) (accesses d y.value) (accesses d a) (accesses d b) h k) s

-- of constant expressions alone
choice_none : (c x y : Operand) → Good c → Good x → Good y → IsConstant (chosen_constant (constancy c) (constancy x) (constancy y)) → AccessesNone (Choose c.value x.value y.value)
choice_none c x y hc hx hy k d =
    let p = chosen_parts (constancy c) (constancy x) (constancy y) k in
    accesses_is d (Choose c.value x.value y.value) (one.Choose c.value x.value y.value) (rolls-Choose c.value x.value y.value)
    ∙ neither (accesses d c.value) (accesses d x.value || accesses d y.value) (constant_accesses_none c hc p.0 d)
    (neither (accesses d x.value) (accesses d y.value) (constant_accesses_none x hx p.1 d) (constant_accesses_none y hy p.2 d))

integers_chosen : (t : IntType) (c x y : Operand) → Good c → Good x → Good y → KeepsThree c x y (chosen_integer t c x y)
integers_chosen t c x y hc hx hy =
    folded_keeps t (chosen_constant (constancy c) (constancy x) (constancy y)) (Choose c.value x.value y.value) (accesses_some c x y)
    (λ d. choice_keeps c x y x.value y.value d (λ z. z) (λ z. z)) (choice_none c x y hc hx hy)

-- ---- pointers: a null constant accesses no device

pointer_by : (to_void : Bool) (c x y : Operand) (a b : Expr) (t : ValueType) (r : Operand) → ((d : ℕ) → accesses d x.value ≡ true → accesses d a ≡ true) → ((d : ℕ) → accesses d y.value ≡ true → accesses d b ≡ true) →
    chosen_pointer to_void c a b t ≡ Ok r → KeepsThree c x y r
pointer_by true c x y a b t r h k e = absurd (cc)
pointer_by false c x y a b t r h k e = subst (KeepsThree c x y) (ok_is e) (operand_keeps (Choose c.value a b) t (accesses_some c x y) (λ d. choice_keeps c x y a b d (h d) (k d)))

module _ (target : Target) where
  third : (c x y r : Operand) → must (point_alike x.type y.type) rule.NoCommonType (chosen_pointer (is_to_void x.type) c x.value y.value (common_type target x.type y.type)) ≡ Ok r → KeepsThree c x y r
  third c x y r e =
      let m = must_ok (point_alike x.type y.type) rule.NoCommonType (chosen_pointer (is_to_void x.type) c x.value y.value (common_type target x.type y.type)) r e in
      pointer_by (is_to_void x.type) c x y x.value y.value (common_type target x.type y.type) r (λ d z. z) (λ d z. z) m.1

  second : (c x y r : Operand) (b : Bool) → (is_pointer y.type && is_null_constant x) ≡ b →
      (if b then chosen_pointer (is_to_void y.type) c (null_of y.type) y.value y.type
      else must (point_alike x.type y.type) rule.NoCommonType (chosen_pointer (is_to_void x.type) c x.value y.value (common_type target x.type y.type))) ≡ Ok r → KeepsThree c x y r
  second c x y r true k e =
      pointer_by (is_to_void y.type) c x y (null_of y.type) y.value y.type r (λ d z. never z (null_constant_none d x (second_of (is_pointer y.type) (is_null_constant x) k))) (λ d z. z) e
  second c x y r false k e = third c x y r e

  first : (c x y r : Operand) (b : Bool) → (is_pointer x.type && is_null_constant y) ≡ b →
      (if b then chosen_pointer (is_to_void x.type) c x.value (null_of x.type) x.type
      else (if is_pointer y.type && is_null_constant x then chosen_pointer (is_to_void y.type) c (null_of y.type) y.value y.type
      else must (point_alike x.type y.type) rule.NoCommonType (chosen_pointer (is_to_void x.type) c x.value y.value (common_type target x.type y.type)))) ≡ Ok r → KeepsThree c x y r
  first c x y r true k e =
      pointer_by (is_to_void x.type) c x y x.value (null_of x.type) x.type r (λ d z. z) (λ d z. never z (null_constant_none d y (second_of (is_pointer x.type) (is_null_constant y) k))) e
  first c x y r false k e = second c x y r (is_pointer y.type && is_null_constant x) refl e

  pointers_keep : (c x y r : Operand) → pointers_chosen target c x y ≡ Ok r → KeepsThree c x y r
  pointers_keep c x y r e = first c x y r (is_pointer x.type && is_null_constant y) refl e

  converted_arms : (t : IntType) (c x y : Operand) → Good c → Good x → Good y → KeepsThree c x y (chosen_integer t c (converted_to target t x) (converted_to target t y))
  converted_arms t c x y hc hx hy =
      let a = converted_to target t x in
      let b = converted_to target t y in
      fewer (IsValue (chosen_integer t c a b)) (accesses_some c a b) (accesses_some c x y)
      (λ d. or_kept (accesses d c.value) (accesses d x.value || accesses d y.value) (accesses d c.value) (accesses d a.value || accesses d b.value) (λ z. z)
      (or_kept (accesses d x.value) (accesses d y.value) (accesses d a.value) (accesses d b.value) (converted_keeps target t x d) (converted_keeps target t y d)))
      (integers_chosen t c a b hc (converted_known target t x hx) (converted_known target t y hy))

  chosen_keep : (c x y : Operand) (v w : ValueType) (r : Operand) → Good c → Good x → Good y → chosen_by target c x y v w ≡ Ok r → KeepsThree c x y r
  chosen_keep c x y (Integer i) (Integer j) r hc hx hy e = subst (KeepsThree c x y) (ok_is e) (converted_arms (usual_of i j target) c x y hc hx hy)
  chosen_keep c x y (Integer i) NoValue r hc hx hy e = pointers_keep c x y r e
  chosen_keep c x y (Integer i) (ToObject d v t) r hc hx hy e = pointers_keep c x y r e
  chosen_keep c x y (Integer i) (ToFunction s) r hc hx hy e = pointers_keep c x y r e
  chosen_keep c x y NoValue w r hc hx hy e = pointers_keep c x y r e
  chosen_keep c x y (ToObject d v t) w r hc hx hy e = pointers_keep c x y r e
  chosen_keep c x y (ToFunction s) w r hc hx hy e = pointers_keep c x y r e

  -- ---- what has no value

  nothing_keeps : (k : Constant) (arm : Operand) (e : Expr) (accessed : ℕ → Bool) → Good arm → ((d : ℕ) → accessed d ≡ true → accesses d e ≡ true) → (IsConstant k → AccessesNone e) → KeepsOperand (nothing_by k arm e) accessed
  nothing_keeps NoConstant arm e accessed g h none = operand_keeps e NoValue accessed h
  nothing_keeps (Value n) arm e accessed g h none = record { known = g; kept = λ d k. never (h d k) (none tt d) }
  nothing_keeps Traps arm e accessed g h none = record { known = λ k. none tt; kept = h }

  arm_by : (b : Bool) (x y : Operand) → Good x → Good y → Good (if b then x else y)
  arm_by true x y hx hy = hx
  arm_by false x y hx hy = hy

  arm_known : (k : Constant) (x y : Operand) → Good x → Good y → Good (arm_chosen k x y)
  arm_known NoConstant x y hx hy = hx
  arm_known (Value n) x y hx hy = arm_by (is_true n) x y hx hy
  arm_known Traps x y hx hy = hx

  nothings_keep : (c x y : Operand) → Good c → Good x → Good y → KeepsThree c x y (nothing_chosen c x y)
  nothings_keep c x y hc hx hy =
      nothing_keeps (chosen_constant (constancy c) (constancy x) (constancy y)) (arm_chosen (constancy c) x y) (Choose c.value x.value y.value) (accesses_some c x y) (arm_known (constancy c) x y hx hy)
      (λ d. choice_keeps c x y x.value y.value d (λ z. z) (λ z. z)) (choice_none c x y hc hx hy)

  -- ---- the arms

  arms_second : (c x y r : Operand) (b : Bool) → Good c → Good x → Good y → (if b then Err rule.NoCommonType else chosen_by target c x y x.type y.type) ≡ Ok r → KeepsThree c x y r
  arms_second c x y r true hc hx hy e = absurd (cc)
  arms_second c x y r false hc hx hy e = chosen_keep c x y x.type y.type r hc hx hy e

  arms_first : (c x y r : Operand) (b : Bool) → Good c → Good x → Good y →
      (if b then Ok (nothing_chosen c x y) else (if is_nothing x.type || is_nothing y.type then Err rule.NoCommonType else chosen_by target c x y x.type y.type)) ≡ Ok r → KeepsThree c x y r
  arms_first c x y r true hc hx hy e = subst (KeepsThree c x y) (ok_is e) (nothings_keep c x y hc hx hy)
  arms_first c x y r false hc hx hy e = arms_second c x y r (is_nothing x.type || is_nothing y.type) hc hx hy e

  pub choose_keeps : (c x y r : Operand) → TrapsWithoutAccess c → TrapsWithoutAccess x → TrapsWithoutAccess y → choose_of target c x y ≡ Ok r →
      KeepsOperand r (λ d. accesses d c.value || (accesses d x.value || accesses d y.value))
  choose_keeps c x y r hc hx hy e =
      let m = must_ok (is_scalar c.type) rule.NoScalar (no_structure x (no_structure y (arms_chosen target c x y))) r (value_ok c _ r e) in
      arms_first c x y r (is_nothing x.type && is_nothing y.type) hc hx hy (structure_ok y (arms_chosen target c x y) r (structure_ok x (no_structure y (arms_chosen target c x y)) r m.1))

-- ---- the value of the first is not used

pub comma_keeps : (x y r : Operand) → comma_of x y ≡ Ok r → KeepsOperand r (λ d. accesses d x.value || accesses d y.value)
comma_keeps x y r e =
    subst (λ z. KeepsOperand z (λ d. accesses d x.value || accesses d y.value)) (ok_is (structure_ok y (Ok (operand (Seq x.value y.value) y.type)) r (structure_ok x (no_structure y (Ok (operand (Seq x.value y.value) y.type))) r e)))
    (operand_keeps (Seq x.value y.value) y.type (λ d. accesses d x.value || accesses d y.value) (λ d a. accesses_is d (Seq x.value y.value) (one.Seq x.value y.value) (rolls-Seq x.value y.value) ∙ a))
