-- What `c ? a : b` and `a, b` make of folded operands is folded.
use Rattle.std.proofs.Common.{◌≡◌, Bool, true, false, ◌&&◌, ◌||◌, Ok, Err, refl, ap, sym, ◌∙◌, subst}
use Rattle.std.specs.Prelude.{if◌then◌else◌}
use Rattle.cc_program.specs.CcNum.declared.int_type.IntType.{IntType}
use Rattle.cc_program.specs.CcNum.declared.target.Target.{Target}
use Rattle.cc_program.specs.CcNum.Promotions.{usual_of}
use Rattle.cc_operands.specs.Choices.{chosen_integer, chosen_pointer, arm_chosen, nothing_by, nothing_chosen, pointers_chosen, chosen_by, arms_chosen, choose_of, comma_of}
use Rattle.cc_operands.specs.Operands.{Operand, operand, constant_at, constancy, converted_to, is_pointer, is_nothing, is_to_void, is_null_constant, null_of, no_structure}
use Rattle.cc_operands.specs.Verdicts.{must}
use Rattle.cc_operands.specs.declared.rule.Rule.TheVariants as rule
use Rattle.cc_program.specs.declared.expr.Expr.{Expr, Choose, Seq, out-Expr}
use Rattle.cc_program.specs.declared.expr.Expr.TheOpen as one
use Rattle.cc_program.specs.declared.expr.Expr.TheVariants.{rolls-Choose, rolls-Seq}
use Rattle.cc_operands.specs.CcSyntax.Folding.{Constant, NoConstant, Value, Traps, Folding, operation, variable, is_true, settled, chosen_constant, folding_of, is_folded, constant_of}
use Rattle.cc_operands.specs.CcSyntax.Operators.{common_type}
use Rattle.cc_operands.specs.CcSyntax.Values.{ValueType, NoValue, Integer, ToObject, ToFunction, is_scalar, point_alike}
use Rattle.cc_folded_operands.proofs.Conversions.{null_folded, converted_folded}
use Rattle.cc_folded_operands.proofs.Opened.{Folded, IsVariable, folding_is, constant_is, variable_at, variable_operand, operation_operand, null_variable}
use Rattle.cc_folded_operands.proofs.Verdicts.{ok_is, must_ok, value_ok, structure_ok, both as two}
use Rattle.cc_operands.specs.Qualified.{type_of_value}

-- two types that are one are those of pointers, or of one kind
alike_pointers : (t u : ValueType) → point_alike t u ≡ true → (is_pointer t ≡ true) × (is_pointer u ≡ true)
alike_pointers NoValue u h = absurd (cc)
alike_pointers (Integer i) u h = absurd (cc)
alike_pointers (ToObject c v t) NoValue h = absurd (cc)
alike_pointers (ToObject c v t) (Integer i) h = absurd (cc)
alike_pointers (ToObject c v t) (ToObject d w u) h = (refl, refl)
alike_pointers (ToObject c v t) (ToFunction s) h = absurd (cc)
alike_pointers (ToFunction s) NoValue h = absurd (cc)
alike_pointers (ToFunction s) (Integer i) h = absurd (cc)
alike_pointers (ToFunction s) (ToObject d w u) h = absurd (cc)
alike_pointers (ToFunction s) (ToFunction f) h = (refl, refl)

-- a choice between what is no constant expression is none
none_by : (b : Bool) → (if b then settled NoConstant NoConstant else settled NoConstant NoConstant) ≡ NoConstant
none_by true = refl
none_by false = refl

none_chosen : (c : Constant) → chosen_constant c NoConstant NoConstant ≡ NoConstant
none_chosen NoConstant = refl
none_chosen (Value n) = none_by (is_true n)
none_chosen Traps = refl

both_first : (a b : Bool) → a && b ≡ true → a ≡ true
both_first true b h = refl
both_first false b h = absurd (cc)

module _ (target : Target) where
  abbrev Good : Operand → Type 0
  Good x = Folded target x

  -- a choice, by what its parts are
  choice_is : (c a b : Expr) (i j k : Constant) → constant_of target c ≡ i → constant_of target a ≡ j → constant_of target b ≡ k → is_folded target c ≡ true → is_folded target a ≡ true → is_folded target b ≡ true →
      folding_of target (Choose c a b) ≡ operation (chosen_constant i j k) true
  choice_is c a b i j k hc ha hb fc fa fb =
      folding_is target (Choose c a b) (one.Choose c a b) (rolls-Choose c a b)
      ∙ ap (λ (z : Bool). operation (chosen_constant (constant_of target c) (constant_of target a) (constant_of target b)) z) (two (is_folded target c) (is_folded target a && is_folded target b) fc (two (is_folded target a) (is_folded target b) fa fb))
      ∙ ap (λ (z : Constant). operation (chosen_constant z (constant_of target a) (constant_of target b)) true) hc
      ∙ ap (λ (z : Constant). operation (chosen_constant i z (constant_of target b)) true) ha
      ∙ ap (λ (z : Constant). operation (chosen_constant i j z) true) hb

  choice_constant : (c a b : Expr) → constant_at (out-Expr (Choose c a b)) ≡ NoConstant
  choice_constant c a b = constant_is target (Choose c a b) (one.Choose c a b) (rolls-Choose c a b)

  of_operands : (c x y : Operand) → Good c → Good x → Good y → folding_of target (Choose c.value x.value y.value) ≡ operation (chosen_constant (constancy c) (constancy x) (constancy y)) true
  of_operands c x y hc hx hy = choice_is c.value x.value y.value (constancy c) (constancy x) (constancy y) hc.constant hx.constant hy.constant hc.folded hx.folded hy.folded

  integers_chosen : (t : IntType) (c x y : Operand) → Good c → Good x → Good y → Good (chosen_integer t c x y)
  integers_chosen t c x y hc hx hy =
      operation_operand target t (chosen_constant (constancy c) (constancy x) (constancy y)) (Choose c.value x.value y.value) (of_operands c x y hc hx hy) (choice_constant c.value x.value y.value)

  -- ---- pointers

  -- a pointer's expression is none that is constant
  pub record IsPointed (e : Expr) : Type 0 where
    pub folded : is_folded target e ≡ true
    pub constant : constant_of target e ≡ NoConstant

  null_pointed : (t : ValueType) → IsPointed (null_of t)
  null_pointed t = record { folded = null_folded target t; constant = ap (λ (z : Folding). z.constant) (null_variable target (type_of_value t)).folding }

  pointed : (x : Operand) → Good x → is_pointer x.type ≡ true → IsPointed x.value
  pointed x h p = record { folded = h.folded; constant = h.constant ∙ h.no_pointer p }

  choice_variable : (c : Operand) (a b : Expr) → Good c → IsPointed a → IsPointed b → IsVariable target (Choose c.value a b)
  choice_variable c a b hc ha hb = record {
    folding = choice_is c.value a b (constancy c) NoConstant NoConstant hc.constant ha.constant hb.constant hc.folded ha.folded hb.folded ∙ ap (λ (z : Constant). operation z true) (none_chosen (constancy c));
    constant = choice_constant c.value a b;
  }

  pointer_by : (to_void : Bool) (c : Operand) (a b : Expr) (t : ValueType) (r : Operand) → Good c → IsPointed a → IsPointed b → chosen_pointer to_void c a b t ≡ Ok r → Good r
  pointer_by true c a b t r hc ha hb e = absurd (cc)
  pointer_by false c a b t r hc ha hb e = subst Good (ok_is e) (variable_operand target (Choose c.value a b) t (choice_variable c a b hc ha hb))

  third : (c x y r : Operand) → Good c → Good x → Good y → must (point_alike x.type y.type) rule.NoCommonType (chosen_pointer (is_to_void x.type) c x.value y.value (common_type target x.type y.type)) ≡ Ok r → Good r
  third c x y r hc hx hy e =
      let m = must_ok (point_alike x.type y.type) rule.NoCommonType (chosen_pointer (is_to_void x.type) c x.value y.value (common_type target x.type y.type)) r e in
      let p = alike_pointers x.type y.type m.0 in
      pointer_by (is_to_void x.type) c x.value y.value (common_type target x.type y.type) r hc (pointed x hx p.0) (pointed y hy p.1) m.1

  second : (c x y r : Operand) (b : Bool) → (is_pointer y.type && is_null_constant x) ≡ b → Good c → Good x → Good y →
      (if b then chosen_pointer (is_to_void y.type) c (null_of y.type) y.value y.type
      else must (point_alike x.type y.type) rule.NoCommonType (chosen_pointer (is_to_void x.type) c x.value y.value (common_type target x.type y.type))) ≡ Ok r → Good r
  second c x y r true k hc hx hy e = pointer_by (is_to_void y.type) c (null_of y.type) y.value y.type r hc (null_pointed y.type) (pointed y hy (both_first (is_pointer y.type) (is_null_constant x) k)) e
  second c x y r false k hc hx hy e = third c x y r hc hx hy e

  first : (c x y r : Operand) (b : Bool) → (is_pointer x.type && is_null_constant y) ≡ b → Good c → Good x → Good y →
      (if b then chosen_pointer (is_to_void x.type) c x.value (null_of x.type) x.type
      else (if is_pointer y.type && is_null_constant x then chosen_pointer (is_to_void y.type) c (null_of y.type) y.value y.type
      else must (point_alike x.type y.type) rule.NoCommonType (chosen_pointer (is_to_void x.type) c x.value y.value (common_type target x.type y.type)))) ≡ Ok r → Good r
  first c x y r true k hc hx hy e = pointer_by (is_to_void x.type) c x.value (null_of x.type) x.type r hc (pointed x hx (both_first (is_pointer x.type) (is_null_constant y) k)) (null_pointed x.type) e
  first c x y r false k hc hx hy e = second c x y r (is_pointer y.type && is_null_constant x) refl hc hx hy e

  pointers_folded : (c x y r : Operand) → Good c → Good x → Good y → pointers_chosen target c x y ≡ Ok r → Good r
  pointers_folded c x y r hc hx hy e = first c x y r (is_pointer x.type && is_null_constant y) refl hc hx hy e

  chosen_folded : (c x y : Operand) (v w : ValueType) (r : Operand) → Good c → Good x → Good y → chosen_by target c x y v w ≡ Ok r → Good r
  chosen_folded c x y (Integer i) (Integer j) r hc hx hy e =
      subst Good (ok_is e) (integers_chosen (usual_of i j target) c (converted_to target (usual_of i j target) x) (converted_to target (usual_of i j target) y) hc
      (converted_folded target (usual_of i j target) x hx) (converted_folded target (usual_of i j target) y hy))
  chosen_folded c x y (Integer i) NoValue r hc hx hy e = pointers_folded c x y r hc hx hy e
  chosen_folded c x y (Integer i) (ToObject d v t) r hc hx hy e = pointers_folded c x y r hc hx hy e
  chosen_folded c x y (Integer i) (ToFunction s) r hc hx hy e = pointers_folded c x y r hc hx hy e
  chosen_folded c x y NoValue w r hc hx hy e = pointers_folded c x y r hc hx hy e
  chosen_folded c x y (ToObject d v t) w r hc hx hy e = pointers_folded c x y r hc hx hy e
  chosen_folded c x y (ToFunction s) w r hc hx hy e = pointers_folded c x y r hc hx hy e

  -- ---- what has no value

  nothing_folded : (k : Constant) (arm : Operand) (e : Expr) → Good arm → folding_of target e ≡ operation k true → constant_at (out-Expr e) ≡ NoConstant → Good (nothing_by k arm e)
  nothing_folded NoConstant arm e h f k = record { folded = ap (λ (z : Folding). z.is_folded) f; constant = ap (λ (z : Folding). z.constant) f ∙ sym k; no_pointer = λ p. absurd (cc) }
  nothing_folded (Value n) arm e h f k = record { folded = h.folded; constant = h.constant; no_pointer = λ p. absurd (cc) }
  nothing_folded Traps arm e h f k = record { folded = ap (λ (z : Folding). z.is_folded) f; constant = ap (λ (z : Folding). z.constant) f; no_pointer = λ p. absurd (cc) }

  arm_by : (b : Bool) (x y : Operand) → Good x → Good y → Good (if b then x else y)
  arm_by true x y hx hy = hx
  arm_by false x y hx hy = hy

  arm_folded : (k : Constant) (x y : Operand) → Good x → Good y → Good (arm_chosen k x y)
  arm_folded NoConstant x y hx hy = hx
  arm_folded (Value n) x y hx hy = arm_by (is_true n) x y hx hy
  arm_folded Traps x y hx hy = hx

  nothings_folded : (c x y : Operand) → Good c → Good x → Good y → Good (nothing_chosen c x y)
  nothings_folded c x y hc hx hy =
      nothing_folded (chosen_constant (constancy c) (constancy x) (constancy y)) (arm_chosen (constancy c) x y) (Choose c.value x.value y.value) (arm_folded (constancy c) x y hx hy) (of_operands c x y hc hx hy) (choice_constant c.value x.value y.value)

  -- ---- the arms

  arms_second : (c x y r : Operand) (b : Bool) → Good c → Good x → Good y → (if b then Err rule.NoCommonType else chosen_by target c x y x.type y.type) ≡ Ok r → Good r
  arms_second c x y r true hc hx hy e = absurd (cc)
  arms_second c x y r false hc hx hy e = chosen_folded c x y x.type y.type r hc hx hy e

  arms_first : (c x y r : Operand) (b : Bool) → Good c → Good x → Good y →
      (if b then Ok (nothing_chosen c x y) else (if is_nothing x.type || is_nothing y.type then Err rule.NoCommonType else chosen_by target c x y x.type y.type)) ≡ Ok r → Good r
  arms_first c x y r true hc hx hy e = subst Good (ok_is e) (nothings_folded c x y hc hx hy)
  arms_first c x y r false hc hx hy e = arms_second c x y r (is_nothing x.type || is_nothing y.type) hc hx hy e

  pub choose_folded : (c x y r : Operand) → Good c → Good x → Good y → choose_of target c x y ≡ Ok r → Good r
  choose_folded c x y r hc hx hy e =
      let m = must_ok (is_scalar c.type) rule.NoScalar (no_structure x (no_structure y (arms_chosen target c x y))) r (value_ok c _ r e) in
      arms_first c x y r (is_nothing x.type && is_nothing y.type) hc hx hy (structure_ok y (arms_chosen target c x y) r (structure_ok x (no_structure y (arms_chosen target c x y)) r m.1))

  -- ---- the value of the first is not used

  pub comma_folded : (x y r : Operand) → Good x → Good y → comma_of x y ≡ Ok r → Good r
  comma_folded x y r h k e =
      subst Good (ok_is (structure_ok y (Ok (operand (Seq x.value y.value) y.type)) r (structure_ok x (no_structure y (Ok (operand (Seq x.value y.value) y.type))) r e)))
      (variable_operand target (Seq x.value y.value) y.type
      (variable_at target (Seq x.value y.value) (one.Seq x.value y.value) (rolls-Seq x.value y.value) refl (ap variable (two (is_folded target x.value) (is_folded target y.value) h.folded k.folded))))
