-- Casts and sizes are typed.
use Rattle.std.proofs.Common.{◌≡◌, ℕ, Bool, true, false, ◌&&◌, List, Option, Some, Ok, refl, ap, sym, ◌∙◌, subst}
use Rattle.std.specs.Prelude.{pos, if◌then◌else◌}
use Rattle.cc_program.specs.CcNum.declared.int_type.IntType.{IntType}
use Rattle.cc_program.specs.CcNum.Integers.{is_value_of}
use Rattle.cc_program.specs.declared.expr.Expr.{Qualify}
use Rattle.cc_program.specs.declared.types.CType.{CType}
use Rattle.cc_program.specs.declared.types.Shape.{Shape, out-Shape}
use Rattle.cc_program.specs.declared.types.Shape.TheOpen as shape
use Rattle.cc_program.specs.declared.types.Sig.{Sig}
use Rattle.cc_operands.specs.Operands.{Operand, operand, as_nothing, integer, constancy, size_type, is_null_constant}
use Rattle.cc_operands.specs.Qualified.{unqualified}
use Rattle.cc_operands.specs.Verdicts.{must}
use Rattle.cc_operands.specs.declared.rule.Rule.TheVariants as rule
use Rattle.cc_designators.specs.Casts.{void_pointer_cast, constant_cast, pointer_cast, integer_cast, cast_by, cast_of, size_value}
use Rattle.cc_designators.specs.Designators.{TypedExpr, IsValue, null}
use Rattle.cc_operands.specs.CcSyntax.Folding.{Constant, NoConstant, Value, Traps}
use Rattle.cc_operands.specs.CcSyntax.Operators.{when, is_unqualified, void_pointer_in, first_of, when_assignable}
use Rattle.cc_operands.specs.CcSyntax.Types.{Named}
use Rattle.cc_operands.specs.CcSyntax.Values.{ValueType, NoValue, Integer, ToObject, ToFunction, pointer_to, is_void, is_assignable}
use Rattle.cc_operand_types.specs.Typed.{stands, IsNullType, IsTypedOperand, Void, IsTypedExpr}
use Rattle.cc_operand_types.proofs.Agreement.{assigned_from}
use Rattle.cc_operand_types.proofs.Nulls.{points_something, null_operand}
use Rattle.cc_operand_types.proofs.Operands.{ok_is, must_ok, value_ok, structure_ok, value_of, any_type, integer_as, exact, as_operand, as_constant, cast_typed}
use Rattle.cc_operand_types.proofs.Rolls.{type-Qualify}
use Rattle.cc_operand_types.proofs.Stores.{assignable_there}
use Rattle.cc_operands.specs.CcSyntax.Views.{View}
use Rattle.cc_operands.specs.CcSyntax.Expressions.{pointer_type, null_type}

first_pointer : (q w u : Bool) (t : ValueType) (rest : Option ValueType) (r : ValueType) → w ≡ false → first_of (when (q && (w && u)) t) rest ≡ Some r → rest ≡ Some r
first_pointer true true u t rest r e h = absurd (cc)
first_pointer true false u t rest r e h = h
first_pointer false w u t rest r e h = h

abbrev pointed : CType → shape.Shape-F Shape CType Sig
pointed t = shape.Pointer t

pointer_same : (t u : CType) → pointed t ≡ pointed u → t ≡ u
pointer_same t u h = cc

abbrev stands_to : View → CType → Type 0
stands_to p to = stands p (pointer_to to) ≡ true

module _ (p : View) (locals : List Named) where
  abbrev Typed : Operand → Type 0
  Typed x = IsTypedOperand p locals x

  abbrev Designates : TypedExpr → Type 0
  Designates a = IsTypedExpr p locals a

  -- a pointer that gets more qualifiers, which is none to void
  pointer_typed : (t to : CType) → out-Shape t.shape ≡ shape.Pointer to → is_void to ≡ false → null_type p t ≡ Some (pointer_to to) → pointer_type p t ≡ Some (pointer_to to)
  pointer_typed t to e n h =
      first_pointer (is_unqualified t) (is_void to) (is_unqualified to) (pointer_to to) (pointer_type p t) (pointer_to to) n
      (sym (ap (λ (x : shape.Shape-F Shape CType Sig). first_of (void_pointer_in (is_unqualified t) x) (pointer_type p t)) e) ∙ h)

  integer_typed : (i : IntType) (x : Operand) (a : ValueType) (r : TypedExpr) → Typed x → x.type ≡ a → integer_cast p.target i x a ≡ Ok r → Designates r
  integer_typed i x (Integer s) r hx e h = subst Designates (ok_is h) (cast_typed p locals i s x (integer_as p locals x s hx e)).operand
  integer_typed i x NoValue r hx e h = absurd (cc)
  integer_typed i x (ToObject c v t) r hx e h = absurd (cc)
  integer_typed i x (ToFunction s) r hx e h = absurd (cc)

  constant_typed : (at : ℕ) (t : CType) (c : Constant) (r : TypedExpr) → IsNullType p t → constant_cast at t c ≡ Ok r → Designates r
  constant_typed at t NoConstant r n h = absurd (cc)
  constant_typed at t (Value k) r n h = subst Designates (ok_is h) n
  constant_typed at t Traps r n h = absurd (cc)

  qualify_typed : (t to : CType) (x : Operand) → IsNullType p t → out-Shape t.shape ≡ shape.Pointer to → null_type p t ≡ Some (pointer_to to) → stands_to p to → is_void to ≡ false → Typed x → is_assignable (pointer_to to) x.type ≡ true →
      Typed (operand (Qualify t x.value) (pointer_to to))
  qualify_typed t to x n e f s w hx h =
      let v = value_of p locals x hx (assignable_there (pointer_to to) x.type h) in
      as_operand p locals (Qualify t x.value) (pointer_to to) (points_something to)
      (exact p locals (Qualify t x.value) (pointer_to to) (type-Qualify p locals t x.value v.own (Some (pointer_to to)) v.typed
      (ap (λ (o : Option ValueType). when_assignable o v.own) (pointer_typed t to e w f)
      ∙ ap (λ (b : Bool). when b (pointer_to to)) (assigned_from (pointer_to to) v.own x.type v.agrees h))) s)

  qualified_by : (t to : CType) (x : Operand) (b : Bool) (r : TypedExpr) → IsNullType p t → out-Shape t.shape ≡ shape.Pointer to → null_type p t ≡ Some (pointer_to to) → stands_to p to → is_void to ≡ false → Typed x →
      (if b then Ok (IsValue (null t)) else must (is_assignable (pointer_to to) x.type) rule.Cast (Ok (IsValue (operand (Qualify t x.value) (pointer_to to))))) ≡ Ok r → Designates r
  qualified_by t to x true r n e f s w hx h = subst Designates (ok_is h) (null_operand p locals t n)
  qualified_by t to x false r n e f s w hx h =
      let m = must_ok (is_assignable (pointer_to to) x.type) rule.Cast (Ok (IsValue (operand (Qualify t x.value) (pointer_to to)))) r h in
      subst Designates (ok_is m.1) (qualify_typed t to x n e f s w hx m.0)

  pointer_by : (at : ℕ) (t to : CType) (x : Operand) (a : ValueType) (r : TypedExpr) → IsNullType p t → out-Shape t.shape ≡ shape.Pointer to → null_type p t ≡ Some (pointer_to to) → stands_to p to → is_void to ≡ false → Typed x →
      pointer_cast at t to x a ≡ Ok r → Designates r
  pointer_by at t to x (Integer i) r n e f s w hx h = constant_typed at t (constancy x) r n h
  pointer_by at t to x NoValue r n e f s w hx h = qualified_by t to x (is_null_constant x) r n e f s w hx h
  pointer_by at t to x (ToObject c v u) r n e f s w hx h = qualified_by t to x (is_null_constant x) r n e f s w hx h
  pointer_by at t to x (ToFunction u) r n e f s w hx h = qualified_by t to x (is_null_constant x) r n e f s w hx h

  to_pointer : (at : ℕ) (t to : CType) (x : Operand) (w : Bool) (r : TypedExpr) → IsNullType p t → out-Shape t.shape ≡ shape.Pointer to → null_type p t ≡ Some (pointer_to to) → stands_to p to → is_void to ≡ w → Typed x →
      (if w then void_pointer_cast t x else pointer_cast at t to x x.type) ≡ Ok r → Designates r
  to_pointer at t to x true r n e f s w hx h =
      let m = must_ok (is_null_constant x) rule.PointerToVoid (Ok (IsValue (null t))) r h in
      subst Designates (ok_is m.1) (null_operand p locals t n)
  to_pointer at t to x false r n e f s w hx h = pointer_by at t to x x.type r n e f s w hx h

  cast_by_typed : (at : ℕ) (t : CType) (x : Operand) (y : shape.Shape-F Shape CType Sig) (r : TypedExpr) → out-Shape t.shape ≡ y → ((to : CType) → y ≡ shape.Pointer to → IsNullType p t) → Typed x → cast_by p.target at t x y ≡ Ok r → Designates r
  cast_by_typed at t x shape.Void r e n hx h =
      let s = structure_ok x (Ok (IsValue (as_nothing x))) r h in
      let u = any_type p locals x hx s.0 in
      subst Designates (ok_is s.1) (Void (as_nothing x) u.0 refl refl u.1)
  cast_by_typed at t x (shape.Int i) r e n hx h = integer_typed i x x.type r hx refl (value_ok x _ r h).1
  cast_by_typed at t x (shape.Pointer to) r e n hx h =
      let k = n to refl in
      let same : k.to ≡ to = pointer_same k.to to (sym k.pointer ∙ e) in
      to_pointer at t to x (is_void to) r k e (k.typed ∙ ap (λ (u : CType). Some (pointer_to u)) same) (subst (λ (u : CType). stands_to p u) same k.standing) refl hx (value_ok x _ r h).1
  cast_by_typed at t x (shape.Array of m) r e n hx h = absurd (cc)
  cast_by_typed at t x (shape.Struct i) r e n hx h = absurd (cc)
  cast_by_typed at t x (shape.Func s) r e n hx h = absurd (cc)

  pub cast_of_typed : (at : ℕ) (t : CType) (x : Operand) (r : TypedExpr) → ((to : CType) → out-Shape t.shape ≡ shape.Pointer to → IsNullType p (unqualified t)) → Typed x → cast_of p.target at t x ≡ Ok r → Designates r
  cast_of_typed at t x r n hx h = cast_by_typed at (unqualified t) x (out-Shape t.shape) r refl n hx h

  pub size_typed : (n : ℕ) (r : Operand) → size_value p.target n ≡ Ok r → Typed r
  size_typed n r h =
      let m = must_ok (is_value_of (size_type p.target) p.target (pos n)) rule.SizeOf (Ok (integer (pos n) (size_type p.target))) r h in
      subst Typed (ok_is m.1) (as_constant p locals (pos n) (size_type p.target) m.0)
