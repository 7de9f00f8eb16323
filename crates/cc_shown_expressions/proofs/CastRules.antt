-- What casts make of operands that have the types that a program asks for.
use Rattle.std.proofs.Common.{◌≡◌, ℕ, Bool, true, false, Ok, refl, ap, ◌∙◌}
use Rattle.std.specs.Prelude.{ℤ, if◌then◌else◌}
use Rattle.cc_terms.specs.CcDesignators.Casts.{void_pointer_cast, constant_cast, qualified_cast, pointer_cast, integer_cast, cast_by, cast_of}
use Rattle.cc_terms.specs.CcDesignators.Designators.{IsValue, IsAddress, null}
use Rattle.cc_program.specs.CcNum.declared.int_type.IntType.{IntType}
use Rattle.cc_program.specs.CcNum.declared.target.Target.{Target}
use Rattle.cc_terms.specs.CcOperands.Operands.{Operand, operand, constancy, cast_to, is_pointer, is_null_constant}
use Rattle.cc_terms.specs.CcOperands.Qualified.{unqualified}
use Rattle.cc_terms.specs.CcOperands.Verdicts.{must}
use Rattle.cc_terms.specs.CcOperands.declared.rule.Rule.TheVariants as rule
use Rattle.cc_program.specs.declared.expr.Expr.{Qualify}
use Rattle.cc_program.specs.declared.types.CType.{CType}
use Rattle.cc_program.specs.declared.types.Shape.{out-Shape}
use Rattle.cc_program.specs.declared.types.Shape.TheOpen as shape
use Rattle.cc_terms.specs.CcSyntax.Folding.{Value}
use Rattle.cc_terms.specs.CcSyntax.Values.{ValueType, NoValue, Integer, ToObject, ToFunction, is_scalar, is_void, pointer_to, is_assignable}
use Rattle.cc_shown_expressions.proofs.ChoiceRules.{pointer-scalar}
use Rattle.cc_shown_expressions.proofs.Rules.{with-scalar}

module _ (target : Target) where
  pub integer-cast : (at : ℕ) (t : CType) (i s : IntType) (x : Operand) → out-Shape t.shape ≡ shape.Int i → x.type ≡ Integer s → cast_of target at t x ≡ Ok (IsValue (cast_to target i x))
  integer-cast at t i s x e f = ap (cast_by target at (unqualified t) x) e ∙ with-scalar x _ (ap is_scalar f) ∙ ap (integer_cast target i x) f

  pointer-is : (at : ℕ) (t to : CType) (x : Operand) → out-Shape t.shape ≡ shape.Pointer to → is_scalar x.type ≡ true → cast_of target at t x ≡ (if is_void to then void_pointer_cast (unqualified t) x else pointer_cast at (unqualified t) to x x.type)
  pointer-is at t to x e h = ap (cast_by target at (unqualified t) x) e ∙ with-scalar x _ h

  object-is : (at : ℕ) (t to : CType) (x : Operand) → out-Shape t.shape ≡ shape.Pointer to → is_void to ≡ false → is_scalar x.type ≡ true → cast_of target at t x ≡ pointer_cast at (unqualified t) to x x.type
  object-is at t to x e v h = pointer-is at t to x e h ∙ ap (λ (b : Bool). if b then void_pointer_cast (unqualified t) x else pointer_cast at (unqualified t) to x x.type) v

  -- an integer constant
  pub constant-pointer : (at : ℕ) (t to : CType) (n : ℤ) (s : IntType) (x : Operand) → out-Shape t.shape ≡ shape.Pointer to → is_void to ≡ false → x.type ≡ Integer s → constancy x ≡ Value n → cast_of target at t x ≡ Ok (IsAddress n (unqualified t) at)
  constant-pointer at t to n s x e v f c = object-is at t to x e v (ap is_scalar f) ∙ ap (pointer_cast at (unqualified t) to x) f ∙ ap (constant_cast at (unqualified t)) c

  -- a null constant, to `void *`
  pub void-pointer : (at : ℕ) (t to : CType) (x : Operand) → out-Shape t.shape ≡ shape.Pointer to → is_void to ≡ true → is_scalar x.type ≡ true → is_null_constant x ≡ true → cast_of target at t x ≡ Ok (IsValue (null (unqualified t)))
  void-pointer at t to x e v h n =
      pointer-is at t to x e h ∙ ap (λ (b : Bool). if b then void_pointer_cast (unqualified t) x else pointer_cast at (unqualified t) to x x.type) v
      ∙ ap (λ (b : Bool). must b rule.PointerToVoid (Ok (IsValue (null (unqualified t))))) n

  pointer-by : (at : ℕ) (t to : CType) (x : Operand) (v : ValueType) → is_pointer v ≡ true → pointer_cast at t to x v ≡ qualified_cast t to x
  pointer-by at t to x NoValue h = absurd (cc)
  pointer-by at t to x (Integer i) h = absurd (cc)
  pointer-by at t to x (ToObject c v u) h = refl
  pointer-by at t to x (ToFunction s) h = refl

  -- `void *` that is null, to another pointer type
  pub null-pointer : (at : ℕ) (t to : CType) (x : Operand) → out-Shape t.shape ≡ shape.Pointer to → is_void to ≡ false → is_pointer x.type ≡ true → is_null_constant x ≡ true → cast_of target at t x ≡ Ok (IsValue (null (unqualified t)))
  null-pointer at t to x e v h n =
      object-is at t to x e v (pointer-scalar x.type h) ∙ pointer-by at (unqualified t) to x x.type h
      ∙ ap (λ (b : Bool). if b then Ok (IsValue (null (unqualified t))) else must (is_assignable (pointer_to to) x.type) rule.Cast (Ok (IsValue (operand (Qualify (unqualified t) x.value) (pointer_to to))))) n

  -- a pointer to the same type
  pub qualified-pointer : (at : ℕ) (t to : CType) (x : Operand) → out-Shape t.shape ≡ shape.Pointer to → is_void to ≡ false → is_pointer x.type ≡ true → is_null_constant x ≡ false → is_assignable (pointer_to to) x.type ≡ true →
      cast_of target at t x ≡ Ok (IsValue (operand (Qualify (unqualified t) x.value) (pointer_to to)))
  qualified-pointer at t to x e v h n a =
      object-is at t to x e v (pointer-scalar x.type h) ∙ pointer-by at (unqualified t) to x x.type h
      ∙ ap (λ (b : Bool). if b then Ok (IsValue (null (unqualified t))) else must (is_assignable (pointer_to to) x.type) rule.Cast (Ok (IsValue (operand (Qualify (unqualified t) x.value) (pointer_to to))))) n
      ∙ ap (λ (b : Bool). must b rule.Cast (Ok (IsValue (operand (Qualify (unqualified t) x.value) (pointer_to to))))) a
