-- Calls of intrinsics are typed.
use Rattle.std.proofs.Common.{◌≡◌, Bool, true, false, ◌&&◌, List, [], ◌∷◌, map, Option, Some, None, Ok, refl, ap, sym, ◌∙◌}
use Rattle.std.specs.Prelude.{length, if◌then◌else◌}
use Rattle.std.specs.List.{list_all}
use Rattle.cc_program.specs.CcNum.declared.int_type.IntType.TheVariants as int
use Rattle.cc_program.specs.declared.expr.Expr.{Expr, Intr}
use Rattle.cc_program.specs.declared.expr.Expr.TheOpen as one
use Rattle.cc_program.specs.declared.expr.Expr.TheVariants.{rolls-Intr}
use Rattle.cc_program.specs.declared.expr.Intr.{Intr as Intrinsic}
use Rattle.cc_program.specs.declared.expr.Intr.TheVariants as intr
use Rattle.cc_program.specs.declared.types.CType.{CType}
use Rattle.cc_program.specs.declared.types.Shape.{Shape, Void}
use Rattle.cc_program.specs.declared.types.Shape.TheVariants.{outs-Void, outs-Int}
use Rattle.cc_program.specs.declared.types.Shape.TheOpen as shape
use Rattle.cc_program.specs.declared.types.Sig.{Sig, out-Sig, out-roll-Sig}
use Rattle.cc_operands.specs.Operands.{Operand}
use Rattle.cc_operands.specs.Qualified.{plain}
use Rattle.cc_designators.specs.Calls.{signature, byte_type, first_or_none, called_with, intrinsic}
use Rattle.cc_operands.specs.CcSyntax.Kinds.{is_result, is_plain_scalar, kind_of, is_sig}
use Rattle.cc_operands.specs.CcSyntax.Operators.{when, is_of, intrinsic_type}
use Rattle.cc_operands.specs.CcSyntax.SameTypes.{is_void_shape}
use Rattle.cc_operands.specs.CcSyntax.Types.{Named}
use Rattle.cc_operands.specs.CcSyntax.Values.{ValueType, NoValue, Integer, scalar_shape, scalar_value, result_value, is_assignable_some, are_assignable}
use Rattle.cc_operands.proofs.CcSyntax.Prefixes.{both_true}
use Rattle.cc_program.proofs.Each.{Each}
use Rattle.cc_operand_types.specs.Typed.{IsTypedOperand}
use Rattle.cc_operands.proofs.CcSyntax.AlikeLemmas.{integer_as}
use Rattle.cc_operand_types.proofs.Calls.{with_typed}
use Rattle.cc_operand_types.proofs.Requalified.{kind_at}
use Rattle.cc_operand_types.proofs.Rolls.{expr-roll}
use Rattle.cc_operands.proofs.CcSyntax.SameLemmas.{int_itself, and_true}
use Rattle.cc_operand_types.proofs.Standing.{sig-opens}
use Rattle.cc_operands.specs.CcSyntax.Views.{View, kind_in}
use Rattle.cc_operands.specs.CcSyntax.Expressions.{type_of}

void_result : result_value (plain Void) ≡ Some NoValue
void_result = ap (λ (x : shape.Shape-F Shape CType Sig). if is_void_shape x then Some NoValue else scalar_shape x) outs-Void

byte_result : result_value byte_type ≡ Some (Integer int.UChar)
byte_result = ap (λ (x : shape.Shape-F Shape CType Sig). if is_void_shape x then Some NoValue else scalar_shape x) (outs-Int int.UChar)

byte_value : scalar_value byte_type ≡ Some (Integer int.UChar)
byte_value = ap scalar_shape (outs-Int int.UChar)

module _ (p : View) (locals : List Named) where
  abbrev Typed : Operand → Type 0
  Typed x = IsTypedOperand p locals x

  abbrev types : List Expr → List (Option ValueType)
  types args = map (type_of p locals) args

  type-alone : (i : Intrinsic) → type_of p locals (Intr i None) ≡ intrinsic_type i None
  type-alone i = expr-roll p locals (Intr i None) (one.Intr i None) (rolls-Intr i None)

  type-given : (i : Intrinsic) (x : Expr) → type_of p locals (Intr i (Some x)) ≡ intrinsic_type i (Some (type_of p locals x))
  type-given i x = expr-roll p locals (Intr i (Some x)) (one.Intr i (Some x)) (rolls-Intr i (Some x))

  signature_is : (result : CType) (params : List CType) → is_result (kind_in p result) ≡ true → list_all is_plain_scalar (map (kind_of p.target p.extents) params) ≡ true →
      is_sig p.target p.extents (signature result params) ≡ true
  signature_is result params h k =
      sig-opens p (signature result params)
      ∙ ap (λ (s : shape.Sig-F Shape CType Sig). is_result (kind_in p s.result) && list_all is_plain_scalar (map (kind_of p.target p.extents) s.params)) (out-roll-Sig (record { result = result; params = params }))
      ∙ and_true (is_result (kind_in p result)) (list_all is_plain_scalar (map (kind_of p.target p.extents) params)) h k

  void_is : is_result (kind_in p (plain Void)) ≡ true
  void_is = ap is_result (kind_at p (plain Void) shape.Void outs-Void)

  byte_is : is_result (kind_in p byte_type) ≡ true
  byte_is = ap is_result (kind_at p byte_type (shape.Int int.UChar) (outs-Int int.UChar))

  byte_plain : list_all is_plain_scalar (map (kind_of p.target p.extents) (byte_type ∷ [])) ≡ true
  byte_plain = and_true (is_plain_scalar (kind_in p byte_type)) true (ap is_plain_scalar (kind_at p byte_type (shape.Int int.UChar) (outs-Int int.UChar))) refl

  -- ---- arguments

  silent : (i : Intrinsic) (t : ValueType) → intrinsic_type i None ≡ Some t → (args : List Expr) → are_assignable [] (types args) ≡ true → type_of p locals (Intr i (first_or_none args)) ≡ Some t
  silent i t e [] h = type-alone i ∙ e
  silent i t e (x ∷ xs) h = absurd (cc)

  byte_one : (x : Expr) (o : Option ValueType) → type_of p locals x ≡ o → is_assignable_some (Some (Integer int.UChar)) o ≡ true → type_of p locals (Intr intr.Restore (Some x)) ≡ Some NoValue
  byte_one x None e h = absurd (cc)
  byte_one x (Some u) e h =
      type-given intr.Restore x ∙ ap (λ (o : Option ValueType). intrinsic_type intr.Restore (Some o)) e
      ∙ ap (λ (t : ValueType). when (is_of int.UChar t) NoValue) (integer_as int.UChar u h) ∙ ap (λ (b : Bool). when b NoValue) (int_itself int.UChar)

  restored : (args : List Expr) → are_assignable (byte_type ∷ []) (types args) ≡ true → type_of p locals (Intr intr.Restore (first_or_none args)) ≡ Some NoValue
  restored [] h = absurd (cc)
  restored (x ∷ []) h =
      byte_one x (type_of p locals x) refl
      (sym (ap (λ (o : Option ValueType). is_assignable_some o (type_of p locals x)) byte_value) ∙ (both_true (is_assignable_some (scalar_value byte_type) (type_of p locals x)) true h).0)
  restored (x ∷ y ∷ ys) h = let c : false ≡ true = (both_true (is_assignable_some (scalar_value byte_type) (type_of p locals x)) false h).1 in absurd (cc)

  signed : (i : Intrinsic) (result : CType) (params : List CType) (t : ValueType) → is_sig p.target p.extents (signature result params) ≡ true →
      ((args : List Expr) → are_assignable params (types args) ≡ true → type_of p locals (Intr i (first_or_none args)) ≡ Some t) → result_value result ≡ Some t →
      (xs : List Operand) (r : Operand) → Each Typed xs → called_with p.target (λ args. Intr i (first_or_none args)) (signature result params) xs ≡ Ok r → Typed r
  signed i result params t s k v xs r hx h =
      let o : out-Sig (signature result params) ≡ record { result = result; params = params } = out-roll-Sig (record { result = result; params = params }) in
      with_typed p locals (λ args. Intr i (first_or_none args)) (signature result params) xs r s hx
      (λ args a. k args (sym (ap (λ (z : shape.Sig-F Shape CType Sig). are_assignable z.params (types args)) o) ∙ a) ∙ sym (ap (λ (z : shape.Sig-F Shape CType Sig). result_value z.result) o ∙ v)) h

  pub intrinsic_typed : (i : Intrinsic) (xs : List Operand) (r : Operand) → Each Typed xs → intrinsic p.target i xs ≡ Ok r → Typed r
  intrinsic_typed intr.Off xs r hx h = signed intr.Off (plain Void) [] NoValue (signature_is (plain Void) [] void_is refl) (silent intr.Off NoValue refl) void_result xs r hx h
  intrinsic_typed intr.On xs r hx h = signed intr.On (plain Void) [] NoValue (signature_is (plain Void) [] void_is refl) (silent intr.On NoValue refl) void_result xs r hx h
  intrinsic_typed intr.Save xs r hx h = signed intr.Save byte_type [] (Integer int.UChar) (signature_is byte_type [] byte_is refl) (silent intr.Save (Integer int.UChar) refl) byte_result xs r hx h
  intrinsic_typed intr.Restore xs r hx h = signed intr.Restore (plain Void) (byte_type ∷ []) NoValue (signature_is (plain Void) (byte_type ∷ []) void_is byte_plain) restored void_result xs r hx h
