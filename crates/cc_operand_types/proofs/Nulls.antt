-- A null of a pointer's type has a type that agrees with it, where the type stands.
use Rattle.std.proofs.Common.{◌≡◌, Bool, true, false, not, ◌&&◌, ◌||◌, List, length, Some, refl, ap, sym, ◌∙◌, subst}
use Rattle.cc_program.specs.Qualifiers.{of_element, is_const, is_volatile}
use Rattle.cc_program.specs.declared.expr.Expr.{Null}
use Rattle.cc_program.specs.declared.types.CType.{CType}
use Rattle.cc_program.specs.declared.types.Shape.{Shape, Pointer, Func, out-Shape}
use Rattle.cc_program.specs.declared.types.Shape.TheVariants.{outs-Pointer, outs-Func}
use Rattle.cc_program.specs.declared.types.Shape.TheOpen as shape
use Rattle.cc_program.specs.declared.types.Sig.{Sig}
use Rattle.cc_program.proofs.QualifierLemmas.{const-opens, volatile-opens, parts_const, parts_volatile}
use Rattle.cc_operands.specs.Operands.{is_pointer, is_nothing, null_of}
use Rattle.cc_operands.specs.Qualified.{plain, qualified_as}
use Rattle.cc_designators.specs.Designators.{pointed_in, null}
use Rattle.cc_operands.specs.CcSyntax.Kinds.{Kind, is_plain_scalar, shape_kind, qualified_kind, is_sig}
use Rattle.cc_operands.specs.CcSyntax.Operators.{when, is_unqualified, pointer_in, void_pointer_in, first_of}
use Rattle.cc_operands.specs.CcSyntax.SameTypes.{is_void_shape}
use Rattle.cc_operands.specs.CcSyntax.Types.{Named}
use Rattle.cc_operands.specs.CcSyntax.Values.{ValueType, NoValue, Integer, ToObject, ToFunction, pointer_shape, pointer_to, is_void}
use Rattle.cc_operand_types.specs.Typed.{Pointers, is_pointed_kind, stands, IsNullType, HasType, IsTypedOperand}
use Rattle.cc_operands.proofs.CcSyntax.AlikeLemmas.{tested, alike_mirrored}
use Rattle.cc_operand_types.proofs.Operands.{exact, as_operand}
use Rattle.cc_operand_types.proofs.Requalified.{kind_at, Requalified, requalifies, there, widened, not_void, pointer_plain, function_plain}
use Rattle.cc_operand_types.proofs.Rolls.{type-Null}
use Rattle.cc_operands.specs.CcSyntax.Views.{View, kind_in}
use Rattle.cc_operands.specs.CcSyntax.Expressions.{null_type}

abbrev pub is_func : shape.Shape-F Shape CType Sig → Bool
is_func (shape.Func s) = true
is_func shape.Void = false
is_func (shape.Int t) = false
is_func (shape.Pointer t) = false
is_func (shape.Array of n) = false
is_func (shape.Struct s) = false

pub to_object : (t : CType) (x : shape.Shape-F Shape CType Sig) → is_func x ≡ false → pointer_shape t x ≡ ToObject (is_const t) (is_volatile t) t
to_object t shape.Void h = refl
to_object t (shape.Int i) h = refl
to_object t (shape.Pointer to) h = refl
to_object t (shape.Array of n) h = refl
to_object t (shape.Struct s) h = refl
to_object t (shape.Func s) h = absurd (cc)

void_there : (x : shape.Shape-F Shape CType Sig) → is_void_shape x ≡ true → x ≡ shape.Void
void_there shape.Void h = refl
void_there (shape.Int t) h = absurd (cc)
void_there (shape.Pointer t) h = absurd (cc)
void_there (shape.Array t n) h = absurd (cc)
void_there (shape.Struct i) h = absurd (cc)
void_there (shape.Func s) h = absurd (cc)

or_false : (b : Bool) → (b || false) ≡ b
or_false true = refl
or_false false = refl

no_nothing : (t : CType) (x : shape.Shape-F Shape CType Sig) → is_nothing (pointer_shape t x) ≡ false
no_nothing t shape.Void = refl
no_nothing t (shape.Int i) = refl
no_nothing t (shape.Pointer to) = refl
no_nothing t (shape.Array of n) = refl
no_nothing t (shape.Struct i) = refl
no_nothing t (shape.Func s) = refl

pub points_something : (t : CType) → is_nothing (pointer_to t) ≡ false
points_something t = no_nothing t (out-Shape t.shape)

null_by : (b s : Bool) (u : CType) → (b ≡ false → s ≡ true) → first_of (when b (pointer_to u)) (when s (pointer_to u)) ≡ Some (pointer_to u)
null_by true s u h = refl
null_by false s u h = rw (h refl) refl

module _ (p : View) where
  void_plain : (to : CType) → out-Shape to.shape ≡ shape.Void → is_pointed_kind (not (is_const to || is_volatile to)) (kind_in p to) ≡ true → is_unqualified to ≡ true
  void_plain to e h =
      let c : is_const to ≡ to.constant = const-opens to ∙ ap (λ y. to.constant || of_element (parts_const y)) e ∙ or_false to.constant in
      let v : is_volatile to ≡ to.volatile = volatile-opens to ∙ ap (λ y. to.volatile || of_element (parts_volatile y)) e ∙ or_false to.volatile in
      let k : is_pointed_kind (not (is_const to || is_volatile to)) (kind_in p to) ≡ not (is_const to || is_volatile to) = ap (λ z. is_pointed_kind (not (is_const to || is_volatile to)) z) (kind_at p to shape.Void e) in
      let q : is_unqualified to ≡ not (is_const to || is_volatile to) = ap (λ (b : Bool). not (b || to.volatile)) (sym c) ∙ ap (λ (b : Bool). not (is_const to || b)) (sym v) in
      q ∙ sym k ∙ h

  no_void : (u : CType) (w : Bool) → is_void u ≡ w → is_pointed_kind (not (is_const u || is_volatile u)) (kind_in p u) ≡ true → is_void u && is_unqualified u ≡ false → is_pointed_kind false (kind_in p u) ≡ true
  no_void u true e h f =
      let c : true ≡ false = sym (ap (λ (b : Bool). b && is_unqualified u) e ∙ void_plain u (void_there (out-Shape u.shape) e) h) ∙ f in absurd (cc)
  no_void u false e h f = not_void p (not (is_const u || is_volatile u)) u e h

  abbrev pointer : CType → CType
  pointer u = plain (Pointer u)

  null_opened : (u : CType) → null_type p (pointer u) ≡ first_of (when (is_void u && is_unqualified u) (pointer_to u)) (when (is_plain_scalar (kind_in p (pointer u))) (pointer_to u))
  null_opened u = ap (λ (x : shape.Shape-F Shape CType Sig). first_of (void_pointer_in true x) (pointer_in (is_plain_scalar (kind_in p (pointer u))) x)) (outs-Pointer u)

  -- the type of a null that points to an object
  pub object_null : (u : CType) → is_pointed_kind (not (is_const u || is_volatile u)) (kind_in p u) ≡ true → null_type p (pointer u) ≡ Some (pointer_to u)
  object_null u h =
      null_opened u
      ∙ null_by (is_void u && is_unqualified u) (is_plain_scalar (kind_in p (pointer u))) u
      (λ e. ap is_plain_scalar (kind_at p (pointer u) (shape.Pointer u) (outs-Pointer u)) ∙ pointer_plain p (kind_in p u) (no_void u (is_void u) refl h e))

  pub function_null : (sig : Sig) → is_sig p.target p.extents sig ≡ true → null_type p (pointer (plain (Func sig))) ≡ Some (pointer_to (plain (Func sig)))
  function_null sig h =
      null_opened (plain (Func sig))
      ∙ null_by (is_void (plain (Func sig)) && is_unqualified (plain (Func sig))) (is_plain_scalar (kind_in p (pointer (plain (Func sig))))) (plain (Func sig))
      (λ e. ap is_plain_scalar (kind_at p (pointer (plain (Func sig))) (shape.Pointer (plain (Func sig))) (outs-Pointer (plain (Func sig))))
      ∙ function_plain p (kind_in p (plain (Func sig))) sig (kind_at p (plain (Func sig)) (shape.Func sig) (outs-Func sig)) h)

  -- ---- what is pointed to is no function

  func_by : (q good : Bool) (b : Bool) → is_pointed_kind b (qualified_kind q (shape_kind p.target p.extents (shape.Func good))) ≡ true → ⊥
  func_by true true b h = absurd (cc)
  func_by true false b h = absurd (cc)
  func_by false true b h = absurd (cc)
  func_by false false b h = absurd (cc)

  pub no_func : (u : CType) (b : Bool) (x : shape.Shape-F Shape CType Sig) → out-Shape u.shape ≡ x → is_pointed_kind b (kind_in p u) ≡ true → is_func x ≡ false
  no_func u b shape.Void e h = refl
  no_func u b (shape.Int t) e h = refl
  no_func u b (shape.Pointer t) e h = refl
  no_func u b (shape.Array of n) e h = refl
  no_func u b (shape.Struct i) e h = refl
  no_func u b (shape.Func s) e h =
      absurd (func_by (u.constant || u.volatile) (is_sig p.target p.extents s) b (sym (ap (is_pointed_kind b) (kind_at p u (shape.Func s) e)) ∙ h))

  -- ---- the null of a type

  module _ (locals : List Named) where
    object_by : (c v : Bool) (t : CType) (k : Kind) → kind_in p t ≡ Some k → is_pointed_kind (not (c || v)) (Some k) ≡ true → Requalified p c v t k (qualified_as c v t) → HasType p locals (null_of (ToObject c v t)) (ToObject c v t)
    object_by c v t k e h r =
        let u : CType = qualified_as c v t in
        let q : (c || v) ≡ (is_const u || is_volatile u) = ap (λ (b : Bool). b || v) (sym r.const) ∙ ap (λ (b : Bool). is_const u || b) (sym r.volat) in
        let pointed : is_pointed_kind (not (is_const u || is_volatile u)) (kind_in p u) ≡ true =
        ap (λ (b : Bool). is_pointed_kind (not b) (kind_in p u)) (sym q) ∙ ap (is_pointed_kind (not (c || v))) r.is ∙ r.pointed (not (c || v)) ∙ h in
        let points : pointer_to u ≡ ToObject c v u =
        to_object u (out-Shape u.shape) (no_func u (not (is_const u || is_volatile u)) (out-Shape u.shape) refl pointed) ∙ ap (λ (b : Bool). ToObject b (is_volatile u) u) r.const ∙ ap (λ (b : Bool). ToObject c b u) r.volat in
        record {
          own = ToObject c v u;
          typed = type-Null p locals (pointer u) ∙ object_null u pointed ∙ ap Some points;
          agrees = Pointers c v u t (alike_mirrored t u (tested t u r.alike));
          standing = ap (is_pointed_kind (not (c || v))) e ∙ h;
        }

    pub null_typed : (t : ValueType) → is_pointer t ≡ true → stands p t ≡ true → HasType p locals (null_of t) t
    null_typed NoValue h s = absurd (cc)
    null_typed (Integer i) h s = absurd (cc)
    null_typed (ToObject c v t) h s =
        let k = there p (not (c || v)) (kind_in p t) s in
        let g : is_pointed_kind (not (c || v)) (Some k.0) ≡ true = sym (ap (is_pointed_kind (not (c || v))) k.1) ∙ s in
        object_by c v t k.0 k.1 g (requalifies p t c v k.0 k.1 (widened p (not (c || v)) k.0 g))
    null_typed (ToFunction sig) h s =
        exact p locals (null_of (ToFunction sig)) (ToFunction sig)
        (type-Null p locals (pointer (plain (Func sig))) ∙ function_null sig s ∙ ap Some (ap (pointer_shape (plain (Func sig))) (outs-Func sig))) s

    pointed_is : (t : CType) (to : CType) → out-Shape t.shape ≡ shape.Pointer to → pointed_in (out-Shape t.shape) ≡ pointer_to to
    pointed_is t to e = ap pointed_in e

    pub null_operand : (t : CType) → IsNullType p t → IsTypedOperand p locals (null t)
    null_operand t h =
        let e = pointed_is t h.to h.pointer in
        as_operand p locals (Null t) (pointed_in (out-Shape t.shape)) (ap is_nothing e ∙ points_something h.to)
        (subst (λ (u : ValueType). HasType p locals (Null t) u) (sym e) (exact p locals (Null t) (pointer_to h.to) (type-Null p locals t ∙ h.typed) h.standing))
