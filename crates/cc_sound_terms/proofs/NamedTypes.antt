-- The types that declarators derive of types that stand, and what a cast, a parameter and a member make of them.
use Rattle.std.proofs.Common.{◌≡◌, ◌⊎◌, inl, inr, ℕ, Bool, true, false, not, ◌&&◌, ◌||◌, List, [], ◌∷◌, map, Option, Some, None, Ok, Err, refl, ap, sym, ◌∙◌, subst}
use Rattle.std.specs.Prelude.{◌*◌, nat_le, slice_get, unwrap_or, if◌then◌else◌}
use Rattle.std.specs.List.{list_all}
use Rattle.cc_terms.specs.CcOperands.Qualified.{plain, unqualified}
use Rattle.cc_terms.specs.CcOperands.Verdicts.{Judged}
use Rattle.cc_terms.specs.CcOperands.declared.rule.Rule.{Rule}
use Rattle.cc_terms.specs.CcOperands.declared.rule.Rule.TheVariants as rule
use Rattle.cc_operand_types.specs.Typed.{is_pointed_kind, IsNullType, stands}
use Rattle.cc_terms.specs.CcSyntax.Views.{View, kind_in}
use Rattle.cc_terms.specs.CcSyntax.Expressions.{null_type}
use Rattle.cc_operand_types.proofs.Requalified.{kind_at, pointer_plain}
use Rattle.cc_operand_types.proofs.Standing.{object_type, element_stands, pointer_stands}
use Rattle.cc_program.proofs.Each.{Each}
use Rattle.cc_program.proofs.QualifierLemmas.{const-opens, volatile-opens, parts_const, parts_volatile}
use Rattle.cc_program.specs.Qualifiers.{of_element, is_const, is_volatile}
use Rattle.cc_program.specs.declared.types.CType.{CType}
use Rattle.cc_program.specs.declared.types.Shape.{Shape, Pointer, Array, out-Shape}
use Rattle.cc_program.specs.declared.types.Shape.TheVariants.{outs-Pointer, outs-Array}
use Rattle.cc_program.specs.declared.types.Shape.TheOpen as shape
use Rattle.cc_program.specs.declared.types.Sig.{Sig, roll-Sig}
use Rattle.cc_program.specs.declared.types.Structure.{Structure}
use Rattle.cc_terms.specs.CcScopes.State.{Scope}
use Rattle.cc_terms.specs.CcSpecifiers.Bounds.{is_bound}
use Rattle.cc_terms.specs.CcSpecifiers.Declarators.{function_to, derive_one, derive, result_breach, broken_unless, fault_or, derived_further, breach, derived}
use Rattle.cc_terms.specs.CcSpecifiers.Objects.{size_of, is_object}
use Rattle.cc_terms.specs.CcSpecifiers.Parameters.{adjusted_by, parameter_by, parameter_type}
use Rattle.cc_terms.specs.CcSpecifiers.Places.{JudgedAt}
use Rattle.cc_terms.specs.CcSpecifiers.declared.derivation.Derivation.{Derivation}
use Rattle.cc_terms.specs.CcSpecifiers.declared.derivation.Derivation.TheVariants as to
use Rattle.cc_terms.specs.CcSpecifiers.declared.derivation.Parameter.{Parameter}
use Rattle.cc_terms.specs.CcSyntax.Kinds.{Kind, IsVoid, IsScalar, IsStructure, IsArray, IsIncomplete, IsFunction, bytes_in, is_small, array_kind, pointer_kind, is_plain_scalar, qualified_kind, shape_kind, kind_of}
use Rattle.cc_terms.specs.CcSyntax.Layout.{nothing}
use Rattle.cc_terms.specs.CcSyntax.Operators.{when, pointer_in, void_pointer_in, first_of, is_unqualified}
use Rattle.cc_terms.specs.CcSyntax.SameTypes.{is_void_shape}
use Rattle.cc_terms.specs.CcSyntax.Types.{has_members}
use Rattle.cc_terms.specs.CcSyntax.Values.{ValueType, pointer_to, pointer_shape, is_void}
use Rattle.cc_terms.specs.CcSyntax.declared.sizes.Layout.{Layout}
use Rattle.cc_tree.specs.declared.at.At.{At}
use Rattle.cc_sound_terms.specs.Knowing.{Stands}
use Rattle.cc_sound_terms.specs.Standing.{IsDerived, Standing, VoidPointer, Unbounded, IsNamedType, ParameterStands, IsBounded, DerivationsStand}
use Rattle.cc_sound_terms.proofs.TypeKinds.{object_sized, object_stands, pointer_with, pointer_kind_is, array_kind_is, may_be_result, result_is, sig_is, function_kind_is}

abbrev type_judged : CType → Judged CType
type_judged t = Ok t

sym_kind : (a b : Kind) → Some a ≡ Some b → Some b ≡ Some a
sym_kind a b h = sym h

no_rule : (b : Bool) (broken : Rule) → broken_unless b broken ≡ None → b ≡ true
no_rule true broken h = refl
no_rule false broken h = absurd (cc)

no_fault : (at : ℕ) (o : Option Rule) (found : JudgedAt CType) (t : CType) → fault_or at o found ≡ Ok t → (o ≡ None) × (found ≡ Ok t)
no_fault at None found t h = (refl, h)
no_fault at (Some broken) found t h = absurd (cc)

abbrev type_ok : CType → JudgedAt CType
type_ok t = Ok t

ok_type : (t u : CType) → type_ok t ≡ Ok u → t ≡ u
ok_type t u h = cc

further_ok : (d : Derivation Scope) (found : JudgedAt CType) (t : CType) → derived_further d found ≡ Ok t → (u : CType) × (found ≡ Ok u) × (derive_one d u ≡ t)
further_ok d (Ok u) t h = (u, refl, ok_type (derive_one d u) t h)
further_ok d (Err fault) t h = absurd (cc)

result_may_be : (y : shape.Shape-F Shape CType Sig) → result_breach y ≡ None → may_be_result y ≡ true
result_may_be shape.Void h = refl
result_may_be (shape.Int t) h = refl
result_may_be (shape.Pointer to) h = refl
result_may_be (shape.Array of n) h = absurd (cc)
result_may_be (shape.Struct i) h = absurd (cc)
result_may_be (shape.Func s) h = absurd (cc)

no_void : (w u : Bool) → (not w || (false && u)) ≡ true → w ≡ false
no_void true u h = absurd (cc)
no_void false u h = refl

void_there : (v u : Bool) → (not true || (v && u)) ≡ true → (v ≡ true) × (u ≡ true)
void_there true true h = (refl, refl)
void_there true false h = absurd (cc)
void_there false u h = absurd (cc)

or_false : (b : Bool) → (b || false) ≡ b
or_false true = refl
or_false false = refl

null_first : (b s : Bool) (u : ValueType) → s ≡ true → first_of (when b u) (when s u) ≡ Some u
null_first true s u h = refl
null_first false s u h = ap (λ (z : Bool). when z u) h

abbrev pointed : CType → shape.Shape-F Shape CType Sig
pointed t = shape.Pointer t

pointed_same : (t u : CType) → pointed t ≡ pointed u → t ≡ u
pointed_same t u h = cc

void_shape_is : (y : shape.Shape-F Shape CType Sig) → is_void_shape y ≡ true → y ≡ shape.Void
void_shape_is shape.Void h = refl
void_shape_is (shape.Int t) h = absurd (cc)
void_shape_is (shape.Pointer t) h = absurd (cc)
void_shape_is (shape.Array t n) h = absurd (cc)
void_shape_is (shape.Struct i) h = absurd (cc)
void_shape_is (shape.Func s) h = absurd (cc)

module _ (v : View) where
  -- ---- pointers that stand

  record IsPointerKind (q : Bool) (o : Option Kind) : Type 0 where
    plain : is_plain_scalar (qualified_kind false (shape_kind v.target v.extents (shape.Pointer o))) ≡ true
    pointed : is_pointed_kind false (qualified_kind q (shape_kind v.target v.extents (shape.Pointer o))) ≡ true

  pointer_some : (q : Bool) (e k : Kind) → qualified_kind q (pointer_kind v.target.pointer_bytes e) ≡ Some k → IsPointerKind q (Some e)
  pointer_some q IsVoid k h = absurd (cc)
  pointer_some q (IsScalar f n) k h = record { plain = refl; pointed = refl }
  pointer_some q (IsStructure n) k h = record { plain = refl; pointed = refl }
  pointer_some q (IsArray n) k h = record { plain = refl; pointed = refl }
  pointer_some q IsIncomplete k h = record { plain = refl; pointed = refl }
  pointer_some q IsFunction k h = record { plain = refl; pointed = refl }

  pointer_kinds : (q : Bool) (o : Option Kind) (k : Kind) → qualified_kind q (shape_kind v.target v.extents (shape.Pointer o)) ≡ Some k → IsPointerKind q o
  pointer_kinds q None k h = absurd (cc)
  pointer_kinds q (Some e) k h = pointer_some q e k h

  pointer_is : (t to : CType) → out-Shape t.shape ≡ shape.Pointer to → Stands v t → IsPointerKind (t.constant || t.volatile) (kind_in v to)
  pointer_is t to e k = pointer_kinds (t.constant || t.volatile) (kind_in v to) k.0 (sym (kind_at v t (shape.Pointer to) e) ∙ k.1)

  pointer_itself : (t to : CType) → out-Shape t.shape ≡ shape.Pointer to → Stands v t → is_pointed_kind false (kind_in v t) ≡ true
  pointer_itself t to e k = ap (is_pointed_kind false) (kind_at v t (shape.Pointer to) e) ∙ (pointer_is t to e k).pointed

  pointer_unqualified : (t to : CType) → out-Shape t.shape ≡ shape.Pointer to → Stands v t → is_plain_scalar (kind_in v (unqualified t)) ≡ true
  pointer_unqualified t to e k = ap is_plain_scalar (kind_at v (unqualified t) (shape.Pointer to) e) ∙ (pointer_is t to e k).plain

  widened : (o : Option Kind) → is_pointed_kind false o ≡ true → is_pointed_kind true o ≡ true
  widened None h = absurd (cc)
  widened (Some IsVoid) h = absurd (cc)
  widened (Some (IsScalar q n)) h = refl
  widened (Some (IsStructure n)) h = refl
  widened (Some (IsArray n)) h = refl
  widened (Some IsIncomplete) h = refl
  widened (Some IsFunction) h = absurd (cc)

  plain_is_pointed : (o : Option Kind) → is_plain_scalar o ≡ true → is_pointed_kind false o ≡ true
  plain_is_pointed None h = absurd (cc)
  plain_is_pointed (Some IsVoid) h = absurd (cc)
  plain_is_pointed (Some (IsScalar q n)) h = refl
  plain_is_pointed (Some (IsStructure n)) h = absurd (cc)
  plain_is_pointed (Some (IsArray n)) h = absurd (cc)
  plain_is_pointed (Some IsIncomplete) h = absurd (cc)
  plain_is_pointed (Some IsFunction) h = absurd (cc)

  -- ---- a null of the type of a cast

  null_opens : (t to : CType) → out-Shape t.shape ≡ shape.Pointer to →
      null_type v (unqualified t) ≡ first_of (when (is_void to && is_unqualified to) (pointer_to to)) (when (is_plain_scalar (kind_in v (unqualified t))) (pointer_to to))
  null_opens t to e = ap (λ (x : shape.Shape-F Shape CType Sig). first_of (void_pointer_in true x) (pointer_in (is_plain_scalar (kind_in v (unqualified t))) x)) e

  standing_null : (t to : CType) → Stands v t → out-Shape t.shape ≡ shape.Pointer to → IsNullType v (unqualified t)
  standing_null t to k e = record {
    to = to;
    pointer = e;
    typed = null_opens t to e ∙ null_first (is_void to && is_unqualified to) (is_plain_scalar (kind_in v (unqualified t))) (pointer_to to) (pointer_unqualified t to e k);
    standing = pointer_stands v true t to e (widened (kind_in v t) (pointer_itself t to e k));
  }

  void_stands : (to : CType) → out-Shape to.shape ≡ shape.Void → is_unqualified to ≡ true → stands v (pointer_to to) ≡ true
  void_stands to e u =
      let c : is_const to ≡ to.constant = const-opens to ∙ ap (λ y. to.constant || of_element (parts_const y)) e ∙ or_false to.constant in
      let w : is_volatile to ≡ to.volatile = volatile-opens to ∙ ap (λ y. to.volatile || of_element (parts_volatile y)) e ∙ or_false to.volatile in
      ap (λ (y : shape.Shape-F Shape CType Sig). stands v (pointer_shape to y)) e
      ∙ ap (λ (o : Option Kind). is_pointed_kind (not (is_const to || is_volatile to)) o) (kind_at v to shape.Void e)
      ∙ ap (λ (b : Bool). not (b || is_volatile to)) c ∙ ap (λ (b : Bool). not (to.constant || b)) w ∙ u

  void_null : (t to : CType) → out-Shape t.shape ≡ shape.Pointer to → is_void to ≡ true → is_unqualified to ≡ true → IsNullType v (unqualified t)
  void_null t to e w u = record {
    to = to;
    pointer = e;
    typed = null_opens t to e
        ∙ ap (λ (b : Bool). first_of (when (b && is_unqualified to) (pointer_to to)) (when (is_plain_scalar (kind_in v (unqualified t))) (pointer_to to))) w
        ∙ ap (λ (b : Bool). first_of (when b (pointer_to to)) (when (is_plain_scalar (kind_in v (unqualified t))) (pointer_to to))) u;
    standing = void_stands to (void_shape_is (out-Shape to.shape) w) u;
  }

  pub null_type_of : (t : CType) → IsNamedType v true t → (to : CType) → out-Shape t.shape ≡ shape.Pointer to → IsNullType v (unqualified t)
  null_type_of t (Standing k) to e = standing_null t to k e
  null_type_of t (VoidPointer u c g w q) to e = void_null t u g w q
  null_type_of t (Unbounded of c g o) to e = absurd (cc)

  -- ---- derivations

  module _ (structures : List Structure) (layouts : List Layout)
      (sizes : (i : ℕ) → has_members (slice_get structures i) ≡ true → v.extents i ≡ Some (Some (unwrap_or (slice_get layouts i) nothing).size)) where
    derived_is : (void : Bool) (base : CType) (ds : List (At (Derivation Scope))) (t : CType) → derived v.target structures layouts void base ds ≡ Ok t → derive base ds ≡ t
    derived_is void base [] t h = ok_type base t h
    derived_is void base (d ∷ ds) t h =
        let a = no_fault d.at (breach v.target structures layouts void (derive base ds) d.node) (derived_further d.node (derived v.target structures layouts false base ds)) t h in
        let b = further_ok d.node (derived v.target structures layouts false base ds) t a.1 in
        ap (derive_one d.node) (derived_is false base ds b.0 b.1) ∙ b.2

    params_plain : (ps : List Parameter) → Each (ParameterStands v) ps → list_all is_plain_scalar (map (kind_of v.target v.extents) (map (λ (p : Parameter). unqualified p.ctype) ps)) ≡ true
    params_plain [] h = refl
    params_plain (p ∷ ps) h = ap (λ (b : Bool). b && list_all is_plain_scalar (map (kind_of v.target v.extents) (map (λ (p : Parameter). unqualified p.ctype) ps))) h.0.plain ∙ params_plain ps h.1

    array_stands : (t : CType) (n : ℕ) → Stands v t → is_bound n ≡ true → is_object v.target structures layouts t ≡ true → Stands v (plain (Array t n))
    array_stands t n k b h =
        let o = object_sized v structures layouts sizes t k.0 k.1 h in
        (IsArray (n * size_of v.target structures layouts t), array_kind_is v t n (size_of v.target structures layouts t) k.0 k.1 o.0 o.1 b)

    function_stands : (t : CType) (ps : List Parameter) → Stands v t → Each (ParameterStands v) ps → result_breach (out-Shape t.shape) ≡ None → Stands v (function_to t ps)
    function_stands t ps k w h =
        let sig : Sig = roll-Sig (record { result = t; params = map (λ (p : Parameter). unqualified p.ctype) ps }) in
        (IsFunction, function_kind_is v sig (sig_is v t (map (λ (p : Parameter). unqualified p.ctype) ps) (result_is v t k (result_may_be (out-Shape t.shape) h)) (params_plain ps w)))

    one_stands : (d : Derivation Scope) (t : CType) → Stands v t → IsBounded v d → breach v.target structures layouts false t d ≡ None → Stands v (derive_one d t)
    one_stands (to.Pointer c w) t k b h =
        (IsScalar (c || w) v.target.pointer_bytes, pointer_kind_is v c w t k (no_void (is_void t) (is_unqualified t) (no_rule (not (is_void t) || (false && is_unqualified t)) rule.PointerToVoid h)))
    one_stands (to.Array None) t k b h = elim b [ ]
    one_stands (to.Array (Some n)) t k b h = array_stands t n k b (no_rule (is_object v.target structures layouts t) rule.NoObjectType h)
    one_stands (to.Function ps scope) t k b h = function_stands t ps k b h

    bounded_stand : (base : CType) (ds : List (At (Derivation Scope))) (t : CType) → Stands v base → Each (λ e. IsBounded v e.node) ds → derived v.target structures layouts false base ds ≡ Ok t → Stands v t
    bounded_stand base [] t k b h = subst (Stands v) (ok_type base t h) k
    bounded_stand base (d ∷ ds) t k b h =
        let a = no_fault d.at (breach v.target structures layouts false (derive base ds) d.node) (derived_further d.node (derived v.target structures layouts false base ds)) t h in
        let c = further_ok d.node (derived v.target structures layouts false base ds) t a.1 in
        let e = derived_is false base ds c.0 c.1 in
        let w = subst (Stands v) (sym e) (bounded_stand base ds c.0 k b.1 c.1) in
        subst (Stands v) (ap (derive_one d.node) e ∙ c.2) (one_stands d.node (derive base ds) w b.0 a.0)

    pointer_derived : (void unbounded : Bool) (c w : Bool) (t : CType) (b : Bool) → Stands v t → is_void t ≡ b → (not b || (void && is_unqualified t)) ≡ true → IsDerived v void unbounded (pointer_with c w t)
    pointer_derived void unbounded c w t false k e h = Standing (IsScalar (c || w) v.target.pointer_bytes, pointer_kind_is v c w t k e)
    pointer_derived void unbounded c w t true k e h = let a = void_there void (is_unqualified t) h in VoidPointer t a.0 (outs-Pointer t) e a.1

    head_derived : (void unbounded : Bool) (d : Derivation Scope) (t : CType) → Stands v t → IsBounded v d → breach v.target structures layouts void t d ≡ None → IsDerived v void unbounded (derive_one d t)
    head_derived void unbounded (to.Pointer c w) t k b h =
        pointer_derived void unbounded c w t (is_void t) k refl (no_rule (not (is_void t) || (void && is_unqualified t)) rule.PointerToVoid h)
    head_derived void unbounded (to.Array None) t k b h = elim b [ ]
    head_derived void unbounded (to.Array (Some n)) t k b h = Standing (one_stands (to.Array (Some n)) t k b h)
    head_derived void unbounded (to.Function ps scope) t k b h = Standing (one_stands (to.Function ps scope) t k b h)

    unbounded_derived : (void unbounded : Bool) (d : Derivation Scope) (t : CType) → Stands v t → d ≡ to.Array None → unbounded ≡ true → breach v.target structures layouts void t d ≡ None → IsDerived v void unbounded (derive_one d t)
    unbounded_derived void unbounded d t k e u h =
        let o = no_rule (is_object v.target structures layouts t) rule.NoObjectType (sym (ap (breach v.target structures layouts void t) e) ∙ h) in
        Unbounded t u (ap (λ (x : Derivation Scope). derive_one x t) e) (object_stands v structures layouts sizes t k.0 k.1 o)

    head_by : (void unbounded : Bool) (d : Derivation Scope) (t : CType) → Stands v t → IsBounded v d ⊎ ((d ≡ to.Array None) × (unbounded ≡ true)) → breach v.target structures layouts void t d ≡ None → IsDerived v void unbounded (derive_one d t)
    head_by void unbounded d t k (inl b) h = head_derived void unbounded d t k b h
    head_by void unbounded d t k (inr e) h = unbounded_derived void unbounded d t k e.0 e.1 h

    pub derived_stands : (void unbounded : Bool) (base : CType) (ds : List (At (Derivation Scope))) (t : CType) → Stands v base → DerivationsStand v unbounded ds → derived v.target structures layouts void base ds ≡ Ok t → IsDerived v void unbounded t
    derived_stands void unbounded base [] t k b h = Standing (subst (Stands v) (ok_type base t h) k)
    derived_stands void unbounded base (d ∷ ds) t k b h =
        let a = no_fault d.at (breach v.target structures layouts void (derive base ds) d.node) (derived_further d.node (derived v.target structures layouts false base ds)) t h in
        let c = further_ok d.node (derived v.target structures layouts false base ds) t a.1 in
        let e = derived_is false base ds c.0 c.1 in
        let w = subst (Stands v) (sym e) (bounded_stand base ds c.0 k b.1 c.1) in
        subst (IsDerived v void unbounded) (ap (derive_one d.node) e ∙ c.2) (head_by void unbounded d.node (derive base ds) w b.0 a.0)

  -- ---- parameters

  abbrev Scalar : CType → Type 0
  Scalar u = (is_plain_scalar (kind_in v (unqualified u)) ≡ true) × (is_pointed_kind false (kind_in v u) ≡ true)

  judged_type : (t u : CType) → type_judged t ≡ Ok u → t ≡ u
  judged_type t u h = cc

  plain_scalar : (t : CType) → is_plain_scalar (kind_in v (plain (Pointer t))) ≡ true → Scalar (plain (Pointer t))
  plain_scalar t h = (h, plain_is_pointed (kind_in v (plain (Pointer t))) h)

  pointer_parameter : (t u : CType) → is_plain_scalar (kind_in v (plain (Pointer t))) ≡ true → parameter_by (plain (Pointer t)) (out-Shape (Pointer t)) ≡ Ok u → Scalar u
  pointer_parameter t u k h = subst Scalar (judged_type (plain (Pointer t)) u (sym (ap (parameter_by (plain (Pointer t))) (outs-Pointer t)) ∙ h)) (plain_scalar t k)

  array_parameter : (t of u : CType) (n : ℕ) → out-Shape t.shape ≡ shape.Array of n → is_pointed_kind false (kind_in v of) ≡ true → parameter_type t ≡ Ok u → Scalar u
  array_parameter t of u n e k h =
      pointer_parameter of u (ap is_plain_scalar (kind_at v (plain (Pointer of)) (shape.Pointer of) (outs-Pointer of)) ∙ pointer_plain v (kind_in v of) k)
      (sym (ap (λ (y : shape.Shape-F Shape CType Sig). parameter_by (adjusted_by t y) (out-Shape (adjusted_by t y).shape)) e) ∙ h)

  array_pointed : (q b : Bool) (m : ℕ) (k : Kind) → qualified_kind q (if b then Some (IsArray m) else None) ≡ Some k → is_pointed_kind true (Some k) ≡ true
  array_pointed false true m k h = ap (is_pointed_kind true) (sym_kind (IsArray m) k h)
  array_pointed true true m k h = absurd (cc)
  array_pointed false false m k h = absurd (cc)
  array_pointed true false m k h = absurd (cc)

  array_by : (q : Bool) (n : ℕ) (o : Option ℕ) (k : Kind) → qualified_kind q (array_kind n o) ≡ Some k → is_pointed_kind true (Some k) ≡ true
  array_by q n None k h = absurd (cc)
  array_by q n (Some size) k h = array_pointed q (nat_le 1 n && (nat_le n 65535 && is_small size)) (n * size) k h

  element_by : (q : Bool) (n : ℕ) (o : Option Kind) (k : Kind) → qualified_kind q (shape_kind v.target v.extents (shape.Array o n)) ≡ Some k → is_pointed_kind true (Some k) ≡ true
  element_by q n None k h = absurd (cc)
  element_by q n (Some e) k h = array_by q n (bytes_in e) k h

  parameter_at : (t u : CType) (y : shape.Shape-F Shape CType Sig) → out-Shape t.shape ≡ y → Stands v t → parameter_by (adjusted_by t y) (out-Shape (adjusted_by t y).shape) ≡ Ok u → Scalar u
  parameter_at t u shape.Void e k h = let g = sym (ap (parameter_by t) e) ∙ h in absurd (cc)
  parameter_at t u (shape.Int i) e k h =
      subst Scalar (judged_type t u (sym (ap (parameter_by t) e) ∙ h))
      (ap is_plain_scalar (kind_at v (unqualified t) (shape.Int i) e), ap (is_pointed_kind false) (kind_at v t (shape.Int i) e))
  parameter_at t u (shape.Pointer to) e k h = subst Scalar (judged_type t u (sym (ap (parameter_by t) e) ∙ h)) (pointer_unqualified t to e k, pointer_itself t to e k)
  parameter_at t u (shape.Array of n) e k h =
      let w = element_by (t.constant || t.volatile) n (kind_in v of) k.0 (sym (kind_at v t (shape.Array of n) e) ∙ k.1) in
      array_parameter t of u n e (element_stands v true t of n e (ap (is_pointed_kind true) k.1 ∙ w))
      (ap (λ (y : shape.Shape-F Shape CType Sig). parameter_by (adjusted_by t y) (out-Shape (adjusted_by t y).shape)) e ∙ h)
  parameter_at t u (shape.Struct i) e k h = let g = sym (ap (parameter_by t) e) ∙ h in absurd (cc)
  parameter_at t u (shape.Func sig) e k h = pointer_parameter t u (ap is_plain_scalar (pointer_kind_is v false false t k (ap is_void_shape e))) h

  pub parameter_stands : (t u : CType) → IsDerived v false true t → parameter_type t ≡ Ok u → Scalar u
  parameter_stands t u (Standing k) h = parameter_at t u (out-Shape t.shape) refl k h
  parameter_stands t u (VoidPointer to c g w q) h = absurd (cc)
  parameter_stands t u (Unbounded of c g o) h = array_parameter t of u 0 (ap (λ (x : CType). out-Shape x.shape) g ∙ outs-Array of 0) (object_type (kind_in v of) o) h

  -- what may be neither is a type that stands
  pub only_standing : (t : CType) → IsDerived v false false t → Stands v t
  only_standing t (Standing k) = k
  only_standing t (VoidPointer to c g w q) = absurd (cc)
  only_standing t (Unbounded of c g o) = absurd (cc)
