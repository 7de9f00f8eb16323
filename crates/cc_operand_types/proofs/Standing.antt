-- What the parts of a type that stands are: elements, what is pointed to, results and parameters of functions.
use Rattle.std.proofs.Common.{◌≡◌, ℕ, Bool, true, false, not, ◌&&◌, ◌||◌, length, map, Option, Some, None, refl, ap, sym, ◌∙◌}
use Rattle.std.specs.Prelude.{nat_le, nat_lt, slice_get, if◌then◌else◌}
use Rattle.std.specs.List.{list_all}
use Rattle.std.proofs.lemmas.Option.{same_Some}
use Rattle.cc_program.specs.Qualifiers.{is_const, is_volatile}
use Rattle.cc_program.specs.declared.types.CType.{CType}
use Rattle.cc_program.specs.declared.types.Shape.{Shape, out-Shape}
use Rattle.cc_program.specs.declared.types.Shape.TheOpen as shape
use Rattle.cc_program.specs.declared.types.Sig.{Sig, out-Sig, fold_out-Sig}
use Rattle.cc_program.specs.declared.types.Structure.{Structure}
use Rattle.cc_operands.specs.CcSyntax.Kinds.{Kind, IsVoid, IsScalar, IsStructure, IsArray, IsIncomplete, IsFunction, bytes_in, is_small, array_kind, pointer_kind, is_result, is_plain_scalar, is_object_type, extent_kind, shape_kind, type_kind, is_signature, kind_of, is_sig}
use Rattle.cc_operands.specs.CcSyntax.SameTypes.{is_void_shape}
use Rattle.cc_operands.specs.CcSyntax.Types.{Named}
use Rattle.cc_operands.specs.CcSyntax.Values.{ValueType, NoValue, Integer, ToObject, ToFunction, PlaceType, DevicePlace, ObjectPlace, FunctionPlace, pointer_shape, pointer_to, scalar_shape, scalar_value, result_value, is_void, written_to, pointed_to, element_shape, element_of, member_at, member_in, member_shape, member_of, address_of}
use Rattle.cc_operands.proofs.CcSyntax.Prefixes.{both_true}
use Rattle.cc_operand_types.specs.Typed.{is_pointed_kind, stands, place_stands, MembersStand}
use Rattle.cc_operand_types.proofs.Nulls.{is_func, to_object}
use Rattle.cc_operand_types.proofs.Requalified.{kind_at, shaped, qualified, arrayed, there, not_void, any_pointed, element_kind}
use Rattle.cc_operands.specs.CcSyntax.Views.{View, kind_in}

-- an object's type may be pointed to
pub object_type : (o : Option Kind) → is_object_type o ≡ true → is_pointed_kind false o ≡ true
object_type None h = absurd (cc)
object_type (Some IsVoid) h = absurd (cc)
object_type (Some (IsScalar q n)) h = refl
object_type (Some (IsStructure n)) h = refl
object_type (Some (IsArray n)) h = refl
object_type (Some IsIncomplete) h = absurd (cc)
object_type (Some IsFunction) h = absurd (cc)

module _ (p : View) where
  -- ---- elements

  element_by : (q : Bool) (n : ℕ) (e : Option Kind) (k : Kind) → qualified p q (arrayed p n e) ≡ Some k → is_pointed_kind false e ≡ true
  element_by q n None k h = absurd (cc)
  element_by q n (Some e) k h = (element_kind p q n k e h).pointed

  pub element_stands : (b : Bool) (t of : CType) (n : ℕ) → out-Shape t.shape ≡ shape.Array of n → is_pointed_kind b (kind_in p t) ≡ true → is_pointed_kind false (kind_in p of) ≡ true
  element_stands b t of n e h =
      let k = there p b (kind_in p t) h in
      element_by (t.constant || t.volatile) n (kind_in p of) k.0 (sym (kind_at p t (shape.Array of n) e) ∙ k.1)

  -- ---- what is pointed to

  struct_no_function : (x : Option (Option ℕ)) → extent_kind x ≡ Some IsFunction → ⊥
  struct_no_function None h = absurd (cc)
  struct_no_function (Some None) h = absurd (cc)
  struct_no_function (Some (Some n)) h = absurd (cc)

  pointer_no_function : (n : ℕ) (k : Kind) → pointer_kind n k ≡ Some IsFunction → ⊥
  pointer_no_function n IsVoid h = absurd (cc)
  pointer_no_function n (IsScalar q m) h = absurd (cc)
  pointer_no_function n (IsStructure m) h = absurd (cc)
  pointer_no_function n (IsArray m) h = absurd (cc)
  pointer_no_function n IsIncomplete h = absurd (cc)
  pointer_no_function n IsFunction h = absurd (cc)

  pointed_no_function : (to : Option Kind) → shape_kind p.target p.extents (shape.Pointer to) ≡ Some IsFunction → ⊥
  pointed_no_function None h = absurd (cc)
  pointed_no_function (Some k) h = pointer_no_function p.target.pointer_bytes k h

  sized_no_function : (b : Bool) (m : ℕ) → (if b then Some (IsArray m) else None) ≡ Some IsFunction → ⊥
  sized_no_function true m h = absurd (cc)
  sized_no_function false m h = absurd (cc)

  array_size_no_function : (n : ℕ) (size : Option ℕ) → array_kind n size ≡ Some IsFunction → ⊥
  array_size_no_function n None h = absurd (cc)
  array_size_no_function n (Some m) h = sized_no_function (nat_le 1 n && (nat_le n 65535 && is_small m)) _ h

  array_no_function : (n : ℕ) (of : Option Kind) → arrayed p n of ≡ Some IsFunction → ⊥
  array_no_function n None h = absurd (cc)
  array_no_function n (Some k) h = array_size_no_function n (bytes_in k) h

  function_shape : (x : shape.Shape-F Shape CType Sig) → shaped p x ≡ Some IsFunction → is_func x ≡ true
  function_shape shape.Void h = absurd (cc)
  function_shape (shape.Int t) h = absurd (cc)
  function_shape (shape.Pointer to) h = absurd (pointed_no_function (kind_in p to) h)
  function_shape (shape.Array of n) h = absurd (array_no_function n (kind_in p of) h)
  function_shape (shape.Struct i) h = absurd (struct_no_function (p.extents i) h)
  function_shape (shape.Func s) h = refl

  function_by : (q : Bool) (s : Option Kind) → qualified p q s ≡ Some IsFunction → s ≡ Some IsFunction
  function_by q None h = absurd (cc)
  function_by q (Some IsVoid) h = absurd (cc)
  function_by q (Some (IsScalar f n)) h = absurd (cc)
  function_by q (Some (IsStructure n)) h = absurd (cc)
  function_by true (Some (IsArray n)) h = absurd (cc)
  function_by false (Some (IsArray n)) h = absurd (cc)
  function_by q (Some IsIncomplete) h = absurd (cc)
  function_by q (Some IsFunction) h = refl

  function_kind : (t : CType) → kind_in p t ≡ Some IsFunction → is_func (out-Shape t.shape) ≡ true
  function_kind t h = function_shape (out-Shape t.shape) (function_by (t.constant || t.volatile) (shaped p (out-Shape t.shape)) (sym (kind_at p t (out-Shape t.shape) refl) ∙ h))

  object_pointed : (b : Bool) (n : ℕ) (k r : Kind) (f : Bool) → pointer_kind n k ≡ Some r → (k ≡ IsFunction → f ≡ true) → f ≡ false → is_pointed_kind b (Some k) ≡ true
  object_pointed b n IsVoid r f h g e = absurd (cc)
  object_pointed b n (IsScalar q m) r f h g e = refl
  object_pointed b n (IsStructure m) r f h g e = refl
  object_pointed b n (IsArray m) r f h g e = refl
  object_pointed b n IsIncomplete r f h g e = refl
  object_pointed b n IsFunction r f h g e = let c : true ≡ false = sym (g refl) ∙ e in absurd (cc)

  pointer_by : (q : Bool) (o : Option Kind) (r : Kind) → qualified p q o ≡ Some r → (z : Kind) × (o ≡ Some z)
  pointer_by q None r h = absurd (cc)
  pointer_by q (Some z) r h = (z, refl)

  pointer_some : (q : Bool) (k : Kind) (r : Kind) → qualified p q (shape_kind p.target p.extents (shape.Pointer (Some k))) ≡ Some r → (z : Kind) × (pointer_kind p.target.pointer_bytes k ≡ Some z)
  pointer_some q k r h = pointer_by q (pointer_kind p.target.pointer_bytes k) r h

  sig_by : (q good : Bool) (k : Kind) → qualified p q (shape_kind p.target p.extents (shape.Func good)) ≡ Some k → good ≡ true
  sig_by q true k h = refl
  sig_by q false k h = absurd (cc)

  pointer_object : (to : CType) (x : shape.Shape-F Shape CType Sig) (k z : Kind) → out-Shape to.shape ≡ x → kind_in p to ≡ Some k → pointer_kind p.target.pointer_bytes k ≡ Some z → is_func x ≡ false → stands p (pointer_shape to x) ≡ true
  pointer_object to x k z e h g i =
      ap (stands p) (to_object to x i) ∙ ap (is_pointed_kind (not (is_const to || is_volatile to))) h
      ∙ object_pointed (not (is_const to || is_volatile to)) p.target.pointer_bytes k z (is_func x) g (λ d. ap is_func (sym e) ∙ function_kind to (h ∙ ap (λ (y : Kind). Some y) d)) i

  pointer_at : (to : CType) (x : shape.Shape-F Shape CType Sig) (k z : Kind) → out-Shape to.shape ≡ x → kind_in p to ≡ Some k → pointer_kind p.target.pointer_bytes k ≡ Some z → stands p (pointer_shape to x) ≡ true
  pointer_at to (shape.Func s) k z e h g = sig_by (to.constant || to.volatile) (is_sig p.target p.extents s) k (sym (kind_at p to (shape.Func s) e) ∙ h)
  pointer_at to shape.Void k z e h g = pointer_object to shape.Void k z e h g refl
  pointer_at to (shape.Int i) k z e h g = pointer_object to (shape.Int i) k z e h g refl
  pointer_at to (shape.Pointer t) k z e h g = pointer_object to (shape.Pointer t) k z e h g refl
  pointer_at to (shape.Array of n) k z e h g = pointer_object to (shape.Array of n) k z e h g refl
  pointer_at to (shape.Struct i) k z e h g = pointer_object to (shape.Struct i) k z e h g refl

  pointer_from : (to : CType) (q : Bool) (o : Option Kind) (r : Kind) → kind_in p to ≡ o → qualified p q (shape_kind p.target p.extents (shape.Pointer o)) ≡ Some r → stands p (pointer_to to) ≡ true
  pointer_from to q None r e h = absurd (cc)
  pointer_from to q (Some k) r e h =
      let z = pointer_some q k r h in
      pointer_at to (out-Shape to.shape) k z.0 refl e z.1

  pub pointer_stands : (b : Bool) (t to : CType) → out-Shape t.shape ≡ shape.Pointer to → is_pointed_kind b (kind_in p t) ≡ true → stands p (pointer_to to) ≡ true
  pointer_stands b t to e h =
      let k = there p b (kind_in p t) h in
      pointer_from to (t.constant || t.volatile) (kind_in p to) k.0 refl (sym (kind_at p t (shape.Pointer to) e) ∙ k.1)

  -- ---- values of scalar types

  scalar_at : (b : Bool) (t : CType) (x : shape.Shape-F Shape CType Sig) (r : ValueType) → out-Shape t.shape ≡ x → is_pointed_kind b (kind_in p t) ≡ true → scalar_shape x ≡ Some r → stands p r ≡ true
  scalar_at b t (shape.Int i) r e h k = ap (stands p) (sym (same_Some (Integer i) r k))
  scalar_at b t (shape.Pointer to) r e h k = ap (stands p) (sym (same_Some (pointer_to to) r k)) ∙ pointer_stands b t to e h
  scalar_at b t shape.Void r e h k = absurd (cc)
  scalar_at b t (shape.Array of n) r e h k = absurd (cc)
  scalar_at b t (shape.Struct s) r e h k = absurd (cc)
  scalar_at b t (shape.Func s) r e h k = absurd (cc)

  pub scalar_stands : (b : Bool) (t : CType) (r : ValueType) → is_pointed_kind b (kind_in p t) ≡ true → scalar_value t ≡ Some r → stands p r ≡ true
  scalar_stands b t r h k = scalar_at b t (out-Shape t.shape) r refl h k

  written_by : (c : Bool) (t : CType) (r : ValueType) → is_pointed_kind false (kind_in p t) ≡ true → (if c then None else scalar_value t) ≡ Some r → stands p r ≡ true
  written_by true t r h k = absurd (cc)
  written_by false t r h k = scalar_stands false t r h k

  device_by : (c : Bool) (o : ValueType) (r : ValueType) → (if c then None else Some o) ≡ Some r → o ≡ r
  device_by true o r h = absurd (cc)
  device_by false o r h = same_Some o r h

  pub written_stands : (t : PlaceType) (r : ValueType) → place_stands p t ≡ true → written_to t ≡ Some r → stands p r ≡ true
  written_stands (DevicePlace c i) r h k = ap (stands p) (sym (device_by c (Integer i) r k))
  written_stands (ObjectPlace c v t) r h k = written_by c t r h k
  written_stands (FunctionPlace s) r h k = absurd (cc)

  -- ---- functions

  pub sig-opens : (s : Sig) → is_sig p.target p.extents s ≡ (is_result (kind_in p (out-Sig s).result) && list_all is_plain_scalar (map (kind_of p.target p.extents) (out-Sig s).params))
  unfolding is_sig kind_of
  sig-opens s = fold_out-Sig (Option Kind) (Option Kind) Bool (shape_kind p.target p.extents) type_kind is_signature s

  result_pointed : (o : Option Kind) → is_result o ≡ true → is_pointed_kind true o ≡ true
  result_pointed None h = absurd (cc)
  result_pointed (Some IsVoid) h = refl
  result_pointed (Some (IsScalar q n)) h = refl
  result_pointed (Some (IsStructure n)) h = absurd (cc)
  result_pointed (Some (IsArray n)) h = absurd (cc)
  result_pointed (Some IsIncomplete) h = absurd (cc)
  result_pointed (Some IsFunction) h = absurd (cc)

  result_by : (w : Bool) (t : CType) (r : ValueType) → is_result (kind_in p t) ≡ true → (if w then Some NoValue else scalar_value t) ≡ Some r → stands p r ≡ true
  result_by true t r h k = ap (stands p) (sym (same_Some NoValue r k))
  result_by false t r h k = scalar_stands true t r (result_pointed (kind_in p t) h) k

  pub result_stands : (s : Sig) (r : ValueType) → is_sig p.target p.extents s ≡ true → result_value (out-Sig s).result ≡ Some r → stands p r ≡ true
  result_stands s r h k =
      result_by (is_void_shape (out-Shape (out-Sig s).result.shape)) (out-Sig s).result r
      (both_true (is_result (kind_in p (out-Sig s).result)) (list_all is_plain_scalar (map (kind_of p.target p.extents) (out-Sig s).params)) (sym (sig-opens s) ∙ h)).0 k

  pub params_stand : (s : Sig) → is_sig p.target p.extents s ≡ true → list_all is_plain_scalar (map (kind_of p.target p.extents) (out-Sig s).params) ≡ true
  params_stand s h = (both_true (is_result (kind_in p (out-Sig s).result)) (list_all is_plain_scalar (map (kind_of p.target p.extents) (out-Sig s).params)) (sym (sig-opens s) ∙ h)).1

  pub plain_pointed : (o : Option Kind) → is_plain_scalar o ≡ true → is_pointed_kind true o ≡ true
  plain_pointed None h = absurd (cc)
  plain_pointed (Some IsVoid) h = absurd (cc)
  plain_pointed (Some (IsScalar q n)) h = refl
  plain_pointed (Some (IsStructure n)) h = absurd (cc)
  plain_pointed (Some (IsArray n)) h = absurd (cc)
  plain_pointed (Some IsIncomplete) h = absurd (cc)
  plain_pointed (Some IsFunction) h = absurd (cc)

  -- ---- places

  pointed_by : (w : Bool) (c v : Bool) (t : CType) (r : PlaceType) → is_void t ≡ w → is_pointed_kind (not (c || v)) (kind_in p t) ≡ true → (if w then None else Some (ObjectPlace c v t)) ≡ Some r → place_stands p r ≡ true
  pointed_by true c v t r e h k = absurd (cc)
  pointed_by false c v t r e h k = ap (place_stands p) (sym (same_Some (ObjectPlace c v t) r k)) ∙ not_void p (not (c || v)) t e h

  pub pointed_stands : (t : ValueType) (r : PlaceType) → stands p t ≡ true → pointed_to t ≡ Some r → place_stands p r ≡ true
  pointed_stands NoValue r h k = absurd (cc)
  pointed_stands (Integer i) r h k = absurd (cc)
  pointed_stands (ToObject c v t) r h k = pointed_by (is_void t) c v t r refl h k
  pointed_stands (ToFunction s) r h k = ap (place_stands p) (sym (same_Some (FunctionPlace s) r k)) ∙ h

  pub address_stands : (t : PlaceType) (r : ValueType) → place_stands p t ≡ true → address_of t ≡ Some r → stands p r ≡ true
  address_stands (DevicePlace c i) r h k = absurd (cc)
  address_stands (ObjectPlace c v t) r h k = ap (stands p) (sym (same_Some (ToObject c v t) r k)) ∙ any_pointed p (not (c || v)) (kind_in p t) h
  address_stands (FunctionPlace s) r h k = ap (stands p) (sym (same_Some (ToFunction s) r k)) ∙ h

  element_at : (c v : Bool) (t : CType) (x : shape.Shape-F Shape CType Sig) (r : PlaceType) → out-Shape t.shape ≡ x → is_pointed_kind false (kind_in p t) ≡ true → element_shape c v x ≡ Some r → place_stands p r ≡ true
  element_at c v t (shape.Array of n) r e h k = ap (place_stands p) (sym (same_Some (ObjectPlace c v of) r k)) ∙ element_stands false t of n e h
  element_at c v t shape.Void r e h k = absurd (cc)
  element_at c v t (shape.Int i) r e h k = absurd (cc)
  element_at c v t (shape.Pointer to) r e h k = absurd (cc)
  element_at c v t (shape.Struct i) r e h k = absurd (cc)
  element_at c v t (shape.Func s) r e h k = absurd (cc)

  pub elements_stand : (t : PlaceType) (r : PlaceType) → place_stands p t ≡ true → element_of t ≡ Some r → place_stands p r ≡ true
  elements_stand (DevicePlace c i) r h k = absurd (cc)
  elements_stand (ObjectPlace c v t) r h k = element_at c v t (out-Shape t.shape) r refl h k
  elements_stand (FunctionPlace s) r h k = absurd (cc)

  module _ (members : MembersStand p) where
    member_there : (c v : Bool) (i : ℕ) (s : Structure) (m : ℕ) (o : Option Named) (r : PlaceType) → slice_get p.structures i ≡ Some s → slice_get s.members m ≡ o → member_at c v o ≡ Some r → place_stands p r ≡ true
    member_there c v i s m None r e f k = absurd (cc)
    member_there c v i s m (Some n) r e f k = ap (place_stands p) (sym (same_Some (ObjectPlace (c || is_const n.1) (v || is_volatile n.1) n.1) r k)) ∙ members i s m n e f

    member_from : (c v : Bool) (i m : ℕ) (o : Option Structure) (r : PlaceType) → slice_get p.structures i ≡ o → member_in c v m o ≡ Some r → place_stands p r ≡ true
    member_from c v i m None r e k = absurd (cc)
    member_from c v i m (Some s) r e k = member_there c v i s m (slice_get s.members m) r e refl k

    member_by : (c v : Bool) (m : ℕ) (x : shape.Shape-F Shape CType Sig) (r : PlaceType) → member_shape p.structures c v m x ≡ Some r → place_stands p r ≡ true
    member_by c v m (shape.Struct i) r k = member_from c v i m (slice_get p.structures i) r refl k
    member_by c v m shape.Void r k = absurd (cc)
    member_by c v m (shape.Int i) r k = absurd (cc)
    member_by c v m (shape.Pointer to) r k = absurd (cc)
    member_by c v m (shape.Array of n) r k = absurd (cc)
    member_by c v m (shape.Func s) r k = absurd (cc)

    pub members_stand : (m : ℕ) (t r : PlaceType) → member_of p.structures m t ≡ Some r → place_stands p r ≡ true
    members_stand m (DevicePlace c i) r k = absurd (cc)
    members_stand m (ObjectPlace c v t) r k = member_by c v m (out-Shape t.shape) r k
    members_stand m (FunctionPlace s) r k = absurd (cc)
