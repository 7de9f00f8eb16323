-- The types of expressions may stand in the program, and but for those of nulls a local may be declared with them.
use Rattle.std.proofs.Common.{◌≡◌, ℕ, Bool, true, false, not, ◌&&◌, ◌||◌, List, map, Option, Some, None, slice_get, option_map, refl, ap, sym, ◌∙◌, subst}
use Rattle.std.proofs.lemmas.Option.{same_Some}
use Rattle.std.specs.Prelude.{if◌then◌else◌}
use Rattle.cc_program.specs.CcNum.declared.int_type.IntType.{IntType}
use Rattle.cc_program.specs.CcNum.declared.int_type.IntType.TheVariants as int
use Rattle.cc_program.specs.CcNum.Integers.{is_value_of}
use Rattle.cc_operand_types.specs.Typed.{stands, place_stands, is_pointed_kind, MembersStand}
use Rattle.cc_operand_types.proofs.Requalified.{kind_at, any_pointed, not_void}
use Rattle.cc_operand_types.proofs.Standing.{pointer_stands, scalar_stands, plain_pointed, pointed_stands, elements_stand, members_stand, sig-opens}
use Rattle.cc_program.specs.Qualifiers.{of_element, is_const, is_volatile}
use Rattle.cc_program.proofs.QualifierLemmas.{const-opens, volatile-opens, parts_const, parts_volatile}
use Rattle.cc_program.specs.declared.expr.Expr.{Expr, roll-Expr}
use Rattle.cc_program.specs.declared.expr.Expr.TheOpen as one
use Rattle.cc_program.specs.declared.expr.Intr.{Intr as Intrinsic}
use Rattle.cc_program.specs.declared.expr.Intr.TheVariants as intr
use Rattle.cc_program.specs.declared.expr.Place.{Place, roll-Place}
use Rattle.cc_program.specs.declared.types.CType.{CType}
use Rattle.cc_program.specs.declared.types.Shape.{Shape, out-Shape}
use Rattle.cc_program.specs.declared.types.Shape.TheOpen as shape
use Rattle.cc_program.specs.declared.types.Sig.{Sig, out-Sig}
use Rattle.cc_program.specs.declared.types.Structure.{Structure}
use Rattle.cc_program.proofs.Each.{each_of, held_of}
use Rattle.cc_program.proofs.ExprInduction.{Parts, PlaceParts, by_expr, by_place}
use Rattle.cc_eval.specs.CcSyntax.Expressions.{of_one, of_two, type_of, place_type, null_type, pointer_type, qualified_type}
use Rattle.cc_eval.specs.CcSyntax.Kinds.{Kind, IsVoid, IsScalar, IsStructure, IsArray, IsIncomplete, IsFunction, is_result, is_plain_scalar, shape_kind, qualified_kind, is_sig}
use Rattle.cc_eval.specs.CcSyntax.Operators.{pointer_in, void_pointer_in, first_of, is_unqualified, unary_type, unary_result, binary_type, binary_result, conversion_type, when_assignable, moved_type, gap_type, difference_type, comparison_type, logical_type, choice_type, common_type, assignment_type, change_type, after_type, call_type, intrinsic_type, subscript_type, is_promoted, is_of, second_fits, is_integer, points_to_object, has_difference, is_comparison}
use Rattle.cc_eval.specs.CcSyntax.SameTypes.{is_void_shape, same_int, same_sig, alike}
use Rattle.cc_eval.specs.CcSyntax.Types.{Named, is_complete, complete_shape}
use Rattle.cc_eval.specs.CcSyntax.Values.{ValueType, NoValue, Integer, ToObject, ToFunction, PlaceType, DevicePlace, ObjectPlace, FunctionPlace, pointer_shape, pointer_to, scalar_shape, scalar_value, is_scalar, is_void, is_assignable, point_alike, read_from, written_to, address_of, pointed_to, member_of, element_of, object_place}
use Rattle.cc_eval.specs.CcSyntax.Views.{View, kind_in}
use Rattle.cc_eval.proofs.CcSyntax.TypeLayouts.{parts_complete, complete-opens}
use Rattle.cc_lower_sound.proofs.Bools.{first_true, second_true}
use Rattle.cc_lower_sound.proofs.Levels.{type_at, place_at, type-roll, place-roll}
use Rattle.cc_lower_sound.proofs.Lowered.{is_declared}
use Rattle.cc_lower_sound.proofs.LoweredAssignments.{written_reads, change_is}
use Rattle.cc_lower_sound.proofs.LoweredCalls.{is_call, is_restored}
use Rattle.cc_lower_sound.proofs.Readings.{CallOf, OfSig}
use Rattle.cc_lower_sound.proofs.Scalars.{has_one, has_two, passes}

-- what holds of all holds of the parts of a level
every_part : (P : Expr → Type 0) (Q : Place → Type 0) → ((e : Expr) → P e) → ((a : Place) → Q a) → (x : one.Expr-F Expr Place) → Parts P Q x
every_part P Q f g (one.Const n t) = tt
every_part P Q f g (one.Null t) = tt
every_part P Q f g (one.FuncAddr i) = tt
every_part P Q f g (one.Load a) = g a
every_part P Q f g (one.AddrOf a) = g a
every_part P Q f g (one.Un o t a) = f a
every_part P Q f g (one.Bin o t a b) = (f a, f b)
every_part P Q f g (one.Conv t a) = f a
every_part P Q f g (one.Qualify t a) = f a
every_part P Q f g (one.Move a b back) = (f a, f b)
every_part P Q f g (one.Gap a b) = (f a, f b)
every_part P Q f g (one.Compare o a b) = (f a, f b)
every_part P Q f g (one.Both a b) = (f a, f b)
every_part P Q f g (one.Either a b) = (f a, f b)
every_part P Q f g (one.Choose c a b) = (f c, f a, f b)
every_part P Q f g (one.Assign a e) = (g a, f e)
every_part P Q f g (one.Change a o t e) = (g a, f e)
every_part P Q f g (one.After a down) = g a
every_part P Q f g (one.Call h args) = (f h, each_of P f args)
every_part P Q f g (one.Intr i o) = held_of P f o
every_part P Q f g (one.Seq a b) = (f a, f b)

-- what a pointer points to is void
abbrev pub points_to_void : ValueType → Bool
points_to_void NoValue = false
points_to_void (Integer i) = false
points_to_void (ToObject c v t) = is_void t
points_to_void (ToFunction s) = false

void_at : (x : shape.Shape-F Shape CType Sig) → is_void_shape x ≡ true → x ≡ shape.Void
void_at shape.Void h = refl
void_at (shape.Int t) h = absurd (cc)
void_at (shape.Pointer t) h = absurd (cc)
void_at (shape.Array t n) h = absurd (cc)
void_at (shape.Struct i) h = absurd (cc)
void_at (shape.Func s) h = absurd (cc)

points_void : (t : CType) (x : shape.Shape-F Shape CType Sig) → is_void_shape x ≡ false → out-Shape t.shape ≡ x → points_to_void (pointer_shape t x) ≡ false
points_void t shape.Void h e = absurd (cc)
points_void t (shape.Int i) h e = ap is_void_shape e
points_void t (shape.Pointer to) h e = ap is_void_shape e
points_void t (shape.Array of n) h e = ap is_void_shape e
points_void t (shape.Struct i) h e = ap is_void_shape e
points_void t (shape.Func s) h e = refl

or_false : (b : Bool) → (b || false) ≡ b
or_false true = refl
or_false false = refl

module _ (v : View) where
  -- a local may be declared with the type
  abbrev pub declares : ValueType → Bool
  declares NoValue = true
  declares (Integer i) = true
  declares (ToObject c u t) = is_pointed_kind false (kind_in v t)
  declares (ToFunction s) = is_sig v.target v.extents s

  pub declares_by : (t : ValueType) → stands v t ≡ true → points_to_void t ≡ false → declares t ≡ true
  declares_by NoValue h e = refl
  declares_by (Integer i) h e = refl
  declares_by (ToObject c u t) h e = not_void v (not (c || u)) t e h
  declares_by (ToFunction s) h e = h

  pub declared_stands : (t : ValueType) → declares t ≡ true → stands v t ≡ true
  declared_stands NoValue h = refl
  declared_stands (Integer i) h = refl
  declared_stands (ToObject c u t) h = any_pointed v (not (c || u)) (kind_in v t) h
  declared_stands (ToFunction s) h = h

  integer_declares : (i : IntType) (t : ValueType) → Integer i ≡ t → declares t ≡ true
  integer_declares i t e = ap declares (sym e)

  integer_stands : (i : IntType) (t : ValueType) → Integer i ≡ t → stands v t ≡ true
  integer_stands i t e = ap (stands v) (sym e)

  -- ---- pointers in types point to no void

  void_kind : (t : CType) → is_void t ≡ true → kind_in v t ≡ Some IsVoid
  void_kind t h = kind_at v t shape.Void (void_at (out-Shape t.shape) h)

  no_void_by : (b : Bool) (u to : CType) (w : Bool) → is_void to ≡ w → out-Shape u.shape ≡ shape.Pointer to → is_pointed_kind b (kind_in v u) ≡ true → w ≡ false
  no_void_by b u to false e f h = refl
  no_void_by b u to true e f h =
      let k : kind_in v u ≡ None = kind_at v u (shape.Pointer to) f ∙ ap (λ (o : Option Kind). qualified_kind (u.constant || u.volatile) (shape_kind v.target v.extents (shape.Pointer o))) (void_kind to e) in
      let c : false ≡ true = sym (ap (is_pointed_kind b) k) ∙ h in absurd (cc)

  pointer_no_void : (b : Bool) (u to : CType) → out-Shape u.shape ≡ shape.Pointer to → is_pointed_kind b (kind_in v u) ≡ true → points_to_void (pointer_to to) ≡ false
  pointer_no_void b u to f h = points_void to (out-Shape to.shape) (no_void_by b u to (is_void to) refl f h) refl

  scalar_no_void : (b : Bool) (u : CType) (x : shape.Shape-F Shape CType Sig) (t : ValueType) → out-Shape u.shape ≡ x → is_pointed_kind b (kind_in v u) ≡ true → scalar_shape x ≡ Some t → points_to_void t ≡ false
  scalar_no_void b u (shape.Int i) t f h e = ap points_to_void (sym (same_Some (Integer i) t e))
  scalar_no_void b u (shape.Pointer to) t f h e = ap points_to_void (sym (same_Some (pointer_to to) t e)) ∙ pointer_no_void b u to f h
  scalar_no_void b u shape.Void t f h e = absurd (cc)
  scalar_no_void b u (shape.Array of n) t f h e = absurd (cc)
  scalar_no_void b u (shape.Struct i) t f h e = absurd (cc)
  scalar_no_void b u (shape.Func s) t f h e = absurd (cc)

  value_declares : (b : Bool) (u : CType) (t : ValueType) → is_pointed_kind b (kind_in v u) ≡ true → scalar_value u ≡ Some t → declares t ≡ true
  value_declares b u t h e = declares_by t (scalar_stands v b u t h e) (scalar_no_void b u (out-Shape u.shape) t refl h e)

  read_declares : (a : PlaceType) (t : ValueType) → place_stands v a ≡ true → read_from a ≡ Some t → declares t ≡ true
  read_declares (DevicePlace c i) t h e = integer_declares i t (same_Some (Integer i) t e)
  read_declares (ObjectPlace c u x) t h e = value_declares false x t h e
  read_declares (FunctionPlace s) t h e = absurd (cc)

  address_declares : (a : PlaceType) (t : ValueType) → place_stands v a ≡ true → address_of a ≡ Some t → declares t ≡ true
  address_declares (DevicePlace c i) t h e = absurd (cc)
  address_declares (ObjectPlace c u x) t h e = ap declares (sym (same_Some (ToObject c u x) t e)) ∙ h
  address_declares (FunctionPlace s) t h e = ap declares (sym (same_Some (ToFunction s) t e)) ∙ h

  result_pointed : (o : Option Kind) → is_result o ≡ true → is_pointed_kind true o ≡ true
  result_pointed None h = absurd (cc)
  result_pointed (Some IsVoid) h = refl
  result_pointed (Some (IsScalar q n)) h = refl
  result_pointed (Some (IsStructure n)) h = absurd (cc)
  result_pointed (Some (IsArray n)) h = absurd (cc)
  result_pointed (Some IsIncomplete) h = absurd (cc)
  result_pointed (Some IsFunction) h = absurd (cc)

  result_by : (b : Bool) (u : CType) (t : ValueType) → is_result (kind_in v u) ≡ true → (if b then Some NoValue else scalar_value u) ≡ Some t → declares t ≡ true
  result_by true u t h e = ap declares (sym (same_Some NoValue t e))
  result_by false u t h e = value_declares true u t (result_pointed (kind_in v u) h) e

  call_declares : (t : ValueType) (ts : List CType) (r : ValueType) → CallOf t ts r → stands v t ≡ true → declares r ≡ true
  call_declares _ _ _ (OfSig sig r e) h =
      result_by (is_void_shape (out-Shape (out-Sig sig).result.shape)) (out-Sig sig).result r (first_true (is_result (kind_in v (out-Sig sig).result)) _ (sym (sig-opens v sig) ∙ h)) e

  pub callee_declares : (t r : ValueType) (ts : List CType) → CallOf t ts r → stands v t ≡ true → declares t ≡ true
  callee_declares _ _ _ (OfSig sig r e) h = h

  -- ---- pointer types

  type_pointer : (u : CType) (x : shape.Shape-F Shape CType Sig) (t : ValueType) → out-Shape u.shape ≡ x → pointer_in (is_plain_scalar (kind_in v u)) x ≡ Some t → (stands v t ≡ true) × (points_to_void t ≡ false)
  type_pointer u (shape.Pointer to) t f h =
      let y = passes (is_plain_scalar (kind_in v u)) (pointer_to to) t h in
      let k = plain_pointed v (kind_in v u) y.test in
      (ap (stands v) (sym y.is) ∙ pointer_stands v true u to f k, ap points_to_void (sym y.is) ∙ pointer_no_void true u to f k)
  type_pointer u shape.Void t f h = absurd (cc)
  type_pointer u (shape.Int i) t f h = absurd (cc)
  type_pointer u (shape.Array of n) t f h = absurd (cc)
  type_pointer u (shape.Struct i) t f h = absurd (cc)
  type_pointer u (shape.Func s) t f h = absurd (cc)

  plain_void : (to : CType) (x : shape.Shape-F Shape CType Sig) → out-Shape to.shape ≡ x → is_void_shape x ≡ true → is_unqualified to ≡ true → stands v (pointer_shape to x) ≡ true
  plain_void to shape.Void e h k =
      let c : is_const to ≡ to.constant = const-opens to ∙ ap (λ y. to.constant || of_element (parts_const y)) e ∙ or_false to.constant in
      let u : is_volatile to ≡ to.volatile = volatile-opens to ∙ ap (λ y. to.volatile || of_element (parts_volatile y)) e ∙ or_false to.volatile in
      ap (λ (o : Option Kind). is_pointed_kind (not (is_const to || is_volatile to)) o) (void_kind to (ap is_void_shape e))
      ∙ (ap (λ (b : Bool). not (b || is_volatile to)) c ∙ ap (λ (b : Bool). not (to.constant || b)) u ∙ k)
  plain_void to (shape.Int i) e h k = absurd (cc)
  plain_void to (shape.Pointer t) e h k = absurd (cc)
  plain_void to (shape.Array of n) e h k = absurd (cc)
  plain_void to (shape.Struct i) e h k = absurd (cc)
  plain_void to (shape.Func s) e h k = absurd (cc)

  void_pointer_stands : (b : Bool) (x : shape.Shape-F Shape CType Sig) (t : ValueType) → void_pointer_in b x ≡ Some t → stands v t ≡ true
  void_pointer_stands b (shape.Pointer to) t h =
      let y = passes (b && (is_void to && is_unqualified to)) (pointer_to to) t h in
      let k = second_true b (is_void to && is_unqualified to) y.test in
      ap (stands v) (sym y.is) ∙ plain_void to (out-Shape to.shape) refl (first_true (is_void to) (is_unqualified to) k) (second_true (is_void to) (is_unqualified to) k)
  void_pointer_stands b shape.Void t h = absurd (cc)
  void_pointer_stands b (shape.Int i) t h = absurd (cc)
  void_pointer_stands b (shape.Array of n) t h = absurd (cc)
  void_pointer_stands b (shape.Struct i) t h = absurd (cc)
  void_pointer_stands b (shape.Func s) t h = absurd (cc)

  first_stands : (a b : Option ValueType) (t : ValueType) → ((u : ValueType) → a ≡ Some u → stands v u ≡ true) → ((u : ValueType) → b ≡ Some u → stands v u ≡ true) → first_of a b ≡ Some t → stands v t ≡ true
  first_stands None b t f g h = g t h
  first_stands (Some a) b t f g h = f t h

  null_stands : (c : CType) (t : ValueType) → null_type v c ≡ Some t → stands v t ≡ true
  null_stands c t h = first_stands (void_pointer_in (is_unqualified c) (out-Shape c.shape)) (pointer_type v c) t (void_pointer_stands (is_unqualified c) (out-Shape c.shape)) (λ u e. (type_pointer c (out-Shape c.shape) u refl e).0) h

  assigned_stands : (c : CType) (to : Option ValueType) (u t : ValueType) → pointer_type v c ≡ to → when_assignable to u ≡ Some t → (stands v t ≡ true) × (points_to_void t ≡ false)
  assigned_stands c None u t e h = absurd (cc)
  assigned_stands c (Some to) u t e h =
      let y = passes (is_assignable to u) to t h in
      subst (λ (z : ValueType). (stands v z ≡ true) × (points_to_void z ≡ false)) y.is (type_pointer c (out-Shape c.shape) to refl e)

  complete_no_void : (structures : List Structure) (t : CType) (w : Bool) → is_void t ≡ w → is_complete structures t ≡ true → w ≡ false
  complete_no_void structures t false e h = refl
  complete_no_void structures t true e h =
      let k = complete-opens structures t ∙ ap (λ x. complete_shape structures (parts_complete structures x)) (void_at (out-Shape t.shape) e) in
      let c : false ≡ true = sym k ∙ h in absurd (cc)

  object_no_void : (structures : List Structure) (t : ValueType) → points_to_object structures t ≡ true → points_to_void t ≡ false
  object_no_void structures NoValue h = absurd (cc)
  object_no_void structures (Integer i) h = absurd (cc)
  object_no_void structures (ToObject c u t) h = complete_no_void structures t (is_void t) refl h
  object_no_void structures (ToFunction s) h = absurd (cc)

  -- ---- choices

  abbrev Stand : ValueType → Type 0
  Stand r = (stands v r ≡ true) × (points_to_void r ≡ false)

  pointer_if : (b : Bool) (c u c' u' : Bool) (t : CType) (r : ValueType) → (b ≡ true → is_void t ≡ false) → stands v (ToObject c u t) ≡ true → (if b then ToObject (c || c') (u || u') t else NoValue) ≡ r → Stand r
  pointer_if true c u c' u' t r n h e =
      subst Stand e (any_pointed v (not ((c || c') || (u || u'))) (kind_in v t) (not_void v (not (c || u)) t (n refl) h), n refl)
  pointer_if false c u c' u' t r n h e = subst Stand e (refl, refl)

  integer_if : (b : Bool) (i : IntType) (r : ValueType) → (if b then Integer i else NoValue) ≡ r → Stand r
  integer_if true i r e = subst Stand e (refl, refl)
  integer_if false i r e = subst Stand e (refl, refl)

  function_if : (b : Bool) (s : Sig) (r : ValueType) → stands v (ToFunction s) ≡ true → (if b then ToFunction s else NoValue) ≡ r → Stand r
  function_if true s r h e = subst Stand e (h, refl)
  function_if false s r h e = subst Stand e (refl, refl)

  none : (r : ValueType) → NoValue ≡ r → Stand r
  none r e = subst Stand e (refl, refl)

  not_true : (b : Bool) → not b ≡ true → b ≡ false
  not_true true h = absurd (cc)
  not_true false h = refl

  common_stands : (a b r : ValueType) → stands v a ≡ true → common_type v.target a b ≡ r → Stand r
  common_stands NoValue b r h e = none r e
  common_stands (Integer i) NoValue r h e = none r e
  common_stands (Integer i) (Integer j) r h e = integer_if (same_int i j && is_promoted v.target i) i r e
  common_stands (Integer i) (ToObject c u t) r h e = none r e
  common_stands (Integer i) (ToFunction s) r h e = none r e
  common_stands (ToObject c u t) NoValue r h e = none r e
  common_stands (ToObject c u t) (Integer i) r h e = none r e
  common_stands (ToObject c u t) (ToObject c' u' x) r h e = pointer_if (alike t x && not (is_void t)) c u c' u' t r (λ k. not_true (is_void t) (second_true (alike t x) (not (is_void t)) k)) h e
  common_stands (ToObject c u t) (ToFunction s) r h e = none r e
  common_stands (ToFunction s) NoValue r h e = none r e
  common_stands (ToFunction s) (Integer i) r h e = none r e
  common_stands (ToFunction s) (ToObject c u t) r h e = none r e
  common_stands (ToFunction s) (ToFunction g) r h e = function_if (same_sig s g) s r h e

  intrinsic_stands : (i : Intrinsic) (r : ValueType) → intrinsic_type i None ≡ Some r → Stand r
  intrinsic_stands intr.Off r h = none r (same_Some NoValue r h)
  intrinsic_stands intr.On r h = none r (same_Some NoValue r h)
  intrinsic_stands intr.Save r h = subst Stand (same_Some (Integer int.UChar) r h) (refl, refl)
  intrinsic_stands intr.Restore r h = absurd (cc)

  restore_stands : (i : Intrinsic) (t r : ValueType) → intrinsic_type i (Some (Some t)) ≡ Some r → Stand r
  restore_stands intr.Restore t r h = none r (passes (is_of int.UChar t) NoValue r h).is
  restore_stands intr.Off t r h = absurd (cc)
  restore_stands intr.On t r h = absurd (cc)
  restore_stands intr.Save t r h = absurd (cc)

  subscripted : (b : Bool) (x : Option PlaceType) (t : PlaceType) → (if b then x else None) ≡ Some t → x ≡ Some t
  subscripted true x t h = h
  subscripted false x t h = absurd (cc)

  -- ---- all expressions

  module _ (locals : List Named) (members : MembersStand v) (locals_stand : (r : ℕ) (l : Named) → slice_get locals r ≡ Some l → is_pointed_kind false (kind_in v l.1) ≡ true)
      (statics : (i : ℕ) (t : PlaceType) → v.statics i ≡ Some t → place_stands v t ≡ true) (devices : (i : ℕ) (t : PlaceType) → v.devices i ≡ Some t → place_stands v t ≡ true)
      (functions : (i : ℕ) (t : ValueType) → v.functions i ≡ Some t → Stand t) where
    abbrev typed : Expr → Option ValueType
    typed e = type_of v locals e

    abbrev placed : Place → Option PlaceType
    placed a = place_type v locals a

    abbrev Stands : Expr → Type 0
    Stands e = (t : ValueType) → typed e ≡ Some t → stands v t ≡ true

    abbrev PlaceStands : Place → Type 0
    PlaceStands a = (t : PlaceType) → placed a ≡ Some t → place_stands v t ≡ true

    -- but for nulls and commas
    declared_at : (x : one.Expr-F Expr Place) → Parts Stands PlaceStands x → is_declared x ≡ true → (t : ValueType) → type_at v locals x ≡ Some t → declares t ≡ true
    declared_at (one.Const n i) h d t k = integer_declares i t (passes (is_value_of i v.target n) (Integer i) t k).is
    declared_at (one.Null c) h d t k = absurd (cc)
    declared_at (one.FuncAddr g) h d t k = let s = functions g t k in declares_by t s.0 s.1
    declared_at (one.Load a) h d t k = let x = has_one (placed a) read_from t k in read_declares x.first t (h x.first x.is) x.gives
    declared_at (one.AddrOf a) h d t k = let x = has_one (placed a) address_of t k in address_declares x.first t (h x.first x.is) x.gives
    declared_at (one.Un o i a) h d t k = let x = has_one (typed a) (unary_type v.target o i) t k in integer_declares (unary_result o i) t (passes (is_promoted v.target i && is_of i x.first) (Integer (unary_result o i)) t x.gives).is
    declared_at (one.Bin o i a b) h d t k =
        let x = has_two (typed a) (typed b) (binary_type v.target o i) t k in
        integer_declares (binary_result o i) t (passes (is_promoted v.target i && (is_of i x.first && second_fits v.target o i x.second)) (Integer (binary_result o i)) t x.gives).is
    declared_at (one.Conv i a) h d t k = let x = has_one (typed a) (conversion_type i) t k in integer_declares i t (passes (is_integer x.first) (Integer i) t x.gives).is
    declared_at (one.Qualify c a) h d t k =
        let x = has_one (typed a) (qualified_type v c) t k in
        let s = assigned_stands c (pointer_type v c) x.first t refl x.gives in declares_by t s.0 s.1
    declared_at (one.Move a b back) h d t k =
        let x = has_two (typed a) (typed b) (moved_type v.structures) t k in
        let y = passes (points_to_object v.structures x.first && is_integer x.second) x.first t x.gives in
        subst (λ (z : ValueType). declares z ≡ true) y.is (declares_by x.first (h.0 x.first x.is_first) (object_no_void v.structures x.first (first_true (points_to_object v.structures x.first) (is_integer x.second) y.test)))
    declared_at (one.Gap a b) h d t k =
        let x = has_two (typed a) (typed b) (gap_type v.structures v.target) t k in
        integer_declares (difference_type v.target) t (passes (point_alike x.first x.second && has_difference v.structures x.first) (Integer (difference_type v.target)) t x.gives).is
    declared_at (one.Compare o a b) h d t k =
        let x = has_two (typed a) (typed b) (comparison_type o) t k in integer_declares int.Int t (passes (is_comparison o && point_alike x.first x.second) (Integer int.Int) t x.gives).is
    declared_at (one.Both a b) h d t k = let x = has_two (typed a) (typed b) logical_type t k in integer_declares int.Int t (passes (is_scalar x.first && is_scalar x.second) (Integer int.Int) t x.gives).is
    declared_at (one.Either a b) h d t k = let x = has_two (typed a) (typed b) logical_type t k in integer_declares int.Int t (passes (is_scalar x.first && is_scalar x.second) (Integer int.Int) t x.gives).is
    declared_at (one.Choose c a b) h d t k =
        let x = has_one (typed c) (λ c. of_two (typed a) (typed b) (choice_type v.target c)) t k in
        let y = has_two (typed a) (typed b) (choice_type v.target x.first) t x.gives in
        let z = passes (is_scalar x.first) (common_type v.target y.first y.second) t y.gives in
        let s = common_stands y.first y.second t (h.1 y.first y.is_first) z.is in declares_by t s.0 s.1
    declared_at (one.Assign a b) h d t k =
        let y = has_two (of_one (placed a) written_to) (typed b) assignment_type t k in
        let z = has_one (placed a) written_to y.first y.is_first in
        read_declares z.first t (h.0 z.first z.is) (written_reads z.first y.first z.gives ∙ ap Some (passes (is_assignable y.first y.second) y.first t y.gives).is)
    declared_at (one.Change a o i b) h d t k =
        let y = has_two (of_one (placed a) written_to) (typed b) (change_type v.structures v.target o i) t k in
        let z = has_one (placed a) written_to y.first y.is_first in
        read_declares z.first t (h.0 z.first z.is) (written_reads z.first y.first z.gives ∙ ap Some (change_is v.structures v.target o i y.first y.second t y.gives).is)
    declared_at (one.After a down) h d t k =
        let y = has_one (of_one (placed a) written_to) (after_type v.structures) t k in
        let z = has_one (placed a) written_to y.first y.is in
        read_declares z.first t (h z.first z.is) (written_reads z.first y.first z.gives ∙ ap Some (passes (is_integer y.first || points_to_object v.structures y.first) y.first t y.gives).is)
    declared_at (one.Call g args) h d t k =
        let x = has_one (typed g) (λ t. call_type t (map typed args)) t k in
        let y = is_call x.first (map typed args) t x.gives in
        call_declares x.first y.params t y.of (h.0 x.first x.is)
    declared_at (one.Intr i None) h d t k = let s = intrinsic_stands i t k in declares_by t s.0 s.1
    declared_at (one.Intr i (Some a)) h d t k = let x = is_restored i (typed a) t k in let s = restore_stands i x.type t x.gives in declares_by t s.0 s.1
    declared_at (one.Seq a b) h d t k = absurd (cc)

    stands_at : (x : one.Expr-F Expr Place) → Parts Stands PlaceStands x → (b : Bool) → is_declared x ≡ b → (t : ValueType) → type_at v locals x ≡ Some t → stands v t ≡ true
    stands_at x h true e t k = declared_stands t (declared_at x h e t k)
    stands_at (one.Null c) h false e t k = null_stands c t k
    stands_at (one.Seq a b) h false e t k = let x = has_two (typed a) (typed b) (λ a b. Some b) t k in subst (λ (z : ValueType). stands v z ≡ true) (same_Some x.second t x.gives) (h.1 x.second x.is_second)
    stands_at (one.Const n i) h false e t k = absurd (cc)
    stands_at (one.FuncAddr g) h false e t k = absurd (cc)
    stands_at (one.Load a) h false e t k = absurd (cc)
    stands_at (one.AddrOf a) h false e t k = absurd (cc)
    stands_at (one.Un o i a) h false e t k = absurd (cc)
    stands_at (one.Bin o i a b) h false e t k = absurd (cc)
    stands_at (one.Conv i a) h false e t k = absurd (cc)
    stands_at (one.Qualify c a) h false e t k = absurd (cc)
    stands_at (one.Move a b back) h false e t k = absurd (cc)
    stands_at (one.Gap a b) h false e t k = absurd (cc)
    stands_at (one.Compare o a b) h false e t k = absurd (cc)
    stands_at (one.Both a b) h false e t k = absurd (cc)
    stands_at (one.Either a b) h false e t k = absurd (cc)
    stands_at (one.Choose c a b) h false e t k = absurd (cc)
    stands_at (one.Assign a b) h false e t k = absurd (cc)
    stands_at (one.Change a o i b) h false e t k = absurd (cc)
    stands_at (one.After a down) h false e t k = absurd (cc)
    stands_at (one.Call g args) h false e t k = absurd (cc)
    stands_at (one.Intr i a) h false e t k = absurd (cc)

    local_by : (o : Option Named) (t : PlaceType) → ((l : Named) → o ≡ Some l → is_pointed_kind false (kind_in v l.1) ≡ true) → option_map (λ (l : Named). object_place l.1) o ≡ Some t → place_stands v t ≡ true
    local_by None t f h = absurd (cc)
    local_by (Some l) t f h = subst (λ (z : PlaceType). place_stands v z ≡ true) (same_Some (object_place l.1) t h) (f l refl)

    place_stands_at : (x : one.Place-F Expr Place) → PlaceParts Stands PlaceStands x → (t : PlaceType) → place_at v locals x ≡ Some t → place_stands v t ≡ true
    place_stands_at (one.Local r) h t k = local_by (slice_get locals r) t (locals_stand r) k
    place_stands_at (one.Static i) h t k = statics i t k
    place_stands_at (one.Device i) h t k = devices i t k
    place_stands_at (one.Element a i) h t k =
        let x = has_two (placed a) (typed i) subscript_type t k in
        elements_stand v x.first t (h.0 x.first x.is_first) (subscripted (is_integer x.second) (element_of x.first) t x.gives)
    place_stands_at (one.Member a m) h t k = let x = has_one (placed a) (member_of v.structures m) t k in members_stand v members m x.first t x.gives
    place_stands_at (one.Deref e) h t k = let x = has_one (typed e) pointed_to t k in pointed_stands v x.first t (h x.first x.is) x.gives

    level : (x : one.Expr-F Expr Place) → Parts Stands PlaceStands x → Stands (roll-Expr x)
    level x h t k = stands_at x h (is_declared x) refl t (sym (type-roll v locals x) ∙ k)

    place_level : (x : one.Place-F Expr Place) → PlaceParts Stands PlaceStands x → PlaceStands (roll-Place x)
    place_level x h t k = place_stands_at x h t (sym (place-roll v locals x) ∙ k)

    pub all_stand : (e : Expr) (t : ValueType) → typed e ≡ Some t → stands v t ≡ true
    all_stand e = by_expr Stands PlaceStands level place_level e

    pub all_place_stand : (a : Place) (t : PlaceType) → placed a ≡ Some t → place_stands v t ≡ true
    all_place_stand a = by_place Stands PlaceStands level place_level a

    all_parts : (x : one.Expr-F Expr Place) → Parts Stands PlaceStands x
    all_parts x = every_part Stands PlaceStands all_stand all_place_stand x

    pub all_declare : (x : one.Expr-F Expr Place) (t : ValueType) → is_declared x ≡ true → typed (roll-Expr x) ≡ Some t → declares t ≡ true
    all_declare x t d k = declared_at x (all_parts x) d t (sym (type-roll v locals x) ∙ k)
