-- Which types stand: those that declarators derive of types that stand, and those with other qualifiers.
use Rattle.std.proofs.Common.{◌≡◌, ℕ, ◌*◌, Bool, true, false, ◌&&◌, ◌||◌, List, length, map, Option, Some, None, refl, ap, sym, ◌∙◌}
use Rattle.std.specs.Prelude.{nat_le, nat_lt, slice_get, unwrap_or, option_map, if◌then◌else◌}
use Rattle.std.specs.List.{list_all}
use Rattle.std.proofs.lemmas.Option.{same_Some, slice_get-map}
use Rattle.cc_program.specs.CcNum.Integers.{bytes_of}
use Rattle.cc_program.specs.CcNum.declared.int_type.IntType.{IntType}
use Rattle.cc_program.specs.declared.types.CType.{CType}
use Rattle.cc_program.specs.declared.types.Shape.{Shape, Void, Int, Pointer, Array, Struct, Func, out-Shape, roll-Shape, out-roll-Shape}
use Rattle.cc_program.specs.declared.types.Shape.TheVariants.{outs-Void, outs-Int, outs-Pointer, outs-Array, outs-Struct, outs-Func}
use Rattle.cc_program.specs.declared.types.Shape.TheOpen as shape
use Rattle.cc_program.specs.declared.types.Sig.{Sig, roll-Sig, out-roll-Sig}
use Rattle.cc_program.specs.declared.types.Structure.{Structure}
use Rattle.cc_program.proofs.TypeInduction.{with_shape, TypeParts, by_type}
use Rattle.cc_terms.specs.CcOperands.Qualified.{plain, is_function_type, at_element, further, qualified_by}
use Rattle.cc_terms.specs.CcScopes.State.{State, KnownStructure, members_or_none, as_structure, structures_of, layouts_of}
use Rattle.cc_terms.specs.CcSpecifiers.Bounds.{is_bound}
use Rattle.cc_terms.specs.CcSpecifiers.Objects.{size_of, is_object}
use Rattle.cc_terms.specs.CcSyntax.Kinds.{Kind, IsVoid, IsScalar, IsStructure, IsArray, IsIncomplete, IsFunction, bytes_in, is_small, pointer_kind, array_kind, is_result, is_plain_scalar, is_object_kind, is_object_type, extent_kind, qualified_kind, shape_kind, kind_of, is_sig}
use Rattle.cc_terms.specs.CcSyntax.Layout.{nothing, shape_layout, type_layout}
use Rattle.cc_terms.specs.CcSyntax.SameTypes.{is_func_shape}
use Rattle.cc_terms.specs.CcSyntax.Types.{Named, has_members, complete_shape, is_complete}
use Rattle.cc_terms.specs.CcSyntax.Values.{is_void}
use Rattle.cc_terms.specs.CcSyntax.declared.sizes.Layout.{Layout}
use Rattle.cc_terms.proofs.CcSyntax.Prefixes.{both_true}
use Rattle.cc_terms.proofs.CcSyntax.TypeLayouts.{parts_layout, layout-roll, parts_complete, complete-roll}
use Rattle.cc_terms.specs.CcSyntax.Views.{View, kind_in}
use Rattle.cc_operand_types.proofs.Requalified.{opens_as, shaped, kind_at, void_kind}
use Rattle.cc_operand_types.proofs.Standing.{sig-opens}
use Rattle.cc_sound_terms.specs.Knowing.{Stands, KnowsStructures}

some_kind : (a b : Kind) → Some a ≡ Some b → a ≡ b
some_kind a b h = same_Some a b h

small_if : (b : Bool) (n : ℕ) (k : Kind) → (if b then Some (IsArray n) else None) ≡ Some k → (b ≡ true) × (IsArray n ≡ k)
small_if true n k h = (refl, some_kind (IsArray n) k h)
small_if false n k h = absurd (cc)

array_bytes : (q b : Bool) (n : ℕ) (k : Kind) → qualified_kind q (if b then Some (IsArray n) else None) ≡ Some k → bytes_in k ≡ Some n
array_bytes false true n k h = sym (ap bytes_in (some_kind (IsArray n) k h))
array_bytes true true n k h = absurd (cc)
array_bytes false false n k h = absurd (cc)
array_bytes true false n k h = absurd (cc)

pointer_bytes_are : (q : Bool) (n : ℕ) (e k : Kind) → qualified_kind q (pointer_kind n e) ≡ Some k → bytes_in k ≡ Some n
pointer_bytes_are q n IsVoid k h = absurd (cc)
pointer_bytes_are q n (IsScalar f m) k h = sym (ap bytes_in (some_kind (IsScalar q n) k h))
pointer_bytes_are q n (IsStructure m) k h = sym (ap bytes_in (some_kind (IsScalar q n) k h))
pointer_bytes_are q n (IsArray m) k h = sym (ap bytes_in (some_kind (IsScalar q n) k h))
pointer_bytes_are q n IsIncomplete k h = sym (ap bytes_in (some_kind (IsScalar q n) k h))
pointer_bytes_are q n IsFunction k h = sym (ap bytes_in (some_kind (IsScalar q n) k h))

structure_bytes : (q : Bool) (x : Option (Option ℕ)) (n : ℕ) (k : Kind) → x ≡ Some (Some n) → qualified_kind q (extent_kind x) ≡ Some k → bytes_in k ≡ Some n
structure_bytes q x n k e h = sym (ap bytes_in (some_kind (IsStructure n) k (sym (ap (λ (y : Option (Option ℕ)). qualified_kind q (extent_kind y)) e) ∙ h)))

-- ---- how many bytes a complete type has

module _ (p : View) (structures : List Structure) (layouts : List Layout)
    (sizes : (i : ℕ) → has_members (slice_get structures i) ≡ true → p.extents i ≡ Some (Some (unwrap_or (slice_get layouts i) nothing).size)) where
  abbrev IsSized : CType → Type 0
  IsSized t = (k : Kind) → kind_in p t ≡ Some k → is_complete structures t ≡ true → bytes_in k ≡ Some (type_layout p.target layouts t).size

  pointer_sized : (q : Bool) (o : Option Kind) (k : Kind) → qualified_kind q (shape_kind p.target p.extents (shape.Pointer o)) ≡ Some k → bytes_in k ≡ Some p.target.pointer_bytes
  pointer_sized q None k h = absurd (cc)
  pointer_sized q (Some e) k h = pointer_bytes_are q p.target.pointer_bytes e k h

  array_sized : (q : Bool) (n size : ℕ) (o : Option Kind) (k : Kind) → ((e : Kind) → o ≡ Some e → bytes_in e ≡ Some size) → qualified_kind q (shape_kind p.target p.extents (shape.Array o n)) ≡ Some k → bytes_in k ≡ Some (n * size)
  array_sized q n size None k f h = absurd (cc)
  array_sized q n size (Some e) k f h =
      array_bytes q (nat_le 1 n && (nat_le n 65535 && is_small size)) (n * size) k (sym (ap (λ (b : Option ℕ). qualified_kind q (array_kind n b)) (f e refl)) ∙ h)

  shape_sized : (q : Bool) (x : shape.Shape-F Shape CType Sig) → TypeParts IsSized (λ s. Unit {0}) x → (k : Kind) → qualified_kind q (shaped p x) ≡ Some k → complete_shape structures (parts_complete structures x) ≡ true →
      bytes_in k ≡ Some (shape_layout p.target layouts (parts_layout p.target layouts x)).size
  shape_sized q shape.Void h k e c = absurd (cc)
  shape_sized q (shape.Int t) h k e c = sym (ap bytes_in (some_kind (IsScalar q (bytes_of t p.target)) k e))
  shape_sized q (shape.Pointer to) h k e c = pointer_sized q (kind_in p to) k e
  shape_sized q (shape.Array of n) h k e c =
      array_sized q n (type_layout p.target layouts of).size (kind_in p of) k (λ d g. h d g (both_true (nat_lt 0 n) (is_complete structures of) c).1) e
  shape_sized q (shape.Struct i) h k e c = structure_bytes q (p.extents i) (unwrap_or (slice_get layouts i) nothing).size k (sizes i c) e
  shape_sized q (shape.Func s) h k e c = absurd (cc)

  pub sized : (t : CType) → IsSized t
  sized = by_type IsSized (λ s. Unit {0})
      (λ c v x h k e g.
      shape_sized (c || v) x h k (sym (kind_at p (with_shape c v (roll-Shape x)) x (out-roll-Shape x)) ∙ e) (sym (complete-roll structures c v x) ∙ g)
      ∙ ap (λ (l : Layout). Some l.size) (sym (layout-roll p.target layouts c v x)))
      (λ x h. tt)

  -- an object's type, where it stands
  pub object_sized : (t : CType) (k : Kind) → kind_in p t ≡ Some k → is_object p.target structures layouts t ≡ true → (bytes_in k ≡ Some (size_of p.target structures layouts t)) × (is_small (size_of p.target structures layouts t) ≡ true)
  object_sized t k e h =
      let b = both_true (is_complete structures t) (is_small (size_of p.target structures layouts t)) h in
      (sized t k e b.0, b.1)

  pub object_stands : (t : CType) (k : Kind) → kind_in p t ≡ Some k → is_object p.target structures layouts t ≡ true → is_object_type (kind_in p t) ≡ true
  object_stands t k e h =
      let o = object_sized t k e h in
      ap is_object_type e ∙ ap is_object_kind o.0 ∙ o.1

-- ---- what a state knows of structures

content_size : (p : View) (i : ℕ) (s : State) (o : Option KnownStructure) → slice_get s.structures i ≡ o → KnowsStructures p s.structures → has_members (option_map as_structure o) ≡ true →
    p.extents i ≡ Some (Some (unwrap_or (option_map (λ k. k.layout) o) nothing).size)
content_size p i s None e w h = absurd (cc)
content_size p i s (Some k) e w h = content_of k.members refl h
  where
    content_of : (m : Option (List Named)) → k.members ≡ m → nat_lt 0 (length (members_or_none k.members)) ≡ true → p.extents i ≡ Some (Some k.layout.size)
    content_of None f g = let c : nat_lt 0 0 ≡ true = sym (ap (λ (o : Option (List Named)). nat_lt 0 (length (members_or_none o))) f) ∙ g in absurd (cc)
    content_of (Some ms) f g = ((w i k e).complete ms f (sym (ap (λ (o : Option (List Named)). nat_lt 0 (length (members_or_none o))) f) ∙ g)).bytes

pub sizes_known : (p : View) (s : State) → KnowsStructures p s.structures → (i : ℕ) → has_members (slice_get (structures_of s) i) ≡ true → p.extents i ≡ Some (Some (unwrap_or (slice_get (layouts_of s) i) nothing).size)
sizes_known p s w i h =
    content_size p i s (slice_get s.structures i) refl w (sym (ap has_members (slice_get-map as_structure s.structures i)) ∙ h)
    ∙ ap (λ (o : Option Layout). Some (Some (unwrap_or o nothing).size)) (sym (slice_get-map (λ (k : KnownStructure). k.layout) s.structures i))

abbrev pub may_be_result : shape.Shape-F Shape CType Sig → Bool
may_be_result shape.Void = true
may_be_result (shape.Int t) = true
may_be_result (shape.Pointer to) = true
may_be_result (shape.Array of n) = false
may_be_result (shape.Struct i) = false
may_be_result (shape.Func s) = false

abbrev pub pointer_with : Bool → Bool → CType → CType
pointer_with c v t = record { constant = c; volatile = v; shape = Pointer t }

-- ---- derived types

module _ (p : View) where
  no_void_pointer : (n : ℕ) (k : Kind) → (k ≡ IsVoid → ⊥) → pointer_kind n k ≡ Some (IsScalar false n)
  no_void_pointer n IsVoid h = absurd (h refl)
  no_void_pointer n (IsScalar q m) h = refl
  no_void_pointer n (IsStructure m) h = refl
  no_void_pointer n (IsArray m) h = refl
  no_void_pointer n IsIncomplete h = refl
  no_void_pointer n IsFunction h = refl

  not_void_kind : (t : CType) (k : Kind) → kind_in p t ≡ Some k → is_void t ≡ false → k ≡ IsVoid → ⊥
  not_void_kind t k e h f = let c : true ≡ false = sym (void_kind p t (e ∙ ap (λ (z : Kind). Some z) f)) ∙ h in absurd (cc)

  pub pointer_kind_is : (c v : Bool) (t : CType) → Stands p t → is_void t ≡ false → kind_in p (pointer_with c v t) ≡ Some (IsScalar (c || v) p.target.pointer_bytes)
  pointer_kind_is c v t k h =
      kind_at p (pointer_with c v t) (shape.Pointer t) (outs-Pointer t)
      ∙ ap (λ (o : Option Kind). qualified_kind (c || v) (shape_kind p.target p.extents (shape.Pointer o))) k.1
      ∙ ap (qualified_kind (c || v)) (no_void_pointer p.target.pointer_bytes k.0 (not_void_kind t k.0 k.1 h))

  pub array_kind_is : (t : CType) (n size : ℕ) (k : Kind) → kind_in p t ≡ Some k → bytes_in k ≡ Some size → is_small size ≡ true → is_bound n ≡ true → kind_in p (plain (Array t n)) ≡ Some (IsArray (n * size))
  array_kind_is t n size k e f g h =
      let b = both_true (nat_le 1 n) (nat_le n 65535) h in
      kind_at p (plain (Array t n)) (shape.Array t n) (outs-Array t n)
      ∙ ap (λ (o : Option Kind). qualified_kind false (shape_kind p.target p.extents (shape.Array o n))) e
      ∙ ap (λ (o : Option ℕ). qualified_kind false (array_kind n o)) f
      ∙ ap (λ (d : Bool). qualified_kind false (if d && (nat_le n 65535 && is_small size) then Some (IsArray (n * size)) else None)) b.0
      ∙ ap (λ (d : Bool). qualified_kind false (if d && is_small size then Some (IsArray (n * size)) else None)) b.1
      ∙ ap (λ (d : Bool). qualified_kind false (if d then Some (IsArray (n * size)) else None)) g

  -- ---- functions

  result_by : (q : Bool) (n : ℕ) (e : Kind) (k : Kind) → qualified_kind q (pointer_kind n e) ≡ Some k → is_result (Some k) ≡ true
  result_by q n IsVoid k h = absurd (cc)
  result_by q n (IsScalar f m) k h = sym (ap (λ (z : Kind). is_result (Some z)) (some_kind (IsScalar q n) k h))
  result_by q n (IsStructure m) k h = sym (ap (λ (z : Kind). is_result (Some z)) (some_kind (IsScalar q n) k h))
  result_by q n (IsArray m) k h = sym (ap (λ (z : Kind). is_result (Some z)) (some_kind (IsScalar q n) k h))
  result_by q n IsIncomplete k h = sym (ap (λ (z : Kind). is_result (Some z)) (some_kind (IsScalar q n) k h))
  result_by q n IsFunction k h = sym (ap (λ (z : Kind). is_result (Some z)) (some_kind (IsScalar q n) k h))

  pointed_result : (q : Bool) (o : Option Kind) (k : Kind) → qualified_kind q (shape_kind p.target p.extents (shape.Pointer o)) ≡ Some k → is_result (Some k) ≡ true
  pointed_result q None k h = absurd (cc)
  pointed_result q (Some e) k h = result_by q p.target.pointer_bytes e k h

  result_at : (q : Bool) (x : shape.Shape-F Shape CType Sig) (k : Kind) → may_be_result x ≡ true → qualified_kind q (shaped p x) ≡ Some k → is_result (Some k) ≡ true
  result_at q shape.Void k h e = sym (ap (λ (z : Kind). is_result (Some z)) (some_kind IsVoid k e))
  result_at q (shape.Int t) k h e = sym (ap (λ (z : Kind). is_result (Some z)) (some_kind (IsScalar q (bytes_of t p.target)) k e))
  result_at q (shape.Pointer to) k h e = pointed_result q (kind_in p to) k e
  result_at q (shape.Array of n) k h e = absurd (cc)
  result_at q (shape.Struct i) k h e = absurd (cc)
  result_at q (shape.Func s) k h e = absurd (cc)

  pub result_is : (t : CType) → Stands p t → may_be_result (out-Shape t.shape) ≡ true → is_result (kind_in p t) ≡ true
  result_is t k h = ap is_result k.1 ∙ result_at (t.constant || t.volatile) (out-Shape t.shape) k.0 h (sym (kind_at p t (out-Shape t.shape) refl) ∙ k.1)

  pub sig_is : (result : CType) (params : List CType) → is_result (kind_in p result) ≡ true → list_all is_plain_scalar (map (kind_of p.target p.extents) params) ≡ true → is_sig p.target p.extents (roll-Sig (record { result = result; params = params })) ≡ true
  sig_is result params h g =
      sig-opens p (roll-Sig (record { result = result; params = params }))
      ∙ ap (λ (x : shape.Sig-F Shape CType Sig). is_result (kind_in p x.result) && list_all is_plain_scalar (map (kind_of p.target p.extents) x.params)) (out-roll-Sig (record { result = result; params = params }))
      ∙ ap (λ (b : Bool). b && list_all is_plain_scalar (map (kind_of p.target p.extents) params)) h
      ∙ g

  pub function_kind_is : (s : Sig) → is_sig p.target p.extents s ≡ true → kind_in p (plain (Func s)) ≡ Some IsFunction
  function_kind_is s h = kind_at p (plain (Func s)) (shape.Func s) (outs-Func s) ∙ ap (λ (b : Bool). qualified_kind false (shape_kind p.target p.extents (shape.Func b))) h

  -- ---- structures and basic types

  extent_stands : (o : Option ℕ) → (k : Kind) × (qualified_kind false (extent_kind (Some o)) ≡ Some k)
  extent_stands None = (IsIncomplete, refl)
  extent_stands (Some n) = (IsStructure n, refl)

  pub structure_stands : (i : ℕ) (o : Option ℕ) → p.extents i ≡ Some o → Stands p (plain (Struct i))
  structure_stands i o e =
      let k = extent_stands o in
      (k.0, kind_at p (plain (Struct i)) (shape.Struct i) (outs-Struct i) ∙ ap (λ (x : Option (Option ℕ)). qualified_kind false (extent_kind x)) e ∙ k.1)

  pub void_stands : Stands p (plain Void)
  void_stands = (IsVoid, kind_at p (plain Void) shape.Void outs-Void)

  pub int_stands : (t : IntType) → Stands p (plain (Int t))
  int_stands t = (IsScalar false (bytes_of t p.target), kind_at p (plain (Int t)) (shape.Int t) (outs-Int t))

  -- ---- further qualifiers

  -- qualifiers stand at all but arrays and functions
  abbrev takes_qualifiers : Option Kind → Bool
  takes_qualifiers None = true
  takes_qualifiers (Some IsVoid) = true
  takes_qualifiers (Some (IsScalar q n)) = true
  takes_qualifiers (Some (IsStructure n)) = true
  takes_qualifiers (Some (IsArray n)) = false
  takes_qualifiers (Some IsIncomplete) = true
  takes_qualifiers (Some IsFunction) = false

  -- a kind, with as many bytes
  abbrev Like : Option Kind → Kind → Type 0
  Like o k = (e : Kind) × (o ≡ Some e) × (bytes_in e ≡ bytes_in k)

  requalified : (q r : Bool) (s : Option Kind) (k : Kind) → takes_qualifiers s ≡ true → qualified_kind q s ≡ Some k → Like (qualified_kind r s) k
  requalified q r None k t h = absurd (cc)
  requalified q r (Some IsVoid) k t h = (IsVoid, refl, ap bytes_in (some_kind IsVoid k h))
  requalified q r (Some (IsScalar f n)) k t h = (IsScalar r n, refl, ap bytes_in (some_kind (IsScalar q n) k h))
  requalified q r (Some (IsStructure n)) k t h = (IsStructure n, refl, ap bytes_in (some_kind (IsStructure n) k h))
  requalified q r (Some (IsArray n)) k t h = absurd (cc)
  requalified q r (Some IsIncomplete) k t h = (IsIncomplete, refl, ap bytes_in (some_kind IsIncomplete k h))
  requalified q r (Some IsFunction) k t h = absurd (cc)

  pointer_takes : (n : ℕ) (e : Kind) → takes_qualifiers (pointer_kind n e) ≡ true
  pointer_takes n IsVoid = refl
  pointer_takes n (IsScalar q m) = refl
  pointer_takes n (IsStructure m) = refl
  pointer_takes n (IsArray m) = refl
  pointer_takes n IsIncomplete = refl
  pointer_takes n IsFunction = refl

  pointed_takes : (o : Option Kind) → takes_qualifiers (shape_kind p.target p.extents (shape.Pointer o)) ≡ true
  pointed_takes None = refl
  pointed_takes (Some e) = pointer_takes p.target.pointer_bytes e

  extent_takes : (x : Option (Option ℕ)) → takes_qualifiers (extent_kind x) ≡ true
  extent_takes None = refl
  extent_takes (Some None) = refl
  extent_takes (Some (Some n)) = refl

  module _ (c v : Bool) where
    abbrev Qualifies : CType → Type 0
    Qualifies t = (k : Kind) → kind_in p t ≡ Some k → Like (kind_in p (qualified_by c v t)) k

    abbrev with_more : CType → CType
    with_more t = record { constant = t.constant || c; volatile = t.volatile || v; shape = t.shape }

    simply : (t : CType) (x : shape.Shape-F Shape CType Sig) (k : Kind) → out-Shape t.shape ≡ x → takes_qualifiers (shaped p x) ≡ true → qualified_by c v t ≡ with_more t → kind_in p t ≡ Some k → Like (kind_in p (qualified_by c v t)) k
    simply t x k e h o f =
        let r = requalified (t.constant || t.volatile) ((t.constant || c) || (t.volatile || v)) (shaped p x) k h (sym (kind_at p t x e) ∙ f) in
        (r.0, ap (kind_in p) o ∙ kind_at p (with_more t) x e ∙ r.1, r.2)

    no_function : (t : CType) (b : Bool) → is_function_type t ≡ b → b ≡ false → further c v t ≡ with_more t
    no_function t b e h = ap (λ (z : Bool). if z then t else with_more t) (e ∙ h)

    array_like : (t of : CType) (n : ℕ) (e k : Kind) (f : Kind) → kind_in p (qualified_by c v of) ≡ Some f → bytes_in f ≡ bytes_in e → qualified_kind (t.constant || t.volatile) (shape_kind p.target p.extents (shape.Array (Some e) n)) ≡ Some k →
        Like (kind_in p (record { constant = t.constant; volatile = t.volatile; shape = Array (qualified_by c v of) n })) k
    array_like t of n e k f g b h = (
      k,
      kind_at p (record { constant = t.constant; volatile = t.volatile; shape = Array (qualified_by c v of) n }) (shape.Array (qualified_by c v of) n) (outs-Array (qualified_by c v of) n)
          ∙ ap (λ (o : Option Kind). qualified_kind (t.constant || t.volatile) (shape_kind p.target p.extents (shape.Array o n))) g
          ∙ ap (λ (o : Option ℕ). qualified_kind (t.constant || t.volatile) (array_kind n o)) b
          ∙ h,
      refl,
    )

    array_by : (t of : CType) (n : ℕ) (o : Option Kind) (k : Kind) → kind_in p of ≡ o → Qualifies of → qualified_kind (t.constant || t.volatile) (shape_kind p.target p.extents (shape.Array o n)) ≡ Some k →
        Like (kind_in p (record { constant = t.constant; volatile = t.volatile; shape = Array (qualified_by c v of) n })) k
    array_by t of n None k e h f = absurd (cc)
    array_by t of n (Some d) k e h f = let l = h d e in array_like t of n d k l.0 l.1 l.2 f

    level : (t : CType) (x : shape.Shape-F Shape CType Sig) → out-Shape t.shape ≡ x → TypeParts Qualifies (λ s. Unit {0}) x → Qualifies t
    unfolding at_element
    level t shape.Void e h = λ k f. simply t shape.Void k e refl (opens_as (further c v) t shape.Void e ∙ no_function t (is_function_type t) refl (ap (is_func_shape (λ sig. true)) e)) f
    level t (shape.Int i) e h = λ k f. simply t (shape.Int i) k e refl (opens_as (further c v) t (shape.Int i) e ∙ no_function t (is_function_type t) refl (ap (is_func_shape (λ sig. true)) e)) f
    level t (shape.Pointer to) e h = λ k f. simply t (shape.Pointer to) k e (pointed_takes (kind_in p to)) (opens_as (further c v) t (shape.Pointer to) e ∙ no_function t (is_function_type t) refl (ap (is_func_shape (λ sig. true)) e)) f
    level t (shape.Struct i) e h = λ k f. simply t (shape.Struct i) k e (extent_takes (p.extents i)) (opens_as (further c v) t (shape.Struct i) e ∙ no_function t (is_function_type t) refl (ap (is_func_shape (λ sig. true)) e)) f
    level t (shape.Func s) e h = λ k f. (k, ap (kind_in p) (opens_as (further c v) t (shape.Func s) e ∙ ap (λ (z : Bool). if z then t else with_more t) (ap (is_func_shape (λ sig. true)) e)) ∙ f, refl)
    level t (shape.Array of n) e h = λ k f.
        let l = array_by t of n (kind_in p of) k refl h (sym (kind_at p t (shape.Array of n) e) ∙ f) in
        (l.0, ap (kind_in p) (opens_as (further c v) t (shape.Array of n) e) ∙ l.1, l.2)

    pub qualifies : (t : CType) → Qualifies t
    qualifies = by_type Qualifies (λ s. Unit {0}) (λ a b x h. level (with_shape a b (roll-Shape x)) x (out-roll-Shape x) h) (λ x h. tt)

    pub qualified_stands : (t : CType) → Stands p t → Stands p (qualified_by c v t)
    qualified_stands t k = let l = qualifies t k.0 k.1 in (l.0, l.1)
