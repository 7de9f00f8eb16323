-- No array has elements of its own type, outermost qualifiers aside. So the text of an address has a last index exactly
-- where the address names an element of the array at the end of its path.
use Rattle.std.proofs.Common.{◌≡◌, ℕ, Bool, true, false, ◌&&◌, Some, refl, ap, sym, ◌∙◌, true≢false}
use Rattle.cc_lex.proofs.Booleans.{and-true}
use Rattle.cc_print.specs.Values.{is_element, has_elements}
use Rattle.cc_program.specs.Qualifiers.{is_const, is_volatile}
use Rattle.cc_program.specs.declared.types.CType.{CType, fold_out-CType}
use Rattle.cc_program.specs.declared.types.Shape.{Shape, roll-Shape, out-Shape, out-roll-Shape, map-Shape, fold_out-Shape}
use Rattle.cc_program.specs.declared.types.Shape.TheOpen as shape
use Rattle.cc_program.specs.declared.types.Sig.{Sig, roll-Sig}
use Rattle.cc_program.proofs.TypeInduction.{with_shape, TypeParts, SigParts, by_type}
use Rattle.cc_typed.specs.CcSyntax.Expressions.{of_one}
use Rattle.cc_typed.specs.CcSyntax.SameTypes.{Comparison, compare_shape, compare_type, compare_sig, comparison_of, shape_comparison, same_sig, alike, is_void_shape, is_int_shape, is_pointer_shape, is_array_shape, is_struct_shape, is_func_shape}
use Rattle.cc_typed.specs.CcSyntax.Values.{ToObject, PlaceType, DevicePlace, ObjectPlace, FunctionPlace, pointer_shape, pointer_to, element_shape, element_of, address_of, implies, is_assignable, is_assignable_some}

-- ---- a comparison, opened at a level

abbrev parts : shape.Shape-F Shape CType Sig → shape.Shape-F (Comparison Shape) (Comparison CType) (Sig → Bool)
parts x = map-Shape Shape CType Sig (Comparison Shape) (Comparison CType) (Sig → Bool) shape_comparison comparison_of same_sig x

shape-opens : (s : Shape) → shape_comparison s ≡ compare_shape (parts (out-Shape s))
unfolding shape_comparison comparison_of same_sig
shape-opens s = fold_out-Shape (Comparison Shape) (Comparison CType) (Sig → Bool) compare_shape compare_type compare_sig s

type-opens : (t : CType) → comparison_of t ≡ compare_type (record { constant = t.constant; volatile = t.volatile; shape = shape_comparison t.shape })
unfolding shape_comparison comparison_of same_sig
type-opens t = fold_out-CType (Comparison Shape) (Comparison CType) (Sig → Bool) compare_shape compare_type compare_sig t

alike-at : (c v : Bool) (x : shape.Shape-F Shape CType Sig) (u : CType) → alike (with_shape c v (roll-Shape x)) u ≡ (compare_shape (parts x)).alike u.shape
alike-at c v x u =
    ap (λ (k : Comparison CType). k.alike u) (type-opens (with_shape c v (roll-Shape x)))
    ∙ ap (λ (k : Comparison Shape). k.alike u.shape) (shape-opens (roll-Shape x) ∙ ap (λ y. compare_shape (parts y)) (out-roll-Shape x))

-- whether two levels are alike
abbrev are_alike : shape.Shape-F Shape CType Sig → shape.Shape-F Shape CType Sig → Bool
are_alike shape.Void y = is_void_shape y
are_alike (shape.Int i) y = is_int_shape i y
are_alike (shape.Pointer to) y = is_pointer_shape (comparison_of to).same y
are_alike (shape.Array of n) y = is_array_shape (alike of) n y
are_alike (shape.Struct i) y = is_struct_shape i y
are_alike (shape.Func s) y = is_func_shape (same_sig s) y

level-is : (x : shape.Shape-F Shape CType Sig) (s : Shape) → (compare_shape (parts x)).alike s ≡ are_alike x (out-Shape s)
level-is shape.Void s = refl
level-is (shape.Int i) s = refl
level-is (shape.Pointer to) s = refl
level-is (shape.Array of n) s = refl
level-is (shape.Struct i) s = refl
level-is (shape.Func f) s = refl

at-level : (c v : Bool) (x : shape.Shape-F Shape CType Sig) (u : CType) (y : shape.Shape-F Shape CType Sig) → out-Shape u.shape ≡ y → alike (with_shape c v (roll-Shape x)) u ≡ true → are_alike x y ≡ true
at-level c v x u y e h = sym (alike-at c v x u ∙ level-is x u.shape ∙ ap (are_alike x) e) ∙ h

-- ---- no array has elements of its own type

abbrev NoArray : CType → Type 0
NoArray t = (u e : CType) (n : ℕ) → out-Shape u.shape ≡ shape.Array e n → alike t u ≡ true → alike t e ≡ true → ⊥

abbrev Any : Sig → Type 0
Any s = Unit {0}

array-view : (f : CType → Bool) (m : ℕ) (y : shape.Shape-F Shape CType Sig) → is_array_shape f m y ≡ true → (e : CType) × (n : ℕ) × (y ≡ shape.Array e n) × (f e ≡ true)
array-view f m (shape.Array e n) h = (e, n, refl, (and-true _ (f e) h).1)
array-view f m shape.Void h = absurd (true≢false (sym h))
array-view f m (shape.Int i) h = absurd (true≢false (sym h))
array-view f m (shape.Pointer to) h = absurd (true≢false (sym h))
array-view f m (shape.Struct i) h = absurd (true≢false (sym h))
array-view f m (shape.Func s) h = absurd (true≢false (sym h))

no-array-level : (x : shape.Shape-F Shape CType Sig) → TypeParts NoArray Any x → (e : CType) (n : ℕ) → are_alike x (shape.Array e n) ≡ true → are_alike x (out-Shape e.shape) ≡ true → ⊥
no-array-level (shape.Array of m) h e n a b =
    let view = array-view (alike of) m (out-Shape e.shape) b in
    h e view.0 view.1 view.2 (and-true _ (alike of e) a).1 view.3
no-array-level shape.Void h e n a b = true≢false (sym a)
no-array-level (shape.Int i) h e n a b = true≢false (sym a)
no-array-level (shape.Pointer to) h e n a b = true≢false (sym a)
no-array-level (shape.Struct i) h e n a b = true≢false (sym a)
no-array-level (shape.Func s) h e n a b = true≢false (sym a)

made : (c v : Bool) (x : shape.Shape-F Shape CType Sig) → TypeParts NoArray Any x → NoArray (with_shape c v (roll-Shape x))
made c v x h u e n k a b = no-array-level x h e n (at-level c v x u (shape.Array e n) k a) (at-level c v x e (out-Shape e.shape) refl b)

made-sig : (x : shape.Sig-F Shape CType Sig) → SigParts NoArray Any x → Any (roll-Sig x)
made-sig x h = tt

no-array : (t : CType) → NoArray t
no-array = by_type NoArray Any made made-sig

-- ---- what is pointed to

pointed-alike : (to t : CType) (c v : Bool) (y : shape.Shape-F Shape CType Sig) → is_assignable (pointer_shape to y) (ToObject c v t) ≡ true → alike to t ≡ true
pointed-alike to t c v (shape.Func s) h = absurd (true≢false (sym h))
pointed-alike to t c v shape.Void h = (and-true (alike to t) (implies c (is_const to) && implies v (is_volatile to)) h).0
pointed-alike to t c v (shape.Int i) h = (and-true (alike to t) (implies c (is_const to) && implies v (is_volatile to)) h).0
pointed-alike to t c v (shape.Pointer u) h = (and-true (alike to t) (implies c (is_const to) && implies v (is_volatile to)) h).0
pointed-alike to t c v (shape.Array of n) h = (and-true (alike to t) (implies c (is_const to) && implies v (is_volatile to)) h).0
pointed-alike to t c v (shape.Struct i) h = (and-true (alike to t) (implies c (is_const to) && implies v (is_volatile to)) h).0

-- an element is named: the array has elements of the pointed-to type
elements-named : (to : CType) (c v : Bool) (x : shape.Shape-F Shape CType Sig) → is_assignable_some (Some (pointer_to to)) (of_one (element_shape c v x) address_of) ≡ true → is_element to (element_shape c v x) ≡ true
elements-named to c v (shape.Array of n) h = pointed-alike to of c v (out-Shape to.shape) h
elements-named to c v shape.Void h = absurd (true≢false (sym h))
elements-named to c v (shape.Int i) h = absurd (true≢false (sym h))
elements-named to c v (shape.Pointer u) h = absurd (true≢false (sym h))
elements-named to c v (shape.Struct i) h = absurd (true≢false (sym h))
elements-named to c v (shape.Func s) h = absurd (true≢false (sym h))

pub element-named : (to : CType) (a : PlaceType) → is_assignable_some (Some (pointer_to to)) (of_one (element_of a) address_of) ≡ true → has_elements to (Some a) ≡ true
element-named to (DevicePlace c i) h = absurd (true≢false (sym h))
element-named to (FunctionPlace s) h = absurd (true≢false (sym h))
element-named to (ObjectPlace c v t) h = elements-named to c v (out-Shape t.shape) h

-- the whole is named: it has no elements of the pointed-to type
no-elements : (to t : CType) (c v : Bool) (x : shape.Shape-F Shape CType Sig) → out-Shape t.shape ≡ x → alike to t ≡ true → is_element to (element_shape c v x) ≡ false
no-elements to t c v (shape.Array of n) e h = by (alike to of) refl where
  by : (b : Bool) → alike to of ≡ b → b ≡ false
  by false k = refl
  by true k = absurd (no-array to t of n e h k)
no-elements to t c v shape.Void e h = refl
no-elements to t c v (shape.Int i) e h = refl
no-elements to t c v (shape.Pointer u) e h = refl
no-elements to t c v (shape.Struct i) e h = refl
no-elements to t c v (shape.Func s) e h = refl

pub whole-named : (to : CType) (a : PlaceType) → is_assignable_some (Some (pointer_to to)) (address_of a) ≡ true → has_elements to (Some a) ≡ false
whole-named to (DevicePlace c i) h = refl
whole-named to (FunctionPlace s) h = refl
whole-named to (ObjectPlace c v t) h = no-elements to t c v (out-Shape t.shape) refl (pointed-alike to t c v (out-Shape to.shape) h)
