-- Each rule of types gives by other numbers what it gave, where its operands may lack qualifiers.
use Rattle.std.proofs.Common.{◌≡◌, ℕ, ℤ, Bool, true, false, not, ◌&&◌, ◌||◌, List, [], ◌∷◌, map, Option, Some, None, option_map, slice_get, refl, ap, sym, ◌∙◌, subst}
use Rattle.std.specs.Prelude.{if◌then◌else◌}
use Rattle.std.proofs.lemmas.Option.{same_Some}
use Rattle.cc_program.specs.CcNum.declared.int_type.IntType.{IntType}
use Rattle.cc_program.specs.CcNum.declared.int_type.IntType.TheVariants as int
use Rattle.cc_program.specs.CcNum.declared.op.BinOp.{BinOp}
use Rattle.cc_program.specs.CcNum.declared.op.UnOp.{UnOp}
use Rattle.cc_program.specs.CcNum.declared.target.Target.{Target}
use Rattle.cc_program.specs.CcNum.Integers.{is_value_of}
use Rattle.cc_program.specs.CcNum.Promotions.{promoted, usual_of}
use Rattle.cc_program.specs.CcNum.Results.{is_shift}
use Rattle.cc_program.specs.declared.expr.Intr.{Intr}
use Rattle.cc_program.specs.declared.expr.Intr.TheVariants as intr
use Rattle.cc_program.specs.declared.types.CType.{CType}
use Rattle.cc_program.specs.declared.types.Shape.{Shape, out-Shape}
use Rattle.cc_program.specs.declared.types.Shape.TheOpen as shape
use Rattle.cc_program.specs.declared.types.Sig.{Sig, out-Sig}
use Rattle.cc_program.specs.declared.types.Structure.{Structure}
use Rattle.cc_structures.proofs.WordLaws.{number_by, renumbered_level, level-renumbered, sig_level}
use Rattle.cc_operands.specs.CcSyntax.Operators.{when, first_of, pointer_in, void_pointer_in, is_unqualified, constant_type, unary_type, unary_result, binary_type, binary_result, conversion_type, when_assignable, moved_type, gap_type, difference_type, comparison_type, is_comparison, logical_type, choice_type, common_type, assignment_type, change_type, changes_by, after_type, call_type, intrinsic_type, subscript_type, is_promoted, is_promoted_value, is_of, is_integer, is_additive, second_fits, points_to_object, has_difference}
use Rattle.cc_operands.specs.CcSyntax.SameTypes.{same_int}
use Rattle.cc_operands.specs.CcSyntax.Types.{has_members, is_complete}
use Rattle.cc_operands.specs.CcSyntax.Values.{ValueType, NoValue, Integer, ToObject, ToFunction, PlaceType, is_scalar, is_void, point_alike, is_assignable, is_assignable_some, are_assignable, scalar_value, result_value, pointer_to, element_of, read_from, written_to, address_of, pointed_to, member_of}
use Rattle.cc_operand_types.proofs.Follows.{Gives, Follows}
use Rattle.cc_operand_types.proofs.ReducedPlaces.{address_reduced, pointed_reduced, member_reduced, read_reduced, written_reduced}
use Rattle.cc_operand_types.proofs.Rules as reduced
use Rattle.cc_operand_types.proofs.Rules.{each_of_two, second_of, AllFollow}
use Rattle.cc_operand_types.proofs.Values.{reduced_itself, scalar_reduced, common_reduced}
use Rattle.cc_unit.specs.Renumbered.{type_renumbered}
use Rattle.cc_operand_types.specs.Reduced.{Reduced, ReducedPlace}
use Rattle.cc_relocated_units.specs.Renumbering.{value_renumbered, place_type_renumbered, MemberTypes}
use Rattle.cc_relocated_units.proofs.Places.{element_exact, read_exact, written_exact, address_exact, pointed_exact, member_exact}
use Rattle.cc_relocated_units.proofs.Types.{void_kept, unqualified_kept, pointer_kept, scalar_kept, result_kept}
use Rattle.cc_relocated_units.proofs.Values.{reduced_through, of_same, promoted_same, integer_same, scalar_same, second_same, alike_exact, assigned_exact, common_exact, complete_exact, points_exact, difference_exact}

-- a type, and one by its numbers that may lack qualifiers
module _ (numbers : List ℕ) where
  abbrev pub Numbered : ValueType → ValueType → Type 0
  Numbered u t = Reduced u (value_renumbered numbers t)

  abbrev pub NumberedPlace : PlaceType → PlaceType → Type 0
  NumberedPlace b a = ReducedPlace b (place_type_renumbered numbers a)

module _ (numbers : List ℕ) (target : Target) (before after : List Structure)
    (kept : (k : ℕ) → has_members (slice_get before k) ≡ true → has_members (slice_get after (number_by numbers k)) ≡ true) where
  abbrev value : ValueType → ValueType
  value t = value_renumbered numbers t

  when_exact : (b c : Bool) (x y t : ValueType) → (b ≡ true → c ≡ true) → y ≡ value x → when b x ≡ Some t → when c y ≡ Some (value t)
  when_exact false c x y t h e f = absurd (cc)
  when_exact true c x y t h e f = ap (λ (d : Bool). when d y) (h refl) ∙ ap (λ (z : ValueType). Some z) (e ∙ ap (value_renumbered numbers) (same_Some x t f))

  pub constant_numbered : (n : ℤ) (i : IntType) (r : ValueType) → constant_type target n i ≡ Some r → Gives (Numbered numbers) (constant_type target n i) r
  constant_numbered n i r e = (value r, when_exact (is_value_of i target n) (is_value_of i target n) (Integer i) (Integer i) r (λ h. h) refl e, reduced_itself (value r))

  pub unary_numbered : (o : UnOp) (i : IntType) (t u : ValueType) → Numbered numbers u t → (r : ValueType) → unary_type target o i t ≡ Some r → Gives (Numbered numbers) (unary_type target o i u) r
  unary_numbered o i t u h r e = reduced.unary_follows after target o i (value t) u h (value r)
      (when_exact (is_promoted target i && is_of i t) (is_promoted target i && is_of i (value t)) (Integer (unary_result o i)) (Integer (unary_result o i)) r
      (second_of (is_promoted target i) (is_of i t) (is_of i (value t)) (λ k. of_same numbers i t ∙ k)) refl e)

  pub binary_numbered : (o : BinOp) (i : IntType) (t u x y : ValueType) → Numbered numbers u t → Numbered numbers y x → (r : ValueType) → binary_type target o i t x ≡ Some r → Gives (Numbered numbers) (binary_type target o i u y) r
  binary_numbered o i t u x y h k r e = reduced.binary_follows after target o i (value t) u (value x) y h k (value r)
      (when_exact (is_promoted target i && (is_of i t && second_fits target o i x)) (is_promoted target i && (is_of i (value t) && second_fits target o i (value x))) (Integer (binary_result o i)) (Integer (binary_result o i)) r
      (second_of (is_promoted target i) (is_of i t && second_fits target o i x) (is_of i (value t) && second_fits target o i (value x))
      (each_of_two (is_of i t) (second_fits target o i x) (is_of i (value t)) (second_fits target o i (value x)) (λ m. of_same numbers i t ∙ m) (λ m. second_same numbers target o i x ∙ m))) refl e)

  pub conversion_numbered : (i : IntType) (t u : ValueType) → Numbered numbers u t → (r : ValueType) → conversion_type i t ≡ Some r → Gives (Numbered numbers) (conversion_type i u) r
  conversion_numbered i t u h r e = reduced.conversion_follows after target i (value t) u h (value r) (when_exact (is_integer t) (is_integer (value t)) (Integer i) (Integer i) r (λ k. integer_same numbers t ∙ k) refl e)

  -- to a type of pointers that is found where it was
  assignable_by : (to p : Option ValueType) (t u : ValueType) → ((s : ValueType) → to ≡ Some s → p ≡ Some (value s)) → Numbered numbers u t → (r : ValueType) → when_assignable to t ≡ Some r → Gives (Numbered numbers) (when_assignable p u) r
  assignable_by None p t u f h r e = absurd (cc)
  assignable_by (Some to) p t u f h r e = subst (λ (q : Option ValueType). Gives (Numbered numbers) (when_assignable q u) r) (sym (f to refl))
      (reduced.qualified_follows after target (Some (value to)) (value t) u h (value r) (when_exact (is_assignable to t) (is_assignable (value to) (value t)) to (value to) r (assigned_exact numbers to t) refl e))

  pub qualified_numbered : (to p : Option ValueType) (t u : ValueType) → ((s : ValueType) → to ≡ Some s → p ≡ Some (value s)) → Numbered numbers u t → (r : ValueType) → when_assignable to t ≡ Some r → Gives (Numbered numbers) (when_assignable p u) r
  qualified_numbered to p t u f h r e = assignable_by to p t u f h r e

  pub moved_numbered : (t u x y : ValueType) → Numbered numbers u t → Numbered numbers y x → (r : ValueType) → moved_type before t x ≡ Some r → Gives (Numbered numbers) (moved_type after u y) r
  moved_numbered t u x y h k r e = reduced.moved_follows after target (value t) u (value x) y h k (value r)
      (when_exact (points_to_object before t && is_integer x) (points_to_object after (value t) && is_integer (value x)) t (value t) r
      (each_of_two (points_to_object before t) (is_integer x) (points_to_object after (value t)) (is_integer (value x)) (points_exact numbers before after kept t) (λ m. integer_same numbers x ∙ m)) refl e)

  pub gap_numbered : (t u x y : ValueType) → Numbered numbers u t → Numbered numbers y x → (r : ValueType) → gap_type before target t x ≡ Some r → Gives (Numbered numbers) (gap_type after target u y) r
  gap_numbered t u x y h k r e = reduced.gap_follows after target (value t) u (value x) y h k (value r)
      (when_exact (point_alike t x && has_difference before t) (point_alike (value t) (value x) && has_difference after (value t)) (Integer (difference_type target)) (Integer (difference_type target)) r
      (each_of_two (point_alike t x) (has_difference before t) (point_alike (value t) (value x)) (has_difference after (value t)) (alike_exact numbers t x) (difference_exact numbers before after kept t)) refl e)

  pub comparison_numbered : (o : BinOp) (t u x y : ValueType) → Numbered numbers u t → Numbered numbers y x → (r : ValueType) → comparison_type o t x ≡ Some r → Gives (Numbered numbers) (comparison_type o u y) r
  comparison_numbered o t u x y h k r e = reduced.comparison_follows after target o (value t) u (value x) y h k (value r)
      (when_exact (is_comparison o && point_alike t x) (is_comparison o && point_alike (value t) (value x)) (Integer int.Int) (Integer int.Int) r (second_of (is_comparison o) (point_alike t x) (point_alike (value t) (value x)) (alike_exact numbers t x)) refl e)

  pub logical_numbered : (t u x y : ValueType) → Numbered numbers u t → Numbered numbers y x → (r : ValueType) → logical_type t x ≡ Some r → Gives (Numbered numbers) (logical_type u y) r
  logical_numbered t u x y h k r e = reduced.logical_follows after target (value t) u (value x) y h k (value r)
      (when_exact (is_scalar t && is_scalar x) (is_scalar (value t) && is_scalar (value x)) (Integer int.Int) (Integer int.Int) r
      (each_of_two (is_scalar t) (is_scalar x) (is_scalar (value t)) (is_scalar (value x)) (λ m. scalar_same numbers t ∙ m) (λ m. scalar_same numbers x ∙ m)) refl e)

  -- two types may have a common one by fewer numbers that had none
  choice_by : (b c : Bool) (t x : ValueType) (u y : ValueType) → (b ≡ true → c ≡ true) → Numbered numbers u t → Numbered numbers y x → (r : ValueType) → when b (common_type target t x) ≡ Some r →
      Gives (Numbered numbers) (when c (common_type target u y)) r
  choice_by false c t x u y f h k r e = absurd (cc)
  choice_by true c t x u y f h k r e = (
    common_type target u y,
    ap (λ (d : Bool). when d (common_type target u y)) (f refl),
    reduced_through (common_type target u y) (common_type target (value t) (value x)) (value r) (common_reduced target u (value t) y (value x) h k)
        (subst (λ (z : ValueType). Reduced (common_type target (value t) (value x)) (value z)) (same_Some (common_type target t x) r e) (common_exact numbers target t x)),
  )

  pub choice_numbered : (s q t u x y : ValueType) → Numbered numbers q s → Numbered numbers u t → Numbered numbers y x → (r : ValueType) → choice_type target s t x ≡ Some r → Gives (Numbered numbers) (choice_type target q u y) r
  choice_numbered s q t u x y g h k r e = choice_by (is_scalar s) (is_scalar q) t x u y (λ m. scalar_reduced q (value s) g (scalar_same numbers s ∙ m)) h k r e

  pub assignment_numbered : (to t u : ValueType) → Numbered numbers u t → (r : ValueType) → assignment_type to t ≡ Some r → Gives (Numbered numbers) (assignment_type (value to) u) r
  assignment_numbered to t u h r e = reduced.assignment_follows after target (value to) (value t) u h (value r) (when_exact (is_assignable to t) (is_assignable (value to) (value t)) to (value to) r (assigned_exact numbers to t) refl e)

  changes_with : (shift : Bool) (s : IntType) (i : IntType) (t : ValueType) →
      (if shift then same_int (promoted s target) i && is_promoted_value target t else same_int (usual_of s i target) i && is_of i t) ≡ true →
      (if shift then same_int (promoted s target) i && is_promoted_value target (value t) else same_int (usual_of s i target) i && is_of i (value t)) ≡ true
  changes_with true s i t = second_of (same_int (promoted s target) i) (is_promoted_value target t) (is_promoted_value target (value t)) (λ m. promoted_same numbers target t ∙ m)
  changes_with false s i t = second_of (same_int (usual_of s i target) i) (is_of i t) (is_of i (value t)) (λ m. of_same numbers i t ∙ m)

  change_exact : (o : BinOp) (i : IntType) (to t r : ValueType) → change_type before target o i to t ≡ Some r → change_type after target o i (value to) (value t) ≡ Some (value r)
  change_exact o i NoValue t r e = absurd (cc)
  change_exact o i (Integer s) t r e = when_exact (not (is_comparison o) && changes_by target s o i t) (not (is_comparison o) && changes_by target s o i (value t)) (Integer s) (Integer s) r
      (second_of (not (is_comparison o)) (changes_by target s o i t) (changes_by target s o i (value t)) (changes_with (is_shift o) s i t)) refl e
  change_exact o i (ToObject c v to) t r e = when_exact (is_additive o && (is_complete before to && is_of i t)) (is_additive o && (is_complete after (type_renumbered numbers to) && is_of i (value t))) (ToObject c v to) (value (ToObject c v to)) r
      (second_of (is_additive o) (is_complete before to && is_of i t) (is_complete after (type_renumbered numbers to) && is_of i (value t))
      (each_of_two (is_complete before to) (is_of i t) (is_complete after (type_renumbered numbers to)) (is_of i (value t)) (complete_exact numbers before after kept to) (λ m. of_same numbers i t ∙ m))) refl e
  change_exact o i (ToFunction s) t r e = absurd (cc)

  pub change_numbered : (o : BinOp) (i : IntType) (to t u : ValueType) → Numbered numbers u t → (r : ValueType) → change_type before target o i to t ≡ Some r → Gives (Numbered numbers) (change_type after target o i (value to) u) r
  change_numbered o i to t u h r e = reduced.change_follows after target o i (value to) (value t) u h (value r) (change_exact o i to t r e)

  either_of : (a b c d : Bool) → (a ≡ true → c ≡ true) → (b ≡ true → d ≡ true) → a || b ≡ true → c || d ≡ true
  either_of true b c d f g h = ap (λ (z : Bool). z || d) (f refl)
  either_of false b true d f g h = refl
  either_of false b false d f g h = g h

  pub after_numbered : (to r : ValueType) → after_type before to ≡ Some r → Gives (Numbered numbers) (after_type after (value to)) r
  after_numbered to r e = (
    value r,
    when_exact (is_integer to || points_to_object before to) (is_integer (value to) || points_to_object after (value to)) to (value to) r
        (either_of (is_integer to) (points_to_object before to) (is_integer (value to)) (points_to_object after (value to)) (λ m. integer_same numbers to ∙ m) (points_exact numbers before after kept to)) refl e,
    reduced_itself (value r),
  )

  subscript_by : (b c : Bool) (x y : Option PlaceType) (r q : PlaceType) → (b ≡ true → c ≡ true) → (x ≡ Some r → y ≡ Some q) → (if b then x else None) ≡ Some r → (if c then y else None) ≡ Some q
  subscript_by true c x y r q h f e = ap (λ (d : Bool). if d then y else None) (h refl) ∙ f e
  subscript_by false c x y r q h f e = absurd (cc)

  pub subscript_numbered : (a b : PlaceType) (t u : ValueType) → NumberedPlace numbers b a → Numbered numbers u t → (r : PlaceType) → subscript_type a t ≡ Some r → Gives (NumberedPlace numbers) (subscript_type b u) r
  subscript_numbered a b t u k h r e = reduced.subscript_follows after target (place_type_renumbered numbers a) b (value t) u k h (place_type_renumbered numbers r)
      (subscript_by (is_integer t) (is_integer (value t)) (element_of a) (element_of (place_type_renumbered numbers a)) r (place_type_renumbered numbers r) (λ m. integer_same numbers t ∙ m) (element_exact numbers a r) e)

  -- ---- intrinsics and calls

  -- by the numbers alone, and then without qualifiers
  pub mapped_follows : (o p : Option ValueType) → Follows (Numbered numbers) o p → Follows Reduced (option_map (value_renumbered numbers) o) p
  mapped_follows None p f s e = absurd (cc)
  mapped_follows (Some t) p f s e = let g = f t refl in (g.0, g.1, subst (λ (z : ValueType). Reduced g.0 z) (same_Some (value t) s e) g.2)

  restore_exact : (i : Intr) (o : Option ValueType) (r : ValueType) → intrinsic_type i (Some o) ≡ Some r → intrinsic_type i (Some (option_map (value_renumbered numbers) o)) ≡ Some (value r)
  restore_exact intr.Off o r e = absurd (cc)
  restore_exact intr.On o r e = absurd (cc)
  restore_exact intr.Save o r e = absurd (cc)
  restore_exact intr.Restore None r e = absurd (cc)
  restore_exact intr.Restore (Some t) r e = when_exact (is_of int.UChar t) (is_of int.UChar (value t)) NoValue NoValue r (λ m. of_same numbers int.UChar t ∙ m) refl e

  pub restore_numbered : (i : Intr) (o p : Option ValueType) → Follows (Numbered numbers) o p → (r : ValueType) → intrinsic_type i (Some o) ≡ Some r → Gives (Numbered numbers) (intrinsic_type i (Some p)) r
  restore_numbered i o p f r e = reduced.restore_follows i (option_map (value_renumbered numbers) o) p (mapped_follows o p f) (value r) (restore_exact i o r e)

  pub save_numbered : (i : Intr) (r : ValueType) → intrinsic_type i None ≡ Some r → Gives (Numbered numbers) (intrinsic_type i None) r
  save_numbered intr.Off r e = (value r, ap (option_map (value_renumbered numbers)) e, reduced_itself (value r))
  save_numbered intr.On r e = (value r, ap (option_map (value_renumbered numbers)) e, reduced_itself (value r))
  save_numbered intr.Save r e = (value r, ap (option_map (value_renumbered numbers)) e, reduced_itself (value r))
  save_numbered intr.Restore r e = absurd (cc)

  some_by : (x o : Option ValueType) → is_assignable_some x o ≡ true → is_assignable_some (option_map (value_renumbered numbers) x) (option_map (value_renumbered numbers) o) ≡ true
  some_by None o h = absurd (cc)
  some_by (Some to) None h = absurd (cc)
  some_by (Some to) (Some t) h = assigned_exact numbers to t h

  pub some_exact : (t : CType) (o : Option ValueType) → is_assignable_some (scalar_value t) o ≡ true → is_assignable_some (scalar_value (type_renumbered numbers t)) (option_map (value_renumbered numbers) o) ≡ true
  some_exact t o h = ap (λ (x : Option ValueType). is_assignable_some x (option_map (value_renumbered numbers) o)) (scalar_kept numbers t) ∙ some_by (scalar_value t) o h

  arguments_exact : (ts : List CType) (os : List (Option ValueType)) → are_assignable ts os ≡ true → are_assignable (map (type_renumbered numbers) ts) (map (option_map (value_renumbered numbers)) os) ≡ true
  arguments_exact [] [] h = h
  arguments_exact (t ∷ ts) [] h = absurd (cc)
  arguments_exact [] (o ∷ os) h = absurd (cc)
  arguments_exact (t ∷ ts) (o ∷ os) h = each_of_two (is_assignable_some (scalar_value t) o) (are_assignable ts os)
      (is_assignable_some (scalar_value (type_renumbered numbers t)) (option_map (value_renumbered numbers) o)) (are_assignable (map (type_renumbered numbers) ts) (map (option_map (value_renumbered numbers)) os)) (some_exact t o) (arguments_exact ts os) h

  called_by : (b c : Bool) (x y : Option ValueType) (r q : ValueType) → (b ≡ true → c ≡ true) → (x ≡ Some r → y ≡ Some q) → (if b then x else None) ≡ Some r → (if c then y else None) ≡ Some q
  called_by true c x y r q h f e = ap (λ (d : Bool). if d then y else None) (h refl) ∙ f e
  called_by false c x y r q h f e = absurd (cc)

  call_at : (x : shape.Sig-F Shape CType Sig) (os : List (Option ValueType)) (r : ValueType) → (if are_assignable x.params os then result_value x.result else None) ≡ Some r →
      (if are_assignable (map (type_renumbered numbers) x.params) (map (option_map (value_renumbered numbers)) os) then result_value (type_renumbered numbers x.result) else None) ≡ Some (value r)
  call_at x os r e = called_by (are_assignable x.params os) (are_assignable (map (type_renumbered numbers) x.params) (map (option_map (value_renumbered numbers)) os)) (result_value x.result) (result_value (type_renumbered numbers x.result)) r (value r)
      (arguments_exact x.params os) (λ f. result_kept numbers x.result ∙ ap (option_map (value_renumbered numbers)) f) e

  call_exact : (t : ValueType) (os : List (Option ValueType)) (r : ValueType) → call_type t os ≡ Some r → call_type (value t) (map (option_map (value_renumbered numbers)) os) ≡ Some (value r)
  call_exact NoValue os r e = absurd (cc)
  call_exact (Integer i) os r e = absurd (cc)
  call_exact (ToObject c v t) os r e = absurd (cc)
  call_exact (ToFunction s) os r e =
      ap (λ (x : shape.Sig-F Shape CType Sig). if are_assignable x.params (map (option_map (value_renumbered numbers)) os) then result_value x.result else None) (sig_level numbers s (out-Sig s) refl)
      ∙ call_at (out-Sig s) os r e

  pub call_numbered : (t u : ValueType) (os ps : List (Option ValueType)) → Numbered numbers u t → AllFollow (map (option_map (value_renumbered numbers)) os) ps → (r : ValueType) → call_type t os ≡ Some r → Gives (Numbered numbers) (call_type u ps) r
  call_numbered t u os ps h g r e = reduced.call_follows (value t) u (map (option_map (value_renumbered numbers)) os) ps h g (value r) (call_exact t os r e)

  -- ---- types of pointers, where scalars stay such

  pointer_level : (good more : Bool) (x : shape.Shape-F Shape CType Sig) (r : ValueType) → (good ≡ true → more ≡ true) → pointer_in good x ≡ Some r → pointer_in more (renumbered_level numbers x) ≡ Some (value r)
  pointer_level good more (shape.Pointer to) r h e = when_exact good more (pointer_to to) (pointer_to (type_renumbered numbers to)) r h (pointer_kept numbers to) e
  pointer_level good more shape.Void r h e = absurd (cc)
  pointer_level good more (shape.Int t) r h e = absurd (cc)
  pointer_level good more (shape.Array of n) r h e = absurd (cc)
  pointer_level good more (shape.Struct s) r h e = absurd (cc)
  pointer_level good more (shape.Func s) r h e = absurd (cc)

  pub pointer_exact : (good more : Bool) (t : CType) (r : ValueType) → (good ≡ true → more ≡ true) → pointer_in good (out-Shape t.shape) ≡ Some r → pointer_in more (out-Shape (type_renumbered numbers t).shape) ≡ Some (value r)
  pointer_exact good more t r h e = ap (pointer_in more) (level-renumbered numbers t (out-Shape t.shape) refl) ∙ pointer_level good more (out-Shape t.shape) r h e

  null_by : (b c good more : Bool) (x y r : ValueType) → c ≡ b → (good ≡ true → more ≡ true) → y ≡ value x → first_of (when b x) (when good x) ≡ Some r → first_of (when c y) (when more y) ≡ Some (value r)
  null_by true c good more x y r e h f g = ap (λ (d : Bool). first_of (when d y) (when more y)) e ∙ (ap (λ (z : ValueType). Some z) f ∙ ap (option_map (value_renumbered numbers)) g)
  null_by false c good more x y r e h f g = ap (λ (d : Bool). first_of (when d y) (when more y)) e ∙ when_exact good more x y r h f g

  null_level : (plain even good more : Bool) (x : shape.Shape-F Shape CType Sig) (r : ValueType) → even ≡ plain → (good ≡ true → more ≡ true) → first_of (void_pointer_in plain x) (pointer_in good x) ≡ Some r →
      first_of (void_pointer_in even (renumbered_level numbers x)) (pointer_in more (renumbered_level numbers x)) ≡ Some (value r)
  null_level plain even good more (shape.Pointer to) r e h f = null_by (plain && (is_void to && is_unqualified to)) (even && (is_void (type_renumbered numbers to) && is_unqualified (type_renumbered numbers to))) good more
      (pointer_to to) (pointer_to (type_renumbered numbers to)) r (rw (e, void_kept numbers to, unqualified_kept numbers to) refl) h (pointer_kept numbers to) f
  null_level plain even good more shape.Void r e h f = absurd (cc)
  null_level plain even good more (shape.Int t) r e h f = absurd (cc)
  null_level plain even good more (shape.Array of n) r e h f = absurd (cc)
  null_level plain even good more (shape.Struct s) r e h f = absurd (cc)
  null_level plain even good more (shape.Func s) r e h f = absurd (cc)

  pub null_exact : (good more : Bool) (t : CType) (r : ValueType) → (good ≡ true → more ≡ true) → first_of (void_pointer_in (is_unqualified t) (out-Shape t.shape)) (pointer_in good (out-Shape t.shape)) ≡ Some r →
      first_of (void_pointer_in (is_unqualified (type_renumbered numbers t)) (out-Shape (type_renumbered numbers t).shape)) (pointer_in more (out-Shape (type_renumbered numbers t).shape)) ≡ Some (value r)
  null_exact good more t r h e =
      ap (λ (x : shape.Shape-F Shape CType Sig). first_of (void_pointer_in (is_unqualified (type_renumbered numbers t)) x) (pointer_in more x)) (level-renumbered numbers t (out-Shape t.shape) refl)
      ∙ null_level (is_unqualified t) (is_unqualified (type_renumbered numbers t)) good more (out-Shape t.shape) r (unqualified_kept numbers t) h e

-- ---- places

module _ (numbers : List ℕ) where
  -- a value of just this type by its numbers
  abbrev pub Exactly : ValueType → ValueType → Type 0
  Exactly u t = u ≡ value_renumbered numbers t

  pub read_numbered : (a b : PlaceType) → NumberedPlace numbers b a → (t : ValueType) → read_from a ≡ Some t → Gives (Numbered numbers) (read_from b) t
  read_numbered a b k t e = (value_renumbered numbers t, read_reduced b (place_type_renumbered numbers a) k (value_renumbered numbers t) (read_exact numbers a t e), reduced_itself (value_renumbered numbers t))

  pub written_numbered : (a b : PlaceType) → NumberedPlace numbers b a → (t : ValueType) → written_to a ≡ Some t → Gives Exactly (written_to b) t
  written_numbered a b k t e = (value_renumbered numbers t, written_reduced b (place_type_renumbered numbers a) k (value_renumbered numbers t) (written_exact numbers a t e), refl)

  pub address_numbered : (a b : PlaceType) → NumberedPlace numbers b a → (t : ValueType) → address_of a ≡ Some t → Gives (Numbered numbers) (address_of b) t
  address_numbered a b k t e = address_reduced b (place_type_renumbered numbers a) k (value_renumbered numbers t) (address_exact numbers a t e)

  pub pointed_numbered : (t u : ValueType) → Numbered numbers u t → (a : PlaceType) → pointed_to t ≡ Some a → Gives (NumberedPlace numbers) (pointed_to u) a
  pointed_numbered t u h a e = pointed_reduced u (value_renumbered numbers t) h (place_type_renumbered numbers a) (pointed_exact numbers t a e)

  pub member_numbered : (before after : List Structure) → ((i : ℕ) (s : Structure) → slice_get before i ≡ Some s → (t : Structure) × (slice_get after (number_by numbers i) ≡ Some t) × MemberTypes numbers s.members t.members) →
      (m : ℕ) (a b : PlaceType) → NumberedPlace numbers b a → (r : PlaceType) → member_of before m a ≡ Some r → Gives (NumberedPlace numbers) (member_of after m b) r
  member_numbered before after kept m a b k r e = member_reduced after m b (place_type_renumbered numbers a) k (place_type_renumbered numbers r) (member_exact numbers before after kept m a r e)
