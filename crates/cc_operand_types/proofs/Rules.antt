-- Each rule of types gives of types that lack qualifiers one that does.
use Rattle.std.proofs.Common.{◌≡◌, Bool, true, false, not, ◌&&◌, List, [], ◌∷◌, Option, Some, None, refl, sym, subst}
use Rattle.std.specs.Prelude.{if◌then◌else◌}
use Rattle.cc_program.specs.CcNum.declared.int_type.IntType.{IntType}
use Rattle.cc_program.specs.CcNum.declared.int_type.IntType.TheVariants as int
use Rattle.cc_program.specs.CcNum.declared.op.BinOp.{BinOp}
use Rattle.cc_program.specs.CcNum.declared.op.UnOp.{UnOp}
use Rattle.cc_program.specs.CcNum.declared.target.Target.{Target}
use Rattle.cc_program.specs.CcNum.Promotions.{promoted, usual_of}
use Rattle.cc_program.specs.CcNum.Results.{is_shift}
use Rattle.cc_program.specs.declared.expr.Intr.{Intr}
use Rattle.cc_program.specs.declared.expr.Intr.TheVariants as intr
use Rattle.cc_program.specs.declared.types.CType.{CType}
use Rattle.cc_program.specs.declared.types.Sig.{out-Sig}
use Rattle.cc_program.specs.declared.types.Structure.{Structure}
use Rattle.cc_operands.specs.CcSyntax.Operators.{unary_type, unary_result, binary_type, binary_result, conversion_type, when_assignable, moved_type, gap_type, difference_type, comparison_type, is_comparison, logical_type, choice_type, common_type, assignment_type, change_type, changes_by, call_type, intrinsic_type, subscript_type, is_promoted, is_promoted_value, is_of, is_integer, is_additive, second_fits, points_to_object, has_difference}
use Rattle.cc_operands.specs.CcSyntax.SameTypes.{same_int}
use Rattle.cc_operands.specs.CcSyntax.Types.{is_complete}
use Rattle.cc_operands.specs.CcSyntax.Values.{ValueType, NoValue, Integer, ToObject, ToFunction, PlaceType, is_scalar, point_alike, is_assignable, is_assignable_some, are_assignable, scalar_value, result_value, element_of}
use Rattle.cc_operands.proofs.CcSyntax.Prefixes.{both_true}
use Rattle.cc_operand_types.specs.Reduced.{Reduced, Unused, Integers, Pointers, Functions, ReducedPlace}
use Rattle.cc_operand_types.proofs.Follows.{Gives, Follows, when_follows}
use Rattle.cc_operand_types.proofs.ReducedPlaces.{element_reduced}
use Rattle.cc_operand_types.proofs.Values.{reduced_itself, of_reduced, promoted_reduced, integer_reduced, scalar_reduced, second_reduced, points_reduced, difference_reduced, alike_reduced, assigned_reduced, some_assigned, common_reduced}

pub both : (a b : Bool) → a ≡ true → b ≡ true → a && b ≡ true
both true b h k = k
both false b h k = absurd (cc)

-- one of two conditions is the same
pub second_of : (a b c : Bool) → (b ≡ true → c ≡ true) → a && b ≡ true → a && c ≡ true
second_of true b c f h = f h
second_of false b c f h = absurd (cc)

pub each_of_two : (a b c d : Bool) → (a ≡ true → c ≡ true) → (b ≡ true → d ≡ true) → a && b ≡ true → c && d ≡ true
each_of_two a b c d f g h = let p = both_true a b h in both c d (f p.0) (g p.1)

module _ (structures : List Structure) (target : Target) where
  pub unary_follows : (o : UnOp) (i : IntType) (t u : ValueType) → Reduced u t → (r : ValueType) → unary_type target o i t ≡ Some r → Gives Reduced (unary_type target o i u) r
  unary_follows o i t u h = when_follows Reduced (is_promoted target i && is_of i t) (is_promoted target i && is_of i u) (Integer (unary_result o i)) (Integer (unary_result o i))
      (second_of (is_promoted target i) (is_of i t) (is_of i u) (of_reduced i u t h)) (Integers (unary_result o i))

  pub binary_follows : (o : BinOp) (i : IntType) (t u x y : ValueType) → Reduced u t → Reduced y x → (r : ValueType) → binary_type target o i t x ≡ Some r → Gives Reduced (binary_type target o i u y) r
  binary_follows o i t u x y h k = when_follows Reduced (is_promoted target i && (is_of i t && second_fits target o i x)) (is_promoted target i && (is_of i u && second_fits target o i y)) (Integer (binary_result o i)) (Integer (binary_result o i))
      (second_of (is_promoted target i) (is_of i t && second_fits target o i x) (is_of i u && second_fits target o i y)
      (each_of_two (is_of i t) (second_fits target o i x) (is_of i u) (second_fits target o i y) (of_reduced i u t h) (second_reduced target o i y x k))) (Integers (binary_result o i))

  pub conversion_follows : (i : IntType) (t u : ValueType) → Reduced u t → (r : ValueType) → conversion_type i t ≡ Some r → Gives Reduced (conversion_type i u) r
  conversion_follows i t u h = when_follows Reduced (is_integer t) (is_integer u) (Integer i) (Integer i) (integer_reduced u t h) (Integers i)

  pub qualified_follows : (to : Option ValueType) (t u : ValueType) → Reduced u t → (r : ValueType) → when_assignable to t ≡ Some r → Gives Reduced (when_assignable to u) r
  qualified_follows None t u h r e = absurd (cc)
  qualified_follows (Some to) t u h r e = when_follows Reduced (is_assignable to t) (is_assignable to u) to to (assigned_reduced to u t h) (reduced_itself to) r e

  pub moved_follows : (t u x y : ValueType) → Reduced u t → Reduced y x → (r : ValueType) → moved_type structures t x ≡ Some r → Gives Reduced (moved_type structures u y) r
  moved_follows t u x y h k = when_follows Reduced (points_to_object structures t && is_integer x) (points_to_object structures u && is_integer y) t u
      (each_of_two (points_to_object structures t) (is_integer x) (points_to_object structures u) (is_integer y) (points_reduced structures u t h) (integer_reduced y x k)) h

  pub gap_follows : (t u x y : ValueType) → Reduced u t → Reduced y x → (r : ValueType) → gap_type structures target t x ≡ Some r → Gives Reduced (gap_type structures target u y) r
  gap_follows t u x y h k = when_follows Reduced (point_alike t x && has_difference structures t) (point_alike u y && has_difference structures u) (Integer (difference_type target)) (Integer (difference_type target))
      (each_of_two (point_alike t x) (has_difference structures t) (point_alike u y) (has_difference structures u) (alike_reduced u t y x h k) (difference_reduced structures u t h)) (Integers (difference_type target))

  pub comparison_follows : (o : BinOp) (t u x y : ValueType) → Reduced u t → Reduced y x → (r : ValueType) → comparison_type o t x ≡ Some r → Gives Reduced (comparison_type o u y) r
  comparison_follows o t u x y h k = when_follows Reduced (is_comparison o && point_alike t x) (is_comparison o && point_alike u y) (Integer int.Int) (Integer int.Int)
      (second_of (is_comparison o) (point_alike t x) (point_alike u y) (alike_reduced u t y x h k)) (Integers int.Int)

  pub logical_follows : (t u x y : ValueType) → Reduced u t → Reduced y x → (r : ValueType) → logical_type t x ≡ Some r → Gives Reduced (logical_type u y) r
  logical_follows t u x y h k = when_follows Reduced (is_scalar t && is_scalar x) (is_scalar u && is_scalar y) (Integer int.Int) (Integer int.Int)
      (each_of_two (is_scalar t) (is_scalar x) (is_scalar u) (is_scalar y) (scalar_reduced u t h) (scalar_reduced y x k)) (Integers int.Int)

  pub choice_follows : (s q t u x y : ValueType) → Reduced q s → Reduced u t → Reduced y x → (r : ValueType) → choice_type target s t x ≡ Some r → Gives Reduced (choice_type target q u y) r
  choice_follows s q t u x y g h k = when_follows Reduced (is_scalar s) (is_scalar q) (common_type target t x) (common_type target u y) (scalar_reduced q s g) (common_reduced target u t y x h k)

  pub assignment_follows : (to t u : ValueType) → Reduced u t → (r : ValueType) → assignment_type to t ≡ Some r → Gives Reduced (assignment_type to u) r
  assignment_follows to t u h = when_follows Reduced (is_assignable to t) (is_assignable to u) to to (assigned_reduced to u t h) (reduced_itself to)

  changes_with : (shift : Bool) (s : IntType) (i : IntType) (t u : ValueType) → Reduced u t →
      (if shift then same_int (promoted s target) i && is_promoted_value target t else same_int (usual_of s i target) i && is_of i t) ≡ true →
      (if shift then same_int (promoted s target) i && is_promoted_value target u else same_int (usual_of s i target) i && is_of i u) ≡ true
  changes_with true s i t u h = second_of (same_int (promoted s target) i) (is_promoted_value target t) (is_promoted_value target u) (promoted_reduced target u t h)
  changes_with false s i t u h = second_of (same_int (usual_of s i target) i) (is_of i t) (is_of i u) (of_reduced i u t h)

  pub change_follows : (o : BinOp) (i : IntType) (to t u : ValueType) → Reduced u t → (r : ValueType) → change_type structures target o i to t ≡ Some r → Gives Reduced (change_type structures target o i to u) r
  change_follows o i NoValue t u h r e = absurd (cc)
  change_follows o i (Integer s) t u h r e = when_follows Reduced (not (is_comparison o) && changes_by target s o i t) (not (is_comparison o) && changes_by target s o i u) (Integer s) (Integer s)
      (second_of (not (is_comparison o)) (changes_by target s o i t) (changes_by target s o i u) (changes_with (is_shift o) s i t u h)) (Integers s) r e
  change_follows o i (ToObject c v to) t u h r e = when_follows Reduced (is_additive o && (is_complete structures to && is_of i t)) (is_additive o && (is_complete structures to && is_of i u)) (ToObject c v to) (ToObject c v to)
      (second_of (is_additive o) (is_complete structures to && is_of i t) (is_complete structures to && is_of i u) (second_of (is_complete structures to) (is_of i t) (is_of i u) (of_reduced i u t h))) (reduced_itself (ToObject c v to)) r e
  change_follows o i (ToFunction s) t u h r e = absurd (cc)

  subscript_by : (b c : Bool) (x y : Option PlaceType) → (b ≡ true → c ≡ true) → Follows ReducedPlace x y → (r : PlaceType) → (if b then x else None) ≡ Some r → Gives ReducedPlace (if c then y else None) r
  subscript_by true true x y h f r e = f r e
  subscript_by true false x y h f r e = absurd (cc (h refl))
  subscript_by false c x y h f r e = absurd (cc)

  pub subscript_follows : (a b : PlaceType) (t u : ValueType) → ReducedPlace b a → Reduced u t → (r : PlaceType) → subscript_type a t ≡ Some r → Gives ReducedPlace (subscript_type b u) r
  subscript_follows a b t u k h r e = subscript_by (is_integer t) (is_integer u) (element_of a) (element_of b) (integer_reduced u t h) (λ q d. element_reduced b a k q d) r e

-- ---- intrinsics and calls

pub save_follows : (i : Intr) (r : ValueType) → intrinsic_type i None ≡ Some r → Gives Reduced (intrinsic_type i None) r
save_follows i r e = (r, e, reduced_itself r)

pub restore_follows : (i : Intr) (o p : Option ValueType) → Follows Reduced o p → (r : ValueType) → intrinsic_type i (Some o) ≡ Some r → Gives Reduced (intrinsic_type i (Some p)) r
restore_follows intr.Off o p f r e = absurd (cc)
restore_follows intr.On o p f r e = absurd (cc)
restore_follows intr.Save o p f r e = absurd (cc)
restore_follows intr.Restore None p f r e = absurd (cc)
restore_follows intr.Restore (Some t) p f r e =
    let g = f t refl in
    let k = when_follows Reduced (is_of int.UChar t) (is_of int.UChar g.0) NoValue NoValue (of_reduced int.UChar g.0 t g.2) (Unused NoValue) r e in
    subst (λ (q : Option ValueType). Gives Reduced (intrinsic_type intr.Restore (Some q)) r) (sym g.1) k

-- so many values, each with one that follows
pub data AllFollow : List (Option ValueType) → List (Option ValueType) → Type 0 where
  NoneLeft : AllFollow [] []
  More : (o p : Option ValueType) (os ps : List (Option ValueType)) → Follows Reduced o p → AllFollow os ps → AllFollow (o ∷ os) (p ∷ ps)

pub arguments_follow : (ts : List CType) (os ps : List (Option ValueType)) → AllFollow os ps → are_assignable ts os ≡ true → are_assignable ts ps ≡ true
arguments_follow [] _ _ NoneLeft h = h
arguments_follow (t ∷ ts) _ _ NoneLeft h = absurd (cc)
arguments_follow [] _ _ (More o p os ps f g) h = absurd (cc)
arguments_follow (t ∷ ts) _ _ (More o p os ps f g) h =
    each_of_two (is_assignable_some (scalar_value t) o) (are_assignable ts os) (is_assignable_some (scalar_value t) p) (are_assignable ts ps) (some_assigned (scalar_value t) o p f) (arguments_follow ts os ps g) h

call_by : (b c : Bool) (x : Option ValueType) → (b ≡ true → c ≡ true) → (r : ValueType) → (if b then x else None) ≡ Some r → Gives Reduced (if c then x else None) r
call_by true true x h r e = (r, e, reduced_itself r)
call_by true false x h r e = absurd (cc (h refl))
call_by false c x h r e = absurd (cc)

pub call_follows : (t u : ValueType) (os ps : List (Option ValueType)) → Reduced u t → AllFollow os ps → (r : ValueType) → call_type t os ≡ Some r → Gives Reduced (call_type u ps) r
call_follows _ _ os ps (Unused u) g r e = absurd (cc)
call_follows _ _ os ps (Integers i) g r e = absurd (cc)
call_follows _ _ os ps (Pointers c v t c' v' u a k l) g r e = absurd (cc)
call_follows _ _ os ps (Functions s) g r e =
    call_by (are_assignable (out-Sig s).params os) (are_assignable (out-Sig s).params ps) (result_value (out-Sig s).result) (arguments_follow (out-Sig s).params os ps g) r e
