-- Values whose types lack qualifiers: what the rules ask of a type holds of it too.
use Rattle.std.proofs.Common.{◌≡◌, Bool, true, false, not, ◌&&◌, ◌||◌, List, Option, Some, None, refl, ap, sym, ◌∙◌, subst}
use Rattle.std.specs.Prelude.{if◌then◌else◌}
use Rattle.cc_program.specs.CcNum.declared.int_type.IntType.{IntType}
use Rattle.cc_program.specs.CcNum.declared.op.BinOp.{BinOp}
use Rattle.cc_program.specs.CcNum.declared.target.Target.{Target}
use Rattle.cc_program.specs.CcNum.Results.{is_shift}
use Rattle.cc_operand_types.proofs.Agreement.{complete_alike, void_alike}
use Rattle.cc_program.specs.declared.types.CType.{CType}
use Rattle.cc_program.specs.declared.types.Sig.{Sig}
use Rattle.cc_program.specs.declared.types.Structure.{Structure}
use Rattle.cc_operands.specs.CcSyntax.Operators.{is_of, is_promoted_value, is_integer, second_fits, points_to_object, has_difference, common_type}
use Rattle.cc_operands.specs.CcSyntax.SameTypes.{alike}
use Rattle.cc_operands.specs.CcSyntax.Values.{ValueType, NoValue, Integer, ToObject, ToFunction, is_scalar, is_void, point_alike, is_assignable, is_assignable_some, implies}
use Rattle.cc_operands.proofs.CcSyntax.AlikeLemmas.{alike_joined, alike_mirrored, implies_itself, assignable_object, assigned_on}
use Rattle.cc_operands.proofs.CcSyntax.Prefixes.{both_true}
use Rattle.cc_operands.proofs.CcSyntax.SameLemmas.{compared}
use Rattle.cc_operand_types.specs.Reduced.{Reduced, Unused, Integers, Pointers, Functions}
use Rattle.cc_operand_types.proofs.Follows.{Follows}

pub alike_itself : (t : CType) → alike t t ≡ true
alike_itself t = (compared t).shaped t refl

pub reduced_itself : (t : ValueType) → Reduced t t
reduced_itself NoValue = Unused NoValue
reduced_itself (Integer i) = Integers i
reduced_itself (ToObject c v t) = Pointers c v t c v t (alike_itself t) (implies_itself c) (implies_itself v)
reduced_itself (ToFunction s) = Functions s

-- ---- what stays

pub of_reduced : (i : IntType) (u t : ValueType) → Reduced u t → is_of i t ≡ true → is_of i u ≡ true
of_reduced i _ _ (Unused u) h = absurd (cc)
of_reduced i _ _ (Integers j) h = h
of_reduced i _ _ (Pointers c v t c' v' u a k l) h = h
of_reduced i _ _ (Functions s) h = h

pub promoted_reduced : (target : Target) (u t : ValueType) → Reduced u t → is_promoted_value target t ≡ true → is_promoted_value target u ≡ true
promoted_reduced target _ _ (Unused u) h = absurd (cc)
promoted_reduced target _ _ (Integers j) h = h
promoted_reduced target _ _ (Pointers c v t c' v' u a k l) h = h
promoted_reduced target _ _ (Functions s) h = h

pub integer_reduced : (u t : ValueType) → Reduced u t → is_integer t ≡ true → is_integer u ≡ true
integer_reduced _ _ (Unused u) h = absurd (cc)
integer_reduced _ _ (Integers j) h = h
integer_reduced _ _ (Pointers c v t c' v' u a k l) h = h
integer_reduced _ _ (Functions s) h = h

pub scalar_reduced : (u t : ValueType) → Reduced u t → is_scalar t ≡ true → is_scalar u ≡ true
scalar_reduced _ _ (Unused u) h = absurd (cc)
scalar_reduced _ _ (Integers j) h = h
scalar_reduced _ _ (Pointers c v t c' v' u a k l) h = h
scalar_reduced _ _ (Functions s) h = h

second_by : (shift : Bool) (target : Target) (i : IntType) (u t : ValueType) → Reduced u t → (if shift then is_promoted_value target t else is_of i t) ≡ true → (if shift then is_promoted_value target u else is_of i u) ≡ true
second_by true target i u t r h = promoted_reduced target u t r h
second_by false target i u t r h = of_reduced i u t r h

pub second_reduced : (target : Target) (o : BinOp) (i : IntType) (u t : ValueType) → Reduced u t → second_fits target o i t ≡ true → second_fits target o i u ≡ true
second_reduced target o i u t r h = second_by (is_shift o) target i u t r h

-- ---- pointers

pub points_reduced : (structures : List Structure) (u t : ValueType) → Reduced u t → points_to_object structures t ≡ true → points_to_object structures u ≡ true
points_reduced structures _ _ (Unused u) h = absurd (cc)
points_reduced structures _ _ (Integers j) h = h
points_reduced structures _ _ (Pointers c v t c' v' u a k l) h = complete_alike structures t u a ∙ h
points_reduced structures _ _ (Functions s) h = h

pub difference_reduced : (structures : List Structure) (u t : ValueType) → Reduced u t → has_difference structures t ≡ true → has_difference structures u ≡ true
difference_reduced structures _ _ (Unused u) h = absurd (cc)
difference_reduced structures _ _ (Integers j) h = h
difference_reduced structures _ _ (Pointers c v t c' v' u a k l) h = complete_alike structures t u a ∙ h
difference_reduced structures _ _ (Functions s) h = h

-- of the second operand
second_alike : (c v : Bool) (t : CType) (c' v' : Bool) (u : CType) → alike t u ≡ true → (y x : ValueType) → Reduced y x → point_alike (ToObject c' v' u) x ≡ true → point_alike (ToObject c v t) y ≡ true
second_alike c v t c' v' u a _ _ (Unused y) h = absurd (cc)
second_alike c v t c' v' u a _ _ (Integers j) h = absurd (cc)
second_alike c v t c' v' u a _ _ (Pointers d w y d' w' x b k l) h = alike_joined t u y a (alike_joined u x y h (alike_mirrored y x b))
second_alike c v t c' v' u a _ _ (Functions s) h = absurd (cc)

same_function : (s : Sig) (y x : ValueType) → Reduced y x → point_alike (ToFunction s) x ≡ true → point_alike (ToFunction s) y ≡ true
same_function s _ _ (Unused y) h = absurd (cc)
same_function s _ _ (Integers j) h = absurd (cc)
same_function s _ _ (Pointers d w y d' w' x b k l) h = absurd (cc)
same_function s _ _ (Functions r) h = h

pub alike_reduced : (u t y x : ValueType) → Reduced u t → Reduced y x → point_alike t x ≡ true → point_alike u y ≡ true
alike_reduced _ _ y x (Unused u) s h = absurd (cc)
alike_reduced _ _ y x (Integers j) s h = absurd (cc)
alike_reduced _ _ y x (Pointers c v t c' v' u a k l) s h = second_alike c v t c' v' u a y x s h
alike_reduced _ _ y x (Functions f) s h = same_function f y x s h

-- ---- what is assigned

nothing_to_assign : (to : ValueType) → is_assignable to NoValue ≡ true → ⊥
nothing_to_assign NoValue h = absurd (cc)
nothing_to_assign (Integer i) h = absurd (cc)
nothing_to_assign (ToObject c v t) h = absurd (cc)
nothing_to_assign (ToFunction s) h = absurd (cc)

pub assigned_reduced : (to u t : ValueType) → Reduced u t → is_assignable to t ≡ true → is_assignable to u ≡ true
assigned_reduced to _ _ (Unused u) h = absurd (nothing_to_assign to h)
assigned_reduced to _ _ (Integers j) h = h
assigned_reduced to _ _ (Pointers c v t c' v' u a k l) h = assigned_on to (ToObject c' v' u) (ToObject c v t) h (assignable_object c' v' u c v t (alike_mirrored t u a) k l)
assigned_reduced to _ _ (Functions s) h = h

assigned_by : (to : Option ValueType) (o p : Option ValueType) → Follows Reduced o p → is_assignable_some to o ≡ true → is_assignable_some to p ≡ true
assigned_by None o p f h = absurd (cc)
assigned_by (Some to) None p f h = absurd (cc)
assigned_by (Some to) (Some t) p f h = let g = f t refl in ap (is_assignable_some (Some to)) g.1 ∙ assigned_reduced to g.0 t g.2 h

pub some_assigned : (to : Option ValueType) (o p : Option ValueType) → Follows Reduced o p → is_assignable_some to o ≡ true → is_assignable_some to p ≡ true
some_assigned to o p f h = assigned_by to o p f h

-- ---- the common type of the arms of a choice

or_implies : (c c' d d' : Bool) → implies c c' ≡ true → implies d d' ≡ true → implies (c || d) (c' || d') ≡ true
or_implies false c' false d' h k = refl
or_implies false true true d' h k = refl
or_implies false false true d' h k = k
or_implies true true d d' h k = refl
or_implies true false d d' h k = absurd (cc)

module _ (target : Target) where
  nothing_common : (a : ValueType) → common_type target a NoValue ≡ NoValue
  nothing_common NoValue = refl
  nothing_common (Integer i) = refl
  nothing_common (ToObject c v t) = refl
  nothing_common (ToFunction s) = refl

  unused : (r t : ValueType) → t ≡ NoValue → Reduced r t
  unused r t e = subst (λ (z : ValueType). Reduced r z) (sym e) (Unused r)

  same_result : (r t : ValueType) → r ≡ t → Reduced r t
  same_result r t e = subst (λ (z : ValueType). Reduced r z) e (reduced_itself r)

  -- two pointers, where those whose types have all qualifiers have a common type or not
  both_pointers : (b b' : Bool) (c v : Bool) (t : CType) (c' v' : Bool) (u : CType) → (b' ≡ true → b ≡ true) → alike t u ≡ true → implies c c' ≡ true → implies v v' ≡ true →
      Reduced (if b then ToObject c v t else NoValue) (if b' then ToObject c' v' u else NoValue)
  both_pointers b false c v t c' v' u h a k l = Unused (if b then ToObject c v t else NoValue)
  both_pointers true true c v t c' v' u h a k l = Pointers c v t c' v' u a k l
  both_pointers false true c v t c' v' u h a k l = absurd (cc (h refl))

  no_void : (t u : CType) → is_void t ≡ is_void u → not (is_void u) ≡ true → not (is_void t) ≡ true
  no_void t u e h = ap not e ∙ h

  both : (a b : Bool) → a ≡ true → b ≡ true → a && b ≡ true
  both true b h k = k
  both false b h k = absurd (cc)

  arms_alike : (t u x y : CType) → alike t u ≡ true → alike y x ≡ true → alike u x && not (is_void u) ≡ true → alike t y && not (is_void t) ≡ true
  arms_alike t u x y a b h =
      let p = both_true (alike u x) (not (is_void u)) h in
      both (alike t y) (not (is_void t)) (alike_joined t u y a (alike_joined u x y p.0 (alike_mirrored y x b))) (no_void t u (void_alike t u a) p.1)

  pointer_common : (c v : Bool) (t : CType) (c' v' : Bool) (u : CType) → alike t u ≡ true → implies c c' ≡ true → implies v v' ≡ true → (y x : ValueType) → Reduced y x →
      Reduced (common_type target (ToObject c v t) y) (common_type target (ToObject c' v' u) x)
  pointer_common c v t c' v' u a k l _ _ (Unused y) = Unused (common_type target (ToObject c v t) y)
  pointer_common c v t c' v' u a k l _ _ (Integers j) = Unused NoValue
  pointer_common c v t c' v' u a k l _ _ (Pointers d w y d' w' x b m n) =
      both_pointers (alike t y && not (is_void t)) (alike u x && not (is_void u)) (c || d) (v || w) t (c' || d') (v' || w') u (arms_alike t u x y a b) a (or_implies c c' d d' k m) (or_implies v v' w w' l n)
  pointer_common c v t c' v' u a k l _ _ (Functions s) = Unused NoValue

  integer_common : (i : IntType) (y x : ValueType) → Reduced y x → Reduced (common_type target (Integer i) y) (common_type target (Integer i) x)
  integer_common i _ _ (Unused y) = Unused (common_type target (Integer i) y)
  integer_common i _ _ (Integers j) = reduced_itself (common_type target (Integer i) (Integer j))
  integer_common i _ _ (Pointers d w y d' w' x b m n) = Unused NoValue
  integer_common i _ _ (Functions s) = Unused NoValue

  function_common : (f : Sig) (y x : ValueType) → Reduced y x → Reduced (common_type target (ToFunction f) y) (common_type target (ToFunction f) x)
  function_common f _ _ (Unused y) = Unused (common_type target (ToFunction f) y)
  function_common f _ _ (Integers j) = Unused NoValue
  function_common f _ _ (Pointers d w y d' w' x b m n) = Unused NoValue
  function_common f _ _ (Functions s) = reduced_itself (common_type target (ToFunction f) (ToFunction s))

  pub common_reduced : (u t y x : ValueType) → Reduced u t → Reduced y x → Reduced (common_type target u y) (common_type target t x)
  common_reduced _ _ y x (Unused u) s = Unused (common_type target u y)
  common_reduced _ _ y x (Integers j) s = integer_common j y x s
  common_reduced _ _ y x (Pointers c v t c' v' u a k l) s = pointer_common c v t c' v' u a k l y x s
  common_reduced _ _ y x (Functions f) s = function_common f y x s
