-- Types that agree: what the rules say of them is the same.
use Rattle.std.proofs.Common.{◌≡◌, ℕ, Bool, true, false, ◌&&◌, List, Option, Some, None, refl, ap, sym, ◌∙◌, subst}
use Rattle.std.specs.Prelude.{nat_lt, if◌then◌else◌}
use Rattle.cc_program.specs.CcNum.declared.int_type.IntType.{IntType}
use Rattle.cc_program.specs.declared.types.CType.{CType, fold_out-CType}
use Rattle.cc_program.specs.declared.types.Shape.{Shape, fold-Shape, fold_out-Shape, map-Shape, out-Shape}
use Rattle.cc_program.specs.declared.types.Shape.TheOpen as shape
use Rattle.cc_program.specs.declared.types.Sig.{Sig, fold-Sig}
use Rattle.cc_program.specs.declared.types.Structure.{Structure}
use Rattle.cc_operands.specs.CcSyntax.SameTypes.{alike, is_void_shape}
use Rattle.cc_operands.specs.CcSyntax.Types.{complete_shape, is_complete}
use Rattle.cc_operands.specs.CcSyntax.Operators.{is_integer, points_to_object, has_difference}
use Rattle.cc_operands.specs.CcSyntax.Values.{ValueType, NoValue, Integer, ToObject, ToFunction, PlaceType, ObjectPlace, is_scalar, is_void, point_alike, is_assignable, implies, pointed_to, element_of, element_shape, member_of, member_shape, address_of, read_from, written_to, scalar_value}
use Rattle.cc_operand_types.specs.Typed.{Agree, Same, Pointers, PlacesAgree, SamePlace, Objects}
use Rattle.cc_operands.proofs.CcSyntax.Prefixes.{both_true as both}
use Rattle.std.proofs.lemmas.Option.{same_Some as some_is}
use Rattle.cc_operands.proofs.CcSyntax.SameLemmas.{Alike, SameShape, Arrays, and_true}
use Rattle.cc_operands.proofs.CcSyntax.AlikeLemmas.{shares, tested, alike_mirrored, alike_joined, alike-scalar}

-- ---- which types agree with one of a form

pub integer_agrees : (u t : ValueType) (i : IntType) → Agree u t → t ≡ Integer i → u ≡ Integer i
integer_agrees _ _ i (Same t) e = e
integer_agrees _ _ i (Pointers c v t u h) e = absurd (cc)

pub function_agrees : (u t : ValueType) (sig : Sig) → Agree u t → t ≡ ToFunction sig → u ≡ ToFunction sig
function_agrees _ _ sig (Same t) e = e
function_agrees _ _ sig (Pointers c v t u h) e = absurd (cc)

-- ---- what is the same of types of values

pub scalar_agrees : (u t : ValueType) → Agree u t → is_scalar u ≡ is_scalar t
scalar_agrees _ _ (Same t) = refl
scalar_agrees _ _ (Pointers c v t u h) = refl

pub integral_agrees : (u t : ValueType) → Agree u t → is_integer u ≡ is_integer t
integral_agrees _ _ (Same t) = refl
integral_agrees _ _ (Pointers c v t u h) = refl

pub mirrored : (u t : ValueType) → Agree u t → Agree t u
mirrored _ _ (Same t) = Same t
mirrored _ _ (Pointers c v t u h) = Pointers c v u t (alike_mirrored t u h)

void_shares : (t u : CType) → Alike t u → is_void t ≡ is_void u
void_shares _ _ (SameShape t u e) = ap is_void_shape e
void_shares _ _ (Arrays t u of other n e f h) = ap is_void_shape e ∙ sym (ap is_void_shape f)

pub void_alike : (t u : CType) → alike t u ≡ true → is_void t ≡ is_void u
void_alike t u h = void_shares t u (shares t u h)

module _ (structures : List Structure) where
  abbrev parts : shape.Shape-F Shape CType Sig → shape.Shape-F Bool Bool (Unit {0})
  parts x = map-Shape Shape CType Sig Bool Bool (Unit {0}) (fold-Shape Bool Bool (Unit {0}) (complete_shape structures) (λ t. t.shape) (λ s. tt)) (is_complete structures)
      (fold-Sig Bool Bool (Unit {0}) (complete_shape structures) (λ t. t.shape) (λ s. tt)) x

  complete-opens : (t : CType) → is_complete structures t ≡ complete_shape structures (parts (out-Shape t.shape))
  unfolding is_complete
  complete-opens t =
      fold_out-CType Bool Bool (Unit {0}) (complete_shape structures) (λ t. t.shape) (λ s. tt) t
      ∙ fold_out-Shape Bool Bool (Unit {0}) (complete_shape structures) (λ t. t.shape) (λ s. tt) t.shape

  complete_shares : (t u : CType) → Alike t u → is_complete structures t ≡ is_complete structures u
  complete_shares _ _ (SameShape t u e) = complete-opens t ∙ ap (λ x. complete_shape structures (parts x)) e ∙ sym (complete-opens u)
  complete_shares _ _ (Arrays t u of other n e f h) =
      complete-opens t ∙ ap (λ x. complete_shape structures (parts x)) e
      ∙ ap (λ (b : Bool). nat_lt 0 n && b) (complete_shares of other h)
      ∙ sym (complete-opens u ∙ ap (λ x. complete_shape structures (parts x)) f)

  pub complete_alike : (t u : CType) → alike t u ≡ true → is_complete structures t ≡ is_complete structures u
  complete_alike t u h = complete_shares t u (shares t u h)

  pub object_agrees : (u t : ValueType) → Agree u t → points_to_object structures u ≡ points_to_object structures t
  object_agrees _ _ (Same t) = refl
  object_agrees _ _ (Pointers c v t u h) = complete_alike t u h

  pub difference_agrees : (u t : ValueType) → Agree u t → has_difference structures u ≡ has_difference structures t
  difference_agrees _ _ (Same t) = refl
  difference_agrees _ _ (Pointers c v t u h) = complete_alike t u h

  member_shares : (c v : Bool) (m : ℕ) (t u : CType) → Alike t u → member_shape structures c v m (out-Shape t.shape) ≡ member_shape structures c v m (out-Shape u.shape)
  member_shares c v m _ _ (SameShape t u e) = ap (member_shape structures c v m) e
  member_shares c v m _ _ (Arrays t u of other n e f h) = ap (member_shape structures c v m) e ∙ sym (ap (member_shape structures c v m) f)

  pub member_agrees : (m : ℕ) (u t : PlaceType) → PlacesAgree u t → member_of structures m u ≡ member_of structures m t
  member_agrees m _ _ (SamePlace t) = refl
  member_agrees m _ _ (Objects c v t u h) = member_shares c v m t u (shares t u h)

-- ---- two pointers

left_alike : (a b : ValueType) (c v : Bool) (t u : CType) → alike t u ≡ true → a ≡ ToObject c v u → point_alike a b ≡ true → point_alike (ToObject c v t) b ≡ true
left_alike a NoValue c v t u h e k = absurd (cc)
left_alike a (Integer i) c v t u h e k = absurd (cc)
left_alike a (ToObject c' v' w) c v t u h e k = alike_joined t u w h (subst (λ (x : ValueType). point_alike x (ToObject c' v' w) ≡ true) e k)
left_alike a (ToFunction sig) c v t u h e k = absurd (cc)

pub alike_left : (u t b : ValueType) → Agree u t → point_alike t b ≡ true → point_alike u b ≡ true
alike_left _ _ b (Same t) k = k
alike_left _ _ b (Pointers c v t u h) k = left_alike (ToObject c v u) b c v t u h refl k

right_alike : (a : ValueType) (c v : Bool) (t u : CType) → alike t u ≡ true → point_alike a (ToObject c v u) ≡ true → point_alike a (ToObject c v t) ≡ true
right_alike NoValue c v t u h k = absurd (cc)
right_alike (Integer i) c v t u h k = absurd (cc)
right_alike (ToObject c' v' w) c v t u h k = alike_joined w u t k (alike_mirrored t u h)
right_alike (ToFunction sig) c v t u h k = absurd (cc)

pub alike_right : (a u t : ValueType) → Agree u t → point_alike a t ≡ true → point_alike a u ≡ true
alike_right a _ _ (Same t) k = k
alike_right a _ _ (Pointers c v t u h) k = right_alike a c v t u h k

pub pointers_alike : (u t w s : ValueType) → Agree u t → Agree w s → point_alike t s ≡ true → point_alike u w ≡ true
pointers_alike u t w s h k l = alike_left u t w h (alike_right t w s k l)

from_alike : (to : ValueType) (c v : Bool) (t u : CType) → alike t u ≡ true → is_assignable to (ToObject c v u) ≡ true → is_assignable to (ToObject c v t) ≡ true
from_alike NoValue c v t u h k = absurd (cc)
from_alike (Integer i) c v t u h k = absurd (cc)
from_alike (ToFunction sig) c v t u h k = absurd (cc)
from_alike (ToObject c' v' w) c v t u h k =
    let all = both (alike w u) (implies c c' && implies v v') k in
    and_true (alike w t) (implies c c' && implies v v') (alike_joined w u t all.0 (alike_mirrored t u h)) all.1

pub assigned_from : (to u t : ValueType) → Agree u t → is_assignable to t ≡ true → is_assignable to u ≡ true
assigned_from to _ _ (Same t) k = k
assigned_from to _ _ (Pointers c v t u h) k = from_alike to c v t u h k

-- ---- places

pub read_agrees : (u t : PlaceType) → PlacesAgree u t → read_from u ≡ read_from t
read_agrees _ _ (SamePlace t) = refl
read_agrees _ _ (Objects c v t u h) = alike-scalar t u h

written_by : (c : Bool) (x y : Option ValueType) → x ≡ y → (if c then None else x) ≡ (if c then None else y)
written_by c x y e = ap (λ (z : Option ValueType). if c then None else z) e

pub written_agrees : (u t : PlaceType) → PlacesAgree u t → written_to u ≡ written_to t
written_agrees _ _ (SamePlace t) = refl
written_agrees _ _ (Objects c v t u h) = written_by c (scalar_value t) (scalar_value u) (alike-scalar t u h)

-- an option of a place, and one that agrees
abbrev pub AgreesPlace : Option PlaceType → PlaceType → Type 0
AgreesPlace o b = (a : PlaceType) × (o ≡ Some a) × PlacesAgree a b

abbrev pub AgreesValue : Option ValueType → ValueType → Type 0
AgreesValue o b = (a : ValueType) × (o ≡ Some a) × Agree a b

pub address_agrees : (u t : PlaceType) (b : ValueType) → PlacesAgree u t → address_of t ≡ Some b → AgreesValue (address_of u) b
address_agrees _ _ b (SamePlace t) e = (b, e, Same b)
address_agrees _ _ b (Objects c v t u h) e = (ToObject c v t, refl, subst (λ (x : ValueType). Agree (ToObject c v t) x) (some_is (ToObject c v u) b e) (Pointers c v t u h))

pointed_by : (w w' : Bool) (c v : Bool) (t u : CType) (b : PlaceType) → alike t u ≡ true → w' ≡ w → (if w then None else Some (ObjectPlace c v u)) ≡ Some b → AgreesPlace (if w' then None else Some (ObjectPlace c v t)) b
pointed_by true w' c v t u b h f e = absurd (cc)
pointed_by false w' c v t u b h f e = (ObjectPlace c v t, rw f refl, subst (λ (x : PlaceType). PlacesAgree (ObjectPlace c v t) x) (some_is (ObjectPlace c v u) b e) (Objects c v t u h))

pub pointed_agrees : (u t : ValueType) (b : PlaceType) → Agree u t → pointed_to t ≡ Some b → AgreesPlace (pointed_to u) b
pointed_agrees _ _ b (Same t) e = (b, e, SamePlace b)
pointed_agrees _ _ b (Pointers c v t u h) e = pointed_by (is_void u) (is_void t) c v t u b h (void_alike t u h) e

element_shares : (c v : Bool) (t u : CType) (b : PlaceType) → Alike t u → element_shape c v (out-Shape u.shape) ≡ Some b → AgreesPlace (element_shape c v (out-Shape t.shape)) b
element_shares c v _ _ b (SameShape t u f) e = (b, ap (element_shape c v) f ∙ e, SamePlace b)
element_shares c v _ _ b (Arrays t u of other n f g h) e = (
  ObjectPlace c v of,
  ap (element_shape c v) f,
  subst (λ (x : PlaceType). PlacesAgree (ObjectPlace c v of) x) (some_is (ObjectPlace c v other) b (sym (ap (element_shape c v) g) ∙ e)) (Objects c v of other (tested of other h)),
)

pub element_agrees : (u t : PlaceType) (b : PlaceType) → PlacesAgree u t → element_of t ≡ Some b → AgreesPlace (element_of u) b
element_agrees _ _ b (SamePlace t) e = (b, e, SamePlace b)
element_agrees _ _ b (Objects c v t u h) e = element_shares c v t u b (shares t u h) e
