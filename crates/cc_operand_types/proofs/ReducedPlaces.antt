-- Places whose types lack qualifiers: what is read from them and written to them, their addresses and their parts.
use Rattle.std.proofs.Common.{◌≡◌, ℕ, Bool, true, false, ◌||◌, List, Option, Some, None, slice_get, refl, ap, sym, ◌∙◌, subst}
use Rattle.std.specs.Prelude.{if◌then◌else◌}
use Rattle.std.proofs.lemmas.Option.{same_Some}
use Rattle.cc_operand_types.proofs.Agreement.{void_alike}
use Rattle.cc_program.specs.Qualifiers.{is_const, is_volatile}
use Rattle.cc_program.specs.declared.types.CType.{CType}
use Rattle.cc_program.specs.declared.types.Shape.{Shape, out-Shape}
use Rattle.cc_program.specs.declared.types.Shape.TheOpen as shape
use Rattle.cc_program.specs.declared.types.Sig.{Sig}
use Rattle.cc_program.specs.declared.types.Structure.{Structure}
use Rattle.cc_operands.specs.CcSyntax.SameTypes.{alike}
use Rattle.cc_operands.specs.CcSyntax.Types.{Named}
use Rattle.cc_operands.specs.CcSyntax.Values.{ValueType, Integer, ToObject, ToFunction, PlaceType, DevicePlace, ObjectPlace, FunctionPlace, is_void, implies, read_from, written_to, address_of, pointed_to, element_of, element_shape, member_of, member_shape, member_in, member_at, scalar_value}
use Rattle.cc_operands.proofs.CcSyntax.AlikeLemmas.{alike-scalar, implies_itself, shares, tested}
use Rattle.cc_operands.proofs.CcSyntax.SameLemmas.{Alike, SameShape, Arrays}
use Rattle.cc_operand_types.specs.Reduced.{Reduced, Unused, Integers, Pointers, Functions, ReducedPlace, Devices, Defined, Objects, FunctionPlaces}
use Rattle.cc_operand_types.proofs.Follows.{Gives}
use Rattle.cc_operand_types.proofs.Values.{alike_itself}

pub place_itself : (a : PlaceType) → ReducedPlace a a
place_itself (DevicePlace c i) = Devices c i
place_itself (ObjectPlace c v t) = Objects c v t c v t (alike_itself t) (implies_itself c) (implies_itself v)
place_itself (FunctionPlace s) = FunctionPlaces s

-- ---- what is read and written has the same type

pub read_reduced : (a b : PlaceType) → ReducedPlace a b → (t : ValueType) → read_from b ≡ Some t → read_from a ≡ Some t
read_reduced _ _ (Devices c i) t e = e
read_reduced _ _ (Defined c v x c' i s k) t e = s ∙ e
read_reduced _ _ (Objects c v x c' v' y a k l) t e = alike-scalar x y a ∙ e
read_reduced _ _ (FunctionPlaces s) t e = e

unless_const : (c c' : Bool) (x y : Option ValueType) (t : ValueType) → implies c c' ≡ true → x ≡ y → (if c' then None else y) ≡ Some t → (if c then None else x) ≡ Some t
unless_const c true x y t k f e = absurd (cc)
unless_const true false x y t k f e = absurd (cc)
unless_const false false x y t k f e = f ∙ e

pub written_reduced : (a b : PlaceType) → ReducedPlace a b → (t : ValueType) → written_to b ≡ Some t → written_to a ≡ Some t
written_reduced _ _ (Devices c i) t e = e
written_reduced _ _ (Defined c v x c' i s k) t e = unless_const c c' (scalar_value x) (Some (Integer i)) t k s e
written_reduced _ _ (Objects c v x c' v' y a k l) t e = unless_const c c' (scalar_value x) (scalar_value y) t k (alike-scalar x y a) e
written_reduced _ _ (FunctionPlaces s) t e = e

-- ---- addresses and indirections

pub address_reduced : (a b : PlaceType) → ReducedPlace a b → (t : ValueType) → address_of b ≡ Some t → Gives Reduced (address_of a) t
address_reduced _ _ (Devices c i) t e = absurd (cc)
address_reduced _ _ (Defined c v x c' i s k) t e = absurd (cc)
address_reduced _ _ (Objects c v x c' v' y a k l) t e = (ToObject c v x, refl, subst (λ (z : ValueType). Reduced (ToObject c v x) z) (same_Some (ToObject c' v' y) t e) (Pointers c v x c' v' y a k l))
address_reduced _ _ (FunctionPlaces s) t e = (ToFunction s, refl, subst (λ (z : ValueType). Reduced (ToFunction s) z) (same_Some (ToFunction s) t e) (Functions s))

pointed_by : (w w' : Bool) (c v : Bool) (x : CType) (c' v' : Bool) (y : CType) (b : PlaceType) → alike x y ≡ true → implies c c' ≡ true → implies v v' ≡ true → w' ≡ w →
    (if w then None else Some (ObjectPlace c' v' y)) ≡ Some b → Gives ReducedPlace (if w' then None else Some (ObjectPlace c v x)) b
pointed_by true w' c v x c' v' y b a k l f e = absurd (cc)
pointed_by false w' c v x c' v' y b a k l f e =
    (ObjectPlace c v x, rw f refl, subst (λ (z : PlaceType). ReducedPlace (ObjectPlace c v x) z) (same_Some (ObjectPlace c' v' y) b e) (Objects c v x c' v' y a k l))

pub pointed_reduced : (u t : ValueType) → Reduced u t → (b : PlaceType) → pointed_to t ≡ Some b → Gives ReducedPlace (pointed_to u) b
pointed_reduced _ _ (Unused u) b e = absurd (cc)
pointed_reduced _ _ (Integers j) b e = absurd (cc)
pointed_reduced _ _ (Pointers c v x c' v' y a k l) b e = pointed_by (is_void y) (is_void x) c v x c' v' y b a k l (void_alike x y a) e
pointed_reduced _ _ (Functions s) b e = (FunctionPlace s, refl, subst (λ (z : PlaceType). ReducedPlace (FunctionPlace s) z) (same_Some (FunctionPlace s) b e) (FunctionPlaces s))

-- ---- elements

module _ (c v c' v' : Bool) (k : implies c c' ≡ true) (l : implies v v' ≡ true) where
  element_at : (of other : CType) (b : PlaceType) → alike of other ≡ true → Some (ObjectPlace c' v' other) ≡ Some b → Gives ReducedPlace (Some (ObjectPlace c v of)) b
  element_at of other b a e = (ObjectPlace c v of, refl, subst (λ (z : PlaceType). ReducedPlace (ObjectPlace c v of) z) (same_Some (ObjectPlace c' v' other) b e) (Objects c v of c' v' other a k l))

  element_same : (x : shape.Shape-F Shape CType Sig) (b : PlaceType) → element_shape c' v' x ≡ Some b → Gives ReducedPlace (element_shape c v x) b
  element_same (shape.Array of n) b e = element_at of of b (alike_itself of) e
  element_same shape.Void b e = absurd (cc)
  element_same (shape.Int t) b e = absurd (cc)
  element_same (shape.Pointer to) b e = absurd (cc)
  element_same (shape.Struct s) b e = absurd (cc)
  element_same (shape.Func s) b e = absurd (cc)

  element_by : (x y : CType) (b : PlaceType) → Alike x y → element_shape c' v' (out-Shape y.shape) ≡ Some b → Gives ReducedPlace (element_shape c v (out-Shape x.shape)) b
  element_by _ _ b (SameShape x y f) e = subst (λ (o : shape.Shape-F Shape CType Sig). Gives ReducedPlace (element_shape c v o) b) (sym f) (element_same (out-Shape y.shape) b e)
  element_by _ _ b (Arrays x y of other n f g h) e =
      subst (λ (o : shape.Shape-F Shape CType Sig). Gives ReducedPlace (element_shape c v o) b) (sym f) (element_at of other b (tested of other h) (sym (ap (element_shape c' v') g) ∙ e))

  -- ---- members

  or_implies : (a a' d : Bool) → implies a a' ≡ true → implies (a || d) (a' || d) ≡ true
  or_implies true true d h = refl
  or_implies true false d h = absurd (cc)
  or_implies false true true h = refl
  or_implies false true false h = refl
  or_implies false false d h = implies_itself d

  member_found : (o : Option Named) (b : PlaceType) → member_at c' v' o ≡ Some b → Gives ReducedPlace (member_at c v o) b
  member_found None b e = absurd (cc)
  member_found (Some m) b e = (
    ObjectPlace (c || is_const m.1) (v || is_volatile m.1) m.1,
    refl,
    subst (λ (z : PlaceType). ReducedPlace (ObjectPlace (c || is_const m.1) (v || is_volatile m.1) m.1) z) (same_Some (ObjectPlace (c' || is_const m.1) (v' || is_volatile m.1) m.1) b e)
        (Objects (c || is_const m.1) (v || is_volatile m.1) m.1 (c' || is_const m.1) (v' || is_volatile m.1) m.1 (alike_itself m.1) (or_implies c c' (is_const m.1) k) (or_implies v v' (is_volatile m.1) l)),
  )

  structure_found : (m : ℕ) (o : Option Structure) (b : PlaceType) → member_in c' v' m o ≡ Some b → Gives ReducedPlace (member_in c v m o) b
  structure_found m None b e = absurd (cc)
  structure_found m (Some s) b e = member_found (slice_get s.members m) b e

  member_same : (structures : List Structure) (m : ℕ) (x : shape.Shape-F Shape CType Sig) (b : PlaceType) → member_shape structures c' v' m x ≡ Some b → Gives ReducedPlace (member_shape structures c v m x) b
  member_same structures m (shape.Struct i) b e = structure_found m (slice_get structures i) b e
  member_same structures m shape.Void b e = absurd (cc)
  member_same structures m (shape.Int t) b e = absurd (cc)
  member_same structures m (shape.Pointer to) b e = absurd (cc)
  member_same structures m (shape.Array of n) b e = absurd (cc)
  member_same structures m (shape.Func s) b e = absurd (cc)

  no_member : (structures : List Structure) (m : ℕ) (x : shape.Shape-F Shape CType Sig) (of : CType) (n : ℕ) (b : PlaceType) → x ≡ shape.Array of n → member_shape structures c' v' m x ≡ Some b → ⊥
  no_member structures m x of n b f e = cc (sym (ap (member_shape structures c' v' m) f) ∙ e)

  member_by : (structures : List Structure) (m : ℕ) (x y : CType) (b : PlaceType) → Alike x y → member_shape structures c' v' m (out-Shape y.shape) ≡ Some b → Gives ReducedPlace (member_shape structures c v m (out-Shape x.shape)) b
  member_by structures m _ _ b (SameShape x y f) e = subst (λ (o : shape.Shape-F Shape CType Sig). Gives ReducedPlace (member_shape structures c v m o) b) (sym f) (member_same structures m (out-Shape y.shape) b e)
  member_by structures m _ _ b (Arrays x y of other n f g h) e = absurd (no_member structures m (out-Shape y.shape) other n b g e)

pub element_reduced : (a b : PlaceType) → ReducedPlace a b → (r : PlaceType) → element_of b ≡ Some r → Gives ReducedPlace (element_of a) r
element_reduced _ _ (Devices c i) r e = absurd (cc)
element_reduced _ _ (Defined c v x c' i s k) r e = absurd (cc)
element_reduced _ _ (Objects c v x c' v' y a k l) r e = element_by c v c' v' k l x y r (shares x y a) e
element_reduced _ _ (FunctionPlaces s) r e = absurd (cc)

pub member_reduced : (structures : List Structure) (m : ℕ) (a b : PlaceType) → ReducedPlace a b → (r : PlaceType) → member_of structures m b ≡ Some r → Gives ReducedPlace (member_of structures m a) r
member_reduced structures m _ _ (Devices c i) r e = absurd (cc)
member_reduced structures m _ _ (Defined c v x c' i s k) r e = absurd (cc)
member_reduced structures m _ _ (Objects c v x c' v' y a k l) r e = member_by c v c' v' k l structures m x y r (shares x y a) e
member_reduced structures m _ _ (FunctionPlaces s) r e = absurd (cc)
