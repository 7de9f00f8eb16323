-- First values over a view are so, by other numbers, over one that has what they mention.
use Rattle.std.proofs.Common.{◌≡◌, inl, inr, ℕ, ℤ, Bool, true, false, not, ◌&&◌, ◌||◌, nat_eq, List, [], ◌∷◌, map, Option, Some, None, option_map, slice_get, refl, ap, sym, ◌∙◌, subst}
use Rattle.std.specs.Prelude.{nat_le, if◌then◌else◌}
use Rattle.std.specs.List.{list_all, flat_map}
use Rattle.cc_program.specs.CcNum.declared.int_type.IntType.{IntType}
use Rattle.cc_program.specs.CcNum.declared.target.Target.{Target}
use Rattle.cc_program.specs.CcNum.Integers.{is_value_of}
use Rattle.cc_operands.specs.CcSyntax.Views.{View}
use Rattle.cc_program.specs.declared.types.CType.{CType}
use Rattle.cc_program.specs.declared.types.Shape.{Shape, out-Shape}
use Rattle.cc_program.specs.declared.types.Shape.TheOpen as shape
use Rattle.cc_program.specs.declared.types.Sig.{Sig}
use Rattle.cc_program.specs.declared.types.Structure.{Structure}
use Rattle.cc_program.specs.declared.value.Address.{Address}
use Rattle.cc_program.specs.declared.value.Address.TheVariants as address
use Rattle.cc_program.specs.declared.value.Leaf.{Leaf}
use Rattle.cc_program.specs.declared.value.Leaf.TheVariants as leaf
use Rattle.cc_program.specs.declared.value.Part.{Part}
use Rattle.cc_program.specs.declared.value.Part.TheVariants as part
use Rattle.cc_program.specs.declared.value.Root.{Root}
use Rattle.cc_program.specs.declared.value.Root.TheVariants as root
use Rattle.cc_program.proofs.Each.{Each}
use Rattle.cc_structures.proofs.WordLaws.{number_by, renumbered_level, level-renumbered}
use Rattle.cc_operands.specs.CcSyntax.Expressions.{of_one}
use Rattle.cc_operands.specs.CcSyntax.Initial.{bound_shape, bound_of, is_below, step_into, place_at, leads_to_element, names_element, names_whole, names, is_zero, static_place, is_address, AreLeaves, AreElements, AreMembers, OfInteger, OfPointer, OfArray, OfStructure, NoElement, Element, NoMember, Member, IsInitial}
use Rattle.cc_operands.specs.CcSyntax.Lists.{is_count}
use Rattle.cc_operands.specs.CcSyntax.Types.{Named}
use Rattle.cc_operands.specs.CcSyntax.Values.{ValueType, PlaceType, DevicePlace, ObjectPlace, FunctionPlace, pointer_to, address_of, element_of, is_assignable_some}
use Rattle.cc_unit.specs.Mentioned.{in_leaf, in_address, in_root}
use Rattle.cc_unit.specs.Renumbered.{type_renumbered, leaf_renumbered, address_renumbered, root_renumbered, func_by, object_by}
use Rattle.cc_unit.specs.declared.ids.Ids.{Ids}
use Rattle.cc_operand_types.proofs.Rules.{each_of_two, second_of}
use Rattle.cc_relocated_units.specs.Renumbering.{Renumbers, value_renumbered, place_type_renumbered, MemberTypes}
use Rattle.cc_relocated_units.proofs.Places.{element_exact, member_exact, address_exact}
use Rattle.cc_relocated_units.proofs.Typed.{front_each, back_each}
use Rattle.cc_relocated_units.proofs.Types.{pointer_kept}
use Rattle.cc_relocated_units.proofs.Values.{assigned_exact}

-- ---- paths

module _ (numbers : List ℕ) where
  abbrev place : PlaceType → PlaceType
  place a = place_type_renumbered numbers a

  abbrev value : ValueType → ValueType
  value t = value_renumbered numbers t

  bound_level : (x : shape.Shape-F Shape CType Sig) → bound_shape (renumbered_level numbers x) ≡ bound_shape x
  bound_level shape.Void = refl
  bound_level (shape.Int t) = refl
  bound_level (shape.Pointer to) = refl
  bound_level (shape.Array of n) = refl
  bound_level (shape.Struct i) = refl
  bound_level (shape.Func s) = refl

  bound_same : (a : PlaceType) → bound_of (place a) ≡ bound_of a
  bound_same (DevicePlace c i) = refl
  bound_same (ObjectPlace c v t) = ap bound_shape (level-renumbered numbers t (out-Shape t.shape) refl) ∙ bound_level (out-Shape t.shape)
  bound_same (FunctionPlace s) = refl

  assigned_some : (to : ValueType) (o p : Option ValueType) → ((t : ValueType) → o ≡ Some t → p ≡ Some (value t)) → is_assignable_some (Some to) o ≡ true → is_assignable_some (Some (value to)) p ≡ true
  assigned_some to None p f h = absurd (cc)
  assigned_some to (Some t) p f h = ap (is_assignable_some (Some (value to))) (f t refl) ∙ assigned_exact numbers to t h

  element_address : (o p : Option PlaceType) (t : ValueType) → ((b : PlaceType) → o ≡ Some b → p ≡ Some (place b)) → of_one o address_of ≡ Some t → of_one p address_of ≡ Some (value t)
  element_address None p t f e = absurd (cc)
  element_address (Some b) p t f e = ap (λ (q : Option PlaceType). of_one q address_of) (f b refl) ∙ address_exact numbers b t e

  names_element_exact : (to : ValueType) (index count : ℕ) (a : PlaceType) → names_element to index count a ≡ true → names_element (value to) index count (place a) ≡ true
  names_element_exact to index count a h =
      each_of_two (is_count count (bound_of a)) (nat_le index count && is_assignable_some (Some to) (of_one (element_of a) address_of))
      (is_count count (bound_of (place a))) (nat_le index count && is_assignable_some (Some (value to)) (of_one (element_of (place a)) address_of))
      (λ k. ap (is_count count) (bound_same a) ∙ k)
      (second_of (nat_le index count) (is_assignable_some (Some to) (of_one (element_of a) address_of)) (is_assignable_some (Some (value to)) (of_one (element_of (place a)) address_of))
      (assigned_some to (of_one (element_of a) address_of) (of_one (element_of (place a)) address_of)
      (λ t e. element_address (element_of a) (element_of (place a)) t (λ b f. element_exact numbers a b f) e))) h

  names_whole_exact : (to : ValueType) (path : List Part) (index count : ℕ) (a : PlaceType) → names_whole to path index count a ≡ true → names_whole (value to) path index count (place a) ≡ true
  names_whole_exact to path index count a h =
      second_of (not (leads_to_element path)) (nat_eq count 1 && (nat_le index 1 && is_assignable_some (Some to) (address_of a))) (nat_eq count 1 && (nat_le index 1 && is_assignable_some (Some (value to)) (address_of (place a))))
      (second_of (nat_eq count 1) (nat_le index 1 && is_assignable_some (Some to) (address_of a)) (nat_le index 1 && is_assignable_some (Some (value to)) (address_of (place a)))
      (second_of (nat_le index 1) (is_assignable_some (Some to) (address_of a)) (is_assignable_some (Some (value to)) (address_of (place a)))
      (assigned_some to (address_of a) (address_of (place a)) (λ t e. address_exact numbers a t e)))) h

  either_of : (a b c d : Bool) → (a ≡ true → c ≡ true) → (b ≡ true → d ≡ true) → a || b ≡ true → c || d ≡ true
  either_of true b c d f g h = ap (λ (z : Bool). z || d) (f refl)
  either_of false b true d f g h = refl
  either_of false b false d f g h = g h

  names_exact : (to : ValueType) (path : List Part) (index count : ℕ) (o p : Option PlaceType) → ((b : PlaceType) → o ≡ Some b → p ≡ Some (place b)) → names to path index count o ≡ true → names (value to) path index count p ≡ true
  names_exact to path index count None p f h = absurd (cc)
  names_exact to path index count (Some a) p f h = ap (names (value to) path index count) (f a refl)
      ∙ either_of (names_element to index count a) (names_whole to path index count a) (names_element (value to) index count (place a)) (names_whole (value to) path index count (place a))
      (names_element_exact to index count a) (names_whole_exact to path index count a) h

  below_by : (b c : Bool) (x y : Option PlaceType) (r q : PlaceType) → c ≡ b → (x ≡ Some r → y ≡ Some q) → (if b then x else None) ≡ Some r → (if c then y else None) ≡ Some q
  below_by true c x y r q h f e = ap (λ (d : Bool). if d then y else None) h ∙ f e
  below_by false c x y r q h f e = absurd (cc)

  module _ (before after : List Structure) (kept : (i : ℕ) (s : Structure) → slice_get before i ≡ Some s → (t : Structure) × (slice_get after (number_by numbers i) ≡ Some t) × MemberTypes numbers s.members t.members) where
    step_exact : (step : Part) (a b : PlaceType) → step_into before step a ≡ Some b → step_into after step (place a) ≡ Some (place b)
    step_exact (part.Member m) a b e = member_exact numbers before after kept m a b e
    step_exact (part.Index i) a b e = below_by (is_below i (bound_of a)) (is_below i (bound_of (place a))) (element_of a) (element_of (place a)) b (place b) (ap (is_below i) (bound_same a)) (element_exact numbers a b) e

    path_exact : (path : List Part) (a b : PlaceType) → place_at before path a ≡ Some b → place_at after path (place a) ≡ Some (place b)
    path_exact [] a b e = ap (option_map (place_type_renumbered numbers)) e
    path_exact (step ∷ path) a b e = by (step_into before step a) refl e (λ c f. path_exact path c b f)
      where
        by : (o : Option PlaceType) → step_into before step a ≡ o → of_one o (place_at before path) ≡ Some b → ((c : PlaceType) → place_at before path c ≡ Some b → place_at after path (place c) ≡ Some (place b)) →
            of_one (step_into after step (place a)) (place_at after path) ≡ Some (place b)
        by None g f rest = absurd (cc)
        by (Some c) g f rest = ap (λ (q : Option PlaceType). of_one q (place_at after path)) (step_exact step a c g) ∙ rest c f

-- ---- leaves

module _ (v w : View) (ids : Ids) (among : ℕ → Bool) (renumbers : Renumbers v w ids among) where
  abbrev numbers : List ℕ
  numbers = ids.structures

  abbrev M : ℕ → Type 0
  M i = among i ≡ true

  abbrev types : CType → CType
  types t = type_renumbered numbers t

  abbrev all : List Leaf → List Leaf
  all ls = map (leaf_renumbered ids) ls

  abbrev Speaks : List Leaf → Type 0
  Speaks ls = Each M (flat_map in_leaf ls)

  function_address : (to : ValueType) (f : ℕ) (o : Option ValueType) → M f → v.functions f ≡ o → is_assignable_some (Some to) o ≡ true → is_assignable_some (Some (value_renumbered numbers to)) (w.functions (func_by (slice_get ids.names f))) ≡ true
  function_address to f None m e h = absurd (cc)
  function_address to f (Some t) m e h = ap (is_assignable_some (Some (value_renumbered numbers to))) (renumbers.functions f t m e) ∙ assigned_exact numbers to t h

  placed : (object : Root) (path : List Part) (b : PlaceType) → Each M (in_root object) → of_one (static_place v object) (place_at v.structures path) ≡ Some b →
      of_one (static_place w (root_renumbered ids object)) (place_at w.structures path) ≡ Some (place_type_renumbered numbers b)
  placed (root.Static i) path b m e = by (v.statics i) refl e
    where
      by : (o : Option PlaceType) → v.statics i ≡ o → of_one o (place_at v.structures path) ≡ Some b → of_one (w.statics (object_by (slice_get ids.names i))) (place_at w.structures path) ≡ Some (place_type_renumbered numbers b)
      by None g f = absurd (cc)
      by (Some a) g f = ap (λ (q : Option PlaceType). of_one q (place_at w.structures path)) (renumbers.statics i a m.0 g) ∙ path_exact numbers v.structures w.structures renumbers.structures path a b f
  placed (root.Auto activation f local) path b m e = absurd (cc)

  address_exactly : (to : ValueType) (a : Address) → Each M (in_address a) → is_address v to a ≡ true → is_address w (value_renumbered numbers to) (address_renumbered ids a) ≡ true
  address_exactly to address.Null m h = refl
  address_exactly to (address.Func f) m h = function_address to f (v.functions f) m.0 refl h
  address_exactly to (address.At object path index count) m h = names_exact numbers to path index count (of_one (static_place v object) (place_at v.structures path)) (of_one (static_place w (root_renumbered ids object)) (place_at w.structures path))
      (λ b e. placed object path b m e) h

  integer_fits : (i : IntType) (n : ℤ) → is_value_of i v.target n ≡ true → is_value_of i w.target n ≡ true
  integer_fits i n h = subst (λ (target : Target). is_value_of i target n ≡ true) (sym renumbers.target) h

  pointer_fits : (to : CType) (a : Address) → Each M (in_address a) → is_address v (pointer_to to) a ≡ true → is_address w (pointer_to (types to)) (address_renumbered ids a) ≡ true
  pointer_fits to a m h = ap (λ (t : ValueType). is_address w t (address_renumbered ids a)) (pointer_kept numbers to) ∙ address_exactly (pointer_to to) a m h

  mutual
    leaves_numbered : (t : CType) (leaves rest : List Leaf) → AreLeaves v t leaves rest → Speaks leaves → AreLeaves w (types t) (all leaves) (all rest) × Speaks rest
    leaves_numbered _ _ _ (OfInteger t i n rest e h) m = (OfInteger (types t) i n (all rest) (level-renumbered numbers t (shape.Int i) e) (integer_fits i n h), m)
    leaves_numbered _ _ _ (OfPointer t to a rest e h) m = (
      OfPointer (types t) (types to) (address_renumbered ids a) (all rest) (level-renumbered numbers t (shape.Pointer to) e) (pointer_fits to a (front_each M (in_address a) (flat_map in_leaf rest) m) h),
      back_each M (in_address a) (flat_map in_leaf rest) m,
    )
    leaves_numbered _ _ _ (OfArray t of n leaves rest e h) m =
        let r = elements_numbered of n leaves rest h m in
        (OfArray (types t) (types of) n (all leaves) (all rest) (level-renumbered numbers t (shape.Array of n) e) r.0, r.1)
    leaves_numbered _ _ _ (OfStructure t i s leaves rest e f h) m =
        let k = renumbers.structures i s f in
        let r = members_numbered s.members leaves rest h m k.0.members k.2 in
        (OfStructure (types t) (number_by numbers i) k.0 (all leaves) (all rest) (level-renumbered numbers t (shape.Struct i) e) k.1 r.0, r.1)

    elements_numbered : (of : CType) (n : ℕ) (leaves rest : List Leaf) → AreElements v of n leaves rest → Speaks leaves → AreElements w (types of) n (all leaves) (all rest) × Speaks rest
    elements_numbered _ _ _ _ (NoElement of rest) m = (NoElement (types of) (all rest), m)
    elements_numbered _ _ _ _ (Element of n leaves between rest h k) m =
        let r = leaves_numbered of leaves between h m in
        let q = elements_numbered of n between rest k r.1 in
        (Element (types of) n (all leaves) (all between) (all rest) r.0 q.0, q.1)

    members_numbered : (ms : List Named) (leaves rest : List Leaf) → AreMembers v ms leaves rest → Speaks leaves → (ns : List Named) → MemberTypes numbers ms ns → AreMembers w ns (all leaves) (all rest) × Speaks rest
    members_numbered _ _ _ (NoMember rest) m [] e = (NoMember (all rest), m)
    members_numbered _ _ _ (NoMember rest) m (n ∷ ns) e = absurd (cc)
    members_numbered _ _ _ (Member x ms leaves between rest h k) m [] e = absurd (cc)
    members_numbered _ _ _ (Member x ms leaves between rest h k) m (n ∷ ns) e =
        let f : n.1 ≡ types x.1 = cc e in
        let g : map (λ (z : Named). z.1) ns ≡ map (λ (z : Named). types z.1) ms = cc e in
        let r = leaves_numbered x.1 leaves between h m in
        let q = members_numbered ms between rest k r.1 ns g in
        (Member n ns (all leaves) (all between) (all rest) (subst (λ (t : CType). AreLeaves w t (all leaves) (all between)) (sym f) r.0) q.0, q.1)

  address_zero : (a : Address) → is_zero (leaf.Place (address_renumbered ids a)) ≡ is_zero (leaf.Place a)
  address_zero address.Null = refl
  address_zero (address.Func f) = refl
  address_zero (address.At object path index count) = refl

  zero_same : (l : Leaf) → is_zero (leaf_renumbered ids l) ≡ is_zero l
  zero_same (leaf.Int n) = refl
  zero_same (leaf.Place a) = address_zero a

  zeros_same : (ls : List Leaf) → list_all is_zero (all ls) ≡ list_all is_zero ls
  zeros_same [] = refl
  zeros_same (l ∷ ls) = rw (zero_same l, zeros_same ls) refl

  pub initial_numbered : (t : CType) (leaves : List Leaf) → Each M (flat_map in_leaf leaves) → IsInitial v t leaves → IsInitial w (types t) (all leaves)
  initial_numbered t leaves m (inl e) = inl (ap (map (leaf_renumbered ids)) e)
  initial_numbered t leaves m (inr h) = inr ((leaves_numbered t leaves [] h.0 m).0, zeros_same leaves ∙ h.1)
