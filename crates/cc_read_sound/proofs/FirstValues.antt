-- Each step of an initialiser gives a scalar a value of its type.
use Rattle.std.proofs.Common.{◌≡◌, ℕ, ℤ, pos, Bool, true, false, not, ◌&&◌, ◌||◌, List, [], ◌∷◌, ◌++◌, Option, Some, None, Ok, refl, ap, sym, ◌∙◌, subst, append_assoc, eq-eqb}
use Rattle.std.specs.Prelude.{Err, nat_eq, nat_le, option_to_list, slice_get, if◌then◌else◌}
use Rattle.std.proofs.lemmas.Option.{same_Some}
use Rattle.cc_read_sound.proofs.FirstAddresses.{place_of, Lies, IsSpot, PointsTo, PointsToFunction, Points, pointing}
use Rattle.cc_read_sound.specs.Values.{IsFirst, AreFirst}
use Rattle.cc_sound_declarations.proofs.Ordered.{initialised_gives}
use Rattle.cc_sound_declarations.specs.Scalars.{OneScalar, scalars_of, step_gives, steps_give, IsUnbroken, AreUnbroken}
use Rattle.cc_sound_declarations.specs.Values.{MayStand}
use Rattle.cc_type.specs.CcInitial.Addresses.{Spot, Located, NotConstant, Trapping, AtNull, AtFunction, AtSpot, located, spot_address, address_leaf, integer_leaf, leaf_by, leaf_of}
use Rattle.cc_type.specs.CcInitialisers.Contents.{Contents}
use Rattle.cc_type.specs.CcInitialisers.Initialisers.{Step, Give, Character, Zero, Visit, Break, here as given_here, initialised}
use Rattle.cc_program.specs.CcNum.declared.int_type.IntType.{IntType}
use Rattle.cc_program.specs.CcNum.declared.int_type.IntType.TheVariants as int
use Rattle.cc_program.specs.CcNum.declared.target.Target.{Target}
use Rattle.cc_program.specs.CcNum.Integers.{is_value_of}
use Rattle.cc_type.specs.CcObjects.Values.{zero_leaf, no_leaf, leaf_given, object_by, object_of, objects_in}
use Rattle.cc_operand_types.proofs.Constants.{Fits, truth_fits}
use Rattle.cc_operand_types.proofs.Literals.{character_fits}
use Rattle.cc_operand_types.proofs.Operands.{ok_is, must_ok, value_ok, structure_ok, folded_type, as_constant, constancy_fits}
use Rattle.cc_operand_types.proofs.Stores.{assigned_typed}
use Rattle.cc_operand_types.specs.Typed.{IsTypedOperand, IsAssigned, stands}
use Rattle.cc_program.specs.CcNum.declared.op.BinOp.TheVariants as op
use Rattle.cc_type.specs.CcOperands.Arithmetic.{truth}
use Rattle.cc_type.specs.CcOperands.Assignments.{assigned_pointer, truth_of_pointer, assigned_integer, assigned_by, assigned}
use Rattle.cc_type.specs.CcOperands.Operands.{Operand, operand, integer, constancy, cast_to, converted_by, converted_to, character_value, is_null_constant, null_of, against_null}
use Rattle.cc_type.specs.CcOperands.Verdicts.{Judged, must}
use Rattle.cc_type.specs.CcOperands.declared.rule.Rule.TheVariants as rule
use Rattle.cc_type.specs.CcTypedTerms.Values.{value_found}
use Rattle.cc_program.proofs.Each.{Each}
use Rattle.cc_program.specs.declared.expr.Expr.{Conv}
use Rattle.cc_program.specs.declared.program.Roles.{Roles}
use Rattle.cc_program.specs.declared.types.CType.{CType}
use Rattle.cc_program.specs.declared.value.Address.{Address}
use Rattle.cc_program.specs.declared.value.Address.TheVariants as address
use Rattle.cc_program.specs.declared.value.Leaf.{Leaf}
use Rattle.cc_program.specs.declared.value.Leaf.TheVariants as leaf
use Rattle.cc_program.specs.declared.value.Part.{Part}
use Rattle.cc_operand_types.proofs.Values.{assigned_reduced}
use Rattle.cc_type.specs.CcScopes.State.{State, structures_of}
use Rattle.cc_type.specs.CcScopes.Verdicts.{Found, whole}
use Rattle.cc_type.specs.CcScopes.declared.unit.Declared.{Declared}
use Rattle.cc_sound_declarations.proofs.Initialised.{StepFits}
use Rattle.cc_sound_declarations.proofs.Lists.{initialised_fits}
use Rattle.cc_sound_declarations.specs.Ranges.{given_in_range}
use Rattle.cc_sound_terms.proofs.Behind.{adds_itself, adds_through}
use Rattle.cc_sound_terms.proofs.Cycle.{tree_holds}
use Rattle.cc_sound_terms.proofs.Founds.{answer_is, then_found, whole_found, then_judged}
use Rattle.cc_sound_terms.proofs.Known.{knows_first, knows_second, within_known}
use Rattle.cc_sound_terms.proofs.Trees.{value_holds}
use Rattle.cc_sound_terms.proofs.Within.{AreWithin}
use Rattle.cc_sound_terms.specs.Behind.{Extends}
use Rattle.cc_sound_terms.specs.Growing.{IsConstant}
use Rattle.cc_sound_terms.specs.Knowing.{KnowsAs, KnowsNames, KnowsStructures}
use Rattle.cc_sound_terms.specs.Typing.{Knows}
use Rattle.cc_type.proofs.CcSyntax.SameLemmas.{int_same}
use Rattle.cc_type.specs.CcSyntax.Expressions.{of_one}
use Rattle.cc_type.specs.CcSyntax.Folding.{Constant, NoConstant, Value, Traps, converted_constant}
use Rattle.cc_type.specs.CcSyntax.Initial.{bound_of, leads_to_element, names_element, names_whole, names, is_address}
use Rattle.cc_type.specs.CcSyntax.Lists.{is_count}
use Rattle.cc_type.specs.CcSyntax.SameTypes.{same_int}
use Rattle.cc_type.specs.CcSyntax.Types.{Named}
use Rattle.cc_type.specs.CcSyntax.Values.{ValueType, NoValue, Integer, ToObject, ToFunction, PlaceType, is_scalar, is_assignable, is_assignable_some, object_place, address_of, element_of}
use Rattle.cc_type.specs.CcSyntax.Views.{View}
use Rattle.cc_type.specs.CcTerms.InTurn.{in_turn}
use Rattle.cc_type.specs.CcTerms.Terms.{here}
use Rattle.cc_tree.specs.declared.at.At.{At}
use Rattle.cc_tree.specs.declared.unit.Given.{Given}
use Rattle.cc_type.specs.CcTypedBodies.Plans.{as_given, step_found, step_done, steps_done}
use Rattle.cc_type.specs.CcUnit.declared.unit.UnitKind.{UnitKind}
use Rattle.cc_type.specs.CcUnit.declared.unit.UnitKind.TheVariants as kind

append_nothing : {A : Type 0} (xs : List A) → xs ++ [] ≡ xs
append_nothing [] = refl
append_nothing (x ∷ xs) = ap (λ ys. x ∷ ys) (append_nothing xs)

each_first : {A : Type 0} (P : A → Type 0) (xs ys : List A) → Each P (xs ++ ys) → Each P xs
each_first P [] ys h = tt
each_first P (x ∷ xs) ys h = (h.0, each_first P xs ys h.1)

each_second : {A : Type 0} (P : A → Type 0) (xs ys : List A) → Each P (xs ++ ys) → Each P ys
each_second P [] ys h = h
each_second P (x ∷ xs) ys h = each_second P xs ys h.1

and_true : (a b : Bool) → a ≡ true → b ≡ true → a && b ≡ true
and_true true b h k = k
and_true false b h k = absurd (cc)

or_true : (a b : Bool) → a ≡ true → a || b ≡ true
or_true true b h = refl
or_true false b h = absurd (cc)

or_second : (a b : Bool) → b ≡ true → a || b ≡ true
or_second true b h = refl
or_second false b h = h

abbrev judged_leaf : Leaf → Judged Leaf
judged_leaf l = Ok l

leaf_is : (a l : Leaf) → judged_leaf a ≡ judged_leaf l → a ≡ l
leaf_is a l h = ok_is h

abbrev judged_operand : Operand → Judged Operand
judged_operand x = Ok x

operand_is : (x y : Operand) → judged_operand x ≡ judged_operand y → x ≡ y
operand_is x y h = ok_is h

-- ---- what is assigned to an integer has an integer type, and what is assigned to a pointer has just its type

module _ (target : Target) where
  abbrev OfKind : ValueType → ValueType → Type 0
  OfKind NoValue u = ⊥
  OfKind (Integer i) u = (j : IntType) × (u ≡ Integer j)
  OfKind (ToObject c w t) u = u ≡ ToObject c w t
  OfKind (ToFunction s) u = u ≡ ToFunction s

  cast_kind : (i : IntType) (x : Operand) → OfKind (Integer i) (cast_to target i x).type
  cast_kind i x = (i, folded_type i (converted_constant target i (constancy x)) (Conv i x.value))

  from_kind : (b : Bool) (i s : IntType) (x : Operand) → x.type ≡ Integer s → OfKind (Integer i) (if b then x else cast_to target i x).type
  from_kind true i s x e = (s, e)
  from_kind false i s x e = cast_kind i x

  converted_kind : (i s : IntType) (x : Operand) → x.type ≡ Integer s → OfKind (Integer i) (converted_to target i x).type
  converted_kind i s x e = subst (λ (u : ValueType). OfKind (Integer i) (converted_by target i x u).type) (sym e) (from_kind (same_int s i) i s x e)

  truth_kind : (i : IntType) (x : Operand) → OfKind (Integer i) (truth_of_pointer target x).type
  truth_kind i x = cast_kind int.Bool (truth (against_null op.Ne x))

  same_kind : (t : ValueType) (x y : Operand) → judged_operand x ≡ Ok y → OfKind t x.type → OfKind t y.type
  same_kind t x y h k = subst (λ (z : Operand). OfKind t z.type) (operand_is x y h) k

  integer_kind : (i : IntType) (x y : Operand) (u : ValueType) → x.type ≡ u → assigned_integer target i x u ≡ Ok y → OfKind (Integer i) y.type
  integer_kind i x y (Integer s) e h = same_kind (Integer i) (converted_to target i x) y h (converted_kind i s x e)
  integer_kind i x y NoValue e h = absurd (cc)
  integer_kind i x y (ToObject c w t) e h = same_kind (Integer i) (truth_of_pointer target x) y (must_ok (same_int i int.Bool) rule.NotAssignable (Ok (truth_of_pointer target x)) y h).1 (truth_kind i x)
  integer_kind i x y (ToFunction s) e h = same_kind (Integer i) (truth_of_pointer target x) y (must_ok (same_int i int.Bool) rule.NotAssignable (Ok (truth_of_pointer target x)) y h).1 (truth_kind i x)

  abbrev typed_as : Operand → ValueType
  typed_as x = x.type

  pointer_by : (b : Bool) (to : ValueType) (x y : Operand) → (if b then Ok (operand (null_of to) to) else must (is_assignable to x.type) rule.NotAssignable (Ok (operand x.value to))) ≡ judged_operand y → y.type ≡ to
  pointer_by true to x y h = sym (ap typed_as (operand_is (operand (null_of to) to) y h))
  pointer_by false to x y h = sym (ap typed_as (operand_is (operand x.value to) y (must_ok (is_assignable to x.type) rule.NotAssignable (Ok (operand x.value to)) y h).1))

  pointer_kind : (to : ValueType) (x y : Operand) → assigned_pointer to x ≡ Ok y → y.type ≡ to
  pointer_kind to x y h = pointer_by (is_null_constant x) to x y h

  assigned_kind : (t : ValueType) (x y : Operand) → assigned target t x ≡ Ok y → OfKind t y.type
  assigned_kind t x y h = by_type t (structure_ok x (assigned_by target x t) y h).1
    where
      by_type : (t : ValueType) → assigned_by target x t ≡ Ok y → OfKind t y.type
      by_type NoValue g = absurd (cc)
      by_type (Integer i) g = integer_kind i x y x.type refl g
      by_type (ToObject c w u) g = pointer_kind (ToObject c w u) x y (value_ok x (assigned_pointer (ToObject c w u) x) y g).1
      by_type (ToFunction s) g = pointer_kind (ToFunction s) x y (value_ok x (assigned_pointer (ToFunction s) x) y g).1

module _ (v : View) where
  -- ---- integers

  assignable_integer : (i : IntType) (u : ValueType) → is_assignable (Integer i) u ≡ true → u ≡ Integer i
  assignable_integer i NoValue h = absurd (cc)
  assignable_integer i (Integer j) h = ap Integer (sym (int_same i j h))
  assignable_integer i (ToObject c w t) h = absurd (cc)
  assignable_integer i (ToFunction s) h = absurd (cc)

  integer_by : (i : IntType) (c : Constant) (l : Leaf) → Fits i v.target c → integer_leaf c ≡ Ok l → IsFirst v (Integer i) l
  integer_by i NoConstant l f h = absurd (cc)
  integer_by i (Value n) l f h = subst (IsFirst v (Integer i)) (leaf_is (leaf.Int n) l h) f
  integer_by i Traps l f h = absurd (cc)

  -- ---- addresses

  abbrev IsPointerLeaf : ValueType → Leaf → Type 0
  IsPointerLeaf to l = (a : Address) × (l ≡ leaf.Place a) × (is_address v to a ≡ true)

  function_named : (to : ValueType) (f : ℕ) (own : ValueType) → is_assignable to own ≡ true → PointsToFunction v own f → is_address v to (address.Func f) ≡ true
  function_named to f own e h = ap (is_assignable_some (Some to)) h.there ∙ assigned_reduced to h.own own h.reduced e

  address_assigned : (to : ValueType) (o : Option ValueType) (u : ValueType) → o ≡ Some u → is_assignable to u ≡ true → is_assignable_some (Some to) o ≡ true
  address_assigned to o u e h = ap (is_assignable_some (Some to)) e ∙ h

  element_named : (to : ValueType) (index count : ℕ) (a t : PlaceType) (u : ValueType) → bound_of a ≡ Some count → element_of a ≡ Some t → nat_le index count ≡ true → address_of t ≡ Some u → is_assignable to u ≡ true → names_element to index count a ≡ true
  element_named to index count a t u b e i k h =
      and_true (is_count count (bound_of a)) (nat_le index count && is_assignable_some (Some to) (of_one (element_of a) address_of)) (ap (is_count count) b ∙ eq-eqb count count refl)
      (and_true (nat_le index count) (is_assignable_some (Some to) (of_one (element_of a) address_of)) i (address_assigned to (of_one (element_of a) address_of) u (ap (λ (o : Option PlaceType). of_one o address_of) e ∙ k) h))

  whole_named : (to : ValueType) (path : List Part) (index count : ℕ) (t : PlaceType) (u : ValueType) → leads_to_element path ≡ false → count ≡ 1 → nat_le index count ≡ true → address_of t ≡ Some u → is_assignable to u ≡ true → names_whole to path index count t ≡ true
  whole_named to path index count t u l c i k h =
      and_true (not (leads_to_element path)) (nat_eq count 1 && (nat_le index 1 && is_assignable_some (Some to) (address_of t))) (ap not l)
      (and_true (nat_eq count 1) (nat_le index 1 && is_assignable_some (Some to) (address_of t)) (eq-eqb count 1 c)
      (and_true (nat_le index 1) (is_assignable_some (Some to) (address_of t)) (ap (nat_le index) (sym c) ∙ i) (address_assigned to (address_of t) u k h)))

  spot_by : (to : ValueType) (object : ℕ) (path : List Part) (index count : ℕ) (t : PlaceType) (element : Bool) (u : ValueType) → Lies v object path count t element → nat_le index count ≡ true → address_of t ≡ Some u → is_assignable to u ≡ true →
      names to path index count (place_of v object path) ≡ true
  spot_by to object path index count t false u l i k h =
      ap (names to path index count) l.0
      ∙ or_second (names_element to index count t) (names_whole to path index count t) (whole_named to path index count t u l.1 l.2 i k h)
  spot_by to object path index count t true u l i k h =
      ap (names to path index count) l.1
      ∙ or_true (names_element to index count l.0) (names_whole to path index count l.0) (element_named to index count l.0 t u l.2 l.3 i k h)

  spot_named : (to : ValueType) (spot : Spot) (own : ValueType) → is_assignable to own ≡ true → PointsTo v own spot → is_address v to (spot_address spot) ≡ true
  spot_named to spot own e h =
      spot_by to spot.object spot.path spot.index spot.count spot.type spot.element h.own h.spot_is.lies h.spot_is.index h.address (assigned_reduced to h.own own h.reduced e)

  address_by : (to own : ValueType) (p : Located) (l : Leaf) → is_assignable to own ≡ true → Points v own p → address_leaf p ≡ Ok l → IsPointerLeaf to l
  address_by to own NotConstant l e h g = absurd (cc)
  address_by to own Trapping l e h g = absurd (cc)
  address_by to own AtNull l e h g = (address.Null, sym (leaf_is (leaf.Place address.Null) l g), refl)
  address_by to own (AtFunction f) l e h g = (address.Func f, sym (leaf_is (leaf.Place (address.Func f)) l g), function_named to f own e h)
  address_by to own (AtSpot spot) l e h g = (spot_address spot, sym (leaf_is (leaf.Place (spot_address spot)) l g), spot_named to spot own e h)

  -- ---- static objects

  known_by : (i : ℕ) (t u : CType) (k : UnitKind) → KnowsAs v i t k → object_by t k ≡ Some u → v.statics i ≡ Some (object_place u)
  known_by i t u (kind.Object leaves) w h = w.0 ∙ ap (λ (z : CType). Some (object_place z)) (same_Some t u h)
  known_by i t u (kind.Device d) w h = absurd (cc)
  known_by i t u (kind.Func entry body) w h = absurd (cc)

  known_object : (s : State) → KnowsNames v s.names → (i : ℕ) (u : CType) → objects_in s i ≡ Some u → v.statics i ≡ Some (object_place u)
  known_object s w i u h = by_entry (slice_get s.names i) refl h
    where
      by_entry : (o : Option Declared) → slice_get s.names i ≡ o → object_of o ≡ Some u → v.statics i ≡ Some (object_place u)
      by_entry None e g = absurd (cc)
      by_entry (Some d) e g = known_by i d.ctype u d.kind (w i d e) g

module _ (v : View) (roles : Roles) (locals : List Named) where
  abbrev All : List OneScalar → List Leaf → Type 0
  All ss ls = AreFirst v ss ls

  both_first : (ss ts : List OneScalar) (ls ms : List Leaf) → All ss ls → All ts ms → All (ss ++ ts) (ls ++ ms)
  both_first [] ts [] ms h k = k
  both_first (s ∷ ss) ts (l ∷ ls) ms h k = (h.0, both_first ss ts ls ms h.1 k)
  both_first [] ts (l ∷ ls) ms h k = elim h [ ]
  both_first (s ∷ ss) ts [] ms h k = elim h [ ]

  -- ---- one scalar

  leaf_first : (t : ValueType) (y : Operand) (l : Leaf) (s : State) → KnowsStructures v s.structures → KnowsNames v s.names → OfKind v.target t y.type → IsAssigned v locals t y.value → leaf_by (structures_of s) (objects_in s) y y.type ≡ Ok l → IsFirst v t l
  leaf_first NoValue y l s w n k a h = elim k [ ]
  leaf_first (Integer i) y l s w n k a h =
      let typed = a.typed ∙ ap Some (assignable_integer v i a.own a.assignable) in
      integer_by v i (constancy y) l (constancy_fits v locals y i typed) (ap (leaf_by (structures_of s) (objects_in s) y) (sym k.1) ∙ h)
  leaf_first (ToObject c b t) y l s w n k a h =
      let p = address_by v (ToObject c b t) a.own (located (structures_of s) (objects_in s) y.value) l a.assignable
      (pointing v (structures_of s) (within_known v s w) (objects_in s) (known_object v s n) locals y.value a.own a.typed) (ap (leaf_by (structures_of s) (objects_in s) y) (sym k) ∙ h) in
      subst (IsFirst v (ToObject c b t)) (sym p.1) p.2
  leaf_first (ToFunction f) y l s w n k a h =
      let p = address_by v (ToFunction f) a.own (located (structures_of s) (objects_in s) y.value) l a.assignable
      (pointing v (structures_of s) (within_known v s w) (objects_in s) (known_object v s n) locals y.value a.own a.typed) (ap (leaf_by (structures_of s) (objects_in s) y) (sym k) ∙ h) in
      subst (IsFirst v (ToFunction f)) (sym p.1) p.2

  given_is : (constant : Bool) (t : ValueType) (x : Operand) (l : Leaf) (s : State) → leaf_given v.target constant t x s ≡ Ok l → KnowsStructures v s.structures → KnowsNames v s.names → IsTypedOperand v locals x → stands v t ≡ true → IsFirst v t l
  given_is constant t x l s h w n hx st =
      let a = then_judged (assigned v.target t x) (λ y. leaf_of (structures_of s) (objects_in s) y) l h in
      leaf_first t a.0 l s w n (assigned_kind v.target t x a.0 a.1) (assigned_typed v locals t x a.0 st hx a.1) a.2

  zero_first : (t : ValueType) → is_scalar t ≡ true → IsFirst v t (zero_leaf t)
  zero_first NoValue k = absurd (cc)
  zero_first (Integer i) k = truth_fits i v.target false
  zero_first (ToObject c w t) k = refl
  zero_first (ToFunction sig) k = refl

  zero_is : (constant : Bool) (t : ValueType) (l : Leaf) → no_leaf constant t ≡ Ok l → is_scalar t ≡ true → IsFirst v t l
  zero_is constant t l h k = subst (IsFirst v t) (leaf_is (zero_leaf t) l h) (zero_first t k)

  -- ---- a step

  record StepIs (step : Step) (s : State) (r : Option Leaf × State) : Type 0 where
    grown : Extends v s r.1
    unbroken : IsUnbroken step
    holds : Knows v locals s r.1 → Each (MayStand v) (step_gives step) → All (step_gives step) (option_to_list r.0)

  -- what a scalar is given, once that is judged
  record IsFound (judged : Judged Leaf) (s : State) (r : Option Leaf × State) : Type 0 where
    value : Leaf
    is : judged ≡ Ok value
    what : r.0 ≡ Some value
    state : r.1 ≡ s

  found_is : (at : ℕ) (judged : Judged Leaf) (s : State) (r : Option Leaf × State) → as_given (whole at s judged) ≡ Ok r → IsFound judged s r
  found_is at judged s r h =
      let a = then_found (whole at s judged) (λ x s. Ok (Some x, s)) r h in
      let b = whole_found at s judged a.0 a.1 in
      let c = answer_is (Some a.0.0) a.0.1 r a.2 in
      record { value = a.0.0; is = b.0; what = c.0; state = c.1 ∙ b.1 }

  one_given : (s : OneScalar) (o : Option Leaf) (l : Leaf) → o ≡ Some l → IsFirst v s.1 l → All (s ∷ []) (option_to_list o)
  one_given s o l h k = subst (λ (p : Option Leaf). All (s ∷ []) (option_to_list p)) (sym h) (k, tt)

  abbrev found_by : Step → State → Found (Option Leaf)
  found_by step s = step_found v.target roles Leaf (leaf_given v.target) no_leaf step s

  step_is : (step : Step) → StepFits step → (s : State) (r : Option Leaf × State) → found_by step s ≡ Ok r → StepIs step s r
  step_is (Give constant t e) f s r h =
      let a = then_found (value_found (here v.target roles e) s) (λ x s. as_given (whole e.at s (leaf_given v.target constant t x s))) r h in
      let o = value_holds v locals (here v.target roles e) (tree_holds v locals roles e.node f) s a.0 a.1 in
      let b = found_is e.at (leaf_given v.target constant t a.0.0 a.0.1) a.0.1 r a.2 in
      record {
        grown = subst (λ (z : State). Extends v s z) (sym b.state) o.grows;
        unbroken = tt;
        holds = λ k m.
            let w = subst (λ (z : State). Knows v locals s z) b.state k in
            one_given (constant, t) r.0 b.value b.what (given_is constant t a.0.0 b.value a.0.1 b.is w.types.structures w.names (o.holds w) m.0.1);
      }
  step_is (Character at constant t byte) f s r h =
      let x = integer (character_value v.target byte) int.Int in
      let b = found_is at (leaf_given v.target constant t x s) s r h in
      record {
        grown = subst (λ (z : State). Extends v s z) (sym b.state) (adds_itself v (IsConstant v.target) s);
        unbroken = tt;
        holds = λ k m.
            let w = subst (λ (z : State). Knows v locals s z) b.state k in
            one_given (constant, t) r.0 b.value b.what (given_is constant t x b.value s b.is w.types.structures w.names (as_constant v locals (character_value v.target byte) int.Int (character_fits v.target byte)) m.0.1);
      }
  step_is (Zero at constant t) f s r h =
      let b = found_is at (no_leaf constant t) s r h in
      record {
        grown = subst (λ (z : State). Extends v s z) (sym b.state) (adds_itself v (IsConstant v.target) s);
        unbroken = tt;
        holds = λ k m. one_given (constant, t) r.0 b.value b.what (zero_is constant t b.value b.is m.0.0);
      }
  step_is (Visit e) f s r h =
      let a = then_found (value_found (here v.target roles e) s) (λ x s. Ok (None, s)) r h in
      let o = value_holds v locals (here v.target roles e) (tree_holds v locals roles e.node f) s a.0 a.1 in
      let c = answer_is None a.0.1 r a.2 in
      record {
        grown = subst (λ (z : State). Extends v s z) (sym c.1) o.grows;
        unbroken = tt;
        holds = λ k m. subst (λ (p : Option Leaf). All [] (option_to_list p)) (sym c.0) tt;
      }
  step_is (Break at broken) f s r h = absurd (cc)

  -- ---- all steps

  record StepsAre (steps : List Step) (before : List OneScalar) (given : List Leaf) (s : State) (r : List Leaf × State) : Type 0 where
    grown : Extends v s r.1
    unbroken : AreUnbroken steps
    holds : Knows v locals s r.1 → Each (MayStand v) (steps_give steps) → All before given → All (before ++ steps_give steps) r.0

  steps_are : (steps : List Step) → Each StepFits steps → (before : List OneScalar) (given : List Leaf) (s : State) (r : List Leaf × State) → in_turn (step_done v.target roles Leaf (leaf_given v.target) no_leaf) steps given s ≡ Ok r →
      StepsAre steps before given s r
  steps_are [] f before given s r h =
      let e = answer_is given s r h in
      record {
        grown = subst (λ (z : State). Extends v s z) (sym e.1) (adds_itself v (IsConstant v.target) s);
        unbroken = tt;
        holds = λ k m g. subst (λ (ls : List Leaf). All (before ++ []) ls) (sym e.0) (subst (λ (ss : List OneScalar). All ss given) (sym (append_nothing before)) g);
      }
  steps_are (step ∷ steps) f before given s r h =
      let a = then_found (step_done v.target roles Leaf (leaf_given v.target) no_leaf step given s) (in_turn (step_done v.target roles Leaf (leaf_given v.target) no_leaf) steps) r h in
      let b = then_found (found_by step s) (λ x s. Ok (given ++ option_to_list x, s)) a.0 a.1 in
      let c = answer_is (given ++ option_to_list b.0.0) b.0.1 a.0 b.2 in
      let o = step_is step f.0 s b.0 b.1 in
      let first = subst (λ (z : State). Extends v s z) (sym c.1) o.grown in
      let rest = steps_are steps f.1 (before ++ step_gives step) a.0.0 a.0.1 r a.2 in
      record {
        grown = adds_through v (IsConstant v.target) s a.0.1 r.1 first rest.grown;
        unbroken = (o.unbroken, rest.unbroken);
        holds = λ k m g.
            let here = subst (λ (z : State). Knows v locals s z) c.1 (knows_first v locals s a.0.1 r.1 first rest.grown k) in
            let one = both_first before (step_gives step) given (option_to_list b.0.0) g (o.holds here (each_first (MayStand v) (step_gives step) (steps_give steps) m)) in
            subst (λ (ss : List OneScalar). All ss r.0) (append_assoc before (step_gives step) (steps_give steps))
            (rest.holds (knows_second v locals s a.0.1 r.1 first rest.grown k) (each_second (MayStand v) (step_gives step) (steps_give steps) m) (subst (All (before ++ step_gives step)) (sym c.0) one));
      }

  pub record ValuesAre (c : Contents) (s : State) (r : List Leaf × State) : Type 0 where
    pub grown : Extends v s r.1
    pub holds : Knows v locals s r.1 → Each (MayStand v) (scalars_of c) → All (scalars_of c) r.0

  pub first_values : (c : Contents) (g : At Given) → given_in_range g.node ≡ true → (s : State) (r : List Leaf × State) → steps_done v.target roles Leaf (leaf_given v.target) no_leaf (initialised c (given_here g)) s ≡ Ok r → ValuesAre c s r
  first_values c g f s r h =
      let o = steps_are (initialised c (given_here g)) (initialised_fits g f c) [] [] s r h in
      let e = initialised_gives c g o.unbroken in
      record {
        grown = o.grown;
        holds = λ k m. subst (λ (ss : List OneScalar). All ss r.0) e (o.holds k (subst (Each (MayStand v)) (sym e) m) tt);
      }
