-- An address constant names what it points to, by induction over expressions and places: an object that a path leads to, an element of an array, or its end; and its type is that of the expression, but for
-- qualifiers that this adds.
use Rattle.std.proofs.Common.{◌≡◌, ℕ, ℤ, pos, negsuc, Bool, true, false, ◌&&◌, List, [], ◌∷◌, ◌++◌, length, Option, Some, None, refl, ap, sym, ◌∙◌, subst, arith, lt-ltb}
use Rattle.std.specs.Prelude.{◌+ℤ◌, ◌-ℤ◌, nat_le, nat_lt, slice_get, if◌then◌else◌}
use Rattle.std.proofs.lemmas.Option.{same_Some}
use Rattle.cc_type.specs.CcInitial.Addresses.{Spot, Located, NotConstant, Trapping, AtNull, AtFunction, AtSpot, ConstantExpression, path_into, into, element_found, element_spot, element_in, element_by, element_at, member_spot, member_at, index_in, moved_index, moved_by, moved_to, moved_address, whole_object, expr_step, place_step, constant_expression, place_located}
use Rattle.cc_operand_types.proofs.Rolls.{expr-roll, place-roll}
use Rattle.cc_program.proofs.ExprInduction.{Parts, PlaceParts, by_expr, by_place}
use Rattle.cc_program.specs.declared.expr.Expr.{Expr, roll-Expr, map-Expr, fold-roll-Expr}
use Rattle.cc_program.specs.declared.expr.Expr.TheOpen as one
use Rattle.cc_program.specs.declared.expr.Place.{Place, roll-Place, map-Place, fold-roll-Place}
use Rattle.cc_program.specs.declared.types.CType.{CType}
use Rattle.cc_program.specs.declared.types.Shape.{Shape, out-Shape}
use Rattle.cc_program.specs.declared.types.Shape.TheOpen as shape
use Rattle.cc_program.specs.declared.types.Sig.{Sig}
use Rattle.cc_program.specs.declared.types.Structure.{Structure}
use Rattle.cc_program.specs.declared.value.Part.{Part}
use Rattle.cc_program.specs.declared.value.Part.TheVariants as part
use Rattle.cc_operand_types.proofs.ReducedPlaces.{place_itself, address_reduced, pointed_reduced, element_reduced, member_reduced}
use Rattle.cc_operand_types.proofs.Values.{reduced_itself, assigned_reduced}
use Rattle.cc_sound_terms.proofs.Within.{AreWithin}
use Rattle.cc_operand_types.specs.Reduced.{Reduced, Integers, Pointers, Functions, ReducedPlace}
use Rattle.cc_type.proofs.CcSyntax.AlikeLemmas.{alike_mirrored}
use Rattle.cc_type.proofs.CcSyntax.Prefixes.{both_true}
use Rattle.cc_type.proofs.CcSyntax.SameLemmas.{int_same, sig_compared}
use Rattle.cc_type.specs.CcSyntax.Expressions.{of_one, of_two, type_of, place_type, pointer_type, qualified_type}
use Rattle.cc_type.specs.CcSyntax.Expressions as types
use Rattle.cc_type.specs.CcSyntax.Initial.{bound_of, is_below, step_into, place_at, leads_to_element}
use Rattle.cc_type.specs.CcSyntax.Operators.{when, when_assignable, points_to_object, is_integer, moved_type, subscript_type}
use Rattle.cc_type.specs.CcSyntax.SameTypes.{alike}
use Rattle.cc_type.specs.CcSyntax.Types.{Named}
use Rattle.cc_type.specs.CcSyntax.Values.{ValueType, NoValue, Integer, ToObject, ToFunction, PlaceType, DevicePlace, ObjectPlace, FunctionPlace, is_void, implies, is_assignable, object_place, address_of, pointed_to, element_of, member_of, member_shape, member_in}
use Rattle.cc_type.specs.CcSyntax.Values as values
use Rattle.cc_type.specs.CcSyntax.Views.{View}

-- ---- what there is

one_of : {A B : Type 0} (o : Option A) (f : A → Option B) (r : B) → of_one o f ≡ Some r → (a : A) × (o ≡ Some a) × (f a ≡ Some r)
one_of None f r h = absurd (cc)
one_of (Some a) f r h = (a, refl, h)

two_of : {A B C : Type 0} (o : Option A) (p : Option B) (f : A → B → Option C) (r : C) → of_two o p f ≡ Some r → (a : A) × (b : B) × (o ≡ Some a) × (p ≡ Some b) × (f a b ≡ Some r)
two_of None p f r h = absurd (cc)
two_of (Some a) None f r h = absurd (cc)
two_of (Some a) (Some b) f r h = (a, b, refl, refl, h)

one_same : {A : Type 0} (a b : A) (o : Option A) → o ≡ Some a → o ≡ Some b → a ≡ b
one_same a b o h k = same_Some a b (sym h ∙ k)

when_is : {A : Type 0} (b : Bool) (x y : A) → when b x ≡ Some y → (b ≡ true) × (x ≡ y)
when_is true x y h = (refl, same_Some x y h)
when_is false x y h = absurd (cc)

-- ---- what may be assigned has the type, but for qualifiers

to_object : (c w : Bool) (t : CType) (c' w' : Bool) (u : CType) → alike t u && (implies c' c && implies w' w) ≡ true → Reduced (ToObject c' w' u) (ToObject c w t)
to_object c w t c' w' u h =
    let a = both_true (alike t u) (implies c' c && implies w' w) h in
    let b = both_true (implies c' c) (implies w' w) a.1 in
    Pointers c' w' u c w t (alike_mirrored t u a.0) b.0 b.1

assignable_reduced : (to u : ValueType) → is_assignable to u ≡ true → Reduced u to
assignable_reduced NoValue u h = absurd (cc)
assignable_reduced (Integer i) NoValue h = absurd (cc)
assignable_reduced (Integer i) (Integer j) h = subst (λ (k : ValueType). Reduced k (Integer i)) (ap Integer (int_same i j h)) (Integers i)
assignable_reduced (Integer i) (ToObject c w t) h = absurd (cc)
assignable_reduced (Integer i) (ToFunction s) h = absurd (cc)
assignable_reduced (ToObject c w t) NoValue h = absurd (cc)
assignable_reduced (ToObject c w t) (Integer j) h = absurd (cc)
assignable_reduced (ToObject c w t) (ToObject c' w' u) h = to_object c w t c' w' u h
assignable_reduced (ToObject c w t) (ToFunction s) h = absurd (cc)
assignable_reduced (ToFunction s) NoValue h = absurd (cc)
assignable_reduced (ToFunction s) (Integer j) h = absurd (cc)
assignable_reduced (ToFunction s) (ToObject c w t) h = absurd (cc)
assignable_reduced (ToFunction s) (ToFunction r) h = subst (λ (k : ValueType). Reduced k (ToFunction s)) (ap ToFunction ((sig_compared s).same r h)) (Functions s)

-- ---- an address and what it points to

unless_void : (b : Bool) (t a : PlaceType) → (if b then None else Some t) ≡ Some a → t ≡ a
unless_void true t a h = absurd (cc)
unless_void false t a h = same_Some t a h

-- what the address of a place points to is the place
place_behind : (p : PlaceType) (u : ValueType) (a : PlaceType) → address_of p ≡ Some u → pointed_to u ≡ Some a → p ≡ a
place_behind (DevicePlace c i) u a h k = absurd (cc)
place_behind (ObjectPlace c w t) u a h k = unless_void (is_void t) (ObjectPlace c w t) a (ap pointed_to (same_Some (ToObject c w t) u h) ∙ k)
place_behind (FunctionPlace s) u a h k = same_Some (FunctionPlace s) a (ap pointed_to (same_Some (ToFunction s) u h) ∙ k)

-- the address of what a pointer points to is the pointer
pointer_behind : (u : ValueType) (a : PlaceType) (r : ValueType) → pointed_to u ≡ Some a → address_of a ≡ Some r → u ≡ r
pointer_behind NoValue a r h k = absurd (cc)
pointer_behind (Integer i) a r h k = absurd (cc)
pointer_behind (ToObject c w t) a r h k = same_Some (ToObject c w t) r (ap address_of (unless_void (is_void t) (ObjectPlace c w t) a h) ∙ k)
pointer_behind (ToFunction s) a r h k = same_Some (ToFunction s) r (ap address_of (same_Some (FunctionPlace s) a h) ∙ k)

-- ---- paths

module _ (structures : List Structure) where
  place_more : (path : List Part) (step : Part) (a b c : PlaceType) → place_at structures path a ≡ Some b → step_into structures step b ≡ Some c → place_at structures (path ++ step ∷ []) a ≡ Some c
  place_more [] step a b c h e = ap (λ (o : Option PlaceType). of_one o (place_at structures [])) (ap (step_into structures step) (same_Some a b h) ∙ e)
  place_more (first ∷ path) step a b c h e = by_step (step_into structures first a) h (λ x g. place_more path step x b c g e)
    where
      by_step : (o : Option PlaceType) → of_one o (place_at structures path) ≡ Some b → ((x : PlaceType) → place_at structures path x ≡ Some b → place_at structures (path ++ step ∷ []) x ≡ Some c) → of_one o (place_at structures (path ++ step ∷ [])) ≡ Some c
      by_step None g f = absurd (cc)
      by_step (Some x) g f = f x g

  place_more_of : (o : Option PlaceType) (path : List Part) (step : Part) (b c : PlaceType) → of_one o (place_at structures path) ≡ Some b → step_into structures step b ≡ Some c → of_one o (place_at structures (path ++ step ∷ [])) ≡ Some c
  place_more_of None path step b c h e = absurd (cc)
  place_more_of (Some a) path step b c h e = place_more path step a b c h e

  index_into : (i n : ℕ) (a t : PlaceType) → nat_lt i n ≡ true → bound_of a ≡ Some n → element_of a ≡ Some t → step_into structures (part.Index i) a ≡ Some t
  index_into i n a t h b e = ap (λ (c : Bool). if c then element_of a else None) (ap (is_below i) b ∙ h) ∙ e

member_is_no_element : (path : List Part) (m : ℕ) → leads_to_element (path ++ part.Member m ∷ []) ≡ false
member_is_no_element [] m = refl
member_is_no_element (part.Index i ∷ []) m = refl
member_is_no_element (part.Member n ∷ []) m = refl
member_is_no_element (step ∷ next ∷ path) m = later step next path (member_is_no_element (next ∷ path) m)
  where
    later : (step next : Part) (path : List Part) → leads_to_element ((next ∷ path) ++ part.Member m ∷ []) ≡ false → leads_to_element ((step ∷ next ∷ path) ++ part.Member m ∷ []) ≡ false
    later (part.Index i) (part.Index j) [] h = h
    later (part.Index i) (part.Index j) (x ∷ path) h = h
    later (part.Index i) (part.Member j) [] h = h
    later (part.Index i) (part.Member j) (x ∷ path) h = h
    later (part.Member n) (part.Index j) [] h = h
    later (part.Member n) (part.Index j) (x ∷ path) h = h
    later (part.Member n) (part.Member j) [] h = h
    later (part.Member n) (part.Member j) (x ∷ path) h = h

-- ---- a member is that of a structure that the view has

module _ (some all : List Structure) (within : AreWithin some all) where
  has_some : (c : Bool) (w : Bool) (m : ℕ) (s : Structure) (t : PlaceType) → member_in c w m (Some s) ≡ Some t → nat_lt 0 (length s.members) ≡ true
  has_some c w m s t h = by_members s.members h
    where
      by_members : (ms : List Named) → values.member_at c w (slice_get ms m) ≡ Some t → nat_lt 0 (length ms) ≡ true
      by_members [] g = absurd (cc)
      by_members (x ∷ xs) g = lt-ltb 0 (length (x ∷ xs)) (omega arith)

  in_structure : (c w : Bool) (m i : ℕ) (o : Option Structure) (t : PlaceType) → slice_get some i ≡ o → member_in c w m o ≡ Some t → member_in c w m (slice_get all i) ≡ Some t
  in_structure c w m i None t e h = absurd (cc)
  in_structure c w m i (Some s) t e h =
      let d = within i s e (has_some c w m s t h) in
      ap (member_in c w m) d.1 ∙ ap (λ (ms : List Named). values.member_at c w (slice_get ms m)) d.2 ∙ h

  by_member : (c w : Bool) (m : ℕ) (y : shape.Shape-F Shape CType Sig) (t : PlaceType) → member_shape some c w m y ≡ Some t → member_shape all c w m y ≡ Some t
  by_member c w m (shape.Struct i) t h = in_structure c w m i (slice_get some i) t refl h
  by_member c w m shape.Void t h = absurd (cc)
  by_member c w m (shape.Int j) t h = absurd (cc)
  by_member c w m (shape.Pointer to) t h = absurd (cc)
  by_member c w m (shape.Array of n) t h = absurd (cc)
  by_member c w m (shape.Func s) t h = absurd (cc)

  member_within : (m : ℕ) (a t : PlaceType) → member_of some m a ≡ Some t → member_of all m a ≡ Some t
  member_within m (DevicePlace c i) t h = absurd (cc)
  member_within m (ObjectPlace c w x) t h = by_member c w m (out-Shape x.shape) t h
  member_within m (FunctionPlace s) t h = absurd (cc)

-- ---- spots

module _ (v : View) where
  abbrev pub place_of : ℕ → List Part → Option PlaceType
  place_of object path = of_one (v.statics object) (place_at v.structures path)

  -- an element of an array that lies there, or something that is none
  abbrev pub Lies : ℕ → List Part → ℕ → PlaceType → Bool → Type 0
  Lies object path count t false = (place_of object path ≡ Some t) × (leads_to_element path ≡ false) × (count ≡ 1)
  Lies object path count t true = (array : PlaceType) × (place_of object path ≡ Some array) × (bound_of array ≡ Some count) × (element_of array ≡ Some t)

  pub record IsSpot (spot : Spot) : Type 0 where
    pub lies : Lies spot.object spot.path spot.count spot.type spot.element
    pub index : nat_le spot.index spot.count ≡ true

  path_inside : (object : ℕ) (path : List Part) (i count : ℕ) (t : PlaceType) (element : Bool) → Lies object path count t element → nat_lt i count ≡ true → place_of object (if element then path ++ part.Index i ∷ [] else path) ≡ Some t
  path_inside object path i count t false l h = l.0
  path_inside object path i count t true l h = place_more_of v.structures (v.statics object) path (part.Index i) l.0 t l.1 (index_into v.structures i count l.0 t h l.2 l.3)

  inside : (spot : Spot) → IsSpot spot → nat_lt spot.index spot.count ≡ true → place_of spot.object (path_into spot) ≡ Some spot.type
  inside spot s h = path_inside spot.object spot.path spot.index spot.count spot.type spot.element s.lies h

  -- ---- what an expression of such a type, and a place of one, lead to

  pub record PointsTo (t : ValueType) (spot : Spot) : Type 0 where
    pub spot_is : IsSpot spot
    pub own : ValueType
    pub address : address_of spot.type ≡ Some own
    pub reduced : Reduced own t

  pub record PointsToFunction (t : ValueType) (f : ℕ) : Type 0 where
    pub own : ValueType
    pub there : v.functions f ≡ Some own
    pub reduced : Reduced own t

  abbrev pub Points : ValueType → Located → Type 0
  Points t NotConstant = Unit {0}
  Points t Trapping = Unit {0}
  Points t AtNull = Unit {0}
  Points t (AtFunction f) = PointsToFunction t f
  Points t (AtSpot spot) = PointsTo t spot

  record LeadsTo (t : PlaceType) (spot : Spot) : Type 0 where
    spot_is : IsSpot spot
    reduced : ReducedPlace spot.type t

  abbrev Leads : PlaceType → Located → Type 0
  Leads t NotConstant = Unit {0}
  Leads t Trapping = Unit {0}
  Leads t AtNull = Unit {0}
  Leads t (AtFunction f) = (r : ValueType) → address_of t ≡ Some r → PointsToFunction r f
  Leads t (AtSpot spot) = LeadsTo t spot

  -- ---- the address of a place, and the place of an address

  address_leads : (t : PlaceType) (r : ValueType) (l : Located) → address_of t ≡ Some r → Leads t l → Points r l
  address_leads t r NotConstant e h = tt
  address_leads t r Trapping e h = tt
  address_leads t r AtNull e h = tt
  address_leads t r (AtFunction f) e h = h r e
  address_leads t r (AtSpot spot) e h = let g = address_reduced spot.type t h.reduced r e in record { spot_is = h.spot_is; own = g.0; address = g.1; reduced = g.2 }

  place_points : (t : ValueType) (r : PlaceType) (l : Located) → pointed_to t ≡ Some r → Points t l → Leads r l
  place_points t r NotConstant e h = tt
  place_points t r Trapping e h = tt
  place_points t r AtNull e h = tt
  place_points t r (AtFunction f) e h = λ u k. record { own = h.own; there = h.there; reduced = subst (Reduced h.own) (pointer_behind t r u e k) h.reduced }
  place_points t r (AtSpot spot) e h =
      let g = pointed_reduced h.own t h.reduced r e in
      record { spot_is = h.spot_is; reduced = subst (λ (z : PlaceType). ReducedPlace z r) (sym (place_behind spot.type h.own g.0 h.address g.1)) g.2 }

  -- ---- further types

  qualified_points : (t r : ValueType) (l : Located) → is_assignable r t ≡ true → Points t l → Points r l
  qualified_points t r NotConstant e h = tt
  qualified_points t r Trapping e h = tt
  qualified_points t r AtNull e h = tt
  qualified_points t r (AtFunction f) e h = record { own = h.own; there = h.there; reduced = assignable_reduced r h.own (assigned_reduced r h.own t h.reduced e) }
  qualified_points t r (AtSpot spot) e h = record { spot_is = h.spot_is; own = h.own; address = h.address; reduced = assignable_reduced r h.own (assigned_reduced r h.own t h.reduced e) }

  -- ---- pointers that are moved

  index_there : (count i : ℕ) (n : ℤ) → index_in count n ≡ Some i → nat_le i count ≡ true
  index_there count i (pos k) h = by_test (nat_le k count) refl h
    where
      by_test : (b : Bool) → nat_le k count ≡ b → (if b then Some k else None) ≡ Some i → nat_le i count ≡ true
      by_test true e g = ap (λ (z : ℕ). nat_le z count) (sym (same_Some k i g)) ∙ e
      by_test false e g = absurd (cc)
  index_there count i (negsuc k) h = absurd (cc)

  spot_moved : (t : ValueType) (spot : Spot) (o : Option ℕ) → ((i : ℕ) → o ≡ Some i → nat_le i spot.count ≡ true) → PointsTo t spot → Points t (moved_by spot o)
  spot_moved t spot None f h = tt
  spot_moved t spot (Some i) f h = record { spot_is = record { lies = h.spot_is.lies; index = f i refl }; own = h.own; address = h.address; reduced = h.reduced }

  moved_points : (t : ValueType) (back : Bool) (n : ℤ) (l : Located) → Points t l → Points t (moved_to back n l)
  moved_points t back n NotConstant h = tt
  moved_points t back n Trapping h = tt
  moved_points t back n AtNull h = tt
  moved_points t back n (AtFunction f) h = tt
  moved_points t back n (AtSpot spot) h = spot_moved t spot (moved_index back spot.index spot.count n) (λ i e. index_there spot.count i (if back then pos spot.index -ℤ n else pos spot.index +ℤ n) e) h

  address_moved : (t : ValueType) (back : Bool) (o : Option ℤ) (l : Located) → Points t l → Points t (moved_address back o l)
  address_moved t back None l h = tt
  address_moved t back (Some n) l h = moved_points t back n l h

  -- ---- parts of what lies there

  into_if : (b : Bool) (spot : Spot) (next : Spot → Located) (r : PlaceType) → (b ≡ true → Leads r (next spot)) → Leads r (if b then next spot else Trapping)
  into_if true spot next r f = f refl
  into_if false spot next r f = tt

  into_leads : (t r : PlaceType) (next : Spot → Located) (l : Located) → ((spot : Spot) → LeadsTo t spot → place_of spot.object (path_into spot) ≡ Some spot.type → Leads r (next spot)) → Leads t l → Leads r (into next l)
  into_leads t r next NotConstant f h = tt
  into_leads t r next Trapping f h = tt
  into_leads t r next AtNull f h = tt
  into_leads t r next (AtFunction g) f h = tt
  into_leads t r next (AtSpot spot) f h = into_if (nat_lt spot.index spot.count) spot next r (λ e. f spot h (inside spot h.spot_is e))

  -- an element
  module _ (t r : PlaceType) (e : element_of t ≡ Some r) (spot : Spot) (h : LeadsTo t spot) (here : place_of spot.object (path_into spot) ≡ Some spot.type) where
    found_leads : (i n : ℕ) (u : PlaceType) → bound_of spot.type ≡ Some n → element_of spot.type ≡ Some u → (b : Bool) → nat_le i n ≡ b → Leads r (if b then AtSpot (element_found spot i n u) else Trapping)
    found_leads i n u k f false c = tt
    found_leads i n u k f true c =
        let g = element_reduced spot.type t h.reduced r e in
        record { spot_is = record { lies = (spot.type, here, k, f); index = c }; reduced = subst (λ (z : PlaceType). ReducedPlace z r) (one_same g.0 u (element_of spot.type) g.1 f) g.2 }

    spot_leads : (i n : ℕ) (o : Option PlaceType) → bound_of spot.type ≡ Some n → element_of spot.type ≡ o → Leads r (element_spot spot i n o)
    spot_leads i n None k f = tt
    spot_leads i n (Some u) k f = found_leads i n u k f (nat_le i n) refl

    in_leads : (i : ℕ) (o : Option ℕ) → bound_of spot.type ≡ o → Leads r (element_in spot i o)
    in_leads i None k = tt
    in_leads i (Some n) k = spot_leads i n (element_of spot.type) k refl

    by_leads : (i : ℤ) → Leads r (element_by i spot)
    by_leads (pos i) = in_leads i (bound_of spot.type) refl
    by_leads (negsuc i) = tt

  element_leads : (t r : PlaceType) (o : Option ℤ) (l : Located) → element_of t ≡ Some r → Leads t l → Leads r (element_at o l)
  element_leads t r None l e h = tt
  element_leads t r (Some i) l e h = into_leads t r (element_by i) l (λ spot k here. by_leads t r e spot k here i) h

  -- a member
  module _ (some : List Structure) (within : AreWithin some v.structures) where
    member_found : (t r : PlaceType) (m : ℕ) → member_of v.structures m t ≡ Some r → (spot : Spot) → LeadsTo t spot → place_of spot.object (path_into spot) ≡ Some spot.type → (o : Option PlaceType) → member_of some m spot.type ≡ o → Leads r (member_spot spot m o)
    member_found t r m e spot h here None k = tt
    member_found t r m e spot h here (Some u) k =
        let f = member_within some v.structures within m spot.type u k in
        let g = member_reduced v.structures m spot.type t h.reduced r e in
        record {
          spot_is = record { lies = (place_more_of v.structures (v.statics spot.object) (path_into spot) (part.Member m) spot.type u here f, member_is_no_element (path_into spot) m, refl); index = refl };
          reduced = subst (λ (z : PlaceType). ReducedPlace z r) (one_same g.0 u (member_of v.structures m spot.type) g.1 f) g.2;
        }

    member_leads : (t r : PlaceType) (m : ℕ) (l : Located) → member_of v.structures m t ≡ Some r → Leads t l → Leads r (member_at some m l)
    member_leads t r m l e h = into_leads t r (λ spot. member_spot spot m (member_of some m spot.type)) l (λ spot k here. member_found t r m e spot k here (member_of some m spot.type) refl) h

    -- ---- each expression, and each place

    module _ (objects : ℕ → Option CType) (known : (i : ℕ) (t : CType) → objects i ≡ Some t → v.statics i ≡ Some (object_place t)) (locals : List Named) where
      abbrev constant : Expr → ConstantExpression
      constant e = constant_expression some objects e

      abbrev lies_at : Place → Located
      lies_at a = place_located some objects a

      abbrev type : Expr → Option ValueType
      type e = type_of v locals e

      abbrev place : Place → Option PlaceType
      place a = place_type v locals a

      abbrev pub Pointing : Expr → Type 0
      Pointing e = (t : ValueType) → type_of v locals e ≡ Some t → Points t (constant_expression some objects e).located

      abbrev Leading : Place → Type 0
      Leading a = (t : PlaceType) → place_type v locals a ≡ Some t → Leads t (place_located some objects a)

      constant-roll : (x : one.Expr-F Expr Place) → constant (roll-Expr x) ≡ expr_step some objects (map-Expr Expr Place ConstantExpression Located constant lies_at x)
      unfolding constant_expression place_located
      constant-roll x = fold-roll-Expr ConstantExpression Located (expr_step some objects) (place_step some objects) x

      located-roll : (x : one.Place-F Expr Place) → lies_at (roll-Place x) ≡ place_step some objects (map-Place Expr Place ConstantExpression Located constant lies_at x)
      unfolding constant_expression place_located
      located-roll x = fold-roll-Place ConstantExpression Located (expr_step some objects) (place_step some objects) x

      level : (x : one.Expr-F Expr Place) → Parts Pointing Leading x → (t : ValueType) → types.expr_step v locals (map-Expr Expr Place (Option ValueType) (Option PlaceType) type place x) ≡ Some t →
          Points t (expr_step some objects (map-Expr Expr Place ConstantExpression Located constant lies_at x)).located
      level (one.Const n i) h t e = tt
      level (one.Null u) h t e = tt
      level (one.FuncAddr f) h t e = record { own = t; there = e; reduced = reduced_itself t }
      level (one.Load a) h t e = tt
      level (one.AddrOf a) h t e = let g = one_of (place a) address_of t e in address_leads g.0 t (lies_at a) g.2 (h g.0 g.1)
      level (one.Un o i a) h t e = tt
      level (one.Bin o i a b) h t e = tt
      level (one.Conv i a) h t e = tt
      level (one.Qualify u a) h t e =
          let g = one_of (type a) (qualified_type v u) t e in
          qualified_points g.0 t (constant a).located (qualifies (pointer_type v u) g.0 t g.2) (h g.0 g.1)
        where
          qualifies : (o : Option ValueType) (u t : ValueType) → when_assignable o u ≡ Some t → is_assignable t u ≡ true
          qualifies None u t f = absurd (cc)
          qualifies (Some to) u t f = let w = when_is (is_assignable to u) to t f in ap (λ (z : ValueType). is_assignable z u) (sym w.1) ∙ w.0
      level (one.Move a b back) h t e =
          let g = two_of (type a) (type b) (moved_type v.structures) t e in
          let w = when_is (points_to_object v.structures g.0 && is_integer g.1) g.0 t g.4 in
          address_moved t back (constant b).number (constant a).located (subst (λ (z : ValueType). Points z (constant a).located) w.1 (h.0 g.0 g.2))
      level (one.Gap a b) h t e = tt
      level (one.Compare o a b) h t e = tt
      level (one.Both a b) h t e = tt
      level (one.Either a b) h t e = tt
      level (one.Choose c a b) h t e = tt
      level (one.Assign a b) h t e = tt
      level (one.Change a o i b) h t e = tt
      level (one.After a down) h t e = tt
      level (one.Call f args) h t e = tt
      level (one.Intr i a) h t e = tt
      level (one.Seq a b) h t e = tt

      static_leads : (i : ℕ) (t : PlaceType) (o : Option CType) → objects i ≡ o → v.statics i ≡ Some t → Leads t (whole_object i o)
      static_leads i t None k e = tt
      static_leads i t (Some u) k e =
          let f = known i u k in
          record {
            spot_is = record { lies = (ap (λ (o : Option PlaceType). of_one o (place_at v.structures [])) f, refl, refl); index = refl };
            reduced = subst (ReducedPlace (object_place u)) (one_same (object_place u) t (v.statics i) f e) (place_itself (object_place u));
          }

      subscripted : (b : Bool) (a r : PlaceType) (o : Option PlaceType) → (if b then o else None) ≡ Some r → o ≡ Some r
      subscripted true a r o h = h
      subscripted false a r o h = absurd (cc)

      place_level : (x : one.Place-F Expr Place) → PlaceParts Pointing Leading x → (t : PlaceType) → types.place_step v locals (map-Place Expr Place (Option ValueType) (Option PlaceType) type place x) ≡ Some t →
          Leads t (place_step some objects (map-Place Expr Place ConstantExpression Located constant lies_at x))
      place_level (one.Local n) h t e = tt
      place_level (one.Static i) h t e = static_leads i t (objects i) refl e
      place_level (one.Device d) h t e = tt
      place_level (one.Element a i) h t e =
          let g = two_of (place a) (type i) subscript_type t e in
          element_leads g.0 t (constant i).number (lies_at a) (subscripted (is_integer g.1) g.0 t (element_of g.0) g.4) (h.0 g.0 g.2)
      place_level (one.Member a m) h t e = let g = one_of (place a) (member_of v.structures m) t e in member_leads g.0 t m (lies_at a) g.2 (h g.0 g.1)
      place_level (one.Deref a) h t e = let g = one_of (type a) pointed_to t e in place_points g.0 t (constant a).located g.2 (h g.0 g.1)

      made : (x : one.Expr-F Expr Place) → Parts Pointing Leading x → Pointing (roll-Expr x)
      made x h t e = subst (λ (c : ConstantExpression). Points t c.located) (sym (constant-roll x)) (level x h t (sym (expr-roll v locals (roll-Expr x) x refl) ∙ e))

      made_place : (x : one.Place-F Expr Place) → PlaceParts Pointing Leading x → Leading (roll-Place x)
      made_place x h t e = subst (Leads t) (sym (located-roll x)) (place_level x h t (sym (place-roll v locals (roll-Place x) x refl) ∙ e))

      pub pointing : (e : Expr) → Pointing e
      pointing = by_expr Pointing Leading made made_place
