-- Where places lead, and what is accessed there, has the type of the place: the paths of elements and members, step by step.
use Rattle.std.proofs.Common.{◌≡◌, ℕ, ℤ, Bool, true, false, ◌&&◌, ◌||◌, ◌⊎◌, inl, inr, List, [], ◌∷◌, ◌++◌, Option, Some, None, refl, ap, sym, ◌∙◌, subst}
use Rattle.std.proofs.lemmas.Bool.{eq-eqb}
use Rattle.std.proofs.lemmas.Option.{same_Some}
use Rattle.std.specs.Prelude.{nat_le, nat_lt, nat_eq, is_some, option_map, option_and_then, slice_get, if◌then◌else◌}
use Rattle.cc_program.specs.CcNum.declared.int_type.IntType.{IntType}
use Rattle.cc_program.specs.Qualifiers.{is_const, is_volatile}
use Rattle.cc_program.specs.declared.object.Device.{Device}
use Rattle.cc_program.specs.declared.program.Program.{Program}
use Rattle.cc_program.specs.declared.types.CType.{CType}
use Rattle.cc_program.specs.declared.types.Shape.{Shape, out-Shape}
use Rattle.cc_program.specs.declared.types.Shape.TheOpen as shape
use Rattle.cc_program.specs.declared.types.Sig.{Sig}
use Rattle.cc_program.specs.declared.types.Structure.{Structure}
use Rattle.cc_program.specs.declared.value.Address.{Address}
use Rattle.cc_program.specs.declared.value.Address.TheVariants as address
use Rattle.cc_program.specs.declared.value.Cell.{Cell}
use Rattle.cc_program.specs.declared.value.Cell.TheVariants as cell
use Rattle.cc_program.specs.declared.value.Part.{Part}
use Rattle.cc_program.specs.declared.value.Part.TheVariants as part
use Rattle.cc_program.specs.declared.value.Root.{Root}
use Rattle.cc_program.specs.declared.value.Value.{Value}
use Rattle.cc_steps.specs.CcEval.declared.spots.Spot.{Spot}
use Rattle.cc_steps.specs.CcEval.declared.spots.Spot.TheVariants as spot
use Rattle.cc_steps.specs.CcEval.Context.{object_type, are_alike, has_elements, path_to, named_by, designated, cell_of, cell_at, element_in, element, member}
use Rattle.cc_steps.specs.CcSyntax.Expressions.{of_one, of_two}
use Rattle.cc_steps.specs.CcSyntax.Initial.{bound_shape, bound_of, is_below, step_into, place_at, names, names_element, names_whole}
use Rattle.cc_steps.specs.CcSyntax.Lists.{is_count}
use Rattle.cc_steps.specs.CcSyntax.Types.{Named}
use Rattle.cc_steps.specs.CcSyntax.Values.{ValueType, Integer, ToObject, PlaceType, DevicePlace, ObjectPlace, FunctionPlace, scalar_shape, scalar_value, read_from, address_of, element_shape, element_of, member_at, member_in, member_shape, member_of, implies, is_assignable_some}
use Rattle.cc_steps.specs.CcValues.Values.{integer, index_in}
use Rattle.cc_states.specs.Typed.{IsOpened, place_in, IsAddress, IsSpot, MayLead, cell_type, IsThere}
use Rattle.cc_steps.proofs.CcSyntax.AlikeLemmas.{alike_itself, shares, array_view, tested, alike-scalar, alike-struct, assignable_object}
use Rattle.cc_states.proofs.Options.{one_as_then, either_true, left_true}
use Rattle.cc_steps.proofs.CcSyntax.SameLemmas.{and_true}
use Rattle.cc_states.proofs.MemoryLemmas.{part_in_memory}
use Rattle.cc_states.proofs.TypedLemmas.{within}
use Rattle.cc_states.proofs.PlaceLemmas.{in_more, leads_member, RealPlace, CanPoint, real, element_place, whole_place, below_count, taken_step, elements_by, not_whole, no_true}

module _ (p : Program) (openings : List ℕ) where
  -- what is designated by a place of this type
  abbrev pub Designates : Bool → Bool → CType → Root × List Part → Type 0
  Designates c v t o = IsOpened openings o.0 × CanPoint c v t (place_in p o.0 o.1)

  module _ (c v : Bool) (t : CType) (object : Root) (path : List Part) (index count : ℕ) where
    -- where the path leads to an array with such elements
    element_named : (a : PlaceType) → place_in p object path ≡ Some a → nat_lt index count ≡ true → names_element (ToObject c v t) index count a ≡ true → CanPoint c v t (place_in p object (path ++ part.Index index ∷ []))
    element_named a e b h =
        let there = element_place c v t index count a h in
        let step = taken_step p.structures index a (is_below index (bound_of a)) refl (below_count index count (bound_of a) there.0 b) in
        subst (CanPoint c v t) (sym (in_more p object path (part.Index index) ∙ ap (λ x. of_one x (step_into p.structures (part.Index index))) e ∙ step)) there.1

    path_named : (a : PlaceType) (elements : Bool) → place_in p object path ≡ Some a → are_alike (element_of a) (ObjectPlace c v t) ≡ elements → nat_lt index count ≡ true →
        (names_element (ToObject c v t) index count a ≡ true) ⊎ (names_whole (ToObject c v t) path index count a ≡ true) → CanPoint c v t (place_in p object (path_to elements path index))
    path_named a true e k b (inl h) = element_named a e b h
    path_named a true e k b (inr h) = absurd (not_whole c v t a (whole_place c v t path index count a h) k)
    path_named a false e k b (inl h) = absurd (no_true (are_alike (element_of a) (ObjectPlace c v t)) (elements_by c v t (element_of a) (element_place c v t index count a h).1) k)
    path_named a false e k b (inr h) = subst (CanPoint c v t) (sym e) (whole_place c v t path index count a h)

    has_elements-at : (a : PlaceType) → place_in p object path ≡ Some a → has_elements p (ObjectPlace c v t) object path ≡ are_alike (element_of a) (ObjectPlace c v t)
    has_elements-at a e = ap (λ x. are_alike (option_and_then element_of x) (ObjectPlace c v t)) (sym (one_as_then (object_type p object) (place_at p.structures path)) ∙ e)

    path_named_by : (x : Option PlaceType) → place_in p object path ≡ x → names (ToObject c v t) path index count x ≡ true → nat_lt index count ≡ true →
        CanPoint c v t (place_in p object (path_to (has_elements p (ObjectPlace c v t) object path) path index))
    path_named_by None e h b = absurd (cc)
    path_named_by (Some a) e h b =
        path_named a (has_elements p (ObjectPlace c v t) object path) e (sym (has_elements-at a e)) b (either_true (names_element (ToObject c v t) index count a) (names_whole (ToObject c v t) path index count a) h)

    named_within : (o : Root × List Part) (b : Bool) → nat_lt index count ≡ b → IsOpened openings object → names (ToObject c v t) path index count (place_in p object path) ≡ true →
        (if b then Some (object, path_to (has_elements p (ObjectPlace c v t) object path) path index) else None) ≡ Some o → Designates c v t o
    named_within o true e h k f =
        subst (Designates c v t) (same_Some (object, path_to (has_elements p (ObjectPlace c v t) object path) path index) o f) (h, path_named_by (place_in p object path) refl k e)
    named_within o false e h k f = absurd (cc)

  pub named : (c v : Bool) (t : CType) (a : Address) (o : Root × List Part) → IsAddress p openings (ToObject c v t) a → named_by p (ObjectPlace c v t) a ≡ Some o → Designates c v t o
  named c v t address.Null o h e = absurd (cc)
  named c v t (address.Func f) o h e = absurd (cc)
  named c v t (address.At object path index count) o h e = named_within c v t object path index count o (nat_lt index count) refl h.0 h.1 e

  pub designates : (c v : Bool) (t : CType) (s : Spot) (o : Root × List Part) → IsSpot p openings (ObjectPlace c v t) s → designated p (ObjectPlace c v t) s ≡ Some o → Designates c v t o
  designates c v t (spot.Device d) o h e = absurd (cc)
  designates c v t (spot.Object object path) o h e = subst (Designates c v t) (same_Some (object, path) o e) (h.0, h.2)
  designates c v t (spot.Address a) o h e = named c v t a o h e

  -- ---- what is accessed

  abbrev pub IsCellOf : ValueType → Cell → Type 0
  IsCellOf w at = (cell_type p at ≡ Some w) × IsThere openings at

  object_cell : (c v : Bool) (t : CType) (w : ValueType) (o : Root × List Part) → scalar_value t ≡ Some w → Designates c v t o → IsCellOf w (cell_of o)
  object_cell c v t w o k d =
      let r = real c v t (place_in p o.0 o.1) d.1 in
      (ap (λ x. of_one x read_from) r.is ∙ sym (alike-scalar t r.to r.one) ∙ k, d.0)

  device_cell : (t : IntType) (d : ℕ) (x : Option Device) → option_map (λ d. d.int) x ≡ Some t → option_map (λ (d : Device). Integer d.int) x ≡ Some (Integer t)
  device_cell t d None h = absurd (cc)
  device_cell t d (Some device) h = ap (λ (i : IntType). Some (Integer i)) (same_Some device.int t h)

  named_cell : (c v : Bool) (t : CType) (w : ValueType) (x : Option (Root × List Part)) (at : Cell) → ((o : Root × List Part) → x ≡ Some o → Designates c v t o) → scalar_value t ≡ Some w →
      option_map cell_of x ≡ Some at → IsCellOf w at
  named_cell c v t w None at h k e = absurd (cc)
  named_cell c v t w (Some o) at h k e = subst (IsCellOf w) (same_Some (cell_of o) at e) (object_cell c v t w o k (h o refl))

  pub cell_there : (u : PlaceType) (w : ValueType) (s : Spot) (at : Cell) → IsSpot p openings u s → read_from u ≡ Some w → cell_at p u s ≡ Some at → IsCellOf w at
  cell_there (DevicePlace constant t) w (spot.Device d) at h k e =
      subst (λ (x : ValueType). IsCellOf x at) (same_Some (Integer t) w k) (subst (IsCellOf (Integer t)) (same_Some (cell.Device d) at e) (device_cell t d (slice_get p.devices d) h, tt))
  cell_there (DevicePlace constant t) w (spot.Object object path) at h k e = absurd h
  cell_there (DevicePlace constant t) w (spot.Address a) at h k e = absurd h
  cell_there (ObjectPlace c v t) w (spot.Device d) at h k e = absurd h
  cell_there (ObjectPlace c v t) w (spot.Object object path) at h k e = subst (IsCellOf w) (same_Some (cell.At object path) at e) (object_cell c v t w (object, path) k (h.0, h.2))
  cell_there (ObjectPlace c v t) w (spot.Address a) at h k e = named_cell c v t w (named_by p (ObjectPlace c v t) a) at (λ o f. named c v t a o h f) k e
  cell_there (FunctionPlace sig) w s at h k e = absurd (cc)

  -- ---- members

  or_implies : (a b k : Bool) → implies a b ≡ true → implies (a || k) (b || k) ≡ true
  or_implies true true k h = refl
  or_implies true false k h = absurd (cc)
  or_implies false true true h = refl
  or_implies false true false h = refl
  or_implies false false true h = refl
  or_implies false false false h = refl

  abbrev MemberAt : ℕ → PlaceType → Root × List Part → Type 0
  MemberAt m w o = MayLead p openings w (Some (spot.Object o.0 (o.1 ++ part.Member m ∷ [])))

  -- a member of the structure that is there, whose qualifiers are no more than those of the one that is named
  member_named : (c v : Bool) (t : CType) (w : PlaceType) (m : ℕ) (o : Root × List Part) (r : RealPlace c v t (place_in p o.0 o.1)) (n : Option Named) → IsOpened openings o.0 →
      member_at c v n ≡ Some w → member_of p.structures m (ObjectPlace r.const r.volat r.to) ≡ member_at r.const r.volat n → MemberAt m w o
  member_named c v t w m o r None h e k = absurd (cc)
  member_named c v t w m o r (Some n) h e k =
      let there : place_in p o.0 (o.1 ++ part.Member m ∷ []) ≡ Some (ObjectPlace (r.const || is_const n.1) (r.volat || is_volatile n.1) n.1) =
      in_more p o.0 o.1 (part.Member m) ∙ ap (λ x. of_one x (step_into p.structures (part.Member m))) r.is ∙ k in
      let can : CanPoint (c || is_const n.1) (v || is_volatile n.1) n.1 (place_in p o.0 (o.1 ++ part.Member m ∷ [])) =
      subst (CanPoint (c || is_const n.1) (v || is_volatile n.1) n.1) (sym there)
      (assignable_object (c || is_const n.1) (v || is_volatile n.1) n.1 (r.const || is_const n.1) (r.volat || is_volatile n.1) n.1 (alike_itself n.1)
      (or_implies r.const c (is_const n.1) r.keeps_const) (or_implies r.volat v (is_volatile n.1) r.keeps_volatile)) in
      subst (λ (x : PlaceType). MemberAt m x o) (same_Some (ObjectPlace (c || is_const n.1) (v || is_volatile n.1) n.1) w e) (h, leads_member o.1 m, can)

  member_in_structure : (c v : Bool) (t : CType) (w : PlaceType) (m : ℕ) (o : Root × List Part) (r : RealPlace c v t (place_in p o.0 o.1)) (s : Option Structure) → IsOpened openings o.0 →
      member_in c v m s ≡ Some w → member_of p.structures m (ObjectPlace r.const r.volat r.to) ≡ member_in r.const r.volat m s → MemberAt m w o
  member_in_structure c v t w m o r None h e k = absurd (cc)
  member_in_structure c v t w m o r (Some s) h e k = member_named c v t w m o r (slice_get s.members m) h e k

  member_shaped : (c v : Bool) (t : CType) (w : PlaceType) (m : ℕ) (o : Root × List Part) (r : RealPlace c v t (place_in p o.0 o.1)) (x : shape.Shape-F Shape CType Sig) → IsOpened openings o.0 →
      out-Shape t.shape ≡ x → member_shape p.structures c v m x ≡ Some w → MemberAt m w o
  member_shaped c v t w m o r (shape.Struct i) h f e =
      member_in_structure c v t w m o r (slice_get p.structures i) h e (ap (member_shape p.structures r.const r.volat m) (alike-struct t r.to r.one i f))
  member_shaped c v t w m o r shape.Void h f e = absurd (cc)
  member_shaped c v t w m o r (shape.Int i) h f e = absurd (cc)
  member_shaped c v t w m o r (shape.Pointer to) h f e = absurd (cc)
  member_shaped c v t w m o r (shape.Array of n) h f e = absurd (cc)
  member_shaped c v t w m o r (shape.Func s) h f e = absurd (cc)

  member_led : (c v : Bool) (t : CType) (w : PlaceType) (m : ℕ) (x : Option (Root × List Part)) → ((o : Root × List Part) → x ≡ Some o → Designates c v t o) → member_of p.structures m (ObjectPlace c v t) ≡ Some w →
      MayLead p openings w (option_map (λ o. spot.Object o.0 (o.1 ++ part.Member m ∷ [])) x)
  member_led c v t w m None h e = tt
  member_led c v t w m (Some o) h e = member_shaped c v t w m o (real c v t (place_in p o.0 o.1) (h o refl).1) (out-Shape t.shape) (h o refl).0 refl e

  member_spot : (u w : PlaceType) (m : ℕ) (s : Spot) → IsSpot p openings u s → member_of p.structures m u ≡ Some w → MayLead p openings w (member p m u s)
  member_spot (DevicePlace constant t) w m s h e = absurd (cc)
  member_spot (FunctionPlace sig) w m s h e = absurd (cc)
  member_spot (ObjectPlace c v t) w m s h e = member_led c v t w m (designated p (ObjectPlace c v t) s) (λ o f. designates c v t s o h f) e

  pub may_lead_member : (u w : PlaceType) (m : ℕ) (s : Option Spot) → MayLead p openings u s → member_of p.structures m u ≡ Some w → MayLead p openings w (of_two (Some u) s (member p m))
  may_lead_member u w m None h e = tt
  may_lead_member u w m (Some s) h e = member_spot u w m s h e

  -- ---- elements

  element_real : (c v : Bool) (of : CType) (n k count : ℕ) (t : CType) (x : Option PlaceType) (r : RealPlace c v t x) → out-Shape t.shape ≡ shape.Array of n → Some n ≡ Some count → nat_le k count ≡ true →
      names_element (ToObject c v of) k count (ObjectPlace r.const r.volat r.to) ≡ true
  element_real c v of n k count t x r e f b =
      let last = array_view t r.to (shares t r.to r.one) of n e in
      let bound : is_count count (bound_shape (out-Shape r.to.shape)) ≡ true = ap (λ y. is_count count (bound_shape y)) last.1 ∙ ap (nat_eq count) (same_Some n count f) ∙ eq-eqb count count refl in
      let can : is_assignable_some (Some (ToObject c v of)) (of_one (element_shape r.const r.volat (out-Shape r.to.shape)) address_of) ≡ true =
      ap (λ y. is_assignable_some (Some (ToObject c v of)) (of_one (element_shape r.const r.volat y) address_of)) last.1
      ∙ assignable_object c v of r.const r.volat last.0 (tested of last.0 last.2) r.keeps_const r.keeps_volatile in
      and_true (is_count count (bound_shape (out-Shape r.to.shape))) (nat_le k count && is_assignable_some (Some (ToObject c v of)) (of_one (element_shape r.const r.volat (out-Shape r.to.shape)) address_of)) bound
      (and_true (nat_le k count) (is_assignable_some (Some (ToObject c v of)) (of_one (element_shape r.const r.volat (out-Shape r.to.shape)) address_of)) b can)

  array_is_no_scalar : (x : shape.Shape-F Shape CType Sig) (of : CType) (n : ℕ) → x ≡ shape.Array of n → is_some (scalar_shape x) ≡ true → ⊥
  array_is_no_scalar x of n e h = let z : false ≡ true = sym (ap (λ (y : shape.Shape-F Shape CType Sig). is_some (scalar_shape y)) e) ∙ h in absurd (cc)

  element_address : (c v : Bool) (t of : CType) (n k count : ℕ) (o : Root × List Part) → Designates c v t o → out-Shape t.shape ≡ shape.Array of n → Some n ≡ Some count → nat_le k count ≡ true →
      IsAddress p openings (ToObject c v of) (address.At o.0 o.1 k count)
  element_address c v t of n k count o d e f b =
      let r = real c v t (place_in p o.0 o.1) d.1 in (
        d.0,
        subst (λ x. names (ToObject c v of) o.1 k count x ≡ true) (sym r.is)
            (left_true (names_element (ToObject c v of) k count (ObjectPlace r.const r.volat r.to)) (names_whole (ToObject c v of) o.1 k count (ObjectPlace r.const r.volat r.to))
            (element_real c v of n k count t (place_in p o.0 o.1) r e f b)),
        part_in_memory p o.0 o.1 (ObjectPlace r.const r.volat r.to) r.is
            (λ whole scalar. array_is_no_scalar (out-Shape r.to.shape) (array_view t r.to (shares t r.to r.one) of n e).0 n (array_view t r.to (shares t r.to r.one) of n e).1 scalar),
      )

  element_found : (c v : Bool) (t of : CType) (n count : ℕ) (x : Option ℕ) (o : Root × List Part) → ((k : ℕ) → x ≡ Some k → nat_le k count ≡ true) → Designates c v t o → out-Shape t.shape ≡ shape.Array of n → Some n ≡ Some count →
      MayLead p openings (ObjectPlace c v of) (option_map spot.Address (option_map (λ i. address.At o.0 o.1 i count) x))
  element_found c v t of n count None o w d e f = tt
  element_found c v t of n count (Some k) o w d e f = element_address c v t of n k count o d e f (w k refl)

  element_bound : (c v : Bool) (t of : CType) (n : ℕ) (i : ℤ) (bound : Option ℕ) (o : Root × List Part) → Designates c v t o → out-Shape t.shape ≡ shape.Array of n → Some n ≡ bound →
      MayLead p openings (ObjectPlace c v of) (element_in bound i o)
  element_bound c v t of n i None o d e f = tt
  element_bound c v t of n i (Some count) o d e f = element_found c v t of n count (index_in i count) o (λ k w. within i count k w) d e f

  element_led : (c v : Bool) (t of : CType) (n : ℕ) (i : ℤ) (x : Option (Root × List Part)) → ((o : Root × List Part) → x ≡ Some o → Designates c v t o) → out-Shape t.shape ≡ shape.Array of n →
      MayLead p openings (ObjectPlace c v of) (option_and_then (element_in (bound_shape (out-Shape t.shape)) i) x)
  element_led c v t of n i None h e = tt
  element_led c v t of n i (Some o) h e = element_bound c v t of n i (bound_shape (out-Shape t.shape)) o (h o refl) e (sym (ap bound_shape e))

  element_shaped : (c v : Bool) (t : CType) (w : PlaceType) (i : ℤ) (s : Spot) (x : shape.Shape-F Shape CType Sig) → IsSpot p openings (ObjectPlace c v t) s → out-Shape t.shape ≡ x → element_shape c v x ≡ Some w →
      MayLead p openings w (element p i (ObjectPlace c v t) s)
  element_shaped c v t w i s (shape.Array of n) h f e =
      subst (λ (y : PlaceType). MayLead p openings y (element p i (ObjectPlace c v t) s)) (same_Some (ObjectPlace c v of) w e)
      (element_led c v t of n i (designated p (ObjectPlace c v t) s) (λ o k. designates c v t s o h k) f)
  element_shaped c v t w i s shape.Void h f e = absurd (cc)
  element_shaped c v t w i s (shape.Int j) h f e = absurd (cc)
  element_shaped c v t w i s (shape.Pointer to) h f e = absurd (cc)
  element_shaped c v t w i s (shape.Struct j) h f e = absurd (cc)
  element_shaped c v t w i s (shape.Func sig) h f e = absurd (cc)

  element_spot : (u w : PlaceType) (i : ℤ) (s : Spot) → IsSpot p openings u s → element_of u ≡ Some w → MayLead p openings w (element p i u s)
  element_spot (DevicePlace constant t) w i s h e = absurd (cc)
  element_spot (FunctionPlace sig) w i s h e = absurd (cc)
  element_spot (ObjectPlace c v t) w i s h e = element_shaped c v t w i s (out-Shape t.shape) h refl e

  at_integer : (u w : PlaceType) (s : Spot) (n : Option ℤ) → IsSpot p openings u s → element_of u ≡ Some w → MayLead p openings w (option_and_then (λ n. element p n u s) n)
  at_integer u w s None h e = tt
  at_integer u w s (Some n) h e = element_spot u w n s h e

  pub may_lead_element : (u w : PlaceType) (s : Option Spot) (v : Option Value) → MayLead p openings u s → element_of u ≡ Some w →
      MayLead p openings w (of_two (Some u) s (λ t s. option_and_then (λ n. element p n t s) (integer v)))
  may_lead_element u w None v h e = tt
  may_lead_element u w (Some s) v h e = at_integer u w s (integer v) h e
