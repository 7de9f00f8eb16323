-- The place to which a path leads, step by step, and the object that is there, where it can be pointed to as one of a type.
use Rattle.std.proofs.Common.{◌≡◌, ℕ, Bool, true, false, not, ◌&&◌, List, [], ◌∷◌, ◌++◌, Option, Some, None, refl, ap, sym, ◌∙◌, subst}
use Rattle.std.proofs.lemmas.Bool.{eqb-true}
use Rattle.std.specs.Prelude.{nat_le, nat_lt, nat_eq}
use Rattle.cc_program.specs.declared.program.Program.{Program}
use Rattle.cc_program.specs.declared.types.CType.{CType}
use Rattle.cc_program.specs.declared.types.Shape.{Shape, out-Shape, roll-Shape, out-roll-Shape}
use Rattle.cc_program.specs.declared.types.Shape.TheOpen as shape
use Rattle.cc_program.specs.declared.types.Sig.{Sig}
use Rattle.cc_program.specs.declared.types.Structure.{Structure}
use Rattle.cc_program.specs.declared.value.Part.{Part}
use Rattle.cc_program.specs.declared.value.Part.TheVariants as part
use Rattle.cc_program.specs.declared.value.Root.{Root}
use Rattle.cc_program.proofs.TypeInduction.{with_shape, TypeParts, by_type}
use Rattle.cc_steps.specs.CcEval.Context.{object_type, are_alike}
use Rattle.cc_steps.specs.CcSyntax.Expressions.{of_one}
use Rattle.cc_steps.specs.CcSyntax.Initial.{bound_of, is_below, step_into, place_at, leads_to_element, names_element, names_whole}
use Rattle.cc_steps.specs.CcSyntax.Lists.{is_count}
use Rattle.cc_steps.specs.CcSyntax.SameTypes.{alike}
use Rattle.cc_steps.specs.CcSyntax.Values.{ToObject, PlaceType, DevicePlace, ObjectPlace, FunctionPlace, address_of, element_shape, element_of, implies, is_assignable_some}
use Rattle.cc_steps.proofs.CcSyntax.Prefixes.{both_true}
use Rattle.cc_states.specs.Typed.{place_in}
use Rattle.cc_steps.proofs.CcSyntax.AlikeLemmas.{same_of, alike_joined, shares, array_view, alike_mirrored, assignable_object}
use Rattle.cc_steps.proofs.CcSyntax.SameLemmas.{Alike, SameShape, Arrays}

pub step_on : (structures : List Structure) (step : Part) (path : List Part) (x : Option PlaceType) →
    ((a : PlaceType) → place_at structures (path ++ step ∷ []) a ≡ of_one (place_at structures path a) (step_into structures step)) →
    of_one x (place_at structures (path ++ step ∷ [])) ≡ of_one (of_one x (place_at structures path)) (step_into structures step)
step_on structures step path None h = refl
step_on structures step path (Some a) h = h a

pub one_itself : (x : Option PlaceType) → of_one x (λ a. Some a) ≡ x
one_itself None = refl
one_itself (Some a) = refl

pub place_more : (structures : List Structure) (step : Part) (path : List Part) (a : PlaceType) → place_at structures (path ++ step ∷ []) a ≡ of_one (place_at structures path a) (step_into structures step)
place_more structures step [] a = one_itself (step_into structures step a)
place_more structures step (s ∷ path) a = step_on structures step path (step_into structures s a) (place_more structures step path)

pub in_more : (p : Program) (object : Root) (path : List Part) (step : Part) → place_in p object (path ++ step ∷ []) ≡ of_one (place_in p object path) (step_into p.structures step)
in_more p object path step = step_on p.structures step path (object_type p object) (place_more p.structures step path)

pub leads_member : (path : List Part) (m : ℕ) → leads_to_element (path ++ part.Member m ∷ []) ≡ false
leads_member [] m = refl
leads_member (part.Member k ∷ []) m = refl
leads_member (part.Index k ∷ []) m = refl
leads_member (part.Member k ∷ next ∷ path) m = leads_member (next ∷ path) m
leads_member (part.Index k ∷ next ∷ path) m = leads_member (next ∷ path) m

-- ---- no array is one type with its elements

abbrev pub HasNoArray : CType → Type 0
HasNoArray of = (t : CType) (n : ℕ) → out-Shape t.shape ≡ shape.Array of n → Alike of t → ⊥

abbrev pub Any : Sig → Type 0
Any s = Unit {0}

pub element_of_itself : (of t inner : CType) (m : ℕ) → out-Shape of.shape ≡ shape.Array inner m → HasNoArray inner → (n : ℕ) → out-Shape t.shape ≡ shape.Array of n → Alike of t → ⊥
element_of_itself of t inner m e h n k s =
    let last = array_view of t s inner m e in
    h of m e (subst (λ (x : CType). Alike inner x) (same_of last.0 of m n (out-Shape t.shape) last.1 k) last.2)

abbrev pub is_array : shape.Shape-F Shape CType Sig → Bool
is_array (shape.Array t n) = true
is_array shape.Void = false
is_array (shape.Int t) = false
is_array (shape.Pointer t) = false
is_array (shape.Struct i) = false
is_array (shape.Func s) = false

pub shared_shape : (of t : CType) → Alike of t → (n : ℕ) (last : CType) → out-Shape t.shape ≡ shape.Array last n → is_array (out-Shape of.shape) ≡ true
shared_shape _ _ (SameShape of t e) n last k = ap is_array (e ∙ k)
shared_shape _ _ (Arrays of t inner other m e f h) n last k = ap is_array e

pub no_array_at : (of : CType) (x : shape.Shape-F Shape CType Sig) → out-Shape of.shape ≡ x → TypeParts HasNoArray Any x → (t : CType) (n : ℕ) → out-Shape t.shape ≡ shape.Array of n → Alike of t → is_array x ≡ true → ⊥
no_array_at of (shape.Array inner m) e h t n k s b = element_of_itself of t inner m e h n k s
no_array_at of shape.Void e h t n k s b = absurd (cc)
no_array_at of (shape.Int i) e h t n k s b = absurd (cc)
no_array_at of (shape.Pointer to) e h t n k s b = absurd (cc)
no_array_at of (shape.Struct i) e h t n k s b = absurd (cc)
no_array_at of (shape.Func f) e h t n k s b = absurd (cc)

pub no_array_by : (of : CType) (x : shape.Shape-F Shape CType Sig) → out-Shape of.shape ≡ x → TypeParts HasNoArray Any x → HasNoArray of
no_array_by of x e h t n k s = no_array_at of x e h t n k s (sym (ap is_array e) ∙ shared_shape of t s n of k)

pub no_array : (of : CType) → HasNoArray of
no_array = by_type HasNoArray Any (λ constant volatile x h. no_array_by (with_shape constant volatile (roll-Shape x)) x (out-roll-Shape x) h) (λ x h. tt)

-- ---- the object that is there, where it can be pointed to as one of a type

pub record RealPlace (constant volatile : Bool) (t : CType) (x : Option PlaceType) : Type 0 where
  pub const : Bool
  pub volat : Bool
  pub to : CType
  pub is : x ≡ Some (ObjectPlace const volat to)
  pub one : alike t to ≡ true
  pub keeps_const : implies const constant ≡ true
  pub keeps_volatile : implies volat volatile ≡ true

abbrev pub CanPoint : Bool → Bool → CType → Option PlaceType → Type 0
CanPoint constant volatile t x = is_assignable_some (Some (ToObject constant volatile t)) (of_one x address_of) ≡ true

pub real : (constant volatile : Bool) (t : CType) (x : Option PlaceType) → CanPoint constant volatile t x → RealPlace constant volatile t x
real constant volatile t None h = absurd (cc)
real constant volatile t (Some (DevicePlace c i)) h = absurd (cc)
real constant volatile t (Some (FunctionPlace sig)) h = absurd (cc)
real constant volatile t (Some (ObjectPlace c v u)) h =
    let all = both_true (alike t u) (implies c constant && implies v volatile) h in
    let those = both_true (implies c constant) (implies v volatile) all.1 in
    record { const = c; volat = v; to = u; is = refl; one = all.0; keeps_const = those.0; keeps_volatile = those.1 }

pub can_point : (constant volatile : Bool) (t : CType) (x : Option PlaceType) → RealPlace constant volatile t x → CanPoint constant volatile t x
can_point constant volatile t x r =
    subst (CanPoint constant volatile t) (sym r.is) (assignable_object constant volatile t r.const r.volat r.to r.one r.keeps_const r.keeps_volatile)

-- the element of an array that is there
pub element_place : (constant volatile : Bool) (t : CType) (index count : ℕ) (a : PlaceType) → names_element (ToObject constant volatile t) index count a ≡ true →
    (is_count count (bound_of a) ≡ true) × CanPoint constant volatile t (element_of a)
element_place constant volatile t index count a h =
    let all = both_true (is_count count (bound_of a)) (nat_le index count && is_assignable_some (Some (ToObject constant volatile t)) (of_one (element_of a) address_of)) h in
    let those = both_true (nat_le index count) (is_assignable_some (Some (ToObject constant volatile t)) (of_one (element_of a) address_of)) all.1 in
    (all.0, those.1)

pub whole_place : (constant volatile : Bool) (t : CType) (path : List Part) (index count : ℕ) (a : PlaceType) → names_whole (ToObject constant volatile t) path index count a ≡ true → CanPoint constant volatile t (Some a)
whole_place constant volatile t path index count a h =
    let all = both_true (not (leads_to_element path)) (nat_eq count 1 && (nat_le index 1 && is_assignable_some (Some (ToObject constant volatile t)) (address_of a))) h in
    let those = both_true (nat_eq count 1) (nat_le index 1 && is_assignable_some (Some (ToObject constant volatile t)) (address_of a)) all.1 in
    (both_true (nat_le index 1) (is_assignable_some (Some (ToObject constant volatile t)) (address_of a)) those.1).1

pub below_count : (index count : ℕ) (bound : Option ℕ) → is_count count bound ≡ true → nat_lt index count ≡ true → is_below index bound ≡ true
below_count index count None h k = absurd (cc)
below_count index count (Some n) h k = subst (λ (m : ℕ). nat_lt index m ≡ true) (eqb-true count n h) k

pub taken_step : (structures : List Structure) (index : ℕ) (a : PlaceType) (b : Bool) → is_below index (bound_of a) ≡ b → b ≡ true → step_into structures (part.Index index) a ≡ element_of a
taken_step structures index a b e h = rw (e ∙ h) refl

-- whether the elements have the type of what is named
pub elements_by : (c v : Bool) (t : CType) (x : Option PlaceType) → CanPoint c v t x → are_alike x (ObjectPlace c v t) ≡ true
elements_by c v t None h = absurd (cc)
elements_by c v t (Some (DevicePlace constant i)) h = absurd (cc)
elements_by c v t (Some (FunctionPlace sig)) h = absurd (cc)
elements_by c v t (Some (ObjectPlace c' v' u)) h = alike_mirrored t u (both_true (alike t u) (implies c' c && implies v' v) h).0

pub not_elements : (c v : Bool) (t u : CType) (c' v' : Bool) (x : shape.Shape-F Shape CType Sig) → out-Shape u.shape ≡ x → alike t u ≡ true → are_alike (element_shape c' v' x) (ObjectPlace c v t) ≡ true → ⊥
not_elements c v t u c' v' (shape.Array of n) e h k =
    no_array of u n e (shares of u (alike_joined of t u k h))
not_elements c v t u c' v' shape.Void e h k = absurd (cc)
not_elements c v t u c' v' (shape.Int i) e h k = absurd (cc)
not_elements c v t u c' v' (shape.Pointer to) e h k = absurd (cc)
not_elements c v t u c' v' (shape.Struct i) e h k = absurd (cc)
not_elements c v t u c' v' (shape.Func s) e h k = absurd (cc)

pub not_whole : (c v : Bool) (t : CType) (a : PlaceType) → CanPoint c v t (Some a) → are_alike (element_of a) (ObjectPlace c v t) ≡ true → ⊥
not_whole c v t (DevicePlace constant i) h k = absurd (cc)
not_whole c v t (FunctionPlace sig) h k = absurd (cc)
not_whole c v t (ObjectPlace c' v' u) h k = not_elements c v t u c' v' (out-Shape u.shape) refl (both_true (alike t u) (implies c' c && implies v' v) h).0 k

pub no_true : (b : Bool) → b ≡ true → b ≡ false → ⊥
no_true b h k = absurd (cc)
