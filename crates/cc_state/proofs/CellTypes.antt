-- The declared type of a key tells of the places whose cells have the key: what a cell holds is of the type of the key's cells.
use Rattle.std.proofs.Common.{◌≡◌, ◌||◌, ℕ, Bool, true, false, List, [], ◌∷◌, Option, Some, None, refl, ap, sym, ◌∙◌, subst, slice_get}
use Rattle.std.specs.Prelude.{option_map, if◌then◌else◌}
use Rattle.std.proofs.lemmas.Option.{same_Some}
use Rattle.cc_state_reads.specs.CcEval.Context.{local_type, object_type}
use Rattle.cc_program.specs.declared.func.Func.{Func}
use Rattle.cc_program.specs.declared.object.Object.{Object}
use Rattle.cc_program.specs.declared.program.Program.{Program}
use Rattle.cc_program.specs.declared.types.CType.{CType}
use Rattle.cc_program.specs.declared.types.Shape.{Shape, out-Shape}
use Rattle.cc_program.specs.declared.types.Shape.TheOpen as shape
use Rattle.cc_program.specs.declared.types.Sig.{Sig}
use Rattle.cc_program.specs.declared.types.Structure.{Structure}
use Rattle.cc_program.specs.declared.value.Part.{Part}
use Rattle.cc_program.specs.declared.value.Part.TheVariants as part
use Rattle.cc_program.specs.declared.value.Root.{Root}
use Rattle.cc_program.specs.declared.value.Root.TheVariants as root
use Rattle.cc_program.specs.Qualifiers.{is_const, is_volatile}
use Rattle.cc_state.specs.Shape.{IsCellType, OfScalar, OfElements, declared_type, object_ctype, local_ctype, member_ctype, ctype_of}
use Rattle.cc_state_reads.specs.CcStateFacts.declared.facts.Key.{Key}
use Rattle.cc_state_reads.specs.CcStateFacts.declared.facts.Key.TheVariants as key
use Rattle.cc_state_reads.specs.CcStateKeys.Keys.{root_key, structure_shape, key_of_member, key_of_step, key_along, cell_key}
use Rattle.cc_flow_sound.proofs.CcStates.PlaceLemmas.{real}
use Rattle.cc_state_reads.proofs.CcSyntax.AlikeLemmas.{shares, same_of}
use Rattle.cc_state_reads.proofs.CcSyntax.SameLemmas.{Alike, SameShape, Arrays}
use Rattle.cc_state_reads.specs.CcSyntax.Expressions.{of_one}
use Rattle.cc_state_reads.specs.CcSyntax.Initial.{is_below, bound_of, step_into, place_at}
use Rattle.cc_state_reads.specs.CcSyntax.Types.{Named}
use Rattle.cc_state_reads.specs.CcSyntax.Values.{ValueType, ToObject, PlaceType, DevicePlace, ObjectPlace, FunctionPlace, scalar_shape, scalar_value, read_from, address_of, element_of, element_shape, member_at, member_in, member_shape, object_place, is_assignable_some}

-- ---- the type of a key's cells is one

no_scalar : (t : CType) (of : CType) (n : ℕ) (u : ValueType) → out-Shape t.shape ≡ shape.Array of n → scalar_value t ≡ Some u → {C : Type 0} → C
no_scalar t of n u i e = absurd (let k : None ≡ Some u = ap scalar_shape (sym i) ∙ e in cc)

abbrev element_or : CType → shape.Shape-F Shape CType Sig → CType
element_or t (shape.Array of n) = of
element_or t shape.Void = t
element_or t (shape.Int w) = t
element_or t (shape.Pointer to) = t
element_or t (shape.Struct s) = t
element_or t (shape.Func sig) = t

pub one_type : (t : CType) (u w : ValueType) → IsCellType t u → IsCellType t w → u ≡ w
one_type t u w (OfScalar e) (OfScalar k) = same_Some u w (sym e ∙ k)
one_type t u w (OfScalar e) (OfElements of n i h) = no_scalar t of n u i e
one_type t u w (OfElements of n i h) (OfScalar k) = no_scalar t of n w i k
one_type t u w (OfElements of n i h) (OfElements other m j k) = one_type of u w h (subst (λ (z : CType). IsCellType z w) (ap (element_or of) (sym j ∙ i)) k)

-- that of types which are one, qualifiers aside
alike_cells : (t u : CType) → Alike t u → (w : ValueType) → IsCellType t w → IsCellType u w
alike_cells _ _ (SameShape t u e) w (OfScalar h) = OfScalar (ap scalar_shape (sym e) ∙ h)
alike_cells _ _ (SameShape t u e) w (OfElements of n i h) = OfElements of n (sym e ∙ i) h
alike_cells _ _ (Arrays t u of other n e f h) w (OfScalar k) = no_scalar t of n w e k
alike_cells _ _ (Arrays t u of other n e f h) w (OfElements last m i k) =
    OfElements other n f (alike_cells of other h w (subst (λ (z : CType). IsCellType z w) (sym (same_of of last n m (out-Shape t.shape) e i)) k))

module _ (p : Program) where
  -- a place of a type, of which the declared type of a key tells
  pub record IsHeld (k : Key) (a : PlaceType) : Type 0 where
    pub const : Bool
    pub volat : Bool
    pub ctype : CType
    pub is : a ≡ ObjectPlace const volat ctype
    pub declared : CType
    pub is_declared : ctype_of p k ≡ Some declared
    pub lifts : (u : ValueType) → IsCellType ctype u → IsCellType declared u

  -- and any function
  abbrev pub IsHeldIn : Key → PlaceType → Type 0
  IsHeldIn k (DevicePlace constant t) = IsHeld k (DevicePlace constant t)
  IsHeldIn k (ObjectPlace constant volatile t) = IsHeld k (ObjectPlace constant volatile t)
  IsHeldIn k (FunctionPlace sig) = Unit {0}

  abbrev pub IsTyped : Key → ValueType → Type 0
  IsTyped k u = (c : CType) × (ctype_of p k ≡ Some c) × IsCellType c u

  pub read_held : (k : Key) (a : PlaceType) (u : ValueType) → IsHeldIn k a → read_from a ≡ Some u → IsTyped k u
  read_held k (DevicePlace constant t) u held e = absurd (let i = held.is in cc)
  read_held k (ObjectPlace constant volatile t) u held e = (held.declared, held.is_declared, held.lifts u (OfScalar (ap read_from (sym held.is) ∙ e)))
  read_held k (FunctionPlace sig) u held e = absurd (cc)

  -- ---- along a path

  element_by : (k : Key) (c v : Bool) (t : CType) (declared : CType) → ctype_of p k ≡ Some declared → ((u : ValueType) → IsCellType t u → IsCellType declared u) → (x : shape.Shape-F Shape CType Sig) → out-Shape t.shape ≡ x → (b : PlaceType) →
      element_shape c v x ≡ Some b → IsHeld k b
  element_by k c v t declared is lifts (shape.Array of n) i b e = record {
    const = c;
    volat = v;
    ctype = of;
    is = sym (same_Some (ObjectPlace c v of) b e);
    declared = declared;
    is_declared = is;
    lifts = λ u h. lifts u (OfElements of n i h);
  }
  element_by k c v t declared is lifts shape.Void i b e = absurd (cc)
  element_by k c v t declared is lifts (shape.Int w) i b e = absurd (cc)
  element_by k c v t declared is lifts (shape.Pointer to) i b e = absurd (cc)
  element_by k c v t declared is lifts (shape.Struct s) i b e = absurd (cc)
  element_by k c v t declared is lifts (shape.Func sig) i b e = absurd (cc)

  pub element_held : (k : Key) (a b : PlaceType) → IsHeld k a → element_of a ≡ Some b → IsHeld k b
  element_held k a b held e =
      element_by k held.const held.volat held.ctype held.declared held.is_declared held.lifts (out-Shape held.ctype.shape) refl b (ap element_of (sym held.is) ∙ e)

  member_found : (c v : Bool) (s m : ℕ) (o : Option Structure) → slice_get p.structures s ≡ o → (b : PlaceType) → member_in c v m o ≡ Some b → IsHeld (key.Member s m) b
  member_found c v s m None i b e = absurd (cc)
  member_found c v s m (Some x) i b e = by (slice_get x.members m) refl e
    where
      by : (o : Option Named) → slice_get x.members m ≡ o → member_at c v o ≡ Some b → IsHeld (key.Member s m) b
      by None j e = absurd (cc)
      by (Some l) j e = record {
        const = c || is_const l.1;
        volat = v || is_volatile l.1;
        ctype = l.1;
        is = sym (same_Some (ObjectPlace (c || is_const l.1) (v || is_volatile l.1) l.1) b e);
        declared = l.1;
        is_declared = ap (member_ctype m) i ∙ ap declared_type j;
        lifts = λ u h. h;
      }

  pub member_held : (k : Key) (m : ℕ) (c v : Bool) (x : shape.Shape-F Shape CType Sig) (b : PlaceType) → member_shape p.structures c v m x ≡ Some b → IsHeld (key_of_member (structure_shape x) m k) b
  member_held k m c v (shape.Struct s) b e = member_found c v s m (slice_get p.structures s) refl b e
  member_held k m c v shape.Void b e = absurd (cc)
  member_held k m c v (shape.Int w) b e = absurd (cc)
  member_held k m c v (shape.Pointer to) b e = absurd (cc)
  member_held k m c v (shape.Array of n) b e = absurd (cc)
  member_held k m c v (shape.Func sig) b e = absurd (cc)

  element_in : (below : Bool) (x : Option PlaceType) (b : PlaceType) → (if below then x else None) ≡ Some b → x ≡ Some b
  element_in true x b e = e
  element_in false x b e = absurd (cc)

  step_held : (step : Part) (k : Key) (a b : PlaceType) → IsHeld k a → step_into p.structures step a ≡ Some b → IsHeld (key_of_step step a k) b
  step_held (part.Index i) k a b held e = element_held k a b held (element_in (is_below i (bound_of a)) (element_of a) b e)
  step_held (part.Member m) k a b held e =
      subst (λ (z : PlaceType). IsHeld (key_of_step (part.Member m) z k) b) (sym held.is)
      (member_held k m held.const held.volat (out-Shape held.ctype.shape) b (ap (step_into p.structures (part.Member m)) (sym held.is) ∙ e))

  held_along : (path : List Part) (a : PlaceType) (k : Key) (b : PlaceType) → IsHeld k a → place_at p.structures path a ≡ Some b → IsHeld (key_along p.structures path (Some a) k) b
  held_along [] a k b held e = subst (IsHeld k) (same_Some a b e) held
  held_along (step ∷ path) a k b held e = by (λ (x : PlaceType) (h : IsHeld (key_of_step step a k) x) g. held_along path x (key_of_step step a k) b h g) (step_into p.structures step a) refl e
    where
      by : ((x : PlaceType) → IsHeld (key_of_step step a k) x → place_at p.structures path x ≡ Some b → IsHeld (key_along p.structures path (Some x) (key_of_step step a k)) b) →
          (o : Option PlaceType) → step_into p.structures step a ≡ o → of_one o (place_at p.structures path) ≡ Some b → IsHeld (key_along p.structures path o (key_of_step step a k)) b
      by again None i e = absurd (cc)
      by again (Some x) i e = again x (step_held step k a x held i) e

  -- ---- from an object

  pub own_held : (k : Key) (t : CType) → ctype_of p k ≡ Some t → IsHeld k (object_place t)
  own_held k t e = record { const = is_const t; volat = is_volatile t; ctype = t; is = refl; declared = t; is_declared = e; lifts = λ u h. h }

  object_held : (o : Root) (a : PlaceType) → object_type p o ≡ Some a → IsHeld (root_key o) a
  object_held (root.Static i) a e = by (slice_get p.objects i) refl e
    where
      by : (x : Option Object) → slice_get p.objects i ≡ x → option_map (λ (o : Object). object_place o.ctype) x ≡ Some a → IsHeld (key.Object i) a
      by None j e = absurd (cc)
      by (Some x) j e = subst (IsHeld (key.Object i)) (same_Some (object_place x.ctype) a e) (own_held (key.Object i) x.ctype (ap object_ctype j))
  object_held (root.Auto number g r) a e = by (slice_get p.funcs g) refl e
    where
      by : (x : Option Func) → slice_get p.funcs g ≡ x → local_type r x ≡ Some a → IsHeld (key.Local g r) a
      by None j e = absurd (cc)
      by (Some f) j e = at (slice_get f.locals r) refl e
        where
          at : (y : Option Named) → slice_get f.locals r ≡ y → option_map (λ (l : Named). object_place l.1) y ≡ Some a → IsHeld (key.Local g r) a
          at None h e = absurd (cc)
          at (Some l) h e = subst (IsHeld (key.Local g r)) (same_Some (object_place l.1) a e) (own_held (key.Local g r) l.1 (ap (local_ctype r) j ∙ ap declared_type h))

  pub key_held : (object : Root) (path : List Part) (b : PlaceType) → of_one (object_type p object) (place_at p.structures path) ≡ Some b → IsHeld (cell_key p object path) b
  key_held object path b e = by (object_type p object) refl e
    where
      by : (x : Option PlaceType) → object_type p object ≡ x → of_one x (place_at p.structures path) ≡ Some b → IsHeld (key_along p.structures path x (root_key object)) b
      by None i e = absurd (cc)
      by (Some a) i e = held_along path a (root_key object) b (object_held object a i) e

  -- ---- where a pointer leads

  abbrev object_type_of : CType → PlaceType → CType
  object_type_of t (ObjectPlace c v u) = u
  object_type_of t (DevicePlace c i) = t
  object_type_of t (FunctionPlace sig) = t

  -- an object to which a pointer of the type may point
  pub pointed_held : (k : Key) (c v : Bool) (t : CType) (x : Option PlaceType) → ((a : PlaceType) → x ≡ Some a → IsHeld k a) → is_assignable_some (Some (ToObject c v t)) (of_one x address_of) ≡ true → IsHeld k (ObjectPlace c v t)
  pointed_held k c v t x there h =
      let r = real c v t x h in
      let held = there (ObjectPlace r.const r.volat r.to) r.is in
      let same : r.to ≡ held.ctype = ap (object_type_of t) held.is in
      record {
        const = c;
        volat = v;
        ctype = t;
        is = refl;
        declared = held.declared;
        is_declared = held.is_declared;
        lifts = λ u g. held.lifts u (subst (λ (z : CType). IsCellType z u) same (alike_cells t r.to (shares t r.to r.one) u g));
      }
