-- Where the scalars of an object stand: each path to one leads to its first value, two at one position have one type, and so a write
-- keeps the types of all.
use Rattle.std.proofs.Common.{◌≡◌, ◌<◌, ◌+◌, ◌*◌, ℕ, pos, Bool, true, false, ◌||◌, nat_lt, List, [], ◌∷◌, length, take, replicate, Option, Some, None, unwrap_or, slice_get, slice_set, refl, ap, sym, ◌∙◌, subst}
use Rattle.std.proofs.lemmas.List.{length-set}
use Rattle.std.proofs.lemmas.Bool.{eqb-true, ltb-true}
use Rattle.std.proofs.lemmas.Option.{same_Some, slice_get_within}
use Rattle.std.specs.Prelude.{if◌then◌else◌, ◌==◌}
use Rattle.std.specs.List.{flat_map}
use Rattle.cc_program.specs.Qualifiers.{is_const, is_volatile}
use Rattle.cc_program.specs.declared.program.Program.{Program}
use Rattle.cc_program.specs.declared.types.CType.{CType}
use Rattle.cc_program.specs.declared.types.Shape.{Shape, out-Shape}
use Rattle.cc_program.specs.declared.types.Shape.TheOpen as shape
use Rattle.cc_program.specs.declared.types.Sig.{Sig}
use Rattle.cc_program.specs.declared.types.Structure.{Structure}
use Rattle.cc_program.specs.declared.value.Address.TheVariants as address
use Rattle.cc_program.specs.declared.value.Part.{Part}
use Rattle.cc_program.specs.declared.value.Part.TheVariants as part
use Rattle.cc_program.specs.declared.value.Value.{Value}
use Rattle.cc_program.specs.declared.value.Value.TheVariants.{Int, Place}
use Rattle.cc_steps.specs.CcCells.Scalars.{zeros_over, member_zeros, structure_zeros, zeros, members_before, before_part, position}
use Rattle.cc_steps.proofs.CcCells.StructureLemmas.{zeros-at}
use Rattle.cc_steps.specs.CcSyntax.Expressions.{of_one}
use Rattle.cc_steps.specs.CcSyntax.Initial.{bound_shape, is_below, step_into, place_at}
use Rattle.cc_steps.specs.CcSyntax.Types.{Named, is_complete, IsInOrder}
use Rattle.cc_steps.specs.CcSyntax.Values.{ValueType, Integer, PlaceType, ObjectPlace, pointer_shape, pointer_to, scalar_shape, scalar_value, object_place, read_from, element_shape, member_at, member_in, member_shape}
use Rattle.cc_steps.proofs.CcSyntax.Parts.{all_at}
use Rattle.cc_steps.proofs.CcSyntax.Prefixes.{get_taken}
use Rattle.cc_states.specs.States.{AreScalars}
use Rattle.cc_states.specs.Typed.{HasType}
use Rattle.cc_steps.proofs.CcSyntax.AlikeLemmas.{same_of}
use Rattle.cc_states.proofs.Options.{with_one}
use Rattle.cc_states.proofs.TypedLemmas.{promoted_value}
use Rattle.cc_states.proofs.ListLemmas.{get_repeat, get_member, row_same, member_same, same_struct, not_equal}
use Rattle.cc_steps.proofs.CellsApart.{set_here, set_elsewhere}
use Rattle.cc_states.proofs.ZeroLemmas.{zeros-shape, type-same, take_taken, members_same}

module _ (structures : List Structure) (order : IsInOrder structures) where
  zeros-taken : (i k : ℕ) (s : Structure) → slice_get (take i structures) k ≡ Some s → slice_get (structure_zeros (take i structures)) k ≡ slice_get (structure_zeros structures) k
  zeros-taken i k s h =
      let g = get_taken structures i k s h in
      zeros-at (take i structures) k s h ∙ ap (λ ss. Some (member_zeros (structure_zeros ss) s.members)) (take_taken structures k i g.0) ∙ sym (zeros-at structures k s g.1)

  pub structure-whole : (i : ℕ) (s : Structure) → slice_get structures i ≡ Some s → slice_get (structure_zeros structures) i ≡ Some (member_zeros (structure_zeros structures) s.members)
  structure-whole i s h =
      zeros-at structures i s h
      ∙ ap Some (members_same (λ m. zeros_over (structure_zeros (take i structures)) m.1) (λ m. zeros_over (structure_zeros structures) m.1) s.members
      (λ k m e. type-same (take i structures) (structure_zeros (take i structures)) (structure_zeros structures) (zeros-taken i) m.1
      (all_at (λ (n : Named). is_complete (take i structures) n.1 ≡ true) s.members k m e (order i s h))))

  -- ---- steps

  pub record ElementStep (c v : Bool) (t : CType) (i : ℕ) (a : PlaceType) : Type 0 where
    pub of : CType
    pub n : ℕ
    pub is_array : out-Shape t.shape ≡ shape.Array of n
    pub within : i < n
    pub there : a ≡ ObjectPlace c v of

  pub record MemberStep (c v : Bool) (t : CType) (m : ℕ) (a : PlaceType) : Type 0 where
    pub i : ℕ
    pub s : Structure
    pub n : Named
    pub is_struct : out-Shape t.shape ≡ shape.Struct i
    pub found : slice_get structures i ≡ Some s
    pub named : slice_get s.members m ≡ Some n
    pub there : a ≡ ObjectPlace (c || is_const n.1) (v || is_volatile n.1) n.1

  element_by : (c v : Bool) (t : CType) (i : ℕ) (a : PlaceType) (of : CType) (n : ℕ) (b : Bool) → out-Shape t.shape ≡ shape.Array of n → nat_lt i n ≡ b → (if b then Some (ObjectPlace c v of) else None) ≡ Some a → ElementStep c v t i a
  element_by c v t i a of n true e h k = record { of = of; n = n; is_array = e; within = ltb-true i n h; there = sym (same_Some (ObjectPlace c v of) a k) }
  element_by c v t i a of n false e h k = absurd (cc)

  element_at_shape : (c v : Bool) (t : CType) (i : ℕ) (a : PlaceType) (x : shape.Shape-F Shape CType Sig) → out-Shape t.shape ≡ x → (if is_below i (bound_shape x) then element_shape c v x else None) ≡ Some a → ElementStep c v t i a
  element_at_shape c v t i a (shape.Array of n) e h = element_by c v t i a of n (nat_lt i n) e refl h
  element_at_shape c v t i a shape.Void e h = absurd (cc)
  element_at_shape c v t i a (shape.Int j) e h = absurd (cc)
  element_at_shape c v t i a (shape.Pointer to) e h = absurd (cc)
  element_at_shape c v t i a (shape.Struct j) e h = absurd (cc)
  element_at_shape c v t i a (shape.Func s) e h = absurd (cc)

  pub element_step : (c v : Bool) (t : CType) (i : ℕ) (a : PlaceType) → step_into structures (part.Index i) (ObjectPlace c v t) ≡ Some a → ElementStep c v t i a
  element_step c v t i a h = element_at_shape c v t i a (out-Shape t.shape) refl h

  member_named_by : (c v : Bool) (t : CType) (m : ℕ) (a : PlaceType) (i : ℕ) (s : Structure) (n : Option Named) → out-Shape t.shape ≡ shape.Struct i → slice_get structures i ≡ Some s → slice_get s.members m ≡ n →
      member_at c v n ≡ Some a → MemberStep c v t m a
  member_named_by c v t m a i s None e h k l = absurd (cc)
  member_named_by c v t m a i s (Some n) e h k l =
      record { i = i; s = s; n = n; is_struct = e; found = h; named = k; there = sym (same_Some (ObjectPlace (c || is_const n.1) (v || is_volatile n.1) n.1) a l) }

  member_in_by : (c v : Bool) (t : CType) (m : ℕ) (a : PlaceType) (i : ℕ) (s : Option Structure) → out-Shape t.shape ≡ shape.Struct i → slice_get structures i ≡ s → member_in c v m s ≡ Some a → MemberStep c v t m a
  member_in_by c v t m a i None e h k = absurd (cc)
  member_in_by c v t m a i (Some s) e h k = member_named_by c v t m a i s (slice_get s.members m) e h refl k

  member_at_shape : (c v : Bool) (t : CType) (m : ℕ) (a : PlaceType) (x : shape.Shape-F Shape CType Sig) → out-Shape t.shape ≡ x → member_shape structures c v m x ≡ Some a → MemberStep c v t m a
  member_at_shape c v t m a (shape.Struct i) e h = member_in_by c v t m a i (slice_get structures i) e refl h
  member_at_shape c v t m a shape.Void e h = absurd (cc)
  member_at_shape c v t m a (shape.Int j) e h = absurd (cc)
  member_at_shape c v t m a (shape.Pointer to) e h = absurd (cc)
  member_at_shape c v t m a (shape.Array of n) e h = absurd (cc)
  member_at_shape c v t m a (shape.Func s) e h = absurd (cc)

  pub member_step : (c v : Bool) (t : CType) (m : ℕ) (a : PlaceType) → step_into structures (part.Member m) (ObjectPlace c v t) ≡ Some a → MemberStep c v t m a
  member_step c v t m a h = member_at_shape c v t m a (out-Shape t.shape) refl h

  -- ---- positions

  abbrev pub at : CType → List Part → Bool → Bool → ℕ
  at t path c v = position structures path (Some (ObjectPlace c v t))

  abbrev pub scalar_in : CType → List Part → Bool → Bool → Option ValueType
  scalar_in t path c v = of_one (place_at structures path (ObjectPlace c v t)) read_from

  pub element_position : (c v : Bool) (t : CType) (i : ℕ) (path : List Part) (a : PlaceType) (e : ElementStep c v t i a) → step_into structures (part.Index i) (ObjectPlace c v t) ≡ Some a →
      at t (part.Index i ∷ path) c v ≡ i * length (zeros structures e.of) + at e.of path c v
  element_position c v t i path a e h =
      ap (λ y. before_part structures (part.Index i) y + position structures path (step_into structures (part.Index i) (ObjectPlace c v t))) e.is_array
      ∙ ap (λ y. i * length (zeros structures e.of) + position structures path y) (h ∙ ap Some e.there)

  pub member_position : (c v : Bool) (t : CType) (m : ℕ) (path : List Part) (a : PlaceType) (e : MemberStep c v t m a) → step_into structures (part.Member m) (ObjectPlace c v t) ≡ Some a →
      at t (part.Member m ∷ path) c v ≡ length (member_zeros (structure_zeros structures) (take m e.s.members)) + at e.n.1 path (c || is_const e.n.1) (v || is_volatile e.n.1)
  member_position c v t m path a e h =
      ap (λ y. before_part structures (part.Member m) y + position structures path (step_into structures (part.Member m) (ObjectPlace c v t))) e.is_struct
      ∙ ap (λ y. members_before structures m y + position structures path (step_into structures (part.Member m) (ObjectPlace c v t))) e.found
      ∙ ap (λ y. length (member_zeros (structure_zeros structures) (take m e.s.members)) + position structures path y) (h ∙ ap Some e.there)

  pub element_scalar : (c v : Bool) (t : CType) (i : ℕ) (path : List Part) (a : PlaceType) (w : ValueType) (e : ElementStep c v t i a) → of_one (place_at structures path a) read_from ≡ Some w → scalar_in e.of path c v ≡ Some w
  element_scalar c v t i path a w e h = ap (λ (y : PlaceType). of_one (place_at structures path y) read_from) (sym e.there) ∙ h

  pub member_scalar : (c v : Bool) (t : CType) (m : ℕ) (path : List Part) (a : PlaceType) (w : ValueType) (e : MemberStep c v t m a) → of_one (place_at structures path a) read_from ≡ Some w →
      scalar_in e.n.1 path (c || is_const e.n.1) (v || is_volatile e.n.1) ≡ Some w
  member_scalar c v t m path a w e h = ap (λ (y : PlaceType). of_one (place_at structures path y) read_from) (sym e.there) ∙ h

  element_zeros : (c v : Bool) (t : CType) (i : ℕ) (a : PlaceType) (e : ElementStep c v t i a) → zeros structures t ≡ flat_map (λ zs. zs) (replicate e.n (zeros structures e.of))
  element_zeros c v t i a e = zeros-shape (structure_zeros structures) t (shape.Array e.of e.n) e.is_array

  member_zeros_of : (c v : Bool) (t : CType) (m : ℕ) (a : PlaceType) (e : MemberStep c v t m a) → zeros structures t ≡ member_zeros (structure_zeros structures) e.s.members
  member_zeros_of c v t m a e = zeros-shape (structure_zeros structures) t (shape.Struct e.i) e.is_struct ∙ ap (λ l. unwrap_or l []) (structure-whole e.i e.s e.found)

  -- ---- a path to a scalar leads to its first value

  module _ (p : Program) (openings : List ℕ) where
    abbrev Starts : List Value → ℕ → ValueType → Type 0
    Starts values k w = (x : Value) × (slice_get values k ≡ Some x) × HasType p openings w x

    null_in : (to : CType) (x : shape.Shape-F Shape CType Sig) → HasType p openings (pointer_shape to x) (Place address.Null)
    null_in to shape.Void = tt
    null_in to (shape.Int i) = tt
    null_in to (shape.Pointer of) = tt
    null_in to (shape.Array of n) = tt
    null_in to (shape.Struct i) = tt
    null_in to (shape.Func sig) = tt

    scalar_starts : (t : CType) (w : ValueType) (x : shape.Shape-F Shape CType Sig) → out-Shape t.shape ≡ x → scalar_shape x ≡ Some w → Starts (zeros structures t) 0 w
    scalar_starts t w (shape.Int i) e h = (
      Int (pos 0),
      ap (λ (zs : List Value). slice_get zs 0) (zeros-shape (structure_zeros structures) t (shape.Int i) e),
      subst (λ (u : ValueType). HasType p openings u (Int (pos 0))) (same_Some (Integer i) w h) (promoted_value i p.target false),
    )
    scalar_starts t w (shape.Pointer to) e h = (
      Place address.Null,
      ap (λ (zs : List Value). slice_get zs 0) (zeros-shape (structure_zeros structures) t (shape.Pointer to) e),
      subst (λ (u : ValueType). HasType p openings u (Place address.Null)) (same_Some (pointer_to to) w h) (null_in to (out-Shape to.shape)),
    )
    scalar_starts t w shape.Void e h = absurd (cc)
    scalar_starts t w (shape.Array of n) e h = absurd (cc)
    scalar_starts t w (shape.Struct i) e h = absurd (cc)
    scalar_starts t w (shape.Func s) e h = absurd (cc)

    moved_to : (values : List Value) (k j : ℕ) (xs : List Value) (w : ValueType) → slice_get values k ≡ slice_get xs j → Starts xs j w → Starts values k w
    moved_to values k j xs w e s = (s.0, e ∙ s.1, s.2)

    pub starts : (path : List Part) (c v : Bool) (t : CType) (w : ValueType) → scalar_in t path c v ≡ Some w → Starts (zeros structures t) (at t path c v) w
    starts [] c v t w h = scalar_starts t w (out-Shape t.shape) refl h
    starts (part.Index i ∷ path) c v t w h =
        with_one (Starts (zeros structures t) (at t (part.Index i ∷ path) c v) w) (of_one (step_into structures (part.Index i) (ObjectPlace c v t)) (place_at structures path)) read_from w h
        (λ y g k. with_one (Starts (zeros structures t) (at t (part.Index i ∷ path) c v) w) (step_into structures (part.Index i) (ObjectPlace c v t)) (place_at structures path) y g
        (λ a f l.
        let e = element_step c v t i a f in
        let inner = starts path c v e.of w (element_scalar c v t i path a w e (ap (λ z. of_one z read_from) l ∙ k)) in
        let q = at e.of path c v in
        moved_to (zeros structures t) (at t (part.Index i ∷ path) c v) q (zeros structures e.of) w
        (ap (slice_get (zeros structures t)) (element_position c v t i path a e f) ∙ ap (λ (zs : List Value). slice_get zs (i * length (zeros structures e.of) + q)) (element_zeros c v t i a e)
        ∙ get_repeat (zeros structures e.of) e.n i q e.within (slice_get_within (zeros structures e.of) q inner.0 inner.1)) inner))
    starts (part.Member m ∷ path) c v t w h =
        with_one (Starts (zeros structures t) (at t (part.Member m ∷ path) c v) w) (of_one (step_into structures (part.Member m) (ObjectPlace c v t)) (place_at structures path)) read_from w h
        (λ y g k. with_one (Starts (zeros structures t) (at t (part.Member m ∷ path) c v) w) (step_into structures (part.Member m) (ObjectPlace c v t)) (place_at structures path) y g
        (λ a f l.
        let e = member_step c v t m a f in
        let inner = starts path (c || is_const e.n.1) (v || is_volatile e.n.1) e.n.1 w (member_scalar c v t m path a w e (ap (λ z. of_one z read_from) l ∙ k)) in
        let q = at e.n.1 path (c || is_const e.n.1) (v || is_volatile e.n.1) in
        moved_to (zeros structures t) (at t (part.Member m ∷ path) c v) q (zeros structures e.n.1) w
        (ap (slice_get (zeros structures t)) (member_position c v t m path a e f)
        ∙ ap (λ (zs : List Value). slice_get zs (length (member_zeros (structure_zeros structures) (take m e.s.members)) + q)) (member_zeros_of c v t m a e)
        ∙ get_member (λ n. zeros_over (structure_zeros structures) n.1) e.s.members m q e.n e.named (slice_get_within (zeros structures e.n.1) q inner.0 inner.1)) inner))

    -- ---- two scalars at one position have one type

    pub within : (path : List Part) (c v : Bool) (t : CType) (w : ValueType) → scalar_in t path c v ≡ Some w → at t path c v < length (zeros structures t)
    within path c v t w h = let s = starts path c v t w h in slice_get_within (zeros structures t) (at t path c v) s.0 s.1

    none_some : {B : Type 0} (w : ValueType) (x : Option ValueType) → x ≡ None → x ≡ Some w → B
    none_some w x h k = absurd (cc)

    -- a scalar has no parts
    no_step : (C : Type 0) (c v : Bool) (t : CType) (w : ValueType) (s : Part) (a : PlaceType) → scalar_value t ≡ Some w → step_into structures s (ObjectPlace c v t) ≡ Some a → C
    no_step C c v t w (part.Index i) a h k = none_some w (scalar_value t) (ap scalar_shape (element_step c v t i a k).is_array) h
    no_step C c v t w (part.Member m) a h k = none_some w (scalar_value t) (ap scalar_shape (member_step c v t m a k).is_struct) h

    pub no_path : (C : Type 0) (c v : Bool) (t : CType) (w u : ValueType) (s : Part) (path : List Part) → scalar_value t ≡ Some w → scalar_in t (s ∷ path) c v ≡ Some u → C
    no_path C c v t w u s path h k =
        with_one C (of_one (step_into structures s (ObjectPlace c v t)) (place_at structures path)) read_from u k
        (λ y g l. with_one C (step_into structures s (ObjectPlace c v t)) (place_at structures path) y g (λ a f m. no_step C c v t w s a h f))

    -- the step, and the path behind it
    pub stepped : (C : Type 0) (c v : Bool) (t : CType) (w : ValueType) (s : Part) (path : List Part) → scalar_in t (s ∷ path) c v ≡ Some w →
        ((a : PlaceType) → step_into structures s (ObjectPlace c v t) ≡ Some a → of_one (place_at structures path a) read_from ≡ Some w → C) → C
    stepped C c v t w s path h k =
        with_one C (of_one (step_into structures s (ObjectPlace c v t)) (place_at structures path)) read_from w h
        (λ y g l. with_one C (step_into structures s (ObjectPlace c v t)) (place_at structures path) y g (λ a f m. k a f (ap (λ z. of_one z read_from) m ∙ l)))

    abbrev OneType : List Part → List Part → Type 0
    OneType path other = (c v : Bool) (t : CType) (w u : ValueType) → scalar_in t path c v ≡ Some w → scalar_in t other c v ≡ Some u → at t path c v ≡ at t other c v → w ≡ u

    one_element : (c v : Bool) (t : CType) (w u : ValueType) (i j : ℕ) (path other : List Part) (a b : PlaceType) → OneType path other →
        step_into structures (part.Index i) (ObjectPlace c v t) ≡ Some a → of_one (place_at structures path a) read_from ≡ Some w →
        step_into structures (part.Index j) (ObjectPlace c v t) ≡ Some b → of_one (place_at structures other b) read_from ≡ Some u →
        at t (part.Index i ∷ path) c v ≡ at t (part.Index j ∷ other) c v → w ≡ u
    one_element c v t w u i j path other a b r f h g k e =
        let x = element_step c v t i a f in
        let y = element_step c v t j b g in
        let same : y.of ≡ x.of = same_of y.of x.of y.n x.n (out-Shape t.shape) y.is_array x.is_array in
        let these : scalar_in x.of path c v ≡ Some w = element_scalar c v t i path a w x h in
        let those : scalar_in x.of other c v ≡ Some u = subst (λ (o : CType). scalar_in o other c v ≡ Some u) same (element_scalar c v t j other b u y k) in
        let rows : i * length (zeros structures x.of) + at x.of path c v ≡ j * length (zeros structures x.of) + at x.of other c v =
        sym (element_position c v t i path a x f) ∙ e ∙ element_position c v t j other b y g ∙ ap (λ (o : CType). j * length (zeros structures o) + at o other c v) same in
        r c v x.of w u these those (row_same (length (zeros structures x.of)) i j (at x.of path c v) (at x.of other c v) rows (within path c v x.of w these) (within other c v x.of u those)).1

    one_member : (c v : Bool) (t : CType) (w u : ValueType) (m k : ℕ) (path other : List Part) (a b : PlaceType) → OneType path other →
        step_into structures (part.Member m) (ObjectPlace c v t) ≡ Some a → of_one (place_at structures path a) read_from ≡ Some w →
        step_into structures (part.Member k) (ObjectPlace c v t) ≡ Some b → of_one (place_at structures other b) read_from ≡ Some u →
        at t (part.Member m ∷ path) c v ≡ at t (part.Member k ∷ other) c v → w ≡ u
    one_member c v t w u m k path other a b r f h g l e =
        let x = member_step c v t m a f in
        let y = member_step c v t k b g in
        let id : y.i ≡ x.i = same_struct y.i x.i (out-Shape t.shape) y.is_struct x.is_struct in
        let same : y.s ≡ x.s = same_Some y.s x.s (sym y.found ∙ ap (slice_get structures) id ∙ x.found) in
        let named : slice_get x.s.members k ≡ Some y.n = ap (λ (s : Structure). slice_get s.members k) (sym same) ∙ y.named in
        let these = member_scalar c v t m path a w x h in
        let those = member_scalar c v t k other b u y l in
        let rows : length (member_zeros (structure_zeros structures) (take m x.s.members)) + at x.n.1 path (c || is_const x.n.1) (v || is_volatile x.n.1)
        ≡ length (member_zeros (structure_zeros structures) (take k x.s.members)) + at y.n.1 other (c || is_const y.n.1) (v || is_volatile y.n.1) =
        sym (member_position c v t m path a x f) ∙ e ∙ member_position c v t k other b y g
        ∙ ap (λ (s : Structure). length (member_zeros (structure_zeros structures) (take k s.members)) + at y.n.1 other (c || is_const y.n.1) (v || is_volatile y.n.1)) same in
        let found = member_same (λ n. zeros_over (structure_zeros structures) n.1) x.s.members m k (at x.n.1 path (c || is_const x.n.1) (v || is_volatile x.n.1)) (at y.n.1 other (c || is_const y.n.1) (v || is_volatile y.n.1)) x.n y.n x.named named
        (within path (c || is_const x.n.1) (v || is_volatile x.n.1) x.n.1 w these) (within other (c || is_const y.n.1) (v || is_volatile y.n.1) y.n.1 u those) rows in
        let one : y.n ≡ x.n = same_Some y.n x.n (sym named ∙ ap (slice_get x.s.members) (sym found.0) ∙ x.named) in
        r (c || is_const x.n.1) (v || is_volatile x.n.1) x.n.1 w u these
        (subst (λ (n : Named). scalar_in n.1 other (c || is_const n.1) (v || is_volatile n.1) ≡ Some u) one those)
        (found.1 ∙ ap (λ (n : Named). at n.1 other (c || is_const n.1) (v || is_volatile n.1)) one)

    not_both : {B : Type 0} (i n : ℕ) (of : CType) (x : shape.Shape-F Shape CType Sig) → x ≡ shape.Array of n → x ≡ shape.Struct i → B
    not_both i n of x h k = absurd (cc)

    one_type : (path other : List Part) → OneType path other
    one_type [] [] c v t w u h k e = same_Some w u (sym h ∙ k)
    one_type [] (s ∷ other) c v t w u h k e = no_path (w ≡ u) c v t w u s other h k
    one_type (s ∷ path) [] c v t w u h k e = no_path (w ≡ u) c v t u w s path k h
    one_type (part.Index i ∷ path) (part.Index j ∷ other) c v t w u h k e =
        stepped (w ≡ u) c v t w (part.Index i) path h (λ a f x. stepped (w ≡ u) c v t u (part.Index j) other k (λ b g y. one_element c v t w u i j path other a b (one_type path other) f x g y e))
    one_type (part.Member m ∷ path) (part.Member n ∷ other) c v t w u h k e =
        stepped (w ≡ u) c v t w (part.Member m) path h (λ a f x. stepped (w ≡ u) c v t u (part.Member n) other k (λ b g y. one_member c v t w u m n path other a b (one_type path other) f x g y e))
    one_type (part.Index i ∷ path) (part.Member m ∷ other) c v t w u h k e =
        stepped (w ≡ u) c v t w (part.Index i) path h (λ a f x. stepped (w ≡ u) c v t u (part.Member m) other k
        (λ b g y. let z = element_step c v t i a f in let q = member_step c v t m b g in not_both q.i z.n z.of (out-Shape t.shape) z.is_array q.is_struct))
    one_type (part.Member m ∷ path) (part.Index i ∷ other) c v t w u h k e =
        stepped (w ≡ u) c v t w (part.Member m) path h (λ a f x. stepped (w ≡ u) c v t u (part.Index i) other k
        (λ b g y. let q = member_step c v t m a f in let z = element_step c v t i b g in not_both q.i z.n z.of (out-Shape t.shape) z.is_array q.is_struct))

-- ---- objects

module _ (p : Program) (openings : List ℕ) (order : IsInOrder p.structures) where
  pub zeros_typed : (t : CType) → AreScalars p (HasType p openings) t (zeros p.structures t)
  zeros_typed t = record { count = refl; typed = λ path w h. starts p.structures order p openings path (is_const t) (is_volatile t) t w h }

  module _ {A : Type 0} (Holds : ValueType → A → Type 0) (t : CType) (values : List A) (all : AreScalars p Holds t values) (path : List Part) (w : ValueType)
      (scalar : of_one (place_at p.structures path (object_place t)) read_from ≡ Some w) (x : A) (h : Holds w x) where
    abbrev here : ℕ
    here = position p.structures path (Some (object_place t))

    kept_by : (other : List Part) (u : ValueType) (b : Bool) → (here == position p.structures other (Some (object_place t))) ≡ b → of_one (place_at p.structures other (object_place t)) read_from ≡ Some u →
        (y : A) × (slice_get (slice_set values here x) (position p.structures other (Some (object_place t))) ≡ Some y) × Holds u y
    kept_by other u true e k =
        let same = eqb-true here (position p.structures other (Some (object_place t))) e in
        let old = all.typed path w scalar in (
          x,
          ap (slice_get (slice_set values here x)) (sym same) ∙ set_here values here x old.0 old.1,
          subst (λ (r : ValueType). Holds r x) (one_type p.structures order p openings path other (is_const t) (is_volatile t) t w u scalar k same) h,
        )
    kept_by other u false e k =
        let old = all.typed other u k in
        (old.0, set_elsewhere values here (position p.structures other (Some (object_place t))) x (λ same. not_equal here (position p.structures other (Some (object_place t))) same e) ∙ old.1, old.2)

    pub written_typed : AreScalars p Holds t (slice_set values here x)
    written_typed = record {
      count = length-set values here x ∙ all.count;
      typed = λ other u k. kept_by other u (here == position p.structures other (Some (object_place t))) refl k;
    }
