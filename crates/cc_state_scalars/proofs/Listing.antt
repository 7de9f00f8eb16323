-- The keys of the scalars of each form of type, by those of its parts.
use Rattle.std.proofs.Common.{arith, ◌≡◌, ◌<◌, ◌+◌, ◌*◌, ℕ, zero, suc, Bool, ◌||◌, List, [], ◌∷◌, length, take, Option, Some, None, unwrap_or, slice_get, refl, ap, sym, ◌∙◌, subst}
use Rattle.std.specs.Prelude.{if◌then◌else◌}
use Rattle.std.proofs.lemmas.Bool.{lt-ltb}
use Rattle.std.proofs.lemmas.List.{length-append}
use Rattle.std.proofs.lemmas.Option.{same_Some, none-some, slice_get_within}
use Rattle.cc_state_keys.specs.CcCells.Scalars.{member_zeros, structure_zeros, zeros}
use Rattle.cc_program.specs.Qualifiers.{is_const, is_volatile}
use Rattle.cc_program.specs.declared.program.Program.{Program}
use Rattle.cc_program.specs.declared.types.CType.{CType}
use Rattle.cc_program.specs.declared.types.Shape.{Shape, out-Shape}
use Rattle.cc_program.specs.declared.types.Shape.TheOpen as shape
use Rattle.cc_program.specs.declared.types.Sig.{Sig}
use Rattle.cc_program.specs.declared.types.Structure.{Structure}
use Rattle.cc_program.specs.declared.value.Part.{Part}
use Rattle.cc_program.specs.declared.value.Part.TheVariants as part
use Rattle.cc_state_keys.specs.CcStateFacts.declared.facts.Key.{Key}
use Rattle.cc_state_keys.specs.CcStateFacts.declared.facts.Key.TheVariants as key
use Rattle.cc_state_keys.specs.Keys.{structure_shape, key_of_member, key_along}
use Rattle.cc_state_scalars.proofs.Rows.{repeats, length-repeats, get_repeat, split_repeat, joined, before, whole, length-joined, get_joined, split_joined, sized_by}
use Rattle.cc_state_scalars.specs.Listed.{scalar_of, position_of, key_of, Leads, AreKeys, before_member, AreMemberKeys}
use Rattle.cc_states.proofs.PathLemmas.{ElementStep, MemberStep, element_step, member_step, element_position, member_position, element_scalar, member_scalar, structure-whole, no_path, stepped}
use Rattle.cc_states.proofs.ZeroLemmas.{zeros-shape}
use Rattle.cc_states.proofs.ListLemmas.{same_struct}
use Rattle.cc_state_keys.proofs.CcSyntax.AlikeLemmas.{same_of}
use Rattle.cc_state_keys.specs.CcSyntax.Expressions.{of_one}
use Rattle.cc_state_keys.specs.CcSyntax.Initial.{bound_shape, is_below, step_into, place_at}
use Rattle.cc_state_keys.specs.CcSyntax.Types.{Named, IsInOrder}
use Rattle.cc_state_keys.specs.CcSyntax.Values.{ValueType, PlaceType, ObjectPlace, read_from, scalar_shape, scalar_value, element_shape, member_at, member_in, member_shape}

same_count : (of other : CType) (n m : ℕ) (x : shape.Shape-F Shape CType Sig) → x ≡ shape.Array of n → x ≡ shape.Array other m → n ≡ m
same_count of other n m x h k = cc

module _ (p : Program) (order : IsInOrder p.structures) where
  abbrev structures : List Structure
  structures = p.structures

  -- ---- scalars

  module _ (k : Key) (t : CType) (w : ValueType) (scalar : scalar_value t ≡ Some w) (one : length (zeros structures t) ≡ 1) where
    first_of : (c v : Bool) (n : ℕ) (x : Key) → slice_get (k ∷ []) n ≡ Some x → (path : List Part) × Leads structures k t c v path n x
    first_of c v zero x h = ([], record { type = w; scalar = scalar; stands = refl; is_key = same_Some k x h })
    first_of c v (suc n) x h = absurd (none-some x h)

    each_of : (c v : Bool) (path : List Part) (u : ValueType) → scalar_of structures t path c v ≡ Some u → slice_get (k ∷ []) (position_of structures t path c v) ≡ Some (key_of structures k t path c v)
    each_of c v [] u h = refl
    each_of c v (s ∷ path) u h = no_path structures order p [] (slice_get (k ∷ []) (position_of structures t (s ∷ path) c v) ≡ Some (key_of structures k t (s ∷ path) c v)) c v t w u s path scalar h

    pub scalar_keys : AreKeys structures k t (k ∷ [])
    scalar_keys = record { size = sym one; each = each_of; all = first_of }

  -- ---- arrays

  module _ (k : Key) (t of : CType) (n : ℕ) (keys : List Key) (is : out-Shape t.shape ≡ shape.Array of n) (listed : AreKeys structures k of keys) where
    array_zeros : zeros structures t ≡ repeats n (zeros structures of)
    array_zeros = zeros-shape (structure_zeros structures) t (shape.Array of n) is

    array_size : length (repeats n keys) ≡ length (zeros structures t)
    array_size = length-repeats n keys ∙ ap (λ l. n * l) listed.size ∙ sym (length-repeats n (zeros structures of)) ∙ sym (ap length array_zeros)

    index_step : (c v : Bool) (i : ℕ) → i < n → step_into structures (part.Index i) (ObjectPlace c v t) ≡ Some (ObjectPlace c v of)
    index_step c v i l =
        ap (λ (x : shape.Shape-F Shape CType Sig). if is_below i (bound_shape x) then element_shape c v x else None) is
        ∙ ap (λ (b : Bool). if b then Some (ObjectPlace c v of) else None) (lt-ltb i n l)

    abbrev array_step : (c v : Bool) (i : ℕ) → i < n → ElementStep structures order c v t i (ObjectPlace c v of)
    array_step c v i l = record { of = of; n = n; is_array = is; within = l; there = refl }

    -- position and key behind an index
    element_stands : (c v : Bool) (i : ℕ) (path : List Part) → i < n → position_of structures t (part.Index i ∷ path) c v ≡ i * length keys + position_of structures of path c v
    element_stands c v i path l =
        element_position structures order c v t i path (ObjectPlace c v of) (array_step c v i l) (index_step c v i l)
        ∙ ap (λ m. i * m + position_of structures of path c v) (sym listed.size)

    element_key : (c v : Bool) (i : ℕ) (path : List Part) → i < n → key_of structures k t (part.Index i ∷ path) c v ≡ key_of structures k of path c v
    element_key c v i path l = ap (λ (o : Option PlaceType). key_along structures path o k) (index_step c v i l)

    each_element : (c v : Bool) (i : ℕ) (path : List Part) (w : ValueType) → i < n → scalar_of structures of path c v ≡ Some w →
        slice_get (repeats n keys) (position_of structures t (part.Index i ∷ path) c v) ≡ Some (key_of structures k t (part.Index i ∷ path) c v)
    each_element c v i path w l h =
        let inner = listed.each c v path w h in
        ap (slice_get (repeats n keys)) (element_stands c v i path l)
        ∙ get_repeat keys n i (position_of structures of path c v) l (slice_get_within keys (position_of structures of path c v) (key_of structures k of path c v) inner)
        ∙ inner ∙ ap Some (sym (element_key c v i path l))

    each_in_array : (c v : Bool) (path : List Part) (w : ValueType) → scalar_of structures t path c v ≡ Some w → slice_get (repeats n keys) (position_of structures t path c v) ≡ Some (key_of structures k t path c v)
    each_in_array c v [] w h = absurd (let z : None ≡ Some w = ap scalar_shape (sym is) ∙ h in cc)
    each_in_array c v (part.Index i ∷ path) w h =
        stepped structures order p [] (slice_get (repeats n keys) (position_of structures t (part.Index i ∷ path) c v) ≡ Some (key_of structures k t (part.Index i ∷ path) c v)) c v t w (part.Index i) path h
        (λ a f g.
        let e = element_step structures order c v t i a f in
        let same : e.of ≡ of = same_of e.of of e.n n (out-Shape t.shape) e.is_array is in
        let l : i < n = subst (λ m. i < m) (same_count e.of of e.n n (out-Shape t.shape) e.is_array is) e.within in
        each_element c v i path w l (subst (λ (o : CType). scalar_of structures o path c v ≡ Some w) same (element_scalar structures order c v t i path a w e g)))
    each_in_array c v (part.Member m ∷ path) w h =
        stepped structures order p [] (slice_get (repeats n keys) (position_of structures t (part.Member m ∷ path) c v) ≡ Some (key_of structures k t (part.Member m ∷ path) c v)) c v t w (part.Member m) path h
        (λ a f g. absurd (let e = member_step structures order c v t m a f in let z : shape.Array of n ≡ shape.Struct e.i = sym is ∙ e.is_struct in cc))

    all_in_array : (c v : Bool) (i : ℕ) (x : Key) → slice_get (repeats n keys) i ≡ Some x → (path : List Part) × Leads structures k t c v path i x
    all_in_array c v i x h =
        let r = split_repeat keys n i x h in
        let inner = listed.all c v r.column x r.there in
        let leads = inner.1 in (
          part.Index r.row ∷ inner.0,
          record {
            type = leads.type;
            scalar = ap (λ (o : Option PlaceType). of_one (of_one o (place_at structures inner.0)) read_from) (index_step c v r.row r.within) ∙ leads.scalar;
            stands = element_stands c v r.row inner.0 r.within ∙ ap (λ m. r.row * length keys + m) leads.stands ∙ sym r.is;
            is_key = element_key c v r.row inner.0 r.within ∙ leads.is_key;
          },
        )

    pub array_keys : AreKeys structures k t (repeats n keys)
    array_keys = record { size = array_size; each = each_in_array; all = all_in_array }

  -- ---- structures

  module _ (k : Key) (t : CType) (s : ℕ) (st : Structure) (keys : List Key) (is : out-Shape t.shape ≡ shape.Struct s) (found : slice_get structures s ≡ Some st) (listed : AreMemberKeys structures s st.members keys) where
    structure_size : length keys ≡ length (zeros structures t)
    structure_size =
        listed.size
        ∙ sym (ap length (zeros-shape (structure_zeros structures) t (shape.Struct s) is ∙ ap (λ (o : Option (List _)). unwrap_or o []) (structure-whole structures order s st found)))

    module _ (c v : Bool) (m : ℕ) (n : Named) (named : slice_get st.members m ≡ Some n) where
      abbrev its : PlaceType
      its = ObjectPlace (c || is_const n.1) (v || is_volatile n.1) n.1

      into_member : step_into structures (part.Member m) (ObjectPlace c v t) ≡ Some its
      into_member = ap (member_shape structures c v m) is ∙ ap (member_in c v m) found ∙ ap (member_at c v) named

      abbrev structure_step : MemberStep structures order c v t m its
      structure_step = record { i = s; s = st; n = n; is_struct = is; found = found; named = named; there = refl }

      member_stands : (path : List Part) → position_of structures t (part.Member m ∷ path) c v ≡ before_member structures st.members m + position_of structures n.1 path (c || is_const n.1) (v || is_volatile n.1)
      member_stands path = member_position structures order c v t m path its structure_step into_member

      member_key : (path : List Part) → key_of structures k t (part.Member m ∷ path) c v ≡ key_of structures (key.Member s m) n.1 path (c || is_const n.1) (v || is_volatile n.1)
      member_key path =
          ap (λ (o : Option PlaceType). key_along structures path o (key_of_member (structure_shape (out-Shape t.shape)) m k)) into_member
          ∙ ap (λ (x : shape.Shape-F Shape CType Sig). key_along structures path (Some its) (key_of_member (structure_shape x) m k)) is

    each_in_structure : (c v : Bool) (path : List Part) (w : ValueType) → scalar_of structures t path c v ≡ Some w → slice_get keys (position_of structures t path c v) ≡ Some (key_of structures k t path c v)
    each_in_structure c v [] w h = absurd (let z : None ≡ Some w = ap scalar_shape (sym is) ∙ h in cc)
    each_in_structure c v (part.Index i ∷ path) w h =
        stepped structures order p [] (slice_get keys (position_of structures t (part.Index i ∷ path) c v) ≡ Some (key_of structures k t (part.Index i ∷ path) c v)) c v t w (part.Index i) path h
        (λ a f g. absurd (let e = element_step structures order c v t i a f in let z : shape.Struct s ≡ shape.Array e.of e.n = sym is ∙ e.is_array in cc))
    each_in_structure c v (part.Member m ∷ path) w h =
        stepped structures order p [] (slice_get keys (position_of structures t (part.Member m ∷ path) c v) ≡ Some (key_of structures k t (part.Member m ∷ path) c v)) c v t w (part.Member m) path h
        (λ a f g.
        let e = member_step structures order c v t m a f in
        let one : e.i ≡ s = same_struct e.i s (out-Shape t.shape) e.is_struct is in
        let same : e.s ≡ st = same_Some e.s st (sym e.found ∙ ap (slice_get structures) one ∙ found) in
        let named : slice_get st.members m ≡ Some e.n = ap (λ (x : Structure). slice_get x.members m) (sym same) ∙ e.named in
        let inner = listed.each m e.n (c || is_const e.n.1) (v || is_volatile e.n.1) path w named (member_scalar structures order c v t m path a w e g) in
        ap (slice_get keys) (member_stands c v m e.n named path) ∙ inner ∙ ap Some (sym (member_key c v m e.n named path)))

    all_in_structure : (c v : Bool) (i : ℕ) (x : Key) → slice_get keys i ≡ Some x → (path : List Part) × Leads structures k t c v path i x
    all_in_structure c v i x h =
        let (m, n, path, q, named, leads, at) = listed.all c v i x h in (
          part.Member m ∷ path,
          record {
            type = leads.type;
            scalar = ap (λ (o : Option PlaceType). of_one (of_one o (place_at structures path)) read_from) (into_member c v m n named) ∙ leads.scalar;
            stands = member_stands c v m n named path ∙ ap (λ y. before_member structures st.members m + y) leads.stands ∙ at;
            is_key = member_key c v m n named path ∙ leads.is_key;
          },
        )

    pub structure_keys : AreKeys structures k t keys
    structure_keys = record { size = structure_size; each = each_in_structure; all = all_in_structure }

  -- ---- members

  abbrev size : Named → ℕ
  size n = length (zeros structures n.1)

  before_is : (members : List Named) (m : ℕ) → before_member structures members m ≡ before size members m
  before_is [] zero = refl
  before_is [] (suc m) = refl
  before_is (n ∷ members) zero = refl
  before_is (n ∷ members) (suc m) =
      let r = before_is members m in
      length-append (zeros structures n.1) (member_zeros (structure_zeros structures) (take m members)) ∙ omega (arith, r)

  whole_is : (members : List Named) → length (member_zeros (structure_zeros structures) members) ≡ whole size members
  whole_is [] = refl
  whole_is (n ∷ members) =
      let r = whole_is members in
      length-append (zeros structures n.1) (member_zeros (structure_zeros structures) members) ∙ omega (arith, r)

  -- a list for each member
  pub record AreLists (s : ℕ) (members : List Named) (lists : List (List Key)) : Type 0 where
    pub count : length lists ≡ length members
    pub there : (m : ℕ) (n : Named) (l : List Key) → slice_get members m ≡ Some n → slice_get lists m ≡ Some l → AreKeys structures (key.Member s m) n.1 l

  list_of : (lists : List (List Key)) (members : List Named) → length lists ≡ length members → (m : ℕ) (n : Named) → slice_get members m ≡ Some n → (l : List Key) × (slice_get lists m ≡ Some l)
  list_of [] [] c m n e = absurd (none-some n e)
  list_of [] (x ∷ members) c m n e = absurd (omega (arith, c))
  list_of (l ∷ lists) [] c m n e = absurd (none-some n e)
  list_of (l ∷ lists) (x ∷ members) c zero n e = (l, refl)
  list_of (l ∷ lists) (x ∷ members) c (suc m) n e = list_of lists members (omega (arith, c)) m n e

  pub members_keys : (s : ℕ) (members : List Named) (lists : List (List Key)) → AreLists s members lists → AreMemberKeys structures s members (joined lists)
  members_keys s members lists h =
      let sized = sized_by size members lists h.count (λ m n l e f. (h.there m n l e f).size) in
      record {
        size = length-joined size members lists sized ∙ sym (whole_is members);
        each = λ m n c v path w named scalar.
            let l = list_of lists members h.count m n named in
            let inner = (h.there m n l.0 named l.1).each c v path w scalar in
            ap (λ b. slice_get (joined lists) (b + position_of structures n.1 path c v)) (before_is members m)
            ∙ get_joined size members lists sized m (position_of structures n.1 path c v) l.0 l.1 (slice_get_within l.0 (position_of structures n.1 path c v) (key_of structures (key.Member s m) n.1 path c v) inner)
            ∙ inner;
        all = λ c v i x e.
            let r = split_joined size members lists sized i x e in
            let inner = (h.there r.place r.thing r.list r.is_thing r.is_list).all (c || is_const r.thing.1) (v || is_volatile r.thing.1) r.column x r.there in
            (r.place, r.thing, inner.0, r.column, r.is_thing, inner.1, ap (λ b. b + r.column) (before_is members r.place) ∙ r.is);
      }
