-- Places by other numbers: what is read and written, addresses, elements and members have their types by those numbers.
use Rattle.std.proofs.Common.{◌≡◌, ℕ, zero, suc, Bool, true, false, ◌||◌, nat_lt, List, [], ◌∷◌, length, map, Option, Some, None, option_map, slice_get, refl, ap, ◌∙◌, arith}
use Rattle.std.specs.Prelude.{if◌then◌else◌}
use Rattle.std.proofs.lemmas.Bool.{lt-ltb}
use Rattle.cc_program.specs.Qualifiers.{is_const, is_volatile}
use Rattle.cc_program.specs.declared.types.CType.{CType}
use Rattle.cc_program.specs.declared.types.Shape.{Shape, out-Shape}
use Rattle.cc_program.specs.declared.types.Shape.TheOpen as shape
use Rattle.cc_program.specs.declared.types.Sig.{Sig}
use Rattle.cc_program.specs.declared.types.Structure.{Structure}
use Rattle.cc_structures.proofs.WordLaws.{number_by, renumbered_level, level-renumbered}
use Rattle.cc_operands.specs.CcSyntax.Types.{Named, has_members}
use Rattle.cc_operands.specs.CcSyntax.Values.{ValueType, NoValue, Integer, ToObject, ToFunction, PlaceType, DevicePlace, ObjectPlace, FunctionPlace, is_void, read_from, written_to, address_of, pointed_to, element_of, element_shape, member_of, member_shape, member_in, member_at, scalar_value}
use Rattle.cc_unit.specs.Renumbered.{type_renumbered}
use Rattle.cc_relocated_units.specs.Renumbering.{value_renumbered, place_type_renumbered, MemberTypes}
use Rattle.cc_relocated_units.proofs.Types.{const_kept, volatile_kept, void_kept, scalar_kept}

module _ (numbers : List ℕ) where
  abbrev value : ValueType → ValueType
  value t = value_renumbered numbers t

  abbrev place : PlaceType → PlaceType
  place a = place_type_renumbered numbers a

  abbrev types : CType → CType
  types t = type_renumbered numbers t

  mapped : (o : Option ValueType) (p : Option ValueType) (t : ValueType) → p ≡ option_map (value_renumbered numbers) o → o ≡ Some t → p ≡ Some (value t)
  mapped o p t e f = e ∙ ap (option_map (value_renumbered numbers)) f

  pub read_exact : (a : PlaceType) (t : ValueType) → read_from a ≡ Some t → read_from (place a) ≡ Some (value t)
  read_exact (DevicePlace c i) t e = ap (option_map (value_renumbered numbers)) e
  read_exact (ObjectPlace c v x) t e = mapped (scalar_value x) (scalar_value (types x)) t (scalar_kept numbers x) e
  read_exact (FunctionPlace s) t e = absurd (cc)

  unless_const : (c : Bool) (o p : Option ValueType) (t : ValueType) → p ≡ option_map (value_renumbered numbers) o → (if c then None else o) ≡ Some t → (if c then None else p) ≡ Some (value t)
  unless_const true o p t e f = absurd (cc)
  unless_const false o p t e f = mapped o p t e f

  pub written_exact : (a : PlaceType) (t : ValueType) → written_to a ≡ Some t → written_to (place a) ≡ Some (value t)
  written_exact (DevicePlace c i) t e = unless_const c (Some (Integer i)) (Some (Integer i)) t refl e
  written_exact (ObjectPlace c v x) t e = unless_const c (scalar_value x) (scalar_value (types x)) t (scalar_kept numbers x) e
  written_exact (FunctionPlace s) t e = absurd (cc)

  pub address_exact : (a : PlaceType) (t : ValueType) → address_of a ≡ Some t → address_of (place a) ≡ Some (value t)
  address_exact (DevicePlace c i) t e = absurd (cc)
  address_exact (ObjectPlace c v x) t e = ap (option_map (value_renumbered numbers)) e
  address_exact (FunctionPlace s) t e = ap (option_map (value_renumbered numbers)) e

  pointed_by : (b b' : Bool) (c v : Bool) (x : CType) (a : PlaceType) → b' ≡ b → (if b then None else Some (ObjectPlace c v x)) ≡ Some a → (if b' then None else Some (ObjectPlace c v (types x))) ≡ Some (place a)
  pointed_by true b' c v x a e f = absurd (cc)
  pointed_by false b' c v x a e f = ap (λ (d : Bool). if d then None else Some (ObjectPlace c v (types x))) e ∙ ap (option_map (place_type_renumbered numbers)) f

  pub pointed_exact : (t : ValueType) (a : PlaceType) → pointed_to t ≡ Some a → pointed_to (value t) ≡ Some (place a)
  pointed_exact NoValue a e = absurd (cc)
  pointed_exact (Integer i) a e = absurd (cc)
  pointed_exact (ToObject c v x) a e = pointed_by (is_void x) (is_void (types x)) c v x a (void_kept numbers x) e
  pointed_exact (ToFunction s) a e = ap (option_map (place_type_renumbered numbers)) e

  element_level : (c v : Bool) (x : shape.Shape-F Shape CType Sig) (a : PlaceType) → element_shape c v x ≡ Some a → element_shape c v (renumbered_level numbers x) ≡ Some (place a)
  element_level c v (shape.Array of n) a e = ap (option_map (place_type_renumbered numbers)) e
  element_level c v shape.Void a e = absurd (cc)
  element_level c v (shape.Int t) a e = absurd (cc)
  element_level c v (shape.Pointer to) a e = absurd (cc)
  element_level c v (shape.Struct i) a e = absurd (cc)
  element_level c v (shape.Func s) a e = absurd (cc)

  pub element_exact : (a b : PlaceType) → element_of a ≡ Some b → element_of (place a) ≡ Some (place b)
  element_exact (DevicePlace c i) b e = absurd (cc)
  element_exact (ObjectPlace c v t) b e = ap (element_shape c v) (level-renumbered numbers t (out-Shape t.shape) refl) ∙ element_level c v (out-Shape t.shape) b e
  element_exact (FunctionPlace s) b e = absurd (cc)

  -- ---- members

  pub member_type : (ms ns : List Named) → MemberTypes numbers ms ns → (m : ℕ) (x : Named) → slice_get ms m ≡ Some x → (n : Named) × (slice_get ns m ≡ Some n) × (n.1 ≡ types x.1)
  member_type [] ns h m x e = absurd (cc)
  member_type (y ∷ ms) [] h m x e = absurd (cc)
  member_type (y ∷ ms) (n ∷ ns) h zero x e =
      let f : y ≡ x = cc e in
      let g : n.1 ≡ types y.1 = cc h in
      (n, refl, g ∙ ap (λ (z : Named). types z.1) f)
  member_type (y ∷ ms) (n ∷ ns) h (suc m) x e =
      let g : map (λ (z : Named). z.1) ns ≡ map (λ (z : Named). types z.1) ms = cc h in
      member_type ms ns g m x e

  pub some_members : (ms ns : List Named) → MemberTypes numbers ms ns → nat_lt 0 (length ms) ≡ true → nat_lt 0 (length ns) ≡ true
  some_members [] ns h e = absurd (cc)
  some_members (y ∷ ms) [] h e = absurd (cc)
  some_members (y ∷ ms) (n ∷ ns) h e = lt-ltb 0 (length (n ∷ ns)) (omega arith)

  module _ (before after : List Structure)
      (kept : (i : ℕ) (s : Structure) → slice_get before i ≡ Some s → (t : Structure) × (slice_get after (number_by numbers i) ≡ Some t) × MemberTypes numbers s.members t.members) where
    members_by : (i : ℕ) (o : Option Structure) → slice_get before i ≡ o → has_members o ≡ true → has_members (slice_get after (number_by numbers i)) ≡ true
    members_by i None e h = absurd (cc)
    members_by i (Some s) e h = let k = kept i s e in ap has_members k.1 ∙ some_members s.members k.0.members k.2 h

    pub members_kept : (i : ℕ) → has_members (slice_get before i) ≡ true → has_members (slice_get after (number_by numbers i)) ≡ true
    members_kept i h = members_by i (slice_get before i) refl h

    with_types : (c v : Bool) (x n : Named) (a : PlaceType) → n.1 ≡ types x.1 → Some (ObjectPlace (c || is_const x.1) (v || is_volatile x.1) x.1) ≡ Some a → Some (ObjectPlace (c || is_const n.1) (v || is_volatile n.1) n.1) ≡ Some (place a)
    with_types c v x n a e f =
        ap (λ (t : CType). Some (ObjectPlace (c || is_const t) (v || is_volatile t) t)) e
        ∙ (ap (λ (b : Bool). Some (ObjectPlace (c || b) (v || is_volatile (types x.1)) (types x.1))) (const_kept numbers x.1)
        ∙ (ap (λ (b : Bool). Some (ObjectPlace (c || is_const x.1) (v || b) (types x.1))) (volatile_kept numbers x.1) ∙ ap (option_map (place_type_renumbered numbers)) f))

    member_by : (c v : Bool) (m : ℕ) (s t : Structure) → MemberTypes numbers s.members t.members → (o : Option Named) → slice_get s.members m ≡ o → (a : PlaceType) → member_at c v o ≡ Some a → member_at c v (slice_get t.members m) ≡ Some (place a)
    member_by c v m s t h None e a f = absurd (cc)
    member_by c v m s t h (Some x) e a f = let n = member_type s.members t.members h m x e in ap (member_at c v) n.1 ∙ with_types c v x n.0 a n.2 f

    structure_by : (c v : Bool) (m i : ℕ) (o : Option Structure) → slice_get before i ≡ o → (a : PlaceType) → member_in c v m o ≡ Some a → member_in c v m (slice_get after (number_by numbers i)) ≡ Some (place a)
    structure_by c v m i None e a f = absurd (cc)
    structure_by c v m i (Some s) e a f = let k = kept i s e in ap (member_in c v m) k.1 ∙ member_by c v m s k.0 k.2 (slice_get s.members m) refl a f

    member_level : (c v : Bool) (m : ℕ) (x : shape.Shape-F Shape CType Sig) (a : PlaceType) → member_shape before c v m x ≡ Some a → member_shape after c v m (renumbered_level numbers x) ≡ Some (place a)
    member_level c v m (shape.Struct i) a e = structure_by c v m i (slice_get before i) refl a e
    member_level c v m shape.Void a e = absurd (cc)
    member_level c v m (shape.Int t) a e = absurd (cc)
    member_level c v m (shape.Pointer to) a e = absurd (cc)
    member_level c v m (shape.Array of n) a e = absurd (cc)
    member_level c v m (shape.Func s) a e = absurd (cc)

    pub member_exact : (m : ℕ) (a b : PlaceType) → member_of before m a ≡ Some b → member_of after m (place a) ≡ Some (place b)
    member_exact m (DevicePlace c i) b e = absurd (cc)
    member_exact m (ObjectPlace c v t) b e = ap (member_shape after c v m) (level-renumbered numbers t (out-Shape t.shape) refl) ∙ member_level c v m (out-Shape t.shape) b e
    member_exact m (FunctionPlace s) b e = absurd (cc)
