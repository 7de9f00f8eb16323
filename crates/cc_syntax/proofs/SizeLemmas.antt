-- A complete object type that may stand in a program has a size, and so has each of its parts: its kind
-- tells the size. By induction over types, where the structures' members are small.
use Rattle.std.proofs.Common.{arith, ◌≡◌, ◌≤◌, ◌*◌, inl, inr, ℕ, Bool, true, false, nat_lt, nat_le, ◌&&◌, ◌||◌, if◌then◌else◌, List, refl, ap, sym, ◌∙◌, subst, Option, Some, None, slice_get, unwrap_or}
use Rattle.cc_program.specs.CcNum.Integers.{bytes_of}
use Rattle.cc_program.specs.CcNum.declared.target.Target.{Target}
use Rattle.cc_program.specs.declared.types.CType.{CType}
use Rattle.cc_program.specs.declared.types.Shape.{Shape, Struct, out-Shape, out-roll-Shape, roll-Shape}
use Rattle.cc_program.specs.declared.types.Shape.TheOpen as shape
use Rattle.cc_program.specs.declared.types.Shape.TheVariants.{outs-Struct}
use Rattle.cc_program.specs.declared.types.Sig.{Sig}
use Rattle.cc_program.specs.declared.types.Structure.{Structure}
use Rattle.cc_program.proofs.TypeInduction.{with_shape, TypeParts, by_type}
use Rattle.cc_syntax.specs.Kinds.{Kind, IsVoid, IsScalar, IsStructure, IsArray, IsIncomplete, IsFunction, bytes_in, is_small, pointer_kind, array_kind, with_qualifiers, extent_kind, struct_kind, shape_kind, qualified_kind, kind_of, is_sig, extent_with}
use Rattle.cc_syntax.specs.Layout.{nothing, shape_layout, layouts, layout_of, size_of, HasSmallParts, HasSize}
use Rattle.cc_syntax.specs.Types.{has_members, complete_shape, is_complete, IsPart}
use Rattle.cc_syntax.specs.declared.sizes.Layout.{Layout}
use Rattle.cc_syntax.proofs.Parts.{all_contained}
use Rattle.cc_syntax.proofs.Prefixes.{both_true}
use Rattle.cc_syntax.proofs.TypeLayouts.{parts_layout, layout-opens, layout-roll, parts_complete, complete-opens, complete-roll}
use Rattle.cc_syntax.specs.Sizes.{AreSized, IsSmallMember}
use Rattle.cc_syntax.proofs.KindRolls.{parts_kind, kind-roll}
use Rattle.cc_syntax.proofs.PartLemmas.{no_parts, parts_of_array, parts_of_structure}

true_both : (a b : Bool) → a ≡ true → b ≡ true → a && b ≡ true
true_both a b h k = rw (h, k) refl

some_of : {A : Type 0} → {x y : A} → Some x ≡ Some y → x ≡ y
some_of h = cc

qualified_bytes : (q : Bool) (k : Kind) (l : Kind) (n : ℕ) → with_qualifiers q k ≡ Some l → bytes_in l ≡ Some n → bytes_in k ≡ Some n
qualified_bytes q IsVoid l n h b = ap bytes_in (some_of h) ∙ b
qualified_bytes q (IsScalar r m) l n h b = let e = some_of h in let f : bytes_in (IsScalar q m) ≡ Some n = ap bytes_in e ∙ b in f
qualified_bytes q (IsStructure m) l n h b = ap bytes_in (some_of h) ∙ b
qualified_bytes true (IsArray m) l n h b = absurd (cc)
qualified_bytes false (IsArray m) l n h b = ap bytes_in (some_of h) ∙ b
qualified_bytes q IsIncomplete l n h b = ap bytes_in (some_of h) ∙ b
qualified_bytes true IsFunction l n h b = absurd (cc)
qualified_bytes false IsFunction l n h b = ap bytes_in (some_of h) ∙ b

small_of : (n : ℕ) → is_small n ≡ true → n ≤ 4294967295
small_of n h = grind arith

positive_of : (n : ℕ) → nat_le 1 n ≡ true → nat_lt 0 n ≡ true
positive_of n h = grind arith

module _ (structures : List Structure) (count : ℕ) (target : Target) (sized : AreSized structures target) where
  -- what a complete object type of n bytes keeps
  pub record HasBytes (t : CType) (n : ℕ) : Type 0 where
    pub complete : is_complete structures t ≡ true
    pub size : size_of t structures target ≡ n
    pub small : HasSmallParts t structures target

  abbrev Claim : CType → Type 0
  Claim t = (k : Kind) (n : ℕ) → kind_of target (extent_with structures count target) t ≡ Some k → bytes_in k ≡ Some n → HasBytes t n

  module _ (constant volatile : Bool) (x : shape.Shape-F Shape CType Sig) where
    abbrev whole : CType
    whole = with_shape constant volatile (roll-Shape x)

    shape_of : out-Shape (whole).shape ≡ x
    shape_of = out-roll-Shape x

    -- a type without parts
    leaf_bytes : (n : ℕ) → complete_shape structures (parts_complete structures x) ≡ true → (shape_layout target (layouts target structures) (parts_layout target (layouts target structures) x)).size ≡ n → ((q : CType) → IsPart structures q whole → ⊥) → HasBytes whole n
    leaf_bytes n c s none = record {
      complete = complete-roll structures constant volatile x ∙ c;
      size = ap (λ (l : Layout). l.size) (layout-roll target (layouts target structures) constant volatile x) ∙ s;
      small = λ q p. absurd (none q p);
    }

  -- the kind without its qualifiers
  unqualified : (q : Bool) (o : Option Kind) (k : Kind) (n : ℕ) → qualified_kind q o ≡ Some k → bytes_in k ≡ Some n → (l : Kind) × (o ≡ Some l) × (bytes_in l ≡ Some n)
  unqualified q None k n h b = absurd (cc)
  unqualified q (Some l) k n h b = (l, refl, qualified_bytes q l k n h b)

  pointer_bytes_of : (m : ℕ) (k l : Kind) (n : ℕ) → pointer_kind m k ≡ Some l → bytes_in l ≡ Some n → m ≡ n
  pointer_bytes_of m IsVoid l n h b = absurd (cc)
  pointer_bytes_of m (IsScalar q r) l n h b = some_of (ap bytes_in (some_of h) ∙ b)
  pointer_bytes_of m (IsStructure r) l n h b = some_of (ap bytes_in (some_of h) ∙ b)
  pointer_bytes_of m (IsArray r) l n h b = some_of (ap bytes_in (some_of h) ∙ b)
  pointer_bytes_of m IsIncomplete l n h b = some_of (ap bytes_in (some_of h) ∙ b)
  pointer_bytes_of m IsFunction l n h b = some_of (ap bytes_in (some_of h) ∙ b)

  pointer_bytes : (o : Option Kind) (l : Kind) (n : ℕ) → shape_kind target (extent_with structures count target) (shape.Pointer o) ≡ Some l → bytes_in l ≡ Some n → target.pointer_bytes ≡ n
  pointer_bytes None l n h b = absurd (cc)
  pointer_bytes (Some k) l n h b = pointer_bytes_of target.pointer_bytes k l n h b

  -- arrays
  pub record IsArrayOf (m size n : ℕ) : Type 0 where
    pub some : nat_lt 0 m ≡ true
    pub element : size ≤ 4294967295
    pub product : m * size ≡ n

  array_tested : (m size : ℕ) (l : Kind) (n : ℕ) (t : Bool) → nat_le 1 m && (nat_le m 65535 && is_small size) ≡ t → (if t then Some (IsArray (m * size)) else None) ≡ Some l → bytes_in l ≡ Some n → IsArrayOf m size n
  array_tested m size l n true e h b =
      let c = both_true (nat_le 1 m) (nat_le m 65535 && is_small size) e in
      let d = both_true (nat_le m 65535) (is_small size) c.1 in
      record { some = positive_of m c.0; element = small_of size d.1; product = some_of (ap bytes_in (some_of h) ∙ b) }
  array_tested m size l n false e h b = absurd (cc)

  array_bytes : (constant volatile : Bool) (of : CType) (m n size : ℕ) → HasBytes of size → IsArrayOf m size n → HasBytes (whole constant volatile (shape.Array of m)) n
  array_bytes constant volatile of m n size h is = record {
    complete = complete-roll structures constant volatile (shape.Array of m) ∙ true_both (nat_lt 0 m) (is_complete structures of) is.some h.complete;
    size = ap (λ (l : Layout). l.size) (layout-roll target (layouts target structures) constant volatile (shape.Array of m)) ∙ ap (λ k. m * k) h.size ∙ is.product;
    small = λ q p. elim (parts_of_array structures q (whole constant volatile (shape.Array of m)) of m (shape_of constant volatile (shape.Array of m)) p) [
      | inl e ↦ subst (λ (q : CType). size_of q structures target ≤ 4294967295) (sym e) (subst (λ k. k ≤ 4294967295) (sym h.size) is.element)
      | inr part ↦ h.small q part
    ];
  }

  array_of_bytes : (constant volatile : Bool) (of : CType) (m n : ℕ) (k l : Kind) (size : Option ℕ) → bytes_in k ≡ size → kind_of target (extent_with structures count target) of ≡ Some k → Claim of → array_kind m size ≡ Some l → bytes_in l ≡ Some n → HasBytes (whole constant volatile (shape.Array of m)) n
  array_of_bytes constant volatile of m n k l None e f claim h b = absurd (cc)
  array_of_bytes constant volatile of m n k l (Some size) e f claim h b =
      array_bytes constant volatile of m n size (claim k size f e) (array_tested m size l n (nat_le 1 m && (nat_le m 65535 && is_small size)) refl h b)

  array_parts : (constant volatile : Bool) (of : CType) (m n : ℕ) (o : Option Kind) (l : Kind) → kind_of target (extent_with structures count target) of ≡ o → Claim of → shape_kind target (extent_with structures count target) (shape.Array o m) ≡ Some l → bytes_in l ≡ Some n → HasBytes (whole constant volatile (shape.Array of m)) n
  array_parts constant volatile of m n None l e claim h b = absurd (cc)
  array_parts constant volatile of m n (Some k) l e claim h b = array_of_bytes constant volatile of m n k l (bytes_in k) refl e claim h b

  -- structures
  members_small : (i : ℕ) (s : Structure) (t : CType) → out-Shape t.shape ≡ shape.Struct i → slice_get structures i ≡ Some s → HasSmallParts t structures target
  members_small i s t o g q p =
      let in_member = parts_of_structure structures q t i s o g p in
      let m = all_contained (IsSmallMember structures target) s.members in_member.member in_member.contains (sized.small i s g) in
      elim in_member.is [
        | inl e ↦ subst (λ (q : CType). size_of q structures target ≤ 4294967295) (sym e) m.bytes
        | inr part ↦ m.parts q part
      ]

  structure_small : (i : ℕ) (o : Option Structure) (t : CType) → slice_get structures i ≡ o → has_members o ≡ true → out-Shape t.shape ≡ shape.Struct i → HasSmallParts t structures target
  structure_small i None t g h o = absurd (cc)
  structure_small i (Some s) t g h o = members_small i s t o g

  incomplete : (b : Bool) (l : Kind) (n : ℕ) → extent_kind (if b then Some None else None) ≡ Some l → bytes_in l ≡ Some n → ⊥
  incomplete true l n h b = let e : bytes_in IsIncomplete ≡ Some n = ap bytes_in (some_of h) ∙ b in absurd (cc)
  incomplete false l n h b = absurd (cc)

  struct_tested : (size i : ℕ) (t : Bool) (l : Kind) (n : ℕ) → extent_kind (if t then Some (Some size) else (if nat_lt i count then Some None else None)) ≡ Some l → bytes_in l ≡ Some n → (t ≡ true) × (size ≡ n)
  struct_tested size i true l n h b = (refl, some_of (ap bytes_in (some_of h) ∙ b))
  struct_tested size i false l n h b = absurd (incomplete (nat_lt i count) l n h b)

  struct_bytes : (constant volatile : Bool) (i n : ℕ) (l : Kind) → struct_kind structures count target i ≡ Some l → bytes_in l ≡ Some n → HasBytes (whole constant volatile (shape.Struct i)) n
  struct_bytes constant volatile i n l h b =
      let t = struct_tested (unwrap_or (slice_get (layouts target structures) i) nothing).size i (has_members (slice_get structures i)) l n h b in
      record {
        complete = complete-roll structures constant volatile (shape.Struct i) ∙ t.0;
        size = ap (λ (l : Layout). l.size) (layout-roll target (layouts target structures) constant volatile (shape.Struct i)) ∙ t.1;
        small = structure_small i (slice_get structures i) (whole constant volatile (shape.Struct i)) refl t.0 (shape_of constant volatile (shape.Struct i));
      }

  function_bytes : (good : Bool) (l : Kind) (n : ℕ) → (if good then Some IsFunction else None) ≡ Some l → bytes_in l ≡ Some n → ⊥
  function_bytes true l n h b = let e : bytes_in IsFunction ≡ Some n = ap bytes_in (some_of h) ∙ b in absurd (cc)
  function_bytes false l n h b = absurd (cc)

  shape_bytes : (constant volatile : Bool) (x : shape.Shape-F Shape CType Sig) → TypeParts Claim (λ s. Unit {0}) x → (l : Kind) (n : ℕ) → shape_kind target (extent_with structures count target) (parts_kind target (extent_with structures count target) x) ≡ Some l → bytes_in l ≡ Some n → HasBytes (whole constant volatile x) n
  shape_bytes constant volatile shape.Void h l n k b = let e : bytes_in IsVoid ≡ Some n = ap bytes_in (some_of k) ∙ b in absurd (cc)
  shape_bytes constant volatile (shape.Int t) h l n k b =
      let e : bytes_in (IsScalar false (bytes_of t target)) ≡ Some n = ap bytes_in (some_of k) ∙ b in
      leaf_bytes constant volatile (shape.Int t) n refl (some_of e) (λ q p. no_parts structures (shape.Int t) q (whole constant volatile (shape.Int t)) tt (shape_of constant volatile (shape.Int t)) p)
  shape_bytes constant volatile (shape.Pointer to) h l n k b =
      leaf_bytes constant volatile (shape.Pointer to) n refl (pointer_bytes (kind_of target (extent_with structures count target) to) l n k b) (λ q p. no_parts structures (shape.Pointer to) q (whole constant volatile (shape.Pointer to)) tt (shape_of constant volatile (shape.Pointer to)) p)
  shape_bytes constant volatile (shape.Array of m) h l n k b = array_parts constant volatile of m n (kind_of target (extent_with structures count target) of) l refl h k b
  shape_bytes constant volatile (shape.Struct i) h l n k b = struct_bytes constant volatile i n l k b
  shape_bytes constant volatile (shape.Func s) h l n k b = absurd (function_bytes (is_sig target (extent_with structures count target) s) l n k b)

  pub has_bytes : (t : CType) → Claim t
  has_bytes = by_type Claim (λ s. Unit {0})
      (λ constant volatile x h k n e b.
      let u = unqualified (constant || volatile) (shape_kind target (extent_with structures count target) (parts_kind target (extent_with structures count target) x)) k n (sym (kind-roll target (extent_with structures count target) constant volatile x) ∙ e) b in
      shape_bytes constant volatile x h u.0 n u.1 u.2)
      (λ x h. tt)

  -- what the code of sizes asks of a structure type
  pub structure_sized : (t : CType) (i : ℕ) → t.shape ≡ Struct i → has_members (slice_get structures i) ≡ true → HasSize t structures target
  structure_sized t i h m =
      let o : out-Shape t.shape ≡ shape.Struct i = ap out-Shape h ∙ outs-Struct i in
      record {
        complete = complete-opens structures t ∙ ap (λ x. complete_shape structures (parts_complete structures x)) o ∙ m;
        in_order = sized.in_order;
        short = sized.short;
        small = structure_small i (slice_get structures i) t refl m o;
      }

  pub structure_size : (t : CType) (i : ℕ) → t.shape ≡ Struct i → (layout_of t structures target).size ≡ (unwrap_or (slice_get (layouts target structures) i) nothing).size
  structure_size t i h =
      let o : out-Shape t.shape ≡ shape.Struct i = ap out-Shape h ∙ outs-Struct i in
      ap (λ (l : Layout). l.size) (layout-opens target (layouts target structures) t ∙ ap (λ x. shape_layout target (layouts target structures) (parts_layout target (layouts target structures) x)) o)

pub ruleset of_structures = (structure_sized, structure_size)
