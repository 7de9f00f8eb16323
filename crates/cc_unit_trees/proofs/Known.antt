-- What soundness says of the types that stand in an object: arrays have from 1 to 65,535 elements, structures have
-- members, and a member of a structure that a path leads to has a name.
use Rattle.std.proofs.Common.{arith, ◌≡◌, ◌≤◌, ◌-◌, ◌^◌, ℕ, zero, suc, Bool, true, false, ◌||◌, cond, nat_lt, List, [], ◌∷◌, ◌++◌, take, length, Option, Some, None, slice_get, refl, ap, sym, ◌∙◌, subst, append_assoc, append-nil, true≢false}
use Rattle.std.proofs.lemmas.Bool.Decides.{nat_tests}
use Rattle.std.specs.List.{list_all}
use Rattle.std.specs.Option.{is_some}
use Rattle.cc_program.specs.CcNum.declared.target.Target.{Target}
use Rattle.cc_lex.proofs.Booleans.{and-true}
use Rattle.cc_bodies.specs.Names.{member_name, member_shape as name_shape, member_at as name_at, local_name}
use Rattle.cc_program.specs.Qualifiers.{is_const, is_volatile}
use Rattle.cc_program.specs.declared.object.Object.{Object}
use Rattle.cc_program.specs.declared.program.Program.{Program}
use Rattle.cc_program.specs.declared.types.CType.{CType}
use Rattle.cc_program.specs.declared.types.Shape.{Shape, out-Shape}
use Rattle.cc_program.specs.declared.types.Shape.TheOpen as shape
use Rattle.cc_program.specs.declared.types.Sig.{Sig}
use Rattle.cc_program.specs.declared.types.Structure.{Structure}
use Rattle.cc_program.specs.declared.value.Part.TheVariants as part
use Rattle.cc_typed.specs.CcSyntax.Initial.{bound_shape, bound_of, is_below, step_into}
use Rattle.cc_typed.specs.CcSyntax.Kinds.{Kind, kind_of, shape_kind, qualified_kind, is_object_type, extent_with}
use Rattle.cc_typed.specs.CcSyntax.Names.{are_names, local_names}
use Rattle.cc_typed.specs.CcSyntax.Sound.{have_ids, is_member, is_structure, are_structures, is_object, IsSound}
use Rattle.cc_typed.specs.CcSyntax.Types.{Named, has_members, complete_shape, is_complete, IsInOrder}
use Rattle.cc_typed.specs.CcSyntax.Values.{PlaceType, DevicePlace, ObjectPlace, FunctionPlace, element_shape, element_of, member_at, member_in, member_shape}
use Rattle.cc_typed.proofs.CcSyntax.KindRolls.{kind-opens, parts_kind}
use Rattle.cc_typed.proofs.CcSyntax.StructureLemmas.{structures_sized, object_complete}
use Rattle.cc_typed.proofs.CcSyntax.TypeLayouts.{parts_complete, complete-opens}
use Rattle.cc_expression_trees.proofs.Levels.{elements}

-- ---- lists

pub all-at : {A : Type 0} → (f : A → Bool) (xs : List A) (i : ℕ) (x : A) → list_all f xs ≡ true → slice_get xs i ≡ Some x → f x ≡ true
all-at f [] i x h e = absurd (cc)
all-at f (y ∷ ys) zero x h e = let same : y ≡ x = cc in subst (λ z. f z ≡ true) same (and-true (f y) (list_all f ys) h).0
all-at f (y ∷ ys) (suc i) x h e = all-at f ys i x (and-true (f y) (list_all f ys) h).1 e

-- ---- the types of objects

pub some-kind : (k : Option Kind) → is_object_type k ≡ true → is_some k ≡ true
some-kind None h = absurd (true≢false (sym h))
some-kind (Some k) h = refl

-- ---- members of structures

module _ (count : ℕ) (target : Target) where
  structure-from : (before rest : List Structure) → are_structures before count target rest ≡ true → (i : ℕ) (s : Structure) → slice_get rest i ≡ Some s → is_structure (before ++ take i rest) count target s ≡ true
  structure-from before [] h i s e = absurd (cc)
  structure-from before (r ∷ rest) h zero s e =
      let same : r ≡ s = cc in
      subst (λ ss. is_structure ss count target s ≡ true) (sym (append-nil before))
      (subst (λ x. is_structure before count target x ≡ true) same (and-true (is_structure before count target r) (are_structures (before ++ r ∷ []) count target rest) h).0)
  structure-from before (r ∷ rest) h (suc i) s e =
      subst (λ ss. is_structure ss count target s ≡ true) (append_assoc before (r ∷ []) (take i rest))
      (structure-from (before ++ r ∷ []) rest (and-true (is_structure before count target r) (are_structures (before ++ r ∷ []) count target rest) h).1 i s e)

  pub members-of : (structures : List Structure) → are_structures [] count target structures ≡ true → (i : ℕ) (s : Structure) → slice_get structures i ≡ Some s → list_all (is_member (take i structures) count target) s.members ≡ true
  members-of structures h i s e =
      let g = structure-from [] structures h i s e in
      (and-true (are_names (local_names s.members)) (list_all (is_member (take i structures) count target) s.members) (and-true (have_ids (length s.members)) _ g).1).1

-- ---- complete types

module _ (structures : List Structure) where
  pub array-complete : (t of : CType) (n : ℕ) → out-Shape t.shape ≡ shape.Array of n → is_complete structures t ≡ true → (nat_lt 0 n ≡ true) × (is_complete structures of ≡ true)
  array-complete t of n e h = and-true (nat_lt 0 n) (is_complete structures of) (sym (complete-opens structures t ∙ ap (λ x. complete_shape structures (parts_complete structures x)) e) ∙ h)

  pub structure-complete : (t : CType) (i : ℕ) → out-Shape t.shape ≡ shape.Struct i → is_complete structures t ≡ true → has_members (slice_get structures i) ≡ true
  structure-complete t i e h = sym (complete-opens structures t ∙ ap (λ x. complete_shape structures (parts_complete structures x)) e) ∙ h

  -- no other type than these is complete
  pub no-void : (t : CType) → out-Shape t.shape ≡ shape.Void → is_complete structures t ≡ true → ⊥
  no-void t e h = true≢false (sym h ∙ (complete-opens structures t ∙ ap (λ x. complete_shape structures (parts_complete structures x)) e))

  pub no-func : (t : CType) (s : Sig) → out-Shape t.shape ≡ shape.Func s → is_complete structures t ≡ true → ⊥
  no-func t s e h = true≢false (sym h ∙ (complete-opens structures t ∙ ap (λ x. complete_shape structures (parts_complete structures x)) e))

-- ---- a step into an object

when-some : {A : Type 0} → (t : Bool) (o : Option A) (b : A) → cond t o None ≡ Some b → (t ≡ true) × (o ≡ Some b)
when-some true o b h = (refl, h)
when-some false o b h = absurd (cc)

module _ (structures : List Structure) where
  pub record MemberStep (i : ℕ) (a b : PlaceType) : Type 0 where
    pub structure : ℕ
    pub found : Structure
    pub member : Named
    pub constant : Bool
    pub volatile : Bool
    pub there : slice_get structures structure ≡ Some found
    pub among : slice_get found.members i ≡ Some member
    pub named : member_name structures i (Some a) ≡ Some member.0
    pub typed : b ≡ ObjectPlace constant volatile member.1

  of-member : (c v : Bool) (t : CType) (i k : ℕ) (b : PlaceType) → out-Shape t.shape ≡ shape.Struct k → (s : Structure) → slice_get structures k ≡ Some s → (m : Option Named) → slice_get s.members i ≡ m → member_at c v m ≡ Some b →
      MemberStep i (ObjectPlace c v t) b
  of-member c v t i k b e s g None f h = absurd (cc)
  of-member c v t i k b e s g (Some m) f h = record {
    structure = k;
    found = s;
    member = m;
    constant = c || is_const m.1;
    volatile = v || is_volatile m.1;
    there = g;
    among = f;
    named = ap (name_shape structures i) e ∙ ap (name_at i) g ∙ ap local_name f;
    typed = cc;
  }

  of-structure : (c v : Bool) (t : CType) (i k : ℕ) (b : PlaceType) → out-Shape t.shape ≡ shape.Struct k → (s : Option Structure) → slice_get structures k ≡ s → member_in c v i s ≡ Some b → MemberStep i (ObjectPlace c v t) b
  of-structure c v t i k b e None g h = absurd (cc)
  of-structure c v t i k b e (Some s) g h = of-member c v t i k b e s g (slice_get s.members i) refl h

  of-shape : (c v : Bool) (t : CType) (i : ℕ) (b : PlaceType) (x : shape.Shape-F Shape CType Sig) → out-Shape t.shape ≡ x → member_shape structures c v i x ≡ Some b → MemberStep i (ObjectPlace c v t) b
  of-shape c v t i b (shape.Struct k) e h = of-structure c v t i k b e (slice_get structures k) refl h
  of-shape c v t i b shape.Void e h = absurd (cc)
  of-shape c v t i b (shape.Int k) e h = absurd (cc)
  of-shape c v t i b (shape.Pointer to) e h = absurd (cc)
  of-shape c v t i b (shape.Array of n) e h = absurd (cc)
  of-shape c v t i b (shape.Func s) e h = absurd (cc)

  pub member-step : (i : ℕ) (a b : PlaceType) → step_into structures (part.Member i) a ≡ Some b → MemberStep i a b
  member-step i (DevicePlace c k) b h = absurd (cc)
  member-step i (FunctionPlace s) b h = absurd (cc)
  member-step i (ObjectPlace c v t) b h = of-shape c v t i b (out-Shape t.shape) refl h

  pub index-step : (i : ℕ) (a b : PlaceType) → step_into structures (part.Index i) a ≡ Some b → (is_below i (bound_of a) ≡ true) × (element_of a ≡ Some b)
  index-step i a b h = when-some (is_below i (bound_of a)) (element_of a) b h

-- ---- places whose types may stand in a program

module _ (p : Program) (good : are_structures [] (length p.structures) p.target p.structures ≡ true) where
  abbrev pub HasKind : CType → Type 0
  HasKind t = (known : List Structure) × (is_some (kind_of p.target (extent_with known (length p.structures) p.target) t) ≡ true)

  abbrev pub IsKnown : PlaceType → Type 0
  IsKnown (DevicePlace c i) = Unit {0}
  IsKnown (FunctionPlace s) = Unit {0}
  IsKnown (ObjectPlace c v t) = HasKind t

  array-known : (t of : CType) (n : ℕ) → out-Shape t.shape ≡ shape.Array of n → HasKind t → HasKind of × (n ≤ 65535)
  array-known t of n e h =
      let count = length p.structures in
      let r = elements h.0 count p.target (t.constant || t.volatile) n (kind_of p.target (extent_with h.0 count p.target) of) (subst (λ k. is_some k ≡ true)
      (kind-opens p.target (extent_with h.0 count p.target) t ∙ ap (λ x. qualified_kind (t.constant || t.volatile) (shape_kind p.target (extent_with h.0 count p.target) (parts_kind p.target (extent_with h.0 count p.target) x))) e) h.1) in
      ((h.0, r.0), r.1.1)

  element-known : (c v : Bool) (t : CType) (b : PlaceType) (x : shape.Shape-F Shape CType Sig) → out-Shape t.shape ≡ x → element_shape c v x ≡ Some b → HasKind t → IsKnown b
  element-known c v t b (shape.Array of n) e h k = let same : ObjectPlace c v of ≡ b = cc in subst IsKnown same (array-known t of n e k).0
  element-known c v t b shape.Void e h k = absurd (cc)
  element-known c v t b (shape.Int i) e h k = absurd (cc)
  element-known c v t b (shape.Pointer to) e h k = absurd (cc)
  element-known c v t b (shape.Struct i) e h k = absurd (cc)
  element-known c v t b (shape.Func s) e h k = absurd (cc)

  pub index-known : (a b : PlaceType) → IsKnown a → element_of a ≡ Some b → IsKnown b
  index-known (DevicePlace c i) b k h = absurd (cc)
  index-known (FunctionPlace s) b k h = absurd (cc)
  index-known (ObjectPlace c v t) b k h = element-known c v t b (out-Shape t.shape) refl h k

  pub member-known : (i : ℕ) (a b : PlaceType) → MemberStep p.structures i a b → IsKnown b
  member-known i a b s =
      let m = all-at (is_member (take s.structure p.structures) (length p.structures) p.target) s.found.members i s.member (members-of (length p.structures) p.target p.structures good s.structure s.found s.there) s.among in
      subst IsKnown (sym s.typed) (take s.structure p.structures, some-kind (kind_of p.target (extent_with (take s.structure p.structures) (length p.structures) p.target) s.member.1) m)

  bound-known : (t : CType) (n : ℕ) (x : shape.Shape-F Shape CType Sig) → out-Shape t.shape ≡ x → bound_shape x ≡ Some n → HasKind t → n ≤ 65535
  bound-known t n (shape.Array of k) e h g = let same : k ≡ n = cc in subst (λ m. m ≤ 65535) same (array-known t of k e g).1
  bound-known t n shape.Void e h g = absurd (cc)
  bound-known t n (shape.Int i) e h g = absurd (cc)
  bound-known t n (shape.Pointer to) e h g = absurd (cc)
  bound-known t n (shape.Struct i) e h g = absurd (cc)
  bound-known t n (shape.Func s) e h g = absurd (cc)

  pub bound-few : (a : PlaceType) (n : ℕ) → IsKnown a → bound_of a ≡ Some n → n ≤ 65535
  bound-few (DevicePlace c i) n k h = absurd (cc)
  bound-few (FunctionPlace s) n k h = absurd (cc)
  bound-few (ObjectPlace c v t) n k h = bound-known t n (out-Shape t.shape) refl h k

  pub below-few : (a : PlaceType) (i : ℕ) → IsKnown a → is_below i (bound_of a) ≡ true → i ≤ 2 ^ 63 - 1
  below-few a i k h = by (bound_of a) refl h where
    less : (i n : ℕ) → n ≤ 65535 → nat_lt i n ≡ true → i ≤ 2 ^ 63 - 1
    less i n l h = grind (arith, nat_tests)

    by : (o : Option ℕ) → bound_of a ≡ o → is_below i o ≡ true → i ≤ 2 ^ 63 - 1
    by None e h = absurd (true≢false (sym h))
    by (Some n) e h = less i n (bound-few a n k e) h

-- ---- structures in order

pub in-order : (p : Program) → IsSound p → IsInOrder p.structures
in-order p h = (structures_sized (length p.structures) p.target p.structures h.structures).in_order

pub complete-object : (p : Program) → IsSound p → (o : Object) → is_object p o ≡ true → is_complete p.structures o.ctype ≡ true
complete-object p h o k = object_complete (length p.structures) p.target p.structures o.ctype (structures_sized (length p.structures) p.target p.structures h.structures) k
