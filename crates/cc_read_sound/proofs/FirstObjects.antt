-- Values for the scalars of an object are first values of one of its type, by induction over the order of the closing braces of structures, and over types.
use Rattle.std.proofs.Common.{◌≡◌, ◌≤◌, ◌+◌, ◌⊎◌, inl, inr, ℕ, zero, suc, Bool, true, false, List, [], ◌∷◌, ◌++◌, map, length, Some, refl, ap, sym, ◌∙◌, subst, arith, append_assoc}
use Rattle.std.specs.Prelude.{ℤ, ◌||◌, nat_lt, slice_get, if◌then◌else◌}
use Rattle.std.specs.List.{list_all}
use Rattle.cc_read_sound.specs.Values.{IsFirst, AreFirst, HasContent, HasContents}
use Rattle.cc_sound_declarations.specs.Scalars.{OneScalar, times, scalars_of}
use Rattle.cc_type.specs.CcInitialisers.Contents.{Contents, contents_over, of_members, members_at, structure_inside, contents}
use Rattle.cc_program.specs.CcNum.Integers.{is_value_of}
use Rattle.cc_program.specs.CcNum.declared.int_type.IntType.{IntType}
use Rattle.cc_type.specs.CcTypedTerms.Primary.{leaves_or_none}
use Rattle.cc_program.proofs.Each.{Each}
use Rattle.cc_program.specs.Qualifiers.{is_const, is_volatile}
use Rattle.cc_program.proofs.TypeInduction.{with_shape, TypeParts, by_type}
use Rattle.cc_program.specs.declared.types.CType.{CType}
use Rattle.cc_program.specs.declared.types.Shape.{Shape, roll-Shape, out-Shape, out-roll-Shape}
use Rattle.cc_program.specs.declared.types.Shape.TheOpen as shape
use Rattle.cc_program.specs.declared.types.Sig.{Sig}
use Rattle.cc_program.specs.declared.types.Structure.{Structure}
use Rattle.cc_program.specs.declared.value.Address.{Address}
use Rattle.cc_program.specs.declared.value.Leaf.{Leaf}
use Rattle.cc_program.specs.declared.value.Leaf.TheVariants as leaf
use Rattle.cc_sound_declarations.proofs.Places.{opened, contents-opens}
use Rattle.cc_type.specs.CcScopes.State.{State, KnownStructure, as_structure, structures_of}
use Rattle.cc_sound_terms.proofs.Completeness.{content_at, members_listed}
use Rattle.cc_sound_terms.specs.Ordered.{is_among, complete_over, is_complete_over, AreOrdered, IsOrdered}
use Rattle.cc_sound_declarations.proofs.Contents.{among_parts, free, all_free, few_listed, parts_over, over-roll, map_length, members_found}
use Rattle.cc_type.proofs.CcSyntax.Prefixes.{both_true}
use Rattle.cc_type.specs.CcSyntax.Initial.{is_zero, is_address, AreLeaves, OfInteger, OfPointer, OfArray, OfStructure, AreElements, NoElement, Element, AreMembers, NoMember, Member, IsInitial}
use Rattle.cc_type.specs.CcSyntax.Types.{Named, is_complete}
use Rattle.cc_type.specs.CcSyntax.Values.{ValueType, Integer, ToObject, ToFunction, pointer_shape, pointer_to}
use Rattle.cc_type.specs.CcSyntax.Views.{View}

append_nothing : {A : Type 0} (xs : List A) → xs ++ [] ≡ xs
append_nothing [] = refl
append_nothing (x ∷ xs) = ap (λ ys. x ∷ ys) (append_nothing xs)

module _ (v : View) where
  -- ---- values for some scalars, and for those behind them

  record IsSplit (xs ys : List OneScalar) (ls : List Leaf) : Type 0 where
    first : List Leaf
    second : List Leaf
    whole : ls ≡ first ++ second
    firsts : AreFirst v xs first
    seconds : AreFirst v ys second

  split : (xs ys : List OneScalar) (ls : List Leaf) → AreFirst v (xs ++ ys) ls → IsSplit xs ys ls
  split [] ys ls h = record { first = []; second = ls; whole = refl; firsts = tt; seconds = h }
  split (x ∷ xs) ys [] h = elim h [ ]
  split (x ∷ xs) ys (l ∷ ls) h =
      let s = split xs ys ls h.1 in
      record { first = l ∷ s.first; second = s.second; whole = ap (λ (zs : List Leaf). l ∷ zs) s.whole; firsts = (h.0, s.firsts); seconds = s.seconds }

  -- ---- a scalar

  record IsInteger (i : IntType) (l : Leaf) : Type 0 where
    number : ℤ
    is : l ≡ leaf.Int number
    fits : is_value_of i v.target number ≡ true

  integer_first : (i : IntType) (l : Leaf) → IsFirst v (Integer i) l → IsInteger i l
  integer_first i (leaf.Int n) h = record { number = n; is = refl; fits = h }
  integer_first i (leaf.Place a) h = elim h [ ]

  record IsPointer (t : ValueType) (l : Leaf) : Type 0 where
    address : Address
    is : l ≡ leaf.Place address
    fits : is_address v t address ≡ true

  object_first : (c w : Bool) (t : CType) (l : Leaf) → IsFirst v (ToObject c w t) l → IsPointer (ToObject c w t) l
  object_first c w t (leaf.Int n) h = elim h [ ]
  object_first c w t (leaf.Place a) h = record { address = a; is = refl; fits = h }

  function_first : (s : Sig) (l : Leaf) → IsFirst v (ToFunction s) l → IsPointer (ToFunction s) l
  function_first s (leaf.Int n) h = elim h [ ]
  function_first s (leaf.Place a) h = record { address = a; is = refl; fits = h }

  pointer_first : (t : CType) (y : shape.Shape-F Shape CType Sig) (l : Leaf) → IsFirst v (pointer_shape t y) l → IsPointer (pointer_shape t y) l
  pointer_first t (shape.Func s) l h = function_first s l h
  pointer_first t shape.Void l h = object_first (is_const t) (is_volatile t) t l h
  pointer_first t (shape.Int i) l h = object_first (is_const t) (is_volatile t) t l h
  pointer_first t (shape.Pointer to) l h = object_first (is_const t) (is_volatile t) t l h
  pointer_first t (shape.Array of n) l h = object_first (is_const t) (is_volatile t) t l h
  pointer_first t (shape.Struct i) l h = object_first (is_const t) (is_volatile t) t l h

  integer_leaves : (t : CType) (i : IntType) (c : Bool) (ls rest : List Leaf) → out-Shape t.shape ≡ shape.Int i → AreFirst v ((c, Integer i) ∷ []) ls → AreLeaves v t (ls ++ rest) rest
  integer_leaves t i c [] rest e h = elim h [ ]
  integer_leaves t i c (l ∷ []) rest e h =
      let g = integer_first i l h.0 in
      subst (λ (x : Leaf). AreLeaves v t (x ∷ rest) rest) (sym g.is) (OfInteger t i g.number rest e g.fits)
  integer_leaves t i c (l ∷ m ∷ ls) rest e h = elim h.1 [ ]

  pointer_leaves : (t to : CType) (c : Bool) (ls rest : List Leaf) → out-Shape t.shape ≡ shape.Pointer to → AreFirst v ((c, pointer_to to) ∷ []) ls → AreLeaves v t (ls ++ rest) rest
  pointer_leaves t to c [] rest e h = elim h [ ]
  pointer_leaves t to c (l ∷ []) rest e h =
      let g = pointer_first to (out-Shape to.shape) l h.0 in
      subst (λ (x : Leaf). AreLeaves v t (x ∷ rest) rest) (sym g.is) (OfPointer t to g.address rest e g.fits)
  pointer_leaves t to c (l ∷ m ∷ ls) rest e h = elim h.1 [ ]

  no_leaves : (ls : List Leaf) → AreFirst v [] ls → ls ≡ []
  no_leaves [] h = refl
  no_leaves (l ∷ ls) h = elim h [ ]

  -- ---- elements and members

  joined : (ls first second rest : List Leaf) → ls ≡ first ++ second → ls ++ rest ≡ first ++ (second ++ rest)
  joined ls first second rest e = ap (λ (zs : List Leaf). zs ++ rest) e ∙ append_assoc first second rest

  abbrev Leaved : CType → List OneScalar → Type 0
  Leaved t ss = (ls rest : List Leaf) → AreFirst v ss ls → AreLeaves v t (ls ++ rest) rest

  elements : (of : CType) (ss : List OneScalar) → Leaved of ss → (n : ℕ) (ls rest : List Leaf) → AreFirst v (times n ss) ls → AreElements v of n (ls ++ rest) rest
  elements of ss f zero ls rest h = subst (λ (zs : List Leaf). AreElements v of 0 (zs ++ rest) rest) (sym (no_leaves ls h)) (NoElement of rest)
  elements of ss f (suc n) ls rest h =
      let s = split ss (times n ss) ls h in
      subst (λ (zs : List Leaf). AreElements v of (suc n) zs rest) (sym (joined ls s.first s.second rest s.whole))
      (Element of n (s.first ++ (s.second ++ rest)) (s.second ++ rest) rest (f s.first (s.second ++ rest) s.firsts) (elements of ss f n s.second rest s.seconds))

  module _ (some : List Structure) where
    -- of objects of structures with these numbers, where so many may nest
    abbrev Good : List ℕ → ℕ → Type 0
    Good front n = (j : ℕ) → is_among front j ≡ true → (d : ℕ) → n ≤ d → (c : Bool) (t : CType) → out-Shape t.shape ≡ shape.Struct j → Leaved t (scalars_of (structure_inside some d j c))

    module _ (front : List ℕ) (n : ℕ) (good : Good front n) where
      -- of types that are complete over them
      abbrev GoodType : CType → Type 0
      GoodType t = is_complete_over front t ≡ true → (d : ℕ) → n ≤ d → (c : Bool) → Leaved t (scalars_of (contents_over (structure_inside some d) t c))

      opened_good : (x : shape.Shape-F Shape CType Sig) → TypeParts GoodType (λ s. Unit {0}) x → complete_over front (parts_over front x) ≡ true → (t : CType) → out-Shape t.shape ≡ x → (d : ℕ) → n ≤ d → (c : Bool) →
          Leaved t (scalars_of (opened (structure_inside some d) x c))
      opened_good shape.Void h k t e d p c ls rest a = absurd (cc)
      opened_good (shape.Int i) h k t e d p c ls rest a = integer_leaves t i c ls rest e a
      opened_good (shape.Pointer to) h k t e d p c ls rest a = pointer_leaves t to c ls rest e a
      opened_good (shape.Array of m) h k t e d p c ls rest a =
          OfArray t of m (ls ++ rest) rest e
          (elements of (scalars_of (contents_over (structure_inside some d) of c)) (h (both_true (nat_lt 0 m) (is_complete_over front of) k).1 d p c) m ls rest a)
      opened_good (shape.Struct i) h k t e d p c ls rest a = good i k d p c t e ls rest a
      opened_good (shape.Func s) h k t e d p c ls rest a = absurd (cc)

      level : (c0 v0 : Bool) (x : shape.Shape-F Shape CType Sig) → TypeParts GoodType (λ s. Unit {0}) x → GoodType (with_shape c0 v0 (roll-Shape x))
      level c0 v0 x h k d p c ls rest a =
          let t = with_shape c0 v0 (roll-Shape x) in
          let e = out-roll-Shape x in
          let same : contents_over (structure_inside some d) t c ≡ opened (structure_inside some d) x (c || c0) = contents-opens (structure_inside some d) t c ∙ ap (λ y. opened (structure_inside some d) y (c || c0)) e in
          opened_good x h (sym (over-roll front c0 v0 x) ∙ k) t e d p (c || c0) ls rest (subst (λ (z : Contents). AreFirst v (scalars_of z) ls) same a)

      types_good : (t : CType) → GoodType t
      types_good = by_type GoodType (λ s. Unit {0}) level (λ x h. tt)

      members_good : (ms : List Named) → Each (λ m. is_complete_over front m.1 ≡ true) ms → (d : ℕ) → n ≤ d → (c : Bool) (ls rest : List Leaf) →
          AreFirst v (scalars_of (of_members (map (λ m. contents_over (structure_inside some d) m.1) ms) c)) ls → AreMembers v ms (ls ++ rest) rest
      members_good [] h d p c ls rest a = subst (λ (zs : List Leaf). AreMembers v [] (zs ++ rest) rest) (sym (no_leaves ls a)) (NoMember rest)
      members_good (m ∷ ms) h d p c ls rest a =
          let s = split (scalars_of (contents_over (structure_inside some d) m.1 c)) (scalars_of (of_members (map (λ m. contents_over (structure_inside some d) m.1) ms) c)) ls a in
          subst (λ (zs : List Leaf). AreMembers v (m ∷ ms) zs rest) (sym (joined ls s.first s.second rest s.whole))
          (Member m ms (s.first ++ (s.second ++ rest)) (s.second ++ rest) rest (types_good m.1 h.0 d p c s.first (s.second ++ rest) s.firsts) (members_good ms h.1 d p c s.second rest s.seconds))

      -- one structure more
      next_good : (i : ℕ) (ms : List Named) → members_at (slice_get some i) ≡ ms → HasContent v i ms → Each (λ m. is_complete_over front m.1 ≡ true) ms → (d : ℕ) → suc n ≤ d → (c : Bool) (t : CType) → out-Shape t.shape ≡ shape.Struct i →
          Leaved t (scalars_of (structure_inside some d i c))
      next_good i ms e w h zero p c t f ls rest a = absurd (omega arith)
      next_good i ms e w h (suc d) p c t f ls rest a =
          let q : n ≤ d = omega arith in
          let given = subst (λ (l : List Named). AreFirst v (scalars_of (of_members (map (λ m. contents_over (structure_inside some d) m.1) l) c)) ls) e a in
          OfStructure t i w.0 (ls ++ rest) rest f w.1 (subst (λ (l : List Named). AreMembers v l (ls ++ rest) rest) (sym w.2) (members_good ms h d q c ls rest given))

      one_more : (i : ℕ) (ms : List Named) → members_at (slice_get some i) ≡ ms → HasContent v i ms → Each (λ m. is_complete_over front m.1 ≡ true) ms → Good (front ++ i ∷ []) (suc n)
      one_more i ms e w h j k d p c t f = of_place (among_parts front i j k)
        where
          of_place : (is_among front j ≡ true) ⊎ (j ≡ i) → Leaved t (scalars_of (structure_inside some d j c))
          of_place (inl g) = let q : n ≤ d = omega arith in good j g d q c t f
          of_place (inr g) =
              subst (λ (k : ℕ). Leaved t (scalars_of (structure_inside some d k c))) (sym g) (next_good i ms e w h d p c t (f ∙ ap shape.Struct g))

  -- ---- states

  ordered_good : (xs : List KnownStructure) → HasContents v xs → (front rest : List ℕ) (n : ℕ) → Good (map as_structure xs) front n → AreOrdered xs front rest → Good (map as_structure xs) (front ++ rest) (n + length rest)
  ordered_good xs w front [] n g h =
      let e : n + 0 ≡ n = omega arith in
      subst (λ (k : ℕ). Good (map as_structure xs) (front ++ []) k) (sym e) (subst (λ (f : List ℕ). Good (map as_structure xs) f n) (sym (append_nothing front)) g)
  ordered_good xs w front (i ∷ rest) n g h =
      let more = one_more (map as_structure xs) front n g i h.0.members (members_found xs i h.0.members h.0.there) (w i h.0.members h.0.there) h.0.complete in
      let e : n + suc (length rest) ≡ suc n + length rest = omega arith in
      subst (λ (k : ℕ). Good (map as_structure xs) (front ++ i ∷ rest) k) (sym e)
      (subst (λ (f : List ℕ). Good (map as_structure xs) f (suc n + length rest)) (append_assoc front (i ∷ []) rest)
      (ordered_good xs w (front ++ i ∷ []) rest (suc n) more h.1))

  nothing_good : (some : List Structure) → Good some [] 0
  nothing_good some j h d p c t e ls rest a = absurd (cc)

  pub object_leaves : (s : State) (u : CType) → HasContents v s.structures → IsOrdered s → is_complete (structures_of s) u ≡ true → (ls : List Leaf) → AreFirst v (scalars_of (contents (structures_of s) u false)) ls → AreLeaves v u ls []
  object_leaves s u w o h ls a =
      let n = length s.completed in
      let good = ordered_good s.structures w [] s.completed 0 (nothing_good (structures_of s)) o.order in
      let over = (members_listed (structures_of s) s.completed (λ i k. let c = content_at s.structures i k in o.listed i c.0 c.1) (([], u) ∷ []) (h, tt)).0 in
      let few = few_listed s.structures [] s.completed o.order in
      let all = all_free (length s.structures) in
      let same = map_length s.structures in
      let p : 0 + n ≤ length (structures_of s) = omega (arith, few, all, same) in
      subst (λ (zs : List Leaf). AreLeaves v u zs []) (append_nothing ls)
      (types_good (structures_of s) s.completed (0 + n) good u over (length (structures_of s)) p false ls [] a)

  -- ---- none are kept where all are zero or null

  pub kept_if : (u : CType) (ls : List Leaf) (b : Bool) → list_all is_zero ls ≡ b → AreLeaves v u ls [] → IsInitial v u (if b then [] else ls)
  kept_if u ls true e h = inl refl
  kept_if u ls false e h = inr (h, e)

  pub object_initial : (s : State) (u : CType) → HasContents v s.structures → IsOrdered s → is_complete (structures_of s) u ≡ true → (ls : List Leaf) → AreFirst v (scalars_of (contents (structures_of s) u false)) ls → IsInitial v u (leaves_or_none ls)
  object_initial s u w o h ls a = kept_if u ls (list_all is_zero ls) refl (object_leaves s u w o h ls a)
