-- The places of scalars are typed, by induction over how deep structures nest, and over types.
use Rattle.std.proofs.Common.{◌≡◌, ◌≤◌, ◌<◌, ◌^◌, ◌+◌, ℕ, zero, suc, pos, Bool, true, false, ◌&&◌, ◌||◌, List, [], ◌∷◌, ◌++◌, map, length, Option, Some, None, refl, ap, sym, ◌∙◌, subst, arith, leb-true, lt-ltb}
use Rattle.std.specs.Prelude.{◌*◌, nat_le, nat_lt, slice_get, if◌then◌else◌}
use Rattle.cc_sound_declarations.specs.Scalars.{OneScalar, times, scalars_of}
use Rattle.cc_typed_bodies.specs.CcInitialisers.Contents.{Contents, Scalar, Elements, NoMember, ShapeInside, Inside, shape_inside, type_inside, contents_over, of_members, members_at, structure_inside, contents}
use Rattle.cc_typed_bodies.specs.CcInitialisers.Scalars.{decimal, index_at, elements_from, scalars_from}
use Rattle.cc_typed_bodies.specs.CcOperands.Operands.{integer, number_type}
use Rattle.cc_operand_types.specs.Typed.{is_pointed_kind, MembersStand}
use Rattle.cc_operand_types.proofs.Literals.{number_fits}
use Rattle.cc_operand_types.proofs.Operands.{as_constant, integer_as}
use Rattle.cc_operand_types.proofs.Requalified.{kind_at}
use Rattle.cc_operand_types.proofs.Rolls.{place-Element, place-Member}
use Rattle.cc_operand_types.proofs.Standing.{element_stands, scalar_stands}
use Rattle.cc_program.specs.Qualifiers.{is_const, is_volatile, of_element}
use Rattle.cc_program.proofs.QualifierLemmas.{parts_const, const-opens}
use Rattle.cc_program.proofs.TypeInduction.{with_shape, TypeParts, by_type}
use Rattle.cc_program.specs.declared.expr.Place.{Place, Element, Member}
use Rattle.cc_program.specs.declared.types.CType.{CType, fold-CType, fold_out-CType}
use Rattle.cc_program.specs.declared.types.Shape.{Shape, roll-Shape, out-Shape, out-roll-Shape, map-Shape, fold-Shape, fold_out-Shape}
use Rattle.cc_program.specs.declared.types.Shape.TheOpen as shape
use Rattle.cc_program.specs.declared.types.Sig.{Sig, fold-Sig}
use Rattle.cc_program.specs.declared.types.Structure.{Structure}
use Rattle.cc_sound_terms.proofs.Within.{AreWithin}
use Rattle.cc_typed_bodies.specs.CcSyntax.Kinds.{Kind, IsArray, array_kind, bytes_in, is_small, qualified_kind, shape_kind}
use Rattle.cc_typed_bodies.specs.CcSyntax.Types.{Named}
use Rattle.cc_typed_bodies.specs.CcSyntax.Values.{ValueType, Integer, ObjectPlace, pointer_to, scalar_value, scalar_shape, element_shape, member_shape, member_in, member_at}
use Rattle.cc_typed_bodies.specs.CcSyntax.Views.{View, kind_in}
use Rattle.cc_typed_bodies.specs.CcSyntax.Expressions.{type_of, place_type}
use Rattle.cc_sound_declarations.specs.Places.{ArePlaces}

-- ---- what an object of a type consists of, by its shape

module _ (inside : ℕ → Inside) where
  abbrev pub opened : shape.Shape-F Shape CType Sig → Bool → Contents
  opened shape.Void c = NoMember
  opened (shape.Int t) c = Scalar c (Integer t)
  opened (shape.Pointer to) c = Scalar c (pointer_to to)
  opened (shape.Array of n) c = Elements n (contents_over inside of c)
  opened (shape.Struct i) c = inside i c
  opened (shape.Func s) c = NoMember

  abbrev parts_inside : shape.Shape-F Shape CType Sig → shape.Shape-F ShapeInside (CType → Inside) (Unit {0})
  parts_inside x = map-Shape Shape CType Sig ShapeInside (CType → Inside) (Unit {0})
      (fold-Shape ShapeInside (CType → Inside) (Unit {0}) (shape_inside inside) (type_inside inside) (λ s. tt))
      (fold-CType ShapeInside (CType → Inside) (Unit {0}) (shape_inside inside) (type_inside inside) (λ s. tt))
      (fold-Sig ShapeInside (CType → Inside) (Unit {0}) (shape_inside inside) (type_inside inside) (λ s. tt)) x

  shape-opens : (x : shape.Shape-F Shape CType Sig) (c : Bool) → shape_inside inside (parts_inside x) x c ≡ opened x c
  unfolding contents_over
  shape-opens shape.Void c = refl
  shape-opens (shape.Int t) c = refl
  shape-opens (shape.Pointer to) c = refl
  shape-opens (shape.Array of n) c = refl
  shape-opens (shape.Struct i) c = refl
  shape-opens (shape.Func s) c = refl

  pub contents-opens : (t : CType) (constant : Bool) → contents_over inside t constant ≡ opened (out-Shape t.shape) (constant || t.constant)
  unfolding contents_over
  contents-opens t constant =
      ap (λ (f : CType → Inside). f t constant) (fold_out-CType ShapeInside (CType → Inside) (Unit {0}) (shape_inside inside) (type_inside inside) (λ s. tt) t)
      ∙ ap (λ (f : ShapeInside). f (out-Shape t.shape) (constant || t.constant)) (fold_out-Shape ShapeInside (CType → Inside) (Unit {0}) (shape_inside inside) (type_inside inside) (λ s. tt) t.shape)
      ∙ shape-opens (out-Shape t.shape) (constant || t.constant)

-- ---- flags and numbers

or_nothing : (a b : Bool) → (a || (b || false)) ≡ (a || b)
or_nothing true b = refl
or_nothing false true = refl
or_nothing false false = refl

or_joined : (a b c : Bool) → (a || (b || c)) ≡ ((a || b) || c)
or_joined true b c = refl
or_joined false b c = refl

bound_if : (a b : Bool) (q : Bool) (r : Bool) (size : ℕ) → is_pointed_kind false (qualified_kind q (if a && (b && r) then Some (IsArray size) else None)) ≡ true → b ≡ true
bound_if true true q r size h = refl
bound_if true false q r size h = absurd (cc)
bound_if false b q r size h = absurd (cc)

bound_small : (q : Bool) (n : ℕ) (o : Option ℕ) → is_pointed_kind false (qualified_kind q (array_kind n o)) ≡ true → nat_le n 65535 ≡ true
bound_small q n None h = absurd (cc)
bound_small q n (Some size) h = bound_if (nat_le 1 n) (nat_le n 65535) q (is_small size) (n * size) h

one_is : {A : Type 0} (a b : A) → Some a ≡ Some b → a ≡ b
one_is a b h = cc

module _ (v : View) (locals : List Named) where
  abbrev All : List OneScalar → List Place → Type 0
  All ss xs = ArePlaces v locals ss xs

  -- a place of an object of this type
  abbrev IsAt : Place → Bool → Bool → CType → Type 0
  IsAt a c w t = place_type v locals a ≡ Some (ObjectPlace c w t)

  both_places : (ss ts : List OneScalar) (xs ys : List Place) → All ss xs → All ts ys → All (ss ++ ts) (xs ++ ys)
  both_places [] ts [] ys h k = k
  both_places (s ∷ ss) ts (x ∷ xs) ys h k = (h.0, both_places ss ts xs ys h.1 k)
  both_places [] ts (x ∷ xs) ys h k = elim h [ ]
  both_places (s ∷ ss) ts [] ys h k = elim h [ ]

  array_bound : (q : Bool) (n : ℕ) (o : Option Kind) → is_pointed_kind false (qualified_kind q (shape_kind v.target v.extents (shape.Array o n))) ≡ true → nat_le n 65535 ≡ true
  array_bound q n None h = absurd (cc)
  array_bound q n (Some k) h = bound_small q n (bytes_in k) h

  -- ---- elements

  index_typed : (i : ℕ) → i < 2 ^ 64 → type_of v locals (index_at v.target i) ≡ Some (Integer (number_type v.target i decimal))
  index_typed i h =
      integer_as v locals (integer (pos i) (number_type v.target i decimal)) (number_type v.target i decimal)
      (as_constant v locals (pos i) (number_type v.target i decimal) (number_fits v.target i decimal h)) refl

  element_at : (a : Place) (c w : Bool) (t of : CType) (n i : ℕ) → out-Shape t.shape ≡ shape.Array of n → IsAt a c w t → i < 2 ^ 64 → IsAt (Element a (index_at v.target i)) c w of
  element_at a c w t of n i e h l =
      place-Element v locals a (index_at v.target i) (ObjectPlace c w t) (Integer (number_type v.target i decimal)) (Some (ObjectPlace c w of)) h (index_typed i l)
      (ap (element_shape c w) e)

  elements_good : (of : Contents) (scalars : Place → List Place) (a : Place) → ((i : ℕ) → i < 2 ^ 64 → All (scalars_of of) (scalars (Element a (index_at v.target i)))) → (i m : ℕ) → i + m ≤ 65535 →
      All (times m (scalars_of of)) (elements_from v.target i m scalars a)
  elements_good of scalars a f i zero h = tt
  elements_good of scalars a f i (suc m) h =
      let l : i < 2 ^ 64 = omega arith in
      let n : suc i + m ≤ 65535 = omega arith in
      both_places (scalars_of of) (times m (scalars_of of)) (scalars (Element a (index_at v.target i))) (elements_from v.target (suc i) m scalars a) (f i l) (elements_good of scalars a f (suc i) m n)

  -- ---- types

  module _ (inside : ℕ → Inside) where
    abbrev Good : CType → Type 0
    Good t = (constant : Bool) (a : Place) (c w : Bool) → is_pointed_kind false (kind_in v t) ≡ true → IsAt a c w t → c ≡ (constant || is_const t) →
        All (scalars_of (contents_over inside t constant)) (scalars_from v.target (contents_over inside t constant) 0 a)

    abbrev GoodInside : Type 0
    GoodInside = (i : ℕ) (t : CType) (constant : Bool) (a : Place) (w : Bool) → out-Shape t.shape ≡ shape.Struct i → IsAt a constant w t → All (scalars_of (inside i constant)) (scalars_from v.target (inside i constant) 0 a)

    one_scalar : (t : CType) (r : ValueType) (a : Place) (c w : Bool) → is_pointed_kind false (kind_in v t) ≡ true → IsAt a c w t → scalar_value t ≡ Some r → All ((c, r) ∷ []) (a ∷ [])
    one_scalar t r a c w k h e = (record { volatile = w; ctype = t; place = h; value = e; standing = scalar_stands v false t r k e }, tt)

    same_flag : (a : Place) (c d w : Bool) (t : CType) → c ≡ d → IsAt a c w t → IsAt a d w t
    same_flag a c d w t e h = subst (λ (b : Bool). IsAt a b w t) e h

    opened_good : GoodInside → (x : shape.Shape-F Shape CType Sig) → TypeParts Good (λ s. Unit {0}) x → (t : CType) → out-Shape t.shape ≡ x → (constant : Bool) (a : Place) (c w : Bool) → is_pointed_kind false (kind_in v t) ≡ true → IsAt a c w t →
        c ≡ (constant || (t.constant || of_element (parts_const x))) → All (scalars_of (opened inside x (constant || t.constant))) (scalars_from v.target (opened inside x (constant || t.constant)) 0 a)
    opened_good gi shape.Void h t e constant a c w k p f = tt
    opened_good gi (shape.Int i) h t e constant a c w k p f =
        one_scalar t (Integer i) a (constant || t.constant) w k (same_flag a c (constant || t.constant) w t (f ∙ or_nothing constant t.constant) p) (ap scalar_shape e)
    opened_good gi (shape.Pointer to) h t e constant a c w k p f =
        one_scalar t (pointer_to to) a (constant || t.constant) w k (same_flag a c (constant || t.constant) w t (f ∙ or_nothing constant t.constant) p) (ap scalar_shape e)
    opened_good gi (shape.Array of n) h t e constant a c w k p f =
        let inner = element_stands v false t of n e k in
        let bound = leb-true n 65535 (array_bound (t.constant || t.volatile) n (kind_in v of) (ap (is_pointed_kind false) (sym (kind_at v t (shape.Array of n) e)) ∙ k)) in
        let l : 0 + n ≤ 65535 = omega arith in
        elements_good (contents_over inside of (constant || t.constant)) (scalars_from v.target (contents_over inside of (constant || t.constant)) 0) a
        (λ i m. h (constant || t.constant) (Element a (index_at v.target i)) c w inner (element_at a c w t of n i e p m) (f ∙ or_joined constant t.constant (is_const of))) 0 n l
    opened_good gi (shape.Struct i) h t e constant a c w k p f = gi i t (constant || t.constant) a w e (same_flag a c (constant || t.constant) w t (f ∙ or_nothing constant t.constant) p)
    opened_good gi (shape.Func s) h t e constant a c w k p f = tt

    level : GoodInside → (c0 v0 : Bool) (x : shape.Shape-F Shape CType Sig) → TypeParts Good (λ s. Unit {0}) x → Good (with_shape c0 v0 (roll-Shape x))
    level gi c0 v0 x h constant a c w k p f =
        let t = with_shape c0 v0 (roll-Shape x) in
        let e = out-roll-Shape x in
        let same : contents_over inside t constant ≡ opened inside x (constant || c0) = contents-opens inside t constant ∙ ap (λ y. opened inside y (constant || c0)) e in
        subst (λ (z : Contents). All (scalars_of z) (scalars_from v.target z 0 a)) (sym same)
        (opened_good gi x h t e constant a c w k p (f ∙ ap (λ (b : Bool). constant || b) (const-opens t ∙ ap (λ y. c0 || of_element (parts_const y)) e)))

    types_good : GoodInside → (t : CType) → Good t
    types_good gi = by_type Good (λ s. Unit {0}) (level gi) (λ x h. tt)

  -- ---- structures, as deep as they nest

  module _ (members : MembersStand v) (some : List Structure) (within : AreWithin some v.structures) where
    member_there : (a : Place) (c w : Bool) (t : CType) (i n : ℕ) (content : Structure) (m : Named) → out-Shape t.shape ≡ shape.Struct i → IsAt a c w t → slice_get v.structures i ≡ Some content → slice_get content.members n ≡ Some m →
        IsAt (Member a n) (c || is_const m.1) (w || is_volatile m.1) m.1
    member_there a c w t i n content m e h at there =
        place-Member v locals a n (ObjectPlace c w t) (Some (ObjectPlace (c || is_const m.1) (w || is_volatile m.1) m.1)) h
        (ap (member_shape v.structures c w n) e ∙ ap (member_in c w n) at ∙ ap (member_at c w) there)

    module _ (inside : ℕ → Inside) (good : (t : CType) → Good inside t) (i : ℕ) (t : CType) (constant : Bool) (a : Place) (w : Bool) (e : out-Shape t.shape ≡ shape.Struct i) (p : IsAt a constant w t) (content : Structure) (at : slice_get v.structures i ≡ Some content) where
      abbrev each : List Named → Contents
      each ms = of_members (map (λ m. contents_over inside m.1) ms) constant

      rest_good : (ms : List Named) (n : ℕ) → ((j : ℕ) (m : Named) → slice_get ms j ≡ Some m → slice_get content.members (n + j) ≡ Some m) → All (scalars_of (each ms)) (scalars_from v.target (each ms) n a)
      rest_good [] n f = tt
      rest_good (m ∷ ms) n f =
          let zero_more : n + 0 ≡ n = omega arith in
          let there = subst (λ (k : ℕ). slice_get content.members k ≡ Some m) zero_more (f 0 m refl) in
          both_places (scalars_of (contents_over inside m.1 constant)) (scalars_of (each ms)) (scalars_from v.target (contents_over inside m.1 constant) 0 (Member a n)) (scalars_from v.target (each ms) (suc n) a)
          (good m.1 constant (Member a n) (constant || is_const m.1) (w || is_volatile m.1) (members i content n m at there) (member_there a constant w t i n content m e p at there) refl)
          (rest_good ms (suc n) (λ j x g. subst (λ (k : ℕ). slice_get content.members k ≡ Some x) (moved n j) (f (suc j) x g)))
        where
          moved : (n j : ℕ) → n + suc j ≡ suc n + j
          moved n j = omega arith

    structure_good : (inside : ℕ → Inside) → ((t : CType) → Good inside t) → (i : ℕ) (t : CType) (constant : Bool) (a : Place) (w : Bool) → out-Shape t.shape ≡ shape.Struct i → IsAt a constant w t → (s : Structure) → slice_get some i ≡ Some s → (ms : List Named) → s.members ≡ ms →
        All (scalars_of (of_members (map (λ m. contents_over inside m.1) ms) constant)) (scalars_from v.target (of_members (map (λ m. contents_over inside m.1) ms) constant) 0 a)
    structure_good inside good i t constant a w e p s g [] f = tt
    structure_good inside good i t constant a w e p s g (m ∷ ms) f =
        let positive : nat_lt 0 (length s.members) ≡ true = ap (λ (l : List Named). nat_lt 0 (length l)) f ∙ lt-ltb 0 (length (m ∷ ms)) (omega arith) in
        let d = within i s g positive in
        rest_good inside good i t constant a w e p d.0 d.1 (m ∷ ms) 0
        (λ j x h. let first : 0 + j ≡ j = omega arith in
        subst (λ (k : ℕ). slice_get d.0.members k ≡ Some x) (sym first) (ap (λ (l : List Named). slice_get l j) (d.2 ∙ f) ∙ h))

    known_good : (inside : ℕ → Inside) → ((t : CType) → Good inside t) → (i : ℕ) (t : CType) (constant : Bool) (a : Place) (w : Bool) → out-Shape t.shape ≡ shape.Struct i → IsAt a constant w t → (o : Option Structure) → slice_get some i ≡ o →
        All (scalars_of (of_members (map (λ m. contents_over inside m.1) (members_at o)) constant)) (scalars_from v.target (of_members (map (λ m. contents_over inside m.1) (members_at o)) constant) 0 a)
    known_good inside good i t constant a w e p None g = tt
    known_good inside good i t constant a w e p (Some s) g = structure_good inside good i t constant a w e p s g s.members refl

    inside_good : (depth : ℕ) → GoodInside (structure_inside some depth)
    inside_good zero i t constant a w e p = tt
    inside_good (suc depth) i t constant a w e p =
        known_good (structure_inside some depth) (types_good (structure_inside some depth) (inside_good depth)) i t constant a w e p (slice_get some i) refl

    pub scalars_placed : (t : CType) (a : Place) (c w : Bool) → is_pointed_kind false (kind_in v t) ≡ true → IsAt a c w t → c ≡ is_const t →
        All (scalars_of (contents some t false)) (scalars_from v.target (contents some t false) 0 a)
    scalars_placed t a c w k p f = types_good (structure_inside some (length some)) (inside_good (length some)) t false a c w k p f
