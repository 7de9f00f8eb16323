-- How many scalars an object has: as many as it has places of scalars, and no fewer where more structures are declared and completed (C99 6.2.5, 20; 6.7.2.3).
use Rattle.std.proofs.Common.{◌≡◌, ◌≤◌, ◌+◌, ◌⊎◌, inl, inr, ℕ, zero, suc, Bool, ◌||◌, List, [], ◌∷◌, map, length, Option, Some, None, refl, ap, ◌∙◌, arith, length-append}
use Rattle.std.specs.Prelude.{slice_get, option_map}
use Rattle.std.proofs.lemmas.Option.{slice_get-map}
use Rattle.cc_type.specs.CcInitialisers.Contents.{Contents, Scalar, Elements, NoMember, Members, Inside, contents_over, of_members, members_at, structure_inside, contents}
use Rattle.cc_type.specs.CcInitialisers.Scalars.{index_at, elements_from, scalars_from}
use Rattle.cc_program.specs.CcNum.declared.target.Target.{Target}
use Rattle.cc_program.proofs.TypeInduction.{with_shape, TypeParts, by_type}
use Rattle.cc_program.specs.declared.expr.Place.{Place, Element, Member}
use Rattle.cc_program.specs.declared.types.CType.{CType}
use Rattle.cc_program.specs.declared.types.Shape.{Shape, roll-Shape, out-roll-Shape}
use Rattle.cc_program.specs.declared.types.Shape.TheOpen as shape
use Rattle.cc_program.specs.declared.types.Sig.{Sig}
use Rattle.cc_type.specs.CcScopes.State.{State, KnownStructure, members_or_none, as_structure, structures_of}
use Rattle.cc_sound_declarations.specs.Scalars.{OneScalar, times, scalars_of}
use Rattle.cc_sound_declarations.proofs.Places.{opened, contents-opens}
use Rattle.cc_sound_terms.specs.Growing.{StructuresKept}
use Rattle.cc_type.specs.CcSyntax.Types.{Named}

abbrev repeated : ℕ → ℕ → ℕ
repeated zero w = 0
repeated (suc n) w = w + repeated n w

abbrev pub width : Contents → ℕ
width (Scalar constant t) = 1
width (Elements n of) = repeated n (width of)
width NoMember = 0
width (Members first rest) = width first + width rest

-- ---- scalars, and their places

times_width : (n : ℕ) (xs : List OneScalar) (w : ℕ) → length xs ≡ w → length (times n xs) ≡ repeated n w
times_width zero xs w h = refl
times_width (suc n) xs w h = let e = times_width n xs w h in let f = length-append xs (times n xs) in omega (arith, e, f, h)

pub scalars_width : (c : Contents) → length (scalars_of c) ≡ width c
scalars_width (Scalar constant t) = refl
scalars_width (Elements n of) = times_width n (scalars_of of) (width of) (scalars_width of)
scalars_width NoMember = refl
scalars_width (Members first rest) =
    let e = scalars_width first in
    let f = scalars_width rest in
    let g = length-append (scalars_of first) (scalars_of rest) in
    omega (arith, e, f, g)

module _ (target : Target) where
  elements_width : (of : Place → List Place) (w : ℕ) → ((a : Place) → length (of a) ≡ w) → (i n : ℕ) (a : Place) → length (elements_from target i n of a) ≡ repeated n w
  elements_width of w f i zero a = refl
  elements_width of w f i (suc n) a =
      let e = elements_width of w f (suc i) n a in
      let g = f (Element a (index_at target i)) in
      let h = length-append (of (Element a (index_at target i))) (elements_from target (suc i) n of a) in
      omega (arith, e, g, h)

  pub places_width : (c : Contents) (m : ℕ) (a : Place) → length (scalars_from target c m a) ≡ width c
  places_width (Scalar constant t) m a = refl
  places_width (Elements n of) m a = elements_width (scalars_from target of 0) (width of) (places_width of 0) 0 n a
  places_width NoMember m a = refl
  places_width (Members first rest) m a =
      let e = places_width first 0 (Member a m) in
      let f = places_width rest (suc m) a in
      let g = length-append (scalars_from target first 0 (Member a m)) (scalars_from target rest (suc m) a) in
      omega (arith, e, f, g)

-- ---- types

repeated_less : (n a b : ℕ) → a ≤ b → repeated n a ≤ repeated n b
repeated_less zero a b h = omega arith
repeated_less (suc n) a b h = let k = repeated_less n a b h in omega (arith, h, k)

less_as : (a b c d : Contents) → a ≡ c → b ≡ d → width c ≤ width d → width a ≤ width b
less_as a b c d e f h = let i = ap width e in let j = ap width f in omega (arith, i, j, h)

module _ (some all : ℕ → Inside) (less : (j : ℕ) (c : Bool) → width (some j c) ≤ width (all j c)) where
  abbrev NoWider : CType → Type 0
  NoWider t = (c : Bool) → width (contents_over some t c) ≤ width (contents_over all t c)

  shape_less : (x : shape.Shape-F Shape CType Sig) → TypeParts NoWider (λ s. Unit {0}) x → (c : Bool) → width (opened some x c) ≤ width (opened all x c)
  shape_less shape.Void h c = omega arith
  shape_less (shape.Int t) h c = omega arith
  shape_less (shape.Pointer to) h c = omega arith
  shape_less (shape.Array of n) h c = repeated_less n (width (contents_over some of c)) (width (contents_over all of c)) (h c)
  shape_less (shape.Struct i) h c = less i c
  shape_less (shape.Func f) h c = omega arith

  level : (constant volatile : Bool) (x : shape.Shape-F Shape CType Sig) → TypeParts NoWider (λ s. Unit {0}) x → NoWider (with_shape constant volatile (roll-Shape x))
  level constant volatile x h c =
      let t = with_shape constant volatile (roll-Shape x) in
      less_as (contents_over some t c) (contents_over all t c) (opened some x (c || constant)) (opened all x (c || constant))
      (contents-opens some t c ∙ ap (λ y. opened some y (c || constant)) (out-roll-Shape x))
      (contents-opens all t c ∙ ap (λ y. opened all y (c || constant)) (out-roll-Shape x)) (shape_less x h (c || constant))

  types_less : (t : CType) → NoWider t
  types_less = by_type NoWider (λ s. Unit {0}) level (λ x h. tt)

  members_less : (ms : List Named) (c : Bool) → width (of_members (map (λ m. contents_over some m.1) ms) c) ≤ width (of_members (map (λ m. contents_over all m.1) ms) c)
  members_less [] c = omega arith
  members_less (m ∷ ms) c = let a = types_less m.1 c in let b = members_less ms c in omega (arith, a, b)

-- ---- structures

no_shorter : (xs ys : List KnownStructure) → StructuresKept xs ys → length xs ≤ length ys
no_shorter [] ys kept = omega arith
no_shorter (x ∷ xs) [] kept = let l = kept 0 x refl in let e = l.1 in absurd (cc)
no_shorter (x ∷ xs) (y ∷ ys) kept = let l = no_shorter xs ys (λ i k e. kept (suc i) k e) in omega (arith, l)

map_length : (xs : List KnownStructure) → length (map as_structure xs) ≡ length xs
map_length [] = refl
map_length (x ∷ xs) = ap suc (map_length xs)

abbrev members_in : List KnownStructure → ℕ → List Named
members_in xs j = members_at (slice_get (map as_structure xs) j)

there : (xs : List KnownStructure) (j : ℕ) (k : KnownStructure) (ms : Option (List Named)) → slice_get xs j ≡ Some k → k.members ≡ ms → members_in xs j ≡ members_or_none ms
there xs j k ms e f = ap members_at (slice_get-map as_structure xs j ∙ ap (option_map as_structure) e) ∙ ap members_or_none f

module _ (xs ys : List KnownStructure) (kept : StructuresKept xs ys) where
  members_kept : (j : ℕ) → (members_in xs j ≡ []) ⊎ ((ms : List Named) × (members_in xs j ≡ ms) × (members_in ys j ≡ ms))
  members_kept j = of_entry (slice_get xs j) refl
    where
      of_members_of : (k : KnownStructure) → slice_get xs j ≡ Some k → (o : Option (List Named)) → k.members ≡ o → (members_in xs j ≡ []) ⊎ ((ms : List Named) × (members_in xs j ≡ ms) × (members_in ys j ≡ ms))
      of_members_of k e None f = inl (there xs j k None e f)
      of_members_of k e (Some ms) f = let l = kept j k e in inr (ms, there xs j k (Some ms) e f, there ys j l.0 (Some ms) l.1 (l.2.members ms f))

      of_entry : (o : Option KnownStructure) → slice_get xs j ≡ o → (members_in xs j ≡ []) ⊎ ((ms : List Named) × (members_in xs j ≡ ms) × (members_in ys j ≡ ms))
      of_entry None e = inl (ap members_at (slice_get-map as_structure xs j ∙ ap (option_map as_structure) e))
      of_entry (Some k) e = of_members_of k e k.members refl

  abbrev inner : List KnownStructure → ℕ → List Named → Bool → Contents
  inner zs d ms c = of_members (map (λ m. contents_over (structure_inside (map as_structure zs) d) m.1) ms) c

  next_less : (d e : ℕ) → ((j : ℕ) (c : Bool) → width (structure_inside (map as_structure xs) d j c) ≤ width (structure_inside (map as_structure ys) e j c)) → (j : ℕ) (c : Bool) →
      (members_in xs j ≡ []) ⊎ ((ms : List Named) × (members_in xs j ≡ ms) × (members_in ys j ≡ ms)) → width (inner xs d (members_in xs j) c) ≤ width (inner ys e (members_in ys j) c)
  next_less d e less j c (inl f) = let g : width (inner xs d (members_in xs j) c) ≡ 0 = ap (λ (ms : List Named). width (inner xs d ms c)) f in omega (arith, g)
  next_less d e less j c (inr k) =
      less_as (inner xs d (members_in xs j) c) (inner ys e (members_in ys j) c) (inner xs d k.0 c) (inner ys e k.0 c) (ap (λ (ms : List Named). inner xs d ms c) k.1) (ap (λ (ms : List Named). inner ys e ms c) k.2)
      (members_less (structure_inside (map as_structure xs) d) (structure_inside (map as_structure ys) e) less k.0 c)

  inside_less : (d e : ℕ) → d ≤ e → (j : ℕ) (c : Bool) → width (structure_inside (map as_structure xs) d j c) ≤ width (structure_inside (map as_structure ys) e j c)
  inside_less zero e l j c = omega arith
  inside_less (suc d) zero l j c = absurd (omega arith)
  inside_less (suc d) (suc e) l j c = let fewer : d ≤ e = omega arith in next_less d e (inside_less d e fewer) j c (members_kept j)

pub contents_less : (s t : State) → StructuresKept s.structures t.structures → (u : CType) (c : Bool) → width (contents (structures_of s) u c) ≤ width (contents (structures_of t) u c)
contents_less s t kept u c =
    let a = map_length s.structures in
    let b = map_length t.structures in
    let l = no_shorter s.structures t.structures kept in
    let few : length (structures_of s) ≤ length (structures_of t) = omega (arith, a, b, l) in
    types_less (structure_inside (structures_of s) (length (structures_of s))) (structure_inside (structures_of t) (length (structures_of t)))
    (inside_less s.structures t.structures kept (length (structures_of s)) (length (structures_of t)) few) u c
