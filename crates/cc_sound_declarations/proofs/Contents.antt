-- What an object consists of is told by the structures that are complete: structures nest no deeper than there are some, by induction over the order of their closing braces.
use Rattle.std.proofs.Common.{◌≡◌, ◌≤◌, ◌<◌, ◌+◌, ◌⊎◌, inl, inr, ℕ, zero, suc, Bool, true, false, ◌||◌, List, [], ◌∷◌, ◌++◌, map, length, Some, refl, ap, sym, ◌∙◌, subst, arith, eqb-true, eq-eqb, append_assoc}
use Rattle.std.specs.Prelude.{nat_eq, nat_lt, slice_get, option_map}
use Rattle.std.proofs.lemmas.Option.{slice_get-map}
use Rattle.cc_typed_bodies.specs.CcInitialisers.Contents.{Contents, Elements, Members, contents_over, of_members, members_at, structure_inside, contents}
use Rattle.cc_program.proofs.Each.{Each}
use Rattle.cc_program.proofs.TypeInduction.{with_shape, TypeParts, by_type}
use Rattle.cc_program.specs.declared.types.CType.{CType, fold_out-CType}
use Rattle.cc_program.specs.declared.types.Shape.{Shape, roll-Shape, out-Shape, out-roll-Shape, map-Shape, fold-Shape, fold_out-Shape}
use Rattle.cc_program.specs.declared.types.Shape.TheOpen as shape
use Rattle.cc_program.specs.declared.types.Sig.{Sig, fold-Sig}
use Rattle.cc_program.specs.declared.types.Structure.{Structure}
use Rattle.cc_sound_declarations.proofs.Places.{opened, contents-opens}
use Rattle.cc_typed_bodies.specs.CcScopes.State.{State, KnownStructure, members_or_none, as_structure, structures_of}
use Rattle.cc_sound_terms.specs.Growing.{StructuresKept}
use Rattle.cc_sound_terms.specs.Ordered.{HasMembers, is_among, complete_over, is_complete_over, AreOrdered, IsOrdered}
use Rattle.cc_sound_terms.proofs.Completeness.{content_at, members_listed}
use Rattle.cc_typed_bodies.specs.CcSyntax.Types.{Named, is_complete}
use Rattle.cc_typed_bodies.proofs.CcSyntax.Prefixes.{both_true}

append_nothing : {A : Type 0} (xs : List A) → xs ++ [] ≡ xs
append_nothing [] = refl
append_nothing (x ∷ xs) = ap (λ ys. x ∷ ys) (append_nothing xs)

-- ---- lists of numbers without repetition

pub among_parts : (front : List ℕ) (i j : ℕ) → is_among (front ++ i ∷ []) j ≡ true → (is_among front j ≡ true) ⊎ (j ≡ i)
among_parts [] i j h = of_test (nat_eq j i) refl h
  where
    of_test : (b : Bool) → nat_eq j i ≡ b → b || false ≡ true → (false ≡ true) ⊎ (j ≡ i)
    of_test true e g = inr (eqb-true j i e)
    of_test false e g = absurd (cc)
among_parts (x ∷ front) i j h = of_first (nat_eq j x) h (among_parts front i j)
  where
    of_first : (b : Bool) → b || is_among (front ++ i ∷ []) j ≡ true → (is_among (front ++ i ∷ []) j ≡ true → (is_among front j ≡ true) ⊎ (j ≡ i)) → (b || is_among front j ≡ true) ⊎ (j ≡ i)
    of_first true g f = inl refl
    of_first false g f = f g

-- those below n that are not among them
abbrev pub one_free : Bool → ℕ
one_free true = 0
one_free false = 1

abbrev pub free : List ℕ → ℕ → ℕ
free front zero = 0
free front (suc n) = one_free (is_among front n) + free front n

among_later : (front : List ℕ) (i j : ℕ) → is_among front j ≡ true → is_among (front ++ i ∷ []) j ≡ true
among_later [] i j h = absurd (cc)
among_later (x ∷ front) i j h = of_first (nat_eq j x) h (among_later front i j)
  where
    of_first : (b : Bool) → b || is_among front j ≡ true → (is_among front j ≡ true → is_among (front ++ i ∷ []) j ≡ true) → b || is_among (front ++ i ∷ []) j ≡ true
    of_first true g f = refl
    of_first false g f = f g

among_last : (front : List ℕ) (i : ℕ) → is_among (front ++ i ∷ []) i ≡ true
among_last [] i = ap (λ (b : Bool). b || false) (eq-eqb i i refl)
among_last (x ∷ front) i = of_first (nat_eq i x) (among_last front i)
  where
    of_first : (b : Bool) → is_among (front ++ i ∷ []) i ≡ true → b || is_among (front ++ i ∷ []) i ≡ true
    of_first true g = refl
    of_first false g = g

less_free : (a b : Bool) → (a ≡ true → b ≡ true) → one_free b ≤ one_free a
less_free true true f = omega arith
less_free true false f = let c : false ≡ true = f refl in absurd (cc)
less_free false true f = omega arith
less_free false false f = omega arith

fewer : (front : List ℕ) (i n : ℕ) → free (front ++ i ∷ []) n ≤ free front n
fewer front i zero = omega arith
fewer front i (suc n) =
    let a = less_free (is_among front n) (is_among (front ++ i ∷ []) n) (among_later front i n) in
    let b = fewer front i n in
    omega (arith, a, b)

one_fewer : (front : List ℕ) (i n : ℕ) → i < n → is_among front i ≡ false → suc (free (front ++ i ∷ []) n) ≤ free front n
one_fewer front i zero l h = absurd (omega arith)
one_fewer front i (suc n) l h = of_place (nat_eq i n) refl (one_fewer front i n)
  where
    here : i ≡ n → suc (one_free (is_among (front ++ i ∷ []) n) + free (front ++ i ∷ []) n) ≤ one_free (is_among front n) + free front n
    here e =
        let a : one_free (is_among front n) ≡ 1 = ap one_free (ap (is_among front) (sym e) ∙ h) in
        let b : one_free (is_among (front ++ i ∷ []) n) ≡ 0 = ap one_free (ap (is_among (front ++ i ∷ [])) (sym e) ∙ among_last front i) in
        let c = fewer front i n in
        omega (arith, a, b, c)

    not_here : nat_eq i n ≡ false → i ≡ n → ⊥
    not_here e f = let g : false ≡ true = sym e ∙ eq-eqb i n f in absurd (cc)

    of_place : (b : Bool) → nat_eq i n ≡ b → (i < n → is_among front i ≡ false → suc (free (front ++ i ∷ []) n) ≤ free front n) →
        suc (one_free (is_among (front ++ i ∷ []) n) + free (front ++ i ∷ []) n) ≤ one_free (is_among front n) + free front n
    of_place true e f = here (eqb-true i n e)
    of_place false e f =
        let p = not_here e in
        let q : i < n = omega (arith, p) in
        let a = less_free (is_among front n) (is_among (front ++ i ∷ []) n) (among_later front i n) in
        let b = f q h in
        omega (arith, a, b)

pub all_free : (n : ℕ) → free [] n ≡ n
all_free zero = refl
all_free (suc n) = let e = all_free n in omega (arith, e)

get_below : {A : Type 0} (xs : List A) (i : ℕ) (x : A) → slice_get xs i ≡ Some x → i < length xs
get_below [] i x h = absurd (cc)
get_below (y ∷ xs) zero x h = omega arith
get_below (y ∷ xs) (suc i) x h = let l = get_below xs i x h in omega (arith, l)

pub few_listed : (xs : List KnownStructure) (front rest : List ℕ) → AreOrdered xs front rest → length rest ≤ free front (length xs)
few_listed xs front [] h = omega arith
few_listed xs front (i ∷ rest) h =
    let a = one_fewer front i (length xs) (get_below xs i h.0.there.0 h.0.there.1) h.0.new in
    let b = few_listed xs (front ++ i ∷ []) rest h.1 in
    omega (arith, a, b)

-- ---- contents

module _ (front : List ℕ) where
  abbrev pub parts_over : shape.Shape-F Shape CType Sig → shape.Shape-F Bool Bool (Unit {0})
  parts_over x = map-Shape Shape CType Sig Bool Bool (Unit {0})
      (fold-Shape Bool Bool (Unit {0}) (complete_over front) (λ t. t.shape) (λ s. tt))
      (is_complete_over front)
      (fold-Sig Bool Bool (Unit {0}) (complete_over front) (λ t. t.shape) (λ s. tt)) x

  over-opens : (t : CType) → is_complete_over front t ≡ complete_over front (parts_over (out-Shape t.shape))
  unfolding is_complete_over
  over-opens t =
      fold_out-CType Bool Bool (Unit {0}) (complete_over front) (λ t. t.shape) (λ s. tt) t
      ∙ fold_out-Shape Bool Bool (Unit {0}) (complete_over front) (λ t. t.shape) (λ s. tt) t.shape

  pub over-roll : (c w : Bool) (x : shape.Shape-F Shape CType Sig) → is_complete_over front (with_shape c w (roll-Shape x)) ≡ complete_over front (parts_over x)
  over-roll c w x = over-opens (with_shape c w (roll-Shape x)) ∙ ap (λ y. complete_over front (parts_over y)) (out-roll-Shape x)

both_members : (a b c d : Contents) → a ≡ b → c ≡ d → Members a c ≡ Members b d
both_members a b c d e f = ap (λ x. Members x c) e ∙ ap (Members b) f

module _ (some all : List Structure) where
  -- what the structures of these numbers consist of, where so many may nest
  abbrev Same : List ℕ → ℕ → Type 0
  Same front n = (j : ℕ) → is_among front j ≡ true → (d e : ℕ) → n ≤ d → n ≤ e → (c : Bool) → structure_inside some d j c ≡ structure_inside all e j c

  module _ (front : List ℕ) (n : ℕ) (same : Same front n) where
    -- of types that are complete over them
    abbrev SameType : CType → Type 0
    SameType t = is_complete_over front t ≡ true → (d e : ℕ) → n ≤ d → n ≤ e → (c : Bool) → contents_over (structure_inside some d) t c ≡ contents_over (structure_inside all e) t c

    shape_same : (x : shape.Shape-F Shape CType Sig) → TypeParts SameType (λ s. Unit {0}) x → complete_over front (parts_over front x) ≡ true → (d e : ℕ) → n ≤ d → n ≤ e → (c : Bool) →
        opened (structure_inside some d) x c ≡ opened (structure_inside all e) x c
    shape_same shape.Void h k d e p q c = refl
    shape_same (shape.Int t) h k d e p q c = refl
    shape_same (shape.Pointer to) h k d e p q c = refl
    shape_same (shape.Array of m) h k d e p q c = ap (Elements m) (h (both_true (nat_lt 0 m) (is_complete_over front of) k).1 d e p q c)
    shape_same (shape.Struct i) h k d e p q c = same i k d e p q c
    shape_same (shape.Func f) h k d e p q c = refl

    level : (c0 v0 : Bool) (x : shape.Shape-F Shape CType Sig) → TypeParts SameType (λ s. Unit {0}) x → SameType (with_shape c0 v0 (roll-Shape x))
    level c0 v0 x h k d e p q c =
        let t = with_shape c0 v0 (roll-Shape x) in
        contents-opens (structure_inside some d) t c
        ∙ ap (λ y. opened (structure_inside some d) y (c || c0)) (out-roll-Shape x)
        ∙ shape_same x h (sym (over-roll front c0 v0 x) ∙ k) d e p q (c || c0)
        ∙ sym (contents-opens (structure_inside all e) t c ∙ ap (λ y. opened (structure_inside all e) y (c || c0)) (out-roll-Shape x))

    types_same : (t : CType) → SameType t
    types_same = by_type SameType (λ s. Unit {0}) level (λ x h. tt)

    members_same : (ms : List Named) → Each (λ m. is_complete_over front m.1 ≡ true) ms → (d e : ℕ) → n ≤ d → n ≤ e → (c : Bool) →
        of_members (map (λ m. contents_over (structure_inside some d) m.1) ms) c ≡ of_members (map (λ m. contents_over (structure_inside all e) m.1) ms) c
    members_same [] h d e p q c = refl
    members_same (m ∷ ms) h d e p q c =
        both_members (contents_over (structure_inside some d) m.1 c) (contents_over (structure_inside all e) m.1 c)
        (of_members (map (λ m. contents_over (structure_inside some d) m.1) ms) c) (of_members (map (λ m. contents_over (structure_inside all e) m.1) ms) c)
        (types_same m.1 h.0 d e p q c) (members_same ms h.1 d e p q c)

    -- one structure more
    next_same : (i : ℕ) (ms : List Named) → members_at (slice_get some i) ≡ ms → members_at (slice_get all i) ≡ ms → Each (λ m. is_complete_over front m.1 ≡ true) ms → (d e : ℕ) → suc n ≤ d → suc n ≤ e → (c : Bool) →
        structure_inside some d i c ≡ structure_inside all e i c
    next_same i ms a b h zero e p q c = absurd (omega arith)
    next_same i ms a b h (suc d) zero p q c = absurd (omega arith)
    next_same i ms a b h (suc d) (suc e) p q c =
        let p' : n ≤ d = omega arith in
        let q' : n ≤ e = omega arith in
        ap (λ (l : List Named). of_members (map (λ m. contents_over (structure_inside some d) m.1) l) c) a
        ∙ members_same ms h d e p' q' c
        ∙ ap (λ (l : List Named). of_members (map (λ m. contents_over (structure_inside all e) m.1) l) c) (sym b)

    one_more : (i : ℕ) (ms : List Named) → members_at (slice_get some i) ≡ ms → members_at (slice_get all i) ≡ ms → Each (λ m. is_complete_over front m.1 ≡ true) ms → Same (front ++ i ∷ []) (suc n)
    one_more i ms a b h j k d e p q c = of_place (among_parts front i j k)
      where
        of_place : (is_among front j ≡ true) ⊎ (j ≡ i) → structure_inside some d j c ≡ structure_inside all e j c
        of_place (inl g) = let p' : n ≤ d = omega arith in let q' : n ≤ e = omega arith in same j g d e p' q' c
        of_place (inr g) = subst (λ (k : ℕ). structure_inside some d k c ≡ structure_inside all e k c) (sym g) (next_same i ms a b h d e p q c)

-- ---- states

pub members_found : (xs : List KnownStructure) (i : ℕ) (ms : List Named) → HasMembers xs i ms → members_at (slice_get (map as_structure xs) i) ≡ ms
members_found xs i ms h = ap members_at (slice_get-map as_structure xs i ∙ ap (option_map as_structure) h.1) ∙ ap members_or_none h.2

ordered_same : (xs ys : List KnownStructure) → StructuresKept xs ys → (front rest : List ℕ) (n : ℕ) → Same (map as_structure xs) (map as_structure ys) front n → AreOrdered xs front rest →
    Same (map as_structure xs) (map as_structure ys) (front ++ rest) (n + length rest)
ordered_same xs ys kept front [] n s h =
    let e : n + 0 ≡ n = omega arith in
    subst (λ (k : ℕ). Same (map as_structure xs) (map as_structure ys) (front ++ []) k) (sym e) (subst (λ (f : List ℕ). Same (map as_structure xs) (map as_structure ys) f n) (sym (append_nothing front)) s)
ordered_same xs ys kept front (i ∷ rest) n s h =
    let l = kept i h.0.there.0 h.0.there.1 in
    let more = one_more (map as_structure xs) (map as_structure ys) front n s i h.0.members (members_found xs i h.0.members h.0.there) (members_found ys i h.0.members (l.0, l.1, l.2.members h.0.members h.0.there.2)) h.0.complete in
    let e : n + suc (length rest) ≡ suc n + length rest = omega arith in
    subst (λ (k : ℕ). Same (map as_structure xs) (map as_structure ys) (front ++ i ∷ rest) k) (sym e)
    (subst (λ (f : List ℕ). Same (map as_structure xs) (map as_structure ys) f (suc n + length rest)) (append_assoc front (i ∷ []) rest)
    (ordered_same xs ys kept (front ++ i ∷ []) rest (suc n) more h.1))

pub map_length : (xs : List KnownStructure) → length (map as_structure xs) ≡ length xs
map_length [] = refl
map_length (x ∷ xs) = ap suc (map_length xs)

last_there : (x : KnownStructure) (xs : List KnownStructure) → (y : KnownStructure) × (slice_get (x ∷ xs) (length xs) ≡ Some y)
last_there x [] = (x, refl)
last_there x (y ∷ xs) = last_there y xs

no_shorter : (xs ys : List KnownStructure) → StructuresKept xs ys → length xs ≤ length ys
no_shorter [] ys kept = omega arith
no_shorter (x ∷ xs) ys kept =
    let y = last_there x xs in
    let l = kept (length xs) y.0 y.1 in
    let b = get_below ys (length xs) l.0 l.1 in
    omega (arith, b)

nothing_same : (some all : List Structure) → Same some all [] 0
nothing_same some all j h d e p q c = absurd (cc)

pub contents_same : (s t : State) → StructuresKept s.structures t.structures → IsOrdered s → (u : CType) → is_complete (structures_of s) u ≡ true → contents (structures_of s) u false ≡ contents (structures_of t) u false
contents_same s t kept o u h =
    let n = length s.completed in
    let same = ordered_same s.structures t.structures kept [] s.completed 0 (nothing_same (structures_of s) (structures_of t)) o.order in
    let over = (members_listed (structures_of s) s.completed (λ i k. let c = content_at s.structures i k in o.listed i c.0 c.1) (([], u) ∷ []) (h, tt)).0 in
    let few = few_listed s.structures [] s.completed o.order in
    let all = all_free (length s.structures) in
    let first = map_length s.structures in
    let second = map_length t.structures in
    let longer = no_shorter s.structures t.structures kept in
    let p : 0 + n ≤ length (structures_of s) = omega (arith, few, all, first) in
    let q : 0 + n ≤ length (structures_of t) = omega (arith, few, all, second, longer) in
    types_same (structures_of s) (structures_of t) s.completed (0 + n) same u over (length (structures_of s)) (length (structures_of t)) p q false
