-- The structures of the program stand as those of its sources do: what a structure contains has a smaller number, and the layout that it
-- has in its source.
use Rattle.std.proofs.Common.{◌≡◌, ◌∙◌, ◌⊎◌, inl, inr, ◌<◌, ◌≤◌, ◌+◌, ◌≢◌, ℕ, zero, suc, Bool, true, false, true≢false, cond, nat_lt, ◌&&◌, List, [], ◌∷◌, ◌++◌, length, map, zip, take, drop, Option, Some, None, slice_get, option_map, unwrap_or, is_some, refl, ap, sym, subst, arith, append_assoc, take-append-drop, lt-ltb, ltb-true}
use Rattle.std.specs.List.{list_all}
use Rattle.std.proofs.lemmas.List.{append-nil}
use Rattle.std.proofs.lemmas.Option.{slice_get-map, slice_get_within, get_or_from_slice_get}
use Rattle.cc_program.specs.CcNum.declared.target.Target.{Target}
use Rattle.cc_program.specs.declared.types.CType.{CType}
use Rattle.cc_program.specs.declared.types.Shape.{roll-Shape}
use Rattle.cc_program.specs.declared.types.Shape.TheOpen as shape
use Rattle.cc_program.specs.declared.types.Structure.{Structure}
use Rattle.cc_program.proofs.TypeInduction.{with_shape}
use Rattle.cc_relocation.specs.Relocated.{member_with}
use Rattle.cc_structures.specs.Looks.{declared}
use Rattle.cc_structures.specs.Structures.{Known, Numbering, structures, numbers_of, number_of, firsts_of, HavePositions, is_complete, in_program_order, IsSame, LooksTheSame, AreNumbered}
use Rattle.cc_structures.proofs.Elements.{In, contains-of, in-map, map-both, all-same, length-map_of}
use Rattle.cc_structures.proofs.LookLemmas.{members-declared}
use Rattle.cc_structures.proofs.Numbered.{one-looks}
use Rattle.cc_structures.proofs.OrderLemmas.{in-order, from-order, in-firsts}
use Rattle.cc_structures.proofs.TypeLemmas.{one-place}
use Rattle.cc_structures.proofs.WordLaws.{number_by}
use Rattle.cc_operands.specs.CcSyntax.Kinds.{Kind, IsStructure, IsIncomplete, is_object_type, extent_kind, kind_of, struct_kind, extent_in, extent_with}
use Rattle.cc_operands.specs.CcSyntax.Layout.{nothing, type_layout, structure, layouts}
use Rattle.cc_operands.specs.CcSyntax.Lists.{come_first}
use Rattle.cc_operands.specs.CcSyntax.Names.{are_names, local_names}
use Rattle.cc_operands.specs.CcSyntax.Sound.{have_ids, is_member, is_structure, are_structures, is_only_named}
use Rattle.cc_operands.specs.CcSyntax.Types.{Named, has_members, is_complete as is_complete_type}
use Rattle.cc_operands.specs.CcSyntax.declared.sizes.Layout.{Layout}
use Rattle.cc_operands.proofs.CcSyntax.Prefixes.{both_true, get_taken, layouts-at, layout-taken}
use Rattle.cc_operands.proofs.CcSyntax.StructureLemmas.{structures_sized, object_complete}
use Rattle.cc_operands.proofs.CcSyntax.TypeLayouts.{layout-roll, complete-roll}
use Rattle.cc_unit.specs.Renumbered.{type_renumbered}
use Rattle.cc_unit.specs.declared.unit.TypedUnit.{TypedUnit}
use Rattle.cc_unit.specs.declared.unit.UnitStructure.{UnitStructure}
use Rattle.cc_relocated_units.specs.Linked.{linked, structure_of, untagged, structures_of, HasMembers, AllStand}
use Rattle.cc_relocated_units.proofs.NamedFirst.{named-first}
use Rattle.cc_relocated_units.proofs.ProgramOrder.{position-at, at-position, first-there, before-lower}
use Rattle.cc_relocated_units.proofs.TypesKept.{complete-kept, layout-kept, IsBelow, object-kept, kind-stays, kind-kept}
use Rattle.cc_relocated_units.proofs.UnitPlaces.{known, IsIn, unit-of, in-unit}

-- ---- lists

get-front : {A : Type 0} (xs : List A) (i k : ℕ) → k < i → slice_get (take i xs) k ≡ slice_get xs k
get-front [] zero k h = refl
get-front [] (suc i) k h = refl
get-front (x ∷ xs) zero k h = absurd (omega (arith, h))
get-front (x ∷ xs) (suc i) zero h = refl
get-front (x ∷ xs) (suc i) (suc k) h = get-front xs i k (omega (arith, h))

get-inside : {A : Type 0} (xs : List A) (k : ℕ) → k < length xs → (x : A) × (slice_get xs k ≡ Some x)
get-inside [] k h = absurd (omega (arith, h))
get-inside (x ∷ xs) zero h = (x, refl)
get-inside (x ∷ xs) (suc k) h = get-inside xs k (omega (arith, h))

less : (m n : ℕ) → m ≤ n → (m ≡ n → ⊥) → m < n
less zero zero h no_same = absurd (no_same refl)
less zero (suc n) h no_same = omega arith
less (suc m) zero h no_same = absurd (omega (arith, h))
less (suc m) (suc n) h no_same = let r = less m n (omega (arith, h)) (λ e. no_same (ap suc e)) in omega (arith, r)

module _ {A B C : Type 0} (g : A × B → C) where
  mapped-at : (ts : List A) (fs : List B) → length ts ≡ length fs → (k : ℕ) (f : B) → slice_get fs k ≡ Some f → (t : A) × (slice_get (map g (zip ts fs)) k ≡ Some (g (t, f)))
  mapped-at [] [] h k f e = absurd (cc)
  mapped-at [] (x ∷ fs) h k f e = absurd (omega (arith, h))
  mapped-at (t ∷ ts) [] h k f e = absurd (omega (arith, h))
  mapped-at (t ∷ ts) (x ∷ fs) h zero f e = let same : x ≡ f = cc e in (t, ap (λ (y : B). Some (g (t, y))) same)
  mapped-at (t ∷ ts) (x ∷ fs) h (suc k) f e = mapped-at ts fs (omega (arith, h)) k f e

  from-mapped : (ts : List A) (fs : List B) (k : ℕ) (q : C) → slice_get (map g (zip ts fs)) k ≡ Some q → (t : A) × ((f : B) × ((slice_get fs k ≡ Some f) × (q ≡ g (t, f))))
  from-mapped [] [] k q e = absurd (cc)
  from-mapped [] (x ∷ fs) k q e = absurd (cc)
  from-mapped (t ∷ ts) [] k q e = absurd (cc)
  from-mapped (t ∷ ts) (x ∷ fs) zero q e = let same : g (t, x) ≡ q = cc e in (t, (x, (refl, sym same)))
  from-mapped (t ∷ ts) (x ∷ fs) (suc k) q e = from-mapped ts fs k q e

-- ---- one structure of a list, and all of them

module _ (count : ℕ) (target : Target) where
  structure-in : (before rest : List Structure) → are_structures before count target rest ≡ true → (i : ℕ) (r : Structure) → slice_get rest i ≡ Some r → is_structure (before ++ take i rest) count target r ≡ true
  structure-in before [] h i r e = absurd (cc)
  structure-in before (s ∷ rest) h zero r e =
      let same : s ≡ r = cc e in
      let b = both_true (is_structure before count target s) (are_structures (before ++ s ∷ []) count target rest) h in
      ap (λ (ss : List Structure). is_structure ss count target r) (append-nil before) ∙ (ap (is_structure before count target) (sym same) ∙ b.0)
  structure-in before (s ∷ rest) h (suc i) r e =
      let b = both_true (is_structure before count target s) (are_structures (before ++ s ∷ []) count target rest) h in
      ap (λ (ss : List Structure). is_structure ss count target r) (sym (append_assoc before (s ∷ []) (take i rest))) ∙ structure-in (before ++ s ∷ []) rest b.1 i r e

  from-each : (before rest : List Structure) → ((i : ℕ) (r : Structure) → slice_get rest i ≡ Some r → is_structure (before ++ take i rest) count target r ≡ true) → are_structures before count target rest ≡ true
  from-each before [] h = refl
  from-each before (s ∷ rest) h =
      let here : is_structure before count target s ≡ true = ap (λ (ss : List Structure). is_structure ss count target s) (sym (append-nil before)) ∙ h 0 s refl in
      let others = from-each (before ++ s ∷ []) rest (λ i r e. ap (λ (ss : List Structure). is_structure ss count target r) (append_assoc before (s ∷ []) (take i rest)) ∙ h (suc i) r e) in
      rw (here, others) refl

  are-front : (before xs ys : List Structure) → are_structures before count target (xs ++ ys) ≡ true → are_structures before count target xs ≡ true
  are-front before [] ys h = refl
  are-front before (s ∷ xs) ys h =
      let b = both_true (is_structure before count target s) (are_structures (before ++ s ∷ []) count target (xs ++ ys)) h in
      rw (b.0, are-front (before ++ s ∷ []) xs ys b.1) refl

  list-in : {A : Type 0} (p : A → Bool) (xs : List A) → list_all p xs ≡ true → (x : A) → In x xs → p x ≡ true
  list-in p [] h x i = absurd i
  list-in p (y ∷ ys) h x (inl e) = sym (ap p e) ∙ (both_true (p y) (list_all p ys) h).0
  list-in p (y ∷ ys) h x (inr i) = list-in p ys (both_true (p y) (list_all p ys) h).1 x i

  list-from : {A : Type 0} (p : A → Bool) (xs : List A) → ((x : A) → In x xs → p x ≡ true) → list_all p xs ≡ true
  list-from p [] h = refl
  list-from p (y ∷ ys) h = rw (h y (inl refl), list-from p ys (λ x i. h x (inr i))) refl

  -- what an object's type is over the structures before it
  member-complete : (ss : List Structure) → are_structures [] count target ss ≡ true → (i : ℕ) (r : Structure) → slice_get ss i ≡ Some r → (m : Named) → In m r.members →
      (is_object_type (kind_of target (extent_with (take i ss) count target) m.1) ≡ true) × (is_complete_type (take i ss) m.1 ≡ true)
  member-complete ss h i r e m j =
      let good = structure-in [] ss h i r e in
      let rest = (both_true (have_ids (length r.members)) (are_names (local_names r.members) && list_all (is_member (take i ss) count target) r.members) good).1 in
      let object = list-in (is_member (take i ss) count target) r.members (both_true (are_names (local_names r.members)) (list_all (is_member (take i ss) count target) r.members) rest).1 m j in
      let front = are-front [] (take i ss) (drop i ss) (ap (are_structures [] count target) (take-append-drop i ss) ∙ h) in
      (object, object_complete count target (take i ss) m.1 (structures_sized count target (take i ss) front) object)

-- the layout of a complete structure is the one that it has among those before some place
taken-layout : (target : Target) (ss : List Structure) (i j : ℕ) → has_members (slice_get (take i ss) j) ≡ true → unwrap_or (slice_get (layouts target (take i ss)) j) nothing ≡ unwrap_or (slice_get (layouts target ss) j) nothing
taken-layout target ss i j h =
    let t = with_shape false false (roll-Shape (shape.Struct j)) in
    sym (layout-roll target (layouts target (take i ss)) false false (shape.Struct j))
    ∙ (layout-taken target ss i t (complete-roll (take i ss) false false (shape.Struct j) ∙ h) ∙ layout-roll target (layouts target ss) false false (shape.Struct j))

-- ---- the structures of the program

module _ (units : List TypedUnit) (numbering : Numbering) (firsts : List Known) (tags : List (List ℕ)) (target : Target) (are : AreNumbered units numbering firsts) (as_many : length tags ≡ length firsts)
    (standing : AllStand target units) where
  abbrev all : List Known
  all = structures units

  abbrev program : List Structure
  program = linked numbering tags firsts

  abbrev at : Known → ℕ
  at s = number_of numbering s

  -- the members of a structure with the program's numbers
  abbrev numbered : Known → List Named
  numbered s = map (member_with (numbers_of numbering s.text)) (declared s)

  positions : HavePositions numbering 0 (firsts_of numbering (in_program_order units))
  positions = subst (HavePositions numbering 0) are.first are.position

  zero-plus : (k n : ℕ) → n ≡ 0 + k → n ≡ k
  zero-plus k n e = omega (arith, e)

  -- the first structure of a number
  pub record IsFirst (k : ℕ) (f : Known) : Type 0 where
    pub known : In f all
    pub number : at f ≡ k
    pub first : In f (firsts_of numbering (in_program_order units))

  first-known : (f : Known) → In f (firsts_of numbering (in_program_order units)) → In f all
  first-known f h = from-order all f (in-firsts numbering (in_program_order units) f h)

  program-at : (k : ℕ) (q : Structure) → slice_get program k ≡ Some q → (f : Known) × (IsFirst k f × (q.members ≡ numbered f))
  program-at k q e =
      let r = from-mapped (structure_of numbering) tags firsts k q e in
      let f = r.1.0 in
      let p = position-at numbering 0 firsts k f are.position r.1.1.0 in
      let first : In f (firsts_of numbering (in_program_order units)) = subst (In f) are.first p.1 in
      (f, (record { known = first-known f first; number = zero-plus k (at f) p.0; first = first }, ap (λ (s : Structure). s.members) r.1.1.1))

  same-members : (f s : Known) → In f all → In s all → at f ≡ at s → numbered f ≡ numbered s
  same-members f s hf hs e = by (one-looks units numbering firsts are f s (contains-of all f hf) (contains-of all s hs) e)
    where
      by : IsSame f s ⊎ ((f.text ≢ s.text) × LooksTheSame numbering f s) → numbered f ≡ numbered s
      by (inl same) = ap numbered (one-place units f s (contains-of all f hf) (contains-of all s hs) same)
      by (inr looks) = (members-declared numbering f s looks.1).1

  -- each structure of a source, where its number is
  pub at-number : (s : Known) → In s all → (q : Structure) × ((slice_get program (at s) ≡ Some q) × (q.members ≡ numbered s))
  at-number s h =
      let f = first-there numbering (in_program_order units) s (in-order all s h) in
      let p = at-position numbering 0 (firsts_of numbering (in_program_order units)) f.0 positions f.1.0 in
      let place : p.0 ≡ at s = sym (zero-plus p.0 (at f.0) p.1.0) ∙ f.1.1 in
      let there : slice_get firsts (at s) ≡ Some f.0 = ap (λ (fs : List Known). slice_get fs (at s)) are.first ∙ (ap (slice_get (firsts_of numbering (in_program_order units))) (sym place) ∙ p.1.1) in
      let m = mapped-at (structure_of numbering) tags firsts as_many (at s) f.0 there in
      (structure_of numbering (m.0, f.0), (m.1, same-members f.0 s (first-known f.0 f.1.0) h f.1.1))

  -- ---- which have members

  complete-declared : (s : Known) → nat_lt 0 (length (declared s)) ≡ true → is_complete s ≡ true
  complete-declared s h = by s.structure.members h
    where
      by : (o : Option (List Named)) → nat_lt 0 (length (unwrap_or o [])) ≡ true → is_some o ≡ true
      by (Some ms) h = refl
      by None h = absurd (true≢false (sym h))

  declared-in : (s : Known) (m : Named) → In m (declared s) → is_complete s ≡ true
  declared-in s m i = complete-declared s (by (declared s) i)
    where
      by : (ms : List Named) → In m ms → nat_lt 0 (length ms) ≡ true
      by [] i = absurd i
      by (x ∷ ms) i = lt-ltb 0 (suc (length ms)) (omega arith)

  pub program-has : (s : Known) → In s all → has_members (slice_get program (at s)) ≡ nat_lt 0 (length (declared s))
  program-has s h =
      let q = at-number s h in
      ap has_members q.1.0 ∙ (ap (λ (ms : List Named). nat_lt 0 (length ms)) q.1.1 ∙ ap (nat_lt 0) (length-map_of (member_with (numbers_of numbering s.text)) (declared s)))

  -- one of a source
  pub record IsAt (u : TypedUnit) (t j : ℕ) (x : UnitStructure) : Type 0 where
    pub there : slice_get u.structures j ≡ Some x
    pub known : In (known t j x) all

  pub unit-has : (t : ℕ) (u : TypedUnit) → slice_get units t ≡ Some u → (j : ℕ) → j < length u.structures → (x : UnitStructure) × (IsAt u t j x × (has_members (slice_get (structures_of u) j) ≡ nat_lt 0 (length (declared (known t j x)))))
  unit-has t u e j low =
      let x = get-inside u.structures j low in
      (x.0, (record { there = x.1; known = in-unit units t j u x.0 e x.1 }, ap has_members (slice_get-map untagged u.structures j ∙ ap (option_map untagged) x.1)))

  within : (u : TypedUnit) (j : ℕ) → has_members (slice_get (structures_of u) j) ≡ true → j < length u.structures
  within u j h = by u.structures j h
    where
      by : (ss : List UnitStructure) (k : ℕ) → has_members (slice_get (map untagged ss) k) ≡ true → k < length ss
      by [] k h = absurd (true≢false (sym h))
      by (s ∷ ss) zero h = omega arith
      by (s ∷ ss) (suc k) h = let low = by ss k h in omega (arith, low)

  taken-has : (ss : List Structure) (i j : ℕ) → has_members (slice_get (take i ss) j) ≡ true → (j < i) × (has_members (slice_get ss j) ≡ true)
  taken-has ss i j h = by (slice_get (take i ss) j) refl h
    where
      by : (o : Option Structure) → slice_get (take i ss) j ≡ o → has_members o ≡ true → (j < i) × (has_members (slice_get ss j) ≡ true)
      by None e h = absurd (true≢false (sym h))
      by (Some r) e h = let t = get_taken ss i j r e in (t.0, ap has_members t.1 ∙ h)

  -- ---- what a structure contains has a smaller number

  lower : (x f : Known) → In x all → In f all → x.text ≡ f.text → x.position < f.position → is_complete x ≡ true → is_complete f ≡ true → In f (firsts_of numbering (in_program_order units)) → at x < at f
  lower x f hx hf text low cx cf first =
      less (at x) (at f) (before-lower numbering units x f positions hx hf cx cf (inr (text, low)) first) (λ e. apart (one-looks units numbering firsts are x f (contains-of all x hx) (contains-of all f hf) e))
    where
      apart : IsSame x f ⊎ ((x.text ≢ f.text) × LooksTheSame numbering x f) → ⊥
      apart (inl same) = let e = same.1 in omega (arith, e, low)
      apart (inr looks) = looks.0 text

  -- over the structures before it in its source, and before it in the program
  module _ (k : ℕ) (f : Known) (u : TypedUnit) (first : IsFirst k f) (inside : IsIn units f u) where
    abbrev numbers : List ℕ
    numbers = numbers_of numbering f.text

    abbrev before : List Structure
    before = take f.position (structures_of u)

    kept : is_complete f ≡ true → (j : ℕ) → has_members (slice_get before j) ≡ true → has_members (slice_get (take k program) (number_by numbers j)) ≡ true
    kept cf j h =
        let t = taken-has (structures_of u) f.position j h in
        let x = unit-has f.text u inside.unit j (within u j t.1) in
        let s = known f.text j x.0 in
        let members : nat_lt 0 (length (declared s)) ≡ true = sym x.1.1 ∙ t.1 in
        let low : at s < at f = lower s f x.1.0.known first.known refl t.0 (complete-declared s members) cf first.first in
        let number = first.number in
        ap has_members (get-front program k (at s) (omega (arith, low, number))) ∙ (program-has s x.1.0.known ∙ members)

    placed : slice_get (structures_of u) f.position ≡ Some (untagged f.structure)
    placed = slice_get-map untagged u.structures f.position ∙ ap (option_map untagged) inside.place

    first-complete : (m : Named) → In m (declared f) → is_complete_type (take k program) (type_renumbered numbers m.1) ≡ true
    first-complete m i =
        complete-kept numbers before (take k program) (kept (declared-in f m i)) m.1
        (member-complete (length u.structures) target (structures_of u) (standing f.text u inside.unit).structures f.position (untagged f.structure) placed m i).1

  -- the types of members in the program are complete over the structures before
  pub in-program : (k : ℕ) (q : Structure) → slice_get program k ≡ Some q → (m : Named) → In m q.members → is_complete_type (take k program) m.1 ≡ true
  in-program k q e m i =
      let p = program-at k q e in
      let f = p.0 in
      let v = unit-of units f p.1.0.known in
      by f (declared f) (subst (In m) p.1.1 i) (λ n j. first-complete k f v.0 p.1.0 v.1 n j)
    where
      by : (f : Known) (ms : List Named) → In m (map (member_with (numbers_of numbering f.text)) ms) → ((n : Named) → In n ms → is_complete_type (take k program) (type_renumbered (numbers_of numbering f.text) n.1) ≡ true) →
          is_complete_type (take k program) m.1 ≡ true
      by f [] i h = absurd i
      by f (n ∷ ms) (inl e) h = sym (ap (λ (x : Named). is_complete_type (take k program) x.1) e) ∙ h n (inl refl)
      by f (n ∷ ms) (inr j) h = by f ms j (λ x y. h x (inr y))

  -- ---- layouts

  abbrev SameLayout : Known → TypedUnit → Type 0
  SameLayout s u = unwrap_or (slice_get (layouts target program) (at s)) nothing ≡ unwrap_or (slice_get (layouts target (structures_of u)) s.position) nothing

  -- where it is so below a number, it is so there
  module _ (s : Known) (u : TypedUnit) (h : In s all) (inside : IsIn units s u) (below : (x : Known) → In x all → IsIn units x u → at x < at s → SameLayout x u) where
    abbrev own : List Structure
    own = take s.position (structures_of u)

    abbrev ahead : List Structure
    ahead = take (at s) program

    abbrev ids : List ℕ
    ids = numbers_of numbering s.text

    own-placed : slice_get (structures_of u) s.position ≡ Some (untagged s.structure)
    own-placed = slice_get-map untagged u.structures s.position ∙ ap (option_map untagged) inside.place

    agree : (j : ℕ) → has_members (slice_get own j) ≡ true → has_members (slice_get ahead (number_by ids j)) ≡ true →
        unwrap_or (slice_get (layouts target program) (number_by ids j)) nothing ≡ unwrap_or (slice_get (layouts target (structures_of u)) j) nothing
    agree j c d =
        let t = taken-has (structures_of u) s.position j c in
        let x = unit-has s.text u inside.unit j (within u j t.1) in
        let p = taken-has program (at s) (number_by ids j) d in
        below (known s.text j x.0) x.1.0.known (record { unit = inside.unit; place = x.1.0.there }) p.0

    member-layout : (m : Named) → In m (declared s) → type_layout target (layouts target ahead) (type_renumbered ids m.1) ≡ type_layout target (layouts target own) m.1
    member-layout m i =
        let q = at-number s h in
        let old = (member-complete (length u.structures) target (structures_of u) (standing s.text u inside.unit).structures s.position (untagged s.structure) own-placed m i).1 in
        let new = in-program (at s) q.0 q.1.0 (member_with ids m) (subst (In (member_with ids m)) (sym q.1.1) (in-map (member_with ids) (declared s) m i)) in
        layout-taken target program (at s) (type_renumbered ids m.1) new
        ∙ (layout-kept ids target own ahead (layouts target (structures_of u)) (layouts target program) agree m.1 old new ∙ sym (layout-taken target (structures_of u) s.position m.1 old))

    layout-there : SameLayout s u
    layout-there =
        let q = at-number s h in
        ap (λ (l : Option Layout). unwrap_or l nothing) (layouts-at target program (at s) q.0 q.1.0)
        ∙ (ap (λ (ms : List Named). structure (map (λ (m : Named). type_layout target (layouts target ahead) m.1) ms)) q.1.1
        ∙ (ap structure (map-both (member_with ids) (λ (m : Named). type_layout target (layouts target ahead) m.1) (declared s)
        ∙ all-same (λ (m : Named). type_layout target (layouts target ahead) (type_renumbered ids m.1)) (λ (m : Named). type_layout target (layouts target own) m.1) (declared s) member-layout)
        ∙ sym (ap (λ (l : Option Layout). unwrap_or l nothing) (layouts-at target (structures_of u) s.position (untagged s.structure) own-placed))))

  layouts-below : (bound : ℕ) (s : Known) (u : TypedUnit) → In s all → IsIn units s u → at s < bound → SameLayout s u
  layouts-below zero s u h inside low = absurd (omega (arith, low))
  layouts-below (suc bound) s u h inside low = layout-there s u h inside (λ x hx ux less_than. layouts-below bound x u hx ux (omega (arith, low, less_than)))

  pub layout-same : (s : Known) (u : TypedUnit) → In s all → IsIn units s u → SameLayout s u
  layout-same s u h inside = layouts-below (suc (at s)) s u h inside (omega arith)

  -- ---- kinds

  extent-same : (a b : Bool) (n : ℕ) → extent_kind (cond a (Some (Some n)) (cond b (Some None) None)) ≡ cond a (Some (IsStructure n)) (cond b (Some IsIncomplete) None)
  extent-same true b n = refl
  extent-same false true n = refl
  extent-same false false n = refl

  struct-kind : (ss : List Structure) (count j : ℕ) (b : Bool) → has_members (slice_get ss j) ≡ b →
      struct_kind ss count target j ≡ cond b (Some (IsStructure (unwrap_or (slice_get (layouts target ss) j) nothing).size)) (cond (nat_lt j count) (Some IsIncomplete) None)
  struct-kind ss count j b e =
      extent-same (has_members (slice_get ss j)) (nat_lt j count) (unwrap_or (slice_get (layouts target ss) j) nothing).size
      ∙ ap (λ c. cond c (Some (IsStructure (unwrap_or (slice_get (layouts target ss) j) nothing).size)) (cond (nat_lt j count) (Some IsIncomplete) None)) e

  incomplete-kind : (ss : List Structure) (count j : ℕ) (b : Bool) → has_members (slice_get ss j) ≡ false → nat_lt j count ≡ b → struct_kind ss count target j ≡ cond b (Some IsIncomplete) None
  incomplete-kind ss count j b e h = struct-kind ss count j false e ∙ ap (λ c. cond c (Some IsIncomplete) None) h

  pub low-number : (s : Known) → In s all → nat_lt (at s) (length program) ≡ true
  low-number s h = let q = at-number s h in let low = slice_get_within program (at s) q.0 q.1.0 in lt-ltb (at s) (length program) low

  -- over the structures before the first of a number
  module _ (k : ℕ) (f : Known) (u : TypedUnit) (first : IsFirst k f) (inside : IsIn units f u) (cf : is_complete f ≡ true) where
    below-first : (j : ℕ) → IsBelow (Unit {0}) (struct_kind (take f.position (structures_of u)) (length u.structures) target j) (struct_kind (take k program) (length program) target (number_by (numbers_of numbering f.text) j))
    below-first j = by (has_members (slice_get (take f.position (structures_of u)) j)) refl
      where
        by : (b : Bool) → has_members (slice_get (take f.position (structures_of u)) j) ≡ b →
            IsBelow (Unit {0}) (struct_kind (take f.position (structures_of u)) (length u.structures) target j) (struct_kind (take k program) (length program) target (number_by (numbers_of numbering f.text) j))
        by true h =
            let d = kept k f u first inside cf j h in
            let t = taken-has (structures_of u) f.position j h in
            let x = unit-has f.text u inside.unit j (within u j t.1) in
            let s = known f.text j x.0 in
            let size = taken-layout target (structures_of u) f.position j h
            ∙ (sym (layout-same s u x.1.0.known (record { unit = inside.unit; place = x.1.0.there })) ∙ sym (taken-layout target program k (at s) d)) in
            inr (inl (struct-kind (take f.position (structures_of u)) (length u.structures) j true h
            ∙ (ap (λ (l : Layout). Some (IsStructure l.size)) size ∙ sym (struct-kind (take k program) (length program) (at s) true d))))
        by false h = named (nat_lt j (length u.structures)) refl
          where
            named : (c : Bool) → nat_lt j (length u.structures) ≡ c →
                IsBelow (Unit {0}) (struct_kind (take f.position (structures_of u)) (length u.structures) target j) (struct_kind (take k program) (length program) target (number_by (numbers_of numbering f.text) j))
            named false e = inl (incomplete-kind (take f.position (structures_of u)) (length u.structures) j false h e)
            named true e = later (has_members (slice_get (take k program) (number_by (numbers_of numbering f.text) j))) refl
              where
                later : (c : Bool) → has_members (slice_get (take k program) (number_by (numbers_of numbering f.text) j)) ≡ c →
                    IsBelow (Unit {0}) (struct_kind (take f.position (structures_of u)) (length u.structures) target j) (struct_kind (take k program) (length program) target (number_by (numbers_of numbering f.text) j))
                later true d = inr (inr (
                  tt,
                  (
                    incomplete-kind (take f.position (structures_of u)) (length u.structures) j true h e,
                    ((unwrap_or (slice_get (layouts target (take k program)) (number_by (numbers_of numbering f.text) j)) nothing).size, struct-kind (take k program) (length program) (number_by (numbers_of numbering f.text) j) true d),
                  ),
                ))
                later false d =
                    let x = unit-has f.text u inside.unit j (ltb-true j (length u.structures) e) in
                    inr (inl (incomplete-kind (take f.position (structures_of u)) (length u.structures) j true h e
                    ∙ sym (incomplete-kind (take k program) (length program) (number_by (numbers_of numbering f.text) j) true d (low-number (known f.text j x.0) x.1.0.known))))

  first-structure : (k : ℕ) (q : Structure) (f : Known) (u : TypedUnit) → IsFirst k f → IsIn units f u → q.members ≡ numbered f → is_structure (take k program) (length program) target q ≡ true
  first-structure k q f u first inside members =
      let unit = standing f.text u inside.unit in
      let there : slice_get (structures_of u) f.position ≡ Some (untagged f.structure) = slice_get-map untagged u.structures f.position ∙ ap (option_map untagged) inside.place in
      let good = structure-in (length u.structures) target [] (structures_of u) unit.structures f.position (untagged f.structure) there in
      let few = both_true (have_ids (length (declared f))) (are_names (local_names (declared f)) && list_all (is_member (take f.position (structures_of u)) (length u.structures) target) (declared f)) good in
      let names = both_true (are_names (local_names (declared f))) (list_all (is_member (take f.position (structures_of u)) (length u.structures) target) (declared f)) few.1 in
      let kinds : list_all (is_member (take k program) (length program) target) (numbered f) ≡ true =
      all-members (declared f) (λ m i. object m i) in
      ap (λ (ms : List Named). have_ids (length ms) && (are_names (local_names ms) && list_all (is_member (take k program) (length program) target) ms)) members
      ∙ together (have_ids (length (numbered f))) (are_names (local_names (numbered f))) (list_all (is_member (take k program) (length program) target) (numbered f))
      (ap have_ids (length-map_of (member_with (numbers_of numbering f.text)) (declared f)) ∙ few.0)
      (ap are_names (map-both (member_with (numbers_of numbering f.text)) (λ (m : Named). m.0) (declared f)) ∙ names.0) kinds
    where
      together : (a b c : Bool) → a ≡ true → b ≡ true → c ≡ true → (a && (b && c)) ≡ true
      together a b c h i j = rw (h, i, j) refl

      all-members : (ms : List Named) → ((m : Named) → In m ms → is_member (take k program) (length program) target (member_with (numbers_of numbering f.text) m) ≡ true) →
          list_all (is_member (take k program) (length program) target) (map (member_with (numbers_of numbering f.text)) ms) ≡ true
      all-members [] h = refl
      all-members (m ∷ ms) h = rw (h m (inl refl), all-members ms (λ n i. h n (inr i))) refl

      object : (m : Named) → In m (declared f) → is_member (take k program) (length program) target (member_with (numbers_of numbering f.text) m) ≡ true
      object m i =
          let there : slice_get (structures_of u) f.position ≡ Some (untagged f.structure) = slice_get-map untagged u.structures f.position ∙ ap (option_map untagged) inside.place in
          let old = (member-complete (length u.structures) target (structures_of u) (standing f.text u inside.unit).structures f.position (untagged f.structure) there m i).0 in
          object-kept (Unit {0}) (kind_of target (extent_with (take f.position (structures_of u)) (length u.structures) target) m.1) (kind_of target (extent_with (take k program) (length program) target) (type_renumbered (numbers_of numbering f.text) m.1))
          (kind-kept (Unit {0}) (numbers_of numbering f.text) (take f.position (structures_of u)) (take k program) (length u.structures) (length program) target (below-first k f u first inside (declared-in f m i)) m.1) old

  -- the structures of the program stand as those of a sound program
  pub in-order-program : are_structures [] (length program) target program ≡ true
  in-order-program = from-each (length program) target [] program (λ k q e. one k q e)
    where
      one : (k : ℕ) (q : Structure) → slice_get program k ≡ Some q → is_structure (take k program) (length program) target q ≡ true
      one k q e = let p = program-at k q e in let v = unit-of units p.0 p.1.0.known in first-structure k q p.0 v.0 p.1.0 v.1 p.1.1

  -- ---- the kinds of types of a source

  whole-below : (t : ℕ) (u : TypedUnit) → slice_get units t ≡ Some u → (j : ℕ) → IsBelow ⊥ (struct_kind (structures_of u) (length u.structures) target j) (struct_kind program (length program) target (number_by (numbers_of numbering t) j))
  whole-below t u e j = by (nat_lt j (length u.structures)) refl
    where
      none : (b : Bool) → has_members (slice_get (structures_of u) j) ≡ b → nat_lt j (length u.structures) ≡ false → has_members (slice_get (structures_of u) j) ≡ false
      none false h low = h
      none true h low = absurd (true≢false (sym (lt-ltb j (length u.structures) (within u j h)) ∙ low))

      by : (c : Bool) → nat_lt j (length u.structures) ≡ c → IsBelow ⊥ (struct_kind (structures_of u) (length u.structures) target j) (struct_kind program (length program) target (number_by (numbers_of numbering t) j))
      by false low = inl (incomplete-kind (structures_of u) (length u.structures) j false (none (has_members (slice_get (structures_of u) j)) refl low) low)
      by true low =
          let x = unit-has t u e j (ltb-true j (length u.structures) low) in
          let s = known t j x.0 in
          let same : has_members (slice_get program (at s)) ≡ has_members (slice_get (structures_of u) j) = program-has s x.1.0.known ∙ sym x.1.1 in
          let size = layout-same s u x.1.0.known (record { unit = e; place = x.1.0.there }) in
          inr (inl (struct-kind (structures_of u) (length u.structures) j (has_members (slice_get (structures_of u) j)) refl
          ∙ (ap (λ (l : Layout). cond (has_members (slice_get (structures_of u) j)) (Some (IsStructure l.size)) (cond (nat_lt j (length u.structures)) (Some IsIncomplete) None)) (sym size)
          ∙ (ap (λ (b : Bool). cond (has_members (slice_get (structures_of u) j)) (Some (IsStructure (unwrap_or (slice_get (layouts target program) (at s)) nothing).size)) (cond b (Some IsIncomplete) None)) (low ∙ sym (low-number s x.1.0.known))
          ∙ sym (struct-kind program (length program) (at s) (has_members (slice_get (structures_of u) j)) same)))))

  pub kind-same : (t : ℕ) (u : TypedUnit) → slice_get units t ≡ Some u → (c : CType) (k : Kind) → kind_of target (extent_with (structures_of u) (length u.structures) target) c ≡ Some k →
      kind_of target (extent_in program target) (type_renumbered (numbers_of numbering t) c) ≡ Some k
  kind-same t u e c k h =
      kind-stays (kind_of target (extent_with (structures_of u) (length u.structures) target) c) (kind_of target (extent_in program target) (type_renumbered (numbers_of numbering t) c)) k
      (kind-kept ⊥ (numbers_of numbering t) (structures_of u) program (length u.structures) (length program) target (whole-below t u e) c) h

  -- those that are only named stand in front
  pub named-first-program : come_first is_only_named program ≡ true
  named-first-program = named-first units numbering firsts tags are as_many (λ s h. has s h)
    where
      has : (s : Known) → In s all → HasMembers s.structure
      has s h =
          let v = unit-of units s h in
          let low = slice_get_within v.0.structures s.position s.structure v.1.place in
          subst HasMembers (get_or_from_slice_get v.0.structures s.position s.structure s.structure v.1.place) ((standing s.text v.0 v.1.unit).members s.position s.structure low)
