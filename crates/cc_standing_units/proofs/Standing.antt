-- The structures of a unit stand in order, by induction over the order of the closing braces.
use Rattle.std.proofs.Common.{◌≡◌, ◌∙◌, ◌⊎◌, inl, inr, ◌+◌, ◌<◌, ◌≤◌, ℕ, suc, Bool, true, false, true≢false, ◌&&◌, cond, List, [], ◌∷◌, ◌++◌, length, map, take, Option, Some, None, is_some, option_map, slice_get, refl, ap, sym, subst, arith, append_assoc, length-append}
use Rattle.std.specs.Prelude.{nat_lt, unwrap_or}
use Rattle.std.specs.List.{flat_map, list_all}
use Rattle.std.proofs.lemmas.Bool.{cases_lt, lt-ltb, ltb-true}
use Rattle.std.proofs.lemmas.List.{length-map, map-append}
use Rattle.std.proofs.lemmas.Option.{slice_get_within}
use Rattle.cc_relocated_units.specs.Linked.{AreStanding, HasMembers as HasSome, untagged}
use Rattle.cc_program.specs.CcNum.declared.target.Target.{Target}
use Rattle.cc_numbering.specs.Structures.{all_named_in, named_in, structure_at, structure_in, structures_in}
use Rattle.cc_numbering.specs.Units.{unit_left}
use Rattle.cc_standing_units.specs.Views.{has_content}
use Rattle.cc_program.proofs.Each.{Each}
use Rattle.cc_program.specs.declared.types.Structure.{Structure}
use Rattle.cc_relocated_units.proofs.KindsKept.{test_kept}
use Rattle.cc_terms.specs.CcScopes.State.{KnownStructure, State, members_or_none}
use Rattle.cc_relocated_units.specs.Units.{IsOfText, are_few_names}
use Rattle.cc_sound_terms.specs.Ordered.{AreOrdered, IsOrdered, is_among}
use Rattle.cc_structures.proofs.Elements.{In, in-cases}
use Rattle.cc_structures.proofs.WordLaws.{number_by}
use Rattle.cc_terms.proofs.CcSyntax.Prefixes.{both_true}
use Rattle.cc_terms.specs.CcSyntax.Kinds.{extent_with, is_object_type, kind_of}
use Rattle.cc_terms.specs.CcSyntax.Layout.{layouts, nothing}
use Rattle.cc_terms.specs.CcSyntax.Names.{are_names, local_names}
use Rattle.cc_terms.specs.CcSyntax.Sound.{are_structures, have_ids, is_member, is_structure}
use Rattle.cc_terms.specs.CcSyntax.Types.{Named, has_members}
use Rattle.cc_terms.specs.CcSyntax.declared.sizes.Layout.{Layout}
use Rattle.cc_terms.specs.CcUnit.declared.unit.UnitStructure.{UnitStructure}
use Rattle.cc_program.specs.CcWords.Names.{are_distinct, is_name}
use Rattle.cc_standing_units.proofs.Built.{AllThere, built-at, built-length, one-at}
use Rattle.cc_standing_units.proofs.Laid.{Known, all_there, before_middle, built, content, layouts_first, named, numbers, order, place, place_here, place_is, same_known, step, take_get, unit, unit_at, wider, zero_plus}
use Rattle.cc_standing_units.proofs.Places.{among-in, in-among, only-in}
use Rattle.cc_standing_units.proofs.Lists.{all-at, all-in, both, flat_parts, structures_parts, take_front, take_more, take_past}
use Rattle.cc_standing_units.specs.Closed.{AreClosed, AreOver, MembersOver, extents_over}

names_kept : (ns : List ℕ) (ms : List Named) → local_names (all_named_in ns ms) ≡ local_names ms
names_kept ns [] = refl
names_kept ns (m ∷ ms) = ap (λ (l : List (List ℕ)). m.0 ∷ l) (names_kept ns ms)

module _ (target : Target) (s : State) (ordered : IsOrdered s) (closed : AreClosed target s) (text : IsOfText (unit_left s)) where
  abbrev S : List KnownStructure
  S = s.structures

  abbrev N : List ℕ
  N = named target s ordered closed.laid

  abbrev ns : List ℕ
  ns = numbers target s ordered closed.laid

  abbrev U : List Structure
  U = unit target s ordered closed.laid

  abbrev B : List UnitStructure
  B = built target s ordered closed.laid

  abbrev c : KnownStructure → Structure
  c k = content target s ordered closed.laid k

  abbrev IsKnown : ℕ → ℕ → Type 0
  IsKnown n j = Known target s ordered closed.laid n j

  abbrev there : AllThere ns S (order target s ordered closed.laid)
  there = all_there target s ordered closed.laid

  abbrev count : ℕ
  count = length B

  count_is : count ≡ length U
  count_is = sym (length-map B untagged)

  content_none : (k : KnownStructure) → k.members ≡ None → (c k).members ≡ []
  content_none k e = ap (λ (o : Option (List Named)). unwrap_or (option_map (all_named_in ns) o) []) e

  content_some : (k : KnownStructure) (ms : List Named) → k.members ≡ Some ms → (c k).members ≡ all_named_in ns ms
  content_some k ms e = ap (λ (o : Option (List Named)). unwrap_or (option_map (all_named_in ns) o) []) e

  content_has : (k : KnownStructure) → has_members (Some (c k)) ≡ has_content k
  content_has k = by k.members refl
    where
      by : (o : Option (List Named)) → k.members ≡ o → has_members (Some (c k)) ≡ has_content k
      by None e = ap (λ (l : List Named). nat_lt 0 (length l)) (content_none k e) ∙ sym (ap (λ (o : Option (List Named)). nat_lt 0 (length (members_or_none o))) e)
      by (Some ms) e =
          ap (λ (l : List Named). nat_lt 0 (length l)) (content_some k ms e) ∙ (ap (nat_lt 0) (length-map ms (named_in ns)) ∙ sym (ap (λ (o : Option (List Named)). nat_lt 0 (length (members_or_none o))) e))

  -- ---- one that is only named

  empty_structure : (before : List Structure) (x : Structure) → x.members ≡ [] → is_structure before count target x ≡ true
  empty_structure before x e = ap (λ (l : List Named). have_ids (length l) && (are_names (local_names l) && list_all (is_member before count target) l)) e

  named_part : (before : List Structure) (js : List ℕ) → ((j : ℕ) → In j js → (k : KnownStructure) × (slice_get S j ≡ Some k) × (k.members ≡ None)) → are_structures before count target (map untagged (structures_in ns S js)) ≡ true
  named_part before [] h = refl
  named_part before (j ∷ js) h =
      let x = h j (inl refl) in
      let at = one-at ns S j x.0 x.1 in
      ap (λ (l : List UnitStructure). are_structures before count target (map untagged (l ++ flat_map (structure_at ns S) js))) at
      ∙ both (is_structure before count target (c x.0)) (are_structures (before ++ c x.0 ∷ []) count target (map untagged (structures_in ns S js))) (empty_structure before (c x.0) (content_none x.0 x.2)) (named_part (before ++ c x.0 ∷ []) js (λ i g. h i (inr g)))

  in_named : (j : ℕ) → In j N → (k : KnownStructure) × (slice_get S j ≡ Some k) × (k.members ≡ None)
  in_named j g = let r = only-in 0 S j g in (r.structure, ap (slice_get S) (r.is ∙ zero_plus target s ordered closed.laid r.at) ∙ r.there, r.none)

  -- ---- one that is complete

  module _ (front : List ℕ) (known : (j : ℕ) → is_among front j ≡ true → IsKnown (length N + length front) j) (rest : List ℕ) (i : ℕ) (e : s.completed ≡ front ++ i ∷ rest) where
    abbrev here : ℕ
    here = length N + length front

    abbrev before : List Structure
    before = take here U

    -- what is complete in front is what is among the first
    has_before : (j : ℕ) (k : KnownStructure) → slice_get S j ≡ Some k → has_members (slice_get before (number_by ns j)) ≡ (is_among front j && has_content k)
    has_before j k g = by (cases_lt (number_by ns j) here)
      where
        or_none : (b : Bool) → b && false ≡ false
        or_none true = refl
        or_none false = refl

        inside : number_by ns j < here → (b : Bool) → has_content k ≡ b → b ≡ (is_among front j && b)
        inside low false h = sym (or_none (is_among front j))
        inside low true h = among (before_middle N front rest i j (number_by ns j) low (sym (ap (λ (l : List ℕ). slice_get (N ++ l) (number_by ns j)) e) ∙ stands))
          where
            stands : slice_get (order target s ordered closed.laid) (number_by ns j) ≡ Some j
            stands = ap (slice_get (order target s ordered closed.laid)) (place_is target s ordered closed.laid j k g) ∙ (place target s ordered closed.laid j k g).there

            among : In j N ⊎ In j front → true ≡ (is_among front j && true)
            among (inl f) =
                let r = in_named j f in
                let one : r.0 ≡ k = same_known target s ordered closed.laid r.0 k (sym r.1 ∙ g) in
                absurd (true≢false (sym h ∙ ap (λ (o : Option (List Named)). nat_lt 0 (length (members_or_none o))) (ap (λ (x : KnownStructure). x.members) (sym one) ∙ r.2)))
            among (inr f) = sym (ap (λ (b : Bool). b && true) (in-among front j f))

        outside : here ≤ number_by ns j → (b : Bool) → is_among front j ≡ b → false ≡ (b && has_content k)
        outside high false h = refl
        outside high true h = let low = (known j h).low in absurd (omega (arith, low, high))

        by : (number_by ns j < here) ⊎ (here ≤ number_by ns j) → has_members (slice_get before (number_by ns j)) ≡ (is_among front j && has_content k)
        by (inl low) =
            ap has_members (take_get U here (number_by ns j) (c k) low (unit_at target s ordered closed.laid j k g)) ∙ (content_has k ∙ inside low (has_content k) refl)
        by (inr high) = ap has_members (take_past U here (number_by ns j) high) ∙ outside high (is_among front j) refl

    extents_kept : (j : ℕ) (x : Option ℕ) → extents_over target s front j ≡ Some x → extent_with before count target (number_by ns j) ≡ Some x
    extents_kept j x g = by (slice_get S j) refl g
      where
        here_by : (k : KnownStructure) → slice_get S j ≡ Some k → (a b : Bool) → is_among front j ≡ a → has_content k ≡ b → extent_with before count target (number_by ns j) ≡ Some (cond (a && b) (Some k.layout.size) None)
        here_by k f a b p q = with_test (a && b) (has_before j k f ∙ (ap (λ (z : Bool). z && has_content k) p ∙ ap (λ (z : Bool). a && z) q)) (λ t. p ∙ first a b t)
          where
            first : (a b : Bool) → a && b ≡ true → a ≡ true
            first true b h = refl
            first false b h = absurd (true≢false (sym h))

            low : nat_lt (number_by ns j) count ≡ true
            low = ap (nat_lt (number_by ns j)) count_is ∙ lt-ltb (number_by ns j) (length U) (slice_get_within U (number_by ns j) (c k) (unit_at target s ordered closed.laid j k f))

            lies : is_among front j ≡ true → slice_get (layouts target before) (number_by ns j) ≡ Some k.layout
            lies h =
                let r = known j h in
                layouts_first target U here (number_by ns j) (c r.structure) r.low (unit_at target s ordered closed.laid j r.structure r.there)
                ∙ (r.lies ∙ ap (λ (y : KnownStructure). Some y.layout) (same_known target s ordered closed.laid r.structure k (sym r.there ∙ f)))

            with_test : (t : Bool) → has_members (slice_get before (number_by ns j)) ≡ t → (t ≡ true → is_among front j ≡ true) → extent_with before count target (number_by ns j) ≡ Some (cond t (Some k.layout.size) None)
            with_test true h among =
                ap (λ (z : Bool). cond z (Some (Some (unwrap_or (slice_get (layouts target before) (number_by ns j)) nothing).size)) (cond (nat_lt (number_by ns j) count) (Some None) None)) h
                ∙ ap (λ (o : Option Layout). Some (Some (unwrap_or o nothing).size)) (lies (among refl))
            with_test false h among =
                ap (λ (z : Bool). cond z (Some (Some (unwrap_or (slice_get (layouts target before) (number_by ns j)) nothing).size)) (cond (nat_lt (number_by ns j) count) (Some None) None)) h
                ∙ ap (λ (z : Bool). cond z (Some None) None) low

        by : (o : Option KnownStructure) → slice_get S j ≡ o → option_map (λ (k : KnownStructure). cond (is_among front j && has_content k) (Some k.layout.size) None) o ≡ Some x → extent_with before count target (number_by ns j) ≡ Some x
        by None f h = absurd (cc)
        by (Some k) f h = here_by k f (is_among front j) (has_content k) refl refl ∙ h

    members_stay : (ms : List Named) → Each (λ (m : Named). is_object_type (kind_of target (extents_over target s front) m.1) ≡ true) ms → list_all (is_member before count target) (all_named_in ns ms) ≡ true
    members_stay [] h = refl
    members_stay (m ∷ ms) h =
        both (is_member before count target (named_in ns m)) (list_all (is_member before count target) (all_named_in ns ms))
        (test_kept target ns (extents_over target s front) (extent_with before count target) extents_kept is_object_type refl m.1 h.0) (members_stay ms h.1)

    whole_structure : (k : KnownStructure) (ms : List Named) → slice_get S i ≡ Some k → k.members ≡ Some ms → MembersOver target s front i → is_structure before count target (c k) ≡ true
    whole_structure k ms g n over =
        let few = all-at (λ (x : UnitStructure). are_few_names (unwrap_or x.members [])) B (place target s ordered closed.laid i k g).at (structure_in ns k) text.members
        (built-at ns S (order target s ordered closed.laid) there (place target s ordered closed.laid i k g).at i k (place target s ordered closed.laid i k g).there g) in
        let parts = both_true (have_ids (length (c k).members)) (list_all is_name (local_names (c k).members)) few in
        let apart : are_distinct (local_names (c k).members) ≡ true =
        ap (λ (l : List Named). are_distinct (local_names l)) (content_some k ms n) ∙ (ap are_distinct (names_kept ns ms) ∙ closed.apart i ms (k, g, n)) in
        let each : list_all (is_member before count target) (c k).members ≡ true =
        ap (list_all (is_member before count target)) (content_some k ms n) ∙ members_stay ms (over ms (k, g, n)) in
        both (have_ids (length (c k).members)) (are_names (local_names (c k).members) && list_all (is_member before count target) (c k).members) parts.0
        (both (are_names (local_names (c k).members)) (list_all (is_member before count target) (c k).members)
        (both (list_all is_name (local_names (c k).members)) (are_distinct (local_names (c k).members)) parts.1 apart) each)

  complete_part : (front rest : List ℕ) → s.completed ≡ front ++ rest → AreOrdered S front rest → AreOver target s front rest → ((j : ℕ) → is_among front j ≡ true → IsKnown (length N + length front) j) →
      (before : List Structure) → before ≡ take (length N + length front) U → are_structures before count target (map untagged (structures_in ns S rest)) ≡ true
  complete_part front [] e h over known before b = refl
  complete_part front (i ∷ rest) e h over known before b =
      let k = h.0.there.0 in
      let g = h.0.there.1 in
      let n = h.0.there.2 in
      let closes = step target s ordered closed.laid front known rest i e h.0 in
      ap (λ (l : List UnitStructure). are_structures before count target (map untagged (l ++ flat_map (structure_at ns S) rest))) (one-at ns S i k g)
      ∙ both (is_structure before count target (c k)) (are_structures (before ++ c k ∷ []) count target (map untagged (structures_in ns S rest)))
      (subst (λ (l : List Structure). is_structure l count target (c k) ≡ true) (sym b) (whole_structure front known rest i e k h.0.members g n over.0))
      (complete_part (front ++ i ∷ []) rest (e ∙ sym (append_assoc front (i ∷ []) rest)) h.1 over.1 more (before ++ c k ∷ []) (ap (λ (l : List Structure). l ++ c k ∷ []) b ∙ (sym (take_more U (length N + length front) (c k) (at_here k g)) ∙ ap (λ (m : ℕ). take m U) longer_is)))
    where
      at_here : (k : KnownStructure) (g : slice_get S i ≡ Some k) → slice_get U (length N + length front) ≡ Some (c k)
      at_here k g = ap (slice_get U) (sym (place_here target s ordered closed.laid front known rest i e h.0)) ∙ unit_at target s ordered closed.laid i k g

      longer_is : suc (length N + length front) ≡ length N + length (front ++ i ∷ [])
      longer_is = let l = length-append front (i ∷ []) in omega (arith, l)

      longer : length N + length front ≤ length N + length (front ++ i ∷ [])
      longer = let l = length-append front (i ∷ []) in omega (arith, l)

      one_longer : suc (length N + length front) ≤ length N + length (front ++ i ∷ [])
      one_longer = let l = length-append front (i ∷ []) in omega (arith, l)

      more : (j : ℕ) → is_among (front ++ i ∷ []) j ≡ true → IsKnown (length N + length (front ++ i ∷ [])) j
      more j g = by (in-cases front (i ∷ []) j (among-in (front ++ i ∷ []) j g))
        where
          by : In j front ⊎ In j (i ∷ []) → IsKnown (length N + length (front ++ i ∷ [])) j
          by (inl f) = wider target s ordered closed.laid (length N + length front) (length N + length (front ++ i ∷ [])) j longer (known j (in-among front j f))
          by (inr (inl f)) = subst (λ (n : ℕ). IsKnown (length N + length (front ++ i ∷ [])) n) f
              (wider target s ordered closed.laid (suc (length N + length front)) (length N + length (front ++ i ∷ [])) i one_longer (step target s ordered closed.laid front known rest i e h.0))
          by (inr (inr f)) = absurd f

  -- ---- all of them

  first_part : List Structure
  first_part = map untagged (structures_in ns S N)

  unit_parts : U ≡ map untagged (structures_in ns S N) ++ map untagged (structures_in ns S s.completed)
  unit_parts = ap (map untagged) (flat_parts (structure_at ns S) N s.completed) ∙ map-append untagged (structures_in ns S N) (structures_in ns S s.completed)

  named_there : AllThere ns S N
  named_there j g = let r = in_named j g in (r.0, r.1)

  named_length : length (map untagged (structures_in ns S N)) ≡ length N
  named_length = length-map (structures_in ns S N) untagged ∙ built-length ns S N named_there

  first_are : map untagged (structures_in ns S N) ≡ take (length N + 0) U
  first_are =
      sym (take_front (map untagged (structures_in ns S N)) (map untagged (structures_in ns S s.completed)))
      ∙ (ap (λ (n : ℕ). take n (map untagged (structures_in ns S N) ++ map untagged (structures_in ns S s.completed))) (named_length ∙ plus (length N)) ∙ ap (take (length N + 0)) (sym unit_parts))
    where
      plus : (n : ℕ) → n ≡ n + 0
      plus n = omega arith

  pub all_stand : are_structures [] count target U ≡ true
  all_stand =
      ap (are_structures [] count target) unit_parts
      ∙ structures_parts target count [] (map untagged (structures_in ns S N)) (map untagged (structures_in ns S s.completed)) (named_part [] N in_named)
      (complete_part [] s.completed refl ordered.order closed.over (λ j g. absurd (true≢false (sym g))) (map untagged (structures_in ns S N)) first_are)

  -- ---- each that is complete has members

  has_some : (js : List ℕ) → AllThere ns S js → (x : UnitStructure) → In x (structures_in ns S js) → HasSome x
  has_some [] each x h = absurd h
  has_some (j ∷ js) each x h =
      let y = each j (inl refl) in
      by y (subst (λ (l : List UnitStructure). In x (l ++ flat_map (structure_at ns S) js)) (one-at ns S j y.0 y.1) h) (has_some js (λ i g. each i (inr g)) x)
    where
      some_of : (k : KnownStructure) → slice_get S j ≡ Some k → HasSome (structure_in ns k)
      some_of k e = by_members k.members refl
        where
          by_members : (o : Option (List Named)) → k.members ≡ o → HasSome (structure_in ns k)
          by_members None n h = absurd (true≢false (sym h ∙ ap (λ (o : Option (List Named)). is_some (option_map (all_named_in ns) o)) n))
          by_members (Some ms) n h =
              let low = ltb-true 0 (length ms) (closed.some j ms (k, e, n)) in
              let same : length (c k).members ≡ length ms = ap length (content_some k ms n) ∙ length-map ms (named_in ns) in
              omega (arith, low, same)

      by : (y : (k : KnownStructure) × (slice_get S j ≡ Some k)) → In x (structure_in ns y.0 ∷ flat_map (structure_at ns S) js) → (In x (structures_in ns S js) → HasSome x) → HasSome x
      by y (inl e) rest = subst HasSome e (some_of y.0 y.1)
      by y (inr g) rest = rest g

  pub left_standing : AreStanding target (unit_left s)
  left_standing = record {
    structures = all_stand;
    members = all-in HasSome B (has_some (order target s ordered closed.laid) there);
  }
