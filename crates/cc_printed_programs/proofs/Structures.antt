-- The structures of one unit that are a program's: each is a type of its own, and they have the program's order and numbers (C99
-- 6.2.7, 1).
use Rattle.std.proofs.Common.{◌≡◌, ◌∙◌, ◌⊎◌, inl, inr, ◌+◌, ◌<◌, ℕ, suc, Bool, true, false, not, List, [], ◌∷◌, ◌++◌, length, map, zip, Some, is_some, unwrap_or, slice_get, filter, refl, ap, sym, subst, arith, append-nil}
use Rattle.std.specs.Prelude.{nat_eq, Contains}
use Rattle.std.specs.List.{list_any}
use Rattle.std.proofs.lemmas.Bool.{ne_eqb}
use Rattle.cc_names.specs.Names.{Wish, Own, numbers_from}
use Rattle.cc_linked_names.specs.Given.{tag_wish}
use Rattle.cc_link.specs.Linked.{structure_of}
use Rattle.cc_program.specs.declared.types.CType.{CType}
use Rattle.cc_program.specs.declared.types.Structure.{Structure}
use Rattle.cc_relocation.specs.Relocated.{member_with}
use Rattle.cc_structures.specs.Structures.{Known, Numbering, known_in, structures, number_of, numbers_of, has_one_number, firsts_of, HavePositions, is_complete, in_program_order, IsSame, IsMatching, LooksTheSame, MayBeOne, IsOne, Fits, AreAboveZero, AreNumbered}
use Rattle.cc_structures.proofs.Elements.{In, in-of}
use Rattle.cc_structures.proofs.OrderLemmas.{filter-all}
use Rattle.cc_type.specs.CcSyntax.Lists.{come_first}
use Rattle.cc_type.specs.CcSyntax.Sound.{is_only_named}
use Rattle.cc_type.specs.CcSyntax.Types.{Named}
use Rattle.cc_type.specs.CcUnit.Renumbered.{structure_by, type_renumbered}
use Rattle.cc_type.specs.CcUnit.declared.unit.TypedUnit.{TypedUnit}
use Rattle.cc_type.specs.CcUnit.declared.unit.UnitStructure.{UnitStructure}
use Rattle.cc_printed_programs.specs.Units.{members_shown, structure_shown}
use Rattle.cc_printed_programs.proofs.ShownLists.{within, first-then, filter-same}
use Rattle.cc_printed_programs.proofs.Ranges.{length-numbers, get-number}

pub record IsKnownAt (i : ℕ) (xs : List UnitStructure) (s : Known) : Type 0 where
  pub text : s.text ≡ 0
  pub at : ℕ
  pub position : s.position ≡ i + at
  pub there : slice_get xs at ≡ Some s.structure

known-at : (i : ℕ) (xs : List UnitStructure) (s : Known) → In s (known_in 0 i xs) → IsKnownAt i xs s
known-at i [] s h = absurd h
known-at i (x ∷ xs) s (inl e) =
    let p = ap (λ (k : Known). k.position) e in
    let q : s.position ≡ i + 0 = omega (arith, p) in
    record { text = sym (ap (λ (k : Known). k.text) e); at = 0; position = q; there = ap (λ (k : Known). Some k.structure) e }
known-at i (x ∷ xs) s (inr h) =
    let r = known-at (suc i) xs s h in
    let p = r.position in
    let q : s.position ≡ i + suc r.at = omega (arith, p) in
    record { text = r.text; at = suc r.at; position = q; there = r.there }

-- numbers of one unit, from one on
abbrev pub numbered_by : ℕ → List UnitStructure → Numbering
numbered_by a xs = numbers_from a (length xs) ∷ []

number-is : (a : ℕ) (xs : List UnitStructure) (s : Known) → In s (known_in 0 0 xs) → number_of (numbered_by a xs) s ≡ a + s.position
number-is a xs s h =
    let r = known-at 0 xs s h in
    let low = within xs r.at s.structure r.there in
    let p = r.position in
    ap (λ (t : ℕ). structure_by (slice_get (numbers_of (numbered_by a xs) t) s.position)) r.text
    ∙ ap structure_by (get-number a (length xs) s.position (a + s.position) (omega (arith, low, p)) refl)

-- ---- one unit

module _ (u : TypedUnit) where
  abbrev units : List TypedUnit
  units = u ∷ []

  abbrev pub all_known : List Known
  all_known = known_in 0 0 u.structures

  pub own : structures units ≡ all_known
  unfolding structures
  own = append-nil all_known

  inside : (s : Known) → Contains (structures units) s → In s all_known
  inside s c = subst (λ (ks : List Known). In s ks) own (in-of (structures units) s c)

  abbrev pub own_numbering : Numbering
  own_numbering = numbered_by 0 u.structures

  abbrev from_one : Numbering
  from_one = numbered_by 1 u.structures

  fit : (a : ℕ) → Fits units (numbered_by a u.structures)
  fit a = ap (λ (n : ℕ). n ∷ []) (length-numbers a (length u.structures))

  above : AreAboveZero units from_one
  above s c = let e = number-is 1 u.structures s (inside s c) in omega (arith, e)

  one-place : (a : ℕ) (s t : Known) → Contains (structures units) s → Contains (structures units) t → has_one_number (numbered_by a u.structures) s t → s.position ≡ t.position
  one-place a s t c d h =
      let e = number-is a u.structures s (inside s c) in
      let f = number-is a u.structures t (inside t d) in
      omega (arith, e, f, h)

  one-text : (s t : Known) → Contains (structures units) s → Contains (structures units) t → s.text ≡ t.text
  one-text s t c d = (known-at 0 u.structures s (inside s c)).text ∙ sym (known-at 0 u.structures t (inside t d)).text

  same-number : (a : ℕ) (s t : Known) → Contains (structures units) s → Contains (structures units) t → s.position ≡ t.position → has_one_number (numbered_by a u.structures) s t
  same-number a s t c d h = number-is a u.structures s (inside s c) ∙ (ap (λ (k : ℕ). a + k) h ∙ sym (number-is a u.structures t (inside t d)))

  matching : IsMatching units (MayBeOne units) from_one
  matching s t c d h = inl (one-text s t c d, one-place 1 s t c d h)

  one-type : (s t : Known) → Contains (structures units) s → Contains (structures units) t → has_one_number own_numbering s t → IsOne units s t
  one-type s t c d h = (from_one, (fit 1, (above, (matching, same-number 1 s t c d (one-place 0 s t c d h)))))

  type-one : (s t : Known) → Contains (structures units) s → Contains (structures units) t → IsOne units s t → has_one_number own_numbering s t
  type-one s t c d m = by (m.1.1.1.0 s t c d m.1.1.1.1)
    where
      by : IsSame s t ⊎ (MayBeOne units s t × LooksTheSame m.0 s t) → has_one_number own_numbering s t
      by (inl e) = same-number 0 s t c d e.1
      by (inr k) = absurd (k.0.0 (one-text s t c d))

  -- ---- in their order

  placed : (i : ℕ) (xs : List UnitStructure) → i + length xs ≡ length u.structures → HavePositions own_numbering i (known_in 0 i xs)
  placed i [] h = tt
  placed i (x ∷ xs) h = (ap structure_by (get-number 0 (length u.structures) i i (omega (arith, h)) (omega arith)), placed (suc i) xs (omega (arith, h)))

  pub positions : HavePositions own_numbering 0 all_known
  positions = placed 0 u.structures (omega arith)

  behind : (i : ℕ) (ks : List Known) (t : Known) → HavePositions own_numbering (suc i) ks → In t ks → i < number_of own_numbering t
  behind i [] t h k = absurd k
  behind i (s ∷ ks) t h (inl e) =
      let p = h.0 in
      let q : number_of own_numbering t ≡ suc i = sym (ap (number_of own_numbering) e) ∙ p in
      omega (arith, q)
  behind i (s ∷ ks) t h (inr k) = let r = behind (suc i) ks t h.1 k in omega (arith, r)

  pub all-first : (i : ℕ) (ks : List Known) → HavePositions own_numbering i ks → firsts_of own_numbering ks ≡ ks
  all-first i [] h = refl
  all-first i (s ∷ ks) h =
      let rest = all-first (suc i) ks h.1 in
      let p = h.0 in
      ap (λ (xs : List Known). s ∷ filter (λ (t : Known). not (nat_eq (number_of own_numbering s) (number_of own_numbering t))) xs) rest
      ∙ ap (λ (xs : List Known). s ∷ xs) (filter-all (λ (t : Known). not (nat_eq (number_of own_numbering s) (number_of own_numbering t))) ks
      (λ t k. let low = behind i ks t h.1 k in ap not (ne_eqb (number_of own_numbering s) (number_of own_numbering t) (λ e. omega (arith, low, e, p)))))

-- ---- those of a program

named-shown : (ms : List Named) → not (is_some (members_shown ms)) ≡ nat_eq (length ms) 0
named-shown [] = refl
named-shown (m ∷ ms) = sym (ne_eqb (length (m ∷ ms)) 0 (λ e. omega (arith, e)))

any-known : (i : ℕ) (ss : List Structure) → list_any (λ (s : Known). not (is_complete s)) (known_in 0 i (map structure_shown ss)) ≡ list_any is_only_named ss
any-known i [] = refl
any-known i (s ∷ ss) = rw (named-shown s.members, any-known (suc i) ss) refl

first-known : (i : ℕ) (ss : List Structure) → come_first (λ (s : Known). not (is_complete s)) (known_in 0 i (map structure_shown ss)) ≡ come_first is_only_named ss
first-known i [] = refl
first-known i (s ∷ ss) = rw (named-shown s.members, any-known (suc i) ss, first-known (suc i) ss) refl

not-not : (b : Bool) → not (not b) ≡ b
not-not true = refl
not-not false = refl

module _ (u : TypedUnit) (ss : List Structure) (are : u.structures ≡ map structure_shown ss) (first : come_first is_only_named ss ≡ true) where
  ordered : in_program_order (u ∷ []) ≡ all_known u
  ordered =
      let f : come_first (λ (s : Known). not (is_complete s)) (all_known u) ≡ true = ap (λ (xs : List UnitStructure). come_first (λ (s : Known). not (is_complete s)) (known_in 0 0 xs)) are ∙ (first-known 0 ss ∙ first) in
      ap (λ (ks : List Known). filter (λ (s : Known). not (is_complete s)) ks ++ filter is_complete ks) (own u)
      ∙ (ap (λ (ks : List Known). filter (λ (s : Known). not (is_complete s)) (all_known u) ++ ks) (sym (filter-same (λ (s : Known). not (not (is_complete s))) is_complete (all_known u) (λ s. not-not (is_complete s))))
      ∙ first-then (λ (s : Known). not (is_complete s)) (all_known u) f)

  pub are_numbered : AreNumbered (u ∷ []) (own_numbering u) (all_known u)
  are_numbered = record {
    each = fit u 0;
    one = λ s t c d. (one-type u s t c d, type-one u s t c d);
    first = sym (ap (firsts_of (own_numbering u)) ordered ∙ all-first u 0 (all_known u) (positions u));
    position = positions u;
  }

-- ---- as the program has them

pub tags-wished : (i : ℕ) (ss : List Structure) → map tag_wish (known_in 0 i (map structure_shown ss)) ≡ map Own (map (λ (s : Structure). s.tag) ss)
tags-wished i [] = refl
tags-wished i (s ∷ ss) = ap (λ (ws : List Wish). Own s.tag ∷ ws) (tags-wished (suc i) ss)

shown-members : (ms : List Named) → unwrap_or (members_shown ms) [] ≡ ms
shown-members [] = refl
shown-members (m ∷ ms) = refl

module _ (numbers : List ℕ) where
  -- each type is as it was
  abbrev pub MembersStay : List Structure → Type 0
  MembersStay ss = (s : Structure) → In s ss → (m : Named) → In m s.members → type_renumbered numbers m.1 ≡ m.1

  members-stay : (ms : List Named) → ((m : Named) → In m ms → type_renumbered numbers m.1 ≡ m.1) → map (member_with numbers) ms ≡ ms
  members-stay [] h = refl
  members-stay (m ∷ ms) h =
      ap (λ (t : CType). (m.0, t) ∷ map (member_with numbers) ms) (h m (inl refl))
      ∙ ap (λ (ns : List Named). m ∷ ns) (members-stay ms (λ n k. h n (inr k)))

  pub structures-made : (i : ℕ) (ss : List Structure) → MembersStay ss → map (structure_of (numbers ∷ [])) (zip (map (λ (s : Structure). s.tag) ss) (known_in 0 i (map structure_shown ss))) ≡ ss
  structures-made i [] h = refl
  structures-made i (s ∷ ss) h =
      let here : map (member_with numbers) (unwrap_or (members_shown s.members) []) ≡ s.members = ap (map (member_with numbers)) (shown-members s.members) ∙ members-stay s.members (λ m k. h s (inl refl) m k) in
      let rest = structures-made (suc i) ss (λ t k. h t (inr k)) in
      ap (λ (ms : List Named). record { tag = s.tag; members = ms } ∷ map (structure_of (numbers ∷ [])) (zip (map (λ (s : Structure). s.tag) ss) (known_in 0 (suc i) (map structure_shown ss)))) here
      ∙ ap (λ (ts : List Structure). s ∷ ts) rest
