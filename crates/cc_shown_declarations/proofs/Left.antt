-- In the unit that is left the structures of a program have the program's order: those that are only named stand in front there, as
-- in the program, and none of them is announced; the others follow as their braces are closed.
use Rattle.std.proofs.Common.{◌≡◌, ◌<◌, ◌≤◌, ◌+◌, ℕ, zero, suc, Bool, true, false, not, ◌||◌, ◌&&◌, List, [], ◌∷◌, ◌++◌, map, length, take, Option, Some, None, refl, ap, sym, ◌∙◌, subst, slice_get, nat_eq, nat_lt, arith}
use Rattle.std.proofs.lemmas.Bool.Decides.{nat_tests}
use Rattle.std.proofs.lemmas.List.{append-nil, length-map, take_all}
use Rattle.std.proofs.lemmas.List.Elements.{filter-append}
use Rattle.std.proofs.lemmas.Option.{slice_get-map, slice_get_within}
use Rattle.std.specs.Prelude.{if◌then◌else◌, is_some, option_map, option_to_list, cond}
use Rattle.std.specs.List.{list_any, filter}
use Rattle.cc_type.specs.CcNumbering.Numbers.{only_named as left_named, order_of, place_from, places_from, numbers_of}
use Rattle.cc_type.specs.CcNumbering.Structures.{structure_in, structures_in, all_named_in}
use Rattle.cc_print.specs.Units.{or_else, member_naming, first_naming, is_in_parameters}
use Rattle.cc_program.specs.declared.program.Program.{Program}
use Rattle.cc_program.specs.declared.types.CType.{CType}
use Rattle.cc_program.specs.declared.types.Structure.{Structure}
use Rattle.cc_type.specs.CcScopes.State.{KnownStructure, only_named}
use Rattle.cc_shown_expressions.specs.Numbers.{named_numbered}
use Rattle.cc_type.specs.CcSyntax.Lists.{come_first}
use Rattle.cc_type.specs.CcSyntax.Sound.{IsSound, is_only_named}
use Rattle.cc_type.specs.CcSyntax.Types.{Named, has_members}
use Rattle.cc_type.proofs.CcSyntax.Prefixes.{get_taken}
use Rattle.cc_type.specs.CcUnit.Renumbered.{structure_by}
use Rattle.cc_type.specs.CcUnit.declared.unit.UnitStructure.{UnitStructure}
use Rattle.cc_shown_declarations.specs.Left.{structure_left}
use Rattle.cc_shown_declarations.specs.Order.{base_of, is_among, with_first, with_base, with_members, announced_from, order_before, appearance, structure_number, place_in}
use Rattle.cc_shown_declarations.specs.States.{whole_structure, known_by, known_as, completed_from, first_state}
use Rattle.cc_shown_declarations.proofs.Announced.{take-more, base-keeps, earlier-names}
use Rattle.cc_shown_declarations.proofs.Back.{ComesBack, type-back}
use Rattle.cc_shown_declarations.proofs.Closed.{order-apart}
use Rattle.cc_shown_declarations.proofs.Front.{front-of, order-next, order-whole}
use Rattle.cc_shown_declarations.proofs.Orders.{Apart, FirstIs, Old, New, first-is, first-keeps, or-cases, same, self, place-there}
use Rattle.cc_shown_declarations.proofs.Structures.{front}

-- ---- lists

or-both : (a b : Bool) → (a || b) ≡ false → (a ≡ false) × (b ≡ false)
or-both false b h = (refl, h)
or-both true b h = absurd (cc)

or-second : (a b : Bool) → b ≡ true → (a || b) ≡ true
or-second true b h = refl
or-second false b h = h

not-true : (b : Bool) → not b ≡ true → b ≡ false
not-true false h = refl
not-true true h = absurd (cc)

never : true ≡ false → ⊥
never e = absurd (cc)

among-filter : (test : ℕ → Bool) (j : ℕ) (xs : List ℕ) → is_among j (filter test xs) ≡ true → is_among j xs ≡ true
among-filter test j [] h = h
among-filter test j (x ∷ xs) h = by (test x) (λ k. among-filter test j xs k) h
  where
    by : (b : Bool) → (is_among j (filter test xs) ≡ true → is_among j xs ≡ true) → is_among j (cond b (x ∷ filter test xs) (filter test xs)) ≡ true → (nat_eq j x || is_among j xs) ≡ true
    by true next k =
        or-cases (nat_eq j x) (is_among j (filter test xs)) ((nat_eq j x || is_among j xs) ≡ true) k (λ e. ap (λ (b : Bool). b || is_among j xs) e) (λ l. or-second (nat_eq j x) (is_among j xs) (next l))
    by false next k = or-second (nat_eq j x) (is_among j xs) (next k)

-- ---- which places of an order a list of structures without members has

module _ (known : ℕ → KnownStructure) (test : ℕ → Bool) where
  abbrev Tells : List ℕ → Type 0
  Tells xs = (j : ℕ) → is_among j xs ≡ true → is_some (known j).members ≡ not (test j)

  shifted : (n x : ℕ) (rest js : List ℕ) → ((j : ℕ) → is_among j js ≡ true → nat_eq j x ≡ false) → map (λ j. suc n + place_in j rest) js ≡ map (λ j. n + place_in j (x ∷ rest)) js
  shifted n x rest [] h = refl
  shifted n x rest (j ∷ js) h =
      let z : suc n + place_in j rest ≡ n + suc (place_in j rest) = omega arith in
      let own : nat_eq j x ≡ false = h j (ap (λ (b : Bool). b || is_among j js) (self j)) in
      ap (λ k. k ∷ map (λ j. suc n + place_in j rest) js) (z ∙ sym (ap (λ (b : Bool). n + (if b then 0 else suc (place_in j rest))) own))
      ∙ ap (λ ks. (n + place_in j (x ∷ rest)) ∷ ks) (shifted n x rest js (λ i k. h i (or-second (nat_eq i j) (is_among i js) k)))

  others : (x : ℕ) (rest : List ℕ) → is_among x rest ≡ false → (j : ℕ) → is_among j (filter test rest) ≡ true → nat_eq j x ≡ false
  others x rest a j h = by (nat_eq j x) refl
    where
      by : (b : Bool) → nat_eq j x ≡ b → b ≡ false
      by false e = refl
      by true e = absurd (never (sym (among-filter test j rest h) ∙ ap (λ k. is_among k rest) (same j x e) ∙ a))

  named-by : (n x : ℕ) (rest : List ℕ) (b : Bool) → test x ≡ b → is_some (known x).members ≡ not b → is_among x rest ≡ false → left_named (suc n) (map known rest) ≡ map (λ j. suc n + place_in j rest) (filter test rest) →
      left_named n (map known (x ∷ rest)) ≡ map (λ j. n + place_in j (x ∷ rest)) (cond b (x ∷ filter test rest) (filter test rest))
  named-by n x rest true e k a next =
      let own : n ≡ n + place_in x (x ∷ rest) = sym (ap (λ (b : Bool). n + (if b then 0 else suc (place_in x rest))) (self x) ∙ plus-none) in
      ap (λ (b : Bool). (if b then [] else n ∷ []) ++ left_named (suc n) (map known rest)) k
      ∙ ap (λ ks. n ∷ ks) (next ∙ shifted n x rest (filter test rest) (others x rest a))
      ∙ ap (λ m. m ∷ map (λ j. n + place_in j (x ∷ rest)) (filter test rest)) own
    where
      plus-none : n + 0 ≡ n
      plus-none = omega arith
  named-by n x rest false e k a next =
      ap (λ (b : Bool). (if b then [] else n ∷ []) ++ left_named (suc n) (map known rest)) k
      ∙ next ∙ shifted n x rest (filter test rest) (others x rest a)

  pub named-places : (n : ℕ) (xs : List ℕ) → Tells xs → Apart xs → left_named n (map known xs) ≡ map (λ j. n + place_in j xs) (filter test xs)
  named-places n [] h a = refl
  named-places n (x ∷ xs) h a =
      named-by n x xs (test x) refl (h x (ap (λ (b : Bool). b || is_among x xs) (self x))) a.0
      (named-places (suc n) xs (λ j k. h j (or-second (nat_eq j x) (is_among j xs) k)) a.1)

-- ---- structures that are only named stand in front

taken-length : (ss : List Structure) (k : ℕ) (s : Structure) → slice_get ss k ≡ Some s → length (take k ss) ≡ k
taken-length [] k s e = absurd (cc)
taken-length (t ∷ ts) zero s e = refl
taken-length (t ∷ ts) (suc k) s e = ap suc (taken-length ts k s e)

bare-members : (s : Structure) → is_only_named s ≡ true → s.members ≡ []
bare-members s h = by s.members h
  where
    by : (ms : List Named) → nat_eq (length ms) 0 ≡ true → ms ≡ []
    by [] k = refl
    by (m ∷ ms) k = absurd (let g : nat_eq (suc (length ms)) 0 ≡ false = grind (arith, nat_tests) in never (sym k ∙ g))

bare-not : (s : Structure) → is_only_named s ≡ not (has_members (Some s))
bare-not s = by s.members
  where
    by : (ms : List Named) → nat_eq (length ms) 0 ≡ not (nat_lt 0 (length ms))
    by [] = refl
    by (m ∷ ms) =
        let a : nat_eq (suc (length ms)) 0 ≡ false = grind (arith, nat_tests) in
        let b : nat_lt 0 (suc (length ms)) ≡ true = grind (arith, nat_tests) in
        a ∙ sym (ap not b)

not-none : (b : Bool) → not b ≡ false → b ≡ true
not-none true h = refl
not-none false h = absurd (cc)

full-members : (s : Structure) → is_only_named s ≡ false → has_members (Some s) ≡ true
full-members s h = not-none (has_members (Some s)) (sym (bare-not s) ∙ h)

bare-none : (s : Structure) → is_only_named s ≡ true → has_members (Some s) ≡ false
bare-none s h = not-true (has_members (Some s)) (sym (bare-not s) ∙ h)

any-at : (ss : List Structure) (j : ℕ) (t : Structure) → list_any is_only_named ss ≡ false → slice_get ss j ≡ Some t → is_only_named t ≡ false
any-at [] j t h e = absurd (cc)
any-at (s ∷ ss) zero t h e = let is : s ≡ t = cc in ap is_only_named (sym is) ∙ (or-both (is_only_named s) (list_any is_only_named ss) h).0
any-at (s ∷ ss) (suc j) t h e = any-at ss j t (or-both (is_only_named s) (list_any is_only_named ss) h).1 e

abbrev first_if : Bool → List Structure → Bool
first_if b ss = if b then come_first is_only_named ss else not (list_any is_only_named ss)

-- behind one that has members each has some
later : (ss : List Structure) (k j : ℕ) (s t : Structure) → come_first is_only_named ss ≡ true → slice_get ss k ≡ Some s → is_only_named s ≡ false → k ≤ j → slice_get ss j ≡ Some t → is_only_named t ≡ false
later [] k j s t h e f l g = absurd (cc)
later (r ∷ rs) k j s t h e f l g = by (is_only_named r) refl (λ k j c e l g. later rs k j s t c e f l g) k j e l g
  where
    by : (b : Bool) → is_only_named r ≡ b → ((k j : ℕ) → come_first is_only_named rs ≡ true → slice_get rs k ≡ Some s → k ≤ j → slice_get rs j ≡ Some t → is_only_named t ≡ false) → (k j : ℕ) → slice_get (r ∷ rs) k ≡ Some s → k ≤ j → slice_get (r ∷ rs) j ≡ Some t → is_only_named t ≡ false
    by true o next zero j e l g = absurd (let is : r ≡ s = cc in never (sym o ∙ ap is_only_named is ∙ f))
    by true o next (suc k) zero e l g = absurd (omega (arith, l))
    by true o next (suc k) (suc j) e l g = next k j (sym (ap (λ (b : Bool). first_if b rs) o) ∙ h) e (omega (arith, l)) g
    by false o next k j e l g =
        any-at (r ∷ rs) j t (ap (λ (b : Bool). b || list_any is_only_named rs) o ∙ not-true (list_any is_only_named rs) (sym (ap (λ (b : Bool). first_if b rs) o) ∙ h)) g

no-naming : (i : ℕ) (ts : List Structure) → ((j : ℕ) (t : Structure) → slice_get ts j ≡ Some t → is_only_named t ≡ true) → first_naming i ts ≡ None
no-naming i [] h = refl
no-naming i (t ∷ ts) h =
    ap (λ (ms : List Named). or_else (member_naming i ms) (first_naming i ts)) (bare-members t (h 0 t refl))
    ∙ no-naming i ts (λ j u e. h (suc j) u e)

module _ (p : Program) (sound : IsSound p) where
  abbrev number : ℕ → ℕ
  number i = structure_number p i

  abbrev count : ℕ
  count = length p.structures

  abbrev bare_by : Option Structure → Bool
  bare_by None = false
  bare_by (Some s) = is_only_named s

  abbrev bare : ℕ → Bool
  bare i = bare_by (slice_get p.structures i)

  abbrev bare_from : ℕ → List Structure → List ℕ
  bare_from i [] = []
  bare_from i (s ∷ ss) = if is_only_named s then i ∷ bare_from (suc i) ss else bare_from (suc i) ss

  -- the unit's numbers of all, in the program's order
  abbrev pub all_numbers : ℕ → List Structure → List ℕ
  all_numbers i [] = []
  all_numbers i (s ∷ ss) = number i ∷ all_numbers (suc i) ss

  -- ---- none of them is announced

  in-front-bare : (i j : ℕ) (s t : Structure) → slice_get p.structures i ≡ Some s → is_only_named s ≡ true → j < i → slice_get p.structures j ≡ Some t → is_only_named t ≡ true
  in-front-bare i j s t e h l g = by (is_only_named t) refl
    where
      by : (b : Bool) → is_only_named t ≡ b → b ≡ true
      by true k = refl
      by false k = absurd (never (sym h ∙ later p.structures j i t s sound.order g k (omega (arith, l)) e))

  announced-full : (i : ℕ) (s : Structure) → slice_get p.structures i ≡ Some s → is_in_parameters (first_naming i (take i p.structures)) ≡ true → is_only_named s ≡ false
  announced-full i s e h = by (is_only_named s) refl
    where
      by : (b : Bool) → is_only_named s ≡ b → b ≡ false
      by false k = refl
      by true k =
          let none = no-naming i (take i p.structures) (λ j t g. let q = get_taken p.structures i j t g in in-front-bare i j s t e k q.0 q.1) in
          absurd (never (sym h ∙ ap is_in_parameters none))

  announced-by : (i : ℕ) (b : Bool) (rest : List ℕ) → (b ≡ true → bare i ≡ false) → filter bare rest ≡ [] → filter bare (if b then i ∷ rest else rest) ≡ []
  announced-by i false rest f h = h
  announced-by i true rest f h = ap (λ (c : Bool). cond c (i ∷ filter bare rest) (filter bare rest)) (f refl) ∙ h

  none-announced : (i : ℕ) (rest : List Structure) → ((j : ℕ) (t : Structure) → slice_get rest j ≡ Some t → slice_get p.structures (i + j) ≡ Some t) → filter bare (announced_from p.structures i rest) ≡ []
  none-announced i [] f = refl
  none-announced i (s ∷ rest) f =
      let z : i + 0 ≡ i = omega arith in
      let here : slice_get p.structures i ≡ Some s = ap (slice_get p.structures) (sym z) ∙ f 0 s refl in
      announced-by i (is_in_parameters (first_naming i (take i p.structures))) (announced_from p.structures (suc i) rest)
      (λ h. ap bare_by here ∙ announced-full i s here h)
      (none-announced (suc i) rest (λ j t e. let y : suc i + j ≡ i + suc j = omega arith in ap (slice_get p.structures) y ∙ f (suc j) t e))

  -- ---- they stand in the order as in the program

  -- one that is there already or has members
  abbrev AllThere : List ℕ → Type 0
  AllThere order = (j : ℕ) → bare j ≡ true → is_among j order ≡ true

  first-kept : (i : ℕ) (order : List ℕ) → (bare i ≡ true → is_among i order ≡ true) → filter bare (with_first i order) ≡ filter bare order
  first-kept i order h = by (first-is i order)
    where
      last : (b : Bool) → bare i ≡ b → is_among i order ≡ false → cond b (i ∷ []) [] ≡ []
      last false e k = refl
      last true e k = absurd (never (sym (h e) ∙ k))

      by : FirstIs i order → filter bare (with_first i order) ≡ filter bare order
      by (Old k w) = ap (filter bare) w
      by (New k w) = ap (filter bare) w ∙ filter-append bare order (i ∷ []) ∙ ap (λ xs. filter bare order ++ xs) (last (bare i) refl k) ∙ append-nil (filter bare order)

  base-kept : (o : Option ℕ) (order : List ℕ) → AllThere order → filter bare (with_base o order) ≡ filter bare order
  base-kept None order h = refl
  base-kept (Some i) order h = first-kept i order (h i)

  members-kept : (ls : List Named) (order : List ℕ) → AllThere order → filter bare (with_members ls order) ≡ filter bare order
  members-kept [] order h = refl
  members-kept (l ∷ ls) order h =
      members-kept ls (with_base (base_of l.1) order) (λ j k. base-keeps p (base_of l.1) j order (h j k)) ∙ base-kept (base_of l.1) order h

  bare-append : (i : ℕ) (ss : List Structure) (s : Structure) (n : ℕ) → n ≡ i + length ss → bare_from i (ss ++ s ∷ []) ≡ bare_from i ss ++ (if is_only_named s then n ∷ [] else [])
  bare-append i [] s n e = let is : i ≡ n = omega (arith, e) in ap (λ k. if is_only_named s then k ∷ [] else []) is
  bare-append i (t ∷ ts) s n e =
      ap (λ ks. if is_only_named t then i ∷ ks else ks) (bare-append (suc i) ts s n (omega (arith, e))) ∙ by (is_only_named t)
    where
      by : (b : Bool) → (if b then i ∷ (bare_from (suc i) ts ++ (if is_only_named s then n ∷ [] else [])) else bare_from (suc i) ts ++ (if is_only_named s then n ∷ [] else []))
          ≡ (if b then i ∷ bare_from (suc i) ts else bare_from (suc i) ts) ++ (if is_only_named s then n ∷ [] else [])
      by true = refl
      by false = refl

  -- those of the first so many are below
  bare-below : (k i : ℕ) (ss : List Structure) (n : ℕ) → i + length ss ≤ k → k ≤ n → is_among n (bare_from i ss) ≡ false
  bare-below k i [] n h l = refl
  bare-below k i (s ∷ ss) n h l = by (is_only_named s) (bare-below k (suc i) ss n (omega (arith, h)) l)
    where
      by : (b : Bool) → is_among n (bare_from (suc i) ss) ≡ false → is_among n (if b then i ∷ bare_from (suc i) ss else bare_from (suc i) ss) ≡ false
      by false rest = rest
      by true rest = let other : nat_eq n i ≡ false = grind (arith, nat_tests, h, l) in ap (λ (b : Bool). b || is_among n (bare_from (suc i) ss)) other ∙ rest

  in-filter : (j : ℕ) (xs : List ℕ) → bare j ≡ true → is_among j xs ≡ true → is_among j (filter bare xs) ≡ true
  in-filter j [] h k = absurd (cc)
  in-filter j (x ∷ xs) h k = by (nat_eq j x) refl (λ l. in-filter j xs h l) k
    where
      second : (c : Bool) → is_among j (filter bare xs) ≡ true → is_among j (cond c (x ∷ filter bare xs) (filter bare xs)) ≡ true
      second true l = or-second (nat_eq j x) (is_among j (filter bare xs)) l
      second false l = l

      by : (b : Bool) → nat_eq j x ≡ b → (is_among j xs ≡ true → is_among j (filter bare xs) ≡ true) → (b || is_among j xs) ≡ true → is_among j (cond (bare x) (x ∷ filter bare xs) (filter bare xs)) ≡ true
      by true e next l =
          let own : bare x ≡ true = ap bare (sym (same j x e)) ∙ h in
          ap (λ (c : Bool). is_among j (cond c (x ∷ filter bare xs) (filter bare xs))) own ∙ ap (λ (b : Bool). b || is_among j (filter bare xs)) e
      by false e next l = second (bare x) (next l)

  module _ (k : ℕ) (s : Structure) (there : slice_get p.structures k ≡ Some s) where
    abbrev before : List ℕ
    before = order_before p k

    within-all : k ≤ length p.structures
    within-all = let h = slice_get_within p.structures k s there in omega (arith, h)

    short : length (take k p.structures) ≡ k
    short = taken-length p.structures k s there

    more : bare_from 0 (take (suc k) p.structures) ≡ bare_from 0 (take k p.structures) ++ (if is_only_named s then k ∷ [] else [])
    more = ap (bare_from 0) (take-more p.structures k s there) ∙ bare-append 0 (take k p.structures) s k (omega (arith, short))

    -- it is only named
    bare-next : is_only_named s ≡ true → filter bare before ≡ bare_from 0 (take k p.structures) → filter bare (order_before p (suc k)) ≡ bare_from 0 (take (suc k) p.structures)
    bare-next h old =
        ap (filter bare) (order-next p sound k s there ∙ ap (λ (ls : List Named). with_members ls (with_first k before)) (bare-members s h))
        ∙ by (first-is k before)
        ∙ sym (more ∙ ap (λ (b : Bool). bare_from 0 (take k p.structures) ++ (if b then k ∷ [] else [])) h)
      where
        own : bare k ≡ true
        own = ap bare_by there ∙ h

        by : FirstIs k before → filter bare (with_first k before) ≡ bare_from 0 (take k p.structures) ++ k ∷ []
        by (Old a w) = absurd (never (sym (in-filter k before own a) ∙ ap (is_among k) old ∙ bare-below k 0 (take k p.structures) k (omega (arith, short)) (omega arith)))
        by (New a w) = ap (filter bare) w ∙ filter-append bare before (k ∷ []) ∙ ap (λ xs. filter bare before ++ xs) (ap (λ (b : Bool). cond b (k ∷ []) []) own) ∙ ap (λ xs. xs ++ k ∷ []) old

    -- it has members, so no structure to come is only named
    full-next : is_only_named s ≡ false → filter bare before ≡ bare_from 0 (take k p.structures) → filter bare (order_before p (suc k)) ≡ bare_from 0 (take (suc k) p.structures)
    full-next h old =
        ap (filter bare) (order-next p sound k s there)
        ∙ members-kept s.members (with_first k before) (λ j e. first-keeps k j before (all j e))
        ∙ first-kept k before (all k)
        ∙ old ∙ sym (more ∙ ap (λ (b : Bool). bare_from 0 (take k p.structures) ++ (if b then k ∷ [] else [])) h ∙ append-nil (bare_from 0 (take k p.structures)))
      where
        all-by : (j : ℕ) (o : Option Structure) (b : Bool) → slice_get p.structures j ≡ o → nat_lt j k ≡ b → bare_by o ≡ true → is_among j before ≡ true
        all-by j o true e l g = (front-of p sound k within-all).passed.before j (grind (arith, nat_tests, l))
        all-by j None false e l g = absurd (cc)
        all-by j (Some t) false e l g = absurd (never (sym g ∙ later p.structures k j s t sound.order there h (grind (arith, nat_tests, l)) e))

        all : AllThere before
        all j g = all-by j (slice_get p.structures j) (nat_lt j k) refl refl g

    bare-step : filter bare before ≡ bare_from 0 (take k p.structures) → filter bare (order_before p (suc k)) ≡ bare_from 0 (take (suc k) p.structures)
    bare-step old = by (is_only_named s) refl
      where
        by : (b : Bool) → is_only_named s ≡ b → filter bare (order_before p (suc k)) ≡ bare_from 0 (take (suc k) p.structures)
        by true h = bare-next h old
        by false h = full-next h old

  get-there : {A : Type 0} → (xs : List A) (k : ℕ) → k < length xs → (x : A) × (slice_get xs k ≡ Some x)
  get-there [] k h = absurd (omega (arith, h))
  get-there (x ∷ xs) zero h = (x, refl)
  get-there (x ∷ xs) (suc k) h = get-there xs k (omega (arith, h))

  none-taken : {A : Type 0} → (xs : List A) → take 0 xs ≡ []
  none-taken [] = refl
  none-taken (x ∷ xs) = refl

  bare-in-front : (k : ℕ) → k ≤ length p.structures → filter bare (order_before p k) ≡ bare_from 0 (take k p.structures)
  bare-in-front zero h =
      none-announced 0 p.structures (λ j t e. let z : 0 + j ≡ j = omega arith in ap (slice_get p.structures) z ∙ e)
      ∙ sym (ap (bare_from 0) (none-taken p.structures))
  bare-in-front (suc k) h =
      let q = get-there p.structures k (omega (arith, h)) in
      bare-step k q.0 q.1 (bare-in-front k (omega (arith, h)))

  bare-whole : filter bare (appearance p) ≡ bare_from 0 p.structures
  bare-whole =
      ap (filter bare) (sym (order-whole p sound)) ∙ bare-in-front (length p.structures) (omega arith)
      ∙ ap (bare_from 0) (take_all (length p.structures) p.structures (omega arith))

  -- ---- the order of the unit

  whole-known : (i : ℕ) (t : Structure) → slice_get p.structures i ≡ Some t → known_as p count i ≡ (if has_members (Some t) then whole_structure p i t else only_named (Some t.tag))
  whole-known i t e =
      let low = slice_get_within p.structures i t e in
      let below : nat_lt i (length p.structures) ≡ true = grind (arith, nat_tests, low) in
      ap (known_by p (nat_lt i count) i) e ∙ ap (λ (c : Bool). if c && has_members (Some t) then whole_structure p i t else only_named (Some t.tag)) below

  tells : (j : ℕ) → is_among j (appearance p) ≡ true → is_some (known_as p count j).members ≡ not (bare j)
  tells j h =
      let t = (front p sound).within j h in
      ap (λ (k : KnownStructure). is_some k.members) (whole-known j t.0 t.1) ∙ by (has_members (Some t.0)) t.0
      ∙ sym (ap not (ap bare_by t.1 ∙ bare-not t.0) ∙ not-not (has_members (Some t.0)))
    where
      not-not : (b : Bool) → not (not b) ≡ b
      not-not true = refl
      not-not false = refl

      by : (b : Bool) (t : Structure) → is_some (if b then whole_structure p j t else only_named (Some t.tag)).members ≡ b
      by true t = refl
      by false t = refl

  whole-apart : Apart (appearance p)
  whole-apart = subst Apart (order-whole p sound) (order-apart p (length p.structures))

  places : (xs : List ℕ) → map (λ j. 0 + place_in j (appearance p)) xs ≡ map number xs
  places [] = refl
  places (x ∷ xs) = let z : 0 + place_in x (appearance p) ≡ place_in x (appearance p) = omega arith in ap (λ k. k ∷ map (λ j. 0 + place_in j (appearance p)) xs) z ∙ ap (λ ks. number x ∷ ks) (places xs)

  none-bare : (i : ℕ) (ss : List Structure) → list_any is_only_named ss ≡ false → (bare_from i ss ≡ []) × (completed_from p i ss ≡ all_numbers i ss)
  none-bare i [] h = (refl, refl)
  none-bare i (s ∷ ss) h =
      let q = or-both (is_only_named s) (list_any is_only_named ss) h in
      let r = none-bare (suc i) ss q.1 in (
        ap (λ (b : Bool). if b then i ∷ bare_from (suc i) ss else bare_from (suc i) ss) q.0 ∙ r.0,
        ap (λ (b : Bool). if b then number i ∷ completed_from p (suc i) ss else completed_from p (suc i) ss) (full-members s q.0) ∙ ap (λ ks. number i ∷ ks) r.1,
      )

  joined : (i : ℕ) (ss : List Structure) → come_first is_only_named ss ≡ true → map number (bare_from i ss) ++ completed_from p i ss ≡ all_numbers i ss
  joined i [] h = refl
  joined i (s ∷ ss) h = by (is_only_named s) refl (λ c. joined (suc i) ss c)
    where
      by : (b : Bool) → is_only_named s ≡ b → (come_first is_only_named ss ≡ true → map number (bare_from (suc i) ss) ++ completed_from p (suc i) ss ≡ all_numbers (suc i) ss) →
          map number (if is_only_named s then i ∷ bare_from (suc i) ss else bare_from (suc i) ss) ++ completed_from p i (s ∷ ss) ≡ all_numbers i (s ∷ ss)
      by true k next =
          ap (λ (c : Bool). map number (if c then i ∷ bare_from (suc i) ss else bare_from (suc i) ss) ++ completed_from p i (s ∷ ss)) k
          ∙ ap (λ (c : Bool). number i ∷ (map number (bare_from (suc i) ss) ++ (if c then number i ∷ completed_from p (suc i) ss else completed_from p (suc i) ss))) (bare-none s k)
          ∙ ap (λ ks. number i ∷ ks) (next (sym (ap (λ (b : Bool). first_if b ss) k) ∙ h))
      by false k next =
          let q = none-bare i (s ∷ ss) (ap (λ (b : Bool). b || list_any is_only_named ss) k ∙ not-true (list_any is_only_named ss) (sym (ap (λ (b : Bool). first_if b ss) k) ∙ h)) in
          ap (λ ks. map number ks ++ completed_from p i (s ∷ ss)) q.0 ∙ q.1

  abbrev structures_known : List KnownStructure
  structures_known = map (known_as p count) (appearance p)

  pub order-left : left_named 0 structures_known ++ completed_from p 0 (take count p.structures) ≡ all_numbers 0 p.structures
  order-left =
      ap (λ ks. ks ++ completed_from p 0 (take count p.structures)) (named-places (known_as p count) bare 0 (appearance p) tells whole-apart ∙ places (filter bare (appearance p)) ∙ ap (map number) bare-whole)
      ∙ ap (λ (ss : List Structure). map number (bare_from 0 p.structures) ++ completed_from p 0 ss) (take_all (length p.structures) p.structures (omega arith))
      ∙ joined 0 p.structures sound.order

  -- ---- the number of each, and back

  among-all : (i : ℕ) (t : Structure) → slice_get p.structures i ≡ Some t → is_among i (appearance p) ≡ true
  among-all i t e = (front p sound).passed.before i (slice_get_within p.structures i t e)

  number-there : (i : ℕ) (t : Structure) → slice_get p.structures i ≡ Some t → slice_get (appearance p) (number i) ≡ Some i
  number-there i t e = place-there i (appearance p) (among-all i t e)

  numbers-differ : (i j : ℕ) (t u : Structure) → slice_get p.structures i ≡ Some t → slice_get p.structures j ≡ Some u → nat_eq i j ≡ false → nat_eq (number i) (number j) ≡ false
  numbers-differ i j t u e f h = by (nat_eq (number i) (number j)) refl
    where
      some-same : (a b : ℕ) → Some a ≡ Some b → nat_eq a b ≡ true
      some-same a b k = let is : a ≡ b = cc in ap (nat_eq a) (sym is) ∙ self a

      by : (b : Bool) → nat_eq (number i) (number j) ≡ b → b ≡ false
      by false k = refl
      by true k = absurd (never (sym (some-same i j (sym (number-there i t e) ∙ ap (slice_get (appearance p)) (same (number i) (number j) k) ∙ number-there j u f)) ∙ h))

  place-left : (n i j : ℕ) (ss : List Structure) (s : Structure) → slice_get ss j ≡ Some s → slice_get p.structures (i + j) ≡ Some s → ((m : ℕ) (t : Structure) → slice_get ss m ≡ Some t → slice_get p.structures (i + m) ≡ Some t) →
      place_from n (all_numbers i ss) (number (i + j)) ≡ n + j
  place-left n i j [] s e f h = absurd (cc)
  place-left n i zero (r ∷ rs) s e f h =
      let z : i + 0 ≡ i = omega arith in
      let y : n ≡ n + 0 = omega arith in
      ap (λ (b : Bool). if b then n else place_from (suc n) (all_numbers (suc i) rs) (number (i + 0))) (ap (λ k. nat_eq (number k) (number i)) z ∙ self (number i)) ∙ y
  place-left n i (suc j) (r ∷ rs) s e f h =
      let z : i + 0 ≡ i = omega arith in
      let x : i + suc j ≡ suc i + j = omega arith in
      let y : suc n + j ≡ n + suc j = omega arith in
      let apart : nat_eq (i + suc j) i ≡ false = grind (arith, nat_tests) in
      let first : slice_get p.structures i ≡ Some r = ap (slice_get p.structures) (sym z) ∙ h 0 r refl in
      ap (λ (b : Bool). if b then n else place_from (suc n) (all_numbers (suc i) rs) (number (i + suc j))) (numbers-differ (i + suc j) i s r f first apart)
      ∙ ap (λ k. place_from (suc n) (all_numbers (suc i) rs) (number k)) x
      ∙ place-left (suc n) (suc i) j rs s e (ap (slice_get p.structures) (sym x) ∙ f) (λ m t g. let w : suc i + m ≡ i + suc m = omega arith in ap (slice_get p.structures) w ∙ h (suc m) t g)
      ∙ y

  places-at : (a n j : ℕ) (order : List ℕ) → j < n → slice_get (places_from a n order) j ≡ Some (place_from 0 order (a + j))
  places-at a zero j order h = absurd (omega (arith, h))
  places-at a (suc n) zero order h = let z : a ≡ a + 0 = omega arith in ap (λ k. Some (place_from 0 order k)) z
  places-at a (suc n) (suc j) order h = let z : suc a + j ≡ a + suc j = omega arith in places-at (suc a) n j order (omega (arith, h)) ∙ ap (λ k. Some (place_from 0 order k)) z

  abbrev pub numbers_left : List ℕ
  numbers_left = numbers_of (first_state p (length p.structures) (appearance p))

  pub number-left : (i : ℕ) (t : Structure) → slice_get p.structures i ≡ Some t → slice_get numbers_left (number i) ≡ Some i
  number-left i t e =
      let z : 0 + number i ≡ number i = omega arith in
      let y : 0 + i ≡ i = omega arith in
      let low = slice_get_within (appearance p) (number i) i (number-there i t e) in
      places-at 0 (length structures_known) (number i) (order_of (first_state p count (appearance p))) (subst (λ n. number i < n) (sym (length-map (appearance p) (known_as p count))) low)
      ∙ ap (λ k. Some (place_from 0 (order_of (first_state p count (appearance p))) k)) z
      ∙ ap (λ ks. Some (place_from 0 ks (number i))) order-left
      ∙ ap (λ k. Some (place_from 0 (all_numbers 0 p.structures) (number k))) (sym y)
      ∙ ap (λ k. Some k) (place-left 0 0 i p.structures t e (ap (slice_get p.structures) y ∙ e) (λ m u g. let x : 0 + m ≡ m = omega arith in ap (slice_get p.structures) x ∙ g) ∙ y)

  -- ---- the structures of the unit

  comes-back : (i m : ℕ) (t : Structure) (l : Named) → slice_get p.structures i ≡ Some t → slice_get t.members m ≡ Some l → ComesBack numbers_left (structure_number p) l.1
  comes-back i m t l e f j n =
      let among = earlier-names p sound (length p.structures) [] (appearance p) (front p sound).passed i m t l (slice_get_within p.structures i t e) e f j n in
      let u = (front p sound).within j among in
      ap structure_by (number-left j u.0 u.1)

  members-back : (i m : ℕ) (t : Structure) (ls : List Named) → slice_get p.structures i ≡ Some t → ((n : ℕ) (l : Named) → slice_get ls n ≡ Some l → slice_get t.members (m + n) ≡ Some l) →
      all_named_in numbers_left (map (named_numbered (structure_number p)) ls) ≡ ls
  members-back i m t [] e f = refl
  members-back i m t (l ∷ ls) e f =
      let z : m + 0 ≡ m = omega arith in
      let here : slice_get t.members m ≡ Some l = ap (slice_get t.members) (sym z) ∙ f 0 l refl in
      ap (λ (u : CType). (l.0, u) ∷ all_named_in numbers_left (map (named_numbered (structure_number p)) ls)) (type-back numbers_left (structure_number p) l.1 (comes-back i m t l e here))
      ∙ ap (λ (ks : List Named). l ∷ ks) (members-back i (suc m) t ls e (λ n k g. let y : suc m + n ≡ m + suc n = omega arith in ap (slice_get t.members) y ∙ f (suc n) k g))

  left-is : (i : ℕ) (t : Structure) (b : Bool) → all_named_in numbers_left (map (named_numbered (structure_number p)) t.members) ≡ t.members →
      structure_in numbers_left (if b then whole_structure p i t else only_named (Some t.tag)) ≡ record { tag = Some t.tag; alias = None; members = if b then Some t.members else None }
  left-is i t true e = ap (λ (ms : List Named). record { tag = Some t.tag; alias = None; members = Some ms }) e
  left-is i t false e = refl

  known-there : (i : ℕ) (t : Structure) → slice_get p.structures i ≡ Some t → slice_get structures_known (number i) ≡ Some (known_as p count i)
  known-there i t e = slice_get-map (known_as p count) (appearance p) (number i) ∙ ap (option_map (known_as p count)) (number-there i t e)

  all-left : (i : ℕ) (ss : List Structure) → ((m : ℕ) (t : Structure) → slice_get ss m ≡ Some t → slice_get p.structures (i + m) ≡ Some t) →
      structures_in numbers_left structures_known (all_numbers i ss) ≡ map structure_left ss
  all-left i [] h = refl
  all-left i (s ∷ ss) h =
      let z : i + 0 ≡ i = omega arith in
      let here : slice_get p.structures i ≡ Some s = ap (slice_get p.structures) (sym z) ∙ h 0 s refl in
      let own = members-back i 0 s s.members here (λ n l f. let y : 0 + n ≡ n = omega arith in ap (slice_get s.members) y ∙ f) in
      ap (λ (o : Option KnownStructure). option_to_list (option_map (structure_in numbers_left) o) ++ structures_in numbers_left structures_known (all_numbers (suc i) ss)) (known-there i s here)
      ∙ ap (λ (k : KnownStructure). structure_in numbers_left k ∷ structures_in numbers_left structures_known (all_numbers (suc i) ss)) (whole-known i s here)
      ∙ ap (λ (u : UnitStructure). u ∷ structures_in numbers_left structures_known (all_numbers (suc i) ss)) (left-is i s (has_members (Some s)) own)
      ∙ ap (λ (us : List UnitStructure). structure_left s ∷ us) (all-left (suc i) ss (λ m t g. let y : suc i + m ≡ i + suc m = omega arith in ap (slice_get p.structures) y ∙ h (suc m) t g))

  pub structures-left : structures_in numbers_left structures_known (order_of (first_state p (length p.structures) (appearance p))) ≡ map structure_left p.structures
  structures-left =
      ap (structures_in numbers_left structures_known) order-left
      ∙ all-left 0 p.structures (λ m t g. let z : 0 + m ≡ m = omega arith in ap (slice_get p.structures) z ∙ g)
