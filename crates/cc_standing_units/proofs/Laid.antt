-- Structures of a unit lie as those of the state, by induction over the order of their closing braces.
use Rattle.std.proofs.Common.{◌≡◌, ◌∙◌, ◌⊎◌, inl, inr, ◌+◌, ◌<◌, ◌≤◌, ℕ, zero, suc, true, true≢false, List, [], ◌∷◌, ◌++◌, length, map, take, Option, Some, None, option_map, slice_get, refl, ap, sym, subst, arith, append_assoc, length-append}
use Rattle.std.specs.Prelude.{unwrap_or}
use Rattle.std.proofs.lemmas.Bool.{cases_lt}
use Rattle.std.proofs.lemmas.List.{append-nil}
use Rattle.std.proofs.lemmas.Option.{slice_get-map, slice_get_within}
use Rattle.cc_relocated_units.specs.Linked.{structures_of as unit_structures, untagged}
use Rattle.cc_program.specs.CcNum.declared.target.Target.{Target}
use Rattle.cc_numbering.specs.Numbers.{numbers_of, only_named, order_of, place_from}
use Rattle.cc_numbering.specs.Structures.{all_named_in, structure_in, structures_in}
use Rattle.cc_numbering.specs.Units.{unit_left}
use Rattle.cc_program.proofs.Each.{Each}
use Rattle.cc_program.specs.declared.types.Structure.{Structure}
use Rattle.cc_terms.specs.CcScopes.State.{KnownStructure, State, layouts_of}
use Rattle.cc_sound_terms.specs.Ordered.{AreOrdered, HasMembers, IsOrdered, StandsBehind, is_among, is_complete_over}
use Rattle.cc_structures.proofs.Elements.{In, in-cases, in-left, in-right}
use Rattle.cc_structures.proofs.WordLaws.{number_by}
use Rattle.cc_terms.proofs.CcSyntax.Prefixes.{layouts-at}
use Rattle.cc_terms.specs.CcSyntax.Layout.{layouts, nothing, structure, type_layout}
use Rattle.cc_terms.specs.CcSyntax.Types.{Named}
use Rattle.cc_terms.specs.CcSyntax.declared.sizes.Layout.{Layout}
use Rattle.cc_terms.specs.CcUnit.Renumbered.{structure_by}
use Rattle.cc_terms.specs.CcUnit.declared.unit.UnitStructure.{UnitStructure}
use Rattle.cc_standing_units.proofs.Built.{AllThere, built-at}
use Rattle.cc_standing_units.proofs.Places.{Placed, among-in, in-among, in-only, only-in, placed, places-at}
use Rattle.cc_standing_units.proofs.Types.{laid_there}
use Rattle.cc_standing_units.specs.Laid.{AreLaid}

-- ---- lists

pub take_get : {X : Type 0} (xs : List X) (p q : ℕ) (x : X) → q < p → slice_get xs q ≡ Some x → slice_get (take p xs) q ≡ Some x
take_get [] p q x low e = absurd (cc)
take_get (y ∷ ys) zero q x low e = absurd (omega (arith, low))
take_get (y ∷ ys) (suc p) zero x low e = e
take_get (y ∷ ys) (suc p) (suc q) x low e = take_get ys p q x (omega (arith, low)) e

take_take : {X : Type 0} (xs : List X) (p q : ℕ) → q ≤ p → take q (take p xs) ≡ take q xs
take_take [] zero zero low = refl
take_take [] (suc p) zero low = refl
take_take [] zero (suc q) low = refl
take_take [] (suc p) (suc q) low = refl
take_take (y ∷ ys) zero zero low = refl
take_take (y ∷ ys) zero (suc q) low = absurd (omega (arith, low))
take_take (y ∷ ys) (suc p) zero low = refl
take_take {X} (y ∷ ys) (suc p) (suc q) low = ap (λ (l : List X). y ∷ l) (take_take ys p q (omega (arith, low)))

pub at_middle : (xs ys zs : List ℕ) (i : ℕ) → slice_get (xs ++ (ys ++ i ∷ zs)) (length xs + length ys) ≡ Some i
at_middle [] [] zs i = refl
at_middle [] (y ∷ ys) zs i = ap (slice_get (y ∷ (ys ++ i ∷ zs))) (plus (length ys)) ∙ (at_middle [] ys zs i)
  where
    plus : (n : ℕ) → 0 + suc n ≡ suc (0 + n)
    plus n = omega arith
at_middle (x ∷ xs) ys zs i = ap (slice_get (x ∷ (xs ++ (ys ++ i ∷ zs)))) (plus (length xs) (length ys)) ∙ at_middle xs ys zs i
  where
    plus : (n m : ℕ) → suc n + m ≡ suc (n + m)
    plus n m = omega arith

pub before_middle : (xs ys zs : List ℕ) (i j q : ℕ) → q < length xs + length ys → slice_get (xs ++ (ys ++ i ∷ zs)) q ≡ Some j → In j xs ⊎ In j ys
before_middle [] [] zs i j q low e = absurd (omega (arith, low))
before_middle [] (y ∷ ys) zs i j zero low e = inr (inl (cc e))
before_middle [] (y ∷ ys) zs i j (suc q) low e = by (before_middle [] ys zs i j q (omega (arith, low)) e)
  where
    by : In j [] ⊎ In j ys → In j [] ⊎ In j (y ∷ ys)
    by (inl g) = absurd g
    by (inr g) = inr (inr g)
before_middle (x ∷ xs) ys zs i j zero low e = inl (inl (cc e))
before_middle (x ∷ xs) ys zs i j (suc q) low e = by (before_middle xs ys zs i j q (omega (arith, low)) e)
  where
    by : In j xs ⊎ In j ys → In j (x ∷ xs) ⊎ In j ys
    by (inl g) = inl (inr g)
    by (inr g) = inr g

-- ---- layouts of the first structures

pub layouts_first : (target : Target) (structures : List Structure) (p q : ℕ) (s : Structure) → q < p → slice_get structures q ≡ Some s → slice_get (layouts target (take p structures)) q ≡ slice_get (layouts target structures) q
layouts_first target structures p q s low e =
    layouts-at target (take p structures) q s (take_get structures p q s low e)
    ∙ (ap (λ (l : List Structure). Some (structure (map (λ (m : Named). type_layout target (layouts target l) m.1) s.members))) (take_take structures p q (omega (arith, low)))
    ∙ sym (layouts-at target structures q s e))

module _ (target : Target) (s : State) (ordered : IsOrdered s) (laid : AreLaid target s) where
  abbrev pub all : List KnownStructure
  all = s.structures

  abbrev pub named : List ℕ
  named = only_named 0 s.structures

  abbrev pub order : List ℕ
  order = order_of s

  abbrev pub numbers : List ℕ
  numbers = numbers_of s

  abbrev pub built : List UnitStructure
  built = structures_in numbers all order

  abbrev pub unit : List Structure
  unit = unit_structures (unit_left s)

  pub ordered_in : (front rest : List ℕ) → AreOrdered all front rest → (j : ℕ) → In j rest → (ms : List Named) × HasMembers all j ms
  ordered_in front [] h j g = absurd g
  ordered_in front (i ∷ rest) h j (inl e) = (h.0.members, subst (λ (n : ℕ). HasMembers all n h.0.members) e h.0.there)
  ordered_in front (i ∷ rest) h j (inr g) = ordered_in (front ++ i ∷ []) rest h.1 j g

  pub zero_plus : (n : ℕ) → 0 + n ≡ n
  zero_plus n = omega arith

  pub all_there : AllThere numbers all order
  all_there j h = by (in-cases named s.completed j h)
    where
      by : In j named ⊎ In j s.completed → (k : KnownStructure) × (slice_get all j ≡ Some k)
      by (inl g) = let r = only-in 0 all j g in (r.structure, ap (slice_get all) (r.is ∙ zero_plus r.at) ∙ r.there)
      by (inr g) = let r = ordered_in [] s.completed ordered.order j g in (r.1.0, r.1.1)

  pub in_order : (i : ℕ) (k : KnownStructure) → slice_get all i ≡ Some k → In i order
  in_order i k e = by k.members refl
    where
      by : (o : Option (List Named)) → k.members ≡ o → In i order
      by None n = in-left named s.completed i (subst (λ (j : ℕ). In j named) (zero_plus i) (in-only 0 all i k e n))
      by (Some ms) n = in-right named s.completed i (among-in s.completed i (ordered.listed i ms (k, e, n)))

  pub place : (i : ℕ) (k : KnownStructure) → slice_get all i ≡ Some k → Placed 0 order i
  place i k e = placed 0 order i (in_order i k e)

  pub place_is : (i : ℕ) (k : KnownStructure) (e : slice_get all i ≡ Some k) → number_by numbers i ≡ (place i k e).at
  place_is i k e =
      ap structure_by (places-at 0 (length all) order i (slice_get_within all i k e))
      ∙ (ap (place_from 0 order) (zero_plus i) ∙ ((place i k e).is ∙ zero_plus (place i k e).at))

  abbrev pub content : KnownStructure → Structure
  content k = untagged (structure_in numbers k)

  pub unit_at : (i : ℕ) (k : KnownStructure) → slice_get all i ≡ Some k → slice_get unit (number_by numbers i) ≡ Some (content k)
  unit_at i k e =
      ap (slice_get unit) (place_is i k e)
      ∙ (slice_get-map untagged built (place i k e).at ∙ ap (option_map untagged) (built-at numbers all order all_there (place i k e).at i k (place i k e).there e))

  -- ---- layouts

  pub record Known (n j : ℕ) : Type 0 where
    pub structure : KnownStructure
    pub there : slice_get all j ≡ Some structure
    pub low : number_by numbers j < n
    pub lies : slice_get (layouts target unit) (number_by numbers j) ≡ Some structure.layout

  pub wider : (n m j : ℕ) → n ≤ m → Known n j → Known m j
  wider n m j h r = let low = r.low in record { structure = r.structure; there = r.there; low = omega (arith, low, h); lies = r.lies }

  pub same_known : (a b : KnownStructure) → Some a ≡ Some b → a ≡ b
  same_known a b e = cc e

  module _ (front : List ℕ) (known : (j : ℕ) → is_among front j ≡ true → Known (length named + length front) j) where
    abbrev here : ℕ
    here = length named + length front

    abbrev before : List Layout
    before = layouts target (take here unit)

    agrees : (j : ℕ) → is_among front j ≡ true → unwrap_or (slice_get before (number_by numbers j)) nothing ≡ unwrap_or (slice_get (layouts_of s) j) nothing
    agrees j h =
        let r = known j h in
        ap (λ (o : Option Layout). unwrap_or o nothing)
        (layouts_first target unit here (number_by numbers j) (content r.structure) r.low (unit_at j r.structure r.there)
        ∙ (r.lies ∙ sym (slice_get-map (λ (k : KnownStructure). k.layout) all j ∙ ap (option_map (λ (k : KnownStructure). k.layout)) r.there)))

    pub members_lie : (ms : List Named) → Each (λ m. is_complete_over front m.1 ≡ true) ms →
        map (λ (m : Named). type_layout target before m.1) (all_named_in numbers ms) ≡ map (λ (m : Named). type_layout target (layouts_of s) m.1) ms
    members_lie [] h = refl
    members_lie (m ∷ ms) h = rw (laid_there front numbers target (layouts_of s) before agrees m.1 h.0, members_lie ms h.1) refl

    module _ (rest : List ℕ) (i : ℕ) (e : s.completed ≡ front ++ i ∷ rest) (h : StandsBehind all front i) where
      order_is : order ≡ named ++ (front ++ i ∷ rest)
      order_is = ap (λ (l : List ℕ). named ++ l) e

      stands : slice_get order here ≡ Some i
      stands = ap (λ (l : List ℕ). slice_get l here) order_is ∙ at_middle named front rest i

      not_before : (q : ℕ) → q < here → slice_get order q ≡ Some i → ⊥
      not_before q low g = by (before_middle named front rest i i q low (sym (ap (λ (l : List ℕ). slice_get l q) order_is) ∙ g))
        where
          by : In i named ⊎ In i front → ⊥
          by (inr f) = true≢false (sym (in-among front i f) ∙ h.new)
          by (inl f) =
              let r = only-in 0 all i f in
              let one : r.structure ≡ h.there.0 = same_known r.structure h.there.0 (sym (ap (slice_get all) (r.is ∙ zero_plus r.at) ∙ r.there) ∙ h.there.1) in
              absurd (cc (sym r.none ∙ (ap (λ (k : KnownStructure). k.members) one ∙ h.there.2)))

      at_here : (r : Placed 0 order i) → r.at ≡ here
      at_here r = by (cases_lt r.at here)
        where
          by : (r.at < here) ⊎ (here ≤ r.at) → r.at ≡ here
          by (inl low) = absurd (not_before r.at low r.there)
          by (inr high) = let first = r.first here stands in omega (arith, first, high)

      pub place_here : number_by numbers i ≡ here
      place_here = place_is i h.there.0 h.there.1 ∙ at_here (place i h.there.0 h.there.1)

      pub step : Known (suc here) i
      step =
          let k = h.there.0 in
          let there = h.there.1 in
          let at = place_here in
          let low : number_by numbers i < suc here = omega (arith, at) in
          record {
            structure = k;
            there = there;
            low = low;
            lies =
                ap (slice_get (layouts target unit)) place_here
                ∙ (layouts-at target unit here (content k) (ap (slice_get unit) (sym place_here) ∙ unit_at i k there)
                ∙ (ap (λ (o : Option (List Named)). Some (structure (map (λ (m : Named). type_layout target before m.1) (unwrap_or (option_map (all_named_in numbers) o) [])))) h.there.2
                ∙ (ap (λ (l : List Layout). Some (structure l)) (members_lie h.members h.complete)
                ∙ ap (λ (l : Layout). Some l) (sym (laid i k h.members there h.there.2)))));
          }

  pub all_known : (front rest : List ℕ) → s.completed ≡ front ++ rest → AreOrdered all front rest → ((j : ℕ) → is_among front j ≡ true → Known (length named + length front) j) → (j : ℕ) → is_among s.completed j ≡ true → (n : ℕ) × Known n j
  all_known front [] e h known j g = (length named + length front, known j (sym (ap (λ (l : List ℕ). is_among l j) (e ∙ append-nil front)) ∙ g))
  all_known front (i ∷ rest) e h known j g = all_known (front ++ i ∷ []) rest (e ∙ sym (append_assoc front (i ∷ []) rest)) h.1 more j g
    where
      longer : length named + length front ≤ length named + length (front ++ i ∷ [])
      longer = let l = length-append front (i ∷ []) in omega (arith, l)

      one_longer : suc (length named + length front) ≤ length named + length (front ++ i ∷ [])
      one_longer = let l = length-append front (i ∷ []) in omega (arith, l)

      more : (j : ℕ) → is_among (front ++ i ∷ []) j ≡ true → Known (length named + length (front ++ i ∷ [])) j
      more j g = by (in-cases front (i ∷ []) j (among-in (front ++ i ∷ []) j g))
        where
          by : In j front ⊎ In j (i ∷ []) → Known (length named + length (front ++ i ∷ [])) j
          by (inl f) = wider (length named + length front) (length named + length (front ++ i ∷ [])) j longer (known j (in-among front j f))
          by (inr (inl f)) = subst (λ (n : ℕ). Known (length named + length (front ++ i ∷ [])) n) f (wider (suc (length named + length front)) (length named + length (front ++ i ∷ [])) i one_longer (step front known rest i e h.0))
          by (inr (inr f)) = absurd f

  -- each complete structure lies in the unit as it does in the state
  pub lies_there : (i : ℕ) (k : KnownStructure) (ms : List Named) → slice_get all i ≡ Some k → k.members ≡ Some ms → slice_get (layouts target unit) (number_by numbers i) ≡ Some k.layout
  lies_there i k ms e n =
      let r = all_known [] s.completed refl ordered.order (λ j g. absurd (true≢false (sym g))) i (ordered.listed i ms (k, e, n)) in
      r.1.lies ∙ ap (λ (x : KnownStructure). Some x.layout) (same_known r.1.structure k (sym r.1.there ∙ e))
