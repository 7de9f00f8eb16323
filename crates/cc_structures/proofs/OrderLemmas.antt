-- The structures of the program: the first of each type, in order, have their positions as numbers.
use Rattle.std.proofs.Common.{◌≡◌, ◌∙◌, ◌⊎◌, inl, inr, ◌<◌, ◌≤◌, ◌↔◌, ℕ, zero, suc, Bool, true, false, true≢false, not, cond, nat_eq, List, [], ◌∷◌, ◌++◌, length, map, filter, fold, refl, ap, sym, subst, arith, append_assoc, Contains, length-append, unwrap_or, position, lt-ltb, le-ltb}
use Rattle.std.specs.List.{list_any, position_or_len}
use Rattle.std.specs.Prelude.{◌||◌, ◌&&◌}
use Rattle.std.proofs.lemmas.Bool.{eqb-true, eq-eqb}
use Rattle.std.proofs.lemmas.Grind.{fold-append}
use Rattle.std.proofs.lemmas.List.{map-append, append-nil}
use Rattle.std.proofs.lemmas.List.Elements.{filter-append}
use Rattle.std.proofs.lemmas.List.Folds.{list_any-append}
use Rattle.indexmap.specs.IndexSet.{insert_key}
use Rattle.cc_structures.specs.Ordered.{firsts_behind, classes_of, positions_of}
use Rattle.cc_structures.specs.Refined.{by_source, AreTypes}
use Rattle.cc_structures.specs.Structures.{Known, Numbering, structures, number_of, firsts_of, HavePositions, is_complete, in_program_order, AreNumbered}
use Rattle.cc_structures.specs.View.{known_of, knowns_of}
use Rattle.cc_structures.specs.declared.known.Known.{Known as KnownOf}
use Rattle.cc_structures.proofs.ClassLemmas.{any-covered, position-all, position-last, position-past, position-within, one-key}
use Rattle.cc_structures.proofs.Elements.{In, in-of, in-left, in-right, in-cases, in-map, any-in, same-at, length-map_of}
use Rattle.cc_structures.proofs.KnownLemmas.{knowns-more, knowns-nil}
use Rattle.cc_structures.proofs.SourceLemmas.{numbers-are, fits-by_source}
use Rattle.cc_unit.specs.declared.unit.TypedUnit.{TypedUnit}

-- ---- one structure more

pub named-more : (ss : List KnownOf) (s : KnownOf) → filter (λ (k : Known). not (is_complete k)) (knowns_of (ss ++ s ∷ [])) ≡ filter (λ (k : Known). not (is_complete k)) (knowns_of ss) ++ cond (not (is_complete (known_of s))) (known_of s ∷ []) []
named-more ss s = ap (filter (λ (k : Known). not (is_complete k))) (knowns-more ss s) ∙ filter-append (λ (k : Known). not (is_complete k)) (knowns_of ss) (known_of s ∷ [])

pub complete-more : (ss : List KnownOf) (s : KnownOf) → filter is_complete (knowns_of (ss ++ s ∷ [])) ≡ filter is_complete (knowns_of ss) ++ cond (is_complete (known_of s)) (known_of s ∷ []) []
complete-more ss s = ap (filter is_complete) (knowns-more ss s) ∙ filter-append is_complete (knowns_of ss) (known_of s ∷ [])

module _ (numbering : Numbering) where
  firsts-append : (found : List ℕ) (ss : List Known) (s : Known) → firsts_behind numbering found (ss ++ s ∷ []) ≡
      firsts_behind numbering found ss ++ cond (list_any (nat_eq (number_of numbering s)) (fold (insert_key nat_eq) found (classes_of numbering ss))) [] (s ∷ [])
  firsts-append found [] s = append-nil (cond (list_any (nat_eq (number_of numbering s)) found) [] (s ∷ []))
  firsts-append found (x ∷ ss) s =
      ap (λ l. cond (list_any (nat_eq (number_of numbering x)) found) [] (x ∷ []) ++ l) (firsts-append (insert_key nat_eq found (number_of numbering x)) ss s)
      ∙ sym (append_assoc (cond (list_any (nat_eq (number_of numbering x)) found) [] (x ∷ [])) (firsts_behind numbering (insert_key nat_eq found (number_of numbering x)) ss)
      (cond (list_any (nat_eq (number_of numbering s)) (fold (insert_key nat_eq) (insert_key nat_eq found (number_of numbering x)) (classes_of numbering ss))) [] (s ∷ [])))

  pub firsts-more : (ss : List KnownOf) (s : KnownOf) → firsts_behind numbering [] (knowns_of (ss ++ s ∷ [])) ≡
      firsts_behind numbering [] (knowns_of ss) ++ cond (list_any (nat_eq (number_of numbering (known_of s))) (fold (insert_key nat_eq) [] (classes_of numbering (knowns_of ss)))) [] (known_of s ∷ [])
  firsts-more ss s = ap (firsts_behind numbering []) (knowns-more ss s) ∙ firsts-append [] (knowns_of ss) (known_of s)

  pub classes-more : (ss : List KnownOf) (s : KnownOf) → fold (insert_key nat_eq) [] (classes_of numbering (knowns_of (ss ++ s ∷ []))) ≡ insert_key nat_eq (fold (insert_key nat_eq) [] (classes_of numbering (knowns_of ss))) (number_of numbering (known_of s))
  classes-more ss s =
      ap (λ l. fold (insert_key nat_eq) [] (classes_of numbering l)) (knowns-more ss s)
      ∙ (ap (fold (insert_key nat_eq) []) (map-append (number_of numbering) (knowns_of ss) (known_of s ∷ []))
      ∙ fold-append (insert_key nat_eq) [] (classes_of numbering (knowns_of ss)) (number_of numbering (known_of s) ∷ []))

  pub positions-more : (found : List ℕ) (ss : List KnownOf) (s : KnownOf) → positions_of numbering found (knowns_of (ss ++ s ∷ [])) ≡
      positions_of numbering found (knowns_of ss) ++ position_or_len (nat_eq (number_of numbering (known_of s))) found ∷ []
  positions-more found ss s =
      ap (positions_of numbering found) (knowns-more ss s) ∙ map-append (λ (k : Known). position_or_len (nat_eq (number_of numbering k)) found) (knowns_of ss) (known_of s ∷ [])

-- the position of what passes, or the length
pub position-or-length : {X : Type 0} (p : X → Bool) (xs : List X) → unwrap_or (position p xs) (length xs) ≡ position_or_len p xs
position-or-length p xs = by (list_any p xs) refl
  where
    by : (b : Bool) → list_any p xs ≡ b → unwrap_or (position p xs) (length xs) ≡ position_or_len p xs
    by true h = rw (lt-ltb (position_or_len p xs) (length xs) (position-within p xs h)) refl
    by false h = rw (position-past p xs h, le-ltb (length xs) (length xs) (omega arith)) refl

pub ruleset of_positions = (position-or-length)

pub ruleset of_order = (named-more, complete-more, firsts-more, classes-more, positions-more, knowns-more, knowns-nil, append-nil, append_assoc)

-- ---- the first of each number

filter-same : {X : Type 0} (p q : X → Bool) (xs : List X) → ((x : X) → In x xs → p x ≡ q x) → filter p xs ≡ filter q xs
filter-same p q [] h = refl
filter-same p q (x ∷ xs) h = rw (h x (inl refl), filter-same p q xs (λ y i. h y (inr i))) refl

pub filter-both : {X : Type 0} (p q : X → Bool) (xs : List X) → filter p (filter q xs) ≡ filter (λ x. q x && p x) xs
filter-both p q [] = refl
filter-both p q (x ∷ xs) = by (q x) refl (filter-both p q xs)
  where
    by : (b : Bool) → q x ≡ b → filter p (filter q xs) ≡ filter (λ x. q x && p x) xs → filter p (filter q (x ∷ xs)) ≡ filter (λ x. q x && p x) (x ∷ xs)
    by true e rest = rw (e, rest) refl
    by false e rest = rw (e, rest) refl

pub filter-all : {X : Type 0} (p : X → Bool) (xs : List X) → ((x : X) → In x xs → p x ≡ true) → filter p xs ≡ xs
filter-all p [] h = refl
filter-all p (x ∷ xs) h = rw (h x (inl refl), filter-all p xs (λ y i. h y (inr i))) refl

pub in-filter : {X : Type 0} (p : X → Bool) (xs : List X) (x : X) → In x (filter p xs) → In x xs
in-filter p [] x h = absurd h
in-filter p (y ∷ ys) x h = by (p y) h (in-filter p ys x)
  where
    by : (b : Bool) → In x (cond b (y ∷ filter p ys) (filter p ys)) → (In x (filter p ys) → In x ys) → In x (y ∷ ys)
    by true (inl s) rest = inl s
    by true (inr i) rest = inr (rest i)
    by false i rest = inr (rest i)

pub filter-in : {X : Type 0} (p : X → Bool) (xs : List X) (x : X) → In x xs → p x ≡ true → In x (filter p xs)
filter-in p [] x h e = absurd h
filter-in p (y ∷ ys) x (inl s) e = let t : p y ≡ true = ap p s ∙ e in rw t (inl s)
filter-in p (y ∷ ys) x (inr i) e = by (p y) (filter-in p ys x i e)
  where
    by : (b : Bool) → In x (filter p ys) → In x (cond b (y ∷ filter p ys) (filter p ys))
    by true rest = inr rest
    by false rest = rest

pub in-order : (ss : List Known) (s : Known) → In s ss → In s (filter (λ (k : Known). not (is_complete k)) ss ++ filter is_complete ss)
in-order ss s h = by (is_complete s) refl
  where
    by : (b : Bool) → is_complete s ≡ b → In s (filter (λ (k : Known). not (is_complete k)) ss ++ filter is_complete ss)
    by true e = in-right (filter (λ (k : Known). not (is_complete k)) ss) (filter is_complete ss) s (filter-in is_complete ss s h e)
    by false e = in-left (filter (λ (k : Known). not (is_complete k)) ss) (filter is_complete ss) s (filter-in (λ (k : Known). not (is_complete k)) ss s h (ap not e))

pub from-order : (ss : List Known) (s : Known) → In s (filter (λ (k : Known). not (is_complete k)) ss ++ filter is_complete ss) → In s ss
from-order ss s h = elim (in-cases (filter (λ (k : Known). not (is_complete k)) ss) (filter is_complete ss) s h) [
  | inl i ↦ in-filter (λ (k : Known). not (is_complete k)) ss s i
  | inr i ↦ in-filter is_complete ss s i
]

pub in-firsts : (numbering : Numbering) (ss : List Known) (s : Known) → In s (firsts_of numbering ss) → In s ss
in-firsts numbering [] s h = absurd h
in-firsts numbering (x ∷ ss) s (inl e) = inl e
in-firsts numbering (x ∷ ss) s (inr h) = inr (in-firsts numbering ss s (in-filter (λ t. not (nat_eq (number_of numbering x) (number_of numbering t))) (firsts_of numbering ss) s h))

bool-same : (a b : Bool) → (a ≡ true → b ≡ true) → (b ≡ true → a ≡ true) → a ≡ b
bool-same true b to from = sym (to refl)
bool-same false true to from = from refl
bool-same false false to from = refl

or-none : (b : Bool) → (b || (false || false)) ≡ b
or-none true = refl
or-none false = refl

-- two numberings that give one number to the same structures
module _ (types final : Numbering) where
  abbrev Agree : List Known → Type 0
  Agree ss = (s t : Known) → In s ss → In t ss → ((number_of final s ≡ number_of final t) → (number_of types s ≡ number_of types t)) × ((number_of types s ≡ number_of types t) → (number_of final s ≡ number_of final t))

  same-test : (ss : List Known) → Agree ss → (s t : Known) → In s ss → In t ss → nat_eq (number_of final s) (number_of final t) ≡ nat_eq (number_of types s) (number_of types t)
  same-test ss agree s t hs ht = bool-same (nat_eq (number_of final s) (number_of final t)) (nat_eq (number_of types s) (number_of types t))
      (λ e. eq-eqb (number_of types s) (number_of types t) ((agree s t hs ht).0 (eqb-true (number_of final s) (number_of final t) e)))
      (λ e. eq-eqb (number_of final s) (number_of final t) ((agree s t hs ht).1 (eqb-true (number_of types s) (number_of types t) e)))

  abbrev is_new : List ℕ → Known → Bool
  is_new found t = not (list_any (nat_eq (number_of types t)) found)

  -- what is not among those found and one more
  new-step : (found : List ℕ) (s t : Known) → is_new (insert_key nat_eq found (number_of types s)) t ≡ (not (nat_eq (number_of types s) (number_of types t)) && is_new found t)
  new-step found s t = by (list_any (nat_eq (number_of types s)) found) refl (nat_eq (number_of types s) (number_of types t)) refl
    where
      by : (b : Bool) → list_any (nat_eq (number_of types s)) found ≡ b → (c : Bool) → nat_eq (number_of types s) (number_of types t) ≡ c →
          not (list_any (nat_eq (number_of types t)) (cond b found (found ++ number_of types s ∷ []))) ≡ (not c && is_new found t)
      by true h true k = let e = eqb-true (number_of types s) (number_of types t) k in ap not (sym (ap (λ n. list_any (nat_eq n) found) e) ∙ h)
      by true h false k = refl
      by false h true k =
          let e = eqb-true (number_of types s) (number_of types t) k in
          ap not (any-in (nat_eq (number_of types t)) (found ++ number_of types s ∷ []) (number_of types s) (in-right found (number_of types s ∷ []) (number_of types s) (inl refl)) (eq-eqb (number_of types t) (number_of types s) (sym e)))
      by false h false k =
          let turned : nat_eq (number_of types t) (number_of types s) ≡ false = bool-same (nat_eq (number_of types t) (number_of types s)) false
          (λ e. sym k ∙ eq-eqb (number_of types s) (number_of types t) (sym (eqb-true (number_of types t) (number_of types s) e))) (λ e. absurd (true≢false (sym e))) in
          ap not (list_any-append (nat_eq (number_of types t)) found (number_of types s ∷ []) ∙ rw turned (or-none (list_any (nat_eq (number_of types t)) found)))

  abbrev others : List ℕ → Known → List Known → List Known
  others found s ss = filter (is_new found) (filter (λ t. not (nat_eq (number_of final s) (number_of final t))) (firsts_of final ss))

  firsts-are : (found : List ℕ) (ss all : List Known) → ((x : Known) → In x ss → In x all) → Agree all → firsts_behind types found ss ≡ filter (is_new found) (firsts_of final ss)
  firsts-are found [] all inside agree = refl
  firsts-are found (s ∷ ss) all inside agree =
      let within = λ (x : Known) (i : In x (firsts_of final ss)). inside x (inr (in-firsts final ss x i)) in
      let rest = firsts-are (insert_key nat_eq found (number_of types s)) ss all (λ x i. inside x (inr i)) agree in
      let step : filter (is_new (insert_key nat_eq found (number_of types s))) (firsts_of final ss) ≡ filter (is_new found) (filter (λ t. not (nat_eq (number_of final s) (number_of final t))) (firsts_of final ss)) =
      filter-same (is_new (insert_key nat_eq found (number_of types s))) (λ t. not (nat_eq (number_of final s) (number_of final t)) && is_new found t) (firsts_of final ss)
      (λ t i. new-step found s t ∙ ap (λ b. not b && is_new found t) (sym (same-test all agree s t (inside s (inl refl)) (within t i))))
      ∙ sym (filter-both (is_new found) (λ t. not (nat_eq (number_of final s) (number_of final t))) (firsts_of final ss)) in
      by (list_any (nat_eq (number_of types s)) found) refl (rest ∙ step)
    where
      by : (b : Bool) → list_any (nat_eq (number_of types s)) found ≡ b →
          firsts_behind types (insert_key nat_eq found (number_of types s)) ss ≡ filter (is_new found) (filter (λ t. not (nat_eq (number_of final s) (number_of final t))) (firsts_of final ss)) →
          firsts_behind types found (s ∷ ss) ≡ filter (is_new found) (firsts_of final (s ∷ ss))
      by true h e =
          ap (λ b. cond b [] (s ∷ []) ++ firsts_behind types (insert_key nat_eq found (number_of types s)) ss) h
          ∙ (e ∙ sym (ap (λ b. cond (not b) (s ∷ others found s ss) (others found s ss)) h))
      by false h e =
          ap (λ b. cond b [] (s ∷ []) ++ firsts_behind types (insert_key nat_eq found (number_of types s)) ss) h
          ∙ (ap (λ l. s ∷ l) e ∙ sym (ap (λ b. cond (not b) (s ∷ others found s ss) (others found s ss)) h))

  -- each has its position
  positions-are : (found : List ℕ) (ss : List Known) (all : List ℕ) → all ≡ fold (insert_key nat_eq) found (classes_of types ss) → ((s : Known) → In s ss → number_of final s ≡ position_or_len (nat_eq (number_of types s)) all) →
      HavePositions final (length found) (firsts_behind types found ss)
  positions-are found [] all e at = tt
  positions-are found (s ∷ ss) all e at = by (list_any (nat_eq (number_of types s)) found) refl (positions-are (insert_key nat_eq found (number_of types s)) ss all e (λ t i. at t (inr i)))
    where
      by : (b : Bool) → list_any (nat_eq (number_of types s)) found ≡ b → HavePositions final (length (insert_key nat_eq found (number_of types s))) (firsts_behind types (insert_key nat_eq found (number_of types s)) ss) →
          HavePositions final (length found) (firsts_behind types found (s ∷ ss))
      by true h rest =
          let kept : insert_key nat_eq found (number_of types s) ≡ found = ap (λ c. cond c found (found ++ number_of types s ∷ [])) h in
          let same : firsts_behind types found (s ∷ ss) ≡ firsts_behind types (insert_key nat_eq found (number_of types s)) ss =
          ap (λ c. cond c [] (s ∷ []) ++ firsts_behind types (insert_key nat_eq found (number_of types s)) ss) h in
          subst (HavePositions final (length found)) (sym same) (subst (λ n. HavePositions final n (firsts_behind types (insert_key nat_eq found (number_of types s)) ss)) (ap length kept) rest)
      by false h rest =
          let added : insert_key nat_eq found (number_of types s) ≡ found ++ number_of types s ∷ [] = ap (λ c. cond c found (found ++ number_of types s ∷ [])) h in
          let long = length-append found (number_of types s ∷ []) in
          let size : length (insert_key nat_eq found (number_of types s)) ≡ suc (length found) = ap length added ∙ omega (arith, long) in
          let same : firsts_behind types found (s ∷ ss) ≡ s ∷ firsts_behind types (insert_key nat_eq found (number_of types s)) ss =
          ap (λ c. cond c [] (s ∷ []) ++ firsts_behind types (insert_key nat_eq found (number_of types s)) ss) h in
          let there : list_any (nat_eq (number_of types s)) (insert_key nat_eq found (number_of types s)) ≡ true =
          ap (list_any (nat_eq (number_of types s))) added ∙ any-in (nat_eq (number_of types s)) (found ++ number_of types s ∷ []) (number_of types s) (in-right found (number_of types s ∷ []) (number_of types s) (inl refl)) (eq-eqb (number_of types s) (number_of types s) refl) in
          let place : number_of final s ≡ length found =
          at s (inl refl)
          ∙ (ap (position_or_len (nat_eq (number_of types s))) e
          ∙ (position-all nat_eq (nat_eq (number_of types s)) (insert_key nat_eq found (number_of types s)) (classes_of types ss) there
          ∙ (ap (position_or_len (nat_eq (number_of types s))) added ∙ position-last (nat_eq (number_of types s)) found (number_of types s) h (eq-eqb (number_of types s) (number_of types s) refl)))) in
          subst (HavePositions final (length found)) (sym same) (place, subst (λ n. HavePositions final n (firsts_behind types (insert_key nat_eq found (number_of types s)) ss)) size rest)

-- ---- all of it

module _ (units : List TypedUnit) (types : Numbering) (are : AreTypes units types) where
  abbrev all : List Known
  all = structures units

  abbrev order : List Known
  order = in_program_order units

  abbrev pub found : List ℕ
  found = fold (insert_key nat_eq) [] (classes_of types order)

  abbrev pub final : Numbering
  final = by_source units (positions_of types found all)

  final-at : (s : Known) → In s all → number_of final s ≡ position_or_len (nat_eq (number_of types s)) found
  final-at s h = same-at (number_of final) (λ (k : Known). position_or_len (nat_eq (number_of types k)) found) all s
      (numbers-are units (positions_of types found all) (length-map_of (λ (k : Known). position_or_len (nat_eq (number_of types k)) found) all)) h

  found-there : (s : Known) → In s all → list_any (nat_eq (number_of types s)) found ≡ true
  found-there s h = any-covered nat_eq (λ n. eq-eqb n n refl) [] (classes_of types order) (number_of types s) (in-map (number_of types) order s (in-order all s h))

  agree : Agree types final all
  agree s t hs ht = (
    λ e. one-key nat_eq (λ (n : ℕ). n) (λ x y h. eqb-true x y h) (λ x y h. eq-eqb x y h) found (number_of types s) (number_of types t) (found-there s hs) (found-there t ht) (sym (final-at s hs) ∙ (e ∙ final-at t ht)),
    λ e. final-at s hs ∙ (ap (λ n. position_or_len (nat_eq n) found) e ∙ sym (final-at t ht)),
  )

  pub are-numbered : AreNumbered units final (firsts_behind types [] order)
  are-numbered = record {
    each = fits-by_source units (positions_of types found all) (length-map_of (λ (k : Known). position_or_len (nat_eq (number_of types k)) found) all);
    one = λ s t hs ht.
        (λ e. (are.one s t hs ht).0 ((agree s t (in-of all s hs) (in-of all t ht)).0 e), λ w. (agree s t (in-of all s hs) (in-of all t ht)).1 ((are.one s t hs ht).1 w));
    first = firsts-are types final [] order all (λ x i. from-order all x i) agree ∙ filter-all (is_new types final []) (firsts_of final order) (λ x i. refl);
    position = positions-are types final [] order found refl (λ s i. final-at s (from-order all s i));
  }

-- as the code has it
pub numbered-by : (units : List TypedUnit) (types : Numbering) (ks os firsts : List Known) (found ps : List ℕ) (numbering : Numbering) → AreTypes units types → ks ≡ structures units →
    os ≡ filter (λ (k : Known). not (is_complete k)) ks ++ filter is_complete ks → found ≡ fold (insert_key nat_eq) [] (classes_of types os) → firsts ≡ firsts_behind types [] os →
    ps ≡ positions_of types found ks → numbering ≡ by_source units ps → AreNumbered units numbering firsts
numbered-by units types ks os firsts found ps numbering are known ordered founds first positions sources =
    let order_is : os ≡ in_program_order units = ordered ∙ ap (λ (l : List Known). filter (λ (k : Known). not (is_complete k)) l ++ filter is_complete l) known in
    let found_is : found ≡ fold (insert_key nat_eq) [] (classes_of types (in_program_order units)) = founds ∙ ap (λ (l : List Known). fold (insert_key nat_eq) [] (classes_of types l)) order_is in
    let positions_are : ps ≡ positions_of types (fold (insert_key nat_eq) [] (classes_of types (in_program_order units))) (structures units) =
    positions ∙ (ap (λ (l : List Known). positions_of types found l) known ∙ ap (λ (f : List ℕ). positions_of types f (structures units)) found_is) in
    let numbering_is : numbering ≡ by_source units (positions_of types (fold (insert_key nat_eq) [] (classes_of types (in_program_order units))) (structures units)) = sources ∙ ap (by_source units) positions_are in
    let first_is : firsts ≡ firsts_behind types [] (in_program_order units) = first ∙ ap (λ (l : List Known). firsts_behind types [] l) order_is in
    subst (λ n. AreNumbered units n firsts) (sym numbering_is) (subst (λ f. AreNumbered units (by_source units (positions_of types (fold (insert_key nat_eq) [] (classes_of types (in_program_order units))) (structures units))) f) (sym first_is) (are-numbered units types are))
