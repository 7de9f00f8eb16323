-- All structures have their numbers, where the numbers of all are taken apart source by source.
use Rattle.std.proofs.Common.{◌≡◌, ◌∙◌, ◌⊎◌, inl, inr, ◌+◌, ◌-◌, ◌<◌, ◌≤◌, min, ℕ, zero, suc, List, [], ◌∷◌, ◌++◌, length, map, take, drop, slice_get, refl, ap, sym, subst, arith, append_assoc, take-append-drop, length-take, length-drop, drop-cons, length-append}
use Rattle.std.proofs.lemmas.List.{map-append, append-nil}
use Rattle.cc_structures.specs.Refined.{by_source}
use Rattle.cc_structures.specs.Structures.{Known, Numbering, known_in, known_from, structures, number_at, number_of, Fits, IsSame}
use Rattle.cc_structures.specs.View.{units_of}
use Rattle.cc_structures.proofs.Elements.{In, in-left, in-right, in-cases, in-map, in-map_from, all-same, map-both, length-map_of}
use Rattle.cc_things.specs.declared.text.Text.{Text}
use Rattle.cc_unit.specs.Renumbered.{structure_by}
use Rattle.cc_unit.specs.declared.unit.TypedUnit.{TypedUnit}
use Rattle.cc_unit.specs.declared.unit.UnitStructure.{UnitStructure}

-- ---- in the next source, and at the next position

abbrev pub in_next : Known → Known
in_next s = record { text = suc s.text; position = s.position; structure = s.structure }

abbrev pub later : Known → Known
later s = record { text = s.text; position = suc s.position; structure = s.structure }

known_in-next : (t i : ℕ) (ss : List UnitStructure) → known_in (suc t) i ss ≡ map in_next (known_in t i ss)
known_in-next t i [] = refl
known_in-next t i (s ∷ ss) = rw (known_in-next t (suc i) ss) refl

known_from-next : (t : ℕ) (us : List TypedUnit) → known_from (suc t) us ≡ map in_next (known_from t us)
known_from-next t [] = refl
known_from-next t (u ∷ us) =
    rw (known_in-next t 0 u.structures, known_from-next (suc t) us) (sym (map-append in_next (known_in t 0 u.structures) (known_from (suc t) us)))

known_in-later : (t i : ℕ) (ss : List UnitStructure) → known_in t (suc i) ss ≡ map later (known_in t i ss)
known_in-later t i [] = refl
known_in-later t i (s ∷ ss) = rw (known_in-later t (suc i) ss) refl

pub structures-cons : (u : TypedUnit) (us : List TypedUnit) → structures (u ∷ us) ≡ known_in 0 0 u.structures ++ map in_next (structures us)
unfolding structures
structures-cons u us = ap (λ l. known_in 0 0 u.structures ++ l) (known_from-next 0 us)

pub structures-none : structures [] ≡ []
unfolding structures
structures-none = refl

length-known_in : (t i : ℕ) (ss : List UnitStructure) → length (known_in t i ss) ≡ length ss
length-known_in t i [] = refl
length-known_in t i (s ∷ ss) = ap suc (length-known_in t (suc i) ss)

length-structures : (u : TypedUnit) (us : List TypedUnit) → length (structures (u ∷ us)) ≡ length u.structures + length (structures us)
length-structures u us =
    ap length (structures-cons u us)
    ∙ (length-append (known_in 0 0 u.structures) (map in_next (structures us))
    ∙ (ap (λ n. n + length (map in_next (structures us))) (length-known_in 0 0 u.structures) ∙ ap (λ n. length u.structures + n) (length-map_of in_next (structures us))))

-- ---- numbers

text-in : (i : ℕ) (ss : List UnitStructure) (s : Known) → In s (known_in 0 i ss) → s.text ≡ 0
text-in i [] s h = absurd h
text-in i (x ∷ ss) s (inl e) = sym (ap (λ (y : Known). y.text) e)
text-in i (x ∷ ss) s (inr h) = text-in (suc i) ss s h

-- the number at the next position of the first source
later-number : (x : ℕ) (xs : List ℕ) (rest : Numbering) (s : Known) → s.text ≡ 0 → number_of ((x ∷ xs) ∷ rest) (later s) ≡ number_of (xs ∷ rest) s
later-number x xs rest s e =
    ap (λ t. number_at ((x ∷ xs) ∷ rest) t (suc s.position)) e ∙ sym (ap (λ t. number_at (xs ∷ rest) t s.position) e)

numbers-in : (xs : List ℕ) (rest : Numbering) (ss : List UnitStructure) → length xs ≡ length ss → map (number_of (xs ∷ rest)) (known_in 0 0 ss) ≡ xs
numbers-in [] rest [] h = refl
numbers-in [] rest (s ∷ ss) h = absurd (omega (arith, h))
numbers-in (x ∷ xs) rest [] h = absurd (omega (arith, h))
numbers-in (x ∷ xs) rest (s ∷ ss) h =
    let same : map (λ k. number_of ((x ∷ xs) ∷ rest) (later k)) (known_in 0 0 ss) ≡ map (number_of (xs ∷ rest)) (known_in 0 0 ss) =
    all-same (λ k. number_of ((x ∷ xs) ∷ rest) (later k)) (number_of (xs ∷ rest)) (known_in 0 0 ss) (λ k i. later-number x xs rest k (text-in 0 ss k i)) in
    let more : map (number_of ((x ∷ xs) ∷ rest)) (known_in 0 1 ss) ≡ xs =
    ap (map (number_of ((x ∷ xs) ∷ rest))) (known_in-later 0 0 ss)
    ∙ (map-both later (number_of ((x ∷ xs) ∷ rest)) (known_in 0 0 ss) ∙ (same ∙ numbers-in xs rest ss (omega (arith, h)))) in
    ap (λ l. x ∷ l) more

no_length : (ns : List ℕ) → length ns ≡ 0 → ns ≡ []
no_length [] h = refl
no_length (n ∷ ns) h = absurd (omega (arith, h))

pub numbers-are : (us : List TypedUnit) (ns : List ℕ) → length ns ≡ length (structures us) → map (number_of (by_source us ns)) (structures us) ≡ ns
numbers-are [] ns h = rw structures-none (sym (no_length ns (h ∙ ap length structures-none)))
numbers-are (u ∷ us) ns h =
    let n = length u.structures in
    let long = length-structures u us in
    let front : length (take n ns) ≡ n = length-take n ns ∙ omega (arith, h, long) in
    let behind : length (drop n ns) ≡ length (structures us) = length-drop n ns ∙ omega (arith, h, long) in
    let numbering = take n ns ∷ by_source us (drop n ns) in
    ap (map (number_of numbering)) (structures-cons u us)
    ∙ (map-append (number_of numbering) (known_in 0 0 u.structures) (map in_next (structures us))
    ∙ (ap (λ l. l ++ map (number_of numbering) (map in_next (structures us))) (numbers-in (take n ns) (by_source us (drop n ns)) u.structures front)
    ∙ (ap (λ l. take n ns ++ l) (map-both in_next (number_of numbering) (structures us) ∙ numbers-are us (drop n ns) behind) ∙ take-append-drop n ns)))

pub fits-by_source : (us : List TypedUnit) (ns : List ℕ) → length ns ≡ length (structures us) → Fits us (by_source us ns)
fits-by_source [] ns h = refl
fits-by_source (u ∷ us) ns h =
    let n = length u.structures in
    let long = length-structures u us in
    let front : length (take n ns) ≡ n = length-take n ns ∙ omega (arith, h, long) in
    let behind : length (drop n ns) ≡ length (structures us) = length-drop n ns ∙ omega (arith, h, long) in
    rw (front, fits-by_source us (drop n ns) behind) refl

-- ---- a structure at each position, or none

abbrev pub IsThere : List Known → ℕ → ℕ → Type 0
IsThere ss t j = (s : Known) × (In s ss × ((s.text ≡ t) × (s.position ≡ j)))

there-in : (ss : List UnitStructure) (j : ℕ) → IsThere (known_in 0 0 ss) 0 j ⊎ ((xs : List ℕ) → length xs ≡ length ss → structure_by (slice_get xs j) ≡ 0)
there-in [] j = inr none
  where
    none : (xs : List ℕ) → length xs ≡ 0 → structure_by (slice_get xs j) ≡ 0
    none [] h = refl
    none (x ∷ xs) h = absurd (omega (arith, h))
there-in (s ∷ ss) zero = inl (record { text = 0; position = 0; structure = s }, (inl refl, (refl, refl)))
there-in (s ∷ ss) (suc j) = elim (there-in ss j) [
  | inl r ↦ inl (later r.0, (inr (subst (In (later r.0)) (sym (known_in-later 0 0 ss)) (in-map later (known_in 0 0 ss) r.0 r.1.0)), (r.1.1.0, ap suc r.1.1.1)))
  | inr never ↦ inr (λ xs h. past xs h never)
]
  where
    past : (xs : List ℕ) → length xs ≡ suc (length ss) → ((ys : List ℕ) → length ys ≡ length ss → structure_by (slice_get ys j) ≡ 0) → structure_by (slice_get xs (suc j)) ≡ 0
    past [] h never = refl
    past (x ∷ xs) h never = never xs (omega (arith, h))

not-empty : (n : ℕ) (ms : List ℕ) → n ∷ ms ≡ [] → ⊥
not-empty n ms e = cc e

heads : (a b : ℕ) (fs bs : List ℕ) → a ∷ fs ≡ b ∷ bs → a ≡ b
heads a b fs bs e = cc e

tails : (a b : ℕ) (fs bs : List ℕ) → a ∷ fs ≡ b ∷ bs → fs ≡ bs
tails a b fs bs e = cc e

abbrev pub HasNone : List TypedUnit → ℕ → ℕ → Type 0
HasNone us t j = (numbering : Numbering) → Fits us numbering → number_at numbering t j ≡ 0

pub there : (us : List TypedUnit) (t j : ℕ) → IsThere (structures us) t j ⊎ HasNone us t j
there [] t j = inr none
  where
    none : (numbering : Numbering) → map length numbering ≡ [] → number_at numbering t j ≡ 0
    none [] h = refl
    none (ns ∷ numbering) h = absurd (not-empty (length ns) (map length numbering) h)
there (u ∷ us) zero j = elim (there-in u.structures j) [
  | inl r ↦ inl (r.0, (subst (In r.0) (sym (structures-cons u us)) (in-left (known_in 0 0 u.structures) (map in_next (structures us)) r.0 r.1.0), r.1.1))
  | inr never ↦ inr (λ numbering h. first numbering h never)
]
  where
    first : (numbering : Numbering) → map length numbering ≡ length u.structures ∷ map (λ v. length v.structures) us →
        ((xs : List ℕ) → length xs ≡ length u.structures → structure_by (slice_get xs j) ≡ 0) → number_at numbering 0 j ≡ 0
    first [] h never = refl
    first (ns ∷ numbering) h never = never ns (heads (length ns) (length u.structures) (map length numbering) (map (λ v. length v.structures) us) h)
there (u ∷ us) (suc t) j = elim (there us t j) [
  | inl r ↦ inl (in_next r.0, (subst (In (in_next r.0)) (sym (structures-cons u us)) (in-right (known_in 0 0 u.structures) (map in_next (structures us)) (in_next r.0) (in-map in_next (structures us) r.0 r.1.0)), (ap suc r.1.1.0, r.1.1.1)))
  | inr never ↦ inr (λ numbering h. others numbering h never)
]
  where
    others : (numbering : Numbering) → map length numbering ≡ length u.structures ∷ map (λ v. length v.structures) us → HasNone us t j → number_at numbering (suc t) j ≡ 0
    others [] h never = refl
    others (ns ∷ numbering) h never = never numbering (tails (length ns) (length u.structures) (map length numbering) (map (λ v. length v.structures) us) h)

-- ---- structures stand in order of their sources and positions

abbrev pub IsBefore : Known → Known → Type 0
IsBefore s t = (s.text < t.text) ⊎ ((s.text ≡ t.text) × (s.position < t.position))

abbrev pub AreOrdered : List Known → Type 0
AreOrdered [] = Unit {0}
AreOrdered (s ∷ ss) = ((t : Known) → In t ss → IsBefore s t) × AreOrdered ss

ordered-append : (ss ts : List Known) → AreOrdered ss → AreOrdered ts → ((s t : Known) → In s ss → In t ts → IsBefore s t) → AreOrdered (ss ++ ts)
ordered-append [] ts a b all = b
ordered-append (s ∷ ss) ts a b all = (
  λ t h. elim (in-cases ss ts t h) [ inl i ↦ a.0 t i | inr i ↦ all s t (inl refl) i ],
  ordered-append ss ts a.1 b (λ x t i j. all x t (inr i) j),
)

before-next : (s t : Known) → IsBefore s t → IsBefore (in_next s) (in_next t)
before-next s t (inl h) = inl (omega (arith, h))
before-next s t (inr h) = inr (ap suc h.0, h.1)

before-later : (s t : Known) → IsBefore s t → IsBefore (later s) (later t)
before-later s t (inl h) = inl h
before-later s t (inr h) = let low = h.1 in inr (h.0, omega (arith, low))

ordered-map : (f : Known → Known) → ((s t : Known) → IsBefore s t → IsBefore (f s) (f t)) → (ss : List Known) → AreOrdered ss → AreOrdered (map f ss)
ordered-map f keeps [] a = tt
ordered-map f keeps (s ∷ ss) a =
    (λ t h. let r = in-map_from f ss t h in subst (IsBefore (f s)) r.1.1 (keeps s r.0 (a.0 r.0 r.1.0)), ordered-map f keeps ss a.1)

ordered-in : (ss : List UnitStructure) → AreOrdered (known_in 0 0 ss)
ordered-in [] = tt
ordered-in (x ∷ ss) = (
  λ t h. let r = in-map_from later (known_in 0 0 ss) t (subst (In t) (known_in-later 0 0 ss) h) in
      let zero_text = text-in 0 ss r.0 r.1.0 in
      subst (IsBefore (record { text = 0; position = 0; structure = x })) r.1.1 (inr (sym zero_text, omega arith)),
  subst AreOrdered (sym (known_in-later 0 0 ss)) (ordered-map later before-later (known_in 0 0 ss) (ordered-in ss)),
)

pub are-ordered : (us : List TypedUnit) → AreOrdered (structures us)
are-ordered [] = subst AreOrdered (sym structures-none) tt
are-ordered (u ∷ us) = subst AreOrdered (sym (structures-cons u us))
    (ordered-append (known_in 0 0 u.structures) (map in_next (structures us)) (ordered-in u.structures) (ordered-map in_next before-next (structures us) (are-ordered us))
    (λ s t i j. let a = text-in 0 u.structures s i in let r = in-map_from in_next (structures us) t j in let b = ap (λ (y : Known). y.text) r.1.1 in inl (omega (arith, a, b))))

not-before : (s t u : Known) → IsBefore u t → u ≡ s → IsSame s t → ⊥
not-before s t u (inl h) e same = let x = ap (λ (y : Known). y.text) e in let y = same.0 in omega (arith, h, x, y)
not-before s t u (inr h) e same = let x = ap (λ (y : Known). y.position) e in let y = same.1 in let low = h.1 in omega (arith, low, x, y)

-- one structure stands at one place
pub one-there : (ss : List Known) → AreOrdered ss → (s t : Known) → In s ss → In t ss → IsSame s t → s ≡ t
one-there [] a s t h i same = absurd h
one-there (x ∷ ss) a s t (inl h) (inl i) same = sym h ∙ i
one-there (x ∷ ss) a s t (inl h) (inr i) same = absurd (not-before s t x (a.0 t i) h same)
one-there (x ∷ ss) a s t (inr h) (inl i) same = absurd (not-before t s x (a.0 s h) i (sym same.0, sym same.1))
one-there (x ∷ ss) a s t (inr h) (inr i) same = one-there ss a.1 s t h i same

-- ---- taken apart in the code

pub sources-more : (xs : List Text) (x : Text) (ns : List ℕ) → by_source (units_of (x ∷ xs)) ns ≡ take (length x.unit.structures) ns ∷ by_source (units_of xs) (drop (length x.unit.structures) ns)
sources-more xs x ns = refl

pub ruleset of_sources = (sources-more, append_assoc, append-nil, drop-cons)
