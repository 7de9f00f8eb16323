-- The classes are the types: two structures are alike where they are in one of the first classes, and one type where they are in
-- one of the second.
use Rattle.std.proofs.Common.{◌≡◌, ◌∙◌, ◌⊎◌, inl, inr, ◌<◌, ℕ, zero, suc, Bool, true, false, true≢false, List, [], ◌∷◌, length, map, refl, ap, sym, arith, Contains, if◌then◌else◌}
use Rattle.std.proofs.lemmas.Bool.{cases_eq}
use Rattle.cc_structures.specs.Classes.{class_numbers, distinct, same_list}
use Rattle.cc_structures.specs.Looks.{look_of}
use Rattle.cc_structures.specs.Ordered.{first_key, first_keys_behind}
use Rattle.cc_structures.specs.Refined.{by_source, part_numbers, IsCounted, Refines, IsClosed, IsCoarsest, AreTypes}
use Rattle.cc_structures.specs.Structures.{Known, Numbering, structures, number_of, has_one_number, Fits, AreAboveZero, IsSame, LooksTheSame, IsMatching, IsAlike, IsFirstAlike, MayBeOne, IsOne}
use Rattle.cc_structures.specs.View.{look_view, looks_of, lists_of, same_look}
use Rattle.cc_structures.specs.declared.looks.Look.{Look as LookOf}
use Rattle.cc_structures.proofs.ClassLemmas.{AreClasses}
use Rattle.cc_structures.proofs.Elements.{in-of, contains-of, length-map_of}
use Rattle.cc_structures.proofs.FirstLemmas.{has_earlier, earlier-there, there-earlier, key_of, first_keys-are}
use Rattle.cc_structures.proofs.RefineLemmas.{Key, list-sound, list-complete, counted-classes, numbers-classes}
use Rattle.cc_structures.proofs.LookTests.{look-sound, look-complete}
use Rattle.cc_structures.proofs.LookLemmas.{looks-same, same-looks, same-parts}
use Rattle.cc_structures.proofs.SourceLemmas.{are-ordered, one-there}
use Rattle.cc_unit.specs.declared.unit.TypedUnit.{TypedUnit}

cons-parts : (a b : ℕ) (fs bs : List ℕ) → a ∷ fs ≡ b ∷ bs → (a ≡ b) × (fs ≡ bs)
cons-parts a b fs bs e = (cc e, cc e)

three : (m n : ℕ) → (m < n) ⊎ ((n < m) ⊎ (m ≡ n))
three zero zero = inr (inr refl)
three zero (suc n) = inl (omega arith)
three (suc m) zero = inr (inl (omega arith))
three (suc m) (suc n) = elim (three m n) [
  | inl h ↦ inl (omega (arith, h))
  | inr h ↦ elim h [ inl l ↦ inr (inl (omega (arith, l))) | inr e ↦ inr (inr (ap suc e)) ]
]

-- what a key has that is not the first's
abbrev alone : Bool → Known → List ℕ
alone seen s = if seen then s.text ∷ s.position ∷ [] else []

module _ (units : List TypedUnit) where
  abbrev all : List Known
  all = structures units

  abbrev Always : Known → Known → Type 0
  Always a b = Unit {0}

  pub one-place : (s t : Known) → Contains all s → Contains all t → IsSame s t → s ≡ t
  one-place s t hs ht same = one-there all (are-ordered units) s t (in-of all s hs) (in-of all t ht) same

  -- a matching is closed
  matching-closed : (may : Known → Known → Type 0) (numbering : Numbering) → IsMatching units may numbering → IsClosed units numbering
  matching-closed may numbering m s t hs ht e = by (m s t hs ht e)
    where
      by : IsSame s t ⊎ (may s t × LooksTheSame numbering s t) → part_numbers numbering s ≡ part_numbers numbering t
      by (inl same) = ap (part_numbers numbering) (one-place s t hs ht same)
      by (inr h) = same-parts numbering s t h.1

  -- it refines classes that have what it matches in one
  matching-refines : (may : Known → Known → Type 0) (numbering start : Numbering) → IsMatching units may numbering →
      ((s t : Known) → Contains all s → Contains all t → has_one_number numbering s t → may s t → LooksTheSame numbering s t → has_one_number start s t) → Refines units numbering start
  matching-refines may numbering start m h s t hs ht e = by (m s t hs ht e)
    where
      by : IsSame s t ⊎ (may s t × LooksTheSame numbering s t) → has_one_number start s t
      by (inl same) = ap (number_of start) (one-place s t hs ht same)
      by (inr k) = h s t hs ht e k.0 k.1

  module _ (looks alike : Numbering) (by_look : AreClasses all look_of (number_of looks)) (coarsest : IsCoarsest units looks alike) where
    -- what two of one class look like
    look-in : (s t : Known) → Contains all s → Contains all t → has_one_number alike s t → look_of s ≡ look_of t
    look-in s t hs ht e = by_look.one s t (in-of all s hs) (in-of all t ht) (coarsest.refines s t hs ht e)

    alike-matching : IsMatching units Always alike
    alike-matching s t hs ht e = by (looks-same alike s t (look-in s t hs ht e) (coarsest.closed s t hs ht e))
      where
        by : IsSame s t ⊎ LooksTheSame alike s t → IsSame s t ⊎ (Always s t × LooksTheSame alike s t)
        by (inl same) = inl same
        by (inr l) = inr (tt, l)

    pub alike-to : (s t : Known) → Contains all s → Contains all t → has_one_number alike s t → IsAlike units s t
    alike-to s t hs ht e = (alike, (coarsest.fits, (coarsest.above, (alike-matching, e))))

    matched-alike : (numbering : Numbering) → Fits units numbering → AreAboveZero units numbering → IsMatching units Always numbering → Refines units numbering alike
    matched-alike numbering fits above m =
        coarsest.coarsest numbering fits above (matching-closed Always numbering m)
        (matching-refines Always numbering looks m (λ s t hs ht e may l. by_look.same s t (in-of all s hs) (in-of all t ht) (same-looks numbering s t l)))

    pub alike-from : (s t : Known) → Contains all s → Contains all t → IsAlike units s t → has_one_number alike s t
    alike-from s t hs ht w = matched-alike w.0 w.1.0 w.1.1.0 w.1.1.1.0 s t hs ht w.1.1.1.1

    -- the first that is alike has none in front
    first-of : (s : Known) → Contains all s → has_earlier alike all s ≡ false → IsFirstAlike units s
    first-of s hs none t ht text position w =
        absurd (true≢false (sym (there-earlier alike all s t (in-of all t ht) (record { text = text; position = position; number = alike-from t s ht hs (turned w) })) ∙ none))
      where
        turned : IsAlike units s t → IsAlike units t s
        turned w = (w.0, (w.1.0, (w.1.1.0, (w.1.1.1.0, sym w.1.1.1.1))))

    of-first : (s : Known) → Contains all s → IsFirstAlike units s → has_earlier alike all s ≡ false
    of-first s hs first = by (has_earlier alike all s) refl
      where
        by : (b : Bool) → has_earlier alike all s ≡ b → has_earlier alike all s ≡ false
        by false e = e
        by true e =
            let r = earlier-there alike all s e in
            let ht = contains-of all r.0 r.1.0 in
            absurd (first r.0 ht r.1.1.text r.1.1.position (alike-to s r.0 hs ht (sym r.1.1.number)))

    module _ (start types : Numbering) (by_key : AreClasses all (key_of alike all) (number_of start)) (finest : IsCoarsest units start types) where
      -- of two of one class: their keys
      key-in : (s t : Known) → Contains all s → Contains all t → has_one_number types s t → key_of alike all s ≡ key_of alike all t
      key-in s t hs ht e = by_key.one s t (in-of all s hs) (in-of all t ht) (finest.refines s t hs ht e)

      alike-in : (s t : Known) → Contains all s → Contains all t → has_one_number types s t → has_one_number alike s t
      alike-in s t hs ht e =
          (cons-parts (number_of alike s) (number_of alike t) (alone (has_earlier alike all s) s) (alone (has_earlier alike all t) t) (key-in s t hs ht e)).0

      -- which of the two has one in front
      may-be : (s t : Known) (hs : Contains all s) (ht : Contains all t) → has_one_number alike s t → (b c : Bool) → has_earlier alike all s ≡ b → has_earlier alike all t ≡ c →
          first_key alike b s ≡ first_key alike c t → IsSame s t ⊎ MayBeOne units s t
      may-be s t hs ht e true true hb hc k =
          let a = cons-parts (number_of alike s) (number_of alike t) (s.text ∷ s.position ∷ []) (t.text ∷ t.position ∷ []) k in
          let b = cons-parts s.text t.text (s.position ∷ []) (t.position ∷ []) a.1 in
          let c = cons-parts s.position t.position [] [] b.1 in
          inl (b.0, c.0)
      may-be s t hs ht e true false hb hc k =
          absurd (some s.text (s.position ∷ []) (cons-parts (number_of alike s) (number_of alike t) (s.text ∷ s.position ∷ []) [] k).1)
        where
          some : (n : ℕ) (ns : List ℕ) → n ∷ ns ≡ [] → ⊥
          some n ns e = cc e
      may-be s t hs ht e false true hb hc k =
          absurd (some t.text (t.position ∷ []) (cons-parts (number_of alike s) (number_of alike t) [] (t.text ∷ t.position ∷ []) k).1)
        where
          some : (n : ℕ) (ns : List ℕ) → [] ≡ n ∷ ns → ⊥
          some n ns e = cc e
      may-be s t hs ht e false false hb hc k = texts (cases_eq s.text t.text)
        where
          positions : s.text ≡ t.text → (s.position < t.position) ⊎ ((t.position < s.position) ⊎ (s.position ≡ t.position)) → IsSame s t ⊎ MayBeOne units s t
          positions same (inl low) = absurd (true≢false (sym (there-earlier alike all t s (in-of all s hs) (record { text = same; position = low; number = e })) ∙ hc))
          positions same (inr (inl low)) = absurd (true≢false (sym (there-earlier alike all s t (in-of all t ht) (record { text = sym same; position = low; number = sym e })) ∙ hb))
          positions same (inr (inr equal)) = inl (same, equal)

          texts : (s.text ≡ t.text) ⊎ (s.text ≡ t.text → ⊥) → IsSame s t ⊎ MayBeOne units s t
          texts (inl same) = positions same (three s.position t.position)
          texts (inr apart) = inr (apart, (first-of s hs hb, first-of t ht hc))

      types-matching : IsMatching units (MayBeOne units) types
      types-matching s t hs ht e =
          by (may-be s t hs ht (alike-in s t hs ht e) (has_earlier alike all s) (has_earlier alike all t) refl refl (key-in s t hs ht e))
          (looks-same types s t (look-in s t hs ht (alike-in s t hs ht e)) (finest.closed s t hs ht e))
        where
          by : IsSame s t ⊎ MayBeOne units s t → IsSame s t ⊎ LooksTheSame types s t → IsSame s t ⊎ (MayBeOne units s t × LooksTheSame types s t)
          by (inl same) l = inl same
          by (inr m) (inl same) = inl same
          by (inr m) (inr l) = inr (m, l)

      one-to : (s t : Known) → Contains all s → Contains all t → has_one_number types s t → IsOne units s t
      one-to s t hs ht e = (types, (finest.fits, (finest.above, (types-matching, e))))

      weaker : (numbering : Numbering) → IsMatching units (MayBeOne units) numbering → IsMatching units Always numbering
      weaker numbering m s t hs ht e = by (m s t hs ht e)
        where
          by : IsSame s t ⊎ (MayBeOne units s t × LooksTheSame numbering s t) → IsSame s t ⊎ (Always s t × LooksTheSame numbering s t)
          by (inl same) = inl same
          by (inr h) = inr (tt, h.1)

      one-from : (s t : Known) → Contains all s → Contains all t → IsOne units s t → has_one_number types s t
      one-from s t hs ht w =
          let m = w.1.1.1.0 in
          finest.coarsest w.0 w.1.0 w.1.1.0 (matching-closed (MayBeOne units) w.0 m) (matching-refines (MayBeOne units) w.0 start m keys) s t hs ht w.1.1.1.1
        where
          keys : (x y : Known) → Contains all x → Contains all y → has_one_number w.0 x y → MayBeOne units x y → LooksTheSame w.0 x y → has_one_number start x y
          keys x y hx hy e may l =
              let alike_xy = matched-alike w.0 w.1.0 w.1.1.0 (weaker w.0 w.1.1.1.0) x y hx hy e in
              by_key.same x y (in-of all x hx) (in-of all y hy)
              (ap (λ b. first_key alike b x) (of-first x hx may.1.0) ∙ (ap (λ n. n ∷ []) alike_xy ∙ sym (ap (λ b. first_key alike b y) (of-first y hy may.1.1))))

      pub are-types : AreTypes units types
      are-types = record { fits = finest.fits; one = λ s t hs ht. (one-to s t hs ht, one-from s t hs ht) }

-- ---- as the code has it

length-looks : (units : List TypedUnit) (ls : List LookOf) (ks : List Known) → looks_of ls ≡ map look_of ks → ks ≡ structures units → length ls ≡ length (structures units)
unfolding looks_of
length-looks units ls ks looks known = sym (length-map_of look_view ls) ∙ (ap length looks ∙ (length-map_of look_of ks ∙ ap length known))

-- classes of looks are counted
pub looks-counted : (units : List TypedUnit) (ls : List LookOf) (ks : List Known) (numbering : Numbering) (count : ℕ) → looks_of ls ≡ map look_of ks → ks ≡ structures units →
    numbering ≡ by_source units (class_numbers same_look ls) → count ≡ length (distinct same_look ls) → IsCounted units numbering count
looks-counted units ls ks numbering count looks known sources number = counted-classes units same_look ls numbering count (length-looks units ls ks looks known) sources number

looks-classes : (units : List TypedUnit) (ls : List LookOf) (ks : List Known) (numbering : Numbering) → looks_of ls ≡ map look_of ks → ks ≡ structures units →
    numbering ≡ by_source units (class_numbers same_look ls) → AreClasses (structures units) look_of (number_of numbering)
unfolding looks_of
looks-classes units ls ks numbering looks known sources =
    numbers-classes units same_look look_view look-sound look-complete ls numbering look_of (looks ∙ ap (map look_of) known) (length-looks units ls ks looks known) sources

length-keys : (units : List TypedUnit) (alike : Numbering) (keys : List Key) (ks : List Known) → lists_of keys ≡ first_keys_behind alike [] ks → ks ≡ structures units → map (λ (k : Key). k.items) keys ≡ map (key_of alike (structures units)) (structures units)
unfolding lists_of
length-keys units alike keys ks lists known = lists ∙ (ap (first_keys_behind alike []) known ∙ first_keys-are alike (structures units) (are-ordered units))

keys-long : (units : List TypedUnit) (alike : Numbering) (keys : List Key) (ks : List Known) → lists_of keys ≡ first_keys_behind alike [] ks → ks ≡ structures units → length keys ≡ length (structures units)
keys-long units alike keys ks lists known =
    sym (length-map_of (λ (k : Key). k.items) keys) ∙ (ap length (length-keys units alike keys ks lists known) ∙ length-map_of (key_of alike (structures units)) (structures units))

-- classes of first structures are counted
pub keys-counted : (units : List TypedUnit) (alike : Numbering) (keys : List Key) (ks : List Known) (numbering : Numbering) (count : ℕ) → lists_of keys ≡ first_keys_behind alike [] ks → ks ≡ structures units →
    numbering ≡ by_source units (class_numbers same_list keys) → count ≡ length (distinct same_list keys) → IsCounted units numbering count
keys-counted units alike keys ks numbering count lists known sources number = counted-classes units same_list keys numbering count (keys-long units alike keys ks lists known) sources number

pub types-are : (units : List TypedUnit) (ls : List LookOf) (keys : List Key) (ks : List Known) (looks alike start types : Numbering) → looks_of ls ≡ map look_of ks → ks ≡ structures units →
    looks ≡ by_source units (class_numbers same_look ls) → IsCoarsest units looks alike → lists_of keys ≡ first_keys_behind alike [] ks → start ≡ by_source units (class_numbers same_list keys) →
    IsCoarsest units start types → AreTypes units types
types-are units ls keys ks looks alike start types look known sources coarsest lists firsts finest =
    are-types units looks alike (looks-classes units ls ks looks look known sources) coarsest start types
    (numbers-classes units same_list (λ (k : Key). k.items) list-sound list-complete keys start (key_of alike (structures units)) (length-keys units alike keys ks lists known) (keys-long units alike keys ks lists known) firsts)
    finest
