-- The first structure of each class of a source: its key is that of the class, and the key of another is its own.
use Rattle.std.proofs.Common.{◌≡◌, ◌∙◌, ◌⊎◌, inl, inr, ◌<◌, ℕ, Bool, true, false, ◌&&◌, cond, nat_eq, nat_lt, List, [], ◌∷◌, ◌++◌, map, fold, refl, ap, sym, subst, arith, append_assoc, ltb-true, lt-ltb}
use Rattle.std.specs.List.{list_any}
use Rattle.std.proofs.lemmas.Bool.{eqb-true, eq-eqb, and_parts}
use Rattle.std.proofs.lemmas.Grind.{fold-append}
use Rattle.std.proofs.lemmas.List.{map-append}
use Rattle.indexmap.specs.IndexSet.{insert_key}
use Rattle.cc_structures.specs.Ordered.{same_seen, seen_of, first_key, first_keys_behind}
use Rattle.cc_structures.specs.Structures.{Known, Numbering, number_of}
use Rattle.cc_structures.specs.View.{known_of, knowns_of}
use Rattle.cc_structures.specs.declared.firsts.Seen.{Seen}
use Rattle.cc_structures.specs.declared.known.Known.{Known as KnownOf}
use Rattle.cc_structures.proofs.ClassLemmas.{any-covered}
use Rattle.cc_structures.proofs.Elements.{In, in-left, in-right, in-cases, in-map, in-map_from, any-in, in-any}
use Rattle.cc_structures.proofs.KeyLemmas.{lists-more, lists-nil}
use Rattle.cc_structures.proofs.KnownLemmas.{knowns-more, knowns-nil}
use Rattle.cc_structures.proofs.SourceLemmas.{IsBefore, AreOrdered}

-- ---- one structure more

unfoldable pub seen_in : Numbering → List Known → List Seen
seen_in numbering ss = fold (insert_key same_seen) [] (map (seen_of numbering) ss)

module _ (numbering : Numbering) where
  behind-append : (seen : List Seen) (ss : List Known) (s : Known) → first_keys_behind numbering seen (ss ++ s ∷ []) ≡
      first_keys_behind numbering seen ss ++ first_key numbering (list_any (same_seen (seen_of numbering s)) (fold (insert_key same_seen) seen (map (seen_of numbering) ss))) s ∷ []
  behind-append seen [] s = refl
  behind-append seen (x ∷ ss) s = ap (λ ks. first_key numbering (list_any (same_seen (seen_of numbering x)) seen) x ∷ ks) (behind-append (insert_key same_seen seen (seen_of numbering x)) ss s)

  pub first_keys-more : (ss : List KnownOf) (s : KnownOf) → first_keys_behind numbering [] (knowns_of (ss ++ s ∷ [])) ≡
      first_keys_behind numbering [] (knowns_of ss) ++ first_key numbering (list_any (same_seen (seen_of numbering (known_of s))) (seen_in numbering (knowns_of ss))) (known_of s) ∷ []
  unfolding seen_in
  first_keys-more ss s = ap (first_keys_behind numbering []) (knowns-more ss s) ∙ behind-append [] (knowns_of ss) (known_of s)

  pub seen_in-more : (ss : List KnownOf) (s : KnownOf) → seen_in numbering (knowns_of (ss ++ s ∷ [])) ≡ insert_key same_seen (seen_in numbering (knowns_of ss)) (seen_of numbering (known_of s))
  unfolding seen_in
  seen_in-more ss s =
      ap (λ ks. fold (insert_key same_seen) [] (map (seen_of numbering) ks)) (knowns-more ss s)
      ∙ (ap (fold (insert_key same_seen) []) (map-append (seen_of numbering) (knowns_of ss) (known_of s ∷ []))
      ∙ fold-append (insert_key same_seen) [] (map (seen_of numbering) (knowns_of ss)) (seen_of numbering (known_of s) ∷ []))

  pub seen_in-nil : seen_in numbering (knowns_of []) ≡ []
  unfolding seen_in
  seen_in-nil = ap (λ ks. fold (insert_key same_seen) [] (map (seen_of numbering) ks)) knowns-nil

  pub first_keys-nil : first_keys_behind numbering [] (knowns_of []) ≡ []
  first_keys-nil = ap (first_keys_behind numbering []) knowns-nil

pub ruleset of_first_keys = (first_keys-more, seen_in-more, seen_in-nil, first_keys-nil, lists-more, lists-nil)

-- ---- what is seen

seen-sound : (a b : Seen) → same_seen a b ≡ true → a ≡ b
seen-sound a b h =
    let p = and_parts (nat_eq a.text b.text) (nat_eq a.number b.number) h in
    ap (λ (x : ℕ). record { text = x; number = a.number }) (eqb-true a.text b.text p.0) ∙ ap (λ (x : ℕ). record { text = b.text; number = x }) (eqb-true a.number b.number p.1)

seen-self : (a : Seen) → same_seen a a ≡ true
seen-self a = rw (eq-eqb a.text a.text refl, eq-eqb a.number a.number refl) refl

-- nothing is found that was not there
in-all : (found ks : List Seen) (x : Seen) → In x (fold (insert_key same_seen) found ks) → In x found ⊎ In x ks
in-all found [] x h = inl h
in-all found (k ∷ ks) x h = elim (in-all (insert_key same_seen found k) ks x h) [
  | inl i ↦ by (list_any (same_seen k) found) i
  | inr i ↦ inr (inr i)
]
  where
    by : (b : Bool) → In x (cond b found (found ++ k ∷ [])) → In x found ⊎ In x (k ∷ ks)
    by true i = inl i
    by false i = elim (in-cases found (k ∷ []) x i) [
      | inl j ↦ inl j
      | inr j ↦ elim j [ inl e ↦ inr (inl e) | inr never ↦ absurd never ]
    ]

-- ---- another of the class stands in front in the source

module _ (numbering : Numbering) where
  abbrev pub is_earlier : Known → Known → Bool
  is_earlier s t = nat_eq t.text s.text && (nat_lt t.position s.position && nat_eq (number_of numbering t) (number_of numbering s))

  pub record Earlier (s t : Known) : Type 0 where
    pub text : t.text ≡ s.text
    pub position : t.position < s.position
    pub number : number_of numbering t ≡ number_of numbering s

  earlier-of : (s t : Known) → is_earlier s t ≡ true → Earlier s t
  earlier-of s t h =
      let p = and_parts (nat_eq t.text s.text) (nat_lt t.position s.position && nat_eq (number_of numbering t) (number_of numbering s)) h in
      let q = and_parts (nat_lt t.position s.position) (nat_eq (number_of numbering t) (number_of numbering s)) p.1 in
      record { text = eqb-true t.text s.text p.0; position = low t.position s.position q.0; number = eqb-true (number_of numbering t) (number_of numbering s) q.1 }
    where
      low : (m n : ℕ) → nat_lt m n ≡ true → m < n
      low m n h = ltb-true m n h

  of-earlier : (s t : Known) → Earlier s t → is_earlier s t ≡ true
  of-earlier s t e = rw (eq-eqb t.text s.text e.text, low t.position s.position e.position, eq-eqb (number_of numbering t) (number_of numbering s) e.number) refl
    where
      low : (m n : ℕ) → m < n → nat_lt m n ≡ true
      low m n h = lt-ltb m n h

  module _ (all : List Known) where
    abbrev pub has_earlier : Known → Bool
    has_earlier s = list_any (is_earlier s) all

    pub earlier-there : (s : Known) → has_earlier s ≡ true → (t : Known) × (In t all × Earlier s t)
    earlier-there s h = let r = in-any (is_earlier s) all h in (r.0, (r.1.0, earlier-of s r.0 r.1.1))

    pub there-earlier : (s t : Known) → In t all → Earlier s t → has_earlier s ≡ true
    there-earlier s t i e = any-in (is_earlier s) all t i (of-earlier s t e)

    abbrev pub key_of : Known → List ℕ
    key_of s = first_key numbering (has_earlier s) s

  ordered-behind : (before : List Known) (s : Known) (after : List Known) → AreOrdered (before ++ s ∷ after) → (t : Known) → In t before → IsBefore t s
  ordered-behind [] s after o t h = absurd h
  ordered-behind (x ∷ before) s after o t (inl e) = subst (λ y. IsBefore y s) e (o.0 s (in-right before (s ∷ after) s (inl refl)))
  ordered-behind (x ∷ before) s after o t (inr h) = ordered-behind before s after o.1 t h

  ordered-after : (before : List Known) (s : Known) (after : List Known) → AreOrdered (before ++ s ∷ after) → (t : Known) → In t after → IsBefore s t
  ordered-after [] s after o t h = o.0 t h
  ordered-after (x ∷ before) s after o t h = ordered-after before s after o.1 t h

  bool-same : (a b : Bool) → (a ≡ true → b ≡ true) → (b ≡ true → a ≡ true) → a ≡ b
  bool-same true b to from = sym (to refl)
  bool-same false true to from = from refl
  bool-same false false to from = refl

  position-of : (s t : Known) → t.text ≡ s.text → IsBefore t s → t.position < s.position
  position-of s t text (inl h) = absurd (omega (arith, h, text))
  position-of s t text (inr h) = h.1

  same-seen : (s t : Known) → Earlier s t → seen_of numbering t ≡ seen_of numbering s
  same-seen s t e = ap (λ (x : ℕ). record { text = x; number = number_of numbering t }) e.text ∙ ap (λ (x : ℕ). record { text = s.text; number = x }) e.number

  not-behind : (s t : Known) → Earlier s t → IsBefore s t → ⊥
  not-behind s t e (inl h) = let x = e.text in omega (arith, h, x)
  not-behind s t e (inr h) = let x = e.position in let y = h.1 in omega (arith, x, y)

  place : (before : List Known) (s : Known) (after : List Known) → AreOrdered (before ++ s ∷ after) → (t : Known) → Earlier s t → In t before ⊎ In t (s ∷ after) → In t before
  place before s after o t e (inl i) = i
  place before s after o t e (inr (inl same)) = let x = e.position in let y = ap (λ (z : Known). z.position) same in absurd (omega (arith, x, y))
  place before s after o t e (inr (inr i)) = absurd (not-behind s t e (ordered-after before s after o t i))

  -- what was seen is what stands in front
  seen-earlier : (before : List Known) (s : Known) (after : List Known) → AreOrdered (before ++ s ∷ after) →
      list_any (same_seen (seen_of numbering s)) (fold (insert_key same_seen) [] (map (seen_of numbering) before)) ≡ has_earlier (before ++ s ∷ after) s
  seen-earlier before s after o = bool-same _ _ to from
    where
      to : list_any (same_seen (seen_of numbering s)) (fold (insert_key same_seen) [] (map (seen_of numbering) before)) ≡ true → has_earlier (before ++ s ∷ after) s ≡ true
      to h =
          let r = in-any (same_seen (seen_of numbering s)) (fold (insert_key same_seen) [] (map (seen_of numbering) before)) h in
          let i = elim (in-all [] (map (seen_of numbering) before) r.0 r.1.0) as (λ z. In r.0 (map (seen_of numbering) before)) [ inl never ↦ absurd never | inr j ↦ j ] in
          let t = in-map_from (seen_of numbering) before r.0 i in
          let same = seen-sound (seen_of numbering s) r.0 r.1.1 ∙ sym t.1.1 in
          let text : t.0.text ≡ s.text = sym (ap (λ (x : Seen). x.text) same) in
          let number : number_of numbering t.0 ≡ number_of numbering s = sym (ap (λ (x : Seen). x.number) same) in
          there-earlier (before ++ s ∷ after) s t.0 (in-left before (s ∷ after) t.0 t.1.0)
          (record { text = text; position = position-of s t.0 text (ordered-behind before s after o t.0 t.1.0); number = number })

      from : has_earlier (before ++ s ∷ after) s ≡ true → list_any (same_seen (seen_of numbering s)) (fold (insert_key same_seen) [] (map (seen_of numbering) before)) ≡ true
      from h =
          let r = earlier-there (before ++ s ∷ after) s h in
          let i = place before s after o r.0 r.1.1 (in-cases before (s ∷ after) r.0 r.1.0) in
          let covered = any-covered same_seen seen-self [] (map (seen_of numbering) before) (seen_of numbering r.0) (in-map (seen_of numbering) before r.0 i) in
          subst (λ x. list_any (same_seen x) (fold (insert_key same_seen) [] (map (seen_of numbering) before)) ≡ true) (same-seen s r.0 r.1.1) covered

  keys-behind : (before rest : List Known) → AreOrdered (before ++ rest) →
      first_keys_behind numbering (fold (insert_key same_seen) [] (map (seen_of numbering) before)) rest ≡ map (key_of (before ++ rest)) rest
  keys-behind before [] o = refl
  keys-behind before (s ∷ rest) o =
      let shift : (before ++ s ∷ []) ++ rest ≡ before ++ s ∷ rest = append_assoc before (s ∷ []) rest in
      let seen : fold (insert_key same_seen) [] (map (seen_of numbering) (before ++ s ∷ [])) ≡ insert_key same_seen (fold (insert_key same_seen) [] (map (seen_of numbering) before)) (seen_of numbering s) =
      ap (fold (insert_key same_seen) []) (map-append (seen_of numbering) before (s ∷ [])) ∙ fold-append (insert_key same_seen) [] (map (seen_of numbering) before) (seen_of numbering s ∷ []) in
      let more : first_keys_behind numbering (insert_key same_seen (fold (insert_key same_seen) [] (map (seen_of numbering) before)) (seen_of numbering s)) rest ≡ map (key_of (before ++ s ∷ rest)) rest =
      ap (λ k. first_keys_behind numbering k rest) (sym seen)
      ∙ (keys-behind (before ++ s ∷ []) rest (subst AreOrdered (sym shift) o) ∙ ap (λ a. map (key_of a) rest) shift) in
      let here : first_key numbering (list_any (same_seen (seen_of numbering s)) (fold (insert_key same_seen) [] (map (seen_of numbering) before))) s ≡ key_of (before ++ s ∷ rest) s =
      ap (λ b. first_key numbering b s) (seen-earlier before s rest o) in
      ap (λ k. k ∷ first_keys_behind numbering (insert_key same_seen (fold (insert_key same_seen) [] (map (seen_of numbering) before)) (seen_of numbering s)) rest) here
      ∙ ap (λ ks. key_of (before ++ s ∷ rest) s ∷ ks) more

  pub first_keys-are : (all : List Known) → AreOrdered all → first_keys_behind numbering [] all ≡ map (key_of all) all
  first_keys-are all o = keys-behind [] all o
