-- Classes that are split are more in number, or the same ones.
use Rattle.std.proofs.Common.{◌≡◌, ◌∙◌, ◌⊎◌, inl, inr, ◌≤◌, ◌+◌, max, ℕ, suc, Bool, true, false, cond, List, [], ◌∷◌, ◌++◌, length, map, fold, refl, ap, sym, subst, true≢false, arith}
use Rattle.std.specs.List.{list_any, position_or_len}
use Rattle.std.proofs.lemmas.List.{length-append}
use Rattle.indexmap.specs.IndexSet.{insert_key}
use Rattle.cc_structures.specs.Classes.{numbers_behind}
use Rattle.cc_structures.specs.Refined.{AreInOrder, greatest}
use Rattle.cc_structures.proofs.Elements.{In, in-cases, any-in, in-any}
use Rattle.cc_structures.proofs.ClassLemmas.{position-within, position-past, position-kept, position-last}

max-low : (m n : ℕ) → n ≤ m → max m n ≡ m
max-low m n h = omega (arith, h)

max-next : (m n : ℕ) → n ≡ suc m → max m n ≡ suc m
max-next m n h = omega (arith, h)

module _ {K : Type 0} (eq : K → K → Bool) where
  abbrev all : List K → List K → List K
  all found ks = fold (insert_key eq) found ks

  pub length-numbers : (found ks : List K) → length (numbers_behind eq found ks) ≡ length ks
  length-numbers found [] = refl
  length-numbers found (k ∷ ks) = ap suc (length-numbers (insert_key eq found k) ks)

  length-insert_cases : (b : Bool) (found : List K) (k : K) → length (cond b found (found ++ k ∷ [])) ≤ suc (length found)
  length-insert_cases true found k = omega arith
  length-insert_cases false found k = let long = length-append found (k ∷ []) in omega (arith, long)

  pub length-all : (found ks : List K) → length (all found ks) ≤ length found + length ks
  length-all found [] = omega arith
  length-all found (k ∷ ks) =
      let one = length-insert_cases (list_any (eq k) found) found k in
      let rest = length-all (insert_key eq found k) ks in
      omega (arith, one, rest)

  -- ---- numbers of keys are in order

  pub in_order-numbers : (found ks : List K) → AreInOrder (length found) (numbers_behind eq found ks)
  in_order-numbers found [] = tt
  in_order-numbers found (k ∷ ks) = by (list_any (eq k) found) refl (in_order-numbers (insert_key eq found k) ks)
    where
      by : (b : Bool) → list_any (eq k) found ≡ b → AreInOrder (length (insert_key eq found k)) (numbers_behind eq (insert_key eq found k) ks) → AreInOrder (length found) (numbers_behind eq found (k ∷ ks))
      by true h rest =
          let low = position-within (eq k) found h in
          let same : max (length found) (suc (position_or_len (eq k) found)) ≡ length found = omega (arith, low) in
          let kept : insert_key eq found k ≡ found = ap (λ c. cond c found (found ++ k ∷ [])) h in
          (omega arith, (omega (arith, low), subst (λ m. AreInOrder m (numbers_behind eq (insert_key eq found k) ks)) (ap length kept ∙ sym same) rest))
      by false h rest =
          let past = position-past (eq k) found h in
          let next : max (length found) (suc (position_or_len (eq k) found)) ≡ suc (length found) = omega (arith, past) in
          let long = length-append found (k ∷ []) in
          let added : length (insert_key eq found k) ≡ suc (length found) = ap (λ c. length (cond c found (found ++ k ∷ []))) h ∙ omega (arith, long) in
          (omega arith, (omega (arith, past), subst (λ m. AreInOrder m (numbers_behind eq (insert_key eq found k) ks)) (added ∙ sym next) rest))

  pub greatest-numbers : (found ks : List K) → greatest (length found) (numbers_behind eq found ks) ≡ length (all found ks)
  greatest-numbers found [] = refl
  greatest-numbers found (k ∷ ks) = by (list_any (eq k) found) refl (greatest-numbers (insert_key eq found k) ks)
    where
      by : (b : Bool) → list_any (eq k) found ≡ b → greatest (length (insert_key eq found k)) (numbers_behind eq (insert_key eq found k) ks) ≡ length (all (insert_key eq found k) ks) →
          greatest (length found) (numbers_behind eq found (k ∷ ks)) ≡ length (all found (k ∷ ks))
      by true h rest =
          let low = position-within (eq k) found h in
          let same : max (length found) (suc (position_or_len (eq k) found)) ≡ length found = omega (arith, low) in
          let kept : insert_key eq found k ≡ found = ap (λ c. cond c found (found ++ k ∷ [])) h in
          ap (λ m. greatest m (numbers_behind eq (insert_key eq found k) ks)) (same ∙ sym (ap length kept)) ∙ rest
      by false h rest =
          let past = position-past (eq k) found h in
          let next : max (length found) (suc (position_or_len (eq k) found)) ≡ suc (length found) = omega (arith, past) in
          let long = length-append found (k ∷ []) in
          let added : length (insert_key eq found k) ≡ suc (length found) = ap (λ c. length (cond c found (found ++ k ∷ []))) h ∙ omega (arith, long) in
          ap (λ m. greatest m (numbers_behind eq (insert_key eq found k) ks)) (next ∙ sym added) ∙ rest

  -- ---- keys that begin with numbers in order

  module _ (head : K → ℕ) (heads : (x y : K) → eq x y ≡ true → head x ≡ head y) where
    abbrev Below : ℕ → List K → Type 0
    Below m found = (y : K) → In y found → head y ≤ m

    known-low : (m : ℕ) (found : List K) (k : K) → Below m found → list_any (eq k) found ≡ true → head k ≤ m
    known-low m found k below h =
        let y = in-any (eq k) found h in
        let low = below y.0 y.1.0 in
        let e = heads k y.0 y.1.1 in
        omega (arith, low, e)

    below-more : (m n : ℕ) (found : List K) (k : K) → Below m found → m ≤ n → head k ≤ n → Below n (found ++ k ∷ [])
    below-more m n found k below up low y h = elim (in-cases found (k ∷ []) y h) [
      | inl i ↦ let l = below y i in omega (arith, l, up)
      | inr i ↦ elim i [ inl e ↦ subst (λ z. head z ≤ n) e low | inr never ↦ absurd never ]
    ]

    abbrev IsGap : List K → List K → ℕ → Type 0
    IsGap found ks m = greatest m (map head ks) + length found ≤ length (all found ks) + m

    -- there are as many keys more as there are numbers more
    pub gap : (found ks : List K) (m : ℕ) → Below m found → AreInOrder m (map head ks) → IsGap found ks m
    gap found [] m below order = omega arith
    gap found (k ∷ ks) m below order = by (list_any (eq k) found) refl (λ f n. gap f ks n)
      where
        by : (b : Bool) → list_any (eq k) found ≡ b → ((f : List K) (n : ℕ) → Below n f → AreInOrder n (map head ks) → IsGap f ks n) → IsGap found (k ∷ ks) m
        by true h more =
            let low = known-low m found k below h in
            let same = max-low m (head k) low in
            let kept : insert_key eq found k ≡ found = ap (λ c. cond c found (found ++ k ∷ [])) h in
            let rest = more found m below (subst (λ n. AreInOrder n (map head ks)) same order.1.1) in
            subst (λ n. greatest n (map head ks) + length found ≤ length (all (insert_key eq found k) ks) + m) (sym same)
            (subst (λ f. greatest m (map head ks) + length found ≤ length (all f ks) + m) (sym kept) rest)
        by false h more =
            let added : insert_key eq found k ≡ found ++ k ∷ [] = ap (λ c. cond c found (found ++ k ∷ [])) h in
            let long = length-append found (k ∷ []) in
            let step = order.1.0 in
            let rest = more (found ++ k ∷ []) (max m (head k)) (below-more m (max m (head k)) found k below (omega arith) (omega arith)) order.1.1 in
            let few : max m (head k) ≤ suc m = omega (arith, step) in
            let goal : greatest (max m (head k)) (map head ks) + length found ≤ length (all (found ++ k ∷ []) ks) + m = omega (arith, rest, long, few) in
            subst (λ f. greatest (max m (head k)) (map head ks) + length found ≤ length (all f ks) + m) (sym added) goal

    -- the number of each key that is found is what it begins with
    abbrev Aligned : List K → Type 0
    Aligned found = (k : K) → list_any (eq k) found ≡ true → suc (position_or_len (eq k) found) ≡ head k

    not-there : (found : List K) (k y : K) → list_any (eq k) found ≡ false → In y found → eq k y ≡ true → ⊥
    not-there found k y g i e = true≢false (sym (any-in (eq k) found y i e) ∙ g)

    last-key : (found : List K) (k l : K) → list_any (eq l) found ≡ false → list_any (eq l) (found ++ k ∷ []) ≡ true → eq l k ≡ true
    last-key found k l g there =
        let y = in-any (eq l) (found ++ k ∷ []) there in
        elim (in-cases found (k ∷ []) y.0 y.1.0) [
          | inl i ↦ absurd (not-there found l y.0 g i y.1.1)
          | inr i ↦ elim i [ inl e ↦ subst (λ z. eq l z ≡ true) (sym e) y.1.1 | inr never ↦ absurd never ]
        ]

    aligned-more : (found : List K) (k : K) (m : ℕ) → length found ≡ m → head k ≡ suc m → Aligned found → Aligned (found ++ k ∷ [])
    aligned-more found k m size is aligned l there = one (list_any (eq l) found) refl
      where
        one : (b : Bool) → list_any (eq l) found ≡ b → suc (position_or_len (eq l) (found ++ k ∷ [])) ≡ head l
        one true g = ap suc (position-kept (eq l) found (k ∷ []) g) ∙ aligned l g
        one false g =
            let e = last-key found k l g there in
            ap suc (position-last (eq l) found k g e ∙ size) ∙ (sym is ∙ sym (heads l k e))

    low-or-next : (a b : ℕ) → a ≤ suc b → (a ≤ b) ⊎ (a ≡ suc b)
    low-or-next a b h = grind arith

    abbrev AreSame : List K → List K → ℕ → Type 0
    AreSame found ks m = length found ≡ m → Below m found → Aligned found → AreInOrder m (map head ks) → length (all found ks) ≤ greatest m (map head ks) → numbers_behind eq found ks ≡ map head ks

    -- a new key where no number is new leaves too few numbers
    too-few : (found ks : List K) (k : K) (m : ℕ) → length found ≡ m → Below m found → head k ≤ m → AreInOrder (max m (head k)) (map head ks) → length (all (found ++ k ∷ []) ks) ≤ greatest (max m (head k)) (map head ks) → ⊥
    too-few found ks k m size below low order few =
        let same = max-low m (head k) low in
        let long = length-append found (k ∷ []) in
        let rest = gap (found ++ k ∷ []) ks m (below-more m m found k below (omega arith) low) (subst (λ n. AreInOrder n (map head ks)) same order) in
        let enough : length (all (found ++ k ∷ []) ks) ≤ greatest m (map head ks) = subst (λ n. length (all (found ++ k ∷ []) ks) ≤ greatest n (map head ks)) same few in
        omega (arith, rest, enough, long, size)

    pub same-numbers : (found ks : List K) (m : ℕ) → AreSame found ks m
    same-numbers found [] m size below aligned order few = refl
    same-numbers found (k ∷ ks) m size below aligned order few = by (list_any (eq k) found) refl (λ f n. same-numbers f ks n)
      where
        by : (b : Bool) → list_any (eq k) found ≡ b → ((f : List K) (n : ℕ) → AreSame f ks n) → numbers_behind eq found (k ∷ ks) ≡ map head (k ∷ ks)
        by true h more =
            let low = known-low m found k below h in
            let same = max-low m (head k) low in
            let kept : insert_key eq found k ≡ found = ap (λ c. cond c found (found ++ k ∷ [])) h in
            let enough : length (all found ks) ≤ greatest m (map head ks) =
            subst (λ f. length (all f ks) ≤ greatest m (map head ks)) kept (subst (λ n. length (all (insert_key eq found k) ks) ≤ greatest n (map head ks)) same few) in
            let rest = more found m size below aligned (subst (λ n. AreInOrder n (map head ks)) same order.1.1) enough in
            ap (λ n. n ∷ numbers_behind eq (insert_key eq found k) ks) (aligned k h) ∙ ap (λ ns. head k ∷ ns) (ap (λ f. numbers_behind eq f ks) kept ∙ rest)
        by false h more =
            let added : insert_key eq found k ≡ found ++ k ∷ [] = ap (λ c. cond c found (found ++ k ∷ [])) h in
            let enough : length (all (found ++ k ∷ []) ks) ≤ greatest (max m (head k)) (map head ks) = subst (λ f. length (all f ks) ≤ greatest (max m (head k)) (map head ks)) added few in
            let is : head k ≡ suc m = elim (low-or-next (head k) m order.1.0) [ inl low ↦ absurd (too-few found ks k m size below low order.1.1 enough) | inr e ↦ e ] in
            let top = max-next m (head k) is in
            let long = length-append found (k ∷ []) in
            let size_more : length (found ++ k ∷ []) ≡ suc m = omega (arith, long, size) in
            let low : head k ≤ suc m = omega (arith, is) in
            let rest = more (found ++ k ∷ []) (suc m) size_more (below-more m (suc m) found k below (omega arith) low) (aligned-more found k m size is aligned)
            (subst (λ n. AreInOrder n (map head ks)) top order.1.1) (subst (λ n. length (all (found ++ k ∷ []) ks) ≤ greatest n (map head ks)) top enough) in
            ap (λ n. n ∷ numbers_behind eq (insert_key eq found k) ks) (ap suc (position-past (eq k) found h ∙ size) ∙ sym is) ∙ ap (λ ns. head k ∷ ns) (ap (λ f. numbers_behind eq f ks) added ∙ rest)
