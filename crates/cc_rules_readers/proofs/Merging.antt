-- Two lists of numbers that ascend, as one.
use Rattle.std.proofs.Common.{arith, ◌≡◌, ℕ, zero, suc, ◌+◌, ◌<◌, ◌≤◌, Bool, true, false, true≢false, ◌&&◌, ◌||◌, cond, List, [], ◌∷◌, ◌++◌, map, length, take, drop, get_or, append_assoc, refl, sym, ap, ◌∙◌}
use Rattle.std.specs.Prelude.{nat_lt}
use Rattle.std.specs.List.{filter}
use Rattle.std.proofs.lemmas.List.{map-append, at_drop_more, at_drop_all}
use Rattle.cc_rules_asked.specs.CcRulesNeeds.Flowing.{numbers}
use Rattle.cc_rules_readers.specs.Points.{count_below, merged}

-- ---- of the numbers that pass one of two tests, never both

module _ (whole first second : ℕ → Bool) (parts : (n : ℕ) → whole n ≡ (first n || second n)) (apart : (n : ℕ) → (first n && second n) ≡ false) where
  abbrev firsts : ℕ → ℕ → List ℕ
  firsts k n = filter first (numbers k n)

  abbrev seconds : ℕ → ℕ → List ℕ
  seconds k n = filter second (numbers k n)

  -- a list whose numbers are all from one on
  abbrev IsFrom : ℕ → List ℕ → Type 0
  IsFrom k [] = Unit {0}
  IsFrom k (x ∷ xs) = k ≤ x

  from_by : (b : Bool) (k j : ℕ) (xs : List ℕ) → j ≤ k → IsFrom j xs → IsFrom j (cond b (k ∷ xs) xs)
  from_by true k j xs l h = l
  from_by false k j xs l h = h

  is_from : (test : ℕ → Bool) (j k n : ℕ) → j ≤ k → IsFrom j (filter test (numbers k n))
  is_from test j k zero l = tt
  is_from test j k (suc n) l = from_by (test k) k j (filter test (numbers (suc k) n)) l (is_from test j (suc k) n (omega (arith, l)))

  none_below : (k : ℕ) (ys : List ℕ) → IsFrom k ys → count_below k ys ≡ 0
  none_below k [] h = refl
  none_below k (y ∷ ys) h = let e : nat_lt y k ≡ false = grind (arith, h) in ap (λ b. cond b (suc (count_below k ys)) 0) e

  -- the least of all is the first, or the second
  first_least : (k : ℕ) (xs ys : List ℕ) → IsFrom (suc k) ys → merged (k ∷ xs) ys ≡ k ∷ merged xs ys
  first_least k xs ys h = ap (λ n. take n ys ++ k ∷ merged xs (drop n ys)) (none_below k ys (weaker ys h))
    where
      weaker : (ys : List ℕ) → IsFrom (suc k) ys → IsFrom k ys
      weaker [] h = tt
      weaker (y ∷ ys) h = omega (arith, h)

  second_least : (k : ℕ) (xs ys : List ℕ) → IsFrom (suc k) xs → merged xs (k ∷ ys) ≡ k ∷ merged xs ys
  second_least k [] ys h = refl
  second_least k (x ∷ xs) ys h =
      let e : nat_lt k x ≡ true = grind (arith, h) in
      ap (λ b. let n = cond b (suc (count_below x ys)) 0 in take n (k ∷ ys) ++ x ∷ merged xs (drop n (k ∷ ys))) e

  all_by : (a b : Bool) (k : ℕ) (xs ys zs : List ℕ) → (a && b) ≡ false → IsFrom (suc k) xs → IsFrom (suc k) ys → merged xs ys ≡ zs → merged (cond a (k ∷ xs) xs) (cond b (k ∷ ys) ys) ≡ cond (a || b) (k ∷ zs) zs
  all_by true true k xs ys zs h l m e = absurd (true≢false h)
  all_by true false k xs ys zs h l m e = first_least k xs ys m ∙ ap (λ rest. k ∷ rest) e
  all_by false true k xs ys zs h l m e = second_least k xs ys l ∙ ap (λ rest. k ∷ rest) e
  all_by false false k xs ys zs h l m e = e

  all_merged : (k n : ℕ) → merged (firsts k n) (seconds k n) ≡ filter whole (numbers k n)
  all_merged k zero = refl
  all_merged k (suc n) =
      all_by (first k) (second k) k (firsts (suc k) n) (seconds (suc k) n) (filter whole (numbers (suc k) n)) (apart k) (is_from first (suc k) (suc k) n (omega arith)) (is_from second (suc k) (suc k) n (omega arith)) (all_merged (suc k) n)
      ∙ ap (λ b. cond b (k ∷ filter whole (numbers (suc k) n)) (filter whole (numbers (suc k) n))) (sym (parts k))

  pub merged_parts : (n : ℕ) → merged (filter first (numbers 0 n)) (filter second (numbers 0 n)) ≡ filter whole (numbers 0 n)
  merged_parts n = all_merged 0 n

-- ---- a loop over the first list

-- of what is left of the first list, in a list that was put behind another
pub merging_on : (f : ℕ → ℕ) (xs ys old now next new : List ℕ) (i : ℕ) → i < length xs → now ++ map f (merged (drop i xs) ys) ≡ old →
    next ≡ now ++ map f (take (count_below (get_or xs i 0) ys) ys) → new ≡ next ++ f (get_or xs i 0) ∷ [] → new ++ map f (merged (drop (i + 1) xs) (drop (count_below (get_or xs i 0) ys) ys)) ≡ old
merging_on f xs ys old now next new i l h e g =
    let x = get_or xs i 0 in
    let n = count_below x ys in
    let rest = merged (drop (i + 1) xs) (drop n ys) in
    ap (λ zs. zs ++ map f rest) (g ∙ ap (λ zs. zs ++ f x ∷ []) e)
    ∙ (append_assoc (now ++ map f (take n ys)) (f x ∷ []) (map f rest)
    ∙ (append_assoc now (map f (take n ys)) (f x ∷ map f rest)
    ∙ (ap (λ zs. now ++ zs) (sym (map-append f (take n ys) (x ∷ rest)))
    ∙ (ap (λ zs. now ++ map f zs) (sym (at_drop_more (λ xs. merged xs ys) xs i 0 l)) ∙ h))))

pub merging_all : (f : ℕ → ℕ) (xs ys old now new : List ℕ) (i : ℕ) → length xs ≤ i → now ++ map f (merged (drop i xs) ys) ≡ old → new ≡ now ++ map f ys → new ≡ old
merging_all f xs ys old now new i past h e = e ∙ (ap (λ zs. now ++ map f zs) (sym (at_drop_all (λ xs. merged xs ys) xs i past)) ∙ h)
