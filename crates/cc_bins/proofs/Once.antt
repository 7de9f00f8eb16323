-- How often a slot stands in what is placed: in one field at most, and words are no more than slots.
use Rattle.std.proofs.Common.{◌≡◌, ◌≢◌, ◌≤◌, ◌<◌, ◌+◌, ◌==◌, ◌⊎◌, inl, inr, ℕ, suc, Bool, true, false, cond, eqb, List, [], ◌∷◌, length, fold, filter, map, count_by, refl, ap, sym, ◌∙◌, arith, All, AllPairs, IsPermutation}
use Rattle.std.specs.List.{list_any}
use Rattle.std.proofs.lemmas.Bool.{or_cases}
use Rattle.std.proofs.lemmas.Bool.Decides.{nat_tests, Decides-eqb}
use Rattle.std.proofs.lemmas.List.{length-map, get_or-map}
use Rattle.std.proofs.lemmas.List.Elements.{All-head, All-tail, All-map}
use Rattle.std.proofs.lemmas.List.Sorted.{All-permutation, IsPermutation-sym, length_permutation, sum_by-IsPermutation}
use Rattle.std.proofs.lemmas.List.Sums.{sum_by-cons, sum_by-append, sum_by_push}
use Rattle.std.proofs.lemmas.Map.Made.{IsDistinct-from_AllPairs}
use Rattle.std.proofs.lemmas.Map.Steps.{length-le_from_distinct_below}
use Rattle.cc_bins.specs.declared.types.Want.{Want}
use Rattle.cc_bins.specs.declared.types.Field.{Field}
use Rattle.cc_bins.specs.declared.types.Bins.{Bins}
use Rattle.cc_bins.specs.declared.open_words.Open.{Open}
use Rattle.cc_bins.specs.declared.open_words.Placed.{Placed}
use Rattle.cc_bins.specs.Packed.{AreApart}
use Rattle.cc_bins.specs.Placing.{has_room, placed_at, put, opens, saves, field_of, fields_from, bins_of}
use Rattle.cc_bins.proofs.Rooms.{put_yes, put_no}

-- ---- How many words ----

module _ (x : Want) where
  length_step : (w : Open) (ws : List Open) → length (put ws x) ≤ suc (length ws) → (b : Bool) → has_room x.group x.bits w ≡ b → length (put (w ∷ ws) x) ≤ suc (suc (length ws))
  length_step w ws h true e = let p = ap length (put_yes x w ws e) in omega (arith, p)
  length_step w ws h false e = let p = ap length (put_no x w ws e) in omega (arith, p)

  length-put : (ws : List Open) → length (put ws x) ≤ suc (length ws)
  length-put [] = omega arith
  length-put (w ∷ ws) = length_step w ws (length-put ws) (has_room x.group x.bits w) refl

length-fold : (order : List Want) (ws : List Open) → length (fold put ws order) ≤ length ws + length order
length-fold [] ws = omega arith
length-fold (x ∷ order) ws = let a = length-fold order (put ws x) in let b = length-put x ws in omega (arith, a, b)

any_below : (n q : ℕ) (xs : List ℕ) → All (λ m. m < n) xs → list_any (eqb q) xs ≡ true → q < n
any_below n q [] h e = absurd (cc)
any_below n q (x ∷ xs) h e = below_cases (or_cases (eqb q x) (list_any (eqb q) xs) e) (λ k. any_below n q xs (All-tail (λ m. m < n) x xs h) k)
  where
    below_cases : (eqb q x ≡ true) ⊎ (list_any (eqb q) xs ≡ true) → (list_any (eqb q) xs ≡ true → q < n) → q < n
    below_cases (inl k) more = let s : q ≡ x = (Decides-eqb q x).0 k in let l = All-head (λ m. m < n) x xs h in omega (arith, s, l)
    below_cases (inr k) more = more k

slots_apart : (wants : List Want) → AreApart wants → AllPairs (λ m n. m ≢ n) (map (λ x. x.slot) wants)
slots_apart wants h = λ i j d l k e.
    let n = length-map wants (λ (x : Want). x.slot) in
    let k' : j < length wants = omega (arith, n) in
    h i j none l k' (sym (get_or-map (λ (x : Want). x.slot) wants i none d (omega arith)) ∙ e ∙ get_or-map (λ (x : Want). x.slot) wants j none d k')
  where
    none : Want
    none = record { group = 0; slot = 0; bits = 0; bytes = 0 }

wants_few : (n : ℕ) (wants : List Want) → AreApart wants → All (λ x. x.slot < n) wants → length wants ≤ n
wants_few n wants h below =
    let slots = map (λ (x : Want). x.slot) wants in
    let a = IsDistinct-from_AllPairs {eq = eqb} Decides-eqb slots (slots_apart wants h) in
    let b = length-le_from_distinct_below slots n a (λ q e. any_below n q slots (All-map (λ m. m < n) (λ (x : Want). x.slot) wants below) e) in
    omega (arith, b, length-map wants (λ (x : Want). x.slot))

-- words are no more than there are numbers of slots
pub words_few : (n : ℕ) (wants order : List Want) → IsPermutation wants order → AreApart wants → All (λ x. x.slot < n) order → (words : List Open) → words ≡ opens order → length words ≤ n
words_few n wants order p h below words e =
    let few = wants_few n wants h (All-permutation (λ (x : Want). x.slot < n) order wants (IsPermutation-sym wants order p) below) in
    let l = length_permutation wants order p in
    let m = length-fold order [] in
    omega (arith, few, l, m, ap length e)

-- ---- How many fields ----

module _ (s : ℕ) where
  abbrev pub is_slot : Want → Bool
  is_slot x = x.slot == s

  abbrev is_placed : Placed → Bool
  is_placed p = p.want.slot == s

  abbrev is_field : Field → Bool
  is_field f = f.slot == s

  -- in how many places of words the slot stands
  held : List Open → ℕ
  held [] = 0
  held (w ∷ ws) = count_by is_placed w.slots + held ws

  held_step : (x : Want) (w : Open) (ws : List Open) → held (put ws x) ≡ held ws + cond (is_slot x) 1 0 → (b : Bool) → has_room x.group x.bits w ≡ b → held (put (w ∷ ws) x) ≡ held (w ∷ ws) + cond (is_slot x) 1 0
  unfolding held
  held_step x w ws h true e =
      let p = ap held (put_yes x w ws e) in
      let q = sum_by_push (λ (p : Placed). cond (is_placed p) 1 0) w.slots (placed_at w.used x) in
      omega (arith, p, q)
  held_step x w ws h false e = let p = ap held (put_no x w ws e) in omega (arith, p, h)

  held-put : (x : Want) (ws : List Open) → held (put ws x) ≡ held ws + cond (is_slot x) 1 0
  unfolding held
  held-put x [] = omega arith
  held-put x (w ∷ ws) = held_step x w ws (held-put x ws) (has_room x.group x.bits w) refl

  held-fold : (order : List Want) (ws : List Open) → held (fold put ws order) ≡ held ws + count_by is_slot order
  held-fold [] ws = omega arith
  held-fold (x ∷ order) ws =
      let a = held-fold order (put ws x) in
      let b = held-put x ws in
      let c = sum_by-cons (λ (x : Want). cond (is_slot x) 1 0) x order in
      omega (arith, a, b, c)

  filter_step : (w : Open) (ws : List Open) → held (filter saves ws) ≤ held ws → (b : Bool) → held (cond b (w ∷ filter saves ws) (filter saves ws)) ≤ held (w ∷ ws)
  unfolding held
  filter_step w ws h true = omega arith
  filter_step w ws h false = omega arith

  held-filter : (ws : List Open) → held (filter saves ws) ≤ held ws
  unfolding held
  held-filter [] = omega arith
  held-filter (w ∷ ws) = filter_step w ws (held-filter ws) (saves w)

  count-map : (n : ℕ) (ps : List Placed) → count_by is_field (map (field_of n) ps) ≡ count_by is_placed ps
  count-map n [] = refl
  count-map n (p ∷ ps) =
      let a = sum_by-cons (λ (f : Field). cond (is_field f) 1 0) (field_of n p) (map (field_of n) ps) in
      let b = sum_by-cons (λ (p : Placed). cond (is_placed p) 1 0) p ps in
      omega (arith, a, b, count-map n ps)

  count-fields : (n : ℕ) (ws : List Open) → count_by is_field (fields_from n ws) ≡ held ws
  unfolding held
  count-fields n [] = refl
  count-fields n (w ∷ ws) =
      let a = sum_by-append (λ (f : Field). cond (is_field f) 1 0) (map (field_of n) w.slots) (fields_from (n + 1) ws) in
      omega (arith, a, count-map n w.slots, count-fields (n + 1) ws)

  none_more : (x : Want) (xs : List Want) → x.slot ≡ s → All (λ y. x.slot ≢ y.slot) xs → count_by is_slot xs ≡ 0
  none_more x [] e h = refl
  none_more x (y ∷ xs) e h =
      let a = sum_by-cons (λ (x : Want). cond (is_slot x) 1 0) y xs in
      let k : (y.slot == s) ≡ false = other (y.slot) (All-head (λ (z : Want). x.slot ≢ z.slot) y xs h) in
      omega (arith, a, ap {B = ℕ} (λ (b : Bool). cond b 1 0) k, none_more x xs e (All-tail (λ (z : Want). x.slot ≢ z.slot) y xs h))
    where
      other : (n : ℕ) → x.slot ≢ n → (n == s) ≡ false
      other n f = grind (arith, nat_tests)

  pair_head : (x : Want) (xs : List Want) → AreApart (x ∷ xs) → All (λ y. x.slot ≢ y.slot) xs
  pair_head x xs h = λ k d l. h 0 (suc k) d (omega arith) (omega arith)

  pair_tail : (x : Want) (xs : List Want) → AreApart (x ∷ xs) → AreApart xs
  pair_tail x xs h = λ i j d l k. h (suc i) (suc j) d (omega arith) (omega arith)

  one_step : (x : Want) (xs : List Want) → AreApart (x ∷ xs) → count_by is_slot xs ≤ 1 → (b : Bool) → is_slot x ≡ b → count_by is_slot (x ∷ xs) ≤ 1
  one_step x xs h k true e =
      let a = sum_by-cons (λ (x : Want). cond (is_slot x) 1 0) x xs in
      let n = none_more x xs ((Decides-eqb x.slot s).0 e) (pair_head x xs h) in
      omega (arith, a, ap {B = ℕ} (λ (b : Bool). cond b 1 0) e, n)
  one_step x xs h k false e =
      let a = sum_by-cons (λ (x : Want). cond (is_slot x) 1 0) x xs in
      omega (arith, a, ap {B = ℕ} (λ (b : Bool). cond b 1 0) e, k)

  pub one_at_most : (xs : List Want) → AreApart xs → count_by is_slot xs ≤ 1
  one_at_most [] h = omega arith
  one_at_most (x ∷ xs) h = one_step x xs h (one_at_most xs (pair_tail x xs h)) (is_slot x) refl

  pub one_field : (wants order : List Want) → IsPermutation wants order → AreApart wants → (bins : Bins) → bins ≡ bins_of (opens order) → count_by is_field bins.fields ≤ 1
  unfolding held
  one_field wants order p h bins e =
      let a = ap (λ (b : Bins). count_by is_field b.fields) e in
      let b = count-fields 0 (filter saves (opens order)) in
      let c = held-filter (opens order) in
      let d = held-fold order [] in
      let m = sum_by-IsPermutation (λ (x : Want). cond (is_slot x) 1 0) wants order p in
      let o = one_at_most wants h in
      omega (arith, a, b, c, d, m, o)
