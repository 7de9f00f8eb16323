-- Names that are given one after the other: apart from those of their space and from one another, and new where they are not wished for.
use Rattle.std.proofs.Common.{◌≡◌, ◌∙◌, ◌+◌, ◌⊎◌, inl, inr, ℕ, zero, suc, Bool, true, false, true≢false, cond, List, [], ◌∷◌, ◌++◌, length, Some, slice_get, refl, ap, sym, arith, length-append, append_assoc}
use Rattle.std.specs.List.{list_all}
use Rattle.std.specs.Str.{bytes_eq}
use Rattle.std.proofs.lemmas.Bool.{or_cases, and_parts, and_from, false_from_ne_true}
use Rattle.std.proofs.lemmas.List.Folds.{list_any-append}
use Rattle.cc_given_names.specs.Spaces.{AreAmong, HaveNumbers, is_named, is_own}
use Rattle.cc_given_names.proofs.Among.{same-text, itself, among-first, among-left, among-right, left-absent, distinct-cons}
use Rattle.cc_given_names.proofs.Free.{new-free, free-absent, taken-not}
use Rattle.cc_given_names.proofs.Words.{with-number-named}
use Rattle.cc_names.specs.Names.{Wish, Own, Numbered, is_among, is_free, new_name, name_for, names_for}
use Rattle.cc_words.specs.Names.{are_distinct, is_name}

module _ (reserved : List (List ℕ)) where
  -- ---- one name

  pub one-apart : (given space : List (List ℕ)) (w : Wish) → AreAmong space (reserved ++ given) → HaveNumbers (length reserved + length given) → is_among (name_for reserved given space w) space ≡ false
  one-apart given space (Numbered base) h enough = free-absent reserved given space (new_name reserved given base 1) h (new-free reserved given base 1 (omega arith) enough)
  one-apart given space (Own x) h enough = by (is_among x space) refl
    where
      by : (b : Bool) → is_among x space ≡ b → is_among (cond b (new_name reserved given x 2) x) space ≡ false
      by true e = free-absent reserved given space (new_name reserved given x 2) h (new-free reserved given x 2 (omega arith) enough)
      by false e = e

  one-new : (given space : List (List ℕ)) (w : Wish) → HaveNumbers (length reserved + length given) → is_own w (name_for reserved given space w) ≡ false → is_free reserved given (name_for reserved given space w) ≡ true
  one-new given space (Numbered base) enough h = new-free reserved given base 1 (omega arith) enough
  one-new given space (Own x) enough h = by (is_among x space) h
    where
      by : (b : Bool) → bytes_eq x (cond b (new_name reserved given x 2) x) ≡ false → is_free reserved given (cond b (new_name reserved given x 2) x) ≡ true
      by true k = new-free reserved given x 2 (omega arith) enough
      by false k = absurd (true≢false (sym (itself x) ∙ k))

  one-named : (given space : List (List ℕ)) (w : Wish) → is_named w ≡ true → is_name (name_for reserved given space w) ≡ true
  one-named given space (Numbered base) h = with-number-named base _ h
  one-named given space (Own x) h = by (is_among x space)
    where
      by : (b : Bool) → is_name (cond b (new_name reserved given x 2) x) ≡ true
      by true = with-number-named x _ h
      by false = h

  -- ---- a space with a name more

  pub still-among : (given space : List (List ℕ)) (x : List ℕ) → AreAmong space (reserved ++ given) → AreAmong (space ++ x ∷ []) (reserved ++ (given ++ x ∷ []))
  still-among given space x h z i = by (or_cases (is_among z space) (is_among z (x ∷ [])) (sym (list_any-append (bytes_eq z) space (x ∷ [])) ∙ i))
    where
      by : (is_among z space ≡ true) ⊎ (is_among z (x ∷ []) ≡ true) → is_among z (reserved ++ (given ++ x ∷ [])) ≡ true
      by (inl s) = ap (is_among z) (sym (append_assoc reserved given (x ∷ []))) ∙ among-left z (reserved ++ given) (x ∷ []) (h z s)
      by (inr s) = among-right z reserved (given ++ x ∷ []) (among-right z given (x ∷ []) s)

  fewer : (given : List (List ℕ)) (x : List ℕ) (n : ℕ) → HaveNumbers (length reserved + (length given + suc n)) → HaveNumbers (length reserved + (length (given ++ x ∷ []) + n))
  fewer given x n h = let l = length-append given (x ∷ []) in omega (arith, h, l)

  first-few : (given : List (List ℕ)) (n : ℕ) → HaveNumbers (length reserved + (length given + suc n)) → HaveNumbers (length reserved + length given)
  first-few given n h = omega (arith, h)

  -- ---- all of them

  pub names-apart : (given space : List (List ℕ)) (ws : List Wish) → AreAmong space (reserved ++ given) → HaveNumbers (length reserved + (length given + length ws)) →
      (x : List ℕ) → is_among x (names_for reserved given space ws) ≡ true → is_among x space ≡ false
  unfolding names_for
  names-apart given space [] h enough x i = absurd (true≢false (sym i))
  names-apart given space (w ∷ ws) h enough x i =
      let y = name_for reserved given space w in
      let rest = names-apart (given ++ y ∷ []) (space ++ y ∷ []) ws (still-among given space y h) (fewer given y (length ws) enough) x in
      by (or_cases (bytes_eq x y) (is_among x (names_for reserved (given ++ y ∷ []) (space ++ y ∷ []) ws)) i) (one-apart given space w h (first-few given (length ws) enough)) rest
    where
      by : {A : Type 0} → (bytes_eq x (name_for reserved given space w) ≡ true) ⊎ A → is_among (name_for reserved given space w) space ≡ false →
          (A → is_among x (space ++ name_for reserved given space w ∷ []) ≡ false) → is_among x space ≡ false
      by (inl e) here rest = ap (λ (z : List ℕ). is_among z space) (same-text x (name_for reserved given space w) e) ∙ here
      by (inr r) here rest = left-absent x space (name_for reserved given space w ∷ []) (rest r)

  pub names-distinct : (given space : List (List ℕ)) (ws : List Wish) → AreAmong space (reserved ++ given) → HaveNumbers (length reserved + (length given + length ws)) → are_distinct (names_for reserved given space ws) ≡ true
  unfolding names_for
  names-distinct given space [] h enough = refl
  names-distinct given space (w ∷ ws) h enough =
      let y = name_for reserved given space w in
      let next = still-among given space y h in
      let few = fewer given y (length ws) enough in
      distinct-cons y (names_for reserved (given ++ y ∷ []) (space ++ y ∷ []) ws)
      (false_from_ne_true (is_among y (names_for reserved (given ++ y ∷ []) (space ++ y ∷ []) ws))
      (λ i. true≢false (sym (among-right y space (y ∷ []) (among-first y [])) ∙ names-apart (given ++ y ∷ []) (space ++ y ∷ []) ws next few y i)))
      (names-distinct (given ++ y ∷ []) (space ++ y ∷ []) ws next few)

  pub names-new : (given space : List (List ℕ)) (ws : List Wish) → HaveNumbers (length reserved + (length given + length ws)) →
      (i : ℕ) (w : Wish) (x : List ℕ) → slice_get ws i ≡ Some w → slice_get (names_for reserved given space ws) i ≡ Some x → is_own w x ≡ false → (is_among x reserved ≡ false) × (is_among x given ≡ false)
  unfolding names_for
  names-new given space [] enough i w x e f o = absurd (cc)
  names-new given space (v ∷ ws) enough zero w x e f o =
      let s : v ≡ w = cc e in
      let t : name_for reserved given space v ≡ x = cc f in
      let free = one-new given space v (first-few given (length ws) enough) (ap (is_own v) t ∙ (ap (λ (u : Wish). is_own u x) s ∙ o)) in
      taken-not reserved given x (sym (ap (is_free reserved given) t) ∙ free)
  names-new given space (v ∷ ws) enough (suc i) w x e f o =
      let y = name_for reserved given space v in
      let r = names-new (given ++ y ∷ []) (space ++ y ∷ []) ws (fewer given y (length ws) enough) i w x e f o in
      (r.0, left-absent x given (y ∷ []) r.1)

  pub names-named : (given space : List (List ℕ)) (ws : List Wish) → list_all is_named ws ≡ true → list_all is_name (names_for reserved given space ws) ≡ true
  unfolding names_for
  names-named given space [] h = refl
  names-named given space (w ∷ ws) h =
      let y = name_for reserved given space w in
      let p = and_parts (is_named w) (list_all is_named ws) h in
      and_from (is_name y) (list_all is_name (names_for reserved (given ++ y ∷ []) (space ++ y ∷ []) ws)) (one-named given space w p.0) (names-named (given ++ y ∷ []) (space ++ y ∷ []) ws p.1)
