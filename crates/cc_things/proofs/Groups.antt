-- Elements in groups by a key: each key stands once, in order of first appearance, and a further element is added to the
-- group of its key, or begins one.
use Rattle.std.proofs.Common.{◌≡◌, ◌∙◌, ◌+◌, ℕ, suc, Bool, true, false, cond, List, [], ◌∷◌, ◌++◌, get_or, set, fold, filter, map, refl, ap, sym, subst, true≢false, arith}
use Rattle.std.specs.List.{list_any, position_or_len}
use Rattle.std.specs.Prelude.{◌||◌, if◌then◌else◌}
use Rattle.std.proofs.lemmas.List.{map-append, append-nil}
use Rattle.std.proofs.lemmas.Grind.{fold-append}
use Rattle.std.proofs.lemmas.List.Folds.{list_any-append}
use Rattle.std.proofs.lemmas.List.Elements.{filter-append}

or-false : (a b : Bool) → (a || b) ≡ false → (a ≡ false) × (b ≡ false)
or-false true b h = cc h
or-false false b h = (refl, h)

one-more : (n : ℕ) → 1 + n ≡ suc n
one-more n = omega arith

behind-set : {G : Type 0} (x : G) (xs : List G) (n : ℕ) (y : G) → set (x ∷ xs) (1 + n) y ≡ x ∷ set xs n y
behind-set x xs n y = ap (λ k. set (x ∷ xs) k y) (one-more n)

behind-get : {G : Type 0} (x : G) (xs : List G) (n : ℕ) (d : G) → get_or (x ∷ xs) (1 + n) d ≡ get_or xs n d
behind-get x xs n d = ap (λ k. get_or (x ∷ xs) k d) (one-more n)

module _ {K M : Type 0} (same : K → K → Bool) (key : M → K) (self : (x : K) → same x x ≡ true) (equal : (x y : K) → same x y ≡ true → x ≡ y) where
  abbrev pub with_key : List K → K → List K
  with_key found x = if list_any (same x) found then found else found ++ x ∷ []

  abbrev pub keys_from : List K → List M → List K
  keys_from found ms = fold with_key found (map key ms)

  abbrev pub group : List M → K → List M
  group ms x = filter (λ m. same (key m) x) ms

  abbrev pub number : List K → M → ℕ
  number xs m = position_or_len (same (key m)) xs

  -- ---- no two keys are the same

  abbrev pub Apart : List K → Type 0
  Apart [] = Unit {0}
  Apart (x ∷ xs) = (list_any (λ y. same y x) xs ≡ false) × Apart xs

  -- two values that a third is the same as
  both : (k x y : K) → same k x ≡ true → same k y ≡ true → same y x ≡ true
  both k x y hx hy = subst (λ z. same z x ≡ true) (equal k y hy) hx

  apart-push : (xs : List K) (x : K) → Apart xs → list_any (same x) xs ≡ false → Apart (xs ++ x ∷ [])
  apart-push [] x apart none = (refl, tt)
  apart-push (y ∷ ys) x apart none =
      let h = or-false (same x y) (list_any (same x) ys) none in
      (list_any-append (λ z. same z y) ys (x ∷ []) ∙ rw (apart.0, h.0) refl, apart-push ys x apart.1 h.1)

  apart-with : (b : Bool) (found : List K) (x : K) → list_any (same x) found ≡ b → Apart found → Apart (cond b found (found ++ x ∷ []))
  apart-with true found x h apart = apart
  apart-with false found x h apart = apart-push found x apart h

  pub apart-keys : (found : List K) (ms : List M) → Apart found → Apart (keys_from found ms)
  apart-keys found [] apart = apart
  apart-keys found (m ∷ ms) apart = apart-keys (with_key found (key m)) ms (apart-with (list_any (same (key m)) found) found (key m) refl apart)

  -- ---- each element's key is there

  abbrev pub Covered : List K → List M → Type 0
  Covered xs [] = Unit {0}
  Covered xs (m ∷ ms) = (list_any (same (key m)) xs ≡ true) × Covered xs ms

  any-left : (p : K → Bool) (xs ys : List K) → list_any p xs ≡ true → list_any p (xs ++ ys) ≡ true
  any-left p xs ys h = list_any-append p xs ys ∙ rw h refl

  any-with : (p : K → Bool) (b : Bool) (found : List K) (x : K) → list_any p found ≡ true → list_any p (cond b found (found ++ x ∷ [])) ≡ true
  any-with p true found x h = h
  any-with p false found x h = any-left p found (x ∷ []) h

  any-kept : (p : K → Bool) (found : List K) (ms : List M) → list_any p found ≡ true → list_any p (keys_from found ms) ≡ true
  any-kept p found [] h = h
  any-kept p found (m ∷ ms) h = any-kept p (with_key found (key m)) ms (any-with p (list_any (same (key m)) found) found (key m) h)

  any-last : (p : K → Bool) (xs : List K) (x : K) → p x ≡ true → list_any p (xs ++ x ∷ []) ≡ true
  any-last p [] x h = rw h refl
  any-last p (y ∷ ys) x h = rw (any-last p ys x h) (grind arith)

  any-new : (b : Bool) (found : List K) (x : K) → list_any (same x) found ≡ b → list_any (same x) (cond b found (found ++ x ∷ [])) ≡ true
  any-new true found x h = h
  any-new false found x h = any-last (same x) found x (self x)

  pub covered-keys : (found : List K) (ms : List M) → Covered (keys_from found ms) ms
  covered-keys found [] = tt
  covered-keys found (m ∷ ms) = (
    any-kept (same (key m)) (with_key found (key m)) ms (any-new (list_any (same (key m)) found) found (key m) refl),
    covered-keys (with_key found (key m)) ms,
  )

  -- ---- one element more

  pub keys-more : (ms : List M) (m : M) → keys_from [] (ms ++ m ∷ []) ≡ with_key (keys_from [] ms) (key m)
  keys-more ms m = ap (fold with_key []) (map-append key ms (m ∷ [])) ∙ fold-append with_key [] (map key ms) (key m ∷ [])

  -- the number of a key stays when keys are added behind
  first-kept : (p : K → Bool) (xs ys : List K) → list_any p xs ≡ true → position_or_len p (xs ++ ys) ≡ position_or_len p xs
  first-kept p [] ys h = cc h
  first-kept p (x ∷ xs) ys h = by (p x) refl (first-kept p xs ys)
    where
      by : (b : Bool) → p x ≡ b → (list_any p xs ≡ true → position_or_len p (xs ++ ys) ≡ position_or_len p xs) → position_or_len p (x ∷ (xs ++ ys)) ≡ position_or_len p (x ∷ xs)
      by true e rest = rw e refl
      by false e rest = rw (e, rest (sym (ap (λ c. c || list_any p xs) e) ∙ h)) refl

  numbers-kept : (xs ys : List K) (ms : List M) → Covered xs ms → map (number (xs ++ ys)) ms ≡ map (number xs) ms
  numbers-kept xs ys [] covered = refl
  numbers-kept xs ys (m ∷ ms) covered = rw (first-kept (same (key m)) xs ys covered.0, numbers-kept xs ys ms covered.1) refl

  numbers-with : (b : Bool) (xs : List K) (x : K) (ms : List M) → Covered xs ms → map (number (cond b xs (xs ++ x ∷ []))) ms ≡ map (number xs) ms
  numbers-with true xs x ms covered = refl
  numbers-with false xs x ms covered = numbers-kept xs (x ∷ []) ms covered

  first-new : (b : Bool) (xs : List K) (x : K) → list_any (same x) xs ≡ b → position_or_len (same x) (cond b xs (xs ++ x ∷ [])) ≡ position_or_len (same x) xs
  first-new true xs x h = refl
  first-new false xs x h = at_end xs h
    where
      at_end : (ys : List K) → list_any (same x) ys ≡ false → position_or_len (same x) (ys ++ x ∷ []) ≡ position_or_len (same x) ys
      at_end [] h = rw (self x) refl
      at_end (y ∷ ys) h =
          let n = or-false (same x y) (list_any (same x) ys) h in
          rw (n.0, at_end ys n.1) refl

  pub numbers-more : (ms : List M) (m : M) →
      map (number (keys_from [] (ms ++ m ∷ []))) (ms ++ m ∷ []) ≡ map (number (keys_from [] ms)) ms ++ number (keys_from [] ms) m ∷ []
  numbers-more ms m =
      let xs = keys_from [] ms in
      let b = list_any (same (key m)) xs in
      ap (λ ks. map (number ks) (ms ++ m ∷ [])) (keys-more ms m)
      ∙ map-append (number (with_key xs (key m))) ms (m ∷ [])
      ∙ rw (numbers-with b xs (key m) ms (covered-keys [] ms), first-new b xs (key m) refl) refl

  -- ---- groups

  group-more : (ms : List M) (m : M) (x : K) → group (ms ++ m ∷ []) x ≡ group ms x ++ cond (same (key m) x) (m ∷ []) []
  group-more ms m x = filter-append (λ m. same (key m) x) ms (m ∷ [])

  -- a new key has no elements yet
  group-none : (xs : List K) (x : K) (ms : List M) → Covered xs ms → list_any (same x) xs ≡ false → group ms x ≡ []
  group-none xs x [] covered none = refl
  group-none xs x (m ∷ ms) covered none = by (same (key m) x) refl (group-none xs x ms covered.1 none)
    where
      by : (b : Bool) → same (key m) x ≡ b → group ms x ≡ [] → group (m ∷ ms) x ≡ []
      by true e rest = absurd (true≢false (sym (subst (λ k. list_any (same k) xs ≡ true) (equal (key m) x e) covered.0) ∙ none))
      by false e rest = rw e rest

  module _ {G : Type 0} (made : K → List M → G) where
    abbrev pub groups : List M → List G
    groups ms = map (λ x. made x (group ms x)) (keys_from [] ms)

    -- where no key is the one of m, the groups stay
    groups-same : (xs : List K) (ms : List M) (m : M) → list_any (same (key m)) xs ≡ false → map (λ x. made x (group (ms ++ m ∷ []) x)) xs ≡ map (λ x. made x (group ms x)) xs
    groups-same [] ms m none = refl
    groups-same (x ∷ xs) ms m none =
        let n = or-false (same (key m) x) (list_any (same (key m)) xs) none in
        rw (group-more ms m x, n.0, append-nil (group ms x), groups-same xs ms m n.1) refl

    -- a key that is there before others is not the same as they are
    none-behind : (k x : K) (xs : List K) → same k x ≡ true → list_any (λ y. same y x) xs ≡ false → list_any (same k) xs ≡ false
    none-behind k x [] h apart = refl
    none-behind k x (y ∷ ys) h apart =
        let n = or-false (same y x) (list_any (λ y. same y x) ys) apart in
        by (same k y) refl n.0 (none-behind k x ys h n.1)
      where
        by : (b : Bool) → same k y ≡ b → same y x ≡ false → list_any (same k) ys ≡ false → list_any (same k) (y ∷ ys) ≡ false
        by true e n rest = absurd (true≢false (sym (both k x y h e) ∙ n))
        by false e n rest = rw e rest

    -- else that of its number has m at its end
    groups-added : (xs : List K) (ms : List M) (m : M) → Apart xs → list_any (same (key m)) xs ≡ true →
        map (λ x. made x (group (ms ++ m ∷ []) x)) xs ≡ set (map (λ x. made x (group ms x)) xs) (number xs m) (made (key m) (group ms (key m) ++ m ∷ []))
    groups-added [] ms m apart there = absurd (true≢false (sym there))
    groups-added (x ∷ xs) ms m apart there = by (same (key m) x) refl (groups-added xs ms m apart.1)
      where
        by : (b : Bool) → same (key m) x ≡ b →
            (list_any (same (key m)) xs ≡ true → map (λ x. made x (group (ms ++ m ∷ []) x)) xs ≡ set (map (λ x. made x (group ms x)) xs) (number xs m) (made (key m) (group ms (key m) ++ m ∷ []))) →
            map (λ x. made x (group (ms ++ m ∷ []) x)) (x ∷ xs) ≡ set (map (λ x. made x (group ms x)) (x ∷ xs)) (number (x ∷ xs) m) (made (key m) (group ms (key m) ++ m ∷ []))
        by true e rest = rw (e, group-more ms m x, e, groups-same xs ms m (none-behind (key m) x xs e apart.0)) (ap (λ k. made k (group ms k ++ m ∷ []) ∷ map (λ x. made x (group ms x)) xs) (sym (equal (key m) x e)))
        by false e rest = rw (e, group-more ms m x, e, append-nil (group ms x), behind-set (made x (group ms x)) (map (λ x. made x (group ms x)) xs) (number xs m) (made (key m) (group ms (key m) ++ m ∷ []))) (ap (λ gs. made x (group ms x) ∷ gs) (rest (sym (ap (λ c. c || list_any (same (key m)) xs) e) ∙ there)))

    group-at : (xs : List K) (ms : List M) (m : M) (d : G) → list_any (same (key m)) xs ≡ true → get_or (map (λ x. made x (group ms x)) xs) (number xs m) d ≡ made (key m) (group ms (key m))
    group-at [] ms m d there = cc there
    group-at (x ∷ xs) ms m d there = by (same (key m) x) refl (group-at xs ms m d)
      where
        by : (b : Bool) → same (key m) x ≡ b →
            (list_any (same (key m)) xs ≡ true → get_or (map (λ x. made x (group ms x)) xs) (number xs m) d ≡ made (key m) (group ms (key m))) →
            get_or (map (λ x. made x (group ms x)) (x ∷ xs)) (number (x ∷ xs) m) d ≡ made (key m) (group ms (key m))
        by true e rest = rw e (ap (λ k. made k (group ms k)) (sym (equal (key m) x e)))
        by false e rest = rw (e, behind-get (made x (group ms x)) (map (λ x. made x (group ms x)) xs) (number xs m) d) (rest (sym (ap (λ c. c || list_any (same (key m)) xs) e) ∙ there))

    -- the group of m before m is added
    pub its_group : (ms : List M) (m : M) (d : G) → list_any (same (key m)) (keys_from [] ms) ≡ true → get_or (groups ms) (number (keys_from [] ms) m) d ≡ made (key m) (group ms (key m))
    its_group ms m d there = group-at (keys_from [] ms) ms m d there

    -- m is added to the group of its key
    pub groups-there : (ms : List M) (m : M) → list_any (same (key m)) (keys_from [] ms) ≡ true →
        groups (ms ++ m ∷ []) ≡ set (groups ms) (number (keys_from [] ms) m) (made (key m) (group ms (key m) ++ m ∷ []))
    groups-there ms m there =
        ap (map (λ x. made x (group (ms ++ m ∷ []) x))) (keys-more ms m ∙ rw there refl)
        ∙ groups-added (keys_from [] ms) ms m (apart-keys [] ms tt) there

    -- or begins one
    pub groups-new : (ms : List M) (m : M) → list_any (same (key m)) (keys_from [] ms) ≡ false → groups (ms ++ m ∷ []) ≡ groups ms ++ made (key m) (m ∷ []) ∷ []
    groups-new ms m none =
        let xs = keys_from [] ms in
        ap (map (λ x. made x (group (ms ++ m ∷ []) x))) (keys-more ms m ∙ rw none refl)
        ∙ map-append (λ x. made x (group (ms ++ m ∷ []) x)) xs (key m ∷ [])
        ∙ rw (groups-same xs ms m none, group-more ms m (key m), self (key m), group-none xs (key m) ms (covered-keys [] ms) none) refl
