-- Numbers of classes: equal keys have one number, and no others.
use Rattle.std.proofs.Common.{◌≡◌, ◌∙◌, inl, inr, ◌<◌, ◌+◌, ℕ, suc, Bool, true, false, cond, List, [], ◌∷◌, ◌++◌, length, get_or, map, fold, refl, ap, sym, subst, true≢false, arith}
use Rattle.std.specs.List.{list_any, position_or_len}
use Rattle.std.specs.Prelude.{◌||◌}
use Rattle.std.proofs.lemmas.Grind.{fold-append}
use Rattle.std.proofs.lemmas.List.Folds.{list_any-append}
use Rattle.indexmap.specs.IndexSet.{insert_key}
use Rattle.cc_structures.specs.Classes.{numbers_behind, class_numbers, distinct}
use Rattle.cc_structures.proofs.Elements.{In, in-right, any-in, beside}

module _ {K : Type 0} (eq : K → K → Bool) where
  behind-more : (found ks : List K) (k : K) → numbers_behind eq found (ks ++ k ∷ []) ≡ numbers_behind eq found ks ++ suc (position_or_len (eq k) (fold (insert_key eq) found ks)) ∷ []
  behind-more found [] k = refl
  behind-more found (x ∷ ks) k = ap (λ ns. suc (position_or_len (eq x) found) ∷ ns) (behind-more (insert_key eq found x) ks k)

  pub numbers-more : (ks : List K) (k : K) → class_numbers eq (ks ++ k ∷ []) ≡ class_numbers eq ks ++ suc (position_or_len (eq k) (distinct eq ks)) ∷ []
  numbers-more ks k = behind-more [] ks k

  pub distinct-more : (ks : List K) (k : K) → distinct eq (ks ++ k ∷ []) ≡ insert_key eq (distinct eq ks) k
  distinct-more ks k = fold-append (insert_key eq) [] ks (k ∷ [])

pub ruleset of_classes = (numbers-more, distinct-more)

or-false : (a b : Bool) → (a || b) ≡ false → (a ≡ false) × (b ≡ false)
or-false true b h = cc h
or-false false b h = (refl, h)

one-more : (n : ℕ) → 1 + n ≡ suc n
one-more n = omega arith

-- ---- the first position that passes

module _ {X : Type 0} where
  pub position-within : (p : X → Bool) (xs : List X) → list_any p xs ≡ true → position_or_len p xs < length xs
  position-within p [] h = absurd (true≢false (sym h))
  position-within p (x ∷ xs) h = by (p x) refl (position-within p xs)
    where
      by : (b : Bool) → p x ≡ b → (list_any p xs ≡ true → position_or_len p xs < length xs) → position_or_len p (x ∷ xs) < length (x ∷ xs)
      by true e rest = rw e (omega arith)
      by false e rest = let low = rest (sym (ap (λ c. c || list_any p xs) e) ∙ h) in rw e (omega (arith, low))

  pub position-past : (p : X → Bool) (xs : List X) → list_any p xs ≡ false → position_or_len p xs ≡ length xs
  position-past p [] h = refl
  position-past p (x ∷ xs) h = let n = or-false (p x) (list_any p xs) h in rw (n.0, position-past p xs n.1) (one-more (length xs))

  pub position-passes : (p : X → Bool) (xs : List X) (d : X) → list_any p xs ≡ true → p (get_or xs (position_or_len p xs) d) ≡ true
  position-passes p [] d h = absurd (true≢false (sym h))
  position-passes p (x ∷ xs) d h = by (p x) refl (position-passes p xs d)
    where
      by : (b : Bool) → p x ≡ b → (list_any p xs ≡ true → p (get_or xs (position_or_len p xs) d) ≡ true) → p (get_or (x ∷ xs) (position_or_len p (x ∷ xs)) d) ≡ true
      by true e rest = rw e e
      by false e rest = rw (e, one-more (position_or_len p xs)) (rest (sym (ap (λ c. c || list_any p xs) e) ∙ h))

  pub position-kept : (p : X → Bool) (xs ys : List X) → list_any p xs ≡ true → position_or_len p (xs ++ ys) ≡ position_or_len p xs
  position-kept p [] ys h = absurd (true≢false (sym h))
  position-kept p (x ∷ xs) ys h = by (p x) refl (position-kept p xs ys)
    where
      by : (b : Bool) → p x ≡ b → (list_any p xs ≡ true → position_or_len p (xs ++ ys) ≡ position_or_len p xs) → position_or_len p (x ∷ (xs ++ ys)) ≡ position_or_len p (x ∷ xs)
      by true e rest = rw e refl
      by false e rest = rw (e, rest (sym (ap (λ c. c || list_any p xs) e) ∙ h)) refl

  pub position-last : (p : X → Bool) (xs : List X) (x : X) → list_any p xs ≡ false → p x ≡ true → position_or_len p (xs ++ x ∷ []) ≡ length xs
  position-last p [] x h e = rw e refl
  position-last p (y ∷ ys) x h e = let n = or-false (p y) (list_any p ys) h in rw (n.0, position-last p ys x n.1 e) (one-more (length ys))

  pub any-same : (p q : X → Bool) (xs : List X) → ((x : X) → p x ≡ q x) → list_any p xs ≡ list_any q xs
  any-same p q [] h = refl
  any-same p q (x ∷ xs) h = rw (h x, any-same p q xs h) refl

  pub position-same : (p q : X → Bool) (xs : List X) → ((x : X) → p x ≡ q x) → position_or_len p xs ≡ position_or_len q xs
  position-same p q [] h = refl
  position-same p q (x ∷ xs) h = rw (h x, position-same p q xs h) refl

  pub any-kept : (p : X → Bool) (xs ys : List X) → list_any p xs ≡ true → list_any p (xs ++ ys) ≡ true
  any-kept p xs ys h = list_any-append p xs ys ∙ rw h refl

  pub any-last : (p : X → Bool) (xs : List X) (x : X) → p x ≡ true → list_any p (xs ++ x ∷ []) ≡ true
  any-last p xs x h = any-in p (xs ++ x ∷ []) x (in-right xs (x ∷ []) x (inl refl)) h

-- ---- keys that are found stay, in their places

module _ {K : Type 0} (eq : K → K → Bool) where
  any-insert : (p : K → Bool) (found : List K) (k : K) → list_any p found ≡ true → list_any p (insert_key eq found k) ≡ true
  any-insert p found k h = by (list_any (eq k) found)
    where
      by : (b : Bool) → list_any p (cond b found (found ++ k ∷ [])) ≡ true
      by true = h
      by false = any-kept p found (k ∷ []) h

  position-insert : (p : K → Bool) (found : List K) (k : K) → list_any p found ≡ true → position_or_len p (insert_key eq found k) ≡ position_or_len p found
  position-insert p found k h = by (list_any (eq k) found)
    where
      by : (b : Bool) → position_or_len p (cond b found (found ++ k ∷ [])) ≡ position_or_len p found
      by true = refl
      by false = position-kept p found (k ∷ []) h

  pub any-all : (p : K → Bool) (found ks : List K) → list_any p found ≡ true → list_any p (fold (insert_key eq) found ks) ≡ true
  any-all p found [] h = h
  any-all p found (k ∷ ks) h = any-all p (insert_key eq found k) ks (any-insert p found k h)

  pub position-all : (p : K → Bool) (found ks : List K) → list_any p found ≡ true → position_or_len p (fold (insert_key eq) found ks) ≡ position_or_len p found
  position-all p found [] h = refl
  position-all p found (k ∷ ks) h = position-all p (insert_key eq found k) ks (any-insert p found k h) ∙ position-insert p found k h

  module _ (self : (k : K) → eq k k ≡ true) where
    pub any-added : (found : List K) (k : K) → list_any (eq k) (insert_key eq found k) ≡ true
    any-added found k = by (list_any (eq k) found) refl
      where
        by : (b : Bool) → list_any (eq k) found ≡ b → list_any (eq k) (cond b found (found ++ k ∷ [])) ≡ true
        by true h = h
        by false h = any-last (eq k) found k (self k)

    pub position-added : (found : List K) (k : K) → position_or_len (eq k) (insert_key eq found k) ≡ position_or_len (eq k) found
    position-added found k = by (list_any (eq k) found) refl
      where
        by : (b : Bool) → list_any (eq k) found ≡ b → position_or_len (eq k) (cond b found (found ++ k ∷ [])) ≡ position_or_len (eq k) found
        by true h = refl
        by false h = position-last (eq k) found k h (self k) ∙ sym (position-past (eq k) found h)

    pub any-covered : (found ks : List K) (k : K) → In k ks → list_any (eq k) (fold (insert_key eq) found ks) ≡ true
    any-covered found [] k h = absurd h
    any-covered found (x ∷ ks) k (inl e) = subst (λ z. list_any (eq z) (fold (insert_key eq) (insert_key eq found x) ks) ≡ true) e (any-all (eq x) (insert_key eq found x) ks (any-added found x))
    any-covered found (x ∷ ks) k (inr h) = any-covered (insert_key eq found x) ks k h

    -- each number is the position among all keys
    pub numbers_behind-are : (found ks : List K) → numbers_behind eq found ks ≡ map (λ k. suc (position_or_len (eq k) (fold (insert_key eq) found ks))) ks
    numbers_behind-are found [] = refl
    numbers_behind-are found (k ∷ ks) =
        let here : position_or_len (eq k) (fold (insert_key eq) (insert_key eq found k) ks) ≡ position_or_len (eq k) found =
        position-all (eq k) (insert_key eq found k) ks (any-added found k) ∙ position-added found k in
        rw (here, numbers_behind-are (insert_key eq found k) ks) refl

-- ---- one number, one key

bool-same : (a b : Bool) → (a ≡ true → b ≡ true) → (b ≡ true → a ≡ true) → a ≡ b
bool-same true b to from = sym (to refl)
bool-same false true to from = from refl
bool-same false false to from = refl

-- things with keys and numbers beside one another
pub record AreClasses {X V : Type 0} (xs : List X) (key : X → V) (number : X → ℕ) : Type 0 where
  pub one : (x y : X) → In x xs → In y xs → number x ≡ number y → key x ≡ key y
  pub same : (x y : X) → In x xs → In y xs → key x ≡ key y → number x ≡ number y
  pub above : (x : X) → In x xs → 0 < number x

module _ {K V : Type 0} (eq : K → K → Bool) (v : K → V) (sound : (x y : K) → eq x y ≡ true → v x ≡ v y) (complete : (x y : K) → v x ≡ v y → eq x y ≡ true) where
  same-test : (k l : K) → v k ≡ v l → (x : K) → eq k x ≡ eq l x
  same-test k l e x = bool-same (eq k x) (eq l x) (λ h. complete l x (sym e ∙ sound k x h)) (λ h. complete k x (e ∙ sound l x h))

  pub one-key : (xs : List K) (k l : K) → list_any (eq k) xs ≡ true → list_any (eq l) xs ≡ true → position_or_len (eq k) xs ≡ position_or_len (eq l) xs → v k ≡ v l
  one-key xs k l hk hl e =
      let at_k = sound k (get_or xs (position_or_len (eq k) xs) k) (position-passes (eq k) xs k hk) in
      let at_l = sound l (get_or xs (position_or_len (eq l) xs) k) (position-passes (eq l) xs k hl) in
      at_k ∙ (ap (λ i. v (get_or xs i k)) e ∙ sym at_l)

  suc-one : (m n : ℕ) → suc m ≡ suc n → m ≡ n
  suc-one m n e = omega (arith, e)

  pub classes-are : {X : Type 0} (xs : List X) (key : X → V) (number : X → ℕ) (ks : List K) → map v ks ≡ map key xs → map number xs ≡ class_numbers eq ks → AreClasses xs key number
  classes-are {X = X} xs key number ks keys numbers = record {
    one = λ x y hx hy e.
        let a = at x hx in
        let b = at y hy in
        sym a.1.1.0 ∙ (one-key (distinct eq ks) a.0 b.0 (any-covered eq self [] ks a.0 a.1.0) (any-covered eq self [] ks b.0 b.1.0)
        (suc-one (position_or_len (eq a.0) (distinct eq ks)) (position_or_len (eq b.0) (distinct eq ks)) (sym a.1.1.1 ∙ (e ∙ b.1.1.1))) ∙ b.1.1.0);
    same = λ x y hx hy e.
        let a = at x hx in
        let b = at y hy in
        a.1.1.1 ∙ (ap suc (position-same (eq a.0) (eq b.0) (distinct eq ks) (same-test a.0 b.0 (a.1.1.0 ∙ (e ∙ sym b.1.1.0)))) ∙ sym b.1.1.1);
    above = λ x hx. let a = at x hx in let e = a.1.1.1 in omega (arith, e);
  }
    where
      self : (k : K) → eq k k ≡ true
      self k = complete k k refl

      at : (x : X) → In x xs → (k : K) × (In k ks × ((v k ≡ key x) × (number x ≡ suc (position_or_len (eq k) (distinct eq ks)))))
      at x hx = beside v key ks xs number (λ k. suc (position_or_len (eq k) (distinct eq ks))) keys (numbers ∙ numbers_behind-are eq self [] ks) x hx
