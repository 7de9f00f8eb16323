-- Two lists side by side, as far as a loop has come.
use Rattle.std.proofs.Common.{arith, ◌≡◌, ◌≢◌, ◌<◌, ◌+◌, ℕ, zero, suc, Bool, true, false, ◌&&◌, List, [], ◌∷◌, map, take, length, get_or, refl, ap, sym, ◌∙◌, add-one}
use Rattle.cc_syntax.specs.Pairs.{all_pairs}
use Rattle.cc_syntax.proofs.Prefixes.{both_true}

true_both : (a b : Bool) → a ≡ true → b ≡ true → a && b ≡ true
true_both a b h k = rw (h, k) refl

no_more : (b c : Bool) → b ≡ false → b && c ≡ false
no_more b c h = rw h refl

none_behind : (b c : Bool) → c ≡ false → b && c ≡ false
none_behind true c h = h
none_behind false c h = refl

module _ {A B : Type 0} (test : A → B → Bool) where
  pub pairs_apart : (xs : List A) (ys : List B) → length xs ≢ length ys → all_pairs test xs ys ≡ false
  pairs_apart [] [] h = absurd (h refl)
  pairs_apart [] (y ∷ ys) h = refl
  pairs_apart (x ∷ xs) [] h = refl
  pairs_apart (x ∷ xs) (y ∷ ys) h = none_behind (test x y) (all_pairs test xs ys) (pairs_apart xs ys (λ e. h (ap suc e)))

  pub pairs_stop : (xs : List A) (ys : List B) (i : ℕ) (x : A) (y : B) → i < length xs → i < length ys → x ≡ get_or xs i x → y ≡ get_or ys i y → test x y ≡ false → all_pairs test xs ys ≡ false
  pairs_stop [] ys i x y h k e f t = absurd (omega (arith, h))
  pairs_stop (a ∷ xs) [] i x y h k e f t = absurd (omega (arith, k))
  pairs_stop (a ∷ xs) (b ∷ ys) zero x y h k e f t = no_more (test a b) (all_pairs test xs ys) (ap (λ z. test z b) (sym e) ∙ ap (test x) (sym f) ∙ t)
  pairs_stop (a ∷ xs) (b ∷ ys) (suc i) x y h k e f t = none_behind (test a b) (all_pairs test xs ys) (pairs_stop xs ys i x y (omega (arith, h)) (omega (arith, k)) e f t)

  more : (xs : List A) (ys : List B) (i : ℕ) (x : A) (y : B) → i < length xs → i < length ys → x ≡ get_or xs i x → y ≡ get_or ys i y → all_pairs test (take i xs) (take i ys) ≡ true → test x y ≡ true →
      all_pairs test (take (suc i) xs) (take (suc i) ys) ≡ true
  more [] ys i x y h k e f p t = absurd (omega (arith, h))
  more (a ∷ xs) [] i x y h k e f p t = absurd (omega (arith, k))
  more (a ∷ xs) (b ∷ ys) zero x y h k e f p t = true_both (test a b) true (ap (λ z. test z b) (sym e) ∙ ap (test x) (sym f) ∙ t) refl
  more (a ∷ xs) (b ∷ ys) (suc i) x y h k e f p t =
      let q = both_true (test a b) (all_pairs test (take i xs) (take i ys)) p in
      true_both (test a b) (all_pairs test (take (suc i) xs) (take (suc i) ys)) q.0 (more xs ys i x y (omega (arith, h)) (omega (arith, k)) e f q.1 t)

  pub pairs_more : (xs : List A) (ys : List B) (i : ℕ) (x : A) (y : B) → i < length xs → i < length ys → x ≡ get_or xs i x → y ≡ get_or ys i y → all_pairs test (take i xs) (take i ys) ≡ true → test x y ≡ true →
      all_pairs test (take (i + 1) xs) (take (i + 1) ys) ≡ true
  pairs_more xs ys i x y h k e f p t = rw add-one (more xs ys i x y h k e f p t)

-- what a function gives for each element of the first list
module _ {A B C : Type 0} (test : C → B → Bool) (f : A → C) where
  pairs-map : (xs : List A) (ys : List B) → all_pairs test (map f xs) ys ≡ all_pairs (λ x y. test (f x) y) xs ys
  pairs-map [] [] = refl
  pairs-map [] (y ∷ ys) = refl
  pairs-map (x ∷ xs) [] = refl
  pairs-map (x ∷ xs) (y ∷ ys) = ap (λ b. test (f x) y && b) (pairs-map xs ys)

  pub mapped_apart : (xs : List A) (ys : List B) → length xs ≢ length ys → false ≡ all_pairs test (map f xs) ys
  mapped_apart xs ys h = sym (pairs-map xs ys ∙ pairs_apart (λ x y. test (f x) y) xs ys h)

  pub mapped_stop : (xs : List A) (ys : List B) (i : ℕ) (x : A) (y : B) → i < length xs → i < length ys → x ≡ get_or xs i x → y ≡ get_or ys i y → test (f x) y ≡ false → false ≡ all_pairs test (map f xs) ys
  mapped_stop xs ys i x y h k e g t = sym (pairs-map xs ys ∙ pairs_stop (λ x y. test (f x) y) xs ys i x y h k e g t)

  pub mapped_pair : (xs : List A) (ys : List B) (i : ℕ) (x : A) (y : B) → i < length xs → i < length ys → x ≡ get_or xs i x → y ≡ get_or ys i y → all_pairs test (map f (take i xs)) (take i ys) ≡ true → test (f x) y ≡ true →
      all_pairs test (map f (take (i + 1) xs)) (take (i + 1) ys) ≡ true
  mapped_pair xs ys i x y h k e g p t =
      pairs-map (take (i + 1) xs) (take (i + 1) ys) ∙ pairs_more (λ x y. test (f x) y) xs ys i x y h k e g (sym (pairs-map (take i xs) (take i ys)) ∙ p) t

-- what a function gives for each element of the second list
module _ {A B C : Type 0} (test : A → C → Bool) (f : B → C) where
  pairs-second : (xs : List A) (ys : List B) → all_pairs test xs (map f ys) ≡ all_pairs (λ x y. test x (f y)) xs ys
  pairs-second [] [] = refl
  pairs-second [] (y ∷ ys) = refl
  pairs-second (x ∷ xs) [] = refl
  pairs-second (x ∷ xs) (y ∷ ys) = ap (λ b. test x (f y) && b) (pairs-second xs ys)

  pub second_apart : (xs : List A) (ys : List B) → length xs ≢ length ys → all_pairs test xs (map f ys) ≡ false
  second_apart xs ys h = pairs-second xs ys ∙ pairs_apart (λ x y. test x (f y)) xs ys h

  pub second_stop : (xs : List A) (ys : List B) (i : ℕ) (x : A) (y : B) → i < length xs → i < length ys → x ≡ get_or xs i x → y ≡ get_or ys i y → test x (f y) ≡ false → all_pairs test xs (map f ys) ≡ false
  second_stop xs ys i x y h k e g t = pairs-second xs ys ∙ pairs_stop (λ x y. test x (f y)) xs ys i x y h k e g t

  pub second_pair : (xs : List A) (ys : List B) (i : ℕ) (x : A) (y : B) → i < length xs → i < length ys → x ≡ get_or xs i x → y ≡ get_or ys i y → all_pairs test (take i xs) (map f (take i ys)) ≡ true → test x (f y) ≡ true →
      all_pairs test (take (i + 1) xs) (map f (take (i + 1) ys)) ≡ true
  second_pair xs ys i x y h k e g p t =
      pairs-second (take (i + 1) xs) (take (i + 1) ys) ∙ pairs_more (λ x y. test x (f y)) xs ys i x y h k e g (sym (pairs-second (take i xs) (take i ys)) ∙ p) t

pub ruleset of_pairs = (pairs_apart, pairs_stop, pairs_more)

pub ruleset of_mapped_pairs = (mapped_apart, mapped_stop, mapped_pair)

pub ruleset of_second_pairs = (second_apart, second_stop, second_pair)
