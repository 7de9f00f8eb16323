-- Loops over the mentions of a thing: the first that passes a test, whether all do, and what they add up to.
use Rattle.std.proofs.Common.{◌≡◌, ◌∙◌, ◌+◌, ◌<◌, ◌≤◌, ℕ, zero, suc, Bool, true, false, cond, List, [], ◌∷◌, ◌++◌, length, get_or, take, drop, map, fold, Some, None, refl, ap, sym, arith, drop-cons}
use Rattle.std.specs.List.{list_all}
use Rattle.std.specs.Prelude.{◌&&◌, find, option_map, slice_get}
use Rattle.std.proofs.lemmas.Grind.{fold-append}
use Rattle.std.proofs.lemmas.List.{map-append, take_more, take-append-drop, get_or_default}
use Rattle.cc_things.specs.Mentions.{Mention}
use Rattle.cc_things.specs.View.{view_of, views_of}
use Rattle.cc_things.specs.declared.mention.Mention.{Mention as MentionOf}

find_behind : {Y : Type 0} (p : Y → Bool) (xs ys : List Y) → find p xs ≡ None → find p (xs ++ ys) ≡ find p ys
find_behind p [] ys h = refl
find_behind p (x ∷ xs) ys h = by (p x) h (find_behind p xs ys)
  where
    by : (b : Bool) → cond b (Some x) (find p xs) ≡ None → (find p xs ≡ None → find p (xs ++ ys) ≡ find p ys) → cond b (Some x) (find p (xs ++ ys)) ≡ find p ys
    by true h rest = absurd (cc)
    by false h rest = rest h

take_end : {X : Type 0} (xs : List X) (i : ℕ) → length xs ≤ i → take i xs ≡ xs
take_end [] zero h = refl
take_end [] (suc i) h = refl
take_end (x ∷ xs) zero h = absurd (omega (arith, h))
take_end (x ∷ xs) (suc i) h = ap (λ l. x ∷ l) (take_end xs i (omega (arith, h)))

-- what stands up to an element, and the element
one_more : {X : Type 0} (xs : List X) (i : ℕ) (x : X) → i < length xs → x ≡ get_or xs i x → take (i + 1) xs ≡ take i xs ++ x ∷ []
one_more xs i x h is = take_more xs i x h ∙ ap (λ y. take i xs ++ y ∷ []) (sym is)

-- and what stands behind it
split_at : {X : Type 0} (xs : List X) (i : ℕ) (x : X) → i < length xs → x ≡ get_or xs i x → xs ≡ take i xs ++ (x ∷ drop (suc i) xs)
split_at xs i x h is = sym (take-append-drop i xs) ∙ ap (λ l. take i xs ++ l) (drop-cons xs i x h ∙ ap (λ y. y ∷ drop (suc i) xs) (sym is))

module _ {X Y : Type 0} (f : X → Y) (p : Y → Bool) where
  pub passed : (xs : List X) (i : ℕ) (x : X) → i < length xs → x ≡ get_or xs i x → find p (map f (take i xs)) ≡ None → p (f x) ≡ false → find p (map f (take (i + 1) xs)) ≡ None
  passed xs i x h is none fails =
      ap (λ l. find p (map f l)) (one_more xs i x h is)
      ∙ (ap (find p) (map-append f (take i xs) (x ∷ []))
      ∙ (find_behind p (map f (take i xs)) (f x ∷ []) none ∙ ap (λ b. cond b (Some (f x)) None) fails))

  pub found : (xs : List X) (i : ℕ) (x : X) → i < length xs → x ≡ get_or xs i x → find p (map f (take i xs)) ≡ None → p (f x) ≡ true → find p (map f xs) ≡ Some (f x)
  found xs i x h is none passes =
      ap (λ l. find p (map f l)) (split_at xs i x h is)
      ∙ (ap (find p) (map-append f (take i xs) (x ∷ drop (suc i) xs))
      ∙ (find_behind p (map f (take i xs)) (f x ∷ map f (drop (suc i) xs)) none ∙ ap (λ b. cond b (Some (f x)) (find p (map f (drop (suc i) xs)))) passes))

  pub nowhere : (xs : List X) (i : ℕ) → length xs ≤ i → find p (map f (take i xs)) ≡ None → find p (map f xs) ≡ None
  nowhere xs i h none = ap (λ l. find p (map f l)) (sym (take_end xs i h)) ∙ none

module _ {X Y : Type 0} (f : X → Y) (p : Y → Bool) (xs : List X) (i : ℕ) (d : X) (h : i < length xs) where
  pub passed_at : find p (map f (take i xs)) ≡ None → p (f (get_or xs i d)) ≡ false → find p (map f (take (i + 1) xs)) ≡ None
  passed_at none fails = passed f p xs i (get_or xs i d) h (get_or_default xs i d (get_or xs i d) h) none fails

  pub found_at : find p (map f (take i xs)) ≡ None → p (f (get_or xs i d)) ≡ true → find p (map f xs) ≡ Some (f (get_or xs i d))
  found_at none passes = found f p xs i (get_or xs i d) h (get_or_default xs i d (get_or xs i d) h) none passes

-- ---- all mentions

module _ {X Y : Type 0} (f : X → Y) (p : Y → Bool) where
  all_append : (xs ys : List Y) → list_all p xs ≡ true → list_all p (xs ++ ys) ≡ list_all p ys
  all_append [] ys h = refl
  all_append (x ∷ xs) ys h = by (p x) h (all_append xs ys)
    where
      by : (b : Bool) → (b && list_all p xs) ≡ true → (list_all p xs ≡ true → list_all p (xs ++ ys) ≡ list_all p ys) → (b && list_all p (xs ++ ys)) ≡ list_all p ys
      by true h rest = rest h
      by false h rest = absurd (cc)

  and_true : (b : Bool) → (b && true) ≡ b
  and_true true = refl
  and_true false = refl

  pub all_passed : (xs : List X) (i : ℕ) (x : X) → i < length xs → x ≡ get_or xs i x → list_all p (map f (take i xs)) ≡ true → p (f x) ≡ true → list_all p (map f (take (i + 1) xs)) ≡ true
  all_passed xs i x h is all passes =
      ap (λ l. list_all p (map f l)) (one_more xs i x h is)
      ∙ (ap (list_all p) (map-append f (take i xs) (x ∷ []))
      ∙ (all_append (map f (take i xs)) (f x ∷ []) all ∙ (and_true (p (f x)) ∙ passes)))

  pub one_fails : (xs : List X) (i : ℕ) (x : X) → i < length xs → x ≡ get_or xs i x → list_all p (map f (take i xs)) ≡ true → p (f x) ≡ false → list_all p (map f xs) ≡ false
  one_fails xs i x h is all fails =
      ap (λ l. list_all p (map f l)) (split_at xs i x h is)
      ∙ (ap (list_all p) (map-append f (take i xs) (x ∷ drop (suc i) xs))
      ∙ (all_append (map f (take i xs)) (f x ∷ map f (drop (suc i) xs)) all ∙ ap (λ b. b && list_all p (map f (drop (suc i) xs))) fails))

  pub all_end : (xs : List X) (i : ℕ) → length xs ≤ i → list_all p (map f (take i xs)) ≡ true → list_all p (map f xs) ≡ true
  all_end xs i h all = ap (λ l. list_all p (map f l)) (sym (take_end xs i h)) ∙ all

module _ {X Y : Type 0} (f : X → Y) (p : Y → Bool) (xs : List X) (i : ℕ) (d : X) (h : i < length xs) where
  pub all_passed_at : list_all p (map f (take i xs)) ≡ true → p (f (get_or xs i d)) ≡ true → list_all p (map f (take (i + 1) xs)) ≡ true
  all_passed_at all passes = all_passed f p xs i (get_or xs i d) h (get_or_default xs i d (get_or xs i d) h) all passes

  pub one_fails_at : list_all p (map f (take i xs)) ≡ true → p (f (get_or xs i d)) ≡ false → list_all p (map f xs) ≡ false
  one_fails_at all fails = one_fails f p xs i (get_or xs i d) h (get_or_default xs i d (get_or xs i d) h) all fails

-- ---- what mentions add up to

module _ {X Y Z : Type 0} (f : X → Y) (add : Z → Y → Z) (z : Z) where
  pub fold_more : (xs : List X) (i : ℕ) (x : X) → i < length xs → x ≡ get_or xs i x → fold add z (map f (take (i + 1) xs)) ≡ add (fold add z (map f (take i xs))) (f x)
  fold_more xs i x h is =
      ap (λ l. fold add z (map f l)) (one_more xs i x h is)
      ∙ (ap (fold add z) (map-append f (take i xs) (x ∷ [])) ∙ fold-append add z (map f (take i xs)) (f x ∷ []))

  pub fold_more_at : (xs : List X) (i : ℕ) (d : X) → i < length xs → fold add z (map f (take (i + 1) xs)) ≡ add (fold add z (map f (take i xs))) (f (get_or xs i d))
  fold_more_at xs i d h = fold_more xs i (get_or xs i d) h (get_or_default xs i d (get_or xs i d) h)

  pub fold_end : (xs : List X) (i : ℕ) → length xs ≤ i → fold add z (map f (take i xs)) ≡ fold add z (map f xs)
  fold_end xs i h = ap (λ l. fold add z (map f l)) (take_end xs i h)

-- ---- views

pub find-views : (p : Mention → Bool) (ms : List MentionOf) → find p (views_of ms) ≡ find p (map view_of ms)
unfolding views_of
find-views p ms = refl

pub views-is : (ms : List MentionOf) → views_of ms ≡ map view_of ms
unfolding views_of
views-is ms = refl

get-map : {X Y : Type 0} (f : X → Y) (xs : List X) (i : ℕ) → slice_get (map f xs) i ≡ option_map f (slice_get xs i)
get-map f [] i = refl
get-map f (x ∷ xs) zero = refl
get-map f (x ∷ xs) (suc i) = get-map f xs i

pub views-first : (ms : List MentionOf) → slice_get (views_of ms) 0 ≡ option_map view_of (slice_get ms 0)
unfolding views_of
views-first ms = get-map view_of ms 0

pub ruleset of_definitions = (views-first)
