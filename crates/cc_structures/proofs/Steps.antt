-- What a loop has of the elements behind it, with one element more.
use Rattle.std.proofs.Common.{◌≡◌, ◌∙◌, ◌+◌, ◌<◌, ◌≤◌, ℕ, suc, List, [], ◌∷◌, ◌++◌, length, get_or, take, drop, map, flat_map, ap, sym, arith, append_assoc, drop-cons, drop_of_length-le}
use Rattle.std.proofs.lemmas.Grind.{flat_map-append}
use Rattle.std.proofs.lemmas.List.{map-append, append-nil, take_more, take_all}
use Rattle.cc_structures.specs.Refined.{by_source}
use Rattle.cc_structures.specs.Structures.{Numbering}
use Rattle.cc_structures.specs.View.{units_of}
use Rattle.cc_things.specs.declared.text.Text.{Text}

module _ {A B : Type 0} (F : List A → B) (step : List A → B → A → B) (more : (ys : List A) (y : A) → F (ys ++ y ∷ []) ≡ step ys (F ys) y) where
  pub stepped : (xs : List A) (i : ℕ) (x : A) → i < length xs → x ≡ get_or xs i x → (old new : B) → new ≡ step (take i xs) old x → old ≡ F (take i xs) → new ≡ F (take (i + 1) xs)
  stepped xs i x low is old new h e =
      h ∙ (ap (λ b. step (take i xs) b x) e ∙ (sym (more (take i xs) x) ∙ ap F (sym (take_more xs i x low ∙ ap (λ y. take i xs ++ y ∷ []) (sym is)))))

-- lists behind one another
module _ {A B : Type 0} (f : A → List B) (xs : List A) (i : ℕ) (x : A) (low : i < length xs) (is : x ≡ get_or xs i x) (base : List B) where
  pub joined-step : (old new : List B) → new ≡ old ++ f x → old ≡ base ++ flat_map f (take i xs) → new ≡ base ++ flat_map f (take (i + 1) xs)
  joined-step = stepped (λ ys. base ++ flat_map f ys) (λ ys b y. b ++ f y)
      (λ ys y. ap (λ l. base ++ l) (flat_map-append f ys (y ∷ []) ∙ ap (λ l. flat_map f ys ++ l) (append-nil (f y))) ∙ sym (append_assoc base (flat_map f ys) (f y))) xs i x low is

pub joined-all : {A B : Type 0} (f : A → List B) (xs : List A) (i : ℕ) (base new : List B) → length xs ≤ i → new ≡ base ++ flat_map f (take i xs) → new ≡ base ++ flat_map f xs
joined-all f xs i base new past e = e ∙ ap (λ ys. base ++ flat_map f ys) (take_all i xs past)

module _ {A B : Type 0} (f : A → B) (xs : List A) (i : ℕ) (x : A) (low : i < length xs) (is : x ≡ get_or xs i x) (base : List B) where
  pub mapped-step : (old new : List B) → new ≡ old ++ f x ∷ [] → old ≡ base ++ map f (take i xs) → new ≡ base ++ map f (take (i + 1) xs)
  mapped-step = stepped (λ ys. base ++ map f ys) (λ ys b y. b ++ f y ∷ [])
      (λ ys y. ap (λ l. base ++ l) (map-append f ys (y ∷ [])) ∙ sym (append_assoc base (map f ys) (f y ∷ []))) xs i x low is

-- the numbers of a source more
pub sources-step : (texts : List Text) (i : ℕ) (x : Text) (old new total : Numbering) (rest front others : List ℕ) → i < length texts → x ≡ get_or texts i x → new ≡ old ++ front ∷ [] →
    front ≡ take (length x.unit.structures) rest → others ≡ drop (length x.unit.structures) rest → old ++ by_source (units_of (drop i texts)) rest ≡ total → new ++ by_source (units_of (drop (i + 1) texts)) others ≡ total
sources-step texts i x old new total rest front others low is pushed in_front behind before =
    let all : drop i texts ≡ x ∷ drop (i + 1) texts = drop-cons texts i x low ∙ (ap (λ y. y ∷ drop (suc i) texts) (sym is) ∙ ap (λ k. x ∷ drop k texts) (next i)) in
    ap (λ l. l ++ by_source (units_of (drop (i + 1) texts)) others) pushed
    ∙ (append_assoc old (front ∷ []) (by_source (units_of (drop (i + 1) texts)) others)
    ∙ (ap (λ f. old ++ f ∷ by_source (units_of (drop (i + 1) texts)) others) in_front
    ∙ (ap (λ o. old ++ take (length x.unit.structures) rest ∷ by_source (units_of (drop (i + 1) texts)) o) behind
    ∙ (ap (λ l. old ++ by_source (units_of l) rest) (sym all) ∙ before))))
  where
    next : (n : ℕ) → suc n ≡ n + 1
    next n = omega arith

pub sources-end : (texts : List Text) (i : ℕ) (old total : Numbering) (rest : List ℕ) → length texts ≤ i → old ++ by_source (units_of (drop i texts)) rest ≡ total → old ≡ total
sources-end texts i old total rest past before =
    sym (append-nil old) ∙ (ap (λ l. old ++ by_source (units_of l) rest) (sym (drop_of_length-le texts past)) ∙ before)
