-- Two conditions.
use Rattle.std.proofs.Common.{◌≡◌, Bool, true, false, ◌&&◌, List, [], ◌∷◌, ◌++◌, refl}
use Rattle.std.specs.List.{list_all}

pub two : (a b : Bool) → a ≡ true → b ≡ true → a && b ≡ true
two true b h k = k
two false b h k = absurd (cc)

pub first_true : (a b : Bool) → a && b ≡ true → a ≡ true
first_true true b h = refl
first_true false b h = absurd (cc)

pub second_true : (a b : Bool) → a && b ≡ true → b ≡ true
second_true true b h = h
second_true false b h = absurd (cc)

pub all-append : {A : Type 0} (f : A → Bool) (xs ys : List A) → list_all f xs ≡ true → list_all f ys ≡ true → list_all f (xs ++ ys) ≡ true
all-append f [] ys h k = k
all-append {A} f (x ∷ xs) ys h k = two (f x) (list_all f (xs ++ ys)) (first_true (f x) (list_all f xs) h) (all-append f xs ys (second_true (f x) (list_all f xs) h) k)
