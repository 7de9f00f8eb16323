-- What a filter and a map keep of a list.
use Rattle.std.proofs.Common.{arith, ◌≡◌, ◌<◌, ℕ, zero, suc, Bool, true, false, true≢false, List, [], ◌∷◌, length, map, get_or, Option, Some, None, refl, ap, sym, subst, ◌∙◌}
use Rattle.std.specs.Prelude.{slice_get, option_map, if◌then◌else◌}
use Rattle.std.specs.List.{AllPairs, Contains, filter}
use Rattle.std.proofs.lemmas.List.{get_or-map, length-map}
use Rattle.std.proofs.lemmas.Option.{none-some, same_Some, slice_get-get_or, slice_get-map}
use Rattle.cc_slots_accesses.proofs.Listed.{contains_at, no_member}

behind : {A : Type 0} (y : A) (xs : List A) (x : A) → Contains xs x → Contains (y ∷ xs) x
behind y xs x c = contains_at (y ∷ xs) (suc c.0) x (slice_get-get_or xs c.0 x c.1 ∙ ap Some c.2)

first : {A : Type 0} (y : A) (xs : List A) (x : A) → y ≡ x → Contains (y ∷ xs) x
first y xs x e = contains_at (y ∷ xs) 0 x (ap Some e)

pub kept : {A : Type 0} (test : A → Bool) (xs : List A) (x : A) → Contains xs x → test x ≡ true → Contains (filter test xs) x
kept test [] x m t = no_member x m
kept {A = A} test (y ∷ xs) x m t = by (λ n. kept test xs x n t) (test y) refl m.0 (slice_get-get_or (y ∷ xs) m.0 x m.1 ∙ ap Some m.2)
  where
    later : (b : Bool) → Contains (filter test xs) x → Contains (if b then y ∷ filter test xs else filter test xs) x
    later true c = behind y (filter test xs) x c
    later false c = c

    by : (Contains xs x → Contains (filter test xs) x) → (b : Bool) → test y ≡ b → (k : ℕ) → slice_get (y ∷ xs) k ≡ Some x → Contains (if b then y ∷ filter test xs else filter test xs) x
    by rest true e zero h = first y (filter test xs) x (same_Some y x h)
    by rest false e zero h = absurd (true≢false (sym t ∙ (ap test (sym (same_Some y x h)) ∙ e)))
    by rest b e (suc k) h = later b (rest (contains_at xs k x h))

pub inside : {A : Type 0} (test : A → Bool) (xs : List A) (x : A) → Contains (filter test xs) x → Contains xs x
inside test [] x m = m
inside {A = A} test (y ∷ xs) x m = by (λ n. inside test xs x n) (test y) m
  where
    at : (Contains (filter test xs) x → Contains xs x) → (k : ℕ) → slice_get (y ∷ filter test xs) k ≡ Some x → Contains (y ∷ xs) x
    at rest zero h = first y xs x (same_Some y x h)
    at rest (suc k) h = behind y xs x (rest (contains_at (filter test xs) k x h))

    by : (Contains (filter test xs) x → Contains xs x) → (b : Bool) → Contains (if b then y ∷ filter test xs else filter test xs) x → Contains (y ∷ xs) x
    by rest true c = at rest c.0 (slice_get-get_or (y ∷ filter test xs) c.0 x c.1 ∙ ap Some c.2)
    by rest false c = behind y xs x (rest c)

from_some : {A B : Type 0} (f : A → B) (o : Option A) (y : B) → option_map f o ≡ Some y → (x : A) × (o ≡ Some x) × (f x ≡ y)
from_some f None y h = absurd (none-some y h)
from_some f (Some x) y h = (x, refl, same_Some (f x) y h)

pub of_map : {A B : Type 0} (f : A → B) (xs : List A) (y : B) → Contains (map f xs) y → (x : A) × Contains xs x × (f x ≡ y)
of_map f xs y c =
    let w = from_some f (slice_get xs c.0) y (sym (slice_get-map f xs c.0) ∙ (slice_get-get_or (map f xs) c.0 y c.1 ∙ ap Some c.2)) in
    (w.0, contains_at xs c.0 w.0 w.1, w.2)

pub in_map : {A B : Type 0} (f : A → B) (xs : List A) (x : A) → Contains xs x → Contains (map f xs) (f x)
in_map f xs x c = contains_at (map f xs) c.0 (f x) (slice_get-map f xs c.0 ∙ ap (option_map f) (slice_get-get_or xs c.0 x c.1 ∙ ap Some c.2))

pub pairs_map : {A : Type 0} (f : A → ℕ) (xs : List A) → AllPairs (λ x y. f x < f y) xs → AllPairs (λ m n. m < n) (map f xs)
pairs_map f [] h = λ i j d lt within. absurd (omega (arith, within))
pairs_map {A = A} f (x ∷ xs) h = λ i j d lt within.
    let long : length (map f (x ∷ xs)) ≡ length (x ∷ xs) = length-map (x ∷ xs) f in
    let k : j < length (x ∷ xs) = omega (arith, within, long) in
    let l : i < length (x ∷ xs) = omega (arith, k, lt) in
    let both : f (get_or (x ∷ xs) i x) < f (get_or (x ∷ xs) j x) = h i j x lt k in
    subst (λ (m : ℕ). m < get_or (map f (x ∷ xs)) j d) (sym (get_or-map f (x ∷ xs) i x d l)) (subst (λ (n : ℕ). f (get_or (x ∷ xs) i x) < n) (sym (get_or-map f (x ∷ xs) j x d k)) both)
