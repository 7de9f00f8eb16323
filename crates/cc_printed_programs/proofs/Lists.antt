-- What stands where in lists: in one beside offsets, among ids of names, and in four parts.
use Rattle.std.proofs.Common.{◌≡◌, ◌∙◌, ◌+◌, ◌<◌, ℕ, zero, suc, Bool, true, false, ◌&&◌, List, [], ◌∷◌, ◌++◌, length, map, Some, slice_get, refl, ap, arith, append_assoc}
use Rattle.std.proofs.lemmas.List.{map-append}
use Rattle.std.specs.List.{list_all}
use Rattle.cc_type.specs.CcNumbering.Names.{own_id, own_ids}
use Rattle.cc_type.specs.CcScopes.declared.unit.Declared.{Declared}
use Rattle.cc_shown_names.specs.Names.{placed}

pub get-there : {A : Type 0} → (xs : List A) (k : ℕ) → k < length xs → (x : A) × (slice_get xs k ≡ Some x)
get-there [] k h = absurd (omega (arith, h))
get-there (x ∷ xs) zero h = (x, refl)
get-there (x ∷ xs) (suc k) h = get-there xs k (omega (arith, h))

pub placed-there : {A : Type 0} → (declare : ℕ → A → Declared) (ats : List ℕ) (xs : List A) (i : ℕ) (x : A) → length ats ≡ length xs → slice_get xs i ≡ Some x → (at : ℕ) × (slice_get (placed declare ats xs) i ≡ Some (declare at x))
placed-there declare ats [] i x h e = absurd (cc)
placed-there declare [] (y ∷ xs) i x h e = absurd (omega (arith, h))
placed-there declare (at ∷ ats) (y ∷ xs) zero x h e = let is : y ≡ x = cc in (at, ap (λ z. Some (declare at z)) is)
placed-there declare (at ∷ ats) (y ∷ xs) (suc i) x h e = placed-there declare ats xs i x (omega (arith, h)) e

pub placed-length : {A : Type 0} → (declare : ℕ → A → Declared) (ats : List ℕ) (xs : List A) → length ats ≡ length xs → length (placed declare ats xs) ≡ length xs
placed-length declare ats [] h = refl
placed-length declare [] (x ∷ xs) h = absurd (omega (arith, h))
placed-length declare (at ∷ ats) (x ∷ xs) h = ap suc (placed-length declare ats xs (omega (arith, h)))

pub own-at : (a k : ℕ) (ds : List Declared) (d : Declared) → slice_get ds k ≡ Some d → slice_get (own_ids a ds) k ≡ Some (own_id (a + k) d.kind)
own-at a k [] d h = absurd (cc)
own-at a zero (e ∷ es) d h =
    let is : e ≡ d = cc in
    let z : a ≡ a + 0 = omega arith in
    ap (λ k. Some (own_id k e.kind)) z ∙ ap (λ (d : Declared). Some (own_id (a + 0) d.kind)) is
own-at a (suc k) (e ∷ es) d h = let z : suc a + k ≡ a + suc k = omega arith in own-at (suc a) k es d h ∙ ap (λ n. Some (own_id n d.kind)) z

pub four-mapped : {A B : Type 0} → (f : A → B) (ws xs ys zs : List A) → map f (((ws ++ xs) ++ ys) ++ zs) ≡ map f ws ++ (map f xs ++ (map f ys ++ map f zs))
four-mapped f ws xs ys zs =
    map-append f ((ws ++ xs) ++ ys) zs
    ∙ ap (λ vs. vs ++ map f zs) (map-append f (ws ++ xs) ys ∙ ap (λ vs. vs ++ map f ys) (map-append f ws xs))
    ∙ append_assoc (map f ws ++ map f xs) (map f ys) (map f zs)
    ∙ append_assoc (map f ws) (map f xs) (map f ys ++ map f zs)

pub mapped-all : {A B : Type 0} (test : B → Bool) (f : A → B) (xs : List A) → list_all (λ (x : A). test (f x)) xs ≡ true → list_all test (map f xs) ≡ true
mapped-all test f [] h = refl
mapped-all test f (x ∷ xs) h = by (test (f x)) refl h (mapped-all test f xs)
  where
    by : (b : Bool) → test (f x) ≡ b → b && list_all (λ x. test (f x)) xs ≡ true → (list_all (λ x. test (f x)) xs ≡ true → list_all test (map f xs) ≡ true) → test (f x) && list_all test (map f xs) ≡ true
    by true e k rest = ap (λ (b : Bool). b && list_all test (map f xs)) e ∙ rest k
    by false e k rest = absurd (cc)
