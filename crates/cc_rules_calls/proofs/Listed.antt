-- Lists that grow one by one, and a list with another element at a place.
use Rattle.std.proofs.Common.{arith, ◌≡◌, ◌≢◌, ◌⊎◌, inl, inr, ◌<◌, ◌+◌, ◌==◌, eqb, ℕ, zero, suc, true, false, cond, List, [], ◌∷◌, ◌++◌, length, take, get_or, append_assoc, All, Some, slice_get, slice_set, refl, ap, sym, subst, ◌∙◌}
use Rattle.std.specs.List.{AllZip, flat_map}
use Rattle.std.proofs.lemmas.Bool.Decides.{eqb_tells}
use Rattle.std.proofs.lemmas.List.{take_more}
use Rattle.cc_state_points.proofs.CcRulesFlows.KnownLemmas.{agree}

pub flat_behind : {A B : Type 0} (f : A → List B) (xs ys : List A) → flat_map f (xs ++ ys) ≡ flat_map f xs ++ flat_map f ys
flat_behind f [] ys = refl
flat_behind f (x ∷ xs) ys = ap (λ zs. f x ++ zs) (flat_behind f xs ys) ∙ sym (append_assoc (f x) (flat_map f xs) (flat_map f ys))

no_more : {B : Type 0} (xs : List B) → xs ++ [] ≡ xs
no_more [] = refl
no_more (x ∷ xs) = ap (λ ys. x ∷ ys) (no_more xs)

-- one more element of a list, and what is made of it
flat_more : {A B : Type 0} (f : A → List B) (xs : List A) (i : ℕ) (d : A) → i < length xs → flat_map f (take (i + 1) xs) ≡ flat_map f (take i xs) ++ f (get_or xs i d)
flat_more f xs i d l = ap (flat_map f) (take_more xs i d l) ∙ (flat_behind f (take i xs) (get_or xs i d ∷ []) ∙ ap (λ ys. flat_map f (take i xs) ++ ys) (no_more (f (get_or xs i d))))

pub flat_on : {A B : Type 0} (f : A → List B) (xs : List A) (i : ℕ) (d : A) (now new : List B) → i < length xs → now ≡ flat_map f (take i xs) → new ≡ now ++ f (get_or xs i d) → new ≡ flat_map f (take (i + 1) xs)
flat_on f xs i d now new l h e = e ∙ (ap (λ ys. ys ++ f (get_or xs i d)) h ∙ sym (flat_more f xs i d l))

pub flat_to : {A B : Type 0} (f : A → List B) (xs : List A) (i : ℕ) (x : A) (now new : List B) → i < length xs → x ≡ get_or xs i x → now ≡ flat_map f (take i xs) → new ≡ now ++ f x → new ≡ flat_map f (take (i + 1) xs)
flat_to f xs i x now new l is h e = flat_on f xs i x now new l h (e ∙ ap (λ a. now ++ f a) is)

pub all_at : {A : Type 0} (P : A → Type 0) (xs : List A) (i : ℕ) (x : A) → i < length xs → x ≡ get_or xs i x → All P xs → P x
all_at P xs i x l is h = subst P (sym is) (h i x l)

pub zip_push : {A B : Type 0} (R : A → B → Type 0) (xs : List A) (ys : List B) (x : A) (y : B) → AllZip R xs ys → R x y → AllZip R (xs ++ x ∷ []) (ys ++ y ∷ [])
zip_push R [] [] x y h r = (r, tt)
zip_push R [] (b ∷ ys) x y h r = absurd h
zip_push R (a ∷ xs) [] x y h r = absurd h
zip_push R (a ∷ xs) (b ∷ ys) x y h r = (h.0, zip_push R xs ys x y h.1 r)

pub zip_on : {A B : Type 0} (R : A → B → Type 0) (xs : List A) (ys : List B) (i : ℕ) (x : A) (y : B) → i < length xs → x ≡ get_or xs i x → AllZip R (take i xs) ys → R x y → AllZip R (take (i + 1) xs) (ys ++ y ∷ [])
zip_on R xs ys i x y l e z r =
    subst (λ zs. AllZip R zs (ys ++ y ∷ [])) (ap (λ a. take i xs ++ a ∷ []) e ∙ sym (take_more xs i x l)) (zip_push R (take i xs) ys x y z r)

-- ---- another element at a place

differ_by : (a b : ℕ) → (a ≡ b → ⊥) → ((eqb a b ≡ true) × (a ≡ b)) ⊎ ((eqb a b ≡ false) × (a ≢ b)) → (a == b) ≡ false
differ_by a b f (inl h) = absurd (f h.1)
differ_by a b f (inr h) = h.0

pub differ : (a b : ℕ) → (a ≡ b → ⊥) → (a == b) ≡ false
differ a b f = differ_by a b f (eqb_tells a b)

pub set_at : {A : Type 0} (xs : List A) (k n : ℕ) (y : A) → k < length xs → slice_get (slice_set xs k y) n ≡ cond (n == k) (Some y) (slice_get xs n)
set_at [] k n y h = absurd (omega (arith, h))
set_at (x ∷ xs) zero zero y h = refl
set_at (x ∷ xs) zero (suc n) y h = ap (λ b. cond b (Some y) (slice_get xs n)) (sym (differ (suc n) 0 (λ m. omega (arith, m))))
set_at (x ∷ xs) (suc k) zero y h = ap (λ b. cond b (Some y) (Some x)) (sym (differ 0 (suc k) (λ m. omega (arith, m))))
set_at (x ∷ xs) (suc k) (suc n) y h =
    set_at xs k n y (omega (arith, h)) ∙ ap (λ b. cond b (Some y) (slice_get xs n)) (agree n k (suc n) (suc k) (λ m. ap suc m) (λ m. omega (arith, m)))
