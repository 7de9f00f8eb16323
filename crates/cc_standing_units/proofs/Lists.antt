-- Lists in two parts, their first elements, and what holds of each.
use Rattle.std.proofs.Common.{◌≡◌, ◌∙◌, inl, inr, ◌<◌, ◌≤◌, ℕ, zero, suc, Bool, true, ◌&&◌, List, [], ◌∷◌, ◌++◌, length, get_or, take, Some, None, slice_get, refl, ap, sym, subst, arith, append_assoc}
use Rattle.std.specs.List.{All, flat_map, list_all}
use Rattle.cc_program.specs.CcNum.declared.target.Target.{Target}
use Rattle.cc_program.specs.declared.types.Structure.{Structure}
use Rattle.cc_structures.proofs.Elements.{In}
use Rattle.cc_terms.proofs.CcSyntax.Prefixes.{both_true}
use Rattle.cc_terms.specs.CcSyntax.Sound.{are_structures, is_structure}

pub both : (a b : Bool) → a ≡ true → b ≡ true → a && b ≡ true
both a b h k = rw (h, k) refl

pub take_more : {X : Type 0} (xs : List X) (p : ℕ) (x : X) → slice_get xs p ≡ Some x → take (suc p) xs ≡ take p xs ++ x ∷ []
take_more [] p x e = absurd (cc)
take_more {X} (y ∷ ys) zero x e = ap (λ (z : X). z ∷ []) (cc e)
take_more {X} (y ∷ ys) (suc p) x e = ap (λ (l : List X). y ∷ l) (take_more ys p x e)

pub take_front : {X : Type 0} (xs ys : List X) → take (length xs) (xs ++ ys) ≡ xs
take_front [] [] = refl
take_front [] (y ∷ ys) = refl
take_front {X} (x ∷ xs) ys = ap (λ (l : List X). x ∷ l) (take_front xs ys)

-- nothing stands behind the end of the first elements
pub take_past : {X : Type 0} (xs : List X) (p q : ℕ) → p ≤ q → slice_get (take p xs) q ≡ None
take_past [] zero q low = refl
take_past [] (suc p) q low = refl
take_past (y ∷ ys) zero q low = refl
take_past (y ∷ ys) (suc p) zero low = absurd (omega (arith, low))
take_past (y ∷ ys) (suc p) (suc q) low = take_past ys p q (omega (arith, low))

pub flat_parts : {X Y : Type 0} (f : X → List Y) (xs ys : List X) → flat_map f (xs ++ ys) ≡ flat_map f xs ++ flat_map f ys
flat_parts f [] ys = refl
flat_parts {X} {Y} f (x ∷ xs) ys = ap (λ (l : List Y). f x ++ l) (flat_parts f xs ys) ∙ sym (append_assoc (f x) (flat_map f xs) (flat_map f ys))

pub in-get : {X : Type 0} (xs : List X) (i : ℕ) (d : X) → i < length xs → In (get_or xs i d) xs
in-get [] i d low = absurd (omega (arith, low))
in-get (x ∷ xs) zero d low = inl refl
in-get (x ∷ xs) (suc i) d low = inr (in-get xs i d (omega (arith, low)))

pub all-in : {X : Type 0} (P : X → Type 0) (xs : List X) → ((x : X) → In x xs → P x) → All P xs
all-in P xs h i d low = h (get_or xs i d) (in-get xs i d low)

pub all-at : {X : Type 0} (p : X → Bool) (xs : List X) (i : ℕ) (x : X) → list_all p xs ≡ true → slice_get xs i ≡ Some x → p x ≡ true
all-at p [] i x h e = absurd (cc)
all-at {X} p (y ∷ ys) zero x h e = let s : y ≡ x = cc e in sym (ap p s) ∙ (both_true (p y) (list_all p ys) h).0
all-at p (y ∷ ys) (suc i) x h e = all-at p ys i x (both_true (p y) (list_all p ys) h).1 e

-- structures in two parts
pub structures_parts : (target : Target) (count : ℕ) (before xs ys : List Structure) → are_structures before count target xs ≡ true → are_structures (before ++ xs) count target ys ≡ true → are_structures before count target (xs ++ ys) ≡ true
structures_parts target count before [] ys h k = subst (λ (l : List Structure). are_structures l count target ys ≡ true) (append_nothing before) k
  where
    append_nothing : (l : List Structure) → l ++ [] ≡ l
    append_nothing [] = refl
    append_nothing (z ∷ l) = ap (λ (r : List Structure). z ∷ r) (append_nothing l)
structures_parts target count before (x ∷ xs) ys h k =
    let b = both_true (is_structure before count target x) (are_structures (before ++ x ∷ []) count target xs) h in
    both (is_structure before count target x) (are_structures (before ++ x ∷ []) count target (xs ++ ys)) b.0
    (structures_parts target count (before ++ x ∷ []) xs ys b.1 (subst (λ (l : List Structure). are_structures l count target ys ≡ true) (sym (append_assoc before (x ∷ []) xs)) k))
