-- Ascending lists by recursion: what they have decides them, and what has more is longer.
use Rattle.std.proofs.Common.{◌≡◌, ◌⊎◌, ℕ, zero, suc, ◌<◌, ◌≤◌, ℤ, ◌<ℤ◌, List, [], ◌∷◌, length, get_or, Some, None, refl, sym, ap, subst, inl, inr, ⊎_elim, ◌∙◌, arith}
use Rattle.std.specs.List.{Contains, slice_get, insert}
use Rattle.std.proofs.lemmas.Int.{ints}
use Rattle.std.proofs.lemmas.List.{get_or_default}
use Rattle.std.proofs.lemmas.Bool.{cases_lt}
use Rattle.cc_lattice.specs.Domains.{Ascends}
use Rattle.cc_explicit.specs.Sets.{IsPlace}

-- v is in a list
abbrev pub In : ℤ → List ℤ → Type 0
In v [] = ⊥
In v (x ∷ xs) = (x ≡ v) ⊎ In v xs

abbrev pub Rises : List ℤ → Type 0
Rises [] = Unit {0}
Rises (x ∷ xs) = ((v : ℤ) → In v xs → x <ℤ v) × Rises xs

in_at : (xs : List ℤ) (v : ℤ) (k : ℕ) → k < length xs → get_or xs k v ≡ v → In v xs
in_at [] v k l e = absurd (omega arith)
in_at (x ∷ xs) v zero l e = inl e
in_at (x ∷ xs) v (suc k) l e = inr (in_at xs v k (omega arith) e)

pub in_list : (xs : List ℤ) (v : ℤ) → Contains xs v → In v xs
in_list xs v h = in_at xs v h.0 h.1 h.2

pub in_contains : (xs : List ℤ) (v : ℤ) → In v xs → Contains xs v
in_contains [] v h = absurd h
in_contains (x ∷ xs) v h = ⊎_elim (λ (e : x ≡ v). (0, omega arith, e)) (λ (t : In v xs). let r = in_contains xs v t in let l = r.1 in (suc r.0, omega arith, r.2)) h

-- members by their places
got : (xs : List ℤ) (v : ℤ) → In v xs → (j : ℕ) × (slice_get xs j ≡ Some v)
got [] v h = absurd h
got (x ∷ xs) v h = ⊎_elim (λ (e : x ≡ v). (0, ap Some e)) (λ (t : In v xs). let r = got xs v t in (suc r.0, r.1)) h

in_got : (xs : List ℤ) (v : ℤ) (j : ℕ) → slice_get xs j ≡ Some v → In v xs
in_got [] v j e = let f : None ≡ Some v = e in cc
in_got (x ∷ xs) v zero e = let f : Some x ≡ Some v = e in inl (cc)
in_got (x ∷ xs) v (suc j) e = inr (in_got xs v j e)

pub rises : (xs : List ℤ) → Ascends xs → Rises xs
rises [] h = tt
rises (x ∷ xs) h = (
  λ v t. let r = got xs v t in h 0 (suc r.0) x v (omega arith) refl r.1,
  rises xs (λ i j v w l e f. h (suc i) (suc j) v w (omega arith) e f),
)

ascends_at : (xs : List ℤ) → Rises xs → (i j : ℕ) (v w : ℤ) → i < j → slice_get xs i ≡ Some v → slice_get xs j ≡ Some w → v <ℤ w
ascends_at [] r i j v w l e f = let g : None ≡ Some v = e in cc
ascends_at (x ∷ xs) r zero zero v w l e f = absurd (omega arith)
ascends_at (x ∷ xs) r zero (suc j) v w l e f =
    let g : Some x ≡ Some v = e in
    let s : x ≡ v = cc in
    subst (λ (y : ℤ). y <ℤ w) s (r.0 w (in_got xs w j f))
ascends_at (x ∷ xs) r (suc i) zero v w l e f = absurd (omega arith)
ascends_at (x ∷ xs) r (suc i) (suc j) v w l e f = ascends_at xs r.1 i j v w (omega arith) e f

pub ascends : (xs : List ℤ) → Rises xs → Ascends xs
ascends xs r = ascends_at xs r

-- of two ascending lists, where one has what the other has

abbrev pub Within : List ℤ → List ℤ → Type 0
Within xs ys = (v : ℤ) → In v xs → In v ys

below_itself : (v : ℤ) → v <ℤ v → ⊥
below_itself v h = omega (arith, ints)

below_both : (v w : ℤ) → v <ℤ w → w <ℤ v → ⊥
below_both v w h k = omega (arith, ints)

-- what follows the first of one list follows the first of the other
pub tails : (x y : ℤ) (xs ys : List ℤ) → Rises (x ∷ xs) → Rises (y ∷ ys) → Within (x ∷ xs) (y ∷ ys) → Within xs ys
tails x y xs ys r s h v t =
    let up : x <ℤ v = r.0 v t in
    ⊎_elim
    (λ (e : y ≡ v). ⊎_elim
    (λ (f : y ≡ x). absurd (below_itself v (subst (λ (z : ℤ). z <ℤ v) (sym f ∙ e) up)))
    (λ (u : In x ys). absurd (below_both x v up (subst (λ (z : ℤ). z <ℤ x) e (s.0 x u))))
    (h x (inl refl)))
    (λ (u : In v ys). u)
    (h v (inr t))

pub no_longer : (xs ys : List ℤ) → Rises xs → Rises ys → Within xs ys → length xs ≤ length ys
no_longer [] ys r s h = omega arith
no_longer (x ∷ xs) [] r s h = absurd (h x (inl refl))
no_longer (x ∷ xs) (y ∷ ys) r s h = let k = no_longer xs ys r.1 s.1 (tails x y xs ys r s h) in omega arith

first_same : (x y : ℤ) (xs ys : List ℤ) → Rises (x ∷ xs) → Rises (y ∷ ys) → Within (x ∷ xs) (y ∷ ys) → Within (y ∷ ys) (x ∷ xs) → x ≡ y
first_same x y xs ys r s h k =
    ⊎_elim
    (λ (e : y ≡ x). sym e)
    (λ (t : In x ys). ⊎_elim
    (λ (e : x ≡ y). e)
    (λ (u : In y xs). absurd (below_both x y (r.0 y u) (s.0 x t)))
    (k y (inl refl)))
    (h x (inl refl))

cons_same : (x y : ℤ) (xs ys : List ℤ) → x ≡ y → xs ≡ ys → x ∷ xs ≡ y ∷ ys
cons_same x y xs ys e f = ap (λ (z : ℤ). z ∷ xs) e ∙ ap (λ (zs : List ℤ). y ∷ zs) f

pub same_list : (xs ys : List ℤ) → Rises xs → Rises ys → Within xs ys → Within ys xs → xs ≡ ys
same_list [] [] r s h k = refl
same_list [] (y ∷ ys) r s h k = absurd (k y (inl refl))
same_list (x ∷ xs) [] r s h k = absurd (h x (inl refl))
same_list (x ∷ xs) (y ∷ ys) r s h k =
    cons_same x y xs ys (first_same x y xs ys r s h k) (same_list xs ys r.1 s.1 (tails x y xs ys r s h) (tails y x ys xs s r k))

-- what has no more members has no other
pub no_more : (xs ys : List ℤ) → Rises xs → Rises ys → Within xs ys → length ys ≤ length xs → Within ys xs
no_more [] [] r s h l v t = t
no_more [] (y ∷ ys) r s h l v t = absurd (omega arith)
no_more (x ∷ xs) [] r s h l v t = absurd t
no_more (x ∷ xs) (y ∷ ys) r s h l v t =
    let back = no_more xs ys r.1 s.1 (tails x y xs ys r s h) (omega arith) in
    ⊎_elim
    (λ (e : y ≡ v). ⊎_elim
    (λ (f : y ≡ x). inl (sym f ∙ e))
    (λ (u : In x ys). absurd (below_itself x (r.0 x (back x u))))
    (h x (inl refl)))
    (λ (u : In v ys). inr (back v u))
    t

-- a number that is put in

pub in_insert : (xs : List ℤ) (i : ℕ) (v w : ℤ) → In w (insert xs i v) → (w ≡ v) ⊎ In w xs
in_insert xs zero v w h = ⊎_elim (λ (e : v ≡ w). inl (sym e)) (λ (t : In w xs). inr t) h
in_insert [] (suc i) v w h = ⊎_elim (λ (e : v ≡ w). inl (sym e)) (λ (t : In w []). inr t) h
in_insert (x ∷ xs) (suc i) v w h = ⊎_elim
    (λ (e : x ≡ w). inr (inl e))
    (λ (t : In w (insert xs i v)). ⊎_elim (λ (e : w ≡ v). inl e) (λ (u : In w xs). inr (inr u)) (in_insert xs i v w t))
    h

pub insert_in : (xs : List ℤ) (i : ℕ) (v w : ℤ) → (w ≡ v) ⊎ In w xs → In w (insert xs i v)
insert_in xs zero v w h = ⊎_elim (λ (e : w ≡ v). inl (sym e)) (λ (t : In w xs). inr t) h
insert_in [] (suc i) v w h = ⊎_elim (λ (e : w ≡ v). inl (sym e)) (λ (t : In w []). inr t) h
insert_in (x ∷ xs) (suc i) v w h = ⊎_elim
    (λ (e : w ≡ v). inr (insert_in xs i v w (inl e)))
    (λ (t : In w (x ∷ xs)). ⊎_elim (λ (e : x ≡ w). inl e) (λ (u : In w xs). inr (insert_in xs i v w (inr u))) t)
    h

-- by what stands at each place
insert_rises : (xs : List ℤ) (i : ℕ) (v : ℤ) → Rises xs → ((k : ℕ) → k < i → k < length xs → get_or xs k v <ℤ v) → ((k : ℕ) → i ≤ k → k < length xs → v <ℤ get_or xs k v)
    → Rises (insert xs i v)
insert_rises xs zero v r below above =
    (λ w t. let h = in_contains xs w t in subst (λ (z : ℤ). v <ℤ z) (get_or_default xs h.0 v w h.1 ∙ h.2) (above h.0 (omega arith) h.1), r)
insert_rises [] (suc i) v r below above = (λ w t. absurd t, tt)
insert_rises (x ∷ xs) (suc i) v r below above = (
  λ w t. ⊎_elim
      (λ (e : w ≡ v). subst (λ (z : ℤ). x <ℤ z) (sym e) (below 0 (omega arith) (omega arith)))
      (λ (u : In w xs). r.0 w u)
      (in_insert xs i v w t),
  insert_rises xs i v r.1 (λ k l m. below (suc k) (omega arith) (omega arith)) (λ k l m. above (suc k) (omega arith) (omega arith)),
)

pub ascends_insert : (xs : List ℤ) (at : ℕ) (v : ℤ) → Ascends xs → IsPlace xs at v → Ascends (insert xs at v)
ascends_insert xs at v h p =
    ascends (insert xs at v) (insert_rises xs at v (rises xs h) (λ k l m. p.below k v l) (λ k l m. p.above k v l m))

-- where a number would stand, it isn't
pub not_in : (xs : List ℤ) (at : ℕ) (v : ℤ) → IsPlace xs at v → Contains xs v → ⊥
not_in xs at v p h =
    let k = h.0 in let l = h.1 in let e = h.2 in
    ⊎_elim
    (λ (less : h.0 < at). below_itself v (subst (λ (z : ℤ). z <ℤ v) e (p.below h.0 v less)))
    (λ (more : at ≤ h.0). below_itself v (subst (λ (z : ℤ). v <ℤ z) e (p.above h.0 v more l)))
    (cases_lt h.0 at)
