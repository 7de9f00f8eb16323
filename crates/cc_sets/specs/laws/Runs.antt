-- Numbers one after another: more than 64 of them are in no explicit set.
use Rattle.std.proofs.Common.{◌≡◌, ◌⊎◌, ℕ, zero, suc, ℤ, pos, ◌+ℤ◌, ◌≤ℤ◌, ◌<ℤ◌, List, [], ◌∷◌, length, refl, sym, ap, subst, inl, inr, ⊎_elim, arith}
use Rattle.std.specs.List.{Contains}
use Rattle.std.proofs.lemmas.Int.{ints, by_lt_z}
use Rattle.cc_explicit.specs.Sets.{most_members}
use Rattle.cc_explicit.specs.declared.explicit.Explicit.{Explicit}
use Rattle.cc_sets.specs.Ranges.{numbers_from}
use Rattle.cc_explicit.proofs.Lists.{In, Rises, in_list, rises, no_longer}

pub run_between : (low : ℤ) (n : ℕ) (v : ℤ) → In v (numbers_from low n) → (low ≤ℤ v) × (v <ℤ (low +ℤ pos n))
run_between low zero v h = absurd h
run_between low (suc n) v h = ⊎_elim
    (λ (e : low ≡ v). (omega (arith, ints), omega (arith, ints)))
    (λ (t : In v (numbers_from (low +ℤ pos 1) n)). let r = run_between (low +ℤ pos 1) n v t in let a = r.0 in let b = r.1 in (omega (arith, ints), omega (arith, ints)))
    h

pub run_rises : (low : ℤ) (n : ℕ) → Rises (numbers_from low n)
run_rises low zero = tt
run_rises low (suc n) = (λ v t. let r = run_between (low +ℤ pos 1) n v t in let a = r.0 in omega (arith, ints), run_rises (low +ℤ pos 1) n)

pub length_run : (low : ℤ) (n : ℕ) → length (numbers_from low n) ≡ n
length_run low zero = refl
length_run low (suc n) = ap suc (length_run (low +ℤ pos 1) n)

-- a set with all numbers between two ends that lie so far apart
pub too_wide : (low high : ℤ) (s : Explicit) → (low +ℤ pos most_members) ≤ℤ high → ((v : ℤ) → low ≤ℤ v → v ≤ℤ high → Contains s.items.items v) → ⊥
too_wide low high s wide h =
    let few = s.few in
    let n = length_run low 65 in
    let l = no_longer (numbers_from low 65) s.items.items (run_rises low 65) (rises s.items.items s.ascending)
    (λ v t. let r = run_between low 65 v t in let a = r.0 in let b = r.1 in in_list s.items.items v (h v a (omega (arith, ints)))) in
    omega (arith, l, n, few)

-- ascending numbers between two ends
pub fit_between : (xs : List ℤ) (low high : ℤ) → Rises xs → low ≤ℤ (high +ℤ pos 1) → ((v : ℤ) → In v xs → (low ≤ℤ v) × (v ≤ℤ high)) → (low +ℤ pos (length xs)) ≤ℤ (high +ℤ pos 1)
fit_between [] low high r o h = omega (arith, ints)
fit_between (x ∷ xs) low high r o h =
    let e = h x (inl refl) in
    let e0 = e.0 in let e1 = e.1 in
    let k = fit_between xs (x +ℤ pos 1) high r.1 (omega (arith, ints)) (λ v t. let up = r.0 v t in let m = h v (inr t) in let m1 = m.1 in (omega (arith, ints), m1)) in
    omega (arith, ints)

-- ascending numbers and one that is none of them, ascending
pub with_one : (xs : List ℤ) (v : ℤ) → Rises xs → (In v xs → ⊥) → (ys : List ℤ) × Rises ys × (length ys ≡ suc (length xs)) × ((w : ℤ) → In w ys → (w ≡ v) ⊎ In w xs)
with_one [] v r h = (v ∷ [], ((λ w t. absurd t), tt), refl, λ w t. ⊎_elim (λ (e : v ≡ w). inl (sym e)) (λ (u : In w []). inr u) t)
with_one (x ∷ xs) v r h = by_lt_z v x
    (λ (less : v <ℤ x). (
      v ∷ x ∷ xs,
      ((λ w t. ⊎_elim (λ (e : x ≡ w). subst (λ (z : ℤ). v <ℤ z) e less) (λ (u : In w xs). let up = r.0 w u in omega (arith, ints)) t), r),
      refl,
      λ w t. ⊎_elim (λ (e : v ≡ w). inl (sym e)) (λ (u : In w (x ∷ xs)). inr u) t,
    ))
    (λ (more : x ≤ℤ v).
    let rest = with_one xs v r.1 (λ t. h (inr t)) in
    let above : x <ℤ v = by_lt_z x v (λ (l : x <ℤ v). l) (λ (m : v ≤ℤ x). absurd (h (inl (omega (arith, ints))))) in (
      x ∷ rest.0,
      ((λ w t. ⊎_elim (λ (e : w ≡ v). subst (λ (z : ℤ). x <ℤ z) (sym e) above) (λ (u : In w xs). r.0 w u) (rest.3 w t)), rest.1),
      ap suc rest.2,
      λ w t. ⊎_elim (λ (e : x ≡ w). inr (inl e)) (λ (u : In w rest.0). ⊎_elim (λ (e : w ≡ v). inl e) (λ (k : In w xs). inr (inr k)) (rest.3 w u)) t,
    ))
