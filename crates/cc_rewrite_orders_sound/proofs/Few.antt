-- An order that has each number once has no more numbers than there are below its bound.
use Rattle.std.proofs.Common.{◌≡◌, ◌≢◌, ◌∙◌, ◌<◌, ◌≤◌, ◌⊎◌, inl, inr, ℕ, zero, suc, Bool, true, false, ap, sym, arith, if◌then◌else◌}
use Rattle.std.specs.Prelude.{nat_eq}
use Rattle.std.proofs.lemmas.Bool.Decides.{eqb_tells}

pub few : (n m : ℕ) (f : ℕ → ℕ) → ((i : ℕ) → i < m → f i < n) → ((i j : ℕ) → i < m → j < m → f i ≡ f j → i ≡ j) → m ≤ n
few n zero f below apart = omega arith
few zero (suc m) f below apart = let l = below 0 (omega arith) in absurd (omega (arith, l))
few (suc n) (suc m) f below apart = let l = few n m g g_below g_apart in omega (arith, l)
  where
    -- the last one takes the place of the greatest
    g : ℕ → ℕ
    g i = if nat_eq (f i) n then f m else f i

    at : (i : ℕ) → ((f i ≡ n) × (g i ≡ f m)) ⊎ ((f i ≢ n) × (g i ≡ f i))
    at i = by (eqb_tells (f i) n)
      where
        by : ((nat_eq (f i) n ≡ true) × (f i ≡ n)) ⊎ ((nat_eq (f i) n ≡ false) × (f i ≢ n)) → ((f i ≡ n) × (g i ≡ f m)) ⊎ ((f i ≢ n) × (g i ≡ f i))
        by (inl (t, e)) = inl (e, ap (λ (b : Bool). if b then f m else f i) t)
        by (inr (t, e)) = inr (e, ap (λ (b : Bool). if b then f m else f i) t)

    not_last : (i : ℕ) → i < m → f i ≢ f m
    not_last i l e = let k = apart i m (omega arith) (omega arith) e in absurd (omega (arith, l, k))

    g_below : (i : ℕ) → i < m → g i < n
    g_below i l = by (at i)
      where
        by : ((f i ≡ n) × (g i ≡ f m)) ⊎ ((f i ≢ n) × (g i ≡ f i)) → g i < n
        by (inl (e, k)) = let x = below m (omega arith) in let other : f m ≢ n = λ q. not_last i l (e ∙ sym q) in omega (arith, x, k, other)
        by (inr (e, k)) = let x = below i (omega arith) in omega (arith, x, k, e)

    g_apart : (i j : ℕ) → i < m → j < m → g i ≡ g j → i ≡ j
    g_apart i j li lj e = by (at i) (at j)
      where
        by : ((f i ≡ n) × (g i ≡ f m)) ⊎ ((f i ≢ n) × (g i ≡ f i)) → ((f j ≡ n) × (g j ≡ f m)) ⊎ ((f j ≢ n) × (g j ≡ f j)) → i ≡ j
        by (inl (a, k)) (inl (b, q)) = apart i j (omega arith) (omega arith) (a ∙ sym b)
        by (inl (a, k)) (inr (b, q)) = absurd (not_last j lj (sym q ∙ sym e ∙ k))
        by (inr (a, k)) (inl (b, q)) = absurd (not_last i li (sym k ∙ e ∙ q))
        by (inr (a, k)) (inr (b, q)) = apart i j (omega arith) (omega arith) (sym k ∙ e ∙ q)
