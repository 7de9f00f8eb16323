-- Elements of lists that are joined.
use Rattle.std.proofs.Common.{◌≡◌, ◌<◌, ◌+◌, ◌∙◌, ℕ, zero, suc, List, [], ◌∷◌, ◌++◌, length, Some, None, slice_get, refl, ap, arith}
use Rattle.std.specs.List.{flat_map}

module _ {X : Type 0} where
  pub in_front : (xs ys : List X) (k : ℕ) (x : X) → slice_get xs k ≡ Some x → slice_get (xs ++ ys) k ≡ Some x
  in_front [] ys k x e = let f : None ≡ Some x = e in absurd (cc)
  in_front (y ∷ xs) ys zero x e = e
  in_front (y ∷ xs) ys (suc k) x e = in_front xs ys k x e

  from_front : (xs ys : List X) (k m : ℕ) → m ≡ length xs + k → slice_get (xs ++ ys) m ≡ slice_get ys k
  from_front [] ys k m e = let f : m ≡ k = omega arith in ap (slice_get ys) f
  from_front (x ∷ xs) ys k zero e = absurd (omega arith)
  from_front (x ∷ xs) ys k (suc m) e = from_front xs ys k m (omega arith)

  pub behind : (xs ys : List X) (n k : ℕ) → n ≡ length xs → slice_get (xs ++ ys) (n + k) ≡ slice_get ys k
  behind xs ys n k e = from_front xs ys k (n + k) (ap (λ (m : ℕ). m + k) e)

-- where each element up to one gives one
pub made : {X Y : Type 0} (make : X → List Y) (xs : List X) (k : ℕ) (x : X) (y : Y) → slice_get xs k ≡ Some x → make x ≡ y ∷ [] →
    ((i : ℕ) (z : X) → slice_get xs i ≡ Some z → i < k → length (make z) ≡ 1) → slice_get (flat_map make xs) k ≡ Some y
made make [] k x y e m each = let f : None ≡ Some x = e in absurd (cc)
made make (z ∷ xs) zero x y e m each =
    let f : Some z ≡ Some x = e in
    let g : z ≡ x = cc in
    in_front (make z) (flat_map make xs) 0 y (ap (λ l. slice_get l 0) (ap make g ∙ m))
made make (z ∷ xs) (suc k) x y e m each =
    from_front (make z) (flat_map make xs) k (suc k) (next (length (make z)) (each 0 z refl (omega arith))) ∙ made make xs k x y e m (λ i w s l. each (suc i) w s (omega arith))
  where
    next : (n : ℕ) → n ≡ 1 → suc k ≡ n + k
    next n e = omega arith
