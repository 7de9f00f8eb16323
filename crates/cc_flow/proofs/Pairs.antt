-- What holds of each two elements of a list that is put together.
use Rattle.std.proofs.Common.{suc, List, [], ◌∷◌, ◌++◌, All, AllPairs, arith}
use Rattle.std.proofs.lemmas.List.Elements.{All-nil, All-append, All-head, All-tail}
use Rattle.std.proofs.lemmas.List.Kept.{AllPairs-cons}

module _ {X : Type 0} (R : X → X → Type 0) where
  pub pairs_nil : AllPairs R []
  pairs_nil = λ i j d h k. absurd (omega (arith, k))

  pub pairs_one : (x : X) → AllPairs R (x ∷ [])
  pairs_one x = AllPairs-cons R x [] (All-nil (R x)) pairs_nil

  pairs_head : (x : X) (xs : List X) → AllPairs R (x ∷ xs) → All (R x) xs
  pairs_head x xs p = λ k d h. p 0 (suc k) d (omega arith) (omega (arith, h))

  pairs_tail : (x : X) (xs : List X) → AllPairs R (x ∷ xs) → AllPairs R xs
  pairs_tail x xs p = λ i j d h k. p (suc i) (suc j) d (omega (arith, h)) (omega (arith, k))

  pub pairs_append : (xs ys : List X) → AllPairs R xs → AllPairs R ys → All (λ x. All (R x) ys) xs → AllPairs R (xs ++ ys)
  pairs_append [] ys p q cross = q
  pairs_append (x ∷ xs) ys p q cross =
      AllPairs-cons R x (xs ++ ys) (All-append (R x) xs ys (pairs_head x xs p) (All-head (λ x. All (R x) ys) x xs cross))
      (pairs_append xs ys (pairs_tail x xs p) q (All-tail (λ x. All (R x) ys) x xs cross))
