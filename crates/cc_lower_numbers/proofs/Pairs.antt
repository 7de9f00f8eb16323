-- Two lists side by side, one more element of both at a time.
use Rattle.std.proofs.Common.{◌≡◌, ◌∙◌, ◌<◌, ◌≤◌, ◌+◌, ℕ, zero, suc, List, [], ◌∷◌, ◌++◌, length, get_or, drop, map, Some, None, refl, ap, sym, append_assoc, drop-cons, arith}
use Rattle.std.specs.Prelude.{zip, slice_get}
use Rattle.std.proofs.lemmas.List.{append-nil}

drop_past : {X : Type 0} (xs : List X) (i : ℕ) → length xs ≤ i → drop i xs ≡ []
drop_past [] zero h = refl
drop_past [] (suc i) h = refl
drop_past (x ∷ xs) zero h = absurd (omega (arith, h))
drop_past (x ∷ xs) (suc i) h = drop_past xs i (omega (arith, h))

drop_got : {X : Type 0} (xs : List X) (i : ℕ) (x : X) → Some x ≡ slice_get xs i → drop i xs ≡ x ∷ drop (suc i) xs
drop_got [] i x h = absurd (cc)
drop_got (y ∷ ys) zero x h = cc
drop_got (y ∷ ys) (suc i) x h = drop_got ys i x h

drop_missed : {X : Type 0} (xs : List X) (i : ℕ) → None ≡ slice_get xs i → drop i xs ≡ []
drop_missed [] zero h = refl
drop_missed [] (suc i) h = refl
drop_missed (y ∷ ys) zero h = absurd (cc)
drop_missed (y ∷ ys) (suc i) h = drop_missed ys i h

zip_nil : {X Y : Type 0} (xs : List X) → zip {K = X} {X = Y} xs [] ≡ []
zip_nil [] = refl
zip_nil (x ∷ xs) = refl

module _ {X Y Z : Type 0} (f : X × Y → Z) (xs : List X) (ys : List Y) (whole : List Z) where
  -- what is done, and what is left
  abbrev pub IsDone : ℕ → List Z → Type 0
  IsDone i done = whole ≡ done ++ map f (zip (drop i xs) (drop i ys))

  pub pairs_more : (i : ℕ) (x : X) (y : Y) (done after : List Z) → Some x ≡ slice_get xs i → i < length ys → y ≡ get_or ys i y → IsDone i done →
      after ≡ done ++ f (x, y) ∷ [] → IsDone (i + 1) after
  pairs_more i x y done after there h is front all =
      let e : suc i ≡ i + 1 = omega arith in
      front
      ∙ (ap (λ l. done ++ map f (zip l (drop i ys))) (drop_got xs i x there)
      ∙ (ap (λ l. done ++ map f (zip (x ∷ drop (suc i) xs) l)) (drop-cons ys i y h ∙ ap (λ z. z ∷ drop (suc i) ys) (sym is))
      ∙ (sym (append_assoc done (f (x, y) ∷ []) (map f (zip (drop (suc i) xs) (drop (suc i) ys))))
      ∙ (ap (λ l. l ++ map f (zip (drop (suc i) xs) (drop (suc i) ys))) (sym all)
      ∙ ap (λ k. after ++ map f (zip (drop k xs) (drop k ys))) e))))

  pub pairs_short : (i : ℕ) (done : List Z) → None ≡ slice_get xs i → IsDone i done → done ≡ whole
  pairs_short i done missed front =
      sym (front ∙ (ap (λ l. done ++ map f (zip l (drop i ys))) (drop_missed xs i missed) ∙ append-nil done))

  pub pairs_end : (i : ℕ) (done : List Z) → length ys ≤ i → IsDone i done → done ≡ whole
  pairs_end i done h front =
      sym (front ∙ (ap (λ l. done ++ map f (zip (drop i xs) l)) (drop_past ys i h) ∙ (ap (λ l. done ++ map f l) (zip_nil (drop i xs)) ∙ append-nil done)))
