-- What holds of the things of a list by their places holds behind one more.
use Rattle.std.proofs.Common.{arith, ◌≡◌, ◌<◌, ◌≤◌, ◌+◌, ℕ, List, [], ◌∷◌, ◌++◌, length, length-append, get_or, Some, slice_get, ap, sym, ◌∙◌, subst, ◌⊎◌, inl, inr}
use Rattle.std.proofs.Math.Seq.{get_or-append_seam}
use Rattle.std.proofs.lemmas.Bool.{cases_lt}
use Rattle.std.proofs.lemmas.List.{get_or_append_left}
use Rattle.std.proofs.lemmas.Option.{get_or_from_slice_get, slice_get-get_or, slice_get_within}

module _ {A : Type 0} (P : ℕ → A → Type 0) (xs : List A) (y : A) where
  abbrev Each : List A → Type 0
  Each zs = (s : ℕ) (it : A) → slice_get zs s ≡ Some it → P s it

  before : Each xs → (s : ℕ) (it : A) → slice_get (xs ++ y ∷ []) s ≡ Some it → s < length xs → P s it
  before old s it h lt =
      old s it (slice_get-get_or xs s it lt ∙ ap Some (sym (get_or_append_left xs (y ∷ []) it s lt) ∙ get_or_from_slice_get (xs ++ y ∷ []) s it it h))

  there : P (length xs) y → (s : ℕ) (it : A) → slice_get (xs ++ y ∷ []) s ≡ Some it → s ≡ length xs → P s it
  there new s it h e =
      let same : y ≡ it = sym (get_or-append_seam xs y [] it) ∙ (ap (λ n. get_or (xs ++ y ∷ []) n it) (sym e) ∙ get_or_from_slice_get (xs ++ y ∷ []) s it it h) in
      subst (λ n. P n it) (sym e) (subst (P (length xs)) same new)

  last : P (length xs) y → (s : ℕ) (it : A) → slice_get (xs ++ y ∷ []) s ≡ Some it → length xs ≤ s → P s it
  last new s it h past =
      let short : s < length (xs ++ y ∷ []) = slice_get_within (xs ++ y ∷ []) s it h in
      there new s it h (omega (arith, short, past, length-append xs (y ∷ [])))

  by-place : Each xs → P (length xs) y → (s : ℕ) (it : A) → slice_get (xs ++ y ∷ []) s ≡ Some it → (s < length xs) ⊎ (length xs ≤ s) → P s it
  by-place old new s it h (inl lt) = before old s it h lt
  by-place old new s it h (inr past) = last new s it h past

  pub each_more : (zs : List A) (n : ℕ) → zs ≡ xs ++ y ∷ [] → length xs ≡ n → Each xs → P n y → Each zs
  each_more zs n e k old new s it h =
      by-place old (subst (λ m. P m y) (sym k) new) s it (ap (λ l. slice_get l s) (sym e) ∙ h) (cases_lt s (length xs))

pub one_more : {A : Type 0} (xs zs : List A) (y : A) (n : ℕ) → zs ≡ xs ++ y ∷ [] → length xs ≡ n → length zs ≡ n + 1
one_more xs zs y n e k = ap length e ∙ (length-append xs (y ∷ []) ∙ ap (λ m. m + 1) k)
