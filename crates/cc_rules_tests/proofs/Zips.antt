-- Two lists, place by place.
use Rattle.std.proofs.Common.{◌≡◌, ◌<◌, ◌++◌, ◌+◌, ℕ, zero, suc, List, [], ◌∷◌, length, take, get_or, sym, subst, ⊎_elim, arith}
use Rattle.std.specs.List.{AllZip, Contains}
use Rattle.std.proofs.lemmas.List.{take_more}
use Rattle.std.proofs.lemmas.Slice.Zip.{AllZip-long}
use Rattle.cc_rules_flows.specs.CcPlaces.laws.ListLaws.{at_head, behind_head, cons_cases, none_in}

module _ {A B : Type 0} (R : A → B → Type 0) where
  zip_at : (xs : List A) (ys : List B) (i : ℕ) (a : A) (b : B) → AllZip R xs ys → i < length xs → R (get_or xs i a) (get_or ys i b)
  zip_at [] ys i a b h l = absurd (omega (arith, l))
  zip_at (x ∷ xs) [] i a b h l = absurd h
  zip_at (x ∷ xs) (y ∷ ys) zero a b h l = h.0
  zip_at (x ∷ xs) (y ∷ ys) (suc i) a b h l = zip_at xs ys i a b h.1 (omega (arith, l))

  pub zip_item : (xs : List A) (ys : List B) (i : ℕ) (a : A) (y : B) → AllZip R xs ys → i < length xs → y ≡ get_or ys i y → R (get_or xs i a) y
  zip_item xs ys i a y h l e = subst (λ z. R (get_or xs i a) z) (sym e) (zip_at xs ys i a y h l)

  pub zip_long : (xs : List A) (ys : List B) → AllZip R xs ys → length ys ≡ length xs
  zip_long xs ys h = AllZip-long R xs ys h

  zip_push : (xs : List A) (ys : List B) (x : A) (y : B) → AllZip R xs ys → R x y → AllZip R (xs ++ x ∷ []) (ys ++ y ∷ [])
  zip_push [] [] x y h k = (k, tt)
  zip_push [] (b ∷ ys) x y h k = absurd h
  zip_push (a ∷ xs) [] x y h k = absurd h
  zip_push (a ∷ xs) (b ∷ ys) x y h k = (h.0, zip_push xs ys x y h.1 k)

  pub zip_more : (xs : List A) (ys zs : List B) (i : ℕ) (a : A) (y : B) → i < length xs → AllZip R (take i xs) ys → R (get_or xs i a) y → zs ≡ ys ++ y ∷ [] → AllZip R (take (i + 1) xs) zs
  zip_more xs ys zs i a y l h k e =
      subst (λ us. AllZip R (take (i + 1) xs) us) (sym e) (subst (λ us. AllZip R us (ys ++ y ∷ [])) (sym (take_more xs i a l)) (zip_push (take i xs) ys (get_or xs i a) y h k))

  abbrev Partner : List B → A → Type 0
  Partner ys x = (y : B) × Contains ys y × R x y

  -- each item of the first list has one of the second
  pub zip_in : (xs : List A) (ys : List B) (x : A) → AllZip R xs ys → Contains xs x → Partner ys x
  zip_in [] ys x h k = absurd (none_in x k)
  zip_in (a ∷ xs) [] x h k = absurd h
  zip_in (a ∷ xs) (b ∷ ys) x h k = ⊎_elim
      (λ e. (b, at_head b ys, subst (λ z. R z b) e h.0))
      (λ l. let w = zip_in xs ys x h.1 l in (w.0, behind_head b ys w.0 w.1, w.2))
      (cons_cases a xs x k)
