-- Where the first of several findings is none.
use Rattle.std.proofs.Common.{◌≡◌, ◌∙◌, ℕ, zero, suc, Bool, true, false, cond, List, [], ◌∷◌, Option, Some, None, option_map, slice_get, refl, ap}
use Rattle.std.specs.List.{find, list_any}
use Rattle.std.specs.Option.{option_or}

module _ {X : Type 0} where
  none_or : (a b : Option X) → option_or a b ≡ None → (a ≡ None) × (b ≡ None)
  none_or None b e = (refl, e)
  none_or (Some x) b e = let f : Some x ≡ None = e in absurd (cc)

  or_none : (a b : Option X) → a ≡ None → b ≡ None → option_or a b ≡ None
  or_none None b e k = k
  or_none (Some x) b e k = absurd (cc)

  pub none_of_four : (a b c d : Option X) → option_or a (option_or b (option_or c d)) ≡ None → (a ≡ None) × (b ≡ None) × (c ≡ None) × (d ≡ None)
  none_of_four a b c d e =
      let first = none_or a (option_or b (option_or c d)) e in
      let second = none_or b (option_or c d) first.1 in
      let third = none_or c d second.1 in
      (first.0, second.0, third.0, third.1)

  pub four_none : (a b c d : Option X) → a ≡ None → b ≡ None → c ≡ None → d ≡ None → option_or a (option_or b (option_or c d)) ≡ None
  four_none a b c d p q r s = or_none a (option_or b (option_or c d)) p (or_none b (option_or c d) q (or_none c d r s))

  pub none_of_five : (a b c d e : Option X) → option_or a (option_or b (option_or c (option_or d e))) ≡ None → (a ≡ None) × (b ≡ None) × (c ≡ None) × (d ≡ None) × (e ≡ None)
  none_of_five a b c d e h =
      let first = none_or a (option_or b (option_or c (option_or d e))) h in
      let rest = none_of_four b c d e first.1 in
      (first.0, rest.0, rest.1, rest.2, rest.3)

  pub five_none : (a b c d e : Option X) → a ≡ None → b ≡ None → c ≡ None → d ≡ None → e ≡ None → option_or a (option_or b (option_or c (option_or d e))) ≡ None
  five_none a b c d e p q r s t = or_none a (option_or b (option_or c (option_or d e))) p (four_none b c d e q r s t)

  pub none_of_three : (a b c : Option X) → option_or a (option_or b c) ≡ None → (a ≡ None) × (b ≡ None) × (c ≡ None)
  none_of_three a b c e =
      let first = none_or a (option_or b c) e in
      let second = none_or b c first.1 in
      (first.0, second.0, second.1)

  pub three_none : (a b c : Option X) → a ≡ None → b ≡ None → c ≡ None → option_or a (option_or b c) ≡ None
  three_none a b c p q r = or_none a (option_or b c) p (or_none b c q r)

  pub none_of_two : (a b : Option X) → option_or a b ≡ None → (a ≡ None) × (b ≡ None)
  none_of_two a b e = none_or a b e

  pub two_none : (a b : Option X) → a ≡ None → b ≡ None → option_or a b ≡ None
  two_none a b p q = or_none a b p q

  pub none_mapped : {Y : Type 0} (f : X → Y) (o : Option X) → option_map f o ≡ None → o ≡ None
  none_mapped f None e = refl
  none_mapped f (Some x) e = let g : Some (f x) ≡ None = e in absurd (cc)

  pub mapped_none : {Y : Type 0} (f : X → Y) (o : Option X) → o ≡ None → option_map f o ≡ None
  mapped_none f o e = ap (option_map f) e

  -- ---- the first that passes

  find_step : (b : Bool) (y : X) (r : Option X) → cond b (Some y) r ≡ None → (b ≡ false) × (r ≡ None)
  find_step true y r e = let f : Some y ≡ None = e in absurd (cc)
  find_step false y r e = (refl, e)

  pub none_passes : (p : X → Bool) (xs : List X) → find p xs ≡ None → (j : ℕ) (x : X) → slice_get xs j ≡ Some x → p x ≡ false
  none_passes p [] e j x s = let f : None ≡ Some x = s in absurd (cc)
  none_passes p (y ∷ ys) e zero x s =
      let f : Some y ≡ Some x = s in
      let k : x ≡ y = cc in
      ap p k ∙ (find_step (p y) y (find p ys) e).0
  none_passes p (y ∷ ys) e (suc j) x s = none_passes p ys (find_step (p y) y (find p ys) e).1 j x s

  pub passes_none : (p : X → Bool) (xs : List X) → ((j : ℕ) (x : X) → slice_get xs j ≡ Some x → p x ≡ false) → find p xs ≡ None
  passes_none p [] h = refl
  passes_none p (y ∷ ys) h = ap (λ (b : Bool). cond b (Some y) (find p ys)) (h zero y refl) ∙ passes_none p ys (λ j x s. h (suc j) x s)

  pub record IsFound (p : X → Bool) (xs : List X) (x : X) : Type 0 where
    pub place : ℕ
    pub there : slice_get xs place ≡ Some x
    pub passes : p x ≡ true

  found_step : (p : X → Bool) (y : X) (ys : List X) (x : X) (b : Bool) → p y ≡ b → cond b (Some y) (find p ys) ≡ Some x → (find p ys ≡ Some x → IsFound p ys x) → IsFound p (y ∷ ys) x
  found_step p y ys x true t e more =
      let f : Some y ≡ Some x = e in
      let k : x ≡ y = cc in
      record { place = zero; there = f; passes = ap p k ∙ t }
  found_step p y ys x false t e more = let h = more e in record { place = suc h.place; there = h.there; passes = h.passes }

  pub found : (p : X → Bool) (xs : List X) (x : X) → find p xs ≡ Some x → IsFound p xs x
  found p [] x e = let f : None ≡ Some x = e in absurd (cc)
  found p (y ∷ ys) x e = found_step p y ys x (p y) refl e (λ k. found p ys x k)

  any_here : (p : X → Bool) (y : X) (ys : List X) → p y ≡ true → list_any p (y ∷ ys) ≡ true
  any_here p y ys t = rw t refl

  any_behind : (p : X → Bool) (y : X) (ys : List X) → list_any p ys ≡ true → (b : Bool) → p y ≡ b → list_any p (y ∷ ys) ≡ true
  any_behind p y ys h true t = any_here p y ys t
  any_behind p y ys h false t = rw t h

  pub any_at : (p : X → Bool) (xs : List X) (j : ℕ) (x : X) → slice_get xs j ≡ Some x → p x ≡ true → list_any p xs ≡ true
  any_at p [] j x s t = let f : None ≡ Some x = s in absurd (cc)
  any_at p (y ∷ ys) zero x s t =
      let f : Some y ≡ Some x = s in
      let k : y ≡ x = cc in
      any_here p y ys (ap p k ∙ t)
  any_at p (y ∷ ys) (suc j) x s t = any_behind p y ys (any_at p ys j x s t) (p y) refl

  any_step : (p : X → Bool) (y : X) (ys : List X) → (list_any p ys ≡ true → (j : ℕ) × (x : X) × (slice_get ys j ≡ Some x) × (p x ≡ true)) → (b : Bool) → p y ≡ b → list_any p (y ∷ ys) ≡ true
      → (j : ℕ) × (x : X) × (slice_get (y ∷ ys) j ≡ Some x) × (p x ≡ true)
  any_step p y ys more true t h = (zero, y, refl, t)
  any_step p y ys more false t h =
      let k : list_any p ys ≡ true = rw t at h in
      let m = more k in
      (suc m.0, m.1, m.2, m.3)

  -- one that passes, where some do
  pub any_passes : (p : X → Bool) (xs : List X) → list_any p xs ≡ true → (j : ℕ) × (x : X) × (slice_get xs j ≡ Some x) × (p x ≡ true)
  any_passes p [] h = absurd (cc)
  any_passes p (y ∷ ys) h = any_step p y ys (λ k. any_passes p ys k) (p y) refl h
