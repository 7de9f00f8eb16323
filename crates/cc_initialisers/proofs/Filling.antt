-- What an object takes from a list, part by part.
use Rattle.std.proofs.Common.{arith, ◌≡◌, ◌∙◌, ◌+◌, ◌-◌, ◌<◌, ◌≤◌, ℕ, zero, suc, Bool, List, [], ◌∷◌, ◌++◌, refl, ap, sym, map, drop, length, append_assoc, add-one, slice_get, Some, None}
use Rattle.std.proofs.lemmas.List.{append-nil}
use Rattle.cc_initialisers.specs.Contents.{Inside, of_members}
use Rattle.cc_initialisers.specs.Initialisers.{Step, Init, Filled, Filling, behind, both_filled, repeated, started, elided}

abbrev filled : List Step → List Init → Filled
filled steps left = (steps, left)

pub behind-both : (before : List Step) (first : Filled) (next : List Init → Filled) → behind before (both_filled first next) ≡ behind (before ++ first.0) (next first.1)
behind-both before first next = ap (λ (steps : List Step). filled steps (next first.1).1) (sym (append_assoc before first.0 (next first.1).0))

-- the first of two is done
pub first-filled : (before after : List Step) (left : List Init) (first : Filled) (next : List Init → Filled) → (after, left) ≡ behind before first →
    behind before (both_filled first next) ≡ behind after (next left)
first-filled before after left first next e = behind-both before first next ∙ ap (λ (f : Filled). behind f.0 (next f.1)) (sym e)

pub nothing-filled : (before : List Step) (left : List Init) → behind before ([], left) ≡ (before, left)
nothing-filled before left = ap (λ (steps : List Step). filled steps left) (append-nil before)

-- an element more
pub element-filled : (element : Filling) (at n : ℕ) (before after : List Step) (gs left : List Init) (whole : Filled) → 0 < n → (after, left) ≡ behind before (element at gs) →
    behind before (repeated n element at gs) ≡ whole → behind after (repeated (n - 1) element at left) ≡ whole
element-filled element at zero before after gs left whole h e w = absurd (omega arith)
element-filled element at (suc n) before after gs left whole h e w =
    let k : suc n - 1 ≡ n = omega arith in
    rw k (sym (first-filled before after left (element at gs) (λ gs. repeated n element at gs) e) ∙ w)

pub elements-filled : (element : Filling) (at n : ℕ) (before : List Step) (gs : List Init) (whole : Filled) → n ≤ 0 → behind before (repeated n element at gs) ≡ whole → (before, gs) ≡ whole
elements-filled element at zero before gs whole h w = sym (nothing-filled before gs) ∙ w
elements-filled element at (suc n) before gs whole h w = absurd (omega arith)

-- a member more
dropped_suc : {A : Type 0} → (xs : List A) (i : ℕ) (x : A) → slice_get xs i ≡ Some x → drop i xs ≡ x ∷ drop (suc i) xs
dropped_suc [] i x h = absurd (cc)
dropped_suc (y ∷ xs) zero x h = let e : y ≡ x = cc in ap (λ z. z ∷ xs) e
dropped_suc (y ∷ xs) (suc i) x h = dropped_suc xs i x h

pub dropped : {A : Type 0} → (xs : List A) (i : ℕ) (x : A) → slice_get xs i ≡ Some x → drop i xs ≡ x ∷ drop (i + 1) xs
dropped xs i x h = rw add-one (dropped_suc xs i x h)

pub drop_past : {A : Type 0} → (xs : List A) (i : ℕ) → length xs ≤ i → drop i xs ≡ []
drop_past [] zero h = refl
drop_past [] (suc i) h = refl
drop_past (x ∷ xs) zero h = absurd (omega (arith, h))
drop_past (x ∷ xs) (suc i) h = drop_past xs i (omega (arith, h))

gone_here : {A : Type 0} → (xs : List A) (i : ℕ) → slice_get xs i ≡ None → drop i xs ≡ []
gone_here [] zero h = refl
gone_here [] (suc i) h = refl
gone_here (x ∷ xs) zero h = absurd (cc)
gone_here (x ∷ xs) (suc i) h = gone_here xs i h

gone_next : {A : Type 0} → (xs : List A) (i : ℕ) → slice_get xs i ≡ None → drop (suc i) xs ≡ []
gone_next [] i h = refl
gone_next (x ∷ xs) zero h = absurd (cc)
gone_next (x ∷ xs) (suc i) h = gone_next xs i h

pub gone : {A : Type 0} → (xs : List A) (i : ℕ) → slice_get xs i ≡ None → (drop i xs ≡ []) × (drop (i + 1) xs ≡ [])
gone xs i h = (gone_here xs i h, rw add-one (gone_next xs i h))

module _ {A : Type 0} (inside : A → Inside) (constant : Bool) (ms : List A) (i : ℕ) where
  -- what the members from the i-th on take
  abbrev pub members_filled : Filling
  members_filled at gs = elided (of_members (map inside (drop i ms)) constant) at gs

  pub member-filled : (m : A) (at : ℕ) (before after : List Step) (gs left : List Init) (whole : Filled) → slice_get ms i ≡ Some m →
      (after, left) ≡ behind before (started (inside m constant) (elided (inside m constant)) at gs) →
      behind before (members_filled at gs) ≡ whole → behind after (elided (of_members (map inside (drop (i + 1) ms)) constant) at left) ≡ whole
  member-filled m at before after gs left whole h e w =
      sym (first-filled before after left (started (inside m constant) (elided (inside m constant)) at gs) (λ gs. elided (of_members (map inside (drop (i + 1) ms)) constant) at gs) e)
      ∙ ap (λ ms. behind before (elided (of_members (map inside ms) constant) at gs)) (sym (dropped ms i m h)) ∙ w

  pub members-filled : (at : ℕ) (before : List Step) (gs : List Init) (whole : Filled) → length ms ≤ i → behind before (members_filled at gs) ≡ whole → (before, gs) ≡ whole
  members-filled at before gs whole h w =
      sym (nothing-filled before gs) ∙ ap (λ ms. behind before (elided (of_members (map inside ms) constant) at gs)) (sym (drop_past ms i h)) ∙ w
