-- What holds of each element of lists that are joined, made and filtered; and what such lists contain.
use Rattle.std.proofs.Common.{arith, ◌≡◌, inl, inr, ℕ, zero, suc, ◌+◌, ◌<◌, Bool, true, false, List, [], ◌∷◌, ◌++◌, map, length, cond, All, Contains, Some, slice_get, refl, sym, ap, subst, ◌∙◌}
use Rattle.std.specs.List.{AllByRecursion, filter, flat_map}
use Rattle.std.proofs.lemmas.List.Elements.{All-head, All-tail, All-from_recursion, Contains-append_right}
use Rattle.cc_rules.specs.CcPlaces.laws.ListLaws.{cons_cases, at_head, behind_head}
use Rattle.cc_rules.specs.CcRulesNeeds.Flowing.{numbers}
use Rattle.cc_state_points.proofs.CcState.Lists.{no_member}

abbrev pub Each : {A : Type 0} → (A → Type 0) → List A → Type 0
Each P xs = AllByRecursion P xs

pub each_all : {A : Type 0} (P : A → Type 0) (xs : List A) → All P xs → Each P xs
each_all P [] h = tt
each_all P (x ∷ xs) h = (All-head P x xs h, each_all P xs (All-tail P x xs h))

pub all_each : {A : Type 0} (P : A → Type 0) (xs : List A) → Each P xs → All P xs
all_each P xs h = All-from_recursion P xs h

pub each_append : {A : Type 0} (P : A → Type 0) (xs ys : List A) → Each P xs → Each P ys → Each P (xs ++ ys)
each_append P [] ys h l = l
each_append P (x ∷ xs) ys h l = (h.0, each_append P xs ys h.1 l)

pub each_split : {A : Type 0} (P : A → Type 0) (xs ys : List A) → Each P (xs ++ ys) → Each P xs × Each P ys
each_split P [] ys h = (tt, h)
each_split P (x ∷ xs) ys h = let t = each_split P xs ys h.1 in ((h.0, t.0), t.1)

pub each_map : {A B : Type 0} (P : B → Type 0) (f : A → B) (xs : List A) → ((x : A) → Contains xs x → P (f x)) → Each P (map f xs)
each_map P f [] h = tt
each_map P f (x ∷ xs) h = (h x (at_head x xs), each_map P f xs (λ y c. h y (behind_head x xs y c)))

-- of what is made of numbers in a range
pub each_number : {A : Type 0} (P : A → Type 0) (f g : ℕ → A) (k n : ℕ) → ((i : ℕ) → i < k + n → P (f i) → P (g i)) → Each P (map f (numbers k n)) → Each P (map g (numbers k n))
each_number P f g k zero h l = tt
each_number P f g k (suc n) h l = (h k (omega arith) l.0, each_number P f g (suc k) n (λ i j. h i (omega (arith, j))) l.1)

pub each_flat : {A B : Type 0} (P : B → Type 0) (f g : A → List B) (xs : List A) → ((x : A) → Each P (f x) → Each P (g x)) → Each P (flat_map f xs) → Each P (flat_map g xs)
each_flat P f g [] h l = tt
each_flat P f g (x ∷ xs) h l = let t = each_split P (f x) (flat_map f xs) l in each_append P (g x) (flat_map g xs) (h x t.0) (each_flat P f g xs h t.1)

-- ---- what lists contain

pub some_within : {A : Type 0} (xs : List A) (i : ℕ) → i < length xs → (x : A) × (slice_get xs i ≡ Some x)
some_within [] i l = absurd (omega (arith, l))
some_within (x ∷ xs) zero l = (x, refl)
some_within (x ∷ xs) (suc i) l = some_within xs i (omega (arith, l))

pub each_at : {A : Type 0} (P : A → Type 0) (xs : List A) (x : A) → Each P xs → Contains xs x → P x
each_at P [] x h c = no_member x c
each_at P (y ∷ ys) x h c = elim (cons_cases y ys x c) [ inl e ↦ subst P e h.0 | inr r ↦ each_at P ys x h.1 r ]

pub each_from : {A : Type 0} (P : A → Type 0) (xs : List A) → ((x : A) → Contains xs x → P x) → Each P xs
each_from P [] h = tt
each_from P (x ∷ xs) h = (h x (at_head x xs), each_from P xs (λ y c. h y (behind_head x xs y c)))

pub in_map : {A B : Type 0} (f : A → B) (xs : List A) (x : A) → Contains xs x → Contains (map f xs) (f x)
in_map f [] x c = no_member x c
in_map f (y ∷ xs) x c = elim (cons_cases y xs x c) [ inl e ↦ subst (λ z. Contains (f y ∷ map f xs) (f z)) e (at_head (f y) (map f xs)) | inr r ↦ behind_head (f y) (map f xs) (f x) (in_map f xs x r) ]

pub map_contained : {A B : Type 0} (f : A → B) (xs : List A) (y : B) → Contains (map f xs) y → (x : A) × Contains xs x × (f x ≡ y)
map_contained f [] y c = no_member y c
map_contained f (x ∷ xs) y c = elim (cons_cases (f x) (map f xs) y c) [
  | inl e ↦ (x, at_head x xs, e)
  | inr r ↦ let t = map_contained f xs y r in (t.0, behind_head x xs t.0 t.1, t.2)
]

in_kept : {A : Type 0} (b : Bool) (y : A) (xs : List A) (x : A) → Contains xs x → Contains (cond b (y ∷ xs) xs) x
in_kept true y xs x c = behind_head y xs x c
in_kept false y xs x c = c

pub in_filter : {A : Type 0} (test : A → Bool) (xs : List A) (x : A) → Contains xs x → test x ≡ true → Contains (filter test xs) x
in_filter test [] x c h = no_member x c
in_filter test (y ∷ xs) x c h = elim (cons_cases y xs x c) [
  | inl e ↦ subst (λ b. Contains (cond b (y ∷ filter test xs) (filter test xs)) x) (sym (ap test e ∙ h)) (subst (λ z. Contains (y ∷ filter test xs) z) e (at_head y (filter test xs)))
  | inr r ↦ in_kept (test y) y (filter test xs) x (in_filter test xs x r h)
]

pub in_middle : {A : Type 0} (xs : List A) (x : A) (ys : List A) → Contains (xs ++ x ∷ ys) x
in_middle xs x ys = Contains-append_right xs (x ∷ ys) x (at_head x ys)
