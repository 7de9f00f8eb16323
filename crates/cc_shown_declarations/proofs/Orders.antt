-- Lists of structures in order of first appearance: each stands once, keeps its place as the list grows, and the next one
-- has the count of those before it.
use Rattle.std.proofs.Common.{◌≡◌, ℕ, suc, Bool, true, false, ◌||◌, List, [], ◌∷◌, ◌++◌, map, length, Option, Some, None, refl, ap, sym, ◌∙◌, subst, append_assoc, slice_get, nat_eq, arith}
use Rattle.std.proofs.lemmas.Bool.Decides.{nat_tests}
use Rattle.std.proofs.lemmas.List.{append-nil}
use Rattle.std.specs.Prelude.{if◌then◌else◌}
use Rattle.cc_program.specs.declared.types.Structure.{Structure}
use Rattle.cc_type.specs.CcScopes.State.{change_at}
use Rattle.cc_type.specs.CcSyntax.Types.{Named}
use Rattle.cc_shown_declarations.specs.Order.{base_of, is_among, with_first, with_base, with_members, with_structures, place_in}

pub same : (i j : ℕ) → nat_eq i j ≡ true → i ≡ j
same i j h = grind (arith, nat_tests)

pub self : (i : ℕ) → nat_eq i i ≡ true
self i = grind (arith, nat_tests)

pub turned : (i x : ℕ) → nat_eq i x ≡ false → nat_eq x i ≡ false
turned i x h = grind (arith, nat_tests)

or-false : (a b : Bool) → (a || b) ≡ false → (a ≡ false) × (b ≡ false)
or-false false b h = (refl, h)
or-false true b h = absurd (cc)

or-right : (a b : Bool) → b ≡ true → (a || b) ≡ true
or-right true b h = refl
or-right false b h = h

pub or-left : (a b : Bool) → a ≡ true → (a || b) ≡ true
or-left true b h = refl
or-left false b h = absurd (cc)

pub or-cases : (a b : Bool) (C : Type 0) → (a || b) ≡ true → (a ≡ true → C) → (b ≡ true → C) → C
or-cases true b C h f g = f refl
or-cases false b C h f g = g h

-- ---- what is among a list

or-joined : (a b c : Bool) → (a || (b || c)) ≡ ((a || b) || c)
or-joined true b c = refl
or-joined false b c = refl

pub among-append : (i : ℕ) (xs ys : List ℕ) → is_among i (xs ++ ys) ≡ (is_among i xs || is_among i ys)
among-append i [] ys = refl
among-append i (x ∷ xs) ys = ap (λ (b : Bool). nat_eq i x || b) (among-append i xs ys) ∙ or-joined (nat_eq i x) (is_among i xs) (is_among i ys)

pub among-grown : (i : ℕ) (xs ys : List ℕ) → is_among i xs ≡ true → is_among i (xs ++ ys) ≡ true
among-grown i xs ys h = among-append i xs ys ∙ or-left (is_among i xs) (is_among i ys) h

pub among-last : (i : ℕ) (xs : List ℕ) → is_among i (xs ++ i ∷ []) ≡ true
among-last i xs = among-append i xs (i ∷ []) ∙ or-right (is_among i xs) (nat_eq i i || false) (or-left (nat_eq i i) false (self i))

-- ---- places

abbrev place_if : Bool → ℕ → ℕ
place_if b n = if b then 0 else suc n

there-by : (i x : ℕ) (xs : List ℕ) (b : Bool) → nat_eq i x ≡ b → (b || is_among i xs) ≡ true → (is_among i xs ≡ true → slice_get xs (place_in i xs) ≡ Some i) → slice_get (x ∷ xs) (place_if b (place_in i xs)) ≡ Some i
there-by i x xs true e k next = ap (λ j. Some j) (sym (same i x e))
there-by i x xs false e k next = next k

pub place-there : (i : ℕ) (xs : List ℕ) → is_among i xs ≡ true → slice_get xs (place_in i xs) ≡ Some i
place-there i [] h = absurd (cc)
place-there i (x ∷ xs) h = there-by i x xs (nat_eq i x) refl h (λ k. place-there i xs k)

kept-by : (i : ℕ) (xs ys : List ℕ) (b : Bool) → (b || is_among i xs) ≡ true → (is_among i xs ≡ true → place_in i (xs ++ ys) ≡ place_in i xs) → place_if b (place_in i (xs ++ ys)) ≡ place_if b (place_in i xs)
kept-by i xs ys true k next = refl
kept-by i xs ys false k next = ap suc (next k)

pub place-kept : (i : ℕ) (xs ys : List ℕ) → is_among i xs ≡ true → place_in i (xs ++ ys) ≡ place_in i xs
place-kept i [] ys h = absurd (cc)
place-kept i (x ∷ xs) ys h = kept-by i xs ys (nat_eq i x) h (λ k. place-kept i xs ys k)

pub place-next : (i : ℕ) (xs ys : List ℕ) → is_among i xs ≡ false → place_in i (xs ++ i ∷ ys) ≡ length xs
place-next i [] ys h = ap (λ (b : Bool). place_if b (place_in i ys)) (self i)
place-next i (x ∷ xs) ys h =
    let q = or-false (nat_eq i x) (is_among i xs) h in
    ap (λ (b : Bool). place_if b (place_in i (xs ++ i ∷ ys))) q.0 ∙ ap suc (place-next i xs ys q.1)

-- ---- each stands once

abbrev pub Apart : List ℕ → Type 0
Apart [] = Unit {0}
Apart (x ∷ xs) = (is_among x xs ≡ false) × Apart xs

not-among : (x i : ℕ) (xs : List ℕ) → is_among x xs ≡ false → nat_eq x i ≡ false → is_among x (xs ++ i ∷ []) ≡ false
not-among x i xs h k = among-append x xs (i ∷ []) ∙ ap (λ (b : Bool). b || (nat_eq x i || false)) h ∙ ap (λ (b : Bool). b || false) k

apart-last : (i : ℕ) (xs : List ℕ) → Apart xs → is_among i xs ≡ false → Apart (xs ++ i ∷ [])
apart-last i [] a h = (refl, tt)
apart-last i (x ∷ xs) a h =
    let q = or-false (nat_eq i x) (is_among i xs) h in
    (not-among x i xs a.0 (turned i x q.0), apart-last i xs a.1 q.1)

-- ---- one more, by whether it was there

pub data FirstIs (i : ℕ) (xs : List ℕ) : Type 0 where
  Old : is_among i xs ≡ true → with_first i xs ≡ xs → FirstIs i xs
  New : is_among i xs ≡ false → with_first i xs ≡ xs ++ i ∷ [] → FirstIs i xs

abbrev first_if : Bool → ℕ → List ℕ → List ℕ
first_if b i xs = if b then xs else xs ++ i ∷ []

first-by : (i : ℕ) (xs : List ℕ) (b : Bool) → is_among i xs ≡ b → FirstIs i xs
first-by i xs true h = Old h (ap (λ (b : Bool). first_if b i xs) h)
first-by i xs false h = New h (ap (λ (b : Bool). first_if b i xs) h)

pub first-is : (i : ℕ) (xs : List ℕ) → FirstIs i xs
first-is i xs = first-by i xs (is_among i xs) refl

first-there-by : (i : ℕ) (xs : List ℕ) → FirstIs i xs → is_among i (with_first i xs) ≡ true
first-there-by i xs (Old h e) = ap (is_among i) e ∙ h
first-there-by i xs (New h e) = ap (is_among i) e ∙ among-last i xs

pub first-there : (i : ℕ) (xs : List ℕ) → is_among i (with_first i xs) ≡ true
first-there i xs = first-there-by i xs (first-is i xs)

first-keeps-by : (i j : ℕ) (xs : List ℕ) → FirstIs i xs → is_among j xs ≡ true → is_among j (with_first i xs) ≡ true
first-keeps-by i j xs (Old h e) k = ap (is_among j) e ∙ k
first-keeps-by i j xs (New h e) k = ap (is_among j) e ∙ among-grown j xs (i ∷ []) k

pub first-keeps : (i j : ℕ) (xs : List ℕ) → is_among j xs ≡ true → is_among j (with_first i xs) ≡ true
first-keeps i j xs k = first-keeps-by i j xs (first-is i xs) k

first-apart-by : (i : ℕ) (xs : List ℕ) → FirstIs i xs → Apart xs → Apart (with_first i xs)
first-apart-by i xs (Old h e) a = subst Apart (sym e) a
first-apart-by i xs (New h e) a = subst Apart (sym e) (apart-last i xs a h)

pub first-apart : (i : ℕ) (xs : List ℕ) → Apart xs → Apart (with_first i xs)
first-apart i xs a = first-apart-by i xs (first-is i xs) a

-- what is among it is that, or was there
origin-by : (i j : ℕ) (xs : List ℕ) → FirstIs i xs → (C : Type 0) → is_among j (with_first i xs) ≡ true → (is_among j xs ≡ true → C) → (j ≡ i → C) → C
origin-by i j xs (Old h e) C k f g = f (sym (ap (is_among j) e) ∙ k)
origin-by i j xs (New h e) C k f g =
    or-cases (is_among j xs) (nat_eq j i || false) C (sym (among-append j xs (i ∷ [])) ∙ sym (ap (is_among j) e) ∙ k) f
    (λ l. or-cases (nat_eq j i) false C l (λ m. g (same j i m)) (λ m. absurd (cc)))

pub first-origin : (i j : ℕ) (xs : List ℕ) (C : Type 0) → is_among j (with_first i xs) ≡ true → (is_among j xs ≡ true → C) → (j ≡ i → C) → C
first-origin i j xs C k f g = origin-by i j xs (first-is i xs) C k f g

-- ---- a list begins a longer one

pub record Begins (xs whole : List ℕ) : Type 0 where
  pub rest : List ℕ
  pub is : xs ++ rest ≡ whole

pub begins-itself : (xs : List ℕ) → Begins xs xs
begins-itself xs = record { rest = []; is = append-nil xs }

begins-by : (i : ℕ) (xs whole : List ℕ) → FirstIs i xs → Begins (with_first i xs) whole → Begins xs whole
begins-by i xs whole (Old h e) b = record { rest = b.rest; is = ap (λ (ys : List ℕ). ys ++ b.rest) (sym e) ∙ b.is }
begins-by i xs whole (New h e) b = record { rest = i ∷ b.rest; is = sym (append_assoc xs (i ∷ []) b.rest) ∙ ap (λ (ys : List ℕ). ys ++ b.rest) (sym e) ∙ b.is }

pub begins-first : (i : ℕ) (xs whole : List ℕ) → Begins (with_first i xs) whole → Begins xs whole
begins-first i xs whole b = begins-by i xs whole (first-is i xs) b

pub begins-base : (o : Option ℕ) (xs whole : List ℕ) → Begins (with_base o xs) whole → Begins xs whole
begins-base None xs whole b = b
begins-base (Some i) xs whole b = begins-first i xs whole b

pub begins-members : (ms : List Named) (xs whole : List ℕ) → Begins (with_members ms xs) whole → Begins xs whole
begins-members [] xs whole b = b
begins-members (l ∷ ls) xs whole b = begins-base (base_of l.1) xs whole (begins-members ls (with_base (base_of l.1) xs) whole b)

pub begins-structures : (i : ℕ) (ss : List Structure) (xs whole : List ℕ) → Begins (with_structures i ss xs) whole → Begins xs whole
begins-structures i [] xs whole b = b
begins-structures i (s ∷ ss) xs whole b =
    begins-first i xs whole (begins-members s.members (with_first i xs) whole (begins-structures (suc i) ss (with_members s.members (with_first i xs)) whole b))

-- the place that one has in the whole
pub number-old : (i : ℕ) (xs whole : List ℕ) → Begins xs whole → is_among i xs ≡ true → place_in i whole ≡ place_in i xs
number-old i xs whole b h = ap (place_in i) (sym b.is) ∙ place-kept i xs b.rest h

pub number-new : (i : ℕ) (xs whole : List ℕ) → Begins (xs ++ i ∷ []) whole → is_among i xs ≡ false → place_in i whole ≡ length xs
number-new i xs whole b h = ap (place_in i) (sym b.is ∙ append_assoc xs (i ∷ []) b.rest) ∙ place-next i xs b.rest h

-- ---- a change at a place of a list that is made of an order

module _ {A : Type 0} (f g : ℕ → A) (change : A → A) (k : ℕ) (changed : change (f k) ≡ g k) where
  kept-map : (xs : List ℕ) → is_among k xs ≡ false → ((j : ℕ) → nat_eq k j ≡ false → f j ≡ g j) → map f xs ≡ map g xs
  kept-map [] h e = refl
  kept-map (x ∷ xs) h e =
      let q = or-false (nat_eq k x) (is_among k xs) h in
      ap (λ (y : A). y ∷ map f xs) (e x q.0) ∙ ap (λ (ys : List A). g x ∷ ys) (kept-map xs q.1 e)

  change-by : (x : ℕ) (xs : List ℕ) (b : Bool) → nat_eq k x ≡ b → is_among x xs ≡ false → (b || is_among k xs) ≡ true → ((j : ℕ) → nat_eq k j ≡ false → f j ≡ g j) →
      (is_among k xs ≡ true → change_at (place_in k xs) change (map f xs) ≡ map g xs) → change_at (place_if b (place_in k xs)) change (f x ∷ map f xs) ≡ g x ∷ map g xs
  change-by x xs true c a l e next =
      let is = same k x c in
      ap (λ (ys : List A). change (f x) ∷ ys) (kept-map xs (ap (λ j. is_among j xs) is ∙ a) e)
      ∙ ap (λ (y : A). y ∷ map g xs) (subst (λ j. change (f j) ≡ g j) is changed)
  change-by x xs false c a l e next = ap (λ (y : A). y ∷ change_at (place_in k xs) change (map f xs)) (e x c) ∙ ap (λ (ys : List A). g x ∷ ys) (next l)

  pub change-map : (xs : List ℕ) → Apart xs → is_among k xs ≡ true → ((j : ℕ) → nat_eq k j ≡ false → f j ≡ g j) → change_at (place_in k xs) change (map f xs) ≡ map g xs
  change-map [] a h e = absurd (cc)
  change-map (x ∷ xs) a h e = change-by x xs (nat_eq k x) refl a.0 h e (λ l. change-map xs a.1 l e)
