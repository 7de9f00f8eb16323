-- The registers of a function stand at one place each among its registers, and each that has a number is one.
use Rattle.std.proofs.Common.{arith, ◌≡◌, ◌≤◌, ◌<◌, ◌+◌, ℕ, zero, suc, Bool, true, false, true≢false, not, nat_lt, List, [], ◌∷◌, ◌++◌, length, Some, None, slice_get, refl, ap, sym, ◌∙◌}
use Rattle.std.specs.Prelude.{◌==◌, position, if◌then◌else◌}
use Rattle.std.specs.List.{position_or_len}
use Rattle.std.proofs.lemmas.Bool.{eq-eqb}
use Rattle.std.proofs.lemmas.Option.{same_Some, slice_get_within}
use Rattle.cc_program.specs.declared.func.Func.{Func}
use Rattle.cc_proof_rules.proofs.Arrivals.{register_there}
use Rattle.cc_rules.specs.CcStateKeys.Lists.{only_if, made_from}
use Rattle.cc_rules.specs.CcStateKeys.Tracked.{registers, register_number}
use Rattle.cc_state_values_sound.specs.CcSyntax.Registers.{is_register}
use Rattle.cc_state_values_sound.specs.CcSyntax.Types.{Named}

-- ---- the numbers of things that pass

module _ {A : Type 0} (passes : ℕ → A → Bool) where
  abbrev made : ℕ → List A → List ℕ
  made n xs = made_from passes (λ m. m) n xs

  low_by : (n i a : ℕ) (rest : List ℕ) → ((j : ℕ) → slice_get rest j ≡ Some a → n + 1 ≤ a) → (b : Bool) → slice_get (only_if b n ++ rest) i ≡ Some a → n ≤ a
  low_by n zero a rest more true e = let s = same_Some n a e in omega (arith, s)
  low_by n (suc i) a rest more true e = let l = more i e in omega (arith, l)
  low_by n i a rest more false e = let l = more i e in omega (arith, l)

  low : (n : ℕ) (xs : List A) (i a : ℕ) → slice_get (made n xs) i ≡ Some a → n ≤ a
  low n [] i a e = absurd (cc)
  low n (x ∷ xs) i a e = low_by n i a (made (n + 1) xs) (λ j g. low (n + 1) xs j a g) (passes n x) e

  one_by : (n i j a : ℕ) (rest : List ℕ) → ((k : ℕ) → slice_get rest k ≡ Some a → n + 1 ≤ a) → ((k l : ℕ) → slice_get rest k ≡ Some a → slice_get rest l ≡ Some a → k ≡ l) → (b : Bool) →
      slice_get (only_if b n ++ rest) i ≡ Some a → slice_get (only_if b n ++ rest) j ≡ Some a → i ≡ j
  one_by n zero zero a rest above same true e g = refl
  one_by n zero (suc j) a rest above same true e g = absurd (let s = same_Some n a e in let l = above j g in omega (arith, s, l))
  one_by n (suc i) zero a rest above same true e g = absurd (let s = same_Some n a g in let l = above i e in omega (arith, s, l))
  one_by n (suc i) (suc j) a rest above same true e g = ap (λ (k : ℕ). suc k) (same i j e g)
  one_by n i j a rest above same false e g = same i j e g

  -- each stands once
  one_place : (n : ℕ) (xs : List A) (i j a : ℕ) → slice_get (made n xs) i ≡ Some a → slice_get (made n xs) j ≡ Some a → i ≡ j
  one_place n [] i j a e g = absurd (cc)
  one_place n (x ∷ xs) i j a e g = one_by n i j a (made (n + 1) xs) (λ k h. low (n + 1) xs k a h) (λ k l h m. one_place (n + 1) xs k l a h m) (passes n x) e g

-- and each of them passes a test of its number
passing_by : (test : ℕ → Bool) (n i a : ℕ) (rest : List ℕ) → ((j : ℕ) → slice_get rest j ≡ Some a → test a ≡ true) → (b : Bool) → test n ≡ b → slice_get (only_if b n ++ rest) i ≡ Some a → test a ≡ true
passing_by test n zero a rest more true h e = ap test (sym (same_Some n a e)) ∙ h
passing_by test n (suc i) a rest more true h e = more i e
passing_by test n i a rest more false h e = more i e

passing : {A : Type 0} (test : ℕ → Bool) (n : ℕ) (xs : List A) (i a : ℕ) → slice_get (made_from (λ m (x : A). test m) (λ m. m) n xs) i ≡ Some a → test a ≡ true
passing test n [] i a e = absurd (cc)
passing {A = A} test n (x ∷ xs) i a e = passing_by test n i a (made_from (λ m (y : A). test m) (λ m. m) (n + 1) xs) (λ j g. passing test (n + 1) xs j a g) (test n) refl e

-- ---- the first place at which a test passes

first_by : (b : Bool) (n : ℕ) → b ≡ true → (if not b then 1 + n else 0) ≤ 0
first_by true n e = omega arith
first_by false n e = absurd (true≢false (sym e))

later_by : (b : Bool) (n k : ℕ) → n ≤ k → (if not b then 1 + n else 0) ≤ suc k
later_by true n k h = omega arith
later_by false n k h = omega (arith, h)

not_behind : {A : Type 0} (test : A → Bool) (xs : List A) (k : ℕ) (x : A) → slice_get xs k ≡ Some x → test x ≡ true → position_or_len test xs ≤ k
not_behind test [] k x e t = absurd (cc)
not_behind test (y ∷ ys) zero x e t = first_by (test y) (position_or_len test ys) (ap test (same_Some y x e) ∙ t)
not_behind test (y ∷ ys) (suc k) x e t = later_by (test y) (position_or_len test ys) k (not_behind test ys k x e t)

less_true : (m n : ℕ) → m < n → nat_lt m n ≡ true
less_true m n h = grind (arith, h)

position_there : (xs : List ℕ) (k x : ℕ) → slice_get xs k ≡ Some x → (n : ℕ) × (position (λ y. y == x) xs ≡ Some n)
position_there xs k x e =
    let le = not_behind (λ (y : ℕ). y == x) xs k x e (eq-eqb x x refl) in
    let lt = slice_get_within xs k x e in
    let within : position_or_len (λ (y : ℕ). y == x) xs < length xs = omega (arith, le, lt) in
    (position_or_len (λ (y : ℕ). y == x) xs, ap (λ (b : Bool). if b then Some (position_or_len (λ (y : ℕ). y == x) xs) else None) (less_true (position_or_len (λ (y : ℕ). y == x) xs) (length xs) within))

-- ---- registers

pub register_at : (f : Func) (number r : ℕ) → slice_get (registers f) number ≡ Some r → register_number f r ≡ Some number
register_at f number r e =
    let w = position_there (registers f) number r e in
    w.1 ∙ ap Some (one_place (λ q (l : Named). is_register f q) 0 f.locals w.0 number r (register_there f r w.0 w.1) e)

pub register_is : (f : Func) (r number : ℕ) → register_number f r ≡ Some number → is_register f r ≡ true
register_is f r number e = passing (λ q. is_register f q) 0 f.locals number r (register_there f r number e)
