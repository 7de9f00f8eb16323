-- The registers of a function stand at one place each among its registers.
use Rattle.std.proofs.Common.{arith, ◌≡◌, ◌≤◌, ◌+◌, ℕ, zero, suc, Bool, true, false, List, [], ◌∷◌, ◌++◌, Some, slice_get, refl, ap, ◌∙◌}
use Rattle.std.proofs.lemmas.Option.{same_Some}
use Rattle.cc_program.specs.declared.func.Func.{Func}
use Rattle.cc_state_points.proofs.CcState.Lists.{number_at, number_there}
use Rattle.cc_rules.specs.CcStateKeys.Lists.{only_if, made_from}
use Rattle.cc_rules.specs.CcStateKeys.Tracked.{registers, register_number}
use Rattle.cc_rules.specs.CcSyntax.Registers.{is_register}
use Rattle.cc_rules.specs.CcSyntax.Types.{Named}

-- ---- the numbers of things that pass

module _ {A : Type 0} (passes : ℕ → A → Bool) where
  abbrev made : ℕ → List A → List ℕ
  made n xs = made_from passes (λ m. m) n xs

  low_by : (n i a : ℕ) (rest : List ℕ) → ((j : ℕ) → slice_get rest j ≡ Some a → n + 1 ≤ a) → (b : Bool) → slice_get (only_if b n ++ rest) i ≡ Some a → n ≤ a
  low_by n zero a rest more true e = let s = same_Some n a e in omega (arith, s)
  low_by n (suc i) a rest more true e = let l = more i e in omega (arith, l)
  low_by n i a rest more false e = let l = more i e in omega (arith, l)

  low : (n : ℕ) (xs : List A) (i a : ℕ) → slice_get (made n xs) i ≡ Some a → n ≤ a
  low n [] i a e = absurd (cc)
  low n (x ∷ xs) i a e = low_by n i a (made (n + 1) xs) (λ j g. low (n + 1) xs j a g) (passes n x) e

  one_by : (n i j a : ℕ) (rest : List ℕ) → ((k : ℕ) → slice_get rest k ≡ Some a → n + 1 ≤ a) → ((k l : ℕ) → slice_get rest k ≡ Some a → slice_get rest l ≡ Some a → k ≡ l) → (b : Bool) →
      slice_get (only_if b n ++ rest) i ≡ Some a → slice_get (only_if b n ++ rest) j ≡ Some a → i ≡ j
  one_by n zero zero a rest above same true e g = refl
  one_by n zero (suc j) a rest above same true e g = absurd (let s = same_Some n a e in let l = above j g in omega (arith, s, l))
  one_by n (suc i) zero a rest above same true e g = absurd (let s = same_Some n a g in let l = above i e in omega (arith, s, l))
  one_by n (suc i) (suc j) a rest above same true e g = ap (λ (k : ℕ). suc k) (same i j e g)
  one_by n i j a rest above same false e g = same i j e g

  -- each stands once
  one_place : (n : ℕ) (xs : List A) (i j a : ℕ) → slice_get (made n xs) i ≡ Some a → slice_get (made n xs) j ≡ Some a → i ≡ j
  one_place n [] i j a e g = absurd (cc)
  one_place n (x ∷ xs) i j a e g = one_by n i j a (made (n + 1) xs) (λ k h. low (n + 1) xs k a h) (λ k l h m. one_place (n + 1) xs k l a h m) (passes n x) e g

-- ---- registers

pub register_there : (f : Func) (r number : ℕ) → register_number f r ≡ Some number → slice_get (registers f) number ≡ Some r
register_there f r number e = number_at (registers f) r number e

pub register_at : (f : Func) (number r : ℕ) → slice_get (registers f) number ≡ Some r → register_number f r ≡ Some number
register_at f number r e =
    let w = number_there (registers f) r (number, e) in
    w.1 ∙ ap Some (one_place (λ q (l : Named). is_register f q) 0 f.locals w.0 number r (register_there f r w.0 w.1) e)
