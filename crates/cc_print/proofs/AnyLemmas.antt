-- A loop that stops at the first element which passes a test.
use Rattle.std.proofs.Common.{arith, ◌≡◌, ◌<◌, ℕ, zero, suc, Bool, true, false, ◌||◌, List, [], ◌∷◌, map, length, get_or, refl, ap, sym, ◌∙◌}
use Rattle.cc_print.specs.Units.{any_true}

or_true : (a b : Bool) → true ≡ b → true ≡ (a || b)
or_true true b h = refl
or_true false b h = h

any_at : {A : Type 0} (f : A → Bool) (xs : List A) (i : ℕ) (x : A) → i < length xs → x ≡ get_or xs i x → true ≡ f x → true ≡ any_true (map f xs)
any_at f [] i x l e h = absurd (omega (arith, l))
any_at f (y ∷ xs) zero x l e h = h ∙ ap f e ∙ first (f y) (any_true (map f xs)) (h ∙ ap f e)
  where
    first : (a b : Bool) → true ≡ a → a ≡ (a || b)
    first true b k = refl
    first false b k = absurd (cc)
any_at f (y ∷ xs) (suc i) x l e h = or_true (f y) (any_true (map f xs)) (any_at f xs i x (omega (arith, l)) e h)

-- of a list that is another's
pub any_in : {A : Type 0} (f : A → Bool) (xs ys : List A) (i : ℕ) (x : A) (found : Bool) → ys ≡ xs → i < length ys → x ≡ get_or ys i x → found ≡ f x → found ≡ true → true ≡ any_true (map f xs)
any_in f xs ys i x found same l e h is = any_at f ys i x l e (sym is ∙ h) ∙ ap (λ zs. any_true (map f zs)) same
