-- The place of a number that stands in a list.
use Rattle.std.proofs.Common.{◌≡◌, ◌∙◌, ◌==◌, ◌||◌, nat_eq, nat_lt, ◌<◌, ◌+◌, ℕ, suc, Bool, true, false, cond, List, [], ◌∷◌, length, Option, Some, None, position, slice_get, unwrap_or, refl, ap, sym, arith}
use Rattle.std.specs.List.{position_or_len}
use Rattle.std.proofs.lemmas.Bool.Decides.{nat_tests}
use Rattle.std.proofs.lemmas.Option.{slice_get_within, same_Some}
use Rattle.cc_plan_legal.specs.Legality.{is_among}

same_number : (a b : ℕ) → (a == b) ≡ true → a ≡ b
same_number a b h = grind (arith, nat_tests)

is_equal : (a b : ℕ) → a ≡ b → nat_eq b a ≡ true
is_equal a b h = grind (arith, nat_tests)

no_equal : (a b : ℕ) → (a == b) ≡ false → nat_eq b a ≡ false
no_equal a b h = grind (arith, nat_tests)

is_lt : (a b : ℕ) → a < b → nat_lt a b ≡ true
is_lt a b h = grind (arith, nat_tests)

-- where it stands first
there_first : (n : ℕ) (list : List ℕ) → is_among list n ≡ true → slice_get list (position_or_len (nat_eq n) list) ≡ Some n
there_first n [] h = absurd (cc)
there_first n (m ∷ more) h = by (m == n) refl h (λ k. there_first n more k)
  where
    past : slice_get more (position_or_len (nat_eq n) more) ≡ Some n → slice_get (m ∷ more) (1 + position_or_len (nat_eq n) more) ≡ Some n
    past e = let f : 1 + position_or_len (nat_eq n) more ≡ suc (position_or_len (nat_eq n) more) = omega arith in ap (slice_get (m ∷ more)) f ∙ e

    by : (b : Bool) → (m == n) ≡ b → b || is_among more n ≡ true → (is_among more n ≡ true → slice_get more (position_or_len (nat_eq n) more) ≡ Some n) → slice_get (m ∷ more) (position_or_len (nat_eq n) (m ∷ more)) ≡ Some n
    by true t k rest = let e = same_number m n t in let f = is_equal m n e in rw f (ap Some e)
    by false t k rest = let f = no_equal m n t in rw f (past (rest k))

pub there : (n : ℕ) (list : List ℕ) → is_among list n ≡ true → slice_get list (unwrap_or (position (nat_eq n) list) 0) ≡ Some n
there n list h =
    let first = there_first n list h in
    let within = is_lt (position_or_len (nat_eq n) list) (length list) (slice_get_within list (position_or_len (nat_eq n) list) n first) in
    let at : position (nat_eq n) list ≡ Some (position_or_len (nat_eq n) list) = ap (λ (b : Bool). cond b (Some (position_or_len (nat_eq n) list)) None) within in
    ap (λ (o : Option ℕ). slice_get list (unwrap_or o 0)) at ∙ first

-- numbers that stand there are told apart by their places
pub one : (n m : ℕ) (list : List ℕ) → is_among list n ≡ true → is_among list m ≡ true → unwrap_or (position (nat_eq n) list) 0 ≡ unwrap_or (position (nat_eq m) list) 0 → n ≡ m
one n m list h k e = same_Some n m (sym (there n list h) ∙ ap (slice_get list) e ∙ there m list k)
