-- Marks that a loop sets, and what they tell.
use Rattle.std.proofs.Common.{◌≡◌, ◌<◌, ◌+◌, ◌++◌, ◌⊎◌, inl, inr, ℕ, zero, suc, Bool, true, false, List, [], ◌∷◌, length, get_or, take, refl, ap, sym, ◌∙◌, arith, set, replicate}
use Rattle.std.specs.Prelude.{◌≢◌, nat_eq, ◌||◌, slice_get}
use Rattle.std.proofs.lemmas.Bool.Decides.{eqb_tells}
use Rattle.std.proofs.lemmas.List.{get_or-set_same, get_or-set_other, length-set, length-replicate, take_more, take_all, replicate_more}
use Rattle.std.proofs.lemmas.Grind.{fold-append}
use Rattle.cc_registers.specs.Kept.{if_kept}
use Rattle.cc_registers.specs.Marks.{with_mark, with_marks, marks_of}
use Rattle.cc_registers.specs.Taken.{among}

pub unmarked-more : (n : ℕ) (b : Bool) → replicate (n + 1) b ≡ replicate n b ++ b ∷ []
unmarked-more n b = sym (replicate_more n b)

pub marks-more : (marks : List Bool) (xs : List ℕ) (i d : ℕ) → i < length xs → with_marks marks (take (i + 1) xs) ≡ with_mark (with_marks marks (take i xs)) (get_or xs i d)
marks-more marks xs i d h = ap (with_marks marks) (take_more xs i d h) ∙ fold-append with_mark marks (take i xs) (get_or xs i d ∷ [])

pub ruleset of_marks = (unmarked-more, marks-more, take_all)

got-or : (xs : List Bool) (i : ℕ) → if_kept (slice_get xs i) ≡ get_or xs i false
got-or [] i = refl
got-or (x ∷ xs) zero = refl
got-or (x ∷ xs) (suc i) = got-or xs i

unmarked-at : (n i : ℕ) → get_or (replicate n false) i false ≡ false
unmarked-at zero i = refl
unmarked-at (suc n) zero = refl
unmarked-at (suc n) (suc i) = unmarked-at n i

marked-at : (marks : List Bool) (x i : ℕ) → i < length marks → get_or (set marks x true) i false ≡ (get_or marks i false || nat_eq x i)
marked-at marks x i h = by (eqb_tells x i)
  where
    or-true : (b : Bool) → true ≡ (b || true)
    or-true true = refl
    or-true false = refl

    or-false : (b : Bool) → b ≡ (b || false)
    or-false true = refl
    or-false false = refl

    other : x ≢ i → i ≢ x
    other apart same = apart (sym same)

    by : ((nat_eq x i ≡ true) × (x ≡ i)) ⊎ ((nat_eq x i ≡ false) × (x ≢ i)) → get_or (set marks x true) i false ≡ (get_or marks i false || nat_eq x i)
    by (inl (t, same)) = ap (λ j. get_or (set marks j true) i false) same ∙ get_or-set_same marks i true false h ∙ or-true (get_or marks i false) ∙ ap (λ b. get_or marks i false || b) (sym t)
    by (inr (f, apart)) = get_or-set_other marks x i true false (other apart) ∙ or-false (get_or marks i false) ∙ ap (λ b. get_or marks i false || b) (sym f)

or-assoc : (a b c : Bool) → ((a || b) || c) ≡ (a || (b || c))
or-assoc true b c = refl
or-assoc false b c = refl

or-none : (b : Bool) → b ≡ (b || false)
or-none true = refl
or-none false = refl

marked-all : (list : List ℕ) (marks : List Bool) (i : ℕ) → i < length marks → get_or (with_marks marks list) i false ≡ (get_or marks i false || among list i)
marked-all [] marks i h = or-none (get_or marks i false)
marked-all (x ∷ list) marks i h =
    let inside : i < length (set marks x true) = omega (arith, h, length-set marks x true) in
    marked-all list (set marks x true) i inside ∙ ap (λ b. b || among list i) (marked-at marks x i h) ∙ or-assoc (get_or marks i false) (nat_eq x i) (among list i)

-- a mark is that of what the list has
pub marks-are : (n : ℕ) (list : List ℕ) (i : ℕ) → i < n → if_kept (slice_get (marks_of n list) i) ≡ among list i
marks-are n list i h =
    let inside : i < length (replicate n false) = omega (arith, h, length-replicate n false) in
    got-or (marks_of n list) i ∙ marked-all list (replicate n false) i inside ∙ ap (λ b. b || among list i) (unmarked-at n i)
