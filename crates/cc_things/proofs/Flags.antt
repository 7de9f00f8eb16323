-- Flags of the numbers that stand in a list, one number after the other.
use Rattle.std.proofs.Common.{◌≡◌, ◌∙◌, ◌+◌, ◌<◌, ◌≤◌, ◌⊎◌, inl, inr, ℕ, zero, suc, Bool, true, false, List, [], ◌∷◌, length, get_or, set, take, refl, ap, sym, arith}
use Rattle.std.specs.List.{list_any}
use Rattle.std.specs.Prelude.{nat_eq, ◌||◌}
use Rattle.std.proofs.lemmas.Bool.{cases_eq, eq-eqb, ne_eqb, or_right}
use Rattle.std.proofs.lemmas.List.Folds.{list_any_more}

pub record Flagged (count done : ℕ) (numbers : List ℕ) (flags : List Bool) : Type 0 where
  pub stays : length flags ≡ count
  pub flagged : (i : ℕ) → i < count → get_or flags i false ≡ list_any (nat_eq i) (take done numbers)

pub set-past : {X : Type 0} (xs : List X) (n : ℕ) (x : X) → length xs ≤ n → set xs n x ≡ xs
set-past [] n x h = refl
set-past (y ∷ ys) zero x h = absurd (omega (arith, h))
set-past (y ∷ ys) (suc n) x h = ap (λ zs. y ∷ zs) (set-past ys n x (omega (arith, h)))

pub length-set_at : {X : Type 0} (xs : List X) (n : ℕ) (x : X) → length (set xs n x) ≡ length xs
length-set_at [] n x = refl
length-set_at (y ∷ ys) zero x = refl
length-set_at (y ∷ ys) (suc n) x = ap suc (length-set_at ys n x)

set-here : (xs : List Bool) (n : ℕ) (x d : Bool) → n < length xs → get_or (set xs n x) n d ≡ x
set-here [] n x d h = absurd (omega (arith, h))
set-here (y ∷ ys) zero x d h = refl
set-here (y ∷ ys) (suc n) x d h = set-here ys n x d (omega (arith, h))

set-there : (xs : List Bool) (n i : ℕ) (x d : Bool) → (i ≡ n → ⊥) → get_or (set xs n x) i d ≡ get_or xs i d
set-there [] n i x d h = refl
set-there (y ∷ ys) zero zero x d h = absurd (h refl)
set-there (y ∷ ys) zero (suc i) x d h = refl
set-there (y ∷ ys) (suc n) zero x d h = refl
set-there (y ∷ ys) (suc n) (suc i) x d h = set-there ys n i x d (λ e. h (ap suc e))

or-false : (a : Bool) → (a || false) ≡ a
or-false true = refl
or-false false = refl

-- a number more
pub flagged-more : (count done n : ℕ) (numbers : List ℕ) (flags : List Bool) → Flagged count done numbers flags → done < length numbers → n ≡ get_or numbers done 0 → Flagged count (done + 1) numbers (set flags n true)
flagged-more count done n numbers flags h within is = record {
  stays = length-set_at flags n true ∙ h.stays;
  flagged = λ i low. by i low (cases_eq i n);
}
  where
    by : (i : ℕ) → i < count → (i ≡ n) ⊎ (i ≡ n → ⊥) → get_or (set flags n true) i false ≡ list_any (nat_eq i) (take (done + 1) numbers)
    by i low (inl same) =
        let stays = h.stays in
        let here : get_or (set flags n true) i false ≡ true = ap (λ k. get_or (set flags n true) k false) same ∙ set-here flags n true false (omega (arith, low, same, stays)) in
        here ∙ sym (list_any_more (nat_eq i) numbers done 0 within ∙ or_right (list_any (nat_eq i) (take done numbers)) (nat_eq i (get_or numbers done 0)) (eq-eqb i (get_or numbers done 0) (same ∙ is)))
    by i low (inr apart) =
        set-there flags n i true false apart ∙ (h.flagged i low
        ∙ sym (list_any_more (nat_eq i) numbers done 0 within ∙ (ap (λ b. list_any (nat_eq i) (take done numbers) || b) (ne_eqb i (get_or numbers done 0) (λ e. apart (e ∙ sym is))) ∙ or-false (list_any (nat_eq i) (take done numbers)))))

pub flagged-none : (count : ℕ) (numbers : List ℕ) (flags : List Bool) → length flags ≡ count → ((i : ℕ) → i < count → get_or flags i false ≡ false) → Flagged count 0 numbers flags
flagged-none count numbers flags h none = record { stays = h; flagged = none }

pub ruleset of_flags = (flagged-more, flagged-none, set-past, length-set_at)
