-- The chain keeps the laws of a system. A constraint that raises the facts makes one part yes, so the only
-- constraint that facts may meet before and not behind it is the one about the part before.
use Rattle.std.specs.Prelude.{ℕ, zero, suc, ◌+◌, ◌<◌, ◌≡◌, ◌⊎◌, List, [], ◌∷◌, ◌++◌, length, All, Some, cond, count_by, slice_get, slice_set, refl}
use Rattle.std.specs.List.{AllZip, AllByRecursion, Contains}
use Rattle.std.proofs.lemmas.List.Recursion.{is_count_by}
use Rattle.std.proofs.Common.{true, false, true≢false, inl, inr, ⊎_elim, sym, ap, ◌∙◌, arith, length-append, add-one}
use Rattle.cc_lattice.specs.declared.table.Table.{Table}
use Rattle.cc_lattice.specs.Tables.{HaveOneShape}
use Rattle.cc_lattice.specs.Systems.{MeetsAll, IsRaised}
use Rattle.cases_domains.specs.declared.chain.Truth.{Truth}
use Rattle.cases_domains.specs.declared.chain.Truth.TheVariants.{No, Yes}
use Rattle.cases_domains.specs.Chain.{IsBelowTruth, numbers, IsChain, turned, IsAsked, AsksYes, before, is_no}

abbrev pub Both : Truth → Truth → Type 0
Both x y = Unit {0}

abbrev pub IsBelowChain : Table ℕ Truth → Table ℕ Truth → Type 0
IsBelowChain f g = (f.keys ≡ g.keys) × AllZip IsBelowTruth f.parts g.parts

-- the order of no and yes

pub truth_itself : (x : Truth) → IsBelowTruth x x
truth_itself No = tt
truth_itself Yes = tt

pub truth_through : (x y z : Truth) → IsBelowTruth x y → IsBelowTruth y z → IsBelowTruth x z
truth_through No y z a b = tt
truth_through Yes Yes z a b = b
truth_through Yes No z a b = absurd a

pub truth_same : (x y : Truth) → IsBelowTruth x y → IsBelowTruth y x → x ≡ y
truth_same No No a b = refl
truth_same No Yes a b = absurd b
truth_same Yes No a b = absurd a
truth_same Yes Yes a b = refl

-- facts of the chain are of one kind

pub length-numbers : (n : ℕ) → length (numbers n) ≡ n
unfolding numbers
length-numbers zero = refl
length-numbers (suc n) = let h = length-numbers n in omega (arith, length-append (numbers n) (n ∷ []))

zip_any : (xs ys : List Truth) → length xs ≡ length ys → AllZip Both xs ys
zip_any [] [] h = tt
zip_any [] (y ∷ ys) h = absurd (omega arith)
zip_any (x ∷ xs) [] h = absurd (omega arith)
zip_any (x ∷ xs) (y ∷ ys) h = (tt, zip_any xs ys (omega arith))

pub chains_alike : (f g : Table ℕ Truth) → IsChain f → IsChain g → HaveOneShape Both f g
chains_alike f g h k = record {
  keys = h.keys ∙ sym k.keys;
  one_each = ap length h.keys ∙ (length-numbers 1000 ∙ sym h.parts);
  parts = zip_any f.parts g.parts (h.parts ∙ sym k.parts);
}

-- what is asked of less is asked of more

pub yes_more : (xs ys : List Truth) (k : ℕ) → AllZip IsBelowTruth xs ys → slice_get xs k ≡ Some Yes → slice_get ys k ≡ Some Yes
yes_more [] ys k h e = cc
yes_more (x ∷ xs) [] k h e = absurd h
yes_more (No ∷ xs) (y ∷ ys) zero h e = cc
yes_more (Yes ∷ xs) (Yes ∷ ys) zero h e = refl
yes_more (Yes ∷ xs) (No ∷ ys) zero h e = absurd h.0
yes_more (x ∷ xs) (y ∷ ys) (suc k) h e = yes_more xs ys k h.1 e

pub asked_more : (j : ℕ) (xs ys : List Truth) → AllZip IsBelowTruth xs ys → IsAsked j xs → IsAsked j ys
asked_more j xs ys h (inl e) = inl e
asked_more j xs ys h (inr e) = inr (yes_more xs ys (j + 1) h e)

-- one part is made yes

pub below_all : (xs : List Truth) → AllZip IsBelowTruth xs xs
below_all [] = tt
below_all (x ∷ xs) = (truth_itself x, below_all xs)

pub below_set : (xs : List Truth) (j : ℕ) → AllZip IsBelowTruth xs (slice_set xs j Yes)
below_set [] j = tt
below_set (No ∷ xs) zero = (tt, below_all xs)
below_set (Yes ∷ xs) zero = (tt, below_all xs)
below_set (x ∷ xs) (suc j) = (truth_itself x, below_set xs j)

pub yes_set : (xs : List Truth) (j : ℕ) → j < length xs → slice_get (slice_set xs j Yes) j ≡ Some Yes
yes_set [] j h = absurd (omega arith)
yes_set (x ∷ xs) zero h = refl
yes_set (x ∷ xs) (suc j) h = yes_set xs j (omega arith)

pub set_least : (xs ys : List Truth) (j : ℕ) → AllZip IsBelowTruth xs ys → slice_get ys j ≡ Some Yes → AllZip IsBelowTruth (slice_set xs j Yes) ys
set_least [] ys j h e = h
set_least (x ∷ xs) [] j h e = absurd h
set_least (x ∷ xs) (Yes ∷ ys) zero h e = (tt, h.1)
set_least (x ∷ xs) (No ∷ ys) zero h e = cc
set_least (x ∷ xs) (y ∷ ys) (suc j) h e = (h.0, set_least xs ys j h.1 e)

abbrev noes : List Truth → ℕ
noes [] = 0
noes (No ∷ xs) = suc (noes xs)
noes (Yes ∷ xs) = noes xs

count_step : (x : Truth) (xs : List Truth) → noes (x ∷ xs) ≡ cond (is_no x) (1 + noes xs) (noes xs)
count_step No xs = omega arith
count_step Yes xs = refl

count_is : (xs : List Truth) → noes xs ≡ count_by is_no xs
count_is = is_count_by noes is_no refl count_step

noes_set : (xs : List Truth) (j : ℕ) → slice_get xs j ≡ Some No → noes (slice_set xs j Yes) < noes xs
noes_set [] j e = cc
noes_set (No ∷ xs) zero e = omega arith
noes_set (Yes ∷ xs) zero e = cc
noes_set (No ∷ xs) (suc j) e = let h = noes_set xs j e in omega arith
noes_set (Yes ∷ xs) (suc j) e = noes_set xs j e

pub fewer_noes : (xs : List Truth) (j : ℕ) → slice_get xs j ≡ Some No → count_by is_no (slice_set xs j Yes) < count_by is_no xs
fewer_noes xs j e = let h = noes_set xs j e in rw (← count_is (slice_set xs j Yes), ← count_is xs) h

-- a part that is there and not yes is no
pub no_unless_yes : (xs : List Truth) (j : ℕ) → j < length xs → (slice_get xs j ≡ Some Yes → ⊥) → slice_get xs j ≡ Some No
no_unless_yes [] j h other = absurd (omega arith)
no_unless_yes (No ∷ xs) zero h other = refl
no_unless_yes (Yes ∷ xs) zero h other = absurd (other refl)
no_unless_yes (x ∷ xs) (suc j) h other = no_unless_yes xs j (omega arith) other

-- where all parts are no
pub all_no_below : (xs ys : List Truth) → AllByRecursion (λ x. x ≡ No) xs → length xs ≡ length ys → AllZip IsBelowTruth xs ys
all_no_below [] [] h e = tt
all_no_below [] (y ∷ ys) h e = absurd (omega arith)
all_no_below (x ∷ xs) [] h e = absurd (omega arith)
all_no_below (No ∷ xs) (y ∷ ys) h e = (tt, all_no_below xs ys h.1 (omega arith))
all_no_below (Yes ∷ xs) (y ∷ ys) h e = let no_is : Yes ≡ No = h.0 in cc

pub numbers_more : (n : ℕ) → numbers (n + 1) ≡ numbers n ++ n ∷ []
unfolding numbers
numbers_more n = rw add-one refl

pub numbers_none : numbers 0 ≡ []
unfolding numbers
numbers_none = refl

other_set : (xs : List Truth) (j k : ℕ) → (j ≡ k) ⊎ (slice_get (slice_set xs j Yes) k ≡ slice_get xs k)
other_set [] j k = inr refl
other_set (x ∷ xs) zero zero = inl refl
other_set (x ∷ xs) zero (suc k) = inr refl
other_set (x ∷ xs) (suc j) zero = inr refl
other_set (x ∷ xs) (suc j) (suc k) = ⊎_elim (λ e. inl (ap suc e)) inr (other_set xs j k)

-- which constraints are listed again

pub before_counts : (j : ℕ) → All (λ k. k < 1000) (before j)
before_counts zero = λ k d h. absurd (omega arith)
before_counts (suc j) = one
  where
    one : All (λ k. k < 1000) (turned j ∷ [])
    one zero d h = omega arith
    one (suc k) d h = absurd (omega arith)

turned_twice : (k : ℕ) → k < 1000 → turned (turned k) ≡ k
turned_twice k h = omega arith

before_lists : (i k : ℕ) → k < 1000 → i ≡ turned k + 1 → Contains (before i) k
before_lists zero k h e = absurd (omega arith)
before_lists (suc i) k h e = (0, omega arith, ap turned (omega arith) ∙ turned_twice k h)

-- the facts with one part made yes
abbrev with_yes : Table ℕ Truth → ℕ → Table ℕ Truth
with_yes f j = record { keys = f.keys; parts = slice_set f.parts j Yes }

length-slice_set : (xs : List Truth) (j : ℕ) → length (slice_set xs j Yes) ≡ length xs
length-slice_set [] j = refl
length-slice_set (x ∷ xs) zero = refl
length-slice_set (x ∷ xs) (suc j) = ap suc (length-slice_set xs j)

-- what a part that is yes in the raised facts was, or which it is
raised_part : (i k : ℕ) (f g : Table ℕ Truth) → IsChain f → IsRaised IsChain IsBelowChain (AsksYes i) f g
    → slice_get g.parts k ≡ Some Yes → (slice_get f.parts k ≡ Some Yes) ⊎ (turned i ≡ k)
raised_part i k f g chain raised made =
    let j = turned i in
    let small : turned i < length f.parts = omega (arith, chain.parts) in
    let h = with_yes f j in
    let fits : IsChain h = record { keys = chain.keys; parts = length-slice_set f.parts j ∙ chain.parts } in
    let below : IsBelowChain g h = raised.least h fits (refl, below_set f.parts j) (λ asked. yes_set f.parts j small) in
    let there : slice_get (slice_set f.parts j Yes) k ≡ Some Yes = yes_more g.parts h.parts k below.1 made in
    ⊎_elim (λ e. inr e) (λ e. inl (sym e ∙ there)) (other_set f.parts j k)

decided : (m n : ℕ) → (m ≡ n) ⊎ (m ≡ n → ⊥)
decided zero zero = inl refl
decided zero (suc n) = inr (λ e. absurd (omega arith))
decided (suc m) zero = inr (λ e. absurd (omega arith))
decided (suc m) (suc n) = ⊎_elim (λ e. inl (ap suc e)) (λ h. inr (λ e. h (omega arith))) (decided m n)

-- what is asked of the raised facts was asked before, unless the part behind was made yes
asked_before : (i k : ℕ) (f g : Table ℕ Truth) → IsChain f → IsRaised IsChain IsBelowChain (AsksYes i) f g → (turned i ≡ turned k + 1 → ⊥)
    → IsAsked (turned k) g.parts → IsAsked (turned k) f.parts
asked_before i k f g chain raised other (inl e) = inl e
asked_before i k f g chain raised other (inr there) = ⊎_elim (λ e. inr e) (λ e. absurd (other e)) (raised_part i (turned k + 1) f g chain raised there)

-- none settles
pub never_settles : {A : Type 0} → false ≡ true → A
never_settles none = absurd (true≢false (sym none))

pub chain_lists : (i k : ℕ) (f g : Table ℕ Truth) → k < 1000 → IsChain f
    → IsRaised IsChain IsBelowChain (AsksYes i) f g → AsksYes k f f → AsksYes k g g ⊎ Contains (before (turned i)) k
chain_lists i k f g small chain raised met = ⊎_elim
    (λ e. inr (before_lists (turned i) k small e))
    (λ other. inl (λ asked. yes_more f.parts g.parts (turned k) raised.above.1 (met (asked_before i k f g chain raised other asked))))
    (decided (turned i) (turned k + 1))
