-- The scalars of a structure stand on the structures before it.
use Rattle.std.proofs.Common.{arith, ◌≡◌, ◌<◌, ◌≤◌, ◌+◌, ℕ, zero, suc, fold, List, [], ◌∷◌, ◌++◌, length, length-append, take, drop, refl, ap, sym, ◌∙◌, Some, None, slice_get}
use Rattle.std.proofs.lemmas.Option.{slice_get_past}
use Rattle.cc_program.specs.declared.types.Structure.{Structure}
use Rattle.cc_program.specs.declared.value.Value.{Value}
use Rattle.cc_typed.proofs.CcSyntax.Prefixes.{take_length}
use Rattle.cc_cells.specs.Scalars.{member_zeros, structure_zeros}

some_same : {A : Type 0} → {x y : A} → Some x ≡ Some y → x ≡ y
some_same h = cc

get_before : {A : Type 0} → (xs ys : List A) (k : ℕ) → k < length xs → slice_get (xs ++ ys) k ≡ slice_get xs k
get_before [] ys k h = absurd (omega (arith, h))
get_before (x ∷ xs) ys zero h = refl
get_before (x ∷ xs) ys (suc k) h = get_before xs ys k (omega (arith, h))

get_at : {A : Type 0} → (xs : List A) (x : A) → slice_get (xs ++ x ∷ []) (length xs) ≡ Some x
get_at [] x = refl
get_at (y ∷ xs) x = get_at xs x

length_more : {A : Type 0} → (xs : List A) (x : A) → length (xs ++ x ∷ []) ≡ length xs + 1
length_more xs x = length-append xs (x ∷ [])

drop_at : {A : Type 0} → (xs : List A) (i : ℕ) (x : A) → slice_get xs i ≡ Some x → drop i xs ≡ x ∷ drop (suc i) xs
drop_at [] i x h = absurd (cc)
drop_at (y ∷ xs) zero x h = ap (λ z. z ∷ xs) (some_same h)
drop_at (y ∷ xs) (suc i) x h = drop_at xs i x h

-- the scalars of structures behind others
abbrev from : List (List Value) → List Structure → List (List Value)
from before structures = fold (λ before s. before ++ member_zeros before s.members ∷ []) before structures

from_keeps : (before : List (List Value)) (structures : List Structure) (k : ℕ) → k < length before → slice_get (from before structures) k ≡ slice_get before k
from_keeps before [] k h = refl
from_keeps before (s ∷ structures) k h =
    let l = member_zeros before s.members in
    let m = length_more before l in
    from_keeps (before ++ l ∷ []) structures k (omega (arith, h, m)) ∙ get_before before (l ∷ []) k h

from-length : (before : List (List Value)) (structures : List Structure) → length (from before structures) ≡ length before + length structures
from-length before [] = omega arith
from-length before (s ∷ structures) =
    let l = member_zeros before s.members in
    let m = length_more before l in
    let r = from-length (before ++ l ∷ []) structures in
    omega (arith, m, r)

from-split : (before : List (List Value)) (structures : List Structure) (i : ℕ) → from before structures ≡ from (from before (take i structures)) (drop i structures)
from-split before [] zero = refl
from-split before [] (suc i) = refl
from-split before (s ∷ structures) zero = refl
from-split before (s ∷ structures) (suc i) = from-split (before ++ member_zeros before s.members ∷ []) structures i

pub zeros-at : (structures : List Structure) (i : ℕ) (s : Structure) → slice_get structures i ≡ Some s →
    slice_get (structure_zeros structures) i ≡ Some (member_zeros (structure_zeros (take i structures)) s.members)
unfolding structure_zeros
zeros-at structures i s h =
    let before = from [] (take i structures) in
    let n : length before ≡ i = from-length [] (take i structures) ∙ omega (arith, take_length structures i s h) in
    let l = member_zeros before s.members in
    let m = length_more before l in
    ap (λ ls. slice_get ls i) (from-split [] structures i ∙ ap (from before) (drop_at structures i s h))
    ∙ from_keeps (before ++ l ∷ []) (drop (suc i) structures) i (omega (arith, m, n))
    ∙ ap (slice_get (before ++ l ∷ [])) (sym n) ∙ get_at before l

pub zeros-past : (structures : List Structure) (i : ℕ) → length structures ≤ i → slice_get (structure_zeros structures) i ≡ None
unfolding structure_zeros
zeros-past structures i h = let n = from-length [] structures in slice_get_past (from [] structures) i (omega (arith, n, h))
