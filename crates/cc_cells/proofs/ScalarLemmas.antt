-- Lists of scalars, as far as a loop has come.
use Rattle.std.proofs.lemmas.List.{take_more, replicate-append-replicate}
use Rattle.std.proofs.lemmas.List.Sums.{fold_more}
use Rattle.std.proofs.lemmas.Grind.{flat_map-append}
use Rattle.std.proofs.Common.{◌≡◌, ℕ, ◌+◌, ◌<◌, length, take, get_or, List, [], ◌∷◌, ◌++◌, replicate, refl, sym, ap, ◌∙◌, append_assoc}
use Rattle.std.specs.List.{flat_map}
use Rattle.cc_program.specs.declared.types.Structure.{Structure}
use Rattle.cc_program.specs.declared.value.Value.{Value}
use Rattle.cc_cells.specs.Scalars.{member_zeros, structure_zeros, zeros_over}
use Rattle.cc_typed.specs.CcSyntax.Types.{Named}
use Rattle.std.proofs.lemmas.List.{append-nil}

pub behind_more : (front xs : List Value) (i : ℕ) (d : Value) → i < length xs → front ++ take (i + 1) xs ≡ (front ++ take i xs) ++ get_or xs i d ∷ []
behind_more front xs i d h = ap (λ (ys : List Value). front ++ ys) (take_more xs i d h) ∙ sym (append_assoc front (take i xs) (get_or xs i d ∷ []))

pub flat_more : {A : Type 0} (f : A → List Value) (xs : List A) (i : ℕ) (d : A) → i < length xs → flat_map f (take (i + 1) xs) ≡ flat_map f (take i xs) ++ f (get_or xs i d)
flat_more f xs i d h = ap (flat_map f) (take_more xs i d h) ∙ flat_map-append f (take i xs) (get_or xs i d ∷ []) ∙ ap (λ (ys : List Value). flat_map f (take i xs) ++ ys) (append-nil (f (get_or xs i d)))

pub members_more : (s : List (List Value)) (xs : List Named) (i : ℕ) (d : Named) → i < length xs →
    member_zeros s (take (i + 1) xs) ≡ member_zeros s (take i xs) ++ zeros_over s (get_or xs i d).1
members_more s xs i d h = flat_more (λ m. zeros_over s m.1) xs i d h

pub repeats_more : (xs : List Value) (n : ℕ) → flat_map (λ zeros. zeros) (replicate (n + 1) xs) ≡ flat_map (λ zeros. zeros) (replicate n xs) ++ xs
repeats_more xs n =
    ap (flat_map (λ zeros. zeros)) (sym (replicate-append-replicate n 1 xs)) ∙ flat_map-append (λ zeros. zeros) (replicate n xs) (xs ∷ [])
    ∙ ap (λ (ys : List Value). flat_map (λ zeros. zeros) (replicate n xs) ++ ys) (append-nil xs)

pub structures_more : (xs : List Structure) (i : ℕ) (d : Structure) → i < length xs →
    structure_zeros (take (i + 1) xs) ≡ structure_zeros (take i xs) ++ member_zeros (structure_zeros (take i xs)) (get_or xs i d).members ∷ []
unfolding structure_zeros
structures_more xs i d h = fold_more (λ before (s : Structure). before ++ member_zeros before s.members ∷ []) [] xs i d h

pub structures_none : [] ≡ structure_zeros []
unfolding structure_zeros
structures_none = refl

pub ruleset of_lists = (behind_more, append-nil)

pub ruleset of_repeats = (repeats_more)

pub ruleset of_members = (members_more)

pub ruleset of_structures = (structures_none, structures_more)
