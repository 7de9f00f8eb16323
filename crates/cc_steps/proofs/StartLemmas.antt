-- The first values of objects, as far as loops over them have come.
use Rattle.std.proofs.Common.{arith, ◌≡◌, ◌<◌, ◌+◌, ℕ, List, [], ◌∷◌, ◌++◌, length, map, take, get_or, refl, ap, ◌∙◌}
use Rattle.std.proofs.lemmas.List.{map-append, take_more, reverse-reverse}
use Rattle.cc_program.specs.declared.value.Leaf.{Leaf}
use Rattle.cc_program.specs.declared.value.Value.{Value}
use Rattle.cc_cells.specs.Scalars.{structure_zeros}
use Rattle.cc_program.specs.declared.object.Object.{Object}
use Rattle.cc_program.specs.declared.program.Program.{Program}
use Rattle.cc_steps.specs.State.{first_value, first_values, values_or}
use Rattle.cc_steps.specs.Whole.{values_over}
use Rattle.cc_steps.proofs.LocalLemmas.{cells_of-nil, cells_of-push}
use Rattle.cc_steps.proofs.TurnLemmas.{sound-sized}

pub map-more : {A B : Type 0} (f : A → B) (xs : List A) (i : ℕ) (d : A) → i < length xs → map f (take (i + 1) xs) ≡ map f (take i xs) ++ f (get_or xs i d) ∷ []
map-more f xs i d h = ap (map f) (take_more xs i d h) ∙ map-append f (take i xs) (get_or xs i d ∷ [])

pub values-none : (leaves : List Leaf) (others : List Value) → length leaves ≡ 0 → values_or leaves others ≡ others
values-none [] others h = refl
values-none (l ∷ leaves) others h = absurd (omega (arith, h))

pub values-some : (leaves : List Leaf) (others : List Value) → 0 < length leaves → values_or leaves others ≡ map first_value leaves
values-some [] others h = absurd (omega (arith, h))
values-some (l ∷ leaves) others h = refl

pub statics-more : (structures : List (List Value)) (objects : List Object) (i : ℕ) (d : Object) → i < length objects →
    map (values_over structures) (take (i + 1) objects) ≡ map (values_over structures) (take i objects) ++ values_over structures (get_or objects i d) ∷ []
statics-more structures objects i d h = map-more (values_over structures) objects i d h

pub statics-first : (p : Program) (structures : List (List Value)) → structures ≡ structure_zeros p.structures → map (values_over structures) p.objects ≡ map (first_values p) p.objects
statics-first p structures h = ap (λ structures. map (values_over structures) p.objects) h

pub ruleset of_values = (map-more, values-none, values-some)

pub ruleset of_statics = (statics-more, cells_of-nil, cells_of-push)

pub ruleset of_start = (sound-sized, reverse-reverse, statics-first)
