-- What is asked of a point where registers have other sets and none is known to equal a cell.
use Rattle.std.proofs.Common.{◌≡◌, ℕ, false, List, [], ◌∷◌, ◌++◌, map, Option, slice_get, refl, ap, ◌∙◌}
use Rattle.std.specs.List.{flat_map}
use Rattle.cc_state_points.specs.CcPlaces.declared.abs.Abs.{Abs}
use Rattle.cc_rules_calls.specs.Here.{fact_with}
use Rattle.cc_state_points.specs.CcRulesNeeds.Flowing.{needs_at, need_local, need_cell, need_apart, each_pair, numbers, of_fact, without_pairs}
use Rattle.cc_state_points.specs.CcRulesNeeds.declared.needs.Part.TheVariants.{Flags, Values}
use Rattle.cc_state_points.specs.CcRulesNeeds.declared.needs.Slot.TheVariants.{Flag, LocalAt}
use Rattle.cc_state_points.specs.CcStateFacts.declared.facts.PointFact.{PointFact}

pub map_agree : {A B : Type 0} (f g : A → B) → ((x : A) → f x ≡ g x) → (xs : List A) → map f xs ≡ map g xs
map_agree f g h [] = refl
map_agree f g h (x ∷ xs) = ap (λ y. y ∷ map f xs) (h x) ∙ ap (λ ys. g x ∷ ys) (map_agree f g h xs)

module _ {I : Type 0} where
  pub needs_with : (k registers cells : ℕ) (fact : PointFact I) (locals : List (Abs I)) (local : ℕ → Option (Abs I)) → ((r : ℕ) → slice_get locals r ≡ local r) →
      needs_at k registers cells (of_fact (fact_with fact locals)) ≡ needs_at k registers cells (record (without_pairs (of_fact fact)) { local = local })
  needs_with k registers cells fact locals local h =
      ap (λ ns. (Flag k, Flags fact.off fact.on) ∷ (ns ++ (map (need_cell k (of_fact fact)) (numbers 0 cells) ++ flat_map (need_apart k (λ r j. false)) (each_pair registers cells))))
      (map_agree (need_local k (of_fact (fact_with fact locals))) (need_local k (record (without_pairs (of_fact fact)) { local = local })) (λ r. ap (λ y. (LocalAt k r, Values y)) (h r)) (numbers 0 registers))
