-- What is asked of parameters that are no registers, one by one, and of a function as a whole.
use Rattle.std.proofs.Common.{arith, ◌≡◌, ◌<◌, ◌+◌, ℕ, suc, List, [], ◌∷◌, ◌++◌, length, take, get_or, append-nil, append_assoc, length-take, Option, ap, sym, ◌∙◌}
use Rattle.std.proofs.lemmas.List.{take_more}
use Rattle.cc_state_points.specs.CcPlaces.declared.abs.Abs.{Abs}
use Rattle.cc_program.specs.declared.program.Program.{Program}
use Rattle.cc_rules_asked.specs.declared.asked.Asked.{Asked}
use Rattle.cc_rules_asked.specs.declared.asked.Asked.TheVariants as asked
use Rattle.cc_rules_calls.specs.Here.{part_whole, parts_whole}
use Rattle.cc_state_points.specs.CcStateFacts.declared.facts.Key.TheVariants as key
use Rattle.cc_state_points.specs.CcStateFacts.declared.facts.PointFact.{PointFact}
use Rattle.cc_state_points.specs.CcStateKeys.Keys.{key_number}

module _ {I : Type 0} (p : Program) (g : ℕ) where
  parts_put : (r m : ℕ) (xs : List (Abs I)) (y : Abs I) → m ≡ r + length xs → parts_whole p g r (xs ++ y ∷ []) ≡ parts_whole p g r xs ++ part_whole (key_number p (key.Local g m)) y
  parts_put r m [] y e =
      let same : r ≡ m = omega arith in
      append-nil (part_whole (key_number p (key.Local g r)) y) ∙ ap (λ n. part_whole (key_number p (key.Local g n)) y) same
  parts_put r m (x ∷ xs) y e =
      ap (λ ns. part_whole (key_number p (key.Local g r)) x ++ ns) (parts_put (suc r) m xs y (omega arith))
      ∙ sym (append_assoc (part_whole (key_number p (key.Local g r)) x) (parts_whole p g (suc r) xs) (part_whole (key_number p (key.Local g m)) y))

  pub parts_on : (sets : List (Abs I)) (i : ℕ) (x : Abs I) (old now new : List (Asked I)) (number : Option ℕ) → i < length sets → x ≡ get_or sets i x → now ≡ old ++ parts_whole p g 0 (take i sets) →
      number ≡ key_number p (key.Local g i) → new ≡ now ++ part_whole number x → new ≡ old ++ parts_whole p g 0 (take (i + 1) sets)
  parts_on sets i x old now new number l is h k e =
      let long : i ≡ 0 + length (take i sets) = omega (arith, length-take i sets) in
      let more : take (i + 1) sets ≡ take i sets ++ x ∷ [] = take_more sets i x l ∙ ap (λ a. take i sets ++ a ∷ []) (sym is) in
      e ∙ (ap (λ o. now ++ part_whole o x) k ∙ (ap (λ ns. ns ++ part_whole (key_number p (key.Local g i)) x) h
      ∙ (append_assoc old (parts_whole p g 0 (take i sets)) (part_whole (key_number p (key.Local g i)) x)
      ∙ ap (λ ns. old ++ ns) (sym (parts_put 0 i (take i sets) x long) ∙ sym (ap (parts_whole p g 0) more)))))

-- ---- a function as a whole

module _ {I : Type 0} where
  pub joined_parts : (old first second new marks parts : List (Asked I)) (x y : Asked I) → first ≡ old ++ marks → second ≡ first ++ x ∷ [] → new ≡ second ++ parts → x ≡ y → new ≡ old ++ (marks ++ (y ∷ parts))
  joined_parts old first second new marks parts x y a b c e =
      c ∙ (ap (λ ns. ns ++ parts) (b ∙ (ap (λ z. first ++ z ∷ []) e ∙ ap (λ ns. ns ++ y ∷ []) a))
      ∙ (append_assoc (old ++ marks) (y ∷ []) parts ∙ append_assoc old marks (y ∷ parts)))

  pub same_point : (number m n : ℕ) (flow other : PointFact I) → m ≡ n → flow ≡ other → asked.Point number m flow ≡ asked.Point number n other
  same_point number m n flow other e f = ap (λ k. asked.Point number k flow) e ∙ ap (λ x. asked.Point number n x) f
