-- What facts that solve the constraints say of first values, of where main begins, and of its end.
use Rattle.std.proofs.Common.{arith, ◌≡◌, inl, inr, ℕ, zero, suc, ◌+◌, true, false, true≢false, List, [], ◌∷◌, map, Option, Some, slice_get, refl, sym, ap, subst, ◌∙◌}
use Rattle.std.specs.Prelude.{option_and_then}
use Rattle.std.proofs.lemmas.List.Elements.{All-head, All-tail}
use Rattle.std.proofs.lemmas.Option.{same_Some, none-some}
use Rattle.cc_state_values_sound.specs.CcEval.Progress.{no_value}
use Rattle.cc_rules.specs.CcFlowSound.Moves.{entry}
use Rattle.cc_state_values_sound.specs.CcPlaces.declared.abs.Abs.{Abs}
use Rattle.cc_program.specs.declared.func.Func.{Func}
use Rattle.cc_program.specs.declared.program.Program.{Program}
use Rattle.cc_program.specs.declared.value.Root.TheVariants as root
use Rattle.cc_proof_covers.specs.Covers.{AreStaticsIn}
use Rattle.cc_proof_covers.specs.Rules.{Begins}
use Rattle.cc_proof_covers.specs.Views.{View}
use Rattle.cc_proof_rules.proofs.Arrivals.{tracked_there, has_more, arrives}
use Rattle.cc_proof_rules.proofs.Functions.{point_below, entry_function}
use Rattle.cc_proof_rules.proofs.Keyed.{static_numbered}
use Rattle.cc_proof_rules.proofs.Levels.{only_has}
use Rattle.cc_proof_rules.proofs.Asks.{initial_met, start_met}
use Rattle.cc_proof_rules.proofs.Numbered.{key_at, some_is}
use Rattle.cc_proof_rules.specs.Arrivals.{Arrives}
use Rattle.cc_rules.specs.Rules.{NeedsAt, IsFirstSet, AreFirstSets, IsStarted, AtStart, Elsewhere, IsSolution}
use Rattle.cc_rules.specs.CcRulesNeeds.Needs.{AreValuesBelow, Needs, Has as HasPart, HasAll}
use Rattle.cc_rules.specs.CcRulesNeeds.declared.needs.Part.{Part}
use Rattle.cc_rules.specs.CcRulesNeeds.declared.needs.Part.TheVariants.{Mark, LevelSet, Values}
use Rattle.cc_rules.specs.CcRulesNeeds.declared.needs.Slot.{Slot}
use Rattle.cc_rules.specs.CcRulesNeeds.declared.needs.Slot.TheVariants.{Whole, ByMain, Levels}
use Rattle.cc_state.specs.View.{Has, view}
use Rattle.cc_rules.specs.CcStateFacts.declared.facts.Facts.{Facts}
use Rattle.cc_rules.specs.CcStateFacts.declared.facts.Key.{Key}
use Rattle.cc_rules.specs.CcStateFacts.Levels.{only_level}
use Rattle.cc_rules.specs.CcStateKeys.Keys.{keys_of, cell_key}
use Rattle.cc_rules.specs.CcStateKeys.Tracked.{tracked_number}
use Rattle.cc_state_values_sound.specs.CcStateOperators.Domains.{Domain}
use Rattle.cc_state_values_sound.proofs.Choices.{GivesAll}
use Rattle.cc_state_values_sound.specs.CcSteps.State.{first_values}
use Rattle.cc_state_values_sound.specs.CcSteps.Step.{gives_nothing}

module _ {I : Type 0} (d : Domain I) (all : GivesAll d) (p : Program) (facts : Facts I) (solution : IsSolution d p facts) where
  abbrev v : View
  v = view d p facts

  -- ---- first values

  -- the set that a key is asked to have, and that it has
  abbrev IsHadBy : ℕ → Key → Type 0
  IsHadBy n k = (y : Abs I) × IsFirstSet d p facts n k y × AreValuesBelow d.below (Some y) (slice_get facts.whole n)

  first_sets : (n : ℕ) (keys : List Key) (ns : Needs I) → AreFirstSets d p facts n keys ns → HasAll d.below ns facts → (i m : ℕ) (k : Key) → slice_get keys i ≡ Some k → m ≡ n + i → IsHadBy m k
  first_sets n [] ns h has i m k e s = absurd (none-some k e)
  first_sets n (k ∷ keys) ns (y, rest, first, more, is) has zero m l e s =
      let both : HasAll d.below ((Whole n, Values (Some y)) ∷ rest) facts = subst (λ (ms : Needs I). HasAll d.below ms facts) is has in
      let here : n ≡ m = omega (arith, s) in
      subst (λ (z : ℕ). IsHadBy z l) here (subst (λ (z : Key). IsHadBy n z) (same_Some k l e) (y, first, All-head (HasPart d.below facts) (Whole n, Values (Some y)) rest both))
  first_sets n (k ∷ keys) ns (y, rest, first, more, is) has (suc i) m l e s =
      let both : HasAll d.below ((Whole n, Values (Some y)) ∷ rest) facts = subst (λ (ms : Needs I). HasAll d.below ms facts) is has in
      first_sets (suc n) keys rest more (All-tail (HasPart d.below facts) (Whole n, Values (Some y)) rest both) i m l e (omega (arith, s))

  pub initial : AreStaticsIn p v (map (first_values p) p.objects)
  initial i position x e path leads =
      let k = cell_key p (root.Static i) path in
      let number = static_numbered p i path position leads in
      let met = initial_met d all p facts solution in
      let had = first_sets 0 (keys_of p) met.0 met.1 met.2 number.0 number.0 k (key_at p k number.0 number.1) (omega arith) in
      let held : Has d p facts (slice_get facts.whole number.0) x = has_more d all p facts (Some had.0) (slice_get facts.whole number.0) x had.2 (had.0, refl, had.1.has x (i, position, path, leads, refl, e)) in
      subst (λ (o : Option ℕ). Has d p facts (option_and_then (slice_get facts.whole) o) x) (sym number.1) held

  -- ---- main

  module _ (f : Func) (function : slice_get p.funcs p.main ≡ Some f) where
    start_of : (ns : Needs I) → IsStarted d p facts (entry p p.main) ns → HasAll d.below ns facts → Begins p v (entry p p.main)
    start_of ns (AtStart g flow there here start is) has =
        let both : HasAll d.below ((ByMain p.main, Mark true) ∷ (Levels p.main, LevelSet (only_level 0)) ∷ NeedsAt d p facts (entry p p.main) g flow) facts = subst (λ (ms : Needs I). HasAll d.below ms facts) is has in
        let P : Slot × Part I → Type 0 = HasPart d.below facts in
        let main : P (ByMain p.main, Mark true) = All-head P (ByMain p.main, Mark true) ((Levels p.main, LevelSet (only_level 0)) ∷ NeedsAt d p facts (entry p p.main) g flow) both in
        let others = All-tail P (ByMain p.main, Mark true) ((Levels p.main, LevelSet (only_level 0)) ∷ NeedsAt d p facts (entry p p.main) g flow) both in
        let level : P (Levels p.main, LevelSet (only_level 0)) = All-head P (Levels p.main, LevelSet (only_level 0)) (NeedsAt d p facts (entry p p.main) g flow) others in
        let comes : Arrives d p facts (entry p p.main) g flow =
        arrives d all p facts (entry p p.main) g flow (entry_function d p facts p.main g there) (All-tail P (Levels p.main, LevelSet (only_level 0)) (NeedsAt d p facts (entry p p.main) g flow) others) (inl start.off) in
        record {
          reached = comes.reached;
          off = comes.flags false start.off;
          by_main = main refl;
          level = level 0 (only_has 0);
          cells = λ i x tracked e.
              (let cell = some_is (tracked_number p i) tracked in
              let only = start.cells cell.0 i x (tracked_there p i cell.0 cell.1) e in
              comes.cells i cell.0 x cell.1 (only.0, only.1, only.2));
          sames = λ r i h. (let pair = comes.pairs r i h in true≢false (sym pair.4 ∙ start.pairs pair.0 pair.1));
        }
    start_of ns (Elsewhere other is) has = absurd (other refl)

    pub main_begins : Begins p v (entry p p.main)
    main_begins =
        let at = entry_function d p facts p.main f function in
        let met = start_met d all p facts solution (entry p p.main) (point_below p (entry p p.main) at.0 at.1) in
        start_of met.0 met.1 met.2

    -- at its end it gives 0 (C99 5.1.2.2.3)
    pub main_ends : gives_nothing (Some f) ≡ false → v.result p.main no_value
    main_ends h = inr (refl, ap gives_nothing function ∙ h, refl)
