-- Whole runs, from the step of two activations that stand in front of the same statements.
use Rattle.std.proofs.Common.{◌≡◌, ℕ, List, [], ◌∷◌, Option, true}
use Rattle.cc_program.specs.declared.program.Program.{Program}
use Rattle.cc_rewrite_simulation.specs.Comparison.{Comparison}
use Rattle.cc_rewrite_simulation.specs.Relation.{Related}
use Rattle.cc_rewrite_simulation.specs.RelationBack.{RelatedBack}
use Rattle.cc_rewrite_simulation.specs.Simulated.{IsKept, IsFollowed, IsAnswered}
use Rattle.cc_rewrite_simulation.proofs.Laws.{simulates}
use Rattle.cc_rewrite_simulation.proofs.LawsBack.{simulates-back}
use Rattle.cc_rewrite_simulation.proofs.SameLemmas.{same, same-back}
use Rattle.cc_steps.specs.Runs.{Arrivals, run, Follows, Answers, EntersAtBoundaries, IsBoundary}
use Rattle.cc_steps.specs.State.{State}
use Rattle.cc_steps.specs.Turn.{turn, enters}
use Rattle.cc_steps.proofs.RunLaws.{Follows-by_simulation, Answers-by_simulation}

pub known-run : (p : Program) (Known : State → Type 0) → IsKept p Known → (others : Arrivals) (s : State) → Known s → Known (run p s others)
known-run p Known kept [] s h = h
known-run p Known kept (a ∷ others) s h = known-run p Known kept others (turn p s a) (kept.turns s a h)

module _ {Q P : Program} (c : Comparison Q P) (KnownQ Known : State → Type 0) where
  module _ (law : IsFollowed c KnownQ Known) where
    abbrev Both : State → State → Type 0
    Both s t = Related c (Unit {0}) s t × KnownQ s × Known t

    follows-turn : (s t : State) → Both s t → (arrival : Option ℕ) → (others : Arrivals) × Both (turn Q s arrival) (run P t others)
    follows-turn s t h arrival =
        let x = simulates c KnownQ Known law s t h.0 h.1 h.2 arrival in (x.0, (x.1, law.kept_q.turns s arrival h.1, known-run P Known law.kept x.0 t h.2))

    pub follows : Follows Q P
    follows = Follows-by_simulation Q P Both (λ s t h. same c (Unit {0}) s t h.0) (λ inputs. (law.starts inputs, law.kept_q.starts inputs, law.kept.starts inputs)) follows-turn

  module _ (law : IsAnswered c KnownQ Known) where
    abbrev BothBack : State → State → Type 0
    BothBack s t = RelatedBack c s t × KnownQ s × Known t

    answers-turn : (s t : State) → BothBack s t → (arrival : Option ℕ) → (enters P t arrival ≡ true → IsBoundary t) → (others : Arrivals) × EntersAtBoundaries Q s others × BothBack (run Q s others) (turn P t arrival)
    answers-turn s t h arrival at =
        let x = simulates-back c KnownQ Known law s t h.0 h.1 h.2 arrival at in (x.0, x.1, (x.2, known-run Q KnownQ law.kept_q x.0 s h.1, law.kept.turns t arrival h.2))

    pub answers : Answers Q P
    answers = Answers-by_simulation Q P BothBack (λ s t h. same-back c s t h.0) (λ inputs. (law.starts inputs, law.kept_q.starts inputs, law.kept.starts inputs)) answers-turn
