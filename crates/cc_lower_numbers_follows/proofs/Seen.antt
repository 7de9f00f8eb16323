-- No event of a typed program names a register in its cell: an activation reaches a register by its name alone, and then through no volatile type.
use Rattle.std.proofs.Common.{◌≡◌, ◌∙◌, ◌∷◌, ℕ, true, List, [], Option, Some, None, refl, ap, subst}
use Rattle.cc_states.specs.CcEval.declared.action.Action.{Action}
use Rattle.cc_states.specs.CcEval.declared.action.Action.TheVariants.{Read, Write, Choose, Call, Flag, Save}
use Rattle.cc_states.specs.CcEval.declared.mark.Mark.{Mark}
use Rattle.cc_states.specs.CcEval.Eval.{manner}
use Rattle.cc_states.specs.CcEval.Marks.{UsesFirst}
use Rattle.cc_states.specs.CcEval.Progress.{Progress, Known, Waits, Traps, Get, known, trap, ask, and_then, bind, needs}
use Rattle.cc_states.proofs.CcEval.Uses.{uses_known, uses_trap, uses_ask, uses_bind}
use Rattle.cc_program.specs.declared.program.Program.{Program}
use Rattle.cc_states.specs.Answers.{AreAnswers, IsMarkOf}
use Rattle.cc_states.proofs.CcEval.Works.{same_action, left_answers, right_answers}
use Rattle.cc_lower_numbers_follows.specs.Shown.{IsCellShown}

module _ (p : Program) (openings : List ℕ) where
  -- an access that is an event names no register
  abbrev pub IsSeenFit : Action → Type 0
  IsSeenFit (Read at manner) = manner.is_event ≡ true → IsCellShown p at
  IsSeenFit (Write at is_event v) = is_event ≡ true → IsCellShown p at
  IsSeenFit (Choose b) = Unit {0}
  IsSeenFit (Call callee args) = Unit {0}
  IsSeenFit (Flag on) = Unit {0}
  IsSeenFit Save = Unit {0}

  abbrev Seen : {A : Type 0} → Get A → Type 0
  Seen g = (ms : List Mark) (action : Action) → AreAnswers p openings g ms → g ms ≡ Waits action → IsSeenFit action

  pub record IsFine {A : Type 0} (g : Get A) : Type 0 where
    pub uses : UsesFirst g
    pub seen : Seen g

  pub fine_known : {A : Type 0} (v : A) → IsFine (known v)
  fine_known v = record { uses = uses_known v; seen = λ ms action answers e. absurd (cc) }

  abbrev traps_at : (A : Type 0) → Get A
  traps_at A = trap

  pub fine_trap : {A : Type 0} → IsFine (traps_at A)
  fine_trap = record { uses = uses_trap; seen = λ ms action answers e. absurd (cc) }

  asked : {A : Type 0} (action : Action) (f : Mark → A) → IsSeenFit action → Seen (ask action f)
  asked action f h [] other answers e = subst IsSeenFit (same_action (ask action f []) action other refl e) h
  asked action f h (m ∷ ms) other answers e = absurd (cc)

  pub fine_ask : {A : Type 0} (action : Action) (f : Mark → A) → IsSeenFit action → IsFine (ask action f)
  fine_ask action f h = record { uses = uses_ask action f; seen = asked action f h }

  module _ {A B : Type 0} (g : Get A) (f : A → Get B) (s : IsFine g) (t : (ms rest : List Mark) (a : A) → AreAnswers p openings g ms → g ms ≡ Known a rest → Seen (f a)) where
    bound : (ms : List Mark) (action : Action) → AreAnswers p openings (bind g f) ms → (q : Progress A) → g ms ≡ q → and_then q f ≡ Waits action → IsSeenFit action
    bound ms action answers (Known a mid) e h =
        t ms mid a (left_answers (IsMarkOf p openings) g f ms answers) e mid action (right_answers (IsMarkOf p openings) g f ms mid a (s.uses.known a ms mid e) answers) h
    bound ms action answers (Waits other) e h =
        s.seen ms action (left_answers (IsMarkOf p openings) g f ms answers) (e ∙ ap (λ (x : Action). Waits x) (same_action (and_then (Waits other) f) other action refl h))
    bound ms action answers (Traps mid) e h = absurd (cc)

    pub fine_from : ((a : A) → UsesFirst (f a)) → IsFine (bind g f)
    fine_from u = record { uses = uses_bind g f s.uses u; seen = λ ms action answers h. bound ms action answers (g ms) refl h }

  pub fine_bind : {A B : Type 0} (g : Get A) (f : A → Get B) → IsFine g → ((a : A) → IsFine (f a)) → IsFine (bind g f)
  fine_bind g f s t = fine_from g f s (λ ms rest a answers e. (t a).seen) (λ a. (t a).uses)

  pub fine_needs : {A B : Type 0} (v : Option A) (f : A → Get B) → ((a : A) → IsFine (f a)) → IsFine (needs v f)
  fine_needs None f h = fine_trap
  fine_needs (Some a) f h = h a
