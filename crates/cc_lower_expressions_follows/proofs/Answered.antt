-- What holds of all answers of a tree, where its marks answer what was asked, holds at the ends of a simulation too.
use Rattle.std.proofs.Common.{◌≡◌, ℕ, List, [], ◌∷◌, ◌++◌, Option, refl, ap, sym, ◌∙◌, subst}
use Rattle.cc_program.specs.declared.program.Program.{Program}
use Rattle.cc_states.specs.CcEval.declared.action.Action.{Action}
use Rattle.cc_states.specs.CcEval.declared.mark.Mark.{Mark}
use Rattle.cc_program.specs.declared.value.Value.{Value}
use Rattle.cc_states.specs.CcEval.Progress.{Progress, Known, Waits, Get, known, ask, and_then, bind, given}
use Rattle.cc_states.proofs.CcEval.Works.{same_action}
use Rattle.cc_states.specs.Answers.{IsMarkOf, AreAnswers, WorksIn}
use Rattle.cc_lower_expressions_follows.specs.Trees.{Regs, Setting, after, Sim, Done, Left, Right, Both, Fail}

none_waits : {A : Type 0} (a : A) (ms : List Mark) (action : Action) → known a ms ≡ Waits action → ⊥
none_waits a ms action e = absurd (cc)

known_waits : {A : Type 0} (a : A) (ms : List Mark) (action : Action) → Known a ms ≡ Waits action → ⊥
known_waits a ms action e = absurd (cc)

module _ (p : Program) (openings : List ℕ) where
  abbrev pub AllAnswers : {A : Type 0} → (A → Type 0) → Get A → Type 0
  AllAnswers {A} T g = (ms rest : List Mark) (a : A) → AreAnswers p openings g ms → g ms ≡ Known a rest → T a

  pub all_answers : (number : ℕ) {A : Type 0} (T : A → Type 0) (g : Get A) → WorksIn p openings number T g → AllAnswers T g
  all_answers number T g h ms rest a answers e = (h.known ms rest a answers e).1

  module _ {A : Type 0} (T : A → Type 0) (g : Get A) (action : Action) (m : Mark) (asks : g [] ≡ Waits action) (fits : IsMarkOf p openings action m) where
    one_more : (ms : List Mark) → AreAnswers p openings (after g m) ms → AreAnswers p openings g (m ∷ ms)
    one_more ms answers [] back n other split e =
        let a : action ≡ other = same_action (g []) action other asks e in
        let k : m ≡ n = cc in
        subst (λ x. IsMarkOf p openings other x) k (subst (λ x. IsMarkOf p openings x m) a fits)
    one_more ms answers (f ∷ front) back n other split e =
        let k : m ≡ f = cc in
        let l : ms ≡ front ++ n ∷ back = cc in
        answers front back n other l (ap (λ x. g (x ∷ front)) k ∙ e)

    pub answers_after : AllAnswers T g → AllAnswers T (after g m)
    answers_after h ms rest a answers e = h (m ∷ ms) rest a (one_more ms answers) e

  -- what one step gives
  module _ (T : Option Value → Type 0) (action : Action) (m : Mark) (fits : IsMarkOf p openings action m) where
    its_mark : AreAnswers p openings (ask action given) (m ∷ [])
    its_mark [] back n other split e =
        let a : action ≡ other = same_action (ask action given []) action other refl e in
        let k : m ≡ n = cc in
        subst (λ x. IsMarkOf p openings other x) k (subst (λ x. IsMarkOf p openings x m) a fits)
    its_mark (f ∷ front) back n other split e = absurd (known_waits (given f) front other e)

    pub answer_of : AllAnswers T (ask action given) → T (given m)
    answer_of h = h (m ∷ []) [] (given m) its_mark refl

module _ (w : Setting) {A B : Type 0} (P : A → B → Regs → Regs → Type 0) (T : A → Type 0) where
  abbrev pub And : A → B → Regs → Regs → Type 0
  And a b r s = P a b r s × T a

  pub sim_with : {g : Get A} {r : Regs} {h : Get B} {s : Regs} → Sim w P g r h s → AllAnswers w.p w.openings T g → Sim w And g r h s
  sim_with {g} (Done a b eg eh x) t = Done a b eg eh (x, t [] [] a (λ front back m action split e. absurd (none_waits a front action (ap (λ (f : Get A). f front) (sym eg) ∙ e))) (ap (λ (f : Get A). f []) eg))
  sim_with {g} (Left r' action m e q d) t = Left r' action m e q (λ x. sim_with (d x) (answers_after w.p w.openings T g action m e x t))
  sim_with (Right s' action m e q d) t = Right s' action m e q (sim_with d t)
  sim_with {g} (Both action n eg eh d) t = Both action n eg eh (λ m x. sim_with (d m x) (answers_after w.p w.openings T g action m eg x t))
  sim_with (Fail x y) t = Fail x y

-- and what holds of all answers of what comes behind it
module _ (w : Setting) {A B C : Type 0} (P : A → B → Regs → Regs → Type 0) (T : C → Type 0) (f : A → Get C) where
  abbrev pub Further : A → B → Regs → Regs → Type 0
  Further a b r s = P a b r s × AllAnswers w.p w.openings T (f a)

  waits_first : (g : Get A) (action : Action) → g [] ≡ Waits action → bind g f [] ≡ Waits action
  waits_first g action e = ap (λ (x : Progress A). and_then x f) e

  pub sim_further : {g : Get A} {r : Regs} {h : Get B} {s : Regs} → Sim w P g r h s → AllAnswers w.p w.openings T (bind g f) → Sim w Further g r h s
  sim_further {g} (Done a b eg eh x) t = Done a b eg eh (x, subst (λ (k : Get A). AllAnswers w.p w.openings T (bind k f)) eg t)
  sim_further {g} (Left r' action m e q d) t = Left r' action m e q (λ x. sim_further (d x) (answers_after w.p w.openings T (bind g f) action m (waits_first g action e) x t))
  sim_further (Right s' action m e q d) t = Right s' action m e q (sim_further d t)
  sim_further {g} (Both action n eg eh d) t = Both action n eg eh (λ m x. sim_further (d m x) (answers_after w.p w.openings T (bind g f) action m (waits_first g action eg) x t))
  sim_further (Fail x y) t = Fail x y
