-- What asks for steps by other numbers, mark by mark: it asks for the same steps, by other numbers, and gives the same, by other numbers.
use Rattle.std.proofs.Common.{◌≡◌, ◌∙◌, ◌∷◌, List, [], map, Option, Some, None, option_map, refl, ap}
use Rattle.cc_states.specs.CcEval.declared.action.Action.{Action}
use Rattle.cc_states.specs.CcEval.declared.mark.Mark.{Mark}
use Rattle.cc_states.specs.CcEval.declared.mark.Mark.TheVariants.{Gave, Did, Chose}
use Rattle.cc_states.specs.CcEval.Progress.{Progress, Known, Waits, Traps, Get, known, trap, ask, and_then, bind, needs, given, chosen}
use Rattle.cc_lower_numbers_follows.specs.Renaming.{Renaming, action_renamed, mark_renamed}
use Rattle.cc_lower_numbers_follows.proofs.Values.{may_renamed}

module _ (r : Renaming) where
  abbrev pub marks_renamed : List Mark → List Mark
  marks_renamed ms = map (mark_renamed r) ms

  abbrev pub progress_renamed : {A B : Type 0} → (A → B) → Progress A → Progress B
  progress_renamed f (Known a ms) = Known (f a) (marks_renamed ms)
  progress_renamed f (Waits action) = Waits (action_renamed r action)
  progress_renamed f (Traps ms) = Traps (marks_renamed ms)

  abbrev pub AsksSame : {A B : Type 0} → (A → B) → Get B → Get A → Type 0
  AsksSame f g h = (ms : List Mark) → g (marks_renamed ms) ≡ progress_renamed f (h ms)

  pub known_same : {A B : Type 0} (f : A → B) (b : B) (a : A) → b ≡ f a → AsksSame f (known b) (known a)
  known_same f b a e ms = ap (λ x. Known x (marks_renamed ms)) e

  pub trap_same : {A B : Type 0} (f : A → B) → AsksSame f trap trap
  trap_same f ms = refl

  pub bind_same : {A B C D : Type 0} (f : A → B) (e : C → D) (g : Get B) (h : Get A) (k : B → Get D) (l : A → Get C) →
      AsksSame f g h → ((a : A) → AsksSame e (k (f a)) (l a)) → AsksSame e (bind g k) (bind h l)
  bind_same {A = A} f e g h k l s t ms = ap (λ q. and_then q k) (s ms) ∙ by (h ms)
    where
      by : (q : Progress A) → and_then (progress_renamed f q) k ≡ progress_renamed e (and_then q l)
      by (Known a rest) = t a rest
      by (Waits action) = refl
      by (Traps rest) = refl

  pub ask_same : {A B : Type 0} (f : A → B) (action : Action) (to : Mark → B) (from : Mark → A) → ((m : Mark) → to (mark_renamed r m) ≡ f (from m)) → AsksSame f (ask (action_renamed r action) to) (ask action from)
  ask_same f action to from h [] = refl
  ask_same f action to from h (m ∷ ms) = ap (λ x. Known x (marks_renamed ms)) (h m)

  pub needs_same : {A B C D : Type 0} (f : A → B) (e : C → D) (w : Option B) (v : Option A) (k : B → Get D) (l : A → Get C) →
      w ≡ option_map f v → ((a : A) → AsksSame e (k (f a)) (l a)) → AsksSame e (needs w k) (needs v l)
  needs_same {A = A} f e w v k l same t ms = ap (λ x. needs x k (marks_renamed ms)) same ∙ by v
    where
      by : (v : Option A) → needs (option_map f v) k (marks_renamed ms) ≡ progress_renamed e (needs v l ms)
      by None = refl
      by (Some a) = t a ms

  pub given_same : (m : Mark) → given (mark_renamed r m) ≡ may_renamed r (given m)
  given_same (Gave v) = refl
  given_same Did = refl
  given_same (Chose b) = refl

  pub chosen_same : (m : Mark) → chosen (mark_renamed r m) ≡ chosen m
  chosen_same (Gave v) = refl
  chosen_same Did = refl
  chosen_same (Chose b) = refl
