-- What is worked by marks that answer what was asked: what it gives is as it should be, and so is each step that it asks for, whatever
-- marks and steps are to be. A lemma for each way to ask for steps.
use Rattle.std.proofs.Common.{◌≡◌, inl, inr, Bool, true, false, List, [], ◌∷◌, ◌++◌, Option, Some, None, refl, ap, sym, ◌∙◌, subst, append_assoc}
use Rattle.cc_program.specs.declared.value.Value.{Value}
use Rattle.cc_values.specs.Values.{truth}
use Rattle.cc_eval.specs.declared.action.Action.{Action}
use Rattle.cc_eval.specs.declared.action.Action.TheVariants.{Choose}
use Rattle.cc_eval.specs.declared.mark.Mark.{Mark}
use Rattle.cc_eval.specs.Eval.{branch, outcome, arms, choice}
use Rattle.cc_eval.specs.Marks.{IsUsed, AnswerSteps, AnswerEach, Works, after}
use Rattle.cc_eval.specs.Progress.{Progress, Known, Waits, Traps, Get, known, trap, ask, and_then, bind, needs, chosen}
use Rattle.cc_eval.proofs.MarkLemmas.{IsLast, last_or_not}
use Rattle.cc_eval.proofs.Uses.{both_used, uses_known, uses_ask}

pub same_known : {A : Type 0} (v w : A) (ms ns : List Mark) → Known v ms ≡ Known w ns → v ≡ w
same_known v w ms ns h = cc

pub same_action : {A : Type 0} (q : Progress A) (a b : Action) → q ≡ Waits a → q ≡ Waits b → a ≡ b
same_action q a b h k = cc

module _ (IsMark : Action → Mark → Type 0) where
  -- there is one step that was asked for
  pub answers_of : {A : Type 0} (g : Get A) (ms : List Mark) → AnswerEach IsMark g ms → AnswerSteps IsMark g ms
  answers_of g ms h front back m action split w =
      let a = h front back m split in
      subst (λ (x : Action). IsMark x m) (same_action (g front) a.0 action a.1 w) a.2

  module _ {A : Type 0} (g : Get A) (ms : List Mark) (m : Mark) (action : Action) (answers : AnswerEach IsMark g ms) (waits : g ms ≡ Waits action) (mark : IsMark action m) where
    answered_by : (front : List Mark) (n : Mark) → IsLast ms m front n → (other : Action) × (g front ≡ Waits other) × IsMark other n
    answered_by front n (inl h) = (action, ap g h.0 ∙ waits, subst (IsMark action) (sym h.1) mark)
    answered_by front n (inr h) = answers front h.0 n h.1

    -- one more
    pub one_answer : AnswerEach IsMark g (ms ++ m ∷ [])
    one_answer front back n split = answered_by front n (last_or_not ms m front back n split)

  -- what was asked first has its answers, and so has what comes behind it
  pub left_answers : {A B : Type 0} (g : Get A) (f : A → Get B) (ms : List Mark) → AnswerSteps IsMark (bind g f) ms → AnswerSteps IsMark g ms
  left_answers g f ms answers front back m action split w = answers front back m action split (ap (λ q. and_then q f) w)

  pub right_answers : {A B : Type 0} (g : Get A) (f : A → Get B) (ms mid : List Mark) (a : A) → IsUsed g (Known a) ms mid → AnswerSteps IsMark (bind g f) ms → AnswerSteps IsMark (f a) mid
  right_answers g f ms mid a u answers front back m action split w =
      answers (u.0 ++ front) back m action (u.1 ∙ ap (λ (ns : List Mark). u.0 ++ ns) split ∙ sym (append_assoc u.0 front (m ∷ back))) (ap (λ q. and_then q f) (u.2 front) ∙ w)

  -- what is left behind a mark has its answers where that is a mark of the first step
  pub answers_before : {A : Type 0} (g : Get A) (action : Action) (m : Mark) → g [] ≡ Waits action → IsMark action m → (ms : List Mark) → AnswerSteps IsMark (after g m) ms → AnswerSteps IsMark g (m ∷ ms)
  answers_before g action m asks fits ms answers [] back n other split e =
      let a : action ≡ other = same_action (g []) action other asks e in
      let k : m ≡ n = cc in
      subst (λ x. IsMark other x) k (subst (λ x. IsMark x m) a fits)
  answers_before g action m asks fits ms answers (f ∷ front) back n other split e =
      let k : m ≡ f = cc in
      let l : ms ≡ front ++ n ∷ back = cc in
      answers front back n other l (ap (λ x. g (x ∷ front)) k ∙ e)

  module _ (IsStep : Action → Type 0) where
    pub works_known : {A : Type 0} (P : A → Type 0) (v : A) → P v → Works IsMark IsStep P (known v)
    works_known P v h = record {
      known = λ ms rest a answers e. ((uses_known v).known a ms rest e, subst P (same_known v a ms rest e) h);
      waits = λ ms action answers e. absurd (cc);
    }

    abbrev traps_at : (A : Type 0) → Get A
    traps_at A = trap

    pub works_trap : {A : Type 0} (P : A → Type 0) → Works IsMark IsStep P (traps_at A)
    works_trap P = record { known = λ ms rest a answers e. absurd (cc); waits = λ ms action answers e. absurd (cc) }

    asked : {A : Type 0} (P : A → Type 0) (action : Action) (f : Mark → A) → ((m : Mark) → IsMark action m → P (f m)) →
        (ms rest : List Mark) (a : A) → AnswerSteps IsMark (ask action f) ms → ask action f ms ≡ Known a rest → IsUsed (ask action f) (Known a) ms rest × P a
    asked P action f h [] rest a answers e = absurd (cc)
    asked P action f h (m ∷ ms) rest a answers e = ((uses_ask action f).known a (m ∷ ms) rest e, subst P (same_known (f m) a ms rest e) (h m (answers [] ms m action refl refl)))

    asked-waits : {A : Type 0} (action : Action) (f : Mark → A) → IsStep action → (ms : List Mark) (other : Action) → ask action f ms ≡ Waits other → IsStep other
    asked-waits action f h [] other e = subst IsStep (same_action (ask action f []) action other refl e) h
    asked-waits action f h (m ∷ ms) other e = absurd (cc)

    pub works_ask : {A : Type 0} (P : A → Type 0) (action : Action) (f : Mark → A) → IsStep action → ((m : Mark) → IsMark action m → P (f m)) → Works IsMark IsStep P (ask action f)
    works_ask P action f i h = record { known = asked P action f h; waits = λ ms other answers e. asked-waits action f i ms other e }

    module _ {A B : Type 0} (P : A → Type 0) (Q : B → Type 0) (g : Get A) (f : A → Get B) (s : Works IsMark IsStep P g) (t : (a : A) → P a → Works IsMark IsStep Q (f a)) where
      then-known : (ms mid rest : List Mark) (a : A) (b : B) → AnswerSteps IsMark (bind g f) ms → IsUsed g (Known a) ms mid × P a → f a mid ≡ Known b rest → IsUsed (bind g f) (Known b) ms rest × Q b
      then-known ms mid rest a b answers first e =
          let second = (t a first.1).known mid rest b (right_answers g f ms mid a first.0 answers) e in
          (both_used g f a ms mid rest (Known b) first.0 second.0, second.1)

      bound : (ms rest : List Mark) (b : B) → AnswerSteps IsMark (bind g f) ms → (q : Progress A) → g ms ≡ q → and_then q f ≡ Known b rest → IsUsed (bind g f) (Known b) ms rest × Q b
      bound ms rest b answers (Known a mid) e h = then-known ms mid rest a b answers (s.known ms mid a (left_answers g f ms answers) e) h
      bound ms rest b answers (Waits action) e h = absurd (cc)
      bound ms rest b answers (Traps mid) e h = absurd (cc)

      then-waits : (ms mid : List Mark) (a : A) (action : Action) → AnswerSteps IsMark (bind g f) ms → IsUsed g (Known a) ms mid × P a → f a mid ≡ Waits action → IsStep action
      then-waits ms mid a action answers first e = (t a first.1).waits mid action (right_answers g f ms mid a first.0 answers) e

      bound-waits : (ms : List Mark) (action : Action) → AnswerSteps IsMark (bind g f) ms → (q : Progress A) → g ms ≡ q → and_then q f ≡ Waits action → IsStep action
      bound-waits ms action answers (Known a mid) e h = then-waits ms mid a action answers (s.known ms mid a (left_answers g f ms answers) e) h
      bound-waits ms action answers (Waits other) e h = s.waits ms action (left_answers g f ms answers) (e ∙ ap (λ (x : Action). Waits x) (same_action (and_then (Waits other) f) other action refl h))
      bound-waits ms action answers (Traps mid) e h = absurd (cc)

      pub works_bind : Works IsMark IsStep Q (bind g f)
      works_bind = record { known = λ ms rest b answers h. bound ms rest b answers (g ms) refl h; waits = λ ms action answers h. bound-waits ms action answers (g ms) refl h }

    pub works_needs : {A B : Type 0} (Q : B → Type 0) (v : Option A) (f : A → Get B) → ((a : A) → v ≡ Some a → Works IsMark IsStep Q (f a)) → Works IsMark IsStep Q (needs v f)
    works_needs Q None f h = works_trap Q
    works_needs Q (Some a) f h = h a refl

    -- whatever else holds of what is given
    pub works_and : {A : Type 0} (P Q : A → Type 0) (g : Get A) → Works IsMark IsStep P g → ((ms rest : List Mark) (a : A) → g ms ≡ Known a rest → Q a) → Works IsMark IsStep (λ a. P a × Q a) g
    works_and P Q g w h = record {
      known = λ ms rest a answers e. let u = w.known ms rest a answers e in (u.0, (u.1, h ms rest a e));
      waits = w.waits;
    }

    -- and what follows from it
    pub works_as : {A : Type 0} (P Q : A → Type 0) (g : Get A) → ((a : A) → P a → Q a) → Works IsMark IsStep P g → Works IsMark IsStep Q g
    works_as P Q g k w = record {
      known = λ ms rest a answers e. let u = w.known ms rest a answers e in (u.0, k a u.1);
      waits = w.waits;
    }

    -- ---- what is left behind the mark of the first step

    used_behind : {A : Type 0} (g : Get A) (action : Action) (m : Mark) (ms rest : List Mark) (a : A) → g [] ≡ Waits action → IsUsed g (Known a) (m ∷ ms) rest → IsUsed (after g m) (Known a) ms rest
    used_behind {A = A} g action m ms rest a asks u = by_used u.0 u.1 u.2
      where
        by_used : (used : List Mark) → m ∷ ms ≡ used ++ rest → ((more : List Mark) → g (used ++ more) ≡ Known a more) → IsUsed (after g m) (Known a) ms rest
        by_used [] e all = let k = all [] in absurd (cc)
        by_used (x ∷ used) e all =
            let k : m ≡ x = cc in
            let l : ms ≡ used ++ rest = cc in
            (used, l, λ more. ap (λ (y : Mark). g (y ∷ (used ++ more))) k ∙ all more)

    pub works_after : {A : Type 0} (P : A → Type 0) (g : Get A) (action : Action) (m : Mark) → g [] ≡ Waits action → IsMark action m → Works IsMark IsStep P g → Works IsMark IsStep P (after g m)
    works_after P g action m asks fits w = record {
      known = λ ms rest a answers e. let u = w.known (m ∷ ms) rest a (answers_before g action m asks fits ms answers) e in (used_behind g action m ms rest a asks u.0, u.1);
      waits = λ ms other answers e. w.waits (m ∷ ms) other (answers_before g action m asks fits ms answers) e;
    }

    -- ---- branches

    abbrev Anything : Option Bool → Type 0
    Anything b = Unit {0}

    pub works_branch : (pure : Bool) (v : Option Value) → ((b : Option Bool) → IsStep (Choose b)) → Works IsMark IsStep Anything (branch pure v)
    works_branch true v h = works_ask Anything (Choose (truth v)) chosen (h (truth v)) (λ m i. tt)
    works_branch false v h = works_needs Anything (truth v) (λ b. ask (Choose (Some b)) chosen) (λ b e. works_ask Anything (Choose (Some b)) chosen (h (Some b)) (λ m i. tt))

    pub works_outcome : (P : Option Value → Type 0) (pure : Bool) (v : Option Value) → P v → Works IsMark IsStep P (outcome pure v)
    works_outcome P true v h = works_known P v h
    works_outcome P false v h = works_needs P v (λ w. known (Some w)) (λ w e. works_known P (Some w) (subst P e h))

    pub works_arms : (P : Option Value → Type 0) (these those : Get (Option Value)) → P None → Works IsMark IsStep P these → Works IsMark IsStep P those → (b : Option Bool) → Works IsMark IsStep P (arms these those b)
    works_arms P these those n h k None = works_known P None n
    works_arms P these those n h k (Some true) = h
    works_arms P these those n h k (Some false) = k

    pub works_choice : (P Q : Option Value → Type 0) (pure : Bool) (condition these those : Get (Option Value)) → ((b : Option Bool) → IsStep (Choose b)) → Q None → Works IsMark IsStep P condition →
        Works IsMark IsStep Q these → Works IsMark IsStep Q those → Works IsMark IsStep Q (choice pure condition these those)
    works_choice P Q pure condition these those i n g h k =
        works_bind P Q condition (λ v. bind (branch pure v) (arms (bind these (outcome pure)) (bind those (outcome pure)))) g
        (λ v m. works_bind Anything Q (branch pure v) (arms (bind these (outcome pure)) (bind those (outcome pure))) (works_branch pure v i)
        (λ b l. works_arms Q (bind these (outcome pure)) (bind those (outcome pure)) n
        (works_bind Q Q these (outcome pure) h (works_outcome Q pure)) (works_bind Q Q those (outcome pure) k (works_outcome Q pure)) b))

-- what is made of what is given
pub gives_made : {A B : Type 0} (Q : B → Type 0) (g : Get A) (f : A → B) → ((a : A) → Q (f a)) → (ms rest : List Mark) (b : B) → bind g (λ a. known (f a)) ms ≡ Known b rest → Q b
gives_made {A = A} Q g f h ms rest b e = by_progress (g ms) e
  where
    by_progress : (q : Progress A) → and_then q (λ a. known (f a)) ≡ Known b rest → Q b
    by_progress (Known a mid) e = subst Q (same_known (f a) b mid rest e) (h a)
    by_progress (Waits action) e = absurd (cc)
    by_progress (Traps mid) e = absurd (cc)
