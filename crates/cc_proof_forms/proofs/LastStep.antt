-- A full expression whose last step is known apart: what asks for operands, and then for one step. Where it waits, it waits for an operand,
-- and is not known after any mark; or the operands are known, and it is known after the mark of the one step.
use Rattle.std.proofs.Common.{◌≡◌, ◌⊎◌, inl, inr, List, [], ◌∷◌, ◌++◌, append-nil, refl, ap, sym, ◌∙◌}
use Rattle.cc_flow_sound.specs.CcEval.declared.action.Action.{Action}
use Rattle.cc_flow_sound.specs.CcEval.declared.mark.Mark.{Mark}
use Rattle.cc_flow_sound.specs.CcEval.Marks.{IsUsed, UsesFirst}
use Rattle.cc_flow_sound.specs.CcEval.Progress.{Progress, Known, Waits, Traps, Get, ask, and_then, bind}
use Rattle.cc_flow_sound.proofs.CcEval.MarkLemmas.{last_or_not, IsLast}

-- one step, or a trap
abbrev pub IsOneStep : {A : Type 0} → Get A → Type 0
IsOneStep {A} h = ((ms : List Mark) → h ms ≡ Traps ms) ⊎ ((action : Action) × (k : Mark → A) × ((ms : List Mark) → h ms ≡ ask action k ms))

waits_same : {A : Type 0} → (x y : Action) (q : Progress A) → q ≡ Waits x → q ≡ Waits y → x ≡ y
waits_same x y q h k = cc

known_waits : {A : Type 0} → (q : Progress A) (v : A) (ms : List Mark) (x : Action) → q ≡ Known v ms → q ≡ Waits x → ⊥
known_waits q v ms x h k = cc

known_traps : {A : Type 0} → (q : Progress A) (v : A) (ms ns : List Mark) → q ≡ Known v ms → q ≡ Traps ns → ⊥
known_traps q v ms ns h k = cc

waits_traps : {A : Type 0} → (q : Progress A) (x : Action) (ns : List Mark) → q ≡ Waits x → q ≡ Traps ns → ⊥
waits_traps q x ns h k = cc

module _ {A B : Type 0} (g : Get A) (f : A → Get B) (uses : UsesFirst g) (one : (a : A) → IsOneStep (f a)) where
  -- an operand is asked for
  pub record IsOperand (ms : List Mark) (action : Action) : Type 0 where
    pub waits : g ms ≡ Waits action
    pub goes_on : (m : Mark) (b : B) (rest : List Mark) → bind g f (ms ++ m ∷ []) ≡ Known b rest → ⊥

  -- the one step is asked for
  pub record IsFinal (ms : List Mark) (action : Action) : Type 0 where
    pub value : A
    pub known : g ms ≡ Known value []
    pub result : Mark → B
    pub step : (ns : List Mark) → f value ns ≡ ask action result ns
    pub ends : (m : Mark) → bind g f (ms ++ m ∷ []) ≡ Known (result m) []

  -- a known value of the operands leaves marks in front of the step's
  not_yet : (a : A) (ms mid : List Mark) (m : Mark) (action : Action) → g ms ≡ Waits action → IsUsed g (Known a) (ms ++ m ∷ []) mid → mid ≡ []
  not_yet a ms [] m action w u = refl
  not_yet a ms (x ∷ mid) m action w u = absurd (by (last_or_not ms m u.0 mid x u.1))
    where
      by : IsLast ms m u.0 x → ⊥
      by (inl l) = known_waits (g ms) a [] action (ap g (sym l.0 ∙ sym (append-nil u.0)) ∙ u.2 []) w
      by (inr l) = known_waits (g ms) a (x ∷ l.0) action (ap g l.1 ∙ u.2 (x ∷ l.0)) w

  no_value_yet : (a : A) (b : B) (rest : List Mark) → f a [] ≡ Known b rest → ⊥
  no_value_yet a b rest e = by (one a)
    where
      by : IsOneStep (f a) → ⊥
      by (inl t) = known_traps (f a []) b rest [] e (t [])
      by (inr s) = known_waits (f a []) b rest s.0 e (s.2 [])

  after_by : (ms : List Mark) (m : Mark) (action : Action) → g ms ≡ Waits action → (q : Progress A) → g (ms ++ m ∷ []) ≡ q → (b : B) (rest : List Mark) → and_then q f ≡ Known b rest → ⊥
  after_by ms m action w (Waits x) e b rest h = known_waits (and_then (Waits x) f) b rest x h refl
  after_by ms m action w (Traps ns) e b rest h = known_traps (and_then (Traps ns) f) b rest ns h refl
  after_by ms m action w (Known a mid) e b rest h =
      let none : mid ≡ [] = not_yet a ms mid m action w (uses.known a (ms ++ m ∷ []) mid e) in
      no_value_yet a b rest (ap (f a) (sym none) ∙ h)

  final_by : (a : A) (ms mid : List Mark) (action : Action) → g ms ≡ Known a mid → f a mid ≡ Waits action → IsOneStep (f a) → IsFinal ms action
  final_by a ms mid action e h (inl t) = absurd (waits_traps (f a mid) action mid h (t mid))
  final_by a ms [] action e h (inr s) =
      let same : s.0 ≡ action = waits_same s.0 action (f a []) (s.2 []) h in
      let u = uses.known a ms [] e in
      let all : ms ≡ u.0 = u.1 ∙ append-nil u.0 in
      record {
        value = a;
        known = e;
        result = s.1;
        step = λ ns. s.2 ns ∙ ap (λ (x : Action). ask x s.1 ns) same;
        ends = λ m. ap (λ (ns : List Mark). bind g f (ns ++ m ∷ [])) all ∙ ap (λ q. and_then q f) (u.2 (m ∷ [])) ∙ s.2 (m ∷ []);
      }
  final_by a ms (x ∷ mid) action e h (inr s) = absurd (known_waits (f a (x ∷ mid)) (s.1 x) mid action (s.2 (x ∷ mid)) h)

  step_by : (ms : List Mark) (action : Action) (q : Progress A) → g ms ≡ q → and_then q f ≡ Waits action → IsOperand ms action ⊎ IsFinal ms action
  step_by ms action (Waits x) e h =
      let w : g ms ≡ Waits action = e ∙ ap (λ (y : Action). Waits y) (waits_same x action (and_then (Waits x) f) refl h) in
      inl (record { waits = w; goes_on = λ m b rest k. after_by ms m action w (g (ms ++ m ∷ [])) refl b rest k })
  step_by ms action (Traps ns) e h = absurd (waits_traps (and_then (Traps ns) f) action ns h refl)
  step_by ms action (Known a mid) e h = inr (final_by a ms mid action e h (one a))

  pub operand_or_final : (ms : List Mark) (action : Action) → bind g f ms ≡ Waits action → IsOperand ms action ⊎ IsFinal ms action
  operand_or_final ms action h = step_by ms action (g ms) refl h
