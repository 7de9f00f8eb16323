-- Steps that nothing else can see are silent steps of the program, and go by writes of other locals.
use Rattle.std.proofs.lemmas.Bool.{eq-eqb}
use Rattle.std.proofs.Common.{◌≡◌, ◌∙◌, ◌∷◌, ◌==◌, if◌then◌else◌, ℕ, Bool, true, false, List, Option, Some, None, option_and_then, slice_get, refl, ap, sym, subst}
use Rattle.cc_steps.specs.CcCells.Cells.{scalar_in, with_scalar}
use Rattle.cc_steps.specs.CcEval.declared.action.Action.{Action}
use Rattle.cc_steps.specs.CcEval.declared.action.Action.TheVariants.{Read, Write, Choose}
use Rattle.cc_steps.specs.CcEval.declared.action.Manner.{Manner}
use Rattle.cc_steps.specs.CcEval.declared.mark.Mark.{Mark}
use Rattle.cc_steps.specs.CcEval.declared.mark.Mark.TheVariants.{Gave, Did, Chose}
use Rattle.cc_program.specs.declared.func.Func.{Func}
use Rattle.cc_program.specs.declared.program.Program.{Program}
use Rattle.cc_program.specs.declared.value.Value.{Value}
use Rattle.cc_steps.specs.declared.content.Content.{Content}
use Rattle.cc_steps.specs.declared.content.Content.TheVariants.{Unwritten, Holds}
use Rattle.cc_steps.specs.declared.event.End.TheVariants.{Trap}
use Rattle.cc_steps.specs.declared.event.Event.TheVariants as event
use Rattle.cc_steps.specs.Access.{content, local_content, with_locals, is_open, with_local}
use Rattle.cc_steps.specs.State.{Active, IsSameCall, Memory, locals_with}
use Rattle.cc_steps.specs.Step.{activation, stopped, with_event, marked, did, has_read, has_written, perform, proceed}
use Rattle.cc_meaning_simulations.proofs.Turns.{IsSameCall-trans}
use Rattle.cc_meaning_simulations.specs.LocalSteps.{Branch, Jump, LocalState, LocalStep, Locals, ReadHidden, ReadUnwritten, ReadingUnwritten, Trapping, TrapsNext, WriteHidden, after_write, begun_state, local_state, local_state_of, own_local}
use Rattle.cc_meaning_simulations.specs.StepSimulations.{IsSilent, going}
use Rattle.cc_meaning_simulations.specs.Transitions.{Aborts, ControlState, Performs, control_state, marked_control, transition}
use Rattle.cc_steps.proofs.CellsApart.{apart, elsewhere}
use Rattle.cc_meaning_simulations.proofs.TransitionLemmas.{Becomes, IsSameActivation, becomes, begun-control, has_jumped, jump_same, jumped, marked-control, marked-keeps, marked_same}

pub begun-local_state : (p : Program) (number id : ℕ) (handler : Bool) (args : List Value) (f : Func) → local_state_of (activation p number id handler args f) ≡ begun_state p number id args f
begun-local_state p number id handler args f = ap (λ (c : ControlState). local_state c (locals_with p args f.locals)) (begun-control p number id handler args f)

module _ (hidden : ℕ → ℕ → Bool) where
  pub differ : {B : Type 0} → false ≡ true → B
  differ h = absurd (cc)

  pub not_same : (f r local : ℕ) → hidden f r ≡ true → hidden f local ≡ false → local ≡ r → ⊥
  not_same f r local h k e = differ (sym k ∙ ap (hidden f) e ∙ h)

  content_apart : (l : Locals) (f r local i : ℕ) (v : Value) → hidden f r ≡ true → hidden f local ≡ false → content (scalar_in (with_scalar l local i (Some v)) r 0) ≡ content (scalar_in l r 0)
  content_apart l f r local i v h k = ap (λ (x : Option (List (Option Value))). content (option_and_then (λ scalars. slice_get scalars 0) x)) (elsewhere l local r i (Some v) (not_same f r local h k))

  pub local_step_same : (p : Program) (s t : LocalState) → LocalStep hidden p s t → IsSameActivation p t.control s.control
  local_step_same p _ _ (Jump a c l d) = jump_same p a c d
  local_step_same p _ _ (ReadHidden a l r manner v d k e g) = marked_same p a (Gave (Some v))
  local_step_same p _ _ (ReadUnwritten a l r manner d k e g) = marked_same p a (Gave None)
  local_step_same p _ _ (WriteHidden a l r v d k) = marked_same p a Did
  local_step_same p _ _ (Branch a l b d) = marked_same p a (Chose b)

  pub local_step_after_write : (p : Program) (s t : LocalState) (local i : ℕ) (v : Value) → hidden s.control.func local ≡ false → LocalStep hidden p s t → LocalStep hidden p (after_write s local i v) (after_write t local i v)
  local_step_after_write p _ _ local i v h (Jump a c l d) = Jump a c (with_scalar l local i (Some v)) d
  local_step_after_write p _ _ local i v h (ReadHidden a l r manner w d k e g) = ReadHidden a (with_scalar l local i (Some v)) r manner w d k e (content_apart l a.func r local i v k h ∙ g)
  local_step_after_write p _ _ local i v h (ReadUnwritten a l r manner d k e g) = ReadUnwritten a (with_scalar l local i (Some v)) r manner d k e (content_apart l a.func r local i v k h ∙ g)
  local_step_after_write p _ _ local i v h (WriteHidden a l r w d k) =
      subst (λ (c : Locals). LocalStep hidden p (local_state a (with_scalar l local i (Some v))) (local_state (marked_control p a Did) c)) (apart l local r i 0 (Some v) (Some w) (not_same a.func r local k h)) (WriteHidden a (with_scalar l local i (Some v)) r w d k)
  local_step_after_write p _ _ local i v h (Branch a l b d) = Branch a (with_scalar l local i (Some v)) b d

  pub traps_after_write : (p : Program) (s : LocalState) (local i : ℕ) (v : Value) → hidden s.control.func local ≡ false → TrapsNext hidden p s → TrapsNext hidden p (after_write s local i v)
  traps_after_write p _ local i v h (Trapping a l d) = Trapping a (with_scalar l local i (Some v)) d
  traps_after_write p _ local i v h (ReadingUnwritten a l r manner d k e g) = ReadingUnwritten a (with_scalar l local i (Some v)) r manner d k e (content_apart l a.func r local i v k h ∙ g)

  -- ---- such a step is one of the program's, and silent

  -- where it leads
  pub record IsLocalStepMade (p : Program) (m : Memory) (x : Active) (t : LocalState) : Type 0 where
    pub to : Active
    pub silent : IsSilent p m x m to
    pub there : local_state_of to ≡ t

  self : (x : Active) → (x.number == x.number) ≡ true
  self x = eq-eqb x.number x.number refl

  becomes_act : (p : Program) (m : Memory) (x : Active) (below : List Active) (opened : ℕ) (action : Action) → transition p (control_state x) ≡ Performs action →
      proceed p (going m (x ∷ below) opened) (x ∷ below) ≡ perform p (going m (x ∷ below) opened) action
  becomes_act p m x below opened action h =
      subst (Becomes p (going m (x ∷ below) opened) x below (jumped p x) (proceed p (going m (x ∷ below) opened) (x ∷ below))) h (becomes p m x below opened)

  marked_local_state : (p : Program) (x y : Active) (k : Mark) → IsSameCall y x → control_state y ≡ control_state x → local_state_of (marked p y k) ≡ local_state (marked_control p (control_state x) k) y.locals
  marked_local_state p x y k s e = λ i. local_state ((marked-control p y k ∙ ap (λ (a : ControlState). marked_control p a k) e) i) ((marked-keeps p y k).locals i)

  marks_call : (p : Program) (x y : Active) (k : Mark) → IsSameCall y x → IsSameCall (marked p y k) x
  marks_call p x y k s = IsSameCall-trans (marked p y k) y x (marked-keeps p y k).call s

  itself : (x : Active) → IsSameCall x x
  itself x = record { number = refl; func = refl; handler = refl }

  held_here : (x : Active) (below : List Active) (r : ℕ) → local_content (x ∷ below) x.number r 0 ≡ content (scalar_in x.locals r 0)
  held_here x below r = ap (λ (b : Bool). if b then content (scalar_in x.locals r 0) else local_content below x.number r 0) (self x)

  read_step : (p : Program) (m : Memory) (x : Active) (below : List Active) (opened r : ℕ) (manner : Manner) (c : Content) → content (scalar_in x.locals r 0) ≡ c →
      perform p (going m (x ∷ below) opened) (Read (own_local (control_state x) r) manner) ≡ has_read p (going m (x ∷ below) opened) (own_local (control_state x) r) manner c
  read_step p m x below opened r manner c h = ap (has_read p (going m (x ∷ below) opened) (own_local (control_state x) r) manner) (held_here x below r ∙ h)

  write_step : (p : Program) (m : Memory) (x : Active) (below : List Active) (opened r : ℕ) (v : Value) →
      perform p (going m (x ∷ below) opened) (Write (own_local (control_state x) r) false v) ≡ going m (marked p (with_locals x (with_scalar x.locals r 0 (Some v))) Did ∷ below) opened
  write_step p m x below opened r v =
      ap (λ (b : Bool). has_written p (own_local (control_state x) r) false v (going m (x ∷ below) opened) (if (if b then true else is_open below x.number) then Some (going m (if b then with_locals x (with_scalar x.locals r 0 (Some v)) ∷ below else x ∷ with_local below x.number r 0 v) opened) else None)) (self x)

  pub local_step_made : (p : Program) (m : Memory) (s t : LocalState) → LocalStep hidden p s t → (x : Active) → local_state_of x ≡ s → IsLocalStepMade p m x t
  local_step_made p m _ _ (Jump a c l d) x e =
      let g = has_jumped p m x c (ap (λ (s : LocalState). transition p s.control) e ∙ d) in
      record { to = jumped p x; silent = g.silent; there = (λ i. local_state (g.control i) (g.locals i)) ∙ ap (λ (s : LocalState). local_state c s.locals) e }
  local_step_made p m _ _ (ReadHidden a l r manner v d k n g) x e =
      let held : content (scalar_in x.locals r 0) ≡ Holds v = ap (λ (s : LocalState). content (scalar_in s.locals r 0)) e ∙ g in
      let act : transition p (control_state x) ≡ Performs (Read (own_local (control_state x) r) manner) = ap (λ (s : LocalState). transition p s.control) e ∙ d ∙ ap (λ (s : LocalState). Performs (Read (own_local s.control r) manner)) (sym e) in
      record {
        to = marked p x (Gave (Some v));
        silent = record {
          same = marks_call p x x (Gave (Some v)) (itself x);
          step = λ below opened. becomes_act p m x below opened _ act ∙ read_step p m x below opened r manner (Holds v) held
              ∙ ap (λ (b : Bool). did p (with_event b (going m (x ∷ below) opened) (event.Read (own_local (control_state x) r) v)) (Gave (Some v))) n;
        };
        there = marked_local_state p x x (Gave (Some v)) (itself x) refl ∙ ap (λ (s : LocalState). local_state (marked_control p s.control (Gave (Some v))) s.locals) e;
      }
  local_step_made p m _ _ (ReadUnwritten a l r manner d k n g) x e =
      let held : content (scalar_in x.locals r 0) ≡ Unwritten = ap (λ (s : LocalState). content (scalar_in s.locals r 0)) e ∙ g in
      let act : transition p (control_state x) ≡ Performs (Read (own_local (control_state x) r) manner) = ap (λ (s : LocalState). transition p s.control) e ∙ d ∙ ap (λ (s : LocalState). Performs (Read (own_local s.control r) manner)) (sym e) in
      record {
        to = marked p x (Gave None);
        silent = record {
          same = marks_call p x x (Gave None) (itself x);
          step = λ below opened. becomes_act p m x below opened _ act ∙ read_step p m x below opened r manner Unwritten held
              ∙ ap (λ (b : Bool). if b then did p (going m (x ∷ below) opened) (Gave None) else stopped (going m (x ∷ below) opened) Trap) n;
        };
        there = marked_local_state p x x (Gave None) (itself x) refl ∙ ap (λ (s : LocalState). local_state (marked_control p s.control (Gave None)) s.locals) e;
      }
  local_step_made p m _ _ (WriteHidden a l r v d k) x e =
      let act : transition p (control_state x) ≡ Performs (Write (own_local (control_state x) r) false v) = ap (λ (s : LocalState). transition p s.control) e ∙ d ∙ ap (λ (s : LocalState). Performs (Write (own_local s.control r) false v)) (sym e) in
      let y : Active = with_locals x (with_scalar x.locals r 0 (Some v)) in
      record {
        to = marked p y Did;
        silent = record {
          same = marks_call p x y Did (record { number = refl; func = refl; handler = refl });
          step = λ below opened. becomes_act p m x below opened _ act ∙ write_step p m x below opened r v;
        };
        there = marked_local_state p x y Did (record { number = refl; func = refl; handler = refl }) refl ∙ ap (λ (s : LocalState). local_state (marked_control p s.control Did) (with_scalar s.locals r 0 (Some v))) e;
      }
  local_step_made p m _ _ (Branch a l b d) x e =
      record {
        to = marked p x (Chose b);
        silent = record {
          same = marks_call p x x (Chose b) (itself x);
          step = λ below opened. becomes_act p m x below opened (Choose b) (ap (λ (s : LocalState). transition p s.control) e ∙ d);
        };
        there = marked_local_state p x x (Chose b) (itself x) refl ∙ ap (λ (s : LocalState). local_state (marked_control p s.control (Chose b)) s.locals) e;
      }

  -- ---- where one traps next, the run ends

  aborts_there : (p : Program) (m : Memory) (x : Active) (below : List Active) (opened : ℕ) → transition p (control_state x) ≡ Aborts → proceed p (going m (x ∷ below) opened) (x ∷ below) ≡ stopped (going m (x ∷ below) opened) Trap
  aborts_there p m x below opened h = subst (Becomes p (going m (x ∷ below) opened) x below (jumped p x) (proceed p (going m (x ∷ below) opened) (x ∷ below))) h (becomes p m x below opened)

  pub traps_next : (p : Program) (m : Memory) (s : LocalState) → TrapsNext hidden p s → (x : Active) → local_state_of x ≡ s → (below : List Active) (opened : ℕ) →
      proceed p (going m (x ∷ below) opened) (x ∷ below) ≡ stopped (going m (x ∷ below) opened) Trap
  traps_next p m _ (Trapping a l d) x e below opened = aborts_there p m x below opened (ap (λ (s : LocalState). transition p s.control) e ∙ d)
  traps_next p m _ (ReadingUnwritten a l r manner d k n g) x e below opened =
      let held : content (scalar_in x.locals r 0) ≡ Unwritten = ap (λ (s : LocalState). content (scalar_in s.locals r 0)) e ∙ g in
      let act : transition p (control_state x) ≡ Performs (Read (own_local (control_state x) r) manner) = ap (λ (s : LocalState). transition p s.control) e ∙ d ∙ ap (λ (s : LocalState). Performs (Read (own_local s.control r) manner)) (sym e) in
      becomes_act p m x below opened _ act ∙ read_step p m x below opened r manner Unwritten held
      ∙ ap (λ (b : Bool). if b then did p (going m (x ∷ below) opened) (Gave None) else stopped (going m (x ∷ below) opened) Trap) n
