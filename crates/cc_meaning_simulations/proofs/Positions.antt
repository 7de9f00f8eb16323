-- Positions play no part in turns, entries and boundaries: a program makes the same steps as itself from states that are equal but for them.
use Rattle.std.proofs.Common.{◌≡◌, ◌∙◌, ◌∷◌, ◌&&◌, ◌||◌, ℕ, Bool, true, false, not, List, [], map, Option, Some, None, option_map, slice_get, inr, refl, ap, sym, subst, if◌then◌else◌}
use Rattle.std.specs.Prelude.{max, is_some, nat_eq, nat_lt}
use Rattle.cc_steps.specs.CcEval.declared.mark.Mark.{Mark}
use Rattle.cc_program.specs.declared.func.Func.{Func}
use Rattle.cc_program.specs.declared.program.Program.{Program}
use Rattle.cc_program.specs.declared.stmt.Stmt.{Stmt}
use Rattle.cc_program.specs.declared.value.Value.{Value}
use Rattle.cc_steps.specs.declared.event.End.{End}
use Rattle.cc_steps.specs.declared.event.End.TheVariants.{Going}
use Rattle.cc_steps.specs.Runs.{IsBoundary, running_begins}
use Rattle.cc_steps.specs.State.{Active, IsSameCall, Memory, State}
use Rattle.cc_steps.specs.Step.{activation, proceed}
use Rattle.cc_steps.specs.Turn.{is_going, only_handler, level_of, running_level, entering, entered, enters, turn, turn_by}
use Rattle.cc_meaning_simulations.specs.Bodies.{with_funcs, with_body, extended, all_extended}
use Rattle.cc_meaning_simulations.specs.Continuations.{resume}
use Rattle.cc_meaning_simulations.specs.LocalSimulations.{AreAlike}
use Rattle.cc_meaning_simulations.specs.LocalSteps.{LocalState, local_state, local_state_of, begun_state, after_write}
use Rattle.cc_meaning_simulations.specs.Positions.{AreActivesEqual, AreEqualButPositions}
use Rattle.cc_meaning_simulations.specs.StepSimulations.{going}
use Rattle.cc_meaning_simulations.specs.Transitions.{control_state, control_at, is_at_boundary, Transition, FallsOff, Performs, Aborts, Jumps, Returns, jump_to, marked_control, transition}
use Rattle.cc_meaning_simulations.proofs.Actions as actions
use Rattle.cc_meaning_simulations.proofs.Locksteps.{none, hides, none_added, with_bodies-extended, action_visible}
use Rattle.cc_meaning_simulations.proofs.MoreLocals.{locals_alike}
use Rattle.cc_meaning_simulations.proofs.Turns.{going_is}

abbrev body_of : Func → List Stmt
body_of f = f.body

module _ (P : Program) where
  -- the program itself, as one with the same bodies
  abbrev Copy : Program
  Copy = all_extended none body_of P

  same_funcs : (fs : List Func) → fs ≡ map (with_body body_of) fs
  same_funcs [] = refl
  same_funcs (f ∷ fs) = λ i. f ∷ same_funcs fs i

  copied : P ≡ Copy
  copied = ap (with_funcs P) (same_funcs P.funcs) ∙ with_bodies-extended body_of P

  abbrev Equal : LocalState → LocalState → Type 0
  Equal q p = q ≡ p

  marked_equal : (q p : LocalState) → Equal q p → (m : Mark) → actions.any_mark p m → Equal (local_state (marked_control Copy q.control m) q.locals) (local_state (marked_control P p.control m) p.locals)
  marked_equal q p h m fit = ap (λ (x : LocalState). local_state (marked_control Copy x.control m) x.locals) h ∙ ap (λ (Q : Program). local_state (marked_control Q p.control m) p.locals) (sym copied)

  written_equal : (q p : LocalState) → Equal q p → q.control.func ≡ p.control.func → (local i : ℕ) (v : Value) → hides p.control.func local ≡ false → Equal (after_write q local i v) (after_write p local i v)
  written_equal q p h f local i v k = ap (λ (x : LocalState). after_write x local i v) h

  begins : (number id : ℕ) (args : List Value) (f : Func) → slice_get P.funcs id ≡ Some f → actions.any_arguments number id args → Equal (begun_state Copy number id args (extended none body_of f)) (begun_state P number id args f)
  begins number id args f e opens = λ i. local_state (jump_to (sym copied i) (control_at number id) (resume f.body [])) (locals_alike none body_of P P Copy refl args f.locals [] refl i)

  alike_itself : (q : LocalState) (x : Transition) → AreAlike hides Equal Equal q q x x
  alike_itself q FallsOff = tt
  alike_itself q (Performs a) = (refl, refl)
  alike_itself q Aborts = tt
  alike_itself q (Jumps c) = refl
  alike_itself q (Returns v) = refl

  alike : (q p : LocalState) → Equal q p → AreAlike hides Equal Equal q p (transition Copy q.control) (transition P p.control)
  alike q p h =
      subst (λ (x : LocalState). AreAlike hides Equal Equal x p (transition Copy x.control) (transition P p.control)) (sym h)
      (subst (λ (Q : Program). AreAlike hides Equal Equal p p (transition Q p.control) (transition P p.control)) copied (alike_itself p (transition P p.control)))

  abbrev Below : Bool → List Active → List Active → Type 0
  Below c qs ps = actions.Below none body_of P none_added hides Equal Equal actions.any_mark actions.any_arguments marked_equal c qs ps

  abbrev Suspended : Bool → Active → Active → Type 0
  Suspended c q p = actions.Suspended none body_of P none_added hides Equal Equal actions.any_mark actions.any_arguments marked_equal c q p

  abbrev Agree : State → State → Type 0
  Agree s t = actions.Agree none body_of P none_added hides Equal Equal actions.any_mark actions.any_arguments marked_equal s t

  suspended : (c : Bool) (q p : Active) → q.locals ≡ p.locals → control_state q ≡ control_state p → Suspended c q p
  suspended true q p l h = ((λ local k. ap (λ x. slice_get x local) l), λ i. local_state (h i) (l i))
  suspended false q p l h = ((λ local k. ap (λ x. slice_get x local) l), λ i. local_state (h i) (l i))

  is_suspended : (c : Bool) (q p : Active) → Suspended c q p → (q.locals ≡ p.locals) × (control_state q ≡ control_state p)
  is_suspended true q p h = (ap (λ (s : LocalState). s.locals) h.1, ap (λ (s : LocalState). s.control) h.1)
  is_suspended false q p h = (ap (λ (s : LocalState). s.locals) h.1, ap (λ (s : LocalState). s.control) h.1)

  below : (c : Bool) (qs ps : List Active) → AreActivesEqual qs ps → Below c qs ps
  below c [] [] h = tt
  below c (q ∷ qs) (p ∷ ps) h = (h.0, suspended c q p h.1 h.2, below (not p.handler) qs ps h.3)
  below c [] (p ∷ ps) h = absurd h
  below c (q ∷ qs) [] h = absurd h

  equal : (c : Bool) (qs ps : List Active) → Below c qs ps → AreActivesEqual qs ps
  equal c [] [] h = tt
  equal c (q ∷ qs) (p ∷ ps) h = let s = is_suspended c q p h.1 in (h.0, s.0, s.1, equal (not p.handler) qs ps h.2)
  equal c [] (p ∷ ps) h = absurd h
  equal c (q ∷ qs) [] h = absurd h

  on_equal : (qs ps : List Active) → actions.On none body_of P none_added hides Equal Equal actions.any_mark actions.any_arguments marked_equal qs ps → AreActivesEqual qs ps
  on_equal (q ∷ qs) (p ∷ ps) h = let s = is_suspended false q p h.1 in (h.0, s.0, s.1, equal (not p.handler) qs ps h.2)
  on_equal [] [] h = absurd h
  on_equal [] (p ∷ ps) h = absurd h
  on_equal (q ∷ qs) [] h = absurd h

  agreed : (s t : State) → Agree s t → AreEqualButPositions s t
  agreed s t h = record { memory = h.memory; end = h.end; alive = λ g. let a = h.alive g in (a.0, on_equal s.stack t.stack a.1) }

  -- ---- steps

  abbrev StepsAlike : Program → Type 0
  StepsAlike Q = (m : Memory) (q p : Active) (qs ps : List Active) (o : ℕ) → AreActivesEqual (q ∷ qs) (p ∷ ps) → AreEqualButPositions (proceed Q (going m (q ∷ qs) o) (q ∷ qs)) (proceed P (going m (p ∷ ps) o) (p ∷ ps))

  copy_steps : StepsAlike Copy
  copy_steps m q p qs ps o h =
      agreed _ _
      (actions.alike_agrees none body_of P none_added hides Equal Equal actions.any_mark actions.any_arguments marked_equal (λ id f e local h. inr refl) written_equal written_equal (λ p m local i v h fit. tt) begins ps o m q p (suspended false q p h.1 h.2).0
      (λ x e. action_visible (p ∷ ps) x) (actions.any_fitting P m p ps o) (alike (local_state_of q) (local_state_of p) (suspended false q p h.1 h.2).1) qs h.0 (below (not p.handler) qs ps h.3))

  steps : StepsAlike P
  steps = subst StepsAlike (sym copied) copy_steps

  -- ---- turns

  level_same : (qs ps : List Active) → AreActivesEqual qs ps → running_level P qs ≡ running_level P ps
  level_same [] [] h = refl
  level_same (q ∷ qs) (p ∷ ps) h = λ i. if h.0.handler i then max (level_of P (h.0.func i)) (level_same qs ps h.3 i) else level_same qs ps h.3 i
  level_same [] (p ∷ ps) h = absurd h
  level_same (q ∷ qs) [] h = absurd h

  abbrev entering_by : ℕ → Bool → Bool → ℕ → Option (ℕ × Func)
  entering_by h g b l = if g && (b && (nat_eq (level_of P h) 0 || nat_lt l (level_of P h))) then option_map (λ f. (h, f)) (only_handler (slice_get P.funcs h)) else None

  entering_same : (s t : State) → AreEqualButPositions s t → (arrival : Option ℕ) → entering P s arrival ≡ entering P t arrival
  entering_same s t e None = refl
  entering_same s t e (Some h) =
      ap (λ (x : End). entering_by h (is_going x) s.memory.flag (running_level P s.stack)) e.end ∙ ap (λ (m : Memory). entering_by h (is_going t.end) m.flag (running_level P s.stack)) e.memory ∙ by_going (is_going t.end) refl
    where
      by_going : (g : Bool) → is_going t.end ≡ g → entering_by h g t.memory.flag (running_level P s.stack) ≡ entering_by h g t.memory.flag (running_level P t.stack)
      by_going true k = ap (entering_by h true t.memory.flag) (level_same s.stack t.stack (e.alive k).1)
      by_going false k = refl

  pub enters_same : (s t : State) → AreEqualButPositions s t → (arrival : Option ℕ) → enters P s arrival ≡ enters P t arrival
  enters_same s t e arrival = ap is_some (entering_same s t e arrival)

  begins_same : (qs ps : List Active) → AreActivesEqual qs ps → running_begins qs ≡ running_begins ps
  begins_same [] [] h = refl
  begins_same (q ∷ qs) (p ∷ ps) h = ap is_at_boundary h.2
  begins_same [] (p ∷ ps) h = absurd h
  begins_same (q ∷ qs) [] h = absurd h

  pub boundary_same : (s t : State) → AreEqualButPositions s t → IsBoundary s → IsBoundary t
  boundary_same s t e b = by_going (is_going t.end) refl (sym (ap (λ (x : End). running_begins s.stack && is_going x) e.end) ∙ b)
    where
      by_going : (g : Bool) → is_going t.end ≡ g → (running_begins s.stack && is_going t.end) ≡ true → (running_begins t.stack && is_going t.end) ≡ true
      by_going true k h = ap (λ (b : Bool). b && is_going t.end) (sym (begins_same s.stack t.stack (e.alive k).1)) ∙ h
      by_going false k h = absurd (never (running_begins s.stack) (ap (λ (g : Bool). running_begins s.stack && g) (sym k) ∙ h))
        where
          never : (b : Bool) → (b && false) ≡ true → ⊥
          never true h = absurd (cc)
          never false h = absurd (cc)

  as_going : (s : State) → s.end ≡ Going → going s.memory s.stack s.opened ≡ s
  as_going s e = λ i. record { memory = s.memory; stack = s.stack; opened = s.opened; end = sym e i }

  step_stacks : (m n : Memory) (qs ps : List Active) (o o' : ℕ) → m ≡ n → o ≡ o' → AreActivesEqual qs ps → AreEqualButPositions (proceed P (going m qs o) qs) (proceed P (going n ps o') ps)
  step_stacks m n [] [] o o' e f h = record { memory = e; end = refl; alive = λ g. absurd (cc) }
  step_stacks m n (q ∷ qs) (p ∷ ps) o o' e f h =
      subst (λ (x : Memory). AreEqualButPositions (proceed P (going m (q ∷ qs) o) (q ∷ qs)) (proceed P (going x (p ∷ ps) o') (p ∷ ps))) e
      (subst (λ (x : ℕ). AreEqualButPositions (proceed P (going m (q ∷ qs) o) (q ∷ qs)) (proceed P (going m (p ∷ ps) x) (p ∷ ps))) f (steps m q p qs ps o h))
  step_stacks m n [] (p ∷ ps) o o' e f h = absurd h
  step_stacks m n (q ∷ qs) [] o o' e f h = absurd h

  proceeds : (s t : State) → AreEqualButPositions s t → (g : Bool) → is_going t.end ≡ g → AreEqualButPositions (if is_going s.end then proceed P s s.stack else s) (if is_going t.end then proceed P t t.stack else t)
  proceeds s t e false k =
      subst (λ (x : State). AreEqualButPositions x (if is_going t.end then proceed P t t.stack else t)) (sym (ap (λ (b : Bool). if b then proceed P s s.stack else s) (ap is_going e.end ∙ k)))
      (subst (λ (x : State). AreEqualButPositions s x) (sym (ap (λ (b : Bool). if b then proceed P t t.stack else t) k)) e)
  proceeds s t e true k =
      let on : t.end ≡ Going = going_is t.end k in
      let a = e.alive k in
      subst (λ (x : State). AreEqualButPositions x (if is_going t.end then proceed P t t.stack else t)) (sym (ap (λ (b : Bool). if b then proceed P s s.stack else s) (ap is_going e.end ∙ k)))
      (subst (λ (x : State). AreEqualButPositions (proceed P s s.stack) x) (sym (ap (λ (b : Bool). if b then proceed P t t.stack else t) k))
      (subst (λ (x : State). AreEqualButPositions (proceed P x s.stack) (proceed P t t.stack)) (as_going s (e.end ∙ on))
      (subst (λ (x : State). AreEqualButPositions (proceed P (going s.memory s.stack s.opened) s.stack) (proceed P x t.stack)) (as_going t on)
      (step_stacks s.memory t.memory s.stack t.stack s.opened t.opened e.memory a.0 a.1))))

  turn_same_by : (s t : State) → AreEqualButPositions s t → (x : Option (ℕ × Func)) → AreEqualButPositions (turn_by P s x) (turn_by P t x)
  turn_same_by s t e None = proceeds s t e (is_going t.end) refl
  turn_same_by s t e (Some h) = record {
    memory = ap (λ (m : Memory). (entered P (record { memory = m; stack = s.stack; opened = s.opened; end = s.end }) h).memory) e.memory;
    end = e.end;
    alive = λ g. let a = e.alive g in (ap (λ (n : ℕ). (entered P (record { memory = s.memory; stack = s.stack; opened = n; end = s.end }) h).opened) a.0, (new a.0, refl, ap (λ (n : ℕ). control_state (first n)) a.0, a.1));
  }
    where
      first : ℕ → Active
      first n = activation P n h.0 true [] h.1

      new : s.opened ≡ t.opened → IsSameCall (first s.opened) (first t.opened)
      new f = record { number = f; func = refl; handler = refl }

  pub turn_same : (s t : State) → AreEqualButPositions s t → (arrival : Option ℕ) → AreEqualButPositions (turn P s arrival) (turn P t arrival)
  turn_same s t e arrival = subst (λ (x : Option (ℕ × Func)). AreEqualButPositions (turn_by P s x) (turn P t arrival)) (sym (entering_same s t e arrival)) (turn_same_by s t e (entering P t arrival))
