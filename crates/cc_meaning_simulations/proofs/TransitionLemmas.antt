-- A step of a program makes the transition of its running activation.
use Rattle.std.proofs.Common.{◌≡◌, ◌∙◌, ◌∷◌, if◌then◌else◌, ℕ, Bool, true, false, List, [], Option, Some, None, refl, ap, subst}
use Rattle.cc_steps.specs.CcControl.declared.phase.Phase.TheVariants.{First}
use Rattle.cc_program.specs.declared.func.Func.{Func}
use Rattle.cc_program.specs.declared.program.Program.{Program}
use Rattle.cc_program.specs.declared.stmt.Case.{Case}
use Rattle.cc_program.specs.declared.stmt.Stmt.{Stmt, out-Stmt}
use Rattle.cc_program.specs.declared.stmt.Stmt.TheOpen as is
use Rattle.cc_program.specs.declared.value.Value.{Value}
use Rattle.cc_steps.specs.CcControl.Control.{Control, behind, level, close}
use Rattle.cc_steps.specs.CcEval.declared.action.Action.{Action}
use Rattle.cc_steps.specs.CcEval.declared.mark.Mark.{Mark}
use Rattle.cc_steps.specs.CcEval.Progress.{Progress, Known, Waits, Traps}
use Rattle.cc_steps.specs.declared.event.End.TheVariants.{Trap}
use Rattle.cc_steps.specs.State.{Active, IsSameCall, Memory, State, locals_with}
use Rattle.cc_steps.specs.Step.{activation, stopped, with_stack, worked, is_known, at_test, moved, with_mark, next_place, is_return, passes, begun_at, goes_to, progress_of, settled_in, settled, marked, returned, fallen, perform, stepped, active_step, proceed}
use Rattle.cc_meaning_simulations.specs.Continuations.{Continuation, continuation_of, next_continuation, past, remainder_of, remainders, resume}
use Rattle.cc_meaning_simulations.specs.StepSimulations.{IsSilent, going}
use Rattle.cc_meaning_simulations.specs.Transitions.{Aborts, ControlState, FallsOff, Jumps, Performs, Returns, Transition, at_continuation, begun_there, control_at, control_state, jump_to, mark_added, marked_control, passes_at, progress_there, settled_control, settled_control_in, test_remainder, transition, transition_at, transition_in}
use Rattle.cc_meaning_simulations.proofs.ContinuationLemmas.{behind-continuation, close-continuation, next-continuation}

module _ (p : Program) where
  -- ---- marks

  either-control : (b : Bool) (x y : Active) (c d : ControlState) → control_state x ≡ c → control_state y ≡ d → control_state (if b then x else y) ≡ (if b then c else d)
  either-control true x y c d h k = h
  either-control false x y c d h k = k

  begun-either : (b : Bool) (c : Control) (x : Continuation) → continuation_of c ≡ x → continuation_of (if b then (at_test c.0, c.1) else c) ≡ (if b then (test_remainder x.0, x.1) else x)
  begun-either true c x h = ap (λ (y : Continuation). (test_remainder y.0, y.1)) h
  begun-either false c x h = h

  begun-continuation_at : (number id : ℕ) (c : Control) (x : Continuation) → continuation_of c ≡ x → continuation_of (begun_at p number id c) ≡ begun_there p number id x
  begun-continuation_at number id c x h =
      begun-either (passes p number id [] c.0) c x h
      ∙ ap (λ (y : Continuation). if passes_at p number id [] y.0 then (test_remainder x.0, x.1) else x) h

  pub jump_to-control : (a : Active) (c : Control) (x : Continuation) → continuation_of c ≡ x → control_state (goes_to p a c) ≡ jump_to p (control_state a) x
  jump_to-control a c x h = ap (at_continuation (control_state a)) (begun-continuation_at a.number a.func c x h)

  settled-control_in : (x : is.Stmt-F Stmt Case) (a : Active) → control_state (settled_in p x a) ≡ settled_control_in p x (control_state a)
  settled-control_in (is.Do e) a = either-control (is_known (progress_of p a (Some e))) (goes_to p a (behind a.here a.around)) a _ _ (jump_to-control a (behind a.here a.around) _ (behind-continuation a.here a.around)) refl
  settled-control_in (is.If e these those) a = refl
  settled-control_in (is.While e body) a = refl
  settled-control_in (is.DoWhile body e) a = refl
  settled-control_in (is.For first test again body) a = either-control (passes p a.number a.func a.marks a.here) (moved a (at_test a.here, a.around)) a _ _ refl refl
  settled-control_in (is.Switch e cases) a = refl
  settled-control_in is.Break a = refl
  settled-control_in is.Continue a = refl
  settled-control_in (is.Return e) a = refl
  settled-control_in is.Empty a = refl
  settled-control_in (is.Block body) a = refl

  settled-control : (l : List Stmt) (a : Active) → control_state (settled p l a) ≡ settled_control p l (control_state a)
  settled-control [] a = refl
  settled-control (s ∷ rest) a = settled-control_in (out-Stmt s) a

  pub marked-control : (a : Active) (m : Mark) → control_state (marked p a m) ≡ marked_control p (control_state a) m
  marked-control a m = settled-control a.here.rest (with_mark a m)

  -- a mark leaves the call and the locals as they are
  pub record KeepsLocals (b a : Active) : Type 0 where
    pub call : IsSameCall b a
    pub locals : b.locals ≡ a.locals

  pub itself : (a : Active) → KeepsLocals a a
  itself a = record { call = record { number = refl; func = refl; handler = refl }; locals = refl }

  either-keeps : (c : Bool) (a x y : Active) → KeepsLocals x a → KeepsLocals y a → KeepsLocals (if c then x else y) a
  either-keeps true a x y h k = h
  either-keeps false a x y h k = k

  moved-keeps : (a : Active) (c : Control) → KeepsLocals (moved a c) a
  moved-keeps a c = record { call = record { number = refl; func = refl; handler = refl }; locals = refl }

  settled-keeps_in : (x : is.Stmt-F Stmt Case) (a : Active) → KeepsLocals (settled_in p x a) a
  settled-keeps_in (is.Do e) a = either-keeps (is_known (progress_of p a (Some e))) a (goes_to p a (behind a.here a.around)) a (moved-keeps a (begun_at p a.number a.func (behind a.here a.around))) (itself a)
  settled-keeps_in (is.If e these those) a = itself a
  settled-keeps_in (is.While e body) a = itself a
  settled-keeps_in (is.DoWhile body e) a = itself a
  settled-keeps_in (is.For first test again body) a = either-keeps (passes p a.number a.func a.marks a.here) a (moved a (at_test a.here, a.around)) a (moved-keeps a (at_test a.here, a.around)) (itself a)
  settled-keeps_in (is.Switch e cases) a = itself a
  settled-keeps_in is.Break a = itself a
  settled-keeps_in is.Continue a = itself a
  settled-keeps_in (is.Return e) a = itself a
  settled-keeps_in is.Empty a = itself a
  settled-keeps_in (is.Block body) a = itself a

  settled-keeps : (l : List Stmt) (a : Active) → KeepsLocals (settled p l a) a
  settled-keeps [] a = itself a
  settled-keeps (s ∷ rest) a = settled-keeps_in (out-Stmt s) a

  pub marked-keeps : (a : Active) (m : Mark) → KeepsLocals (marked p a m) a
  marked-keeps a m =
      let h = settled-keeps a.here.rest (with_mark a m) in
      record { call = record { number = h.call.number; func = h.call.func; handler = h.call.handler }; locals = h.locals }

  -- ---- steps

  -- where an activation goes whose full expression is known
  abbrev jumped_in : is.Stmt-F Stmt Case → Active → Progress (Option Value) → Active
  jumped_in x a (Known (Some v) ms) = goes_to p a (next_place x a v)
  jumped_in x a (Known None ms) = a
  jumped_in x a (Waits action) = a
  jumped_in x a (Traps ms) = a

  abbrev jumped_list : List Stmt → Active → Active
  jumped_list [] a = a
  jumped_list (s ∷ rest) a = jumped_in (out-Stmt s) a (progress_of p a (worked (out-Stmt s) a.here.phase))

  abbrev pub jumped : Active → Active
  jumped a = jumped_list a.here.rest a

  abbrev JumpsTo : State → Active → List Active → State → Active → ControlState → Type 0
  JumpsTo s a below t b c = (t ≡ with_stack s (b ∷ below)) × (control_state b ≡ c) × KeepsLocals b a

  -- what a state becomes by a transition of the running activation, b being where that may go
  abbrev pub Becomes : State → Active → List Active → Active → State → Transition → Type 0
  Becomes s a below b t FallsOff = t ≡ fallen p s a below
  Becomes s a below b t (Performs action) = t ≡ perform p s action
  Becomes s a below b t Aborts = t ≡ stopped s Trap
  Becomes s a below b t (Jumps c) = JumpsTo s a below t b c
  Becomes s a below b t (Returns v) = t ≡ returned p s a below v

  done_becomes : (r : Bool) (x : is.Stmt-F Stmt Case) (s : State) (a : Active) (below : List Active) (v : Value) →
      Becomes s a below (goes_to p a (next_place x a v)) (if r then returned p s a below v else with_stack s (goes_to p a (next_place x a v) ∷ below))
      (if r then Returns v else Jumps (jump_to p (control_state a) (next_continuation x (remainder_of a.here) (remainders a.around) v)))
  done_becomes true x s a below v = refl
  done_becomes false x s a below v = (refl, jump_to-control a (next_place x a v) _ (next-continuation x a v), moved-keeps a (begun_at p a.number a.func (next_place x a v)))

  becomes_in : (x : is.Stmt-F Stmt Case) (s : State) (a : Active) (below : List Active) (r : Progress (Option Value)) → Becomes s a below (jumped_in x a r) (stepped p x s a below r) (transition_in p x (control_state a) r)
  becomes_in x s a below (Waits action) = refl
  becomes_in x s a below (Traps ms) = refl
  becomes_in x s a below (Known None ms) = refl
  becomes_in x s a below (Known (Some v) ms) = done_becomes (is_return x) x s a below v

  becomes_list : (l : List Stmt) (s : State) (a : Active) (below : List Active) → Becomes s a below (jumped_list l a) (active_step p l s a below) (transition_at p l (control_state a))
  becomes_list [] s a below = refl
  becomes_list (x ∷ rest) s a below = becomes_in (out-Stmt x) s a below (progress_of p a (worked (out-Stmt x) a.here.phase))

  pub becomes : (m : Memory) (a : Active) (below : List Active) (opened : ℕ) → Becomes (going m (a ∷ below) opened) a below (jumped a) (proceed p (going m (a ∷ below) opened) (a ∷ below)) (transition p (control_state a))
  becomes m a below opened = becomes_list a.here.rest (going m (a ∷ below) opened) a below

  -- by the transition
  by_transition : (m : Memory) (a : Active) (below : List Active) (opened : ℕ) (x : Transition) → transition p (control_state a) ≡ x → Becomes (going m (a ∷ below) opened) a below (jumped a) (proceed p (going m (a ∷ below) opened) (a ∷ below)) x
  by_transition m a below opened x h = subst (Becomes (going m (a ∷ below) opened) a below (jumped a) (proceed p (going m (a ∷ below) opened) (a ∷ below))) h (becomes m a below opened)

  pub falls_off : (m : Memory) (a : Active) (below : List Active) (opened : ℕ) → transition p (control_state a) ≡ FallsOff → proceed p (going m (a ∷ below) opened) (a ∷ below) ≡ fallen p (going m (a ∷ below) opened) a below
  falls_off m a below opened h = by_transition m a below opened FallsOff h

  pub performs : (m : Memory) (a : Active) (below : List Active) (opened : ℕ) (action : Action) → transition p (control_state a) ≡ Performs action →
      proceed p (going m (a ∷ below) opened) (a ∷ below) ≡ perform p (going m (a ∷ below) opened) action
  performs m a below opened action h = by_transition m a below opened (Performs action) h

  pub aborts : (m : Memory) (a : Active) (below : List Active) (opened : ℕ) → transition p (control_state a) ≡ Aborts → proceed p (going m (a ∷ below) opened) (a ∷ below) ≡ stopped (going m (a ∷ below) opened) Trap
  aborts m a below opened h = by_transition m a below opened Aborts h

  pub returns : (m : Memory) (a : Active) (below : List Active) (opened : ℕ) (v : Value) → transition p (control_state a) ≡ Returns v →
      proceed p (going m (a ∷ below) opened) (a ∷ below) ≡ returned p (going m (a ∷ below) opened) a below v
  returns m a below opened v h = by_transition m a below opened (Returns v) h

  -- ---- an activation at the beginning of its function

  abbrev nowhere : ℕ → ℕ → Bool → List Value → Func → Active
  nowhere number id handler args f = record { number = number; func = id; handler = handler; locals = locals_with p args f.locals; here = level [] 0 First; around = []; marks = [] }

  pub begun-control : (number id : ℕ) (handler : Bool) (args : List Value) (f : Func) → control_state (activation p number id handler args f) ≡ jump_to p (control_at number id) (resume f.body [])
  begun-control number id handler args f = jump_to-control (nowhere number id handler args f) (close f.body 0 []) _ (close-continuation f.body 0 [])

  -- ---- a step that goes elsewhere, and does nothing more

  pub record HasJumped (m : Memory) (a : Active) (c : ControlState) : Type 0 where
    pub silent : IsSilent p m a m (jumped a)
    pub control : control_state (jumped a) ≡ c
    pub locals : (jumped a).locals ≡ a.locals

  pub has_jumped : (m : Memory) (a : Active) (c : ControlState) → transition p (control_state a) ≡ Jumps c → HasJumped m a c
  has_jumped m a c h =
      let there : (below : List Active) (opened : ℕ) → JumpsTo (going m (a ∷ below) opened) a below (proceed p (going m (a ∷ below) opened) (a ∷ below)) (jumped a) c =
      λ below opened. subst (Becomes (going m (a ∷ below) opened) a below (jumped a) (proceed p (going m (a ∷ below) opened) (a ∷ below))) h (becomes m a below opened) in
      record {
        silent = record { same = (there [] 0).2.call; step = λ below opened. (there below opened).0 };
        control = (there [] 0).1;
        locals = (there [] 0).2.locals;
      }

  -- ---- the control stays one of its activation

  pub record IsSameActivation (b a : ControlState) : Type 0 where
    pub number : b.number ≡ a.number
    pub func : b.func ≡ a.func

  either_of : (c : Bool) (a x y : ControlState) → IsSameActivation x a → IsSameActivation y a → IsSameActivation (if c then x else y) a
  either_of true a x y h k = h
  either_of false a x y h k = k

  settled_same_in : (x : is.Stmt-F Stmt Case) (a b : ControlState) → IsSameActivation b a → IsSameActivation (settled_control_in p x b) a
  settled_same_in (is.Do e) a b h = either_of (is_known (progress_there p b (Some e))) a (jump_to p b (past b.here b.around)) b (record { number = h.number; func = h.func }) h
  settled_same_in (is.If e these those) a b h = h
  settled_same_in (is.While e body) a b h = h
  settled_same_in (is.DoWhile body e) a b h = h
  settled_same_in (is.For first test again body) a b h = either_of (passes_at p b.number b.func b.marks b.here) a (at_continuation b (test_remainder b.here, b.around)) b (record { number = h.number; func = h.func }) h
  settled_same_in (is.Switch e cases) a b h = h
  settled_same_in is.Break a b h = h
  settled_same_in is.Continue a b h = h
  settled_same_in (is.Return e) a b h = h
  settled_same_in is.Empty a b h = h
  settled_same_in (is.Block body) a b h = h

  settled_same : (l : List Stmt) (a b : ControlState) → IsSameActivation b a → IsSameActivation (settled_control p l b) a
  settled_same [] a b h = h
  settled_same (s ∷ rest) a b h = settled_same_in (out-Stmt s) a b h

  pub marked_same : (a : ControlState) (m : Mark) → IsSameActivation (marked_control p a m) a
  marked_same a m = settled_same a.here.rest a (mark_added a m) (record { number = refl; func = refl })

  abbrev TransitionOf : ControlState → Transition → Type 0
  TransitionOf a FallsOff = Unit {0}
  TransitionOf a (Performs x) = Unit {0}
  TransitionOf a Aborts = Unit {0}
  TransitionOf a (Jumps c) = IsSameActivation c a
  TransitionOf a (Returns v) = Unit {0}

  transition_of_known : (r : Bool) (a : ControlState) (c : Continuation) (v : Value) → TransitionOf a (if r then Returns v else Jumps (jump_to p a c))
  transition_of_known true a c v = tt
  transition_of_known false a c v = record { number = refl; func = refl }

  transition_of_in : (x : is.Stmt-F Stmt Case) (a : ControlState) (r : Progress (Option Value)) → TransitionOf a (transition_in p x a r)
  transition_of_in x a (Waits action) = tt
  transition_of_in x a (Traps ms) = tt
  transition_of_in x a (Known None ms) = tt
  transition_of_in x a (Known (Some v) ms) = transition_of_known (is_return x) a (next_continuation x a.here a.around v) v

  transition_of : (l : List Stmt) (a : ControlState) → TransitionOf a (transition_at p l a)
  transition_of [] a = tt
  transition_of (s ∷ rest) a = transition_of_in (out-Stmt s) a (progress_there p a (worked (out-Stmt s) a.here.phase))

  pub jump_same : (a c : ControlState) → transition p a ≡ Jumps c → IsSameActivation c a
  jump_same a c h = subst (TransitionOf a) h (transition_of a.here.rest a)
