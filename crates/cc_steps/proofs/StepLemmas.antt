-- One step, by the running activation and the first statement that is left of it.
use Rattle.std.proofs.Common.{◌≡◌, ◌<◌, ◌-◌, List, [], ◌∷◌, length, take, get_or, Some, None, refl, ap, sym, ◌∙◌}
use Rattle.cc_control.specs.View.{first_of, level_of}
use Rattle.cc_program.specs.declared.program.Program.{Program}
use Rattle.cc_program.specs.declared.stmt.Stmt.{Stmt, out-Stmt}
use Rattle.cc_steps.specs.declared.activation.Activation.{Activation}
use Rattle.cc_steps.specs.declared.event.End.TheVariants.{Trap}
use Rattle.cc_steps.specs.State.{Active, State}
use Rattle.cc_steps.specs.declared.step.Next.{Next}
use Rattle.cc_steps.specs.declared.step.Next.TheVariants as next
use Rattle.cc_steps.specs.Step.{stopped, with_stack, worked, progress_of, fallen, stepped, active_step, proceed}
use Rattle.cc_steps.specs.View.{active_of, actives_of, fallen_first, done_first, went}
use Rattle.cc_steps.specs.Whole.{went_first}
use Rattle.cc_steps.proofs.StackLemmas.{actives_of-last, actives_of-empty}

some_same : {A : Type 0} → {x y : A} → Some x ≡ Some y → x ≡ y
some_same h = cc

pub step-none : (p : Program) (rest : List Stmt) (s : State) (a : Active) (below : List Active) → None ≡ first_of rest → active_step p rest s a below ≡ fallen p s a below
step-none p [] s a below h = refl
step-none p (x ∷ rest) s a below h = absurd (cc)

pub step-some : (p : Program) (rest : List Stmt) (s : State) (a : Active) (below : List Active) (x : Stmt) → Some x ≡ first_of rest →
    active_step p rest s a below ≡ stepped p (out-Stmt x) s a below (progress_of p a (worked (out-Stmt x) a.here.phase))
step-some p [] s a below x h = absurd (cc)
step-some p (y ∷ rest) s a below x h =
    ap (λ x. stepped p (out-Stmt x) s a below (progress_of p a (worked (out-Stmt x) a.here.phase))) (sym (some_same h))

pub ruleset of_steps = (step-none, step-some)

module _ (p : Program) (s : State) (xs : List Activation) where
  pub proceed-empty : length xs ≡ 0 → proceed p s (actives_of xs) ≡ stopped s Trap
  proceed-empty h = ap (proceed p s) (actives_of-empty xs h)

  module _ (a : Activation) (h : 0 < length xs) (e : a ≡ get_or xs (length xs - 1) a) where
    abbrev below : List Active
    below = actives_of (take (length xs - 1) xs)

    parts : actives_of xs ≡ active_of a ∷ below
    parts = actives_of-last xs a h ∙ ap (λ (x : Activation). active_of x ∷ below) (sym e)

    proceed_running : proceed p s (actives_of xs) ≡ active_step p (level_of a.here).rest (with_stack s (actives_of xs)) (active_of a) below
    proceed_running = ap (proceed p s) parts ∙ ap (λ stack. active_step p (level_of a.here).rest (with_stack s stack) (active_of a) below) (sym parts)

    went_running : (n : Next) (t : State) → went p n t (active_of a) below ≡ went_first p n t (actives_of xs)
    went_running next.Falls t = ap (fallen_first p t) (sym parts)
    went_running (next.Performs action) t = refl
    went_running next.Traps t = refl
    went_running (next.Done x v) t = ap (λ stack. done_first p (out-Stmt x.now) t stack v) (sym parts)

    -- what the running activation does next is what the program does
    pub proceed-went : (n : Next) → ((t : State) (below : List Active) → active_step p (level_of a.here).rest t (active_of a) below ≡ went p n t (active_of a) below) →
        proceed p s (actives_of xs) ≡ went_first p n (with_stack s (actives_of xs)) (actives_of xs)
    proceed-went n next = proceed_running ∙ next (with_stack s (actives_of xs)) below ∙ went_running n (with_stack s (actives_of xs))

pub ruleset of_running = (proceed-empty, proceed-went)
