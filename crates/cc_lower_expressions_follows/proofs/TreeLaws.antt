-- Trees, one behind the other.
use Rattle.std.proofs.Common.{◌≡◌, Option, Some, None, refl, subst, ap, sym}
use Rattle.std.proofs.Math.Path.{fun_ext}
use Rattle.cc_states.specs.CcEval.declared.action.Action.{Action}
use Rattle.cc_states.specs.CcEval.declared.mark.Mark.{Mark}
use Rattle.cc_states.specs.CcEval.Progress.{Progress, Known, Waits, Traps, Get, known, ask, and_then, bind, needs}
use Rattle.cc_program.specs.declared.func.Func.{Func}
use Rattle.cc_lower_expressions_follows.specs.Trees.{Regs, after, Setting, Ends, Stuck, Refused, Sim, Done, Left, Right, Both, Fail, RunsBy, RunsLeft, Runs, Is, Steps}

and_then-assoc : {A B C : Type 0} (p : Progress A) (f : A → Get B) (k : B → Get C) → and_then (and_then p f) k ≡ and_then p (λ a. bind (f a) k)
and_then-assoc (Known a ms) f k = refl
and_then-assoc (Waits action) f k = refl
and_then-assoc (Traps ms) f k = refl

pub bind-assoc : {A B C : Type 0} (g : Get A) (f : A → Get B) (k : B → Get C) → bind (bind g f) k ≡ bind g (λ a. bind (f a) k)
bind-assoc g f k = fun_ext (λ ms. and_then-assoc (g ms) f k)

and_then-known : {A : Type 0} (p : Progress A) → and_then p known ≡ p
and_then-known (Known a ms) = refl
and_then-known (Waits action) = refl
and_then-known (Traps ms) = refl

pub bind-known : {A : Type 0} (g : Get A) → bind g known ≡ g
bind-known g = fun_ext (λ ms. and_then-known (g ms))

pub bind-needs : {A B C : Type 0} (v : Option A) (f : A → Get B) (k : B → Get C) → bind (needs v f) k ≡ needs v (λ a. bind (f a) k)
bind-needs None f k = refl
bind-needs (Some a) f k = refl

pub bind-ask : {B C : Type 0} (action : Action) (f : Mark → B) (k : B → Get C) → (m : Mark) → after (bind (ask action f) k) m ≡ k (f m)
bind-ask action f k m = refl

module _ (w : Setting) where
  pub ends_bind : {A B : Type 0} (f : Func) {g : Get A} {r : Regs} (k : A → Get B) → Ends w f g r → Ends w f (bind g k) r
  ends_bind f k (Stuck ms e) = Stuck ms (ap (λ p. and_then p k) e)
  ends_bind f k (Refused action e x) = Refused action (ap (λ p. and_then p k) e) x

  module _ {A B C D : Type 0} (P : A → B → Regs → Regs → Type 0) (Q : C → D → Regs → Regs → Type 0) (f : A → Get C) (k : B → Get D)
      (next : (a : A) (b : B) (r s : Regs) → P a b r s → Sim w Q (f a) r (k b) s) where
    -- one behind the other, on both sides
    pub sim_bind : {g : Get A} {r : Regs} {h : Get B} {s : Regs} → Sim w P g r h s → Sim w Q (bind g f) r (bind h k) s
    sim_bind {r} {s} (Done a b eg eh x) = rw (eg, eh) (next a b r s x)
    sim_bind (Left r' action m e q d) = Left r' action m (ap (λ p. and_then p f) e) q (λ x. sim_bind (d x))
    sim_bind (Right s' action m e q d) = Right s' action m (ap (λ p. and_then p k) e) q (sim_bind d)
    sim_bind (Both action n eg eh d) = Both action n (ap (λ p. and_then p f) eg) (ap (λ p. and_then p k) eh) (λ m x. sim_bind (d m x))
    sim_bind (Fail x y) = Fail (ends_bind w.from f x) (ends_bind w.to k y)

  module _ {A B : Type 0} (P Q : A → B → Regs → Regs → Type 0) (weaker : (a : A) (b : B) (r s : Regs) → P a b r s → Q a b r s) where
    pub sim_weaker : {g : Get A} {r : Regs} {h : Get B} {s : Regs} → Sim w P g r h s → Sim w Q g r h s
    sim_weaker {r} {s} (Done a b eg eh x) = Done a b eg eh (weaker a b r s x)
    sim_weaker (Left r' action m e q d) = Left r' action m e q (λ x. sim_weaker (d x))
    sim_weaker (Right s' action m e q d) = Right s' action m e q (sim_weaker d)
    sim_weaker (Both action n eg eh d) = Both action n eg eh (λ m x. sim_weaker (d m x))
    sim_weaker (Fail x y) = Fail x y

  -- q goes on from an answer that it comes to
  pub sim_right : {A B C : Type 0} (Q : A → C → Regs → Regs → Type 0) (k : B → Get C) {b : B} {t : Regs} {g : Get A} {r : Regs} {h : Get B} {s : Regs} →
      Runs w b t h s → Sim w Q g r (k b) t → Sim w Q g r (bind h k) s
  sim_right Q k {t = t} {g = g} {r = r} (Is e) d = subst (λ x. Sim w Q g r (bind x k) t) (sym e) d
  sim_right Q k (Steps t action m e q x) d = Right t action m (ap (λ p. and_then p k) e) q (sim_right Q k x d)

  -- p goes on from an answer that it comes to
  pub sim_left : {A B C : Type 0} (Q : C → B → Regs → Regs → Type 0) (f : A → Get C) {a : A} {t : Regs} {g : Get A} {r : Regs} {h : Get B} {s : Regs} →
      RunsLeft w a t g r → Sim w Q (f a) t h s → Sim w Q (bind g f) r h s
  sim_left Q f {t = t} {h = h} {s = s} (Is e) d = subst (λ x. Sim w Q (bind x f) t h s) (sym e) d
  sim_left Q f (Steps t action m e q x) d = Left t action m (ap (λ p. and_then p f) e) q (λ y. sim_left Q f x d)

pub runs_bind : {A B : Type 0} (Step : Action → Regs → Mark → Regs → Type 0) (f : A → Get B) {a : A} {b : B} {t u : Regs} {g : Get A} {s : Regs} →
    RunsBy Step a t g s → RunsBy Step b u (f a) t → RunsBy Step b u (bind g f) s
runs_bind Step f {b = b} {t = t} {u = u} (Is e) k = subst (λ x. RunsBy Step b u (bind x f) t) (sym e) k
runs_bind Step f (Steps t action m e q d) k = Steps t action m (ap (λ p. and_then p f) e) q (runs_bind Step f d k)
