-- Programs with other bodies, whose activations have the same locals and go on in lockstep: an instance of simulations by local states in which
-- no local is hidden and none is added.
use Rattle.std.proofs.Common.{◌≡◌, ◌∙◌, ◌∷◌, ℕ, Bool, true, false, List, [], map, Some, slice_get, ◌==◌, if◌then◌else◌, inr, refl, ap, sym, subst}
use Rattle.std.proofs.lemmas.List.{append-nil}
use Rattle.cc_steps.specs.CcCells.Cells.{with_scalar}
use Rattle.cc_steps.specs.CcEval.declared.action.Action.{Action}
use Rattle.cc_steps.specs.CcEval.declared.action.Action.TheVariants.{Read, Write, Choose, Call, Flag, Save}
use Rattle.cc_program.specs.declared.func.Func.{Func}
use Rattle.cc_program.specs.declared.program.Program.{Program}
use Rattle.cc_program.specs.declared.stmt.Stmt.{Stmt}
use Rattle.cc_program.specs.declared.value.Cell.{Cell}
use Rattle.cc_program.specs.declared.value.Cell.TheVariants as cell
use Rattle.cc_program.specs.declared.value.Root.TheVariants as root
use Rattle.cc_program.specs.declared.value.Value.{Value}
use Rattle.cc_steps.specs.Rows.{rows_of}
use Rattle.cc_steps.specs.Runs.{Follows, Answers}
use Rattle.cc_steps.specs.State.{Active, Memory, State, locals_with}
use Rattle.cc_steps.specs.CcSyntax.Types.{Named}
use Rattle.cc_meaning_simulations.specs.Bodies.{AddsScalars, with_funcs, with_body, with_bodies, extended, all_extended}
use Rattle.cc_meaning_simulations.specs.Continuations.{resume}
use Rattle.cc_meaning_simulations.specs.LocalSimulations.{is_visible, is_cell_visible, is_action_visible, Converges, Matched, QSteps, PSteps, Awaits, AreAlike}
use Rattle.cc_meaning_simulations.specs.LocalSteps.{Locals, LocalState, local_state, local_state_of, begun_state, after_write, Jump}
use Rattle.cc_meaning_simulations.specs.Locksteps.{ControlConverges, Matches, QJumps, PJumps, AreControlsAlike}
use Rattle.cc_meaning_simulations.specs.StepSimulations.{going}
use Rattle.cc_meaning_simulations.specs.Transitions.{ControlState, control_state, control_at, is_at_boundary, Transition, FallsOff, Performs, Aborts, Jumps, Returns, jump_to, marked_control, transition}
use Rattle.cc_meaning_simulations.proofs.HiddenLocals as hidden_locals
use Rattle.cc_meaning_simulations.proofs.MoreLocals.{locals_alike}
use Rattle.cc_meaning_simulations.proofs.RowsAlike.{rows_same}
use Rattle.cc_meaning_simulations.proofs.TransitionLemmas.{jump_same, marked_same}

abbrev pub none : Func → List Named
none f = []

abbrev pub hides : ℕ → ℕ → Bool
hides f local = false

pub none_added : AddsScalars none
none_added f k l h = absurd (cc)

-- each local can be seen
all_visible : (stack : List Active) (number local : ℕ) → is_visible hides stack number local ≡ true
all_visible [] number local = refl
all_visible (a ∷ below) number local = by_number (a.number == number) (all_visible below number local)
  where
    by_number : (b : Bool) → is_visible hides below number local ≡ true → (if b then true else is_visible hides below number local) ≡ true
    by_number true h = refl
    by_number false h = h

cell_visible : (stack : List Active) (c : Cell) → is_cell_visible hides stack c ≡ true
cell_visible stack (cell.Device d) = refl
cell_visible stack (cell.At (root.Static i) path) = refl
cell_visible stack (cell.At (root.Auto number f local) path) = all_visible stack number local

pub action_visible : (stack : List Active) (x : Action) → is_action_visible hides stack x ≡ true
action_visible stack (Read c manner) = cell_visible stack c
action_visible stack (Write c is_event v) = cell_visible stack c
action_visible stack (Choose b) = refl
action_visible stack (Call callee args) = refl
action_visible stack (Flag on) = refl
action_visible stack Save = refl

module _ (new : Func → List Stmt) (P : Program) where
  -- with no more locals
  abbrev Same : Program
  Same = all_extended none new P

  nothing_more : (f : Func) → with_body new f ≡ extended none new f
  nothing_more f = λ i. record { name = f.name; sig = f.sig; entry = f.entry; params = f.params; locals = sym (append-nil f.locals) i; body = new f }

  all_alike : (fs : List Func) → map (with_body new) fs ≡ map (extended none new) fs
  all_alike [] = refl
  all_alike (f ∷ fs) = λ i. nothing_more f i ∷ all_alike fs i

  pub with_bodies-extended : with_bodies new P ≡ Same
  with_bodies-extended = ap (with_funcs P) (all_alike P.funcs)

module _ (new : Func → List Stmt) (P : Program) (Match : ControlState → ControlState → Type 0) where
  -- of one call, at controls that match, and with the same locals
  abbrev MatchLocal : LocalState → LocalState → Type 0
  MatchLocal q p = (q.locals ≡ p.locals) × (q.control.number ≡ p.control.number) × (q.control.func ≡ p.control.func) × Match q.control p.control

  module _ (Q : Program) where
    abbrev Meets : LocalState → LocalState → Type 0
    Meets q p = Converges hides Q P MatchLocal q p

    converges : (q p : ControlState) → ControlConverges Q P Match q p → q.number ≡ p.number → q.func ≡ p.func → (l : Locals) → Meets (local_state q l) (local_state p l)
    converges _ _ (Matches q p x) h k l = Matched _ _ (refl, h, k, x)
    converges _ _ (QJumps q p q' e x) h k l =
        let s = jump_same Q q q' e in QSteps _ _ _ (Jump q q' l e) (converges q' p x (s.number ∙ h) (s.func ∙ k) l)
    converges _ _ (PJumps q p p' e f x) h k l =
        let s = jump_same P p p' e in PSteps _ _ _ (Jump p p' l e) f (converges q p' x (h ∙ sym s.number) (k ∙ sym s.func) l)

    alike_by : (d e : Transition) (q p : ControlState) (l : Locals) → transition Q q ≡ d → transition P p ≡ e → q.number ≡ p.number → q.func ≡ p.func → AreControlsAlike Q P Match q p d e →
        AreAlike hides Meets (Awaits hides Q P MatchLocal) (local_state q l) (local_state p l) d e
    alike_by FallsOff FallsOff q p l i j h k a = tt
    alike_by (Performs x) (Performs y) q p l i j h k a =
        (a.0, λ m. let s = marked_same Q q m in let t = marked_same P p m in converges (marked_control Q q m) (marked_control P p m) (a.1 m) (s.number ∙ h ∙ sym t.number) (s.func ∙ k ∙ sym t.func) l)
    alike_by Aborts Aborts q p l i j h k a = tt
    alike_by (Jumps c) (Jumps d) q p l i j h k a = let s = jump_same Q q c i in let t = jump_same P p d j in converges c d a (s.number ∙ h ∙ sym t.number) (s.func ∙ k ∙ sym t.func) l
    alike_by (Returns v) (Returns w) q p l i j h k a = a
    alike_by _ _ q p l i j h k a = absurd a

  -- what the pass shows, of the program with the other bodies
  abbrev Begins : Program → Type 0
  Begins Q = (number id : ℕ) (f : Func) → slice_get P.funcs id ≡ Some f → ControlConverges Q P Match (jump_to Q (control_at number id) (resume (new f) [])) (jump_to P (control_at number id) (resume f.body []))

  abbrev Alike : Program → Type 0
  Alike Q = (q p : ControlState) → Match q p → q.number ≡ p.number → q.func ≡ p.func → AreControlsAlike Q P Match q p (transition Q q) (transition P p)

  module _ (begins : Begins (with_bodies new P)) (alike : Alike (with_bodies new P)) (boundary : (q p : ControlState) → Match q p → is_at_boundary p ≡ true → is_at_boundary q ≡ true) (main : Func) (there : slice_get P.funcs P.main ≡ Some main) where
    abbrev Q : Program
    Q = Same new P

    begins_same : Begins Q
    begins_same = subst Begins (with_bodies-extended new P) begins

    alike_same : Alike Q
    alike_same = subst Alike (with_bodies-extended new P) alike

    abbrev nothing : State → Type 0
    nothing t = Unit {0}

    -- a write keeps a match
    written : (a b : LocalState) → MatchLocal a b → a.control.func ≡ b.control.func → (local i : ℕ) (v : Value) → hides b.control.func local ≡ false → MatchLocal (after_write a local i v) (after_write b local i v)
    written a b h f local i v k = (ap (λ (l : Locals). with_scalar l local i (Some v)) h.0, h.1, h.2, h.3)

    begun : (number id : ℕ) (args : List Value) (f : Func) → slice_get P.funcs id ≡ Some f → Meets Q (begun_state Q number id args (extended none new f)) (begun_state P number id args f)
    begun number id args f e =
        subst (λ (l : Locals). Meets Q (local_state (jump_to Q (control_at number id) (resume (new f) [])) l) (begun_state P number id args f)) (sym (locals_alike none new P P Q refl args f.locals [] refl))
        (converges Q _ _ (begins_same number id f e) refl refl (locals_with P args f.locals))

    alike_locally : (m : Memory) (p : Active) (ps : List Active) (o : ℕ) → nothing (going m (p ∷ ps) o) → (q : LocalState) → MatchLocal q (local_state_of p) →
        AreAlike hides (Meets Q) (Awaits hides Q P MatchLocal) q (local_state_of p) (transition Q q.control) (transition P (control_state p))
    alike_locally m p ps o inv q h =
        subst (λ (l : Locals). AreAlike hides (Meets Q) (Awaits hides Q P MatchLocal) q (local_state (control_state p) l) (transition Q q.control) (transition P (control_state p))) h.0
        (alike_by Q (transition Q q.control) (transition P (control_state p)) q.control (control_state p) q.locals refl refl h.1 h.2 (alike_same q.control (control_state p) h.3 h.1 h.2))

    seen : (t : State) → nothing t → rows_of Q t.memory.trace ≡ rows_of P t.memory.trace
    seen t h = subst (λ (q : Program). rows_of q t.memory.trace ≡ rows_of P t.memory.trace) (with_bodies-extended new P) (rows_same new P t.memory.trace)

    pub follows : Follows (with_bodies new P) P
    follows = subst (λ (q : Program). Follows q P) (sym (with_bodies-extended new P))
        (hidden_locals.follows none new P none_added hides nothing MatchLocal (λ id f e local h. inr refl) written begun alike_locally (λ q p h b. boundary q.control p.control h.3 b) seen (λ t h arrival. tt) (λ inputs. tt)
        (λ m p ps o inv q h x e. action_visible (p ∷ ps) x) main there)

    pub answers : Answers (with_bodies new P) P
    answers = subst (λ (q : Program). Answers q P) (sym (with_bodies-extended new P))
        (hidden_locals.answers none new P none_added hides nothing MatchLocal (λ id f e local h. inr refl) written begun alike_locally (λ q p h b. boundary q.control p.control h.3 b) seen (λ t h arrival. tt) (λ inputs. tt)
        (λ m p ps o inv q h x e. action_visible (p ∷ ps) x) main there)
