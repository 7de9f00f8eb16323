-- Programs whose functions have other bodies, and more locals besides: local states that approach each other.
use Rattle.std.proofs.lemmas.List.{map-append}
use Rattle.std.specs.Prelude.{nat_lt}
use Rattle.std.proofs.Common.{◌≡◌, ◌∙◌, ◌∷◌, ◌++◌, ◌||◌, ◌⊎◌, ℕ, ℤ, Bool, true, false, List, [], length, Option, Some, None, option_map, slice_get, refl, ap, sym, subst}
use Rattle.cc_steps.specs.CcEval.declared.action.Action.{Action}
use Rattle.cc_steps.specs.CcEval.declared.mark.Mark.{Mark}
use Rattle.cc_program.specs.declared.func.Func.{Func}
use Rattle.cc_steps.specs.CcSyntax.Types.{Named}
use Rattle.cc_program.specs.declared.program.Program.{Program}
use Rattle.cc_program.specs.declared.stmt.Stmt.{Stmt}
use Rattle.cc_program.specs.declared.value.Value.{Value}
use Rattle.cc_steps.specs.declared.event.Event.TheVariants as event
use Rattle.cc_steps.specs.Rows.{Row, row_of, rows_of}
use Rattle.cc_steps.specs.Runs.{Follows, Answers}
use Rattle.cc_steps.specs.State.{Active, IsSameCall, Memory, State}
use Rattle.cc_steps.specs.declared.event.End.TheVariants.{Trap}
use Rattle.cc_steps.specs.Step.{activation, proceed, stopped}
use Rattle.cc_steps.specs.Turn.{start, first_of_stack, turn}
use Rattle.cc_meaning_simulations.proofs.Turns as turns
use Rattle.cc_meaning_simulations.proofs.Actions as actions
use Rattle.cc_meaning_simulations.specs.Bodies.{AddsScalars, all_extended, extended}
use Rattle.cc_meaning_simulations.specs.LocalSimulations.{AgreeOnVisible, AreAlike, AreFitting, Approaches, Arrives, BothTrap, Expects, LocalRunning, LocalSuspended, PGoes, QGoes, is_action_visible}
use Rattle.cc_meaning_simulations.specs.LocalSteps.{Branch, Jump, LocalState, LocalStep, Locals, ReadHidden, ReadUnwritten, TrapsNext, WriteHidden, after_write, begun_state, local_state, local_state_of}
use Rattle.cc_meaning_simulations.specs.StepSimulations.{Answered, AtBoundary, CatchesUp, EnterBoth, Followed, Further, IsSilent, Lockstep, PAlone, PFirst, PWithQ, QAlone, QFirst, QWithP, Related, begins_there, entry_memory, going}
use Rattle.cc_meaning_simulations.specs.Transitions.{Aborts, FallsOff, Jumps, Performs, Returns, Transition, control_state, is_at_boundary, marked_control, transition}
use Rattle.cc_steps.proofs.CellsApart.{elsewhere}
use Rattle.cc_meaning_simulations.proofs.LocalStepLemmas.{local_step_after_write, local_step_made, local_step_same, not_same, traps_after_write, traps_next}
use Rattle.cc_meaning_simulations.proofs.MoreLocals.{enter_same, funcs_same, levels_same}
use Rattle.cc_meaning_simulations.proofs.TransitionLemmas.{marked_same}
use Rattle.cc_meaning_simulations.proofs.Turns.{IsSameCall-sym, IsSameCall-trans}

module _ (more : Func → List Named) (new : Func → List Stmt) (P : Program) (scalars : AddsScalars more) (hidden : ℕ → ℕ → Bool) (Inv : State → Type 0) (Match : LocalState → LocalState → Type 0) (Fits : LocalState → Mark → Type 0) (Opens : ℕ → ℕ → List Value → Type 0)
    -- how late Q may be
    (Late : Bool → Type 0) (prompt : Late false) where
  abbrev pub Q : Program
  Q = all_extended more new P

  abbrev Reaches : Bool → LocalState → LocalState → Type 0
  Reaches late q p = Approaches hidden Q P Match late q p

  abbrev Meets : LocalState → LocalState → Type 0
  Meets q p = (late : Bool) × Late late × Reaches late q p

  abbrev Waits : LocalState → LocalState → Type 0
  Waits q p = Expects hidden Q P Match Fits q p

  abbrev meets_marked : (q p : LocalState) → Waits q p → (m : Mark) → Fits p m → Meets (local_state (marked_control Q q.control m) q.locals) (local_state (marked_control P p.control m) p.locals)
  meets_marked q p w m fit = (false, prompt, w m fit)

  abbrev Alike : LocalState → LocalState → Transition → Transition → Type 0
  Alike q p x y = AreAlike hidden Meets Waits q p x y

  abbrev Same : ℕ → Locals → Locals → Type 0
  Same f ql pl = AgreeOnVisible hidden f ql pl

  abbrev Suspended : Bool → Active → Active → Type 0
  Suspended called q p = LocalSuspended hidden Meets Waits called q p

  abbrev Running : Memory → Active → Memory → Active → Type 0
  Running m q n p = LocalRunning hidden Meets Waits Q P m q n p

  abbrev RelatedSeen : State → State → Type 0
  RelatedSeen s t = Related Suspended Running Q P s t

  abbrev On : List Active → List Active → Type 0
  On qs ps = actions.On more new P scalars hidden Meets Waits Fits Opens meets_marked qs ps

  -- what makes the same transition meets, however late it may be
  alike_late : (q p : LocalState) (d e : Transition) → AreAlike hidden (Reaches false) Waits q p d e → Alike q p d e
  alike_late q p FallsOff FallsOff a = tt
  alike_late q p (Performs x) (Performs y) a = a
  alike_late q p Aborts Aborts a = tt
  alike_late q p (Jumps c) (Jumps d) a = (false, prompt, a)
  alike_late q p (Returns v) (Returns w) a = a
  alike_late q p _ _ a = absurd a

  module _ (shown : (id : ℕ) (f : Func) → slice_get P.funcs id ≡ Some f → (local : ℕ) → hidden id local ≡ false → (nat_lt local (length f.locals) ≡ true) ⊎ (more f ≡ []))
      (match_after_write : (q p : LocalState) → Match q p → q.control.func ≡ p.control.func → (local i : ℕ) (v : Value) → hidden p.control.func local ≡ false → Match (after_write q local i v) (after_write p local i v))
      (fits_after_write : (p : LocalState) (m : Mark) (local i : ℕ) (v : Value) → hidden p.control.func local ≡ false → Fits p m → Fits (after_write p local i v) m)
      (fits_before_write : (p : LocalState) (m : Mark) (local i : ℕ) (v : Value) → hidden p.control.func local ≡ false → Fits (after_write p local i v) m → Fits p m) where
    approaches_after_write : (late : Bool) (q p : LocalState) → Reaches late q p → q.control.func ≡ p.control.func → (local i : ℕ) (v : Value) → hidden p.control.func local ≡ false → Reaches late (after_write q local i v) (after_write p local i v)
    approaches_after_write _ _ _ (Arrives late q p x n) f local i v h = Arrives late _ _ (match_after_write q p x f local i v h) n
    approaches_after_write _ _ _ (QGoes late q p q' x j) f local i v h =
        QGoes late _ _ _ (local_step_after_write hidden Q q q' local i v (ap (λ (g : ℕ). hidden g local) f ∙ h) x) (approaches_after_write (late || is_at_boundary q.control) q' p j ((local_step_same hidden Q q q' x).func ∙ f) local i v h)
    approaches_after_write _ _ _ (PGoes late q p p' x n j) f local i v h =
        let e = (local_step_same hidden P p p' x).func in
        PGoes late _ _ _ (local_step_after_write hidden P p p' local i v h x) n (approaches_after_write false q p' j (f ∙ sym e) local i v (ap (λ (g : ℕ). hidden g local) e ∙ h))
    approaches_after_write _ _ _ (BothTrap late q p x y n) f local i v h =
        BothTrap late _ _ (traps_after_write hidden Q q local i v (ap (λ (g : ℕ). hidden g local) f ∙ h) x) (traps_after_write hidden P p local i v h y) n

    meets_after_write : (q p : LocalState) → Meets q p → q.control.func ≡ p.control.func → (local i : ℕ) (v : Value) → hidden p.control.func local ≡ false → Meets (after_write q local i v) (after_write p local i v)
    meets_after_write q p m f local i v h = (m.0, m.1, approaches_after_write m.0 q p m.2 f local i v h)

    waits_after_write : (q p : LocalState) → Waits q p → q.control.func ≡ p.control.func → (local i : ℕ) (v : Value) → hidden p.control.func local ≡ false → Waits (after_write q local i v) (after_write p local i v)
    waits_after_write q p w f local i v h m fit =
        let a = (marked_same Q q.control m).func in
        let b = (marked_same P p.control m).func in
        approaches_after_write false _ _ (w m (fits_before_write p m local i v h fit)) (a ∙ f ∙ sym b) local i v (ap (λ (g : ℕ). hidden g local) b ∙ h)

    module _ (begins : (number id : ℕ) (args : List Value) (f : Func) → slice_get P.funcs id ≡ Some f → Opens number id args → Reaches false (begun_state Q number id args (extended more new f)) (begun_state P number id args f))
        (alike : (m : Memory) (p : Active) (ps : List Active) (o : ℕ) → Inv (going m (p ∷ ps) o) → (q : LocalState) → Match q (local_state_of p) → AreAlike hidden (Reaches false) Waits q (local_state_of p) (transition Q q.control) (transition P (control_state p)))
        (spelled : (t : State) → Inv t → rows_of Q t.memory.trace ≡ rows_of P t.memory.trace)
        (kept : (t : State) → Inv t → (arrival : Option ℕ) → Inv (turn P t arrival))
        (begun : (inputs : List ℤ) → Inv (start P inputs))
        (plain : (m : Memory) (p : Active) (ps : List Active) (o : ℕ) → Inv (going m (p ∷ ps) o) → (q : LocalState) → Match q (local_state_of p) → (x : Action) → transition P (control_state p) ≡ Performs x → is_action_visible hidden (p ∷ ps) x ≡ true)
        (fitting : (m : Memory) (p : Active) (ps : List Active) (o : ℕ) → Inv (going m (p ∷ ps) o) → AreFitting Fits Opens P m p ps o)
        (opens_empty : (number id : ℕ) → Opens number id [])
      where
        abbrev Steps : List Active → ℕ → Memory → Active → Memory → Active → Type 0
        Steps ps o m q n p = Lockstep Suspended Running Q P ps o m q n p

        begins_late : (number id : ℕ) (args : List Value) (f : Func) → slice_get P.funcs id ≡ Some f → Opens number id args → Meets (begun_state Q number id args (extended more new f)) (begun_state P number id args f)
        begins_late number id args f e opens = (false, prompt, begins number id args f e opens)

        fresh : (number id : ℕ) (handler : Bool) (f : Func) → slice_get P.funcs id ≡ Some f → Suspended false (activation Q number id handler [] (extended more new f)) (activation P number id handler [] f)
        fresh number id handler f e =
            actions.begun_suspended more new P scalars hidden Meets Waits Fits Opens meets_marked shown meets_after_write waits_after_write fits_after_write number id handler [] f e
            (actions.fresh more new P scalars hidden Meets Waits Fits Opens meets_marked shown meets_after_write waits_after_write fits_after_write begins_late number id handler [] f e (opens_empty number id))

        both : (ps : List Active) (o : ℕ) (m : Memory) (q p : Active) → Same p.func q.locals p.locals → ((x : Action) → transition P (control_state p) ≡ Performs x → is_action_visible hidden (p ∷ ps) x ≡ true) → Alike (local_state_of q) (local_state_of p) (transition Q (control_state q)) (transition P (control_state p)) → Inv (going m (p ∷ ps) o) → Steps ps o m q m p
        both ps o m q p l z a inv qs k h =
            actions.seen_so more new P scalars hidden Meets Waits Fits Opens meets_marked _ _
            (actions.alike_agrees more new P scalars hidden Meets Waits Fits Opens meets_marked shown meets_after_write waits_after_write fits_after_write begins_late ps o m q p l z (fitting m p ps o inv) a qs k h)
            (spelled (proceed P (going m (p ∷ ps) o) (p ∷ ps)) (kept (going m (p ∷ ps) o) inv None))

        -- both trap
        trap_both : (ps : List Active) (o : ℕ) (m : Memory) (a b : LocalState) → TrapsNext hidden Q a → TrapsNext hidden P b → (q p : Active) → local_state_of q ≡ a → local_state_of p ≡ b → Inv (going m (p ∷ ps) o) → Steps ps o m q m p
        trap_both ps o m a b x y q p i j inv qs k h =
            actions.seen_so more new P scalars hidden Meets Waits Fits Opens meets_marked _ _
            (subst (λ (s : State). actions.Agree more new P scalars hidden Meets Waits Fits Opens meets_marked s (proceed P (going m (p ∷ ps) o) (p ∷ ps))) (sym (traps_next hidden Q m a x q i qs o))
            (subst (λ (t : State). actions.Agree more new P scalars hidden Meets Waits Fits Opens meets_marked (stopped (going m (q ∷ qs) o) Trap) t) (sym (traps_next hidden P m b y p j ps o))
            (actions.stops more new P scalars hidden Meets Waits Fits Opens meets_marked (going m (q ∷ qs) o) (going m (p ∷ ps) o) Trap refl refl)))
            (spelled (proceed P (going m (p ∷ ps) o) (p ∷ ps)) (kept (going m (p ∷ ps) o) inv None))

        abbrev FollowsStep : List Active → ℕ → Memory → Active → Memory → Active → Type 0
        FollowsStep ps o m q n p = Followed Suspended Running Q P ps o m q n p

        abbrev AnswersStep : List Active → ℕ → Memory → Active → Memory → Active → Type 0
        AnswersStep ps o m q n p = Answered Suspended Running Q P ps o m q n p

        abbrev SameRows : Memory → Type 0
        SameRows m = rows_of Q m.trace ≡ rows_of P m.trace

        entry_rows : (m : Memory) (h : ℕ) → SameRows m → SameRows (entry_memory m h)
        entry_rows m h v =
            map-append (row_of Q) m.trace (event.Enter h ∷ []) ∙ ap (λ (l : List Row). l ++ row_of Q (event.Enter h) ∷ []) v ∙ ap (λ (r : Row). rows_of P m.trace ++ r ∷ []) (enter_same more new P h)
            ∙ sym (map-append (row_of P) m.trace (event.Enter h ∷ []))

        -- after a move the locals that are not hidden are the same
        moved_same : (p : Program) (s t : LocalState) → LocalStep hidden p s t → Same s.control.func t.locals s.locals
        moved_same p _ _ (Jump a c l d) local h = refl
        moved_same p _ _ (ReadHidden a l r manner v d k e g) local h = refl
        moved_same p _ _ (ReadUnwritten a l r manner d k e g) local h = refl
        moved_same p _ _ (WriteHidden a l r v d k) local h = elsewhere l r local 0 (Some v) (λ e. not_same hidden a.func r local k h (sym e))
        moved_same p _ _ (Branch a l b d) local h = refl

        same_left : (q q' p : Active) → LocalStep hidden Q (local_state_of q) (local_state_of q') → q.func ≡ p.func → Same p.func q.locals p.locals → Same p.func q'.locals p.locals
        same_left q q' p x f s local h = moved_same Q (local_state_of q) (local_state_of q') x local (ap (λ (g : ℕ). hidden g local) f ∙ h) ∙ s local h

        same_right : (q p p' : Active) → LocalStep hidden P (local_state_of p) (local_state_of p') → Same p.func q.locals p.locals → Same p'.func q.locals p'.locals
        same_right q p p' x s local h =
            let e = ap (λ (g : ℕ). hidden g local) (sym (local_step_same hidden P (local_state_of p) (local_state_of p') x).func) ∙ h in
            s local e ∙ sym (moved_same P (local_state_of p) (local_state_of p') x local e)

        inv_moved : (m : Memory) (p p' : Active) (ps : List Active) (o : ℕ) → IsSilent P m p m p' → Inv (going m (p ∷ ps) o) → Inv (going m (p' ∷ ps) o)
        inv_moved m p p' ps o silent h = subst Inv (silent.step ps o) (kept (going m (p ∷ ps) o) h None)

        meets_both : (ps : List Active) (o : ℕ) (m : Memory) (a b : LocalState) → Match a b → (q p : Active) → local_state_of q ≡ a → local_state_of p ≡ b → Same p.func q.locals p.locals → Inv (going m (p ∷ ps) o) → Steps ps o m q m p
        meets_both ps o m a b x q p i j l inv =
            let met : Match (local_state_of q) (local_state_of p) = subst (λ (c : LocalState). Match c (local_state_of p)) (sym i) (subst (λ (c : LocalState). Match a c) (sym j) x) in
            both ps o m q p l (plain m p ps o inv (local_state_of q) met) (alike_late (local_state_of q) (local_state_of p) (transition Q (control_state q)) (transition P (control_state p)) (alike m p ps o inv (local_state_of q) met)) inv

        module _ (m : Memory) (q p : Active) (a b : LocalState) (i : local_state_of q ≡ a) (j : local_state_of p ≡ b) where
          -- the same of the activations
          reaches_here : (late : Bool) → Late late → Reaches late a b → Meets (local_state_of q) (local_state_of p)
          reaches_here late k x = (late, k, subst (λ (c : LocalState). Reaches late c (local_state_of p)) (sym i) (subst (λ (c : LocalState). Reaches late a c) (sym j) x))

          step_of_q : (c : LocalState) (d : LocalStep hidden Q a c) → LocalStep hidden Q (local_state_of q) (local_state_of (local_step_made hidden Q m a c d q i).to)
          step_of_q c d =
              let g = local_step_made hidden Q m a c d q i in
              subst (λ (y : LocalState). LocalStep hidden Q y (local_state_of g.to)) (sym i) (subst (λ (y : LocalState). LocalStep hidden Q a y) (sym g.there) d)

          step_of_p : (c : LocalState) (d : LocalStep hidden P b c) → LocalStep hidden P (local_state_of p) (local_state_of (local_step_made hidden P m b c d p j).to)
          step_of_p c d =
              let g = local_step_made hidden P m b c d p j in
              subst (λ (y : LocalState). LocalStep hidden P y (local_state_of g.to)) (sym j) (subst (λ (y : LocalState). LocalStep hidden P b y) (sym g.there) d)

        -- ---- steps of Q

        module _ (later : (late b : Bool) → Late late → Late (late || b)) where
          followed_at : (ps : List Active) (o : ℕ) (m : Memory) (late : Bool) (a b : LocalState) → Reaches late a b → Late late → (q p : Active) → local_state_of q ≡ a → local_state_of p ≡ b → IsSameCall q p → Same p.func q.locals p.locals → Inv (going m (p ∷ ps) o) → SameRows m → FollowsStep ps o m q m p
          followed_at ps o m _ _ _ (Arrives late a b x n) t q p i j k l inv v = QWithP m m q p (meets_both ps o m a b x q p i j l inv)
          followed_at ps o m _ _ _ (BothTrap late a b x y n) t q p i j k l inv v = QWithP m m q p (trap_both ps o m a b x y q p i j inv)
          followed_at ps o m _ _ _ (QGoes late a b c d x) t q p i j k l inv v =
              let g = local_step_made hidden Q m a c d q i in
              QAlone m m m q p g.to g.silent (refl, (same_left q g.to p (step_of_q m q p a b i j c d) k.func l, reaches_here m g.to p c b g.there j (late || is_at_boundary a.control) (later late (is_at_boundary a.control) t) x), v)
          followed_at ps o m _ _ _ (PGoes late a b c d n x) t q p i j k l inv v =
              let g = local_step_made hidden P m b c d p j in
              PFirst m m m q p g.to g.silent
              (followed_at ps o m false a c x prompt q g.to i g.there (IsSameCall-trans q p g.to k (IsSameCall-sym g.to p g.silent.same)) (same_right q p g.to (step_of_p m q p a b i j c d) l) (inv_moved m p g.to ps o g.silent inv) v)

        -- ---- steps of P

        answered_at : (ps : List Active) (o : ℕ) (m : Memory) (late : Bool) (a b : LocalState) → Reaches late a b → (q p : Active) → local_state_of q ≡ a → local_state_of p ≡ b → IsSameCall q p → Same p.func q.locals p.locals → Inv (going m (p ∷ ps) o) → SameRows m → AnswersStep ps o m q m p
        answered_at ps o m _ _ _ (Arrives late a b x n) q p i j k l inv v = PWithQ m m q p (meets_both ps o m a b x q p i j l inv)
        answered_at ps o m _ _ _ (BothTrap late a b x y n) q p i j k l inv v = PWithQ m m q p (trap_both ps o m a b x y q p i j inv)
        answered_at ps o m _ _ _ (QGoes late a b c d x) q p i j k l inv v =
            let g = local_step_made hidden Q m a c d q i in
            QFirst m m m q p g.to g.silent (answered_at ps o m (late || is_at_boundary a.control) c b x g.to p g.there j (IsSameCall-trans g.to q p g.silent.same k) (same_left q g.to p (step_of_q m q p a b i j c d) k.func l) inv v)
        answered_at ps o m _ _ _ (PGoes late a b c d n x) q p i j k l inv v =
            let g = local_step_made hidden P m b c d p j in
            PAlone m m m q p g.to g.silent (refl, (same_right q p g.to (step_of_p m q p a b i j c d) l, reaches_here m q g.to a c i g.there false prompt x), v)

        -- ---- entries

        abbrev MayEnter : Memory → Active → Memory → Active → Type 0
        MayEnter m q n p = EnterBoth Suspended Running Q P (extended more new) m q n p

        abbrev Catches : Memory → Active → Memory → Active → Type 0
        Catches m q n p = CatchesUp Suspended Running Q P (extended more new) m q n p

        enters_at : (m : Memory) (q p : Active) → m.flag ≡ true → Suspended false q p → SameRows m → MayEnter m q m p
        enters_at m q p on s v = record {
          rows = v;
          on = on;
          interrupted = s;
          entered = λ h f o e. (refl, fresh o h true f e, entry_rows m h v);
        }

        in_time : (late b : Bool) → late ≡ false → b ≡ false → (late || b) ≡ false
        in_time true b h k = absurd (cc)
        in_time false b h k = k

        caught_at : (m : Memory) (late : Bool) (a b : LocalState) → Reaches late a b → late ≡ false → (q p : Active) → local_state_of q ≡ a → local_state_of p ≡ b → IsSameCall q p → Same p.func q.locals p.locals → m.flag ≡ true → is_at_boundary b.control ≡ true → SameRows m → Catches m q m p
        caught_at m _ _ _ (Arrives late a b x n) t q p i j k l on z v =
            AtBoundary m m q p on (ap (λ (s : LocalState). is_at_boundary s.control) i ∙ n t z) (enters_at m q p on (l, reaches_here m q p a b i j late (subst Late (sym t) prompt) (Arrives late a b x n)) v)
        caught_at m _ _ _ (BothTrap late a b x y n) t q p i j k l on z v =
            AtBoundary m m q p on (ap (λ (s : LocalState). is_at_boundary s.control) i ∙ n t z) (enters_at m q p on (l, reaches_here m q p a b i j late (subst Late (sym t) prompt) (BothTrap late a b x y n)) v)
        caught_at m _ _ _ (QGoes late a b c d x) t q p i j k l on z v =
            let g = local_step_made hidden Q m a c d q i in
            by_boundary (is_at_boundary a.control) refl
            (λ e. Further m m m q p g.to g.silent (caught_at m (late || is_at_boundary a.control) c b x (in_time late (is_at_boundary a.control) t e) g.to p g.there j (IsSameCall-trans g.to q p g.silent.same k) (same_left q g.to p (step_of_q m q p a b i j c d) k.func l) on z v))
          where
            by_boundary : (e : Bool) → is_at_boundary a.control ≡ e → (is_at_boundary a.control ≡ false → Catches m q m p) → Catches m q m p
            by_boundary true e further =
                AtBoundary m m q p on (ap (λ (s : LocalState). is_at_boundary s.control) i ∙ e) (enters_at m q p on (l, reaches_here m q p a b i j late (subst Late (sym t) prompt) (QGoes late a b c d x)) v)
            by_boundary false e further = further e
        caught_at m _ _ _ (PGoes late a b c d n x) t q p i j k l on z v =
            AtBoundary m m q p on (ap (λ (s : LocalState). is_at_boundary s.control) i ∙ n t z) (enters_at m q p on (l, reaches_here m q p a b i j late (subst Late (sym t) prompt) (PGoes late a b c d n x)) v)

        rows : (m n : Memory) (q p : Active) → Running m q n p → rows_of Q m.trace ≡ rows_of P n.trace
        rows m n q p r = r.2

        same_rows : (m n : Memory) (q p : Active) → Running m q n p → SameRows m
        same_rows m n q p r = r.2 ∙ ap (λ (m : Memory). rows_of P m.trace) (sym r.0)

        answered : (m n : Memory) (q p : Active) (ps : List Active) (o : ℕ) → IsSameCall q p → Running m q n p → Inv (going n (p ∷ ps) o) → AnswersStep ps o m q n p
        answered m n q p ps o k r inv = subst (λ (n : Memory). AnswersStep ps o m q n p) r.0 (answered_at ps o m r.1.1.0 (local_state_of q) (local_state_of p) r.1.1.2 q p refl refl k r.1.0 (subst (λ (m : Memory). Inv (going m (p ∷ ps) o)) (sym r.0) inv) (same_rows m n q p r))

        enters : (m n : Memory) (q p : Active) → IsSameCall q p → Running m q n p → m.flag ≡ true → MayEnter m q n p
        enters m n q p k r on = subst (λ (n : Memory). MayEnter m q n p) r.0 (enters_at m q p on r.1 (same_rows m n q p r))

        module _ (main : Func) (there : slice_get P.funcs P.main ≡ Some main) where
          by_main : (x y : Option Func) → x ≡ Some (extended more new main) → y ≡ Some main → On (first_of_stack Q x) (first_of_stack P y)
          by_main x y h k =
              subst (λ (z : Option Func). On (first_of_stack Q z) (first_of_stack P y)) (sym h)
              (subst (λ (z : Option Func). On (first_of_stack Q (Some (extended more new main))) (first_of_stack P z)) (sym k)
              (record { number = refl; func = refl; handler = refl }, fresh 0 P.main false main there, tt))

          starts : (inputs : List ℤ) → RelatedSeen (start Q inputs) (start P inputs)
          starts inputs =
              actions.seen_so more new P scalars hidden Meets Waits Fits Opens meets_marked (start Q inputs) (start P inputs)
              (record { memory = refl; end = refl; alive = λ g. (refl, by_main (slice_get Q.funcs P.main) (slice_get P.funcs P.main) (funcs_same more new P P.main ∙ ap (option_map (extended more new)) there) there) }) (spelled (start P inputs) (begun inputs))

          module _ (later : (late b : Bool) → Late late → Late (late || b)) where
            followed : (m n : Memory) (q p : Active) (ps : List Active) (o : ℕ) → IsSameCall q p → Running m q n p → Inv (going n (p ∷ ps) o) → FollowsStep ps o m q n p
            followed m n q p ps o k r inv = subst (λ (n : Memory). FollowsStep ps o m q n p) r.0 (followed_at later ps o m r.1.1.0 (local_state_of q) (local_state_of p) r.1.1.2 r.1.1.1 q p refl refl k r.1.0 (subst (λ (m : Memory). Inv (going m (p ∷ ps) o)) (sym r.0) inv) (same_rows m n q p r))

            pub follows_by : Follows Q P
            follows_by = turns.follows Q P (extended more new) (actions.handlers_same more new P scalars hidden Meets Waits Fits Opens meets_marked) (levels_same more new P) (enter_same more new P) Suspended Running Inv rows kept followed enters (λ inputs. (starts inputs, begun inputs))

          module _ (early : (late : Bool) → Late late → late ≡ false) where
            caught : (m n : Memory) (q p : Active) → IsSameCall q p → Running m q n p → n.flag ≡ true → begins_there p ≡ true → Catches m q n p
            caught m n q p k r on z = subst (λ (n : Memory). Catches m q n p) r.0 (caught_at m r.1.1.0 (local_state_of q) (local_state_of p) r.1.1.2 (early r.1.1.0 r.1.1.1) q p refl refl k r.1.0 (ap (λ (m : Memory). m.flag) r.0 ∙ on) z (same_rows m n q p r))

            pub answers_by : Answers Q P
            answers_by = turns.answers Q P (extended more new) (actions.handlers_same more new P scalars hidden Meets Waits Fits Opens meets_marked) (levels_same more new P) (enter_same more new P) Suspended Running Inv rows kept answered caught (λ inputs. (starts inputs, begun inputs))

-- ---- Q may be late where it is followed, and is not where it answers

abbrev any_time : Bool → Type 0
any_time late = Unit {0}

abbrev on_time : Bool → Type 0
on_time late = late ≡ false

module _ (more : Func → List Named) (new : Func → List Stmt) (P : Program) (scalars : AddsScalars more) (hidden : ℕ → ℕ → Bool) (Inv : State → Type 0) (Match : LocalState → LocalState → Type 0) (Fits : LocalState → Mark → Type 0) (Opens : ℕ → ℕ → List Value → Type 0)
    (shown : (id : ℕ) (f : Func) → slice_get P.funcs id ≡ Some f → (local : ℕ) → hidden id local ≡ false → (nat_lt local (length f.locals) ≡ true) ⊎ (more f ≡ []))
    (match_after_write : (q p : LocalState) → Match q p → q.control.func ≡ p.control.func → (local i : ℕ) (v : Value) → hidden p.control.func local ≡ false → Match (after_write q local i v) (after_write p local i v))
    (fits_after_write : (p : LocalState) (m : Mark) (local i : ℕ) (v : Value) → hidden p.control.func local ≡ false → Fits p m → Fits (after_write p local i v) m)
    (fits_before_write : (p : LocalState) (m : Mark) (local i : ℕ) (v : Value) → hidden p.control.func local ≡ false → Fits (after_write p local i v) m → Fits p m)
    (begins : (number id : ℕ) (args : List Value) (f : Func) → slice_get P.funcs id ≡ Some f → Opens number id args → Approaches hidden (all_extended more new P) P Match false (begun_state (all_extended more new P) number id args (extended more new f)) (begun_state P number id args f))
    (alike : (m : Memory) (p : Active) (ps : List Active) (o : ℕ) → Inv (going m (p ∷ ps) o) → (q : LocalState) → Match q (local_state_of p) →
    AreAlike hidden (Approaches hidden (all_extended more new P) P Match false) (Expects hidden (all_extended more new P) P Match Fits) q (local_state_of p) (transition (all_extended more new P) q.control) (transition P (control_state p)))
    (spelled : (t : State) → Inv t → rows_of (all_extended more new P) t.memory.trace ≡ rows_of P t.memory.trace)
    (kept : (t : State) → Inv t → (arrival : Option ℕ) → Inv (turn P t arrival))
    (begun : (inputs : List ℤ) → Inv (start P inputs))
    (plain : (m : Memory) (p : Active) (ps : List Active) (o : ℕ) → Inv (going m (p ∷ ps) o) → (q : LocalState) → Match q (local_state_of p) → (x : Action) → transition P (control_state p) ≡ Performs x → is_action_visible hidden (p ∷ ps) x ≡ true)
    (fitting : (m : Memory) (p : Active) (ps : List Active) (o : ℕ) → Inv (going m (p ∷ ps) o) → AreFitting Fits Opens P m p ps o)
    (opens_empty : (number id : ℕ) → Opens number id [])
    (main : Func) (there : slice_get P.funcs P.main ≡ Some main) where
  pub follows : Follows (all_extended more new P) P
  follows = follows_by more new P scalars hidden Inv Match Fits Opens any_time tt shown match_after_write fits_after_write fits_before_write begins alike spelled kept begun plain fitting opens_empty main there (λ late b k. tt)

  pub answers : Answers (all_extended more new P) P
  answers = answers_by more new P scalars hidden Inv Match Fits Opens on_time refl shown match_after_write fits_after_write fits_before_write begins alike spelled kept begun plain fitting opens_empty main there (λ late k. k)
