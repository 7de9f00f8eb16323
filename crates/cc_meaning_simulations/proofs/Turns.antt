-- Turns of two programs, from single steps of their running activations: entries, boundaries, runs and their ends.
use Rattle.std.proofs.Common.{◌≡◌, ◌∙◌, ◌∷◌, ◌++◌, ◌&&◌, ◌||◌, ◌⊎◌, if◌then◌else◌, ℕ, ℤ, Bool, true, false, not, List, [], inl, inr, Option, Some, None, option_map, slice_get, refl, ap, sym, subst}
use Rattle.std.specs.Prelude.{nat_eq, nat_lt, max, is_some}
use Rattle.cc_program.specs.declared.func.Func.{Func}
use Rattle.cc_program.specs.declared.program.Program.{Program}
use Rattle.cc_steps.specs.declared.event.End.{End}
use Rattle.cc_steps.specs.declared.event.End.TheVariants.{Going, Exit, Trap, Starved}
use Rattle.cc_steps.specs.declared.event.Event.TheVariants.{Enter}
use Rattle.cc_steps.specs.Rows.{Row, row_of, rows_of}
use Rattle.cc_steps.specs.Runs.{Arrivals, run, Same, Follows, Answers, EntersAtBoundaries, IsBoundary}
use Rattle.cc_steps.specs.State.{Active, IsSameCall, Memory, State}
use Rattle.cc_steps.specs.Step.{proceed}
use Rattle.cc_steps.specs.Turn.{is_going, only_handler, level_of, running_level, start, turn, turn_by, entering, entered, enters}
use Rattle.cc_steps.proofs.RunLaws.{Follows-by_simulation, Answers-by_simulation}
use Rattle.std.proofs.lemmas.List.{map-append}
use Rattle.cc_meaning_simulations.specs.StepSimulations.{Answered, AtBoundary, CatchesUp, EnterBoth, Followed, Further, IsSilent, PAlone, PFirst, PWithQ, QAlone, QFirst, QWithP, Related, Stacks, SuspendedStacks, begins_there, going}

pub IsSameCall-trans : (r q p : Active) → IsSameCall r q → IsSameCall q p → IsSameCall r p
IsSameCall-trans r q p h k = record { number = h.number ∙ k.number; func = h.func ∙ k.func; handler = h.handler ∙ k.handler }

pub IsSameCall-sym : (q p : Active) → IsSameCall q p → IsSameCall p q
IsSameCall-sym q p h = record { number = sym h.number; func = sym h.func; handler = sym h.handler }

-- whether a handler's level lets it enter
abbrev pub is_above : Program → List Active → ℕ → Bool
is_above p stack h = nat_eq (level_of p h) 0 || nat_lt (running_level p stack) (level_of p h)

differ : {A : Type 0} → false ≡ true → A
differ h = absurd (cc)

pub going_is : (e : End) → is_going e ≡ true → e ≡ Going
going_is Going h = refl
going_is (Exit v) h = differ h
going_is Trap h = differ h
going_is Starved h = differ h

-- ---- which turn an arrival makes

module _ (p : Program) (s : State) (h : ℕ) where
  abbrev enters_by : Bool → Bool → Bool → Option Func → Option (ℕ × Func)
  enters_by g b c f = if g && (b && c) then option_map {U = ℕ × Func} (λ f. (h, f)) f else None

  entering-is : (b c : Bool) (f : Option Func) → is_going s.end ≡ true → s.memory.flag ≡ b → is_above p s.stack h ≡ c → only_handler (slice_get p.funcs h) ≡ f →
      entering p s (Some h) ≡ (if b && c then option_map {U = ℕ × Func} (λ f. (h, f)) f else None)
  entering-is b c f g i j k =
      ap (λ (x : Bool). enters_by x s.memory.flag (is_above p s.stack h) (only_handler (slice_get p.funcs h))) g
      ∙ ap (λ (x : Bool). enters_by true x (is_above p s.stack h) (only_handler (slice_get p.funcs h))) i
      ∙ ap (λ (x : Bool). enters_by true b x (only_handler (slice_get p.funcs h))) j
      ∙ ap (λ (x : Option Func). enters_by true b c x) k

both_left : (b : Bool) → (b && true) ≡ true → b ≡ true
both_left true h = refl
both_left false h = differ h

over-turn : (p : Program) (s : State) (a : Option ℕ) → is_going s.end ≡ false → turn p s a ≡ s
over-turn p s None h = ap (λ (b : Bool). if b then proceed p s s.stack else s) h
over-turn p s (Some k) h =
    ap (λ (b : Bool). turn_by p s (if b && (s.memory.flag && is_above p s.stack k) then option_map {U = ℕ × Func} (λ f. (k, f)) (only_handler (slice_get p.funcs k)) else None)) h
    ∙ ap (λ (b : Bool). if b then proceed p s s.stack else s) h

handler_there : (f : Option Func) (g : Func) → only_handler f ≡ Some g → f ≡ Some g
handler_there None g h = absurd (cc)
handler_there (Some f) g h = by_handler _ refl h
  where
    by_handler : (b : Bool) → b ≡ b → (if b then Some f else None) ≡ Some g → Some f ≡ Some g
    by_handler true e h = h
    by_handler false e h = absurd (cc)

-- The functions of P have counterparts in Q. Handlers are handlers' counterparts, of the same levels, and their entries are seen alike. Inv is
-- an invariant of the runs of P.
module _ (Q P : Program) (counterpart : Func → Func)
    (handlers : (h : ℕ) → only_handler (slice_get Q.funcs h) ≡ option_map counterpart (only_handler (slice_get P.funcs h)))
    (levels : (f : ℕ) → level_of Q f ≡ level_of P f)
    (rows_enter : (h : ℕ) → row_of Q (Enter h) ≡ row_of P (Enter h))
    (Suspended : Bool → Active → Active → Type 0)
    (Running : Memory → Active → Memory → Active → Type 0)
    (Inv : State → Type 0)
  where
    abbrev Below : Bool → List Active → List Active → Type 0
    Below called qs ps = SuspendedStacks Suspended called qs ps

    abbrev OnTop : Memory → Memory → List Active → List Active → Type 0
    OnTop m n qs ps = Stacks Suspended Running m n qs ps

    abbrev Relates : State → State → Type 0
    Relates s t = Related Suspended Running Q P s t

    abbrev Follows_step : List Active → ℕ → Memory → Active → Memory → Active → Type 0
    Follows_step ps opened m q n p = Followed Suspended Running Q P ps opened m q n p

    abbrev Answers_step : List Active → ℕ → Memory → Active → Memory → Active → Type 0
    Answers_step ps opened m q n p = Answered Suspended Running Q P ps opened m q n p

    abbrev MayEnter : Memory → Active → Memory → Active → Type 0
    MayEnter m q n p = EnterBoth Suspended Running Q P counterpart m q n p

    abbrev Catches : Memory → Active → Memory → Active → Type 0
    Catches m q n p = CatchesUp Suspended Running Q P counterpart m q n p

    -- ---- levels

    stack_level : (c : Bool) (qs ps : List Active) → Below c qs ps → running_level Q qs ≡ running_level P ps
    stack_level c [] [] h = refl
    stack_level c (q ∷ qs) (p ∷ ps) h = raised h.0 (stack_level (not p.handler) qs ps h.2)
      where
        raised : IsSameCall q p → running_level Q qs ≡ running_level P ps →
            (if q.handler then max (level_of Q q.func) (running_level Q qs) else running_level Q qs) ≡ (if p.handler then max (level_of P p.func) (running_level P ps) else running_level P ps)
        raised k e =
            ap (λ (b : Bool). if b then max (level_of Q q.func) (running_level Q qs) else running_level Q qs) k.handler
            ∙ ap (λ (n : ℕ). if p.handler then max n (running_level Q qs) else running_level Q qs) (levels q.func ∙ ap (level_of P) k.func)
            ∙ ap (λ (n : ℕ). if p.handler then max (level_of P p.func) n else n) e
    stack_level c [] (p ∷ ps) h = absurd h
    stack_level c (q ∷ qs) [] h = absurd h

    running_above : (q p : Active) (qs ps : List Active) (h : ℕ) → IsSameCall q p → Below (not p.handler) qs ps → is_above Q (q ∷ qs) h ≡ is_above P (p ∷ ps) h
    running_above q p qs ps h k s =
        let top : running_level Q (q ∷ qs) ≡ running_level P (p ∷ ps) =
        ap (λ (b : Bool). if b then max (level_of Q q.func) (running_level Q qs) else running_level Q qs) k.handler
        ∙ ap (λ (n : ℕ). if p.handler then max n (running_level Q qs) else running_level Q qs) (levels q.func ∙ ap (level_of P) k.func)
        ∙ ap (λ (n : ℕ). if p.handler then max (level_of P p.func) n else n) (stack_level (not p.handler) qs ps s) in
        ap (λ (l : ℕ). nat_eq l 0 || nat_lt (running_level Q (q ∷ qs)) l) (levels h) ∙ ap (λ (l : ℕ). nat_eq (level_of P h) 0 || nat_lt l (level_of P h)) top

    handler_rows : (m n : Memory) (h : ℕ) → rows_of Q m.trace ≡ rows_of P n.trace → rows_of Q (m.trace ++ Enter h ∷ []) ≡ rows_of P (n.trace ++ Enter h ∷ [])
    handler_rows m n h e =
        map-append (row_of Q) m.trace (Enter h ∷ []) ∙ ap (λ (l : List Row). l ++ row_of Q (Enter h) ∷ []) e ∙ ap (λ (r : Row). rows_of P n.trace ++ r ∷ []) (rows_enter h)
        ∙ sym (map-append (row_of P) n.trace (Enter h ∷ []))

    module _ (rows : (m n : Memory) (q p : Active) → Running m q n p → rows_of Q m.trace ≡ rows_of P n.trace)
        (kept : (t : State) → Inv t → (arrival : Option ℕ) → Inv (turn P t arrival))
      where
        running : (m n : Memory) (q p : Active) (qs ps : List Active) (opened : ℕ) → IsSameCall q p → Running m q n p → Below (not p.handler) qs ps → Relates (going m (q ∷ qs) opened) (going n (p ∷ ps) opened)
        running m n q p qs ps opened k r h = record { rows = rows m n q p r; end = refl; alive = λ g. (refl, (k, r, h)) }

        again : (p b : Active) (qs ps : List Active) → IsSameCall b p → Below (not p.handler) qs ps → Below (not b.handler) qs ps
        again p b qs ps k h = subst (λ (c : Bool). Below (not c) qs ps) (sym k.handler) h

        -- ---- steps of q

        abbrev Follow : List Active → ℕ → Memory → Active → Memory → Active → Type 0
        Follow ps opened m q n p = (qs : List Active) → IsSameCall q p → Below (not p.handler) qs ps →
            (others : Arrivals) × Relates (proceed Q (going m (q ∷ qs) opened) (q ∷ qs)) (run P (going n (p ∷ ps) opened) others)

        follow : (ps : List Active) (opened : ℕ) (m n : Memory) (q p : Active) → Follows_step ps opened m q n p → Follow ps opened m q n p
        follow ps opened _ _ _ _ (QAlone m n m' q p q' silent r) qs k h =
            ([], subst (λ (s : State). Relates s (going n (p ∷ ps) opened)) (sym (silent.step qs opened)) (running m' n q' p qs ps opened (IsSameCall-trans q' q p silent.same k) r h))
        follow ps opened _ _ _ _ (PFirst m n n' q p p' silent f) qs k h =
            let x = follow ps opened m n' q p' f qs (IsSameCall-trans q p p' k (IsSameCall-sym p' p silent.same)) (again p p' qs ps silent.same h) in
            (None ∷ x.0, subst (λ (t : State). Relates (proceed Q (going m (q ∷ qs) opened) (q ∷ qs)) (run P t x.0)) (sym (silent.step ps opened)) x.1)
        follow ps opened _ _ _ _ (QWithP m n q p b) qs k h = (None ∷ [], b qs k h)

        -- ---- steps of p

        abbrev Answer : Memory → List Active → ℕ → State → Type 0
        Answer m qs opened t = (others : Arrivals) × EntersAtBoundaries Q (going m qs opened) others × Relates (run Q (going m qs opened) others) t

        -- q moves alone before
        before : (m m' : Memory) (q q' : Active) (qs : List Active) (opened : ℕ) (t : State) → IsSilent Q m q m' q' → Answer m' (q' ∷ qs) opened t → Answer m (q ∷ qs) opened t
        before m m' q q' qs opened t silent x = (
          None ∷ x.0,
          ((λ e. differ e), subst (λ (s : State). EntersAtBoundaries Q s x.0) (sym (silent.step qs opened)) x.1),
          subst (λ (s : State). Relates (run Q s x.0) t) (sym (silent.step qs opened)) x.2,
        )

        answer : (ps : List Active) (opened : ℕ) (m n : Memory) (q p : Active) → Answers_step ps opened m q n p → (qs : List Active) → IsSameCall q p → Below (not p.handler) qs ps →
            Answer m (q ∷ qs) opened (proceed P (going n (p ∷ ps) opened) (p ∷ ps))
        answer ps opened _ _ _ _ (PAlone m n n' q p p' silent r) qs k h =
            ([], tt, subst (λ (t : State). Relates (going m (q ∷ qs) opened) t) (sym (silent.step ps opened)) (running m n' q p' qs ps opened (IsSameCall-trans q p p' k (IsSameCall-sym p' p silent.same)) r (again p p' qs ps silent.same h)))
        answer ps opened _ _ _ _ (QFirst m n m' q p q' silent f) qs k h =
            before m m' q q' qs opened _ silent (answer ps opened m' n q' p f qs (IsSameCall-trans q' q p silent.same k) h)
        answer ps opened _ _ _ _ (PWithQ m n q p b) qs k h = (None ∷ [], ((λ e. differ e), tt), b qs k h)

        -- ---- entries

        entered_related : (m n : Memory) (q p : Active) (qs ps : List Active) (opened h : ℕ) (f : Func) → slice_get P.funcs h ≡ Some f → IsSameCall q p → MayEnter m q n p → Below (not p.handler) qs ps →
            Relates (entered Q (going m (q ∷ qs) opened) (h, counterpart f)) (entered P (going n (p ∷ ps) opened) (h, f))
        entered_related m n q p qs ps opened h f i k e s = record {
          rows = handler_rows m n h e.rows;
          end = refl;
          alive = λ g. (refl, (record { number = refl; func = refl; handler = refl }, e.entered h f opened i, (k, e.interrupted, s)));
        }

        -- the turn of an arrival that enters, and of one that does not
        enters-turn : (p : Program) (m : Memory) (a : Active) (below : List Active) (opened h : ℕ) (f : Func) → m.flag ≡ true → is_above p (a ∷ below) h ≡ true → only_handler (slice_get p.funcs h) ≡ Some f →
            turn p (going m (a ∷ below) opened) (Some h) ≡ entered p (going m (a ∷ below) opened) (h, f)
        enters-turn p m a below opened h f i j k = ap (turn_by p (going m (a ∷ below) opened)) (entering-is p (going m (a ∷ below) opened) h true true (Some f) refl i j k)

        none_enters : (b c : Bool) (h : ℕ) (f : Option Func) → (b && c ≡ false) ⊎ (f ≡ None) → (if b && c then option_map {U = ℕ × Func} (λ f. (h, f)) f else None) ≡ None
        none_enters b c h f (inl e) = ap (λ (x : Bool). if x then option_map {U = ℕ × Func} (λ f. (h, f)) f else None) e
        none_enters true true h f (inr e) = rw e refl
        none_enters true false h f (inr e) = refl
        none_enters false c h f (inr e) = refl

        steps-turn : (p : Program) (m : Memory) (a : Active) (below : List Active) (opened h : ℕ) (b c : Bool) (f : Option Func) → m.flag ≡ b → is_above p (a ∷ below) h ≡ c → only_handler (slice_get p.funcs h) ≡ f →
            (b && c ≡ false) ⊎ (f ≡ None) → turn p (going m (a ∷ below) opened) (Some h) ≡ proceed p (going m (a ∷ below) opened) (a ∷ below)
        steps-turn p m a below opened h b c f i j k n =
            ap (turn_by p (going m (a ∷ below) opened)) (entering-is p (going m (a ∷ below) opened) h b c f refl i j k ∙ none_enters b c h f n)

        -- q catches up, and the handler enters
        catch_up : (m n : Memory) (q p : Active) → Catches m q n p → (qs ps : List Active) (opened h : ℕ) (f : Func) → slice_get P.funcs h ≡ Some f → only_handler (slice_get Q.funcs h) ≡ Some (counterpart f) →
            IsSameCall q p → Below (not p.handler) qs ps → is_above P (p ∷ ps) h ≡ true → Answer m (q ∷ qs) opened (entered P (going n (p ∷ ps) opened) (h, f))
        catch_up _ _ _ _ (AtBoundary m n q p on b e) qs ps opened h f i l k s j = (
          Some h ∷ [],
          ((λ x. ap (λ (c : Bool). c && true) b), tt),
          subst (λ (t : State). Relates t (entered P (going n (p ∷ ps) opened) (h, f))) (sym (enters-turn Q m q qs opened h (counterpart f) on (running_above q p qs ps h k s ∙ j) l))
              (entered_related m n q p qs ps opened h f i k e s),
        )
        catch_up _ _ _ _ (Further m n m' q p q' silent c) qs ps opened h f i l k s j =
            before m m' q q' qs opened _ silent (catch_up m' n q' p c qs ps opened h f i l (IsSameCall-trans q' q p silent.same k) s j)

        -- ---- whole states

        as_going : (s : State) → s.end ≡ Going → going s.memory s.stack s.opened ≡ s
        as_going s e = λ i. record { memory = s.memory; stack = s.stack; opened = s.opened; end = sym e i }

        -- the invariant is p's alone
        run_kept : (t : State) → Inv t → (arrivals : Arrivals) → Inv (run P t arrivals)
        run_kept t h [] = h
        run_kept t h (a ∷ rest) = run_kept (turn P t a) (kept t h a) rest

        abbrev pub RelatedWith : State → State → Type 0
        RelatedWith s t = Relates s t × Inv t

        same_seen : (s t : State) → RelatedWith s t → Same Q P s t
        same_seen s t h = record { trace = h.0.rows; end = h.0.end }

        -- ---- Q follows P

        module _ (followed : (m n : Memory) (q p : Active) (ps : List Active) (opened : ℕ) → IsSameCall q p → Running m q n p → Inv (going n (p ∷ ps) opened) → Follows_step ps opened m q n p)
            (enter : (m n : Memory) (q p : Active) → IsSameCall q p → Running m q n p → m.flag ≡ true → MayEnter m q n p)
          where
            module _ (m n : Memory) (q p : Active) (qs ps : List Active) (opened : ℕ) (k : IsSameCall q p) (r : Running m q n p) (s : Below (not p.handler) qs ps) (inv : Inv (going n (p ∷ ps) opened)) where
              abbrev Qs : State
              Qs = going m (q ∷ qs) opened

              abbrev Ps : State
              Ps = going n (p ∷ ps) opened

              plain : (others : Arrivals) × Relates (proceed Q Qs (q ∷ qs)) (run P Ps others)
              plain = follow ps opened m n q p (followed m n q p ps opened k r inv) qs k s

              q_handler : (h : ℕ) (f : Option Func) → only_handler (slice_get P.funcs h) ≡ f → only_handler (slice_get Q.funcs h) ≡ option_map counterpart f
              q_handler h f i = handlers h ∙ ap (option_map counterpart) i

              same_level : (h : ℕ) → is_above Q (q ∷ qs) h ≡ is_above P (p ∷ ps) h
              same_level h = running_above q p qs ps h k s

              arrives : (h : ℕ) (b c : Bool) (f : Option Func) → m.flag ≡ b → is_above P (p ∷ ps) h ≡ c → only_handler (slice_get P.funcs h) ≡ f → (others : Arrivals) × Relates (turn Q Qs (Some h)) (run P Ps others)
              arrives h true true (Some f) i j l =
                  let e = enter m n q p k r i in (
                    Some h ∷ [],
                    subst (λ (t : State). Relates (turn Q Qs (Some h)) t) (sym (enters-turn P n p ps opened h f e.on j l))
                        (subst (λ (t : State). Relates t (entered P Ps (h, f))) (sym (enters-turn Q m q qs opened h (counterpart f) i (same_level h ∙ j) (q_handler h (Some f) l)))
                        (entered_related m n q p qs ps opened h f (handler_there (slice_get P.funcs h) f l) k e s)),
                  )
              arrives h true true None i j l =
                  subst (λ (t : State). (others : Arrivals) × Relates t (run P Ps others)) (sym (steps-turn Q m q qs opened h true true None i (same_level h ∙ j) (q_handler h None l) (inr refl))) plain
              arrives h true false f i j l =
                  subst (λ (t : State). (others : Arrivals) × Relates t (run P Ps others)) (sym (steps-turn Q m q qs opened h true false (option_map counterpart f) i (same_level h ∙ j) (q_handler h f l) (inl refl))) plain
              arrives h false c f i j l =
                  subst (λ (t : State). (others : Arrivals) × Relates t (run P Ps others)) (sym (steps-turn Q m q qs opened h false c (option_map counterpart f) i (same_level h ∙ j) (q_handler h f l) (inl refl))) plain

              turns : (arrival : Option ℕ) → (others : Arrivals) × Relates (turn Q Qs arrival) (run P Ps others)
              turns None = plain
              turns (Some h) = arrives h m.flag (is_above P (p ∷ ps) h) (only_handler (slice_get P.funcs h)) refl refl refl

            abbrev Stepped : State → State → Option ℕ → Type 0
            Stepped s t arrival = (others : Arrivals) × Relates (turn Q s arrival) (run P t others)

            by_stacks : (m n : Memory) (qs ps : List Active) (o o' : ℕ) (arrival : Option ℕ) → o ≡ o' → OnTop m n qs ps → Inv (going n ps o') → Stepped (going m qs o) (going n ps o') arrival
            by_stacks m n (q ∷ qs) (p ∷ ps) o o' arrival e r inv = subst (λ (i : ℕ). Stepped (going m (q ∷ qs) i) (going n (p ∷ ps) o') arrival) (sym e) (turns m n q p qs ps o' r.0 r.1 r.2 inv arrival)
            by_stacks m n [] [] o o' arrival e r inv = absurd r
            by_stacks m n [] (p ∷ ps) o o' arrival e r inv = absurd r
            by_stacks m n (q ∷ qs) [] o o' arrival e r inv = absurd r

            by_end : (b : Bool) (s t : State) → is_going t.end ≡ b → Relates s t → Inv t → (arrival : Option ℕ) → Stepped s t arrival
            by_end false s t e r inv arrival = ([], subst (λ (u : State). Relates u t) (sym (over-turn Q s arrival (ap is_going r.end ∙ e))) r)
            by_end true s t e r inv arrival =
                let on : t.end ≡ Going = going_is t.end e in
                let alive = r.alive e in
                subst (λ (u : State). Stepped u t arrival) (as_going s (r.end ∙ on))
                (subst (λ (u : State). Stepped (going s.memory s.stack s.opened) u arrival) (as_going t on)
                (by_stacks s.memory t.memory s.stack t.stack s.opened t.opened arrival alive.0 alive.1 (subst Inv (sym (as_going t on)) inv)))

            pub simulates : (s t : State) → RelatedWith s t → (arrival : Option ℕ) → (others : Arrivals) × RelatedWith (turn Q s arrival) (run P t others)
            simulates s t h arrival = let x = by_end (is_going t.end) s t refl h.0 h.1 arrival in (x.0, (x.1, run_kept t h.1 x.0))

            pub follows : ((inputs : List ℤ) → RelatedWith (start Q inputs) (start P inputs)) → Follows Q P
            follows starts = Follows-by_simulation Q P RelatedWith same_seen starts simulates

        -- ---- Q answers P

        module _ (answered : (m n : Memory) (q p : Active) (ps : List Active) (opened : ℕ) → IsSameCall q p → Running m q n p → Inv (going n (p ∷ ps) opened) → Answers_step ps opened m q n p)
            (caught : (m n : Memory) (q p : Active) → IsSameCall q p → Running m q n p → n.flag ≡ true → begins_there p ≡ true → Catches m q n p)
          where
            module _ (m n : Memory) (q p : Active) (qs ps : List Active) (opened : ℕ) (k : IsSameCall q p) (r : Running m q n p) (s : Below (not p.handler) qs ps) (inv : Inv (going n (p ∷ ps) opened)) where
              abbrev Qs_back : State
              Qs_back = going m (q ∷ qs) opened

              abbrev Ps_back : State
              Ps_back = going n (p ∷ ps) opened

              plain_back : Answer m (q ∷ qs) opened (proceed P Ps_back (p ∷ ps))
              plain_back = answer ps opened m n q p (answered m n q p ps opened k r inv) qs k s

              -- what an arrival that enters asks of the boundary
              at_boundary : (h : ℕ) (f : Func) → n.flag ≡ true → is_above P (p ∷ ps) h ≡ true → only_handler (slice_get P.funcs h) ≡ Some f → (enters P Ps_back (Some h) ≡ true → IsBoundary Ps_back) → begins_there p ≡ true
              at_boundary h f i j l b = both_left (begins_there p) (b (ap is_some (entering-is P Ps_back h true true (Some f) refl i j l)))

              arrives_back : (h : ℕ) (b c : Bool) (f : Option Func) → n.flag ≡ b → is_above P (p ∷ ps) h ≡ c → only_handler (slice_get P.funcs h) ≡ f → (enters P Ps_back (Some h) ≡ true → IsBoundary Ps_back) →
                  Answer m (q ∷ qs) opened (turn P Ps_back (Some h))
              arrives_back h true true (Some f) i j l bound =
                  subst (λ (t : State). Answer m (q ∷ qs) opened t) (sym (enters-turn P n p ps opened h f i j l))
                  (catch_up m n q p (caught m n q p k r i (at_boundary h f i j l bound)) qs ps opened h f (handler_there (slice_get P.funcs h) f l) (handlers h ∙ ap (option_map counterpart) l) k s j)
              arrives_back h true true None i j l bound = subst (λ (t : State). Answer m (q ∷ qs) opened t) (sym (steps-turn P n p ps opened h true true None i j l (inr refl))) plain_back
              arrives_back h true false f i j l bound = subst (λ (t : State). Answer m (q ∷ qs) opened t) (sym (steps-turn P n p ps opened h true false f i j l (inl refl))) plain_back
              arrives_back h false c f i j l bound = subst (λ (t : State). Answer m (q ∷ qs) opened t) (sym (steps-turn P n p ps opened h false c f i j l (inl refl))) plain_back

              turns_back : (arrival : Option ℕ) → (enters P Ps_back arrival ≡ true → IsBoundary Ps_back) → Answer m (q ∷ qs) opened (turn P Ps_back arrival)
              turns_back None bound = plain_back
              turns_back (Some h) bound = arrives_back h n.flag (is_above P (p ∷ ps) h) (only_handler (slice_get P.funcs h)) refl refl refl bound

            abbrev SteppedBack : State → State → Option ℕ → Type 0
            SteppedBack s t arrival = (others : Arrivals) × EntersAtBoundaries Q s others × Relates (run Q s others) (turn P t arrival)

            by_stacks_back : (m n : Memory) (qs ps : List Active) (o o' : ℕ) (arrival : Option ℕ) → o ≡ o' → OnTop m n qs ps → Inv (going n ps o') → (enters P (going n ps o') arrival ≡ true → IsBoundary (going n ps o')) →
                SteppedBack (going m qs o) (going n ps o') arrival
            by_stacks_back m n (q ∷ qs) (p ∷ ps) o o' arrival e r inv bound =
                subst (λ (i : ℕ). SteppedBack (going m (q ∷ qs) i) (going n (p ∷ ps) o') arrival) (sym e) (turns_back m n q p qs ps o' r.0 r.1 r.2 inv arrival bound)
            by_stacks_back m n [] [] o o' arrival e r inv bound = absurd r
            by_stacks_back m n [] (p ∷ ps) o o' arrival e r inv bound = absurd r
            by_stacks_back m n (q ∷ qs) [] o o' arrival e r inv bound = absurd r

            by_end_back : (b : Bool) (s t : State) → is_going t.end ≡ b → Relates s t → Inv t → (arrival : Option ℕ) → (enters P t arrival ≡ true → IsBoundary t) → SteppedBack s t arrival
            by_end_back false s t e r inv arrival bound = ([], tt, subst (λ (u : State). Relates s u) (sym (over-turn P t arrival e)) r)
            by_end_back true s t e r inv arrival bound =
                let on : t.end ≡ Going = going_is t.end e in
                let alive = r.alive e in
                let there = subst (λ (u : State). enters P u arrival ≡ true → IsBoundary u) (sym (as_going t on)) bound in
                subst (λ (u : State). SteppedBack u t arrival) (as_going s (r.end ∙ on))
                (subst (λ (u : State). SteppedBack (going s.memory s.stack s.opened) u arrival) (as_going t on)
                (by_stacks_back s.memory t.memory s.stack t.stack s.opened t.opened arrival alive.0 alive.1 (subst Inv (sym (as_going t on)) inv) there))

            pub simulates_back : (s t : State) → RelatedWith s t → (arrival : Option ℕ) → (enters P t arrival ≡ true → IsBoundary t) →
                (others : Arrivals) × EntersAtBoundaries Q s others × RelatedWith (run Q s others) (turn P t arrival)
            simulates_back s t h arrival bound = let x = by_end_back (is_going t.end) s t refl h.0 h.1 arrival bound in (x.0, x.1, (x.2, kept t h.1 arrival))

            pub answers : ((inputs : List ℤ) → RelatedWith (start Q inputs) (start P inputs)) → Answers Q P
            answers starts = Answers-by_simulation Q P RelatedWith same_seen starts simulates_back
