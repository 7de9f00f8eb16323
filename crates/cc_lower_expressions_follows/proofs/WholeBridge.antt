-- Where the tree of code of q does what the tree of a full expression of p does, local states approach each other: they come to the end of both, to
-- a step that both do, or to where both trap.
use Rattle.std.proofs.Common.{◌≡◌, ◌⊎◌, inl, inr, ◌||◌, ◌==◌, ℕ, Bool, true, false, List, [], ◌∷◌, ◌++◌, Option, Some, None, refl, ap, sym, ◌∙◌, subst, append_assoc, if◌then◌else◌, arith}
use Rattle.std.proofs.lemmas.Bool.Decides.{nat_tests}
use Rattle.std.specs.Prelude.{slice_get}
use Rattle.cc_states.specs.CcControl.declared.phase.Phase.{Phase}
use Rattle.cc_states.specs.CcEval.declared.action.Action.{Action}
use Rattle.cc_states.specs.CcEval.declared.action.Action.TheVariants.{Read, Write, Choose}
use Rattle.cc_states.specs.CcEval.declared.action.Manner.{Manner}
use Rattle.cc_states.specs.CcEval.declared.mark.Mark.{Mark}
use Rattle.cc_states.specs.CcEval.declared.mark.Mark.TheVariants.{Gave}
use Rattle.cc_states.specs.CcEval.Progress.{Progress, Known, Waits, Get, known, and_then, bind}
use Rattle.cc_states.specs.CcEval.Marks.{UsesFirst}
use Rattle.cc_program.specs.declared.expr.Expr.{Expr}
use Rattle.cc_program.specs.declared.func.Func.{Func}
use Rattle.cc_program.specs.declared.stmt.Stmt.{Stmt, out-Stmt}
use Rattle.cc_program.specs.declared.value.Value.{Value}
use Rattle.cc_states.specs.CcSyntax.Forms.{form_of}
use Rattle.cc_states.specs.CcSyntax.Registers.{is_register}
use Rattle.cc_states.specs.CcSyntax.Values.{ValueType}
use Rattle.cc_states.specs.Answers.{IsMarkOf, AreItsMarks}
use Rattle.cc_states.specs.Typed.{HasType, cell_type}
use Rattle.cc_states.proofs.CcEval.Works.{one_answer}
use Rattle.cc_meaning_simulations.specs.Continuations.{Remainder, resume}
use Rattle.cc_meaning_simulations.specs.LocalSimulations.{Approaches, Arrives, QGoes, PGoes, BothTrap}
use Rattle.cc_meaning_simulations.specs.LocalSteps.{LocalState, Locals, Jump, TrapsNext, Trapping, local_state}
use Rattle.cc_meaning_simulations.specs.Transitions.{ControlState, is_at_boundary, jump_to, marked_control}
use Rattle.cc_lower_expressions_follows.specs.Trees.{Regs, with_reg, Setting, after, CanGive, register_cell, IsQuiet, Reads, Writes, Chooses, Fails, Ends, Stuck, Refused, IsShared}
use Rattle.cc_lower_expressions_follows.specs.Registered.{regs_in}
use Rattle.cc_lower_expressions_follows.specs.Region.{is_step, next_q}
use Rattle.cc_lower_expressions_follows.specs.WholeRegion.{nowhere, next_p, IsWorkedIn, StandsInStatement, Working, Left, StandsInCode, Amid, Past}
use Rattle.cc_lower_expressions_follows.specs.WholePlaces.{AllThere, opened_at, IsTypedAt, AreAt}
use Rattle.cc_lower_expressions_follows.specs.WholeTrees.{Does, Finish, OfP, OfQ, OfBoth, NoMore, AreTyped}
use Rattle.cc_lower_expressions_follows.proofs.WholeRegions.{GoesOn, ByStep, ByBranch, goes_on, aborts_in_code, code_is_past}
use Rattle.cc_lower_expressions_follows.proofs.WholeStatements.{StepsTo, steps_to, aborts_there}
use Rattle.cc_lower_expressions_follows.proofs.WholeSteps.{IsOf, quiet_leads, fails_traps}
use Rattle.cc_lower_expressions_follows.proofs.WholeTrees.{HasOwn, same_waits, known_no_wait, known_no_trap, first_of_p, first_of_q}

pub quiet_again : (w v : Setting) → w.number ≡ v.number → w.id ≡ v.id → (f : Func) (action : Action) (r t : Regs) (m : Mark) → IsQuiet w f action r m t → IsQuiet v f action r m t
quiet_again w v n k f action r t m (Reads i manner a register event can mark e) = Reads i manner (a ∙ (λ j. Read (cell_between j) manner)) register event can mark e
  where
    cell_between : register_cell w i ≡ register_cell v i
    cell_between = λ j. register_cell (record { q = w.q; p = w.p; to = w.to; from = w.from; number = n j; id = k j; base = w.base; openings = w.openings }) i
quiet_again w v n k f action r t m (Writes i x a register mark e) = Writes i x (a ∙ (λ j. Write (cell_between j) false x)) register mark e
  where
    cell_between : register_cell w i ≡ register_cell v i
    cell_between = λ j. register_cell (record { q = w.q; p = w.p; to = w.to; from = w.from; number = n j; id = k j; base = w.base; openings = w.openings }) i
quiet_again w v n k f action r t m (Chooses b a mark e) = Chooses b a mark e

fails_again : (w : Setting) (openings : List ℕ) (f : Func) (action : Action) (r : Regs) → Fails (opened_at w openings) f action r → Fails w f action r
fails_again w openings f action r x = record { register = x.register; manner = x.manner; reads = x.reads; is_one = x.is_one; traps = x.traps; unwritten = x.unwritten }

-- ---- marks, and types of registers

module _ {A : Type 0} (w : Setting) (openings : List ℕ) (g : Get A) (ms : List Mark) (m : Mark) where
  pub its_before : AreItsMarks w.p openings g (ms ++ m ∷ []) → AreItsMarks w.p openings g ms
  its_before h front back n split = h front (back ++ m ∷ []) n (ap (λ (l : List Mark). l ++ m ∷ []) split ∙ append_assoc front (n ∷ back) (m ∷ []))

  pub its_last : (action : Action) → g ms ≡ Waits action → AreItsMarks w.p openings g (ms ++ m ∷ []) → IsMarkOf w.p openings action m
  its_last action e h = let x = h ms [] m refl in subst (λ (a : Action). IsMarkOf w.p openings a m) (same_waits (g ms) x.0 action x.1 e) x.2

module _ (w : Setting) (r : Regs) (typed : AreTyped w r) where
  mark_of_read : (i : ℕ) (manner : Manner) → is_register w.from i ≡ true → CanGive manner.may_be_bad (r i) → (v : Option Value) → r i ≡ v → IsMarkOf w.p w.openings (Read (register_cell w i) manner) (Gave v)
  mark_of_read i manner register can None e = may_be manner.may_be_bad (subst (CanGive manner.may_be_bad) e can)
    where
      may_be : (b : Bool) → CanGive b None → b ≡ true
      may_be true h = refl
      may_be false h = absurd h
  mark_of_read i manner register can (Some v) e = typed i v register e

  -- the mark of a quiet step is one of its action
  pub quiet_fits : (action : Action) (m : Mark) (t : Regs) → IsQuiet w w.from action r m t → IsMarkOf w.p w.openings action m
  quiet_fits action m t (Reads i manner a register event can mark e) =
      subst (λ (x : Action). IsMarkOf w.p w.openings x m) (sym a)
      (subst (λ (x : Mark). IsMarkOf w.p w.openings (Read (register_cell w i) manner) x) (sym mark) (mark_of_read i manner register can (r i) refl))
  quiet_fits action m t (Writes i v a register mark e) =
      subst (λ (x : Action). IsMarkOf w.p w.openings x m) (sym a) (subst (λ (x : Mark). IsMarkOf w.p w.openings (Write (register_cell w i) false v) x) (sym mark) refl)
  quiet_fits action m t (Chooses b a mark e) = subst (λ (x : Mark). IsMarkOf w.p w.openings action x) (sym mark) a

  module _ (i : ℕ) (v : Value) (is_typed : (t : ValueType) × (cell_type w.p (register_cell w i) ≡ Some t) × HasType w.p w.openings t v) where
    by_test : (j : ℕ) (u : Value) (b : Bool) → (i == j) ≡ b → is_register w.from j ≡ true → (if b then Some v else r j) ≡ Some u → (t : ValueType) × (cell_type w.p (register_cell w j) ≡ Some t) × HasType w.p w.openings t u
    by_test j u true e k h =
        let same : v ≡ u = cc in
        subst (λ (x : Value). (t : ValueType) × (cell_type w.p (register_cell w j) ≡ Some t) × HasType w.p w.openings t x) same
        (subst (λ (n : ℕ). (t : ValueType) × (cell_type w.p (register_cell w n) ≡ Some t) × HasType w.p w.openings t v) (equal e) is_typed)
      where
        equal : (i == j) ≡ true → i ≡ j
        equal e = grind (arith, nat_tests)
    by_test j u false e k h = typed j u k h

    written_typed : AreTyped w (with_reg r i v)
    written_typed j u k h = by_test j u (i == j) refl k h

  -- behind a quiet step registers have their types, where what is written has its own
  pub quiet_typed : (action : Action) (m : Mark) (t : Regs) → IsQuiet w w.from action r m t →
      ((i : ℕ) (v : Value) → action ≡ Write (register_cell w i) false v → (u : ValueType) × (cell_type w.p (register_cell w i) ≡ Some u) × HasType w.p w.openings u v) → AreTyped w t
  quiet_typed action m t (Reads i manner a register event can mark e) h = subst (AreTyped w) (sym e) typed
  quiet_typed action m t (Writes i v a register mark e) h = subst (AreTyped w) (sym e) (written_typed i v (h i v a))
  quiet_typed action m t (Chooses b a mark e) h = subst (AreTyped w) (sym e) typed

-- ---- a branch leaves registers as they are

pub branch_keeps : (w : Setting) (f : Func) (action : Action) (b : Option Bool) (r t : Regs) (m : Mark) → action ≡ Choose b → IsQuiet w f action r m t → r ≡ t
branch_keeps w f action b r t m e (Reads i manner a register event can mark x) = sym x
branch_keeps w f action b r t m e (Writes i v a register mark x) = absurd (no_write (sym a ∙ e))
  where
    no_write : Write (register_cell w i) false v ≡ Choose b → ⊥
    no_write h = absurd (cc)
branch_keeps w f action b r t m e (Chooses c a mark x) = sym x

branch_fails_not : {B : Type 0} (w : Setting) (f : Func) (action : Action) (b : Option Bool) (r : Regs) → action ≡ Choose b → Fails w f action r → B
branch_fails_not {B} w f action b r e x = absurd (no_read (sym x.reads ∙ e))
  where
    no_read : Read (register_cell w x.register) x.manner ≡ Choose b → ⊥
    no_read h = absurd (cc)

pub not_empty : (ms : List Mark) (m : Mark) → ms ++ m ∷ [] ≡ [] → ⊥
not_empty [] m h = absurd (cc)
not_empty (n ∷ ms) m h = absurd (cc)

pub either_late : (late b : Bool) → (late || b) ≡ false → (late ≡ false) × (b ≡ false)
either_late true b h = absurd (cc)
either_late false b h = (refl, h)

-- ---- a function of p and that of q, in an activation

pub record IsLowered (w : Setting) (hidden : ℕ → ℕ → Bool) : Type 0 where
  pub function_p : slice_get w.p.funcs w.id ≡ Some w.from
  pub function_q : slice_get w.q.funcs w.id ≡ Some w.to
  pub hides_p : (i : ℕ) → is_register w.from i ≡ true → hidden w.id i ≡ true
  pub hides_q : (i : ℕ) → is_register w.to i ≡ true → hidden w.id i ≡ true
  pub own_p : HasOwn w w.from
  pub own_q : HasOwn w w.to
  pub laws_p : (e : Expr) → UsesFirst (next_p w e)
  pub laws_q : (e : Expr) → UsesFirst (next_q w e)
  pub asks_q : (e : Expr) → is_step (form_of e) ≡ true → (v : Value) (r : List Mark) → next_q w e [] ≡ Known (Some v) r → ⊥

module _ (w : Setting) (hidden : ℕ → ℕ → Bool) (lowered : IsLowered w hidden) (s : Stmt) (rest : List Stmt) (phase : Phase) (around : List Remainder) (e : Expr) (works : IsWorkedIn (out-Stmt s) e)
    (out : List Stmt) (outer : List Remainder)
    -- what the expression writes to registers of p has their types
    (writes : (openings : List ℕ) → slice_get openings w.number ≡ Some w.id → (ms : List Mark) → AreItsMarks w.p openings (next_p w e) ms → (i : ℕ) (v : Value) → next_p w e ms ≡ Waits (Write (register_cell w i) false v) →
    (t : ValueType) × (cell_type w.p (register_cell w i) ≡ Some t) × HasType w.p openings t v)
    {A : Type 0} (Q : A → Unit {0} → Regs → Regs → Type 0) (F : A → Get Value) where
  abbrev pub Stands : List Mark → ControlState → Get Value → Type 0
  Stands ms a t = StandsInStatement w s rest phase around e ms a t

  abbrev pub InCode : ControlState → Get (Unit {0}) → Type 0
  InCode a h = StandsInCode w out outer a h

  abbrev Together : List Mark → ControlState → Locals → ControlState → Locals → Get A → Regs → Get (Unit {0}) → Regs → Type 0
  Together ms pc pl qc ql g r h t = AreAt w Q F s rest phase around e out outer ms pc pl qc ql g r h t

  -- where p is at a boundary q is at one, or p comes from a statement that q has not left
  abbrev pub IsSoon : Bool → List Mark → ControlState → ControlState → Get Value → Type 0
  IsSoon late ms qc pc x = late ≡ false → is_at_boundary pc ≡ true → (is_at_boundary qc ≡ true) ⊎ ((v : Value) × (x ≡ known v) × (ms ≡ [] → ⊥))

  is_of_p : (ms : List Mark) (pc : ControlState) (x : Get Value) → Stands ms pc x → IsOf w hidden w.p w.from lowered.hides_p pc
  is_of_p ms pc x (Working i j u) = record { number = ap (λ (c : ControlState). c.number) i; func = ap (λ (c : ControlState). c.func) i }
  is_of_p ms pc x (Left v i j d) = record { number = ap (λ (c : ControlState). c.number) i; func = ap (λ (c : ControlState). c.func) i }

  is_of_q : (qc : ControlState) (h : Get (Unit {0})) → InCode qc h → IsOf w hidden w.q w.to lowered.hides_q qc
  is_of_q qc h (Amid c) = record { number = ap (λ (c : ControlState). c.number) c.here; func = ap (λ (c : ControlState). c.func) c.here }
  is_of_q qc h (Past c) = record { number = ap (λ (c : ControlState). c.number) c.at; func = ap (λ (c : ControlState). c.func) c.at }

  steps_of_p : (ms : List Mark) (pc : ControlState) (x : Get Value) → Stands ms pc x → (action : Action) → x [] ≡ Waits action → StepsTo w lowered.function_p s rest phase around e (lowered.laws_p e) works ms pc x action
  steps_of_p = steps_to w lowered.function_p s rest phase around e (lowered.laws_p e) works

  steps_of_q : (qc : ControlState) (h : Get (Unit {0})) → InCode qc h → (action : Action) → h [] ≡ Waits action → GoesOn w out outer lowered.laws_q lowered.asks_q lowered.function_q qc h action
  steps_of_q = goes_on w out outer lowered.laws_q lowered.asks_q lowered.function_q

  abbrev with_rest : Progress A → Progress Value
  with_rest x = and_then x F

  abbrev IsNearBy : Bool → ControlState → ControlState → Type 0
  IsNearBy late qc pc = late ≡ false → is_at_boundary pc ≡ true → is_at_boundary qc ≡ true

  -- it is not known where it waits or traps
  near_waiting : (late : Bool) (qc pc : ControlState) (ql pl : Locals) (x : Get Value) (action : Action) → x [] ≡ Waits action → (ms : List Mark) → IsSoon late ms qc pc x → IsNearBy late qc pc
  near_waiting late qc pc ql pl x action e ms soon l b = by_case (soon l b)
    where
      by_case : (is_at_boundary qc ≡ true) ⊎ ((v : Value) × (x ≡ known v) × (ms ≡ [] → ⊥)) → is_at_boundary qc ≡ true
      by_case (inl h) = h
      by_case (inr k) = known_no_wait k.0 x action k.1 e

  module _ (Match : LocalState → LocalState → Type 0)
      -- both do the same step
      (share : (ms : List Mark) (pc : ControlState) (pl : Locals) (qc : ControlState) (ql : Locals) (g : Get A) (r : Regs) (h : Get (Unit {0})) (t : Regs) → Together ms pc pl qc ql g r h t →
      (action : Action) → IsShared w action → g [] ≡ Waits action → h [] ≡ Waits action → Match (local_state qc ql) (local_state pc pl))
      -- at the end of both
      (exit : (openings : List ℕ) (late : Bool) (ms : List Mark) (pc : ControlState) (pl : Locals) (qc : ControlState) (ql : Locals) (a : A) (r t : Regs) → IsTypedAt w e openings ms r → Stands ms pc (F a) → qc ≡ jump_to w.q (nowhere w) (resume out outer) →
      regs_in w.from pl ≡ r → regs_in w.to ql ≡ t → AllThere w.from pl → AllThere w.to ql → Q a tt r t → IsSoon late ms qc pc (F a) → Approaches hidden w.q w.p Match late (local_state qc ql) (local_state pc pl)) where
    abbrev Nearing : Bool → ControlState → Locals → ControlState → Locals → Type 0
    Nearing late qc ql pc pl = Approaches hidden w.q w.p Match late (local_state qc ql) (local_state pc pl)

    trap_of_p : (openings : List ℕ) (ms : List Mark) (pc : ControlState) (pl : Locals) (g : Get A) (r : Regs) → Stands ms pc (bind g F) → regs_in w.from pl ≡ r → AllThere w.from pl → Ends (opened_at w openings) w.from g r → TrapsNext hidden w.p (local_state pc pl)
    trap_of_p openings ms pc pl g r stands regs has (Stuck ks x) =
        Trapping pc pl (aborts_there w lowered.function_p s rest phase around e (lowered.laws_p e) works ms pc (bind g F) stands ks (ap with_rest x))
    trap_of_p openings ms pc pl g r stands regs has (Refused action x f) =
        let n = steps_of_p ms pc (bind g F) stands action (ap with_rest x) in
        fails_traps w hidden w.p w.from lowered.hides_p pc pl (is_of_p ms pc (bind g F) stands) has action n.performs (fails_again w openings w.from action (regs_in w.from pl) (subst (λ (r : Regs). Fails (opened_at w openings) w.from action r) (sym regs) f))

    trap_of_q : (openings : List ℕ) (qc : ControlState) (ql : Locals) (h : Get (Unit {0})) (t : Regs) → InCode qc h → regs_in w.to ql ≡ t → AllThere w.to ql → Ends (opened_at w openings) w.to h t → TrapsNext hidden w.q (local_state qc ql)
    trap_of_q openings qc ql h t code regs has (Stuck ks x) = Trapping qc ql (aborts_in_code w out outer lowered.laws_q lowered.asks_q lowered.function_q qc h code ks x)
    trap_of_q openings qc ql h t code regs has (Refused action x f) = by_next (steps_of_q qc h code action x)
      where
        by_next : GoesOn w out outer lowered.laws_q lowered.asks_q lowered.function_q qc h action → TrapsNext hidden w.q (local_state qc ql)
        by_next (ByStep performs next) =
            fails_traps w hidden w.q w.to lowered.hides_q qc ql (is_of_q qc h code) has action performs (fails_again w openings w.to action (regs_in w.to ql) (subst (λ (t : Regs). Fails (opened_at w openings) w.to action t) (sym regs) f))
        by_next (ByBranch b c is_branch jumps next) = branch_fails_not (opened_at w openings) w.to action (Some b) t is_branch f

    near_ending : (openings : List ℕ) (late : Bool) (qc pc : ControlState) (ql pl : Locals) (g : Get A) (r : Regs) → Ends (opened_at w openings) w.from g r → (ms : List Mark) → IsSoon late ms qc pc (bind g F) → IsNearBy late qc pc
    near_ending openings late qc pc ql pl g r (Stuck ks x) ms soon l b = by_case (soon l b)
      where
        by_case : (is_at_boundary qc ≡ true) ⊎ ((v : Value) × (bind g F ≡ known v) × (ms ≡ [] → ⊥)) → is_at_boundary qc ≡ true
        by_case (inl h) = h
        by_case (inr k) = known_no_trap k.0 (bind g F) ks k.1 (ap with_rest x)
    near_ending openings late qc pc ql pl g r (Refused action x f) ms soon l b = near_waiting late qc pc ql pl (bind g F) action (ap with_rest x) ms soon l b

    pub bridge : (openings : List ℕ) {g : Get A} {r : Regs} {h : Get (Unit {0})} {t : Regs} → Does (opened_at w openings) Q g r h t → (late : Bool) (ms : List Mark) (pc : ControlState) (pl : Locals) (qc : ControlState) (ql : Locals) → IsTypedAt w e openings ms r →
        Together ms pc pl qc ql g r h t → IsSoon late ms qc pc (bind g F) → Nearing late qc ql pc pl
    bridge openings {g} {r} {h} {t} (Finish a b eg eh x) late ms pc pl qc ql typed at soon =
        let done : bind g F ≡ F a = ap (λ (g : Get A). bind g F) eg in
        exit openings late ms pc pl qc ql a r t typed (subst (Stands ms pc) done at.stands) (code_is_past w out outer lowered.laws_q lowered.asks_q lowered.function_q qc h at.code eh) at.regs_p at.regs_q at.has_p at.has_q x
        (subst (λ (x : Get Value). IsSoon late ms qc pc x) done soon)
    bridge openings {g} {r} {h} {t} (OfP r' action m eg quiet d) late ms pc pl qc ql typed at soon =
        let n = steps_of_p ms pc (bind g F) at.stands action (ap with_rest eg) in
        let fits = quiet_fits (opened_at w openings) r typed.typed action m r' quiet in
        let quiet_here : IsQuiet w w.from action (regs_in w.from pl) m r' = subst (λ (x : Regs). IsQuiet w w.from action x m r') (sym at.regs_p) (quiet_again (opened_at w openings) w refl refl w.from action r r' m quiet) in
        let moved = quiet_leads w hidden w.p w.from lowered.hides_p pc pl (is_of_p ms pc (bind g F) at.stands) at.has_p action m r' n.performs quiet_here in
        PGoes late (local_state qc ql) (local_state pc pl) (local_state (marked_control w.p pc m) moved.locals) moved.step (near_waiting late qc pc ql pl (bind g F) action (ap with_rest eg) ms soon)
        (bridge openings (d fits) false (ms ++ m ∷ []) (marked_control w.p pc m) moved.locals qc ql
        (record {
          opened = typed.opened;
          marks = one_answer (IsMarkOf w.p openings) (next_p w e) ms m action typed.marks n.asked fits;
          typed = quiet_typed (opened_at w openings) r typed.typed action m r' quiet (λ i v a. writes openings typed.opened ms typed.marks i v (n.asked ∙ ap (λ (x : Action). Waits x) a));
        })
        (record {
          does = λ all opened marks. first_of_p (opened_at w all) Q lowered.own_p lowered.own_q (at.does all opened (its_before w all (next_p w e) ms m marks)) action m r' eg
              (quiet_again (opened_at w openings) (opened_at w all) refl refl w.from action r r' m quiet) (its_last w all (next_p w e) ms m action n.asked marks);
          stands = n.marked m;
          code = at.code;
          regs_p = moved.regs;
          regs_q = at.regs_q;
          has_p = moved.has;
          has_q = at.has_q;
        })
        (λ l b. let x = n.soon m b in inr (x.0, x.1, not_empty ms m)))
    bridge openings {g} {r} {h} {t} (OfQ t' action m eh quiet d) late ms pc pl qc ql typed at soon =
        by_next (steps_of_q qc h at.code action eh) (λ qc' ql' code regs has soon'. bridge openings d (late || is_at_boundary qc) ms pc pl qc' ql' typed
        (record {
          does = λ all opened marks. first_of_q (opened_at w all) Q lowered.own_p lowered.own_q (at.does all opened marks) action m t' eh (quiet_again (opened_at w openings) (opened_at w all) refl refl w.to action t t' m quiet);
          stands = at.stands;
          code = code;
          regs_p = at.regs_p;
          regs_q = regs;
          has_p = at.has_p;
          has_q = has;
        }) soon')
      where
        later : (qc' : ControlState) → IsSoon (late || is_at_boundary qc) ms qc' pc (bind g F)
        later qc' l b = by_case (soon (either_late late (is_at_boundary qc) l).0 b)
          where
            by_case : (is_at_boundary qc ≡ true) ⊎ ((v : Value) × (bind g F ≡ known v) × (ms ≡ [] → ⊥)) → (is_at_boundary qc' ≡ true) ⊎ ((v : Value) × (bind g F ≡ known v) × (ms ≡ [] → ⊥))
            by_case (inl h) = let k : true ≡ false = sym h ∙ (either_late late (is_at_boundary qc) l).1 in absurd (cc)
            by_case (inr k) = inr k

        by_next : GoesOn w out outer lowered.laws_q lowered.asks_q lowered.function_q qc h action →
            ((qc' : ControlState) (ql' : Locals) → InCode qc' (after h m) → regs_in w.to ql' ≡ t' → AllThere w.to ql' → IsSoon (late || is_at_boundary qc) ms qc' pc (bind g F) → Nearing (late || is_at_boundary qc) qc' ql' pc pl) → Nearing late qc ql pc pl
        by_next (ByStep performs next) further =
            let quiet_here : IsQuiet w w.to action (regs_in w.to ql) m t' = subst (λ (x : Regs). IsQuiet w w.to action x m t') (sym at.regs_q) (quiet_again (opened_at w openings) w refl refl w.to action t t' m quiet) in
            let moved = quiet_leads w hidden w.q w.to lowered.hides_q qc ql (is_of_q qc h at.code) at.has_q action m t' performs quiet_here in
            QGoes late (local_state qc ql) (local_state pc pl) (local_state (marked_control w.q qc m) moved.locals) moved.step
            (further (marked_control w.q qc m) moved.locals (next m) moved.regs moved.has (later (marked_control w.q qc m)))
        by_next (ByBranch b c is_branch jumps next) further =
            QGoes late (local_state qc ql) (local_state pc pl) (local_state c ql) (Jump qc c ql jumps)
            (further c ql (next m) (at.regs_q ∙ branch_keeps (opened_at w openings) w.to action (Some b) t t' m is_branch quiet) at.has_q (later c))
    bridge openings {g} {r} {h} {t} (OfBoth action shared eg eh d) late ms pc pl qc ql typed at soon =
        Arrives late (local_state qc ql) (local_state pc pl) (share ms pc pl qc ql g r h t at action shared eg eh) (near_waiting late qc pc ql pl (bind g F) action (ap with_rest eg) ms soon)
    bridge openings {g} {r} {h} {t} (NoMore x y) late ms pc pl qc ql typed at soon =
        BothTrap late (local_state qc ql) (local_state pc pl) (trap_of_q openings qc ql h t at.code at.regs_q at.has_q y) (trap_of_p openings ms pc pl g r at.stands at.regs_p at.has_p x)
        (near_ending openings late qc pc ql pl g r x ms soon)
