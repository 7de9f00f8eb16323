-- The program with lowered expressions follows its source and answers it.
use Rattle.std.proofs.Common.{arith, ◌≡◌, ◌<◌, inl, ◌||◌, ℕ, ℤ, Bool, true, false, List, [], ◌∷◌, length, Option, Some, option_map, refl, ap, sym, ◌∙◌, subst}
use Rattle.std.specs.Prelude.{slice_get, nat_le, nat_lt}
use Rattle.std.proofs.lemmas.Bool.{leb-false, lt-ltb}
use Rattle.std.proofs.lemmas.Option.{same_Some}
use Rattle.cc_states.specs.CcControl.declared.phase.Phase.TheVariants.{First}
use Rattle.cc_states.specs.CcEval.declared.action.Action.{Action}
use Rattle.cc_states.specs.CcEval.declared.mark.Mark.{Mark}
use Rattle.cc_states.specs.CcEval.Progress.{Waits, Get}
use Rattle.cc_states.proofs.CcEval.MeaningUses.{meaning_uses}
use Rattle.cc_program.specs.declared.expr.Expr.{Expr}
use Rattle.cc_program.specs.declared.func.Func.{Func}
use Rattle.cc_program.specs.declared.program.Program.{Program}
use Rattle.cc_program.specs.declared.stmt.Case.{Case}
use Rattle.cc_program.specs.declared.stmt.Stmt.{Stmt, out-Stmt}
use Rattle.cc_program.specs.declared.stmt.Stmt.TheOpen as is
use Rattle.cc_program.specs.declared.value.Value.{Value}
use Rattle.cc_program.proofs.Each.{Each}
use Rattle.cc_states.specs.CcSteps.Rows.{rows_of}
use Rattle.cc_states.specs.CcSteps.Runs.{Follows, Answers}
use Rattle.cc_states.specs.CcSteps.State.{Active, Memory, State, locals_with}
use Rattle.cc_states.specs.CcSteps.Step.{worked}
use Rattle.cc_states.specs.CcSteps.Turn.{start, turn}
use Rattle.cc_states.specs.CcSyntax.Effects.{no_one}
use Rattle.cc_states.specs.CcSyntax.Registers.{is_register}
use Rattle.cc_meaning_simulations.specs.Bodies.{all_extended, extended}
use Rattle.cc_meaning_simulations.specs.Continuations.{Remainder, remainder}
use Rattle.cc_meaning_simulations.specs.LocalSimulations.{AreAlike as AlikeIn, AreFitting, Approaches, Expects, is_action_visible}
use Rattle.cc_meaning_simulations.specs.LocalSteps.{LocalState, Locals, after_write, begun_state, local_state, local_state_of}
use Rattle.cc_meaning_simulations.specs.StepSimulations.{going}
use Rattle.cc_meaning_simulations.specs.Transitions.{ControlState, Performs, control_state, transition}
use Rattle.cc_meaning_simulations.proofs.Approaching as approaching
use Rattle.cc_meaning_simulations.proofs.MoreLocals.{funcs_same}
use Rattle.cc_lower_expressions.specs.Programs.{made_of, lowered_body, temporaries, lower_expressions_program}
use Rattle.cc_lower_expressions_follows.specs.Trees.{Setting, context_p, context_q, is_own}
use Rattle.cc_lower_expressions_follows.specs.Registered.{regs_in}
use Rattle.cc_lower_expressions_follows.specs.Relation.{Declared}
use Rattle.cc_lower_expressions_follows.specs.WholeFits.{setting_of, hides_in, hides, FitsThere, OpensWith}
use Rattle.cc_lower_expressions_follows.specs.WholeLists.{IsNormal, IsLoweredRight, Outside}
use Rattle.cc_lower_expressions_follows.specs.WholeMatches.{AreTogether, MatchIn}
use Rattle.cc_lower_expressions_follows.specs.WholePlaces.{opened_at, MarkFits}
use Rattle.cc_lower_expressions_follows.specs.WholeRegion.{control_in, next_p, IsWorkedIn, InDo, InIf, InSwitch, InReturn, StandsInStatement, Working, Left}
use Rattle.cc_lower_expressions_follows.specs.WholeTrees.{AreTyped}
use Rattle.cc_lower_expressions_follows.proofs.WholeAlike.{alike_in}
use Rattle.cc_lower_expressions_follows.proofs.WholeAsks.{asks_first, one_known}
use Rattle.cc_lower_expressions_follows.proofs.WholeBridge.{IsLowered}
use Rattle.cc_lower_expressions_follows.proofs.WholeLists.{AreBegun, lists_lowered}
use Rattle.cc_lower_expressions_follows.proofs.WholeStarts.{BeginsOtherwise, begins}
use Rattle.cc_lower_expressions_follows.proofs.WholeSteps.{regs_elsewhere}
use Rattle.cc_lower_expressions_follows.proofs.WholeSwitches.{found_alike, switch_begins}
use Rattle.cc_lower_expressions_follows.proofs.WholeTemporaries.{adds_scalars}
use Rattle.cc_lower_expressions_follows.proofs.WholeTrees.{known_no_wait, same_waits}
use Rattle.cc_lower_expressions_follows.proofs.WholeWrites.{match_after, matched_in}

-- ---- a function of the source and of the lowered program

or_right : (a b : Bool) → b ≡ true → (a || b) ≡ true
or_right true b h = refl
or_right false b h = h

or_left : (a b : Bool) → a ≡ true → (a || b) ≡ true
or_left true b h = refl
or_left false b h = absurd (cc)

or_neither : (a b : Bool) → (a || b) ≡ false → (a ≡ false) × (b ≡ false)
or_neither true b h = absurd (cc)
or_neither false b h = (refl, h)

module _ (P : Program) where
  abbrev Q : Program
  Q = all_extended (temporaries P) (lowered_body P) P

  pub lowered-is : lower_expressions_program P ≡ Q
  lowered-is = refl

  -- registers of the source are those of the lowered program, as far as its locals go
  abbrev pub SameRegisters : Type 0
  SameRegisters = (id : ℕ) (f : Func) → slice_get P.funcs id ≡ Some f → (i : ℕ) → i < length f.locals → is_register (extended (temporaries P) (lowered_body P) f) i ≡ is_register f i

  module _ (same : SameRegisters) (number id : ℕ) (f : Func) (there : slice_get P.funcs id ≡ Some f) where
    abbrev w : Setting
    w = setting_of P number id f

    hidden_as : (i : ℕ) → hides P id i ≡ is_own f (length f.locals) i
    hidden_as i = ap (λ (g : Option Func). hides_in P g i) there

    own_new : (i : ℕ) → is_register w.to i ≡ true → is_own f (length f.locals) i ≡ true
    own_new i h = by_test (nat_le (length f.locals) i) refl
      where
        by_test : (b : Bool) → nat_le (length f.locals) i ≡ b → is_own f (length f.locals) i ≡ true
        by_test true e = or_right (is_register f i) (nat_le (length f.locals) i) e
        by_test false e = or_left (is_register f i) (nat_le (length f.locals) i) (sym (same id f there i (leb-false (length f.locals) i e)) ∙ h)

    own_old : (i : ℕ) → is_register f i ≡ true → is_own f (length f.locals) i ≡ true
    own_old i h = or_left (is_register f i) (nat_le (length f.locals) i) h

    pub is_lowered : IsLowered w (hides P)
    is_lowered = record {
      function_p = there;
      function_q = funcs_same (temporaries P) (lowered_body P) P id ∙ ap (option_map (extended (temporaries P) (lowered_body P))) there;
      hides_p = λ i h. hidden_as i ∙ own_old i h;
      hides_q = λ i h. hidden_as i ∙ own_new i h;
      own_p = own_old;
      own_q = own_new;
      laws_p = λ e. meaning_uses (context_p w) e no_one;
      laws_q = λ e. meaning_uses (context_q w) e no_one;
      asks_q = λ e h v rest. asks_first (context_q w) e h (Some v) rest;
    }

    -- what is shown is no register of either
    shown_one : (local : ℕ) → hides P id local ≡ false → (nat_lt local (length f.locals) ≡ true) × (is_register f local ≡ false) × (is_register w.to local ≡ false)
    shown_one local h =
        let k = or_neither (is_register f local) (nat_le (length f.locals) local) (sym (hidden_as local) ∙ h) in
        let below : local < length f.locals = leb-false (length f.locals) local k.1 in
        (lt-ltb local (length f.locals) below, k.0, same id f there local below ∙ k.0)

-- ---- whole programs

module _ (P : Program) (same : SameRegisters P)
    -- statements whose loops are `while (1)`, and whose full expressions are lowered right
    (Good : ℕ → ℕ → Func → Stmt → Type 0)
    (normal : (number id : ℕ) (f : Func) → slice_get P.funcs id ≡ Some f → (s : Stmt) → Good number id f s → IsNormal (setting_of P number id f) (Good number id f) (out-Stmt s))
    (good_bodies : (number id : ℕ) (f : Func) → slice_get P.funcs id ≡ Some f → Each (Good number id f) f.body)
    (declared : (number id : ℕ) (f : Func) → slice_get P.funcs id ≡ Some f → Declared (setting_of P number id f) (length f.locals) (made_of P f).temps) where
  abbrev pub Matches : LocalState → LocalState → Type 0
  Matches q p = (number : ℕ) × (id : ℕ) × (f : Func) × (slice_get P.funcs id ≡ Some f) × MatchIn (setting_of P number id f) (Good number id f) q p

  module _ (number id : ℕ) (f : Func) (there : slice_get P.funcs id ≡ Some f) where
    abbrev pub matches_in : (q p : LocalState) → MatchIn (setting_of P number id f) (Good number id f) q p → Matches q p
    matches_in q p m = (number, id, f, there, m)

    -- an `if` without `else`
    abbrev pub Guarded : Type 0
    Guarded = (e : Expr) (a : List Stmt) → IsLoweredRight (setting_of P number id f) e → Each (Good number id f) a → BeginsOtherwise (setting_of P number id f) (hides P) (is_lowered P same number id f there) (Good number id f) Matches matches_in (normal number id f there) (is.If e a [])

  module _ (guarded : (number id : ℕ) (f : Func) (there : slice_get P.funcs id ≡ Some f) → Guarded number id f there) where
    begins_in : (number id : ℕ) (f : Func) (there : slice_get P.funcs id ≡ Some f) (l l' : List Stmt) (ps qs : List Remainder) → AreTogether (setting_of P number id f) (Good number id f) l l' ps qs →
        AreBegun (setting_of P number id f) (hides P) (Good number id f) Matches (matches_in number id f there) l l' ps qs
    begins_in number id f there =
        let low = is_lowered P same number id f there in
        begins (setting_of P number id f) (hides P) low (Good number id f) Matches (matches_in number id f there) (normal number id f there) (guarded number id f there)
        (λ e cases right good s k l l' ps qs d above declared good_one together next. switch_begins (setting_of P number id f) (hides P) low (Good number id f) Matches (matches_in number id f there) s k l l' ps qs above declared together e cases d right good)

    begins_whole : (number id : ℕ) (args : List Value) (f : Func) → slice_get P.funcs id ≡ Some f → OpensWith P number id args →
        Approaches (hides P) (Q P) P Matches false (begun_state (Q P) number id args (extended (temporaries P) (lowered_body P) f)) (begun_state P number id args f)
    begins_whole number id args f there opens =
        let o = opens f there in
        let lists = lists_lowered (setting_of P number id f) (Good number id f) f.body (length f.locals) (omega arith) (declared number id f there) (good_bodies number id f there) in
        (begins_in number id f there f.body (lowered_body P f) [] [] (record { lists = lists; around = Outside })).starts o.0 o.1 false (locals_with P args f.locals) (locals_with (Q P) args (extended (temporaries P) (lowered_body P) f).locals) o.2 o.3

    -- ---- marks

    works_there : (s : Stmt) (e : Expr) → IsWorkedIn (out-Stmt s) e → worked (out-Stmt s) First ≡ Some e
    works_there s e (InDo d) = ap (λ (x : is.Stmt-F Stmt Case). worked x First) d
    works_there s e (InIf a b d) = ap (λ (x : is.Stmt-F Stmt Case). worked x First) d
    works_there s e (InSwitch cases d) = ap (λ (x : is.Stmt-F Stmt Case). worked x First) d
    works_there s e (InReturn d) = ap (λ (x : is.Stmt-F Stmt Case). worked x First) d

    module _ (number id : ℕ) (f : Func) (there : slice_get P.funcs id ≡ Some f) (s : Stmt) (e : Expr) (l : List Stmt) (ps : List Remainder) (ms : List Mark) (pl : Locals) (action : Action) (works : IsWorkedIn (out-Stmt s) e) (waits : next_p (setting_of P number id f) e ms ≡ Waits action) (m : Mark) where
      abbrev here : LocalState
      here = local_state (control_in (setting_of P number id f) (remainder (s ∷ l) First) ps ms) pl

      fit_here : FitsThere P here m → MarkFits (setting_of P number id f) e ms action m (regs_in f pl)
      fit_here h =
          let same_func : h.func ≡ f = same_Some h.func f (sym h.function ∙ there) in
          let same_expr : h.expr ≡ e = same_Some h.expr e (sym h.works ∙ works_there s e works) in
          let waits' : next_p (setting_of P number id f) e ms ≡ Waits h.action = subst (λ (g : Func). next_p (setting_of P number id g) e ms ≡ Waits h.action) same_func (subst (λ (x : Expr). next_p (setting_of P number id h.func) x ms ≡ Waits h.action) same_expr h.waits) in
          subst (λ (a : Action). MarkFits (setting_of P number id f) e ms a m (regs_in f pl)) (same_waits (next_p (setting_of P number id f) e ms) h.action action waits' waits)
          (subst (λ (g : Func). MarkFits (setting_of P number id g) e ms h.action m (regs_in g pl)) same_func
          (subst (λ (x : Expr). MarkFits (setting_of P number id h.func) x ms h.action m (regs_in h.func pl)) same_expr h.fits))

    fit_stands : (number id : ℕ) (f : Func) → slice_get P.funcs id ≡ Some f → (s : Stmt) (e : Expr) (l : List Stmt) (ps : List Remainder) (ms : List Mark) (pc : ControlState) (pl : Locals) (t : Get Value) (action : Action) → IsWorkedIn (out-Stmt s) e →
        StandsInStatement (setting_of P number id f) s l First ps e ms pc t → t [] ≡ Waits action → next_p (setting_of P number id f) e ms ≡ Waits action → (m : Mark) → FitsThere P (local_state pc pl) m → MarkFits (setting_of P number id f) e ms action m (regs_in f pl)
    fit_stands number id f there s e l ps ms pc pl t action works (Working i j u) first waits m h = fit_here number id f there s e l ps ms pl action works waits m (subst (λ (c : ControlState). FitsThere P (local_state c pl) m) i h)
    fit_stands number id f there s e l ps ms pc pl t action works (Left v i j d) first waits m h = known_no_wait v t action j first

    -- writes of what is shown change no register
    regs_kept : (a : LocalState) (f : Func) → slice_get P.funcs a.control.func ≡ Some f → (local i : ℕ) (v : Value) → hides P a.control.func local ≡ false → regs_in f (after_write a local i v).locals ≡ regs_in f a.locals
    regs_kept a f there local i v h = regs_elsewhere f a.locals local i v (shown_one P same a.control.number a.control.func f there local h).1

    fits_after : (a : LocalState) (m : Mark) (local i : ℕ) (v : Value) → hides P a.control.func local ≡ false → FitsThere P a m → FitsThere P (after_write a local i v) m
    fits_after a m local i v h x = record {
      func = x.func;
      function = x.function;
      expr = x.expr;
      works = x.works;
      action = x.action;
      waits = x.waits;
      fits = subst (λ r. MarkFits (setting_of P a.control.number a.control.func x.func) x.expr a.control.marks x.action m r) (sym (regs_kept a x.func x.function local i v h)) x.fits;
    }

    fits_before : (a : LocalState) (m : Mark) (local i : ℕ) (v : Value) → hides P a.control.func local ≡ false → FitsThere P (after_write a local i v) m → FitsThere P a m
    fits_before a m local i v h x = record {
      func = x.func;
      function = x.function;
      expr = x.expr;
      works = x.works;
      action = x.action;
      waits = x.waits;
      fits = subst (λ r. MarkFits (setting_of P a.control.number a.control.func x.func) x.expr a.control.marks x.action m r) (regs_kept a x.func x.function local i v h) x.fits;
    }

    matches_after : (q p : LocalState) → Matches q p → q.control.func ≡ p.control.func → (local i : ℕ) (v : Value) → hides P p.control.func local ≡ false → Matches (after_write q local i v) (after_write p local i v)
    matches_after q p h same_func local i v k =
        let func = (matched_in (setting_of P h.0 h.1 h.2) (Good h.0 h.1 h.2) q p h.4).func in
        let none = shown_one P same h.0 h.1 h.2 h.3 local (ap (λ (id : ℕ). hides P id local) (sym func) ∙ k) in
        (h.0, h.1, h.2, h.3, match_after (setting_of P h.0 h.1 h.2) (Good h.0 h.1 h.2) local i v none.1 none.2 q p h.4)

    module _ (Inv : State → Type 0)
        (registers_typed : (m : Memory) (b : Active) (below : List Active) (opened : ℕ) → Inv (going m (b ∷ below) opened) → (f : Func) → slice_get P.funcs b.func ≡ Some f →
        (openings : List ℕ) × (slice_get openings b.number ≡ Some b.func) × AreTyped (opened_at (setting_of P b.number b.func f) openings) (regs_in f b.locals))
        (spelled : (t : State) → Inv t → rows_of (Q P) t.memory.trace ≡ rows_of P t.memory.trace)
        (kept : (t : State) → Inv t → (arrival : Option ℕ) → Inv (turn P t arrival))
        (begun : (inputs : List ℤ) → Inv (start P inputs))
        (visible : (m : Memory) (b : Active) (below : List Active) (opened : ℕ) → Inv (going m (b ∷ below) opened) → (a : LocalState) → Matches a (local_state_of b) → (x : Action) → transition P (control_state b) ≡ Performs x → is_action_visible (hides P) (b ∷ below) x ≡ true)
        (fitting : (m : Memory) (b : Active) (below : List Active) (opened : ℕ) → Inv (going m (b ∷ below) opened) → AreFitting (FitsThere P) (OpensWith P) P m b below opened)
        (nothing_passed : (number id : ℕ) → OpensWith P number id [])
        (main : Func) (main_there : slice_get P.funcs P.main ≡ Some main) where
      alike_whole : (m : Memory) (b : Active) (below : List Active) (opened : ℕ) → Inv (going m (b ∷ below) opened) → (a : LocalState) → Matches a (local_state_of b) →
          AlikeIn (hides P) (Approaches (hides P) (Q P) P Matches false) (Expects (hides P) (Q P) P Matches (FitsThere P)) a (local_state_of b) (transition (Q P) a.control) (transition P (control_state b))
      alike_whole m b below opened inv a h = by_match h.0 h.1 h.2 h.3 h.4
        where
          by_match : (number id : ℕ) (f : Func) (there : slice_get P.funcs id ≡ Some f) → MatchIn (setting_of P number id f) (Good number id f) a (local_state_of b) →
              AlikeIn (hides P) (Approaches (hides P) (Q P) P Matches false) (Expects (hides P) (Q P) P Matches (FitsThere P)) a (local_state_of b) (transition (Q P) a.control) (transition P (control_state b))
          by_match number id f there met =
              let low = is_lowered P same number id f there in
              let is_in = matched_in (setting_of P number id f) (Good number id f) a (local_state_of b) met in
              let o = registers_typed m b below opened inv f (ap (slice_get P.funcs) is_in.func ∙ there) in
              alike_in (setting_of P number id f) (hides P) low (Good number id f) Matches (matches_in number id f there) (begins_in number id f there) (FitsThere P) (fit_stands number id f there)
              (found_alike (setting_of P number id f) (hides P) low (Good number id f) Matches (matches_in number id f there) (begins_in number id f there)) (λ e h. (one_known (context_p (setting_of P number id f)) e h, one_known (context_q (setting_of P number id f)) e h))
              o.0 (opened_there o.0 is_in.number is_in.func o.1) a (local_state_of b) met (typed_at o.0 is_in.number is_in.func o.2)
            where
              typed_at : (openings : List ℕ) → b.number ≡ number → b.func ≡ id → AreTyped (opened_at (setting_of P b.number b.func f) openings) (regs_in f b.locals) → AreTyped (opened_at (setting_of P number id f) openings) (regs_in f b.locals)
              typed_at openings n k h = subst (λ (x : ℕ). AreTyped (opened_at (setting_of P number x f) openings) (regs_in f b.locals)) k (subst (λ (x : ℕ). AreTyped (opened_at (setting_of P x b.func f) openings) (regs_in f b.locals)) n h)

              opened_there : (openings : List ℕ) → b.number ≡ number → b.func ≡ id → slice_get openings b.number ≡ Some b.func → slice_get openings number ≡ Some id
              opened_there openings n k h = ap (slice_get openings) (sym n) ∙ h ∙ ap Some k

      pub follows : Follows (lower_expressions_program P) P
      follows = approaching.follows (temporaries P) (lowered_body P) P (adds_scalars P) (hides P) Inv Matches (FitsThere P) (OpensWith P) (λ id f e local h. inl (shown_one P same 0 id f e local h).0) matches_after fits_after fits_before begins_whole alike_whole spelled kept begun visible fitting nothing_passed main main_there

      pub answers : Answers (lower_expressions_program P) P
      answers = approaching.answers (temporaries P) (lowered_body P) P (adds_scalars P) (hides P) Inv Matches (FitsThere P) (OpensWith P) (λ id f e local h. inl (shown_one P same 0 id f e local h).0) matches_after fits_after fits_before begins_whole alike_whole spelled kept begun visible fitting nothing_passed main main_there
