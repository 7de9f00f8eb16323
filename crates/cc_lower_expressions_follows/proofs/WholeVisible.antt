-- What both programs do in the same step is an access of no register, whichever activation it belongs to.
use Rattle.std.proofs.Common.{arith, ◌≡◌, ◌<◌, ◌⊎◌, inl, inr, ◌||◌, ◌==◌, ℕ, zero, suc, Bool, true, false, not, List, [], ◌∷◌, length, Option, Some, None, option_map, refl, ap, sym, ◌∙◌, subst, if◌then◌else◌}
use Rattle.std.specs.Prelude.{slice_get, nat_le, pos}
use Rattle.std.proofs.lemmas.Bool.{eqb-true, eq-eqb, leb-true}
use Rattle.std.proofs.lemmas.Option.{same_Some}
use Rattle.cc_states.specs.CcControl.declared.phase.Phase.TheVariants.{First, Test}
use Rattle.cc_states.specs.CcEval.declared.action.Action.{Action}
use Rattle.cc_states.specs.CcEval.declared.action.Action.TheVariants.{Read, Write, Choose, Call, Flag, Save}
use Rattle.cc_states.specs.CcEval.declared.mark.Mark.{Mark}
use Rattle.cc_states.specs.CcEval.Context.{local_type}
use Rattle.cc_states.specs.CcEval.Progress.{Progress, Known, Waits, Traps, Get, known, and_then, bind, no_value}
use Rattle.cc_program.specs.declared.expr.Expr.{Expr, out-Expr}
use Rattle.cc_program.specs.declared.func.Func.{Func}
use Rattle.cc_program.specs.declared.program.Program.{Program}
use Rattle.cc_program.specs.declared.stmt.Case.{Case}
use Rattle.cc_program.specs.declared.stmt.Stmt.{Stmt, out-Stmt}
use Rattle.cc_program.specs.declared.stmt.Stmt.TheOpen as is
use Rattle.cc_program.specs.declared.value.Cell.{Cell}
use Rattle.cc_program.specs.declared.value.Cell.TheVariants as cell
use Rattle.cc_program.specs.declared.value.Part.{Part}
use Rattle.cc_program.specs.declared.value.Root.{Root}
use Rattle.cc_program.specs.declared.value.Root.TheVariants as root
use Rattle.cc_program.specs.declared.value.Value.{Value}
use Rattle.cc_program.specs.declared.value.Value.TheVariants.{Int}
use Rattle.cc_states.specs.CcSteps.State.{Active, Memory}
use Rattle.cc_states.specs.CcSteps.Step.{is_return, progress_in, worked}
use Rattle.cc_states.specs.CcSyntax.Expressions.{of_one}
use Rattle.cc_states.specs.CcSyntax.Initial.{place_at}
use Rattle.cc_states.specs.CcSyntax.Registers.{is_register}
use Rattle.cc_states.specs.CcSyntax.Types.{Named}
use Rattle.cc_states.specs.CcSyntax.Values.{ValueType, object_place, read_from}
use Rattle.cc_states.specs.Answers.{IsAction, AreReached, IsCellReached, IsReached}
use Rattle.cc_states.specs.States.{AreActive, IsState}
use Rattle.cc_states.specs.Typed.{is_register_in, IsInMemory, IsOpened, IsThere, cell_type}
use Rattle.cc_states.proofs.StateLemmas.{asked, reaches}
use Rattle.cc_meaning_simulations.specs.Continuations.{Remainder, remainder}
use Rattle.cc_meaning_simulations.specs.LocalSimulations.{is_visible, is_root_visible, is_cell_visible, is_action_visible}
use Rattle.cc_meaning_simulations.specs.LocalSteps.{LocalState, Locals, local_state_of}
use Rattle.cc_meaning_simulations.specs.StepSimulations.{going}
use Rattle.cc_meaning_simulations.specs.Transitions.{ControlState, Transition, Performs, Jumps, Returns, control_state, progress_there, transition_in, transition}
use Rattle.cc_lower_expressions_follows.specs.Trees.{Regs, Setting, is_own, IsShared, IsSharedRoot, IsSharedCell}
use Rattle.cc_lower_expressions_follows.specs.WholeFits.{setting_of, hides_in, hides}
use Rattle.cc_lower_expressions_follows.specs.WholeLists.{is_one_at, RunAlike, GivesAlike}
use Rattle.cc_lower_expressions_follows.specs.WholeMatches.{needed, MatchIn, InEffect, InOperand, AtValue, InCondition, AtArm, AtLoop, AtBreak, AtContinue, AtReturn, AtEnd}
use Rattle.cc_lower_expressions_follows.specs.WholePlaces.{AreAt}
use Rattle.cc_lower_expressions_follows.specs.WholeRegion.{control_in, next_p, IsWorkedIn, InDo, InIf}
use Rattle.cc_lower_expressions_follows.proofs.WholeBridge.{IsLowered}
use Rattle.cc_lower_expressions_follows.proofs.WholeMarks.{asks_for, asks_it}
use Rattle.cc_lower_expressions_follows.proofs.WholeOperands.{last_kinds}
use Rattle.cc_lower_expressions_follows.proofs.WholeStatements.{steps_to, transition_is}
use Rattle.cc_lower_expressions_follows.proofs.WholeWrites.{matched_in}

abbrev performing : Action → Transition
performing x = Performs x

same_performed : (x y : Action) → performing x ≡ performing y → x ≡ y
same_performed x y e = cc

waits_of : (p : Program) (y : is.Stmt-F Stmt Case) (c : ControlState) (r : Progress (Option Value)) (x : Action) → transition_in p y c r ≡ Performs x → r ≡ Waits x
waits_of p y c (Waits action) x e = ap (λ (z : Action). Waits z) (same_performed action x e)
waits_of p y c (Traps ms) x e = absurd (cc)
waits_of p y c (Known None ms) x e = absurd (cc)
waits_of p y c (Known (Some v) ms) x e = never _ (is_return y) e
  where
    never : (n : ControlState) (b : Bool) → (if b then Returns v else Jumps n) ≡ Performs x → Known (Some v) ms ≡ Waits x
    never n true h = absurd (cc)
    never n false h = absurd (cc)

known_waits : {B : Type 0} (v : Value) (i : List Mark) (r : Progress (Option Value)) (x : Action) → r ≡ Known (Some v) i → r ≡ Waits x → B
known_waits {B} v i r x e f = absurd (by_eq (sym e ∙ f))
  where
    by_eq : ◌≡◌ {A = Progress (Option Value)} (Known (Some v) i) (Waits x) → ⊥
    by_eq h = absurd (cc)

-- ---- what a state that matches performs is shared

module _ (w : Setting) (hidden : ℕ → ℕ → Bool) (lowered : IsLowered w hidden) (Good : Stmt → Type 0)
    (ones : (e : Expr) → is_one_at (out-Expr e) ≡ true → next_p w e [] ≡ Known (Some (Int (pos 1))) []) (x : Action) where
  module _ (s : Stmt) (e : Expr) (l : List Stmt) (ps : List Remainder) (works : IsWorkedIn (out-Stmt s) e) (out : List Stmt) (outer : List Remainder) {A : Type 0} (Q : A → Unit {0} → Regs → Regs → Type 0) (F : A → Get Value) where
    abbrev with_rest : Progress A → Progress Value
    with_rest y = and_then y F

    step_shared : (ms : List Mark) (pc : ControlState) (pl : Locals) (qc : ControlState) (ql : Locals) (g : Get A) (r : Regs) (h : Get (Unit {0})) (t : Regs) (action : Action) → AreAt w Q F s l First ps e out outer ms pc pl qc ql g r h t → IsShared w action → g [] ≡ Waits action →
        transition w.p pc ≡ Performs x → IsShared w x
    step_shared ms pc pl qc ql g r h t action at shared eg f =
        let n = steps_to w lowered.function_p s l First ps e (lowered.laws_p e) works ms pc (bind g F) at.stands action (ap with_rest eg) in
        subst (IsShared w) (same_performed action x (sym n.performs ∙ f)) shared

  plain_never : {B : Type 0} (s : Stmt) (l : List Stmt) (around : List Remainder) (y : is.Stmt-F Stmt Case) → out-Stmt s ≡ y → worked y First ≡ None → transition w.p (control_in w (remainder (s ∷ l) First) around []) ≡ Performs x → B
  plain_never s l around y d n f =
      let c = control_in w (remainder (s ∷ l) First) around [] in
      known_waits no_value [] (progress_there w.p c (worked (out-Stmt s) First)) x
      (ap (λ (z : is.Stmt-F Stmt Case). progress_there w.p c (worked z First)) d ∙ ap (progress_there w.p c) n ∙ ap (λ (o : Option Func). progress_in w.p w.number w.id [] o None) lowered.function_p)
      (waits_of w.p (out-Stmt s) c (progress_there w.p c (worked (out-Stmt s) First)) x f)

  pub match_shared : (q p : LocalState) → MatchIn w Good q p → transition w.p p.control ≡ Performs x → IsShared w x
  match_shared _ _ (InEffect s e l l' ps qs ms pc pl qc ql g r h t action d right together at shared eg eh) f = step_shared s e l ps (InDo d) l' qs (RunAlike w) known ms pc pl qc ql g r h t action at shared eg f
  match_shared _ _ (InOperand s u e y l l' ps qs ms pc pl qc ql g r h t action last right together at shared eg eh) f =
      step_shared s e l ps (last_kinds w Good (out-Stmt s) (out-Stmt u) e y last).works_p (u ∷ l') qs (GivesAlike w y) needed ms pc pl qc ql g r h t action at shared eg f
  match_shared _ _ (AtValue s u e y l l' ps qs ms ns v i j pl ql last together known_p known_q alike) f =
      let k = last_kinds w Good (out-Stmt s) (out-Stmt u) e y last in
      known_waits v i (next_p w e ms) x known_p (waits_of w.p (out-Stmt s) (control_in w (remainder (s ∷ l) First) ps ms) (next_p w e ms) x (sym (transition_is w lowered.function_p s l First ps e (lowered.laws_p e) k.works_p ms) ∙ f))
  match_shared _ _ (InCondition s e arm l l' ps qs k y u rest outer ms pc pl qc ql g r h t action d right together guard at shared eg eh) f =
      step_shared s e l ps (InIf arm [] d) (u ∷ rest) outer (GivesAlike w y) k ms pc pl qc ql g r h t action at shared eg f
  match_shared _ _ (AtArm s u e y arm these l rest ps outer ms ns v v' i j pl ql d b arms around known_p known_q is_v is_v' alike) f =
      known_waits v i (next_p w e ms) x known_p (waits_of w.p (out-Stmt s) (control_in w (remainder (s ∷ l) First) ps ms) (next_p w e ms) x (sym (transition_is w lowered.function_p s l First ps e (lowered.laws_p e) (InIf arm [] d) ms) ∙ f))
  match_shared _ _ (AtLoop s u e body body' l l' ps qs pl ql d b one bodies together alike) f =
      let c = control_in w (remainder (s ∷ l) Test) ps [] in
      known_waits (Int (pos 1)) [] (progress_there w.p c (worked (out-Stmt s) Test)) x
      (ap (λ (z : is.Stmt-F Stmt Case). progress_there w.p c (worked z Test)) d ∙ ap (λ (o : Option Func). progress_in w.p w.number w.id [] o (Some e)) lowered.function_p ∙ ones e one)
      (waits_of w.p (out-Stmt s) c (progress_there w.p c (worked (out-Stmt s) Test)) x f)
  match_shared _ _ (AtBreak s u l l' ps qs pl ql d b around alike) f = plain_never s l ps is.Break d refl f
  match_shared _ _ (AtContinue s u l l' ps qs pl ql d b around alike) f = plain_never s l ps is.Continue d refl f
  match_shared _ _ (AtReturn s u l l' ps qs pl ql d b) f = plain_never s l ps (is.Return None) d refl f
  match_shared _ _ (AtEnd pl ql) f = absurd (cc)

-- ---- which locals are hidden

or_none : (a b : Bool) → a ≡ false → b ≡ false → (a || b) ≡ false
or_none true b h k = absurd (cc)
or_none false b h k = k

not_true : (b : Bool) → (b ≡ true → ⊥) → b ≡ false
not_true true h = absurd (h refl)
not_true false h = refl

within : {A : Type 0} (xs : List A) (i : ℕ) (x : A) → slice_get xs i ≡ Some x → i < length xs
within [] i x e = absurd (cc)
within (y ∷ xs) zero x e = omega arith
within (y ∷ xs) (suc i) x e = let h = within xs i x e in omega (arith, h)

module _ (P : Program) where
  -- a local of a function that has a type, and is no register, is not hidden
  by_local : (f : Func) (local : ℕ) (path : List Part) (t : ValueType) (o : Option Named) → slice_get f.locals local ≡ o → of_one (of_one (option_map (λ (l : Named). object_place l.1) o) (place_at P.structures path)) read_from ≡ Some t → is_register f local ≡ false → is_own f (length f.locals) local ≡ false
  by_local f local path t None e h k = absurd (cc)
  by_local f local path t (Some l) e h k =
      let below = within f.locals local l e in
      or_none (is_register f local) (nat_le (length f.locals) local) k (not_true (nat_le (length f.locals) local) (λ i. let le = leb-true (length f.locals) local i in absurd (omega (arith, below, le))))

  by_func : (local : ℕ) (path : List Part) (t : ValueType) (g : Option Func) → of_one (of_one (local_type local g) (place_at P.structures path)) read_from ≡ Some t → is_register_in g local ≡ false → hides_in P g local ≡ false
  by_func local path t None h k = refl
  by_func local path t (Some f) h k = by_local f local path t (slice_get f.locals local) refl h k

  memory_shown : (number func local : ℕ) (path : List Part) (t : ValueType) → cell_type P (cell.At (root.Auto number func local) path) ≡ Some t → IsInMemory P (root.Auto number func local) → hides P func local ≡ false
  memory_shown number func local path t h k = by_func local path t (slice_get P.funcs func) h k

  module _ (openings : List ℕ) where
    below_visible : (below : List Active) → AreActive P openings below → (number func local : ℕ) → slice_get openings number ≡ Some func → hides P func local ≡ false → is_visible (hides P) below number local ≡ true
    below_visible [] h number func local o k = refl
    below_visible (c ∷ below) h number func local o k = by_number (c.number == number) refl (below_visible below h.1 number func local o k)
      where
        by_number : (b : Bool) → (c.number == number) ≡ b → is_visible (hides P) below number local ≡ true → (if b then not (hides P c.func local) else is_visible (hides P) below number local) ≡ true
        by_number true e z =
            let same : c.func ≡ func = same_Some c.func func (sym h.0.number ∙ ap (slice_get openings) (eqb-true c.number number e) ∙ o) in
            ap not (ap (λ (id : ℕ). hides P id local) same ∙ k)
        by_number false e z = z

    module _ (number id : ℕ) (f : Func) (there : slice_get P.funcs id ≡ Some f) (b : Active) (below : List Active) (active : AreActive P openings (b ∷ below)) (same_number : b.number ≡ number) (same_func : b.func ≡ id) where
      abbrev w : Setting
      w = setting_of P number id f

      root_visible : (object : Root) (path : List Part) (t : ValueType) → IsSharedRoot w object → IsReached P b.number object → cell_type P (cell.At object path) ≡ Some t → IsOpened openings object → is_root_visible (hides P) (b ∷ below) object ≡ true
      root_visible (root.Static i) path t shared reached h o = refl
      root_visible (root.Auto other func local) path t shared reached h o = by_number (b.number == other) refl
        where
          elsewhere : (other ≡ b.number) ⊎ IsInMemory P (root.Auto other func local) → (b.number == other) ≡ false → is_visible (hides P) below other local ≡ true
          elsewhere (inl e) n = let k : true ≡ false = sym (eq-eqb b.number other (sym e)) ∙ n in absurd (cc)
          elsewhere (inr k) n = below_visible below active.1 other func local o (memory_shown other func local path t h k)

          by_number : (c : Bool) → (b.number == other) ≡ c → (if c then not (hides P b.func local) else is_visible (hides P) below other local) ≡ true
          by_number true e =
              let own : is_own f (length f.locals) local ≡ false = shared (sym (eqb-true b.number other e) ∙ same_number) in
              ap not (ap (λ (i : ℕ). hides P i local) same_func ∙ ap (λ (g : Option Func). hides_in P g local) there ∙ own)
          by_number false e = elsewhere reached e

      cell_visible : (at : Cell) (t : ValueType) → IsSharedCell w at → IsCellReached P b.number at → cell_type P at ≡ Some t → IsThere openings at → is_cell_visible (hides P) (b ∷ below) at ≡ true
      cell_visible (cell.Device d) t shared reached h o = refl
      cell_visible (cell.At object path) t shared reached h o = root_visible object path t shared reached h o

      action_visible : (x : Action) → IsShared w x → AreReached P b.number x → IsAction P openings x → is_action_visible (hides P) (b ∷ below) x ≡ true
      action_visible (Read at manner) shared reached i = cell_visible at i.0 shared reached i.1 i.2
      action_visible (Write at is_event v) shared reached i = cell_visible at i.0 shared reached i.1 i.2
      action_visible (Choose c) shared reached i = refl
      action_visible (Call callee args) shared reached i = refl
      action_visible (Flag on) shared reached i = refl
      action_visible Save shared reached i = refl

  -- what the source does where states match reads and writes no register
  pub step_visible : (number id : ℕ) (f : Func) (there : slice_get P.funcs id ≡ Some f) (lowered : IsLowered (setting_of P number id f) (hides P)) (Good : Stmt → Type 0) →
      ((e : Expr) → is_one_at (out-Expr e) ≡ true → next_p (setting_of P number id f) e [] ≡ Known (Some (Int (pos 1))) []) → (m : Memory) (b : Active) (below : List Active) (opened : ℕ) → IsState P (going m (b ∷ below) opened) →
      (a : LocalState) → MatchIn (setting_of P number id f) Good a (local_state_of b) → (x : Action) → transition P (control_state b) ≡ Performs x → is_action_visible (hides P) (b ∷ below) x ≡ true
  step_visible number id f there lowered Good ones m b below opened h a met x e =
      let is_in = matched_in (setting_of P number id f) Good a (local_state_of b) met in
      let asks = asks_it P b x (asks_for P b x e) in
      action_visible h.0 number id f there b below h.1.stack is_in.number is_in.func x (match_shared (setting_of P number id f) (hides P) lowered Good ones x a (local_state_of b) met e)
      (reaches P h.0 b h.1.stack.0 x asks) (asked P h.0 b h.1.stack.0 x asks)
