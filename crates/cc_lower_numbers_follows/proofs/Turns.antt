-- Turns and starts by other numbers, of typed programs.
use Rattle.std.proofs.Common.{◌≡◌, ◌∙◌, ◌∷◌, ◌&&◌, ◌||◌, ℕ, Bool, true, false, not, List, [], length, Option, Some, None, option_map, slice_get, refl, ap, sym, subst, if◌then◌else◌}
use Rattle.std.specs.Prelude.{max, nat_eq, nat_lt, is_some}
use Rattle.std.proofs.lemmas.Bool.{eqb-true}
use Rattle.std.proofs.lemmas.Option.{same_Some}
use Rattle.cc_states.specs.CcEval.declared.action.Action.{Action}
use Rattle.cc_states.specs.CcEval.declared.action.Action.TheVariants.{Read, Write, Choose, Call, Flag, Save}
use Rattle.cc_program.specs.declared.func.Func.{Func}
use Rattle.cc_program.specs.declared.object.Device.{Device}
use Rattle.cc_program.specs.declared.program.Program.{Program}
use Rattle.cc_program.specs.declared.stmt.Stmt.{Stmt, out-Stmt}
use Rattle.cc_program.specs.declared.types.Sig.{out-Sig}
use Rattle.cc_program.specs.declared.value.Address.{Address}
use Rattle.cc_program.specs.declared.value.Address.TheVariants as address
use Rattle.cc_program.specs.declared.value.Cell.{Cell}
use Rattle.cc_program.specs.declared.value.Cell.TheVariants as cell
use Rattle.cc_program.specs.declared.value.Root.TheVariants as root
use Rattle.cc_program.specs.declared.value.Value.{Value}
use Rattle.cc_states.specs.CcSteps.declared.event.Event.TheVariants.{Enter}
use Rattle.cc_states.specs.CcSteps.State.{Active, State}
use Rattle.cc_states.specs.CcSteps.Step.{with_flag, with_event, worked, progress_of, opened, proceed}
use Rattle.cc_states.specs.CcSteps.Turn.{is_going, only_handler, named_level, level_in, level_of, running_level, may_enter, entering, enters, entered, turn_by, turn}
use Rattle.cc_states.specs.CcSyntax.Operators.{is_handler}
use Rattle.cc_states.specs.CcSyntax.Sound.{any_names, is_main, is_main_there, takes_nothing, is_plain_int, is_plain_void, IsFuncBy, IsTypedProgram}
use Rattle.cc_states.specs.Answers.{IsAction}
use Rattle.cc_states.specs.States.{worked_at, expression_of, IsActive, AreActive, IsState, IsCalleeThere}
use Rattle.cc_states.specs.Typed.{IsThere}
use Rattle.cc_states.proofs.StateLemmas.{asked, same_opening, possible}
use Rattle.cc_states.proofs.TurnLemmas.{function_sound}
use Rattle.cc_lower_numbers_follows.specs.Renaming.{Renaming, IsFuncRenamed, AreFuncsRenamed, IsRenamed}
use Rattle.cc_lower_numbers_follows.proofs.Places.{func_same}
use Rattle.cc_lower_numbers_follows.proofs.Steps.{Q, AreStacksSame, state_renamed, IsStateSame, AreNumbered, IsCellTouched, TakesArguments, IsActionFit, event_same, opened_same, step_same}

-- ---- what a typed program gives

module _ (P : Program) (sound : IsTypedProgram P) where
  nothing_taken : (f : Func) → IsFuncBy P any_names f → takes_nothing f ≡ true → f.params ≡ 0
  nothing_taken f k e = eqb-true f.params (length (out-Sig f.sig).params) k.count ∙ eqb-true (length (out-Sig f.sig).params) 0 e

  left : (a b : Bool) → (a && b) ≡ true → a ≡ true
  left true b h = refl
  left false b h = absurd (cc)

  right : (a b : Bool) → (a && b) ≡ true → b ≡ true
  right true b h = h
  right false b h = absurd (cc)

  not_both : (a b : Bool) → (not a && b) ≡ true → a ≡ true → b ≡ true
  not_both true b h k = absurd (cc)
  not_both false b h k = absurd (cc)

  abbrev form : Func → Bool → Bool
  form f b = if b then not (is_handler f) && (takes_nothing f && (is_plain_int (out-Sig f.sig).result || is_plain_void (out-Sig f.sig).result)) else (if is_handler f then takes_nothing f && is_plain_void (out-Sig f.sig).result else true)

  handler_empty : (f : Func) → IsFuncBy P any_names f → is_handler f ≡ true → (b : Bool) → is_main f ≡ b → takes_nothing f ≡ true
  handler_empty f k e true m = left (takes_nothing f) _ (not_both (is_handler f) _ (ap (form f) (sym m) ∙ k.form) e)
  handler_empty f k e false m = left (takes_nothing f) (is_plain_void (out-Sig f.sig).result) (ap (λ (b : Bool). if b then takes_nothing f && is_plain_void (out-Sig f.sig).result else true) (sym e) ∙ ap (form f) (sym m) ∙ k.form)

  pub handler_takes : (id : ℕ) (f : Func) → slice_get P.funcs id ≡ Some f → is_handler f ≡ true → f.params ≡ 0
  handler_takes id f e h = let k = function_sound P sound id f e in nothing_taken f k (handler_empty f k h (is_main f) refl)

  pub main_takes : (f : Func) → slice_get P.funcs P.main ≡ Some f → f.params ≡ 0
  main_takes f e =
      let k = function_sound P sound P.main f e in
      let m : is_main f ≡ true = ap is_main_there (sym e) ∙ sound.main in
      nothing_taken f k (left (takes_nothing f) _ (right (not (is_handler f)) _ (ap (form f) (sym m) ∙ k.form)))

module _ (r : Renaming) (devices : List Device) (funcs : List Func) (P : Program) (renamed : IsRenamed r devices funcs P) (sound : IsTypedProgram P) where
  abbrev New : Program
  New = Q r devices funcs P renamed

  abbrev Stacks : List Active → List Active → Type 0
  Stacks qs ps = AreStacksSame r devices funcs P renamed qs ps

  abbrev at : List Active → State → State
  at qs t = state_renamed r devices funcs P renamed qs t

  abbrev pub Same : State → State → Type 0
  Same s t = IsStateSame r devices funcs P renamed s t

  abbrev on_stack : State → List Active → State
  on_stack t ps = record { memory = t.memory; stack = ps; opened = t.opened; end = t.end }

  -- ---- steps

  numbered : (openings : List ℕ) (ps : List Active) → AreActive P openings ps → (number func : ℕ) → slice_get openings number ≡ Some func → AreNumbered r devices funcs P renamed number func ps
  numbered openings [] h number func o = tt
  numbered openings (b ∷ ps) h number func o =
      ((λ e. same_opening P openings number b.func func (ap (slice_get openings) (sym (eqb-true b.number number e)) ∙ h.0.number) o), numbered openings ps h.1 number func o)

  touched : (openings : List ℕ) (ps : List Active) → AreActive P openings ps → (c : Cell) → IsThere openings c → IsCellTouched r devices funcs P renamed ps c
  touched openings ps h (cell.Device d) o = tt
  touched openings ps h (cell.At (root.Static i) path) o = tt
  touched openings ps h (cell.At (root.Auto number func local) path) o = numbered openings ps h number func o

  arguments_taken : (s : State) (callee : Address) (args : List Value) → IsCalleeThere P callee args → TakesArguments r devices funcs P renamed callee args
  arguments_taken s address.Null args h = tt
  arguments_taken s (address.Func id) args h = λ f e. h.2 ∙ ap (λ (g : Func). g.params) (same_Some h.0 f (sym h.1 ∙ e))
  arguments_taken s (address.At object path index count) args h = tt

  fits : (s : State) (h : IsState P s) (action : Action) → IsAction P h.0 action → IsActionFit r devices funcs P renamed s.stack action
  fits s h (Read at manner) i = touched h.0 s.stack h.1.stack at i.2
  fits s h (Write at is_event v) i = touched h.0 s.stack h.1.stack at i.2
  fits s h (Choose b) i = tt
  fits s h (Call callee args) i = arguments_taken s callee args (possible P h.0 sound s h.1.statics h.1.stack (Call callee args) i)
  fits s h (Flag on) i = tt
  fits s h Save i = tt

  worked_there : (b : Active) (s : Stmt) (rest : List Stmt) → b.here.rest ≡ s ∷ rest → expression_of b ≡ worked (out-Stmt s) b.here.phase
  worked_there b s rest e = ap (worked_at b.here) e

  proceed_same : (qs : List Active) (t : State) → IsState P t → is_going t.end ≡ true → Stacks qs t.stack → Same (proceed New (at qs t) qs) (proceed P t t.stack)
  proceed_same qs t h going k =
      let run = h.1.running going in
      let on_top : IsActive P h.0 run.0 = (subst (AreActive P h.0) run.2 h.1.stack).0 in
      subst (λ (ps : List Active). Same (proceed New (at qs t) qs) (proceed P t ps)) (sym run.2)
      (by_stacks qs run.0 run.1 run.2 (subst (Stacks qs) run.2 k) on_top)
    where
      by_stacks : (qs : List Active) (b : Active) (ps : List Active) → t.stack ≡ b ∷ ps → Stacks qs (b ∷ ps) → IsActive P h.0 b → Same (proceed New (at qs t) qs) (proceed P t (b ∷ ps))
      by_stacks [] b ps top k i = absurd k
      by_stacks (a ∷ qs) b ps top k i =
          subst (λ (x : Active). Same (proceed New (at (x ∷ qs) t) (x ∷ qs)) (proceed P t (b ∷ ps))) (sym k.0.1)
          (step_same r devices funcs P renamed qs ps k.0.0 b (on_stack t (b ∷ ps)) refl k.1 k.0.2 b.here.rest
          (λ s rest e action w. subst (λ stack. IsActionFit r devices funcs P renamed stack action) top (fits t h action (asked P h.0 b i action (ap (progress_of P b) (worked_there b s rest e) ∙ w)))))

  -- ---- entries

  level_same : (id : ℕ) → level_of New id ≡ level_of P id
  level_same id = func_same r devices funcs P renamed (level_in P) id (λ x y a. ap (named_level P.roles.levels) a.name)

  running_same : (qs ps : List Active) → Stacks qs ps → running_level New qs ≡ running_level P ps
  running_same [] [] h = refl
  running_same (a ∷ qs) (b ∷ ps) h =
      ap (λ (x : Active). if x.handler then max (level_of New x.func) (running_level New qs) else running_level New qs) h.0.1
      ∙ (λ i. if b.handler then max (level_same b.func i) (running_same qs ps h.1 i) else running_same qs ps h.1 i)
  running_same [] (b ∷ ps) h = absurd h
  running_same (a ∷ qs) [] h = absurd h

  may_same : (qs : List Active) (t : State) (id : ℕ) → Stacks qs t.stack → may_enter New (at qs t) id ≡ may_enter P t id
  may_same qs t id h = λ i. t.memory.flag && (nat_eq (level_same id i) 0 || nat_lt (running_same qs t.stack h i) (level_same id i))

  handler_same : (id : ℕ) (g f : Func) → IsFuncRenamed (r.local id) r.device g f → is_handler g ≡ is_handler f
  handler_same id g f a = ap is_some a.entry

  -- what enters both, or neither
  abbrev AreEntering : Option (ℕ × Func) → Option (ℕ × Func) → Type 0
  AreEntering None None = Unit {0}
  AreEntering (Some x) (Some y) = (x.0 ≡ y.0) × IsFuncRenamed (r.local y.0) r.device x.1 y.1 × (slice_get P.funcs y.0 ≡ Some y.1) × (is_handler y.1 ≡ true)
  AreEntering None (Some y) = ⊥
  AreEntering (Some x) None = ⊥

  handler_by : (id : ℕ) (g f : Func) → IsFuncRenamed (r.local id) r.device g f → slice_get P.funcs id ≡ Some f → (b : Bool) → is_handler f ≡ b →
      AreEntering (option_map (λ f. (id, f)) (if b then Some g else None)) (option_map (λ f. (id, f)) (if b then Some f else None))
  handler_by id g f a e true h = (refl, a, e, h)
  handler_by id g f a e false h = tt

  only_by : (id : ℕ) (x y : Option Func) → AreFuncsRenamed (r.local id) r.device x y → slice_get P.funcs id ≡ y → AreEntering (option_map (λ f. (id, f)) (only_handler x)) (option_map (λ f. (id, f)) (only_handler y))
  only_by id None None a e = tt
  only_by id (Some g) (Some f) a e =
      subst (λ b. AreEntering (option_map (λ f. (id, f)) (if b then Some g else None)) (option_map (λ f. (id, f)) (only_handler (Some f)))) (sym (handler_same id g f a)) (handler_by id g f a e (is_handler f) refl)
  only_by id None (Some f) a e = absurd a
  only_by id (Some g) None a e = absurd a

  entering_if : (b : Bool) (x y : Option (ℕ × Func)) → AreEntering x y → AreEntering (if b then x else None) (if b then y else None)
  entering_if true x y h = h
  entering_if false x y h = tt

  entering_same : (qs : List Active) (t : State) (arrival : Option ℕ) → Stacks qs t.stack → AreEntering (entering New (at qs t) arrival) (entering P t arrival)
  entering_same qs t None h = tt
  entering_same qs t (Some id) h =
      subst (λ b. AreEntering (if is_going t.end && b then option_map (λ f. (id, f)) (only_handler (slice_get funcs id)) else None) (entering P t (Some id))) (sym (may_same qs t id h))
      (entering_if (is_going t.end && may_enter P t id) _ _ (only_by id (slice_get funcs id) (slice_get P.funcs id) (renamed.funcs_there id) refl))

  are_some : (x y : Option (ℕ × Func)) → AreEntering x y → is_some x ≡ is_some y
  are_some None None h = refl
  are_some (Some x) (Some y) h = refl
  are_some None (Some y) h = absurd h
  are_some (Some x) None h = absurd h

  pub enters_same : (qs : List Active) (t : State) (arrival : Option ℕ) → Stacks qs t.stack → enters New (at qs t) arrival ≡ enters P t arrival
  enters_same qs t arrival h = are_some (entering New (at qs t) arrival) (entering P t arrival) (entering_same qs t arrival h)

  entered_same : (qs : List Active) (t : State) (x y : ℕ × Func) → Stacks qs t.stack → AreEntering (Some x) (Some y) → Same (entered New (at qs t) x) (entered P t y)
  entered_same qs t x y h a =
      let u = with_flag t false in
      let begun = opened_same r devices funcs P renamed qs (with_event true u (Enter y.0)) y.0 true [] x.1 y.1 h a.1 (sym (handler_takes P sound y.0 y.1 a.2 a.3)) in
      subst (λ n. Same (opened New (with_event true (with_flag (at qs t) false) (Enter n)) n true [] x.1) (entered P t y)) (sym a.0)
      (subst (λ s. Same (opened New s y.0 true [] x.1) (entered P t y)) (sym (event_same r devices funcs P renamed true qs u (Enter y.0))) begun)

  goes_if : (b : Bool) (w x y z : State) → (b ≡ true → Same w y) → Same x z → Same (if b then w else x) (if b then y else z)
  goes_if true w x y z h k = h refl
  goes_if false w x y z h k = k

  turn_by_same : (qs : List Active) (t : State) → IsState P t → Stacks qs t.stack → (x y : Option (ℕ × Func)) → AreEntering x y → Same (turn_by New (at qs t) x) (turn_by P t y)
  turn_by_same qs t h k None None a = goes_if (is_going t.end) (proceed New (at qs t) qs) (at qs t) (proceed P t t.stack) t (λ g. proceed_same qs t h g k) (qs, refl, k)
  turn_by_same qs t h k (Some x) (Some y) a = entered_same qs t x y k a
  turn_by_same qs t h k None (Some y) a = absurd a
  turn_by_same qs t h k (Some x) None a = absurd a

  pub turn_same : (s t : State) → IsState P t → Same s t → (arrival : Option ℕ) → Same (turn New s arrival) (turn P t arrival)
  turn_same s t h k arrival =
      subst (λ s. Same (turn New s arrival) (turn P t arrival)) (sym k.1)
      (turn_by_same k.0 t h k.2 (entering New (at k.0 t) arrival) (entering P t arrival) (entering_same k.0 t arrival k.2))
