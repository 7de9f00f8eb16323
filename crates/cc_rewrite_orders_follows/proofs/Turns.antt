-- Turns by other numbers of static objects.
use Rattle.std.proofs.Common.{◌≡◌, ◌∙◌, ◌∷◌, ◌&&◌, ◌||◌, ℕ, Bool, true, false, List, [], Option, Some, None, option_map, slice_get, refl, ap, sym, subst, if◌then◌else◌}
use Rattle.std.specs.Prelude.{max, nat_eq, nat_lt, is_some}
use Rattle.std.proofs.lemmas.Option.{slice_get-map}
use Rattle.cc_program.specs.declared.func.Func.{Func}
use Rattle.cc_program.specs.declared.object.Object.{Object}
use Rattle.cc_program.specs.declared.program.Program.{Program}
use Rattle.cc_program.specs.declared.value.Value.{Value}
use Rattle.cc_states.specs.CcSteps.declared.event.Event.TheVariants.{Enter}
use Rattle.cc_states.specs.CcSteps.State.{Active, State}
use Rattle.cc_states.specs.CcSteps.Step.{with_flag, with_event, opened}
use Rattle.cc_states.specs.CcSteps.Turn.{is_going, only_handler, level_in, level_of, running_level, may_enter, entering, enters, entered, turn_by, turn}
use Rattle.cc_states.specs.CcSyntax.Operators.{is_handler}
use Rattle.cc_rewrite_renamed.specs.Objects.{func_renamed}
use Rattle.cc_rewrite_renamed.specs.Renaming.{AreRenamed}
use Rattle.cc_rewrite_renamed.proofs.Places.{func_same}
use Rattle.cc_rewrite_orders_follows.proofs.Steps.{Q, stack_renamed, AreStaticsSame, state_renamed, IsStateSame, state_if, event_same, opened_same, proceed_same}

module _ (r : ℕ → ℕ) (objects : List Object) (P : Program) (renamed : AreRenamed r objects P) where
  abbrev New : Program
  New = Q r objects P renamed

  abbrev stack_there : List Active → List Active
  stack_there ps = stack_renamed r objects P renamed ps

  abbrev at : List (List Value) → State → State
  at ss t = state_renamed r objects P renamed ss t

  abbrev Statics : List (List Value) → State → Type 0
  Statics ss t = AreStaticsSame r objects P renamed ss t.memory.statics

  abbrev pub Same : State → State → Type 0
  Same s t = IsStateSame r objects P renamed s t

  -- ---- entries

  level_same : (id : ℕ) → level_of New id ≡ level_of P id
  level_same id = func_same r objects P renamed (level_in P) (λ f. refl) id

  running_same : (ps : List Active) → running_level New (stack_there ps) ≡ running_level P ps
  running_same [] = refl
  running_same (b ∷ ps) = λ i. if b.handler then max (level_same b.func i) (running_same ps i) else running_same ps i

  may_same : (ss : List (List Value)) (t : State) (id : ℕ) → may_enter New (at ss t) id ≡ may_enter P t id
  may_same ss t id = λ i. t.memory.flag && (nat_eq (level_same id i) 0 || nat_lt (running_same t.stack i) (level_same id i))

  abbrev entry_renamed : ℕ × Func → ℕ × Func
  entry_renamed x = (x.0, func_renamed r x.1)

  handler_by : (id : ℕ) (f : Func) (b : Bool) → option_map (λ f. (id, f)) (if b then Some (func_renamed r f) else None) ≡ option_map entry_renamed (option_map (λ f. (id, f)) (if b then Some f else None))
  handler_by id f true = refl
  handler_by id f false = refl

  handler_same : (id : ℕ) (f : Option Func) → option_map (λ f. (id, f)) (only_handler (option_map (func_renamed r) f)) ≡ option_map entry_renamed (option_map (λ f. (id, f)) (only_handler f))
  handler_same id None = refl
  handler_same id (Some f) = handler_by id f (is_handler f)

  handlers_same : (id : ℕ) → option_map (λ f. (id, f)) (only_handler (slice_get New.funcs id)) ≡ option_map entry_renamed (option_map (λ f. (id, f)) (only_handler (slice_get P.funcs id)))
  handlers_same id = ap (λ f. option_map (λ f. (id, f)) (only_handler f)) (slice_get-map (func_renamed r) P.funcs id) ∙ handler_same id (slice_get P.funcs id)

  entering_if : (b : Bool) (x y : Option (ℕ × Func)) → x ≡ option_map entry_renamed y → (if b then x else None) ≡ option_map entry_renamed (if b then y else None)
  entering_if true x y h = h
  entering_if false x y h = refl

  entering_same : (ss : List (List Value)) (t : State) (arrival : Option ℕ) → entering New (at ss t) arrival ≡ option_map entry_renamed (entering P t arrival)
  entering_same ss t None = refl
  entering_same ss t (Some id) =
      ap (λ (b : Bool). if is_going t.end && b then option_map (λ f. (id, f)) (only_handler (slice_get New.funcs id)) else None) (may_same ss t id)
      ∙ entering_if (is_going t.end && may_enter P t id) _ _ (handlers_same id)

  is_some_kept : (x : Option (ℕ × Func)) → is_some (option_map entry_renamed x) ≡ is_some x
  is_some_kept None = refl
  is_some_kept (Some x) = refl

  pub enters_same : (ss : List (List Value)) (t : State) (arrival : Option ℕ) → enters New (at ss t) arrival ≡ enters P t arrival
  enters_same ss t arrival = ap is_some (entering_same ss t arrival) ∙ is_some_kept (entering P t arrival)

  entered_same : (ss : List (List Value)) (t : State) (x : ℕ × Func) → Statics ss t → Same (entered New (at ss t) (entry_renamed x)) (entered P t x)
  entered_same ss t x h =
      let u = with_flag t false in
      subst (λ s. Same (opened New s x.0 true [] (func_renamed r x.1)) (entered P t x)) (sym (event_same r objects P renamed true ss u (Enter x.0)))
      (opened_same r objects P renamed ss (with_event true u (Enter x.0)) x.0 true [] x.1 h)

  -- ---- turns

  turn_by_same : (ss : List (List Value)) (t : State) → Statics ss t → (x : Option (ℕ × Func)) → Same (turn_by New (at ss t) (option_map entry_renamed x)) (turn_by P t x)
  turn_by_same ss t h None = state_if r objects P renamed (is_going t.end) _ _ _ _ (proceed_same r objects P renamed ss t t.stack h) (ss, refl, h)
  turn_by_same ss t h (Some x) = entered_same ss t x h

  pub turn_same : (s t : State) → Same s t → (arrival : Option ℕ) → Same (turn New s arrival) (turn P t arrival)
  turn_same s t k arrival =
      subst (λ s. Same (turn New s arrival) (turn P t arrival)) (sym k.1)
      (subst (λ x. Same (turn_by New (at k.0 t) x) (turn P t arrival)) (sym (entering_same k.0 t arrival)) (turn_by_same k.0 t k.2 (entering P t arrival)))
