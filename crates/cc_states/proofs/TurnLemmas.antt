-- Each turn keeps a state of a sound program one: calls, returns, and where a statement goes on; and the entry of a handler.
use Rattle.std.proofs.Common.{◌≡◌, ◌<◌, ◌⊎◌, inl, inr, ℕ, Bool, true, false, not, ◌&&◌, ◌||◌, ◌+◌, List, [], ◌∷◌, ◌++◌, length, length-append, Option, Some, None, refl, ap, sym, ◌∙◌, subst, ℤ, map}
use Rattle.cc_states.proofs.TakenLemmas.{integer_value}
use Rattle.std.proofs.lemmas.Bool.{eqb-true}
use Rattle.std.proofs.lemmas.Option.{same_Some, slice_get_within}
use Rattle.std.specs.Prelude.{option_map, slice_get, if◌then◌else◌, ◌==◌, nat_eq}
use Rattle.std.specs.List.{list_all, flat_map}
use Rattle.cc_program.specs.CcNum.declared.int_type.IntType.TheVariants as int
use Rattle.cc_program.specs.CcNum.Results.{one_if}
use Rattle.cc_program.specs.declared.expr.Expr.{Expr}
use Rattle.cc_program.specs.declared.func.Func.{Func}
use Rattle.cc_program.specs.declared.program.Program.{Program}
use Rattle.cc_program.specs.declared.stmt.Case.{Case}
use Rattle.cc_program.specs.declared.stmt.Stmt.{Stmt, out-Stmt}
use Rattle.cc_program.specs.declared.stmt.Stmt.TheOpen as is
use Rattle.cc_program.specs.declared.types.CType.{CType}
use Rattle.cc_program.specs.declared.types.Shape.{out-Shape}
use Rattle.cc_program.specs.declared.types.Sig.{out-Sig}
use Rattle.cc_program.specs.declared.value.Address.{Address}
use Rattle.cc_program.specs.declared.value.Address.TheVariants as address
use Rattle.cc_program.specs.declared.value.Value.{Value}
use Rattle.cc_program.specs.declared.value.Value.TheVariants.{Int}
use Rattle.cc_steps.specs.CcEval.declared.action.Action.{Action}
use Rattle.cc_steps.specs.CcEval.declared.action.Action.TheVariants.{Read, Write, Choose, Call, Flag, Save}
use Rattle.cc_steps.specs.CcEval.declared.mark.Mark.{Mark}
use Rattle.cc_steps.specs.CcEval.declared.mark.Mark.TheVariants.{Gave, Did, Chose}
use Rattle.cc_steps.specs.CcEval.Eval.{next_of}
use Rattle.cc_steps.specs.CcEval.Progress.{Progress, Known, Waits, Traps, no_value}
use Rattle.cc_steps.proofs.CcEval.Links.{type_linked}
use Rattle.cc_steps.specs.declared.event.End.TheVariants.{Exit, Trap}
use Rattle.cc_steps.specs.declared.event.Event.TheVariants.{Enter}
use Rattle.cc_steps.specs.State.{Active, State}
use Rattle.cc_steps.specs.Step.{stopped, with_stack, with_flag, with_event, worked, next_place, is_return, number_in, gives_nothing, progress_in, progress_of, goes_to, marked, activation, opened, opened_if, call, return_mark, returned, fallen, perform, stepped, active_step, proceed}
use Rattle.cc_steps.specs.Turn.{is_going, only_handler, may_enter, entering, entered, turn_by, turn}
use Rattle.cc_steps.specs.CcSyntax.Effects.{no_one}
use Rattle.cc_steps.specs.CcSyntax.Programs.{type_of, is_sound_stmt, returns, sound_step}
use Rattle.cc_steps.specs.CcSyntax.Operators.{is_handler}
use Rattle.cc_steps.specs.CcSyntax.Sound.{any_names, IsTypedProgram, IsFuncBy, is_main, is_main_there, is_plain_int, is_plain_void, takes_nothing}
use Rattle.cc_steps.specs.CcSyntax.Statements.{Labelled, labels_fit, are_apart, has_label}
use Rattle.cc_steps.specs.CcSyntax.Types.{IsInOrder}
use Rattle.cc_steps.specs.CcSyntax.Values.{ValueType, NoValue, Integer, scalar_value, is_void, is_assignable_some, ToObject, ToFunction}
use Rattle.cc_steps.proofs.CcSyntax.Parts.{all_at}
use Rattle.cc_steps.proofs.CcSyntax.Prefixes.{both_true}
use Rattle.cc_states.proofs.SoundLemmas.{typed-sized}
use Rattle.cc_states.specs.Answers.{IsAction, IsMarkOf, result_in}
use Rattle.cc_states.specs.Inside.{AreInside}
use Rattle.cc_states.specs.States.{may_break, may_continue, AreSound, worked_at, expression_of, AreMarks, context_in, IsActive, AreActive, AreCalled, IsStateOf, IsState, AreInOrder}
use Rattle.cc_states.specs.Typed.{HasType, AreArguments}
use Rattle.cc_states.proofs.ActiveLemmas.{marked_active, goes_active, called_again, in_order_again}
use Rattle.cc_steps.proofs.MarkLemmas.{marked_call, gone}
use Rattle.cc_states.proofs.ControlLemmas.{next_sound, statement_sound}
use Rattle.cc_states.proofs.AddressLemmas.{expression_takes}
use Rattle.cc_states.proofs.EvalTypes.{meaning_typed}
use Rattle.cc_states.proofs.KeepLemmas.{get_last, statics_more, actives_more, arguments_more}
use Rattle.cc_states.proofs.Options.{either_true}
use Rattle.cc_states.proofs.SoundLemmas.{typed, parts, labelled}
use Rattle.cc_states.proofs.StateLemmas.{asked}
use Rattle.cc_states.proofs.StepLemmas.{event_state, flag_state, stopped_state, with_top, did_state, read_state, write_state}
use Rattle.cc_states.proofs.InsideLemmas.{next_inside}
use Rattle.cc_steps.proofs.CcEval.Works.{answers_of}
use Rattle.cc_states.proofs.TypedLemmas.{promoted_value, widened}
use Rattle.cc_states.proofs.LocalLemmas.{opened_active}
use Rattle.cc_states.proofs.TestLemmas.{not_void, both_not, not_empty, plain, void_returns, handler_by}

module _ (p : Program) (sound : IsTypedProgram p) where
  pub order_of : IsInOrder p.structures
  order_of = (typed-sized p sound).in_order

  pub function_sound : (id : ℕ) (f : Func) → slice_get p.funcs id ≡ Some f → IsFuncBy p any_names f
  function_sound id f e = all_at (IsFuncBy p any_names) p.funcs id f e sound.funcs

  -- the newest number is above all others
  new_in_order : (openings : List ℕ) (a : Active) (n : ℕ) (stack : List Active) → length openings ≡ n → a.number ≡ n → AreActive p openings stack → AreInOrder stack → AreInOrder (a ∷ stack)
  new_in_order openings a n [] e f h k = tt
  new_in_order openings a n (b ∷ below) e f h k = (subst (λ (m : ℕ). b.number < m) (e ∙ sym f) (slice_get_within openings b.number b.func h.0.number), k)

  pub opened_state : (openings : List ℕ) (s : State) → IsStateOf p openings s → (id : ℕ) (handler : Bool) (args : List Value) (f : Func) → slice_get p.funcs id ≡ Some f → (handler ≡ true → is_handler f ≡ true) → AreArguments p openings (out-Sig f.sig).params args →
      AreCalled p (activation p s.opened id handler args f ∷ s.stack) → IsStateOf p (openings ++ id ∷ []) (opened p s id handler args f)
  opened_state openings s h id handler args f e entry k c = record {
    count = length-append openings (id ∷ []) ∙ ap (λ (n : ℕ). n + 1) h.count;
    statics = statics_more p openings (id ∷ []) s.memory.statics h.statics;
    stack = (
      opened_active p (openings ++ id ∷ []) order_of s.opened id handler args f e (get_last openings id s.opened h.count) (function_sound id f e) entry (arguments_more p openings (id ∷ []) (out-Sig f.sig).params args k),
      actives_more p openings (id ∷ []) s.stack h.stack,
    );
    called = c;
    order = new_in_order openings (activation p s.opened id handler args f) s.opened s.stack h.count refl h.stack h.order;
    running = λ g. (activation p s.opened id handler args f, s.stack, refl);
  }

  -- ---- returns

  module _ (openings : List ℕ) (s : State) (h : IsStateOf p openings s) (a : Active) (below : List Active) (top : s.stack ≡ a ∷ below) where
    abbrev all : AreActive p openings (a ∷ below)
    all = subst (AreActive p openings) top h.stack

    abbrev calls : AreCalled p (a ∷ below)
    calls = subst (AreCalled p) top h.called

    abbrev in_order : AreInOrder (a ∷ below)
    in_order = subst AreInOrder top h.order

    abbrev f : Func
    f = all.0.func

    abbrev result : CType
    result = (out-Sig f.sig).result

    -- the value that a function gives, if it gives any
    abbrev Results : Value → Type 0
    Results v = is_void result ≡ false → (w : ValueType) × (scalar_value result ≡ Some w) × HasType p openings w v

    mark_by : (args : List Value) (v : Value) (b : Bool) → is_void result ≡ b → Results v → IsMarkOf p openings (Call (address.Func a.func) args) (if b then Did else Gave (Some v))
    mark_by args v true e r = ap result_in all.0.function ∙ rw e refl
    mark_by args v false e r = let x = r e in (x.0, ap result_in all.0.function ∙ (rw e x.1), x.2)

    mark_of : (args : List Value) (v : Value) → Results v → IsMarkOf p openings (Call (address.Func a.func) args) (return_mark p a.func v)
    mark_of args v r =
        subst (λ (b : Bool). IsMarkOf p openings (Call (address.Func a.func) args) (if b then Did else Gave (Some v))) (sym (ap gives_nothing all.0.function)) (mark_by args v (is_void result) refl r)

    none_left : (v : Value) → IsState p (stopped (with_stack s []) (Exit (number_in v)))
    none_left v = (openings, record { count = h.count; statics = h.statics; stack = tt; called = tt; order = tt; running = λ g. absurd (cc) })

  module _ (openings : List ℕ) (s : State) (h : IsStateOf p openings s) (a b : Active) (rest : List Active) (top : s.stack ≡ a ∷ b ∷ rest) where
    handler_returned : IsState p (with_flag (with_stack s (b ∷ rest)) true)
    handler_returned = (
      openings,
      record {
        count = h.count;
        statics = h.statics;
        stack = (all openings s h a (b ∷ rest) top).1;
        called = (calls openings s h a (b ∷ rest) top).1;
        order = (in_order openings s h a (b ∷ rest) top).1;
        running = λ g. (b, rest, refl);
      },
    )

    caller_given : a.handler ≡ false → (v : Value) → Results openings s h a (b ∷ rest) top v → IsState p (with_stack s (marked p b (return_mark p a.func v) ∷ rest))
    caller_given e v r =
        let waits = (calls openings s h a (b ∷ rest) top).0 e in (
          openings,
          record {
            count = h.count;
            statics = h.statics;
            stack = (
              marked_active p openings b (all openings s h a (b ∷ rest) top).1.0 (return_mark p a.func v) (Call (address.Func a.func) waits.0) waits.1 (mark_of openings s h a (b ∷ rest) top waits.0 v r),
              (all openings s h a (b ∷ rest) top).1.1,
            );
            called = called_again p b (marked p b (return_mark p a.func v)) rest (marked_call p b (return_mark p a.func v)) (calls openings s h a (b ∷ rest) top).1;
            order = in_order_again b (marked p b (return_mark p a.func v)) rest (marked_call p b (return_mark p a.func v)).number (in_order openings s h a (b ∷ rest) top).1;
            running = λ g. (marked p b (return_mark p a.func v), rest, refl);
          },
        )

    returned_by : (c : Bool) → a.handler ≡ c → (v : Value) → Results openings s h a (b ∷ rest) top v →
        IsState p (if c then with_flag (with_stack s (b ∷ rest)) true else with_stack s (marked p b (return_mark p a.func v) ∷ rest))
    returned_by true e v r = handler_returned
    returned_by false e v r = caller_given e v r

  returned_state : (openings : List ℕ) (s : State) (h : IsStateOf p openings s) (a : Active) (below : List Active) (top : s.stack ≡ a ∷ below) (v : Value) → Results openings s h a below top v → IsState p (returned p s a below v)
  returned_state openings s h a [] top v r = none_left openings s h a [] top v
  returned_state openings s h a (b ∷ rest) top v r = returned_by openings s h a b rest top a.handler refl v r

  -- main gives an int, where it gives anything
  main_result : (f : Func) → IsFuncBy p any_names f → is_main f ≡ true → is_void (out-Sig f.sig).result ≡ false → scalar_value (out-Sig f.sig).result ≡ Some (Integer int.Int)
  main_result f k m e =
      let form : not (is_handler f) && (takes_nothing f && (is_plain_int (out-Sig f.sig).result || is_plain_void (out-Sig f.sig).result)) ≡ true =
      ap (λ (b : Bool). if b then not (is_handler f) && (takes_nothing f && (is_plain_int (out-Sig f.sig).result || is_plain_void (out-Sig f.sig).result)) else (if is_handler f then takes_nothing f && is_plain_void (out-Sig f.sig).result else true)) (sym m) ∙ k.form in
      let kinds = both_true (takes_nothing f) (is_plain_int (out-Sig f.sig).result || is_plain_void (out-Sig f.sig).result) (both_true (not (is_handler f)) (takes_nothing f && (is_plain_int (out-Sig f.sig).result || is_plain_void (out-Sig f.sig).result)) form).1 in
      plain (out-Sig f.sig).result e (either_true (is_plain_int (out-Sig f.sig).result) (is_plain_void (out-Sig f.sig).result) kinds.1)

  pub main_there : (x : Option Func) (f : Func) → x ≡ Some f → is_main_there x ≡ true → is_main f ≡ true
  main_there x f e h = ap is_main_there (sym e) ∙ h

  fallen_results : (openings : List ℕ) (s : State) (h : IsStateOf p openings s) (a : Active) (below : List Active) (top : s.stack ≡ a ∷ below) → (gives_nothing (slice_get p.funcs a.func) ≡ true) ⊎ ((a.func == p.main) ≡ true) →
      Results openings s h a below top no_value
  fallen_results openings s h a below top (inl g) e = not_void (is_void (out-Sig (f openings s h a below top).sig).result) (ap gives_nothing (sym (all openings s h a below top).0.function) ∙ g) e
  fallen_results openings s h a below top (inr g) e =
      let fn = f openings s h a below top in
      let there : slice_get p.funcs p.main ≡ Some fn = ap (slice_get p.funcs) (sym (eqb-true a.func p.main g)) ∙ (all openings s h a below top).0.function in
      (Integer int.Int, main_result fn (function_sound a.func fn (all openings s h a below top).0.function) (main_there (slice_get p.funcs p.main) fn there sound.main) e, promoted_value int.Int p.target false)

  fallen_by : (openings : List ℕ) (s : State) (h : IsStateOf p openings s) (a : Active) (below : List Active) (top : s.stack ≡ a ∷ below) (b : Bool) → gives_nothing (slice_get p.funcs a.func) || (a.func == p.main) ≡ b →
      IsState p (if b then returned p s a below no_value else stopped s Trap)
  fallen_by openings s h a below top true e = returned_state openings s h a below top no_value (fallen_results openings s h a below top (either_true (gives_nothing (slice_get p.funcs a.func)) (a.func == p.main) e))
  fallen_by openings s h a below top false e = (openings, stopped_state p openings s Trap refl h)

  fallen_state : (openings : List ℕ) (s : State) (h : IsStateOf p openings s) (a : Active) (below : List Active) (top : s.stack ≡ a ∷ below) → IsState p (fallen p s a below)
  fallen_state openings s h a below top = fallen_by openings s h a below top (gives_nothing (slice_get p.funcs a.func) || (a.func == p.main)) refl

  -- ---- steps that an expression asks for

  module _ (openings : List ℕ) (s : State) (h : IsStateOf p openings s) (a : Active) (below : List Active) (top : s.stack ≡ a ∷ below) where
    called_function : (id : ℕ) (args : List Value) (fn : Func) → slice_get p.funcs id ≡ Some fn → AreArguments p openings (out-Sig fn.sig).params args → progress_of p a (expression_of a) ≡ Waits (Call (address.Func id) args) →
        IsState p (opened p s id false args fn)
    called_function id args fn e k w = (
      openings ++ id ∷ [],
      opened_state openings s h id false args fn e (λ entered. absurd (cc)) k
          (subst (λ (stack : List Active). AreCalled p (activation p s.opened id false args fn ∷ stack)) (sym top) ((λ g. (args, w)), subst (AreCalled p) top h.called)),
    )

    call_state : (callee : Address) (args : List Value) → progress_of p a (expression_of a) ≡ Waits (Call callee args) → IsAction p openings (Call callee args) → IsState p (call p s callee args)
    call_state address.Null args w i = (openings, stopped_state p openings s Trap refl h)
    call_state (address.Func id) args w i = subst (λ (x : Option Func). IsState p (opened_if p s id args x)) (sym i.1) (called_function id args i.0 i.1 i.2 w)
    call_state (address.At object path index count) args w i = (openings, stopped_state p openings s Trap refl h)

    perform_state : (action : Action) → progress_of p a (expression_of a) ≡ Waits action → IsAction p openings action → IsState p (perform p s action)
    perform_state (Read at manner) w i = (openings, read_state p openings s h a below top at manner w i)
    perform_state (Write at is_event v) w i = (openings, write_state p openings order_of s h a below top at is_event v w i)
    perform_state (Choose b) w i = (openings, did_state p openings s h a below top (Choose b) w (Chose b) refl)
    perform_state (Call callee args) w i = call_state callee args w i
    perform_state (Flag on) w i = (openings, did_state p openings (with_flag s on) (flag_state p openings s on h) a below top (Flag on) w Did refl)
    perform_state Save w i =
        (openings, did_state p openings (with_flag s false) (flag_state p openings s false h) a below top Save w (Gave (Some (Int (one_if s.memory.flag)))) (Integer int.UChar, refl, promoted_value int.UChar p.target s.memory.flag))

  -- ---- full expressions that are done

  module _ (openings : List ℕ) (s : State) (h : IsStateOf p openings s) (a : Active) (below : List Active) (top : s.stack ≡ a ∷ below) (st : Stmt) (rest : List Stmt) (here : a.here.rest ≡ st ∷ rest) where
    abbrev act : IsActive p openings a
    act = (all openings s h a below top).0

    abbrev fn : Func
    fn = act.func

    is_worked : expression_of a ≡ worked (out-Stmt st) a.here.phase
    is_worked = ap (worked_at a.here) here

    statement : sound_step p fn (parts p fn (out-Stmt st)) (may_break a.around) (may_continue a.around) ≡ true
    statement =
        let first = both_true (is_sound_stmt p fn st (may_break a.around) (may_continue a.around)) (list_all (λ s. is_sound_stmt p fn s (may_break a.around) (may_continue a.around)) rest)
        (ap (λ (l : List Stmt). list_all (λ s. is_sound_stmt p fn s (may_break a.around) (may_continue a.around)) l) (sym here) ∙ act.control.0) in
        statement_sound p fn st (may_break a.around) (may_continue a.around) first.0

    -- the value of what is returned
    value_by : (to x : Option ValueType) (v : Value) → is_assignable_some to x ≡ true → ((t : ValueType) → x ≡ Some t → HasType p openings t v) → (w : ValueType) × (to ≡ Some w) × HasType p openings w v
    value_by None x v e k = absurd (cc)
    value_by (Some to) None v e k = absurd (cc)
    value_by (Some to) (Some t) v e k = (to, refl, widened p openings to t v e (k t refl))

    value_typed : (e : Expr) (t : ValueType) (v : Value) (ms : List Mark) → expression_of a ≡ Some e → type_of p fn.locals e ≡ Some t → progress_of p a (Some e) ≡ Known (Some v) ms → HasType p openings t v
    value_typed e t v ms x k w =
        ((meaning_typed (context_in p a fn) openings (record { function = act.function; number = act.number }) e (expression_takes fn a e act.inside x) t (type_linked (context_in p a fn) e ∙ k) no_one).known a.marks ms (Some v)
        (answers_of (IsMarkOf p openings) (next_of (context_in p a fn) e) a.marks (subst (λ (y : Option Expr). AreMarks (context_in p a fn) openings y a.marks) x act.marks)) (ap (λ (y : Option Func). progress_in p a.number a.func a.marks y (Some e)) (sym act.function) ∙ w)).1

    returned_results : (x : Option Expr) (v : Value) (ms : List Mark) → returns p fn x ≡ true → expression_of a ≡ x → progress_of p a x ≡ Known (Some v) ms → Results openings s h a below top v
    returned_results None v ms r x w e = not_void (is_void (out-Sig fn.sig).result) r e
    returned_results (Some e') v ms r x w e = value_by (scalar_value (out-Sig fn.sig).result) (typed p fn e') v r (λ t k. value_typed e' t v ms x k w)

    done_by : (x : is.Stmt-F Stmt Case) (v : Value) (ms : List Mark) (b : Bool) → is_return x ≡ b → out-Stmt st ≡ x → progress_of p a (worked x a.here.phase) ≡ Known (Some v) ms →
        IsState p (if b then returned p s a below v else with_stack s (goes_to p a (next_place x a v) ∷ below))
    done_by x v ms false r e w = (
      openings,
      with_top p openings s h a (goes_to p a (next_place x a v)) below top
          (goes_active p openings a act (next_place x a v) ((subst (λ y. AreSound p fn ((next_place y a v).0 ∷ (next_place y a v).1)) e (next_sound p fn a st rest here act.control v)), subst (λ y. AreInside fn.body ((next_place y a v).0 ∷ (next_place y a v).1)) e (next_inside fn.body p fn a st rest here act.control act.inside v))) (gone p a (next_place x a v)),
    )
    done_by (is.Return e') v ms true r e w =
        returned_state openings s h a below top v (returned_results e' v ms (ap (λ y. sound_step p fn (parts p fn y) (may_break a.around) (may_continue a.around)) (sym e) ∙ statement) (is_worked ∙ ap (λ y. worked y a.here.phase) e) w)
    done_by (is.Do e') v ms true r e w = absurd (cc)
    done_by (is.If e' these those) v ms true r e w = absurd (cc)
    done_by (is.While e' body) v ms true r e w = absurd (cc)
    done_by (is.DoWhile body e') v ms true r e w = absurd (cc)
    done_by (is.For first test again body) v ms true r e w = absurd (cc)
    done_by (is.Switch e' cases) v ms true r e w = absurd (cc)
    done_by is.Break v ms true r e w = absurd (cc)
    done_by is.Continue v ms true r e w = absurd (cc)
    done_by is.Empty v ms true r e w = absurd (cc)
    done_by (is.Block body) v ms true r e w = absurd (cc)

    stepped_state : (q : Progress (Option Value)) → progress_of p a (worked (out-Stmt st) a.here.phase) ≡ q → IsState p (stepped p (out-Stmt st) s a below q)
    stepped_state (Waits action) w =
        let asks = ap (progress_of p a) is_worked ∙ w in
        perform_state openings s h a below top action asks (asked p openings a act action asks)
    stepped_state (Traps ms) w = (openings, stopped_state p openings s Trap refl h)
    stepped_state (Known None ms) w = (openings, stopped_state p openings s Trap refl h)
    stepped_state (Known (Some v) ms) w = done_by (out-Stmt st) v ms (is_return (out-Stmt st)) refl refl w

    -- ---- what is switched on, and what the first activation gives, are integers

    switched_by : (labels : List (Option ℤ)) (e : Expr) (x : Option ValueType) (v : Value) → labels_fit p.target labels x ≡ true → ((t : ValueType) → x ≡ Some t → HasType p openings t v) → (n : ℤ) × (v ≡ Int n)
    switched_by labels e None v l k = absurd (cc)
    switched_by labels e (Some NoValue) v l k = absurd (cc)
    switched_by labels e (Some (Integer t)) v l k = let n = integer_value p openings t v (k (Integer t) refl) in (n.0, n.1)
    switched_by labels e (Some (ToObject constant volatile to)) v l k = absurd (cc)
    switched_by labels e (Some (ToFunction sig)) v l k = absurd (cc)

    pub switched_integer : (e : Expr) (cases : List Case) (v : Value) (ms : List Mark) → out-Stmt st ≡ is.Switch e cases → progress_of p a (Some e) ≡ Known (Some v) ms → (n : ℤ) × (v ≡ Int n)
    switched_integer e cases v ms x w =
        let step : sound_step p fn (parts p fn (is.Switch e cases)) (may_break a.around) (may_continue a.around) ≡ true = ap (λ y. sound_step p fn (parts p fn y) (may_break a.around) (may_continue a.around)) (sym x) ∙ statement in
        switched_by (flat_map (λ (l : Labelled). l.labels) (map (labelled p fn) cases)) e (typed p fn e) v
        (both_true (labels_fit p.target (flat_map (λ (l : Labelled). l.labels) (map (labelled p fn) cases)) (typed p fn e))
        (are_apart (flat_map (λ (l : Labelled). l.labels) (map (labelled p fn) cases)) && (list_all (λ (l : Labelled). has_label l.labels) (map (labelled p fn) cases) && list_all (λ (l : Labelled). l.body true (may_continue a.around)) (map (labelled p fn) cases))) step).0
        (λ t k. value_typed e t v ms (is_worked ∙ ap (λ y. worked y a.here.phase) x) k w)

    exit_by : (b : Bool) → is_void (out-Sig fn.sig).result ≡ b → (e : Expr) (v : Value) → returns p fn (Some e) ≡ true → Results openings s h a below top v → a.func ≡ p.main → (n : ℤ) × (v ≡ Int n)
    exit_by true k e v r i m = absurd (void_returns (out-Shape (out-Sig fn.sig).result.shape) (typed p fn e) k r)
    exit_by false k e v r i m =
        let there : slice_get p.funcs p.main ≡ Some fn = ap (slice_get p.funcs) (sym m) ∙ act.function in
        let x = i k in
        let same : x.0 ≡ Integer int.Int = same_Some x.0 (Integer int.Int) (sym x.1 ∙ main_result fn (function_sound a.func fn act.function) (main_there (slice_get p.funcs p.main) fn there sound.main) k) in
        let n = integer_value p openings int.Int v (subst (λ (t : ValueType). HasType p openings t v) same x.2) in
        (n.0, n.1)

    pub exit_integer : (e : Expr) (v : Value) (ms : List Mark) → below ≡ [] → out-Stmt st ≡ is.Return (Some e) → progress_of p a (Some e) ≡ Known (Some v) ms → (n : ℤ) × (v ≡ Int n)
    exit_integer e v ms b x w =
        let r : returns p fn (Some e) ≡ true = ap (λ y. sound_step p fn (parts p fn y) (may_break a.around) (may_continue a.around)) (sym x) ∙ statement in
        exit_by (is_void (out-Sig fn.sig).result) refl e v r (returned_results (Some e) v ms r (is_worked ∙ ap (λ y. worked y a.here.phase) x) w)
        (subst (λ (l : List Active). AreCalled p (a ∷ l)) b (calls openings s h a below top)).0

  -- ---- turns

  active_state : (openings : List ℕ) (s : State) (h : IsStateOf p openings s) (a : Active) (below : List Active) (top : s.stack ≡ a ∷ below) (list : List Stmt) → a.here.rest ≡ list → IsState p (active_step p list s a below)
  active_state openings s h a below top [] e = fallen_state openings s h a below top
  active_state openings s h a below top (st ∷ rest) e = stepped_state openings s h a below top st rest e (progress_of p a (worked (out-Stmt st) a.here.phase)) refl

  restacked : (openings : List ℕ) (s : State) → IsStateOf p openings s → (a : Active) (below : List Active) → s.stack ≡ a ∷ below → IsStateOf p openings (with_stack s (a ∷ below))
  restacked openings s h a below top = record {
    count = h.count;
    statics = h.statics;
    stack = subst (AreActive p openings) top h.stack;
    called = subst (AreCalled p) top h.called;
    order = subst AreInOrder top h.order;
    running = λ g. (a, below, refl);
  }

  proceeded : (s : State) → IsState p s → is_going s.end ≡ true → IsState p (proceed p s s.stack)
  proceeded s h g =
      let run = h.1.running g in
      subst (λ (stack : List Active). IsState p (proceed p s stack)) (sym run.2)
      (active_state h.0 (with_stack s (run.0 ∷ run.1)) (restacked h.0 s h.1 run.0 run.1 run.2) run.0 run.1 refl run.0.here.rest refl)

  goes_on : (s : State) → IsState p s → (b : Bool) → is_going s.end ≡ b → IsState p (if b then proceed p s s.stack else s)
  goes_on s h true e = proceeded s h e
  goes_on s h false e = h

  -- a handler takes nothing
  handler_empty : (f : Func) → IsFuncBy p any_names f → is_handler f ≡ true → (b : Bool) → is_main f ≡ b → takes_nothing f ≡ true
  handler_empty f k e true m =
      let form = ap (λ (b : Bool). if b then not (is_handler f) && (takes_nothing f && (is_plain_int (out-Sig f.sig).result || is_plain_void (out-Sig f.sig).result)) else (if is_handler f then takes_nothing f && is_plain_void (out-Sig f.sig).result else true)) (sym m) ∙ k.form in
      both_not (is_handler f) (takes_nothing f && (is_plain_int (out-Sig f.sig).result || is_plain_void (out-Sig f.sig).result)) form e
  handler_empty f k e false m =
      let form = ap (λ (b : Bool). if b then not (is_handler f) && (takes_nothing f && (is_plain_int (out-Sig f.sig).result || is_plain_void (out-Sig f.sig).result)) else (if is_handler f then takes_nothing f && is_plain_void (out-Sig f.sig).result else true)) (sym m) ∙ k.form in
      (both_true (takes_nothing f) (is_plain_void (out-Sig f.sig).result) (ap (λ (b : Bool). if b then takes_nothing f && is_plain_void (out-Sig f.sig).result else true) (sym e) ∙ form)).0

  pub no_arguments : (openings : List ℕ) (params : List CType) → (nat_eq (length params) 0) ≡ true → AreArguments p openings params []
  no_arguments openings [] h = tt
  no_arguments openings (t ∷ ts) h = absurd (not_empty (length ts) h)

  entered_state : (s : State) → IsState p s → is_going s.end ≡ true → (id : ℕ) (f : Func) → slice_get p.funcs id ≡ Some f → is_handler f ≡ true → IsState p (entered p s (id, f))
  entered_state s h g id f e k =
      let run = h.1.running g in
      let t : State = with_event true (with_flag s false) (Enter id) in (
        h.0 ++ id ∷ [],
        opened_state h.0 t (event_state p h.0 true (with_flag s false) (Enter id) (flag_state p h.0 s false h.1)) id true [] f e (λ entered. k)
            (no_arguments h.0 (out-Sig f.sig).params (handler_empty f (function_sound id f e) k (is_main f) refl))
            (subst (λ (stack : List Active). AreCalled p (activation p s.opened id true [] f ∷ stack)) (sym run.2) ((λ n. absurd (cc)), subst (AreCalled p) run.2 h.1.called)),
      )

  handler_there : (x : Option Func) (id : ℕ) (e : ℕ × Func) → option_map (λ f. (id, f)) (only_handler x) ≡ Some e → (x ≡ Some e.1) × (is_handler e.1 ≡ true) × (id ≡ e.0)
  handler_there None id e h = absurd (cc)
  handler_there (Some f) id e h = handler_by f id e (is_handler f) refl h

  enters_by : (s : State) (id : ℕ) (e : ℕ × Func) (b : Bool) → is_going s.end && may_enter p s id ≡ b → (if b then option_map (λ f. (id, f)) (only_handler (slice_get p.funcs id)) else None) ≡ Some e →
      (is_going s.end ≡ true) × (slice_get p.funcs e.0 ≡ Some e.1) × (is_handler e.1 ≡ true)
  enters_by s id e true g h =
      let there = handler_there (slice_get p.funcs id) id e h in
      ((both_true (is_going s.end) (may_enter p s id) g).0, ap (slice_get p.funcs) (sym there.2) ∙ there.0, there.1)
  enters_by s id e false g h = absurd (cc)

  who_enters : (s : State) (arrival : Option ℕ) (e : ℕ × Func) → entering p s arrival ≡ Some e → (is_going s.end ≡ true) × (slice_get p.funcs e.0 ≡ Some e.1) × (is_handler e.1 ≡ true)
  who_enters s None e h = absurd (cc)
  who_enters s (Some id) e h = enters_by s id e (is_going s.end && may_enter p s id) refl h

  turn_by_state : (s : State) → IsState p s → (x : Option (ℕ × Func)) → ((e : ℕ × Func) → x ≡ Some e → (is_going s.end ≡ true) × (slice_get p.funcs e.0 ≡ Some e.1) × (is_handler e.1 ≡ true)) → IsState p (turn_by p s x)
  turn_by_state s h None k = goes_on s h (is_going s.end) refl
  turn_by_state s h (Some e) k = let enters = k e refl in entered_state s h enters.0 e.0 e.1 enters.1 enters.2

  pub turn_state : (s : State) → IsState p s → (arrival : Option ℕ) → IsState p (turn p s arrival)
  turn_state s h arrival = turn_by_state s h (entering p s arrival) (λ e k. who_enters s arrival e k)
