-- In a state of a typed program what an activation gives at its end is of its function's type, so the return leaves a mark of the call.
use Rattle.std.proofs.Common.{◌≡◌, ◌⊎◌, inl, inr, ℕ, Bool, true, false, not, ◌&&◌, ◌||◌, List, [], ◌∷◌, Option, Some, None, refl, ap, sym, ◌∙◌, subst, if◌then◌else◌}
use Rattle.std.proofs.lemmas.Bool.{eqb-true}
use Rattle.std.specs.List.{list_all}
use Rattle.std.specs.Prelude.{slice_get, ◌==◌}
use Rattle.cc_program.specs.CcNum.declared.int_type.IntType.TheVariants as int
use Rattle.cc_states.specs.CcEval.declared.action.Action.TheVariants.{Call}
use Rattle.cc_states.specs.CcEval.declared.mark.Mark.{Mark}
use Rattle.cc_states.specs.CcEval.declared.mark.Mark.TheVariants.{Gave, Did}
use Rattle.cc_states.specs.CcEval.Eval.{next_of}
use Rattle.cc_states.specs.CcEval.Progress.{Progress, Known, Waits, Traps, no_value}
use Rattle.cc_states.proofs.CcEval.Links.{type_linked}
use Rattle.cc_states.proofs.CcEval.Works.{answers_of}
use Rattle.cc_program.specs.declared.expr.Expr.{Expr}
use Rattle.cc_program.specs.declared.func.Func.{Func}
use Rattle.cc_program.specs.declared.program.Program.{Program}
use Rattle.cc_program.specs.declared.stmt.Case.{Case}
use Rattle.cc_program.specs.declared.stmt.Stmt.{Stmt, out-Stmt}
use Rattle.cc_program.specs.declared.stmt.Stmt.TheOpen as is
use Rattle.cc_program.specs.declared.types.CType.{CType}
use Rattle.cc_program.specs.declared.types.Sig.{out-Sig}
use Rattle.cc_program.specs.declared.value.Address.TheVariants as address
use Rattle.cc_program.specs.declared.value.Value.{Value}
use Rattle.cc_states.specs.CcSteps.State.{Active}
use Rattle.cc_states.specs.CcSteps.Step.{worked, is_return, gives_nothing, progress_in, progress_of, return_mark}
use Rattle.cc_states.specs.Answers.{IsMarkOf, result_in}
use Rattle.cc_states.specs.States.{may_break, may_continue, worked_at, expression_of, AreMarks, context_in, IsActive}
use Rattle.cc_states.specs.Typed.{HasType}
use Rattle.cc_states.proofs.AddressLemmas.{expression_takes}
use Rattle.cc_states.proofs.ControlLemmas.{statement_sound}
use Rattle.cc_states.proofs.EvalTypes.{meaning_typed}
use Rattle.cc_states.proofs.Options.{either_true}
use Rattle.cc_states.proofs.SoundLemmas.{typed, parts}
use Rattle.cc_states.proofs.TestLemmas.{not_void, plain}
use Rattle.cc_states.proofs.TurnLemmas.{function_sound, main_there}
use Rattle.cc_states.proofs.TypedLemmas.{promoted_value, widened}
use Rattle.cc_states.specs.CcSyntax.Effects.{no_one}
use Rattle.cc_states.specs.CcSyntax.Operators.{is_handler}
use Rattle.cc_states.specs.CcSyntax.Programs.{type_of, is_sound_stmt, returns, sound_step}
use Rattle.cc_states.specs.CcSyntax.Sound.{any_names, IsFuncBy, IsTypedProgram, is_main, is_plain_int, is_plain_void, takes_nothing}
use Rattle.cc_states.specs.CcSyntax.Values.{ValueType, Integer, is_assignable_some, is_void, scalar_value}
use Rattle.cc_states.proofs.CcSyntax.Prefixes.{both_true}
use Rattle.cc_meaning_simulations.specs.LocalSimulations.{IsResult}
use Rattle.cc_meaning_simulations.specs.Transitions.{ControlState, Transition, Jumps, Returns, control_state, transition_at, transition_in}
use Rattle.cc_lower_expressions_follows.proofs.WholeMarks.{ReturnsFit}
use Rattle.cc_lower_expressions_follows.proofs.WholePrograms.{SameRegisters}

module _ (p : Program) (sound : IsTypedProgram p) (openings : List ℕ) (a : Active) (act : IsActive p openings a) where
  abbrev f : Func
  f = act.func

  abbrev result : CType
  result = (out-Sig f.sig).result

  -- the value that the function gives, if it gives any
  abbrev Results : Value → Type 0
  Results v = is_void result ≡ false → (w : ValueType) × (scalar_value result ≡ Some w) × HasType p openings w v

  mark_by : (args : List Value) (v : Value) (b : Bool) → is_void result ≡ b → Results v → IsMarkOf p openings (Call (address.Func a.func) args) (if b then Did else Gave (Some v))
  mark_by args v true e r = ap result_in act.function ∙ rw e refl
  mark_by args v false e r = let x = r e in (x.0, ap result_in act.function ∙ (rw e x.1), x.2)

  mark_of : (args : List Value) (v : Value) → Results v → IsMarkOf p openings (Call (address.Func a.func) args) (return_mark p a.func v)
  mark_of args v r =
      subst (λ (b : Bool). IsMarkOf p openings (Call (address.Func a.func) args) (if b then Did else Gave (Some v))) (sym (ap gives_nothing act.function)) (mark_by args v (is_void result) refl r)

  -- ---- where it falls off its end

  -- main gives an int, where it gives anything
  main_result : (g : Func) → IsFuncBy p any_names g → is_main g ≡ true → is_void (out-Sig g.sig).result ≡ false → scalar_value (out-Sig g.sig).result ≡ Some (Integer int.Int)
  main_result g k m e =
      let form : not (is_handler g) && (takes_nothing g && (is_plain_int (out-Sig g.sig).result || is_plain_void (out-Sig g.sig).result)) ≡ true =
      ap (λ (b : Bool). if b then not (is_handler g) && (takes_nothing g && (is_plain_int (out-Sig g.sig).result || is_plain_void (out-Sig g.sig).result)) else (if is_handler g then takes_nothing g && is_plain_void (out-Sig g.sig).result else true)) (sym m) ∙ k.form in
      let kinds = both_true (takes_nothing g) (is_plain_int (out-Sig g.sig).result || is_plain_void (out-Sig g.sig).result) (both_true (not (is_handler g)) (takes_nothing g && (is_plain_int (out-Sig g.sig).result || is_plain_void (out-Sig g.sig).result)) form).1 in
      plain (out-Sig g.sig).result e (either_true (is_plain_int (out-Sig g.sig).result) (is_plain_void (out-Sig g.sig).result) kinds.1)

  fallen_results : (gives_nothing (slice_get p.funcs a.func) ≡ true) ⊎ ((a.func == p.main) ≡ true) → Results no_value
  fallen_results (inl g) e = not_void (is_void result) (ap gives_nothing (sym act.function) ∙ g) e
  fallen_results (inr g) e =
      let there : slice_get p.funcs p.main ≡ Some f = ap (slice_get p.funcs) (sym (eqb-true a.func p.main g)) ∙ act.function in
      (Integer int.Int, main_result f (function_sound p sound a.func f act.function) (main_there p sound (slice_get p.funcs p.main) f there sound.main) e, promoted_value int.Int p.target false)

  -- ---- where it returns

  module _ (st : Stmt) (rest : List Stmt) (here : a.here.rest ≡ st ∷ rest) where
    is_worked : expression_of a ≡ worked (out-Stmt st) a.here.phase
    is_worked = ap (worked_at a.here) here

    statement : sound_step p f (parts p f (out-Stmt st)) (may_break a.around) (may_continue a.around) ≡ true
    statement =
        let first = both_true (is_sound_stmt p f st (may_break a.around) (may_continue a.around)) (list_all (λ s. is_sound_stmt p f s (may_break a.around) (may_continue a.around)) rest)
        (ap (λ (l : List Stmt). list_all (λ s. is_sound_stmt p f s (may_break a.around) (may_continue a.around)) l) (sym here) ∙ act.control.0) in
        statement_sound p f st (may_break a.around) (may_continue a.around) first.0

    value_by : (to x : Option ValueType) (v : Value) → is_assignable_some to x ≡ true → ((t : ValueType) → x ≡ Some t → HasType p openings t v) → (w : ValueType) × (to ≡ Some w) × HasType p openings w v
    value_by None x v e k = absurd (cc)
    value_by (Some to) None v e k = absurd (cc)
    value_by (Some to) (Some t) v e k = (to, refl, widened p openings to t v e (k t refl))

    value_typed : (e : Expr) (t : ValueType) (v : Value) (ms : List Mark) → expression_of a ≡ Some e → type_of p f.locals e ≡ Some t → progress_of p a (Some e) ≡ Known (Some v) ms → HasType p openings t v
    value_typed e t v ms x k w =
        ((meaning_typed (context_in p a f) openings (record { function = act.function; number = act.number }) e (expression_takes f a e act.inside x) t (type_linked (context_in p a f) e ∙ k) no_one).known a.marks ms (Some v)
        (answers_of (IsMarkOf p openings) (next_of (context_in p a f) e) a.marks (subst (λ (y : Option Expr). AreMarks (context_in p a f) openings y a.marks) x act.marks)) (ap (λ (y : Option Func). progress_in p a.number a.func a.marks y (Some e)) (sym act.function) ∙ w)).1

    returned_results : (x : Option Expr) (v : Value) (ms : List Mark) → returns p f x ≡ true → expression_of a ≡ x → progress_of p a x ≡ Known (Some v) ms → Results v
    returned_results None v ms r x w e = not_void (is_void result) r e
    returned_results (Some e') v ms r x w e = value_by (scalar_value result) (typed p f e') v r (λ t k. value_typed e' t v ms x k w)

    by_statement : (x : is.Stmt-F Stmt Case) (v : Value) (ms : List Mark) → is_return x ≡ true → out-Stmt st ≡ x → progress_of p a (worked x a.here.phase) ≡ Known (Some v) ms → Results v
    by_statement (is.Return e') v ms r e w =
        returned_results e' v ms (ap (λ y. sound_step p f (parts p f y) (may_break a.around) (may_continue a.around)) (sym e) ∙ statement) (is_worked ∙ ap (λ y. worked y a.here.phase) e) w
    by_statement (is.Do e') v ms r e w = absurd (cc)
    by_statement (is.If e' these those) v ms r e w = absurd (cc)
    by_statement (is.While e' body) v ms r e w = absurd (cc)
    by_statement (is.DoWhile body e') v ms r e w = absurd (cc)
    by_statement (is.For first test again body) v ms r e w = absurd (cc)
    by_statement (is.Switch e' cases) v ms r e w = absurd (cc)
    by_statement is.Break v ms r e w = absurd (cc)
    by_statement is.Continue v ms r e w = absurd (cc)
    by_statement is.Empty v ms r e w = absurd (cc)
    by_statement (is.Block body) v ms r e w = absurd (cc)

  -- ---- by its transition

  abbrev returning : Value → Transition
  returning v = Returns v

  same_returned : (u v : Value) → returning u ≡ returning v → u ≡ v
  same_returned u v e = cc

  return_by : (b : Bool) (u v : Value) (c : ControlState) → (if b then Returns u else Jumps c) ≡ Returns v → (b ≡ true) × (u ≡ v)
  return_by true u v c e = (refl, same_returned u v e)
  return_by false u v c e = absurd (cc)

  by_progress : (st : Stmt) (rest : List Stmt) → a.here.rest ≡ st ∷ rest → (v : Value) (q : Progress (Option Value)) → progress_of p a (worked (out-Stmt st) a.here.phase) ≡ q → transition_in p (out-Stmt st) (control_state a) q ≡ Returns v → Results v
  by_progress st rest here v (Waits action) w e = absurd (cc)
  by_progress st rest here v (Traps ms) w e = absurd (cc)
  by_progress st rest here v (Known None ms) w e = absurd (cc)
  by_progress st rest here v (Known (Some u) ms) w e =
      let k = return_by (is_return (out-Stmt st)) u v _ e in
      subst Results k.1 (by_statement st rest here (out-Stmt st) u ms k.0 refl w)

  by_list : (l : List Stmt) → a.here.rest ≡ l → (v : Value) → transition_at p l (control_state a) ≡ Returns v → Results v
  by_list [] here v e = absurd (cc)
  by_list (st ∷ rest) here v e = by_progress st rest here v (progress_of p a (worked (out-Stmt st) a.here.phase)) refl e

  results : (v : Value) → IsResult p a v → Results v
  results v (inl e) = by_list a.here.rest refl v e
  results v (inr h) = subst Results (sym h.1) (fallen_results (either_true (gives_nothing (slice_get p.funcs a.func)) (a.func == p.main) h.2))

  pub returns_mark : (args : List Value) (v : Value) → IsResult p a v → IsMarkOf p openings (Call (address.Func a.func) args) (return_mark p a.func v)
  returns_mark args v h = mark_of args v (results v h)

pub returns_fit : (P : Program) (sound : IsTypedProgram P) (same : SameRegisters P) → ReturnsFit P sound same
returns_fit P sound same openings m a b rest opened h called v result args = returns_mark P sound openings a h.stack.0 args v result
