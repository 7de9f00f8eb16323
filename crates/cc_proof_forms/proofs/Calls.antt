-- Calls, of functions by name or by pointer, whose result is assigned to a register or is not used.
use Rattle.std.proofs.Common.{◌≡◌, ◌⊎◌, inl, inr, ℕ, suc, Bool, true, false, List, [], ◌∷◌, map, Option, Some, None, refl, ap, sym, ◌∙◌, subst, slice_get}
use Rattle.std.specs.Prelude.{if◌then◌else◌}
use Rattle.cc_flow_sound.proofs.CcEval.MeaningUses.{meaning_uses}
use Rattle.cc_flow_sound.proofs.CcEval.Opened.{meaning_at}
use Rattle.cc_flow_sound.proofs.CcEval.Uses.{uses_known, uses_bind}
use Rattle.cc_flow_sound.proofs.CcEval.Works.{works_known, works_ask, works_bind, works_needs}
use Rattle.cc_flow_sound.specs.CcEval.Context.{Context}
use Rattle.cc_flow_sound.specs.CcEval.declared.action.Action.TheVariants.{Call}
use Rattle.cc_flow_sound.specs.CcEval.declared.action.Action.{Action}
use Rattle.cc_flow_sound.specs.CcEval.declared.mark.Mark.TheVariants.{Gave, Did}
use Rattle.cc_flow_sound.specs.CcEval.declared.mark.Mark.{Mark}
use Rattle.cc_flow_sound.specs.CcEval.Eval.{Meaning, meaning, designation, each, assigned_by, all_good}
use Rattle.cc_flow_sound.specs.CcEval.Marks.{UsesFirst, Works}
use Rattle.cc_flow_sound.specs.CcEval.Progress.{Progress, Known, Waits, Traps, Get, known, ask, and_then, bind, needs, given, no_value}
use Rattle.cc_program.specs.declared.expr.Expr.TheOpen as one
use Rattle.cc_program.specs.declared.expr.Expr.{Expr, out-Expr}
use Rattle.cc_program.specs.declared.expr.Place.{Place as PlaceOf}
use Rattle.cc_program.specs.declared.func.Func.{Func}
use Rattle.cc_program.specs.declared.program.Program.{Program}
use Rattle.cc_program.specs.declared.stmt.Stmt.TheOpen as is
use Rattle.cc_program.specs.declared.stmt.Stmt.{out-Stmt}
use Rattle.cc_program.specs.declared.value.Address.TheVariants as address
use Rattle.cc_program.specs.declared.value.Address.{Address}
use Rattle.cc_program.specs.declared.value.Value.TheVariants.{Int, Place}
use Rattle.cc_program.specs.declared.value.Value.{Value}
use Rattle.cc_proof_covers.specs.Operands.{IsOperandStep}
use Rattle.cc_proof_covers.proofs.Statements.{AtStatement}
use Rattle.cc_proof_covers.specs.Invariant.{IsPending, IsCurrent, AreCurrent, Resumes}
use Rattle.cc_proof_covers.specs.Pending.{is_given}
use Rattle.cc_proof_covers.specs.Rules.{GoesOn, Allowed, AllowedCall}
use Rattle.cc_proof_covers.specs.Views.{View}
use Rattle.cc_proof_forms.proofs.Arguments.{AreArguments, AreGood, good_arguments, good_at, argument_of}
use Rattle.cc_proof_forms.proofs.Assignments.{operands}
use Rattle.cc_proof_forms.proofs.FullSteps.{next, operand_step, not_known, step_allowed}
use Rattle.cc_proof_forms.proofs.LastStep.{IsOneStep}
use Rattle.cc_proof_forms.proofs.Places.{register_allowed}
use Rattle.cc_proof_forms.specs.Sets.{Good}
use Rattle.cc_proof_forms.proofs.Results.{is_pending}
use Rattle.cc_proof_forms.specs.CallRules.{CallRule}
use Rattle.cc_flow_sound.specs.CcStates.States.{expression_of, context_in}
use Rattle.cc_flow_sound.specs.CcSteps.State.{Active, Memory}
use Rattle.cc_flow_sound.specs.CcSteps.Step.{gives_nothing, return_mark, with_mark, progress_of}
use Rattle.cc_flow_sound.specs.CcSyntax.Effects.{Registers, no_one, also}
use Rattle.cc_flow_sound.specs.CcSyntax.Forms.{form_of, form_at}
use Rattle.cc_flow_sound.specs.CcSyntax.Values.{PlaceType}
use Rattle.cc_flow_sound.specs.CcValues.Values.{address_in}

-- what is worked one behind the other, as a pair
second_grouped : {A B C : Type 0} (k : A × B → Get C) (w : A) (q : Progress B) → and_then q (λ u. k (w, u)) ≡ and_then (and_then q (λ u. known (w, u))) k
second_grouped k w (Known u ms) = refl
second_grouped k w (Waits action) = refl
second_grouped k w (Traps ms) = refl

first_grouped : {A B C : Type 0} (h : Get B) (k : A × B → Get C) (q : Progress A) → and_then q (λ w. bind h (λ u. k (w, u))) ≡ and_then (and_then q (λ w. bind h (λ u. known (w, u)))) k
first_grouped h k (Known w ms) = second_grouped k w (h ms)
first_grouped h k (Waits action) = refl
first_grouped h k (Traps ms) = refl

abbrev Called : Type 0
Called = Option Value × List (Option Value)

-- the call itself
abbrev call_last : Called → Get (Option Value)
call_last q = needs (address_in q.0) (λ callee. needs (all_good q.1) (λ good. ask (Call callee good) given))

one_call : (o : Option Address) (g : Option (List Value)) → IsOneStep (needs o (λ callee. needs g (λ good. ask (Call callee good) given)))
one_call None g = inl (λ ms. refl)
one_call (Some callee) None = inl (λ ms. refl)
one_call (Some callee) (Some good) = inr (Call callee good, given, λ ms. refl)

traps_waits : (q : Progress (Option Value)) (ms : List Mark) (x : Action) → q ≡ Traps ms → q ≡ Waits x → ⊥
traps_waits q ms x h e = cc

waits_both : (q : Progress (Option Value)) (x y : Action) → q ≡ Waits x → q ≡ Waits y → x ≡ y
waits_both q x y h e = cc

known_both : (x y : Option Value) (ms ns : List Mark) → Known x ms ≡ Known y ns → x ≡ y
known_both x y ms ns e = cc

pub record IsCall (o : Option Address) (g : Option (List Value)) (action : Action) (result : Mark → Option Value) : Type 0 where
  pub callee : Address
  pub good : List Value
  pub there : o ≡ Some callee
  pub all : g ≡ Some good
  pub is : action ≡ Call callee good
  pub gives : (mark : Mark) → result mark ≡ given mark

call_of : (o : Option Address) (g : Option (List Value)) (action : Action) (result : Mark → Option Value) → ((ns : List Mark) → needs o (λ callee. needs g (λ good. ask (Call callee good) given)) ns ≡ ask action result ns) → IsCall o g action result
call_of None g action result h = absurd (traps_waits (Traps []) [] action refl (h []))
call_of (Some callee) None action result h = absurd (traps_waits (Traps []) [] action refl (h []))
call_of (Some callee) (Some good) action result h = record {
  callee = callee;
  good = good;
  there = refl;
  all = refl;
  is = sym (waits_both (Waits (Call callee good)) (Call callee good) action refl (h []));
  gives = λ mark. sym (known_both (given mark) (result mark) [] [] (h (mark ∷ [])));
}

-- the address that a value is
address_of_value : (w : Option Value) (callee : Address) → address_in w ≡ Some callee → w ≡ Some (Place callee)
address_of_value None callee e = absurd (cc)
address_of_value (Some (Int n)) callee e = absurd (cc)
address_of_value (Some (Place b)) callee e = let same : b ≡ callee = cc in ap (λ (z : Address). Some (Place z)) same

-- what a return gives, it gives to the caller
returned_some : (b : Bool) (w : Value) → (y : Value) × (given (if b then Did else Gave (Some w)) ≡ Some y)
returned_some true w = (no_value, refl)
returned_some false w = (w, refl)

module _ (p : Program) (v : View) (m : Memory) (a : Active) (f : Func) (n : ℕ) where
  abbrev c : Context
  c = context_in p a f

  abbrev IsMark : Action → Mark → Type 0
  IsMark = IsCurrent p v m a f n

  abbrev IsOperandStep' : Action → Type 0
  IsOperandStep' = IsOperandStep c

  abbrev pub CallRules : ℕ → (Value → Type 0) → (ℕ → Value → Type 0) → Option ℕ → Type 0
  CallRules k callee val result = (g : ℕ) (function : Func) → slice_get p.funcs g ≡ Some function → callee (Place (address.Func g)) → CallRule p v a.func f n k val g function result

  call_allowed : (k : ℕ) (callee : Value → Type 0) (val : ℕ → Value → Type 0) (result : Option ℕ) → CallRules k callee val result → ((g : ℕ) (w : Value) → Resumes p v f a k result (return_mark p g w)) → (to : Address) (good : List Value) → callee (Place to) → AreGood val good →
      AllowedCall p v m a f n to good
  call_allowed k callee val result rules resumes address.Null good h are = tt
  call_allowed k callee val result rules resumes (address.At object path index count) good h are = tt
  call_allowed k callee val result rules resumes (address.Func g) good h are = λ function there.
      (let t = rules g function there h in
      record {
        awaits = record { function = function; there = there; next = k; result = result; back = t.back; gives = t.gives; resumes = resumes g };
        opens = t.opens;
        by_main = t.by_main;
        by_handler = t.by_handler;
        from = t.from;
        levels = t.levels;
        registers = λ i w register o. t.registers i w register (good_at val good i w are (argument_of p good function.locals i 0 w o).1);
        others = λ i q w other o.
            (let o' = argument_of p good function.locals i q w o in
            subst (λ (z : ℕ). v.local_at g i z w) (sym o'.0) (t.others i w other (good_at val good i w are o'.1)));
      })

  -- ---- the operands of a call: what is called, and the arguments

  module _ (x : Expr) (fe : Expr) (args : List Expr) (calls : out-Expr x ≡ one.Call fe args) where
    abbrev margs : List Meaning
    margs = map (meaning c) args

    abbrev call_operands : Registers → Get Called
    call_operands later = bind ((meaning c fe).next (also (assigned_by margs) later)) (λ w. bind (each margs later) (λ ws. known (w, ws)))

    call_is : (later : Registers) (ms : List Mark) → (meaning c x).next later ms ≡ bind (call_operands later) call_last ms
    call_is later ms =
        ap (λ (z : Meaning). z.next later ms) (meaning_at c x (one.Call fe args) calls)
        ∙ first_grouped (each margs later) call_last ((meaning c fe).next (also (assigned_by margs) later) ms)

    each_uses : (list : List Expr) (later : Registers) → UsesFirst (each (map (meaning c) list) later)
    each_uses [] later = uses_known []
    each_uses (y ∷ list) later =
        uses_bind ((meaning c y).next (also (assigned_by (map (meaning c) list)) later)) (λ w. bind (each (map (meaning c) list) later) (λ ws. known (w ∷ ws))) (meaning_uses c y (also (assigned_by (map (meaning c) list)) later))
        (λ w. uses_bind (each (map (meaning c) list) later) (λ ws. known (w ∷ ws)) (each_uses list later) (λ ws. uses_known (w ∷ ws)))

    call_uses : (later : Registers) → UsesFirst (call_operands later)
    call_uses later =
        uses_bind ((meaning c fe).next (also (assigned_by margs) later)) (λ w. bind (each margs later) (λ ws. known (w, ws))) (meaning_uses c fe (also (assigned_by margs) later))
        (λ w. uses_bind (each margs later) (λ ws. known (w, ws)) (each_uses args later) (λ ws. uses_known (w, ws)))

    call_one : (q : Called) → IsOneStep (call_last q)
    call_one q = one_call (address_in q.0) (all_good q.1)

    gives_result : is_given (form_of x) ≡ true
    gives_result = ap (λ y. is_given (form_at y)) calls

    module _ (callee : Value → Type 0) (val : ℕ → Value → Type 0) (function : (later : Registers) → Works IsMark IsOperandStep' (Good callee) ((meaning c fe).next later))
        (argument : (i : ℕ) (arg : Expr) → slice_get args i ≡ Some arg → (later : Registers) → Works IsMark IsOperandStep' (Good (val i)) ((meaning c arg).next later)) where
      each_works : (list : List Expr) (prop : ℕ → Value → Type 0) → ((i : ℕ) (arg : Expr) → slice_get list i ≡ Some arg → (later : Registers) → Works IsMark IsOperandStep' (Good (prop i)) ((meaning c arg).next later)) → (later : Registers) →
          Works IsMark IsOperandStep' (AreArguments prop) (each (map (meaning c) list) later)
      each_works [] prop h later = works_known IsMark IsOperandStep' (AreArguments prop) [] tt
      each_works (y ∷ list) prop h later =
          works_bind IsMark IsOperandStep' (Good (prop 0)) (AreArguments prop) ((meaning c y).next (also (assigned_by (map (meaning c) list)) later)) (λ w. bind (each (map (meaning c) list) later) (λ ws. known (w ∷ ws)))
          (h 0 y refl (also (assigned_by (map (meaning c) list)) later))
          (λ w i. works_bind IsMark IsOperandStep' (AreArguments (λ j. prop (suc j))) (AreArguments prop) (each (map (meaning c) list) later) (λ ws. known (w ∷ ws)) (each_works list (λ j. prop (suc j)) (λ j arg q. h (suc j) arg q) later)
          (λ ws j. works_known IsMark IsOperandStep' (AreArguments prop) (w ∷ ws) (i, j)))

      abbrev AreOperands : Called → Type 0
      AreOperands q = Good callee q.0 × AreArguments val q.1

      operands_work : (later : Registers) → Works IsMark IsOperandStep' AreOperands (call_operands later)
      operands_work later =
          works_bind IsMark IsOperandStep' (Good callee) AreOperands ((meaning c fe).next (also (assigned_by margs) later)) (λ w. bind (each margs later) (λ ws. known (w, ws))) (function (also (assigned_by margs) later))
          (λ w i. works_bind IsMark IsOperandStep' (AreArguments val) AreOperands (each margs later) (λ ws. known (w, ws)) (each_works args val argument later) (λ ws j. works_known IsMark IsOperandStep' AreOperands (w, ws) (i, j)))

      called_in : (w : Option Value) (to : Address) → Good callee w → address_in w ≡ Some to → callee (Place to)
      called_in w to h e = subst (Good callee) (address_of_value w to e) h

      -- ---- `call`, whose result is not used

      module _ (at : AtStatement p a f) (is_do : out-Stmt at.statement ≡ is.Do x) (current : AreCurrent p v m a f n) where
        abbrev k : ℕ
        k = next p v m a f n at x is_do current

        pub call_alone : CallRules k callee val None → (action : Action) → progress_of p a (expression_of a) ≡ Waits action → Allowed p v m a f n action
        call_alone rules =
            step_allowed p v m a f n at x is_do current Called (call_operands no_one) call_last (call_is no_one) (call_uses no_one) call_one AreOperands IsOperandStep' (operands_work no_one)
            (λ action h w on. operand_step p v m a f n action h on)
            (λ q h action result step closes.
            let w = call_of (address_in q.0) (all_good q.1) action result step in
            subst (Allowed p v m a f n) (sym w.is)
            (call_allowed k callee val None rules
            (λ g y. let o = returned_some (gives_nothing (slice_get p.funcs g)) y in closes (return_mark p g y) o.0 (w.gives (return_mark p g y) ∙ o.1)) w.callee w.good
            (called_in q.0 w.callee h.0 w.there) (good_arguments val q.1 w.good h.1 w.all)))

        -- at rest it has not returned
        last_never : (q : Called) → Works IsMark (λ action. Unit {0}) (λ w. ⊥) (call_last q)
        last_never q =
            works_needs IsMark (λ action. Unit {0}) (λ w. ⊥) (address_in q.0) (λ to. needs (all_good q.1) (λ good. ask (Call to good) given))
            (λ to h. works_needs IsMark (λ action. Unit {0}) (λ w. ⊥) (all_good q.1) (λ good. ask (Call to good) given) (λ good g. works_ask IsMark (λ action. Unit {0}) (λ w. ⊥) (Call to good) given tt (λ mark w. w)))

        all_never : Works IsMark (λ action. Unit {0}) (λ w. ⊥) (bind (call_operands no_one) call_last)
        all_never =
            works_bind IsMark (λ action. Unit {0}) (λ q. Unit {0}) (λ w. ⊥) (call_operands no_one) call_last
            (record { known = λ ms left q answers h. ((call_uses no_one).known q ms left h, tt); waits = λ ms action answers h. tt }) (λ q h. last_never q)

        pub call_not_known : (w : Value) (ms : List Mark) → progress_of p a (expression_of a) ≡ Known (Some w) ms → ⊥
        call_not_known =
            not_known p v m a f n at x is_do current
            (record {
              known = λ ms left w answers h. absurd (all_never.known ms left w (λ front back mark action split g. answers front back mark action split (call_is no_one front ∙ g)) (sym (call_is no_one ms) ∙ h)).1;
              waits = λ ms action answers h. tt;
            })

      -- ---- `register = call`

      module _ (at : AtStatement p a f) (e : Expr) (is_do : out-Stmt at.statement ≡ is.Do e) (current : AreCurrent p v m a f n) (d : PlaceOf) (assigns : out-Expr e ≡ one.Assign d x) (r : ℕ) (register : (designation c d).effects.register ≡ Some r)
          (typed : (t : PlaceType) × ((designation c d).ctype ≡ Some t)) where
        abbrev k' : ℕ
        k' = next p v m a f n at e is_do current

        abbrev IsStep : Action → Type 0
        IsStep action = IsOperandStep' action ⊎ ((to : Address) × (good : List Value) × (action ≡ Call to good) × callee (Place to) × AreGood val good)

        abbrev Never : Option Value → Type 0
        Never w = ⊥

        wider : Works IsMark IsStep AreOperands (call_operands no_one)
        wider = let w = operands_work no_one in record { known = λ ms left q answers h. w.known ms left q answers h; waits = λ ms action answers h. inl (w.waits ms action answers h) }

        bound : Works IsMark IsStep Never (bind (call_operands no_one) call_last)
        bound =
            works_bind IsMark IsStep AreOperands Never (call_operands no_one) call_last wider
            (λ q h. works_needs IsMark IsStep Never (address_in q.0) (λ to. needs (all_good q.1) (λ good. ask (Call to good) given))
            (λ to o. works_needs IsMark IsStep Never (all_good q.1) (λ good. ask (Call to good) given)
            (λ good g. works_ask IsMark IsStep Never (Call to good) given (inr (to, good, refl, called_in q.0 to h.0 o, good_arguments val q.1 good h.1 g)) (λ mark w. w))))

        call_works : Works IsMark IsStep Never ((meaning c x).next no_one)
        call_works = record {
          known = λ ms left w answers h. absurd (bound.known ms left w (λ front back mark action split g. answers front back mark action split (call_is no_one front ∙ g)) (sym (call_is no_one ms) ∙ h)).1;
          waits = λ ms action answers h. bound.waits ms action (λ front back mark other split g. answers front back mark other split (call_is no_one front ∙ g)) (sym (call_is no_one ms) ∙ h);
        }

        no_operand : (to : Address) (good : List Value) → IsOperandStep' (Call to good) → ⊥
        no_operand to good (inl h) = let q = h.3 in cc
        no_operand to good (inr h) = let q = h.1 in cc

        resumes : (action : Action) (to : Address) (good : List Value) → action ≡ Call to good → operands p v m a f n at e is_do current d x assigns a.marks ≡ Waits action → GoesOn p v m a f n → (g : ℕ) (w : Value) → Resumes p v f a k' (Some r) (return_mark p g w)
        resumes action to good same asked on g w = λ y h. (
          subst (λ (mark : Mark). IsPending p f (with_mark a mark) k' r y) (sym h)
              (is_pending p v m a f n at e is_do current d x assigns r register typed gives_result Called (call_operands no_one) call_last (call_is no_one) (call_uses no_one) call_one AreOperands (operands_work no_one)
              (λ q other result step mark. (call_of (address_in q.0) (all_good q.1) other result step).gives mark) (Call to good) (asked ∙ ap (λ (z : Action). Waits z) same) (no_operand to good) y),
          on (return_mark p g w),
        )

        one_allowed : CallRules k' callee val (Some r) → (action : Action) → IsStep action → operands p v m a f n at e is_do current d x assigns a.marks ≡ Waits action → GoesOn p v m a f n → Allowed p v m a f n action
        one_allowed rules action (inl h) asked on = operand_step p v m a f n action h on
        one_allowed rules action (inr h) asked on = subst (Allowed p v m a f n) (sym h.2) (call_allowed k' callee val (Some r) rules (resumes action h.0 h.1 h.2 asked on) h.0 h.1 h.3 h.4)

        pub register_called : CallRules k' callee val (Some r) → (action : Action) → progress_of p a (expression_of a) ≡ Waits action → Allowed p v m a f n action
        register_called rules = register_allowed p v m a f n at e is_do current d x assigns r register Never IsStep call_works (one_allowed rules) (λ w h closes. absurd h)
