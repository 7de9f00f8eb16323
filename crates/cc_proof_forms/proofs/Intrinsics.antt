-- `irq_off()`, `irq_on()`, `irq_restore(operand)` and `irq_save()`: the flag is as they say at what is behind, and what `irq_save()` gives waits to be
-- written, as a call's result does, or is not used.
use Rattle.std.proofs.Common.{◌≡◌, inl, inr, ℕ, Bool, true, false, List, [], ◌∷◌, Option, Some, None, refl, ap, sym, ◌∙◌, subst}
use Rattle.cc_flow_sound.proofs.CcEval.MeaningUses.{meaning_uses}
use Rattle.cc_flow_sound.proofs.CcEval.Opened.{meaning_at}
use Rattle.cc_flow_sound.proofs.CcEval.Uses.{uses_known}
use Rattle.cc_flow_sound.proofs.CcEval.Works.{works_known, works_ask, works_bind, works_needs}
use Rattle.cc_flow_sound.specs.CcEval.Context.{Context}
use Rattle.cc_flow_sound.specs.CcEval.declared.action.Action.TheVariants.{Flag, Save}
use Rattle.cc_flow_sound.specs.CcEval.declared.action.Action.{Action}
use Rattle.cc_flow_sound.specs.CcEval.declared.mark.Mark.TheVariants.{Gave, Did}
use Rattle.cc_flow_sound.specs.CcEval.declared.mark.Mark.{Mark}
use Rattle.cc_flow_sound.specs.CcEval.Eval.{Meaning, meaning, designation}
use Rattle.cc_flow_sound.specs.CcEval.Marks.{Works}
use Rattle.cc_flow_sound.specs.CcEval.Progress.{Progress, Known, Waits, Traps, Get, known, ask, bind, needs, given, no_value}
use Rattle.cc_program.specs.CcNum.Results.{one_if}
use Rattle.cc_program.specs.declared.expr.Expr.TheOpen as one
use Rattle.cc_program.specs.declared.expr.Expr.{Expr, out-Expr}
use Rattle.cc_program.specs.declared.expr.Intr.TheVariants as intr
use Rattle.cc_program.specs.declared.expr.Place.{Place as PlaceOf}
use Rattle.cc_program.specs.declared.func.Func.{Func}
use Rattle.cc_program.specs.declared.program.Program.{Program}
use Rattle.cc_program.specs.declared.stmt.Stmt.TheOpen as is
use Rattle.cc_program.specs.declared.stmt.Stmt.{out-Stmt}
use Rattle.cc_program.specs.declared.value.Value.TheVariants.{Int}
use Rattle.cc_program.specs.declared.value.Value.{Value}
use Rattle.cc_proof_covers.specs.Operands.{IsOperandStep}
use Rattle.cc_proof_covers.proofs.Statements.{AtStatement}
use Rattle.cc_proof_covers.specs.Invariant.{EndsAt, IsPending, IsCurrent, AreCurrent, Resumes}
use Rattle.cc_proof_covers.specs.Pending.{is_given}
use Rattle.cc_proof_covers.specs.Rules.{Flows, GoesOn, Allowed}
use Rattle.cc_proof_covers.specs.Views.{View}
use Rattle.cc_proof_forms.proofs.Assignments.{operands}
use Rattle.cc_proof_forms.proofs.FullSteps.{next, operand_step, not_known, step_allowed}
use Rattle.cc_proof_forms.proofs.LastStep.{IsOneStep}
use Rattle.cc_proof_forms.proofs.Places.{register_allowed}
use Rattle.cc_proof_forms.specs.Sets.{Good}
use Rattle.cc_proof_forms.proofs.Results.{is_pending}
use Rattle.cc_proof_forms.specs.CallRules.{SaveRule}
use Rattle.cc_flow_sound.specs.CcStates.States.{expression_of, context_in}
use Rattle.cc_flow_sound.specs.CcSteps.State.{Active, Memory}
use Rattle.cc_flow_sound.specs.CcSteps.Step.{with_mark, progress_of}
use Rattle.cc_flow_sound.specs.CcSyntax.Effects.{Registers, no_one}
use Rattle.cc_flow_sound.specs.CcSyntax.Forms.{form_of, form_at}
use Rattle.cc_flow_sound.specs.CcSyntax.Values.{PlaceType}
use Rattle.cc_flow_sound.specs.CcValues.Values.{truth}

waits_both : (q : Progress (Option Value)) (x y : Action) → q ≡ Waits x → q ≡ Waits y → x ≡ y
waits_both q x y h k = cc

traps_waits : (q : Progress (Option Value)) (ms : List Mark) (x : Action) → q ≡ Traps ms → q ≡ Waits x → ⊥
traps_waits q ms x h k = cc

known_both : (x y : Option Value) (ms ns : List Mark) → Known x ms ≡ Known y ns → x ≡ y
known_both x y ms ns e = cc

-- one step, over nothing
abbrev asks_one : Action → Unit {0} → Get (Option Value)
asks_one action u = ask action given

abbrev nothing : Get (Unit {0})
nothing = known tt

-- a step of the flag, by an operand that is good
abbrev flag_by : Option Bool → Get (Option Value)
flag_by o = needs o (λ b. ask (Flag b) given)

flag_one : (o : Option Bool) → IsOneStep (flag_by o)
flag_one None = inl (λ ms. refl)
flag_one (Some b) = inr (Flag b, given, λ ms. refl)

pub record IsFlag (o : Option Bool) (action : Action) (result : Mark → Option Value) : Type 0 where
  pub on : Bool
  pub there : o ≡ Some on
  pub is : action ≡ Flag on
  pub gives : (mark : Mark) → result mark ≡ given mark

flag_of : (o : Option Bool) (action : Action) (result : Mark → Option Value) → ((ns : List Mark) → flag_by o ns ≡ ask action result ns) → IsFlag o action result
flag_of None action result h = absurd (traps_waits (Traps []) [] action refl (h []))
flag_of (Some b) action result h = record {
  on = b;
  there = refl;
  is = sym (waits_both (Waits (Flag b)) (Flag b) action refl (h []));
  gives = λ mark. sym (known_both (given mark) (result mark) [] [] (h (mark ∷ [])));
}

pub record IsThat (step action : Action) (result : Mark → Option Value) : Type 0 where
  pub is : action ≡ step
  pub gives : (mark : Mark) → result mark ≡ given mark

that_of : (step action : Action) (result : Mark → Option Value) → ((ns : List Mark) → ask step given ns ≡ ask action result ns) → IsThat step action result
that_of step action result h = record {
  is = sym (waits_both (Waits step) step action refl (h []));
  gives = λ mark. sym (known_both (given mark) (result mark) [] [] (h (mark ∷ [])));
}

module _ (p : Program) (v : View) (m : Memory) (a : Active) (f : Func) (n : ℕ) (at : AtStatement p a f) (e : Expr) (is_do : out-Stmt at.statement ≡ is.Do e) (current : AreCurrent p v m a f n) where
  abbrev c : Context
  c = context_in p a f

  abbrev k : ℕ
  k = next p v m a f n at e is_do current

  abbrev IsMark : Action → Mark → Type 0
  IsMark = IsCurrent p v m a f n

  abbrev IsOperandStep' : Action → Type 0
  IsOperandStep' = IsOperandStep c

  abbrev Any : (A : Type 0) → A → Type 0
  Any A q = Unit {0}

  nothing_works : Works IsMark IsOperandStep' (Any (Unit {0})) nothing
  nothing_works = works_known IsMark IsOperandStep' (Any (Unit {0})) tt tt

  -- ---- the flag is set

  flag_allowed : (on : Bool) → Flows p v n k None None → v.may_be k on → EndsAt p f a k Did → Allowed p v m a f n (Flag on)
  flag_allowed on flows flag closes = record { next = k; ends = closes; flows = flows; flag = flag }

  abbrev AnyStep : Action → Type 0
  AnyStep action = Unit {0}

  abbrev Never : Option Value → Type 0
  Never w = ⊥

  -- `irq_off()` and `irq_on()`
  module _ (on : Bool) (flags : (later : Registers) (ms : List Mark) → (meaning c e).next later ms ≡ ask (Flag on) given ms) where
    pub flag_set : Flows p v n k None None → v.may_be k on → (action : Action) → progress_of p a (expression_of a) ≡ Waits action → Allowed p v m a f n action
    flag_set flows flag =
        step_allowed p v m a f n at e is_do current (Unit {0}) nothing (asks_one (Flag on)) (flags no_one) (uses_known tt) (λ u. inr (Flag on, given, λ ms. refl)) (Any (Unit {0})) IsOperandStep' nothing_works
        (λ action h w goes. operand_step p v m a f n action h goes)
        (λ q h action result step closes.
        let w = that_of (Flag on) action result step in
        subst (Allowed p v m a f n) (sym w.is) (flag_allowed on flows flag (closes Did no_value (w.gives Did))))

    pub flag_not_known : (w : Value) (ms : List Mark) → progress_of p a (expression_of a) ≡ Known (Some w) ms → ⊥
    flag_not_known =
        not_known p v m a f n at e is_do current
        (record {
          known = λ ms left w answers h. absurd (never.known ms left w (λ front back mark action split g. answers front back mark action split (flags no_one front ∙ g)) (sym (flags no_one ms) ∙ h)).1;
          waits = λ ms action answers h. tt;
        })
      where
        never : Works IsMark AnyStep Never (ask (Flag on) given)
        never = works_ask IsMark AnyStep Never (Flag on) given tt (λ mark w. w)

  pub off_flags : out-Expr e ≡ one.Intr intr.Off None → (later : Registers) (ms : List Mark) → (meaning c e).next later ms ≡ ask (Flag false) given ms
  off_flags h later ms = ap (λ (z : Meaning). z.next later ms) (meaning_at c e (one.Intr intr.Off None) h)

  pub on_flags : out-Expr e ≡ one.Intr intr.On None → (later : Registers) (ms : List Mark) → (meaning c e).next later ms ≡ ask (Flag true) given ms
  on_flags h later ms = ap (λ (z : Meaning). z.next later ms) (meaning_at c e (one.Intr intr.On None) h)

  -- `irq_restore(operand)`: the flag is as the operand's truth says
  module _ (o : Expr) (restores : out-Expr e ≡ one.Intr intr.Restore (Some o)) where
    abbrev restore_last : Option Value → Get (Option Value)
    restore_last w = flag_by (truth w)

    restore_is : (later : Registers) (ms : List Mark) → (meaning c e).next later ms ≡ bind ((meaning c o).next later) restore_last ms
    restore_is later ms = ap (λ (z : Meaning). z.next later ms) (meaning_at c e (one.Intr intr.Restore (Some o)) restores)

    pub flag_restored : (val : Value → Type 0) → ((later : Registers) → Works IsMark IsOperandStep' (Good val) ((meaning c o).next later)) → ((w : Value) (b : Bool) → val w → truth (Some w) ≡ Some b → Flows p v n k None None × v.may_be k b) →
        (action : Action) → progress_of p a (expression_of a) ≡ Waits action → Allowed p v m a f n action
    flag_restored val operand rule =
        step_allowed p v m a f n at e is_do current (Option Value) ((meaning c o).next no_one) restore_last (restore_is no_one) (meaning_uses c o no_one) (λ w. flag_one (truth w)) (Good val) IsOperandStep' (operand no_one)
        (λ action h w goes. operand_step p v m a f n action h goes)
        (λ q h action result step closes.
        let w = flag_of (truth q) action result step in
        let r = by_rule q w.on h w.there in
        subst (Allowed p v m a f n) (sym w.is) (flag_allowed w.on r.0 r.1 (closes Did no_value (w.gives Did))))
      where
        none_true : {C : Type 0} (b : Bool) → truth None ≡ Some b → C
        none_true b h = absurd (cc)

        by_rule : (q : Option Value) (b : Bool) → Good val q → truth q ≡ Some b → Flows p v n k None None × v.may_be k b
        by_rule None b h t = none_true b t
        by_rule (Some w) b h t = rule w b h t

    pub restore_not_known : (w : Value) (ms : List Mark) → progress_of p a (expression_of a) ≡ Known (Some w) ms → ⊥
    restore_not_known =
        not_known p v m a f n at e is_do current
        (record {
          known = λ ms left w answers h. absurd (never.known ms left w (λ front back mark action split g. answers front back mark action split (restore_is no_one front ∙ g)) (sym (restore_is no_one ms) ∙ h)).1;
          waits = λ ms action answers h. tt;
        })
      where
        never : Works IsMark AnyStep Never (bind ((meaning c o).next no_one) restore_last)
        never =
            works_bind IsMark AnyStep (λ w. Unit {0}) Never ((meaning c o).next no_one) restore_last
            (record { known = λ ms left q answers h. ((meaning_uses c o no_one).known q ms left h, tt); waits = λ ms action answers h. tt })
            (λ q h. works_needs IsMark AnyStep Never (truth q) (λ b. ask (Flag b) given) (λ b g. works_ask IsMark AnyStep Never (Flag b) given tt (λ mark w. w)))

  -- ---- the flag is saved

  save_allowed : (result : Option ℕ) → SaveRule p v n k result → ((b : Bool) → Resumes p v f a k result (Gave (Some (Int (one_if b))))) → Allowed p v m a f n Save
  save_allowed result rule resumes = record { next = k; result = result; flows = rule.flows; off = rule.off; resumes = λ b may. resumes b; given = rule.gives; pairs = rule.pairs }

  -- `irq_save()`, whose value is not used
  module _ (saves : out-Expr e ≡ one.Intr intr.Save None) where
    save_is : (later : Registers) (ms : List Mark) → (meaning c e).next later ms ≡ ask Save given ms
    save_is later ms = ap (λ (z : Meaning). z.next later ms) (meaning_at c e (one.Intr intr.Save None) saves)

    pub save_alone : SaveRule p v n k None → (action : Action) → progress_of p a (expression_of a) ≡ Waits action → Allowed p v m a f n action
    save_alone rule =
        step_allowed p v m a f n at e is_do current (Unit {0}) nothing (asks_one Save) (save_is no_one) (uses_known tt) (λ u. inr (Save, given, λ ms. refl)) (Any (Unit {0})) IsOperandStep' nothing_works
        (λ action h w goes. operand_step p v m a f n action h goes)
        (λ q h action result step closes.
        let w = that_of Save action result step in
        subst (Allowed p v m a f n) (sym w.is)
        (save_allowed None rule (λ b. closes (Gave (Some (Int (one_if b)))) (Int (one_if b)) (w.gives (Gave (Some (Int (one_if b))))))))

    pub save_not_known : (w : Value) (ms : List Mark) → progress_of p a (expression_of a) ≡ Known (Some w) ms → ⊥
    save_not_known =
        not_known p v m a f n at e is_do current
        (record {
          known = λ ms left w answers h. absurd (never.known ms left w (λ front back mark action split g. answers front back mark action split (save_is no_one front ∙ g)) (sym (save_is no_one ms) ∙ h)).1;
          waits = λ ms action answers h. tt;
        })
      where
        never : Works IsMark AnyStep Never (ask Save given)
        never = works_ask IsMark AnyStep Never Save given tt (λ mark w. w)

  -- `register = irq_save()`
  module _ (d : PlaceOf) (x : Expr) (assigns : out-Expr e ≡ one.Assign d x) (r : ℕ) (register : (designation c d).effects.register ≡ Some r) (typed : (t : PlaceType) × ((designation c d).ctype ≡ Some t)) (saves : out-Expr x ≡ one.Intr intr.Save None) where
    value_is : (ms : List Mark) → (meaning c x).next no_one ms ≡ bind nothing (asks_one Save) ms
    value_is ms = ap (λ (z : Meaning). z.next no_one ms) (meaning_at c x (one.Intr intr.Save None) saves)

    gives_result : is_given (form_of x) ≡ true
    gives_result = ap (λ y. is_given (form_at y)) saves

    abbrev IsSave : Action → Type 0
    IsSave action = action ≡ Save

    value_works : Works IsMark IsSave Never ((meaning c x).next no_one)
    value_works = record {
      known = λ ms left w answers h. absurd (saved.known ms left w (λ front back mark action split g. answers front back mark action split (value_is front ∙ g)) (sym (value_is ms) ∙ h)).1;
      waits = λ ms action answers h. saved.waits ms action (λ front back mark other split g. answers front back mark other split (value_is front ∙ g)) (sym (value_is ms) ∙ h);
    }
      where
        saved : Works IsMark IsSave Never (ask Save given)
        saved = works_ask IsMark IsSave Never Save given refl (λ mark w. w)

    no_operand : IsOperandStep' Save → ⊥
    no_operand (inl h) = let q = h.3 in cc
    no_operand (inr h) = let q = h.1 in cc

    one_allowed : SaveRule p v n k (Some r) → (action : Action) → IsSave action → operands p v m a f n at e is_do current d x assigns a.marks ≡ Waits action → GoesOn p v m a f n → Allowed p v m a f n action
    one_allowed rule action h asked on =
        let asked' : operands p v m a f n at e is_do current d x assigns a.marks ≡ Waits Save = asked ∙ ap (λ (z : Action). Waits z) h in
        subst (Allowed p v m a f n) (sym h)
        (save_allowed (Some r) rule
        (λ b y g. (
          subst (λ (mark : Mark). IsPending p f (with_mark a mark) k r y) (sym g)
              (is_pending p v m a f n at e is_do current d x assigns r register typed gives_result (Unit {0}) nothing (asks_one Save) value_is (uses_known tt) (λ u. inr (Save, given, λ ms. refl)) (Any (Unit {0})) nothing_works
              (λ q other result step mark. (that_of Save other result step).gives mark) Save asked' no_operand y),
          on (Gave (Some (Int (one_if b)))),
        )))

    pub register_saved : SaveRule p v n k (Some r) → (action : Action) → progress_of p a (expression_of a) ≡ Waits action → Allowed p v m a f n action
    register_saved rule = register_allowed p v m a f n at e is_do current d x assigns r register Never IsSave value_works (one_allowed rule) (λ w h closes. absurd h)
