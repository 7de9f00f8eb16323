-- In normal form an activation tells by itself whether a result has still to be written: where all that was done at its point is reads
-- and branch steps, a statement that assigns a result has no write to do yet.
use Rattle.std.proofs.Common.{◌≡◌, ◌⊎◌, inl, inr, ℕ, Bool, true, false, ◌&&◌, ◌||◌, List, [], ◌∷◌, map, Option, Some, None, refl, ap, sym, ◌∙◌, subst}
use Rattle.std.specs.Prelude.{if◌then◌else◌, is_some}
use Rattle.std.specs.List.{list_all}
use Rattle.cc_flow_sound.proofs.CcEval.Links.{pure_linked, register_linked}
use Rattle.cc_flow_sound.proofs.CcEval.Opened.{meaning_at}
use Rattle.cc_flow_sound.proofs.CcEval.Works.{answers_of, works_known, works_trap, works_ask, works_bind, works_needs}
use Rattle.cc_flow_sound.specs.CcEval.Context.{Context}
use Rattle.cc_flow_sound.specs.CcEval.declared.action.Action.TheVariants.{Call, Flag, Save}
use Rattle.cc_flow_sound.specs.CcEval.declared.action.Action.{Action}
use Rattle.cc_flow_sound.specs.CcEval.declared.mark.Mark.{Mark}
use Rattle.cc_flow_sound.specs.CcEval.declared.spots.Spot.{Spot}
use Rattle.cc_flow_sound.specs.CcEval.Eval.{Meaning, meaning, designation, opened, next_of, called_with, each, all_good, stored}
use Rattle.cc_flow_sound.specs.CcEval.Marks.{Works, AnswerSteps}
use Rattle.cc_flow_sound.specs.CcEval.Progress.{Progress, Known, Waits, Traps, Get, ask, bind, known, needs, given}
use Rattle.cc_flow_sound.proofs.Opened.{all_normal, normal_case, NormalAt}
use Rattle.cc_program.specs.declared.expr.Expr.TheOpen as one
use Rattle.cc_program.specs.declared.expr.Expr.{Expr, out-Expr}
use Rattle.cc_program.specs.declared.expr.Intr.TheVariants as intr
use Rattle.cc_program.specs.declared.expr.Place.{Place}
use Rattle.cc_program.specs.declared.func.Func.{Func}
use Rattle.cc_program.specs.declared.program.Program.{Program}
use Rattle.cc_program.specs.declared.stmt.Case.{Case}
use Rattle.cc_program.specs.declared.stmt.Stmt.TheOpen as is
use Rattle.cc_program.specs.declared.stmt.Stmt.{Stmt, out-Stmt}
use Rattle.cc_program.specs.declared.value.Value.{Value}
use Rattle.cc_proof_covers.proofs.Pure.{IsQuiet, pure_quiet, register_leads, each_quiet}
use Rattle.cc_proof_covers.proofs.Statements.{AtStatement, progress_is, works_on}
use Rattle.cc_proof_covers.specs.Invariant.{IsPending, IsReadIn, AreReadIn}
use Rattle.cc_proof_covers.specs.Operands.{IsOperandStep}
use Rattle.cc_proof_covers.specs.Pending.{is_given, assigns_result, has_result, local_written, written_next, pending}
use Rattle.cc_proof_covers.specs.Views.{View}
use Rattle.cc_flow_sound.proofs.CcStates.Options.{either_true}
use Rattle.cc_flow_sound.specs.CcStates.States.{expression_of, context_in}
use Rattle.cc_flow_sound.specs.CcSteps.State.{Active}
use Rattle.cc_flow_sound.specs.CcSteps.Step.{progress_of}
use Rattle.cc_flow_sound.proofs.CcSyntax.Prefixes.{both_true}
use Rattle.cc_flow_sound.specs.CcSyntax.Effects.{Registers, no_one, also, is_soft, effects_of, place_effects_of}
use Rattle.cc_flow_sound.specs.CcSyntax.Folding.{is_folded}
use Rattle.cc_flow_sound.specs.CcSyntax.Forms.{Form, ConstantForm, LoadForm, form_of, form_at}
use Rattle.cc_flow_sound.specs.CcSyntax.Normal.{is_one, is_operand, is_register_place, is_other_place, is_callee, is_call, is_place_read, is_assignment, is_expression_statement}
use Rattle.cc_flow_sound.specs.CcValues.Values.{address_in, truth}

yes_no : {C : Type 0} (b : Bool) → b ≡ true → b ≡ false → C
yes_no b h k = absurd (cc)

some_of : (o : Option ℕ) → is_some o ≡ true → (r : ℕ) × (o ≡ Some r)
some_of None h = absurd (cc)
some_of (Some r) h = (r, refl)

-- steps of operands write nothing
abbrev WritesNone : Action → Type 0
WritesNone action = local_written action ≡ None

module _ (p : Program) (number id : ℕ) (f : Func) (IsMark : Action → Mark → Type 0) where
  abbrev pub context : Context
  context = record { program = p; number = number; id = id; func = f }

  abbrev Any : (A : Type 0) → A → Type 0
  Any A a = Unit {0}

  abbrev Never : (A : Type 0) → A → Type 0
  Never A a = ⊥

  -- ---- operands are pure, so they assign no result, and are none

  pub operand_pure : (e : Expr) → is_operand p.target f e ≡ true → (meaning context e).effects.pure no_one ≡ true
  operand_pure e h = pure_linked context e no_one ∙ (both_true ((effects_of f e).pure no_one) (is_folded p.target e) h).0

  pure_form : (y : one.Expr-F Expr Place) → (opened context y).effects.pure no_one ≡ true → (is_given (form_at y) ≡ false) × (assigns_result (form_at y) ≡ false)
  pure_form (one.Assign d x) h = absurd (cc)
  pure_form (one.Call g args) h = absurd (cc)
  pure_form (one.Intr i a) h = absurd (cc)
  pure_form _ h = (refl, refl)

  pub operand_form : (e : Expr) → is_operand p.target f e ≡ true → (is_given (form_of e) ≡ false) × (assigns_result (form_of e) ≡ false)
  operand_form e h = pure_form (out-Expr e) (sym (ap (λ (m : Meaning). m.effects.pure no_one) (meaning_at context e (out-Expr e) refl)) ∙ operand_pure e h)

  -- ---- an assignment of a result is to a register, and of a call or an intrinsic over operands

  read_not_given : {C : Type 0} (x : Form) → is_place_read p.target f x ≡ true → is_given x ≡ true → C
  read_not_given (LoadForm a) h k = absurd (cc)
  read_not_given _ h k = absurd (cc)

  pub result_of : (d : Place) (x : Expr) → is_assignment p.target f d x ≡ true → is_given (form_of x) ≡ true → (is_register_place p.target f d ≡ true) × (is_call p.target f (form_of x) ≡ true)
  result_of d x h k = by (is_register_place p.target f d) refl h
    where
      called : is_register_place p.target f d ≡ true → (is_operand p.target f x ≡ true) ⊎ (is_place_read p.target f (form_of x) || is_call p.target f (form_of x) ≡ true) →
          (is_register_place p.target f d ≡ true) × (is_call p.target f (form_of x) ≡ true)
      called e (inl o) = yes_no (is_given (form_of x)) k (operand_form x o).0
      called e (inr o) = by_read e (either_true (is_place_read p.target f (form_of x)) (is_call p.target f (form_of x)) o)
        where
          by_read : is_register_place p.target f d ≡ true → (is_place_read p.target f (form_of x) ≡ true) ⊎ (is_call p.target f (form_of x) ≡ true) →
              (is_register_place p.target f d ≡ true) × (is_call p.target f (form_of x) ≡ true)
          by_read e (inl r) = read_not_given (form_of x) r k
          by_read e (inr c) = (e, c)

      by : (b : Bool) → is_register_place p.target f d ≡ b →
          (if b then is_operand p.target f x || (is_place_read p.target f (form_of x) || is_call p.target f (form_of x)) else is_other_place p.target f d && is_operand p.target f x) ≡ true →
          (is_register_place p.target f d ≡ true) × (is_call p.target f (form_of x) ≡ true)
      by true e g = called e (either_true (is_operand p.target f x) (is_place_read p.target f (form_of x) || is_call p.target f (form_of x)) g)
      by false e g = yes_no (is_given (form_of x)) k (operand_form x (both_true (is_other_place p.target f d) (is_operand p.target f x) g).1).0

  -- ---- where no mark is one of a call or an intrinsic, none has given its result

  module _ (no_call : (callee : _) (args : List Value) (m : Mark) → IsMark (Call callee args) m → ⊥) (no_flag : (on : Bool) (m : Mark) → IsMark (Flag on) m → ⊥) (no_save : (m : Mark) → IsMark Save m → ⊥) where
    wider : (A : Type 0) (g : Get A) → IsQuiet context IsMark A g → Works IsMark WritesNone (Any A) g
    wider A g w = record { known = λ ms left b answers q. w.known ms left b answers q; waits = λ ms action answers q. by action (w.waits ms action answers q) }
      where
        by : (action : Action) → IsOperandStep context action → WritesNone action
        by action (inl h) = ap local_written h.3
        by action (inr h) = ap local_written h.1

    callee_pure : (y : one.Expr-F Expr Place) → is_callee p.target f (form_at y) ≡ true → (opened context y).effects.pure no_one ≡ true
    callee_pure (one.FuncAddr g) h = refl
    callee_pure (one.Load a) h =
        let r = some_of (place_effects_of f a).register h in
        ap (λ (o : Option ℕ). is_soft o no_one) (register_linked context a ∙ r.1)
    callee_pure _ h = absurd (cc)

    all_pure : (args : List Expr) → list_all (is_operand p.target f) args ≡ true → list_all (λ e. (meaning context e).effects.pure (λ r. false)) args ≡ true
    all_pure [] h = refl
    all_pure (e ∷ args) h =
        let q = both_true (is_operand p.target f e) (list_all (is_operand p.target f) args) h in
        ap (λ (b : Bool). b && list_all (λ e. (meaning context e).effects.pure (λ r. false)) args) (operand_pure e q.0) ∙ all_pure args q.1

    asks_call : (margs : List Meaning) (other : Registers) (w : Option Value) → Works IsMark WritesNone (Any (List (Option Value))) (each margs other) → Works IsMark WritesNone (Never (Option Value)) (called_with margs other w)
    asks_call margs other w args =
        works_bind IsMark WritesNone (Any (List (Option Value))) (Never (Option Value)) (each margs other) (λ vs. needs (address_in w) (λ callee. needs (all_good vs) (λ good. ask (Call callee good) given))) args
        (λ vs h. works_needs IsMark WritesNone (Never (Option Value)) (address_in w) (λ callee. needs (all_good vs) (λ good. ask (Call callee good) given))
        (λ callee q. works_needs IsMark WritesNone (Never (Option Value)) (all_good vs) (λ good. ask (Call callee good) given)
        (λ good r. works_ask IsMark WritesNone (Never (Option Value)) (Call callee good) given refl (λ m k. no_call callee good m k))))

    asks_flag : (on : Bool) → Works IsMark WritesNone (Never (Option Value)) (ask (Flag on) given)
    asks_flag on = works_ask IsMark WritesNone (Never (Option Value)) (Flag on) given refl (λ m k. no_flag on m k)

    never_level : (y : one.Expr-F Expr Place) → is_call p.target f (form_at y) ≡ true → (other : Registers) → Works IsMark WritesNone (Never (Option Value)) ((opened context y).next other)
    never_level (one.Call g args) h other =
        let q = both_true (is_callee p.target f (form_of g)) (list_all (is_operand p.target f) args) h in
        let pure : (meaning context g).effects.pure no_one ≡ true = ap (λ (m : Meaning). m.effects.pure no_one) (meaning_at context g (out-Expr g) refl) ∙ callee_pure (out-Expr g) q.0 in
        works_bind IsMark WritesNone (Any (Option Value)) (Never (Option Value)) _ (called_with (map (meaning context) args) other) (wider (Option Value) _ (pure_quiet context IsMark g no_one pure _))
        (λ w k. asks_call (map (meaning context) args) other w (wider (List (Option Value)) (each (map (meaning context) args) other) (each_quiet context IsMark args (all_pure args q.1) other)))
    never_level (one.Intr intr.Off a) h other = asks_flag false
    never_level (one.Intr intr.On a) h other = asks_flag true
    never_level (one.Intr intr.Save a) h other = works_ask IsMark WritesNone (Never (Option Value)) Save given refl (λ m k. no_save m k)
    never_level (one.Intr intr.Restore None) h other = works_trap IsMark WritesNone (Never (Option Value))
    never_level (one.Intr intr.Restore (Some a)) h other =
        works_bind IsMark WritesNone (Any (Option Value)) (Never (Option Value)) ((meaning context a).next other) (λ w. needs (truth w) (λ b. ask (Flag b) given))
        (wider (Option Value) ((meaning context a).next other) (pure_quiet context IsMark a no_one (operand_pure a h) other))
        (λ w k. works_needs IsMark WritesNone (Never (Option Value)) (truth w) (λ b. ask (Flag b) given) (λ b q. asks_flag b))
    never_level _ h other = absurd (cc)

    result_never : (x : Expr) → is_call p.target f (form_of x) ≡ true → (other : Registers) → Works IsMark WritesNone (Never (Option Value)) ((meaning context x).next other)
    result_never x h other = subst (λ (m : Meaning). Works IsMark WritesNone (Never (Option Value)) (m.next other)) (sym (meaning_at context x (out-Expr x) refl)) (never_level (out-Expr x) h other)

    assigned_never : (d : Place) (x : Expr) → is_assignment p.target f d x ≡ true → is_given (form_of x) ≡ true → Works IsMark WritesNone (Never (Option Value)) ((opened context (one.Assign d x)).next no_one)
    assigned_never d x h k =
        let r = result_of d x h k in
        let o = some_of (place_effects_of f d).register r.0 in
        let l = register_leads context IsMark d o.0 (register_linked context d ∙ o.1) in
        let mx = meaning context x in
        let later = also mx.effects.assigned no_one in
        works_bind IsMark WritesNone (Never (Option Spot × Option Value)) (Never (Option Value)) (bind ((designation context d).leads later) (λ s. bind (mx.next no_one) (λ w. known (s, w)))) (λ q. stored context (designation context d) q.0 q.1 q.1)
        (works_bind IsMark WritesNone (Any (Option Spot)) (Never (Option Spot × Option Value)) ((designation context d).leads later) (λ s. bind (mx.next no_one) (λ w. known (s, w)))
        (subst (Works IsMark WritesNone (Any (Option Spot))) (sym (l.1 later)) (works_known IsMark WritesNone (Any (Option Spot)) _ tt))
        (λ s q. works_bind IsMark WritesNone (Never (Option Value)) (Never (Option Spot × Option Value)) (mx.next no_one) (λ w. known (s, w)) (result_never x r.1 no_one) (λ w n. absurd n)))
        (λ q n. absurd n)

    statement_level : (y : one.Expr-F Expr Place) → is_expression_statement p.target f (form_at y) ≡ true → assigns_result (form_at y) ≡ true → Works IsMark WritesNone (Never (Option Value)) ((opened context y).next no_one)
    statement_level (one.Assign d x) h k = assigned_never d x h k
    statement_level _ h k = absurd (cc)

    pub statement_never : (e : Expr) → is_expression_statement p.target f (form_of e) ≡ true → assigns_result (form_of e) ≡ true → Works IsMark WritesNone (Never (Option Value)) (next_of context e)
    statement_never e h k = subst (λ (m : Meaning). Works IsMark WritesNone (Never (Option Value)) (m.next no_one)) (sym (meaning_at context e (out-Expr e) refl)) (statement_level (out-Expr e) h k)

-- ---- of an activation

module _ (p : Program) (v : View) (a : Active) (f : Func) (n : ℕ) where
  pub pending_some : (r : ℕ) (x : Value) → IsPending p f a n r x → pending p a ≡ Some (r, x)
  pending_some r x h = ap (λ (b : Bool). if b then written_next (progress_of p a (expression_of a)) else None) h.given ∙ ap written_next h.waits

  module _ (at : AtStatement p a f) (normal : NormalAt p.target f (out-Stmt at.statement)) (read : AreReadIn p v a f n) where
    abbrev IsMark : Action → Mark → Type 0
    IsMark = IsReadIn p v a f n

    abbrev c : Context
    c = context_in p a f

    module _ (e : Expr) (works : expression_of a ≡ Some e) where
      answers : AnswerSteps IsMark (next_of c e) a.marks
      answers = answers_of IsMark (next_of c e) a.marks (λ front back mark split. let h = read front back mark split in (h.0, sym (progress_is p a f at e works front) ∙ h.1, h.2))

      -- it has no write to do
      none_by : (q : Progress (Option Value)) → next_of c e a.marks ≡ q → is_expression_statement p.target f (form_of e) ≡ true → assigns_result (form_of e) ≡ true → written_next q ≡ None
      none_by (Known w ms) k h g = refl
      none_by (Traps ms) k h g = refl
      none_by (Waits action) k h g = (statement_never p a.number a.func f IsMark (λ callee args m w. w) (λ on m w. w) (λ m w. w) e h g).waits a.marks action answers k

      none_written : is_expression_statement p.target f (form_of e) ≡ true → assigns_result (form_of e) ≡ true → written_next (progress_of p a (expression_of a)) ≡ None
      none_written h g = ap written_next (progress_is p a f at e works a.marks) ∙ none_by (next_of c e a.marks) refl h g

    one_gives_none : {C : Type 0} (x : Form) → is_one x ≡ true → assigns_result x ≡ true → C
    one_gives_none (ConstantForm k t) h g = absurd (cc)
    one_gives_none _ h g = absurd (cc)

    result_in : (e : Expr) → expression_of a ≡ Some e → has_result (expression_of a) ≡ true → assigns_result (form_of e) ≡ true
    result_in e w h = sym (ap has_result w) ∙ h

    no_result : {C : Type 0} → expression_of a ≡ None → has_result (expression_of a) ≡ true → C
    no_result w h = absurd (let g : false ≡ true = sym (ap has_result w) ∙ h in cc)

    operand_gives : {C : Type 0} (e : Expr) → is_operand p.target f e ≡ true → expression_of a ≡ Some e → has_result (expression_of a) ≡ true → C
    operand_gives e o w h = yes_no (assigns_result (form_of e)) (result_in e w h) (operand_form p a.number a.func f IsMark e o).1

    by_form : (y : is.Stmt-F Stmt Case) → out-Stmt at.statement ≡ y → NormalAt p.target f y → has_result (expression_of a) ≡ true → written_next (progress_of p a (expression_of a)) ≡ None
    by_form (is.Do e) i m h = let w = works_on p a f at (is.Do e) i in none_written e w m (result_in e w h)
    by_form (is.If e these those) i m h = operand_gives e (both_true (is_operand p.target f e) (all_normal p.target f these && all_normal p.target f those) m).0 (works_on p a f at (is.If e these those) i) h
    by_form (is.While e body) i m h = let w = works_on p a f at (is.While e body) i in one_gives_none (form_of e) (both_true (is_one (form_of e)) (all_normal p.target f body) m).0 (result_in e w h)
    by_form (is.DoWhile body e) i m h = absurd (cc)
    by_form (is.For first test again body) i m h = absurd (cc)
    by_form (is.Switch e cases) i m h = operand_gives e (both_true (is_operand p.target f e) (list_all (λ b. b) (map (normal_case p.target f) cases)) m).0 (works_on p a f at (is.Switch e cases) i) h
    by_form is.Break i m h = no_result (works_on p a f at is.Break i) h
    by_form is.Continue i m h = no_result (works_on p a f at is.Continue i) h
    by_form (is.Return None) i m h = no_result (works_on p a f at (is.Return None) i) h
    by_form (is.Return (Some e)) i m h = operand_gives e m (works_on p a f at (is.Return (Some e)) i) h
    by_form is.Empty i m h = absurd (cc)
    by_form (is.Block body) i m h = absurd (cc)

    pub pending_none : pending p a ≡ None
    pending_none = by (has_result (expression_of a)) refl
      where
        by : (b : Bool) → has_result (expression_of a) ≡ b → (if b then written_next (progress_of p a (expression_of a)) else None) ≡ None
        by true h = by_form (out-Stmt at.statement) refl normal h
        by false h = refl
