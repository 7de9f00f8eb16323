-- Facts that have what each statement of a program in normal form asks at its point are closed.
use Rattle.std.proofs.Common.{◌≡◌, ◌<◌, ◌^◌, ℕ, true, false, ◌&&◌, List, [], ◌∷◌, map, Option, Some, None, refl, ap, sym, ◌∙◌, subst, slice_get}
use Rattle.std.specs.List.{list_all}
use Rattle.cc_flow_sound.proofs.CcEval.Opened.{meaning_at}
use Rattle.cc_flow_sound.specs.CcEval.declared.action.Action.{Action}
use Rattle.cc_flow_sound.specs.CcEval.declared.mark.Mark.{Mark}
use Rattle.cc_flow_sound.specs.CcEval.Eval.{Meaning, meaning, opened}
use Rattle.cc_flow_sound.specs.CcEval.Progress.{Progress, Known, Waits, no_value}
use Rattle.cc_flow_sound.specs.CcFlow.declared.next.Site.{Site}
use Rattle.cc_flow_sound.specs.CcFlow.declared.types.Point.{Point}
use Rattle.cc_flow_sound.specs.CcFlow.Points.{count_of, flow_of}
use Rattle.cc_flow_sound.proofs.Normal.{normal_body}
use Rattle.cc_flow_sound.proofs.Numbered.{at_statement}
use Rattle.cc_flow_sound.proofs.Opened.{all_normal, normal_case, NormalAt}
use Rattle.cc_flow_sound.proofs.Places.{first_number, exit_of as site_exit}
use Rattle.cc_flow_sound.proofs.Reached.{active_statement}
use Rattle.cc_flow_sound.specs.Sites.{arm_point, number_at, StandsAt, base_of}
use Rattle.cc_flow_sound.specs.Statements.{statement_at}
use Rattle.cc_program.specs.CcNum.Results.{one_if}
use Rattle.cc_program.specs.declared.expr.Expr.TheOpen as one
use Rattle.cc_program.specs.declared.expr.Expr.{Expr, out-Expr}
use Rattle.cc_program.specs.declared.expr.Place.{Place}
use Rattle.cc_program.specs.declared.func.Func.{Func}
use Rattle.cc_program.specs.declared.program.Program.{Program}
use Rattle.cc_program.specs.declared.stmt.Case.{Case}
use Rattle.cc_program.specs.declared.stmt.Stmt.TheOpen as is
use Rattle.cc_program.specs.declared.stmt.Stmt.{Stmt, out-Stmt}
use Rattle.cc_program.specs.declared.value.Value.{Value}
use Rattle.cc_proof_covers.proofs.Results.{operand_pure}
use Rattle.cc_proof_covers.proofs.Statements.{AtStatement, at_statement_of, own, is_normal, works_on}
use Rattle.cc_proof_covers.specs.Invariant.{exit_of, IsCurrent}
use Rattle.cc_proof_covers.specs.Rules.{Allowed, Goes, Leaves, IsHere}
use Rattle.cc_proof_covers.specs.Views.{View}
use Rattle.cc_proof_forms.proofs.Outside.{leads_out}
use Rattle.cc_proof_forms.proofs.Returns.{returned_leaves, left_leaves}
use Rattle.cc_proof_forms.proofs.StatementRules.{expression_allowed, expression_waits}
use Rattle.cc_proof_forms.proofs.TestSteps.{if_allowed, while_allowed, switch_allowed, return_allowed}
use Rattle.cc_proof_forms.proofs.Tests.{jump_goes, tested_goes, if_there, switch_there}
use Rattle.cc_proof_forms.specs.Branches.{switch_point}
use Rattle.cc_proof_forms.specs.Sets.{OperandSets}
use Rattle.cc_proof_forms.specs.StatementRules.{StatementRule, AtExpression, AtJump, AtIf, AtSwitch, AtReturn, AtEnd, AreStatementRules}
use Rattle.cc_flow_sound.specs.CcStates.States.{expression_of, worked_at, context_in}
use Rattle.cc_flow_sound.specs.CcSteps.State.{Active, Memory}
use Rattle.cc_flow_sound.specs.CcSteps.Step.{progress_in, progress_of, is_return, number_in}
use Rattle.cc_flow_sound.proofs.CcSyntax.Prefixes.{both_true}
use Rattle.cc_flow_sound.specs.CcSyntax.Effects.{no_one}
use Rattle.cc_flow_sound.specs.CcSyntax.Forms.{form_of, form_at}
use Rattle.cc_flow_sound.specs.CcSyntax.Normal.{IsNormal, is_one, is_operand}
use Rattle.cc_flow_sound.specs.CcValues.Values.{is_true}

known_waits : (q : Progress (Option Value)) (ms : List Mark) (x : Action) → q ≡ Known (Some no_value) ms → q ≡ Waits x → ⊥
known_waits q ms x h k = cc

-- ---- an activation at the point

module _ (p : Program) (v : View) (o : OperandSets) (m : Memory) (a : Active) (f : Func) (n : ℕ) (here : IsHere p v m a f n) (at : AtStatement p a f) where
  abbrev s : Stmt
  s = at.statement

  abbrev site : Site
  site = own p a f at

  abbrev IsMark : Action → Mark → Type 0
  IsMark = IsCurrent p v m a f n

  abbrev Steps : Type 0
  Steps = (action : Action) → progress_of p a (expression_of a) ≡ Waits action → Allowed p v m a f n action

  pure_of : (e : Expr) → is_operand p.target f e ≡ true → (meaning (context_in p a f) e).effects.pure no_one ≡ true
  pure_of e h = operand_pure p a.number a.func f IsMark e h

  one_pure : (y : one.Expr-F Expr Place) → is_one (form_at y) ≡ true → (opened (context_in p a f) y).effects.pure no_one ≡ true
  one_pure (one.Const z t) h = refl
  one_pure _ h = absurd (cc)

  no_steps : expression_of a ≡ None → Steps
  no_steps works action h =
      absurd (
      let is : progress_of p a (expression_of a) ≡ Known (Some no_value) a.marks = ap (progress_of p a) works ∙ ap (λ (g : Option Func). progress_in p a.number a.func a.marks g None) at.function in
      known_waits (progress_of p a (expression_of a)) a.marks action is h
      )

  -- the steps of a statement that is no expression statement are those of its operand
  other_steps : ((e : Expr) → out-Stmt s ≡ is.Do e → ⊥) → (y : is.Stmt-F Stmt Case) → out-Stmt s ≡ y → NormalAt p.target f y → Steps
  other_steps none (is.Do e) i t = absurd (none e i)
  other_steps none (is.If e these those) i t =
      if_allowed p v m a f n at (here.memory.marks refl) e (pure_of e (both_true (is_operand p.target f e) (all_normal p.target f these && all_normal p.target f those) t).0) these those i
  other_steps none (is.While e body) i t =
      while_allowed p v m a f n at (here.memory.marks refl) e
      (ap (λ (z : Meaning). z.effects.pure no_one) (meaning_at (context_in p a f) e (out-Expr e) refl) ∙ one_pure (out-Expr e) (both_true (is_one (form_of e)) (all_normal p.target f body) t).0) body i
  other_steps none (is.DoWhile body e) i t = absurd (cc)
  other_steps none (is.For first test again body) i t = absurd (cc)
  other_steps none (is.Switch e cases) i t =
      switch_allowed p v m a f n at (here.memory.marks refl) e (pure_of e (both_true (is_operand p.target f e) (list_all (λ b. b) (map (normal_case p.target f) cases)) t).0) cases i
  other_steps none is.Break i t = no_steps (works_on p a f at is.Break i)
  other_steps none is.Continue i t = no_steps (works_on p a f at is.Continue i)
  other_steps none (is.Return None) i t = no_steps (works_on p a f at (is.Return None) i)
  other_steps none (is.Return (Some e)) i t = return_allowed p v m a f n at (here.memory.marks refl) e (pure_of e t) i
  other_steps none is.Empty i t = absurd (cc)
  other_steps none (is.Block body) i t = absurd (cc)

  steps_other : ((e : Expr) → out-Stmt s ≡ is.Do e → ⊥) → Steps
  steps_other none = other_steps none (out-Stmt s) refl (is_normal p a f at)

  if_no_do : (y : is.Stmt-F Stmt Case) (e : Expr) (these those : List Stmt) (d : Expr) → y ≡ is.If e these those → y ≡ is.Do d → ⊥
  if_no_do y e these those d h k = cc

  switch_no_do : (y : is.Stmt-F Stmt Case) (e : Expr) (cases : List Case) (d : Expr) → y ≡ is.Switch e cases → y ≡ is.Do d → ⊥
  switch_no_do y e cases d h k = cc

  return_no_do : (y : is.Stmt-F Stmt Case) (e : Option Expr) (d : Expr) → y ≡ is.Return e → y ≡ is.Do d → ⊥
  return_no_do y e d h k = cc

  pub statement_steps : StatementRule p v o a.func f n s site → Steps
  statement_steps (AtExpression e i rule) = expression_allowed p v o m a f n here at e i rule
  statement_steps (AtJump stays none flows) = steps_other none
  statement_steps (AtIf e these those i may refines) = steps_other (λ d k. if_no_do (out-Stmt s) e these those d i k)
  statement_steps (AtSwitch e cases i may refines) = steps_other (λ d k. switch_no_do (out-Stmt s) e cases d i k)
  statement_steps (AtReturn e i operand result flows keeps) = steps_other (λ d k. return_no_do (out-Stmt s) (Some e) d i k)
  statement_steps (AtEnd i none flows keeps) = steps_other (λ d k. return_no_do (out-Stmt s) None d i k)

  module _ (w : Value) (ms : List Mark) (known : progress_of p a (expression_of a) ≡ Known (Some w) ms) where
    returns_not : {C : Type 0} (y : is.Stmt-F Stmt Case) → out-Stmt s ≡ y → is_return y ≡ false → is_return (out-Stmt s) ≡ true → C
    returns_not y i h k = absurd (let g : false ≡ true = sym h ∙ sym (ap is_return i) ∙ k in cc)

    goes_not : {C : Type 0} (e : Option Expr) → out-Stmt s ≡ is.Return e → is_return (out-Stmt s) ≡ false → C
    goes_not e i k = absurd (let g : true ≡ false = sym (ap is_return i) ∙ k in cc)

    pub statement_goes : StatementRule p v o a.func f n s site → is_return (out-Stmt s) ≡ false → Goes p v m a f n (out-Stmt s) w
    statement_goes (AtExpression e i rule) r = absurd (expression_waits p v o m a f n here at e i rule w ms known)
    statement_goes (AtJump stays none flows) r = jump_goes p v m a f n here at w ms known stays flows
    statement_goes (AtIf e these those i may refines) r =
        let q = may m a refl here at.rest at.here w ms known in tested_goes p v m a f n here at w ms known (o.passes n) (o.passes_with n) (one_if (is_true w)) (arm_point (is_true w) these those site) (if_there p v m a f n here at w ms known e these those i) q.0 q.1 (refines (is_true w))
    statement_goes (AtSwitch e cases i may refines) r =
        let q = may m a refl here at.rest at.here w ms known in tested_goes p v m a f n here at w ms known (o.passes n) (o.passes_with n) (number_in w) (switch_point (number_in w) cases site) (switch_there p v m a f n here at w ms known e cases i) q.0 q.1 (refines (number_in w))
    statement_goes (AtReturn e i operand result flows keeps) r = goes_not (Some e) i r
    statement_goes (AtEnd i none flows keeps) r = goes_not None i r

    pub statement_leaves : StatementRule p v o a.func f n s site → is_return (out-Stmt s) ≡ true → Leaves p v m a f n w
    statement_leaves (AtExpression e i rule) r = returns_not (is.Do e) i refl r
    statement_leaves (AtJump stays none flows) r = absurd (let g : true ≡ false = sym r ∙ stays in cc)
    statement_leaves (AtIf e these those i may refines) r = returns_not (is.If e these those) i refl r
    statement_leaves (AtSwitch e cases i may refines) r = returns_not (is.Switch e cases) i refl r
    statement_leaves (AtReturn e i operand result flows keeps) r = returned_leaves p v m a f n at (here.memory.marks refl) w ms known e i (o.holds n e) (operand m a refl here) result flows keeps
    statement_leaves (AtEnd i none flows keeps) r = left_leaves p v m a f n at (here.memory.marks refl) w ms known none flows keeps

-- ---- the whole program

module _ (p : Program) (v : View) (o : OperandSets) where
  module _ (normal : IsNormal p) (few : count_of p < 2 ^ 32) (rules : AreStatementRules p v o) (m : Memory) (a : Active) (f : Func) (n : ℕ) (here : IsHere p v m a f n) where
    module _ (s : Stmt) (rest : List Stmt) (first : a.here.rest ≡ s ∷ rest) where
      abbrev its_place : AtStatement p a f
      its_place = record {
        function = here.function;
        statement = s;
        rest = rest;
        here = first;
        site = here.there.0;
        stands = subst (λ (l : List Stmt). StandsAt (base_of p a.func f) f.body a.around l a.here.position here.there.0) first here.there.1;
        levels = (at_statement_of p (normal_body p normal) here.openings a here.active f here.function s rest first).levels;
      }

      number_is : here.there.0.number ≡ n
      number_is = sym (first_number s rest here.there.0) ∙ ap (λ (l : List Stmt). number_at l here.there.0) (sym first) ∙ here.there.2

      its_exit : (q : Point) → q.func ≡ a.func → (own p a f its_place).exit ≡ exit_of p q.func f
      its_exit q own_point =
          (site_exit p.target f (base_of p a.func f) f.body a.around (s ∷ rest) a.here.position here.there.0 its_place.stands).0 ∙ ap (λ (g : ℕ). exit_of p g f) (sym own_point)

      its_rule : StatementRule p v o a.func f n s (own p a f its_place)
      its_rule =
          let there = at_statement p a.func f here.function few (a.here, a.around) s rest here.there.0 first its_place.stands in
          let q = there.point_at.point in
          let numbered : slice_get (flow_of p).points n ≡ Some q = subst (λ (z : ℕ). slice_get (flow_of p).points z ≡ Some q) number_is there.point_at.numbered in
          let function : slice_get p.funcs q.func ≡ Some f = ap (slice_get p.funcs) there.point_at.function ∙ here.function in
          let statement : statement_at f.body q.path ≡ Some s = ap (statement_at f.body) there.point_at.path ∙ active_statement p normal few here.openings a here.active f here.function s rest first in
          subst (λ (g : ℕ). StatementRule p v o g f n s (own p a f its_place)) there.point_at.function (rules n q f s numbered function statement here.reached (own p a f its_place) number_is (sym there.next_is) (leads_out p a.func f a.around s rest a.here.position here.there.0 its_place.stands) (its_exit q there.point_at.function))

      pub goes_of : (w : Value) (ms : List Mark) → progress_of p a (expression_of a) ≡ Known (Some w) ms → is_return (out-Stmt s) ≡ false → Goes p v m a f n (out-Stmt s) w
      goes_of w ms known r = statement_goes p v o m a f n here its_place w ms known its_rule r

      pub leaves_of : (w : Value) (ms : List Mark) → progress_of p a (expression_of a) ≡ Known (Some w) ms → is_return (out-Stmt s) ≡ true → Leaves p v m a f n w
      leaves_of w ms known r = statement_leaves p v o m a f n here its_place w ms known its_rule r

      steps_at : (action : Action) → progress_of p a (expression_of a) ≡ Waits action → Allowed p v m a f n action
      steps_at = statement_steps p v o m a f n here its_place its_rule

    nothing_asked : (action : Action) → a.here.rest ≡ [] → progress_of p a (expression_of a) ≡ Waits action → ⊥
    nothing_asked action e h =
        let works : expression_of a ≡ None = ap (worked_at a.here) e in
        let is : progress_of p a (expression_of a) ≡ Known (Some no_value) a.marks = ap (progress_of p a) works ∙ ap (λ (g : Option Func). progress_in p a.number a.func a.marks g None) here.function in
        known_waits (progress_of p a (expression_of a)) a.marks action is h

    steps_by : (list : List Stmt) → a.here.rest ≡ list → (action : Action) → progress_of p a (expression_of a) ≡ Waits action → Allowed p v m a f n action
    steps_by [] e action h = absurd (nothing_asked action e h)
    steps_by (s ∷ rest) e action h = steps_at s rest e action h

    pub steps_of : (action : Action) → progress_of p a (expression_of a) ≡ Waits action → Allowed p v m a f n action
    steps_of action h = steps_by a.here.rest refl action h
