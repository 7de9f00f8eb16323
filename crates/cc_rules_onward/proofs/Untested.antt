-- What tests nothing has no tests.
use Rattle.std.proofs.Common.{◌≡◌, ℕ, List, None, Result, Ok, Err, refl, sym, ◌∙◌}
use Rattle.std.proofs.lemmas.Option.{none-some}
use Rattle.std.specs.Borrow.{Bor}
use Rattle.std.specs.Prelude.{IfOk}
use Rattle.cc_program.specs.declared.expr.Expr.{Expr}
use Rattle.cc_program.specs.declared.stmt.Case.{Case}
use Rattle.cc_program.specs.declared.stmt.Stmt.{Stmt}
use Rattle.cc_rules_choices.specs.Choices.{AreTestsWorkedHere}
use Rattle.cc_state_points.specs.CcRulesFlows.Acts.{Act}
use Rattle.cc_state_points.specs.CcRulesFlows.declared.acts.Act.{Act as CodeAct}
use Rattle.cc_state_points.specs.CcRulesFlows.declared.acts.Act.TheVariants as act
use Rattle.cc_state_points.specs.CcRulesFlows.declared.after.Here.{Here}
use Rattle.cc_state_points.specs.CcRulesFlows.Flows.{tests_of}
use Rattle.cc_state_points.specs.CcRulesFlows.View.{act_view}
use Rattle.cc_state_points.specs.CcStateOperators.Domains.{Domain}

pub tests_none : (a : CodeAct) (n : ℕ) (next : List ℕ) → ((e : Bor Expr) (these those : Bor (List Stmt)) → a ≡ act.Tests e these those → ⊥) → ((e : Bor Expr) (cases : Bor (List Case)) → a ≡ act.Chooses e cases → ⊥) →
    tests_of n next (act_view a) ≡ None
tests_none (act.Tests e these those) n next no_if no_switch = absurd (no_if e these those refl)
tests_none (act.Chooses e cases) n next no_if no_switch = absurd (no_switch e cases refl)
tests_none _ n next no_if no_switch = refl

-- what holds whatever there is
pub always : {A E : Type 0} (r : Result A E) (P : Type 0) → P → IfOk r (λ x. P)
always (Ok x) P p = p
always (Err e) P p = tt

pub none_worked : {I A E : Type 0} (d : Domain I) (here : Here I) (a : Act) (r : Result A E) → tests_of here.number here.point.now.next a ≡ None → IfOk r (λ list. AreTestsWorkedHere d here a)
none_worked d here a r none = always r _ (λ e tests is t there. absurd (none-some _ (sym none ∙ is)))
