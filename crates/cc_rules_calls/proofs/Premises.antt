-- What calls ask, at a point of a program in normal form, of facts of its shape.
use Rattle.std.proofs.Common.{◌≡◌, ℕ, List, Option, Some, None, refl, slice_get}
use Rattle.cc_program.specs.declared.stmt.Stmt.{Stmt}
use Rattle.cc_rules_asked.specs.CcRules.Rules.{act_at}
use Rattle.cc_rules_calls.proofs.Callees.{called_at}
use Rattle.cc_rules_calls.proofs.InRange.{may_call}
use Rattle.cc_rules_calls.proofs.Results.{may_get}
use Rattle.cc_rules_calls.specs.Backs.{gets, MayGetHere}
use Rattle.cc_rules_calls.specs.Here.{MayCallHere}
use Rattle.cc_state_points.specs.CcRulesFlows.declared.after.Here.{Here}
use Rattle.cc_state_points.specs.CcRulesFlows.Here.{IsHere}
use Rattle.cc_state_points.specs.CcRulesFlows.Nexts.{IsPoint, statement_of}
use Rattle.cc_rules_functions.specs.declared.functions.Function.{Function}
use Rattle.cc_rules_functions.specs.Functions.{AreFunctionsOf}
use Rattle.cc_state_points.specs.CcState.Shape.{HaveShape}
use Rattle.cc_state_points.specs.CcStateOperators.Domains.{Domain}
use Rattle.cc_state_points.proofs.Acting.{operands_at}
use Rattle.cc_state_points.specs.CcSyntax.Normal.{IsNormal}

module _ {I : Type 0} (d : Domain I) (here : Here I) (normal : IsNormal here.context.program.now) (shape : HaveShape d here.context.program.now here.facts.now)
    (is : IsPoint here.context.program.now here.number here.context.id here.context.func.now here.point.now) where
  calls_by : (o : Option Stmt) → statement_of here.context.func.now here.point.now ≡ o → IsHere d here → MayCallHere d here (act_at o here.context.func.now)
  calls_by None e h = tt
  calls_by (Some s) e h =
      may_call d here shape h is (act_at (Some s) here.context.func.now)
      (operands_at here.context.program.now normal here.context.id here.context.func.now is.function here.point.now.path s e)
      (called_at here.context.program.now normal here.context.id here.context.func.now is.function here.point.now.path s e)

  pub calls_here : IsHere d here → MayCallHere d here (act_at (statement_of here.context.func.now here.point.now) here.context.func.now)
  calls_here h = calls_by (statement_of here.context.func.now here.point.now) refl h

  gets_by : (functions : List Function) (o : Option Stmt) → statement_of here.context.func.now here.point.now ≡ o → AreFunctionsOf here.context.program.now functions → (h : ℕ) (f : Function) → slice_get functions h ≡ Some f →
      MayGetHere d here (gets (act_at o here.context.func.now)) h f
  gets_by functions None e are h f at = tt
  gets_by functions (Some s) e are h f at =
      may_get d here normal shape functions are h f at (act_at (Some s) here.context.func.now)
      (operands_at here.context.program.now normal here.context.id here.context.func.now is.function here.point.now.path s e)

  pub gets_here : (functions : List Function) → AreFunctionsOf here.context.program.now functions → (h : ℕ) (f : Function) → slice_get functions h ≡ Some f →
      MayGetHere d here (gets (act_at (statement_of here.context.func.now here.point.now) here.context.func.now)) h f
  gets_here functions are h f at = gets_by functions (statement_of here.context.func.now here.point.now) refl are h f at
