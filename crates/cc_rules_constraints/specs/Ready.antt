-- A point that is reached, with all that the code of the rules wants of it, of the act of its statement, and of what is made once of the program.
use Rattle.std.specs.Prelude.{◌≡◌, ◌<◌, ◌^◌, ℕ, All, length, Some, slice_get}
use Rattle.cc_rules_asked.specs.Asks.{ArePureHere}
use Rattle.cc_rules_calls.specs.Backs.{gets, MayGetHere}
use Rattle.cc_rules_calls.specs.Here.{MayCallHere}
use Rattle.cc_rules_asked.specs.CcRulesFlows.Acts.{Act}
use Rattle.cc_rules_asked.specs.CcRulesFlows.declared.after.Here.{Here}
use Rattle.cc_rules_asked.specs.CcRulesFlows.Here.{IsHere, MayDo}
use Rattle.cc_rules_asked.specs.CcRulesFlows.Nexts.{IsPoint}
use Rattle.cc_rules_functions.specs.declared.functions.Function.{Function}
use Rattle.cc_rules_made.specs.declared.rules.Rules.{Rules}
use Rattle.cc_rules_made.specs.Rules.{AreOf}
use Rattle.cc_rules_onward.specs.Fits.{FitTests}
use Rattle.cc_rules_grow.specs.CcState.Shape.{HaveShape}
use Rattle.cc_rules_asked.specs.CcStateOperators.Domains.{Domain}

pub record IsReady {I : Type 0} (d : Domain I) (rules : Rules) (here : Here I) (act : Act) : Type 0 where
  pub shape : HaveShape d here.context.program.now here.facts.now
  pub point : IsPoint here.context.program.now here.number here.context.id here.context.func.now here.point.now
  pub is : IsHere d here
  pub made : AreOf here.context.program.now rules
  pub pure : ArePureHere d here act
  pub may : MayDo d here act
  pub tests : FitTests d here act
  pub calls : MayCallHere d here act
  pub results : (h : ℕ) (f : Function) → slice_get rules.functions h ≡ Some f → MayGetHere d here (gets act) h f
  pub few_keys : length here.facts.now.keys < 2 ^ 32
  pub few_locals : All (λ f. length f.locals < 2 ^ 32) here.context.program.now.funcs
