-- What is asked of a statement that tests, so that what it lets flow can be worked.
use Rattle.cc_rules_choices.specs.Choices.{FitsIf, FitsSwitch}
use Rattle.cc_rules_choices.specs.Sided.{MayTest}
use Rattle.cc_state_points.specs.CcRulesFlows.Acts.{Act, Tests, Chooses}
use Rattle.cc_state_points.specs.CcRulesFlows.declared.after.Here.{Here}
use Rattle.cc_state_points.specs.CcStateOperators.Domains.{Domain}

-- nothing of the others
abbrev pub FitTests : {I : Type 0} → Domain I → Here I → Act → Type 0
FitTests d here (Tests e these those) = MayTest d here e × FitsIf d here these those
FitTests d here (Chooses e cases) = MayTest d here e × FitsSwitch d here cases
FitTests d here _ = Unit {0}
