-- One case after the other.
use Rattle.std.proofs.Common.{arith, ◌++◌, ap, ◌∙◌}
use Rattle.std.proofs.lemmas.List.{take_all}
use Rattle.cc_rules_choices.proofs.ChoiceLemmas.{cases_on}
use Rattle.cc_rules_flows.specs.Nexts.{all_constants, constants}
use Rattle.cc_rules_choices.proofs.choices.all_constants.Goals as goal

pub loop-case-preserved : goal.loop-case-preserved
loop-case-preserved c =
    cases_on c.loop-case.all.items c.put_constants.new.all.items c.args.cases.now c.loop-case.case-index c.case-item.result c.loop-case-test.true c.case-item.is c.loop-case.invariant
    (c.in_ok-put_constants.ensures ∙ ap (λ ls. c.loop-case.all.items ++ constants ls) c.all.ensures)

pub returns : goal.returns
returns c = c.loop-case.invariant ∙ ap all_constants (take_all c.loop-case.case-index c.args.cases.now (omega (arith, c.loop-case-test.false)))
