-- One label after the other.
use Rattle.std.proofs.Common.{arith, ◌++◌, None, ap, ◌∙◌}
use Rattle.std.proofs.lemmas.List.{take_all}
use Rattle.cc_rules_choices.proofs.ChoiceLemmas.{constants_on}
use Rattle.cc_rules_flows.specs.Nexts.{constants}
use Rattle.cc_rules_choices.proofs.choices.put_constants.Goals as goal

pub loop-label-preserved : goal.loop-label-preserved
loop-label-preserved c =
    constants_on c.args.all.now.items c.loop-label.all.items c.put_constant.new.all.items c.args.labels.now c.loop-label.label-index None c.loop-label-test.true c.loop-label.invariant c.in_ok-put_constant.ensures

pub returns : goal.returns
returns c = c.loop-label.invariant ∙ ap (λ ls. c.args.all.now.items ++ constants ls) (take_all c.loop-label.label-index c.args.labels.now (omega (arith, c.loop-label-test.false)))
