-- One label after the other.
use Rattle.std.proofs.Common.{arith, ◌++◌, None, map, ap, ◌∙◌}
use Rattle.std.proofs.lemmas.List.{take_all}
use Rattle.cc_rules_choices.proofs.ChoiceLemmas.{label_choice, labels_on}
use Rattle.cc_rules_choices.specs.Choices.{choices_of}
use Rattle.cc_rules_choices.proofs.choices.put_labels.Goals as goal

pub loop-label-preserved : goal.loop-label-preserved
loop-label-preserved c =
    labels_on c.args.constants.now c.args.point c.args.all.now.items c.loop-label.all.items c.push.new.self.items c.args.labels.now c.loop-label.label-index None c.label_test-test.result
    c.loop-label-test.true c.loop-label.invariant c.label_test-test.ensures c.in_ok-push.ensures.items

pub returns : goal.returns
returns c =
    c.loop-label.invariant
    ∙ ap (λ ls. choices_of c.args.all.now.items ++ map (label_choice c.args.constants.now c.args.point) ls) (take_all c.loop-label.label-index c.args.labels.now (omega (arith, c.loop-label-test.false)))
