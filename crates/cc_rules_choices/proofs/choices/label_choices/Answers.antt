-- One case after the other.
use Rattle.std.proofs.Common.{◌<◌, arith, length}
use Rattle.cc_rules_choices.proofs.ChoiceLemmas.{tests_all, tests_on}
use Rattle.cc_rules_choices.proofs.choices.label_choices.Goals as goal

pub loop-at-preserved : goal.loop-at-preserved
loop-at-preserved c =
    let i = c.loop-at.at in
    let there = c.loop-at-test.true in
    let each = c.requires in
    let start : i < length c.args.starts.now = omega (arith, there, each) in
    tests_on c.args.constants.now c.loop-at.all.items c.put_labels.new.all.items c.args.cases.now c.args.starts.now i c.index-cases-at.result 0 c.all.result.now
    there start c.index-cases-at.is c.all.ensures c.loop-at.invariant c.in_ok-put_labels.ensures

pub returns : goal.returns
returns c = tests_all c.args.constants.now c.loop-at.all.items c.args.cases.now c.args.starts.now c.loop-at.at (omega (arith, c.loop-at-test.false)) c.loop-at.invariant
