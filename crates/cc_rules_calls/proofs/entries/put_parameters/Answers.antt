use Rattle.std.proofs.Common.{arith, ◌++◌, ap, ◌∙◌}
use Rattle.std.proofs.lemmas.List.{take_all}
use Rattle.cc_rules_calls.specs.Here.{part_whole, parts_whole}
use Rattle.cc_rules_calls.proofs.Parameters.{parts_on}
use Rattle.cc_rules_calls.proofs.entries.put_parameters.Goals as goal

pub loop-r-preserved : goal.loop-r-preserved
loop-r-preserved g c =
    parts_on c.args.p.now c.args.function c.args.sets.now c.loop-r.r c.index-sets-r.result c.args.asked.now.items c.loop-r.asked.items c.put_whole.new.asked.items c.parameter_key-number.result
    c.loop-r-test.true c.index-sets-r.is c.loop-r.invariant c.parameter_key-number.ensures
    (c.in_ok-put_whole.ensures ∙ ap (λ x. c.loop-r.asked.items ++ part_whole c.parameter_key-number.result x) c.get.ensures)

pub returns : goal.returns
returns g c = c.loop-r.invariant ∙ ap (λ sets. c.args.asked.now.items ++ parts_whole c.args.p.now c.args.function 0 sets) (take_all c.loop-r.r c.args.sets.now (omega arith))
