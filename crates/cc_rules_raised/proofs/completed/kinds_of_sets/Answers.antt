use Rattle.std.proofs.Common.{arith, map, ap, ◌∙◌}
use Rattle.std.proofs.lemmas.List.{take_all}
use Rattle.cc_rules_raised.proofs.KindsAt.{map_one}
use Rattle.cc_rules_raised.proofs.completed.kinds_of_sets.Goals as goal
use Rattle.cc_rules_raised.specs.OfAddresses.{is_set_of_addresses}

pub loop-set-preserved : goal.loop-set-preserved
loop-set-preserved g c =
    map_one is_set_of_addresses c.args.sets.now c.loop-set.set-index c.set-item.result c.loop-set.kinds.items _ c.is_of_addresses.result c.loop-set-test.true c.in_ok-push.ensures.items c.loop-set.invariant
    (c.is_of_addresses.ensures ∙ ap is_set_of_addresses (c.get.ensures ∙ c.set-item.is))

pub returns : goal.returns
returns g c = c.loop-set.invariant ∙ ap (map is_set_of_addresses) (take_all c.loop-set.set-index c.args.sets.now (omega arith))
