use Rattle.std.proofs.Common.{arith, map, ap, ◌∙◌}
use Rattle.std.proofs.lemmas.List.{take_all}
use Rattle.cc_rules_raised.proofs.KindsAt.{map_one}
use Rattle.cc_rules_raised.proofs.completed.kinds_of_locals.Goals as goal
use Rattle.cc_rules_raised.specs.OfAddresses.{local_addresses}

pub loop-local-preserved : goal.loop-local-preserved
loop-local-preserved c =
    map_one (local_addresses c.args.f.now) c.args.locals.now c.loop-local.local-index _ c.loop-local.kinds.items _ c.is_address.result c.loop-local-test.true c.in_ok-push.ensures.items c.loop-local.invariant c.is_address.ensures

pub returns : goal.returns
returns c = c.loop-local.invariant ∙ ap (map (local_addresses c.args.f.now)) (take_all c.loop-local.local-index c.args.locals.now (omega arith))
