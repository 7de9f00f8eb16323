use Rattle.std.proofs.Common.{map, map-id, sym, ap, ◌∙◌}
use Rattle.std.proofs.lemmas.Iterator.Adapters.{YieldsList-from_vec}
use Rattle.std.proofs.lemmas.Iterator.Consumers.{YieldsList-end}
use Rattle.cc_rules_nexts.specs.Told.{point_told}
use Rattle.cc_rules_nexts.proofs.passing.points_told.Goals as goal

pub returns : goal.returns
returns g c =
    let k = c.into_iter-number-iterator.ensures in
    let end = YieldsList-end (YieldsList-from_vec {s = c.into_iter-number-iterator.result} c.args.told.items k.into_iter_gives.0 (k.into_iter_gives.1 ∙ c.args.told.ok.0)) c.loop-number.yielded c.loop-number.number-iterator c.loop-number.yielded_by c.next.result c.next.new.self c.in-None.is c.next.ensures.steps in
    c.loop-number.invariant ∙ ap (map (point_told c.args.registers)) (sym (map-id c.loop-number.yielded) ∙ end.0)
