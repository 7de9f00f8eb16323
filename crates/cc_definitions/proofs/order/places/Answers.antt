use Rattle.std.proofs.Common.{◌+◌, ap}
use Rattle.cc_definitions.proofs.Numbered.{places_more, places_end}
use Rattle.cc_definitions.proofs.order.places.Goals as goal

pub loop-t-preserved : goal.loop-t-preserved
loop-t-preserved c = record {
  at = ap (λ n. n + 1) c.loop-t.invariant.at;
  done = places_more c.args.things.now c.loop-t.t-index c.loop-t.number c.t-item.result c.place_of.result c.loop-t.places.items c.put_place.new.places.items c.loop-t-test.true c.t-item.is c.loop-t.invariant.at c.place_of.ensures c.loop-t.invariant.done c.in_ok-put_place.ensures;
}

pub returns : goal.returns
returns c = places_end c.args.things.now c.loop-t.t-index c.loop-t.places.items c.loop-t.auto.t-index-end c.loop-t-test.false c.loop-t.invariant.done
