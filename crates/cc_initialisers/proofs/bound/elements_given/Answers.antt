use Rattle.std.proofs.Common.{arith, ◌<◌, length, map, ap}
use Rattle.cc_initialisers.specs.Initialisers.{Filled, here}
use Rattle.cc_initialisers.specs.View.{content_view}
use Rattle.cc_initialisers.proofs.Started.{elements-next}
use Rattle.cc_initialisers.proofs.bound.elements_given.Goals as goal

pub loop-n-preserved : goal.loop-n-preserved
loop-n-preserved c =
    let some : 0 < length c.loop-n.rest.now = grind (arith, c.is_empty.ensures, c.if-is_empty.false) in
    elements-next (content_view c.args.of) (length c.args.gs.now) c.loop-n.n c.loop-n.rest.now (map here c.in_ok-rest.rest.now) _ c.loop-n-test.true some
    (ap (λ (f : Filled). f.1) c.in_ok-rest.ensures.filled) c.loop-n.invariant
